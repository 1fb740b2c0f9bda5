use Rattle.std.proofs.Common.{length, sym, ◌∙◌}
use Rattle.std.proofs.lemmas.Bool.{false≢true}
use Rattle.std.proofs.lemmas.Result.{err_from_is_err_and}
use Rattle.sd_config.specs.Config.{boot_file_limit}
use Rattle.sd_text.specs.Runs.{IsRunsWithin}
use Rattle.sd_script.specs.Lines.{HasRoom}
use Rattle.sd_text.proofs.Exits.{handed_on, firsts, others}
use Rattle.sd_text.proofs.ItemLemmas.{one_runs}
use Rattle.sd_script.proofs.lines.files.tftp_line.Goals as goal

pub returns-in_err-bytes : goal.returns-in_err-bytes
returns-in_err-bytes c =
    let p = err_from_is_err_and c.from_residual-in_err-bytes.result c.from_residual-in_err-bytes.ensures.1 in
    let name = (c.in_ok-name.ensures) in
    rw (p.1, p.2) (handed_on c.in_err-bytes.field-0.0 c.in_err-bytes.ensures
    (λ none other h. none h.bytes _ h.file.bytes (others (sym name.0 ∙ h.text)) h.runs))

pub returns-then-not-has_room : goal.returns-then-not-has_room
returns-then-not-has_room c = λ other h.
    let name = (c.in_ok-name.ensures) in
    let bytes = (c.in_ok-bytes.ensures) in
    let here : IsRunsWithin boot_file_limit h.bytes c.in_ok-bytes.bytes = rw (firsts (sym bytes.1 ∙ others (sym name.0 ∙ h.text))) at bytes.2 in
    let same = one_runs h.bytes h.file.bytes c.in_ok-bytes.bytes h.runs.is here.is in
    let room : HasRoom c.args.draft.now (length c.in_ok-bytes.bytes) = rw same at h.room in
    false≢true ((c.if-not-has_room.ensures).1 (rw c.as_slice-2.ensures room))
