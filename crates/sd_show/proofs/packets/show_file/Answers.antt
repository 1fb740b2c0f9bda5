use Rattle.std.proofs.Common.{◌++◌, ap, ◌∙◌, append_assoc, codes}
use Rattle.sd_text.specs.Texts.{Text}
use Rattle.sd_text.specs.Grammar.{writes}
use Rattle.sd_show.specs.Lines.{file, file_value, carries_file}
use Rattle.sd_show.proofs.BodiesShown.{behind_head}
use Rattle.sd_show.proofs.packets.show_file.Goals as goal

pub returns-clause-shows : goal.returns-clause-shows
unfolding writes
returns-clause-shows c =
    let p = c.in_ok-packet.packet in
    let text = writes file (file_value p) in
    let head = c.in_ok-writer.writer in
    record {
      p = p;
      port = c.requires;
      spells = c.in_ok-packet.ensures.answers;
      means = c.finish.ensures ∙ behind_head c.args.src c.args.dst head c.push_file.new.writer (carries_file p) c.in_ok-writer.ensures
          (c.in_ok-push_file.ensures ∙ ap (λ (t : Text). t ++ text) c.in_ok-said.ensures ∙ append_assoc head (codes "tftp ") text);
    }
