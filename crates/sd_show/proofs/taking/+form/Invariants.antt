use Rattle.std.proofs.Common.{◌≡◌, ◌-◌}
use Rattle.sd_show.specs.Forms.{text_kind, form_kind, longest}
use Rattle.sd_show.specs.Packing.{form_of, packs_more}
use Rattle.sd_show.proofs.taking.+form.Given as goal

-- what was packed and what is still packed is all
abbrev pub invariant-take_more-taking : goal.invariant-take_more-taking
invariant-take_more-taking l = packs_more (text_kind (form_of l.item)) (form_kind (form_of l.item)) (longest - l.counter) l.writer l.reader ≡ packs_more (text_kind (form_of l.item)) (form_kind (form_of l.item)) longest l.fn.writer l.fn.reader
