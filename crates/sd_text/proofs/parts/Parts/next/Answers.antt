use Rattle.std.proofs.Common.{◌+◌, sym}
use Rattle.std.proofs.lemmas.List.{take_rest}
use Rattle.sd_text.proofs.CutLemmas.{cut_at, cut_none}
use Rattle.sd_text.proofs.parts.Parts.next.Goals as goal

pub returns-in-Some : goal.returns-in-Some
returns-in-Some c =
    let p = c.self.inside in
    rw (← c.self.view_is, c.if-not-self.false, take_rest p.rest.now (c.in-Some.at + 1)) (cut_at p.separator p.rest.now c.in-Some.at (sym (c.in-Some.ensures)))

pub returns-in-None : goal.returns-in-None
returns-in-None c =
    let p = c.self.inside in
    rw (← c.self.view_is, c.if-not-self.false) (cut_none p.separator p.rest.now (sym (c.in-None.ensures)))
