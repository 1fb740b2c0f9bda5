use Rattle.std.proofs.Common.{◌↔◌, List, ℕ, IsTrue, subst}
use Rattle.std.specs.Prelude.{Contains}
use Rattle.sd_link.specs.MemLinks.{MemLinkView, IsPlanned}
use Rattle.sd_link.proofs.mem_link.MemLink.is_planned.Goals as goal

pub returns : goal.returns
returns c =
    let among : IsTrue c.is_among.result ↔ Contains c.self.inside.fail.items c.self.inside.calls =
    subst (λ (numbers : List ℕ). IsTrue c.is_among.result ↔ Contains numbers c.self.inside.calls) c.as_slice.ensures.value c.is_among.ensures in
    subst (λ (link : MemLinkView). IsTrue c.is_among.result ↔ IsPlanned link) c.self.view_is among
