-- Whether the next line may be of a kind.
use Rattle.std.proofs.Common.{◌≡◌, ℕ, zero, suc, refl, sym, ap, ◌∙◌}
use Rattle.std.proofs.lemmas.Bool.{cases_eq}
use Rattle.sd_script.specs.declared.draft.Section.{Section}
use Rattle.sd_script.specs.declared.draft.Section.TheVariants as sections
use Rattle.sd_script.specs.Lines.{MayBeEvent, MayBeCommand}
use Rattle.sd_script.specs.Grammar.{IsWhole}
use Rattle.sd_text.proofs.Deciding.{Settled, either, as_well}

rank : Section → ℕ
rank sections.Life = 0
rank sections.Tries = 1
rank sections.Wait = 2
rank sections.Pages = 3
rank sections.Server = 4
rank sections.Client = 5
rank sections.Config = 6
rank sections.Events = 7
rank sections.Commands = 8

section_at : ℕ → Section
section_at zero = sections.Life
section_at (suc zero) = sections.Tries
section_at (suc (suc zero)) = sections.Wait
section_at (suc (suc (suc zero))) = sections.Pages
section_at (suc (suc (suc (suc zero)))) = sections.Server
section_at (suc (suc (suc (suc (suc zero))))) = sections.Client
section_at (suc (suc (suc (suc (suc (suc zero)))))) = sections.Config
section_at (suc (suc (suc (suc (suc (suc (suc zero))))))) = sections.Events
section_at (suc (suc (suc (suc (suc (suc (suc (suc n)))))))) = sections.Commands

rank_back : (s : Section) → section_at (rank s) ≡ s
unfolding rank section_at
rank_back sections.Life = refl
rank_back sections.Tries = refl
rank_back sections.Wait = refl
rank_back sections.Pages = refl
rank_back sections.Server = refl
rank_back sections.Client = refl
rank_back sections.Config = refl
rank_back sections.Events = refl
rank_back sections.Commands = refl

pub section_settled : (s t : Section) → Settled (s ≡ t)
section_settled s t = as_well (λ e. sym (rank_back s) ∙ ap section_at e ∙ rank_back t) (λ e. ap rank e) (cases_eq (rank s) (rank t))

pub event_settled : (s : Section) → Settled (MayBeEvent s)
event_settled s = either (section_settled s sections.Config) (section_settled s sections.Events)

pub command_settled : (s : Section) → Settled (MayBeCommand s)
command_settled s = either (section_settled s sections.Config) (either (section_settled s sections.Events) (section_settled s sections.Commands))

pub whole_settled : (s : Section) → Settled (IsWhole s)
whole_settled s = command_settled s
