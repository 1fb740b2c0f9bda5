-- The set of the ids of fates.
use Rattle.std.proofs.Common.{◌≡◌, ◌≢◌, ℕ, Bool, true, false, not, eqb, List, [], ◌∷◌, ◌↔◌, IsTrue, refl, sym, ◌∙◌, inl, inr}
use Rattle.std.specs.List.{All, list_any}
use Rattle.std.proofs.lemmas.List.Elements.{All-nil, All-cons, All-head, All-tail}
use Rattle.std.proofs.lemmas.Bool.{cases_Bool, false≢true, eqb-true, eq-eqb}
use Rattle.sd_config.specs.declared.events.Fate.{Fate}

-- whether a fate has the id
abbrev pub has_id : ℕ → List Fate → Bool
has_id id fates = list_any (λ (fate : Fate). eqb fate.id id) fates

abbrev pub AllApart : ℕ → List Fate → Type 0
AllApart id fates = All (λ (other : Fate). other.id ≢ id) fates

apart : (id : ℕ) (fates : List Fate) → has_id id fates ≡ false → AllApart id fates
apart id [] e = All-nil (λ (other : Fate). other.id ≢ id)
apart id (f ∷ fates) e = elim (cases_Bool (eqb f.id id)) [
  | inl same ↦ absurd (false≢true (sym (rw same at e)))
  | inr other ↦
      let rest : has_id id fates ≡ false = rw other at e in
      All-cons (λ (other : Fate). other.id ≢ id) f fates (λ is. false≢true (sym other ∙ eq-eqb _ _ is)) (apart id fates rest)
]

none : (id : ℕ) (fates : List Fate) → AllApart id fates → has_id id fates ≡ false
none id [] h = refl
none id (f ∷ fates) h = elim (cases_Bool (eqb f.id id)) [
  | inl same ↦ absurd (All-head (λ (other : Fate). other.id ≢ id) f fates h (eqb-true _ _ same))
  | inr other ↦ rw other (none id fates (All-tail (λ (other : Fate). other.id ≢ id) f fates h))
]

told : (b : Bool) (id : ℕ) (fates : List Fate) → b ≡ has_id id fates → IsTrue (not b) ↔ AllApart id fates
told true id fates e = (λ t. absurd (false≢true t), λ h. absurd (false≢true (sym (none id fates h) ∙ sym e)))
told false id fates e = (λ t. apart id fates (sym e), λ h. refl)

pub may_add_told : (b : Bool) (P : Type 0) (id : ℕ) (fates : List Fate) → P → b ≡ has_id id fates → IsTrue (not b) ↔ (P × AllApart id fates)
may_add_told b P id fates p e = (λ t. (p, (told b id fates e).0 t), λ h. (told b id fates e).1 h.1)
