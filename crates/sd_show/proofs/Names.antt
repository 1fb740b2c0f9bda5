-- Looking through the procedures that are known by name.
use Rattle.std.proofs.Common.{◌≡◌, ℕ, ◌+◌, ◌<◌, ◌≤◌, List, length, get_or, sym, ap, subst, ◌∙◌, arith, inl, inr}
use Rattle.std.proofs.lemmas.Bool.{cases_eq}
use Rattle.sd_show.specs.declared.procedures.Known.{Known}
use Rattle.sd_show.specs.declared.procedures.Known.TheVariants as known
use Rattle.sd_show.specs.Programs.{all_known}
use Rattle.sd_show.specs.Lines.{place}
use Rattle.sd_show.proofs.Knowing.{stands, place_below}

-- P holds of none before a place
abbrev pub NoneBefore : (Known → Type 0) → List Known → ℕ → Type 0
NoneBefore P these at = (i : ℕ) → i < at → P (get_or these i known.PmapNull) → ⊥

pub none_begins : (P : Known → Type 0) (these : List Known) → NoneBefore P these 0
none_begins P these i lt h = omega (arith, lt)

pub none_goes_on : (P : Known → Type 0) (these : List Known) (at : ℕ) → NoneBefore P these at → (P (get_or these at known.PmapNull) → ⊥) → NoneBefore P these (at + 1)
none_goes_on P these at before here i lt h = elim (cases_eq i at) [
  | inl same ↦ here (subst (λ (n : ℕ). P (get_or these n known.PmapNull)) same h)
  | inr other ↦ before i (omega (arith, lt, other)) h
]

pub none_ends : (P : Known → Type 0) (these : List Known) (at : ℕ) → these ≡ all_known → length these ≤ at → NoneBefore P these at → (k : Known) → P k → ⊥
none_ends P these at e past before k h =
    let here : get_or these (place k) known.PmapNull ≡ k = ap (λ (l : List Known). get_or l (place k) known.PmapNull) e ∙ (stands k).back in
    let many : length these ≡ 31 = ap length e in
    before (place k) (omega (arith, past, place_below k, many)) (subst P (sym here) h)
