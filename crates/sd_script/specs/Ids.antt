-- The ids of fates, as a set.
use Rattle.std.specs.Prelude.{◌≡◌, ℕ, ◌==◌, List}
use Rattle.std.specs.List.{list_any}
use Rattle.std.specs.Ordering.{nat_cmp}
use Rattle.std.specs.BTreeSet.{BTreeSet, contains}
use Rattle.sd_config.specs.declared.events.Fate.{Fate}

-- the set has an id exactly where a fate has it
abbrev pub AreIds : BTreeSet ℕ → List Fate → Type 0
AreIds ids fates = (id : ℕ) → contains nat_cmp ids id ≡ list_any (λ (fate : Fate). fate.id == id) fates
