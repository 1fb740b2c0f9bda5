-- Packets whose life is over aren't due.
use Rattle.std.proofs.Common.{◌≡◌, ℕ, zero, suc, ◌+◌, ◌≤◌, Bool, true, false, cond, List, [], ◌∷◌, ◌++◌, take, map, ◌==◌, refl, ◌∙◌, ap, arith}
use Rattle.std.specs.List.{AllWithin, AllByRecursion, filter}
use Rattle.sd_outside.specs.declared.packet.Packet.{Packet}
use Rattle.sd_config.specs.Events.{Fates}
use Rattle.sd_link.specs.World.{Sender}
use Rattle.sd_link.specs.Lawful.{due}
use Rattle.sd_segment.specs.declared.flown.Flown.{Flown}
use Rattle.sd_segment.specs.Flight.{flying_of, copies}
use Rattle.sd_segment.proofs.Fates.{AllTimely, IsTimely}
use Rattle.sd_segment.proofs.Dues.{due_from}

-- what holds of each of the first so many holds of all of them
pub first_all : {A : Type 0} (P : A → Type 0) (n : ℕ) (xs : List A) → AllWithin P xs 0 n → AllByRecursion P (take n xs)
first_all P zero xs all = tt
first_all P (suc n) [] all = tt
first_all P (suc n) (x ∷ xs) all = (all 0 x (omega arith) (omega arith), first_all P n xs (λ k d low lt. all (suc k) d (omega arith) (omega (arith, lt))))

no_copies : (id sent tick life : ℕ) (delays : List ℕ) → AllTimely life delays → sent + life ≤ tick → copies id sent tick delays ≡ []
no_copies id sent tick life [] all old = refl
no_copies id sent tick life (d ∷ ds) all old =
    let early : (sent + d == tick) ≡ false = grind (arith, all.0.1, old) in
    ap (λ (b : Bool). map (λ (e : ℕ). id) (cond b (d ∷ filter (λ e. sent + e == tick) ds) (filter (λ e. sent + e == tick) ds))) early ∙ no_copies id sent tick life ds all.1 old

none_from : (goes : Sender → Packet → Bool) (life id : ℕ) (fates : Fates) (flight : List Flown) (tick : ℕ) → IsTimely life fates → AllByRecursion (λ (f : Flown). f.tick + life ≤ tick) flight
    → due_from goes fates id (map flying_of flight) tick ≡ []
none_from goes life id fates [] tick t old = refl
none_from goes life id fates (f ∷ fs) tick t old =
    let x = flying_of f in
    ap (λ (l : List ℕ). l ++ due_from goes fates (id + 1) (map flying_of fs) tick) (of (goes x.from x.packet)) ∙ none_from goes life (id + 1) fates fs tick t old.1
  where
    of : (b : Bool) → cond b (copies id f.tick tick (fates id)) [] ≡ []
    of true = no_copies id f.tick tick life (fates id) (t.delays id) old.0
    of false = refl

pub none_outlived : (goes : Sender → Packet → Bool) (life : ℕ) (fates : Fates) (flight : List Flown) (tick : ℕ) → IsTimely life fates → AllByRecursion (λ (f : Flown). f.tick + life ≤ tick) flight
    → due goes fates (map flying_of flight) tick ≡ []
none_outlived goes life fates flight tick t old = none_from goes life 0 fates flight tick t old
