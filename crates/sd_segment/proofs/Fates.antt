-- The fates of packets, by their ids.
use Rattle.std.proofs.Common.{◌≡◌, ℕ, zero, suc, ◌+◌, ◌-◌, ◌<◌, ◌≤◌, Bool, true, false, cond, List, [], ◌∷◌, ◌++◌, length, get_or, drop, ◌==◌, Option, Some, refl, sym, ◌∙◌, ap, arith, eq-eqb}
use Rattle.std.specs.BTreeMap.{BTreeMap, get, is_at}
use Rattle.std.specs.Prelude.{nat_lt}
use Rattle.std.specs.Ordering.{nat_cmp, is_eq}
use Rattle.std.specs.declared.cmp.Ordering.TheVariants.{Less, Equal, Greater}
use Rattle.std.specs.List.{All, AllByRecursion}
use Rattle.sd_config.specs.declared.events.Fate.{Fate}
use Rattle.sd_config.specs.Config.{IsWithin}
use Rattle.sd_config.specs.Events.{Fates, fate_in, IsFate}
use Rattle.sd_config.proofs.Lists.{all_recursive}
use Rattle.sd_segment.specs.declared.flown.Flown.{Flown}
use Rattle.sd_segment.specs.Flight.{delays_of, AllFated}

-- ---- the first fate with an id

fate_here : (fates : List Fate) (n id : ℕ) (f : Fate) → n < length fates → (get_or fates n f).id ≡ id → delays_of fates (Some n) ≡ fate_in (drop n fates) id
fate_here [] n id f lt is = absurd (omega arith)
fate_here (g ∷ gs) zero id f lt is = ap (λ (b : Bool). cond b g.delays (fate_in gs id)) (sym (eq-eqb g.id id is))
fate_here (g ∷ gs) (suc n) id f lt is = fate_here gs n id f (omega arith) is

fate_there : (fates : List Fate) (n id : ℕ) (f : Fate) → n < length fates → ((get_or fates n f).id == id) ≡ false → fate_in (drop (suc n) fates) id ≡ fate_in (drop n fates) id
fate_there [] n id f lt other = absurd (omega arith)
fate_there (g ∷ gs) zero id f lt other = sym (ap (λ (b : Bool). cond b g.delays (fate_in gs id)) other)
fate_there (g ∷ gs) (suc n) id f lt other = fate_there gs n id f (omega arith) other

same_key : (a b : ℕ) → is_at (nat_cmp a) b ≡ (a == b)
same_key a b = of (nat_lt a b) (a == b) (λ l e. grind (arith, l, e))
  where
    of : (lt eq : Bool) → (lt ≡ true → eq ≡ true → ⊥) → is_eq (cond lt Less (cond eq Equal Greater)) ≡ eq
    of true true not_both = absurd (not_both refl refl)
    of true false not_both = refl
    of false true not_both = refl
    of false false not_both = refl

-- a line before those whose places are known
pub fate_more : (fates : List Fate) (n left : ℕ) (f : Fate) (old new : BTreeMap ℕ ℕ) → left ≡ suc n → n < length fates → ((q : ℕ) → get nat_cmp new q ≡ cond (is_at (nat_cmp (get_or fates n f).id) q) (Some n) (get nat_cmp old q))
    → ((id : ℕ) → delays_of fates (get nat_cmp old id) ≡ fate_in (drop left fates) id) → (id : ℕ) → delays_of fates (get nat_cmp new id) ≡ fate_in (drop n fates) id
fate_more fates n left f old new is lt puts known id = of ((get_or fates n f).id == id) refl
  where
    of : (b : Bool) → ((get_or fates n f).id == id) ≡ b → delays_of fates (get nat_cmp new id) ≡ fate_in (drop n fates) id
    of true same =
        ap (λ (o : Option ℕ). delays_of fates o) (puts id ∙ ap (λ (b : Bool). cond b (Some n) (get nat_cmp old id)) (same_key (get_or fates n f).id id ∙ same))
        ∙ fate_here fates n id f lt (grind (arith, same))
    of false other =
        ap (λ (o : Option ℕ). delays_of fates o) (puts id ∙ ap (λ (b : Bool). cond b (Some n) (get nat_cmp old id)) (same_key (get_or fates n f).id id ∙ other))
        ∙ known id
        ∙ ap (λ (m : ℕ). fate_in (drop m fates) id) is
        ∙ fate_there fates n id f lt other

-- no line stands after the last
pub none_after : (fates : List Fate) (id : ℕ) → fate_in (drop (length fates) fates) id ≡ 1 ∷ []
none_after [] id = refl
none_after (f ∷ fs) id = none_after fs id

-- ---- packets with their fates

pub fated-at : (fates : List Fate) (id : ℕ) (flight : List Flown) (i : ℕ) (f : Flown) → AllFated fates id flight → i < length flight → f ≡ get_or flight i f → delays_of fates f.fate ≡ fate_in fates (id + i)
fated-at fates id [] i f all lt at = absurd (omega arith)
fated-at fates id (g ∷ gs) zero f all lt at =
    let here : id ≡ id + 0 = omega arith in
    ap (λ (x : Flown). delays_of fates x.fate) at ∙ all.0 ∙ ap (λ (n : ℕ). fate_in fates n) here
fated-at fates id (g ∷ gs) (suc i) f all lt at =
    let here : id + 1 + i ≡ id + suc i = omega arith in
    fated-at fates (id + 1) gs i f all.1 (omega arith) at ∙ ap (λ (n : ℕ). fate_in fates n) here

pub fated-push : (fates : List Fate) (id : ℕ) (flight : List Flown) (f : Flown) → AllFated fates id flight → delays_of fates f.fate ≡ fate_in fates (id + length flight) → AllFated fates id (flight ++ f ∷ [])
fated-push fates id [] f all is =
    let here : id + 0 ≡ id = omega arith in
    (is ∙ ap (λ (n : ℕ). fate_in fates n) here, tt)
fated-push fates id (g ∷ gs) f all is =
    let here : id + suc (length gs) ≡ id + 1 + length gs = omega arith in
    (all.0, fated-push fates (id + 1) gs f all.1 (is ∙ ap (λ (n : ℕ). fate_in fates n) here))

-- ---- the delays of every packet

-- after the packet was sent, and within its life
abbrev pub AllTimely : ℕ → List ℕ → Type 0
AllTimely life delays = AllByRecursion (λ d. (1 ≤ d) × (d < life)) delays

pub record IsTimely (life : ℕ) (fates : Fates) : Type 0 where
  pub delays : (id : ℕ) → AllTimely life (fates id)

timely_within : (life : ℕ) (delays : List ℕ) → 2 ≤ life → AllByRecursion (IsWithin 1 (life - 1)) delays → AllTimely life delays
timely_within life [] two all = tt
timely_within life (d ∷ ds) two all = ((all.0.0, omega (arith, all.0.1)), timely_within life ds two all.1)

timely_in : (life : ℕ) (fates : List Fate) (id : ℕ) → 2 ≤ life → AllByRecursion (IsFate life) fates → AllTimely life (fate_in fates id)
timely_in life [] id two all = ((omega arith, omega arith), tt)
timely_in life (f ∷ fs) id two all = of (f.id == id) (timely_in life fs id two all.1)
  where
    of : (b : Bool) → AllTimely life (fate_in fs id) → AllTimely life (cond b f.delays (fate_in fs id))
    of true rest = timely_within life f.delays two (all_recursive (IsWithin 1 (life - 1)) f.delays all.0.delays)
    of false rest = rest

pub timely : (life : ℕ) (fates : List Fate) → 2 ≤ life → All (IsFate life) fates → IsTimely life (fate_in fates)
timely life fates two all = record { delays = λ id. timely_in life fates id two (all_recursive (IsFate life) fates all) }
