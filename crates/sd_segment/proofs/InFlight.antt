-- Packets that go into flight, one after another.
use Rattle.std.proofs.Common.{◌≡◌, ℕ, suc, ◌+◌, ◌-◌, ◌<◌, List, [], ◌∷◌, ◌++◌, length, map, refl, sym, ◌∙◌, ap, subst, arith, append_assoc, length-append}
use Rattle.std.proofs.lemmas.List.{append-nil, map-append}
use Rattle.sd_outside.specs.declared.packet.Packet.{Packet}
use Rattle.sd_config.specs.declared.events.Fate.{Fate}
use Rattle.sd_link.specs.World.{Flying, flying}
use Rattle.sd_segment.specs.declared.flown.Origin.{Origin}
use Rattle.sd_segment.specs.declared.flown.Flown.{Flown}
use Rattle.sd_segment.specs.declared.flown.Kept.{Kept}
use Rattle.sd_segment.specs.declared.flown.What.TheVariants.{Strayed}
use Rattle.sd_segment.specs.Kept.{strays_kept}
use Rattle.sd_segment.specs.Flight.{sender_of, flying_of, AllFated, Flies}

pub fated-append : (fates : List Fate) (id : ℕ) (xs ys : List Flown) → AllFated fates id xs → AllFated fates (id + length xs) ys → AllFated fates id (xs ++ ys)
fated-append fates id [] ys first second =
    let same : id + 0 ≡ id = omega arith in
    subst (λ (n : ℕ). AllFated fates n ys) same second
fated-append fates id (x ∷ xs) ys first second =
    let same : id + suc (length xs) ≡ id + 1 + length xs = omega arith in
    (first.0, fated-append fates (id + 1) xs ys first.1 (subst (λ (n : ℕ). AllFated fates n ys) same second))

pub flies_none : (fates : List Fate) (from : Origin) (tick : ℕ) (old : List Flown) → Flies fates from tick old [] old
flies_none fates from tick old = record { more = []; added = sym (append-nil old); sent = refl; fated = tt }

pub flies_then : (fates : List Fate) (from : Origin) (tick : ℕ) (old mid new : List Flown) (xs ys : List Packet) → Flies fates from tick old xs mid → Flies fates from tick mid ys new → Flies fates from tick old (xs ++ ys) new
flies_then fates from tick old mid new xs ys a b =
    let long : length mid ≡ length old + length a.more = ap (λ (l : List Flown). length l) a.added ∙ length-append old a.more in
    record {
      more = a.more ++ b.more;
      added = b.added ∙ ap (λ (l : List Flown). l ++ b.more) a.added ∙ append_assoc old a.more b.more;
      sent =
          map-append flying_of a.more b.more
          ∙ ap (λ (l : List Flying). l ++ map flying_of b.more) a.sent
          ∙ ap (λ (l : List Flying). map (flying (sender_of from) tick) xs ++ l) b.sent
          ∙ sym (map-append (flying (sender_of from) tick) xs ys);
      fated = fated-append fates (length old) a.more b.more a.fated (subst (λ (n : ℕ). AllFated fates n b.more) long b.fated);
    }

-- one entry of a stranger's packet more
pub strays_more : (kept new whole : List Kept) (tick first place count : ℕ) → place < count → new ≡ kept ++ record { tick = tick; what = Strayed (first + place) } ∷ [] → kept ++ strays_kept tick (first + place) (count - place) ≡ whole
    → new ++ strays_kept tick (first + (place + 1)) (count - (place + 1)) ≡ whole
strays_more kept new whole tick first place count lt is all =
    let entry : Kept = record { tick = tick; what = Strayed (first + place) } in
    let left : count - place ≡ suc (count - (place + 1)) = omega (arith, lt) in
    let id : first + (place + 1) ≡ first + place + 1 = omega arith in
    ap (λ (l : List Kept). l ++ strays_kept tick (first + (place + 1)) (count - (place + 1))) is
    ∙ append_assoc kept (entry ∷ []) (strays_kept tick (first + (place + 1)) (count - (place + 1)))
    ∙ ap (λ (n : ℕ). kept ++ (entry ∷ strays_kept tick n (count - (place + 1)))) id
    ∙ sym (ap (λ (n : ℕ). kept ++ strays_kept tick (first + place) n) left)
    ∙ all
