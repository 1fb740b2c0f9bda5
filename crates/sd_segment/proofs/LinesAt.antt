-- The lines of strangers at a tick, found by their places.
use Rattle.std.proofs.Common.{◌≡◌, ℕ, zero, suc, ◌+◌, ◌<◌, ◌≤◌, Bool, true, false, cond, List, [], ◌∷◌, ◌++◌, length, get_or, take, Option, Some, None, refl, sym, ap, ◌∙◌, subst, arith, append_assoc, length-append}
use Rattle.std.specs.Prelude.{◌==◌, slice_get}
use Rattle.std.specs.List.{flat_map}
use Rattle.std.proofs.lemmas.Grind.{flat_map-append}
use Rattle.std.proofs.lemmas.List.{append-nil}
use Rattle.sd_outside.specs.declared.packet.Packet.{Packet}
use Rattle.sd_config.specs.declared.events.Stranger.{Stranger}
use Rattle.sd_config.specs.Plan.{strays_packet}
use Rattle.sd_segment.specs.Strays.{stray_at, places_at, packet_in, packet_at}

-- one line more
pub places_more : (tick place n : ℕ) (lines : List Stranger) (x : Stranger) → n < length lines
    → places_at tick place (take n lines) ++ cond ((get_or lines n x).tick == tick) ((place + n) ∷ []) [] ≡ places_at tick place (take (suc n) lines)
places_more tick place n [] x lt = absurd (omega (arith, lt))
places_more tick place zero (l ∷ ls) x lt =
    let here : place + 0 ≡ place = omega arith in
    ap (λ (m : ℕ). cond (l.tick == tick) (m ∷ []) []) here ∙ sym (append-nil (cond (l.tick == tick) (place ∷ []) []))
places_more tick place (suc n) (l ∷ ls) x lt =
    let here : place + suc n ≡ place + 1 + n = omega arith in
    let first : List ℕ = cond (l.tick == tick) (place ∷ []) [] in
    append_assoc first (places_at tick (place + 1) (take n ls)) (cond ((get_or ls n x).tick == tick) ((place + suc n) ∷ []) [])
    ∙ ap (λ (m : ℕ). first ++ (places_at tick (place + 1) (take n ls) ++ cond ((get_or ls n x).tick == tick) (m ∷ []) [])) here
    ∙ ap (λ (l2 : List ℕ). first ++ l2) (places_more tick (place + 1) n ls x (omega (arith, lt)))

get-there : (front : List Stranger) (line : Stranger) (lines : List Stranger) → slice_get (front ++ line ∷ lines) (length front) ≡ Some line
get-there [] line lines = refl
get-there (f ∷ fs) line lines = get-there fs line lines

-- the datagrams at the places of a tick are those of its lines
pub found_at : (tick : ℕ) (front lines : List Stranger) → flat_map (packet_at (front ++ lines)) (places_at tick (length front) lines) ≡ flat_map (stray_at tick) lines
found_at tick front [] = refl
found_at tick front (l ∷ ls) =
    let all : List Stranger = front ++ l ∷ ls in
    let same : (front ++ l ∷ []) ++ ls ≡ all = append_assoc front (l ∷ []) ls in
    let long : length (front ++ l ∷ []) ≡ length front + 1 = length-append front (l ∷ []) in
    let rest : flat_map (packet_at all) (places_at tick (length front + 1) ls) ≡ flat_map (stray_at tick) ls =
    subst (λ (a : List Stranger). flat_map (packet_at a) (places_at tick (length front + 1) ls) ≡ flat_map (stray_at tick) ls) same
    (subst (λ (n : ℕ). flat_map (packet_at ((front ++ l ∷ []) ++ ls)) (places_at tick n ls) ≡ flat_map (stray_at tick) ls) long (found_at tick (front ++ l ∷ []) ls)) in
    flat_map-append (packet_at all) (cond (l.tick == tick) (length front ∷ []) []) (places_at tick (length front + 1) ls)
    ∙ ap (λ (l2 : List Packet). l2 ++ flat_map (packet_at all) (places_at tick (length front + 1) ls)) (one (l.tick == tick))
    ∙ ap (λ (l2 : List Packet). stray_at tick l ++ l2) rest
  where
    one : (b : Bool) → flat_map (packet_at (front ++ l ∷ ls)) (cond b (length front ∷ []) []) ≡ cond b (strays_packet l ∷ []) []
    one true = ap (λ (o : Option Stranger). packet_in o ++ []) (get-there front l ls)
    one false = refl

pub get-past : {A : Type 0} (xs : List A) (n : ℕ) → length xs ≤ n → slice_get xs n ≡ None
get-past [] n le = refl
get-past (x ∷ xs) zero le = absurd (omega (arith, le))
get-past (x ∷ xs) (suc n) le = get-past xs n (omega (arith, le))
