-- The place of a refusal in arguments or results, counted from the start of the datagram that they end.
use Rattle.std.proofs.Common.{◌≡◌, ℕ, zero, suc, ◌+◌, ◌≤◌, Bool, true, false, cond, ltb, List, [], ◌∷◌, ◌++◌, length, take, drop, Option, Some, None, refl, sym, ap, subst, ◌∙◌, arith}
use Rattle.std.proofs.lemmas.Bool.{ltb-false}
use Rattle.std.proofs.lemmas.List.{length-append, length-take, length-drop}
use Rattle.sd_xdr.specs.declared.error.XdrError.TheVariants.{Short, TooLong, Filling, Tail}
use Rattle.sd_xdr.specs.declared.error.MsgError.{MsgError}
use Rattle.sd_xdr.specs.declared.error.MsgError.TheVariants as messages
use Rattle.sd_xdr.specs.Kind.{Word, any, flag, between, char, count, rpcvers, allows, meaning, Opaque, fixed, upto, auth_body, filling, End, part, Kind, void, word, opaque, list, ◌&◌, union, given, ended, rest, Value, none, number, bytes, ◌⊗◌}
use Rattle.sd_xdr.specs.Grammar.{word_bytes, filled, counted, auth_limit, front_word, unlike, word_refusal, filling_refusal, body_refusal, counted_refusal, opaque_refusal, Reads, reads_void, reads_word, reads_fixed, reads_upto, reads_auth, reads_end, reads_more, reads_row, reads_union, reads_given, reads_ended, reads_rest, Refuses, refuses_word, refuses_opaque, refuses_flag, refuses_item, refuses_later, refuses_first, refuses_second, refuses_discriminant, refuses_arm, refuses_given, refuses_last, refuses_tail}
use Rattle.sd_show.specs.declared.error.ShowError.{ShowError}
use Rattle.sd_show.specs.declared.error.ShowError.TheVariants.{Bad, NoMemory}
use Rattle.sd_show.specs.Refused.{message_error}
use Rattle.sd_show.specs.Showing.{moved}

-- ---- kinds in which no version of the RPC protocol stands: its refusal alone has a place of its own

abbrev pub IsUsualWord : Word → Type 0
IsUsualWord any = Unit {0}
IsUsualWord flag = Unit {0}
IsUsualWord (between low high) = Unit {0}
IsUsualWord char = Unit {0}
IsUsualWord (count most) = Unit {0}
IsUsualWord (rpcvers xid) = ⊥

abbrev pub IsUsual : {e : End} → Kind e → Type 0
IsUsual void = Unit {0}
IsUsual (word w) = IsUsualWord w
IsUsual (opaque o) = Unit {0}
IsUsual (list K) = IsUsual K
IsUsual (A & B) = IsUsual A × IsUsual B
IsUsual (union w arm) = IsUsualWord w × ((n : ℕ) → IsUsual (arm n))
IsUsual (given n K) = IsUsual K
IsUsual (ended K) = IsUsual K
IsUsual rest = Unit {0}

-- ---- places

abbrev pub PlaceWithin : ℕ → ShowError → Type 0
PlaceWithin most (Bad which at) = at ≤ most
PlaceWithin most NoMemory = Unit {0}

within_more : (e : ShowError) (m n : ℕ) → m ≤ n → PlaceWithin m e → PlaceWithin n e
within_more (Bad which at) m n le h = omega (arith, le, h)
within_more NoMemory m n le h = tt

-- A refusal that a place gives is given so many bytes later, with the place moved, and stands before the end.
record Moves (f : ℕ → Option MsgError) (at by end : ℕ) (r : MsgError) : Type 0 where
  s : MsgError
  gives : f (at + by) ≡ Some s
  means : message_error s ≡ moved by (message_error r)
  within : PlaceWithin end (message_error r)

some_is : (q r : MsgError) → ◌≡◌ {A = Option MsgError} (Some q) (Some r) → q ≡ r
some_is q r h = cc

not_none : (r : MsgError) → ◌≡◌ {A = Option MsgError} None (Some r) → ⊥
not_none r h = cc

-- this very refusal
this : (f : ℕ → Option MsgError) (at by end : ℕ) (q s r : MsgError) → Some q ≡ Some r → f (at + by) ≡ Some s → message_error s ≡ moved by (message_error q)
    → PlaceWithin end (message_error q) → Moves f at by end r
this f at by end q s r is gives means within = record {
  s = s;
  gives = gives;
  means = means ∙ ap (λ (e : MsgError). moved by (message_error e)) (some_is q r is);
  within = subst (λ (e : MsgError). PlaceWithin end (message_error e)) (some_is q r is) within;
}

-- ---- words

unlike_means : (w : Word) (at by n : ℕ) → IsUsualWord w → message_error (unlike w (at + by) n) ≡ moved by (message_error (unlike w at n))
unlike_means any at by n h = refl
unlike_means flag at by n h = refl
unlike_means (between low high) at by n h = refl
unlike_means char at by n h = refl
unlike_means (count most) at by n h = refl
unlike_means (rpcvers xid) at by n h = absurd h

unlike_within : (w : Word) (at end n : ℕ) → IsUsualWord w → at ≤ end → PlaceWithin end (message_error (unlike w at n))
unlike_within any at end n h le = le
unlike_within flag at end n h le = le
unlike_within (between low high) at end n h le = le
unlike_within char at end n h le = le
unlike_within (count most) at end n h le = le
unlike_within (rpcvers xid) at end n h le = absurd h

word_moves : (w : Word) (at by : ℕ) (bs : List ℕ) (r : MsgError) → IsUsualWord w → word_refusal w at bs ≡ Some r → Moves (λ place. word_refusal w place bs) at by (at + length bs) r
word_moves w at by bs r usual h = of (ltb (length bs) 4) (allows w (front_word bs)) h
  where
    of : (a b : Bool) → cond a (Some (messages.Xdr (Short at))) (cond b None (Some (unlike w at (front_word bs)))) ≡ Some r
        → Moves (λ place. cond a (Some (messages.Xdr (Short place))) (cond b None (Some (unlike w place (front_word bs))))) at by (at + length bs) r
    of true b h = this (λ place. Some (messages.Xdr (Short place))) at by (at + length bs) (messages.Xdr (Short at)) (messages.Xdr (Short (at + by))) r h refl refl (omega arith)
    of false true h = absurd (not_none r h)
    of false false h =
        this (λ place. Some (unlike w place (front_word bs))) at by (at + length bs) (unlike w at (front_word bs)) (unlike w (at + by) (front_word bs)) r h refl
        (unlike_means w at by (front_word bs) usual) (unlike_within w at (at + length bs) (front_word bs) usual (omega arith))

-- ---- opaque data

filling_moves : (place by : ℕ) (bs : List ℕ) (r : MsgError) → filling_refusal place bs ≡ Some r → Moves (λ p. filling_refusal p bs) place by (place + length bs) r
filling_moves place by [] r h = absurd (not_none r h)
filling_moves place by (zero ∷ bs) r h =
    let m = filling_moves (place + 1) by bs r h in
    let same : place + 1 + by ≡ place + by + 1 = omega arith in
    record {
      s = m.s;
      gives = ap (λ (p : ℕ). filling_refusal p bs) (sym same) ∙ m.gives;
      means = m.means;
      within = within_more (message_error r) (place + 1 + length bs) (place + suc (length bs)) (omega arith) m.within;
    }
filling_moves place by (suc b ∷ bs) r h =
    this (λ p. Some (messages.Xdr (Filling p))) place by (place + suc (length bs)) (messages.Xdr (Filling place)) (messages.Xdr (Filling (place + by))) r h refl refl (omega arith)

-- bytes that stand so many bytes behind the place of their item
body_moves : (at behind by n : ℕ) (bs : List ℕ) (r : MsgError) (end : ℕ) → at + behind + length bs ≤ end → body_refusal at (at + behind) n bs ≡ Some r
    → Moves (λ place. body_refusal place (place + behind) n bs) at by end r
body_moves at behind by n bs r end fits h = of (ltb (length bs) (n + filling n)) refl h
  where
    of : (v : Bool) → ltb (length bs) (n + filling n) ≡ v → cond v (Some (messages.Xdr (Short at))) (filling_refusal (at + behind + n) (take (filling n) (drop n bs))) ≡ Some r
        → Moves (λ place. body_refusal place (place + behind) n bs) at by end r
    of true short h =
        this (λ place. body_refusal place (place + behind) n bs) at by end (messages.Xdr (Short at)) (messages.Xdr (Short (at + by))) r h
        (ap (λ (v : Bool). cond v (Some (messages.Xdr (Short (at + by)))) (filling_refusal (at + by + behind + n) (take (filling n) (drop n bs)))) short) refl (omega (arith, fits))
    of false long h =
        let left = take (filling n) (drop n bs) in
        let m = filling_moves (at + behind + n) by left r h in
        let same : at + by + behind + n ≡ at + behind + n + by = omega arith in
        record {
          s = m.s;
          gives = ap (λ (v : Bool). cond v (Some (messages.Xdr (Short (at + by)))) (filling_refusal (at + by + behind + n) left)) long ∙ ap (λ (p : ℕ). filling_refusal p left) same ∙ m.gives;
          means = m.means;
          within = within_more (message_error r) (at + behind + n + length left) end (omega (arith, ltb-false _ _ long, length-take (filling n) (drop n bs), fits)) m.within;
        }

counted_moves : (most : ℕ) (too_long : ℕ → ℕ → MsgError) (at by : ℕ) (bs : List ℕ) (r : MsgError)
    → ((n : ℕ) → message_error (too_long (at + by) n) ≡ moved by (message_error (too_long at n))) → ((n end : ℕ) → at ≤ end → PlaceWithin end (message_error (too_long at n)))
    → counted_refusal most too_long at bs ≡ Some r → Moves (λ place. counted_refusal most too_long place bs) at by (at + length bs) r
counted_moves most too_long at by bs r means within h = of (ltb (length bs) 4) (ltb most (front_word bs)) refl refl h
  where
    of : (a b : Bool) → ltb (length bs) 4 ≡ a → ltb most (front_word bs) ≡ b
        → cond a (Some (messages.Xdr (Short at))) (cond b (Some (too_long at (front_word bs))) (body_refusal at (at + 4) (front_word bs) (drop 4 bs))) ≡ Some r
        → Moves (λ place. counted_refusal most too_long place bs) at by (at + length bs) r
    of true b short few h =
        this (λ place. counted_refusal most too_long place bs) at by (at + length bs) (messages.Xdr (Short at)) (messages.Xdr (Short (at + by))) r h
        (ap (λ (v : Bool). cond v (Some (messages.Xdr (Short (at + by)))) (cond (ltb most (front_word bs)) (Some (too_long (at + by) (front_word bs))) (body_refusal (at + by) (at + by + 4) (front_word bs) (drop 4 bs)))) short)
        refl (omega arith)
    of false true short few h =
        this (λ place. counted_refusal most too_long place bs) at by (at + length bs) (too_long at (front_word bs)) (too_long (at + by) (front_word bs)) r h
        (λ i. cond (short i) (Some (messages.Xdr (Short (at + by)))) (cond (few i) (Some (too_long (at + by) (front_word bs))) (body_refusal (at + by) (at + by + 4) (front_word bs) (drop 4 bs))))
        (means (front_word bs)) (within (front_word bs) (at + length bs) (omega arith))
    of false false short few h =
        let m = body_moves at 4 by (front_word bs) (drop 4 bs) r (at + length bs) (omega (arith, length-drop 4 bs, ltb-false _ _ short)) h in
        record {
          s = m.s;
          gives = (λ i. cond (short i) (Some (messages.Xdr (Short (at + by)))) (cond (few i) (Some (too_long (at + by) (front_word bs))) (body_refusal (at + by) (at + by + 4) (front_word bs) (drop 4 bs)))) ∙ m.gives;
          means = m.means;
          within = m.within;
        }

opaque_moves : (o : Opaque) (at by : ℕ) (bs : List ℕ) (r : MsgError) → opaque_refusal o at bs ≡ Some r → Moves (λ place. opaque_refusal o place bs) at by (at + length bs) r
opaque_moves (fixed n) at by bs r h =
    let none_behind : at + 0 ≡ at = omega arith in
    let also : at + by + 0 ≡ at + by = omega arith in
    let m = body_moves at 0 by n bs r (at + length bs) (omega arith) (ap (λ (p : ℕ). body_refusal at p n bs) none_behind ∙ h) in
    record { s = m.s; gives = ap (λ (p : ℕ). body_refusal (at + by) p n bs) (sym also) ∙ m.gives; means = m.means; within = m.within }
opaque_moves (upto most) at by bs r h = counted_moves most (λ place len. messages.Xdr (TooLong place len)) at by bs r (λ n. refl) (λ n end le. le) h
opaque_moves auth_body at by bs r h = counted_moves auth_limit messages.AuthLong at by bs r (λ n. refl) (λ n end le. le) h

-- ---- refusals

-- bytes that are refused so many bytes later, with the place moved
pub record IsMoved (e : End) (K : Kind e) (at by : ℕ) (bs : List ℕ) (r : MsgError) : Type 0 where
  pub s : MsgError
  pub refuses : Refuses e K (at + by) bs s
  pub means : message_error s ≡ moved by (message_error r)
  pub within : PlaceWithin (at + length bs) (message_error r)

word_length : (n : ℕ) → length (word_bytes n) ≡ 4
unfolding word_bytes
word_length n = refl

pub moves : {e : End} {K : Kind e} {at : ℕ} {bs : List ℕ} {r : MsgError} (by : ℕ) → IsUsual K → Refuses e K at bs r → IsMoved e K at by bs r
moves by usual (refuses_word {w} {at} {bs} {r} h) =
    let m = word_moves w at by bs r usual h in
    record { s = m.s; refuses = refuses_word m.gives; means = m.means; within = m.within }
moves by usual (refuses_opaque {o} {at} {bs} {r} h) =
    let m = opaque_moves o at by bs r h in
    record { s = m.s; refuses = refuses_opaque m.gives; means = m.means; within = m.within }
moves by usual (refuses_flag {K} {at} {bs} {r} h) =
    let m = word_moves flag at by bs r tt h in
    record { s = m.s; refuses = refuses_flag m.gives; means = m.means; within = m.within }
moves by usual (refuses_item {K} {at} {bs} {r} h) =
    let m = moves by usual h in
    let place : at + 4 + by ≡ at + by + 4 = omega arith in
    record {
      s = m.s;
      refuses = refuses_item (subst (λ (p : ℕ). Refuses part K p bs m.s) place m.refuses);
      means = m.means;
      within = within_more (message_error r) (at + 4 + length bs) (at + length (word_bytes 1 ++ bs)) (omega (arith, length-append (word_bytes 1) bs, word_length 1)) m.within;
    }
moves by usual (refuses_later {K} {at} {front} {bs} {x} {r} reads h) =
    let m = moves by usual h in
    let place : at + 4 + length front + by ≡ at + by + 4 + length front = omega arith in
    record {
      s = m.s;
      refuses = refuses_later reads (subst (λ (p : ℕ). Refuses part (list K) p bs m.s) place m.refuses);
      means = m.means;
      within = within_more (message_error r) (at + 4 + length front + length bs) (at + length (word_bytes 1 ++ (front ++ bs))) (omega (arith, length-append (word_bytes 1) (front ++ bs), length-append front bs, word_length 1)) m.within;
    }
moves by usual (refuses_first {e} {A} {B} {at} {bs} {r} h) =
    let m = moves by usual.0 h in
    record { s = m.s; refuses = refuses_first m.refuses; means = m.means; within = m.within }
moves by usual (refuses_second {e} {A} {B} {at} {front} {bs} {x} {r} reads h) =
    let m = moves by usual.1 h in
    let place : at + length front + by ≡ at + by + length front = omega arith in
    record {
      s = m.s;
      refuses = refuses_second reads (subst (λ (p : ℕ). Refuses e B p bs m.s) place m.refuses);
      means = m.means;
      within = within_more (message_error r) (at + length front + length bs) (at + length (front ++ bs)) (omega (arith, length-append front bs)) m.within;
    }
moves by usual (refuses_discriminant {e} {w} {arm} {at} {bs} {r} h) =
    let m = word_moves w at by bs r usual.0 h in
    record { s = m.s; refuses = refuses_discriminant m.gives; means = m.means; within = m.within }
moves by usual (refuses_arm {e} {w} {arm} {at} {bs} {r} n lt may h) =
    let m = moves by (usual.1 (meaning w n)) h in
    let place : at + 4 + by ≡ at + by + 4 = omega arith in
    record {
      s = m.s;
      refuses = refuses_arm n lt may (subst (λ (p : ℕ). Refuses e (arm (meaning w n)) p bs m.s) place m.refuses);
      means = m.means;
      within = within_more (message_error r) (at + 4 + length bs) (at + length (word_bytes n ++ bs)) (omega (arith, length-append (word_bytes n) bs, word_length n)) m.within;
    }
moves by usual (refuses_given {e} {n} {K} {at} {bs} {r} h) =
    let m = moves by usual h in
    record { s = m.s; refuses = refuses_given m.refuses; means = m.means; within = m.within }
moves by usual (refuses_last {K} {at} {bs} {r} h) =
    let m = moves by usual h in
    record { s = m.s; refuses = refuses_last m.refuses; means = m.means; within = m.within }
moves by usual (refuses_tail {K} {at} {front} {x} bs reads some) =
    let place : at + by + length front ≡ at + length front + by = omega arith in
    record {
      s = messages.Xdr (Tail (at + by + length front));
      refuses = refuses_tail bs reads some;
      means = ap (λ (p : ℕ). message_error (messages.Xdr (Tail p))) place;
      within = omega (arith, length-append front bs);
    }

-- ---- the bytes of a value are no more than those that spell it

abbrev pub bytes_in : Value → ℕ
bytes_in none = 0
bytes_in (number n) = 0
bytes_in (bytes bs) = length bs
bytes_in (x ⊗ y) = bytes_in x + bytes_in y

pub holds : {e : End} {K : Kind e} {bs : List ℕ} {x : Value} → Reads e K bs x → bytes_in x ≤ length bs
unfolding filled counted
holds reads_void = omega arith
holds (reads_word {w} n lt h) = omega arith
holds (reads_fixed {n} bs len) = omega (arith, length-append {A = ℕ})
holds (reads_upto {most} bs below limit) = omega (arith, length-append {A = ℕ})
holds (reads_auth bs limit) = omega (arith, length-append {A = ℕ})
holds (reads_end {K}) = omega arith
holds (reads_more {K} {front} {bs} {x} {y} s t) = omega (arith, holds s, holds t, length-append (word_bytes 1) (front ++ bs), length-append front bs)
holds (reads_row {e} {A} {B} {front} {bs} {x} {y} s t) = omega (arith, holds s, holds t, length-append front bs)
holds (reads_union {e} {w} {arm} {bs} {x} n lt h t) = omega (arith, holds t, length-append (word_bytes n) bs)
holds (reads_given {e} {n} {K} {bs} {x} t) = omega (arith, holds t)
holds (reads_ended {K} {bs} {x} t) = holds t
holds (reads_rest {bs}) = omega arith
