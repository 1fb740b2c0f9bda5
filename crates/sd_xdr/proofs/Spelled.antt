-- One item that is read is spelled so, and one that is spelled is read again.
use Rattle.std.proofs.Common.{◌≡◌, ℕ, zero, suc, ◌+◌, ◌^◌, ◌<◌, ◌≤◌, Bool, true, false, cond, ltb, List, [], ◌∷◌, ◌++◌, length, take, drop, replicate, Option, Some, None, Ok, Err, refl, sym, ap, subst, ◌∙◌, append_assoc, arith, inl, inr}
use Rattle.std.specs.Prelude.{IsTrue}
use Rattle.std.specs.Int.{w32, from_be_bytes}
use Rattle.std.proofs.lemmas.Bool.{cases_lt, ltb-false, le-ltb}
use Rattle.std.proofs.lemmas.List.{take_at, drop_at, take-append-drop, drop-drop, length-append, length-take, length-drop, length-replicate, get_or-drop, get_or-take, get_or_past}
use Rattle.std.proofs.lemmas.Nat.{be_bytes_4, from_be_bytes-to_be_bytes_4}
use Rattle.sd_outside.specs.Bytes.{IsBytes}
use Rattle.sd_xdr.specs.declared.error.XdrError.TheVariants.{Short, TooLong}
use Rattle.sd_xdr.specs.declared.error.MsgError.{MsgError}
use Rattle.sd_xdr.specs.declared.error.MsgError.TheVariants.{Xdr, AuthLong}
use Rattle.sd_xdr.specs.Kind.{Word, Value, allows, meaning, filling, number, bytes, Opaque, fixed, upto, auth_body, End, part, whole, Kind, word, opaque}
use Rattle.sd_xdr.specs.Grammar.{front_word, word_bytes, filled, counted, auth_limit, unlike, word_refusal, filling_refusal, body_refusal, counted_refusal, opaque_refusal, Reads, reads_word, reads_fixed, reads_upto, reads_auth}
use Rattle.sd_xdr.specs.Reading.{Cursor, Read, skip, unless, word_reading, counted_body, counted_size, opaque_reading}
use Rattle.sd_xdr.proofs.OneItem.{word_whole}

-- ---- bytes and tests

pub IsBytes-drop : (n : ℕ) (bs : List ℕ) → IsBytes bs → IsBytes (drop n bs)
unfolding word_bytes filled counted
IsBytes-drop n bs h i = rw get_or-drop (h (n + i))

pub IsBytes-take : (n : ℕ) (bs : List ℕ) → IsBytes bs → IsBytes (take n bs)
unfolding word_bytes filled counted
IsBytes-take n bs h i =
    elim (cases_lt i n) [
      | inl lt ↦ rw (get_or-take n bs i 0 lt) (h i)
      | inr le ↦ rw (get_or_past (take n bs) i 0 (omega (arith, length-take n bs))) (omega arith)
    ]

-- a test that did not refuse
pub passed : (b : Bool) (r : MsgError) (o : Option MsgError) → cond b (Some r) o ≡ None → (b ≡ false) × (o ≡ None)
unfolding word_bytes filled counted
passed true r o e = absurd cc
passed false r o e = (refl, e)

pub unless_ok : {A : Type 0} (o : Option MsgError) (x y : A) → unless o x ≡ Ok y → (o ≡ None) × (x ≡ y)
unfolding word_bytes filled counted
unless_ok None x y e = (refl, cc)
unless_ok (Some r) x y e = absurd cc

pub unless_err : {A : Type 0} (o : Option MsgError) (x : A) (r : MsgError) → unless o x ≡ Err r → o ≡ Some r
unfolding word_bytes filled counted
unless_err None x r e = absurd cc
unless_err (Some s) x r e = cc

-- ---- words

-- the bytes of the word at the front
pub front_is : (bs : List ℕ) → IsBytes bs → 4 ≤ length bs → (bs ≡ word_bytes (front_word bs) ++ drop 4 bs) × (front_word bs < 2 ^ 32)
unfolding word_bytes filled counted
front_is bs fits long =
    let some = IsBytes-take 4 bs fits in
    let len : length (take 4 bs) ≡ 4 = omega (arith, length-take 4 bs) in
    let front : word_bytes (front_word bs) ≡ take 4 bs = be_bytes_4 (take 4 bs) (front_word bs) len some refl in
    (sym (take-append-drop 4 bs) ∙ ap (λ (t : List ℕ). t ++ drop 4 bs) (sym front), omega (arith, some 0, some 1, some 2, some 3))

pub front_again : (n : ℕ) (bs : List ℕ) → n < 2 ^ 32 → front_word (word_bytes n ++ bs) ≡ n
unfolding word_bytes filled counted
front_again n bs lt = ap (λ (t : List ℕ). from_be_bytes w32 t) (take_at (word_bytes n) bs 4 refl) ∙ from_be_bytes-to_be_bytes_4 n lt

pub long_again : (n : ℕ) (bs : List ℕ) → 4 ≤ length (word_bytes n ++ bs)
unfolding word_bytes filled counted
long_again n bs = omega (arith, length-append (word_bytes n) bs)

pub record WordStands (w : Word) (c : Cursor) (x : Value) (d : Cursor) : Type 0 where
  pub long : 4 ≤ length c.rest
  pub allowed : allows w (front_word c.rest) ≡ true
  pub value : number (meaning w (front_word c.rest)) ≡ x
  pub after : skip 4 c ≡ d

pub word_stands : (w : Word) (c : Cursor) (x : Value) (d : Cursor) → word_reading w c ≡ Ok (x, d) → WordStands w c x d
unfolding word_reading word_bytes filled counted
word_stands w c x d e =
    let u = unless_ok (word_refusal w c.at c.rest) (number (meaning w (front_word c.rest)), skip 4 c) (x, d) e in
    let p = passed (ltb (length c.rest) 4) (Xdr (Short c.at)) (cond (allows w (front_word c.rest)) None (Some (unlike w c.at (front_word c.rest)))) u.0 in
    record {
      long = ltb-false _ _ p.0;
      allowed = allowed_by (allows w (front_word c.rest)) (unlike w c.at (front_word c.rest)) p.1;
      value = ap (λ (v : Value × Cursor). v.0) u.1;
      after = ap (λ (v : Value × Cursor). v.1) u.1;
    }
  where
    allowed_by : (b : Bool) (r : MsgError) → cond b None (Some r) ≡ None → b ≡ true
    allowed_by true r e = refl
    allowed_by false r e = absurd cc

pub word_refused : (w : Word) (c : Cursor) (r : MsgError) → word_reading w c ≡ Err r → word_refusal w c.at c.rest ≡ Some r
unfolding word_reading word_bytes filled counted
word_refused w c r e = unless_err (word_refusal w c.at c.rest) (number (meaning w (front_word c.rest)), skip 4 c) r e

pub word_refuses : (w : Word) (at : ℕ) (bs : List ℕ) (r : MsgError) → word_refusal w at bs ≡ Some r → word_reading w (record { at = at; rest = bs }) ≡ Err r
unfolding word_reading word_bytes filled counted
word_refuses w at bs r e = rw e refl

pub word_again : (w : Word) (at n : ℕ) (bs : List ℕ) → n < 2 ^ 32 → IsTrue (allows w n) → word_reading w (record { at = at; rest = word_bytes n ++ bs }) ≡ Ok (number (meaning w n), record { at = at + 4; rest = bs })
unfolding word_bytes filled counted
word_again w at n bs lt may =
    word_whole w (record { at = at; rest = word_bytes n ++ bs }) n (long_again n bs) (front_again n bs lt)
    ∙ rw may refl

-- ---- what stands before a cursor d and behind a cursor c spells x

pub record Spelled (e : End) (K : Kind e) (c : Cursor) (x : Value) (d : Cursor) : Type 0 where
  pub front : List ℕ
  pub parts : c.rest ≡ front ++ d.rest
  pub place : d.at ≡ c.at + length front
  pub reads : Reads e K front x
  pub last : e ≡ whole → d.rest ≡ []

pub not_whole : {A : Type 0} → part ≡ whole → A
unfolding word_bytes filled counted
not_whole h = absurd (apart h)
  where
    apart : part ≡ whole → ⊥
    apart h = cc

pub Spelled-rest : (e : End) (K : Kind e) (c : Cursor) (x : Value) (d : Cursor) → IsBytes c.rest → Spelled e K c x d → IsBytes d.rest
unfolding word_bytes filled counted
Spelled-rest e K c x d fits s = subst IsBytes (ap (λ (t : List ℕ). drop (length s.front) t) s.parts ∙ drop_at s.front d.rest (length s.front) refl) (IsBytes-drop (length s.front) c.rest fits)

pub word_spelled : (w : Word) (c : Cursor) (x : Value) (d : Cursor) → IsBytes c.rest → word_reading w c ≡ Ok (x, d) → Spelled part (word w) c x d
unfolding word_bytes filled counted
word_spelled w c x d fits h =
    let s = word_stands w c x d h in
    let f = front_is c.rest fits s.long in
    let made : Spelled part (word w) c (number (meaning w (front_word c.rest))) (skip 4 c) = record { front = word_bytes (front_word c.rest); parts = f.0; place = refl; reads = reads_word (front_word c.rest) f.1 s.allowed; last = not_whole } in
    subst (λ (v : Value × Cursor). Spelled part (word w) c v.0 v.1) (pair_is s.value s.after) made
  where
    pair_is : {a b : Value} {p q : Cursor} → a ≡ b → p ≡ q → ◌≡◌ {A = Value × Cursor} (a, p) (b, q)
    pair_is h k = cc

-- ---- bytes with what fills them up

pub zeros : (place : ℕ) (bs : List ℕ) → filling_refusal place bs ≡ None → bs ≡ replicate (length bs) 0
unfolding word_bytes filled counted
zeros place [] h = refl
zeros place (zero ∷ bs) h = ap (λ (t : List ℕ). 0 ∷ t) (zeros (place + 1) bs h)
zeros place (suc b ∷ bs) h = absurd cc

pub zeros_pass : (n place : ℕ) → filling_refusal place (replicate n 0) ≡ None
unfolding word_bytes filled counted
zeros_pass zero place = refl
zeros_pass (suc n) place = zeros_pass n (place + 1)

pub record BodyStands (n : ℕ) (bs : List ℕ) : Type 0 where
  pub long : n + filling n ≤ length bs
  pub len : length (take n bs) ≡ n
  pub parts : bs ≡ filled (take n bs) ++ drop (n + filling n) bs

pub body_stands : (at place n : ℕ) (bs : List ℕ) → body_refusal at place n bs ≡ None → BodyStands n bs
unfolding word_bytes filled counted
body_stands at place n bs h =
    let p = passed (ltb (length bs) (n + filling n)) (Xdr (Short at)) (filling_refusal (place + n) (take (filling n) (drop n bs))) h in
    let long : n + filling n ≤ length bs = ltb-false _ _ p.0 in
    let len : length (take n bs) ≡ n = omega (arith, length-take n bs) in
    let few : length (take (filling n) (drop n bs)) ≡ filling n = omega (arith, length-take (filling n) (drop n bs), length-drop n bs) in
    let fill : take (filling n) (drop n bs) ≡ replicate (filling n) 0 = zeros (place + n) (take (filling n) (drop n bs)) p.1 ∙ ap (λ (k : ℕ). replicate k 0) few in
    let behind : drop n bs ≡ replicate (filling n) 0 ++ drop (n + filling n) bs = sym (take-append-drop (filling n) (drop n bs)) ∙ ap (λ (t : List ℕ). t ++ drop (filling n) (drop n bs)) fill ∙ ap (λ (t : List ℕ). replicate (filling n) 0 ++ t) (drop-drop (filling n) n bs) in
    let all : bs ≡ (take n bs ++ replicate (filling n) 0) ++ drop (n + filling n) bs = sym (take-append-drop n bs) ∙ ap (λ (t : List ℕ). take n bs ++ t) behind ∙ sym (append_assoc (take n bs) (replicate (filling n) 0) (drop (n + filling n) bs)) in
    record { long = long; len = len; parts = subst (λ (k : ℕ). bs ≡ (take n bs ++ replicate (filling k) 0) ++ drop (n + filling n) bs) (sym len) all }

pub length-filled : (bs : List ℕ) → length (filled bs) ≡ length bs + filling (length bs)
unfolding word_bytes filled counted
length-filled bs = length-append bs (replicate (filling (length bs)) 0) ∙ ap (λ (k : ℕ). length bs + k) (length-replicate (filling (length bs)) 0)

pub body_again : (at place : ℕ) (bs more : List ℕ) → body_refusal at place (length bs) (filled bs ++ more) ≡ None
unfolding word_bytes filled counted
body_again at place bs more =
    let n = length bs in
    let fill = filling (length bs) in
    let long : ltb (length (filled bs ++ more)) (n + fill) ≡ false = le-ltb _ _ (omega (arith, length-append (filled bs) more, length-filled bs)) in
    let behind : drop (length bs) (filled bs ++ more) ≡ replicate (filling (length bs)) 0 ++ more = ap (λ (t : List ℕ). drop (length bs) t) (append_assoc bs (replicate (filling (length bs)) 0) more) ∙ drop_at bs (replicate (filling (length bs)) 0 ++ more) (length bs) refl in
    let zero_part : take (filling (length bs)) (drop (length bs) (filled bs ++ more)) ≡ replicate (filling (length bs)) 0 = ap (λ (t : List ℕ). take (filling (length bs)) t) behind ∙ take_at (replicate (filling (length bs)) 0) more (filling (length bs)) (length-replicate (filling (length bs)) 0) in
    ap (λ (b : Bool). cond b (Some (Xdr (Short at))) (filling_refusal (place + length bs) (take (filling (length bs)) (drop (length bs) (filled bs ++ more))))) long ∙ ap (λ (t : List ℕ). filling_refusal (place + length bs) t) zero_part ∙ zeros_pass (filling (length bs)) (place + length bs)

-- ---- a length, its bytes, and what fills them up

pub length-counted : (bs : List ℕ) → length (counted bs) ≡ 4 + (length bs + filling (length bs))
unfolding word_bytes filled counted
length-counted bs = length-append (word_bytes (length bs)) (filled bs) ∙ ap (λ (k : ℕ). 4 + k) (length-filled bs)

pub record CountedStands (most : ℕ) (bs : List ℕ) : Type 0 where
  pub len : length (counted_body bs) ≡ front_word bs
  pub limit : length (counted_body bs) ≤ most
  pub below : length (counted_body bs) < 2 ^ 32
  pub parts : bs ≡ counted (counted_body bs) ++ drop (counted_size bs) bs
  pub size : length (counted (counted_body bs)) ≡ counted_size bs

pub counted_stands : (most : ℕ) (too_long : ℕ → ℕ → MsgError) (at : ℕ) (bs : List ℕ) → IsBytes bs → counted_refusal most too_long at bs ≡ None → CountedStands most bs
unfolding word_bytes filled counted
counted_stands most too_long at bs fits h =
    let m = front_word bs in
    let p = passed (ltb (length bs) 4) (Xdr (Short at)) (cond (ltb most (front_word bs)) (Some (too_long at (front_word bs))) (body_refusal at (at + 4) (front_word bs) (drop 4 bs))) h in
    let q = passed (ltb most (front_word bs)) (too_long at (front_word bs)) (body_refusal at (at + 4) (front_word bs) (drop 4 bs)) p.1 in
    let long : 4 ≤ length bs = ltb-false _ _ p.0 in
    let limit : front_word bs ≤ most = ltb-false _ _ q.0 in
    let f = front_is bs fits long in
    let b = body_stands at (at + 4) (front_word bs) (drop 4 bs) q.1 in
    let len : length (counted_body bs) ≡ front_word bs = b.len in
    let more : drop (front_word bs + filling (front_word bs)) (drop 4 bs) ≡ drop (counted_size bs) bs = drop-drop (front_word bs + filling (front_word bs)) 4 bs in
    let all : bs ≡ (word_bytes (front_word bs) ++ filled (counted_body bs)) ++ drop (counted_size bs) bs =
    f.0 ∙ ap (λ (t : List ℕ). word_bytes (front_word bs) ++ t) (b.parts ∙ ap (λ (t : List ℕ). filled (counted_body bs) ++ t) more)
    ∙ sym (append_assoc (word_bytes (front_word bs)) (filled (counted_body bs)) (drop (counted_size bs) bs)) in
    record {
      len = len;
      limit = omega (arith, len, limit);
      below = omega (arith, len, f.1);
      parts = subst (λ (k : ℕ). bs ≡ (word_bytes k ++ filled (counted_body bs)) ++ drop (counted_size bs) bs) (sym len) all;
      size = length-counted (counted_body bs) ∙ ap (λ (k : ℕ). 4 + (k + filling k)) len;
    }

pub counted_again : (most : ℕ) (too_long : ℕ → ℕ → MsgError) (at : ℕ) (bs more : List ℕ) → length bs < 2 ^ 32 → length bs ≤ most → counted_refusal most too_long at (counted bs ++ more) ≡ None
unfolding word_bytes filled counted
counted_again most too_long at bs more below limit =
    let regrouped : counted bs ++ more ≡ word_bytes (length bs) ++ (filled bs ++ more) = append_assoc (word_bytes (length bs)) (filled bs) more in
    ap (counted_refusal most too_long at) regrouped
    ∙ ap (λ (k : ℕ). cond (ltb (length (word_bytes (length bs) ++ (filled bs ++ more))) 4) (Some (Xdr (Short at))) (cond (ltb most k) (Some (too_long at k)) (body_refusal at (at + 4) k (drop 4 (word_bytes (length bs) ++ (filled bs ++ more)))))) (front_again (length bs) (filled bs ++ more) below)
    ∙ ap (λ (b : Bool). cond b (Some (Xdr (Short at))) (cond (ltb most (length bs)) (Some (too_long at (length bs))) (body_refusal at (at + 4) (length bs) (drop 4 (word_bytes (length bs) ++ (filled bs ++ more)))))) (le-ltb _ _ (long_again (length bs) (filled bs ++ more)))
    ∙ ap (λ (b : Bool). cond b (Some (too_long at (length bs))) (body_refusal at (at + 4) (length bs) (drop 4 (word_bytes (length bs) ++ (filled bs ++ more))))) (le-ltb _ _ limit)
    ∙ ap (λ (t : List ℕ). body_refusal at (at + 4) (length bs) t) (drop_at (word_bytes (length bs)) (filled bs ++ more) 4 refl)
    ∙ body_again at (at + 4) bs more

-- ---- opaque items

moved : (e : End) (K : Kind e) (c : Cursor) (v w : Value × Cursor) → v ≡ w → Spelled e K c v.0 v.1 → Spelled e K c w.0 w.1
unfolding word_bytes filled counted
moved e K c v w h s = subst (λ (u : Value × Cursor). Spelled e K c u.0 u.1) h s

pub opaque_spelled : (o : Opaque) (c : Cursor) (x : Value) (d : Cursor) → IsBytes c.rest → opaque_reading o c ≡ Ok (x, d) → Spelled part (opaque o) c x d
unfolding opaque_reading word_bytes filled counted
opaque_spelled (fixed n) c x d fits h =
    let u = unless_ok (body_refusal c.at c.at n c.rest) (bytes (take n c.rest), skip (n + filling n) c) (x, d) h in
    let b = body_stands c.at c.at n c.rest u.0 in
    moved part (opaque (fixed n)) c (bytes (take n c.rest), skip (n + filling n) c) (x, d) u.1
    (record { front = filled (take n c.rest); parts = b.parts; place = ap (λ (k : ℕ). c.at + k) (sym (length-filled (take n c.rest) ∙ ap (λ (k : ℕ). k + filling k) b.len)); reads = reads_fixed (take n c.rest) b.len; last = not_whole })
opaque_spelled (upto most) c x d fits h =
    let u = unless_ok (opaque_refusal (upto most) c.at c.rest) (bytes (counted_body c.rest), skip (counted_size c.rest) c) (x, d) h in
    let b = counted_stands most (λ place len. Xdr (TooLong place len)) c.at c.rest fits u.0 in
    moved part (opaque (upto most)) c (bytes (counted_body c.rest), skip (counted_size c.rest) c) (x, d) u.1
    (record { front = counted (counted_body c.rest); parts = b.parts; place = ap (λ (k : ℕ). c.at + k) (sym b.size); reads = reads_upto (counted_body c.rest) b.below b.limit; last = not_whole })
opaque_spelled auth_body c x d fits h =
    let u = unless_ok (opaque_refusal auth_body c.at c.rest) (bytes (counted_body c.rest), skip (counted_size c.rest) c) (x, d) h in
    let b = counted_stands auth_limit AuthLong c.at c.rest fits u.0 in
    moved part (opaque auth_body) c (bytes (counted_body c.rest), skip (counted_size c.rest) c) (x, d) u.1
    (record { front = counted (counted_body c.rest); parts = b.parts; place = ap (λ (k : ℕ). c.at + k) (sym b.size); reads = reads_auth (counted_body c.rest) b.limit; last = not_whole })

pub opaque_refused : (o : Opaque) (c : Cursor) (r : MsgError) → opaque_reading o c ≡ Err r → opaque_refusal o c.at c.rest ≡ Some r
unfolding opaque_reading word_bytes filled counted
opaque_refused (fixed n) c r e = unless_err (opaque_refusal (fixed n) c.at c.rest) (bytes (take n c.rest), skip (n + filling n) c) r e
opaque_refused (upto most) c r e = unless_err (opaque_refusal (upto most) c.at c.rest) (bytes (counted_body c.rest), skip (counted_size c.rest) c) r e
opaque_refused auth_body c r e = unless_err (opaque_refusal auth_body c.at c.rest) (bytes (counted_body c.rest), skip (counted_size c.rest) c) r e

pub opaque_refuses : (o : Opaque) (at : ℕ) (bs : List ℕ) (r : MsgError) → opaque_refusal o at bs ≡ Some r → opaque_reading o (record { at = at; rest = bs }) ≡ Err r
unfolding opaque_reading word_bytes filled counted
opaque_refuses (fixed n) at bs r e = ap (λ (o : Option MsgError). unless o (bytes (take n bs), skip (n + filling n) (record { at = at; rest = bs }))) e
opaque_refuses (upto most) at bs r e = ap (λ (o : Option MsgError). unless o (bytes (counted_body bs), skip (counted_size bs) (record { at = at; rest = bs }))) e
opaque_refuses auth_body at bs r e = ap (λ (o : Option MsgError). unless o (bytes (counted_body bs), skip (counted_size bs) (record { at = at; rest = bs }))) e

-- what a reading gives that goes so far
abbrev pub gives : Value → ℕ → List ℕ → Read
gives x at bs = Ok (x, record { at = at; rest = bs })

pub fixed_again : (at n : ℕ) (bs more : List ℕ) → length bs ≡ n → opaque_reading (fixed n) (record { at = at; rest = filled bs ++ more }) ≡ gives (bytes bs) (at + length (filled bs)) more
unfolding opaque_reading word_bytes filled counted
fixed_again at n bs more len =
    let whole : body_refusal at at n (filled bs ++ more) ≡ None = subst (λ (k : ℕ). body_refusal at at k (filled bs ++ more) ≡ None) len (body_again at at bs more) in
    let body : take n (filled bs ++ more) ≡ bs = ap (λ (t : List ℕ). take n t) (append_assoc bs (replicate (filling (length bs)) 0) more) ∙ take_at bs (replicate (filling (length bs)) 0 ++ more) n len in
    let size : n + filling n ≡ length (filled bs) = ap (λ (k : ℕ). k + filling k) (sym len) ∙ sym (length-filled bs) in
    let behind : drop (length (filled bs)) (filled bs ++ more) ≡ more = drop_at (filled bs) more (length (filled bs)) refl in
    ap (λ (o : Option MsgError). unless o (bytes (take n (filled bs ++ more)), skip (n + filling n) (record { at = at; rest = filled bs ++ more }))) whole
    ∙ ap (λ (t : List ℕ). Ok (bytes t, skip (n + filling n) (record { at = at; rest = filled bs ++ more }))) body
    ∙ ap (λ (k : ℕ). gives (bytes bs) (at + k) (drop k (filled bs ++ more))) size
    ∙ ap (λ (t : List ℕ). gives (bytes bs) (at + length (filled bs)) t) behind

counted_moves : (at : ℕ) (bs more : List ℕ) → length bs < 2 ^ 32 → (o : Option MsgError) → o ≡ None → unless o (bytes (counted_body (counted bs ++ more)), skip (counted_size (counted bs ++ more)) (record { at = at; rest = counted bs ++ more })) ≡ gives (bytes bs) (at + length (counted bs)) more
unfolding word_bytes filled counted
counted_moves at bs more below o passes =
    let all = counted bs ++ more in
    let regrouped : counted bs ++ more ≡ word_bytes (length bs) ++ (filled bs ++ more) = append_assoc (word_bytes (length bs)) (filled bs) more in
    let front : front_word (counted bs ++ more) ≡ length bs = ap front_word regrouped ∙ front_again (length bs) (filled bs ++ more) below in
    let inner : drop 4 (counted bs ++ more) ≡ bs ++ (replicate (filling (length bs)) 0 ++ more) = ap (λ (t : List ℕ). drop 4 t) regrouped ∙ drop_at (word_bytes (length bs)) (filled bs ++ more) 4 refl ∙ append_assoc bs (replicate (filling (length bs)) 0) more in
    let body : counted_body (counted bs ++ more) ≡ bs = ap (λ (k : ℕ). take k (drop 4 (counted bs ++ more))) front ∙ ap (λ (t : List ℕ). take (length bs) t) inner ∙ take_at bs (replicate (filling (length bs)) 0 ++ more) (length bs) refl in
    let size : counted_size (counted bs ++ more) ≡ length (counted bs) = ap (λ (k : ℕ). 4 + (k + filling k)) front ∙ sym (length-counted bs) in
    let behind : drop (length (counted bs)) (counted bs ++ more) ≡ more = drop_at (counted bs) more (length (counted bs)) refl in
    ap (λ (u : Option MsgError). unless u (bytes (counted_body (counted bs ++ more)), skip (counted_size (counted bs ++ more)) (record { at = at; rest = counted bs ++ more }))) passes
    ∙ ap (λ (t : List ℕ). gives (bytes t) (at + counted_size (counted bs ++ more)) (drop (counted_size (counted bs ++ more)) (counted bs ++ more))) body
    ∙ ap (λ (k : ℕ). gives (bytes bs) (at + k) (drop k (counted bs ++ more))) size
    ∙ ap (λ (t : List ℕ). gives (bytes bs) (at + length (counted bs)) t) behind

pub upto_again : (at most : ℕ) (bs more : List ℕ) → length bs < 2 ^ 32 → length bs ≤ most → opaque_reading (upto most) (record { at = at; rest = counted bs ++ more }) ≡ gives (bytes bs) (at + length (counted bs)) more
unfolding opaque_reading word_bytes filled counted
upto_again at most bs more below limit = counted_moves at bs more below (opaque_refusal (upto most) at (counted bs ++ more)) (counted_again most (λ place len. Xdr (TooLong place len)) at bs more below limit)

pub auth_again : (at : ℕ) (bs more : List ℕ) → length bs ≤ auth_limit → opaque_reading auth_body (record { at = at; rest = counted bs ++ more }) ≡ gives (bytes bs) (at + length (counted bs)) more
unfolding opaque_reading word_bytes filled counted
auth_again at bs more limit =
    let below : length bs < 2 ^ 32 = omega arith in
    counted_moves at bs more below (opaque_refusal auth_body at (counted bs ++ more)) (counted_again auth_limit AuthLong at bs more below limit)
