-- What is written for a value, and which values have a spelling.
use Rattle.std.proofs.Common.{◌≡◌, ℕ, ◌+◌, ◌-◌, ◌^◌, ◌%◌, ◌<◌, ◌≤◌, Bool, true, false, cond, ltb, leb, ◌||◌, List, [], ◌++◌, refl, sym, ap, subst, ◌∙◌, arith}
use Rattle.std.proofs.lemmas.Bool.{ltb-false}
use Rattle.sd_xdr.specs.Kind.{Word, any, flag, between, char, count, rpcvers, allows, meaning, written, End, part, whole, Kind, void, word, opaque, list, ◌&◌, union, given, ended, rest, Value, none, number, bytes, ◌⊗◌, number_of, bytes_of, first, second, fixed, upto, auth_body}
use Rattle.sd_xdr.specs.Grammar.{word_bytes, Reads, reads_void, reads_word, reads_fixed, reads_upto, reads_auth, reads_rest, reads_row, reads_union, reads_end, reads_more, reads_given, reads_ended, writes, writes_list, EachSpelled, WordSpelled, HasSpelling, IsPlainWord, IsPlain, filled, counted}
use Rattle.sd_xdr.specs.Laws.{WritesSpell, WrittenIsRead, ReadHasSpelling, OneSpelling}

-- ---- words

record WordWrites (w : Word) (n : ℕ) : Type 0 where
  below : written w (meaning w n) < 2 ^ 32
  allowed : allows w (written w (meaning w n)) ≡ true
  same : meaning w (written w (meaning w n)) ≡ meaning w n

record CharWrites (m k : ℕ) : Type 0 where
  below : k < 2 ^ 32
  allowed : allows char k ≡ true
  same : k % 256 ≡ m

or_true : (b c : Bool) → c ≡ true → (b || c) ≡ true
unfolding word_bytes filled counted
or_true true c h = refl
or_true false c h = h

lt-true : (a b : ℕ) → a < b → ltb a b ≡ true
unfolding word_bytes filled counted
lt-true a b h = grind arith

le-true : (a b : ℕ) → a ≤ b → leb a b ≡ true
unfolding word_bytes filled counted
le-true a b h = grind arith

low_char : (m : ℕ) → m < 128 → CharWrites m m
unfolding word_bytes filled counted
low_char m h = record { below = omega arith; allowed = ap (λ (b : Bool). b || leb (2 ^ 32 - 128) m) (lt-true m 256 (omega arith)); same = omega arith }

high_char : (m : ℕ) → 128 ≤ m → m < 256 → CharWrites m (m + (2 ^ 32 - 256))
unfolding word_bytes filled counted
high_char m h lt = record { below = omega arith; allowed = or_true (ltb (m + (2 ^ 32 - 256)) 256) (leb (2 ^ 32 - 128) (m + (2 ^ 32 - 256))) (le-true (2 ^ 32 - 128) (m + (2 ^ 32 - 256)) (omega arith)); same = omega arith }

written_char : (m : ℕ) → m < 256 → (b : Bool) → ltb m 128 ≡ b → CharWrites m (cond b m (m + (2 ^ 32 - 256)))
unfolding word_bytes filled counted
written_char m lt true h = low_char m (ltb_lt m 128 h)
  where
    ltb_lt : (a b : ℕ) → ltb a b ≡ true → a < b
    ltb_lt a b h = grind arith
written_char m lt false h = high_char m (ltb-false m 128 h) lt

word_writes : (w : Word) (n : ℕ) → n < 2 ^ 32 → allows w n ≡ true → WordWrites w n
unfolding word_bytes filled counted
word_writes any n lt h = record { below = lt; allowed = h; same = refl }
word_writes flag n lt h = record { below = lt; allowed = h; same = refl }
word_writes (between low high) n lt h = record { below = lt; allowed = h; same = refl }
word_writes char n lt h =
    let c = written_char (n % 256) (omega arith) (ltb (n % 256) 128) refl in
    record { below = c.below; allowed = c.allowed; same = c.same }
word_writes (count most) n lt h = record { below = lt; allowed = h; same = refl }
word_writes (rpcvers xid) n lt h = record { below = lt; allowed = h; same = refl }

-- ---- what is written

-- What is written for a value that has a spelling spells it.
pub written_again : {e : End} {K : Kind e} {bs : List ℕ} {x : Value} → Reads e K bs x → Reads e K (writes K x) x
unfolding word_bytes filled counted
written_again reads_void = reads_void
written_again (reads_word {w} n lt h) =
    let s = word_writes w n lt h in
    subst (λ (k : ℕ). Reads part (word w) (word_bytes (written w (meaning w n))) (number k)) s.same (reads_word (written w (meaning w n)) s.below s.allowed)
written_again (reads_fixed bs len) = reads_fixed bs len
written_again (reads_upto bs below limit) = reads_upto bs below limit
written_again (reads_auth bs limit) = reads_auth bs limit
written_again reads_end = reads_end
written_again (reads_more s t) = reads_more (written_again s) (written_again t)
written_again (reads_row s t) = reads_row (written_again s) (written_again t)
written_again (reads_union {e} {w} {arm} {bs} {x} n lt h t) =
    let s = word_writes w n lt h in
    let t2 : Reads e (arm (meaning w (written w (meaning w n)))) (writes (arm (meaning w n)) x) x = subst (λ (k : ℕ). Reads e (arm k) (writes (arm (meaning w n)) x) x) (sym s.same) (written_again t) in
    subst (λ (k : ℕ). Reads e (union w arm) (word_bytes (written w (meaning w n)) ++ writes (arm (meaning w n)) x) (number k ⊗ x)) s.same (reads_union (written w (meaning w n)) s.below s.allowed t2)
written_again (reads_given t) = reads_given (written_again t)
written_again (reads_ended t) = reads_ended (written_again t)
written_again reads_rest = reads_rest

pub writes_spell : WritesSpell
unfolding word_bytes filled counted
writes_spell e K bs x h = written_again h

-- ---- a value that has a spelling

word_spelled : (w : Word) (n : ℕ) → n < 2 ^ 32 → allows w n ≡ true → WordSpelled w (number (meaning w n))
word_spelled w n lt h =
    let s = word_writes w n lt h in
    (ap number (sym s.same), s.below, s.allowed)

word_read : (w : Word) (x : Value) → WordSpelled w x → Reads part (word w) (word_bytes (written w (number_of x))) x
word_read w x h = subst (λ (v : Value). Reads part (word w) (word_bytes (written w (number_of x))) v) (sym h.0) (reads_word (written w (number_of x)) h.1 h.2)

list_read : (K : Kind part) → ((x : Value) → HasSpelling K x → Reads part K (writes K x) x) → (x : Value) → EachSpelled (HasSpelling K) x → Reads part (list K) (writes_list (writes K) x) x
list_read K one none h = reads_end
list_read K one (number n) h = absurd h
list_read K one (bytes bs) h = absurd h
list_read K one (x ⊗ y) h = reads_more (one x h.0) (list_read K one y h.1)

-- the arm is that of the written word
arm_is : (w : Word) (x : Value) → WordSpelled w x → number_of x ≡ meaning w (written w (number_of x))
arm_is w x h = ap number_of h.0

pub written_is_read : WrittenIsRead
written_is_read part void x h = subst (λ (v : Value). Reads part void [] v) (sym h) reads_void
written_is_read part (word w) x h = word_read w x h
written_is_read part (opaque (fixed n)) x h = subst (λ (v : Value). Reads part (opaque (fixed n)) (filled (bytes_of x)) v) (sym h.0) (reads_fixed (bytes_of x) h.1)
written_is_read part (opaque (upto most)) x h = subst (λ (v : Value). Reads part (opaque (upto most)) (counted (bytes_of x)) v) (sym h.0) (reads_upto (bytes_of x) h.1 h.2)
written_is_read part (opaque auth_body) x h = subst (λ (v : Value). Reads part (opaque auth_body) (counted (bytes_of x)) v) (sym h.0) (reads_auth (bytes_of x) h.1)
written_is_read part (list K) x h = list_read K (written_is_read part K) x h
written_is_read e (A & B) x h = subst (λ (v : Value). Reads e (A & B) (writes A (first x) ++ writes B (second x)) v) (sym h.0) (reads_row (written_is_read part A (first x) h.1) (written_is_read e B (second x) h.2))
written_is_read e (union w arm) x h =
    let n = written w (number_of (first x)) in
    let m : number_of (first x) ≡ meaning w (written w (number_of (first x))) = arm_is w (first x) h.1 in
    let behind : Reads e (arm (meaning w (written w (number_of (first x))))) (writes (arm (number_of (first x))) (second x)) (second x) = subst (λ (k : ℕ). Reads e (arm k) (writes (arm (number_of (first x))) (second x)) (second x)) m (written_is_read e (arm (number_of (first x))) (second x) h.2) in
    let all : Reads e (union w arm) (word_bytes n ++ writes (arm (number_of (first x))) (second x)) (number (meaning w n) ⊗ second x) = reads_union n h.1.1 h.1.2 behind in
    subst (λ (v : Value). Reads e (union w arm) (word_bytes n ++ writes (arm (number_of (first x))) (second x)) v) (ap (λ (v : Value). v ⊗ second x) (sym h.1.0) ∙ sym h.0) all
written_is_read e (given n K) x h = subst (λ (v : Value). Reads e (given n K) (writes K (second x)) v) (sym h.0) (reads_given (written_is_read e K (second x) h.1))
written_is_read whole (ended K) x h = reads_ended (written_is_read part K x h)
written_is_read whole rest x h = subst (λ (v : Value). Reads whole rest (bytes_of x) v) (sym h) reads_rest

-- each byte is a char
pub char_spelled : (n : ℕ) → n < 256 → WordSpelled char (number n)
char_spelled n lt =
    let c = written_char n lt (ltb n 128) refl in
    (ap number (sym c.same), c.below, c.allowed)

-- what is read is within the limits
has_spelling : {e : End} {K : Kind e} {bs : List ℕ} {x : Value} → Reads e K bs x → HasSpelling K x
has_spelling reads_void = refl
has_spelling (reads_word {w} n lt h) = word_spelled w n lt h
has_spelling (reads_fixed bs len) = (refl, len)
has_spelling (reads_upto bs below limit) = (refl, below, limit)
has_spelling (reads_auth bs limit) = (refl, limit)
has_spelling reads_end = tt
has_spelling (reads_more s t) = (has_spelling s, has_spelling t)
has_spelling (reads_row s t) = (refl, has_spelling s, has_spelling t)
has_spelling (reads_union {e} {w} n lt h t) = (refl, word_spelled w n lt h, has_spelling t)
has_spelling (reads_given t) = (refl, has_spelling t)
has_spelling (reads_ended t) = has_spelling t
has_spelling reads_rest = refl

pub read_has_spelling : ReadHasSpelling
read_has_spelling e K bs x h = has_spelling h

-- ---- one spelling

plain_word : (w : Word) (n : ℕ) → IsPlainWord w → n ≡ written w (meaning w n)
plain_word any n p = refl
plain_word flag n p = refl
plain_word (between low high) n p = refl
plain_word char n p = absurd p
plain_word (count most) n p = refl
plain_word (rpcvers xid) n p = refl

only : {e : End} {K : Kind e} {bs : List ℕ} {x : Value} → Reads e K bs x → IsPlain K → bs ≡ writes K x
only reads_void p = refl
only (reads_word {w} n lt h) p = ap word_bytes (plain_word w n p)
only (reads_fixed bs len) p = refl
only (reads_upto bs below limit) p = refl
only (reads_auth bs limit) p = refl
only reads_end p = refl
only (reads_more {K} {front} {bs} {x} {y} s t) p =
    ap (λ (u : List ℕ). word_bytes 1 ++ (u ++ bs)) (only s p) ∙ ap (λ (u : List ℕ). word_bytes 1 ++ (writes K x ++ u)) (only t p)
only (reads_row {e} {A} {B} {front} {bs} {x} {y} s t) p =
    ap (λ (u : List ℕ). u ++ bs) (only s p.0) ∙ ap (λ (u : List ℕ). writes A x ++ u) (only t p.1)
only (reads_union {e} {w} {arm} {bs} {x} n lt h t) p =
    ap (λ (u : List ℕ). word_bytes n ++ u) (only t (p.1 (meaning w n)))
    ∙ ap (λ (k : ℕ). word_bytes k ++ writes (arm (meaning w n)) x) (plain_word w n p.0)
only (reads_given t) p = only t p
only (reads_ended t) p = only t p
only reads_rest p = refl

pub one_spelling : OneSpelling
one_spelling e K bs x p h = only h p
