-- A value that has a text has a spelling; and what a message of a datagram spells has a text.
use Rattle.std.proofs.Common.{◌≡◌, ℕ, zero, suc, ◌+◌, ◌-◌, ◌%◌, ◌<◌, ◌≤◌, ◌^◌, Bool, true, false, cond, ◌&&◌, eqb, nat_le, nat_lt, List, ◌++◌, length, refl, sym, ap, subst, ◌∙◌, arith, inl, inr}
use Rattle.std.proofs.lemmas.Bool.{cases_lt, le-ltb, lt-ltb, false≢true, and_parts, and_from, cases_Bool}
use Rattle.std.proofs.lemmas.List.{get_or_append_left, get_or-append-add, get_or_past, length-append}
use Rattle.sd_outside.specs.Bytes.{IsBytes}
use Rattle.sd_xdr.specs.Kind as xdr
use Rattle.sd_xdr.specs.Kind.{End, part, whole, Word, any, flag, between, char, count, rpcvers, allows, meaning, written, Opaque, fixed, upto, auth_body, Value, none, number, bytes, ◌⊗◌, number_of, bytes_of, first, second}
use Rattle.sd_xdr.specs.Grammar.{word_bytes, filled, counted, WordSpelled, EachSpelled, HasSpelling, Reads, reads_fixed, reads_upto, reads_auth, reads_end, reads_more, reads_row, reads_union, reads_given}
use Rattle.sd_xdr.proofs.Writes.{read_has_spelling}
use Rattle.sd_bootparams.specs.Layout.{ip}
use Rattle.sd_text.specs.Kind as texts
use Rattle.sd_text.specs.Grammar.{WordFits, EachFits, AtZero, HasText}
use Rattle.sd_show.specs.declared.fields.Field.{Field}
use Rattle.sd_show.specs.declared.fields.Field.TheVariants as fields
use Rattle.sd_show.specs.Forms.{Form, as_number, as_ip, as_run, as_quoted, ◌⊞◌, in_parens, in_brackets, form_kind, text_kind, longest, smaller, items, least_of, greatest_of, shortest_of, longest_of}
use Rattle.sd_show.specs.Fields.{Fields, nothing, field, ◌⊕◌, numbered, checked, field_form, fields_kind, fields_text}

-- ---- which forms fit

abbrev word_fits : Word → Bool
word_fits any = true
word_fits flag = true
word_fits (between low high) = nat_lt high 4294967296
word_fits char = false
word_fits (count most) = false
word_fits (rpcvers xid) = false

abbrev opaque_fits : Opaque → Bool
opaque_fits (fixed n) = nat_lt n 4294967296
opaque_fits (upto most) = true
opaque_fits auth_body = true

-- no char stands alone, and no text is longer than a word can say
abbrev pub fits : Form → Bool
fits (as_number w) = word_fits w
fits as_ip = true
fits (as_run o) = opaque_fits o
fits (as_quoted most) = nat_lt most 4294967296
fits (A ⊞ B) = fits A && fits B
fits (in_parens A) = fits A
fits (in_brackets A) = fits A

pub field_fits : (f : Field) → fits (field_form f) ≡ true
field_fits fields.Address = refl
field_fits fields.Args = refl
field_fits fields.Attr = refl
field_fits fields.Bavail = refl
field_fits fields.Begin = refl
field_fits fields.Bfree = refl
field_fits fields.Blocks = refl
field_fits fields.Bsize = refl
field_fits fields.Bytes = refl
field_fits fields.Client = refl
field_fits fields.Cookie = refl
field_fits fields.Count = refl
field_fits fields.Dir = refl
field_fits fields.Domain = refl
field_fits fields.Entries = refl
field_fits fields.Eof = refl
field_fits fields.Exports = refl
field_fits fields.File = refl
field_fits fields.From = refl
field_fits fields.Key = refl
field_fits fields.Maps = refl
field_fits fields.Mounts = refl
field_fits fields.Named = refl
field_fits fields.Offset = refl
field_fits fields.Ok = refl
field_fits fields.Path = refl
field_fits fields.Port = refl
field_fits fields.PortAnswer = refl
field_fits fields.Proc = refl
field_fits fields.Prog = refl
field_fits fields.Prot = refl
field_fits fields.Results = refl
field_fits fields.Router = refl
field_fits fields.Server = refl
field_fits fields.Set = refl
field_fits fields.Status = refl
field_fits fields.ToDir = refl
field_fits fields.ToName = refl
field_fits fields.Total = refl
field_fits fields.Tsize = refl
field_fits fields.Vers = refl

-- ---- numbers

leb-le : (a b : ℕ) → nat_le a b ≡ true → a ≤ b
leb-le a b h = grind arith

le-leb : (a b : ℕ) → a ≤ b → nat_le a b ≡ true
le-leb a b h = grind arith

ltb_lt : (a b : ℕ) → nat_lt a b ≡ true → a < b
ltb_lt a b h = grind arith

lt_ltb : (a b : ℕ) → a < b → nat_lt a b ≡ true
lt_ltb a b h = grind arith

smaller_both : (a b : ℕ) → (smaller a b ≤ a) × (smaller a b ≤ b)
smaller_both a b = elim (cases_Bool (nat_le a b)) [
  | inl le ↦ rw le (omega arith, leb-le a b le)
  | inr gt ↦ rw gt (above a b gt, omega arith)
]
  where
    above : (a b : ℕ) → nat_le a b ≡ false → b ≤ a
    above a b h = grind arith

within_smaller : (n a b : ℕ) → n ≤ a → n ≤ b → n ≤ smaller a b
within_smaller n a b h k = elim (cases_Bool (nat_le a b)) [
  | inl le ↦ rw le h
  | inr gt ↦ rw gt k
]

by_word : (n m : ℕ) → written char n ≡ m → m % 256 ≡ n → m < 2 ^ 32 → allows char m ≡ true → WordSpelled char (number n)
by_word n m e h lt a = (ap number (sym h ∙ ap (λ (k : ℕ). k % 256) (sym e)), subst (λ (k : ℕ). k < 2 ^ 32) (sym e) lt, subst (λ (k : ℕ). allows char k ≡ true) (sym e) a)

low_char : (a : ℕ) → a < 256 → allows char a ≡ true
low_char a t = grind arith

high_char : (a : ℕ) → 2 ^ 32 - 128 ≤ a → allows char a ≡ true
high_char a t = grind arith

char_spelled : (n : ℕ) → n < 256 → WordSpelled char (number n)
char_spelled n h = elim (cases_lt n 128) [
  | inl low ↦ let e : written char n ≡ n = rw (lt-ltb n 128 low) refl in by_word n n e (omega (arith, low)) (omega (arith, low)) (low_char n h)
  | inr high ↦ let e : written char n ≡ n + (2 ^ 32 - 256) = rw (le-ltb n 128 high) refl in by_word n (n + (2 ^ 32 - 256)) e (omega (arith, h)) (omega (arith, h)) (high_char (n + (2 ^ 32 - 256)) (omega (arith, high)))
]

-- ---- what is read of a form is within the limits

far : (n : ℕ) → n < 4294967296 → nat_lt n 18446744073709551616 ≡ true
far n h = grind arith

word_bounded : (w : Word) → word_fits w ≡ true → texts.is_bounded (text_kind (as_number w)) ≡ true
word_bounded any f = refl
word_bounded flag f = refl
word_bounded (between low high) f = far high (ltb_lt high 4294967296 f)
word_bounded char f = absurd (false≢true f)
word_bounded (count most) f = absurd (false≢true f)
word_bounded (rpcvers xid) f = absurd (false≢true f)

opaque_bounded : (o : Opaque) → opaque_fits o ≡ true → texts.is_bounded (text_kind (as_run o)) ≡ true
opaque_bounded (fixed n) f = far n (ltb_lt n 4294967296 f)
opaque_bounded (upto most) f = far (smaller most longest) (omega (arith, (smaller_both most longest).1))
opaque_bounded auth_body f = refl

form_bounded : (F : Form) → fits F ≡ true → texts.is_bounded (text_kind F) ≡ true
form_bounded (as_number w) f = word_bounded w f
form_bounded as_ip f = refl
form_bounded (as_run o) f = opaque_bounded o f
form_bounded (as_quoted most) f = refl
form_bounded (A ⊞ B) f = let p = and_parts (fits A) (fits B) f in and_from (texts.is_bounded (text_kind A)) (texts.is_bounded (text_kind B)) (form_bounded A p.0) (form_bounded B p.1)
form_bounded (in_parens A) f = form_bounded A f
form_bounded (in_brackets A) f = and_from (texts.is_bounded (text_kind A)) (texts.is_bounded (text_kind A)) (form_bounded A f) (form_bounded A f)

pub fields_bounded : (A : Fields) → texts.is_bounded (fields_text A) ≡ true
fields_bounded nothing = refl
fields_bounded (field f) = form_bounded (field_form f) (field_fits f)
fields_bounded (A ⊕ B) = and_from (texts.is_bounded (fields_text A)) (texts.is_bounded (fields_text B)) (fields_bounded A) (fields_bounded B)
fields_bounded (numbered n A) = fields_bounded A
fields_bounded (checked A) = fields_bounded A

-- ---- a value with a text has a spelling

word_spelled : (w : Word) (x : Value) → word_fits w ≡ true → WordFits (texts.digits (least_of w) (greatest_of w)) x → WordSpelled w x
word_spelled any x f h = (h.0, omega (arith, h.2), refl)
word_spelled flag x f h = (h.0, omega (arith, h.2), lt_ltb (number_of x) 2 (omega (arith, h.2)))
word_spelled (between low high) x f h =
    (h.0, omega (arith, h.2, ltb_lt high 4294967296 f), and_from (nat_le low (number_of x)) (nat_le (number_of x) high) (le-leb low (number_of x) h.1) (le-leb (number_of x) high h.2))
word_spelled char x f h = absurd (false≢true f)
word_spelled (count most) x f h = absurd (false≢true f)
word_spelled (rpcvers xid) x f h = absurd (false≢true f)

opaque_spelled : (o : Opaque) (x : Value) → WordFits (texts.run (shortest_of o) (longest_of o)) x → HasSpelling (xdr.opaque o) x
opaque_spelled (fixed n) x h = (h.0, omega (arith, h.2, h.3))
opaque_spelled (upto most) x h = let s = smaller_both most longest in (h.0, omega (arith, h.3, s.1), omega (arith, h.3, s.0))
opaque_spelled auth_body x h = (h.0, h.3)

octet_spelled : (x : Value) → WordFits (texts.digits 0 255) x → WordSpelled char x
octet_spelled x h = subst (WordSpelled char) (sym h.0) (char_spelled (number_of x) (omega (arith, h.2)))

ip_spelled : (x : Value) → HasText texts.ip x → HasSpelling ip x
ip_spelled x h =
    let one : first x ≡ number 1 = ap first h.0 in
    let a = h.1 in
    let b = a.2 in
    let c = b.2 in (
      h.0 ∙ ap (λ (v : Value). v ⊗ second x) (sym one),
      subst (WordSpelled (between 1 1)) (sym one) (refl, omega arith, refl),
      (a.0, octet_spelled _ a.1, (b.0, octet_spelled _ b.1, (c.0, octet_spelled _ c.1, octet_spelled _ c.2))),
    )

each_spelled : (K : texts.Kind) (M : xdr.Kind part) → ((x : Value) → HasText K x → HasSpelling M x) → (most : ℕ) (x : Value) → EachFits (HasText K) most x → EachSpelled (HasSpelling M) x
each_spelled K M one most none h = tt
each_spelled K M one most (number n) h = absurd h
each_spelled K M one most (bytes bs) h = absurd h
each_spelled K M one zero (x ⊗ y) h = absurd h
each_spelled K M one (suc most) (x ⊗ y) h = (one x h.0, each_spelled K M one most y h.1)

items_spelled : (K : texts.Kind) (M : xdr.Kind part) → ((x : Value) → HasText K x → HasSpelling M x) → (x : Value) → HasText (items K) x → EachSpelled (HasSpelling M) x
items_spelled K M one none h = tt
items_spelled K M one (number n) h = let bad : number n ≡ none ⊗ none = h.0 in absurd cc
items_spelled K M one (bytes bs) h = let bad : bytes bs ≡ none ⊗ none = h.0 in absurd cc
items_spelled K M one (x ⊗ y) h = (one x h.1, each_spelled K M one longest y h.2)

form_spelled : (F : Form) (x : Value) → fits F ≡ true → HasText (text_kind F) x → HasSpelling (form_kind F) x
form_spelled (as_number w) x f h = word_spelled w x f h
form_spelled as_ip x f h = ip_spelled x h
form_spelled (as_run o) x f h = opaque_spelled o x h
form_spelled (as_quoted most) x f h = (h.0, omega (arith, h.2, ltb_lt most 4294967296 f), h.2)
form_spelled (A ⊞ B) x f h = let p = and_parts (fits A) (fits B) f in (h.0, form_spelled A (first x) p.0 h.1, form_spelled B (second x) p.1 h.2)
form_spelled (in_parens A) x f h = form_spelled A x f h
form_spelled (in_brackets A) x f h = items_spelled (text_kind A) (form_kind A) (λ y k. form_spelled A y f k) x h

pub fields_spelled : (A : Fields) (x : Value) → HasText (fields_text A) x → HasSpelling (fields_kind A) x
fields_spelled nothing x h = h
fields_spelled (field f) x h = form_spelled (field_form f) x (field_fits f) h
fields_spelled (A ⊕ B) x h = (h.0, fields_spelled A (first x) h.1, fields_spelled B (second x) h.2)
fields_spelled (numbered n A) x h = (h.0, fields_spelled A (second x) h.1)
fields_spelled (checked A) x h =
    let n = number_of (first x) in
    let is : first x ≡ number n = ap first h.0 in
    (h.0 ∙ ap (λ (v : Value). v ⊗ second x) (sym is), subst (WordSpelled any) (sym is) (refl, omega (arith, h.1), refl), of n (second x) (λ y k. fields_spelled A y k) h.2)
  where
    of : (n : ℕ) (y : Value) → ((y : Value) → HasText (fields_text A) y → HasSpelling (fields_kind A) y) → AtZero n (HasText (fields_text A) y) (y ≡ none) → HasSpelling (cond (eqb n 0) (fields_kind A) xdr.void) y
    of zero y one h = one y h
    of (suc n) y one h = subst (λ (b : Bool). HasSpelling (cond b (fields_kind A) xdr.void) y) (sym (no_zero n)) h
      where
        no_zero : (n : ℕ) → eqb (suc n) 0 ≡ false
        no_zero n = grind arith

-- ---- bytes in bytes

-- bytes of which there are no more than a datagram has
pub record Sound (bs : List ℕ) : Type 0 where
  pub bytes_are : IsBytes bs
  pub short : length bs ≤ longest

pub front_bytes : (a b : List ℕ) → IsBytes (a ++ b) → IsBytes a
front_bytes a b h i = elim (cases_lt i (length a)) [
  | inl lt ↦ subst (λ (n : ℕ). n < 256) (get_or_append_left a b 0 i lt) (h i)
  | inr le ↦ subst (λ (n : ℕ). n < 256) (sym (get_or_past a i 0 le)) (omega arith)
]

pub back_bytes : (a b : List ℕ) → IsBytes (a ++ b) → IsBytes b
back_bytes a b h i = subst (λ (n : ℕ). n < 256) (get_or-append-add a b i 0) (h (length a + i))

pub front : (a b : List ℕ) → Sound (a ++ b) → Sound a
front a b h = record { bytes_are = front_bytes a b h.bytes_are; short = omega (arith, h.short, length-append a b) }

pub back : (a b : List ℕ) → Sound (a ++ b) → Sound b
back a b h = record { bytes_are = back_bytes a b h.bytes_are; short = omega (arith, h.short, length-append a b) }

-- ---- what a message spells has a text

word_told : (w : Word) (x : Value) → word_fits w ≡ true → WordSpelled w x → WordFits (texts.digits (least_of w) (greatest_of w)) x
word_told any x f h = (h.0, omega arith, omega (arith, h.1), omega (arith, h.1))
word_told flag x f h = let le = ltb_lt (number_of x) 2 h.2 in (h.0, omega arith, omega (arith, le), omega (arith, h.1))
word_told (between low high) x f h =
    let p = and_parts (nat_le low (number_of x)) (nat_le (number_of x) high) h.2 in
    (h.0, leb-le low (number_of x) p.0, leb-le (number_of x) high p.1, omega (arith, h.1))
word_told char x f h = absurd (false≢true f)
word_told (count most) x f h = absurd (false≢true f)
word_told (rpcvers xid) x f h = absurd (false≢true f)

opaque_told : (o : Opaque) (bs : List ℕ) (x : Value) → Reads part (xdr.opaque o) bs x → Sound bs → WordFits (texts.run (shortest_of o) (longest_of o)) x
unfolding counted filled
opaque_told (fixed n) bs x (reads_fixed cs len) s = let t = front cs _ s in (refl, t.bytes_are, omega (arith, len), omega (arith, len), omega (arith, t.short))
opaque_told (upto most) bs x (reads_upto cs below limit) s =
    let t = front cs _ (back (word_bytes (length cs)) _ s) in
    (refl, t.bytes_are, omega arith, within_smaller (length cs) most longest limit t.short, omega (arith, below))
opaque_told auth_body bs x (reads_auth cs limit) s = let t = front cs _ (back (word_bytes (length cs)) _ s) in (refl, t.bytes_are, omega arith, limit, omega (arith, t.short))

quoted_told : (most : ℕ) (bs : List ℕ) (x : Value) → Reads part (xdr.opaque (upto most)) bs x → Sound bs → WordFits (texts.inner most) x
unfolding counted filled
quoted_told most bs x (reads_upto cs below limit) s = let t = front cs _ (back (word_bytes (length cs)) _ s) in (refl, t.bytes_are, limit)

char_small : (x : Value) → WordSpelled char x → (x ≡ number (number_of x)) × (number_of x < 256)
char_small x h =
    let n = written char (number_of x) in
    let e : number_of x ≡ n % 256 = ap number_of h.0 in
    (h.0 ∙ ap number (sym e), less (number_of x) n e)
  where
    less : (m k : ℕ) → m ≡ k % 256 → m < 256
    less m k e = omega arith

octet_told : (x : Value) → WordSpelled char x → WordFits (texts.digits 0 255) x
octet_told x h = let c = char_small x h in (c.0, omega arith, omega (arith, c.1), omega (arith, c.1))

only_one : (n : ℕ) → allows (between 1 1) n ≡ true → n ≡ 1
only_one n h = grind arith

ip_told : (x : Value) → HasSpelling ip x → HasText texts.ip x
ip_told x h =
    let one : first x ≡ number 1 = h.1.0 ∙ ap number (only_one (number_of (first x)) h.1.2) in
    let a = h.2 in
    let b = a.2 in
    let c = b.2 in
    (h.0 ∙ ap (λ (v : Value). v ⊗ second x) one, (a.0, octet_told _ a.1, (b.0, octet_told _ b.1, (c.0, octet_told _ c.1, octet_told _ c.2))))

word_long : (n : ℕ) → length (word_bytes n) ≡ 4
unfolding word_bytes
word_long n = refl

-- each item takes a byte at least
each_told : (K : texts.Kind) (M : xdr.Kind part) → ((bs : List ℕ) (x : Value) → Reads part M bs x → Sound bs → HasText K x) → (most : ℕ) (bs : List ℕ) (x : Value) → Reads part (xdr.list M) bs x → Sound bs → length bs ≤ most → EachFits (HasText K) most x
each_told K M one most bs x reads_end s le = tt
each_told K M one zero bs x (reads_more {front = a} {bs = b} q r) s le = absurd (omega (arith, le, length-append (word_bytes 1) (a ++ b), word_long 1))
each_told K M one (suc most) bs x (reads_more {front = a} {bs = b} q r) s le =
    let t = back (word_bytes 1) (a ++ b) s in
    (one a _ q (front a b t), each_told K M one most b _ r (back a b t) (omega (arith, le, length-append (word_bytes 1) (a ++ b), length-append a b, word_long 1)))

items_told : (K : texts.Kind) (M : xdr.Kind part) → ((bs : List ℕ) (x : Value) → Reads part M bs x → Sound bs → HasText K x) → (bs : List ℕ) (x : Value) → Reads part (xdr.list M) bs x → Sound bs → HasText (items K) x
items_told K M one bs x reads_end s = tt
items_told K M one bs x (reads_more {front = a} {bs = b} q r) s =
    let t = back (word_bytes 1) (a ++ b) s in
    let u = back a b t in
    (refl, one a _ q (front a b t), each_told K M one longest b _ r u u.short)

pair_told : (K L : texts.Kind) (M N : xdr.Kind part) → ((bs : List ℕ) (x : Value) → Reads part M bs x → Sound bs → HasText K x) → ((bs : List ℕ) (x : Value) → Reads part N bs x → Sound bs → HasText L x)
    → (bs : List ℕ) (x : Value) → Reads part (xdr.◌&◌ M N) bs x → Sound bs → HasText (texts.◌&◌ K L) x
pair_told K L M N one two bs x (reads_row {front = a} {bs = b} q r) s = (refl, one a _ q (front a b s), two b _ r (back a b s))

form_told : (F : Form) → fits F ≡ true → (bs : List ℕ) (x : Value) → Reads part (form_kind F) bs x → Sound bs → HasText (text_kind F) x
form_told (as_number w) f bs x r s = word_told w x f (read_has_spelling part (xdr.word w) bs x r)
form_told as_ip f bs x r s = ip_told x (read_has_spelling part ip bs x r)
form_told (as_run o) f bs x r s = opaque_told o bs x r s
form_told (as_quoted most) f bs x r s = quoted_told most bs x r s
form_told (A ⊞ B) f bs x r s = let p = and_parts (fits A) (fits B) f in pair_told (text_kind A) (text_kind B) (form_kind A) (form_kind B) (form_told A p.0) (form_told B p.1) bs x r s
form_told (in_parens A) f bs x r s = form_told A f bs x r s
form_told (in_brackets A) f bs x r s = items_told (text_kind A) (form_kind A) (form_told A f) bs x r s

given_told : (n : ℕ) (K : texts.Kind) (M : xdr.Kind part) → ((bs : List ℕ) (x : Value) → Reads part M bs x → Sound bs → HasText K x) → (bs : List ℕ) (x : Value) → Reads part (xdr.given n M) bs x → Sound bs → HasText (texts.given n K) x
given_told n K M one bs x (reads_given {bs = b} r) s = (refl, one b _ r s)

status_told : (K : texts.Kind) (M : xdr.Kind part) → ((bs : List ℕ) (x : Value) → Reads part M bs x → Sound bs → HasText K x) → (bs : List ℕ) (x : Value) → Reads part (xdr.where_zero M) bs x → Sound bs → HasText (texts.where_zero K) x
status_told K M one bs x (reads_union {bs = b} n lt a r) s = (refl, omega (arith, lt), of n r (back (word_bytes n) b s))
  where
    no_zero : (n : ℕ) → eqb (suc n) 0 ≡ false
    no_zero n = grind arith

    nothing_there : (y : Value) → HasSpelling xdr.void y → y ≡ none
    nothing_there y h = h

    of : (n : ℕ) {b : List ℕ} {y : Value} → Reads part (cond (eqb n 0) M xdr.void) b y → Sound b → AtZero n (HasText K y) (y ≡ none)
    of zero {b} {y} r s = one b y r s
    of (suc n) {b} {y} r s = nothing_there y (read_has_spelling part xdr.void b y (subst (λ (v : Bool). Reads part (cond v M xdr.void) b y) (no_zero n) r))

pub fields_told : (A : Fields) (bs : List ℕ) (x : Value) → Reads part (fields_kind A) bs x → Sound bs → HasText (fields_text A) x
fields_told nothing bs x r s = read_has_spelling part xdr.void bs x r
fields_told (field f) bs x r s = form_told (field_form f) (field_fits f) bs x r s
fields_told (A ⊕ B) bs x r s = pair_told (fields_text A) (fields_text B) (fields_kind A) (fields_kind B) (fields_told A) (fields_told B) bs x r s
fields_told (numbered n A) bs x r s = given_told n (fields_text A) (fields_kind A) (fields_told A) bs x r s
fields_told (checked A) bs x r s = status_told (fields_text A) (fields_kind A) (fields_told A) bs x r s
