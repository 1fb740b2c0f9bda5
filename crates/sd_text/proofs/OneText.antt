-- Where no byte run stands, the text that is written is the only one.
use Rattle.std.proofs.Common.{◌≡◌, ℕ, zero, suc, ◌+◌, ◌-◌, ◌*◌, ◌/◌, ◌%◌, ◌<◌, ◌≤◌, Bool, true, false, cond, not, ◌&&◌, eqb, ltb, nat_le, List, [], ◌∷◌, ◌++◌, length, map, slice_index, Option, Some, None, refl, sym, ap, subst, ◌∙◌, arith, inl, inr}
use Rattle.std.specs.List.{concat}
use Rattle.std.specs.Fmt.{decimal}
use Rattle.std.specs.Str.Parse.{digits_value}
use Rattle.std.proofs.lemmas.Bool.{and_parts, false≢true, eqb-true, cases_Bool, cases_eq, not-true, agree_below_at}
use Rattle.std.proofs.lemmas.List.{append-nil}
use Rattle.hex.specs.Hex.{encode_lower, lower_digits}
use Rattle.sd_text.proofs.ItemLemmas.{pair_text}
use Rattle.sd_xdr.specs.Kind.{Value, none, number, bytes, ◌⊗◌, number_of, bytes_of}
use Rattle.sd_text.specs.Texts.{Text}
use Rattle.sd_text.specs.Kind.{is_low_hex, all_below, same, place_from, name_at, Word, digits, pairs, run, inner, named, shown, all, Kind, void, word, said, between, ◌&◌, many, choice, fork, maybe, where_zero, given, such, is_told, is_single}
use Rattle.sd_text.specs.Grammar.{when, sized, word_value, number_value, pairs_value, run_value, is_plain, escaped, is_escape, hex_value, hex_byte, onto, inner_value, word_text, many_text, maybe_text, writes, Reads, reads_void, reads_word, reads_said, reads_between, reads_row, reads_end, reads_more, reads_choice, reads_first, reads_other, reads_nothing, reads_some, reads_zero, reads_status, reads_given, reads_such}
use Rattle.sd_text.specs.Laws.{OneText}
use Rattle.sd_text.proofs.Leading.{same_is, some_is, no_place, below_at}
use Rattle.sd_text.proofs.Meanings.{is_pairs}

pub when_is : (b : Bool) (x y : Value) → when b x ≡ Some y → (b ≡ true) × (x ≡ y)
when_is true x y e = (refl, cc e)
when_is false x y e = absurd cc

digits_only : (low high : ℕ) (s : Text) (x : Value) → number_value low high s ≡ Some x → s ≡ decimal (number_of x)
unfolding number_value
digits_only low high s x e =
    let w = when_is (same (decimal (digits_value 10 s)) s && nat_le low (digits_value 10 s) && nat_le (digits_value 10 s) high) (number (digits_value 10 s)) x e in
    let p = and_parts (same (decimal (digits_value 10 s)) s && nat_le low (digits_value 10 s)) (nat_le (digits_value 10 s) high) w.0 in
    let q = and_parts (same (decimal (digits_value 10 s)) s) (nat_le low (digits_value 10 s)) p.0 in
    sym (same_is (decimal (digits_value 10 s)) s q.0) ∙ ap (λ (v : Value). decimal (number_of v)) w.1

pub sized_is : (p : ℕ → Bool) (o : Option (List ℕ)) (x : Value) → sized p o ≡ Some x → (bs : List ℕ) × (o ≡ Some bs) × (bytes bs ≡ x)
sized_is p None x e = absurd cc
sized_is p (Some bs) x e = (bs, refl, (when_is (p (length bs)) (bytes bs) x e).1)

-- ---- between quotation marks

abbrev digit : ℕ → ℕ
digit n = slice_index lower_digits n

abbrev stands : ℕ → Bool
stands c = cond (is_low_hex c) (eqb (digit (hex_value c)) c && ltb (hex_value c) 16) true

low_below : (c : ℕ) → is_low_hex c ≡ true → c < 103
low_below c h = grind arith

ltb_lt : (a b : ℕ) → ltb a b ≡ true → a < b
ltb_lt a b h = grind arith

digit_is : (c : ℕ) → is_low_hex c ≡ true → (digit (hex_value c) ≡ c) × (hex_value c < 16)
digit_is c h =
    let t : stands c ≡ true = agree_below_at stands (λ k. true) 103 c refl (low_below c h) in
    let u = and_parts (eqb (digit (hex_value c)) c) (ltb (hex_value c) 16) (sym (ap (λ (v : Bool). cond v (eqb (digit (hex_value c)) c && ltb (hex_value c) 16) true) h) ∙ t) in
    (eqb-true (digit (hex_value c)) c u.0, ltb_lt (hex_value c) 16 u.1)

escape_is : (b c d : ℕ) → is_escape b c d ≡ true → escaped (hex_byte c d) ≡ b ∷ c ∷ d ∷ []
escape_is b c d h =
    let p = and_parts (eqb b 92) (is_low_hex c && (is_low_hex d && not (is_plain (hex_byte c d)))) h in
    let q = and_parts (is_low_hex c) (is_low_hex d && not (is_plain (hex_byte c d))) p.1 in
    let r = and_parts (is_low_hex d) (not (is_plain (hex_byte c d))) q.1 in
    let x = digit_is c q.0 in
    let y = digit_is d r.0 in
    let high : hex_byte c d / 16 ≡ hex_value c = omega (arith, x.1, y.1) in
    let low : hex_byte c d % 16 ≡ hex_value d = omega (arith, x.1, y.1) in
    let first : digit (hex_byte c d / 16) ≡ c = ap digit high ∙ x.0 in
    let second : digit (hex_byte c d % 16) ≡ d = ap digit low ∙ y.0 in
    ap (λ (v : Bool). cond v (hex_byte c d ∷ []) (92 ∷ encode_lower (hex_byte c d ∷ []))) (not-true (is_plain (hex_byte c d)) r.1)
    ∙ ap (λ (t : Text). 92 ∷ t) (pair_text (hex_byte c d)) ∙ (λ i. sym (eqb-true b 92 p.0) i ∷ first i ∷ second i ∷ [])

onto_is : (b : ℕ) (o : Option (List ℕ)) (bs : List ℕ) → onto b o ≡ Some bs → (tail : List ℕ) × (o ≡ Some tail) × (b ∷ tail ≡ bs)
onto_is b (Some tail) bs e = (tail, refl, cc e)
onto_is b None bs e = absurd cc

plain_is : (b : ℕ) → is_plain b ≡ true → escaped b ≡ b ∷ []
plain_is b h = ap (λ (v : Bool). cond v (b ∷ []) (92 ∷ encode_lower (b ∷ []))) h

plain_step : (b : ℕ) (s : Text) (o : Option (List ℕ)) (bs : List ℕ) → is_plain b ≡ true → ((tail : List ℕ) → o ≡ Some tail → s ≡ concat (map escaped tail)) → onto b o ≡ Some bs → b ∷ s ≡ concat (map escaped bs)
plain_step b s o bs h f e =
    let t = onto_is b o bs e in
    ap (λ (u : Text). b ∷ u) (f t.0 t.1) ∙ ap (λ (u : Text). u ++ concat (map escaped t.0)) (sym (plain_is b h)) ∙ ap (λ (u : List ℕ). concat (map escaped u)) t.2

inner_only : (s : Text) (bs : List ℕ) → inner_value s ≡ Some bs → s ≡ concat (map escaped bs)
unfolding inner_value
inner_only [] bs e = let f : [] ≡ bs = cc e in ap (λ (u : List ℕ). concat (map escaped u)) f
inner_only (b ∷ []) bs e = by_test (is_plain b) refl e
  where
    by_test : (v : Bool) → is_plain b ≡ v → cond v (onto b (Some [])) None ≡ Some bs → b ∷ [] ≡ concat (map escaped bs)
    by_test true h e = plain_step b [] (Some []) bs h (λ tail f. let g : [] ≡ tail = cc f in ap (λ (u : List ℕ). concat (map escaped u)) g) e
    by_test false h e = absurd cc
inner_only (b ∷ c ∷ []) bs e = by_test (is_plain b) refl e (λ tail f. inner_only (c ∷ []) tail f)
  where
    by_test : (v : Bool) → is_plain b ≡ v → cond v (onto b (inner_value (c ∷ []))) None ≡ Some bs → ((tail : List ℕ) → inner_value (c ∷ []) ≡ Some tail → c ∷ [] ≡ concat (map escaped tail)) → b ∷ c ∷ [] ≡ concat (map escaped bs)
    by_test true h e f = plain_step b (c ∷ []) (inner_value (c ∷ [])) bs h f e
    by_test false h e f = absurd cc
inner_only (b ∷ c ∷ d ∷ t) bs e = by_test (is_plain b) refl e (λ tail f. inner_only (c ∷ d ∷ t) tail f) (λ tail f. inner_only t tail f)
  where
    by_escape : (v : Bool) → is_escape b c d ≡ v → cond v (onto (hex_byte c d) (inner_value t)) None ≡ Some bs → ((tail : List ℕ) → inner_value t ≡ Some tail → t ≡ concat (map escaped tail)) → b ∷ c ∷ d ∷ t ≡ concat (map escaped bs)
    by_escape true h e f =
        let r = onto_is (hex_byte c d) (inner_value t) bs e in
        ap (λ (u : Text). b ∷ c ∷ d ∷ u) (f r.0 r.1) ∙ ap (λ (u : Text). u ++ concat (map escaped r.0)) (sym (escape_is b c d h)) ∙ ap (λ (u : List ℕ). concat (map escaped u)) r.2
    by_escape false h e f = absurd cc

    by_test : (v : Bool) → is_plain b ≡ v → cond v (onto b (inner_value (c ∷ d ∷ t))) (cond (is_escape b c d) (onto (hex_byte c d) (inner_value t)) None) ≡ Some bs
        → ((tail : List ℕ) → inner_value (c ∷ d ∷ t) ≡ Some tail → c ∷ d ∷ t ≡ concat (map escaped tail)) → ((tail : List ℕ) → inner_value t ≡ Some tail → t ≡ concat (map escaped tail)) → b ∷ c ∷ d ∷ t ≡ concat (map escaped bs)
    by_test true h e f g = plain_step b (c ∷ d ∷ t) (inner_value (c ∷ d ∷ t)) bs h f e
    by_test false h e f g = by_escape (is_escape b c d) refl e g

-- ---- words

word_only : (w : Word) (s : Text) (x : Value) → is_single (word w) ≡ true → word_value w s ≡ Some x → s ≡ word_text w x
word_only (digits low high) s x p v = digits_only low high s x v
word_only (pairs n) s x p v =
    let i = sized_is (λ k. eqb k n) (pairs_value s) x v in
    (is_pairs s i.0 i.1).0 ∙ ap (λ (u : Value). encode_lower (bytes_of u)) i.2
word_only (run least most) s x p v = absurd (false≢true p)
word_only (inner most) s x p v =
    let i = sized_is (λ k. nat_le k most) (inner_value s) x v in
    inner_only s i.0 i.1 ∙ ap (λ (u : Value). concat (map escaped (bytes_of u))) i.2
word_only (named least most) s x p v = ap bytes_of (when_is (nat_le least (length s) && nat_le (length s) most) (bytes s) x v).1
word_only (shown least most) s x p v = ap bytes_of (when_is (nat_le least (length s) && nat_le (length s) most) (bytes s) x v).1
word_only all s x p v = let f : bytes s ≡ x = cc v in ap bytes_of f

-- ---- kinds

pub record NameAt (names : List Text) (t : Text) (k n : ℕ) : Type 0 where
  pub place : ℕ
  pub sum : n ≡ k + place
  pub below : place < length names
  pub is : name_at names place ≡ t

pub place_name : (k : ℕ) (t : Text) (names : List Text) (n : ℕ) → place_from k t names ≡ Some n → NameAt names t k n
place_name k t [] n e = absurd (no_place n e)
place_name k t (one ∷ names) n e = by_test (same one t) refl e (λ f. place_name (k + 1) t names n f)
  where
    by_test : (b : Bool) → same one t ≡ b → cond b (Some k) (place_from (k + 1) t names) ≡ Some n → (place_from (k + 1) t names ≡ Some n → NameAt names t (k + 1) n) → NameAt (one ∷ names) t k n
    by_test true h e f = record { place = 0; sum = omega (arith, some_is k n e); below = omega arith; is = same_is one t h }
    by_test false h e f = let r = f e in record { place = suc r.place; sum = omega (arith, r.sum); below = omega (arith, r.below); is = r.is }

when_told : (b : Bool) (x y : Value) → (x ≡ none → ⊥) → when b x ≡ Some y → y ≡ none → ⊥
when_told b x y f e g = f ((when_is b x y e).1 ∙ g)

sized_told : (p : ℕ → Bool) (o : Option (List ℕ)) (x : Value) → sized p o ≡ Some x → x ≡ none → ⊥
sized_told p o x e g = let i = sized_is p o x e in let f : bytes i.0 ≡ none = i.2 ∙ g in cc f

word_told : (w : Word) (s : Text) (x : Value) → word_value w s ≡ Some x → x ≡ none → ⊥
unfolding number_value
word_told (digits low high) s x v e = when_told (same (decimal (digits_value 10 s)) s && nat_le low (digits_value 10 s) && nat_le (digits_value 10 s) high) (number (digits_value 10 s)) x (λ f. cc f) v e
word_told (pairs n) s x v e = sized_told (λ k. eqb k n) (pairs_value s) x v e
word_told (run least most) s x v e = sized_told (λ k. nat_le least k && nat_le k most) (run_value s) x v e
word_told (inner most) s x v e = sized_told (λ k. nat_le k most) (inner_value s) x v e
word_told (named least most) s x v e = when_told (nat_le least (length s) && nat_le (length s) most) (bytes s) x (λ f. cc f) v e
word_told (shown least most) s x v e = when_told (nat_le least (length s) && nat_le (length s) most) (bytes s) x (λ f. cc f) v e
word_told all s x v e = let f : bytes s ≡ none = cc (v, e) in cc f

told : {K : Kind} {s : Text} {x : Value} → Reads K s x → is_told K ≡ true → x ≡ none → ⊥
told reads_void h e = absurd (false≢true h)
told (reads_word {w} {x} s a v) h e = word_told w s x v e
told (reads_said {K} {s} {x} t r) h e = told r h e
told (reads_between {K} {s} {x} a b r) h e = told r h e
told (reads_row {A} {B} {s} {t} {x} {y} q r) h e = cc e
told (reads_end most c {K}) h e = absurd (false≢true h)
told (reads_more {most} {c} {K} {s} {t} {x} {y} q r) h e = cc e
told (reads_choice {names} {arm} {s} {x} t n p r) h e = cc e
told (reads_first {p} {A} {B} {s} {x} r) h e = cc e
told (reads_other {p} {A} {B} {s} {x} r) h e = cc e
told (reads_nothing {p} {K}) h e = absurd (false≢true h)
told (reads_some {p} {K} {s} {x} r) h e = absurd (false≢true h)
told (reads_zero {K} {t} {y} s d v r) h e = cc e
told (reads_status {K} s n d v) h e = cc e
told (reads_given {K} {s} {x} n r) h e = cc e
told (reads_such {f} {K} {s} {x} r p) h e = told r h e

maybe_is : (f : Value → Text) (x : Value) → (x ≡ none → ⊥) → f x ≡ maybe_text f x
maybe_is f none h = absurd (h refl)
maybe_is f (number n) h = refl
maybe_is f (bytes bs) h = refl
maybe_is f (x ⊗ y) h = refl

eqb_suc : (n : ℕ) → eqb (suc n) 0 ≡ false
eqb_suc n = grind arith

pub only : {K : Kind} {s : Text} {x : Value} → Reads K s x → is_single K ≡ true → s ≡ writes K x
unfolding writes
only reads_void p = refl
only (reads_word {w} {x} s a v) p = word_only w s x p v
only (reads_said {K} {s} {x} t r) p = ap (λ (u : Text). t ++ u) (only r p)
only (reads_between {K} {s} {x} a b r) p = ap (λ (u : Text). a ∷ (u ++ b ∷ [])) (only r p)
only (reads_row {A} {B} {s} {t} {x} {y} q r) p =
    let c = and_parts (is_single A) (is_single B) p in
    ap (λ (u : Text). u ++ t) (only q c.0) ∙ ap (λ (u : Text). writes A x ++ u) (only r c.1)
only (reads_end most c {K}) p = refl
only (reads_more {most} {c} {K} {s} {t} {x} {y} q r) p = ap (λ (u : Text). c ∷ (u ++ t)) (only q p) ∙ ap (λ (u : Text). c ∷ (writes K x ++ u)) (only r p)
only (reads_choice {names} {arm} {s} {x} t n e r) p =
    let a = place_name 0 t names n e in
    let place : a.place ≡ n = omega (arith, a.sum) in
    let below : n < length names = omega (arith, a.sum, a.below) in
    ap (λ (u : Text). u ++ s) (sym a.is ∙ ap (name_at names) place) ∙ ap (λ (u : Text). name_at names n ++ u) (only r (below_at (length names) (λ i. is_single (arm i)) n p below))
only (reads_first {p = q} {A} {B} {s} {x} r) p = only r (and_parts (is_single A) (is_single B) p).0
only (reads_other {p = q} {A} {B} {s} {x} r) p = only r (and_parts (is_single A) (is_single B) p).1
only (reads_nothing {p = q} {K}) p = refl
only (reads_some {p = q} {K} {s} {x} r) p = let c = and_parts (is_single K) (is_told K) p in only r c.0 ∙ maybe_is (writes K) x (told r c.1)
only (reads_zero {K} {t} {y} s d v r) p = ap (λ (u : Text). u ++ t) (digits_only 0 4294967295 s (number 0) v) ∙ ap (λ (u : Text). decimal 0 ++ u) (only r p)
only (reads_status {K} s n d v) p =
    digits_only 0 4294967295 s (number (suc n)) v ∙ sym (append-nil (decimal (suc n))) ∙ ap (λ (b : Bool). decimal (suc n) ++ cond b (writes K none) []) (sym (eqb_suc n))
only (reads_given {K} {s} {x} n r) p = only r p
only (reads_such {f} {K} {s} {x} r e) p = only r p

pub one_text : OneText
one_text K s x p r = only r p
