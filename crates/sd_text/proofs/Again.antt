-- What is spelled is read, whatever follows that ends it.
use Rattle.std.proofs.Common.{◌≡◌, ℕ, zero, suc, ◌+◌, ◌<◌, ◌≤◌, Bool, true, false, cond, not, ◌&&◌, ◌||◌, eqb, List, [], ◌∷◌, ◌++◌, length, Option, Some, None, refl, sym, ap, subst, ◌∙◌, append_assoc, arith, inl, inr, ◌⊎◌}
use Rattle.std.proofs.lemmas.List.{append-nil}
use Rattle.std.proofs.lemmas.Bool.{and_parts, cases_Bool, false≢true, eq-eqb, not-true}
use Rattle.sd_xdr.specs.Kind.{Value, none, number, bytes, ◌⊗◌, number_of}
use Rattle.sd_text.specs.Texts.{Text}
use Rattle.sd_text.specs.Kind.{is_digit, is_name, all_pass, all_texts, all_below, is_some_text, begins, ends, is_some, leads, stops, place_from, place_in, are_apart, is_clear, Word, digits, holds, Kind, void, word, said, between, ◌&◌, many, choice, fork, maybe, where_zero, given, such}
use Rattle.sd_text.specs.Grammar.{word_value, number_value, Reads, reads_void, reads_word, reads_said, reads_between, reads_row, reads_end, reads_more, reads_choice, reads_first, reads_other, reads_nothing, reads_some, reads_zero, reads_status, reads_given, reads_such}
use Rattle.sd_text.specs.Reading.{front, behind, Read, ◌>>=◌, word_reading, strip, name_reading, many_reading, reading}
use Rattle.sd_text.proofs.Leading.{or_false, below_at, begins_more, begins_ends, ends_begins, not_begins, ends_weaker, place_passes, some_text, led, ends_behind}

abbrev pub gives : Value → Text → Read
gives x more = Some (x, more)

pub front_is : (p : ℕ → Bool) (s more : Text) → all_pass p s ≡ true → ends (λ d. not (p d)) more ≡ true → (front p (s ++ more) ≡ s) × (behind p (s ++ more) ≡ more)
front_is p [] [] h k = (refl, refl)
front_is p [] (b ∷ more) h k =
    let f : p b ≡ false = not-true (p b) k in
    (ap (λ (v : Bool). cond v (b ∷ front p more) []) f, ap (λ (v : Bool). cond v (behind p more) (b ∷ more)) f)
front_is p (b ∷ s) more h k =
    let t = and_parts (p b) (all_pass p s) h in
    let r = front_is p s more t.1 k in (
      ap (λ (v : Bool). cond v (b ∷ front p (s ++ more)) []) t.0 ∙ ap (λ (u : Text). b ∷ u) r.0,
      ap (λ (v : Bool). cond v (behind p (s ++ more)) (b ∷ (s ++ more))) t.0 ∙ r.1,
    )

pub strip_again : (s more : Text) → strip s (s ++ more) ≡ Some more
unfolding strip
strip_again [] more = refl
strip_again (b ∷ s) more = ap (λ (v : Bool). cond v (strip s (s ++ more)) None) (eq-eqb b b refl) ∙ strip_again s more

strip_one : (b : ℕ) (more : Text) → strip (b ∷ []) (b ∷ more) ≡ Some more
unfolding strip
strip_one b more = strip_again (b ∷ []) more

pub word_again : (w : Word) (s more : Text) (x : Value) → all_pass (holds w) s ≡ true → word_value w s ≡ Some x → ends (λ d. not (holds w d)) more ≡ true → word_reading w (s ++ more) ≡ gives x more
unfolding word_reading
word_again w s more x a v k =
    let f = front_is (holds w) s more a k in
    ap (λ (u : Text). word_value w u >>= λ x. Some (x, behind (holds w) (s ++ more))) f.0
    ∙ ap (λ (r : Option Value). r >>= λ x. Some (x, behind (holds w) (s ++ more))) v
    ∙ ap (λ (u : Text). gives x u) f.1

eqb_suc : (n : ℕ) → eqb (suc n) 0 ≡ false
eqb_suc n = grind arith

eqb_same : (n : ℕ) → eqb n n ≡ true
eqb_same n = eq-eqb n n refl

-- how a text of a kind is read, whatever follows that ends it
abbrev pub Again : Kind → Text → Value → Type 0
Again K s x = is_clear K ≡ true → (more : Text) → ends (stops K) more ≡ true → reading K (s ++ more) ≡ gives x more

row_again : (A B : Kind) (s t more : Text) (x y : Value) → reading A (s ++ (t ++ more)) ≡ gives x (t ++ more) → reading B (t ++ more) ≡ gives y more → reading (A & B) ((s ++ t) ++ more) ≡ gives (x ⊗ y) more
unfolding reading
row_again A B s t more x y h k =
    ap (λ (u : Text). reading (A & B) u) (append_assoc s t more)
    ∙ ap (λ (r : Read). r >>= λ x. reading B x.1 >>= λ y. Some (x.0 ⊗ y.0, y.1)) h
    ∙ ap (λ (r : Read). r >>= λ y. Some (x ⊗ y.0, y.1)) k

said_again : (K : Kind) (t s more : Text) (x : Value) → reading K (s ++ more) ≡ gives x more → reading (said t K) ((t ++ s) ++ more) ≡ gives x more
unfolding reading
said_again K t s more x h =
    ap (λ (u : Text). reading (said t K) u) (append_assoc t s more)
    ∙ ap (λ (r : Option Text). r >>= λ u. reading K u) (strip_again t (s ++ more)) ∙ h

between_again : (K : Kind) (a b : ℕ) (s more : Text) (x : Value) → reading K (s ++ (b ∷ more)) ≡ gives x (b ∷ more) → reading (between a K b) ((a ∷ (s ++ b ∷ [])) ++ more) ≡ gives x more
unfolding reading
between_again K a b s more x h =
    ap (λ (u : Text). reading (between a K b) (a ∷ u)) (append_assoc s (b ∷ []) more)
    ∙ ap (λ (r : Option Text). r >>= λ u. reading K u >>= λ x. strip (b ∷ []) x.1 >>= λ v. Some (x.0, v)) (strip_one a (s ++ (b ∷ more)))
    ∙ ap (λ (r : Read). r >>= λ x. strip (b ∷ []) x.1 >>= λ v. Some (x.0, v)) h
    ∙ ap (λ (r : Option Text). r >>= λ v. Some (x, v)) (strip_one b more)

end_again : (K : Kind) (most c : ℕ) (more : Text) → begins (λ b. eqb b c) more ≡ false → many_reading (reading K) c most more ≡ gives none more
unfolding many_reading
end_again K zero c more h = refl
end_again K (suc most) c more h = ap (λ (v : Bool). cond v (strip (c ∷ []) more >>= λ u. reading K u >>= λ x. many_reading (reading K) c most x.1 >>= λ y. Some (x.0 ⊗ y.0, y.1)) (gives none more)) h

more_again : (K : Kind) (most c : ℕ) (s t more : Text) (x y : Value) → reading K (s ++ (t ++ more)) ≡ gives x (t ++ more) → many_reading (reading K) c most (t ++ more) ≡ gives y more
    → many_reading (reading K) c (suc most) ((c ∷ (s ++ t)) ++ more) ≡ gives (x ⊗ y) more
unfolding many_reading
more_again K most c s t more x y h k =
    ap (λ (u : Text). many_reading (reading K) c (suc most) (c ∷ u)) (append_assoc s t more)
    ∙ ap (λ (v : Bool). cond v (strip (c ∷ []) (c ∷ (s ++ (t ++ more))) >>= λ u. reading K u >>= λ x. many_reading (reading K) c most x.1 >>= λ y. Some (x.0 ⊗ y.0, y.1)) (gives none (c ∷ (s ++ (t ++ more))))) (eqb_same c)
    ∙ ap (λ (r : Option Text). r >>= λ u. reading K u >>= λ x. many_reading (reading K) c most x.1 >>= λ y. Some (x.0 ⊗ y.0, y.1)) (strip_one c (s ++ (t ++ more)))
    ∙ ap (λ (r : Read). r >>= λ x. many_reading (reading K) c most x.1 >>= λ y. Some (x.0 ⊗ y.0, y.1)) h
    ∙ ap (λ (r : Read). r >>= λ y. Some (x ⊗ y.0, y.1)) k

-- what is read behind the place of a name
abbrev pub after_name : (ℕ → Kind) → Option (ℕ × Text) → Read
after_name arm r = r >>= λ (n : ℕ × Text). reading (arm n.0) n.1 >>= λ (x : Value × Text). Some (number n.0 ⊗ x.0, x.1)

name_again : (names : List Text) (t more : Text) (n : ℕ) → all_pass is_name t ≡ true → place_in t names ≡ Some n → ends (λ d. not (is_name d)) more ≡ true → name_reading names (t ++ more) ≡ Some (n, more)
unfolding name_reading
name_again names t more n a e k =
    let f = front_is is_name t more a k in
    ap (λ (u : Text). place_in u names >>= λ (n : ℕ). Some (n, behind is_name (t ++ more))) f.0
    ∙ ap (λ (r : Option ℕ). r >>= λ (n : ℕ). Some (n, behind is_name (t ++ more))) e
    ∙ ap (λ (u : Text). Some (n, u)) f.1

choice_again : (names : List Text) (arm : ℕ → Kind) (t s more : Text) (n : ℕ) (x : Value) → all_pass is_name t ≡ true → place_in t names ≡ Some n → ends (λ d. not (is_name d)) (s ++ more) ≡ true
    → reading (arm n) (s ++ more) ≡ gives x more → reading (choice names arm) ((t ++ s) ++ more) ≡ gives (number n ⊗ x) more
unfolding reading
choice_again names arm t s more n x a e k h =
    ap (λ (u : Text). reading (choice names arm) u) (append_assoc t s more)
    ∙ ap (after_name arm) (name_again names t (s ++ more) n a e k)
    ∙ ap (λ (r : Read). r >>= λ (x : Value × Text). Some (number n ⊗ x.0, x.1)) h

fork_again : (p : ℕ → Bool) (A B : Kind) (u more : Text) (x : Value) (v : Bool) → begins p u ≡ v → reading (cond v A B) u ≡ gives x more → reading (fork p A B) u ≡ gives (number (cond v 0 1) ⊗ x) more
unfolding reading
fork_again p A B u more x true e h =
    ap (λ (v : Bool). cond v (reading A u >>= λ x. Some (number 0 ⊗ x.0, x.1)) (reading B u >>= λ x. Some (number 1 ⊗ x.0, x.1))) e
    ∙ ap (λ (r : Read). r >>= λ x. Some (number 0 ⊗ x.0, x.1)) h
fork_again p A B u more x false e h =
    ap (λ (v : Bool). cond v (reading A u >>= λ x. Some (number 0 ⊗ x.0, x.1)) (reading B u >>= λ x. Some (number 1 ⊗ x.0, x.1))) e
    ∙ ap (λ (r : Read). r >>= λ x. Some (number 1 ⊗ x.0, x.1)) h

maybe_again : (p : ℕ → Bool) (K : Kind) (u : Text) (r : Read) (v : Bool) → begins p u ≡ v → cond v (reading K u) (gives none u) ≡ r → reading (maybe p K) u ≡ r
unfolding reading
maybe_again p K u r v e h = ap (λ (v : Bool). cond v (reading K u) (gives none u)) e ∙ h

abbrev after_status : Kind → Read → Read
after_status K r = r >>= λ n. cond (eqb (number_of n.0) 0) (reading K n.1 >>= λ x. Some (n.0 ⊗ x.0, x.1)) (Some (n.0 ⊗ none, n.1))

zero_again : (K : Kind) (s t more : Text) (y : Value) → word_reading (digits 0 4294967295) (s ++ (t ++ more)) ≡ gives (number 0) (t ++ more) → reading K (t ++ more) ≡ gives y more → reading (where_zero K) ((s ++ t) ++ more) ≡ gives (number 0 ⊗ y) more
unfolding reading
zero_again K s t more y h k =
    ap (λ (u : Text). reading (where_zero K) u) (append_assoc s t more)
    ∙ ap (after_status K) h
    ∙ ap (λ (r : Read). r >>= λ x. Some (number 0 ⊗ x.0, x.1)) k

status_again : (K : Kind) (s more : Text) (n : ℕ) → word_reading (digits 0 4294967295) (s ++ more) ≡ gives (number (suc n)) more → reading (where_zero K) (s ++ more) ≡ gives (number (suc n) ⊗ none) more
unfolding reading
status_again K s more n h =
    ap (after_status K) h ∙ ap (λ (v : Bool). cond v (reading K more >>= λ x. Some (number (suc n) ⊗ x.0, x.1)) (gives (number (suc n) ⊗ none) more)) (eqb_suc n)

given_again : (K : Kind) (n : ℕ) (u more : Text) (x : Value) → reading K u ≡ gives x more → reading (given n K) u ≡ gives (number n ⊗ x) more
unfolding reading
given_again K n u more x h = ap (λ (r : Read). r >>= λ x. Some (number n ⊗ x.0, x.1)) h

such_again : (f : Value → Bool) (K : Kind) (u more : Text) (x : Value) → f x ≡ true → reading K u ≡ gives x more → reading (such f K) u ≡ gives x more
unfolding reading
such_again f K u more x e h = ap (λ (r : Read). r >>= λ (x : Value × Text). cond (f x.0) (Some x) None) h ∙ ap (λ (v : Bool). cond v (gives x more) None) e

-- ---- what follows the parts of a text

row_ends : (A B : Kind) (t more : Text) (y : Value) → Reads B t y → leads B (stops A) ≡ true → ends (stops (A & B)) more ≡ true → ends (stops A) (t ++ more) ≡ true
row_ends A B t more y r h k =
    ends_behind B t more y (stops A) r h (λ none. ends_weaker (stops (A & B)) (stops A) more (λ d e. or_false (is_some B) (stops A d) (and_parts (stops B d) (is_some B || stops A d) e).1 none) k)

-- What is spelled is read.
pub again : {K : Kind} {s : Text} {x : Value} → Reads K s x → Again K s x
unfolding reading
again reads_void clear more k = refl
again (reads_word {w} {x} s a v) clear more k = word_again w s more x a v k
again (reads_said {K} {s} {x} t r) clear more k = said_again K t s more x (again r clear more k)
again (reads_between {K} {s} {x} a b r) clear more k =
    let c = and_parts (is_clear K) (stops K b) clear in
    between_again K a b s more x (again r c.0 (b ∷ more) c.1)
again (reads_row {A} {B} {s} {t} {x} {y} q r) clear more k =
    let c = and_parts (is_clear A) (is_clear B && leads B (stops A)) clear in
    let d = and_parts (is_clear B) (leads B (stops A)) c.1 in
    row_again A B s t more x y (again q c.0 (t ++ more) (row_ends A B t more y r d.1 k)) (again r d.0 more (ends_weaker (stops (A & B)) (stops B) more (λ d e. (and_parts (stops B d) (is_some B || stops A d) e).0) k))
again (reads_end most c {K}) clear more k =
    end_again K most c more (not_begins (λ b. eqb b c) more (ends_weaker (stops (many most c K)) (λ d. not (eqb d c)) more (λ d e. (and_parts (not (eqb d c)) (stops K d) e).0) k))
again (reads_more {most} {c} {K} {s} {t} {x} {y} q r) clear more k =
    let d = and_parts (is_clear K) (stops K c) clear in
    let behind_item : ends (stops K) (t ++ more) ≡ true =
    ends_behind (many most c K) t more y (stops K) r d.1 (λ none. ends_weaker (stops (many most c K)) (stops K) more (λ d e. (and_parts (not (eqb d c)) (stops K d) e).1) k) in
    more_again K most c s t more x y (again q d.0 (t ++ more) behind_item) (again r clear more k)
again (reads_choice {names} {arm} {s} {x} t n e r) clear more k =
    let a = and_parts (all_texts is_some_text names) (all_texts (all_pass is_name) names && (are_apart names && all_below (length names) (λ i. is_clear (arm i) && leads (arm i) (λ d. not (is_name d))))) clear in
    let b = and_parts (all_texts (all_pass is_name) names) (are_apart names && all_below (length names) (λ i. is_clear (arm i) && leads (arm i) (λ d. not (is_name d)))) a.1 in
    let c = and_parts (are_apart names) (all_below (length names) (λ i. is_clear (arm i) && leads (arm i) (λ d. not (is_name d)))) b.1 in
    let place = place_passes (all_pass is_name) 0 t names n b.0 e in
    let below : n < length names = omega (arith, place.1) in
    let armed = and_parts (is_clear (arm n)) (leads (arm n) (λ d. not (is_name d))) (below_at (length names) (λ i. is_clear (arm i) && leads (arm i) (λ d. not (is_name d))) n c.1 below) in
    let no_name : ends (λ d. not (is_name d)) (s ++ more) ≡ true =
    ends_behind (arm n) s more x (λ d. not (is_name d)) r armed.1 (λ none. ends_weaker (stops (choice names arm)) (λ d. not (is_name d)) more (λ d e. (and_parts (not (is_name d)) (all_below (length names) (λ i. stops (arm i) d)) e).0) k) in
    choice_again names arm t s more n x place.0 e no_name
    (again r armed.0 more (ends_weaker (stops (choice names arm)) (stops (arm n)) more (λ d e. below_at (length names) (λ i. stops (arm i) d) n (and_parts (not (is_name d)) (all_below (length names) (λ i. stops (arm i) d)) e).1 below) k))
again (reads_first {p} {A} {B} {s} {x} r) clear more k =
    let a = and_parts (is_clear A) (is_clear B && (is_some A && (leads A p && leads B (λ d. not (p d))))) clear in
    let b = and_parts (is_clear B) (is_some A && (leads A p && leads B (λ d. not (p d)))) a.1 in
    let c = and_parts (is_some A) (leads A p && leads B (λ d. not (p d))) b.1 in
    let d = and_parts (leads A p) (leads B (λ d. not (p d))) c.1 in
    fork_again p A B (s ++ more) more x true (begins_more p s more (ends_begins p s (some_text r c.0) (led r p d.0)))
    (again r a.0 more (ends_weaker (stops (fork p A B)) (stops A) more (λ d e. (and_parts (stops A d) (stops B d && (is_some B || not (p d))) e).0) k))
again (reads_other {p} {A} {B} {s} {x} r) clear more k =
    let a = and_parts (is_clear A) (is_clear B && (is_some A && (leads A p && leads B (λ d. not (p d))))) clear in
    let b = and_parts (is_clear B) (is_some A && (leads A p && leads B (λ d. not (p d)))) a.1 in
    let c = and_parts (is_some A) (leads A p && leads B (λ d. not (p d))) b.1 in
    let d = and_parts (leads A p) (leads B (λ d. not (p d))) c.1 in
    let second : (d : ℕ) → stops (fork p A B) d ≡ true → (stops B d ≡ true) × ((is_some B || not (p d)) ≡ true) =
    λ d e. and_parts (stops B d) (is_some B || not (p d)) (and_parts (stops A d) (stops B d && (is_some B || not (p d))) e).1 in
    fork_again p A B (s ++ more) more x false
    (not_begins p (s ++ more) (ends_behind B s more x (λ d. not (p d)) r d.1 (λ none. ends_weaker (stops (fork p A B)) (λ d. not (p d)) more (λ d e. or_false (is_some B) (not (p d)) (second d e).1 none) k)))
    (again r b.0 more (ends_weaker (stops (fork p A B)) (stops B) more (λ d e. (second d e).0) k))
again (reads_nothing {p} {K}) clear more k =
    maybe_again p K more (gives none more) false (not_begins p more (ends_weaker (stops (maybe p K)) (λ d. not (p d)) more (λ d e. (and_parts (stops K d) (not (p d)) e).1) k)) refl
again (reads_some {p} {K} {s} {x} r) clear more k =
    let a = and_parts (is_clear K) (is_some K && leads K p) clear in
    let b = and_parts (is_some K) (leads K p) a.1 in
    maybe_again p K (s ++ more) (gives x more) true (begins_more p s more (ends_begins p s (some_text r b.0) (led r p b.1)))
    (again r a.0 more (ends_weaker (stops (maybe p K)) (stops K) more (λ d e. (and_parts (stops K d) (not (p d)) e).0) k))
again (reads_zero {K} {t} {y} s d v r) clear more k =
    let a = and_parts (is_clear K) (leads K (λ d. not (is_digit d))) clear in
    let second : (d : ℕ) → stops (where_zero K) d ≡ true → (not (is_digit d) ≡ true) × (stops K d ≡ true) = λ d e. and_parts (not (is_digit d)) (stops K d) e in
    zero_again K s t more y
    (word_again (digits 0 4294967295) s (t ++ more) (number 0) d v (ends_behind K t more y (λ d. not (is_digit d)) r a.1 (λ none. ends_weaker (stops (where_zero K)) (λ d. not (is_digit d)) more (λ d e. (second d e).0) k)))
    (again r a.0 more (ends_weaker (stops (where_zero K)) (stops K) more (λ d e. (second d e).1) k))
again (reads_status {K} s n d v) clear more k =
    status_again K s more n (word_again (digits 0 4294967295) s more (number (suc n)) d v (ends_weaker (stops (where_zero K)) (λ d. not (is_digit d)) more (λ d e. (and_parts (not (is_digit d)) (stops K d) e).0) k))
again (reads_given {K} {s} {x} n r) clear more k = given_again K n (s ++ more) more x (again r clear more k)
again (reads_such {f} {K} {s} {x} r e) clear more k = such_again f K (s ++ more) more x e (again r clear more k)
