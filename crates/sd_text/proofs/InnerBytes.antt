-- What stands between quotation marks, read byte by byte.
use Rattle.std.proofs.Common.{◌≡◌, ℕ, ◌<◌, ◌≤◌, Bool, true, false, cond, eqb, nat_le, List, [], ◌∷◌, ◌++◌, length, Option, Some, None, refl, sym, ap, ◌∙◌, append_assoc, arith}
use Rattle.std.proofs.lemmas.List.{append-nil}
use Rattle.std.proofs.lemmas.Bool.{eqb-true}
use Rattle.sd_xdr.specs.Kind.{Value, bytes}
use Rattle.sd_text.specs.Texts.{Text}
use Rattle.sd_text.specs.Kind.{inner}
use Rattle.sd_text.specs.Grammar.{when, sized, word_value, is_plain, is_escape, hex_byte, onto, joined_values, inner_value}

pub inner_plain : (b : ℕ) (t : Text) → is_plain b ≡ true → inner_value (b ∷ t) ≡ onto b (inner_value t)
unfolding inner_value
inner_plain b [] h = ap (λ (v : Bool). cond v (onto b (inner_value [])) None) h
inner_plain b (c ∷ []) h = ap (λ (v : Bool). cond v (onto b (inner_value (c ∷ []))) None) h
inner_plain b (c ∷ d ∷ t) h = ap (λ (v : Bool). cond v (onto b (inner_value (c ∷ d ∷ t))) (cond (is_escape b c d) (onto (hex_byte c d) (inner_value t)) None)) h

pub inner_short : (b : ℕ) (t : Text) → is_plain b ≡ false → length t < 2 → inner_value (b ∷ t) ≡ None
unfolding inner_value
inner_short b [] h s = ap (λ (v : Bool). cond v (onto b (inner_value [])) None) h
inner_short b (c ∷ []) h s = ap (λ (v : Bool). cond v (onto b (inner_value (c ∷ []))) None) h
inner_short b (c ∷ d ∷ t) h s = absurd (omega (arith, s))

pub inner_escape : (b c d : ℕ) (t : Text) (v : Bool) → is_plain b ≡ false → is_escape b c d ≡ v → inner_value (b ∷ c ∷ d ∷ t) ≡ cond v (onto (hex_byte c d) (inner_value t)) None
unfolding inner_value
inner_escape b c d t v h e =
    ap (λ (u : Bool). cond u (onto b (inner_value (c ∷ d ∷ t))) (cond (is_escape b c d) (onto (hex_byte c d) (inner_value t)) None)) h
    ∙ ap (λ (u : Bool). cond u (onto (hex_byte c d) (inner_value t)) None) e

pub joined_onto : (bs : List ℕ) (b : ℕ) (o : Option (List ℕ)) → joined_values (Some (bs ++ b ∷ [])) o ≡ joined_values (Some bs) (onto b o)
joined_onto bs b (Some ys) = ap (λ (u : List ℕ). Some u) (append_assoc bs (b ∷ []) ys)
joined_onto bs b None = refl

pub inner_begins : (t : Text) → joined_values (Some []) (inner_value t) ≡ inner_value t
inner_begins t = by_value (inner_value t)
  where
    by_value : (o : Option (List ℕ)) → joined_values (Some []) o ≡ o
    by_value (Some ys) = refl
    by_value None = refl

pub inner_goes_on : (t left rest bs new : List ℕ) (b : ℕ) → joined_values (Some bs) (inner_value left) ≡ inner_value t → inner_value left ≡ onto b (inner_value rest) → new ≡ bs ++ b ∷ [] → joined_values (Some new) (inner_value rest) ≡ inner_value t
inner_goes_on t left rest bs new b all e added =
    ap (λ (u : List ℕ). joined_values (Some u) (inner_value rest)) added ∙ joined_onto bs b (inner_value rest) ∙ ap (joined_values (Some bs)) (sym e) ∙ all

pub inner_stops : (most : ℕ) (t left bs : List ℕ) → joined_values (Some bs) (inner_value left) ≡ inner_value t → inner_value left ≡ None → word_value (inner most) t ≡ None
inner_stops most t left bs all e = ap (sized (λ k. nat_le k most)) (sym all ∙ ap (joined_values (Some bs)) e)

whole_is : (t left bs : List ℕ) → joined_values (Some bs) (inner_value left) ≡ inner_value t → left ≡ [] → inner_value t ≡ Some bs
unfolding inner_value
whole_is t left bs all e = sym all ∙ ap (λ (u : List ℕ). joined_values (Some bs) (inner_value u)) e ∙ ap (λ (u : List ℕ). Some u) (append-nil bs)

le-leb : (a b : ℕ) → a ≤ b → nat_le a b ≡ true
le-leb a b h = grind arith

lt-leb-false : (a b : ℕ) → b < a → nat_le a b ≡ false
lt-leb-false a b h = grind arith

pub inner_ends : (most : ℕ) (t left bs : List ℕ) → joined_values (Some bs) (inner_value left) ≡ inner_value t → left ≡ [] → length bs ≤ most → word_value (inner most) t ≡ Some (bytes bs)
inner_ends most t left bs all e fits = ap (sized (λ k. nat_le k most)) (whole_is t left bs all e) ∙ ap (λ (b : Bool). when b (bytes bs)) (le-leb (length bs) most fits)

pub inner_long : (most : ℕ) (t left bs : List ℕ) → joined_values (Some bs) (inner_value left) ≡ inner_value t → left ≡ [] → most < length bs → word_value (inner most) t ≡ None
inner_long most t left bs all e over = ap (sized (λ k. nat_le k most)) (whole_is t left bs all e) ∙ ap (λ (b : Bool). when b (bytes bs)) (lt-leb-false (length bs) most over)

pub nothing_left : (xs : List ℕ) (v : Bool) → v ≡ eqb (length xs) 0 → v ≡ true → xs ≡ []
nothing_left [] v e f = refl
nothing_left (x ∷ xs) v e f = let g = eqb-true (length (x ∷ xs)) 0 (sym e ∙ f) in absurd (omega (arith, g))
