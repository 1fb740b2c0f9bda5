-- What words mean, beside what the readers of single values answer.
use Rattle.std.proofs.Common.{◌≡◌, ◌↔◌, ◌⊎◌, ℕ, ◌<◌, ◌≤◌, ◌^◌, Bool, true, false, IsTrue, ◌&&◌, eqb, nat_le, cond, ◌+◌, List, [], ◌∷◌, ◌++◌, length, take, drop, get_or, append_assoc, Option, Some, None, Result, Ok, Err, refl, sym, ap, subst, ◌∙◌, arith, inl, inr}
use Rattle.std.proofs.lemmas.Bool.{and_parts, and_from, false≢true, eqb-true, eq-eqb, cases_Bool}
use Rattle.std.specs.Fmt.{decimal}
use Rattle.std.specs.Str.Parse.{digits_value}
use Rattle.std.proofs.lemmas.Fmt.{decimal_is_IsNumeral}
use Rattle.hex.specs.Hex.{encode_lower, decode_of}
use Rattle.hex.specs.declared.error.FromHexError.{FromHexError}
use Rattle.hex.proofs.HexLemmas.{decode_of-ok, decode_of-encode_lower}
use Rattle.sd_outside.specs.declared.packet.Mac.{Mac}
use Rattle.sd_xdr.specs.Kind.{Value, number, bytes, number_of}
use Rattle.sd_text.specs.Texts.{IsNumber, IsMac, Text}
use Rattle.sd_text.specs.Answers as script
use Rattle.sd_text.specs.Kind.{same, digits, pairs}
use Rattle.sd_text.specs.Grammar.{when, number_value, decoded, pairs_value, sized, word_value}
use Rattle.sd_text.specs.Reading.{Finds, strip, front, behind}
use Rattle.std.proofs.lemmas.List.{drop_more, drop_all, take_more, append-nil}
use Rattle.sd_text.proofs.Leading.{same_is}

pub same_self : (s : Text) → same s s ≡ true
same_self [] = refl
same_self (b ∷ s) = and_from (eqb b b) (same s s) (eq-eqb b b refl) (same_self s)

pub same_from : (s t : Text) (b : Bool) → (IsTrue b ↔ (s ≡ t)) → b ≡ same t s
same_from s t true h = subst (λ (u : Text). true ≡ same u s) (h.0 refl) (sym (same_self s))
same_from s t false h = elim (cases_Bool (same t s)) [
  | inl equal ↦ absurd (false≢true (h.1 (sym (same_is t s equal))))
  | inr other ↦ sym other
]

-- ---- fixed texts

pub strip_short : (s t : Text) → length t < length s → strip s t ≡ None
unfolding strip
strip_short [] t h = absurd (omega (arith, h))
strip_short (a ∷ s) [] h = refl
strip_short (a ∷ s) (b ∷ t) h = by_test (eqb a b) (strip_short s t (omega (arith, h)))
  where
    by_test : (v : Bool) → strip s t ≡ None → cond v (strip s t) None ≡ None
    by_test true e = e
    by_test false e = refl

pub strip_long : (s t : Text) → length s ≤ length t → strip s t ≡ cond (same s (take (length s) t)) (Some (drop (length s) t)) None
unfolding strip
strip_long [] t h = refl
strip_long (a ∷ s) [] h = absurd (omega (arith, h))
strip_long (a ∷ s) (b ∷ t) h = by_test (eqb a b) (strip_long s t (omega (arith, h)))
  where
    by_test : (v : Bool) → strip s t ≡ cond (same s (take (length s) t)) (Some (drop (length s) t)) None → cond v (strip s t) None ≡ cond (v && same s (take (length s) t)) (Some (drop (length s) t)) None
    by_test true e = e
    by_test false e = refl

pub strip_same : (s t : Text) → length s ≤ length t → same s (take (length s) t) ≡ true → strip s t ≡ Some (drop (length s) t)
strip_same s t h e = strip_long s t h ∙ ap (λ (v : Bool). cond v (Some (drop (length s) t)) None) e

pub strip_other : (s t : Text) → length s ≤ length t → same s (take (length s) t) ≡ false → strip s t ≡ None
strip_other s t h e = strip_long s t h ∙ ap (λ (v : Bool). cond v (Some (drop (length s) t)) None) e

-- ---- fronts

pub front_step : (p : ℕ → Bool) (t : Text) (i : ℕ) → i < length t → p (get_or t i 0) ≡ true → (front p (drop i t) ≡ get_or t i 0 ∷ front p (drop (i + 1) t)) × (behind p (drop i t) ≡ behind p (drop (i + 1) t))
front_step p t i h e =
    let d = drop_more t i 0 h in (
      ap (front p) d ∙ ap (λ (v : Bool). cond v (get_or t i 0 ∷ front p (drop (i + 1) t)) []) e,
      ap (behind p) d ∙ ap (λ (v : Bool). cond v (behind p (drop (i + 1) t)) (get_or t i 0 ∷ drop (i + 1) t)) e,
    )

pub front_stop : (p : ℕ → Bool) (t : Text) (i : ℕ) → i < length t → p (get_or t i 0) ≡ false → (front p (drop i t) ≡ []) × (behind p (drop i t) ≡ drop i t)
front_stop p t i h e =
    let d = drop_more t i 0 h in (
      ap (front p) d ∙ ap (λ (v : Bool). cond v (get_or t i 0 ∷ front p (drop (i + 1) t)) []) e,
      ap (behind p) d ∙ ap (λ (v : Bool). cond v (behind p (drop (i + 1) t)) (get_or t i 0 ∷ drop (i + 1) t)) e ∙ sym d,
    )

pub front_end : (p : ℕ → Bool) (t : Text) (i : ℕ) → i ≡ length t → (front p (drop i t) ≡ []) × (behind p (drop i t) ≡ drop i t)
front_end p t i h =
    let d : drop i t ≡ [] = ap (λ (k : ℕ). drop k t) h ∙ drop_all (length t) t (omega arith) in
    (ap (front p) d, ap (behind p) d ∙ sym d)

pub front_goes_on : (p : ℕ → Bool) (t all : Text) (i : ℕ) → i < length t → p (get_or t i 0) ≡ true → take i t ++ front p (drop i t) ≡ all → take (i + 1) t ++ front p (drop (i + 1) t) ≡ all
front_goes_on p t all i h e k =
    ap (λ (u : Text). u ++ front p (drop (i + 1) t)) (take_more t i 0 h) ∙ append_assoc (take i t) (get_or t i 0 ∷ []) (front p (drop (i + 1) t))
    ∙ ap (λ (u : Text). take i t ++ u) (sym (front_step p t i h e).0) ∙ k

pub front_done : (s front all : Text) → front ≡ [] → s ++ front ≡ all → s ≡ all
front_done s front all e k = sym (append-nil s) ∙ ap (λ (u : Text). s ++ u) (sym e) ∙ k

-- ---- numbers

leb-le : (a b : ℕ) → nat_le a b ≡ true → a ≤ b
leb-le a b h = grind arith

le-leb : (a b : ℕ) → a ≤ b → nat_le a b ≡ true
le-leb a b h = grind arith

pub number_is : (low high : ℕ) (t : Text) (n : ℕ) → IsNumber low high t n → number_value low high t ≡ Some (number n)
unfolding number_value
number_is low high t n h =
    let value : digits_value 10 t ≡ n = ap (digits_value 10) h.is ∙ (decimal_is_IsNumeral n h.fits).1 in
    let test : (same (decimal n) t && nat_le low n && nat_le n high) ≡ true =
    and_from (same (decimal n) t && nat_le low n) (nat_le n high) (and_from (same (decimal n) t) (nat_le low n) (subst (λ (u : Text). same (decimal n) u ≡ true) (sym h.is) (same_self (decimal n))) (le-leb low n h.low)) (le-leb n high h.high) in
    ap (λ (k : ℕ). when (same (decimal k) t && nat_le low k && nat_le k high) (number k)) value
    ∙ ap (λ (b : Bool). when b (number n)) test

pub is_number : (low high : ℕ) (t : Text) (x : Value) → high < 2 ^ 64 → number_value low high t ≡ Some x → (n : ℕ) × (x ≡ number n) × IsNumber low high t n
unfolding number_value
is_number low high t x fits e = by_test (digits_value 10 t) (same (decimal (digits_value 10 t)) t && nat_le low (digits_value 10 t) && nat_le (digits_value 10 t) high) refl e
  where
    by_test : (n : ℕ) (b : Bool) → (same (decimal n) t && nat_le low n && nat_le n high) ≡ b → when b (number n) ≡ Some x → (n : ℕ) × (x ≡ number n) × IsNumber low high t n
    by_test n true h e =
        let p = and_parts (same (decimal n) t && nat_le low n) (nat_le n high) h in
        let q = and_parts (same (decimal n) t) (nat_le low n) p.0 in
        let f : number n ≡ x = cc e in
        let top = leb-le n high p.1 in
        (n, sym f, record { is = sym (same_is (decimal n) t q.0); low = leb-le low n q.1; high = top; fits = omega (arith, top, fits) })
    by_test n false h e = absurd cc

pub none_or : {X : Type 0} (o : Option X) → ((x : X) → o ≡ Some x → ⊥) → o ≡ None
none_or (Some x) h = absurd (h x refl)
none_or None h = refl

pub number_found : (low high : ℕ) (t : Text) (r : Option ℕ) → high < 2 ^ 64 → script.Finds (IsNumber low high t) r → Finds (digits low high) number t r
number_found low high t (Some n) fits h = number_is low high t n h
number_found low high t None fits h = none_or (number_value low high t) (λ x e. let i = is_number low high t x fits e in h i.0 i.2)

-- ---- pairs of digits

pub pairs_is : (t bs : List ℕ) → decode_of t ≡ Ok bs → t ≡ encode_lower bs → pairs_value t ≡ Some bs
unfolding pairs_value
pairs_is t bs read is =
    ap (λ (r : Result (List ℕ) FromHexError). decoded r t) read ∙ ap (λ (b : Bool). when b bs) (subst (λ (u : Text). same (encode_lower bs) u ≡ true) (sym is) (same_self (encode_lower bs)))

pub is_pairs : (t bs : List ℕ) → pairs_value t ≡ Some bs → (t ≡ encode_lower bs) × (decode_of t ≡ Ok bs)
unfolding pairs_value
is_pairs t bs e = by_read (decode_of t) refl e
  where
    by_test : (b : Bool) (xs : List ℕ) → same (encode_lower xs) t ≡ b → decode_of t ≡ Ok xs → when b xs ≡ Some bs → (t ≡ encode_lower bs) × (decode_of t ≡ Ok bs)
    by_test true xs h f e = let g : xs ≡ bs = cc e in (sym (same_is (encode_lower xs) t h) ∙ ap encode_lower g, f ∙ ap (λ (u : List ℕ). Ok u) g)
    by_test false xs h f e = absurd cc

    by_read : (r : Result (List ℕ) FromHexError) → decode_of t ≡ r → decoded r t ≡ Some bs → (t ≡ encode_lower bs) × (decode_of t ≡ Ok bs)
    by_read (Ok xs) f e = by_test (same (encode_lower xs) t) xs refl f e
    by_read (Err d) f e = absurd cc

pub mac_found : (t : Text) (r : Option Mac) → script.Finds (IsMac t) r → Finds (pairs 6) (λ m. bytes m.0) t r
mac_found t (Some m) h =
    let read : decode_of t ≡ Ok m.0 = ap decode_of h.is ∙ decode_of-encode_lower m.0 h.bytes in
    ap (sized (λ k. eqb k 6)) (pairs_is t m.0 read h.is) ∙ ap (λ (b : Bool). when b (bytes m.0)) (eq-eqb (length m.0) 6 h.six)
mac_found t None h = none_or (sized (λ k. eqb k 6) (pairs_value t)) (λ x e. by_pairs (pairs_value t) refl x e)
  where
    by_test : (bs : List ℕ) (b : Bool) → pairs_value t ≡ Some bs → eqb (length bs) 6 ≡ b → (x : Value) → when b (bytes bs) ≡ Some x → ⊥
    by_test bs true f six x e =
        let p = is_pairs t bs f in
        h (record { 0 = bs }) (record { six = eqb-true (length bs) 6 six; bytes = (decode_of-ok t bs p.1).3; is = p.0 })
    by_test bs false f six x e = cc e

    by_pairs : (o : Option (List ℕ)) → pairs_value t ≡ o → (x : Value) → sized (λ k. eqb k 6) o ≡ Some x → ⊥
    by_pairs (Some bs) f x e = by_test bs (eqb (length bs) 6) f refl x e
    by_pairs None f x e = cc e
