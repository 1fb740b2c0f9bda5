-- Byte runs, beside what the reader of byte runs answers.
use Rattle.std.proofs.Common.{◌≡◌, ◌⊎◌, ℕ, zero, suc, ◌+◌, ◌*◌, ◌<◌, ◌≤◌, ◌^◌, Bool, true, false, cond, ◌&&◌, eqb, nat_le, List, [], ◌∷◌, ◌++◌, length, take, drop, get_or, replicate, Option, Some, None, Ok, refl, sym, ap, subst, ◌∙◌, arith, inl, inr, length-take-le}
use Rattle.std.specs.Prelude.{codes}
use Rattle.std.proofs.lemmas.Bool.{and_parts, and_from, false≢true, eqb-true, eq-eqb, cases_Bool}
use Rattle.std.specs.Fmt.{decimal}
use Rattle.hex.specs.Hex.{encode_lower, IsBytes, decode_of}
use Rattle.hex.proofs.HexLemmas.{decode_of-ok, decode_of-encode_lower}
use Rattle.sd_xdr.specs.Kind.{Value, number, bytes, number_of}
use Rattle.sd_text.specs.Runs.{Item, pairs, repeated, item_text, IsItem, item_bytes, IsItems, IsRuns, IsRunsWithin}
use Rattle.sd_text.specs.Texts.{cut, IsNumber, Text}
use Rattle.sd_text.specs.Answers as script
use Rattle.sd_text.proofs.ItemLemmas.{RepeatedAt, repeated_at, repeated_from, pairs_at, one_pair, one_runs}
use Rattle.sd_text.proofs.HexCase.{length-encoded}
use Rattle.sd_text.specs.Kind.{is_some_text, same, run}
use Rattle.sd_text.specs.Grammar.{when, number_value, pairs_value, sized, word_value, is_times, times_value, item_value, joined_values, items_value, run_value}
use Rattle.sd_text.proofs.Leading.{same_is}
use Rattle.sd_text.proofs.Meanings.{none_or, same_self, number_is, is_number, pairs_is, is_pairs}

times_from : (t : Text) → 3 ≤ length t → get_or t 2 0 ≡ 42 → is_times t ≡ true
times_from [] h e = absurd (omega (arith, h))
times_from (a ∷ []) h e = absurd (omega (arith, h))
times_from (a ∷ b ∷ []) h e = absurd (omega (arith, h))
times_from (a ∷ b ∷ c ∷ t) h e = eq-eqb c 42 e

times_at : (t : Text) → is_times t ≡ true → (3 ≤ length t) × (get_or t 2 0 ≡ 42)
times_at [] h = absurd (false≢true h)
times_at (a ∷ []) h = absurd (false≢true h)
times_at (a ∷ b ∷ []) h = absurd (false≢true h)
times_at (a ∷ b ∷ c ∷ t) h = (omega arith, eqb-true c 42 h)

some_from : (t : Text) → 0 < length t → is_some_text t ≡ true
some_from [] h = absurd (omega (arith, h))
some_from (b ∷ t) h = refl

some_at : (t : Text) → is_some_text t ≡ true → 0 < length t
some_at [] h = absurd (false≢true h)
some_at (b ∷ t) h = omega arith

alone : (b : ℕ) → b < 256 → IsBytes (b ∷ [])
alone b h zero = h
alone b h (suc i) = omega arith

-- an item by its two tests
item_by : (t : Text) (b : Bool) (o : Option (List ℕ)) → is_some_text t ≡ true → is_times t ≡ b → cond b (times_value (pairs_value (take 2 t)) (number_value 2 18446744073709551615 (drop 3 t))) (pairs_value t) ≡ o → item_value t ≡ o
unfolding item_value
item_by t b o some times e =
    ap (λ (v : Bool). cond v (cond (is_times t) (times_value (pairs_value (take 2 t)) (number_value 2 18446744073709551615 (drop 3 t))) (pairs_value t)) None) some
    ∙ ap (λ (v : Bool). cond v (times_value (pairs_value (take 2 t)) (number_value 2 18446744073709551615 (drop 3 t))) (pairs_value t)) times ∙ e

item_is : (t : Text) (item : Item) → IsItem item → t ≡ item_text item → item_value t ≡ Some (item_bytes item)
item_is t (pairs bs) is e =
    let long : 0 < length t = omega (arith, ap length e, length-encoded bs, is.0) in
    elim (cases_Bool (is_times t)) [
      | inl times ↦ let at = times_at t times in absurd (pairs_at t bs is.1 e at.0 at.1)
      | inr other ↦ item_by t false (Some bs) (some_from t long) other (pairs_is t bs (ap decode_of e ∙ decode_of-encode_lower bs is.1) e)
    ]
item_is t (repeated b n) is e =
    let at = repeated_at t b n e in
    let pair : pairs_value (take 2 t) ≡ Some (b ∷ []) = pairs_is (take 2 t) (b ∷ []) (ap decode_of at.pair ∙ decode_of-encode_lower (b ∷ []) (alone b is.0)) at.pair in
    let count : number_value 2 18446744073709551615 (drop 3 t) ≡ Some (number n) = number_is 2 18446744073709551615 (drop 3 t) n (record { is = at.count; low = is.1; high = omega (arith, is.2); fits = is.2 }) in
    item_by t true (Some (replicate n b)) (some_from t (omega (arith, at.long))) (times_from t at.long at.star)
    (ap (λ (o : Option (List ℕ)). times_value o (number_value 2 18446744073709551615 (drop 3 t))) pair ∙ ap (times_value (Some (b ∷ []))) count)

-- the item of a text
record ItemOf (t : Text) (bs : List ℕ) : Type 0 where
  item : Item
  is : IsItem item
  text : t ≡ item_text item
  stands : bs ≡ item_bytes item

times_item : (t bs : Text) (o : Option (List ℕ)) (m : Option Value) → 3 ≤ length t → get_or t 2 0 ≡ 42 → pairs_value (take 2 t) ≡ o → number_value 2 18446744073709551615 (drop 3 t) ≡ m → times_value o m ≡ Some bs → ItemOf t bs
times_item t bs None m long star f g e = absurd cc
times_item t bs (Some xs) None long star f g e = absurd cc
times_item t bs (Some []) (Some v) long star f g e = absurd cc
times_item t bs (Some (b ∷ xs)) (Some v) long star f g e =
    let p = is_pairs (take 2 t) (b ∷ xs) f in
    let small : IsBytes (b ∷ xs) = (decode_of-ok (take 2 t) (b ∷ xs) p.1).3 in
    let single : length (b ∷ xs) ≡ 1 = omega (arith, ap length p.0, length-encoded (b ∷ xs), length-take-le 2 t (omega (arith, long))) in
    let pair = one_pair (take 2 t) (b ∷ xs) small p.0 single in
    let n = is_number 2 18446744073709551615 (drop 3 t) v (omega arith) g in
    let out : replicate (number_of v) b ≡ bs = cc e in
    record {
      item = repeated b n.0;
      is = (small 0, n.2.low, n.2.fits);
      text = repeated_from t b n.0 (record { long = long; star = star; pair = pair; count = n.2.is });
      stands = sym out ∙ ap (λ (v : Value). replicate (number_of v) b) n.1;
    }

is_item : (t bs : Text) → item_value t ≡ Some bs → ItemOf t bs
unfolding item_value
is_item t bs e = by_some (is_some_text t) refl e
  where
    by_times : (v : Bool) → is_some_text t ≡ true → is_times t ≡ v → cond v (times_value (pairs_value (take 2 t)) (number_value 2 18446744073709551615 (drop 3 t))) (pairs_value t) ≡ Some bs → ItemOf t bs
    by_times true some h e = let at = times_at t h in times_item t bs (pairs_value (take 2 t)) (number_value 2 18446744073709551615 (drop 3 t)) at.0 at.1 refl refl e
    by_times false some h e =
        let p = is_pairs t bs e in
        let ok = decode_of-ok t bs p.1 in
        record { item = pairs bs; is = (omega (arith, ok.2, some_at t some), ok.3); text = p.0; stands = refl }

    by_some : (v : Bool) → is_some_text t ≡ v → cond v (cond (is_times t) (times_value (pairs_value (take 2 t)) (number_value 2 18446744073709551615 (drop 3 t))) (pairs_value t)) None ≡ Some bs → ItemOf t bs
    by_some true some e = by_times (is_times t) some refl e
    by_some false some e = absurd cc

items_are : (ts : List Text) (bs : List ℕ) → IsItems ts bs → items_value ts ≡ Some bs
unfolding items_value
items_are [] bs h = ap (λ (u : List ℕ). Some u) (sym h)
items_are (t ∷ ts) bs h =
    ap (λ (o : Option (List ℕ)). joined_values o (items_value ts)) (item_is t h.0 h.2 h.3) ∙ ap (joined_values (Some (item_bytes h.0))) (items_are ts h.1 h.5) ∙ ap (λ (u : List ℕ). Some u) (sym h.4)

are_items : (ts : List Text) (bs : List ℕ) → items_value ts ≡ Some bs → IsItems ts bs
unfolding items_value
are_items [] bs e = let f : [] ≡ bs = cc e in sym f
are_items (t ∷ ts) bs e = by_parts (item_value t) (items_value ts) refl refl e (λ ys f. are_items ts ys f)
  where
    by_parts : (o p : Option (List ℕ)) → item_value t ≡ o → items_value ts ≡ p → joined_values o p ≡ Some bs → ((ys : List ℕ) → items_value ts ≡ Some ys → IsItems ts ys) → IsItems (t ∷ ts) bs
    by_parts None p f g e r = absurd cc
    by_parts (Some xs) None f g e r = absurd cc
    by_parts (Some xs) (Some ys) f g e r =
        let i = is_item t xs f in
        let out : xs ++ ys ≡ bs = cc e in
        (i.item, ys, i.is, i.text, sym out ∙ ap (λ (u : List ℕ). u ++ ys) i.stands, r ys g)

pub run_is : (t bs : Text) → IsRuns t bs → run_value t ≡ Some bs
unfolding run_value
run_is t bs h = by_test (same t (codes "-")) refl
  where
    by_test : (v : Bool) → same t (codes "-") ≡ v → cond v (Some []) (items_value (cut 46 t)) ≡ Some bs
    by_test true e = ap (λ (u : List ℕ). Some u) (one_runs t [] bs (inl (same_is t (codes "-") e, refl)) h)
    by_test false e = elim h [
      | inl dash ↦ absurd (false≢true (sym e ∙ ap (λ (u : Text). same u (codes "-")) dash.0))
      | inr items ↦ items_are (cut 46 t) bs items
    ]

pub is_run : (t bs : Text) → run_value t ≡ Some bs → IsRuns t bs
unfolding run_value
is_run t bs e = by_test (same t (codes "-")) refl e
  where
    by_test : (v : Bool) → same t (codes "-") ≡ v → cond v (Some []) (items_value (cut 46 t)) ≡ Some bs → IsRuns t bs
    by_test true h e = let f : [] ≡ bs = cc e in inl (same_is t (codes "-") h, sym f)
    by_test false h e = inr (are_items (cut 46 t) bs e)

le-leb : (a b : ℕ) → a ≤ b → nat_le a b ≡ true
le-leb a b h = grind arith

lt-leb-false : (a b : ℕ) → b < a → nat_le a b ≡ false
lt-leb-false a b h = grind arith

leb-le : (a b : ℕ) → nat_le a b ≡ true → a ≤ b
leb-le a b h = grind arith

-- ---- what the reader of byte runs answers

pub run_read : (least most : ℕ) (t bs : Text) → IsRunsWithin most t bs → least ≤ length bs → word_value (run least most) t ≡ Some (bytes bs)
run_read least most t bs h low =
    ap (sized (λ k. nat_le least k && nat_le k most)) (run_is t bs h.is)
    ∙ ap (λ (b : Bool). when b (bytes bs)) (and_from (nat_le least (length bs)) (nat_le (length bs) most) (le-leb least (length bs) low) (le-leb (length bs) most h.within))

pub run_short : (least most : ℕ) (t bs : Text) → IsRunsWithin most t bs → length bs < least → word_value (run least most) t ≡ None
run_short least most t bs h low =
    ap (sized (λ k. nat_le least k && nat_le k most)) (run_is t bs h.is)
    ∙ ap (λ (b : Bool). when (b && nat_le (length bs) most) (bytes bs)) (lt-leb-false least (length bs) low)

pub run_outside : (least most : ℕ) (t : Text) → ((bs : List ℕ) → IsRunsWithin most t bs → ⊥) → word_value (run least most) t ≡ None
run_outside least most t none = by_value (run_value t) refl
  where
    by_test : (bs : List ℕ) (v : Bool) → run_value t ≡ Some bs → (nat_le least (length bs) && nat_le (length bs) most) ≡ v → when v (bytes bs) ≡ None
    by_test bs true e h = absurd (none bs (record { is = is_run t bs e; within = leb-le (length bs) most (and_parts (nat_le least (length bs)) (nat_le (length bs) most) h).1 }))
    by_test bs false e h = refl

    by_value : (o : Option (List ℕ)) → run_value t ≡ o → sized (λ k. nat_le least k && nat_le k most) o ≡ None
    by_value (Some bs) e = by_test bs (nat_le least (length bs) && nat_le (length bs) most) e refl
    by_value None e = refl
