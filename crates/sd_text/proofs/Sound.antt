-- What is read is spelled so.
use Rattle.std.proofs.Common.{◌≡◌, ℕ, zero, suc, ◌+◌, ◌-◌, ◌<◌, Bool, true, false, cond, ◌&&◌, eqb, nat_le, List, [], ◌∷◌, ◌++◌, Option, Some, None, refl, sym, ap, subst, ◌∙◌, append_assoc, arith}
use Rattle.std.proofs.lemmas.List.{append-nil}
use Rattle.std.proofs.lemmas.Bool.{eqb-true, eqb-false, and_from}
use Rattle.std.specs.Fmt.{decimal}
use Rattle.std.specs.Str.Parse.{digits_value}
use Rattle.sd_xdr.specs.Kind.{Value, none, number, bytes, ◌⊗◌, number_of}
use Rattle.sd_text.specs.Texts.{Text}
use Rattle.sd_text.specs.Kind.{is_digit, is_name, all_pass, begins, same, place_in, Word, digits, holds, Kind, void, word, said, between, ◌&◌, many, choice, fork, maybe, where_zero, given, such}
use Rattle.sd_text.specs.Grammar.{when, word_value, number_value, Reads, reads_void, reads_word, reads_said, reads_between, reads_row, reads_end, reads_more, reads_choice, reads_first, reads_other, reads_nothing, reads_some, reads_zero, reads_status, reads_given, reads_such}
use Rattle.sd_text.specs.Reading.{front, behind, Read, ◌>>=◌, word_reading, strip, name_reading, many_reading, reading}
use Rattle.sd_text.proofs.Again.{gives, after_name}

-- a text begins with one of a value
pub record Spelled (K : Kind) (t : Text) (x : Value) (more : Text) : Type 0 where
  pub front : Text
  pub parts : t ≡ front ++ more
  pub reads : Reads K front x

pub bind_some : {A B : Type 0} (r : Option A) (f : A → Option B) (y : B) → (r >>= f) ≡ Some y → (x : A) × (r ≡ Some x) × (f x ≡ Some y)
bind_some (Some x) f y e = (x, refl, e)
bind_some None f y e = absurd cc

pub some_pair : {A : Type 0} (x y : A) (s t : Text) → ◌≡◌ {A = Option (A × Text)} (Some (x, s)) (Some (y, t)) → (x ≡ y) × (s ≡ t)
some_pair {A} x y s t e = let f : (x, s) ≡ (y, t) = cc e in (ap (λ (u : A × Text). u.0) f, ap (λ (u : A × Text). u.1) f)

moved : (K : Kind) (t : Text) (v w : Value) (m n : Text) → Spelled K t v m → ◌≡◌ {A = Read} (Some (v, m)) (Some (w, n)) → Spelled K t w n
moved K t v w m n s e =
    let p = some_pair v w m n e in
    subst (λ (u : Text). Spelled K t w u) p.1 (subst (λ (u : Value). Spelled K t u m) p.0 s)

pub front_behind : (p : ℕ → Bool) (t : Text) → (t ≡ front p t ++ behind p t) × (all_pass p (front p t) ≡ true)
front_behind p [] = (refl, refl)
front_behind p (b ∷ t) = by_test (p b) refl (front_behind p t)
  where
    by_test : (v : Bool) → p b ≡ v → (t ≡ front p t ++ behind p t) × (all_pass p (front p t) ≡ true) → (b ∷ t ≡ cond v (b ∷ front p t) [] ++ cond v (behind p t) (b ∷ t)) × (all_pass p (cond v (b ∷ front p t) []) ≡ true)
    by_test true e r = (ap (λ (u : Text). b ∷ u) r.0, and_from (p b) (all_pass p (front p t)) e r.1)
    by_test false e r = (refl, refl)

pub strip_sound : (s t u : Text) → strip s t ≡ Some u → t ≡ s ++ u
unfolding strip
strip_sound [] t u e = cc e
strip_sound (a ∷ s) [] u e = absurd cc
strip_sound (a ∷ s) (b ∷ t) u e = by_test (eqb a b) refl e (λ f. strip_sound s t u f)
  where
    by_test : (v : Bool) → eqb a b ≡ v → cond v (strip s t) None ≡ Some u → (strip s t ≡ Some u → t ≡ s ++ u) → b ∷ t ≡ a ∷ (s ++ u)
    by_test true is e r = let m = sym (eqb-true a b is) in let n = r e in λ i. m i ∷ n i
    by_test false is e r = absurd cc

pub word_sound : (w : Word) (t more : Text) (x : Value) → word_reading w t ≡ Some (x, more) → (t ≡ front (holds w) t ++ more) × (all_pass (holds w) (front (holds w) t) ≡ true) × (word_value w (front (holds w) t) ≡ Some x)
unfolding word_reading
word_sound w t more x e =
    let i = bind_some (word_value w (front (holds w) t)) (λ (x : Value). Some (x, behind (holds w) t)) (x, more) e in
    let p = some_pair i.0 x (behind (holds w) t) more i.2 in
    let f = front_behind (holds w) t in
    (f.0 ∙ ap (λ (u : Text). front (holds w) t ++ u) p.1, f.1, i.1 ∙ ap (λ (v : Value). Some v) p.0)

-- a value that is read of digits is a number
digits_number : (low high : ℕ) (s : Text) (x : Value) → number_value low high s ≡ Some x → x ≡ number (number_of x)
unfolding number_value
digits_number low high s x e = by_test (same (decimal (digits_value 10 s)) s && nat_le low (digits_value 10 s) && nat_le (digits_value 10 s) high) (digits_value 10 s) e
  where
    by_test : (v : Bool) (n : ℕ) → when v (number n) ≡ Some x → x ≡ number (number_of x)
    by_test true n e = let f : number n ≡ x = cc e in sym f ∙ ap (λ (v : Value). number (number_of v)) f
    by_test false n e = absurd cc

row_sound : (A B : Kind) (t u more : Text) (x y : Value) → Spelled A t x u → Spelled B u y more → Spelled (A & B) t (x ⊗ y) more
row_sound A B t u more x y a b = record { front = a.front ++ b.front; parts = a.parts ∙ ap (λ (v : Text). a.front ++ v) b.parts ∙ sym (append_assoc a.front b.front more); reads = reads_row a.reads b.reads }

more_sound : (K : Kind) (most c : ℕ) (t u v more : Text) (x y : Value) → t ≡ c ∷ u → Spelled K u x v → Spelled (many most c K) v y more → Spelled (many (suc most) c K) t (x ⊗ y) more
more_sound K most c t u v more x y e a b = record {
  front = c ∷ (a.front ++ b.front);
  parts = e ∙ ap (λ (w : Text). c ∷ w) (a.parts ∙ ap (λ (w : Text). a.front ++ w) b.parts ∙ sym (append_assoc a.front b.front more));
  reads = reads_more a.reads b.reads;
}

many_sound : (K : Kind) (c : ℕ) → ((t : Text) (x : Value) (more : Text) → reading K t ≡ Some (x, more) → Spelled K t x more) → (most : ℕ) (t : Text) (x : Value) (more : Text) → many_reading (reading K) c most t ≡ Some (x, more) → Spelled (many most c K) t x more
unfolding many_reading
many_sound K c one zero t x more e = moved (many 0 c K) t none x t more (record { front = []; parts = refl; reads = reads_end 0 c }) e
many_sound K c one (suc most) t x more e = by_test (begins (λ b. eqb b c) t) (λ v y n f. many_sound K c one most v y n f) e
  where
    by_test : (b : Bool) → ((v : Text) (y : Value) (n : Text) → many_reading (reading K) c most v ≡ Some (y, n) → Spelled (many most c K) v y n) → cond b (strip (c ∷ []) t >>= λ (u : Text). reading K u >>= λ (x : Value × Text). many_reading (reading K) c most x.1 >>= λ (y : Value × Text). gives (x.0 ⊗ y.0) y.1) (gives none t) ≡ gives x more → Spelled (many (suc most) c K) t x more
    by_test true rest e =
        let i = bind_some (strip (c ∷ []) t) (λ (u : Text). reading K u >>= λ (x : Value × Text). many_reading (reading K) c most x.1 >>= λ (y : Value × Text). gives (x.0 ⊗ y.0) y.1) (x, more) e in
        let j = bind_some (reading K i.0) (λ (x : Value × Text). many_reading (reading K) c most x.1 >>= λ (y : Value × Text). gives (x.0 ⊗ y.0) y.1) (x, more) i.2 in
        let k = bind_some (many_reading (reading K) c most j.0.1) (λ (y : Value × Text). gives (j.0.0 ⊗ y.0) y.1) (x, more) j.2 in
        moved (many (suc most) c K) t (j.0.0 ⊗ k.0.0) x k.0.1 more (more_sound K most c t i.0 j.0.1 k.0.1 j.0.0 k.0.0 (strip_sound (c ∷ []) t i.0 i.1) (one i.0 j.0.0 j.0.1 j.1) (rest j.0.1 k.0.0 k.0.1 k.1)) k.2
    by_test false rest e = moved (many (suc most) c K) t none x t more (record { front = []; parts = refl; reads = reads_end (suc most) c }) e

status_sound : (K : Kind) → ((t : Text) (x : Value) (more : Text) → reading K t ≡ Some (x, more) → Spelled K t x more) → (t u more : Text) (n x : Value)
    → (t ≡ front is_digit t ++ u) × (all_pass is_digit (front is_digit t) ≡ true) × (number_value 0 4294967295 (front is_digit t) ≡ Some n)
    → (v : Bool) → eqb (number_of n) 0 ≡ v
    → cond v (reading K u >>= λ (x : Value × Text). gives (n ⊗ x.0) x.1) (gives (n ⊗ none) u) ≡ gives x more → Spelled (where_zero K) t x more
status_sound K f t u more n x s true is e =
    let i = bind_some (reading K u) (λ (x : Value × Text). gives (n ⊗ x.0) x.1) (x, more) e in
    let r = f u i.0.0 i.0.1 i.1 in
    let n_is : n ≡ number 0 = digits_number 0 4294967295 (front is_digit t) n s.2 ∙ ap (λ (k : ℕ). number k) (eqb-true (number_of n) 0 is) in
    let value : number_value 0 4294967295 (front is_digit t) ≡ Some (number 0) = s.2 ∙ ap (λ (v : Value). Some v) n_is in
    let made : Spelled (where_zero K) t (number 0 ⊗ i.0.0) i.0.1 = record {
      front = front is_digit t ++ r.front;
      parts = s.0 ∙ ap (λ (v : Text). front is_digit t ++ v) r.parts ∙ sym (append_assoc (front is_digit t) r.front i.0.1);
      reads = reads_zero (front is_digit t) s.1 value r.reads;
    } in
    moved (where_zero K) t (n ⊗ i.0.0) x i.0.1 more (subst (λ (v : Value). Spelled (where_zero K) t (v ⊗ i.0.0) i.0.1) (sym n_is) made) i.2
status_sound K f t u more n x s false is e =
    let some : number_of n ≡ suc (number_of n - 1) = omega (arith, eqb-false (number_of n) 0 is) in
    let n_is : n ≡ number (suc (number_of n - 1)) = digits_number 0 4294967295 (front is_digit t) n s.2 ∙ ap (λ (k : ℕ). number k) some in
    let value : number_value 0 4294967295 (front is_digit t) ≡ Some (number (suc (number_of n - 1))) = s.2 ∙ ap (λ (v : Value). Some v) n_is in
    let made : Spelled (where_zero K) t (number (suc (number_of n - 1)) ⊗ none) u = record {
      front = front is_digit t;
      parts = s.0;
      reads = reads_status (front is_digit t) (number_of n - 1) s.1 value;
    } in
    moved (where_zero K) t (n ⊗ none) x u more (subst (λ (v : Value). Spelled (where_zero K) t (v ⊗ none) u) (sym n_is) made) e

-- What is read is spelled so.
pub sound : (K : Kind) (t : Text) (x : Value) (more : Text) → reading K t ≡ Some (x, more) → Spelled K t x more
unfolding reading name_reading
sound void t x more e = moved void t none x t more (record { front = []; parts = refl; reads = reads_void }) e
sound (word w) t x more e =
    let s = word_sound w t more x e in
    record { front = front (holds w) t; parts = s.0; reads = reads_word (front (holds w) t) s.1 s.2 }
sound (said s K) t x more e =
    let i = bind_some (strip s t) (λ (u : Text). reading K u) (x, more) e in
    let r = sound K i.0 x more i.2 in
    record { front = s ++ r.front; parts = strip_sound s t i.0 i.1 ∙ ap (λ (u : Text). s ++ u) r.parts ∙ sym (append_assoc s r.front more); reads = reads_said s r.reads }
sound (between a K b) t x more e =
    let i = bind_some (strip (a ∷ []) t) (λ (u : Text). reading K u >>= λ (x : Value × Text). strip (b ∷ []) x.1 >>= λ (v : Text). Some (x.0, v)) (x, more) e in
    let j = bind_some (reading K i.0) (λ (x : Value × Text). strip (b ∷ []) x.1 >>= λ (v : Text). Some (x.0, v)) (x, more) i.2 in
    let k = bind_some (strip (b ∷ []) j.0.1) (λ (v : Text). Some (j.0.0, v)) (x, more) j.2 in
    let r = sound K i.0 j.0.0 j.0.1 j.1 in
    moved (between a K b) t j.0.0 x k.0 more (record {
      front = a ∷ (r.front ++ b ∷ []);
      parts = strip_sound (a ∷ []) t i.0 i.1 ∙ ap (λ (u : Text). a ∷ u) (r.parts ∙ ap (λ (u : Text). r.front ++ u) (strip_sound (b ∷ []) j.0.1 k.0 k.1) ∙ sym (append_assoc r.front (b ∷ []) k.0));
      reads = reads_between a b r.reads;
    }) k.2
sound (A & B) t x more e =
    let i = bind_some (reading A t) (λ (x : Value × Text). reading B x.1 >>= λ (y : Value × Text). gives (x.0 ⊗ y.0) y.1) (x, more) e in
    let j = bind_some (reading B i.0.1) (λ (y : Value × Text). gives (i.0.0 ⊗ y.0) y.1) (x, more) i.2 in
    moved (A & B) t (i.0.0 ⊗ j.0.0) x j.0.1 more (row_sound A B t i.0.1 j.0.1 i.0.0 j.0.0 (sound A t i.0.0 i.0.1 i.1) (sound B i.0.1 j.0.0 j.0.1 j.1)) j.2
sound (many most c K) t x more e = many_sound K c (sound K) most t x more e
sound (choice names arm) t x more e =
    let i = bind_some (name_reading names t) (λ (n : ℕ × Text). reading (arm n.0) n.1 >>= λ (x : Value × Text). gives (number n.0 ⊗ x.0) x.1) (x, more) e in
    let j = bind_some (reading (arm i.0.0) i.0.1) (λ (x : Value × Text). gives (number i.0.0 ⊗ x.0) x.1) (x, more) i.2 in
    let r = sound (arm i.0.0) i.0.1 j.0.0 j.0.1 j.1 in
    let n = named_sound names t i.0.0 i.0.1 i.1 in
    moved (choice names arm) t (number i.0.0 ⊗ j.0.0) x j.0.1 more (record {
      front = front is_name t ++ r.front;
      parts = n.0 ∙ ap (λ (u : Text). front is_name t ++ u) r.parts ∙ sym (append_assoc (front is_name t) r.front j.0.1);
      reads = reads_choice (front is_name t) i.0.0 n.1 r.reads;
    }) j.2
  where
    named_sound : (names : List Text) (t : Text) (n : ℕ) (u : Text) → name_reading names t ≡ Some (n, u) → (t ≡ front is_name t ++ u) × (place_in (front is_name t) names ≡ Some n)
    named_sound names t n u e =
        let i = bind_some (place_in (front is_name t) names) (λ (n : ℕ). Some (n, behind is_name t)) (n, u) e in
        let p = some_pair i.0 n (behind is_name t) u i.2 in
        ((front_behind is_name t).0 ∙ ap (λ (v : Text). front is_name t ++ v) p.1, i.1 ∙ ap (λ (m : ℕ). Some m) p.0)
sound (fork p A B) t x more e = by_test (begins p t) (sound A) (sound B) e
  where
    by_test : (v : Bool) → ((t : Text) (x : Value) (more : Text) → reading A t ≡ Some (x, more) → Spelled A t x more) → ((t : Text) (x : Value) (more : Text) → reading B t ≡ Some (x, more) → Spelled B t x more)
        → cond v (reading A t >>= λ (x : Value × Text). gives (number 0 ⊗ x.0) x.1) (reading B t >>= λ (x : Value × Text). gives (number 1 ⊗ x.0) x.1) ≡ gives x more → Spelled (fork p A B) t x more
    by_test true f g e =
        let i = bind_some (reading A t) (λ (x : Value × Text). gives (number 0 ⊗ x.0) x.1) (x, more) e in
        let r = f t i.0.0 i.0.1 i.1 in
        moved (fork p A B) t (number 0 ⊗ i.0.0) x i.0.1 more (record { front = r.front; parts = r.parts; reads = reads_first r.reads }) i.2
    by_test false f g e =
        let i = bind_some (reading B t) (λ (x : Value × Text). gives (number 1 ⊗ x.0) x.1) (x, more) e in
        let r = g t i.0.0 i.0.1 i.1 in
        moved (fork p A B) t (number 1 ⊗ i.0.0) x i.0.1 more (record { front = r.front; parts = r.parts; reads = reads_other r.reads }) i.2
sound (maybe p K) t x more e = by_test (begins p t) (sound K) e
  where
    by_test : (v : Bool) → ((t : Text) (x : Value) (more : Text) → reading K t ≡ Some (x, more) → Spelled K t x more) → cond v (reading K t) (gives none t) ≡ gives x more → Spelled (maybe p K) t x more
    by_test true f e = let r = f t x more e in record { front = r.front; parts = r.parts; reads = reads_some r.reads }
    by_test false f e = moved (maybe p K) t none x t more (record { front = []; parts = refl; reads = reads_nothing }) e
sound (where_zero K) t x more e =
    let i = bind_some (word_reading (digits 0 4294967295) t) (λ (n : Value × Text). cond (eqb (number_of n.0) 0) (reading K n.1 >>= λ (x : Value × Text). gives (n.0 ⊗ x.0) x.1) (Some (n.0 ⊗ none, n.1))) (x, more) e in
    let s = word_sound (digits 0 4294967295) t i.0.1 i.0.0 i.1 in
    status_sound K (sound K) t i.0.1 more i.0.0 x s (eqb (number_of i.0.0) 0) refl i.2
sound (given n K) t x more e =
    let i = bind_some (reading K t) (λ (x : Value × Text). gives (number n ⊗ x.0) x.1) (x, more) e in
    let r = sound K t i.0.0 i.0.1 i.1 in
    moved (given n K) t (number n ⊗ i.0.0) x i.0.1 more (record { front = r.front; parts = r.parts; reads = reads_given n r.reads }) i.2
sound (such f K) t x more e =
    let i = bind_some (reading K t) (λ (x : Value × Text). cond (f x.0) (Some x) None) (x, more) e in
    by_test (f i.0.0) refl i.2 (sound K t i.0.0 i.0.1 i.1)
  where
    by_test : {v : Value} {m : Text} (b : Bool) → f v ≡ b → cond b (gives v m) None ≡ gives x more → Spelled K t v m → Spelled (such f K) t x more
    by_test {v} {m} true h e r = moved (such f K) t v x m more (record { front = r.front; parts = r.parts; reads = reads_such r.reads h }) e
    by_test {v} {m} false h e r = absurd cc
