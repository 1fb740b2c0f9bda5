-- Reading from left to right is the grammar: what is read is spelled so, what is spelled is read, and a refusal is the one that
-- the grammar names.
use Rattle.std.proofs.Common.{◌≡◌, ℕ, zero, suc, ◌+◌, ◌<◌, ◌≤◌, Bool, true, false, cond, eqb, ltb, List, [], ◌∷◌, ◌++◌, length, drop, Some, Result, Ok, Err, refl, sym, ap, subst, ◌∙◌, append_assoc, arith, inl, inr, ◌⊎◌, add_assoc}
use Rattle.std.proofs.lemmas.Bool.{eqb-true}
use Rattle.std.proofs.lemmas.List.{drop_at, length-append, append-nil, nil_from_length}
use Rattle.sd_xdr.specs.declared.error.XdrError.TheVariants.{Short, Tail}
use Rattle.sd_xdr.specs.declared.error.MsgError.{MsgError}
use Rattle.sd_xdr.specs.declared.error.MsgError.TheVariants.{Xdr}
use Rattle.sd_xdr.specs.Kind.{Word, flag, meaning, End, part, whole, Kind, void, word, opaque, list, ◌&◌, union, given, ended, rest, Value, none, number, bytes, ◌⊗◌, number_of}
use Rattle.sd_xdr.specs.Grammar.{front_word, word_bytes, word_refusal, reads_void, reads_rest, reads_row, reads_union, reads_end, reads_more, reads_given, Refuses, refuses_word, refuses_opaque, refuses_first, refuses_second, refuses_discriminant, refuses_arm, refuses_flag, refuses_item, refuses_later, refuses_given, reads_ended, refuses_last, refuses_tail, filled, counted}
use Rattle.sd_xdr.specs.Reading.{Cursor, Read, ◌>>=◌, skip, word_reading, rest_reading, end_reading, items_reading, reading}
use Rattle.sd_outside.specs.Bytes.{IsBytes}
use Rattle.sd_xdr.proofs.Spelled.{IsBytes-drop, Spelled, Spelled-rest, not_whole, word_stands, front_is, word_spelled, word_refused, opaque_spelled, opaque_refused}

-- ---- steps of a reading

pub bind_ok : {A B : Type 0} (r : Result A MsgError) (f : A → Result B MsgError) (y : B) → (r >>= f) ≡ Ok y → (x : A) × (r ≡ Ok x) × (f x ≡ Ok y)
unfolding word_bytes filled counted
bind_ok (Ok x) f y e = (x, refl, e)
bind_ok (Err d) f y e = absurd cc

pub bind_err : {A B : Type 0} (r : Result A MsgError) (f : A → Result B MsgError) (d : MsgError) → (r >>= f) ≡ Err d → (r ≡ Err d) ⊎ ((x : A) × (r ≡ Ok x) × (f x ≡ Err d))
unfolding word_bytes filled counted
bind_err (Ok x) f d e = inr (x, refl, e)
bind_err (Err c) f d e = inl cc

pub ok_is : {A : Type 0} (x y : A) → ◌≡◌ {A = Result A MsgError} (Ok x) (Ok y) → x ≡ y
unfolding word_bytes filled counted
ok_is x y e = cc

moved : (e : End) (K : Kind e) (c : Cursor) (v w : Value × Cursor) → v ≡ w → Spelled e K c v.0 v.1 → Spelled e K c w.0 w.1
unfolding word_bytes filled counted
moved e K c v w h s = subst (λ (u : Value × Cursor). Spelled e K c u.0 u.1) h s

-- ---- what is read is spelled so

row_spelled : (e : End) (A : Kind part) (B : Kind e) (c d f : Cursor) (x y : Value) → Spelled part A c x d → Spelled e B d y f → Spelled e (A & B) c (x ⊗ y) f
unfolding word_bytes filled counted
row_spelled e A B c d f x y s t = record {
  front = s.front ++ t.front;
  parts = s.parts ∙ ap (λ (u : List ℕ). s.front ++ u) t.parts ∙ sym (append_assoc s.front t.front f.rest);
  place = t.place ∙ ap (λ (k : ℕ). k + length t.front) s.place ∙ add_assoc c.at (length s.front) (length t.front) ∙ ap (λ (k : ℕ). c.at + k) (sym (length-append s.front t.front));
  reads = reads_row s.reads t.reads;
  last = t.last;
}

union_spelled : (e : End) (w : Word) (arm : ℕ → Kind e) (c d f : Cursor) (x y : Value) → IsBytes c.rest → word_reading w c ≡ Ok (x, d) → Spelled e (arm (number_of x)) d y f → Spelled e (union w arm) c (x ⊗ y) f
unfolding word_bytes filled counted
union_spelled e w arm c d f x y fits h t =
    let s = word_stands w c x d h in
    let g = front_is c.rest fits s.long in
    let n = front_word c.rest in
    let arm_is : number_of x ≡ meaning w (front_word c.rest) = ap number_of (sym s.value) in
    let t2 : Spelled e (arm (meaning w (front_word c.rest))) d y f = subst (λ (k : ℕ). Spelled e (arm k) d y f) arm_is t in
    let rest_is : drop 4 c.rest ≡ d.rest = ap (λ (u : Cursor). u.rest) s.after in
    let at_is : c.at + 4 ≡ d.at = ap (λ (u : Cursor). u.at) s.after in
    let made : Spelled e (union w arm) c (number (meaning w (front_word c.rest)) ⊗ y) f = record {
      front = word_bytes (front_word c.rest) ++ t2.front;
      parts = g.0 ∙ ap (λ (u : List ℕ). word_bytes (front_word c.rest) ++ u) (rest_is ∙ t2.parts) ∙ sym (append_assoc (word_bytes (front_word c.rest)) t2.front f.rest);
      place = t2.place ∙ ap (λ (k : ℕ). k + length t2.front) (sym at_is) ∙ add_assoc c.at 4 (length t2.front) ∙ ap (λ (k : ℕ). c.at + k) (sym (length-append (word_bytes (front_word c.rest)) t2.front));
      reads = reads_union (front_word c.rest) g.1 s.allowed t2.reads;
      last = t2.last;
    } in
    subst (λ (u : Value). Spelled e (union w arm) c (u ⊗ y) f) s.value made

given_spelled : (e : End) (n : ℕ) (K : Kind e) (c : Cursor) (x : Value) (d : Cursor) → Spelled e K c x d → Spelled e (given n K) c (number n ⊗ x) d
unfolding word_bytes filled counted
given_spelled e n K c x d s = record { front = s.front; parts = s.parts; place = s.place; reads = reads_given s.reads; last = s.last }

-- the bool before an item, and before the end
record FlagStands (c : Cursor) (n : ℕ) (d : Cursor) : Type 0 where
  parts : c.rest ≡ word_bytes n ++ d.rest
  place : c.at + 4 ≡ d.at
  below : n < 2
  long : 4 ≤ length c.rest

flag_stands : (c : Cursor) (x : Value) (d : Cursor) → IsBytes c.rest → word_reading flag c ≡ Ok (x, d) → FlagStands c (number_of x) d
unfolding word_bytes filled counted
flag_stands c x d fits h =
    let s = word_stands flag c x d h in
    let g = front_is c.rest fits s.long in
    let rest_is : drop 4 c.rest ≡ d.rest = ap (λ (u : Cursor). u.rest) s.after in
    let n_is : front_word c.rest ≡ number_of x = ap number_of s.value in
    record {
      parts = g.0 ∙ ap (λ (u : List ℕ). word_bytes (front_word c.rest) ++ u) rest_is ∙ ap (λ (k : ℕ). word_bytes k ++ d.rest) n_is;
      place = ap (λ (u : Cursor). u.at) s.after;
      below = subst (λ (k : ℕ). k < 2) n_is (ltb_lt (front_word c.rest) 2 s.allowed);
      long = s.long;
    }
  where
    ltb_lt : (a b : ℕ) → ltb a b ≡ true → a < b
    ltb_lt a b h = grind arith

list_ends : (K : Kind part) (c d : Cursor) → FlagStands c 0 d → Spelled part (list K) c none d
unfolding word_bytes filled counted
list_ends K c d s = record { front = word_bytes 0; parts = s.parts; place = sym s.place; reads = reads_end; last = not_whole }

list_goes_on : (K : Kind part) (c d f g : Cursor) (x y : Value) → FlagStands c 1 d → Spelled part K d x f → Spelled part (list K) f y g → Spelled part (list K) c (x ⊗ y) g
unfolding word_bytes filled counted
list_goes_on K c d f g x y s t u = record {
  front = word_bytes 1 ++ (t.front ++ u.front);
  parts = s.parts ∙ ap (λ (v : List ℕ). word_bytes 1 ++ v) (t.parts ∙ ap (λ (v : List ℕ). t.front ++ v) u.parts ∙ sym (append_assoc t.front u.front g.rest));
  place = omega (arith, s.place, t.place, u.place, length-append (word_bytes 1) (t.front ++ u.front), length-append t.front u.front);
  reads = reads_more t.reads u.reads;
  last = not_whole;
}

-- how an item is read
abbrev One : Kind part → Type 0
One K = (c : Cursor) (x : Value) (d : Cursor) → IsBytes c.rest → reading K c ≡ Ok (x, d) → Spelled part K c x d

abbrev pub after_flag : Kind part → ℕ → ℕ → Cursor → Read
after_flag K most n d = cond (eqb n 0) (Ok (none, d)) (reading K d >>= λ x. items_reading (reading K) most x.1 >>= λ y. Ok (x.0 ⊗ y.0, y.1))

flag_rest : (c d : Cursor) (n : ℕ) → IsBytes c.rest → FlagStands c n d → IsBytes d.rest
unfolding word_bytes filled counted
flag_rest c d n fits s = subst IsBytes (ap (λ (t : List ℕ). drop 4 t) s.parts ∙ drop_at (word_bytes n) d.rest 4 refl) (IsBytes-drop 4 c.rest fits)

-- how so many more items are read
abbrev Others : Kind part → ℕ → Type 0
Others K most = (c : Cursor) (x : Value) (d : Cursor) → IsBytes c.rest → items_reading (reading K) most c ≡ Ok (x, d) → Spelled part (list K) c x d

after_flag_spelled : (K : Kind part) (one : One K) (most : ℕ) (others : Others K most) (c : Cursor) (n : ℕ) (b : Cursor) (x : Value) (d : Cursor) → IsBytes c.rest → FlagStands c n b → after_flag K most n b ≡ Ok (x, d) → Spelled part (list K) c x d
unfolding word_bytes filled counted
after_flag_spelled K one most others c zero b x d fits s h = moved part (list K) c (none, b) (x, d) (ok_is (none, b) (x, d) h) (list_ends K c b s)
after_flag_spelled K one most others c (suc zero) b x d fits s h =
    let i = bind_ok (reading K b) (λ x. items_reading (reading K) most x.1 >>= λ y. Ok (x.0 ⊗ y.0, y.1)) (x, d) h in
    let j = bind_ok (items_reading (reading K) most i.0.1) (λ y. Ok (i.0.0 ⊗ y.0, y.1)) (x, d) i.2 in
    let b_fits = flag_rest c b 1 fits s in
    let t = one b i.0.0 i.0.1 b_fits i.1 in
    let u = others i.0.1 j.0.0 j.0.1 (Spelled-rest part K b i.0.0 i.0.1 b_fits t) j.1 in
    moved part (list K) c (i.0.0 ⊗ j.0.0, j.0.1) (x, d) (ok_is (i.0.0 ⊗ j.0.0, j.0.1) (x, d) j.2) (list_goes_on K c b i.0.1 j.0.1 i.0.0 j.0.0 s t u)
after_flag_spelled K one most others c (suc (suc n)) b x d fits s h = absurd (omega (arith, s.below))

items_spelled : (K : Kind part) (one : One K) (most : ℕ) → Others K most
unfolding items_reading word_bytes filled counted
items_spelled K one zero c x d fits h = absurd cc
items_spelled K one (suc most) c x d fits h =
    let a = bind_ok (word_reading flag c) (λ b. after_flag K most (number_of b.0) b.1) (x, d) h in
    after_flag_spelled K one most (items_spelled K one most) c (number_of a.0.0) a.0.1 x d fits (flag_stands c a.0.0 a.0.1 fits a.1) a.2

-- What is read is spelled so.
pub spelled : (e : End) (K : Kind e) (c : Cursor) (x : Value) (d : Cursor) → IsBytes c.rest → reading K c ≡ Ok (x, d) → Spelled e K c x d
unfolding reading rest_reading end_reading word_bytes filled counted
spelled part void c x d fits h = moved part void c (none, c) (x, d) (ok_is (none, c) (x, d) h) (record { front = []; parts = refl; place = omega arith; reads = reads_void; last = not_whole })
spelled part (word w) c x d fits h = word_spelled w c x d fits h
spelled part (opaque o) c x d fits h = opaque_spelled o c x d fits h
spelled whole rest c x d fits h =
    moved whole rest c (bytes c.rest, skip (length c.rest) c) (x, d) (ok_is (bytes c.rest, skip (length c.rest) c) (x, d) h)
    (record { front = c.rest; parts = sym (append-nil c.rest) ∙ ap (λ (u : List ℕ). c.rest ++ u) (sym (drop_all c.rest)); place = refl; reads = reads_rest; last = λ h. drop_all c.rest })
  where
    drop_all : (bs : List ℕ) → drop (length bs) bs ≡ []
    drop_all [] = refl
    drop_all (b ∷ bs) = drop_all bs
spelled e (A & B) c x d fits h =
    let i = bind_ok (reading A c) (λ x. reading B x.1 >>= λ y. Ok (x.0 ⊗ y.0, y.1)) (x, d) h in
    let j = bind_ok (reading B i.0.1) (λ y. Ok (i.0.0 ⊗ y.0, y.1)) (x, d) i.2 in
    let s = spelled part A c i.0.0 i.0.1 fits i.1 in
    let t = spelled e B i.0.1 j.0.0 j.0.1 (Spelled-rest part A c i.0.0 i.0.1 fits s) j.1 in
    moved e (A & B) c (i.0.0 ⊗ j.0.0, j.0.1) (x, d) (ok_is (i.0.0 ⊗ j.0.0, j.0.1) (x, d) j.2) (row_spelled e A B c i.0.1 j.0.1 i.0.0 j.0.0 s t)
spelled e (union w arm) c x d fits h =
    let i = bind_ok (word_reading w c) (λ x. reading (arm (number_of x.0)) x.1 >>= λ y. Ok (x.0 ⊗ y.0, y.1)) (x, d) h in
    let j = bind_ok (reading (arm (number_of i.0.0)) i.0.1) (λ y. Ok (i.0.0 ⊗ y.0, y.1)) (x, d) i.2 in
    let s = word_spelled w c i.0.0 i.0.1 fits i.1 in
    let t = spelled e (arm (number_of i.0.0)) i.0.1 j.0.0 j.0.1 (Spelled-rest part (word w) c i.0.0 i.0.1 fits s) j.1 in
    moved e (union w arm) c (i.0.0 ⊗ j.0.0, j.0.1) (x, d) (ok_is (i.0.0 ⊗ j.0.0, j.0.1) (x, d) j.2) (union_spelled e w arm c i.0.1 j.0.1 i.0.0 j.0.0 fits i.1 t)
spelled whole (ended K) c x d fits h =
    let i = bind_ok (reading K c) end_reading (x, d) h in
    let j = ended_ok (eqb (length i.0.1.rest) 0) i.0 (Xdr (Tail i.0.1.at)) (x, d) i.2 in
    let s = spelled part K c i.0.0 i.0.1 fits i.1 in
    moved whole (ended K) c i.0 (x, d) j.1 (record { front = s.front; parts = s.parts; place = s.place; reads = reads_ended s.reads; last = λ h. nil_from_length i.0.1.rest (eqb-true _ _ j.0) })
  where
    ended_ok : {A : Type 0} (b : Bool) (x : A) (r : MsgError) (y : A) → cond b (Ok x) (Err r) ≡ Ok y → (b ≡ true) × (x ≡ y)
    ended_ok true x r y h = (refl, cc)
    ended_ok false x r y h = absurd cc
spelled part (list K) c x d fits h = items_spelled K (spelled part K) (length c.rest) c x d fits h
spelled e (given n K) c x d fits h =
    let i = bind_ok (reading K c) (λ x. Ok (number n ⊗ x.0, x.1)) (x, d) h in
    moved e (given n K) c (number n ⊗ i.0.0, i.0.1) (x, d) (ok_is (number n ⊗ i.0.0, i.0.1) (x, d) i.2) (given_spelled e n K c i.0.0 i.0.1 (spelled e K c i.0.0 i.0.1 fits i.1))

-- ---- what is refused is refused for this reason

second_refused : (e : End) (A : Kind part) (B : Kind e) (c : Cursor) (x : Value) (d : Cursor) (r : MsgError) → Spelled part A c x d → Refuses e B d.at d.rest r → Refuses e (A & B) c.at c.rest r
unfolding word_bytes filled counted
second_refused e A B c x d r s h = subst (λ (u : List ℕ). Refuses e (A & B) c.at u r) (sym s.parts) (refuses_second s.reads (subst (λ (k : ℕ). Refuses e B k d.rest r) s.place h))

arm_refused : (e : End) (w : Word) (arm : ℕ → Kind e) (c : Cursor) (x : Value) (d : Cursor) (r : MsgError) → IsBytes c.rest → word_reading w c ≡ Ok (x, d) → Refuses e (arm (number_of x)) d.at d.rest r → Refuses e (union w arm) c.at c.rest r
unfolding word_bytes filled counted
arm_refused e w arm c x d r fits h t =
    let s = word_stands w c x d h in
    let g = front_is c.rest fits s.long in
    let arm_is : number_of x ≡ meaning w (front_word c.rest) = ap number_of (sym s.value) in
    let at_is : d.at ≡ c.at + 4 = sym (ap (λ (u : Cursor). u.at) s.after) in
    let rest_is : d.rest ≡ drop 4 c.rest = sym (ap (λ (u : Cursor). u.rest) s.after) in
    let t1 : Refuses e (arm (meaning w (front_word c.rest))) d.at d.rest r = subst (λ (k : ℕ). Refuses e (arm k) d.at d.rest r) arm_is t in
    let t2 : Refuses e (arm (meaning w (front_word c.rest))) (c.at + 4) d.rest r = subst (λ (k : ℕ). Refuses e (arm (meaning w (front_word c.rest))) k d.rest r) at_is t1 in
    let t3 : Refuses e (arm (meaning w (front_word c.rest))) (c.at + 4) (drop 4 c.rest) r = subst (λ (u : List ℕ). Refuses e (arm (meaning w (front_word c.rest))) (c.at + 4) u r) rest_is t2 in
    subst (λ (u : List ℕ). Refuses e (union w arm) c.at u r) (sym g.0) (refuses_arm (front_word c.rest) g.1 s.allowed t3)

item_refused : (K : Kind part) (c b : Cursor) (r : MsgError) → FlagStands c 1 b → Refuses part K b.at b.rest r → Refuses part (list K) c.at c.rest r
unfolding word_bytes filled counted
item_refused K c b r s h = subst (λ (u : List ℕ). Refuses part (list K) c.at u r) (sym s.parts) (refuses_item (subst (λ (k : ℕ). Refuses part K k b.rest r) (sym s.place) h))

later_refused : (K : Kind part) (c b : Cursor) (x : Value) (d : Cursor) (r : MsgError) → FlagStands c 1 b → Spelled part K b x d → Refuses part (list K) d.at d.rest r → Refuses part (list K) c.at c.rest r
unfolding word_bytes filled counted
later_refused K c b x d r s t h =
    let parts : c.rest ≡ word_bytes 1 ++ (t.front ++ d.rest) = s.parts ∙ ap (λ (u : List ℕ). word_bytes 1 ++ u) t.parts in
    let place : d.at ≡ c.at + 4 + length t.front = t.place ∙ ap (λ (k : ℕ). k + length t.front) (sym s.place) in
    subst (λ (u : List ℕ). Refuses part (list K) c.at u r) (sym parts) (refuses_later t.reads (subst (λ (k : ℕ). Refuses part (list K) k d.rest r) place h))

abbrev OneRefused : Kind part → Type 0
OneRefused K = (c : Cursor) (r : MsgError) → IsBytes c.rest → reading K c ≡ Err r → Refuses part K c.at c.rest r

abbrev OthersRefused : Kind part → ℕ → Type 0
OthersRefused K most = (c : Cursor) (r : MsgError) → IsBytes c.rest → length c.rest ≤ most → items_reading (reading K) most c ≡ Err r → Refuses part (list K) c.at c.rest r

after_flag_refused : (K : Kind part) (one : One K) (refused : OneRefused K) (most : ℕ) (others : OthersRefused K most) (c : Cursor) (n : ℕ) (b : Cursor) (r : MsgError) → IsBytes c.rest → length c.rest ≤ suc most → FlagStands c n b → after_flag K most n b ≡ Err r → Refuses part (list K) c.at c.rest r
unfolding word_bytes filled counted
after_flag_refused K one refused most others c zero b r fits few s h = absurd cc
after_flag_refused K one refused most others c (suc zero) b r fits few s h =
    let b_fits = flag_rest c b 1 fits s in
    elim (bind_err (reading K b) (λ x. items_reading (reading K) most x.1 >>= λ y. Ok (x.0 ⊗ y.0, y.1)) r h) [
      | inl i ↦ item_refused K c b r s (refused b r b_fits i)
      | inr i ↦
          let t = one b i.0.0 i.0.1 b_fits i.1 in
          elim (bind_err (items_reading (reading K) most i.0.1) (λ y. Ok (i.0.0 ⊗ y.0, y.1)) r i.2) [
            | inl j ↦
                let fewer : length i.0.1.rest ≤ most = omega (arith, ap length s.parts, ap length t.parts, length-append (word_bytes 1) b.rest, length-append t.front i.0.1.rest) in
                later_refused K c b i.0.0 i.0.1 r s t (others i.0.1 r (Spelled-rest part K b i.0.0 i.0.1 b_fits t) fewer j)
            | inr j ↦ absurd (not_ok (i.0.0 ⊗ j.0.0, j.0.1) r j.2)
          ]
    ]
  where
    not_ok : {A : Type 0} (x : A) (r : MsgError) → ◌≡◌ {A = Result A MsgError} (Ok x) (Err r) → ⊥
    not_ok x r h = cc
after_flag_refused K one refused most others c (suc (suc n)) b r fits few s h = absurd (omega (arith, s.below))

items_refused : (K : Kind part) (one : One K) (refused : OneRefused K) (most : ℕ) → OthersRefused K most
unfolding items_reading word_bytes filled counted
items_refused K one refused zero c r fits few h =
    let short : word_refusal flag c.at c.rest ≡ Some r = rw (nothing c.rest few) (ap Some (err_is (Xdr (Short c.at)) r h)) in
    refuses_flag short
  where
    nothing : (bs : List ℕ) → length bs ≤ 0 → bs ≡ []
    nothing [] h = refl
    nothing (b ∷ bs) h = absurd (omega arith)

    err_is : (x y : MsgError) → ◌≡◌ {A = Read} (Err x) (Err y) → x ≡ y
    err_is x y h = cc
items_refused K one refused (suc most) c r fits few h =
    elim (bind_err (word_reading flag c) (λ b. after_flag K most (number_of b.0) b.1) r h) [
      | inl i ↦ refuses_flag (word_refused flag c r i)
      | inr a ↦ after_flag_refused K one refused most (items_refused K one refused most) c (number_of a.0.0) a.0.1 r fits few (flag_stands c a.0.0 a.0.1 fits a.1) a.2
    ]

not_done : {A : Type 0} (x : A) (r : MsgError) → ◌≡◌ {A = Result A MsgError} (Ok x) (Err r) → ⊥
unfolding word_bytes filled counted
not_done x r h = cc

-- What is refused is refused for this reason, at this place.
pub refused : (e : End) (K : Kind e) (c : Cursor) (r : MsgError) → IsBytes c.rest → reading K c ≡ Err r → Refuses e K c.at c.rest r
unfolding reading rest_reading end_reading word_bytes filled counted
refused part void c r fits h = absurd (not_done (none, c) r h)
refused part (word w) c r fits h = refuses_word (word_refused w c r h)
refused part (opaque o) c r fits h = refuses_opaque (opaque_refused o c r h)
refused whole rest c r fits h = absurd (not_done (bytes c.rest, skip (length c.rest) c) r h)
refused e (A & B) c r fits h =
    elim (bind_err (reading A c) (λ x. reading B x.1 >>= λ y. Ok (x.0 ⊗ y.0, y.1)) r h) [
      | inl i ↦ refuses_first (refused part A c r fits i)
      | inr i ↦
          let s = spelled part A c i.0.0 i.0.1 fits i.1 in
          elim (bind_err (reading B i.0.1) (λ y. Ok (i.0.0 ⊗ y.0, y.1)) r i.2) [
            | inl j ↦ second_refused e A B c i.0.0 i.0.1 r s (refused e B i.0.1 r (Spelled-rest part A c i.0.0 i.0.1 fits s) j)
            | inr j ↦ absurd (not_done (i.0.0 ⊗ j.0.0, j.0.1) r j.2)
          ]
    ]
refused e (union w arm) c r fits h =
    elim (bind_err (word_reading w c) (λ x. reading (arm (number_of x.0)) x.1 >>= λ y. Ok (x.0 ⊗ y.0, y.1)) r h) [
      | inl i ↦ refuses_discriminant (word_refused w c r i)
      | inr i ↦
          let s = word_spelled w c i.0.0 i.0.1 fits i.1 in
          elim (bind_err (reading (arm (number_of i.0.0)) i.0.1) (λ y. Ok (i.0.0 ⊗ y.0, y.1)) r i.2) [
            | inl j ↦ arm_refused e w arm c i.0.0 i.0.1 r fits i.1 (refused e (arm (number_of i.0.0)) i.0.1 r (Spelled-rest part (word w) c i.0.0 i.0.1 fits s) j)
            | inr j ↦ absurd (not_done (i.0.0 ⊗ j.0.0, j.0.1) r j.2)
          ]
    ]
refused whole (ended K) c r fits h =
    elim (bind_err (reading K c) end_reading r h) [
      | inl i ↦ refuses_last (refused part K c r fits i)
      | inr i ↦
          let s = spelled part K c i.0.0 i.0.1 fits i.1 in
          let j = ended_err (eqb (length i.0.1.rest) 0) i.0 (Xdr (Tail i.0.1.at)) r i.2 in
          let t : Refuses whole (ended K) c.at (s.front ++ i.0.1.rest) (Xdr (Tail (c.at + length s.front))) = refuses_tail i.0.1.rest s.reads (above_zero (length i.0.1.rest) j.0) in
          subst (λ (u : List ℕ). Refuses whole (ended K) c.at u r) (sym s.parts) (subst (λ (q : MsgError). Refuses whole (ended K) c.at (s.front ++ i.0.1.rest) q) (ap (λ (k : ℕ). Xdr (Tail k)) (sym s.place) ∙ j.1) t)
    ]
  where
    ended_err : {A : Type 0} (b : Bool) (x : A) (q r : MsgError) → cond b (Ok x) (Err q) ≡ Err r → (b ≡ false) × (q ≡ r)
    ended_err true x q r h = absurd cc
    ended_err false x q r h = (refl, cc)

    above_zero : (n : ℕ) → eqb n 0 ≡ false → 0 < n
    above_zero zero h = absurd cc
    above_zero (suc n) h = omega arith
refused part (list K) c r fits h = items_refused K (spelled part K) (refused part K) (length c.rest) c r fits (omega arith) h
refused e (given n K) c r fits h =
    elim (bind_err (reading K c) (λ x. Ok (number n ⊗ x.0, x.1)) r h) [
      | inl i ↦ refuses_given (refused e K c r fits i)
      | inr i ↦ absurd (not_done (number n ⊗ i.0.0, i.0.1) r i.2)
    ]
