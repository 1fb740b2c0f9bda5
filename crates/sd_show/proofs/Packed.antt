-- Parts of a value, packed one after another.
use Rattle.std.proofs.Common.{◌≡◌, ℕ, suc, ◌+◌, ◌-◌, ◌<◌, ◌≤◌, Bool, true, false, cond, not, eqb, arith, List, [], ◌∷◌, ◌++◌, Option, Some, None, Result, Ok, Err, refl, sym, ap, ◌∙◌, append_assoc}
use Rattle.std.proofs.lemmas.Bool.{ne_eqb, eq-eqb}
use Rattle.std.proofs.lemmas.List.{append-nil}
use Rattle.sd_xdr.specs.Kind as xdr
use Rattle.sd_xdr.specs.Kind.{Value, none, ◌⊗◌}
use Rattle.sd_xdr.specs.Grammar.{word_bytes, writes}
use Rattle.sd_text.specs.Texts.{Text}
use Rattle.sd_text.specs.Kind.{Kind, begins, void, given, said, between, ◌&◌, any, digits, where_zero}
use Rattle.sd_text.specs.Reading.{Read, ◌>>=◌, TakesSaid, strip, word_reading, many_reading, reading}
use Rattle.sd_text.proofs.Again.{gives}
use Rattle.sd_text.proofs.Loops.{handed_on}
use Rattle.sd_text.specs.declared.error.LineError.{LineError}
use Rattle.sd_show.specs.Forms.{Form, items, longest, text_kind, form_kind}
use Rattle.sd_show.specs.Packing.{packs_more, TakesAs, TakesMore, TakesForm, Packed, packed_with, packs_as}

abbrev pub packed : List ℕ → Text → Packed
packed w t = Some (w, t)

-- the value of what was packed
record Value' (K : Kind) (M : xdr.Kind xdr.part) (w : List ℕ) (t : Text) (v : List ℕ) (u : Text) : Type 0 where
  value : Value
  read : reading K t ≡ gives value u
  written : v ≡ w ++ writes M value

value_of : (K : Kind) (M : xdr.Kind xdr.part) (w : List ℕ) (t : Text) (v : List ℕ) (u : Text) → packs_as K M w t ≡ packed v u → Value' K M w t v u
unfolding packs_as
value_of K M w t v u e = by_read (reading K t) refl e
  where
    by_read : (r : Read) → reading K t ≡ r → packed_with M w r ≡ packed v u → Value' K M w t v u
    by_read (Some x) f e =
        let g : (w ++ writes M x.0, x.1) ≡ (v, u) = cc e in
        record { value = x.0; read = f ∙ ap (λ (s : Text). gives x.0 s) (ap (λ (p : List ℕ × Text). p.1) g); written = sym (ap (λ (p : List ℕ × Text). p.0) g) }
    by_read None f e = absurd cc

no_value : (K : Kind) (M : xdr.Kind xdr.part) (w : List ℕ) (t : Text) → packs_as K M w t ≡ None → reading K t ≡ None
unfolding packs_as
no_value K M w t e = by_read (reading K t) refl e
  where
    by_read : (r : Read) → reading K t ≡ r → packed_with M w r ≡ None → reading K t ≡ None
    by_read (Some x) f e = absurd cc
    by_read None f e = f

-- ---- two values, a text between them

pub pair_first : (A B : Kind) (M N : xdr.Kind xdr.part) (s : Text) (w : List ℕ) (t : Text) → packs_as A M w t ≡ None → packs_as (A & said s B) (xdr.◌&◌ M N) w t ≡ None
unfolding packs_as reading
pair_first A B M N s w t h =
    ap (λ (r : Read). packed_with (xdr.◌&◌ M N) w (r >>= λ (x : Value × Text). reading (said s B) x.1 >>= λ (y : Value × Text). gives (x.0 ⊗ y.0) y.1)) (no_value A M w t h)

after_first : (A B : Kind) (M N : xdr.Kind xdr.part) (s : Text) (w : List ℕ) (t : Text) (v : List ℕ) (u : Text) → packs_as A M w t ≡ packed v u → (x : Value) × (v ≡ w ++ writes M x)
    × (packs_as (A & said s B) (xdr.◌&◌ M N) w t ≡ packed_with (xdr.◌&◌ M N) w (strip s u >>= λ (c : Text). reading B c >>= λ (y : Value × Text). gives (x ⊗ y.0) y.1))
unfolding packs_as reading
after_first A B M N s w t v u h =
    let x = value_of A M w t v u h in
    (x.value, x.written, ap (λ (r : Read). packed_with (xdr.◌&◌ M N) w (r >>= λ (x : Value × Text). reading (said s B) x.1 >>= λ (y : Value × Text). gives (x.0 ⊗ y.0) y.1)) x.read ∙ regroup x.value (strip s u))
  where
    regroup : (x : Value) (o : Option Text) → packed_with (xdr.◌&◌ M N) w (o >>= (λ (c : Text). reading B c) >>= λ (y : Value × Text). gives (x ⊗ y.0) y.1) ≡ packed_with (xdr.◌&◌ M N) w (o >>= λ (c : Text). reading B c >>= λ (y : Value × Text). gives (x ⊗ y.0) y.1)
    regroup x (Some c) = refl
    regroup x None = refl

pub pair_cut : (A B : Kind) (M N : xdr.Kind xdr.part) (s : Text) (w : List ℕ) (t : Text) (v : List ℕ) (u : Text) → packs_as A M w t ≡ packed v u → strip s u ≡ None → packs_as (A & said s B) (xdr.◌&◌ M N) w t ≡ None
pair_cut A B M N s w t v u h k =
    let a = after_first A B M N s w t v u h in
    a.2 ∙ ap (λ (o : Option Text). packed_with (xdr.◌&◌ M N) w (o >>= λ (c : Text). reading B c >>= λ (y : Value × Text). gives (a.0 ⊗ y.0) y.1)) k

pub pair_packs : (A B : Kind) (M N : xdr.Kind xdr.part) (s : Text) (w : List ℕ) (t : Text) (v : List ℕ) (u c : Text) (r : Packed) → packs_as A M w t ≡ packed v u → strip s u ≡ Some c → packs_as B N v c ≡ r → packs_as (A & said s B) (xdr.◌&◌ M N) w t ≡ r
unfolding packs_as
pair_packs A B M N s w t v u c r h k e =
    let a = after_first A B M N s w t v u h in
    a.2 ∙ ap (λ (o : Option Text). packed_with (xdr.◌&◌ M N) w (o >>= λ (c : Text). reading B c >>= λ (y : Value × Text). gives (a.0 ⊗ y.0) y.1)) k
    ∙ regroup a.0 (reading B c) ∙ ap (λ (l : List ℕ). packed_with N l (reading B c)) (sym a.1) ∙ e
  where
    regroup : (x : Value) (o : Read) → packed_with (xdr.◌&◌ M N) w (o >>= λ (y : Value × Text). gives (x ⊗ y.0) y.1) ≡ packed_with N (w ++ writes M x) o
    regroup x (Some y) = ap (λ (l : List ℕ). packed l y.1) (sym (append_assoc w (writes M x) (writes N y.0)))
    regroup x None = refl

-- ---- a value between two bytes

pub between_open : (K : Kind) (M : xdr.Kind xdr.part) (a b : ℕ) (w : List ℕ) (t : Text) → strip (a ∷ []) t ≡ None → packs_as (between a K b) M w t ≡ None
unfolding packs_as reading
between_open K M a b w t h = ap (λ (o : Option Text). packed_with M w (o >>= λ (u : Text). reading K u >>= λ (x : Value × Text). strip (b ∷ []) x.1 >>= λ (v : Text). gives x.0 v)) h

pub between_none : (K : Kind) (M : xdr.Kind xdr.part) (a b : ℕ) (w : List ℕ) (t u : Text) → strip (a ∷ []) t ≡ Some u → packs_as K M w u ≡ None → packs_as (between a K b) M w t ≡ None
unfolding packs_as reading
between_none K M a b w t u h k =
    ap (λ (o : Option Text). packed_with M w (o >>= λ (u : Text). reading K u >>= λ (x : Value × Text). strip (b ∷ []) x.1 >>= λ (v : Text). gives x.0 v)) h
    ∙ ap (λ (r : Read). packed_with M w (r >>= λ (x : Value × Text). strip (b ∷ []) x.1 >>= λ (v : Text). gives x.0 v)) (no_value K M w u k)

pub between_shut : (K : Kind) (M : xdr.Kind xdr.part) (a b : ℕ) (w : List ℕ) (t u : Text) (v : List ℕ) (c : Text) (o : Option Text) → strip (a ∷ []) t ≡ Some u → packs_as K M w u ≡ packed v c → strip (b ∷ []) c ≡ o
    → packs_as (between a K b) M w t ≡ (o >>= λ (d : Text). packed v d)
unfolding packs_as reading
between_shut K M a b w t u v c o h k e =
    let x = value_of K M w u v c k in
    ap (λ (o : Option Text). packed_with M w (o >>= λ (u : Text). reading K u >>= λ (x : Value × Text). strip (b ∷ []) x.1 >>= λ (v : Text). gives x.0 v)) h
    ∙ ap (λ (r : Read). packed_with M w (r >>= λ (x : Value × Text). strip (b ∷ []) x.1 >>= λ (v : Text). gives x.0 v)) x.read
    ∙ ap (λ (o : Option Text). packed_with M w (o >>= λ (v : Text). gives x.value v)) e ∙ shut x.value x.written o
  where
    shut : (x : Value) → v ≡ w ++ writes M x → (o : Option Text) → packed_with M w (o >>= λ (d : Text). gives x d) ≡ (o >>= λ (d : Text). packed v d)
    shut x e (Some d) = ap (λ (l : List ℕ). packed l d) (sym e)
    shut x e None = refl

-- ---- the last steps

pub pair_ends : (A B : Form) (w : List ℕ) (t : Text) (v : List ℕ) (u c : Text) (x : List ℕ) (d : Text) (r : Result (Unit {0}) LineError) → packs_as (text_kind A) (form_kind A) w t ≡ packed v u → strip (44 ∷ []) u ≡ Some c
    → TakesForm B v c x d r → TakesAs (text_kind A & said (44 ∷ []) (text_kind B)) (xdr.◌&◌ (form_kind A) (form_kind B)) w t x d r
pair_ends A B w t v u c x d (Ok done) h k e = pair_packs (text_kind A) (text_kind B) (form_kind A) (form_kind B) (44 ∷ []) w t v u c (Some (x, d)) h k e
pair_ends A B w t v u c x d (Err r) h k e = handed_on r e (λ none. pair_packs (text_kind A) (text_kind B) (form_kind A) (form_kind B) (44 ∷ []) w t v u c None h k none)

pub between_ends : (A : Form) (w : List ℕ) (t u : Text) (v : List ℕ) (c d : Text) (r : Result (Unit {0}) LineError) → strip (40 ∷ []) t ≡ Some u → packs_as (text_kind A) (form_kind A) w u ≡ packed v c → TakesSaid (41 ∷ []) c d r
    → TakesAs (between 40 (text_kind A) 41) (form_kind A) w t v d r
between_ends A w t u v c d (Ok done) h k e = between_shut (text_kind A) (form_kind A) 40 41 w t u v c (Some d) h k e
between_ends A w t u v c d (Err r) h k e = handed_on r e (λ none. between_shut (text_kind A) (form_kind A) 40 41 w t u v c None h k none)

pub list_ends : (A : Form) (w : List ℕ) (t u : Text) (v : List ℕ) (c d : Text) (r : Result (Unit {0}) LineError) → strip (91 ∷ []) t ≡ Some u → packs_as (items (text_kind A)) (xdr.list (form_kind A)) w u ≡ packed v c → TakesSaid (93 ∷ []) c d r
    → TakesAs (between 91 (items (text_kind A)) 93) (xdr.list (form_kind A)) w t v d r
list_ends A w t u v c d (Ok done) h k e = between_shut (items (text_kind A)) (xdr.list (form_kind A)) 91 93 w t u v c (Some d) h k e
list_ends A w t u v c d (Err r) h k e = handed_on r e (λ none. between_shut (items (text_kind A)) (xdr.list (form_kind A)) 91 93 w t u v c None h k none)

-- ---- items

left_is : (most i : ℕ) → i < most → most - i ≡ suc (most - (i + 1))
left_is most i h = omega (arith, h)

turn : (K : Kind) (n : ℕ) (t : Text) (b : Bool) → begins (λ d. eqb d 44) t ≡ b
    → many_reading (reading K) 44 (suc n) t ≡ cond b (strip (44 ∷ []) t >>= λ (u : Text). reading K u >>= λ (x : Value × Text). many_reading (reading K) 44 n x.1 >>= λ (y : Value × Text). gives (x.0 ⊗ y.0) y.1) (gives none t)
unfolding many_reading
turn K n t b h = ap (λ (v : Bool). cond v (strip (44 ∷ []) t >>= λ (u : Text). reading K u >>= λ (x : Value × Text). many_reading (reading K) 44 n x.1 >>= λ (y : Value × Text). gives (x.0 ⊗ y.0) y.1) (gives none t)) h

-- the bytes of an item, and those behind it
item_written : (M : xdr.Kind xdr.part) (w : List ℕ) (x : Value) (r : Read) → packed_with (xdr.list M) w (r >>= λ (y : Value × Text). gives (x ⊗ y.0) y.1) ≡ packed_with (xdr.list M) ((w ++ word_bytes 1) ++ writes M x) r
item_written M w x (Some y) = ap (λ (l : List ℕ). packed l y.1) (
    sym (append_assoc w (word_bytes 1) (writes M x ++ writes (xdr.list M) y.0))
    ∙ sym (append_assoc (w ++ word_bytes 1) (writes M x) (writes (xdr.list M) y.0)))
item_written M w x None = refl

item_step : (K : Kind) (M : xdr.Kind xdr.part) (n : ℕ) (w : List ℕ) (u : Text) (v : List ℕ) (c : Text) → packs_as K M (w ++ word_bytes 1) u ≡ packed v c
    → packed_with (xdr.list M) w (reading K u >>= λ (x : Value × Text). many_reading (reading K) 44 n x.1 >>= λ (y : Value × Text). gives (x.0 ⊗ y.0) y.1) ≡ packs_more K M n v c
unfolding packs_more
item_step K M n w u v c h =
    let x = value_of K M (w ++ word_bytes 1) u v c h in
    ap (λ (r : Read). packed_with (xdr.list M) w (r >>= λ (x : Value × Text). many_reading (reading K) 44 n x.1 >>= λ (y : Value × Text). gives (x.0 ⊗ y.0) y.1)) x.read
    ∙ item_written M w x.value (many_reading (reading K) 44 n c)
    ∙ ap (λ (l : List ℕ). packed_with (xdr.list M) l (many_reading (reading K) 44 n c)) (sym x.written)

item_none : (K : Kind) (M : xdr.Kind xdr.part) (n : ℕ) (w z : List ℕ) (u : Text) → packs_as K M z u ≡ None
    → packed_with (xdr.list M) w (reading K u >>= λ (x : Value × Text). many_reading (reading K) 44 n x.1 >>= λ (y : Value × Text). gives (x.0 ⊗ y.0) y.1) ≡ None
item_none K M n w z u h = ap (λ (r : Read). packed_with (xdr.list M) w (r >>= λ (x : Value × Text). many_reading (reading K) 44 n x.1 >>= λ (y : Value × Text). gives (x.0 ⊗ y.0) y.1)) (no_value K M z u h)

more_is : (K : Kind) (M : xdr.Kind xdr.part) (most i : ℕ) (w : List ℕ) (t u : Text) → i < most → begins (λ d. eqb d 44) t ≡ true → strip (44 ∷ []) t ≡ Some u
    → packs_more K M (most - i) w t ≡ packed_with (xdr.list M) w (reading K u >>= λ (x : Value × Text). many_reading (reading K) 44 (most - (i + 1)) x.1 >>= λ (y : Value × Text). gives (x.0 ⊗ y.0) y.1)
unfolding packs_more
more_is K M most i w t u lt b s =
    ap (packed_with (xdr.list M) w) (ap (λ (n : ℕ). many_reading (reading K) 44 n t) (left_is most i lt) ∙ turn K (most - (i + 1)) t true b
    ∙ ap (λ (o : Option Text). o >>= λ (u : Text). reading K u >>= λ (x : Value × Text). many_reading (reading K) 44 (most - (i + 1)) x.1 >>= λ (y : Value × Text). gives (x.0 ⊗ y.0) y.1) s)

pub more_goes_on : (K : Kind) (M : xdr.Kind xdr.part) (most i : ℕ) (w z : List ℕ) (t u : Text) (v : List ℕ) (c : Text) (r : Packed) → i < most → begins (λ d. eqb d 44) t ≡ true → strip (44 ∷ []) t ≡ Some u
    → z ≡ w ++ word_bytes 1 → packs_as K M z u ≡ packed v c → packs_more K M (most - i) w t ≡ r → packs_more K M (most - (i + 1)) v c ≡ r
more_goes_on K M most i w z t u v c r lt b s e h k =
    sym (item_step K M (most - (i + 1)) w u v c (ap (λ (l : List ℕ). packs_as K M l u) (sym e) ∙ h)) ∙ sym (more_is K M most i w t u lt b s) ∙ k

pub more_stops : (K : Kind) (M : xdr.Kind xdr.part) (most i : ℕ) (w z : List ℕ) (t u : Text) (r : Packed) → i < most → begins (λ d. eqb d 44) t ≡ true → strip (44 ∷ []) t ≡ Some u → packs_as K M z u ≡ None
    → packs_more K M (most - i) w t ≡ r → r ≡ None
more_stops K M most i w z t u r lt b s h k = sym k ∙ more_is K M most i w t u lt b s ∙ item_none K M (most - (i + 1)) w z u h

pub more_cut : (K : Kind) (M : xdr.Kind xdr.part) (most i : ℕ) (w : List ℕ) (t : Text) (r : Packed) → i < most → begins (λ d. eqb d 44) t ≡ true → strip (44 ∷ []) t ≡ None → packs_more K M (most - i) w t ≡ r → r ≡ None
unfolding packs_more
more_cut K M most i w t r lt b s k =
    sym k ∙ ap (packed_with (xdr.list M) w) (ap (λ (n : ℕ). many_reading (reading K) 44 n t) (left_is most i lt) ∙ turn K (most - (i + 1)) t true b
    ∙ ap (λ (o : Option Text). o >>= λ (u : Text). reading K u >>= λ (x : Value × Text). many_reading (reading K) 44 (most - (i + 1)) x.1 >>= λ (y : Value × Text). gives (x.0 ⊗ y.0) y.1) s)

pub more_ends : (K : Kind) (M : xdr.Kind xdr.part) (most i : ℕ) (w v : List ℕ) (t : Text) (r : Packed) → i < most → begins (λ d. eqb d 44) t ≡ false → v ≡ w ++ word_bytes 0 → packs_more K M (most - i) w t ≡ r → r ≡ packed v t
unfolding packs_more
more_ends K M most i w v t r lt b e k =
    sym k ∙ ap (packed_with (xdr.list M) w) (ap (λ (n : ℕ). many_reading (reading K) 44 n t) (left_is most i lt) ∙ turn K (most - (i + 1)) t false b) ∙ ap (λ (l : List ℕ). packed l t) (sym e)

pub more_full : (K : Kind) (M : xdr.Kind xdr.part) (most i : ℕ) (w v : List ℕ) (t : Text) (r : Packed) → most ≤ i → v ≡ w ++ word_bytes 0 → packs_more K M (most - i) w t ≡ r → r ≡ packed v t
unfolding packs_more many_reading
more_full K M most i w v t r le e k =
    let none_left : most - i ≡ 0 = omega (arith, le) in
    sym k ∙ ap (λ (n : ℕ). packed_with (xdr.list M) w (many_reading (reading K) 44 n t)) none_left ∙ ap (λ (l : List ℕ). packed l t) (sym e)

-- ---- all items

items_by : (K : Kind) (M : xdr.Kind xdr.part) (w : List ℕ) (t : Text) (b : Bool) → begins (λ d. not (eqb d 93)) t ≡ b
    → packs_as (items K) (xdr.list M) w t ≡ packed_with (xdr.list M) w (cond b (reading K t >>= λ (x : Value × Text). many_reading (reading K) 44 longest x.1 >>= λ (y : Value × Text). gives (x.0 ⊗ y.0) y.1) (gives none t))
unfolding packs_as reading
items_by K M w t b h = ap (λ (v : Bool). packed_with (xdr.list M) w (cond v (reading K t >>= λ (x : Value × Text). many_reading (reading K) 44 longest x.1 >>= λ (y : Value × Text). gives (x.0 ⊗ y.0) y.1) (gives none t))) h

pub items_none : (K : Kind) (M : xdr.Kind xdr.part) (w v : List ℕ) (t : Text) → begins (λ d. not (eqb d 93)) t ≡ false → v ≡ w ++ word_bytes 0 → packs_as (items K) (xdr.list M) w t ≡ packed v t
items_none K M w v t b e = items_by K M w t false b ∙ ap (λ (l : List ℕ). packed l t) (sym e)

pub items_stop : (K : Kind) (M : xdr.Kind xdr.part) (w z : List ℕ) (t : Text) → begins (λ d. not (eqb d 93)) t ≡ true → packs_as K M z t ≡ None → packs_as (items K) (xdr.list M) w t ≡ None
items_stop K M w z t b h = items_by K M w t true b ∙ item_none K M longest w z t h

items_go : (K : Kind) (M : xdr.Kind xdr.part) (w z : List ℕ) (t : Text) (v : List ℕ) (c : Text) → begins (λ d. not (eqb d 93)) t ≡ true → z ≡ w ++ word_bytes 1 → packs_as K M z t ≡ packed v c → packs_as (items K) (xdr.list M) w t ≡ packs_more K M longest v c
items_go K M w z t v c b e h = items_by K M w t true b ∙ item_step K M longest w t v c (ap (λ (l : List ℕ). packs_as K M l t) (sym e) ∙ h)

pub items_end : (K : Kind) (M : xdr.Kind xdr.part) (w z : List ℕ) (t : Text) (v : List ℕ) (c : Text) (x : List ℕ) (d : Text) (r : Result (Unit {0}) LineError) → begins (λ d. not (eqb d 93)) t ≡ true → z ≡ w ++ word_bytes 1 → packs_as K M z t ≡ packed v c
    → TakesMore K M v c x d r → TakesAs (items K) (xdr.list M) w t x d r
items_end K M w z t v c x d (Ok done) b e h k = items_go K M w z t v c b e h ∙ k
items_end K M w z t v c x d (Err r) b e h k = handed_on r k (λ none. items_go K M w z t v c b e h ∙ none)

-- ---- fields

pub nothing_packs : (w : List ℕ) (t : Text) → packs_as void xdr.void w t ≡ packed w t
unfolding packs_as reading
nothing_packs w t = ap (λ (l : List ℕ). packed l t) (append-nil w)

pub name_cut : (K : Kind) (M : xdr.Kind xdr.part) (s : Text) (w : List ℕ) (t : Text) → strip s t ≡ None → packs_as (said s K) M w t ≡ None
unfolding packs_as reading
name_cut K M s w t h = ap (λ (o : Option Text). packed_with M w (o >>= λ (u : Text). reading K u)) h

field_is : (K : Kind) (M : xdr.Kind xdr.part) (s : Text) (w : List ℕ) (t u : Text) → strip s t ≡ Some u → packs_as (said s K) M w t ≡ packs_as K M w u
unfolding packs_as reading
field_is K M s w t u h = ap (λ (o : Option Text). packed_with M w (o >>= λ (u : Text). reading K u)) h

pub field_ends : (K : Kind) (M : xdr.Kind xdr.part) (s : Text) (w : List ℕ) (t u : Text) (v : List ℕ) (c : Text) (r : Result (Unit {0}) LineError) → strip s t ≡ Some u → TakesAs K M w u v c r → TakesAs (said s K) M w t v c r
field_ends K M s w t u v c (Ok done) h k = field_is K M s w t u h ∙ k
field_ends K M s w t u v c (Err r) h k = handed_on r k (λ none. field_is K M s w t u h ∙ none)

numbered_is : (n : ℕ) (K : Kind) (M : xdr.Kind xdr.part) (w : List ℕ) (t : Text) → packs_as (given n K) (xdr.given n M) w t ≡ packs_as K M w t
unfolding packs_as reading
numbered_is n K M w t = by_read (reading K t)
  where
    by_read : (r : Read) → packed_with (xdr.given n M) w (r >>= λ (x : Value × Text). gives (xdr.number n ⊗ x.0) x.1) ≡ packed_with M w r
    by_read (Some x) = refl
    by_read None = refl

pub numbered_ends : (n : ℕ) (K : Kind) (M : xdr.Kind xdr.part) (w : List ℕ) (t : Text) (v : List ℕ) (c : Text) (r : Result (Unit {0}) LineError) → TakesAs K M w t v c r → TakesAs (given n K) (xdr.given n M) w t v c r
numbered_ends n K M w t v c (Ok done) h = numbered_is n K M w t ∙ h
numbered_ends n K M w t v c (Err r) h = handed_on r h (λ none. numbered_is n K M w t ∙ none)

both_is : (A B : Kind) (M N : xdr.Kind xdr.part) (w : List ℕ) (t : Text) (v : List ℕ) (u : Text) → packs_as A M w t ≡ packed v u → packs_as (A & B) (xdr.◌&◌ M N) w t ≡ packs_as B N v u
unfolding packs_as reading
both_is A B M N w t v u h =
    let x = value_of A M w t v u h in
    ap (λ (r : Read). packed_with (xdr.◌&◌ M N) w (r >>= λ (x : Value × Text). reading B x.1 >>= λ (y : Value × Text). gives (x.0 ⊗ y.0) y.1)) x.read
    ∙ regroup x.value (reading B u) ∙ ap (λ (l : List ℕ). packed_with N l (reading B u)) (sym x.written)
  where
    regroup : (x : Value) (o : Read) → packed_with (xdr.◌&◌ M N) w (o >>= λ (y : Value × Text). gives (x ⊗ y.0) y.1) ≡ packed_with N (w ++ writes M x) o
    regroup x (Some y) = ap (λ (l : List ℕ). packed l y.1) (sym (append_assoc w (writes M x) (writes N y.0)))
    regroup x None = refl

pub both_none : (A B : Kind) (M N : xdr.Kind xdr.part) (w : List ℕ) (t : Text) → packs_as A M w t ≡ None → packs_as (A & B) (xdr.◌&◌ M N) w t ≡ None
unfolding packs_as reading
both_none A B M N w t h =
    ap (λ (r : Read). packed_with (xdr.◌&◌ M N) w (r >>= λ (x : Value × Text). reading B x.1 >>= λ (y : Value × Text). gives (x.0 ⊗ y.0) y.1)) (no_value A M w t h)

pub both_ends : (A B : Kind) (M N : xdr.Kind xdr.part) (w : List ℕ) (t : Text) (v : List ℕ) (u : Text) (x : List ℕ) (d : Text) (r : Result (Unit {0}) LineError) → packs_as A M w t ≡ packed v u → TakesAs B N v u x d r → TakesAs (A & B) (xdr.◌&◌ M N) w t x d r
both_ends A B M N w t v u x d (Ok done) h k = both_is A B M N w t v u h ∙ k
both_ends A B M N w t v u x d (Err r) h k = handed_on r k (λ none. both_is A B M N w t v u h ∙ none)

-- ---- a text in parts

pub strip_both : (s t u : Text) → strip (s ++ t) u ≡ (strip s u >>= λ (v : Text). strip t v)
unfolding strip
strip_both [] t u = refl
strip_both (a ∷ s) t [] = refl
strip_both (a ∷ s) t (b ∷ u) = by_test (eqb a b) (strip_both s t u)
  where
    by_test : (v : Bool) → strip (s ++ t) u ≡ (strip s u >>= λ (v : Text). strip t v) → cond v (strip (s ++ t) u) None ≡ (cond v (strip s u) None >>= λ (v : Text). strip t v)
    by_test true h = h
    by_test false h = refl

-- three texts, one behind the other
pub strip_three : (a b c t : Text) → strip (a ++ (b ++ c)) t ≡ (strip a t >>= λ (u : Text). strip b u >>= λ (v : Text). strip c v)
strip_three a b c t = strip_both a (b ++ c) t ∙ inner (strip a t)
  where
    inner : (o : Option Text) → (o >>= λ (u : Text). strip (b ++ c) u) ≡ (o >>= λ (u : Text). strip b u >>= λ (v : Text). strip c v)
    inner (Some u) = strip_both b c u
    inner None = refl

pub name_first : (a b c t : Text) → strip a t ≡ None → strip (a ++ (b ++ c)) t ≡ None
name_first a b c t h = strip_three a b c t ∙ ap (λ (o : Option Text). o >>= λ (u : Text). strip b u >>= λ (v : Text). strip c v) h

pub name_second : (a b c t u : Text) → strip a t ≡ Some u → strip b u ≡ None → strip (a ++ (b ++ c)) t ≡ None
name_second a b c t u h k =
    strip_three a b c t ∙ ap (λ (o : Option Text). o >>= λ (u : Text). strip b u >>= λ (v : Text). strip c v) h ∙ ap (λ (o : Option Text). o >>= λ (v : Text). strip c v) k

name_third : (a b c t u v : Text) (o : Option Text) → strip a t ≡ Some u → strip b u ≡ Some v → strip c v ≡ o → strip (a ++ (b ++ c)) t ≡ o
name_third a b c t u v o h k m =
    strip_three a b c t ∙ ap (λ (o : Option Text). o >>= λ (u : Text). strip b u >>= λ (v : Text). strip c v) h ∙ ap (λ (o : Option Text). o >>= λ (v : Text). strip c v) k ∙ m

pub name_ends : (a b c t u v w : Text) (r : Result (Unit {0}) LineError) → strip a t ≡ Some u → strip b u ≡ Some v → TakesSaid c v w r → TakesSaid (a ++ (b ++ c)) t w r
name_ends a b c t u v w (Ok done) h k m = name_third a b c t u v (Some w) h k m
name_ends a b c t u v w (Err e) h k m = handed_on e m (λ none. name_third a b c t u v None h k none)

-- ---- a status

-- the bytes of a status, and what stands behind it where it is 0
status_is : (K : Kind) (M : xdr.Kind xdr.part) (s : Text) (w v : List ℕ) (t u : Text) (n : ℕ) (b : Bool) → reading (said s any) t ≡ gives (xdr.number n) u → v ≡ w ++ word_bytes n → eqb n 0 ≡ b
    → packs_as (said s (where_zero K)) (xdr.where_zero M) w t ≡ cond b (packs_as K M v u) (packed v u)
unfolding packs_as reading
status_is K M s w v t u n b h e z = step (strip s t) h
  where
    done : (b : Bool) → eqb n 0 ≡ b → packed_with (xdr.where_zero M) w (cond (eqb n 0) (reading K u >>= λ (x : Value × Text). gives (xdr.number n ⊗ x.0) x.1) (gives (xdr.number n ⊗ none) u)) ≡ cond b (packed_with M v (reading K u)) (packed v u)
    done true z =
        ap (λ (b : Bool). packed_with (xdr.where_zero M) w (cond b (reading K u >>= λ (x : Value × Text). gives (xdr.number n ⊗ x.0) x.1) (gives (xdr.number n ⊗ none) u))) z
        ∙ zero_is (reading K u)
      where
        zero_is : (r : Read) → packed_with (xdr.where_zero M) w (r >>= λ (x : Value × Text). gives (xdr.number n ⊗ x.0) x.1) ≡ packed_with M v r
        zero_is (Some x) =
            ap (λ (b : Bool). packed (w ++ (word_bytes n ++ writes (cond b M xdr.void) x.0)) x.1) z
            ∙ ap (λ (l : List ℕ). packed l x.1) (sym (append_assoc w (word_bytes n) (writes M x.0)) ∙ ap (λ (l : List ℕ). l ++ writes M x.0) (sym e))
        zero_is None = refl
    done false z =
        ap (λ (b : Bool). packed_with (xdr.where_zero M) w (cond b (reading K u >>= λ (x : Value × Text). gives (xdr.number n ⊗ x.0) x.1) (gives (xdr.number n ⊗ none) u))) z
        ∙ ap (λ (b : Bool). packed (w ++ (word_bytes n ++ writes (cond b M xdr.void) none)) u) z
        ∙ ap (λ (l : List ℕ). packed l u) (ap (λ (l : List ℕ). w ++ l) (append-nil (word_bytes n)) ∙ sym e)

    step : (o : Option Text) → (o >>= λ (c : Text). word_reading (digits 0 4294967295) c) ≡ gives (xdr.number n) u
        → packed_with (xdr.where_zero M) w (o >>= λ (c : Text). word_reading (digits 0 4294967295) c >>= λ (m : Value × Text). cond (eqb (xdr.number_of m.0) 0) (reading K m.1 >>= λ (x : Value × Text). gives (m.0 ⊗ x.0) x.1) (gives (m.0 ⊗ none) m.1))
        ≡ cond b (packed_with M v (reading K u)) (packed v u)
    step None h = absurd cc
    step (Some c) h =
        ap (λ (r : Read). packed_with (xdr.where_zero M) w (r >>= λ (m : Value × Text). cond (eqb (xdr.number_of m.0) 0) (reading K m.1 >>= λ (x : Value × Text). gives (m.0 ⊗ x.0) x.1) (gives (m.0 ⊗ none) m.1))) h
        ∙ done b z

pub status_alone : (K : Kind) (M : xdr.Kind xdr.part) (s : Text) (w v : List ℕ) (t u : Text) (n : ℕ) → reading (said s any) t ≡ gives (xdr.number n) u → v ≡ w ++ word_bytes n → (n ≡ 0 → ⊥)
    → packs_as (said s (where_zero K)) (xdr.where_zero M) w t ≡ packed v u
status_alone K M s w v t u n h e z = status_is K M s w v t u n false h e (ne_eqb n 0 z)

pub status_ends : (K : Kind) (M : xdr.Kind xdr.part) (s : Text) (w v : List ℕ) (t u : Text) (n : ℕ) (x : List ℕ) (d : Text) (r : Result (Unit {0}) LineError) → reading (said s any) t ≡ gives (xdr.number n) u → v ≡ w ++ word_bytes n → n ≡ 0
    → TakesAs K M v u x d r → TakesAs (said s (where_zero K)) (xdr.where_zero M) w t x d r
status_ends K M s w v t u n x d (Ok done) h e z k = status_is K M s w v t u n true h e (eq-eqb n 0 z) ∙ k
status_ends K M s w v t u n x d (Err r) h e z k = handed_on r k (λ none. status_is K M s w v t u n true h e (eq-eqb n 0 z) ∙ none)

pub status_none : (K : Kind) (M : xdr.Kind xdr.part) (s : Text) (w : List ℕ) (t : Text) → reading (said s any) t ≡ None → packs_as (said s (where_zero K)) (xdr.where_zero M) w t ≡ None
unfolding packs_as reading
status_none K M s w t h = step (strip s t) h
  where
    step : (o : Option Text) → (o >>= λ (c : Text). word_reading (digits 0 4294967295) c) ≡ None
        → packed_with (xdr.where_zero M) w (o >>= λ (c : Text). word_reading (digits 0 4294967295) c >>= λ (m : Value × Text). cond (eqb (xdr.number_of m.0) 0) (reading K m.1 >>= λ (x : Value × Text). gives (m.0 ⊗ x.0) x.1) (gives (m.0 ⊗ none) m.1)) ≡ None
    step None h = refl
    step (Some c) h = ap (λ (r : Read). packed_with (xdr.where_zero M) w (r >>= λ (m : Value × Text). cond (eqb (xdr.number_of m.0) 0) (reading K m.1 >>= λ (x : Value × Text). gives (m.0 ⊗ x.0) x.1) (gives (m.0 ⊗ none) m.1))) h

-- ---- the value of what is packed

pub record PackedValue (K : Kind) (M : xdr.Kind xdr.part) (w : List ℕ) (t : Text) (v : List ℕ) (u : Text) : Type 0 where
  pub value : Value
  pub read : reading K t ≡ gives value u
  pub written : v ≡ w ++ writes M value

pub packed_value : (K : Kind) (M : xdr.Kind xdr.part) (w : List ℕ) (t : Text) (v : List ℕ) (u : Text) → packs_as K M w t ≡ packed v u → PackedValue K M w t v u
packed_value K M w t v u e = let x = value_of K M w t v u e in record { value = x.value; read = x.read; written = x.written }

pub none_packed : (K : Kind) (M : xdr.Kind xdr.part) (w : List ℕ) (t : Text) → packs_as K M w t ≡ None → reading K t ≡ None
none_packed K M w t e = no_value K M w t e
