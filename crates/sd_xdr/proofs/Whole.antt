-- Whole messages, and the laws of every layout.
use Rattle.std.proofs.Common.{◌≡◌, ℕ, ◌+◌, List, [], ◌++◌, length, take, Result, Ok, Err, refl, sym, ap, subst, ◌∙◌, arith, inl, inr, ◌⊎◌}
use Rattle.std.proofs.lemmas.List.{append-nil, take_at}
use Rattle.sd_xdr.specs.declared.error.MsgError.{MsgError}
use Rattle.sd_xdr.specs.declared.error.MsgError.TheVariants.{Xdr, RpcVersion, AuthLong, NoMemory}
use Rattle.sd_xdr.specs.Kind.{part, whole, Kind, Value}
use Rattle.sd_xdr.specs.Grammar.{word_bytes, Reads, Refuses, Fails, Answers, filled, counted}
use Rattle.sd_xdr.specs.Reading.{Cursor, Read, start, Stops, Takes, reading}
use Rattle.sd_xdr.specs.Laws.{PartsAreKept, OneValue, NeverBoth, OneRefusal, EitherWay, TakesPrefix, ReadingIsTheGrammar}
use Rattle.sd_outside.specs.Bytes.{IsBytes}
use Rattle.sd_xdr.proofs.Spelled.{gives, not_whole}
use Rattle.sd_xdr.proofs.Sound.{spelled, refused, ok_is}
use Rattle.sd_xdr.proofs.Again.{from, reads_again, refuses_again}

-- a whole message that is read is spelled so
pub found : (K : Kind whole) (bs : List ℕ) (x : Value) (d : Cursor) → IsBytes bs → reading K (start bs) ≡ Ok (x, d) → Reads whole K bs x
unfolding word_bytes filled counted
found K bs x d fits h =
    let s = spelled whole K (start bs) x d fits h in
    let all : s.front ≡ bs = sym (s.parts ∙ ap (λ (u : List ℕ). s.front ++ u) (s.last refl) ∙ append-nil s.front) in
    subst (λ (u : List ℕ). Reads whole K u x) all s.reads

pub fails : (K : Kind whole) (bs : List ℕ) (r : MsgError) → IsBytes bs → Stops r (reading K (start bs)) → Fails K bs r
unfolding word_bytes filled counted
fails K bs NoMemory fits h = tt
fails K bs (Xdr r) fits h = refused whole K (start bs) (Xdr r) fits h
fails K bs (RpcVersion xid got) fits h = refused whole K (start bs) (RpcVersion xid got) fits h
fails K bs (AuthLong at len) fits h = refused whole K (start bs) (AuthLong at len) fits h

-- what a reader of a whole message owes, from how it went
pub answers : {X : Type 0} (K : Kind whole) (view : X → Value) (bs : List ℕ) (new : Cursor) (r : Result X MsgError) → IsBytes bs → Takes K view (start bs) new r → Answers K view bs r
unfolding word_bytes filled counted
answers K view bs new (Ok x) fits h = found K bs (view x) new fits h
answers K view bs new (Err r) fits h = fails K bs r fits h

-- ---- the laws

follows_nothing : whole ≡ whole → ◌≡◌ {A = List ℕ} [] []
unfolding word_bytes filled counted
follows_nothing h = refl

-- a whole message that is spelled is read
pub whole_again : (K : Kind whole) (bs : List ℕ) (x : Value) → Reads whole K bs x → reading K (from 0 bs) ≡ gives x (0 + length bs) []
unfolding word_bytes filled counted
whole_again K bs x h = ap (λ (u : List ℕ). reading K (from 0 u)) (sym (append-nil bs)) ∙ reads_again whole K bs x h 0 [] follows_nothing

first_is : (x y : Value) (c d : Cursor) → ◌≡◌ {A = Read} (Ok (x, c)) (Ok (y, d)) → x ≡ y
unfolding word_bytes filled counted
first_is x y c d h = ap (λ (v : Value × Cursor). v.0) (ok_is (x, c) (y, d) h)

second_is : (x y : Value) (c d : Cursor) → ◌≡◌ {A = Read} (Ok (x, c)) (Ok (y, d)) → c ≡ d
unfolding word_bytes filled counted
second_is x y c d h = ap (λ (v : Value × Cursor). v.1) (ok_is (x, c) (y, d) h)

pub parts_are_kept : PartsAreKept
unfolding word_bytes filled counted
parts_are_kept K front bs s t x y h k e =
    let p = reads_again part K front x h 0 s not_whole in
    let q = reads_again part K bs y k 0 t not_whole in
    let both : gives x (0 + length front) s ≡ gives y (0 + length bs) t = sym p ∙ ap (λ (u : List ℕ). reading K (from 0 u)) e ∙ q in
    let len : length front ≡ length bs = omega (arith, ap (λ (c : Cursor). c.at) (second_is x y (from (0 + length front) s) (from (0 + length bs) t) both)) in
    let same : front ≡ bs = sym (take_at front s (length front) refl) ∙ ap (λ (u : List ℕ). take (length front) u) e ∙ take_at bs t (length front) (sym len) in
    (same, first_is x y (from (0 + length front) s) (from (0 + length bs) t) both)

pub one_value : OneValue
unfolding word_bytes filled counted
one_value K bs x y h k = first_is x y (from (0 + length bs) []) (from (0 + length bs) []) (sym (whole_again K bs x h) ∙ whole_again K bs y k)

apart : (x : Value × Cursor) (r : MsgError) → ◌≡◌ {A = Read} (Ok x) (Err r) → ⊥
unfolding word_bytes filled counted
apart x r h = cc

pub never_both : NeverBoth
unfolding word_bytes filled counted
never_both K bs x r h k = apart (x, from (0 + length bs) []) r (sym (whole_again K bs x h) ∙ refuses_again whole K 0 bs r k)

err_is : (q r : MsgError) → ◌≡◌ {A = Read} (Err q) (Err r) → q ≡ r
unfolding word_bytes filled counted
err_is q r h = cc

pub one_refusal : OneRefusal
unfolding word_bytes filled counted
one_refusal e K at bs q r h k = err_is q r (sym (refuses_again e K at bs q h) ∙ refuses_again e K at bs r k)

by_reading : (K : Kind whole) (bs : List ℕ) → IsBytes bs → (r : Read) → reading K (start bs) ≡ r → ((x : Value) × Reads whole K bs x) ⊎ ((r : MsgError) × Refuses whole K 0 bs r)
unfolding word_bytes filled counted
by_reading K bs fits (Ok x) h = inl (x.0, found K bs x.0 x.1 fits h)
by_reading K bs fits (Err r) h = inr (r, refused whole K (start bs) r fits h)

pub either_way : EitherWay
unfolding word_bytes filled counted
either_way K bs fits = by_reading K bs fits (reading K (start bs)) refl

-- a value that is spelled at the front is read, and the refusal of the grammar is given
front_again : (K : Kind part) (c : Cursor) (x : Value) (d : Cursor) → TakesPrefix K c x d → reading K c ≡ Ok (x, d)
unfolding word_bytes filled counted
front_again K c x d t =
    let read : reading K (from c.at (t.front ++ d.rest)) ≡ gives x (c.at + length t.front) d.rest = reads_again part K t.front x t.reads c.at d.rest not_whole in
    ap (λ (u : List ℕ). reading K (from c.at u)) t.parts ∙ read ∙ ap (λ (k : ℕ). gives x k d.rest) (sym t.place)

pub reading_is_the_grammar : ReadingIsTheGrammar
unfolding word_bytes filled counted
reading_is_the_grammar K c fits = (
  λ x d. (λ h. let s = spelled part K c x d fits h in record { front = s.front; parts = s.parts; place = s.place; reads = s.reads }, λ t. front_again K c x d t),
  λ r. (λ h. refused part K c r fits h, λ h. refuses_again part K c.at c.rest r h),
)
