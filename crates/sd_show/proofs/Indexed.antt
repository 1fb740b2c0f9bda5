-- The call that a reply answers, by the index of the calls.
use Rattle.std.proofs.Common.{◌≡◌, ℕ, suc, ◌+◌, ◌-◌, ◌<◌, ◌≤◌, Bool, true, false, cond, ◌&&◌, ◌||◌, eqb, List, [], ◌∷◌, ◌++◌, length, get_or, Option, Some, None, refl, sym, ap, subst, ◌∙◌, arith}
use Rattle.std.specs.Prelude.{nat_le, IfSome}
use Rattle.std.specs.Cmp.{unsigned_tied}
use Rattle.std.specs.declared.cmp.Ordering.{Ordering}
use Rattle.std.specs.Ordering.{is_eq, nat_cmp, ordering_then}
use Rattle.std.specs.declared.cmp.Ordering.TheVariants.{Less, Equal, Greater}
use Rattle.std.specs.BTreeMap.{BTreeMap, get, is_at, Updates}
use Rattle.sd_outside.specs.declared.packet.Addr.{Addr}
use Rattle.sd_show.specs.declared.procedures.Procedure.{Procedure}
use Rattle.sd_show.specs.declared.calls.Heard.{Heard}
use Rattle.sd_show.specs.declared.calls.Exchange.{Exchange}
use Rattle.sd_outside.specs.Bytes.{broadcast_ip}
use Rattle.sd_show.specs.Calls.{is_answered, or_else, answered}
use Rattle.sd_show.specs.Exchanges.{exchange_of, exchange_cmp, is_of, or_that, latest, later, IsIndex, IsAskedAt}

-- ---- the order tells exchanges apart

then_equal : (x y : Ordering) → is_eq (ordering_then x y) ≡ (is_eq x && is_eq y)
then_equal Less y = refl
then_equal Equal y = refl
then_equal Greater y = refl

is_here : (h : Heard) (e : Exchange) → is_at (exchange_cmp (exchange_of h.xid h.src h.dst)) e ≡ is_of e h
is_here h e =
    let xid = nat_cmp h.xid e.xid in
    let src_ip = nat_cmp h.src.ip e.src_ip in
    let src_port = nat_cmp h.src.port e.src_port in
    let dst_ip = nat_cmp h.dst.ip e.dst_ip in
    let dst_port = nat_cmp h.dst.port e.dst_port in
    then_equal xid (ordering_then src_ip (ordering_then src_port (ordering_then dst_ip dst_port)))
    ∙ ap (λ (v : Bool). is_eq xid && v) (then_equal src_ip (ordering_then src_port (ordering_then dst_ip dst_port))
    ∙ ap (λ (v : Bool). is_eq src_ip && v) (then_equal src_port (ordering_then dst_ip dst_port) ∙ ap (λ (v : Bool). is_eq src_port && v) (then_equal dst_ip dst_port)))
    ∙ (λ i. unsigned_tied h.xid e.xid i && (unsigned_tied h.src.ip e.src_ip i && (unsigned_tied h.src.port e.src_port i && (unsigned_tied h.dst.ip e.dst_ip i && unsigned_tied h.dst.port e.dst_port i))))

-- ---- one more call

last_latest : (v : Bool) (a b : Option ℕ) (n : ℕ) → or_that (cond v (Some n) a) b ≡ cond v (Some n) (or_that a b)
last_latest true a b n = refl
last_latest false a b n = refl

only : (v : Bool) (n : ℕ) → or_that None (cond v (Some n) None) ≡ cond v (Some n) None
only true n = refl
only false n = refl

latest_snoc : (e : Exchange) (place : ℕ) (calls : List Heard) (h : Heard) → latest e place (calls ++ h ∷ []) ≡ cond (is_of e h) (Some (place + length calls)) (latest e place calls)
latest_snoc e place [] h =
    let same : place ≡ place + 0 = omega arith in
    only (is_of e h) place ∙ ap (λ (n : ℕ). cond (is_of e h) (Some n) None) same
latest_snoc e place (g ∷ calls) h =
    let same : place + 1 + length calls ≡ place + suc (length calls) = omega arith in
    let first = cond (is_of e g) (Some place) None in
    ap (λ (p : Option ℕ). or_that p first) (latest_snoc e (place + 1) calls h)
    ∙ last_latest (is_of e h) (latest e (place + 1) calls) first (place + 1 + length calls)
    ∙ ap (λ (n : ℕ). cond (is_of e h) (Some n) (or_that (latest e (place + 1) calls) first)) same

pub index_grows : (old new : BTreeMap Exchange ℕ) (calls : List Heard) (h : Heard) (place : ℕ) → place ≡ length calls → Updates exchange_cmp old new (exchange_of h.xid h.src h.dst) (Some place) → IsIndex old calls → IsIndex new (calls ++ h ∷ [])
index_grows old new calls h place len updates is e =
    let same : place ≡ 0 + length calls = omega (arith, len) in
    updates.0 e ∙ (λ i. cond (is_here h e i) (Some (same i)) (is e i)) ∙ sym (latest_snoc e 0 calls h)

-- ---- places

abbrev AtLeast : ℕ → Option ℕ → Type 0
AtLeast least None = Unit {0}
AtLeast least (Some n) = least ≤ n

abbrev IsBelow : ℕ → Option ℕ → Type 0
IsBelow end None = Unit {0}
IsBelow end (Some n) = n < end

at_least : (e : Exchange) (place : ℕ) (calls : List Heard) → AtLeast place (latest e place calls)
at_least e place [] = tt
at_least e place (g ∷ calls) = of (latest e (place + 1) calls) (is_of e g) (at_least e (place + 1) calls)
  where
    of : (p : Option ℕ) (v : Bool) → AtLeast (place + 1) p → AtLeast place (or_that p (cond v (Some place) None))
    of (Some n) v h = omega (arith, h)
    of None true h = omega arith
    of None false h = tt

below : (e : Exchange) (place : ℕ) (calls : List Heard) → IsBelow (place + length calls) (latest e place calls)
below e place [] = tt
below e place (g ∷ calls) = of (latest e (place + 1) calls) (is_of e g) (below e (place + 1) calls)
  where
    of : (p : Option ℕ) (v : Bool) → IsBelow (place + 1 + length calls) p → IsBelow (place + suc (length calls)) (or_that p (cond v (Some place) None))
    of (Some n) v h = omega (arith, h)
    of None true h = omega arith
    of None false h = tt

chosen : (end n m : ℕ) (v : Bool) → n < end → m < end → cond v m n < end
chosen end n m true h k = k
chosen end n m false h k = h

later_below : (end : ℕ) (p q : Option ℕ) → IsBelow end p → IsBelow end q → IsBelow end (later p q)
later_below end None q h k = k
later_below end (Some n) None h k = h
later_below end (Some n) (Some m) h k = chosen end n m (nat_le n m) h k

-- ---- what a reply answers

-- what the call at a place asked for, where the first of the calls has this place
abbrev asked_at : Heard → ℕ → List Heard → Option ℕ → Option Procedure
asked_at d place calls None = None
asked_at d place calls (Some n) = Some (get_or calls (n - place) d).procedure

deeper : (d h : Heard) (place : ℕ) (calls : List Heard) (n : ℕ) → place + 1 ≤ n → asked_at d (place + 1) calls (Some n) ≡ asked_at d place (h ∷ calls) (Some n)
deeper d h place calls n le =
    let same : n - place ≡ suc (n - (place + 1)) = omega (arith, le) in
    sym (ap (λ (k : ℕ). Some (get_or (h ∷ calls) k d).procedure) same)

here : (d h : Heard) (place : ℕ) (calls : List Heard) → Some h.procedure ≡ asked_at d place (h ∷ calls) (Some place)
here d h place calls =
    let same : place - place ≡ 0 = omega arith in
    sym (ap (λ (k : ℕ). Some (get_or (h ∷ calls) k d).procedure) same)

not_yet : (n place : ℕ) → place + 1 ≤ n → nat_le n place ≡ false
not_yet n place le = grind arith

before : (n place : ℕ) → place + 1 ≤ n → nat_le place n ≡ true
before n place le = grind arith

either_one : (v : Bool) (n : ℕ) → cond v n n ≡ n
either_one true n = refl
either_one false n = refl

farther : (v : Bool) (least n m : ℕ) → least ≤ n → least ≤ m → least ≤ cond v m n
farther true least n m h k = k
farther false least n m h k = h

step : (d h : Heard) (place : ℕ) (calls : List Heard) (p q : Option ℕ) (u v : Bool) → AtLeast (place + 1) p → AtLeast (place + 1) q
    → or_else (asked_at d (place + 1) calls (later p q)) (cond (u || v) (Some h.procedure) None)
    ≡ asked_at d place (h ∷ calls) (later (or_that p (cond u (Some place) None)) (or_that q (cond v (Some place) None)))
step d h place calls None None true true le ge =
    here d h place calls ∙ ap (λ (n : ℕ). asked_at d place (h ∷ calls) (Some n)) (sym (either_one (nat_le place place) place))
step d h place calls None None true false le ge = here d h place calls
step d h place calls None None false true le ge = here d h place calls
step d h place calls None None false false le ge = refl
step d h place calls None (Some m) true v le ge =
    deeper d h place calls m ge ∙ ap (λ (b : Bool). asked_at d place (h ∷ calls) (Some (cond b m place))) (sym (before m place ge))
step d h place calls None (Some m) false v le ge = deeper d h place calls m ge
step d h place calls (Some n) None u true le ge =
    deeper d h place calls n le ∙ ap (λ (b : Bool). asked_at d place (h ∷ calls) (Some (cond b place n))) (sym (not_yet n place le))
step d h place calls (Some n) None u false le ge = deeper d h place calls n le
step d h place calls (Some n) (Some m) u v le ge = deeper d h place calls (cond (nat_le n m) m n) (farther (nat_le n m) (place + 1) n m le ge)

-- to all machines, at the port from which a reply comes
abbrev pub to_all : Addr → Addr
to_all src = record { ip = broadcast_ip; port = src.port }

two_ways : (x a b c d e f : Bool) → (x && (a && b) && ((c && d) || (e && f))) ≡ ((x && (a && (b && (c && d)))) || (x && (a && (b && (e && f)))))
two_ways false a b c d e f = refl
two_ways true false b c d e f = refl
two_ways true true false c d e f = refl
two_ways true true true c d e f = refl

answered_by : (xid : ℕ) (src dst : Addr) (h : Heard) → is_answered xid src dst h ≡ (is_of (exchange_of xid dst src) h || is_of (exchange_of xid dst (to_all src)) h)
answered_by xid src dst h =
    two_ways (eqb h.xid xid) (eqb h.src.ip dst.ip) (eqb h.src.port dst.port) (eqb h.dst.ip src.ip) (eqb h.dst.port src.port) (eqb h.dst.ip broadcast_ip) (eqb h.dst.port src.port)

found : (xid : ℕ) (src dst : Addr) (d : Heard) (place : ℕ) (calls : List Heard)
    → answered xid src dst calls ≡ asked_at d place calls (later (latest (exchange_of xid dst src) place calls) (latest (exchange_of xid dst (to_all src)) place calls))
found xid src dst d place [] = refl
found xid src dst d place (h ∷ calls) =
    let back = exchange_of xid dst src in
    let all = exchange_of xid dst (to_all src) in
    ap (λ (p : Option Procedure). or_else p (cond (is_answered xid src dst h) (Some h.procedure) None)) (found xid src dst d (place + 1) calls)
    ∙ ap (λ (v : Bool). or_else (asked_at d (place + 1) calls (later (latest back (place + 1) calls) (latest all (place + 1) calls))) (cond v (Some h.procedure) None)) (answered_by xid src dst h)
    ∙ step d h place calls (latest back (place + 1) calls) (latest all (place + 1) calls) (is_of back h) (is_of all h) (at_least back (place + 1) calls) (at_least all (place + 1) calls)

-- by the index
same_places : (index : BTreeMap Exchange ℕ) (calls : List Heard) (one other : Exchange) (p q : Option ℕ) → IsIndex index calls → p ≡ get exchange_cmp index one → q ≡ get exchange_cmp index other
    → later p q ≡ later (latest one 0 calls) (latest other 0 calls)
same_places index calls one other p q is first second = λ i. later ((first ∙ is one) i) ((second ∙ is other) i)

-- some call, which is not looked at
some_call : Addr → Heard
some_call src = record { xid = 0; src = src; dst = src; procedure = record { prog = 0; vers = 0; proc_no = 0 } }

asked_is : (xid : ℕ) (src dst : Addr) (calls : List Heard) (r : Option ℕ) → later (latest (exchange_of xid dst src) 0 calls) (latest (exchange_of xid dst (to_all src)) 0 calls) ≡ r
    → IsAskedAt calls r (answered xid src dst calls)
asked_is xid src dst calls None h = found xid src dst (some_call src) 0 calls ∙ ap (asked_at (some_call src) 0 calls) h
asked_is xid src dst calls (Some n) h = λ d.
    let same : n - 0 ≡ n = omega arith in
    found xid src dst d 0 calls ∙ ap (asked_at d 0 calls) h ∙ ap (λ (k : ℕ). Some (get_or calls k d).procedure) same

pub by_index : (xid : ℕ) (src dst : Addr) (index : BTreeMap Exchange ℕ) (calls : List Heard) (p q r : Option ℕ) → IsIndex index calls → r ≡ later p q
    → p ≡ get exchange_cmp index (exchange_of xid dst src) → q ≡ get exchange_cmp index (exchange_of xid dst (to_all src)) → IsAskedAt calls r (answered xid src dst calls)
by_index xid src dst index calls p q r is same first second =
    asked_is xid src dst calls r (sym (same ∙ same_places index calls (exchange_of xid dst src) (exchange_of xid dst (to_all src)) p q is first second))

if_below : (end : ℕ) (r : Option ℕ) → IsBelow (0 + end) r → IfSome r (λ place. place < end)
if_below end None h = tt
if_below end (Some n) h = omega (arith, h)

pub within : (index : BTreeMap Exchange ℕ) (calls : List Heard) (one other : Exchange) (p q r : Option ℕ) → IsIndex index calls → r ≡ later p q
    → p ≡ get exchange_cmp index one → q ≡ get exchange_cmp index other → IfSome r (λ place. place < length calls)
within index calls one other p q r is same first second =
    if_below (length calls) r (subst (IsBelow (0 + length calls)) (sym (same ∙ same_places index calls one other p q is first second))
    (later_below (0 + length calls) (latest one 0 calls) (latest other 0 calls) (below one 0 calls) (below other 0 calls)))
