-- What the client knows while it gets packets until a tick.
use Rattle.std.proofs.Common.{◌≡◌, ℕ, ◌+◌, ◌≤◌, List, [], ◌∷◌, ◌++◌, map, Option, Some, None, refl, sym, ◌∙◌, ap, subst, arith, append_assoc}
use Rattle.std.specs.List.{flat_map, AllByRecursion}
use Rattle.sd_outside.specs.declared.packet.Packet.{Packet}
use Rattle.sd_config.specs.declared.config.Config.{Config}
use Rattle.sd_link.specs.World.{World}
use Rattle.sd_link.specs.Steps.{Step, Send, Get, History, world_of, run}
use Rattle.sd_link.specs.Parts.{sends_in, got_in, ticks_in}
use Rattle.sd_link.specs.Link.{GoesOn, Moves, TicksBefore, IsNow}
use Rattle.sd_link.specs.Tries.{Hearing, AreUnmatched, EndsMatched}
use Rattle.sd_link.proofs.AtOnce.{at_once-append, at_once-nothing, replied_sends}
use Rattle.sd_link.proofs.Histories.{got-append, before-append, before-bound, tick-run, world-goes, run-append, moves_weaker}
use Rattle.sd_rpc_retry.specs.Lasting.{StaysBefore, Lasts}
use Rattle.sd_rpc_retry.specs.Asking.{IsReplied, IsSilent}

-- ---- steps one after another

pub stays_then : (a b : History) (xs ys : List Step) (until : ℕ) → GoesOn a b xs → StaysBefore until a xs → StaysBefore until b ys → StaysBefore until a (xs ++ ys)
stays_then a b xs ys until goes first second =
    before-append until a.config (world_of a) xs ys first
    (subst (λ (w : World). TicksBefore until a.config w ys) (world-goes a b xs goes) (subst (λ (c : Config). TicksBefore until c (world_of b) ys) goes.config second))

pub at_end : (a b : History) (xs ys : List Step) → GoesOn a b xs → run b.config (world_of b) ys ≡ run a.config (world_of a) (xs ++ ys)
at_end a b xs ys goes =
    ap (λ (c : Config). run c (world_of b) ys) goes.config
    ∙ ap (λ (w : World). run a.config w ys) (world-goes a b xs goes)
    ∙ sym (run-append a.config (world_of a) xs ys)

-- what is sent for the packets of the one and then of the other
pub replied-append : {S : Type 0} (h : Hearing S) (xs ys : List Step) → IsReplied h xs → IsReplied h ys → IsReplied h (xs ++ ys)
replied-append h xs ys first second = at_once-append h.replies xs ys first second

-- nothing is got and nothing is sent
pub replied-nothing : {S : Type 0} (h : Hearing S) (xs : List Step) → sends_in xs ≡ [] → got_in xs ≡ [] → IsReplied h xs
replied-nothing h xs silent none = at_once-nothing h.replies xs silent none

-- one packet is got, and what is sent for it at once
pub replied-one : {S : Type 0} (h : Hearing S) (id : ℕ) (packet : Packet) (sent : List Packet) → h.replies packet ≡ sent → IsReplied h (Get id packet ∷ (map Send sent ++ []))
replied-one h id packet sent is = record { others = Get id packet ∷ []; silent = refl; steps_are = ap (λ (l : List Packet). Get id packet ∷ (map Send l ++ [])) (sym is) }

replies-none : {S : Type 0} (h : Hearing S) (packets : List Packet) → IsSilent h → flat_map h.replies packets ≡ []
replies-none h [] silent = refl
replies-none h (packet ∷ packets) silent = ap (λ (l : List Packet). l ++ flat_map h.replies packets) (silent packet) ∙ replies-none h packets silent

pub sends_nothing : {S : Type 0} (h : Hearing S) (rest : List Step) → IsSilent h → IsReplied h rest → sends_in rest ≡ []
sends_nothing h rest silent replied = replied_sends h.replies rest replied ∙ replies-none h (got_in rest) silent

-- ---- matches

pub all-append : {A : Type 0} (P : A → Type 0) (xs ys : List A) → AllByRecursion P xs → AllByRecursion P ys → AllByRecursion P (xs ++ ys)
all-append P [] ys first second = second
all-append P (x ∷ xs) ys first second = (first.0, all-append P xs ys first.1 second)

pub all-push : {A : Type 0} (P : A → Type 0) (xs : List A) (x : A) → AllByRecursion P xs → P x → AllByRecursion P (xs ++ x ∷ [])
all-push P xs x all one = all-append P xs (x ∷ []) all (one, tt)

pub unmatched-append : {S : Type 0} (match : Packet → Option S) (xs ys : List Step) → AreUnmatched match (got_in xs) → AreUnmatched match (got_in ys) → AreUnmatched match (got_in (xs ++ ys))
unmatched-append match xs ys first second =
    subst (λ (l : List Packet). AreUnmatched match l) (sym (got-append xs ys)) (all-append (λ packet. match packet ≡ None) (got_in xs) (got_in ys) first second)

pub unmatched-nothing : {S : Type 0} (match : Packet → Option S) (xs : List Step) → got_in xs ≡ [] → AreUnmatched match (got_in xs)
unmatched-nothing match xs none = subst (λ (l : List Packet). AreUnmatched match l) (sym none) tt

-- the first match of the other is that of both
pub matched-later : {S : Type 0} (match : Packet → Option S) (x : S) (xs ys : List Step) → AreUnmatched match (got_in xs) → EndsMatched match x ys → EndsMatched match x (xs ++ ys)
matched-later match x xs ys unmatched e = record {
  before = xs ++ e.before;
  id = e.id;
  packet = e.packet;
  cut = ap (λ (l : List Step). xs ++ l) e.cut ∙ sym (append_assoc xs e.before (Get e.id e.packet ∷ []));
  matched = e.matched;
  unmatched = unmatched-append match xs e.before unmatched e.unmatched;
}

-- ---- how long it lasts

-- no more ticks pass than there are to the end
pub short : (most now : ℕ) (b : History) (ys : List Step) → now ≡ (world_of b).tick → StaysBefore (now + most) b ys → ticks_in ys ≤ most
short most now b ys at stays =
    let moved = tick-run b.config (world_of b) ys in
    let bound = before-bound (now + most) b.config (world_of b) ys (omega arith) stays in
    omega arith

-- all of them pass where the end is reached
pub waited : (most now : ℕ) (b : History) (ys : List Step) → now ≡ (world_of b).tick → StaysBefore (now + most) b ys → now + most ≤ (run b.config (world_of b) ys).tick → ticks_in ys ≡ most
waited most now b ys at stays reached =
    let moved = tick-run b.config (world_of b) ys in
    let bound = before-bound (now + most) b.config (world_of b) ys (omega arith) stays in
    omega arith

-- a fact about where the history stands goes with its next part
pub at_now : (mid new : Option History) (now : ℕ) (Q : History → List Step → Type 0) → IsNow mid now → Moves mid new Q → Moves mid new (λ h part. (now ≡ (world_of h).tick) × Q h part)
at_now None None now Q at m = tt
at_now None (Some new) now Q at m = absurd m
at_now (Some mid) None now Q at m = absurd m
at_now (Some mid) (Some new) now Q at m = (m.0, m.1, (at, m.2))

pub lasts_from : (old new : Option History) (now most : ℕ) → IsNow old now → Moves old new (StaysBefore (now + most)) → Lasts most old new
lasts_from old new now most at m =
    moves_weaker old new (λ h part. (now ≡ (world_of h).tick) × StaysBefore (now + most) h part) (λ h part. ticks_in part ≤ most)
    (λ h part s. short most now h part s.0 s.1)
    (at_now old new now (StaysBefore (now + most)) at m)
