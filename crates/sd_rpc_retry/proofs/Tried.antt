-- One try: a send, and then what was heard.
use Rattle.std.proofs.Common.{◌≡◌, ℕ, ◌+◌, List, [], ◌∷◌, ◌++◌, length, Option, Some, None, Ok, Err, inl, inr, sym, ap, subst, arith}
use Rattle.sd_outside.specs.declared.packet.Packet.{Packet}
use Rattle.sd_link.specs.World.{World}
use Rattle.sd_link.specs.Parts.{got_in, ticks_in}
use Rattle.sd_link.specs.Steps.{Step, Send, History, world_of}
use Rattle.sd_link.specs.Link.{GoesOn, Moves, Sends, IsNow}
use Rattle.sd_link.specs.declared.link.LinkError.{LinkError}
use Rattle.sd_link.specs.declared.link.LinkError.TheVariants.{Failed}
use Rattle.sd_link.specs.Tries.{Hearing, AreUnmatched, at_request, behind_request}
use Rattle.sd_link.proofs.Histories.{moves_then, moves_weaker, world-goes, tick-run}
use Rattle.sd_rpc_retry.specs.declared.asking.Heard.{Heard}
use Rattle.sd_rpc_retry.specs.declared.asking.Heard.TheVariants.{Found, Nothing, Flood, Fault}
use Rattle.sd_rpc_retry.specs.Asking.{Hears, Tried, IsFailed}
use Rattle.sd_rpc_retry.proofs.Settling.{settled-then}
use Rattle.sd_rpc_retry.proofs.Getting.{short, waited, at_now}

tried : {S T : Type 0} (request : Packet) (h : Hearing S) (shows : T → S) (wait now : ℕ) (heard : Heard T) (a b : History) (xs ys : List Step)
    → GoesOn a b xs → xs ≡ Send request ∷ [] → now ≡ (world_of b).tick → Hears h shows (now + wait) heard b ys → Tried request h shows wait heard a (xs ++ ys)
tried request h shows wait now (Found x) a b xs ys goes is at e = record {
  rest = ys;
  cut = ap (λ (l : List Step). l ++ ys) is;
  replied = e.found.0;
  short = short wait now b ys at e.ticks;
  most = e.found.2;
  ending = e.found.1;
}
tried request h shows wait now Nothing a b xs ys goes is at e = (
  record {
    rest = ys;
    cut = ap (λ (l : List Step). l ++ ys) is;
    replied = e.found.0;
    short = short wait now b ys at e.ticks;
    most = omega (arith, e.found.3);
    ending = record { unmatched = e.found.1; waited = waited wait now b ys at e.ticks e.found.2; calm = e.found.3 };
  },
  settled-then a b xs ys goes e.found.4,
)
tried request h shows wait now Flood a b xs ys goes is at e = record {
  rest = ys;
  cut = ap (λ (l : List Step). l ++ ys) is;
  replied = e.found.0;
  short = short wait now b ys at e.ticks;
  most = omega (arith, e.found.2);
  ending = record { unmatched = e.found.1; many = e.found.2; ends = e.found.3 };
}
tried request h shows wait now Fault a b xs ys goes is at e =
    subst (IsFailed request h wait) (sym (ap (λ (l : List Step). l ++ ys) is)) (record { failed = behind_request ys e.found.0; unmatched = e.found.1; short = short wait now b ys at e.ticks })

-- the request couldn't be sent
unsent : {S : Type 0} (request : Packet) (h : Hearing S) (wait : ℕ) (a : History) (part : List Step) → Sends request (Err Failed) a part → IsFailed request h wait part
unsent request h wait a part (inl is) = record { failed = at_request part (inl is); unmatched = subst (λ (l : List Step). AreUnmatched h.match (got_in l)) (sym is) tt; short = omega (arith, ap ticks_in is) }
unsent request h wait a part (inr is) = record { failed = at_request part (inr is); unmatched = subst (λ (l : List Step). AreUnmatched h.match (got_in l)) (sym is) tt; short = omega (arith, ap ticks_in is) }

pub tries_unsent : {S T : Type 0} (old new : Option History) (request : Packet) (h : Hearing S) (shows : T → S) (wait : ℕ) (why : LinkError) → why ≡ Failed → Moves old new (Sends request (Err why)) → Moves old new (Tried request h shows wait Fault)
tries_unsent old new request h shows wait why is m =
    moves_weaker old new (Sends request (Err Failed)) (Tried request h shows wait Fault) (λ a part s. unsent request h wait a part s) (subst (λ (e : LinkError). Moves old new (Sends request (Err e))) is m)

pub tries_once : {S T : Type 0} (old mid new : Option History) (request : Packet) (h : Hearing S) (shows : T → S) (wait now : ℕ) (heard : Heard T)
    → Moves old mid (Sends request (Ok tt)) → IsNow mid now → Moves mid new (Hears h shows (now + wait) heard) → Moves old new (Tried request h shows wait heard)
tries_once old mid new request h shows wait now heard sent at heard_is =
    moves_then old mid new (Sends request (Ok tt)) (λ g part. (now ≡ (world_of g).tick) × Hears h shows (now + wait) heard g part) (Tried request h shows wait heard)
    (λ a b xs ys goes s e. tried request h shows wait now heard a b xs ys goes s e.0 e.1)
    sent (at_now mid new now (Hears h shows (now + wait) heard) at heard_is)

-- a send takes no time
pub now_sent : (old mid : Option History) (request : Packet) (now : ℕ) → IsNow old now → Moves old mid (Sends request (Ok tt)) → IsNow mid now
now_sent None None request now at m = tt
now_sent None (Some b) request now at m = absurd m
now_sent (Some a) None request now at m = absurd m
now_sent (Some a) (Some b) request now at m =
    let there = ap (λ (w : World). w.tick) (world-goes a b m.0 m.1) in
    omega (arith, at, there, tick-run a.config (world_of a) m.0, ap ticks_in m.2)
