-- How often a link fails in calls, one after another.
use Rattle.std.proofs.Common.{◌≡◌, ℕ, ◌+◌, List, Option, Some, None, Result, Ok, Err, inl, inr, refl, ap, subst, arith}
use Rattle.sd_outside.specs.declared.packet.Packet.{Packet}
use Rattle.sd_link.specs.declared.link.LinkError.{LinkError}
use Rattle.sd_link.specs.declared.link.LinkError.TheVariants.{Failed, NoMemory}
use Rattle.sd_link.specs.Steps.{Step, History}
use Rattle.sd_link.specs.Parts.{fails_in}
use Rattle.sd_link.specs.Link.{Moves, Sends, Receives, failures}
use Rattle.sd_link.proofs.Histories.{moves_not, moves_then, moves_weaker, fails-append}
use Rattle.sd_rpc_retry.specs.Lasting.{Fails}

pub fails_none : (told : Option History) → Fails 0 told told
fails_none told = moves_not told (λ h part. fails_in part ≡ 0) (λ h. refl)

-- where nothing failed before
pub fails_then : (old mid new : Option History) (count : ℕ) → Fails 0 old mid → Fails count mid new → Fails count old new
fails_then old mid new count =
    moves_then old mid new (λ h part. fails_in part ≡ 0) (λ h part. fails_in part ≡ count) (λ h part. fails_in part ≡ count)
    (λ a b xs ys goes x y. omega (arith, x, y, fails-append xs ys))

pub fails_received : (old new : Option History) (until : ℕ) (result : Result (Option Packet) LinkError) → Moves old new (Receives until result) → Fails (failures result) old new
fails_received old new until result m = moves_weaker old new (Receives until result) (λ h part. fails_in part ≡ failures result) (λ h part r. r.fails) m

abbrev pub send_failures : Result (Unit {0}) LinkError → ℕ
send_failures (Ok done) = 0
send_failures (Err Failed) = 1
send_failures (Err NoMemory) = 0

sent_fails : (packet : Packet) (result : Result (Unit {0}) LinkError) (h : History) (part : List Step) → Sends packet result h part → fails_in part ≡ send_failures result
sent_fails packet (Ok done) h part is = ap fails_in is
sent_fails packet (Err NoMemory) h part is = ap fails_in is
sent_fails packet (Err Failed) h part (inl is) = ap fails_in is
sent_fails packet (Err Failed) h part (inr is) = ap fails_in is

pub fails_sent : (old new : Option History) (packet : Packet) (result : Result (Unit {0}) LinkError) → Moves old new (Sends packet result) → Fails (send_failures result) old new
fails_sent old new packet result m = moves_weaker old new (Sends packet result) (λ h part. fails_in part ≡ send_failures result) (sent_fails packet result) m

-- which error it was
pub received_err : (old new : Option History) (until : ℕ) (why is : LinkError) → why ≡ is → Moves old new (Receives until (Err why)) → Fails (failures (Err is)) old new
received_err old new until why is same m = subst (λ (e : LinkError). Fails (failures (Err e)) old new) same (fails_received old new until (Err why) m)

pub sent_err : (old new : Option History) (packet : Packet) (why is : LinkError) → why ≡ is → Moves old new (Sends packet (Err why)) → Fails (send_failures (Err is)) old new
sent_err old new packet why is same m = subst (λ (e : LinkError). Fails (send_failures (Err e)) old new) same (fails_sent old new packet (Err why) m)
