-- How many ticks calls last, one after another.
use Rattle.std.proofs.Common.{ℕ, ◌+◌, ◌≤◌, List, Option, Result, Ok, Err, inl, inr, sym, subst, arith}
use Rattle.sd_outside.specs.declared.packet.Packet.{Packet}
use Rattle.sd_link.specs.declared.link.LinkError.{LinkError}
use Rattle.sd_link.specs.declared.link.LinkError.TheVariants.{Failed, NoMemory}
use Rattle.sd_link.specs.Steps.{Step, History}
use Rattle.sd_link.specs.Parts.{ticks_in}
use Rattle.sd_link.specs.Link.{Moves, Sends}
use Rattle.sd_link.proofs.Histories.{moves_not, moves_then, moves_weaker, ticks-append}
use Rattle.sd_rpc_retry.specs.Lasting.{Lasts}

pub lasts_none : (told : Option History) (most : ℕ) → Lasts most told told
lasts_none told most = moves_not told (λ h part. ticks_in part ≤ most) (λ h. omega arith)

pub lasts_more : (old new : Option History) (few most : ℕ) → few ≤ most → Lasts few old new → Lasts most old new
lasts_more old new few most le m = moves_weaker old new (λ h part. ticks_in part ≤ few) (λ h part. ticks_in part ≤ most) (λ h part short. omega arith) m

pub lasts_then : (old mid new : Option History) (first second most : ℕ) → first + second ≤ most → Lasts first old mid → Lasts second mid new → Lasts most old new
lasts_then old mid new first second most le =
    moves_then old mid new (λ h part. ticks_in part ≤ first) (λ h part. ticks_in part ≤ second) (λ h part. ticks_in part ≤ most)
    (λ a b xs ys goes x y. omega (arith, ticks-append xs ys))

-- a send lets no tick pass
sent_ticks : (packet : Packet) (result : Result (Unit {0}) LinkError) (h : History) (part : List Step) → Sends packet result h part → ticks_in part ≤ 0
sent_ticks packet (Ok done) h part is = subst (λ (l : List Step). ticks_in l ≤ 0) (sym is) (omega arith)
sent_ticks packet (Err NoMemory) h part is = subst (λ (l : List Step). ticks_in l ≤ 0) (sym is) (omega arith)
sent_ticks packet (Err Failed) h part (inl is) = subst (λ (l : List Step). ticks_in l ≤ 0) (sym is) (omega arith)
sent_ticks packet (Err Failed) h part (inr is) = subst (λ (l : List Step). ticks_in l ≤ 0) (sym is) (omega arith)

pub lasts_sent : (old new : Option History) (packet : Packet) (result : Result (Unit {0}) LinkError) → Moves old new (Sends packet result) → Lasts 0 old new
lasts_sent old new packet result m = moves_weaker old new (Sends packet result) (λ h part. ticks_in part ≤ 0) (sent_ticks packet result) m

-- a link that tells goes on telling
pub goes_on : (old new : Option History) (most : ℕ) → Lasts most old new → Moves old new (λ h part. Unit {0})
goes_on old new most m = moves_weaker old new (λ h part. ticks_in part ≤ most) (λ h part. Unit {0}) (λ h part short. tt) m
