-- What a pause shows, packet by packet.
use Rattle.std.proofs.Common.{◌≡◌, ℕ, ◌+◌, ◌<◌, List, [], ◌∷◌, ◌++◌, Option, None, Ok, Err, sym, ◌∙◌, ap, arith, append_assoc}
use Rattle.sd_link.specs.Steps.{Step, Fail, History, world_of}
use Rattle.sd_link.specs.declared.link.LinkError.TheVariants.{Failed}
use Rattle.sd_link.specs.Link.{GoesOn, Moves, Receives, IsNow}
use Rattle.sd_link.proofs.Histories.{moves_weaker}
use Rattle.sd_link.specs.Tries.{flood_limit}
use Rattle.sd_boot_chain.specs.declared.pause.Pause.{Pause}
use Rattle.sd_boot_chain.specs.declared.pause.Pause.TheVariants.{Over, Flood, Fault}
use Rattle.sd_boot_chain.specs.Pause.{Passes, IsPause, IsWaitAnswer}
use Rattle.sd_claims.specs.Causes.{wait_ok, wait_flood, wait_linkfault}
use Rattle.sd_config.specs.declared.told.Told.TheVariants.{WaitOk, WaitFlood, WaitLinkFault}
use Rattle.sd_rpc_retry.proofs.Settling.{settled-then}
use Rattle.sd_rpc_retry.proofs.Getting.{short, waited, at_now}
use Rattle.sd_boot_chain.proofs.Dropping.{Drops, gets_nothing, gets_until, gets_error}

module _ (until count : ℕ) (a b : History) (xs ys : List Step) (goes : GoesOn a b xs) (q : Drops until count a xs) where
  pub passes_over : count < flood_limit → Receives until (Ok None) b ys → Passes until Over a (xs ++ ys)
  passes_over few r =
      let g = gets_nothing until count a b xs ys goes q.gets r in
      record { silent = g.silent; ticks = g.ticks; ended = (gets_until until count a b xs ys goes q.gets r, omega (arith, few, g.counted), settled-then a b xs ys goes r.hands.2) }

  pub passes_fault : count < flood_limit → Receives until (Err Failed) b ys → Passes until Fault a (xs ++ ys)
  passes_fault few r =
      let g = gets_error until count a b xs ys goes q.gets Failed r in
      record { silent = g.silent; ticks = g.ticks; ended = (omega (arith, few, g.counted), xs ++ r.hands.0, ap (λ (l : List Step). xs ++ l) r.hands.1 ∙ sym (append_assoc xs r.hands.0 (Fail ∷ []))) }

pub passes_flood : (until : ℕ) (h : History) (part : List Step) → Drops until flood_limit h part → Passes until Flood h part
passes_flood until h part d = record { silent = d.gets.silent; ticks = d.gets.ticks; ended = (d.gets.counted, d.last (omega arith)) }

pause_is : (ticks now : ℕ) (pause : Pause) (h : History) (part : List Step) → now ≡ (world_of h).tick → Passes (now + ticks) pause h part → IsPause ticks pause h part
pause_is ticks now Over h part at p = record { silent = p.silent; passed = waited ticks now h part at p.ticks p.ended.0; calm = p.ended.1; settles = p.ended.2 }
pause_is ticks now Flood h part at p = record { silent = p.silent; passed = short ticks now h part at p.ticks; many = p.ended.0; ends = p.ended.1 }
pause_is ticks now Fault h part at p = record { before = p.ended.1; silent = p.silent; passed = short ticks now h part at p.ticks; few = p.ended.0; cut = p.ended.2 }

pub pauses : (old new : Option History) (ticks now : ℕ) (pause : Pause) → IsNow old now → Moves old new (Passes (now + ticks) pause) → Moves old new (IsPause ticks pause)
pauses old new ticks now pause at m =
    moves_weaker old new (λ h part. (now ≡ (world_of h).tick) × Passes (now + ticks) pause h part) (IsPause ticks pause)
    (λ h part p. pause_is ticks now pause h part p.0 p.1)
    (at_now old new now (Passes (now + ticks) pause) at m)

pub waited_so : (ticks : ℕ) (h : History) (part : List Step) → IsPause ticks Over h part → IsWaitAnswer ticks (WaitOk ticks) h part
waited_so ticks h part p = (λ n. wait_ok ticks part p, p.settles)

pub flooded_so : (ticks : ℕ) (h : History) (part : List Step) → IsPause ticks Flood h part → IsWaitAnswer ticks (WaitFlood ticks) h part
flooded_so ticks h part p = (λ n. wait_flood ticks part p, tt)

pub failed_so : (ticks : ℕ) (h : History) (part : List Step) → IsPause ticks Fault h part → IsWaitAnswer ticks (WaitLinkFault ticks) h part
failed_so ticks h part p = (λ n. wait_linkfault ticks part p, tt)
