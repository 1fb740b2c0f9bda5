-- What the client sends while it waits, and in one try.
use Rattle.std.proofs.Common.{◌≡◌, inr, ℕ, List, [], ◌∷◌, ◌++◌, Option, Result, Ok, ◌∙◌, ap}
use Rattle.sd_outside.specs.declared.packet.Packet.{Packet}
use Rattle.sd_link.specs.declared.link.LinkError.{LinkError}
use Rattle.sd_link.specs.Steps.{Step, History}
use Rattle.sd_link.specs.Parts.{sends_in}
use Rattle.sd_link.specs.Link.{Moves, Receives, Sends}
use Rattle.sd_link.specs.Tries.{Hearing}
use Rattle.sd_link.proofs.Histories.{sends-append, moves_then, moves_weaker}
use Rattle.sd_rpc_retry.specs.Asking.{Looks}
use Rattle.sd_rpc_retry.specs.Sending.{IsStill, IsStillButFor}
use Rattle.sd_rpc_retry.specs.declared.asking.Look.TheVariants.{Reply}
use Rattle.sd_rpc_retry.proofs.Getting.{sends_nothing}
use Rattle.sd_rpc_retry.proofs.Listening.{Quiet}

module _ {S : Type 0} (h : Hearing S) (old mid new : Option History) where
  -- whatever came of the receive
  pub still_receives : (until count : ℕ) (result : Result (Option Packet) LinkError) → Moves old mid (Quiet h until count) → Moves mid new (Receives until result) → Moves old new (IsStill h)
  still_receives until count result first second =
      moves_then old mid new (Quiet h until count) (Receives until result) (IsStill h)
      (λ a b xs ys goes q r silent. sends-append xs ys ∙ ap (λ (l : List Packet). l ++ sends_in ys) (sends_nothing h xs silent q.replied) ∙ r.silent) first second

  no_reply : (packet sent : Packet) → h.replies packet ≡ [] → h.replies packet ≡ sent ∷ [] → ⊥
  no_reply packet sent none some = absurd cc

  -- who sends nothing for a packet comes to no such send
  pub still_never : {T : Type 0} (shows : T → S) (packet sent : Packet) (P Q : History → List Step → Type 0) → Looks h shows packet (Reply sent) → Moves old mid P → Moves mid new Q → Moves old new (IsStill h)
  still_never shows packet sent P Q looks first second =
      moves_then old mid new P Q (IsStill h)
      (λ a b xs ys goes p q silent. absurd (no_reply packet sent (silent packet) looks.1)) first second

  -- a send, and a wait after it
  pub still_tried : (request : Packet) → Moves old mid (Sends request (Ok tt)) → Moves mid new (IsStill h) → Moves old new (IsStillButFor request h)
  still_tried request first second =
      moves_then old mid new (Sends request (Ok tt)) (IsStill h) (IsStillButFor request h)
      (λ a b xs ys goes s t silent. inr (ys, ap (λ (l : List Step). l ++ ys) s, t silent)) first second

pub still_quiet : {S : Type 0} (h : Hearing S) (old new : Option History) (until count : ℕ) → Moves old new (Quiet h until count) → Moves old new (IsStill h)
still_quiet h old new until count m = moves_weaker old new (Quiet h until count) (IsStill h) (λ a xs q silent. sends_nothing h xs silent q.replied) m
