-- What a fetch makes of a packet, by the receiver's turn.
use Rattle.std.proofs.Common.{◌≡◌, sym, ◌∙◌, ap, subst}
use Rattle.sd_outside.specs.declared.packet.Addr.{Addr}
use Rattle.sd_tftp.specs.declared.packet.TftpPacket.{TftpPacket}
use Rattle.sd_tftp.specs.declared.step.Step.{Step}
use Rattle.sd_tftp.specs.Reception.{Reception}
use Rattle.sd_tftp.specs.Receiving.{Receives}
use Rattle.sd_tftp.specs.ReceiverTurn.{Turn, turn}
use Rattle.sd_tftp.proofs.Receives.{receiving_is_turn}
use Rattle.sd_rpc_retry.specs.declared.asking.Look.{Look}
use Rattle.sd_boot_chain.specs.declared.fetch.Progress.{Progress}
use Rattle.sd_boot_chain.specs.Fetch.{LooksAt}

made : Step → Reception → Turn
made says new = record { says = says; becomes = new }

-- what a receiver answers and what it is then are its turn
turn_is : (old : Reception) (from : Addr) (packet : TftpPacket) (says : Step) (new : Reception) → Receives old from packet says new → made says new ≡ turn old from packet
unfolding made
turn_is old from packet says new r =
    let e = (receiving_is_turn old from packet says new).0 r in
    ap (λ (s : Step). made s new) e.0 ∙ ap (λ (n : Reception). made (turn old from packet).says n) e.1

pub looks_at : (me : Addr) (old : Reception) (from : Addr) (packet : TftpPacket) (says shown : Step) (new : Reception) (look : Look Progress)
    → Receives old from packet says new → says ≡ shown → LooksAt me new (record { says = shown; becomes = new }) look → LooksAt me new (turn old from packet) look
unfolding made
looks_at me old from packet says shown new look r is h =
    subst (λ t. LooksAt me new t look) (turn_is old from packet says new r) (subst (λ s. LooksAt me new (made s new) look) (sym is) h)
