-- What the server sends for a packet: frames, what comes from ports of TFTP, and replies of its programs.
use Rattle.std.proofs.Common.{◌≡◌, ℕ, Bool, true, false, cond, List, Option, Some, None, refl, sym, subst, inl, inr, arith}
use Rattle.std.specs.Prelude.{◌==◌}
use Rattle.std.specs.List.{AllByRecursion}
use Rattle.sd_outside.specs.declared.packet.Addr.{Addr}
use Rattle.sd_outside.specs.declared.packet.Packet.{Packet}
use Rattle.sd_outside.specs.declared.packet.Packet.TheVariants.{Frame, Udp}
use Rattle.sd_rarp.specs.declared.frame.RarpFrame.{RarpFrame}
use Rattle.sd_rarp.specs.Frame as rarp
use Rattle.sd_rpc_msg.specs.Laws.{IsWord}
use Rattle.sd_config.specs.declared.config.Config.{Config}
use Rattle.sd_services.specs.Part.{Session, ServerPart}
use Rattle.sd_link.specs.Requests.{IsRpcPort}
use Rattle.sd_portmap.specs.Layout.{pmap_port}
use Rattle.sd_services.specs.RpcReply.{bootparams_port, portmapper, bootparams, is_rpc_port, program_at, rpc_out}
use Rattle.sd_services.specs.MountReply.{mount_port, mount}
use Rattle.sd_services.specs.NfsCalls.{nfs}
use Rattle.sd_services.specs.Sessions.{block_packet, session_port}
use Rattle.sd_services.specs.RpcCalls.{Program}
use Rattle.sd_services.specs.Failing.{failures_to, failure_out}
use Rattle.sd_services.specs.Reply.{rarp_answer, as_frame, out_of}
use Rattle.sd_config.proofs.Lists.{all_always}
use Rattle.sd_link.proofs.InFlight.{IsTftpPort, Rules, reply_fine}
use Rattle.sd_services.proofs.RpcSilence.{rpc_port_is}
use Rattle.sd_loader.specs.Lists.{IsIn}
use Rattle.sd_loader.specs.Served.{Serves}
use Rattle.sd_loader.proofs.Lists.{over_all}

-- a TFTP port is no RPC port
pub no_rpc_port : (port : ℕ) → IsTftpPort port → is_rpc_port port ≡ false
no_rpc_port port tftp = of (is_rpc_port port) refl
  where
    off : IsTftpPort port → IsRpcPort port → ⊥
    off (inl a) (inl b) = omega (arith, a, b)
    off (inl a) (inr (inl b)) = omega (arith, a, b)
    off (inl a) (inr (inr (inl b))) = omega (arith, a, b)
    off (inl a) (inr (inr (inr b))) = omega (arith, a, b)
    off (inr a) (inl b) = omega (arith, a.0, a.1, b)
    off (inr a) (inr (inl b)) = omega (arith, a.0, a.1, b)
    off (inr a) (inr (inr (inl b))) = omega (arith, a.0, a.1, b)
    off (inr a) (inr (inr (inr b))) = omega (arith, a.0, a.1, b)

    of : (b : Bool) → is_rpc_port port ≡ b → b ≡ false
    of true e = absurd (off tftp (rpc_port_is port e))
    of false e = refl

session_port_is : (number : ℕ) → IsTftpPort (session_port number)
session_port_is number = inr (omega arith, omega arith)

module _ (c : Config) (P : Packet → Type 0)
    (frames : (bytes : List ℕ) → P (Frame bytes))
    (tftp : (src to : Addr) (body : List ℕ) → src.ip ≡ c.server.ip → IsTftpPort src.port → P (Udp src to body)) where
  frame_is : (o : Option RarpFrame) → AllByRecursion P (as_frame o)
  frame_is None = tt
  frame_is (Some frame) = (frames (rarp.frame_bytes frame), tt)

  pub of_block : (s : Session) → P (block_packet c s)
  of_block s = tftp _ s.peer _ refl (session_port_is s.number)

  -- the replies that an RPC port gives are such, whatever the server holds, and whether its disk fails or not
  abbrev Given : Addr → ℕ → List ℕ → Type 0
  Given from port body = ((part : ServerPart) → AllByRecursion P (rpc_out c part from port body)) × AllByRecursion P (failures_to c from body)

  rules : Rules c P (λ s. Unit {0}) (λ from name. Unit {0}) Given
  rules = record {
    frames = λ bytes. frame_is (rarp_answer c (rarp.reading bytes));
    errors = λ port to code is lt. tftp _ to _ refl is;
    replies = λ part from port body rpc given. given.0 part;
    failures = λ from body given. given.1;
    blocks = λ s h. of_block s;
    first = λ part tick from name bytes r is. tt;
    again = λ tick s h. tt;
    onward = λ tick s h whole. tt;
  }

  -- what holds of frames, of what comes from TFTP ports, and of the replies to a packet, holds of each packet that is sent for it
  pub over_out : (tick : ℕ) (part : ServerPart) (q : Packet)
      → ((from to : Addr) (body : List ℕ) → q ≡ Udp from to body → is_rpc_port to.port ≡ true → Given from to.port body)
      → (p : Packet) → IsIn (out_of c tick part q) p → P p
  over_out tick part q given =
      over_all P (out_of c tick part q)
      (reply_fine c P (λ s. Unit {0}) (λ from name. Unit {0}) Given rules tick part q
      (record { requests = λ from to body name mode is reads. tt; calls = given })
      (all_always (λ s. Unit {0}) part.sessions (λ s. tt))).0

  -- and of what is sent where the disk fails
  pub over_failures : (q : Packet) → ((from to : Addr) (body : List ℕ) → q ≡ Udp from to body → AllByRecursion P (failures_to c from body)) → (p : Packet) → IsIn (failure_out c q) p → P p
  over_failures (Frame bytes) given p m = absurd m
  over_failures (Udp src dst body) given p m = over_all P (failures_to c src body) (given src dst body refl) p m

-- the versions of the four programs are words
pub word_at : (c : Config) (part : ServerPart) (from port : ℕ) → IsWord (program_at c part from port).vers
word_at c part from port = of (port == pmap_port) (port == bootparams_port) (port == mount_port)
  where
    of : (a b d : Bool) → IsWord (cond a (portmapper c) (cond b (bootparams c) (cond d (mount c part.mounts from) (nfs c part.files from)))).vers
    of true b d = omega arith
    of false true d = omega arith
    of false false true = omega arith
    of false false false = omega arith

pub word_served : (c : Config) (from port : ℕ) (p : Program) → Serves c from port p → IsWord p.vers
word_served c from port p (inl (part, is)) = subst (λ (q : Program). IsWord q.vers) (sym is) (word_at c part from port)
word_served c from port p (inr is) = subst (λ (q : Program). IsWord q.vers) (sym is) (omega arith)
