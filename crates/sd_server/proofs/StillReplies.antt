-- What is answered to a packet that needs no state doesn't depend on any.
use Rattle.std.proofs.Common.{◌≡◌, ℕ, Bool, true, false, cond, List, [], length, map, Option, Some, None, refl, sym, ap, ◌∙◌, arith}
use Rattle.std.specs.Prelude.{◌==◌, ◌||◌, ◌&&◌}
use Rattle.std.specs.Option.{option_map}
use Rattle.std.proofs.lemmas.Bool.{false≢true}
use Rattle.sd_outside.specs.declared.packet.Addr.{Addr}
use Rattle.sd_outside.specs.declared.packet.Packet.{Packet}
use Rattle.sd_outside.specs.declared.packet.Packet.TheVariants.{Frame, Udp}
use Rattle.sd_outside.specs.Bytes.{broadcast_ip}
use Rattle.sd_xdr.specs.Kind.{Value}
use Rattle.sd_rpc_msg.specs.declared.message.Reply.{Reply}
use Rattle.sd_rpc_msg.specs.declared.message.Outcome.TheVariants.{Success}
use Rattle.sd_tftp.specs.Grammar.{tftp_port}
use Rattle.sd_mount.specs.Layout.{result_bytes}
use Rattle.sd_mount.specs.declared.message.MountArgs.{MountArgs}
use Rattle.sd_mount.specs.declared.message.MountArgs.TheVariants as asks
use Rattle.sd_mount.specs.declared.message.MountResult.{MountResult}
use Rattle.sd_mount.specs.Tables.{Mount}
use Rattle.sd_config.specs.declared.config.Config.{Config}
use Rattle.sd_services.specs.Part.{ServerPart, Replied, silence}
use Rattle.sd_services.specs.RpcCalls.{auth_null, reply_with, reply_to, asked}
use Rattle.sd_services.specs.MountReply.{mount, mount_port, mount_to_ask, mount_args_in, mount_answer, mounts_by, mounts_asked, mounts_after}
use Rattle.sd_services.specs.NfsCalls.{nfs, is_swap_access, change_of}
use Rattle.sd_services.specs.NfsReply.{changed}
use Rattle.sd_services.specs.RpcReply.{is_rpc_port, portmapper, bootparams, rpc_packet, as_packets, mounts_then, rpc_reply}
use Rattle.sd_services.specs.Reply.{reply, out_of, next_of, port_reply, is_heard}
use Rattle.sd_services.specs.Sessions.{is_session_port, tftp_reply}
use Rattle.sd_server.specs.declared.replies.Answer.{Answer}
use Rattle.sd_server.specs.declared.access.Access.{Access}
use Rattle.sd_server.specs.Access.{sizes_of}
use Rattle.sd_server.specs.Coming.{Arrival, Nowhere, Refused, Calls, arrival, replied, asked_by}
use Rattle.sd_server.specs.Deciding.{IsNow, IsLater}
use Rattle.sd_server.specs.Sessions.{packets_in}
use Rattle.sd_server.specs.State.{part_with, nothing_volatile}
use Rattle.sd_server.specs.Still.{uses_mounts, uses_mounts_in, asks_mounts, is_to_tftp, is_of_mounts, needs_state, GivesStill}
use Rattle.sd_server.proofs.Arriving.{replies, asks as asks_as}
use Rattle.sd_server.proofs.Transfers.{elsewhere}

-- ---- MOUNT

answer_still : (c : Config) (mounts : List Mount) (from : ℕ) (args : MountArgs) → uses_mounts args ≡ false → mount_answer c mounts from args ≡ mount_answer c [] from args
answer_still c mounts from asks.Null none = refl
answer_still c mounts from (asks.Mnt path) none = refl
answer_still c mounts from asks.Dump none = absurd (false≢true (sym none))
answer_still c mounts from (asks.Umnt path) none = refl
answer_still c mounts from asks.UmntAll none = refl
answer_still c mounts from asks.Export none = refl

replied_still : (c : Config) (mounts : List Mount) (from : ℕ) (a : Arrival) → uses_mounts_in (option_map mount_args_in (asked_by a)) ≡ false → replied (mount c mounts from) a ≡ replied (mount c [] from) a
replied_still c mounts from Nowhere none = refl
replied_still c mounts from (Refused reply) none = refl
replied_still c mounts from (Calls xid None) none = refl
replied_still c mounts from (Calls xid (Some v)) none = ap (λ (r : MountResult). Some (reply_with xid (Success auth_null (result_bytes r)))) (answer_still c mounts from (mount_args_in v) none)

mount_still : (c : Config) (mounts : List Mount) (from : ℕ) (body : List ℕ) → asks_mounts body ≡ false → reply_to (mount c mounts from) body ≡ reply_to (mount c [] from) body
mount_still c mounts from body none =
    replies (mount c mounts from) (λ v. None) body
    ∙ replied_still c mounts from (arrival mount_to_ask body) (ap (λ (o : Option Value). uses_mounts_in (option_map mount_args_in o)) (sym (asks_as mount_to_ask (λ v. None) body)) ∙ none)
    ∙ sym (replies (mount c [] from) (λ v. None) body)

mounts_by_still : (c : Config) (mounts : List Mount) (from : ℕ) (args : MountArgs) → uses_mounts args ≡ false → mounts_by c mounts from args ≡ mounts
mounts_by_still c mounts from asks.Null none = refl
mounts_by_still c mounts from (asks.Mnt path) none = absurd (false≢true (sym none))
mounts_by_still c mounts from asks.Dump none = refl
mounts_by_still c mounts from (asks.Umnt path) none = absurd (false≢true (sym none))
mounts_by_still c mounts from asks.UmntAll none = absurd (false≢true (sym none))
mounts_by_still c mounts from asks.Export none = refl

mounts_asked_still : (c : Config) (mounts : List Mount) (from : ℕ) (o : Option Value) → uses_mounts_in (option_map mount_args_in o) ≡ false → mounts_asked c mounts from o ≡ mounts
mounts_asked_still c mounts from None none = refl
mounts_asked_still c mounts from (Some v) none = mounts_by_still c mounts from (mount_args_in v) none

-- a call that doesn't use them leaves the mounts as they are
mounts_still : (c : Config) (mounts : List Mount) (from : ℕ) (body : List ℕ) → asks_mounts body ≡ false → mounts_after c mounts from body ≡ mounts
mounts_still c mounts from body none =
    let same : asked (mount c mounts from) body ≡ asked mount_to_ask body = asks_as (mount c mounts from) (λ v. None) body ∙ sym (asks_as mount_to_ask (λ v. None) body) in
    mounts_asked_still c mounts from (asked (mount c mounts from) body) (ap (λ (o : Option Value). uses_mounts_in (option_map mount_args_in o)) same ∙ none)

-- whether a datagram is such a call, by how far it comes
pub asks_by : (body : List ℕ) (a : Arrival) → arrival mount_to_ask body ≡ a → asks_mounts body ≡ uses_mounts_in (option_map mount_args_in (asked_by a))
asks_by body a comes = ap (λ (o : Option Value). uses_mounts_in (option_map mount_args_in o)) (asks_as mount_to_ask (λ v. None) body ∙ ap asked_by comes)

-- ---- a datagram

module _ (c : Config) (tick : ℕ) (part : ServerPart) (src dst : Addr) (body : List ℕ) (heard : is_heard c dst ≡ true) where
  abbrev still : ServerPart
  still = part_with nothing_volatile part.files

  program_still : (p b m : Bool) → (m ≡ true → asks_mounts body ≡ false)
      → reply_to (cond p (portmapper c) (cond b (bootparams c) (cond m (mount c part.mounts src.ip) (nfs c part.files src.ip)))) body
      ≡ reply_to (cond p (portmapper c) (cond b (bootparams c) (cond m (mount c [] src.ip) (nfs c part.files src.ip)))) body
  program_still true b m none = refl
  program_still false true m none = refl
  program_still false false true none = mount_still c part.mounts src.ip body (none refl)
  program_still false false false none = refl

  no_mounts : is_of_mounts c (Udp src dst body) ≡ false → (dst.port == 1017) ≡ true → asks_mounts body ≡ false
  no_mounts none port = of (dst.ip == c.server.ip) (dst.ip == broadcast_ip) (dst.port == 111) (dst.port == 1017) heard none port (grind (arith, port))
    where
      of : (here all one two : Bool) → (here || (all && one)) ≡ true → (here && (two && asks_mounts body)) ≡ false → two ≡ true → one ≡ false → asks_mounts body ≡ false
      of true all one true h n is off = n
      of true all one false h n is off = absurd (false≢true is)
      of false true one two h n is off = absurd (false≢true (sym off ∙ h))
      of false false one two h n is off = absurd (false≢true h)

  no_tftp : is_to_tftp c (Udp src dst body) ≡ false → is_rpc_port dst.port ≡ false → ((dst.port == tftp_port) || is_session_port dst.port) ≡ false
  no_tftp none rpc = of (dst.ip == c.server.ip) (dst.ip == broadcast_ip) (dst.port == 111) heard none (grind (arith, rpc))
    where
      of : (here all one : Bool) → (here || (all && one)) ≡ true → (here && ((dst.port == tftp_port) || is_session_port dst.port)) ≡ false → one ≡ false → ((dst.port == tftp_port) || is_session_port dst.port) ≡ false
      of true all one h n off = n
      of false true one h n off = absurd (false≢true (sym off ∙ h))
      of false false one h n off = absurd (false≢true h)

  port_still : is_to_tftp c (Udp src dst body) ≡ false → is_of_mounts c (Udp src dst body) ≡ false → (port_reply c tick part src dst.port body).out ≡ (port_reply c 0 still src dst.port body).out
  port_still tftp mounts = of (is_rpc_port dst.port) refl
    where
      of : (rpc : Bool) → is_rpc_port dst.port ≡ rpc → (cond rpc (rpc_reply c part src dst.port body) (tftp_reply c tick part src dst.port body)).out ≡ (cond rpc (rpc_reply c still src dst.port body) (tftp_reply c 0 still src dst.port body)).out
      of true is = ap (λ (o : Option Reply). as_packets (option_map (rpc_packet c dst.port src) o)) (program_still (dst.port == 111) (dst.port == 1016) (dst.port == 1017) (no_mounts mounts))
      of false is =
          let off = no_tftp tftp is in
          ap (λ (r : Replied). r.out) (elsewhere c tick part src dst.port body off) ∙ sym (ap (λ (r : Replied). r.out) (elsewhere c 0 still src dst.port body off))

  mounts_then_still : is_of_mounts c (Udp src dst body) ≡ false → mounts_then c part src dst.port body ≡ part.mounts
  mounts_then_still mounts = of (dst.port == mount_port) refl
    where
      of : (m : Bool) → (dst.port == mount_port) ≡ m → cond m (mounts_after c part.mounts src.ip body) part.mounts ≡ part.mounts
      of true is = mounts_still c part.mounts src.ip body (no_mounts mounts is)
      of false is = refl

  port_stays : is_to_tftp c (Udp src dst body) ≡ false → is_of_mounts c (Udp src dst body) ≡ false → (port_reply c tick part src dst.port body).next ≡ part
  port_stays tftp mounts = of (is_rpc_port dst.port) refl
    where
      of : (rpc : Bool) → is_rpc_port dst.port ≡ rpc → (cond rpc (rpc_reply c part src dst.port body) (tftp_reply c tick part src dst.port body)).next ≡ part
      of true is = ap (λ (m : List Mount). let p : ServerPart = record part { mounts = m } in p) (mounts_then_still mounts)
      of false is = ap (λ (r : Replied). r.next) (elsewhere c tick part src dst.port body (no_tftp tftp is))

neither : (a b : Bool) → (a || b) ≡ false → (a ≡ false) × (b ≡ false)
neither true b is = absurd (false≢true (sym is))
neither false b is = (refl, is)

out_still : (c : Config) (tick : ℕ) (part : ServerPart) (packet : Packet) → (is_to_tftp c packet || is_of_mounts c packet) ≡ false → out_of c tick part packet ≡ out_of c 0 (part_with nothing_volatile part.files) packet
out_still c tick part (Frame bytes) none = refl
out_still c tick part (Udp src dst body) none = of (is_heard c dst) refl
  where
    of : (h : Bool) → is_heard c dst ≡ h → (cond h (port_reply c tick part src dst.port body) (silence part)).out ≡ (cond h (port_reply c 0 (part_with nothing_volatile part.files) src dst.port body) (silence (part_with nothing_volatile part.files))).out
    of true heard =
        let off = neither (is_to_tftp c (Udp src dst body)) (is_of_mounts c (Udp src dst body)) none in
        port_still c tick part src dst body heard off.0 off.1
    of false heard = refl

reply_stays : (c : Config) (tick : ℕ) (part : ServerPart) (packet : Packet) → (is_to_tftp c packet || is_of_mounts c packet) ≡ false → (reply c tick part packet).next ≡ part
reply_stays c tick part (Frame bytes) none = refl
reply_stays c tick part (Udp src dst body) none = of (is_heard c dst) refl
  where
    of : (h : Bool) → is_heard c dst ≡ h → (cond h (port_reply c tick part src dst.port body) (silence part)).next ≡ part
    of true heard =
        let off = neither (is_to_tftp c (Udp src dst body)) (is_of_mounts c (Udp src dst body)) none in
        port_stays c tick part src dst body heard off.0 off.1
    of false heard = refl

next_still : (c : Config) (tick : ℕ) (part : ServerPart) (packet : Packet) → (is_to_tftp c packet || is_of_mounts c packet) ≡ false → change_of c packet ≡ None → next_of c tick part packet ≡ part
next_still c tick part packet none change =
    let stays = reply_stays c tick part packet none in
    λ i. let p : ServerPart = record (stays i) { files = changed (change i) part.files } in p

-- ---- what is given

pub gives_now : (c : Config) (packet : Packet) (answer : Answer) (packets : List Packet) → IsNow c nothing_volatile 0 packet answer → (is_to_tftp c packet || is_of_mounts c packet) ≡ false → packets ≡ packets_in answer.out → GivesStill c packet (Some packets)
gives_now c packet answer packets now none is = (
  (λ i. now.swap i || none i),
  λ tick part sized. is ∙ (now.answers part.files sized).out ∙ sym (out_still c tick part packet none),
  λ tick part. next_still c tick part packet none now.change,
)

pub gives_later : (c : Config) (packet : Packet) (access : Access) → IsLater c nothing_volatile 0 packet access → GivesStill c packet None
gives_later c packet access later = ap (λ (b : Bool). b || (is_to_tftp c packet || is_of_mounts c packet)) later.swap

pub gives_none : (c : Config) (packet : Packet) → (is_to_tftp c packet || is_of_mounts c packet) ≡ true → GivesStill c packet None
gives_none c packet needs = ap (λ (b : Bool). is_swap_access c packet || b) needs ∙ of (is_swap_access c packet)
  where
    of : (b : Bool) → (b || true) ≡ true
    of true = refl
    of false = refl
