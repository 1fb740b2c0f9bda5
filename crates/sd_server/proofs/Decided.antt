-- What is decided on a packet is what the definitions say.
use Rattle.std.proofs.Common.{◌≡◌, ℕ, ◌+◌, ◌<◌, ◌≤◌, Bool, true, false, cond, List, [], ◌∷◌, length, map, Option, Some, None, refl, sym, ap, ◌∙◌, subst, arith, eq-eqb}
use Rattle.std.specs.Prelude.{◌==◌, ◌||◌, ◌&&◌, slice_index, vec_capacity}
use Rattle.std.specs.Option.{option_map, option_and_then}
use Rattle.std.proofs.lemmas.Bool.{false≢true}
use Rattle.sd_outside.specs.declared.packet.Addr.{Addr}
use Rattle.sd_outside.specs.declared.packet.Packet.{Packet}
use Rattle.sd_outside.specs.declared.packet.Packet.TheVariants.{Frame, Udp}
use Rattle.sd_rpc_msg.specs.declared.message.Reply.{Reply}
use Rattle.sd_nfs_msg.specs.declared.message.NfsArgs.{NfsArgs}
use Rattle.sd_nfs_msg.specs.declared.message.NfsResult.{NfsResult}
use Rattle.sd_config.specs.declared.config.Config.{Config}
use Rattle.sd_outside.specs.Bytes.{broadcast_ip}
use Rattle.sd_services.specs.Part.{Change, ServerPart, Replied, silence}
use Rattle.sd_services.specs.Decisions.{refused, err_io}
use Rattle.sd_services.specs.RpcCalls.{reply_to}
use Rattle.sd_services.specs.Files.{exported}
use Rattle.sd_services.specs.MountReply.{mount, mounts_after}
use Rattle.sd_nfs_msg.specs.Layout.{nfs_port}
use Rattle.sd_services.specs.NfsCalls.{nfs, is_to_nfs, change_of, is_swap_access, uses_swap_file, nfs_asked}
use Rattle.sd_services.specs.NfsReply.{file_in, swap_file, nfs_change}
use Rattle.sd_services.specs.RpcReply.{is_rpc_port, portmapper, bootparams, rpc_packet, as_packets, rpc_reply}
use Rattle.sd_services.specs.Reply.{reply, port_reply, is_heard, out_of, next_of, files_after, rarp_out}
use Rattle.sd_tftp.specs.Grammar.{tftp_port}
use Rattle.sd_services.specs.Sessions.{is_session_port, tftp_reply}
use Rattle.sd_server.specs.declared.access.Act.{Act}
use Rattle.sd_server.specs.declared.access.Act.TheVariants as acts
use Rattle.sd_server.specs.declared.access.Access.{Access}
use Rattle.sd_server.specs.declared.replies.Answer.{Answer}
use Rattle.sd_server.specs.declared.replies.Change.{Change as Becomes}
use Rattle.sd_server.specs.declared.replies.Change.TheVariants as changes
use Rattle.sd_server.specs.Access.{sizes_of, given_reply, datagram, change_by, result_by, ActFits}
use Rattle.sd_server.specs.Sessions.{packets_in, after_change, MayChange, Answers}
use Rattle.sd_server.specs.State.{Volatile, part_with}
use Rattle.sd_services.specs.Failing.{failure_out, nfs_failing}
use Rattle.sd_server.specs.Mounting.{Mounts}
use Rattle.sd_server.specs.NfsTurns.{asks_swap, asks_change, IsQuiet, IsLoud}
use Rattle.sd_server.specs.Deciding.{IsNow, IsLater, given_body, body_by, HasPlace}
use Rattle.sd_server.proofs.Bodies.{place_of, body_so, Inside}
use Rattle.sd_server.proofs.Transfers.{elsewhere}

-- ---- where a datagram goes

module _ (c : Config) (src dst : Addr) (body : List ℕ) where
  pub swap_at : is_to_nfs c dst ≡ true → (is_swap_access c (Udp src dst body) ≡ asks_swap c src.ip body) × (change_of c (Udp src dst body) ≡ asks_change c src.ip body)
  unfolding is_swap_access change_of
  swap_at there = (
    ap (λ (b : Bool). uses_swap_file c (cond b (option_map (λ args. (src.ip, args)) (nfs_asked body)) None)) there,
    ap (λ (b : Bool). option_and_then (λ (call : ℕ × NfsArgs). nfs_change (exported c) call.0 call.1) (cond b (option_map (λ args. (src.ip, args)) (nfs_asked body)) None)) there,
  )

  pub swap_off : is_to_nfs c dst ≡ false → (is_swap_access c (Udp src dst body) ≡ false) × (change_of c (Udp src dst body) ≡ None)
  unfolding is_swap_access change_of
  swap_off there = (
    ap (λ (b : Bool). uses_swap_file c (cond b (option_map (λ args. (src.ip, args)) (nfs_asked body)) None)) there,
    ap (λ (b : Bool). option_and_then (λ (call : ℕ × NfsArgs). nfs_change (exported c) call.0 call.1) (cond b (option_map (λ args. (src.ip, args)) (nfs_asked body)) None)) there,
  )

  pub heard_reply : (tick : ℕ) (part : ServerPart) → is_heard c dst ≡ true → reply c tick part (Udp src dst body) ≡ port_reply c tick part src dst.port body
  heard_reply tick part heard = ap (λ (b : Bool). cond b (port_reply c tick part src dst.port body) (silence part)) heard

  pub unheard_reply : (tick : ℕ) (part : ServerPart) → is_heard c dst ≡ false → reply c tick part (Udp src dst body) ≡ silence part
  unheard_reply tick part heard = ap (λ (b : Bool). cond b (port_reply c tick part src dst.port body) (silence part)) heard

pub to_nfs : (c : Config) (dst : Addr) → is_heard c dst ≡ true → dst.port ≡ 2049 → is_to_nfs c dst ≡ true
to_nfs c dst heard port = of (dst.ip == c.server.ip) (dst.ip == broadcast_ip) heard
  where
    of : (a b : Bool) → (a || (b && (dst.port == 111))) ≡ true → (a && (dst.port == 2049)) ≡ true
    of true b e = eq-eqb dst.port 2049 port
    of false true e = let other : (dst.port == 111) ≡ false = grind (arith, port) in absurd (false≢true (sym other ∙ e))
    of false false e = absurd (false≢true e)

pub off_port : (c : Config) (dst : Addr) → (dst.port == 2049) ≡ false → is_to_nfs c dst ≡ false
off_port c dst e = of (dst.ip == c.server.ip)
  where
    of : (a : Bool) → (a && (dst.port == 2049)) ≡ false
    of true = e
    of false = refl

pub off_unheard : (c : Config) (dst : Addr) → is_heard c dst ≡ false → is_to_nfs c dst ≡ false
off_unheard c dst e = of (dst.ip == c.server.ip) ((dst.ip == broadcast_ip) && (dst.port == 111)) e
  where
    of : (a b : Bool) → (a || b) ≡ false → (a && (dst.port == 2049)) ≡ false
    of true b h = absurd (false≢true (sym h))
    of false b h = refl

-- ---- decisions that need no file

module _ (c : Config) (v : Volatile) (tick : ℕ) (src dst : Addr) (body : List ℕ) where
  -- the reply is that of its port
  now_by : (a : Answer) → is_heard c dst ≡ true → (is_swap_access c (Udp src dst body) ≡ false) × (change_of c (Udp src dst body) ≡ None)
      → ((stored : List (List ℕ)) → map (λ file. length file) stored ≡ sizes_of c → Answers c (part_with v stored) a (port_reply c tick (part_with v stored) src dst.port body)) → IsNow c v tick (Udp src dst body) a
  now_by a heard off answers = record {
    swap = off.0;
    change = off.1;
    answers = λ stored sized. subst (λ (r : Replied). Answers c (part_with v stored) a r) (sym (heard_reply c src dst body tick (part_with v stored) heard)) (answers stored sized);
  }

  pub pmap_now : (out : Option Packet) (r : Option Reply) → is_heard c dst ≡ true → dst.port ≡ 111 → r ≡ reply_to (portmapper c) body → packets_in out ≡ as_packets (option_map (rpc_packet c dst.port src) r)
      → IsNow c v tick (Udp src dst body) (record { out = out; change = changes.Stays })
  pmap_now out r heard port is sent =
      let a : Answer = record { out = out; change = changes.Stays } in
      now_by a heard (swap_off c src dst body (off_port c dst (grind (arith, port))))
      (λ stored sized. subst (λ (n : ℕ). Answers c (part_with v stored) a (port_reply c tick (part_with v stored) src n body)) (sym port)
      (record { out = sent ∙ (λ i. as_packets (option_map (rpc_packet c (port i) src) (is i))); next = refl; fit = tt }))

  pub bp_now : (out : Option Packet) (r : Option Reply) → is_heard c dst ≡ true → dst.port ≡ 1016 → r ≡ reply_to (bootparams c) body → packets_in out ≡ as_packets (option_map (rpc_packet c dst.port src) r)
      → IsNow c v tick (Udp src dst body) (record { out = out; change = changes.Stays })
  bp_now out r heard port is sent =
      let a : Answer = record { out = out; change = changes.Stays } in
      now_by a heard (swap_off c src dst body (off_port c dst (grind (arith, port))))
      (λ stored sized. subst (λ (n : ℕ). Answers c (part_with v stored) a (port_reply c tick (part_with v stored) src n body)) (sym port)
      (record { out = sent ∙ (λ i. as_packets (option_map (rpc_packet c (port i) src) (is i))); next = refl; fit = tt }))

  pub mount_now : (out : Option Packet) (r : Option Reply) (change : Becomes) → is_heard c dst ≡ true → dst.port ≡ 1017 → r ≡ reply_to (mount c v.mounts src.ip) body → packets_in out ≡ as_packets (option_map (rpc_packet c dst.port src) r)
      → ((part : ServerPart) → part.mounts ≡ v.mounts → Mounts c part change (mounts_after c v.mounts src.ip body))
      → IsNow c v tick (Udp src dst body) (record { out = out; change = change })
  mount_now out r change heard port is sent mounts =
      let a : Answer = record { out = out; change = change } in
      now_by a heard (swap_off c src dst body (off_port c dst (grind (arith, port))))
      (λ stored sized. subst (λ (n : ℕ). Answers c (part_with v stored) a (port_reply c tick (part_with v stored) src n body)) (sym port)
      (let m = mounts (part_with v stored) refl in record { out = sent ∙ (λ i. as_packets (option_map (rpc_packet c (port i) src) (is i))); next = m.becomes; fit = m.may }))

  pub nfs_now : (out : Option Packet) (r : Option Reply) → is_heard c dst ≡ true → dst.port ≡ 2049 → IsQuiet c src.ip body r → packets_in out ≡ as_packets (option_map (rpc_packet c dst.port src) r)
      → IsNow c v tick (Udp src dst body) (record { out = out; change = changes.Stays })
  nfs_now out r heard port quiet sent =
      let a : Answer = record { out = out; change = changes.Stays } in
      let at = swap_at c src dst body (to_nfs c dst heard port) in
      now_by a heard (at.0 ∙ quiet.swap, at.1 ∙ quiet.change)
      (λ stored sized. subst (λ (n : ℕ). Answers c (part_with v stored) a (port_reply c tick (part_with v stored) src n body)) (sym port)
      (record { out = sent ∙ (λ i. as_packets (option_map (rpc_packet c (port i) src) (sym (quiet.gives stored sized) i))); next = refl; fit = tt }))

  pub tftp_now : (a : Answer) → is_heard c dst ≡ true → ((dst.port == tftp_port) || is_session_port dst.port) ≡ true
      → ((part : ServerPart) → part.sessions ≡ v.sessions → part.made ≡ v.made → Answers c part a (tftp_reply c tick part src dst.port body)) → IsNow c v tick (Udp src dst body) a
  tftp_now a heard port answers =
      let rpc : is_rpc_port dst.port ≡ false = grind (arith, port) in
      let nfs : (dst.port == 2049) ≡ false = grind (arith, port) in
      now_by a heard (swap_off c src dst body (off_port c dst nfs))
      (λ stored sized. subst (λ (b : Bool). Answers c (part_with v stored) a (cond b (rpc_reply c (part_with v stored) src dst.port body) (tftp_reply c tick (part_with v stored) src dst.port body))) (sym rpc)
      (answers (part_with v stored) refl refl))

  pub other_now : is_heard c dst ≡ true → is_rpc_port dst.port ≡ false → (dst.port == 2049) ≡ false → ((dst.port == tftp_port) || is_session_port dst.port) ≡ false
      → IsNow c v tick (Udp src dst body) (record { out = None; change = changes.Stays })
  other_now heard rpc nfs port =
      let a : Answer = record { out = None; change = changes.Stays } in
      now_by a heard (swap_off c src dst body (off_port c dst nfs))
      (λ stored sized. subst (λ (b : Bool). Answers c (part_with v stored) a (cond b (rpc_reply c (part_with v stored) src dst.port body) (tftp_reply c tick (part_with v stored) src dst.port body))) (sym rpc)
      (subst (λ (r : Replied). Answers c (part_with v stored) a r) (sym (elsewhere c tick (part_with v stored) src dst.port body port)) (record { out = refl; next = refl; fit = tt })))

  pub unheard_now : is_heard c dst ≡ false → IsNow c v tick (Udp src dst body) (record { out = None; change = changes.Stays })
  unheard_now heard =
      let a : Answer = record { out = None; change = changes.Stays } in
      let off = swap_off c src dst body (off_unheard c dst heard) in
      record {
        swap = off.0;
        change = off.1;
        answers = λ stored sized. subst (λ (r : Replied). Answers c (part_with v stored) a r) (sym (unheard_reply c src dst body tick (part_with v stored) heard)) (record { out = refl; next = refl; fit = tt });
      }

pub frame_now : (c : Config) (v : Volatile) (tick : ℕ) (bytes : List ℕ) (out : Option Packet) → packets_in out ≡ rarp_out c bytes → IsNow c v tick (Frame bytes) (record { out = out; change = changes.Stays })
unfolding is_swap_access change_of
frame_now c v tick bytes out sent = record { swap = refl; change = refl; answers = λ stored sized. record { out = sent; next = refl; fit = tt } }

-- ---- an access of the swap file

first_long : (n : ℕ) (sizes : List ℕ) (files : List (List ℕ)) → map (λ file. length file) files ≡ sizes → 0 < length sizes → n ≤ slice_index sizes 0 → n ≤ length (file_in files 0)
first_long n sizes [] e some le = absurd (omega (arith, some, ap (λ (l : List ℕ). length l) e))
first_long n sizes (x ∷ xs) e some le = omega (arith, le, ap (λ (l : List ℕ). slice_index l 0) e)

inside_of : (c : Config) (act : Act) (stored : List (List ℕ)) → map (λ file. length file) stored ≡ sizes_of c → ActFits (sizes_of c) act → Inside act (file_in stored swap_file)
inside_of c acts.Nothing stored sized fits = tt
inside_of c (acts.Write at bytes) stored sized fits = tt
inside_of c (acts.Read at buffer) stored sized fits = first_long (at + length buffer.items) (sizes_of c) stored sized fits.0 fits.1

module _ (c : Config) (v : Volatile) (tick : ℕ) (src dst : Addr) (body : List ℕ) where
  nfs_out : is_heard c dst ≡ true → dst.port ≡ 2049 → (stored : List (List ℕ)) (r : Reply) → reply_to (nfs c stored src.ip) body ≡ Some r → out_of c tick (part_with v stored) (Udp src dst body) ≡ rpc_packet c 2049 src r ∷ []
  nfs_out heard port stored r is =
      ap (λ (x : Replied). x.out) (heard_reply c src dst body tick (part_with v stored) heard) ∙ ap (λ (n : ℕ). (port_reply c tick (part_with v stored) src n body).out) port
      ∙ ap (λ (o : Option Reply). as_packets (option_map (rpc_packet c 2049 src) o)) is

  nfs_next : is_heard c dst ≡ true → dst.port ≡ 2049 → (stored : List (List ℕ)) → next_of c tick (part_with v stored) (Udp src dst body) ≡ part_with v (files_after c stored (Udp src dst body))
  nfs_next heard port stored =
      let files = files_after c stored (Udp src dst body) in
      ap (λ (x : Replied). let p : ServerPart = record x.next { files = files } in p) (heard_reply c src dst body tick (part_with v stored) heard)
      ∙ ap (λ (n : ℕ). let p : ServerPart = record (port_reply c tick (part_with v stored) src n body).next { files = files } in p) port

  pub nfs_later : (xid : ℕ) (result : NfsResult) (act : Act) (a : Access) → is_heard c dst ≡ true → dst.port ≡ 2049 → IsLoud c src.ip body xid result act
      → (a.to ≡ src) × (a.done ≡ given_body xid result) × (a.failed ≡ given_body xid (refused err_io)) × (a.act ≡ act) → (a.room.items ≡ []) × (1 ≤ vec_capacity a.room)
      → IsLater c v tick (Udp src dst body) a
  nfs_later xid result act a heard port loud bodies room =
      let at = swap_at c src dst body (to_nfs c dst heard port) in
      let acts_so = sym bodies.3 in
      record {
        swap = at.0 ∙ loud.swap;
        change = at.1 ∙ loud.change ∙ ap change_by acts_so;
        gives = λ stored sized.
            nfs_out heard port stored (given_reply xid (result_by act result (file_in stored swap_file))) (loud.gives stored sized)
            ∙ ap (λ (bs : List ℕ). datagram c src bs ∷ []) (body_so xid act result (file_in stored swap_file) loud.zeros (inside_of c act stored sized loud.range))
            ∙ (λ i. datagram c (sym bodies.0 i) (body_by (acts_so i) (sym bodies.1 i) (file_in stored swap_file)) ∷ []);
        fails = ap (λ (o : Option Reply). as_packets (option_map (rpc_packet c 2049 src) o)) loud.fails ∙ (λ i. datagram c (sym bodies.0 i) (sym bodies.2 i) ∷ []);
        next = nfs_next heard port;
        range = subst (λ (x : Act). ActFits (sizes_of c) x) acts_so loud.range;
        place = subst (λ (x : Act). HasPlace x a.done) acts_so (subst (λ (bs : List ℕ). HasPlace act bs) (sym bodies.1) (place_of xid act result loud.zeros));
        empty = room.0;
        room = room.1;
      }
