-- While a call is under way with an xid of its own, each reply with this xid is the server's reply to it.
use Rattle.std.proofs.Common.{◌≡◌, ◌≢◌, ◌⊎◌, ℕ, ◌+◌, ◌<◌, ◌^◌, Bool, false, List, [], ◌∷◌, ◌++◌, Option, Some, None, refl, sym, ◌∙◌, ap, subst, inl, inr, arith}
use Rattle.std.specs.Prelude.{IsTrue}
use Rattle.std.specs.Option.{option_map}
use Rattle.std.specs.List.{AllByRecursion}
use Rattle.sd_outside.specs.declared.packet.Addr.{Addr}
use Rattle.sd_outside.specs.declared.packet.Packet.{Packet}
use Rattle.sd_outside.specs.declared.packet.Packet.TheVariants.{Frame, Udp}
use Rattle.sd_xdr.specs.Reading.{Read, start, reading}
use Rattle.sd_xdr.specs.Grammar.{writes}
use Rattle.sd_rpc_msg.specs.declared.message.Reply.{Reply}
use Rattle.sd_rpc_msg.specs.declared.message.Message.TheVariants.{Answered}
use Rattle.sd_rpc_msg.specs.Layout.{message, message_value}
use Rattle.sd_rpc_msg.specs.Laws.{IsWord}
use Rattle.sd_config.specs.declared.config.Config.{Config}
use Rattle.sd_link.specs.World.{World, Flying, Sender, Client, Server, Stranger}
use Rattle.sd_services.specs.RpcCalls.{reply_to}
use Rattle.sd_services.specs.RpcReply.{is_rpc_port, program_at, rpc_packet, as_packets}
use Rattle.sd_link.specs.Steps.{Step, Get, AllAllowed, run}
use Rattle.sd_link.specs.Parts.{sends_in}
use Rattle.sd_link.proofs.InFlight.{IsTftpPort}
use Rattle.sd_link.proofs.Histories.{allowed-split}
use Rattle.sd_services.specs.RpcCalls.{Program}
use Rattle.sd_nfs_msg.specs.Layout.{nfs_port}
use Rattle.sd_services.specs.Failing.{nfs_failing, failures_to}
use Rattle.sd_link.specs.Steps.{IsStrangers}
use Rattle.sd_loader.specs.Served.{Serves}
use Rattle.sd_loader.specs.Fresh.{xid_asked, xid_answered, IsCallFrom, IsReplyTo, XidsBelow}
use Rattle.sd_loader.proofs.Lists.{some_same}
use Rattle.sd_loader.proofs.Again.{message_again}
use Rattle.sd_loader.proofs.Replying.{IsReplyTo as Answers, is_reply}
use Rattle.sd_loader.proofs.Server.{no_rpc_port, of_block, over_out, over_failures, word_served}
use Rattle.sd_loader.proofs.Transit.{BySender, InTransit, Rules, transit_run, transit_got}

-- the packet is what the server sends for this body from here to this address of its own, at some time
pub record IsReplyFor (c : Config) (me to : Addr) (body : List ℕ) (p : Packet) : Type 0 where
  pub program : Program
  pub serves : Serves c me.ip to.port program
  pub port : ℕ
  pub reply : Reply
  pub given : reply_to program body ≡ Some reply
  pub packet : p ≡ rpc_packet c port me reply

module _ (c : Config) (me to : Addr) (own : List ℕ) (next : ℕ) (client : me.ip ≡ c.client.ip) (apart : me.ip ≢ c.server.ip) where
  -- a call of the client is an earlier one, or the one that is under way
  pub record Sent (q : Packet) : Type 0 where
    pub call : (x : ℕ) → IsCallFrom me x q → (x < next) ⊎ (q ≡ Udp me to own)
    pub reply : (x : ℕ) → IsReplyTo c me x q → x < next

  pub request_sent : Sent (Udp me to own)
  request_sent = record { call = λ x r. inr refl; reply = λ x r. absurd (apart r.1) }

  -- a stranger sends neither a call from here nor a reply of the server
  stray_sent : (q : Packet) → IsStrangers c q → Sent q
  stray_sent (Frame bytes) stray = absurd stray
  stray_sent (Udp src dst body) stray = record {
    call = λ x r. absurd (stray.not_client (ap (λ (a : Addr). a.ip) r.0 ∙ client));
    reply = λ x r. absurd (stray.not_server r.1);
  }

  -- a reply of the server has an earlier xid, or is for the call that is under way; and nothing of the server is a call from here
  pub record Replied (p : Packet) : Type 0 where
    pub reply : (x : ℕ) → IsReplyTo c me x p → (x < next) ⊎ IsReplyFor c me to own p
    pub call : (x : ℕ) → IsCallFrom me x p → x < next

  frame_replied : (bytes : List ℕ) → Replied (Frame bytes)
  frame_replied bytes = record { reply = λ x r. absurd r; call = λ x r. absurd r }

  -- what comes from the server's address is no call from here
  no_call : (src dst : Addr) (body : List ℕ) → src.ip ≡ c.server.ip → (x : ℕ) → IsCallFrom me x (Udp src dst body) → x < next
  no_call src dst body is x r = absurd (apart (sym (ap (λ (a : Addr). a.ip) r.0) ∙ is))

  clash : (b : Bool) → b ≡ false → IsTrue b → ⊥
  clash b p q = cc

  tftp_replied : (src dst : Addr) (body : List ℕ) → src.ip ≡ c.server.ip → IsTftpPort src.port → Replied (Udp src dst body)
  tftp_replied src dst body is port = record { reply = λ x r. absurd (clash (is_rpc_port src.port) (no_rpc_port src.port port) r.2); call = no_call src dst body is }

  -- a reply that was written is read with its xid, where that is a word
  written_xid : (reply : Reply) → IsWord reply.xid → (r : Read) → Answers r reply → xid_answered (reading message (start (writes message (message_value (Answered reply))))) ≡ Some reply.xid
  written_xid reply word r is = ap xid_answered (message_again (Answered reply) (word, is.outcome))

  module _ (small : next < 2 ^ 32) (xid : xid_asked (reading message (start own)) ≡ Some next) where
    -- the reply of a program to a packet that was sent to it
    one_reply : (q : Packet) → Sent q → (from dst : Addr) (body : List ℕ) → q ≡ Udp from dst body → (program : Program) → Serves c from.ip dst.port program → (port : ℕ) (reply : Reply) → reply_to program body ≡ Some reply
        → Replied (rpc_packet c port from reply)
    one_reply q sent from dst body same program serves port reply given =
        record { reply = by; call = no_call _ from _ refl }
      where
        answers : Answers (reading message (start body)) reply
        answers = is_reply program (word_served c from.ip dst.port program serves) (reading message (start body)) reply given

        src_of : Packet → Addr
        src_of (Udp s d l) = s
        src_of (Frame l) = from

        port_of : Packet → ℕ
        port_of (Udp s d l) = d.port
        port_of (Frame l) = dst.port

        body_of : Packet → List ℕ
        body_of (Udp s d l) = l
        body_of (Frame l) = body

        -- the call that is under way
        mine : Udp from dst body ≡ Udp me to own → IsReplyFor c me to own (rpc_packet c port from reply)
        mine e =
            let src : from ≡ me = ap src_of e in
            let at : dst.port ≡ to.port = ap port_of e in
            let b : body ≡ own = ap body_of e in
            record {
              program = program;
              serves = subst (λ (a : Addr). Serves c a.ip to.port program) src (subst (λ (n : ℕ). Serves c from.ip n program) at serves);
              port = port;
              reply = reply;
              given = subst (λ (l : List ℕ). reply_to program l ≡ Some reply) b given;
              packet = λ i. rpc_packet c port (src i) reply;
            }

        by : (x : ℕ) → IsReplyTo c me x (rpc_packet c port from reply) → (x < next) ⊎ IsReplyFor c me to own (rpc_packet c port from reply)
        by x r =
            elim (sent.call reply.xid (subst (λ (p : Packet). IsCallFrom me reply.xid p) (sym same) (r.0, answers.xid))) [
              | inl lower ↦ inl (let is = some_same x reply.xid (sym r.3 ∙ written_xid reply (omega (arith, lower, small)) (reading message (start body)) answers) in omega (arith, is, lower))
              | inr e ↦ inr (mine (sym same ∙ e))
            ]

    replies_fine : (q : Packet) → Sent q → (from dst : Addr) (body : List ℕ) → q ≡ Udp from dst body → (program : Program) → Serves c from.ip dst.port program → (port : ℕ)
        → AllByRecursion Replied (as_packets (option_map (rpc_packet c port from) (reply_to program body)))
    replies_fine q sent from dst body same program serves port = of (reply_to program body) refl
      where
        of : (o : Option Reply) → reply_to program body ≡ o → AllByRecursion Replied (as_packets (option_map (rpc_packet c port from) o))
        of None e = tt
        of (Some reply) e = (one_reply q sent from dst body same program serves port reply e, tt)

    failures_fine : (q : Packet) → Sent q → (from dst : Addr) (body : List ℕ) → q ≡ Udp from dst body → AllByRecursion Replied (failures_to c from body)
    failures_fine q sent from dst body same = replies_fine q sent from dst body same nfs_failing (inr refl) nfs_port

    rules : Rules c Sent Replied
    rules = record {
      replies = λ tick part q p sent m.
          over_out c Replied frame_replied tftp_replied tick part q
          (λ from dst body same rpc. (λ held. replies_fine q sent from dst body same (program_at c held from.ip dst.port) (inl (held, refl)) dst.port, failures_fine q sent from dst body same)) p m;
      failures = λ q p sent m. over_failures c Replied frame_replied tftp_replied q (λ from dst body same. failures_fine q sent from dst body same) p m;
      blocks = λ s. of_block c Replied frame_replied tftp_replied s;
      strays = stray_sent;
    }

    -- ---- from before the call to behind it

    begins : (w : World) → XidsBelow c me next w → InTransit c Sent Replied w
    begins w below id f d = of f.from
      where
        sent : Sent f.packet
        sent = record { call = λ x r. inl (below.calls id x f d r); reply = λ x r. below.replies id x f d r }

        of : (from : Sender) → BySender Sent Replied from f.packet
        of Client = sent
        of Server = record { reply = λ x r. inl (below.replies id x f d r); call = λ x r. below.calls id x f d r }
        of Stranger = sent

    -- the reply to the call has its xid
    own_xid : (p : Packet) (x : ℕ) → IsReplyFor c me to own p → IsReplyTo c me x p → x ≡ next
    own_xid p x f r =
        let answers = is_reply f.program (word_served c me.ip to.port f.program f.serves) (reading message (start own)) f.reply f.given in
        let same : f.reply.xid ≡ next = some_same f.reply.xid next (sym answers.xid ∙ xid) in
        let there = subst (λ (q : Packet). IsReplyTo c me x q) f.packet r in
        some_same x f.reply.xid (sym there.3 ∙ written_xid f.reply (omega (arith, same, small)) (reading message (start own)) answers) ∙ same

    ends : (w : World) → InTransit c Sent Replied w → XidsBelow c me (next + 1) w
    ends w all = record { calls = λ id x f d r. call f x r f.from (all id f d); replies = λ id x f d r. reply f x r f.from (all id f d) }
      where
        asked : (f : Flying) (x : ℕ) → IsCallFrom me x f.packet → Sent f.packet → x < next + 1
        asked f x r s = elim (s.call x r) [
          | inl lower ↦ omega (arith, lower)
          | inr e ↦ (let is = some_same x next (sym (subst (λ (q : Packet). IsCallFrom me x q) e r).1 ∙ xid) in omega (arith, is))
        ]

        call : (f : Flying) (x : ℕ) → IsCallFrom me x f.packet → (from : Sender) → BySender Sent Replied from f.packet → x < next + 1
        call f x r Client s = asked f x r s
        call f x r Server p = let lower = p.call x r in omega (arith, lower)
        call f x r Stranger s = asked f x r s

        reply : (f : Flying) (x : ℕ) → IsReplyTo c me x f.packet → (from : Sender) → BySender Sent Replied from f.packet → x < next + 1
        reply f x r Client s = let lower = s.reply x r in omega (arith, lower)
        reply f x r Server p = elim (p.reply x r) [ inl lower ↦ omega (arith, lower) | inr e ↦ (let is = own_xid f.packet x e r in omega (arith, is)) ]
        reply f x r Stranger s = let lower = s.reply x r in omega (arith, lower)

    -- After a part in which the client sends only this call, a reply with its xid is the server's to it.
    pub answered_by : (w : World) (before : List Step) (id : ℕ) (packet : Packet) → AllAllowed c w (before ++ Get id packet ∷ []) → AllByRecursion Sent (sends_in before) → XidsBelow c me next w
        → IsReplyTo c me next packet → IsReplyFor c me to own packet
    answered_by w before id packet allowed sends below r =
        let cut = allowed-split c w before (Get id packet ∷ []) allowed in
        let all = transit_run c Sent Replied rules w before cut.0 sends (begins w below) in
        elim (transit_got c Sent Replied rules (run c w before) id packet cut.1.0 all) [
          | inl replied ↦ elim (replied.reply next r) [ inl lower ↦ absurd (omega (arith, lower)) | inr f ↦ f ]
          | inr sent ↦ (let lower = sent.reply next r in absurd (omega (arith, lower)))
        ]

    -- And the xids are below the one after it.
    pub behind : (w : World) (part : List Step) → AllAllowed c w part → AllByRecursion Sent (sends_in part) → XidsBelow c me next w → XidsBelow c me (next + 1) (run c w part)
    behind w part allowed sends below = ends (run c w part) (transit_run c Sent Replied rules w part allowed sends (begins w below))
