-- What a caller is told by the first match is what its server says, where its xids are fresh.
use Rattle.std.proofs.Common.{◌≡◌, ◌≢◌, ℕ, ◌+◌, ◌-◌, ◌<◌, ◌≤◌, ◌^◌, Bool, true, false, cond, List, [], ◌∷◌, ◌++◌, length, Option, Some, None, Ok, Err, refl, sym, ◌∙◌, ap, subst, inl, inr, arith}
use Rattle.std.specs.Prelude.{◌==◌, ◌&&◌, IsTrue}
use Rattle.std.specs.List.{flat_map, AllByRecursion}
use Rattle.sd_outside.specs.declared.packet.Addr.{Addr}
use Rattle.sd_outside.specs.declared.packet.Packet.{Packet}
use Rattle.sd_outside.specs.declared.packet.Packet.TheVariants.{Frame, Udp}
use Rattle.sd_xdr.specs.Kind.{Value, number_of, first, second}
use Rattle.sd_xdr.specs.Reading.{Read, start, reading}
use Rattle.sd_xdr.specs.Grammar.{writes}
use Rattle.sd_rpc_msg.specs.declared.message.Reply.{Reply}
use Rattle.sd_rpc_msg.specs.declared.message.Message.TheVariants.{Answered as AnsweredBy}
use Rattle.sd_rpc_msg.specs.Layout.{message, message_value, outcome_value}
use Rattle.sd_rpc_msg.specs.Laws.{IsMessage}
use Rattle.sd_config.specs.declared.config.Config.{Config}
use Rattle.sd_link.specs.World.{World, Sender, Client, Server, Stranger}
use Rattle.sd_link.specs.Requests.{IsRpcPort}
use Rattle.sd_services.specs.RpcCalls.{spelled, value_read}
use Rattle.sd_services.specs.RpcReply.{is_rpc_port, rpc_packet}
use Rattle.sd_link.specs.Steps.{Step, Send, Get, Allowed, AllAllowed, History, world_of, run, goes_to_client}
use Rattle.sd_link.specs.Parts.{sends_in}
use Rattle.sd_link.specs.Tries.{RepliesAtOnce, with_replies, Asks, Answered}
use Rattle.sd_link.proofs.Histories.{allowed-split, sends-append}
use Rattle.sd_config.proofs.Lists.{all_append, all_split}
use Rattle.sd_rpc_retry.specs.declared.calling.Ask.{Ask}
use Rattle.sd_rpc_retry.specs.declared.calling.Caller.{Caller}
use Rattle.sd_rpc_retry.specs.Calling.{Verdict, Said, home, is_at, is_everyone, comes_from, and_then, message_says, reply_says, verdict_of, verdict_in, call_for, request, hearing_of}
use Rattle.sd_rpc_retry.proofs.MatchLaw.{only_if, follows}
use Rattle.sd_loader.specs.Fresh.{xid_asked, xid_answered, IsReplyTo, XidsBelow}
use Rattle.sd_loader.specs.Trust.{MayTrust}
use Rattle.sd_loader.specs.Served.{IsServers}
use Rattle.sd_loader.proofs.Lists.{both_true, are_equal, not_equal}
use Rattle.sd_loader.proofs.Again.{message_spelled}
use Rattle.sd_loader.proofs.Sendable.{call_is, call_xid, sent_body, asks_own, reply_is}
use Rattle.sd_loader.proofs.Replying.{is_reply}
use Rattle.sd_loader.proofs.Server.{word_served}
use Rattle.sd_loader.proofs.Own.{Sent, request_sent, answered_by, behind}

-- ---- a packet that matches

rpc_port_true : (port : ℕ) → IsRpcPort port → is_rpc_port port ≡ true
rpc_port_true port (inl e) = ap is_rpc_port e
rpc_port_true port (inr (inl e)) = ap is_rpc_port e
rpc_port_true port (inr (inr (inl e))) = ap is_rpc_port e
rpc_port_true port (inr (inr (inr e))) = ap is_rpc_port e

at_is : (me to : Addr) → is_at me to ≡ true → to ≡ me
at_is me to h =
    let e = both_true (to.ip == me.ip) (to.port == me.port) h in
    let same_ip = are_equal to.ip me.ip e.0 in
    let same_port = are_equal to.port me.port e.1 in
    λ i. record { ip = same_ip i; port = same_port i }

from_there : (b : Bool) (dst src : Addr) → b ≡ false → cond b (src.port == 111) (src.ip == dst.ip && src.port == dst.port) ≡ true → src ≡ dst
from_there true dst src is h = absurd cc
from_there false dst src is h = at_is dst src h

read_answer : (r : Read) (v : Value) (xid : ℕ) → value_read r ≡ Some v → number_of (first v) ≡ xid → number_of (first (second v)) ≡ 1 → xid_answered r ≡ Some xid
read_answer (Err why) v xid e x one = absurd cc
read_answer (Ok read) v xid e x one =
    let same : read.0 ≡ v = some_is read.0 v e in
    ap (λ (n : ℕ). cond (n == 0) None (Some (number_of (first read.0)))) (ap (λ (w : Value). number_of (first (second w))) same ∙ one)
    ∙ ap (λ (w : Value). Some (number_of (first w))) same ∙ ap Some x
  where
    some_is : (a b : Value) → ◌≡◌ {A = Option Value} (Some a) (Some b) → a ≡ b
    some_is a b h = cc

pub match_reply : (c : Config) (me : Addr) (xid : ℕ) (dst : Addr) (what : Ask) (packet : Packet) (v : Verdict) → dst.ip ≡ c.server.ip → IsRpcPort dst.port → is_everyone dst ≡ false
    → verdict_in me xid dst what packet ≡ Some v → IsReplyTo c me xid packet
match_reply c me xid dst what (Frame bytes) v server port one h = absurd cc
match_reply c me xid dst what (Udp src to body) v server port one h =
    let i = only_if (is_at me to && comes_from dst src) (and_then (and_then (spelled message body) (message_says xid)) (verdict_of what dst src.ip)) v h in
    let e = both_true (is_at me to) (comes_from dst src) i.0 in
    let f = follows (and_then (spelled message body) (message_says xid)) (verdict_of what dst src.ip) v i.1 in
    let g = follows (spelled message body) (message_says xid) f.0 f.1 in
    let t = only_if ((number_of (first g.0) == xid) && (number_of (first (second g.0)) == 1)) (Some (reply_says (second (second g.0)))) f.0 g.2 in
    let k = both_true (number_of (first g.0) == xid) (number_of (first (second g.0)) == 1) t.0 in
    let there : src ≡ dst = from_there (is_everyone dst) dst src one e.1 in (
      at_is me to e.0,
      ap (λ (a : Addr). a.ip) there ∙ server,
      ap (λ (a : Addr). is_rpc_port a.port) there ∙ rpc_port_true dst.port port,
      read_answer (reading message (start body)) g.0 xid g.1 (are_equal (number_of (first g.0)) xid k.0) (are_equal (number_of (first (second g.0))) 1 k.1),
    )

-- what the server's reply tells
says_own : (xid : ℕ) (reply : Reply) (f : Said → Option Verdict) (v : Verdict) → reply.xid ≡ xid
    → and_then (message_says xid (message_value (AnsweredBy reply))) f ≡ Some v → f (reply_says (outcome_value reply.outcome)) ≡ Some v
says_own xid reply f v same h = of (reply.xid == xid) h
  where
    of : (b : Bool) → and_then (cond (b && true) (Some (reply_says (outcome_value reply.outcome))) None) f ≡ Some v → f (reply_says (outcome_value reply.outcome)) ≡ Some v
    of true e = e
    of false e = absurd cc

reply_tells : (c : Config) (me : Addr) (xid : ℕ) (dst : Addr) (what : Ask) (port : ℕ) (reply : Reply) (v : Verdict) → dst.ip ≡ c.server.ip → IsMessage (AnsweredBy reply) → reply.xid ≡ xid
    → verdict_in me xid dst what (rpc_packet c port me reply) ≡ Some v → verdict_of what dst dst.ip (reply_says (outcome_value reply.outcome)) ≡ Some v
reply_tells c me xid dst what port reply v server is same h =
    let src : Addr = record { ip = c.server.ip; port = port } in
    let body = writes message (message_value (AnsweredBy reply)) in
    let i = only_if (is_at me me && comes_from dst src) (and_then (and_then (spelled message body) (message_says xid)) (verdict_of what dst c.server.ip)) v h in
    let told = sym (ap (λ (o : Option Value). and_then (and_then o (message_says xid)) (verdict_of what dst c.server.ip)) (message_spelled (AnsweredBy reply) is)) ∙ i.1 in
    subst (λ (n : ℕ). verdict_of what dst n (reply_says (outcome_value reply.outcome)) ≡ Some v) (sym server) (says_own xid reply (verdict_of what dst c.server.ip) v same told)

-- ---- the part of a call

abbrev silence : Packet → List Packet
silence packet = []

-- where nothing is sent for a packet, nothing is sent
silent_with : (others : List Step) → sends_in others ≡ [] → sends_in (with_replies silence others) ≡ []
silent_with [] e = refl
silent_with (Send packet ∷ others) e = absurd cc
silent_with (step ∷ others) e = silent_with others e

silent_rest : (rest : List Step) → RepliesAtOnce silence rest → sends_in rest ≡ []
silent_rest rest r = ap sends_in r.steps_are ∙ silent_with r.others r.silent

sends_of : (P : Packet → Type 0) (sent : Packet) → P sent → (rests : List (List Step)) → AllByRecursion (λ rest. sends_in rest ≡ []) rests → AllByRecursion P (sends_in (flat_map (λ rest. Send sent ∷ rest) rests))
sends_of P sent p [] all = tt
sends_of P sent p (rest ∷ rests) all =
    (p, subst (AllByRecursion P) (sym (sends-append rest (flat_map (λ r. Send sent ∷ r) rests))) (all_append P (sends_in rest) (sends_in (flat_map (λ r. Send sent ∷ r) rests)) (subst (AllByRecursion P) (sym all.0) tt) (sends_of P sent p rests all.1)))

module _ (caller : Caller) (dst : Addr) (what : Ask) (h : History) (trust : MayTrust caller dst h) (small : length caller.machine ≤ 255) (few : caller.next_xid < 2 ^ 32 - 1) where
  abbrev c : Config
  c = h.config

  not_everyone : is_everyone dst ≡ false
  not_everyone =
      let least = trust.rules.server.ip.1 in
      let there = trust.server in
      not_equal dst.ip (2 ^ 32 - 1) (λ e. absurd (omega (arith, least, there, e)))

  word : caller.next_xid < 2 ^ 32
  word = omega (arith, few)

  xid : xid_asked (reading message (start (sent_body (call_for caller.machine caller.next_xid dst what)))) ≡ Some caller.next_xid
  xid =
      asks_own (call_for caller.machine caller.next_xid dst what) (call_is caller.machine small caller.next_xid word dst what)
      ∙ ap (λ (n : ℕ). Some n) (call_xid caller.machine caller.next_xid dst what)

  -- who gets a reply is the configuration's client
  gets : (w : World) (id : ℕ) (packet : Packet) → Allowed c w (Get id packet) → IsReplyTo c (home caller) caller.next_xid packet → caller.ip ≡ c.client.ip
  gets w id packet a r = of packet r (subst (λ (p : Packet). IsTrue (goes_to_client c a.0.from p)) a.3 a.2)
    where
      at : (f : Sender) (src to : Addr) (body : List ℕ) → IsTrue (goes_to_client c f (Udp src to body)) → to.ip ≡ c.client.ip
      at Client src to body g = absurd cc
      at Server src to body g = are_equal to.ip c.client.ip g
      at Stranger src to body g = are_equal to.ip c.client.ip g

      of : (p : Packet) → IsReplyTo c (home caller) caller.next_xid p → IsTrue (goes_to_client c a.0.from p) → caller.ip ≡ c.client.ip
      of (Frame bytes) k goes = absurd k
      of (Udp src to body) k goes = sym (ap (λ (m : Addr). m.ip) k.0) ∙ at a.0.from src to body goes

  module _ (client : caller.ip ≡ c.client.ip) where
    apart : caller.ip ≢ c.server.ip
    apart = λ e. trust.rules.ips (sym e ∙ client)

    Own : Packet → Type 0
    Own = Sent c (home caller) dst (sent_body (call_for caller.machine caller.next_xid dst what)) caller.next_xid client apart

    -- the client sends the call alone
    sends_own : (settled : List Step → Type 0) (tries wait : ℕ) (part : List Step) → Asks settled (request caller dst what) silence tries wait part → AllByRecursion Own (sends_in part)
    unfolding Own
    sends_own settled tries wait part a =
        subst (λ (l : List Step). AllByRecursion Own (sends_in l)) (sym a.is.cut)
        (sends_of Own (request caller dst what) (request_sent c (home caller) dst _ caller.next_xid client apart) (a.before ++ a.last ∷ []) (quiet (a.before ++ a.last ∷ []) a.is.replied))
      where
        quiet : (rests : List (List Step)) → AllByRecursion (RepliesAtOnce silence) rests → AllByRecursion (λ rest. sends_in rest ≡ []) rests
        quiet [] all = tt
        quiet (rest ∷ rests) all = (silent_rest rest all.0, quiet rests all.1)

    pub told_by : (settled : List Step → Type 0) (tries wait : ℕ) (v : Verdict) (part : List Step) → AllAllowed c (world_of h) part → Answered settled (request caller dst what) (hearing_of caller dst what) tries wait v part
        → IsServers c caller dst what v × XidsBelow c (home caller) (caller.next_xid + 1) (run c (world_of h) part)
    unfolding Own
    told_by settled tries wait v part allowed a =
        let w = world_of h in
        let e = a.ends in
        let own = call_for caller.machine caller.next_xid dst what in
        let whole = subst (AllAllowed c w) e.cut allowed in
        let sends = sends_own settled tries wait part a.asks in
        let before = (all_split Own (sends_in e.before) (sends_in (Get e.id e.packet ∷ [])) (subst (AllByRecursion Own) (sends-append e.before (Get e.id e.packet ∷ [])) (subst (λ (l : List Step). AllByRecursion Own (sends_in l)) e.cut sends))).0 in
        let reply = match_reply c (home caller) caller.next_xid dst what e.packet v trust.server trust.port not_everyone e.matched in
        let f = answered_by c (home caller) dst (sent_body own) caller.next_xid client apart word xid w e.before e.id e.packet whole before trust.below reply in
        let is_msg = call_is caller.machine small caller.next_xid word dst what in
        let o = reply_is f.program own f.reply is_msg f.given in
        let answers = is_reply f.program (word_served c caller.ip dst.port f.program f.serves) (reading message (start (sent_body own))) f.reply f.given in
        let same : f.reply.xid ≡ caller.next_xid = ap (λ (r : Reply). r.xid) o.same ∙ call_xid caller.machine caller.next_xid dst what in
        let tells = reply_tells c (home caller) caller.next_xid dst what f.port f.reply v trust.server (omega (arith, same, word), answers.outcome) same (subst (λ (q : Packet). verdict_in (home caller) caller.next_xid dst what q ≡ Some v) f.packet e.matched) in (
          record {
            program = f.program;
            serves = f.serves;
            outcome = o.outcome;
            given = o.given;
            verdict = subst (λ (r : Reply). verdict_of what dst dst.ip (reply_says (outcome_value r.outcome)) ≡ Some v) o.same tells;
          },
          behind c (home caller) dst (sent_body own) caller.next_xid client apart word xid w part allowed sends trust.below,
        )

  -- What the first match told is what the server says, and the next xids are fresh.
  pub told : (settled : List Step → Type 0) (tries wait : ℕ) (v : Verdict) (part : List Step) → AllAllowed c (world_of h) part → Answered settled (request caller dst what) (hearing_of caller dst what) tries wait v part
      → IsServers c caller dst what v × XidsBelow c (home caller) (caller.next_xid + 1) (run c (world_of h) part)
  told settled tries wait v part allowed a =
      let w = world_of h in
      let e = a.ends in
      let whole = subst (AllAllowed c w) e.cut allowed in
      let reply = match_reply c (home caller) caller.next_xid dst what e.packet v trust.server trust.port not_everyone e.matched in
      let client = gets (run c w e.before) e.id e.packet (allowed-split c w e.before (Get e.id e.packet ∷ []) whole).1.0 reply in
      told_by client settled tries wait v part allowed a
