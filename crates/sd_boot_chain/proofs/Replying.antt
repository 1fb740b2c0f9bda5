-- Who replied: what tells the client something comes from the server.
use Rattle.std.proofs.Common.{◌≡◌, ℕ, ◌==◌, ◌&&◌, Bool, true, false, cond, List, [], ◌∷◌, ◌++◌, Option, Some, None, inl, inr, refl, sym, ◌∙◌, ap, subst}
use Rattle.std.proofs.lemmas.Bool.{eqb-true}
use Rattle.std.specs.Prelude.{IfSome}
use Rattle.std.specs.List.{AllByRecursion}
use Rattle.sd_outside.specs.declared.packet.Addr.{Addr}
use Rattle.sd_outside.specs.declared.packet.Mac.{Mac}
use Rattle.sd_outside.specs.declared.packet.Packet.{Packet}
use Rattle.sd_outside.specs.declared.packet.Packet.TheVariants.{Frame, Udp}
use Rattle.sd_rarp.specs.Answer.{is_mac}
use Rattle.sd_config.specs.declared.config.Config.{Config}
use Rattle.sd_config.proofs.Lists.{all_always, all_weaker}
use Rattle.sd_rpc_msg.specs.Layout.{message}
use Rattle.sd_services.specs.RpcCalls.{spelled}
use Rattle.sd_portmap.specs.Layout.{pmap_port}
use Rattle.sd_link.specs.World.{World, start}
use Rattle.sd_link.specs.Steps.{Step, Get, History, AllAllowed, IsLawfulSoFar, run, world_of}
use Rattle.sd_link.specs.Parts.{sends_in, got_in}
use Rattle.sd_link.specs.Link.{Moves}
use Rattle.sd_link.specs.Tries.{EndsMatched}
use Rattle.sd_link.proofs.FromServer.{IsServers, AnyPacket, AnySession, AnyRequest, AnyCall, server_rules, servers_run}
use Rattle.sd_link.proofs.InFlight.{AllAsk, GotFine, keeps_got}
use Rattle.sd_rpc_retry.specs.Calling.{Verdict, verdict_in, verdict_of, message_says, and_then, comes_from, is_everyone, is_at, home}
use Rattle.sd_rpc_retry.specs.declared.calling.Caller.{Caller}
use Rattle.sd_claims.specs.Rarp.{Learned, learned_in, learned_from}
use Rattle.sd_rpc_retry.specs.Chain.{Call, CallTold, RowEnd, Row}
use Rattle.sd_rpc_retry.proofs.Rows.{row_so}
use Rattle.sd_claims.specs.Booting.{IsServerIp, EndsFromServer, ServerTold, LearnsAddress, Place, asks_name, asks_root, asks_mount, End, call_at, boot_way}
use Rattle.sd_boot_chain.specs.Replies.{ComesRight, AllComeRight}
use Rattle.sd_boot_chain.proofs.Fetched.{got_cut, got_split}
use Rattle.sd_boot_chain.proofs.Turned.{and_first, and_second}

-- ---- what the server sends is right

responder_if : (c : Config) (b : Bool) (learned : Learned) → cond b (Some (let l : Learned = record { address = c.client.ip; responder = c.server.ip } in l)) None ≡ Some learned → learned.responder ≡ c.server.ip
responder_if c true learned e = let same : (let l : Learned = record { address = c.client.ip; responder = c.server.ip } in l) ≡ learned = cc in sym (ap (λ (l : Learned). l.responder) same)
responder_if c false learned e = absurd (cc)

-- a stranger sends no frame, and nothing from the port of the portmapper
comes_right : (c : Config) (packet : Packet) → GotFine c (IsServers c) packet → ComesRight c packet
comes_right c (Frame bytes) (inl tells) = λ mac learned e. responder_if c (is_mac c.client.mac mac) learned (sym (ap (learned_in mac) tells.reads) ∙ e)
comes_right c (Frame bytes) (inr strangers) = absurd strangers
comes_right c (Udp src dst body) (inl sent) = λ port. sent.ip
comes_right c (Udp src dst body) (inr strangers) = λ port. absurd (strangers.not_portmapper port)

any_asks : (w : World) → AllAsk AnyRequest AnyCall w
any_asks w id f e = record { requests = λ from to body name mode is reads. tt; calls = λ from to body is rpc. tt }

all_right : (h : History) (part : List Step) → IsLawfulSoFar h → AllAllowed h.config (world_of h) part → AllComeRight h.config part
all_right h part lawful allowed is =
    let c = h.config in
    let any = λ (steps : List Step). all_always AnyPacket (sends_in steps) (λ p. tt) in
    let kept = servers_run c is AnyPacket (start c) h.steps (tt, tt) (any h.steps) lawful in
    all_weaker (GotFine c (IsServers c)) (ComesRight c) (got_in part) (comes_right c)
    (keeps_got c (IsServers c) AnySession AnyRequest AnyCall (server_rules c is) AnyPacket (world_of h) part kept (any part) (any_asks (run c (world_of h) part)) allowed)

-- over a link whose history is lawful
pub moves_right : (old new : Option History) (P : History → List Step → Type 0) → IfSome old IsLawfulSoFar → Moves old new P → Moves old new (λ h part. AllComeRight h.config part × P h part)
moves_right None None P lawful m = tt
moves_right None (Some new) P lawful m = absurd m
moves_right (Some old) None P lawful m = absurd m
moves_right (Some old) (Some new) P lawful m = (m.0, m.1, (all_right old m.0 lawful m.1.allowed, m.2))

-- a part of what comes right
pub first_right : (c : Config) (xs ys : List Step) → AllComeRight c (xs ++ ys) → AllComeRight c xs
first_right c xs ys all is = (got_split (ComesRight c) xs ys (all is)).0

pub second_right : (c : Config) (xs ys : List Step) → AllComeRight c (xs ++ ys) → AllComeRight c ys
second_right c xs ys all is = (got_split (ComesRight c) xs ys (all is)).1

-- ---- the responder

named_by : (c : Config) (packet : Packet) (learned : Learned) → learned_from c.client.mac packet ≡ Some learned → ComesRight c packet → learned.responder ≡ c.server.ip
named_by c (Frame bytes) learned e right = right c.client.mac learned e
named_by c (Udp src dst body) learned e right = absurd (cc)

pub names_server : {settled : List Step → Type 0} (c : Config) (learned : Learned) (part : List Step) → LearnsAddress settled c learned part → AllComeRight c part → IsServerIp c learned.responder
names_server c learned part told all is =
    let e = told.ends in
    named_by c e.packet learned e.matched (got_cut (ComesRight c) part e.before (Get e.id e.packet ∷ []) e.cut (all is)).1.0

-- ---- the replies to calls

from_portmapper : (dst src : Addr) (b : Bool) → dst.port ≡ pmap_port → cond b (src.port == pmap_port) (src.ip == dst.ip && src.port == dst.port) ≡ true → src.port ≡ pmap_port
from_portmapper dst src true at e = eqb-true src.port pmap_port e
from_portmapper dst src false at e = eqb-true src.port dst.port (and_second (src.ip == dst.ip) (src.port == dst.port) e) ∙ at

module _ (c : Config) (caller : Caller) (call : Call) (verdict : Verdict) (at : call.dst.port ≡ pmap_port) where
  told_by : (packet : Packet) (id : ℕ) (part before : List Step) → part ≡ before ++ Get id packet ∷ [] → verdict_in (home caller) caller.next_xid call.dst call.ask packet ≡ Some verdict → (AllComeRight c (Get id packet ∷ [])) → EndsFromServer c part
  told_by (Frame bytes) id part before cut e right = absurd (cc)
  told_by (Udp from to body) id part before cut e right = by_test (is_at (home caller) to && comes_from call.dst from) refl e
    where
      by_test : (b : Bool) → (is_at (home caller) to && comes_from call.dst from) ≡ b
          → cond b (and_then (and_then (spelled message body) (message_says caller.next_xid)) (verdict_of call.ask call.dst from.ip)) None ≡ Some verdict → EndsFromServer c part
      by_test false is e = absurd (cc)
      by_test true is e = record {
        before = before;
        id = id;
        src = from;
        dst = to;
        body = body;
        cut = cut;
        from = λ rules. (right rules).0 (from_portmapper call.dst from (is_everyone call.dst) at (and_second (is_at (home caller) to) (comes_from call.dst from) is));
      }

  server_told : (settled : List Step → Type 0) (part : List Step) → CallTold verdict settled caller call part → AllComeRight c part → ServerTold c verdict settled caller call part
  server_told settled part told all =
      let e = told.ends in record {
        told = told;
        from_server = told_by e.packet e.id part e.before e.cut e.matched (λ rules. (got_cut (ComesRight c) part e.before (Get e.id e.packet ∷ []) e.cut (all rules)).1);
      }

-- each call of a boot goes to a portmapper
to_portmapper : (at : Place) → (call_at at).dst.port ≡ pmap_port
to_portmapper (asks_name address) = refl
to_portmapper (asks_root from client) = refl
to_portmapper (asks_mount server) = refl

-- what its calls were told came from the server
pub row_right : (c : Config) (settled : List Step → Type 0) (from : Place) (first next : Caller) (end : RowEnd End) (part : List Step) → AllComeRight c part → Row boot_way CallTold settled from first end next part
    → Row boot_way (ServerTold c) settled from first end next part
row_right c settled from first next end part right r =
    row_so boot_way CallTold (ServerTold c) (AllComeRight c) (λ xs ys all. (first_right c xs ys all, second_right c xs ys all))
    (λ at verdict still caller more all told. server_told c caller (call_at at) verdict (to_portmapper at) still more told all) settled from first next end part right r
