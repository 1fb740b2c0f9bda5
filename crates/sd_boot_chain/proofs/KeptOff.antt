-- A fetch sends nothing to the RPC ports that has the size of a message, where nothing such was sent there before.
use Rattle.std.proofs.Common.{◌≡◌, ◌≢◌, ℕ, suc, ◌<◌, List, [], ◌∷◌, ◌++◌, length, Some, None, true, refl, sym, ◌∙◌, ap, subst, arith, inl, inr}
use Rattle.std.specs.Prelude.{slice_get}
use Rattle.std.specs.List.{AllByRecursion}
use Rattle.sd_outside.specs.declared.packet.Addr.{Addr}
use Rattle.sd_outside.specs.declared.packet.Packet.{Packet}
use Rattle.sd_outside.specs.declared.packet.Packet.TheVariants.{Frame, Udp}
use Rattle.sd_tftp.specs.declared.packet.TftpPacket.TheVariants.{Ack, Error}
use Rattle.sd_tftp.specs.Grammar.{word, packet_bytes}
use Rattle.sd_config.specs.declared.config.Config.{Config}
use Rattle.sd_config.specs.Config.{IsConfig}
use Rattle.sd_link.specs.World.{World, Sender, Client, Server, Stranger, Flying, start}
use Rattle.sd_link.specs.Steps.{Step, Send, Get, after, run, AllAllowed, goes_to_client, IsStrangers}
use Rattle.sd_link.specs.Parts.{sends_in, got_in}
use Rattle.sd_link.specs.Requests.{IsRpcPort, KeepsOffRpc}
use Rattle.sd_link.proofs.InFlight.{SentFine, FlyingFine, Keeps}
use Rattle.sd_config.proofs.Lists.{all_always, all_at, all_weaker}
use Rattle.sd_link.proofs.FromServer.{IsServers, AnyPacket, AnySession, servers_run}
use Rattle.sd_claims.specs.Fetching.{Fetch, Fetched, acknowledge}
use Rattle.std.proofs.lemmas.Bool.{eqb-true}
use Rattle.sd_boot_chain.proofs.Fetched.{got_split, got_cut, moved_by}
use Rattle.sd_boot_chain.proofs.FetchSends.{Sends, fetched_sends}

-- port 69 is none of an RPC program
pub no_rpc : IsRpcPort 69 → ⊥
no_rpc (inl a) = omega (arith, a)
no_rpc (inr (inl a)) = omega (arith, a)
no_rpc (inr (inr (inl a))) = omega (arith, a)
no_rpc (inr (inr (inr a))) = omega (arith, a)

pub ack_short : (n : ℕ) → length (packet_bytes (Ack n)) < 8
unfolding word
ack_short n = omega arith

pub error_short : length (packet_bytes (Error 5 [])) < 8
unfolding word
error_short = omega arith

-- from the cells of a list
all_from : {A : Type 0} (P : A → Type 0) (xs : List A) → ((i : ℕ) (x : A) → slice_get xs i ≡ Some x → P x) → AllByRecursion P xs
all_from P [] at = tt
all_from P (x ∷ xs) at = (at 0 x refl, all_from P xs (λ i y e. at (suc i) y e))

pub udp_parts : (a b from to : Addr) (xs ys : List ℕ) → Udp a b xs ≡ Udp from to ys → (a ≡ from) × (b ≡ to) × (xs ≡ ys)
udp_parts a b from to xs ys e = (cc, cc, cc)

abbrev pub AnyAddr : Addr → Type 0
AnyAddr a = Unit {0}

-- ---- one that fetches

-- from there nothing of a message's size goes to the RPC ports
abbrev Off : Addr → Packet → Type 0
Off me packet = (to : Addr) (body : List ℕ) → packet ≡ Udp me to body → IsRpcPort to.port → length body < 8

module _ (c : Config) (is : IsConfig c) (f : Fetch) (mine : f.me.ip ≡ c.client.ip) where
  -- its own packets are so, whatever it hears
  off_sends : Sends f (Off f.me) AnyPacket AnyAddr
  off_sends = record {
    request = λ to body e rpc. let there : 69 ≡ to.port = ap (λ (a : Addr). a.port) (udp_parts _ _ f.me to _ body e).1 in absurd (no_rpc (subst IsRpcPort (sym there) rpc));
    acks = λ to n a dst body e rpc. subst (λ (l : List ℕ). length l < 8) (udp_parts _ to f.me dst _ body e).2 (ack_short n);
    away = λ to a dst body e rpc. subst (λ (l : List ℕ). length l < 8) (udp_parts _ to f.me dst _ body e).2 error_short;
    heard = λ from to body ip port g. tt;
  }

  -- and those of others come from elsewhere
  off_sent : (from : Sender) (packet : Packet) → SentFine c (Off f.me) (IsServers c) from packet → Off f.me packet
  off_sent Client packet h to body e rpc = h to body e rpc
  off_sent Server (Frame bytes) h to body e rpc = absurd (cc)
  off_sent Server (Udp src dst own) h to body e rpc = absurd (is.ips (sym h.ip ∙ ap (λ (a : Addr). a.ip) (udp_parts src dst f.me to own body e).0 ∙ mine))
  off_sent Stranger (Frame bytes) h to body e rpc = absurd h
  off_sent Stranger (Udp src dst own) h to body e rpc = absurd (h.not_client (ap (λ (a : Addr). a.ip) (udp_parts src dst f.me to own body e).0 ∙ mine))

  off_start : (w : World) → KeepsOffRpc f.me w → Keeps c AnyPacket (IsServers c) AnySession w → Keeps c (Off f.me) (IsServers c) AnySession w
  off_start w off h = (
    all_from (FlyingFine c (Off f.me) (IsServers c)) w.flight (λ id p at. of p.from p.packet (λ to body e rpc. off id p to body at e rpc) (all_at (FlyingFine c AnyPacket (IsServers c)) w.flight id p h.0 at)),
    h.1,
  )
    where
      of : (from : Sender) (packet : Packet) → Off f.me packet → SentFine c AnyPacket (IsServers c) from packet → SentFine c (Off f.me) (IsServers c) from packet
      of Client packet o k = o
      of Server packet o k = k
      of Stranger packet o k = k

  -- After a fetch nothing such was sent from there to the RPC ports.
  pub kept_off : {settled : List Step → Type 0} (before part : List Step) (bytes : List ℕ) → AllAllowed c (start c) before → KeepsOffRpc f.me (run c (start c) before) → AllAllowed c (run c (start c) before) part → Fetched settled f bytes part
      → KeepsOffRpc f.me (run c (run c (start c) before) part)
  kept_off before part bytes first off allowed came id p to body at e rpc =
      let w = run c (start c) before in
      let any = λ (steps : List Step). all_always AnyPacket (sends_in steps) (λ p. tt) in
      let h = off_start w off (servers_run c is AnyPacket (start c) before (tt, tt) (any before) first) in
      let sends = fetched_sends f (Off f.me) AnyPacket AnyAddr off_sends bytes part came (all_always AnyPacket (got_in part) (λ p. tt)) in
      let k = servers_run c is (Off f.me) w part h sends allowed in
      off_sent p.from p.packet (all_at (FlyingFine c (Off f.me) (IsServers c)) (run c w part).flight id p k.0 at) to body e rpc

-- ---- who got a file

-- what the client gets goes to its address
abbrev ToClient : Config → Packet → Type 0
ToClient c (Frame bytes) = Unit {0}
ToClient c (Udp src dst body) = dst.ip ≡ c.client.ip

goes_there : (c : Config) (from : Sender) (packet : Packet) → goes_to_client c from packet ≡ true → ToClient c packet
goes_there c Client packet goes = absurd (cc)
goes_there c Server (Frame bytes) goes = tt
goes_there c Server (Udp src dst body) goes = eqb-true dst.ip c.client.ip goes
goes_there c Stranger (Frame bytes) goes = tt
goes_there c Stranger (Udp src dst body) goes = eqb-true dst.ip c.client.ip goes

got_there : (c : Config) (w : World) (part : List Step) → AllAllowed c w part → AllByRecursion (ToClient c) (got_in part)
got_there c w [] all = tt
got_there c w (Get id packet ∷ steps) all = let f = all.0.0 in (subst (ToClient c) all.0.3 (goes_there c f.from f.packet all.0.2), got_there c w steps all.1)
got_there c w (step ∷ steps) all = got_there c (after c w step) steps all.1

-- A file came to the client's address.
pub fetched_there : {settled : List Step → Type 0} (c : Config) (w : World) (f : Fetch) (bytes : List ℕ) (part : List Step) → AllAllowed c w part → Fetched settled f bytes part → f.me.ip ≡ c.client.ip
fetched_there c w f bytes part allowed h =
    let last = Send (acknowledge f.me h.to h.number) ∷ [] in
    let s = got_cut (ToClient c) part h.before (h.last ++ last) h.cut (got_there c w part allowed) in
    let l = got_split (ToClient c) h.last last s.1 in
    let m = moved_by (ToClient c) f h.taken h.final h.last h.brings l.0 in
    let u = m.turned_on in
    sym u.to_ip ∙ subst (ToClient c) u.packet_is m.holds
