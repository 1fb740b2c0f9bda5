-- What the client sends in its commands, and so what it has asked for.
use Rattle.std.proofs.Common.{◌≡◌, ◌≢◌, ℕ, ◌≤◌, ◌<◌, Bool, true, false, cond, List, [], ◌∷◌, length, Some, None, Ok, refl, sym, ◌∙◌, ap, subst, arith, inl, inr, ◌⊎◌}
use Rattle.std.specs.List.{AllByRecursion}
use Rattle.sd_outside.specs.declared.packet.Addr.{Addr}
use Rattle.sd_outside.specs.declared.packet.Packet.{Packet}
use Rattle.sd_outside.specs.declared.packet.Packet.TheVariants.{Frame, Udp}
use Rattle.sd_rarp.specs.Answer.{is_mac}
use Rattle.sd_tftp.specs.declared.packet.TftpPacket.TheVariants.{Rrq}
use Rattle.sd_tftp.specs.Grammar.{HasNoZero}
use Rattle.sd_tftp.specs.Reading.{reading}
use Rattle.sd_config.specs.declared.config.Config.{Config}
use Rattle.sd_config.specs.Config.{IsConfig}
use Rattle.sd_config.specs.Program.{program_name}
use Rattle.sd_link.specs.World.{World, Sender, Client, Server, Stranger, start}
use Rattle.sd_link.specs.Steps.{Step, Get, run, AllAllowed}
use Rattle.sd_link.specs.Parts.{sends_in, got_in}
use Rattle.sd_link.specs.Requests.{AsksOnlyFor, IsRpcPort, KeepsOffRpc}
use Rattle.sd_link.specs.Tries.{EndsMatched}
use Rattle.sd_link.proofs.InFlight.{SentFine, FlyingFine, Keeps}
use Rattle.sd_config.proofs.Lists.{all_always, all_at, all_weaker}
use Rattle.sd_services.proofs.NoRequests.{ack_asks_not, error_asks_not}
use Rattle.sd_link.proofs.FromServer.{AnyPacket, AnySession, IsServers, ComesToClient, servers_run, servers_got}
use Rattle.sd_config.specs.declared.command.Command.{Command}
use Rattle.sd_config.specs.declared.told.Told.{Told}
use Rattle.sd_claims.specs.Rarp.{Learned, learned_in, learned_from}
use Rattle.sd_claims.specs.Booting.{Counts, boot_fetch}
use Rattle.sd_claims.specs.Causes.{Cause}
use Rattle.sd_boot_chain.proofs.Fetched.{got_cut}
use Rattle.sd_boot_chain.proofs.FetchSends.{Sends}
use Rattle.sd_boot_chain.proofs.PartSends.{SendsAll, part_sends}
use Rattle.sd_boot_chain.proofs.TrustedFile.{request_names}
use Rattle.sd_boot_chain.proofs.KeptOff.{AnyAddr, no_rpc, ack_short, error_short}
use Rattle.sd_link.proofs.ProgramNames.{program_name_clean}

-- A datagram of a fetch: from a fetch's port at the client's address. A request in it is for the boot program, and to a port of an
-- RPC program goes nothing that has the size of a message.
pub record IsFetchDatagram (c : Config) (src dst : Addr) (body : List ℕ) : Type 0 where
  pub ip : src.ip ≡ c.client.ip
  pub port : 2048 ≤ src.port
  pub asks : (asked mode : List ℕ) → reading body ≡ Ok (Rrq asked mode) → asked ≡ program_name c.arch c.client.ip
  pub short : IsRpcPort dst.port → length body < 8

-- a call: from port 1021 at the client's address
abbrev pub IsCallFrom : Config → Addr → Type 0
IsCallFrom c src = (src.ip ≡ c.client.ip) × (src.port ≡ 1021)

-- what the client sends: frames, and such datagrams
abbrev pub IsClients : Config → Packet → Type 0
IsClients c (Frame bytes) = Unit {0}
IsClients c (Udp src dst body) = IsFetchDatagram c src dst body ⊎ IsCallFrom c src

-- where files are fetched
abbrev pub Fetches : Config → Addr → Type 0
Fetches c a = (a.ip ≡ c.client.ip) × (2048 ≤ a.port)

-- every packet in flight is the client's, the server's or a stranger's as it should be
abbrev pub IsHonest : Config → World → Type 0
IsHonest c w = Keeps c (IsClients c) (IsServers c) AnySession w

-- ---- what RARP told it

pub record LearnedRight (c : Config) (learned : Learned) : Type 0 where
  pub address : learned.address ≡ c.client.ip
  pub responder : learned.responder ≡ c.server.ip

learned_if : (c : Config) (b : Bool) (learned : Learned) → cond b (Some (let l : Learned = record { address = c.client.ip; responder = c.server.ip } in l)) None ≡ Some learned → LearnedRight c learned
learned_if c true learned e = let same : (let l : Learned = record { address = c.client.ip; responder = c.server.ip } in l) ≡ learned = cc in
    record { address = sym (ap (λ (l : Learned). l.address) same); responder = sym (ap (λ (l : Learned). l.responder) same) }
learned_if c false learned e = absurd (cc)

learned_right : (c : Config) (packet : Packet) (learned : Learned) → ComesToClient c packet → learned_from c.client.mac packet ≡ Some learned → LearnedRight c learned
learned_right c (Frame bytes) learned tells e = learned_if c (is_mac c.client.mac c.client.mac) learned (sym (ap (learned_in c.client.mac) tells.reads) ∙ e)
learned_right c (Udp src dst body) learned tells e = absurd (cc)

-- What the client learns from the server is its own address and the server's.
pub answered_right : (c : Config) (learned : Learned) (part : List Step) → EndsMatched (learned_from c.client.mac) learned part → AllByRecursion (ComesToClient c) (got_in part) → LearnedRight c learned
answered_right c learned part h all =
    learned_right c h.packet learned (got_cut (ComesToClient c) part h.before (Get h.id h.packet ∷ []) h.cut all).1.0 h.matched

module _ (c : Config) (is : IsConfig c) where
  -- ---- what it sends

  -- the fetch of a boot, whatever it hears
  boot_sends : (boots : ℕ) (learned : Learned) → LearnedRight c learned → Sends (boot_fetch c boots learned) (IsClients c) (ComesToClient c) AnyAddr
  boot_sends boots learned right =
      let f = boot_fetch c boots learned in
      let clean : HasNoZero (program_name c.arch learned.address) = program_name_clean c.arch learned.address is.arch (omega (arith, is.client.ip.1, right.address)) in
      record {
        request = inl (record {
          ip = right.address;
          port = omega arith;
          asks = λ asked mode reads. request_names (program_name c.arch learned.address) asked mode clean reads ∙ ap (program_name c.arch) right.address;
          short = λ rpc. absurd (no_rpc rpc);
        });
        acks = λ to n a. inl (record { ip = right.address; port = omega arith; asks = λ asked mode reads. absurd (ack_asks_not n asked mode reads); short = λ rpc. ack_short n });
        away = λ to a. inl (record { ip = right.address; port = omega arith; asks = λ asked mode reads. absurd (error_asks_not 5 [] asked mode reads); short = λ rpc. error_short });
        heard = λ from to body ip port g. tt;
      }

  sends_all : SendsAll c (IsClients c) (ComesToClient c) AnyAddr
  sends_all = record {
    frames = λ bytes. tt;
    fetches = λ boots learned t. boot_sends boots learned (answered_right c learned t.address t.told t.got);
    calls = λ boots learned t xid call. inr ((answered_right c learned t.address t.told t.got).address, refl);
  }

  -- ---- worlds

  any_client : (from : Sender) (packet : Packet) → SentFine c (IsClients c) (IsServers c) from packet → SentFine c AnyPacket (IsServers c) from packet
  any_client Client packet h = tt
  any_client Server packet h = h
  any_client Stranger packet h = h

  pub honest_start : IsHonest c (start c)
  honest_start = (tt, tt)

  -- What the client gets from the server's address is the server's.
  pub honest_got : (w : World) (part : List Step) → IsHonest c w → AllAllowed c w part → AllByRecursion (ComesToClient c) (got_in part)
  honest_got w part h allowed =
      servers_got c is AnyPacket w part (all_weaker (FlyingFine c (IsClients c) (IsServers c)) (FlyingFine c AnyPacket (IsServers c)) w.flight (λ f k. any_client f.from f.packet k) h.0, h.1)
      (all_always AnyPacket (sends_in part) (λ p. tt)) allowed

  -- So what it sends is as it should be.
  pub sends_right : (settled : List Step → Type 0) (w : World) (n : Counts) (command : Command) (answer : Told) (next : Counts) (part : List Step) → IsHonest c w → AllAllowed c w part → Cause settled c n command answer next part → AllByRecursion (IsClients c) (sends_in part)
  sends_right settled w n command answer next part h allowed caused = part_sends c (IsClients c) (ComesToClient c) AnyAddr sends_all settled n command answer next part caused (honest_got w part h allowed)

  -- After a command's part the world is so too.
  pub honest_part : (settled : List Step → Type 0) (w : World) (n : Counts) (command : Command) (answer : Told) (next : Counts) (part : List Step) → IsHonest c w → AllAllowed c w part → Cause settled c n command answer next part → IsHonest c (run c w part)
  honest_part settled w n command answer next part h allowed caused = servers_run c is (IsClients c) w part h (sends_right settled w n command answer next part h allowed caused) allowed

  fetches_away : (a : Addr) → Fetches c a → a.ip ≢ c.server.ip
  fetches_away a m e = is.ips (sym e ∙ m.0)

  -- No other file than the boot program was ever asked for from where files are fetched.
  clients_ask : (from : Sender) (me to : Addr) (body asked mode : List ℕ) → Fetches c me → SentFine c (IsClients c) (IsServers c) from (Udp me to body) → reading body ≡ Ok (Rrq asked mode) → asked ≡ program_name c.arch c.client.ip
  clients_ask Client me to body asked mode mine (inl h) reads = h.asks asked mode reads
  clients_ask Client me to body asked mode mine (inr h) reads = absurd (omega (arith, h.1, mine.1))
  clients_ask Server me to body asked mode mine h reads = absurd (fetches_away me mine h.ip)
  clients_ask Stranger me to body asked mode mine h reads = absurd (h.not_client mine.0)

  pub honest_asks : (w : World) (me : Addr) → Fetches c me → IsHonest c w → AsksOnlyFor me (program_name c.arch c.client.ip) w
  honest_asks w me mine h id f to body asked mode at packet_is reads =
      clients_ask f.from me to body asked mode mine (subst (λ (p : Packet). SentFine c (IsClients c) (IsServers c) f.from p) packet_is (all_at (FlyingFine c (IsClients c) (IsServers c)) w.flight id f h.0 at)) reads

  clients_keep_off : (from : Sender) (me to : Addr) (body : List ℕ) → Fetches c me → SentFine c (IsClients c) (IsServers c) from (Udp me to body) → IsRpcPort to.port → length body < 8
  clients_keep_off Client me to body mine (inl h) rpc = h.short rpc
  clients_keep_off Client me to body mine (inr h) rpc = absurd (omega (arith, h.1, mine.1))
  clients_keep_off Server me to body mine h rpc = absurd (fetches_away me mine h.ip)
  clients_keep_off Stranger me to body mine h rpc = absurd (h.not_client mine.0)

  -- And nothing of a message's size was ever sent from there to the RPC ports.
  pub honest_keeps_off : (w : World) (me : Addr) → Fetches c me → IsHonest c w → KeepsOffRpc me w
  honest_keeps_off w me mine h id f to body at packet_is rpc =
      clients_keep_off f.from me to body mine (subst (λ (p : Packet). SentFine c (IsClients c) (IsServers c) f.from p) packet_is (all_at (FlyingFine c (IsClients c) (IsServers c)) w.flight id f h.0 at)) rpc
