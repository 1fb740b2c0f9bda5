-- What one address and port has asked for, after it sent more.
use Rattle.std.proofs.Common.{◌≡◌, ◌≢◌, ℕ, suc, List, [], ◌∷◌, Some, Ok, refl, sym, ◌∙◌, ap}
use Rattle.std.specs.Prelude.{slice_get}
use Rattle.std.specs.List.{AllByRecursion}
use Rattle.sd_outside.specs.declared.packet.Addr.{Addr}
use Rattle.sd_outside.specs.declared.packet.Packet.{Packet}
use Rattle.sd_outside.specs.declared.packet.Packet.TheVariants.{Frame, Udp}
use Rattle.sd_tftp.specs.declared.packet.TftpPacket.TheVariants.{Rrq}
use Rattle.sd_tftp.specs.Reading.{reading}
use Rattle.sd_config.specs.declared.config.Config.{Config}
use Rattle.sd_config.specs.Config.{IsConfig}
use Rattle.sd_link.specs.World.{World, Sender, Client, Server, Stranger, start}
use Rattle.sd_link.specs.Steps.{Step, run, AllAllowed, IsStrangers}
use Rattle.sd_link.specs.Parts.{sends_in}
use Rattle.sd_link.specs.Requests.{AsksOnlyFor}
use Rattle.sd_link.proofs.InFlight.{SentFine, FlyingFine, Keeps}
use Rattle.sd_config.proofs.Lists.{all_always, all_at}
use Rattle.sd_link.proofs.FromServer.{IsServers, AnyPacket, AnySession, servers_run}

-- a packet from there that asks for a file asks for this one
abbrev pub AsksRight : Addr → List ℕ → Packet → Type 0
AsksRight me name packet = (to : Addr) (body asked mode : List ℕ) → packet ≡ Udp me to body → reading body ≡ Ok (Rrq asked mode) → asked ≡ name

all_from : {A : Type 0} (P : A → Type 0) (xs : List A) → ((i : ℕ) (x : A) → slice_get xs i ≡ Some x → P x) → AllByRecursion P xs
all_from P [] at = tt
all_from P (x ∷ xs) at = (at 0 x refl, all_from P xs (λ i y e. at (suc i) y e))

-- a packet of the server comes from its address
server_asks_right : (c : Config) (me : Addr) (name : List ℕ) → me.ip ≢ c.server.ip → (packet : Packet) → IsServers c packet → AsksRight me name packet
server_asks_right c me name away (Frame bytes) s to body asked mode is reads = absurd (cc)
server_asks_right c me name away (Udp src dst own) s to body asked mode is reads =
    let same : src ≡ me = cc in
    absurd (away (sym (ap (λ (a : Addr). a.ip) same) ∙ s.ip))

-- and one of a stranger from neither end's
stranger_asks_right : (c : Config) (me : Addr) (name : List ℕ) → me.ip ≡ c.client.ip → (packet : Packet) → IsStrangers c packet → AsksRight me name packet
stranger_asks_right c me name mine (Frame bytes) s to body asked mode is reads = absurd s
stranger_asks_right c me name mine (Udp src dst own) s to body asked mode is reads =
    let same : src ≡ me = cc in
    absurd (s.not_client (ap (λ (a : Addr). a.ip) same ∙ mine))

module _ (c : Config) (is : IsConfig c) (me : Addr) (name : List ℕ) (mine : me.ip ≡ c.client.ip) where
  away : me.ip ≢ c.server.ip
  away same = is.ips (sym same ∙ mine)

  both_right : (from : Sender) (packet : Packet) → SentFine c (AsksRight me name) (IsServers c) from packet → AsksRight me name packet
  both_right Client packet h = h
  both_right Server packet h = server_asks_right c me name away packet h
  both_right Stranger packet h = stranger_asks_right c me name mine packet h

  right_sent : (from : Sender) (packet : Packet) → SentFine c AnyPacket (IsServers c) from packet → AsksRight me name packet → SentFine c (AsksRight me name) (IsServers c) from packet
  right_sent Client packet h right = right
  right_sent Server packet h right = h
  right_sent Stranger packet h right = h

  -- Where each packet of the client asks right, it asks only for this file.
  pub asks_only : (w : World) → Keeps c (AsksRight me name) (IsServers c) AnySession w → AsksOnlyFor me name w
  asks_only w h id f to body asked mode at packet_is reads =
      both_right f.from f.packet (all_at (FlyingFine c (AsksRight me name) (IsServers c)) w.flight id f h.0 at) to body asked mode packet_is reads

  -- and the other way round
  pub asks_right : (w : World) → Keeps c AnyPacket (IsServers c) AnySession w → AsksOnlyFor me name w → Keeps c (AsksRight me name) (IsServers c) AnySession w
  asks_right w h asks = (
    all_from (FlyingFine c (AsksRight me name) (IsServers c)) w.flight (λ id f at. right_sent f.from f.packet (all_at (FlyingFine c AnyPacket (IsServers c)) w.flight id f h.0 at)
        (λ to body asked mode packet_is reads. asks id f to body asked mode at packet_is reads)),
    h.1,
  )

  -- Who asked only for this file, and sends no request for another, has asked only for it then.
  pub asks_on : (before part : List Step) → AllAllowed c (start c) before → AllAllowed c (run c (start c) before) part → AsksOnlyFor me name (run c (start c) before) → AllByRecursion (AsksRight me name) (sends_in part) → AsksOnlyFor me name (run c (run c (start c) before) part)
  asks_on before part first second asks sends =
      let w = run c (start c) before in
      let h = servers_run c is AnyPacket (start c) before (tt, tt) (all_always AnyPacket (sends_in before) (λ p. tt)) first in
      asks_only (run c w part) (servers_run c is (AsksRight me name) w part (asks_right w h asks) sends second)
