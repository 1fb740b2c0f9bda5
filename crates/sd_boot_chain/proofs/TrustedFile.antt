-- A file that came from the configured server is the configured one, where nothing else was asked for.
use Rattle.std.proofs.Common.{◌≡◌, ◌≢◌, ℕ, List, [], Some, Result, Ok, refl, sym, ◌∙◌, ap}
use Rattle.std.specs.Prelude.{codes}
use Rattle.sd_outside.specs.declared.packet.Addr.{Addr}
use Rattle.sd_outside.specs.declared.packet.Packet.TheVariants.{Udp}
use Rattle.sd_tftp.specs.declared.packet.TftpPacket.{TftpPacket}
use Rattle.sd_tftp.specs.declared.packet.TftpPacket.TheVariants.{Rrq}
use Rattle.sd_tftp.specs.declared.packet.TftpError.{TftpError}
use Rattle.sd_tftp.specs.Grammar.{HasNoZero, packet_bytes, spells_rrq}
use Rattle.sd_tftp.specs.Reading.{reading}
use Rattle.sd_tftp.proofs.Whole.{spelled_is_read}
use Rattle.sd_config.specs.declared.config.Config.{Config}
use Rattle.sd_config.specs.Config.{IsConfig}
use Rattle.sd_config.specs.Program.{boot_file}
use Rattle.sd_link.specs.World.{start}
use Rattle.sd_link.specs.Steps.{Step, run, AllAllowed}
use Rattle.sd_link.specs.Parts.{got_in}
use Rattle.sd_link.specs.Requests.{AsksOnlyFor, KeepsOffRpc}
use Rattle.sd_config.proofs.Lists.{all_always}
use Rattle.sd_services.proofs.NoRequests.{ack_asks_not, error_asks_not}
use Rattle.sd_link.proofs.FromServer.{AnyPacket}
use Rattle.sd_link.proofs.BlocksInFlight.{blocks_kept, blocks_got}
use Rattle.sd_link.proofs.AskedFor.{AsksRight, asks_on}
use Rattle.sd_claims.specs.Fetching.{Fetch, Fetched}
use Rattle.sd_boot_chain.proofs.Fetched.{fetched_file}
use Rattle.sd_boot_chain.proofs.KeptOff.{AnyAddr, kept_off, fetched_there}
use Rattle.sd_boot_chain.proofs.FetchSends.{Sends, fetched_sends}

octet_clean : HasNoZero (codes "octet")
octet_clean = (λ e. cc e, (λ e. cc e, (λ e. cc e, (λ e. cc e, (λ e. cc e, tt)))))

asks_same : (r : Result TftpPacket TftpError) (name mode asked other : List ℕ) → r ≡ Ok (Rrq name mode) → r ≡ Ok (Rrq asked other) → asked ≡ name
asks_same r name mode asked other e h = cc

-- A request for a file in mode octet, whose name has no zero, asks for that file.
pub request_names : (name asked mode : List ℕ) → HasNoZero name → reading (packet_bytes (Rrq name (codes "octet"))) ≡ Ok (Rrq asked mode) → asked ≡ name
request_names name asked mode clean reads =
    let bytes = packet_bytes (Rrq name (codes "octet")) in
    asks_same (reading bytes) name (codes "octet") asked mode (spelled_is_read bytes (Rrq name (codes "octet")) (spells_rrq name (codes "octet") [] refl clean octet_clean)) reads

bodies_same : (from to me dst : Addr) (body own : List ℕ) → Udp from to body ≡ Udp me dst own → own ≡ body
bodies_same from to me dst body own e = cc

-- a fetch asks only for its file
asks_its_file : (f : Fetch) → HasNoZero f.name → Sends f (AsksRight f.me f.name) AnyPacket AnyAddr
asks_its_file f clean = record {
  request = λ to body asked mode is reads.
      request_names f.name asked mode clean (ap reading (sym (bodies_same f.me _ f.me to (packet_bytes (Rrq f.name (codes "octet"))) body is)) ∙ reads);
  acks = λ to n a dst body asked mode is reads. absurd (ack_asks_not n asked mode (ap reading (sym (bodies_same f.me to f.me dst _ body is)) ∙ reads));
  away = λ to a dst body asked mode is reads. absurd (error_asks_not 5 [] asked mode (ap reading (sym (bodies_same f.me to f.me dst _ body is)) ∙ reads));
  heard = λ from to body ip port g. tt;
}

-- What is fetched from the server after lawful steps of this configuration, in which no other file was asked for from there and nothing
-- of a message's size was sent from there to the RPC ports, is the file of that name.
pub fetched_is_configured : {settled : List Step → Type 0} (c : Config) → IsConfig c → (before part : List Step) (f : Fetch) (bytes : List ℕ) → HasNoZero f.name → f.server ≡ c.server.ip → AllAllowed c (start c) before
    → AsksOnlyFor f.me f.name (run c (start c) before) → KeepsOffRpc f.me (run c (start c) before) → AllAllowed c (run c (start c) before) part → Fetched settled f bytes part → boot_file c f.name ≡ Some bytes
fetched_is_configured c is before part f bytes clean server lawful asks off allowed came =
    let w = run c (start c) before in
    let mine : f.me.ip ≡ c.client.ip = fetched_there c w f bytes part allowed came in
    let sends = fetched_sends f (AsksRight f.me f.name) AnyPacket AnyAddr (asks_its_file f clean) bytes part came (all_always AnyPacket (got_in part) (λ p. tt)) in
    let kept = blocks_kept c is f.me f.name before lawful asks off in
    let got = blocks_got c is f.me f.name w part kept (asks_on c is f.me f.name mine before part lawful allowed asks sends) (kept_off c is f mine before part bytes lawful off allowed came) allowed in
    fetched_file c f bytes part server came got
