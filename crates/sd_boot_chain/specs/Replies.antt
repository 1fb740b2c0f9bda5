-- What the client gets: who replied.
use Rattle.std.specs.Prelude.{◌≡◌, ℕ, List, Some}
use Rattle.std.specs.List.{AllByRecursion}
use Rattle.sd_outside.specs.declared.packet.Mac.{Mac}
use Rattle.sd_outside.specs.declared.packet.Packet.{Packet}
use Rattle.sd_outside.specs.declared.packet.Packet.TheVariants.{Frame, Udp}
use Rattle.sd_config.specs.declared.config.Config.{Config}
use Rattle.sd_config.specs.Config.{IsConfig}
use Rattle.sd_portmap.specs.Layout.{pmap_port}
use Rattle.sd_link.specs.Steps.{Step}
use Rattle.sd_link.specs.Parts.{got_in}
use Rattle.sd_claims.specs.Rarp.{Learned, learned_from}

-- a RARP reply names the server, and what a portmapper sends comes from the server
abbrev pub ComesRight : Config → Packet → Type 0
ComesRight c (Frame bytes) = (mac : Mac) (learned : Learned) → learned_from mac (Frame bytes) ≡ Some learned → learned.responder ≡ c.server.ip
ComesRight c (Udp src dst body) = src.port ≡ pmap_port → src.ip ≡ c.server.ip

-- so is all that the client gets, where the configuration keeps its rules
abbrev pub AllComeRight : Config → List Step → Type 0
AllComeRight c part = IsConfig c → AllByRecursion (ComesRight c) (got_in part)
