-- How a command ends: what waits for the client where it sends, and where the command is over.
use Rattle.std.specs.Prelude.{List, [], ◌∷◌, ◌++◌}
use Rattle.sd_config.specs.declared.config.Config.{Config}
use Rattle.sd_config.specs.Events.{Fates, fates_of}
use Rattle.sd_link.specs.World.{World}
use Rattle.sd_link.specs.Steps.{Step, Entry, History, run, record_of, world_of, whole_record}
use Rattle.sd_link.specs.Lawful.{AllGot, Settles, SendsSettled, EndsWithGet}
use Rattle.sd_config.specs.declared.told.Told.{Told}
use Rattle.sd_config.specs.declared.told.Told.TheVariants.{AddrOk, AddrTimeout, AddrFlood, WaitOk}
use Rattle.sd_claims.specs.Transcript.{Done}

-- Of a command that was done in these steps. Where nothing waited at first, the client sends only where nothing waits.
abbrev pub Ends : Config → Fates → World → List Entry → Told → List Step → Type 0
-- an address ends with the packet that told it
Ends c fates w entries (AddrOk ip) part = EndsWithGet part × (AllGot c fates w entries → SendsSettled c fates w entries part)
-- what was given up ends where nothing waits
Ends c fates w entries AddrTimeout part = AllGot c fates w entries → SendsSettled c fates w entries part × Settles c fates w entries part
Ends c fates w entries (AddrFlood step) part = AllGot c fates w entries → SendsSettled c fates w entries part
-- a pause that wasn't cut short ends where nothing waits
Ends c fates w entries (WaitOk shown) part = Settles c fates w entries part
-- of the others nothing is said here: the causes of a boot say which tries end where nothing waits
Ends c fates w entries answer part = Unit {0}

-- the same, of a command after this history
abbrev pub EndsAfter : History → Told → List Step → Type 0
EndsAfter h answer part = Ends h.config (fates_of h.events) (world_of h) (whole_record h) answer part

-- each command ends so
abbrev pub AllEnd : Config → Fates → World → List Entry → List Done → Type 0
AllEnd c fates w entries [] = Unit {0}
AllEnd c fates w entries (done ∷ others) = Ends c fates w entries done.answer done.part × AllEnd c fates (run c w done.part) (entries ++ record_of c w done.part) others
