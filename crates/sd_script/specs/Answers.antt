-- The answer lines of a transcript.
use Rattle.std.specs.Prelude.{◌∷◌, ◌++◌, [], codes}
use Rattle.std.specs.Fmt.{decimal}
use Rattle.sd_config.specs.declared.stage.Stage.{Stage}
use Rattle.sd_config.specs.declared.stage.Stage.TheVariants.{Rarp, Tftp, Whoami, Getfile, Getport, Mnt, Lookup, Readlink, Read, Getattr, Wait}
use Rattle.sd_text.specs.Texts.{Text, ip_text}
use Rattle.sd_text.specs.Runs.{runs_text}
use Rattle.sd_config.specs.declared.told.Told.{Told}
use Rattle.sd_config.specs.declared.told.Told.TheVariants.{AddrOk, AddrTimeout, AddrFlood, AddrLinkFault, BootUnbuilt, BootTimeout, BootFlood, BootDenied, BootRefused, BootNoPort, BootTooLarge, BootLinkFault, WaitOk, WaitFlood, WaitLinkFault}

-- the word for a step
abbrev pub stage_text : Stage → Text
stage_text Rarp = codes "rarp"
stage_text Tftp = codes "tftp"
stage_text Whoami = codes "whoami"
stage_text Getfile = codes "getfile"
stage_text Getport = codes "getport"
stage_text Mnt = codes "mnt"
stage_text Lookup = codes "lookup"
stage_text Readlink = codes "readlink"
stage_text Read = codes "read"
stage_text Getattr = codes "getattr"
stage_text Wait = codes "wait"

-- what stands before the line feed
abbrev pub answer_text : Told → Text
answer_text (AddrOk ip) = codes "addr ok " ++ ip_text ip
answer_text AddrTimeout = codes "addr timeout rarp"
answer_text (AddrFlood step) = codes "addr flood " ++ stage_text step
answer_text AddrLinkFault = codes "addr linkfault"
answer_text (BootUnbuilt step program) = codes "boot unbuilt " ++ stage_text step ++ codes " program " ++ runs_text program
answer_text (BootTimeout step) = codes "boot timeout " ++ stage_text step
answer_text (BootFlood step) = codes "boot flood " ++ stage_text step
answer_text (BootDenied step code) = codes "boot denied " ++ stage_text step ++ codes " " ++ decimal code
answer_text (BootRefused step status) = codes "boot refused " ++ stage_text step ++ codes " " ++ decimal status
answer_text BootNoPort = codes "boot noport getport"
answer_text (BootTooLarge size) = codes "boot toolarge " ++ decimal size
answer_text BootLinkFault = codes "boot linkfault"
answer_text (WaitOk ticks) = codes "wait " ++ decimal ticks ++ codes " ok"
answer_text (WaitFlood ticks) = codes "wait " ++ decimal ticks ++ codes " flood wait"
answer_text (WaitLinkFault ticks) = codes "wait " ++ decimal ticks ++ codes " linkfault"

abbrev pub answer_line : Told → Text
answer_line told = answer_text told ++ 10 ∷ []
