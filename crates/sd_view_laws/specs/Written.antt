-- The run that a transcript of `replay` tells, in the words of the views.
use Rattle.std.specs.Prelude.{◌<◌, ◌^◌, List, [], ◌∷◌, ◌++◌, length, map}
use Rattle.std.specs.List.{AllByRecursion}
use Rattle.sd_outside.specs.Bytes.{IsBytes}
use Rattle.sd_config.specs.declared.config.Config.{Config}
use Rattle.sd_config.specs.declared.told.Told.{Told}
use Rattle.sd_config.specs.declared.told.Told.TheVariants.{AddrOk, AddrTimeout, AddrFlood, AddrLinkFault, BootUnbuilt, BootTimeout, BootFlood, BootDenied, BootRefused, BootNoPort, BootTooLarge, BootLinkFault, WaitOk, WaitFlood, WaitLinkFault}
use Rattle.sd_text.specs.Packets.{IsPacket}
use Rattle.sd_link.specs.World.{World, start}
use Rattle.sd_link.specs.Steps.{Entry, Sent, Served, Crashed, Faulted, Got, Failed, run, record_of, AllAllowed}
use Rattle.sd_script.specs.Answers.{answer_text}
use Rattle.sd_script.specs.declared.script.Script.{Script}
use Rattle.sd_config.specs.declared.command.Command.{Command}
use Rattle.sd_link.specs.Steps.{Step}
use Rattle.sd_claims.specs.Headline.{AreDone, written}
use Rattle.sd_claims.specs.Session.{parts_of}
use Rattle.sd_claims.specs.Transcript.{Done, transcript}
use Rattle.sd_view.specs.declared.lines.Arrival.TheVariants as arrivals
use Rattle.sd_view.specs.declared.lines.Line.{Line}
use Rattle.sd_view.specs.declared.lines.Line.TheVariants as lines
use Rattle.sd_view.specs.Transcript.{IsTranscript}

-- ---- what is told

abbrev pub line_of : Entry → Line
line_of (Sent tick id packet) = lines.Sent tick id packet
line_of (Served tick id) = lines.Came arrivals.Served tick id
line_of (Crashed tick id) = lines.Came arrivals.Crashed tick id
line_of (Faulted tick id) = lines.Came arrivals.Faulted tick id
line_of (Got tick id) = lines.Came arrivals.Got tick id
line_of (Failed tick) = lines.Failed tick

-- of each command its record, and then its answer
abbrev pub run_of : Config → World → List Done → List Line
run_of c w [] = []
run_of c w (done ∷ others) = map line_of (record_of c w done.part) ++ (lines.Answer (answer_text done.answer) ∷ run_of c (run c w done.part) others)

-- ---- values of the code

-- numbers of 64 bits, and packets within the limits of packet lines
abbrev pub EntryFits : Entry → Type 0
EntryFits (Sent tick id packet) = (tick < 2 ^ 64) × (id < 2 ^ 64) × IsPacket packet
EntryFits (Served tick id) = (tick < 2 ^ 64) × (id < 2 ^ 64)
EntryFits (Crashed tick id) = (tick < 2 ^ 64) × (id < 2 ^ 64)
EntryFits (Faulted tick id) = (tick < 2 ^ 64) × (id < 2 ^ 64)
EntryFits (Got tick id) = (tick < 2 ^ 64) × (id < 2 ^ 64)
EntryFits (Failed tick) = tick < 2 ^ 64

abbrev pub AnswerFits : Told → Type 0
AnswerFits (AddrOk ip) = Unit {0}
AnswerFits AddrTimeout = Unit {0}
AnswerFits (AddrFlood step) = Unit {0}
AnswerFits AddrLinkFault = Unit {0}
AnswerFits (BootUnbuilt step program) = IsBytes program × (length program < 2 ^ 64)
AnswerFits (BootTimeout step) = Unit {0}
AnswerFits (BootFlood step) = Unit {0}
AnswerFits (BootDenied step code) = code < 2 ^ 64
AnswerFits (BootRefused step status) = status < 2 ^ 64
AnswerFits BootNoPort = Unit {0}
AnswerFits (BootTooLarge size) = size < 2 ^ 64
AnswerFits BootLinkFault = Unit {0}
AnswerFits (WaitOk ticks) = ticks < 2 ^ 64
AnswerFits (WaitFlood ticks) = ticks < 2 ^ 64
AnswerFits (WaitLinkFault ticks) = ticks < 2 ^ 64

abbrev pub AllFit : Config → World → List Done → Type 0
AllFit c w [] = Unit {0}
AllFit c w (done ∷ others) = AllByRecursion EntryFits (record_of c w done.part) × AnswerFits done.answer × AllFit c (run c w done.part) others

-- ---- the law

-- Whatever steps may happen, the transcript of their record and of answers is one by the grammar of the views, and it is that of the
-- run which the steps and the answers were.
abbrev pub WrittenIsRead : Type 0
WrittenIsRead = (c : Config) (done : List Done) → AllAllowed c (start c) (parts_of done) → AllFit c (start c) done → IsTranscript (transcript c (start c) done) (run_of c (start c) done)

-- So is what `replay` writes for these commands of a script.
abbrev pub ReplayedIsRead : Type 0
ReplayedIsRead = (s : Script) (commands : List Command) (done : List Done) (more : List Step) → AreDone s commands done more → AllFit s.config (start s.config) done
    → IsTranscript (written s done) (run_of s.config (start s.config) done)
