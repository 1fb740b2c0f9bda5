-- In which order lines may follow.
use Rattle.std.specs.Prelude.{◌≡◌, ◌+◌, ◌<◌, ◌≤◌, List, [], ◌∷◌, fold}
use Rattle.sd_view.specs.declared.lines.Line.{Line}
use Rattle.sd_view.specs.declared.lines.Line.TheVariants.{Sent, Came, Failed, Answer}
use Rattle.sd_view.specs.declared.order.SoFar.{SoFar}

-- before the first line
abbrev pub nothing : SoFar
nothing = record { tick = 0; sent = 0 }

-- what is known after a line
abbrev pub after : SoFar → Line → SoFar
after s (Sent tick id packet) = record { tick = tick; sent = s.sent + 1 }
after s (Came how tick id) = record { tick = tick; sent = s.sent }
after s (Failed tick) = record { tick = tick; sent = s.sent }
after s (Answer answer) = s

-- Ticks never fall, packets are numbered from 0 in the order in which they are sent, and what arrives was sent before.
abbrev pub MayFollow : SoFar → Line → Type 0
MayFollow s (Sent tick id packet) = (s.tick ≤ tick) × (id ≡ s.sent)
MayFollow s (Came how tick id) = (s.tick ≤ tick) × (id < s.sent)
MayFollow s (Failed tick) = s.tick ≤ tick
MayFollow s (Answer answer) = Unit {0}

-- what is known after lines
abbrev pub after_all : SoFar → List Line → SoFar
after_all s run = fold after s run

-- each may follow those before it
abbrev pub AllFollow : SoFar → List Line → Type 0
AllFollow s [] = Unit {0}
AllFollow s (line ∷ run) = MayFollow s line × AllFollow (after s line) run
