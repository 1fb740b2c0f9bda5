-- What a replay of a text writes, by how it ended.
use Rattle.std.specs.Prelude.{◌≡◌, ℕ, List, [], Result, Ok, Err}
use Rattle.sd_claims.specs.Headline.{IsTranscript, IsRefusal, IsOutputPrefix}
use Rattle.sd_boot.specs.declared.status.Ended.{Ended}
use Rattle.sd_boot.specs.declared.status.Ended.TheVariants.{Done, Refused, Usage, NoImage}
use Rattle.sd_boot.specs.declared.status.Stop.{Stop}
use Rattle.sd_boot.specs.declared.status.Stop.TheVariants.{SourceFault, SinkFault, NoMemory}

abbrev pub Replays : Result Ended Stop → List ℕ → List ℕ → Type 0
Replays (Ok Done) text out = IsTranscript text out
Replays (Ok Refused) text out = IsRefusal text out
Replays (Ok Usage) text out = ⊥
Replays (Ok NoImage) text out = ⊥
Replays (Err SourceFault) text out = out ≡ []
Replays (Err SinkFault) text out = IsOutputPrefix text out
Replays (Err NoMemory) text out = IsOutputPrefix text out
