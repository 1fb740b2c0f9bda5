-- The status of a run: how it ended, or why it was cut short.
use Rattle.std.specs.Prelude.{Result, Ok, Err}
use Rattle.sd_boot.specs.declared.status.Status.{Status}
use Rattle.sd_boot.specs.declared.status.Ended.{Ended}
use Rattle.sd_boot.specs.declared.status.Ended.TheVariants.{Done, Refused, Usage, NoImage}
use Rattle.sd_boot.specs.declared.status.Stop.{Stop}
use Rattle.sd_boot.specs.declared.status.Stop.TheVariants.{SourceFault, SinkFault, NoMemory}

abbrev pub status_for : Result Ended Stop → Status
status_for (Ok Done) = record { 0 = 0 }
status_for (Ok Refused) = record { 0 = 1 }
status_for (Ok Usage) = record { 0 = 2 }
status_for (Ok NoImage) = record { 0 = 8 }
status_for (Err SourceFault) = record { 0 = 3 }
status_for (Err SinkFault) = record { 0 = 4 }
status_for (Err NoMemory) = record { 0 = 5 }
