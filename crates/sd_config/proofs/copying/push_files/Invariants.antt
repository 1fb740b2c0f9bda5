use Rattle.std.proofs.Common.{◌≡◌, ◌++◌, take}
use Rattle.sd_config.proofs.copying.push_files.Given as goal

abbrev pub invariant-loop-file : goal.invariant-loop-file
invariant-loop-file l = l.list ≡ l.initial.list ++ take l.file-index l.files
