use Rattle.std.proofs.Common.{◌≡◌, true}
use Rattle.std.specs.Prelude.{IfSome}
use Rattle.sd_stable_disk.specs.Image.{held}
use Rattle.sd_boot.proofs.HeldFiles.{IsWritten}
use Rattle.sd_boot.proofs.held_files.files_text.Given as goal

abbrev pub invariant-loop-file : goal.invariant-loop-file
invariant-loop-file l = record {
  up : l.store.up ≡ true;
  sizes : l.store.sizes ≡ l.initial.store.sizes;
  files : held l.store.disk.bytes.items ≡ held l.initial.store.disk.bytes.items;
  written : IfSome (held l.initial.store.disk.bytes.items) (λ files. IsWritten l.text l.file files);
}
