use Rattle.std.proofs.Common.{◌≡◌, ◌-◌, ◌≤◌, [], length, get_or, true}
use Rattle.std.specs.Prelude.{IfSome}
use Rattle.sd_outside.specs.Ranges.{part}
use Rattle.sd_stable_disk.specs.Image.{held}
use Rattle.sd_boot.proofs.held_files.file_bytes.Given as goal

abbrev pub invariant-reading : goal.invariant-reading
invariant-reading l = record {
  up : l.store.up ≡ true;
  sizes : l.store.sizes ≡ l.initial.store.sizes;
  files : held l.store.disk.bytes.items ≡ held l.initial.store.disk.bytes.items;
  room : length l.buffer.items ≡ 8192;
  within : l.at ≤ l.size;
  bytes : IfSome (held l.initial.store.disk.bytes.items) (λ files. l.bytes ≡ part 0 l.at (get_or files l.file []));
}

abbrev pub decreases-reading : goal.decreases-reading
decreases-reading l = l.size - l.at
