use Rattle.std.proofs.Common.{◌≡◌, ◌++◌, ℕ, List, [], get_or, refl, ◌∙◌, subst, arith}
use Rattle.std.specs.Prelude.{Option, IfSome}
use Rattle.sd_outside.specs.Ranges.{part}
use Rattle.sd_stable_disk.specs.Image.{held}
use Rattle.sd_boot.proofs.HeldFiles.{read_begins, read_goes_on, read_ends}
use Rattle.sd_boot.proofs.held_files.file_bytes.Goals as goal

pub reading-init : goal.reading-init
reading-init c = record {
  up = c.requires.up;
  sizes = refl;
  files = refl;
  room = c.in_ok-buffer.ensures;
  within = omega arith;
  bytes = read_begins (held c.args.store.now.disk.bytes.items) c.args.file c.empty-bytes.result c.empty-bytes.ensures;
}

pub reading-preserved : goal.reading-preserved
reading-preserved c =
    let inv = c.reading.invariant in
    record {
      up = c.push_piece.ensures.up;
      sizes = c.push_piece.ensures.sizes ∙ inv.sizes;
      files = c.push_piece.ensures.files ∙ inv.files;
      room = c.push_piece.ensures.room ∙ inv.room;
      within = omega (arith, inv.within, c.min-count.ensures);
      bytes = read_goes_on (held c.args.store.now.disk.bytes.items) c.args.file c.reading.at c.min-count.result c.reading.bytes c.push_piece.new.bytes inv.bytes
          (subst (λ (o : Option (List (List ℕ))). IfSome o (λ files. c.push_piece.new.bytes ≡ c.reading.bytes ++ part c.reading.at c.min-count.result (get_or files c.args.file []))) inv.files
          c.in_ok-push_piece.ensures.bytes);
    }

pub returns-clause-bytes : goal.returns-clause-bytes
returns-clause-bytes c =
    read_ends (held c.args.store.now.disk.bytes.items) c.args.store.now.sizes c.args.file c.args.size c.reading.at c.reading.bytes c.requires.file c.requires.size c.requires.sizes
    (omega (arith, c.reading.invariant.within, c.reading-test.false)) c.reading.invariant.bytes
