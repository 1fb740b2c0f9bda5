use Rattle.std.proofs.Common.{◌≡◌, ℕ, ◌+◌, ◌<◌, ◌≤◌, List, [], length, Ok, Err, refl, sym, ap, subst, ◌∙◌, arith}
use Rattle.sd_config.specs.declared.stage.Stage.TheVariants as stage
use Rattle.sd_link.specs.Link.{Moves, IsSettledBy}
use Rattle.sd_rpc_retry.specs.declared.calling.Caller.{Caller}
use Rattle.sd_rpc_retry.specs.declared.calling.CallError.TheVariants as call_error
use Rattle.sd_rpc_retry.specs.Calling.{home}
use Rattle.sd_loader.specs.declared.errors.LoadError.{LoadError}
use Rattle.sd_loader.specs.declared.errors.LoadError.TheVariants as errors
use Rattle.sd_loader.specs.Found.{AreFirstBytes, AreBytesOf}
use Rattle.sd_loader.specs.Went.{error_fails}
use Rattle.sd_loader.specs.LoadCalls.{HasRead, begins, Loaded, loaded, too_large, memory, ReadsOn}
use Rattle.sd_loader.proofs.Composing.{went_not, went_weaker, went_then, came_of, fails_of, lasts_of}
use Rattle.sd_loader.proofs.Telling.{trusted_not, trusted_weaker, trusted_then}
use Rattle.sd_loader.proofs.Pieces.{first_bytes_begin, first_bytes_end}
use Rattle.sd_loader.proofs.Loads.{read_goes, read_ends}
use Rattle.sd_loader.proofs.loading.load.Goals as goal

pub returns-then-size-gt-MOST_BYTES-clause-told : goal.returns-then-size-gt-MOST_BYTES-clause-told
returns-then-size-gt-MOST_BYTES-clause-told g c =
    let now = g.L.Link.told c.args.link.now in
    let first = c.args.caller.now in
    let size = c.args.attr.now.size in
    let from_is : c.from.result ≡ size = omega (arith, c.from.ensures) in
    subst (λ (n : ℕ). Moves now now (λ h part. Loaded (IsSettledBy h) c.args.nfs c.args.file.now size first (Err (errors.TooLarge n)) part)) (sym from_is)
    (came_of now now (λ h part. Loaded (IsSettledBy h) c.args.nfs c.args.file.now size first (Err (errors.TooLarge size)) part) 0 first.next_xid first.next_xid
    (went_not now (λ h part. Loaded (IsSettledBy h) c.args.nfs c.args.file.now size first (Err (errors.TooLarge size)) part) first.next_xid (λ h. too_large c.if-size-gt-MOST_BYTES.true)))

pub returns-in-Err-clause-told : goal.returns-in-Err-clause-told
returns-in-Err-clause-told g c =
    let now = g.L.Link.told c.args.link.now in
    let first = c.args.caller.now in
    let size = c.args.attr.now.size in
    subst (λ (e : LoadError). Moves now now (λ h part. Loaded (IsSettledBy h) c.args.nfs c.args.file.now size first (Err e) part)) (sym c.out_of_memory.ensures)
    (came_of now now (λ h part. Loaded (IsSettledBy h) c.args.nfs c.args.file.now size first (Err (errors.Call stage.Read call_error.NoMemory)) part) 0 first.next_xid first.next_xid
    (went_not now (λ h part. Loaded (IsSettledBy h) c.args.nfs c.args.file.now size first (Err (errors.Call stage.Read call_error.NoMemory)) part) first.next_xid (λ h. memory [])))

pub reading-init : goal.reading-init
reading-init g c =
    let now = g.L.Link.told c.args.link.now in
    let first = c.args.caller.now in
    let size = c.args.attr.now.size in
    let none = ap length c.in-Ok.ensures in
    record {
      same = refl;
      few = omega (arith, none);
      blocks = λ more. omega (arith, none);
      most = omega arith;
      went =
          went_not now (λ h part. HasRead (IsSettledBy h) c.args.nfs c.args.file.now size first c.in-Ok.bytes first part) first.next_xid
          (λ h. subst (λ (l : List ℕ). HasRead (IsSettledBy h) c.args.nfs c.args.file.now size first l first []) (sym c.in-Ok.ensures) begins);
      trusted = trusted_not now first c.args.nfs (λ k. AreFirstBytes k c.args.file.now size c.in-Ok.bytes) (λ k. first_bytes_begin k c.args.file.now size c.in-Ok.bytes c.in-Ok.ensures);
      faults = omega arith;
      drained = refl;
    }

pub reading-preserved : goal.reading-preserved
reading-preserved g c =
    let first = c.args.caller.now in
    let between = c.reading.caller in
    let last = c.read_on.new.caller in
    let size = c.args.attr.now.size in
    let bytes = c.reading.bytes in
    let old = g.L.Link.told c.args.link.now in
    let mid = g.L.Link.told c.reading.link in
    let new = g.L.Link.told c.read_on.new.link in
    let long = ap length c.as_slice.ensures in
    let more : length bytes < size = omega (arith, c.reading-test.true, long, c.reading.invariant.few) in
    let new_bytes = c.read_on.new.bytes in
    let e = c.in-Ok-read_on.ensures in
    let i = c.reading.invariant in
    let number_is = ap (λ (r : Caller). r.next_xid) c.read_on.ensures.same in
    let blocks = i.blocks more in
    let small = c.if-size-gt-MOST_BYTES.false in
    record {
      same = c.read_on.ensures.same ∙ ap (λ (r : Caller). record r { next_xid = between.next_xid + 1 }) i.same ∙ ap (λ (n : ℕ). record first { next_xid = n }) (sym number_is);
      few = omega (arith, e.longer, more);
      blocks = λ again. omega (arith, e.longer, more, again, blocks, number_is);
      most = omega (arith, blocks, more, small, number_is);
      went =
          went_then old mid new (λ h part. HasRead (IsSettledBy h) c.args.nfs c.args.file.now size first bytes between part)
          (ReadsOn c.args.nfs c.args.file.now size between bytes new_bytes (Ok tt))
          (λ h part. HasRead (IsSettledBy h) c.args.nfs c.args.file.now size first new_bytes last part) 0 first.next_xid between.next_xid last.next_xid
          (λ a b xs ys goes k m. read_goes c.args.nfs c.args.file.now size first between bytes new_bytes a b xs ys goes more k last c.read_on.ensures.same m)
          i.went e.went;
      trusted =
          trusted_then old mid new first between c.args.nfs last.next_xid (λ k. AreFirstBytes k c.args.file.now size bytes)
          (λ k. AreFirstBytes k c.args.file.now size bytes → AreFirstBytes k c.args.file.now size new_bytes) (λ k. AreFirstBytes k c.args.file.now size new_bytes) (ap home i.same)
          (λ k p t. t p) i.trusted e.trusted;
      faults = omega (arith, c.read_on.ensures.faults, i.faults);
      drained = c.read_on.ensures.drained ∙ i.drained;
    }

pub returns-in-Err-read_on-clause-told : goal.returns-in-Err-read_on-clause-told
returns-in-Err-read_on-clause-told g c =
    let first = c.args.caller.now in
    let between = c.reading.caller in
    let last = c.read_on.new.caller in
    let size = c.args.attr.now.size in
    let bytes = c.reading.bytes in
    let old = g.L.Link.told c.args.link.now in
    let mid = g.L.Link.told c.reading.link in
    let new = g.L.Link.told c.read_on.new.link in
    let long = ap length c.as_slice.ensures in
    let more : length bytes < size = omega (arith, c.reading-test.true, long, c.reading.invariant.few) in
    let why = c.in-Err-read_on.why in
    came_of old new (λ h part. Loaded (IsSettledBy h) c.args.nfs c.args.file.now size first (Err why) part) (error_fails why) first.next_xid last.next_xid
    (went_then old mid new (λ h part. HasRead (IsSettledBy h) c.args.nfs c.args.file.now size first bytes between part)
    (ReadsOn c.args.nfs c.args.file.now size between bytes c.read_on.new.bytes (Err why))
    (λ h part. Loaded (IsSettledBy h) c.args.nfs c.args.file.now size first (Err why) part) (error_fails why) first.next_xid between.next_xid last.next_xid
    (λ a b xs ys goes k m. read_ends c.args.nfs c.args.file.now size first between bytes c.read_on.new.bytes a b xs ys goes more k (omega (arith, c.if-size-gt-MOST_BYTES.false)) why m)
    c.reading.invariant.went c.in-Err-read_on.ensures.went)

pub returns-in-Err-read_on-clause-fails : goal.returns-in-Err-read_on-clause-fails
returns-in-Err-read_on-clause-fails g c =
    let first = c.args.caller.now in
    let between = c.reading.caller in
    let last = c.read_on.new.caller in
    let size = c.args.attr.now.size in
    let bytes = c.reading.bytes in
    let old = g.L.Link.told c.args.link.now in
    let mid = g.L.Link.told c.reading.link in
    let new = g.L.Link.told c.read_on.new.link in
    let long = ap length c.as_slice.ensures in
    let more : length bytes < size = omega (arith, c.reading-test.true, long, c.reading.invariant.few) in
    let why = c.in-Err-read_on.why in
    fails_of old new (λ h part. Loaded (IsSettledBy h) c.args.nfs c.args.file.now size first (Err why) part) (error_fails why) first.next_xid last.next_xid
    (went_then old mid new (λ h part. HasRead (IsSettledBy h) c.args.nfs c.args.file.now size first bytes between part)
    (ReadsOn c.args.nfs c.args.file.now size between bytes c.read_on.new.bytes (Err why))
    (λ h part. Loaded (IsSettledBy h) c.args.nfs c.args.file.now size first (Err why) part) (error_fails why) first.next_xid between.next_xid last.next_xid
    (λ a b xs ys goes k m. read_ends c.args.nfs c.args.file.now size first between bytes c.read_on.new.bytes a b xs ys goes more k (omega (arith, c.if-size-gt-MOST_BYTES.false)) why m)
    c.reading.invariant.went c.in-Err-read_on.ensures.went)

pub returns-in-Err-read_on-clause-lasts : goal.returns-in-Err-read_on-clause-lasts
returns-in-Err-read_on-clause-lasts g c =
    let first = c.args.caller.now in
    let between = c.reading.caller in
    let last = c.read_on.new.caller in
    let size = c.args.attr.now.size in
    let bytes = c.reading.bytes in
    let old = g.L.Link.told c.args.link.now in
    let mid = g.L.Link.told c.reading.link in
    let new = g.L.Link.told c.read_on.new.link in
    let long = ap length c.as_slice.ensures in
    let more : length bytes < size = omega (arith, c.reading-test.true, long, c.reading.invariant.few) in
    let why = c.in-Err-read_on.why in
    let blocks = c.reading.invariant.blocks more in
    let number_is = ap (λ (r : Caller). r.next_xid) c.read_on.ensures.same in
    let most : last.next_xid ≤ first.next_xid + 2048 = omega (arith, blocks, more, c.if-size-gt-MOST_BYTES.false, number_is) in
    lasts_of old new (λ h part. Loaded (IsSettledBy h) c.args.nfs c.args.file.now size first (Err why) part) (error_fails why) first.next_xid last.next_xid 2048 most
    (went_then old mid new (λ h part. HasRead (IsSettledBy h) c.args.nfs c.args.file.now size first bytes between part)
    (ReadsOn c.args.nfs c.args.file.now size between bytes c.read_on.new.bytes (Err why))
    (λ h part. Loaded (IsSettledBy h) c.args.nfs c.args.file.now size first (Err why) part) (error_fails why) first.next_xid between.next_xid last.next_xid
    (λ a b xs ys goes k m. read_ends c.args.nfs c.args.file.now size first between bytes c.read_on.new.bytes a b xs ys goes more k (omega (arith, c.if-size-gt-MOST_BYTES.false)) why m)
    c.reading.invariant.went c.in-Err-read_on.ensures.went)

pub returns-clause-told : goal.returns-clause-told
returns-clause-told g c =
    let first = c.args.caller.now in
    let between = c.reading.caller in
    let size = c.args.attr.now.size in
    let bytes = c.reading.bytes in
    let old = g.L.Link.told c.args.link.now in
    let new = g.L.Link.told c.reading.link in
    let long = ap length c.as_slice.ensures in
    let all : length bytes ≡ size = omega (arith, c.reading-test.false, long, c.reading.invariant.few) in
    came_of old new (λ h part. Loaded (IsSettledBy h) c.args.nfs c.args.file.now size first (Ok bytes) part) 0 first.next_xid between.next_xid
    (went_weaker old new (λ h part. HasRead (IsSettledBy h) c.args.nfs c.args.file.now size first bytes between part)
    (λ h part. Loaded (IsSettledBy h) c.args.nfs c.args.file.now size first (Ok bytes) part) 0 first.next_xid between.next_xid
    (λ h part k. loaded bytes between part (omega (arith, c.if-size-gt-MOST_BYTES.false)) k all)
    c.reading.invariant.went)

pub returns-clause-loaded : goal.returns-clause-loaded
returns-clause-loaded g c =
    let bytes = c.reading.bytes in
    let attr = c.args.attr.now in
    let long = ap length c.as_slice.ensures in
    let all : length bytes ≡ attr.size = omega (arith, c.reading-test.false, long, c.reading.invariant.few) in
    trusted_weaker (g.L.Link.told c.args.link.now) (g.L.Link.told c.reading.link) c.args.caller.now c.args.nfs c.reading.caller.next_xid
    (λ k. AreFirstBytes k c.args.file.now attr.size bytes) (λ k. AreBytesOf k c.args.file.now attr bytes)
    (λ k is front. first_bytes_end k c.args.file.now attr bytes all front) c.reading.invariant.trusted
