-- What an access did, by what was carried out; and what crashes leave of it.
use Rattle.std.proofs.Common.{◌≡◌, ◌⊎◌, inl, inr, ℕ, ◌+◌, ◌≤◌, Bool, true, false, cond, List, [], ◌∷◌, ◌++◌, length, map, take, drop, replicate, Option, Some, None, refl, sym, ap, ◌∙◌, subst, arith}
use Rattle.std.specs.Prelude.{◌==◌, ◌&&◌, not, is_some, IfSome, IsSome, slice_index}
use Rattle.std.proofs.lemmas.Bool.{false≢true}
use Rattle.std.proofs.lemmas.List.{length-replicate}
use Rattle.sd_outside.specs.Causes.{Rose}
use Rattle.sd_outside.specs.Ranges.{part}
use Rattle.sd_outside.specs.Disk.{LeavesOnly}
use Rattle.sd_outside.specs.DiskPlan.{Both, Makes, Plan}
use Rattle.sd_outside.proofs.MakesLaws.{uses_none}
use Rattle.sd_outside.specs.declared.packet.Packet.{Packet}
use Rattle.sd_stable_disk.specs.Files.{Stored, files, may_hold, held_since}
use Rattle.sd_config.specs.declared.config.Config.{Config}
use Rattle.sd_services.specs.Part.{Change, swap_files}
use Rattle.sd_services.specs.NfsReply.{file_in, swap_file}
use Rattle.sd_services.specs.NfsCalls.{change_of}
use Rattle.sd_nfs_server.specs.declared.acts.Acted.{Acted}
use Rattle.sd_nfs_server.specs.Acts.{HasReason, damaged_in}
use Rattle.sd_server.proofs.Untold.{content_with, content_long, content_part}
use Rattle.sd_server.specs.declared.access.Act.{Act}
use Rattle.sd_server.specs.declared.access.Act.TheVariants as acts
use Rattle.sd_server.specs.declared.access.Access.{Access}
use Rattle.sd_server.specs.declared.replies.Change.{Change as Becomes}
use Rattle.sd_server.specs.declared.replies.Change.TheVariants as changes
use Rattle.sd_server.specs.Sessions.{MayChange}
use Rattle.sd_server.specs.State.{Volatile, State, part_with}
use Rattle.sd_server.specs.Turns.{CrashLeaves}
use Rattle.sd_server.specs.Access.{sizes_of, datagram, change_by, Acts, ActFits, ActLeaves, IsRead, SameShape, IsChanged}
use Rattle.sd_server.specs.Deciding.{body_by, body_with, HasPlace, IsNow, IsLater}
use Rattle.sd_server.specs.Standing.{ServerView, MayBe, Accessed, is_fault}
use Rattle.sd_server.proofs.Standings.{crash_leaves}

-- ---- the body

place_shaped : (old new : Act) (done : List ℕ) → SameShape old new → HasPlace old done → HasPlace new done
place_shaped acts.Nothing new done same h = subst (λ (a : Act). HasPlace a done) (sym same) tt
place_shaped (acts.Write at bytes) new done same h = subst (λ (a : Act). HasPlace a done) (sym same) tt
place_shaped (acts.Read at buffer) (acts.Read at2 buffer2) done same h = subst (λ (n : ℕ). 100 + n ≤ length done) (sym same) h
place_shaped (acts.Read at buffer) acts.Nothing done same h = absurd same
place_shaped (acts.Read at buffer) (acts.Write at2 bytes) done same h = absurd same

pub place_after : (old new : Act) (done : List ℕ) → SameShape old new → HasPlace old done → HasPlace new done
place_after = place_shaped

body_read : (old new : Act) (content done : List ℕ) → SameShape old new → IsRead old content new → body_with new done ≡ body_by old done content
body_read acts.Nothing new content done same is = ap (λ (a : Act). body_with a done) is
body_read (acts.Write at bytes) new content done same is = ap (λ (a : Act). body_with a done) is
body_read (acts.Read at buffer) (acts.Read at2 buffer2) content done same is = (λ i. take 100 done ++ (is.1 i ++ drop (100 + same i) done))
body_read (acts.Read at buffer) acts.Nothing content done same is = absurd same
body_read (acts.Read at buffer) (acts.Write at2 bytes) content done same is = absurd same

-- a READ gave what some content of the file has there
content_so : (sizes : List ℕ) (old new : Act) (done : List ℕ) → SameShape old new → ActFits sizes old → (content : List ℕ) × (length content ≡ slice_index sizes swap_file) × (body_with new done ≡ body_by old done content)
content_so sizes acts.Nothing new done same fits =
    let long : length (let zeros : List ℕ = replicate (slice_index sizes 0) 0 in zeros) ≡ slice_index sizes 0 = length-replicate (slice_index sizes 0) 0 in
    (replicate (slice_index sizes 0) 0, long, ap (λ (a : Act). body_with a done) same)
content_so sizes (acts.Write at bytes) new done same fits =
    let long : length (let zeros : List ℕ = replicate (slice_index sizes 0) 0 in zeros) ≡ slice_index sizes 0 = length-replicate (slice_index sizes 0) 0 in
    (replicate (slice_index sizes 0) 0, long, ap (λ (a : Act). body_with a done) same)
content_so sizes (acts.Read at buffer) (acts.Read at2 buffer2) done same fits =
    let size = slice_index sizes 0 in
    let bytes = buffer2.items in
    let content = content_with size at bytes in
    let here : part at (length buffer.items) content ≡ bytes = ap (λ (n : ℕ). part at n content) (sym same) ∙ content_part size at bytes in
    (content, content_long size at bytes (subst (λ (n : ℕ). at + n ≤ size) (sym same) fits.1), λ i. take 100 done ++ (sym here i ++ drop (100 + same i) done))
content_so sizes (acts.Read at buffer) acts.Nothing done same fits = absurd same
content_so sizes (acts.Read at buffer) (acts.Write at2 bytes) done same fits = absurd same

if_some : {A : Type 0} (P Q : A → Type 0) (o : Option A) → ((x : A) → P x → Q x) → IfSome o P → IfSome o Q
if_some P Q None so h = tt
if_some P Q (Some x) so h = so x h

pub accessed_so : {D : Type 0} (seen : D → Option (List ℕ)) (may_leave : D → List ℕ → Type 0) (c : Config) (a : Access) (old new : Stored D) (act : Act) (acted : Acted) (before now : ℕ) (body : List ℕ) (out : List Packet) (faulted : Bool)
    → Acts seen may_leave (change_by a.act) old new acted.status
    → (acted.status ≡ 0 → IfSome (files seen old) (λ stored. IsRead a.act (file_in stored swap_file) act))
    → SameShape a.act act
    → HasReason (IsSome (files seen old)) before now acted
    → acted.damaged ≡ damaged_in old.up new.refusal → ActFits (sizes_of c) a.act
    → body ≡ cond (acted.status == 0) (body_with act a.done) a.failed
    → out ≡ datagram c a.to body ∷ [] → faulted ≡ is_fault acted
    → Accessed seen may_leave c a old new out faulted acted.damaged
accessed_so seen may_leave c a old new act acted before now body out faulted did read shape reason damaged_is fits body_is out_is faulted_is = record {
  status = acted.status;
  which = reason.status;
  acts = did;
  done = λ zero_is.
      let test : (acted.status == 0) ≡ true = ap (λ (n : ℕ). n == 0) zero_is in (
        faulted_is ∙ ap (λ (b : Bool). not b && not (is_some acted.damaged)) test,
        (reason.done zero_is).1,
        if_some (λ stored. IsRead a.act (file_in stored swap_file) act) (λ stored. out ≡ datagram c a.to (body_by a.act a.done (file_in stored swap_file)) ∷ []) (files seen old)
            (λ stored is.
            out_is ∙ ap (λ (bs : List ℕ). datagram c a.to bs ∷ [])
            (body_is ∙ ap (λ (b : Bool). cond b (body_with act a.done) a.failed) test ∙ body_read a.act act (file_in stored swap_file) a.done shape is))
            (read zero_is),
      );
  failed = λ five_is.
      let test : (acted.status == 0) ≡ false = ap (λ (n : ℕ). n == 0) five_is in (
        faulted_is ∙ ap (λ (b : Bool). not b && not (is_some acted.damaged)) test,
        out_is ∙ ap (λ (bs : List ℕ). datagram c a.to bs ∷ []) (body_is ∙ ap (λ (b : Bool). cond b (body_with act a.done) a.failed) test),
      );
  some = λ zero_is.
      let test : (acted.status == 0) ≡ true = ap (λ (n : ℕ). n == 0) zero_is in
      let x = content_so (sizes_of c) a.act act a.done shape fits in
      (x.0, x.1, out_is ∙ ap (λ (bs : List ℕ). datagram c a.to bs ∷ []) (body_is ∙ ap (λ (b : Bool). cond b (body_with act a.done) a.failed) test ∙ x.2));
  told = λ told. told_whole reason.status told;
  damaged_is = damaged_is;
}
  where
    told_whole : (acted.status ≡ 0) ⊎ (acted.status ≡ 5) → IsSome (files seen old) → acted.damaged ≡ None
    told_whole (inl zero_is) told = (reason.done zero_is).1
    told_whole (inr five_is) told = (reason.counted five_is told).0

-- ---- a change of what is held in memory

pub may_any : (c : Config) (v : Volatile) (f g : List (List ℕ)) (change : Becomes) → MayChange c (part_with v f) change → MayChange c (part_with v g) change
may_any c v f g changes.Stays h = h
may_any c v f g (changes.Begins x) h = h
may_any c v f g (changes.Moves x) h = h
may_any c v f g (changes.Ends number) h = h
may_any c v f g (changes.Mounts host path) h = h
may_any c v f g (changes.Unmounts host path) h = h
may_any c v f g (changes.Leaves host) h = h

-- ---- crashes

views : {D : Type 0} (moment : D → ℕ) (left_since : D → ℕ → List ℕ → Type 0) (old new : ServerView D) (P : Option (List (List ℕ)) → Type 0)
    → LeavesOnly (λ store. moment store.disk) (held_since left_since) old.store new.store P → LeavesOnly (λ v. moment v.store.disk) (λ v. held_since left_since v.store) old new P
views moment left_since old new P h = record { later = h.later; each = h.each; before = h.before }

weaker : {D : Type 0} (moment : D → ℕ) (left_since : D → ℕ → List ℕ → Type 0) (old new : Stored D) (P Q : Option (List (List ℕ)) → Type 0) → ((left : Option (List (List ℕ))) → P left → Q left)
    → LeavesOnly (λ store. moment store.disk) (held_since left_since) old new P → LeavesOnly (λ store. moment store.disk) (held_since left_since) old new Q
weaker moment left_since old new P Q so h = record { later = h.later; each = λ left held. so left (h.each left held); before = λ since left le held. of since left (h.before since left le held) }
  where
    of : (since : ℕ) (left : Option (List (List ℕ))) → held_since left_since old since left ⊎ P left → held_since left_since old since left ⊎ Q left
    of since left (inl x) = inl x
    of since left (inr p) = inr (so left p)

-- nothing was done to the disk
pub crash_none : {D : Type 0} (moment : D → ℕ) (seen : D → Option (List ℕ)) (may_leave : D → List ℕ → Type 0) (left_since : D → ℕ → List ℕ → Type 0) (old new : ServerView D) (packet : Packet) (s : State)
    → ((disk : D) (image : List ℕ) → left_since disk (moment disk) image → may_leave disk image)
    → new.store ≡ old.store → MayBe seen may_leave old s
    → LeavesOnly (λ v. moment v.store.disk) (λ v. held_since left_since v.store) old new (CrashLeaves old.config packet s)
crash_none {D} moment seen may_leave left_since old new packet s only_now same may =
    views moment left_since old new (CrashLeaves old.config packet s)
    (subst (λ (t : Stored D). LeavesOnly (λ store. moment store.disk) (held_since left_since) old.store t (CrashLeaves old.config packet s)) (sym same)
    (record {
      later = omega arith;
      each = λ left held. let e = may.leaves left (held.0, only_now old.store.disk held.0 held.1, held.2) in (e.0, false, e.1);
      before = λ since left le held. inl held;
    }))

-- an act was carried out
pub crash_act : {D : Type 0} (moment : D → ℕ) (seen : D → Option (List ℕ)) (may_leave : D → List ℕ → Type 0) (left_since : D → ℕ → List ℕ → Type 0) (old new : ServerView D) (packet : Packet) (s : State) (change : Option Change)
    → change_of old.config packet ≡ change → MayBe seen may_leave old s → ActLeaves moment seen may_leave left_since change old.store new.store
    → LeavesOnly (λ v. moment v.store.disk) (λ v. held_since left_since v.store) old new (CrashLeaves old.config packet s)
crash_act moment seen may_leave left_since old new packet s change changes may h =
    views moment left_since old new (CrashLeaves old.config packet s)
    (weaker moment left_since old.store new.store (λ left. may_hold may_leave old.store left ⊎ IsChanged change (files seen old.store) left) (CrashLeaves old.config packet s)
    (λ left. crash_leaves seen may_leave old.config packet old.volatile old.store s may change left changes) h)

-- what a server may stand for, where its store reads and leaves the same
pub stays_same : {D : Type 0} (seen : D → Option (List ℕ)) (may_leave : D → List ℕ → Type 0) (old new : ServerView D) (s : State) → new.config ≡ old.config → new.volatile ≡ old.volatile → new.store.up ≡ old.store.up
    → files seen new.store ≡ files seen old.store → ((left : Option (List (List ℕ))) → may_hold may_leave new.store left → may_hold may_leave old.store left) → MayBe seen may_leave old s → MayBe seen may_leave new s
stays_same seen may_leave old new s config volatile up reads leaves may = record {
  part = may.part ∙ ap (λ (v : Volatile). part_with v s.part.files) (sym volatile);
  sized = may.sized ∙ ap sizes_of (sym config);
  sure = λ u. may.sure (sym up ∙ u);
  unsure = λ d. may.unsure (sym up ∙ d);
  reads = (may.reads.0, reads ∙ may.reads.1);
  leaves = λ left held. may.leaves left (leaves left held);
}

-- the configuration and what a crash takes away stay
pub same_rest : {D : Type 0} (old new : ServerView D) → new.config ≡ old.config → new.volatile ≡ old.volatile → record { config = old.config; volatile = old.volatile; store = new.store } ≡ new
same_rest {D} old new config volatile = λ i. let v : ServerView D = record { config = sym config i; volatile = sym volatile i; store = new.store } in v

-- no call of the disk was made
pub none_made : (most_changes most_reads : ℕ) (plan : Option Plan) (F : Type 0) → (F → ⊥) → Both (Makes most_changes most_reads F) plan plan
none_made n m None F never = tt
none_made n m (Some p) F never = record {
  changes = 0;
  reads = 0;
  few_changes = omega arith;
  few_reads = omega arith;
  uses = uses_none p;
  planned = λ failed. absurd (never failed);
}

pub no_calls : (plan : Option Plan) (faulted : Bool) → faulted ≡ false → Both (Makes 13 4 (faulted ≡ true)) plan plan
no_calls plan faulted calm = none_made 13 4 plan (faulted ≡ true) (λ failed. false≢true (sym calm ∙ failed))
