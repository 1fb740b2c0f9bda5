-- From each state for which a server may stand, an act leads to one for which it then may stand, by the steps Settle, Serve and Fault.
use Rattle.std.proofs.Common.{◌≡◌, ◌⊎◌, inl, inr, ℕ, ◌≤◌, Bool, true, false, List, [], ◌∷◌, length, map, Option, Some, None, refl, sym, ap, ◌∙◌, subst}
use Rattle.std.specs.Prelude.{IsSome, IfSome, is_some, not, ◌&&◌}
use Rattle.std.proofs.lemmas.Bool.{false≢true}
use Rattle.std.specs.Option.{option_map}
use Rattle.sd_outside.specs.Disk.{LeavesOnly}
use Rattle.sd_outside.specs.declared.packet.Packet.{Packet}
use Rattle.sd_stable_disk.specs.Files.{Stored, files, may_hold, held_since, OnlyHolds}
use Rattle.sd_config.specs.declared.config.Config.{Config}
use Rattle.sd_services.specs.Part.{Change, Session, ServerPart}
use Rattle.std.specs.List.{flat_map}
use Rattle.sd_server.specs.Ticks.{after_tick, sent_at}
use Rattle.sd_services.specs.NfsReply.{changed}
use Rattle.sd_services.specs.NfsCalls.{change_of, is_swap_access}
use Rattle.sd_services.specs.Reply.{out_of, next_of, files_after}
use Rattle.sd_services.specs.Failing.{failure_out, files_settled}
use Rattle.sd_nfs_server.specs.Acts.{is_refused}
use Rattle.sd_stable_disk.specs.declared.errors.OpenError.{OpenError}
use Rattle.sd_server.specs.State.{Volatile, State, part_with, served, settled, ticked}
use Rattle.sd_server.specs.Turns.{Serves, Faults, Does, settled_by, recovers, CrashLeaves}
use Rattle.sd_services.specs.NfsReply.{file_in, swap_file}
use Rattle.sd_server.specs.declared.access.Access.{Access}
use Rattle.sd_server.specs.declared.replies.Answer.{Answer}
use Rattle.sd_server.specs.declared.replies.Change.{Change as Becomes}
use Rattle.sd_server.specs.declared.replies.Change.TheVariants as changes
use Rattle.sd_server.specs.Sessions.{packets_in, after_change}
use Rattle.sd_server.specs.Deciding.{IsNow, IsLater, body_by, volatile_after}
use Rattle.sd_server.specs.Standing.{ServerView, IsEither, MayBe, Turns, Ticks, Accessed}
use Rattle.sd_server.specs.Access.{sizes_of, datagram, change_by, Done, StaysDown, ReadFails, WriteFails, Acts, done, stays_down, read_fails, write_fails, IsChanged}

-- the files with a change or without it, as the doubt has it
either_of : (v : Volatile) (stored : List (List ℕ)) (change : Option Change) (left : Option (List (List ℕ))) → IsChanged change (Some stored) left
    → IsEither (record { part = part_with v stored; doubt = change }) left
either_of v stored change left (inl same) = (false, same)
either_of v stored change left (inr with_it) = (true, with_it)

-- where recovery was refused, it wasn't done
not_recovered : (up : Bool) (refusal : Option OpenError) (access : Bool) → is_refused up refusal ≡ true → false ≡ recovers access up refusal
not_recovered up refusal false e = refl
not_recovered true refusal true e = refl
not_recovered false refusal true e = sym (ap not e)

-- what isn't down is up
up_or_down : (b : Bool) → (b ≡ true) ⊎ (b ≡ false)
up_or_down true = inl refl
up_or_down false = inr refl

module _ {D : Type 0} (seen : D → Option (List ℕ)) (may_leave : D → List ℕ → Type 0) (c : Config) (tick : ℕ) (packet : Packet) (v : Volatile) (old new : Stored D) (s : State)
    (access : is_swap_access c packet ≡ true)
    (may : MayBe seen may_leave (record { config = c; volatile = v; store = old }) s)
    (sized_old : IfSome (files seen old) (λ stored. map (λ file. length file) stored ≡ sizes_of c))
    (sized_new : IfSome (files seen new) (λ stored. map (λ file. length file) stored ≡ sizes_of c)) where
  -- the files that the disk reads
  abbrev pub held_files : List (List ℕ)
  held_files = files_settled may.reads.0 s.doubt s.part.files

  -- Settle, where the store was down
  abbrev pub settles : Bool → Option Bool
  settles true = None
  settles false = Some may.reads.0

  -- after it the files are those that the disk reads, and there is no doubt
  settled_part : (b : Bool) → old.up ≡ b → settled_by (settles b) s ≡ record { part = part_with v (files_settled may.reads.0 s.doubt s.part.files); doubt = None }
  settled_part false down = ap (λ (p : ServerPart). let t : State = record { part = record p { files = files_settled may.reads.0 s.doubt s.part.files }; doubt = None } in t) may.part
  settled_part true up =
      let none = may.sure up in
      let same : files_settled may.reads.0 s.doubt s.part.files ≡ s.part.files = of may.reads.0 in
      (λ i. record { part = may.part i; doubt = none i }) ∙ ap (λ (l : List (List ℕ)). let t : State = record { part = part_with v l; doubt = None } in t) (sym same)
    where
      of : (b : Bool) → files_settled b s.doubt s.part.files ≡ s.part.files
      of true = ap (λ (o : Option Change). changed o s.part.files) (may.sure up)
      of false = refl

  stands : (b : Bool) → old.up ≡ b → is_refused old.up new.refusal ≡ false → is_some (settles b) ≡ recovers (is_swap_access c packet) old.up new.refusal
  stands b is came = of b is ∙ sym (λ i. recovers (access i) old.up new.refusal)
    where
      of : (b : Bool) → old.up ≡ b → is_some (settles b) ≡ (not old.up && not (is_some new.refusal))
      of true up = sym (λ i. not (up i) && not (is_some new.refusal))
      of false down = sym ((λ i. not (down i) && not (is_some new.refusal)) ∙ ap not (sym (λ i. not (down i) && is_some new.refusal) ∙ came))

  -- a store whose crashes leave what it reads stands for that
  surely : (stored : List (List ℕ)) → new.up ≡ true → files seen new ≡ Some stored → OnlyHolds (files seen new) (may_hold may_leave new)
      → MayBe seen may_leave (record { config = c; volatile = v; store = new }) (record { part = part_with v stored; doubt = None })
  surely stored up reads only = record {
    part = refl;
    sized = subst (λ (o : Option (List (List ℕ))). IfSome o (λ stored. map (λ file. length file) stored ≡ sizes_of c)) reads sized_new;
    sure = λ u. refl;
    unsure = λ down. absurd (false≢true (sym down ∙ up));
    reads = (false, reads);
    leaves = λ left held. (false, only left held ∙ reads);
  }

  -- ---- status 0

  served_next : (stored : List (List ℕ)) → ((files_are : List (List ℕ)) → next_of c tick (part_with v files_are) packet ≡ part_with v (files_after c files_are packet))
      → (out : List Packet) → out ≡ out_of c tick (part_with v stored) packet
      → Serves c tick packet (record { part = part_with v stored; doubt = None }) out (record { part = part_with v (files_after c stored packet); doubt = None })
  served_next stored next out is = record { sure = λ a. refl; out_is = is; next_is = λ i. record { part = sym (next stored) i; doubt = None } }

  done_only : (b : Bool) → old.up ≡ b → (change : Option Change) → Done seen may_leave change old new → OnlyHolds (files seen new) (may_hold may_leave new)
  done_only b is change d = of d.durable
    where
      of : ((old.up ≡ true) × (new ≡ old)) ⊎ OnlyHolds (files seen new) (may_hold may_leave new) → OnlyHolds (files seen new) (may_hold may_leave new)
      of (inr only) = only
      of (inl (up, same)) =
          let none : (left : Option (List (List ℕ))) → may_hold may_leave old left → left ≡ files seen old =
          λ left held. let e = may.leaves left held in e.1 ∙ ap Some (one e.0 ∙ sym (one may.reads.0)) ∙ sym may.reads.1 in
          subst (λ (t : Stored D). OnlyHolds (files seen t) (may_hold may_leave t)) (sym same) none
        where
          one : (b : Bool) → files_settled b s.doubt s.part.files ≡ s.part.files
          one true = ap (λ (o : Option Change). changed o s.part.files) (may.sure up)
          one false = refl

  pub done_turn : (b : Bool) → old.up ≡ b → (change : Option Change) (out : List Packet) → change_of c packet ≡ change
      → ((files_are : List (List ℕ)) → next_of c tick (part_with v files_are) packet ≡ part_with v (files_after c files_are packet))
      → out ≡ out_of c tick (part_with v held_files) packet
      → Done seen may_leave change old new
      → Turns seen may_leave tick packet (record { config = c; volatile = v; store = old }) out false (record { config = c; volatile = v; store = new }) s
  done_turn b is change out changes next replies d =
      let stored = files_settled may.reads.0 s.doubt s.part.files in
      let reads : files seen new ≡ Some (files_after c stored packet) = d.files_are ∙ ap (option_map (changed change)) may.reads.1 ∙ ap (λ (o : Option Change). Some (changed o stored)) (sym changes) in
      record {
        settles = settles b;
        next = record { part = part_with v (files_after c stored packet); doubt = None };
        stands = stands b is d.came_up;
        does = subst (λ (t : State). Serves c tick packet t out (record { part = part_with v (files_after c stored packet); doubt = None })) (sym (settled_part b is)) (served_next stored next out replies);
        is = surely (files_after c stored packet) d.up reads (done_only b is change d);
      }

  -- ---- status 5

  pub stays_turn : StaysDown seen may_leave old new
      → Turns seen may_leave tick packet (record { config = c; volatile = v; store = old }) (failure_out c packet) true (record { config = c; volatile = v; store = new }) s
  stays_turn d = record {
    settles = None;
    next = s;
    stands = not_recovered old.up new.refusal (is_swap_access c packet) d.refused;
    does = record { access = access; doubts = false; one = λ e. absurd (false≢true e); out_is = refl; next_is = refl };
    is = record {
      part = may.part;
      sized = may.sized;
      sure = λ up. absurd (false≢true (sym d.down ∙ up));
      unsure = λ down. may.unsure d.was;
      reads = (may.reads.0, d.files_are ∙ may.reads.1);
      leaves = λ left held. of left (d.leaves left held);
    };
  }
    where
      of : (left : Option (List (List ℕ))) → may_hold may_leave old left ⊎ (left ≡ files seen old) → IsEither s left
      of left (inl held) = may.leaves left held
      of left (inr same) = (may.reads.0, same ∙ may.reads.1)

  pub read_turn : (b : Bool) → old.up ≡ b → (change : Option Change) → ReadFails seen may_leave change old new
      → Turns seen may_leave tick packet (record { config = c; volatile = v; store = old }) (failure_out c packet) true (record { config = c; volatile = v; store = new }) s
  read_turn b is change d =
      let stored = files_settled may.reads.0 s.doubt s.part.files in
      let t : State = record { part = part_with v stored; doubt = None } in
      record {
        settles = settles b;
        next = t;
        stands = stands b is d.came_up;
        does = subst (λ (u : State). Faults c packet u (failure_out c packet) t) (sym (settled_part b is)) (record { access = access; doubts = false; one = λ e. absurd (false≢true e); out_is = refl; next_is = refl });
        is = surely stored d.up (d.files_are ∙ may.reads.1) (λ left held. d.durable left held ∙ sym d.files_are);
      }

  pub write_turn : (b : Bool) → old.up ≡ b → (change : Option Change) → change_of c packet ≡ change → WriteFails seen may_leave change old new
      → Turns seen may_leave tick packet (record { config = c; volatile = v; store = old }) (failure_out c packet) true (record { config = c; volatile = v; store = new }) s
  write_turn b is change changes d =
      let stored = files_settled may.reads.0 s.doubt s.part.files in
      let t : State = record { part = part_with v stored; doubt = change } in
      let u : State = record { part = part_with v stored; doubt = None } in
      record {
        settles = settles b;
        next = t;
        stands = stands b is d.came_up;
        does = subst (λ (x : State). Faults c packet x (failure_out c packet) t) (sym (settled_part b is)) (record { access = access; doubts = true; one = λ e. refl; out_is = refl; next_is = λ i. record { part = part_with v stored; doubt = sym changes i } });
        is = record {
          part = refl;
          sized = subst (λ (o : Option (List (List ℕ))). IfSome o (λ stored. map (λ file. length file) stored ≡ sizes_of c)) may.reads.1 sized_old;
          sure = λ up. absurd (false≢true (sym d.down ∙ up));
          unsure = λ down. d.some;
          reads = either_of v stored change (files seen new) (subst (λ (o : Option (List (List ℕ))). IsChanged change o (files seen new)) may.reads.1 d.files_are);
          leaves = λ left held. either_of v stored change left (subst (λ (o : Option (List (List ℕ))). IsChanged change o left) may.reads.1 (d.leaves left held));
        };
      }

  -- ---- whole turns

  pub later_turn : (a : Access) (out : List Packet) (faulted : Bool) (damaged : Option ℕ) → IsLater c v tick packet a → Accessed seen may_leave c a old new out faulted damaged
      → Turns seen may_leave tick packet (record { config = c; volatile = v; store = old }) out faulted (record { config = c; volatile = v; store = new }) s
  later_turn a out faulted damaged later d = of d.status d.acts d.done (λ five_is told. (d.failed five_is).0 ∙ ap (λ (o : Option ℕ). not (is_some o)) (d.told told)) (λ five_is. (d.failed five_is).1)
    where
      failing : faulted ≡ true → out ≡ datagram c a.to a.failed ∷ []
          → Turns seen may_leave tick packet (record { config = c; volatile = v; store = old }) (failure_out c packet) true (record { config = c; volatile = v; store = new }) s
          → Turns seen may_leave tick packet (record { config = c; volatile = v; store = old }) out faulted (record { config = c; volatile = v; store = new }) s
      failing fails sent t =
          subst (λ (b : Bool). Turns seen may_leave tick packet (record { config = c; volatile = v; store = old }) out b (record { config = c; volatile = v; store = new }) s) (sym fails)
          (subst (λ (l : List Packet). Turns seen may_leave tick packet (record { config = c; volatile = v; store = old }) l true (record { config = c; volatile = v; store = new }) s) (later.fails ∙ sym sent) t)

      of : (n : ℕ) → Acts seen may_leave (change_by a.act) old new n
          → (n ≡ 0 → (faulted ≡ false) × (damaged ≡ None) × IfSome (files seen old) (λ stored. out ≡ datagram c a.to (body_by a.act a.done (file_in stored swap_file)) ∷ []))
          → (n ≡ 5 → IsSome (files seen old) → faulted ≡ true)
          → (n ≡ 5 → out ≡ datagram c a.to a.failed ∷ [])
          → Turns seen may_leave tick packet (record { config = c; volatile = v; store = old }) out faulted (record { config = c; volatile = v; store = new }) s
      of n (done x) ok no_way sends =
          let e = ok refl in
          let sized = subst (λ (o : Option (List (List ℕ))). IfSome o (λ stored. map (λ file. length file) stored ≡ sizes_of c)) may.reads.1 sized_old in
          let sent = subst (λ (o : Option (List (List ℕ))). IfSome o (λ stored. out ≡ datagram c a.to (body_by a.act a.done (file_in stored swap_file)) ∷ [])) may.reads.1 e.2 in
          subst (λ (b : Bool). Turns seen may_leave tick packet (record { config = c; volatile = v; store = old }) out b (record { config = c; volatile = v; store = new }) s) (sym e.0)
          (done_turn old.up refl (change_by a.act) out later.change later.next (sent ∙ sym (later.gives (files_settled may.reads.0 s.doubt s.part.files) sized)) x)
      of n (stays_down x) ok fail sends = failing (fail refl (subst IsSome (sym may.reads.1) refl)) (sends refl) (stays_turn x)
      of n (read_fails x) ok fail sends = failing (fail refl (subst IsSome (sym may.reads.1) refl)) (sends refl) (read_turn old.up refl (change_by a.act) x)
      of n (write_fails x) ok fail sends = failing (fail refl (subst IsSome (sym may.reads.1) refl)) (sends refl) (write_turn old.up refl (change_by a.act) later.change x)

-- ---- what needs no file

pub now_turn : {D : Type 0} (seen : D → Option (List ℕ)) (may_leave : D → List ℕ → Type 0) (c : Config) (tick : ℕ) (packet : Packet) (v : Volatile) (store : Stored D) (s : State) (a : Answer)
    → IsNow c v tick packet a → MayBe seen may_leave (record { config = c; volatile = v; store = store }) s
    → Turns seen may_leave tick packet (record { config = c; volatile = v; store = store }) (packets_in a.out) false (record { config = c; volatile = volatile_after c v a.change; store = store }) s
now_turn seen may_leave c tick packet v store s a now may =
    let f = s.part.files in
    let answers = now.answers f may.sized in
    let part_is : s.part ≡ part_with v f = may.part in
    let next_is : next_of c tick (part_with v f) packet ≡ part_with (volatile_after c v a.change) f =
    ap (λ (p : ServerPart). let q : ServerPart = record p { files = files_after c f packet } in q) (sym answers.next)
    ∙ after_files c v f a.change (files_after c f packet)
    ∙ ap (λ (o : Option Change). part_with (volatile_after c v a.change) (changed o f)) now.change in
    record {
      settles = None;
      next = record { part = part_with (volatile_after c v a.change) f; doubt = s.doubt };
      stands = sym (λ i. recovers (now.swap i) store.up store.refusal);
      does = record {
        sure = λ yes. absurd (false≢true (sym now.swap ∙ yes));
        out_is = answers.out ∙ ap (λ (p : ServerPart). out_of c tick p packet) (sym part_is);
        next_is = λ i. record { part = (sym next_is ∙ ap (λ (p : ServerPart). next_of c tick p packet) (sym part_is)) i; doubt = s.doubt };
      };
      is = record {
        part = refl;
        sized = may.sized;
        sure = may.sure;
        unsure = may.unsure;
        reads = may.reads;
        leaves = may.leaves;
      };
    }
  where
    after_files : (c : Config) (v : Volatile) (f : List (List ℕ)) (change : Becomes) (g : List (List ℕ))
        → (let q : ServerPart = record (after_change c (part_with v f) change) { files = g } in q) ≡ part_with (volatile_after c v change) g
    after_files c v f changes.Stays g = refl
    after_files c v f (changes.Begins x) g = refl
    after_files c v f (changes.Moves x) g = refl
    after_files c v f (changes.Ends number) g = refl
    after_files c v f (changes.Mounts host path) g = refl
    after_files c v f (changes.Unmounts host path) g = refl
    after_files c v f (changes.Leaves host) g = refl

eta_holds : {D : Type 0} (v : ServerView D) → v ≡ record { config = v.config; volatile = v.volatile; store = v.store }
eta_holds v = refl

-- ---- crashes

module _ {D : Type 0} (seen : D → Option (List ℕ)) (may_leave : D → List ℕ → Type 0) (c : Config) (packet : Packet) (v : Volatile) (old : Stored D) (s : State) (may : MayBe seen may_leave (record { config = c; volatile = v; store = old }) s) where
  pub crash_leaves : (change : Option Change) (left : Option (List (List ℕ))) → change_of c packet ≡ change → may_hold may_leave old left ⊎ IsChanged change (files seen old) left → CrashLeaves c packet s left
  crash_leaves change left changes (inl held) = let e = may.leaves left held in (e.0, false, e.1)
  crash_leaves change left changes (inr (inl same)) = (may.reads.0, false, same ∙ may.reads.1)
  crash_leaves change left changes (inr (inr with_it)) =
      (may.reads.0, true, with_it ∙ ap (option_map (changed change)) may.reads.1 ∙ ap (λ (o : Option Change). Some (changed o (files_settled may.reads.0 s.doubt s.part.files))) (sym changes))

-- ---- a tick

pub tick_turn : {D : Type 0} (seen : D → Option (List ℕ)) (may_leave : D → List ℕ → Type 0) (c : Config) (tick : ℕ) (v : Volatile) (store : Stored D) (s : State) (out : List Packet)
    → out ≡ flat_map (sent_at c tick) v.sessions → MayBe seen may_leave (record { config = c; volatile = v; store = store }) s
    → Ticks seen may_leave tick (record { config = c; volatile = v; store = store }) out (record { config = c; volatile = record v { sessions = flat_map (after_tick c tick) v.sessions }; store = store }) s
tick_turn seen may_leave c tick v store s out sent may = record {
  out_is = sent ∙ ap (λ (p : ServerPart). flat_map (sent_at c tick) p.sessions) (sym may.part);
  is = record {
    part = ap (λ (p : ServerPart). let q : ServerPart = record p { sessions = flat_map (after_tick c tick) p.sessions } in q) may.part;
    sized = may.sized;
    sure = may.sure;
    unsure = may.unsure;
    reads = may.reads;
    leaves = may.leaves;
  };
}
