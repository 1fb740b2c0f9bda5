-- A server over a disk that never fails: each packet is served, and there is never a doubt.
use Rattle.std.proofs.Common.{◌≡◌, ◌⊎◌, inl, inr, ℕ, Bool, true, false, cond, List, [], ◌∷◌, map, Option, Some, None, Err, refl, sym, ap, ◌∙◌, subst, arith, eq-eqb}
use Rattle.std.specs.Prelude.{is_some, IsSomeAnd, length}
use Rattle.std.specs.List.{flat_map}
use Rattle.std.proofs.lemmas.Bool.{false≢true}
use Rattle.sd_outside.specs.declared.calm_disk.CalmDisk.{CalmDisk}
use Rattle.sd_outside.specs.declared.packet.Packet.{Packet}
use Rattle.sd_outside.specs.CalmDisk.{calm_plan}
use Rattle.sd_outside.specs.DiskPlan.{Both, Makes, TakesNumber, Refuses}
use Rattle.sd_stable_disk.specs.Image.{held}
use Rattle.sd_stable_disk.specs.declared.errors.OpenError.{OpenError}
use Rattle.sd_services.specs.Part.{Change, opened_with}
use Rattle.sd_services.specs.NfsReply.{changed}
use Rattle.sd_services.specs.NfsCalls.{is_swap_access}
use Rattle.sd_services.specs.Reply.{out_of, next_of}
use Rattle.sd_services.specs.Failing.{files_settled}
use Rattle.sd_server.specs.State.{State, part_with, opened}
use Rattle.sd_server.specs.Ticks.{after_tick, sent_at}
use Rattle.sd_server.specs.Turns.{Serves, Does, settled_by, recovers}
use Rattle.sd_server.specs.Standing.{ServerView, MayBe, Turns as ServerTurns, Ticks}
use Rattle.sd_stable_disk.specs.Image.{opens}
use Rattle.sd_stable_disk.specs.Files.{HasFault}
use Rattle.sd_stable_disk.specs.declared.errors.OpenError.TheVariants as store
use Rattle.sd_server.specs.declared.errors.ServerError.{ServerError}
use Rattle.sd_server.specs.declared.errors.ServerError.TheVariants.{Store, OtherSizes, NoMemory}
use Rattle.sd_server.specs.Standing.{first_other, IsRefusal}
use Rattle.std.specs.Result.{result_ok}
use Rattle.sd_segment.specs.Calm.{calm_seen, calm_leaves, files_or, part_of, IsCalm}

-- ---- a server that stands for a part without a doubt

-- it stands for what it holds and what its disk reads
part_so : (v : ServerView CalmDisk) (s : State) → MayBe calm_seen calm_leaves v s → s.doubt ≡ None → s ≡ record { part = part_of v; doubt = None }
part_so v s may none =
    let files : files_or (held v.store.disk.bytes.items) ≡ s.part.files = ap files_or (may.reads.1 ∙ ap Some (of may.reads.0)) in
    λ i. record { part = (may.part ∙ ap (part_with v.volatile) (sym files)) i; doubt = none i }
  where
    of : (b : Bool) → files_settled b s.doubt s.part.files ≡ s.part.files
    of true = ap (λ (o : Option Change). changed o s.part.files) none
    of false = refl

pub calm_of : (v : ServerView CalmDisk) (s : State) → MayBe calm_seen calm_leaves v s → s.doubt ≡ None → IsCalm v × (s.part ≡ part_of v)
calm_of v s may none = (subst (λ (t : State). MayBe calm_seen calm_leaves v t) (part_so v s may none) may, ap (λ (t : State). t.part) (part_so v s may none))

-- ---- a packet

-- no fault is planned
never_faulted : (faulted : Bool) → Both (Makes 13 4 (faulted ≡ true)) (Some calm_plan) (Some calm_plan) → faulted ≡ false
never_faulted false plan = refl
never_faulted true plan = absurd (of (plan.planned refl))
  where
    of : TakesNumber calm_plan calm_plan ⊎ Refuses plan.changes calm_plan → ⊥
    of (inl takes) = omega (arith, takes)
    of (inr (inl stops)) = stops
    of (inr (inr full)) = omega (arith, full, plan.few_changes)

always_up : (v : ServerView CalmDisk) → IsCalm v → v.store.up ≡ true
always_up v calm = of v.store.up refl
  where
    of : (b : Bool) → v.store.up ≡ b → b ≡ true
    of true e = refl
    of false e = absurd (false≢true (calm.unsure e))

none_recovers : (access : Bool) (refusal : Option OpenError) → recovers access true refusal ≡ false
none_recovers true refusal = refl
none_recovers false refusal = refl

is_none : (o : Option Bool) → is_some o ≡ false → o ≡ None
is_none None e = refl
is_none (Some done) e = absurd (false≢true (sym e))

pub served_calm : (old new : ServerView CalmDisk) (tick : ℕ) (packet : Packet) (out : List Packet) (faulted : Bool) → IsCalm old → Both (Makes 13 4 (faulted ≡ true)) (Some calm_plan) (Some calm_plan)
    → ((s : State) → MayBe calm_seen calm_leaves old s → ServerTurns calm_seen calm_leaves tick packet old out faulted new s)
    → (out ≡ out_of old.config tick (part_of old) packet) × (part_of new ≡ next_of old.config tick (part_of old) packet) × IsCalm new
served_calm old new tick packet out faulted calm plan turns =
    let s : State = record { part = part_of old; doubt = None } in
    let t = turns s calm in
    let none : t.settles ≡ None = is_none t.settles (t.stands ∙ ap (λ (b : Bool). recovers (is_swap_access old.config packet) b new.store.refusal) (always_up old calm) ∙ none_recovers (is_swap_access old.config packet) new.store.refusal) in
    let does : Serves old.config tick packet s out t.next =
    subst (λ (b : Bool). Does old.config tick packet b s out t.next) (never_faulted faulted plan) (subst (λ (o : Option Bool). Does old.config tick packet faulted (settled_by o s) out t.next) none t.does) in
    let after = calm_of new t.next t.is (ap (λ (x : State). x.doubt) does.next_is) in
    (does.out_is, sym after.1 ∙ ap (λ (x : State). x.part) does.next_is, after.0)

-- ---- a tick

pub ticked_calm : (old new : ServerView CalmDisk) (tick : ℕ) (out : List Packet) → IsCalm old → ((s : State) → MayBe calm_seen calm_leaves old s → Ticks calm_seen calm_leaves tick old out new s)
    → (out ≡ flat_map (sent_at old.config tick) (part_of old).sessions) × (part_of new ≡ record (part_of old) { sessions = flat_map (after_tick old.config tick) (part_of old).sessions }) × IsCalm new
ticked_calm old new tick out calm ticks =
    let s : State = record { part = part_of old; doubt = None } in
    let t = ticks s calm in
    let after = calm_of new _ t.is refl in
    (t.out_is, sym after.1, after.0)

-- ---- opening

pub opened_calm : (v : ServerView CalmDisk) (stored : List (List ℕ)) → MayBe calm_seen calm_leaves v (opened stored) → IsCalm v × (opened_with stored ≡ part_of v)
opened_calm v stored may = calm_of v (opened stored) may refl

-- ---- a refusal

first_same : (sizes : List ℕ) → first_other sizes sizes ≡ None
first_same [] = refl
first_same (x ∷ xs) = ap (λ (b : Bool). cond b (first_other xs xs) (Some (x, x))) (eq-eqb x x refl) ∙ first_same xs

none_said : (image : List ℕ) (stored : List (List ℕ)) (error : OpenError) → held image ≡ Some stored → opens image ≡ Err error → ⊥
none_said image stored error is refused = false≢true (sym (ap (λ (o : Option (List (List ℕ))). is_some o) (sym is ∙ ap result_ok refused)))

-- a disk that holds the files of the start is refused only where memory runs out
pub refused_calm : (image : List ℕ) (stored : List (List ℕ)) (error : ServerError) → held image ≡ Some stored → IsRefusal (Some image) (map (λ file. length file) stored) error → HasFault 0 0 (error ≡ Store store.DiskFault) → error ≡ NoMemory
refused_calm image stored (Store store.DiskFault) is why cause = absurd (omega (arith, cause.failed refl))
refused_calm image stored (Store store.NoMemory) is why cause = absurd why
refused_calm image stored (Store (store.Damaged at)) is why cause = absurd (none_said image stored (store.Damaged at) is why)
refused_calm image stored (Store (store.Version got)) is why cause = absurd (none_said image stored (store.Version got) is why)
refused_calm image stored (OtherSizes size wanted) is why cause =
    let same : map (λ file. length file) stored ≡ why.0 = subst (λ (o : Option (List (List ℕ))). IsSomeAnd o (λ files. map (λ file. length file) files ≡ why.0)) is why.1 in
    let none : first_other why.0 (map (λ file. length file) stored) ≡ None = ap (λ (l : List ℕ). first_other l (map (λ file. length file) stored)) (sym same) ∙ first_same (map (λ file. length file) stored) in
    absurd (false≢true (ap (λ (o : Option (ℕ × ℕ)). is_some o) (sym none ∙ why.2)))
refused_calm image stored NoMemory is why cause = refl
