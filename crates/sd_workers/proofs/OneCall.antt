-- One call of a server, as a history with one entry.
use Rattle.std.proofs.Common.{◌≡◌, ◌≤◌, ℕ, List, [], ◌∷◌, refl, sym, subst, ap}
use Rattle.std.specs.Prelude.{◌&&◌, ◌||◌, not, is_some, IsSome, Bool, true, false, Option, Some, None}
use Rattle.std.specs.List.{flat_map}
use Rattle.sd_outside.specs.Causes.{Rose}
use Rattle.sd_outside.specs.declared.packet.Packet.{Packet}
use Rattle.sd_config.specs.declared.config.Config.{Config}
use Rattle.sd_stable_disk.specs.Files.{files}
use Rattle.sd_services.specs.NfsCalls.{is_swap_access}
use Rattle.sd_stable_disk.specs.declared.errors.OpenError.{OpenError}
use Rattle.sd_server.specs.declared.replies.Replies.{Replies}
use Rattle.sd_server.specs.State.{State, ticked}
use Rattle.sd_server.specs.Standing.{ServerView, MayBe, IsEither, Turns, Ticks, Goes, damaged_by}
use Rattle.sd_server.specs.Ticks.{after_tick, sent_at, Ascending}
use Rattle.sd_server.specs.Turns.{recovers}
use Rattle.sd_workers.specs.declared.account.Event.TheVariants.{Served, Ticked}
use Rattle.sd_workers.specs.Entries.{entry, memory_of, MaySettle}
use Rattle.sd_workers.specs.Legal.{Leads}

-- Settle stands only before a READ or WRITE that found the store down
settles_access : (a up refused : Bool) → true ≡ (a && (not up && not refused)) → (a ≡ true) × (up ≡ false)
settles_access true false false e = (refl, refl)
settles_access true false true e = absurd (cc e)
settles_access true true refused e = absurd (cc e)
settles_access false up refused e = absurd (cc e)

may_settle : (c : Config) (packet : Packet) (s : State) (up : Bool) (refusal : Option OpenError) → (up ≡ false → IsSome s.doubt) → (settles : Option Bool)
    → is_some settles ≡ recovers (is_swap_access c packet) up refusal → MaySettle c packet s settles
may_settle c packet s up refusal unsure None e = tt
may_settle c packet s up refusal unsure (Some done) e =
    let p = settles_access (is_swap_access c packet) up (is_some refusal) e in
    (p.0, unsure p.1)

some_files : (s : State) (left : Option (List (List ℕ))) → IsEither s left → IsSome left
some_files s left is = subst IsSome (sym is.1) refl

module _ {D : Type 0} (seen : D → Option (List ℕ)) (may_leave : D → List ℕ → Type 0) (faults : D → ℕ) where
  pub served : (y z : ServerView D) (by now : ℕ) (packet : Packet) (r : Replies) (before after : ℕ)
      → before ≡ faults y.store.disk → after ≡ faults z.store.disk → z.config ≡ y.config
      → ((s : State) → MayBe seen may_leave y s → Turns seen may_leave now packet y r.packets r.faulted z s)
      → Goes y.config now packet y.volatile r.packets (r.faulted || is_some r.damaged) z.volatile
      → faults y.store.disk ≤ faults z.store.disk
      → (r.faulted ≡ true → Rose (faults y.store.disk) (faults z.store.disk))
      → (r.faulted ≡ false → r.damaged ≡ None → faults z.store.disk ≡ faults y.store.disk)
      → r.damaged ≡ damaged_by (is_swap_access y.config packet) y.store.up z.store.refusal
      → (IsSome (files seen y.store) → r.damaged ≡ None)
      → Leads seen may_leave faults y (entry by now (Served packet) r before after ∷ []) z
  served y z by now packet r before after b a config turns goes later cause calm place told =
      subst (λ (n : ℕ × ℕ). Leads seen may_leave faults y (entry by now (Served packet) r n.0 n.1 ∷ []) z) (λ i. (sym b i, sym a i))
      record {
        config = config;
        states = λ s is.
            let t = turns s is in
            let sound : r.damaged ≡ None = told (some_files s (files seen y.store) is.reads) in (
              t.next,
              t.is,
              (
                refl,
                (
                  t.next,
                  record {
                    settles = t.settles;
                    may = may_settle y.config packet s y.store.up z.store.refusal is.unsure t.settles t.stands;
                    does = t.does;
                    cause = cause;
                    calm = λ f. calm f sound;
                    sound = sound;
                  },
                  (refl, refl),
                ),
              ),
            );
        memory = (refl, (memory_of z, record { goes = goes; place = place; later = later; cause = cause; calm = calm }, (refl, refl)));
      }

  pub ticked_once : (y z : ServerView D) (by now : ℕ) (r : Replies) (before after : ℕ)
      → before ≡ faults y.store.disk → after ≡ faults z.store.disk
      → z ≡ record y { volatile = record y.volatile { sessions = flat_map (after_tick y.config now) y.volatile.sessions } }
      → r.packets ≡ flat_map (sent_at y.config now) y.volatile.sessions
      → ((s : State) → MayBe seen may_leave y s → Ticks seen may_leave now y r.packets z s)
      → Ascending y.volatile.sessions
      → (r.faulted ≡ false) × (r.damaged ≡ None)
      → Leads seen may_leave faults y (entry by now Ticked r before after ∷ []) z
  ticked_once y z by now r before after b a after_is packets ticks order calm =
      let same : faults z.store.disk ≡ faults y.store.disk = ap (λ (v : ServerView D). faults v.store.disk) after_is in
      subst (λ (n : ℕ × ℕ). Leads seen may_leave faults y (entry by now Ticked r n.0 n.1 ∷ []) z) (λ i. (sym b i, sym a i))
      record {
        config = ap (λ (v : ServerView D). v.config) after_is;
        states = λ s is.
            let t = ticks s is in (
              ticked y.config now s,
              t.is,
              (
                refl,
                (
                  ticked y.config now s,
                  record {
                    order = subst (λ (p : _). Ascending p.sessions) (sym is.part) order;
                    out_is = t.out_is;
                    next_is = refl;
                    unfaulted = calm.0;
                    sound = calm.1;
                    calm = same;
                  },
                  (refl, refl),
                ),
              ),
            );
        memory = (
          refl,
          (
            memory_of z,
            record {
              out_is = packets;
              next_is = ap (λ (v : ServerView D). memory_of v) after_is;
              unfaulted = calm.0;
              sound = calm.1;
              calm = same;
            },
            (refl, refl),
          ),
        );
      }
