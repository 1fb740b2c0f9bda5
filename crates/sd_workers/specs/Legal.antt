-- Legal histories of a server.
use Rattle.std.specs.Prelude.{◌≡◌, ℕ, List, [], ◌∷◌, ◌++◌, Option}
use Rattle.std.proofs.Common.{refl, sym, subst, ◌∙◌}
use Rattle.sd_config.specs.declared.config.Config.{Config}
use Rattle.sd_server.specs.State.{State}
use Rattle.sd_server.specs.Standing.{ServerView, MayBe}
use Rattle.sd_workers.specs.declared.account.Entry.{Entry}
use Rattle.sd_workers.specs.Entries.{Memory, memory_of, Moves, MovesInMemory}

-- The entries, in order, lead from s with the count n to s2 with the count m. The counts join on.
abbrev pub Chain : {S : Type 0} → (Entry → S → S → Type 0) → S → ℕ → List Entry → S → ℕ → Type 0
Chain step s n [] s2 m = (s ≡ s2) × (n ≡ m)
Chain {S} step s n (e ∷ es) s2 m = (e.before ≡ n) × ((between : S) × step e s between × Chain step between e.after es s2 m)

pub chain_on : {S : Type 0} (step : Entry → S → S → Type 0) (x y z : S) (n m k : ℕ) (es fs : List Entry) → Chain step x n es y m → Chain step y m fs z k → Chain step x n (es ++ fs) z k
chain_on {S} step x y z n m k [] fs h t = subst (λ (at : S × ℕ). Chain step at.0 at.1 fs z k) (λ i. (sym h.0 i, sym h.1 i)) t
chain_on step x y z n m k (e ∷ es) fs h t = (h.0, (h.1.0, h.1.1, chain_on step h.1.0 y z e.after m k es fs h.1.2 t))

-- a history from one state of a server to another
abbrev pub legal : Config → State → ℕ → List Entry → State → ℕ → Type 0
legal c s n history s2 m = Chain (Moves c) s n history s2 m

-- a history of what a server holds in memory
abbrev pub legal_in_memory : Config → Memory → ℕ → List Entry → Memory → ℕ → Type 0
legal_in_memory c old n history new m = Chain (MovesInMemory c) old n history new m

module _ {D : Type 0} (seen : D → Option (List ℕ)) (may_leave : D → List ℕ → Type 0) (faults : D → ℕ) where
  -- The history leads from one value of a server to another: from every state for which it may stand to one for which it then may
  -- stand, and, over any disk, from what it holds in memory to what it then holds. Its counts are those of the disk.
  pub record Leads (x : ServerView D) (history : List Entry) (y : ServerView D) : Type 0 where
    pub config : y.config ≡ x.config
    pub states : (s : State) → MayBe seen may_leave x s → (s2 : State) × MayBe seen may_leave y s2 × legal x.config s (faults x.store.disk) history s2 (faults y.store.disk)
    pub memory : legal_in_memory x.config (memory_of x) (faults x.store.disk) history (memory_of y) (faults y.store.disk)

  pub leads_nowhere : (x : ServerView D) → Leads x [] x
  leads_nowhere x = record { config = refl; states = λ s is. (s, is, (refl, refl)); memory = (refl, refl) }

  pub leads_on : (x y z : ServerView D) (es fs : List Entry) → Leads x es y → Leads y fs z → Leads x (es ++ fs) z
  leads_on x y z es fs h k =
      record {
        config = k.config ∙ h.config;
        states = λ s is.
            let a = h.states s is in
            let b = k.states a.0 a.1 in (
              b.0,
              b.1,
              chain_on (Moves x.config) s a.0 b.0 (faults x.store.disk) (faults y.store.disk) (faults z.store.disk) es fs a.2
                  (subst (λ (c : Config). legal c a.0 (faults y.store.disk) fs b.0 (faults z.store.disk)) h.config b.2),
            );
        memory =
            chain_on (MovesInMemory x.config) (memory_of x) (memory_of y) (memory_of z) (faults x.store.disk) (faults y.store.disk) (faults z.store.disk) es fs h.memory
            (subst (λ (c : Config). legal_in_memory c (memory_of y) (faults y.store.disk) fs (memory_of z) (faults z.store.disk)) h.config k.memory);
      }
