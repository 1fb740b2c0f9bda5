-- One part has one answer: what comes of each request in turn is fixed, and it fixes what the client does next.
use Rattle.std.proofs.Common.{◌≡◌, ℕ, zero, suc, ◌+◌, ◌<◌, true, false, List, [], ◌∷◌, ◌++◌, length, refl, sym, ◌∙◌, ap, subst, arith, append_assoc, inl, inr}
use Rattle.std.specs.List.{concat}
use Rattle.std.specs.Prelude.{◌⊎◌}
use Rattle.sd_tftp.specs.declared.step.Step as answers
use Rattle.sd_tftp.specs.declared.step.Step.TheVariants as step
use Rattle.sd_tftp.specs.Reception.{Reception, fresh}
use Rattle.sd_tftp.specs.ReceiverTurn.{Turn}
use Rattle.sd_config.specs.declared.config.Config.{Config}
use Rattle.sd_config.specs.declared.stage.Stage.TheVariants as stage
use Rattle.sd_link.specs.Steps.{Step, Send}
use Rattle.sd_link.specs.Parts.{got_in, fails_in}
use Rattle.sd_link.specs.Tries.{beyond, flood_limit}
use Rattle.sd_link.specs.Link.{IsSettledBy}
use Rattle.sd_rpc_retry.specs.declared.calling.Caller.{Caller}
use Rattle.sd_rpc_retry.specs.Chain.{RowEnd, came, timed_out, flooded, denied, failed}
use Rattle.sd_config.specs.declared.command.Command.{Command}
use Rattle.sd_config.specs.declared.command.Command.TheVariants as command
use Rattle.sd_config.specs.declared.told.Told.{Told}
use Rattle.sd_config.specs.declared.told.Told.TheVariants.{AddrOk, AddrTimeout, AddrFlood, BootTimeout, BootFlood, BootRefused, BootTooLarge, WaitOk, WaitFlood, AddrLinkFault, BootLinkFault, WaitLinkFault}
use Rattle.sd_claims.specs.Rarp.{Learned, rarp_request, rarp_hearing}
use Rattle.sd_claims.specs.Fetching.{Fetch, Takes, takes_none, takes_block, Brings, request_of, fetch_hearing, acknowledge, FetchTimedOut, FetchFlooded, FetchRefused, FetchTooLarge, Fetched}
use Rattle.sd_claims.specs.Booting.{Counts, OfFetch, OfCalls, End, no_mount, found_mount, asks_name, boot_way, answer_of, ServerTold, boot_fetch, caller_after}
use Rattle.sd_claims.specs.Causes.{Cause, addr_ok, addr_timeout, addr_flood, addr_linkfault, boot_timeout_rarp, boot_flood_rarp, boot_linkfault_rarp, boot_timeout_tftp, boot_flood_tftp, boot_linkfault_tftp, boot_refused, boot_too_large, boot_calls, wait_ok, wait_flood, wait_linkfault, after_fetch, IsCaused, faults_told}
use Rattle.sd_claims.specs.Laws.{HasOneAnswer, HasOneCount}
use Rattle.sd_claims.proofs.OneOutcome.{gave, Went, went_one, went_in_vain, went_in_flood, went_so}
use Rattle.sd_claims.proofs.OneRow.{IsCalm, RowWent, row_one, row_went}

-- the answer, and what the client counts after it
abbrev Ending : Type 0
Ending = Told × Counts

-- ---- the fetch, of at most so many blocks, and the calls that follow it

-- what is counted after the calls
abbrev after_calls : Counts → Caller → Counts
after_calls n last = record { boots = n.boots + 1; next_xid = last.next_xid }

-- how they end is fixed by their row
record CallsWent (f : Fetch) (n : Counts) (program : List ℕ) (calls : List Step) (a : Ending) : Type 0 where
  pub most : ℕ
  pub end : RowEnd End
  pub last : Caller
  pub went : RowWent boot_way most (asks_name f.me.ip) (caller_after f n.next_xid) calls (end, last)
  pub is : a ≡ (answer_of program end, after_calls n last)

calls_one : (f : Fetch) (n : Counts) (program : List ℕ) (calls : List Step) (a b : Ending) → CallsWent f n program calls a → CallsWent f n program calls b → a ≡ b
calls_one f n program calls a b v w =
    let e = row_one boot_way v.most w.most (asks_name f.me.ip) (caller_after f n.next_xid) calls (v.end, v.last) (w.end, w.last) v.went w.went in
    v.is ∙ ap (λ (r : RowEnd End × Caller). (answer_of program r.0, after_calls n r.1)) e ∙ sym w.is

module _ (f : Fetch) (n : Counts) where
  abbrev NextOf : (Reception → List Step → Ending → Type 0) → answers.Step → Turn → List Step → Ending → Type 0
  NextOf more (step.Took to number false) t rest a = more t.becomes rest a
  NextOf more (step.Took to number true) t rest a = (calls : List Step) × (rest ≡ Send (acknowledge f.me to number) ∷ calls) × CallsWent f n (concat t.becomes.blocks) calls a
  NextOf more (step.Refused code) t rest a = a ≡ (BootRefused stage.Tftp code, after_fetch n)
  NextOf more (step.Over got) t rest a = a ≡ (BootTooLarge got, after_fetch n)
  NextOf more said t rest a = ⊥

  FetchWent : ℕ → Reception → List Step → Ending → Type 0
  FetchWent zero r part a = ⊥
  FetchWent (suc k) r part a = Went (request_of f r) (fetch_hearing f.me r) f.tries (BootTimeout stage.Tftp, after_fetch n) (BootFlood stage.Tftp, after_fetch n) (λ t rest a. NextOf (FetchWent k) t.says t rest a) part a

  same_calls : (p q : Step) (xs ys : List Step) → p ∷ xs ≡ q ∷ ys → xs ≡ ys
  same_calls p q xs ys e = cc

  next_one : (more other : Reception → List Step → Ending → Type 0) → ((r : Reception) (rest : List Step) (a b : Ending) → more r rest a → other r rest b → a ≡ b)
      → (said : answers.Step) (t : Turn) (rest : List Step) (a b : Ending) → NextOf more said t rest a → NextOf other said t rest b → a ≡ b
  next_one more other one (step.Took to number false) t rest a b v w = one t.becomes rest a b v w
  next_one more other one (step.Took to number true) t rest a b v w =
      let same = same_calls (Send (acknowledge f.me to number)) (Send (acknowledge f.me to number)) w.0 v.0 (sym w.1 ∙ v.1) in
      calls_one f n (concat t.becomes.blocks) v.0 a b v.2 (subst (λ (l : List Step). CallsWent f n (concat t.becomes.blocks) l b) same w.2)
  next_one more other one (step.Refused code) t rest a b v w = v ∙ sym w
  next_one more other one (step.Over got) t rest a b v w = v ∙ sym w
  next_one more other one (step.Again to number) t rest a b v w = absurd v
  next_one more other one (step.Stranger to) t rest a b v w = absurd v
  next_one more other one step.Ignored t rest a b v w = absurd v

  fetch_one : (j k : ℕ) (r : Reception) (part : List Step) (a b : Ending) → FetchWent j r part a → FetchWent k r part b → a ≡ b
  unfolding FetchWent
  fetch_one zero k r part a b v w = absurd v
  fetch_one (suc j) zero r part a b v w = absurd w
  fetch_one (suc j) (suc k) r part a b v w =
      went_one (request_of f r) (fetch_hearing f.me r) f.tries (BootTimeout stage.Tftp, after_fetch n) (BootFlood stage.Tftp, after_fetch n) (λ t rest a. NextOf (FetchWent j) t.says t rest a) (λ t rest a. NextOf (FetchWent k) t.says t rest a)
      (λ t rest a b v w. next_one (FetchWent j) (FetchWent k) (λ r rest a b v w. fetch_one j k r rest a b v w) t.says t rest a b v w)
      part a b v w

  -- what comes after some blocks is what comes of the whole fetch
  takes_then : (settled : List Step → Type 0) (before : List Step) (r : Reception) → Takes settled f before r → (k : ℕ) (last : List Step) (a : Ending) → FetchWent k r last a → (j : ℕ) × FetchWent j (fresh f.server) (before ++ last) a
  unfolding FetchWent
  takes_then settled _ _ takes_none k last a went = (k, went)
  takes_then settled _ _ (takes_block part more r t before brings block) k last a went =
      let here : FetchWent (suc k) r (more ++ last) a = record {
        outcome = gave t;
        own = more;
        rest = last;
        cut = refl;
        ended = brings.ends;
        follows = subst (λ (s : answers.Step). NextOf (FetchWent k) s t last a) (sym block.2) went;
      } in
      let all = takes_then settled part r before (suc k) (more ++ last) a here in
      (all.0, subst (λ (l : List Step). FetchWent all.0 (fresh f.server) l a) (sym (append_assoc part more last)) all.1)

  -- what stops a fetch after some blocks
  stops_then : (settled : List Step → Type 0) (before last part : List Step) (r : Reception) (a : Ending) → Takes settled f before r → part ≡ before ++ last → FetchWent 1 r last a → (j : ℕ) × FetchWent j (fresh f.server) part a
  stops_then settled before last part r a takes cut went =
      let all = takes_then settled before r takes 1 last a went in
      (all.0, subst (λ (l : List Step). FetchWent all.0 (fresh f.server) l a) (sym cut) all.1)

  fetch_vain : (settled : List Step → Type 0) (part : List Step) → FetchTimedOut settled f part → (j : ℕ) × FetchWent j (fresh f.server) part (BootTimeout stage.Tftp, after_fetch n)
  unfolding FetchWent
  fetch_vain settled part t =
      stops_then settled t.before t.last part t.taken (BootTimeout stage.Tftp, after_fetch n) t.takes t.cut
      (went_in_vain (beyond settled t.before) (request_of f t.taken) (fetch_hearing f.me t.taken) f.tries f.wait (BootTimeout stage.Tftp, after_fetch n) (BootFlood stage.Tftp, after_fetch n) (λ t rest a. NextOf (FetchWent 0) t.says t rest a) t.last t.stopped)

  fetch_full : (settled : List Step → Type 0) (part : List Step) → FetchFlooded settled f part → (j : ℕ) × FetchWent j (fresh f.server) part (BootFlood stage.Tftp, after_fetch n)
  unfolding FetchWent
  fetch_full settled part t =
      stops_then settled t.before t.last part t.taken (BootFlood stage.Tftp, after_fetch n) t.takes t.cut
      (went_in_flood (beyond settled t.before) (request_of f t.taken) (fetch_hearing f.me t.taken) f.tries f.wait (BootTimeout stage.Tftp, after_fetch n) (BootFlood stage.Tftp, after_fetch n) (λ t rest a. NextOf (FetchWent 0) t.says t rest a) t.last t.stopped)

  brought : (settled : List Step → Type 0) (r : Reception) (t : Turn) (s : answers.Step) (last : List Step) (a : Ending) → Brings settled f r t last → t.says ≡ s → NextOf (FetchWent 0) s t [] a → FetchWent 1 r last a
  unfolding FetchWent
  brought settled r t s last a brings is next =
      went_so settled (request_of f r) (fetch_hearing f.me r) f.tries f.wait (BootTimeout stage.Tftp, after_fetch n) (BootFlood stage.Tftp, after_fetch n) (λ t rest a. NextOf (FetchWent 0) t.says t rest a) last t a brings
      (subst (λ (u : answers.Step). NextOf (FetchWent 0) u t [] a) (sym is) next)

  fetch_denied : (settled : List Step → Type 0) (code : ℕ) (part : List Step) → FetchRefused code settled f part → (j : ℕ) × FetchWent j (fresh f.server) part (BootRefused stage.Tftp code, after_fetch n)
  fetch_denied settled code part t =
      stops_then settled t.before t.last part t.taken (BootRefused stage.Tftp code, after_fetch n) t.takes t.cut
      (brought (beyond settled t.before) t.taken t.stopped.0 (step.Refused code) t.last (BootRefused stage.Tftp code, after_fetch n) t.stopped.1 t.stopped.2 refl)

  fetch_over : (settled : List Step → Type 0) (size : ℕ) (part : List Step) → FetchTooLarge size settled f part → (j : ℕ) × FetchWent j (fresh f.server) part (BootTooLarge size, after_fetch n)
  fetch_over settled size part t =
      stops_then settled t.before t.last part t.taken (BootTooLarge size, after_fetch n) t.takes t.cut
      (brought (beyond settled t.before) t.taken t.stopped.0 (step.Over size) t.last (BootTooLarge size, after_fetch n) t.stopped.1 t.stopped.2 refl)

  -- a fetch that gives this program, and what comes of the calls
  fetched_then : (settled : List Step → Type 0) (program : List ℕ) (fetch calls : List Step) (a : Ending) → Fetched settled f program fetch → CallsWent f n program calls a
      → (j : ℕ) × FetchWent j (fresh f.server) (fetch ++ calls) a
  unfolding FetchWent
  fetched_then settled program fetch calls a h went =
      let ack = Send (acknowledge f.me h.to h.number) in
      let here : FetchWent 1 h.taken (h.last ++ (ack ∷ calls)) a = record {
        outcome = gave h.final;
        own = h.last;
        rest = ack ∷ calls;
        cut = refl;
        ended = h.brings.ends;
        follows =
            subst (λ (s : answers.Step). NextOf (FetchWent 0) s h.final (ack ∷ calls) a) (sym h.says)
            (calls, refl, subst (λ (l : List ℕ). CallsWent f n l calls a) h.joined went);
      } in
      let all = takes_then settled h.before h.taken h.takes 1 (h.last ++ (ack ∷ calls)) a here in
      let whole : fetch ++ calls ≡ h.before ++ (h.last ++ (ack ∷ calls)) =
      ap (λ (l : List Step). l ++ calls) h.cut ∙ append_assoc h.before (h.last ++ ack ∷ []) calls ∙ ap (λ (l : List Step). h.before ++ l) (append_assoc h.last (ack ∷ []) calls) in
      (all.0, subst (λ (l : List Step). FetchWent all.0 (fresh f.server) l a) (sym whole) all.1)

-- ---- a boot

module _ (settled : List Step → Type 0) (c : Config) (n : Counts) where
  abbrev LearnedNext : Learned → List Step → Ending → Type 0
  LearnedNext learned rest a = (k : ℕ) × FetchWent (boot_fetch c n.boots learned) n k (fresh learned.responder) rest a

  BootWent : List Step → Ending → Type 0
  BootWent part a = Went (rarp_request c.client.mac) (rarp_hearing c.client.mac) c.tries (BootTimeout stage.Rarp, n) (BootFlood stage.Rarp, n) LearnedNext part a

  boot_one : (part : List Step) (a b : Ending) → BootWent part a → BootWent part b → a ≡ b
  unfolding BootWent
  boot_one part a b v w =
      went_one (rarp_request c.client.mac) (rarp_hearing c.client.mac) c.tries (BootTimeout stage.Rarp, n) (BootFlood stage.Rarp, n) LearnedNext LearnedNext
      (λ learned rest a b v w. fetch_one (boot_fetch c n.boots learned) n v.0 w.0 (fresh learned.responder) rest a b v.1 w.1)
      part a b v w

  -- after the address was told
  of_fetch : (what : (List Step → Type 0) → Fetch → List Step → Type 0) (part : List Step) (a : Ending) (h : OfFetch settled c n what part)
      → (what (beyond settled h.address) (boot_fetch c n.boots h.learned) h.last → LearnedNext h.learned h.last a) → BootWent part a
  unfolding BootWent
  of_fetch what part a h next = record { outcome = gave h.learned; own = h.address; rest = h.last; cut = h.cut; ended = h.told.ends; follows = next h.came_of }

  -- after the program was fetched
  of_calls : (program : List ℕ) (end : RowEnd End) (next : Counts) (part : List Step) → IsCalm end → OfCalls settled c n program end next part → BootWent part (answer_of program end, next)
  unfolding BootWent
  of_calls program end next part calm h =
      let f = boot_fetch c n.boots h.learned in
      let row = row_went boot_way (ServerTold c) (λ verdict still caller call part t. t.told) (beyond settled (h.address ++ h.fetch)) (asks_name h.learned.address) (caller_after f n.next_xid) h.last end h.calls calm h.row in
      let all = fetched_then f n (beyond settled h.address) program h.fetch h.calls (answer_of program end, next) h.fetched (record { most = row.0; end = end; last = h.last; went = row.1; is = ap (λ (m : Counts). (answer_of program end, m)) h.next_is }) in
      record { outcome = gave h.learned; own = h.address; rest = h.fetch ++ h.calls; cut = h.cut; ended = h.told.ends; follows = all }

  calm_end : (program : List ℕ) (end : RowEnd End) (a : Told) → faults_told a ≡ 0 → a ≡ answer_of program end → IsCalm end
  calm_end program (came end) a calm is = tt
  calm_end program (timed_out step) a calm is = tt
  calm_end program (flooded step) a calm is = tt
  calm_end program (denied step code) a calm is = tt
  calm_end program (failed step) a calm is = let e = sym (ap faults_told is) ∙ calm in absurd cc

  -- each row of the table
  boot_went : (a : Told) (next : Counts) (part : List Step) → faults_told a ≡ 0 → Cause settled c n command.Boot a next part → BootWent part (a, next)
  unfolding BootWent
  boot_went _ _ part calm (boot_timeout_rarp _ t) = went_in_vain settled (rarp_request c.client.mac) (rarp_hearing c.client.mac) c.tries c.wait (BootTimeout stage.Rarp, n) (BootFlood stage.Rarp, n) LearnedNext part t
  boot_went _ _ part calm (boot_flood_rarp _ t) = went_in_flood settled (rarp_request c.client.mac) (rarp_hearing c.client.mac) c.tries c.wait (BootTimeout stage.Rarp, n) (BootFlood stage.Rarp, n) LearnedNext part t
  boot_went _ _ part calm (boot_linkfault_rarp _ t) = absurd cc
  boot_went _ _ part calm (boot_timeout_tftp _ h) = of_fetch FetchTimedOut part _ h (λ t. fetch_vain (boot_fetch c n.boots h.learned) n (beyond settled h.address) h.last t)
  boot_went _ _ part calm (boot_flood_tftp _ h) = of_fetch FetchFlooded part _ h (λ t. fetch_full (boot_fetch c n.boots h.learned) n (beyond settled h.address) h.last t)
  boot_went _ _ part calm (boot_linkfault_tftp _ h) = absurd cc
  boot_went _ _ part calm (boot_refused code _ h) = of_fetch (FetchRefused code) part _ h (λ t. fetch_denied (boot_fetch c n.boots h.learned) n (beyond settled h.address) code h.last t)
  boot_went _ _ part calm (boot_too_large size _ h) = of_fetch (FetchTooLarge size) part _ h (λ t. fetch_over (boot_fetch c n.boots h.learned) n (beyond settled h.address) size h.last t)
  boot_went a next part calm (boot_calls program end _ _ _ is h) = subst (λ (b : Told). BootWent part (b, next)) (sym is) (of_calls program end next part (calm_end program end a calm is) h)

  -- ---- the other commands

  abbrev AddrNext : Learned → List Step → Ending → Type 0
  AddrNext learned rest a = a ≡ (AddrOk learned.address, n)

  abbrev AddrWent : List Step → Ending → Type 0
  AddrWent part a = Went (rarp_request c.client.mac) (rarp_hearing c.client.mac) c.tries (AddrTimeout, n) (AddrFlood stage.Rarp, n) AddrNext part a

  addr_went : (a : Told) (next : Counts) (part : List Step) → faults_told a ≡ 0 → Cause settled c n command.Addr a next part → AddrWent part (a, next)
  addr_went _ _ part calm (addr_ok learned _ h) = went_so settled (rarp_request c.client.mac) (rarp_hearing c.client.mac) c.tries c.wait (AddrTimeout, n) (AddrFlood stage.Rarp, n) AddrNext part learned (AddrOk learned.address, n) h refl
  addr_went _ _ part calm (addr_timeout _ t) = went_in_vain settled (rarp_request c.client.mac) (rarp_hearing c.client.mac) c.tries c.wait (AddrTimeout, n) (AddrFlood stage.Rarp, n) AddrNext part t
  addr_went _ _ part calm (addr_flood _ t) = went_in_flood settled (rarp_request c.client.mac) (rarp_hearing c.client.mac) c.tries c.wait (AddrTimeout, n) (AddrFlood stage.Rarp, n) AddrNext part t
  addr_went _ _ part calm (addr_linkfault _ h) = absurd cc

  addr_one : (part : List Step) (a b : Ending) → AddrWent part a → AddrWent part b → a ≡ b
  addr_one part a b v w = went_one (rarp_request c.client.mac) (rarp_hearing c.client.mac) c.tries (AddrTimeout, n) (AddrFlood stage.Rarp, n) AddrNext AddrNext (λ learned rest a b f g. f ∙ sym g) part a b v w

  -- a pause that wasn't flooded is no pause that was
  abbrev PauseWent : ℕ → List Step → Ending → Type 0
  PauseWent ticks part a = ((length (got_in part) < flood_limit) × (a ≡ (WaitOk ticks, n))) ⊎ ((length (got_in part) ≡ flood_limit) × (a ≡ (WaitFlood ticks, n)))

  pause_went : (ticks : ℕ) (a : Told) (next : Counts) (part : List Step) → faults_told a ≡ 0 → Cause settled c n (command.Wait ticks) a next part → PauseWent ticks part (a, next)
  pause_went _ _ _ part calm (wait_ok ticks _ h) = inl (h.calm, refl)
  pause_went _ _ _ part calm (wait_flood ticks _ h) = inr (h.many, refl)
  pause_went _ _ _ part calm (wait_linkfault ticks _ h) = absurd cc

  pause_one : (ticks : ℕ) (part : List Step) (a b : Ending) → PauseWent ticks part a → PauseWent ticks part b → a ≡ b
  pause_one ticks part a b (inl v) (inl w) = v.1 ∙ sym w.1
  pause_one ticks part a b (inl v) (inr w) = absurd (omega (arith, v.0, w.0))
  pause_one ticks part a b (inr v) (inl w) = absurd (omega (arith, v.0, w.0))
  pause_one ticks part a b (inr v) (inr w) = v.1 ∙ sym w.1

  -- ---- where the link didn't fail

  calm_one : (k : Command) (a b : Told) (next other : Counts) (part : List Step) → faults_told a ≡ 0 → faults_told b ≡ 0 → Cause settled c n k a next part → Cause settled c n k b other part → ◌≡◌ {A = Ending} (a, next) (b, other)
  calm_one command.Addr a b next other part x y f g = addr_one part (a, next) (b, other) (addr_went a next part x f) (addr_went b other part y g)
  calm_one command.Boot a b next other part x y f g = boot_one part (a, next) (b, other) (boot_went a next part x f) (boot_went b other part y g)
  calm_one (command.Wait ticks) a b next other part x y f g = pause_one ticks part (a, next) (b, other) (pause_went ticks a next part x f) (pause_went ticks b other part y g)

-- ---- faults of the link

-- the link failed, or it didn't
fault_or : (a : Told) → (faults_told a ≡ 0) ⊎ (faults_told a ≡ 1)
fault_or AddrLinkFault = inr refl
fault_or BootLinkFault = inr refl
fault_or (WaitLinkFault ticks) = inr refl
fault_or a = inl refl

-- a command has one such answer
abbrev fault_of : Command → Told
fault_of command.Addr = AddrLinkFault
fault_of command.Boot = BootLinkFault
fault_of (command.Wait ticks) = WaitLinkFault ticks

fault_end : (program : List ℕ) (end : RowEnd End) (a : Told) → faults_told a ≡ 1 → a ≡ answer_of program end → a ≡ BootLinkFault
fault_end program (came no_mount) a one is = let e = sym (ap faults_told is) ∙ one in absurd cc
fault_end program (came found_mount) a one is = let e = sym (ap faults_told is) ∙ one in absurd cc
fault_end program (timed_out step) a one is = let e = sym (ap faults_told is) ∙ one in absurd cc
fault_end program (flooded step) a one is = let e = sym (ap faults_told is) ∙ one in absurd cc
fault_end program (denied step code) a one is = let e = sym (ap faults_told is) ∙ one in absurd cc
fault_end program (failed step) a one is = is

one_fault : (settled : List Step → Type 0) (c : Config) (n : Counts) (k : Command) (a : Told) (next : Counts) (part : List Step) → faults_told a ≡ 1 → Cause settled c n k a next part → a ≡ fault_of k
one_fault settled c n _ _ _ part one (addr_ok learned _ h) = absurd cc
one_fault settled c n _ _ _ part one (addr_timeout _ h) = absurd cc
one_fault settled c n _ _ _ part one (addr_flood _ h) = absurd cc
one_fault settled c n _ _ _ part one (addr_linkfault _ h) = refl
one_fault settled c n _ _ _ part one (boot_timeout_rarp _ h) = absurd cc
one_fault settled c n _ _ _ part one (boot_flood_rarp _ h) = absurd cc
one_fault settled c n _ _ _ part one (boot_linkfault_rarp _ h) = refl
one_fault settled c n _ _ _ part one (boot_timeout_tftp _ h) = absurd cc
one_fault settled c n _ _ _ part one (boot_flood_tftp _ h) = absurd cc
one_fault settled c n _ _ _ part one (boot_linkfault_tftp _ h) = refl
one_fault settled c n _ _ _ part one (boot_refused code _ h) = absurd cc
one_fault settled c n _ _ _ part one (boot_too_large size _ h) = absurd cc
one_fault settled c n _ a _ part one (boot_calls program end _ _ _ is h) = fault_end program end a one is
one_fault settled c n _ _ _ part one (wait_ok ticks _ h) = absurd cc
one_fault settled c n _ _ _ part one (wait_flood ticks _ h) = absurd cc
one_fault settled c n _ _ _ part one (wait_linkfault ticks _ h) = refl

by_faults : (settled : List Step → Type 0) (c : Config) (n : Counts) (k : Command) (a b : Told) (next other : Counts) (part : List Step) → (faults_told a ≡ 0) ⊎ (faults_told a ≡ 1) → IsCaused settled c n k a next part → IsCaused settled c n k b other part → a ≡ b
by_faults settled c n k a b next other part (inl none) f g = ap (λ (e : Ending). e.0) (calm_one settled c n k a b next other part none (sym g.fails ∙ f.fails ∙ none) f.cause g.cause)
by_faults settled c n k a b next other part (inr one) f g = one_fault settled c n k a next part one f.cause ∙ sym (one_fault settled c n k b other part (sym g.fails ∙ f.fails ∙ one) g.cause)

pub has_one_answer : HasOneAnswer
has_one_answer h n k a b next other part f g = by_faults (IsSettledBy h) h.config n k a b next other part (fault_or a) f g

pub has_one_count : HasOneCount
has_one_count h n k a b next other part none f g = ap (λ (e : Ending). e.1) (calm_one (IsSettledBy h) h.config n k a b next other part (sym f.fails ∙ none) (sym g.fails ∙ none) f.cause g.cause)
