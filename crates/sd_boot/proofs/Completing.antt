-- In a calm script each command is ok.
use Rattle.std.proofs.Common.{◌≡◌, ℕ, ◌*◌, ◌==◌, ◌≤◌, Bool, true, false, cond, List, [], ◌∷◌, ◌++◌, length, Some, None, refl, sym, ◌∙◌, ap, subst, arith, append_assoc, length-append}
use Rattle.std.proofs.lemmas.Grind.{flat_map-append}
use Rattle.std.proofs.lemmas.List.{append-nil}
use Rattle.std.specs.Prelude.{◌≢◌}
use Rattle.std.specs.List.{flat_map, AllByRecursion}
use Rattle.sd_outside.specs.declared.packet.Packet.{Packet}
use Rattle.sd_config.specs.declared.config.Config.{Config}
use Rattle.sd_config.specs.declared.events.Fate.{Fate}
use Rattle.sd_config.specs.declared.stage.Stage.TheVariants as stage
use Rattle.sd_config.specs.Config.{IsConfig}
use Rattle.sd_config.specs.Events.{Fates, fate_in}
use Rattle.sd_config.specs.Plan.{plan_of}
use Rattle.sd_config.proofs.Lists.{all_split}
use Rattle.sd_link.specs.World.{World, start}
use Rattle.sd_link.specs.Steps.{Step, Send, Get, Entry, Got, after, entries_of, run, record_of, AllAllowed, goes_to_client}
use Rattle.sd_link.specs.Parts.{sends_in, got_in, ticks_in, fails_in}
use Rattle.sd_outside.specs.Streams.{IsPrefixOf}
use Rattle.sd_link.specs.Lawful.{IsLawful, AllInTurn, InTurn, AllGot, Settles, SendsSettled, to_client, id_at, got_at, due_to_client}
use Rattle.sd_link.proofs.Histories.{run-append, allowed-split, record-append, sends-append, got-append, ticks-append}
use Rattle.sd_script.specs.declared.script.Script.{Script}
use Rattle.sd_config.specs.declared.command.Command.{Command}
use Rattle.sd_config.specs.declared.command.Command.TheVariants.{Addr, Boot, Wait}
use Rattle.sd_config.specs.declared.told.Told.{Told}
use Rattle.sd_config.specs.declared.told.Told.TheVariants.{AddrOk, AddrTimeout, AddrFlood, AddrLinkFault, BootUnbuilt, BootTimeout, BootFlood, BootDenied, BootRefused, BootNoPort, BootTooLarge, BootLinkFault, WaitOk, WaitFlood, WaitLinkFault}
use Rattle.sd_link.specs.Tries.{AreUnmatched, RepliesAtOnce, beyond}
use Rattle.sd_claims.specs.Rarp.{Learned, rarp_hearing, learned_from}
use Rattle.sd_claims.specs.Booting.{Counts, LearnsAddress, first_counts}
use Rattle.sd_claims.specs.Causes.{Cause, addr_ok, addr_timeout, addr_flood, addr_linkfault, boot_timeout_rarp, boot_flood_rarp, boot_linkfault_rarp, boot_timeout_tftp, boot_flood_tftp, boot_linkfault_tftp, boot_refused, boot_too_large, boot_calls, wait_ok, wait_flood, wait_linkfault, AddressTimedOut, AddressFlooded, faults_told}
use Rattle.sd_claims.specs.Waiting.{Waited, WaitFlooded}
use Rattle.sd_claims.specs.Transcript.{Done, AllCaused}
use Rattle.sd_claims.specs.Ending.{Ends, AllEnd}
use Rattle.sd_claims.specs.Session.{parts_of}
use Rattle.sd_claims.specs.Headline.{IsCalm, IsOk}
use Rattle.sd_rpc_retry.proofs.Settling.{silent-settled}
use Rattle.sd_rpc_retry.proofs.Getting.{sends_nothing}
use Rattle.sd_boot.proofs.Stages.{Stages, AllGo, Rests, pause_few, pause_rests, Spaced, spaced_tries, thin_first, tries_rest, reply_waits}
use Rattle.sd_boot.proofs.Unplanned.{IsCalmStep, calm_run, calm_fails}
use Rattle.sd_boot.proofs.Following.{plain, request_of, reply_of, tells, Stands, stands_start, none_waits, due_length, Followed, follow}

in_turn-split : (c : Config) (fates : Fates) (w : World) (entries : List Entry) (xs ys : List Step) → AllInTurn c fates w entries (xs ++ ys)
    → AllInTurn c fates w entries xs × AllInTurn c fates (run c w xs) (entries ++ record_of c w xs) ys
in_turn-split c fates w entries [] ys all = (tt, subst (λ (l : List Entry). AllInTurn c fates w l ys) (sym (append-nil entries)) all)
in_turn-split c fates w entries (x ∷ xs) ys all =
    let s = in_turn-split c fates (after c w x) (entries ++ entries_of c w x) xs ys all.1 in
    ((all.0, s.0), subst (λ (l : List Entry). AllInTurn c fates (run c (after c w x) xs) l ys) (append_assoc entries (entries_of c w x) (record_of c (after c w x) xs)) s.1)

got-then : (t : ℕ) (xs : List Entry) (id : ℕ) → got_at t (xs ++ Got t id ∷ []) ≡ got_at t xs ++ id ∷ []
got-then t xs id =
    let now : (t == t) ≡ true = grind arith in
    flat_map-append (λ (e : Entry). id_at t (to_client e)) xs (Got t id ∷ []) ∙ ap (λ (b : Bool). got_at t xs ++ (cond b (id ∷ []) [] ++ [])) now

-- a front that is as long is the whole
whole_front : (front due : List ℕ) → IsPrefixOf front due → length front ≡ length due → front ≡ due
whole_front front due ([], is) wide = sym (append-nil front) ∙ is
whole_front front due (x ∷ rest, is) wide = absurd (omega (arith, wide, ap length is, length-append front (x ∷ rest)))

-- ---- tries

-- the client sends nothing but the request
asks_only : (request : Packet) (rests : List (List Step)) → AllByRecursion (λ rest. sends_in rest ≡ []) rests → AllByRecursion (λ p. p ≡ request) (sends_in (flat_map (λ rest. Send request ∷ rest) rests))
asks_only request [] silent = tt
asks_only request (rest ∷ rests) silent =
    let more = flat_map (λ r. Send request ∷ r) rests in
    (refl, subst (λ (l : List Packet). AllByRecursion (λ p. p ≡ request) l) (sym (sends-append rest more ∙ ap (λ (l : List Packet). l ++ sends_in more) silent.0)) (asks_only request rests silent.1))

-- what the last try got is among all that was got
last_within : (request : Packet) (before : List (List Step)) (last : List Step) → length (got_in last) ≤ length (got_in (flat_map (λ rest. Send request ∷ rest) (before ++ last ∷ [])))
last_within request [] last = let same = ap (λ (l : List Step). length (got_in l)) (append-nil last) in omega (arith, same)
last_within request (rest ∷ rests) last =
    let more = flat_map (λ r. Send request ∷ r) (rests ++ last ∷ []) in
    omega (arith, ap length (got-append rest more), length-append (got_in rest) (got_in more), last_within request rests last)

-- all tries together begin with a send and last at least two ticks
lasting : (request : Packet) (tries wait : ℕ) (rests : List (List Step)) → 1 ≤ tries → 1 ≤ wait → 2 ≤ tries * wait → length rests ≡ tries → AllByRecursion (λ rest. ticks_in rest ≡ wait) rests
    → (rest : List Step) × (flat_map (λ r. Send request ∷ r) rests ≡ Send request ∷ rest) × (2 ≤ ticks_in rest)
lasting request tries wait [] some least two all waited = absurd (omega (arith, all))
lasting request tries wait (r ∷ []) some least two all waited =
    let once : 2 ≤ 1 * wait = subst (λ (n : ℕ). 2 ≤ n * wait) (sym all) two in
    (r ++ [], refl, omega (arith, once, waited.0, ap ticks_in (append-nil r)))
lasting request tries wait (r ∷ q ∷ rests) some least two all waited =
    let more = flat_map (λ r. Send request ∷ r) rests in
    (r ++ (Send request ∷ (q ++ more)), refl, omega (arith, ticks-append r (Send request ∷ (q ++ more)), ticks-append q more, waited.0, waited.1.0))

module _ (c : Config) (is : IsConfig c) where
  -- a client that asks for its address sends nothing for what it gets
  nothing_else : (rests : List (List Step)) → AllByRecursion (RepliesAtOnce (rarp_hearing c.client.mac).replies) rests → AllByRecursion (λ rest. sends_in rest ≡ []) rests
  nothing_else [] replied = tt
  nothing_else (rest ∷ rests) replied = (sends_nothing (rarp_hearing c.client.mac) rest (λ packet. refl) replied.0, nothing_else rests replied.1)

  -- each reply matches
  unmatched-none : (packets : List Packet) → AllByRecursion (λ p. p ≡ reply_of c) packets → AreUnmatched (learned_from c.client.mac) packets → packets ≡ []
  unmatched-none [] all none = refl
  unmatched-none (p ∷ ps) all none = absurd (never (sym none.0 ∙ ap (learned_from c.client.mac) all.0 ∙ tells c is))
    where
      never : {x : Learned} → None ≡ Some x → ⊥
      never same = cc

  -- where the last step brought the last that was due, nothing waits
  last_here : (w : World) (entries : List Entry) (t : Stages) (id : ℕ) (packet : Packet) → InTurn c plain w entries (Get id packet) → Stands c is w (entries ++ Got w.tick id ∷ []) t → t.waiting ≡ 0
      → AllGot c plain w (entries ++ Got w.tick id ∷ [])
  last_here w entries t id packet turn at none =
      let now = got-then w.tick entries id in
      whole_front (got_at w.tick (entries ++ Got w.tick id ∷ [])) (due_to_client c plain w)
      (subst (λ (l : List ℕ). IsPrefixOf l (due_to_client c plain w)) (sym now) turn.1)
      (omega (arith, at.waiting, none, due_length (goes_to_client c) w.tick w.flight))

  last_settles : (w : World) (entries : List Entry) (t : Stages) (steps : List Step) (id : ℕ) (packet : Packet) → AllInTurn c plain w entries (steps ++ Get id packet ∷ [])
      → Stands c is (run c w (steps ++ Get id packet ∷ [])) (entries ++ record_of c w (steps ++ Get id packet ∷ [])) t → t.waiting ≡ 0 → Settles c plain w entries (steps ++ Get id packet ∷ [])
  last_settles w entries t steps id packet turns at none =
      let last = Get id packet ∷ [] in
      let v = run c w steps in
      let so_far = entries ++ record_of c w steps in
      let there : run c w (steps ++ last) ≡ v = run-append c w steps last in
      let lines : entries ++ record_of c w (steps ++ last) ≡ so_far ++ Got v.tick id ∷ [] =
      ap (λ (l : List Entry). entries ++ l) (record-append c w steps last) ∙ sym (append_assoc entries (record_of c w steps) (Got v.tick id ∷ [])) in
      let at_there = subst (λ (u : World). Stands c is u (so_far ++ Got v.tick id ∷ []) t) there (subst (λ (l : List Entry). Stands c is (run c w (steps ++ last)) l t) lines at) in
      let s = in_turn-split c plain w entries steps last turns in
      subst (λ (u : World). AllGot c plain u (entries ++ record_of c w (steps ++ last))) (sym there)
      (subst (λ (l : List Entry). AllGot c plain v l) (sym lines) (last_here v so_far t id packet s.1.0 at_there none))

  -- ---- one command

  -- the command is ok, and all rests again
  record Next (w : World) (entries : List Entry) (answer : Told) (part : List Step) : Type 0 where
    pub ok : IsOk answer
    pub t : Stages
    pub stands : Stands c is (run c w part) (entries ++ record_of c w part) t
    pub rests : Rests t
    pub settled : Settles c plain w entries part

  module _ (settled_by : List Step → Type 0) (patient : 2 ≤ c.tries * c.wait) (w : World) (entries : List Entry) (s : Stages) (part : List Step) (at : Stands c is w entries s) (rests : Rests s) (settled : AllGot c plain w entries) (calm : AllByRecursion IsCalmStep part) (allowed : AllAllowed c w part) (turns : AllInTurn c plain w entries part) where
    follow_silent : sends_in part ≡ [] → Followed c is w entries s part
    follow_silent silent =
        follow c is w entries s part at calm allowed turns (silent-settled c plain w entries part silent) (subst (λ (l : List Packet). AllByRecursion (λ p. p ≡ request_of c) l) (sym silent) tt)

    follow_tries : (rests : List (List Step)) → part ≡ flat_map (λ rest. Send (request_of c) ∷ rest) rests → AllByRecursion (λ rest. sends_in rest ≡ []) rests → SendsSettled c plain w entries part
        → Followed c is w entries s part
    follow_tries rests cut silent sends =
        follow c is w entries s part at calm allowed turns sends (subst (λ (l : List Step). AllByRecursion (λ p. p ≡ request_of c) (sends_in l)) (sym cut) (asks_only (request_of c) rests silent))

    address_next : (learned : Learned) → LearnsAddress settled_by c learned part → Ends c plain w entries (AddrOk learned.address) part → Next w entries (AddrOk learned.address) part
    address_next learned caused ended =
        let asks = caused.asks in
        let silent = nothing_else (asks.before ++ asks.last ∷ []) asks.is.replied in
        let f = follow_tries (asks.before ++ asks.last ∷ []) asks.is.cut silent (ended.1 settled) in
        let last = ended.0 in
        let spaced = subst (λ (l : List Step). Spaced 0 l) (sym asks.is.cut) (spaced_tries (request_of c) c.wait asks.before asks.last is.wait.0 silent asks.vain.waited) in
        let again = tries_rest 0 s f.t last.0 last.1 last.2 (thin_first s rests) (subst (λ (l : List Step). Spaced 0 l) last.3 spaced) (subst (λ (l : List Step). AllGo s l f.t) last.3 f.goes) in
        record {
          ok = tt;
          t = f.t;
          stands = f.stands;
          rests = again;
          settled =
              subst (λ (l : List Step). Settles c plain w entries l) (sym last.3)
              (last_settles w entries f.t last.0 last.1 last.2 (subst (λ (l : List Step). AllInTurn c plain w entries l) last.3 turns)
              (subst (λ (l : List Step). Stands c is (run c w l) (entries ++ record_of c w l) f.t) last.3 f.stands) again.none_waits);
        }

    no_timeout : AddressTimedOut settled_by c part → Ends c plain w entries AddrTimeout part → ⊥
    no_timeout caused ended =
        let ends = ended settled in
        let f = follow_tries caused.rests caused.is.cut (nothing_else caused.rests caused.is.replied) ends.0 in
        let none = unmatched-none (got_in part) f.replies caused.unmatched in
        let long = lasting (request_of c) c.tries c.wait caused.rests is.tries.0 is.wait.0 patient caused.all caused.vain.waited in
        let cut : part ≡ Send (request_of c) ∷ long.0 = caused.is.cut ∙ long.1 in
        let goes : AllGo s (Send (request_of c) ∷ long.0) f.t = subst (λ (l : List Step). AllGo s l f.t) cut f.goes in
        let got_none : got_in long.0 ≡ [] = sym (ap got_in cut) ∙ none in
        let waits = reply_waits goes.0 f.t long.0 goes.2 got_none (omega (arith, goes.1.new_sent)) long.2 in
        omega (arith, waits, none_waits c is (run c w part) (entries ++ record_of c w part) f.t f.stands ends.1)

    no_flood : AddressFlooded settled_by c part → Ends c plain w entries (AddrFlood stage.Rarp) part → ⊥
    no_flood caused ended =
        let asks = caused.asks in
        let f = follow_tries (asks.before ++ asks.last ∷ []) asks.is.cut (nothing_else (asks.before ++ asks.last ∷ []) asks.is.replied) (ended settled) in
        let none = unmatched-none (got_in part) f.replies caused.unmatched in
        omega (arith, caused.many, last_within (request_of c) asks.before asks.last, ap (λ (l : List Step). length (got_in l)) asks.is.cut, ap length none)

    pause_next : (ticks : ℕ) → Waited settled_by ticks part → Ends c plain w entries (WaitOk ticks) part → Next w entries (WaitOk ticks) part
    pause_next ticks caused ended =
        let silent = caused.silent in
        let f = follow_silent silent in
        record {
          ok = tt;
          t = f.t;
          stands = f.stands;
          rests = pause_rests s f.t part rests f.goes silent (none_waits c is (run c w part) (entries ++ record_of c w part) f.t f.stands ended);
          settled = ended;
        }

    no_wait_flood : (ticks : ℕ) → WaitFlooded ticks part → ⊥
    no_wait_flood ticks caused =
        let silent = caused.silent in
        let f = follow_silent silent in
        omega (arith, caused.many, pause_few s f.t part rests f.goes silent)

    next : (n after : Counts) (command : Command) (answer : Told) → command ≢ Boot → fails_in part ≡ faults_told answer → Cause settled_by c n command answer after part → Ends c plain w entries answer part → Next w entries answer part
    next n _ _ _ other fails (addr_ok learned _ caused) ended = address_next learned caused ended
    next n _ _ _ other fails (addr_timeout _ caused) ended = absurd (no_timeout caused ended)
    next n _ _ _ other fails (addr_flood _ caused) ended = absurd (no_flood caused ended)
    next n _ _ _ other fails (addr_linkfault _ h) ended = absurd (omega (arith, fails, calm_fails part calm))
    next n _ _ _ other fails (boot_timeout_rarp _ h) ended = absurd (other refl)
    next n _ _ _ other fails (boot_flood_rarp _ h) ended = absurd (other refl)
    next n _ _ _ other fails (boot_linkfault_rarp _ h) ended = absurd (other refl)
    next n _ _ _ other fails (boot_timeout_tftp _ h) ended = absurd (other refl)
    next n _ _ _ other fails (boot_flood_tftp _ h) ended = absurd (other refl)
    next n _ _ _ other fails (boot_linkfault_tftp _ h) ended = absurd (other refl)
    next n _ _ _ other fails (boot_refused code _ h) ended = absurd (other refl)
    next n _ _ _ other fails (boot_too_large size _ h) ended = absurd (other refl)
    next n _ _ _ other fails (boot_calls program end _ _ _ is h) ended = absurd (other refl)
    next n _ _ _ other fails (wait_ok ticks _ caused) ended = pause_next ticks caused ended
    next n _ _ _ other fails (wait_flood ticks _ caused) ended = absurd (no_wait_flood ticks caused)
    next n _ _ _ other fails (wait_linkfault ticks _ h) ended = absurd (omega (arith, fails, calm_fails part calm))

  -- ---- all commands

  all_ok : (settled_by : List Step → Type 0) → 2 ≤ c.tries * c.wait → (w : World) (entries : List Entry) (s : Stages) (m : Counts) (commands : List Command) (done : List Done) → AllByRecursion (λ command. command ≢ Boot) commands → Stands c is w entries s → Rests s → AllGot c plain w entries
      → AllByRecursion IsCalmStep (parts_of done) → AllAllowed c w (parts_of done) → AllInTurn c plain w entries (parts_of done) → AllCaused settled_by c m commands done → AllEnd c plain w entries done → AllByRecursion (λ d. IsOk d.answer) done
  all_ok settled_by patient w entries s m commands [] others at rests settled calm allowed turns caused ended = tt
  all_ok settled_by patient w entries s m [] (d ∷ ds) others at rests settled calm allowed turns caused ended = absurd caused
  all_ok settled_by patient w entries s m (k ∷ ks) (d ∷ ds) others at rests settled calm allowed turns caused ended =
      let q = all_split IsCalmStep d.part (parts_of ds) calm in
      let a = allowed-split c w d.part (parts_of ds) allowed in
      let t = in_turn-split c plain w entries d.part (parts_of ds) turns in
      let n = next settled_by patient w entries s d.part at rests settled q.0 a.0 t.0 m d.counts k d.answer others.0 caused.0.fails caused.0.cause ended.0 in
      (n.ok, all_ok (beyond settled_by d.part) patient (run c w d.part) (entries ++ record_of c w d.part) n.t d.counts ks ds others.1 n.stands n.rests n.settled q.1 a.1 t.1 caused.1 ended.1)

-- all answers of a calm script are ok
pub complete : (settled_by : List Step → Type 0) (s : Script) → IsConfig s.config → (commands : List Command) (done : List Done) (more : List Step) → IsLawful s.config (plan_of s.events) (parts_of done ++ more)
    → AllCaused settled_by s.config first_counts commands done → AllEnd s.config (plan_of s.events).fates (start s.config) [] done → AllByRecursion (λ command. command ≢ Boot) commands → IsCalm s
    → AllByRecursion (λ d. IsOk d.answer) done
complete settled_by s is commands done more law caused ended others calm =
    let c = s.config in
    let steps = parts_of done in
    let quiet = (all_split IsCalmStep steps more (calm_run c s.events (steps ++ more) calm.quiet law)).0 in
    let allowed = (allowed-split c (start c) steps more law.orderly.allowed).0 in
    let turns = (in_turn-split c (plan_of s.events).fates (start c) [] steps more law.orderly.in_turn).0 in
    all_ok c is settled_by calm.patient (start c) [] (record { sent = 0; asked = 0; replied = 0; waiting = 0 }) first_counts commands done others (stands_start c is)
    (record { none_sent = refl; few = omega arith; none_waits = refl }) refl quiet allowed
    (subst (λ (l : List Fate). AllInTurn c (fate_in l) (start c) [] steps) calm.quiet.fates turns) caused
    (subst (λ (l : List Fate). AllEnd c (fate_in l) (start c) [] done) calm.quiet.fates ended)
