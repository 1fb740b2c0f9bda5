-- From a session over a lawful history to the transcript of a script.
use Rattle.std.specs.List.{AllByRecursion}
use Rattle.std.proofs.lemmas.List.{append-nil}
use Rattle.std.proofs.Common.{◌≡◌, ℕ, zero, suc, ◌<◌, Bool, false, cond, List, [], ◌∷◌, ◌++◌, take, Option, Some, Result, Ok, Err, refl, sym, ◌∙◌, ap, subst, arith, inl, inr}
use Rattle.std.specs.Prelude.{◌⊎◌, ◌≢◌, ◌==◌, filter, map, OnErr}
use Rattle.sd_outside.specs.Streams.{Gains}
use Rattle.sd_config.specs.declared.config.Config.{Config}
use Rattle.sd_config.specs.declared.config.ClientConfig.{ClientConfig}
use Rattle.sd_config.specs.declared.events.Events.{Events}
use Rattle.sd_config.specs.Config.{IsConfig, IsFor}
use Rattle.sd_config.specs.declared.events.Stranger.{Stranger}
use Rattle.sd_config.specs.Events.{IsStranger, IsEvents}
use Rattle.sd_config.specs.Plan.{strays_packet, plan_of}
use Rattle.sd_config.proofs.Lists.{all_recursive}
use Rattle.sd_link.specs.World.{World, start}
use Rattle.sd_link.specs.Steps.{Step, History, world_of, whole_record}
use Rattle.sd_link.specs.Lawful.{IsOrderly, FailsAsPlanned, IsLawful, EndsAtRest, Settles}
use Rattle.sd_link.specs.Printing.{record_text}
use Rattle.sd_link.specs.Link.{GoesOn, Moves, IsAtRestBy, IsDrained, last_tick}
use Rattle.sd_link.proofs.Histories.{world-goes, tick-run, allowed-split}
use Rattle.sd_script.specs.declared.script.Script.{Script}
use Rattle.sd_config.specs.declared.command.Command.{Command}
use Rattle.sd_config.specs.declared.command.Command.TheVariants.{Boot}
use Rattle.sd_claims.specs.Booting.{first_counts}
use Rattle.sd_claims.specs.Transcript.{Done, AllCaused}
use Rattle.sd_claims.specs.Ending.{AllEnd}
use Rattle.sd_claims.specs.Session.{parts_of, IsSession, IsCutSession}
use Rattle.sd_claims.specs.Headline.{AreDone, IsCalm, Plays, PlaysPrefix, written}
use Rattle.sd_rpc_retry.specs.Lasting.{Lasts}
use Rattle.sd_boot_chain.specs.Durations.{most_session_ticks}
use Rattle.sd_streams.proofs.Gaining.{gains_nothing}
use Rattle.sd_streams.specs.Writing.{GainsSome}
use Rattle.sd_boot.specs.Play.{script_of}
use Rattle.sd_boot.proofs.Honest.{answers_run}
use Rattle.sd_boot.proofs.Completing.{complete}

-- the history of a script at its start
abbrev pub first_history : Script → History
first_history s = record { config = s.config; events = s.events; steps = [] }

-- a history in which nothing happened is a script's at its start
pub first_of : (h : History) (commands : List Command) → h.steps ≡ [] → h ≡ first_history (script_of h commands)
first_of h commands nothing = ap (λ (steps : List Step). record { config = h.config; events = h.events; steps = steps }) nothing

-- nothing happened and nothing was drained, so all was
pub all_drained : (s : Script) (old : History) (drained : List ℕ) → old ≡ first_history s → drained ≡ [] → IsDrained (Some old) drained
all_drained s old drained first none = none ∙ sym (ap (λ (h : History). record_text (whole_record h)) first)

-- ---- the law of the link, told of the script

abbrev pub OrderlyHistory : History → Type 0
OrderlyHistory h = IsOrderly h.config (plan_of h.events) h.steps

abbrev pub PlannedHistory : History → Type 0
PlannedHistory h = FailsAsPlanned h.config (plan_of h.events) h.steps

abbrev pub LawfulHistory : History → Type 0
LawfulHistory h = IsLawful h.config (plan_of h.events) h.steps

lawful_part : (s : Script) (new : History) (part : List Step) → GoesOn (first_history s) new part → LawfulHistory new → IsLawful s.config (plan_of s.events) part
lawful_part s new part goes law =
    subst (λ (l : List Step). IsLawful s.config (plan_of s.events) l) goes.steps
    (subst (λ (e : Events). IsLawful s.config (plan_of e) new.steps) goes.events (subst (λ (c : Config). IsLawful c (plan_of new.events) new.steps) goes.config law))

-- what holds of all holds of the first of them
all_taken : {A : Type 0} (P : A → Type 0) (count : ℕ) (xs : List A) → AllByRecursion P xs → AllByRecursion P (take count xs)
all_taken P zero xs all = tt
all_taken P (suc count) [] all = tt
all_taken P (suc count) (x ∷ xs) all = (all.0, all_taken P count xs all.1)

-- what waits for the client, told of the steps since the start
abbrev settled_of : Script → List Step → Type 0
settled_of s steps = Settles s.config (plan_of s.events).fates (start s.config) [] steps

-- strangers send from tick 1 on
none_yet : (client server : ℕ) (lines : List Stranger) → AllByRecursion (IsStranger client server) lines → map strays_packet (filter (λ line. line.tick == 0) lines) ≡ []
none_yet client server [] all = refl
none_yet client server (line ∷ lines) all =
    let later : (line.tick == 0) ≡ false = grind (arith, all.0.tick.0) in
    ap (λ (b : Bool). map strays_packet (cond b (line ∷ filter (λ line. line.tick == 0) lines) (filter (λ line. line.tick == 0) lines))) later ∙ none_yet client server lines all.1

rests_first : (s : Script) → IsEvents s.config s.events → EndsAtRest s.config (plan_of s.events) []
rests_first s are = record {
  server = (refl, refl);
  strangers = sym (none_yet s.config.client.ip s.config.server.ip s.events.strangers (all_recursive (IsStranger s.config.client.ip s.config.server.ip) s.events.strangers are.strangers));
}

-- what a session says of the server's rest, told of the script: at the start nothing is due
rests_so : (s : Script) (done : List Done) → IsEvents s.config s.events → (done ≡ []) ⊎ IsAtRestBy (first_history s) (parts_of done) → EndsAtRest s.config (plan_of s.events) (parts_of done)
rests_so s done are (inl none) = subst (λ (d : List Done). EndsAtRest s.config (plan_of s.events) (parts_of d)) (sym none) (rests_first s are)
rests_so s done are (inr rests) = rests

-- commands that were done over a lawful history, each with its cause and ending as it says, are done as the script owes
done_so : (s : Script) → IsConfig s.config → (commands : List Command) (done : List Done) (more : List Step) → IsLawful s.config (plan_of s.events) (parts_of done ++ more) → EndsAtRest s.config (plan_of s.events) (parts_of done)
    → AllCaused (settled_of s) s.config first_counts commands done → AllEnd s.config (plan_of s.events).fates (start s.config) [] done → (IsCalm s → AllByRecursion (λ command. command ≢ Boot) commands) → AreDone s commands done more
done_so s is commands done more law rests caused ended others = record {
  lawful = law;
  rests = rests;
  machine = answers_run s.config is (settled_of s) commands done (allowed-split s.config (start s.config) (parts_of done) more law.orderly.allowed).0 caused;
  caused = caused;
  complete = λ calm. complete (settled_of s) s is commands done more law caused ended (others calm) calm;
}

-- ---- the whole

pub played : (s : Script) (client : ClientConfig) (drained : List ℕ) (before after : Option (List ℕ)) (new : History) → IsConfig s.config → IsEvents s.config s.events → IsFor s.config client → LawfulHistory new
    → drained ≡ record_text (whole_record (first_history s))
    → Moves (Some (first_history s)) (Some new) (λ old part. IsFor old.config client → IsSession s.commands drained before after old part)
    → (out : List ℕ) × Gains before after out × Plays s out
played s client drained before after new is are is_for law all moved =
    let part = moved.0 in
    let session = moved.2 is_for in
    let whole : part ≡ parts_of session.done ++ [] = session.cut ∙ sym (append-nil (parts_of session.done)) in
    let lawful = subst (λ (l : List Step). IsLawful s.config (plan_of s.events) l) whole (lawful_part s new part moved.1 law) in (
      written s session.done,
      session.text all,
      record { done = session.done; all = done_so s is s.commands session.done [] lawful (rests_so s session.done are session.rests) session.caused session.ended (λ calm. calm.no_boot); whole = refl },
    )

pub cut_short : (s : Script) (client : ClientConfig) (drained : List ℕ) (before after : Option (List ℕ)) (new : History) → IsConfig s.config → IsEvents s.config s.events → IsFor s.config client → LawfulHistory new
    → drained ≡ record_text (whole_record (first_history s))
    → Moves (Some (first_history s)) (Some new) (λ old part. IsFor old.config client → IsCutSession s.commands drained before after old part)
    → (out : List ℕ) × Gains before after out × PlaysPrefix s out
cut_short s client drained before after new is are is_for law all moved =
    let part = moved.0 in
    let session = moved.2 is_for in
    let gained = session.text all in
    let lawful = subst (λ (l : List Step). IsLawful s.config (plan_of s.events) l) session.cut (lawful_part s new part moved.1 law) in (
      gained.0,
      gained.2,
      record {
        count = session.count;
        done = session.done;
        more = session.more;
        some = done_so s is (take session.count s.commands) session.done session.more lawful (rests_so s session.done are session.rests) session.caused session.ended (λ calm. all_taken _ session.count s.commands calm.no_boot);
        prefix = gained.1;
      },
    )

-- ---- a session ends long before the last tick

early : (s : Script) (new : History) → Lasts most_session_ticks (Some (first_history s)) (Some new) → (world_of new).tick < last_tick
early s new moved =
    let part = moved.0 in
    let there = ap (λ (w : World). w.tick) (world-goes (first_history s) new part moved.1) in
    let sum = tick-run s.config (start s.config) part in
    let short = moved.2 in
    omega (arith, there, sum, short)

-- no more receives fail than are planned
lawful_so : (s : Script) (new : History) (tick : ℕ) → OrderlyHistory new → PlannedHistory new ⊎ (tick ≡ last_tick) → (world_of new).tick ≡ tick → Lasts most_session_ticks (Some (first_history s)) (Some new) → LawfulHistory new
lawful_so s new tick orderly (inl planned) clock lasts = record { orderly = orderly; receives = planned }
lawful_so s new tick orderly (inr end) clock lasts = absurd (omega (arith, end, clock, early s new lasts))

-- ---- a session over a new segment, whatever came of it

pub on_err : {T E P : Type 0} (r : Result T E) → P → OnErr r P
on_err (Ok x) p = tt
on_err (Err e) p = p

lawful_start : (s : Script) → IsLawful s.config (plan_of s.events) []
lawful_start s = record { orderly = record { allowed = tt; in_turn = tt; stops = tt; strays = tt; sends = tt; faults = omega arith }; receives = omega arith }

-- nothing was done
pub unplayed : (s : Script) (told : Option (List ℕ)) → IsEvents s.config s.events → GainsSome told told (PlaysPrefix s)
unplayed s told are = (
  [],
  gains_nothing told,
  record { count = 0; done = []; more = []; some = record { lawful = lawful_start s; rests = rests_first s are; machine = tt; caused = tt; complete = λ calm. tt }; prefix = ([], refl) },
)

pub play_done : (s : Script) (client : ClientConfig) (drained : List ℕ) (before after : Option (List ℕ)) (old new : History) (tick : ℕ) → IsConfig s.config → IsEvents s.config s.events → IsFor s.config client
    → old ≡ first_history s → OrderlyHistory new → PlannedHistory new ⊎ (tick ≡ last_tick) → (world_of new).tick ≡ tick → Lasts most_session_ticks (Some old) (Some new)
    → drained ≡ record_text (whole_record old)
    → Moves (Some old) (Some new) (λ h part. IsFor h.config client → IsSession s.commands drained before after h part)
    → GainsSome before after (Plays s)
play_done s client drained before after old new tick is are is_for first orderly planned clock lasts all moved =
    let lasts_so = subst (λ (h : History). Lasts most_session_ticks (Some h) (Some new)) first lasts in
    let law = lawful_so s new tick orderly planned clock lasts_so in
    played s client drained before after new is are is_for law (subst (λ (h : History). drained ≡ record_text (whole_record h)) first all)
    (subst (λ (h : History). Moves (Some h) (Some new) (λ h part. IsFor h.config client → IsSession s.commands drained before after h part)) first moved)

pub play_cut : (s : Script) (client : ClientConfig) (drained : List ℕ) (before after : Option (List ℕ)) (old new : History) (tick : ℕ) → IsConfig s.config → IsEvents s.config s.events → IsFor s.config client
    → old ≡ first_history s → OrderlyHistory new → PlannedHistory new ⊎ (tick ≡ last_tick) → (world_of new).tick ≡ tick → Lasts most_session_ticks (Some old) (Some new)
    → drained ≡ record_text (whole_record old)
    → Moves (Some old) (Some new) (λ h part. IsFor h.config client → IsCutSession s.commands drained before after h part)
    → GainsSome before after (PlaysPrefix s)
play_cut s client drained before after old new tick is are is_for first orderly planned clock lasts all moved =
    let lasts_so = subst (λ (h : History). Lasts most_session_ticks (Some h) (Some new)) first lasts in
    let law = lawful_so s new tick orderly planned clock lasts_so in
    cut_short s client drained before after new is are is_for law (subst (λ (h : History). drained ≡ record_text (whole_record h)) first all)
    (subst (λ (h : History). Moves (Some h) (Some new) (λ h part. IsFor h.config client → IsCutSession s.commands drained before after h part)) first moved)
