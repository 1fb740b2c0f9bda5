-- The text of one command, and the transcript of one command more.
use Rattle.std.proofs.Common.{◌≡◌, ℕ, ◌+◌, List, [], ◌∷◌, ◌++◌, take, Option, Some, None, refl, sym, ◌∙◌, ap, subst, append_assoc, inl, inr}
use Rattle.std.specs.Prelude.{◌⊎◌, IfSome}
use Rattle.std.proofs.lemmas.Grind.{flat_map-append}
use Rattle.std.proofs.lemmas.List.{append-nil, append_cancel_left}
use Rattle.sd_outside.specs.Streams.{Gains}
use Rattle.sd_config.specs.declared.config.Config.{Config}
use Rattle.sd_config.specs.declared.events.Events.{Events}
use Rattle.sd_config.specs.Events.{Fates, fates_of}
use Rattle.sd_config.specs.Config.{IsFor}
use Rattle.sd_link.specs.World.{World}
use Rattle.sd_link.specs.Steps.{Step, Entry, History, world_of, whole_record, record_of, run}
use Rattle.sd_link.specs.Printing.{record_text, entry_text}
use Rattle.sd_link.specs.Link.{GoesOn, Moves, IsDrained, IsAtRest, IsAtRestBy, IsSettledBy}
use Rattle.sd_link.specs.Tries.{beyond}
use Rattle.sd_rpc_retry.proofs.Settling.{beyond-both, settled-beyond}
use Rattle.sd_link.proofs.Histories.{goes_then, record-append, record-goes, run-append, world-goes, rests-goes, rests-then, moves_weaker}
use Rattle.sd_config.specs.declared.command.Command.{Command}
use Rattle.sd_config.specs.declared.told.Told.{Told}
use Rattle.sd_script.specs.Answers.{answer_line}
use Rattle.sd_claims.specs.Causes.{IsCaused}
use Rattle.sd_claims.specs.Booting.{Counts, first_counts}
use Rattle.sd_claims.specs.Ending.{Ends, EndsAfter, AllEnd}
use Rattle.sd_claims.specs.Transcript.{Done, transcript, AllCaused}
use Rattle.sd_claims.specs.Session.{IsSession, IsCutSession, parts_of}
use Rattle.sd_streams.specs.Writing.{GainsPrefix}
use Rattle.sd_boot_chain.specs.Step.{ClientView, HasCounted, IsStep, IsAnswered, IsDone}
use Rattle.sd_streams.proofs.Gaining.{gains_then, gains_nothing}

-- what was drained is the text of the new entries
pub new_lines : (a b : History) (xs : List Step) (old new added : List ℕ) → GoesOn a b xs → new ≡ old ++ added → old ≡ record_text (whole_record a) → new ≡ record_text (whole_record b)
    → added ≡ record_text (record_of a.config (world_of a) xs)
new_lines a b xs old new added goes drains was is =
    append_cancel_left old added (record_text (record_of a.config (world_of a) xs))
    (sym drains ∙ is ∙ ap record_text (record-goes a b xs goes) ∙ flat_map-append entry_text (whole_record a) (record_of a.config (world_of a) xs)
    ∙ ap (λ (l : List ℕ). l ++ record_text (record_of a.config (world_of a) xs)) (sym was))

-- a part leads to the history that is told now
pub moves_to : (old new : Option History) (P : History → List Step → Type 0) (Q : History → Type 0) → IfSome new Q → Moves old new P → Moves old new (λ h part. (n : History) × GoesOn h n part × Q n × P h part)
moves_to None None P Q q m = tt
moves_to None (Some new) P Q q m = absurd m
moves_to (Some old) None P Q q m = absurd m
moves_to (Some old) (Some new) P Q q m = (m.0, m.1, (new, m.1, q, m.2))

both : (P Q : History → Type 0) (told : Option History) → IfSome told P → IfSome told Q → IfSome told (λ h. P h × Q h)
both P Q None p q = tt
both P Q (Some h) p q = (p, q)

-- one command: its answer, the lines that were drained, and the answer line
pub is_step : (old new : Option History) (client : ClientView) (command : Command) (answer : Told) (next : ClientView) (drained_old drained_new added text : List ℕ)
    → Moves old new (IsDone client command answer next)
    → IsDrained new drained_new → IfSome new IsAtRest
    → drained_new ≡ drained_old ++ added → text ≡ added ++ answer_line answer
    → Moves old new (IsStep client command drained_old text next)
is_step old new client command answer next drained_old drained_new added text moved whole rests drains is =
    moves_weaker old new _ (IsStep client command drained_old text next)
    (λ h part m. record {
      answer = answer;
      answered = m.3;
      shown = λ was. is ∙ ap (λ (l : List ℕ). l ++ answer_line answer) (new_lines h m.0 part drained_old drained_new added m.1 drains was m.2.0);
      rests = rests-goes h m.0 part m.1 m.2.1;
    })
    (moves_to old new _ (λ h. (drained_new ≡ record_text (whole_record h)) × IsAtRest h) (both (λ h. drained_new ≡ record_text (whole_record h)) IsAtRest new whole rests) moved)

-- what holds of the history that is told goes with its next part
pub moves_from : (old new : Option History) (P : History → List Step → Type 0) (Q : History → Type 0) → IfSome old Q → Moves old new P → Moves old new (λ h part. Q h × P h part)
moves_from None None P Q q m = tt
moves_from None (Some new) P Q q m = absurd m
moves_from (Some old) None P Q q m = absurd m
moves_from (Some old) (Some new) P Q q m = (m.0, m.1, (q, m.2))

-- what the client counts after these commands
abbrev pub counts_done : Counts → List Done → Counts
counts_done n [] = n
counts_done n (d ∷ ds) = counts_done d.counts ds

counts-push : (n : Counts) (done : List Done) (d : Done) → counts_done n (done ++ d ∷ []) ≡ d.counts
counts-push n [] d = refl
counts-push n (e ∷ es) d = counts-push e.counts es d

caused-push : (settled : List Step → Type 0) (c : Config) (n : Counts) (commands : List Command) (command : Command) (done : List Done) (d : Done) → AllCaused settled c n commands done
    → IsCaused (beyond settled (parts_of done)) c (counts_done n done) command d.answer d.counts d.part → AllCaused settled c n (commands ++ command ∷ []) (done ++ d ∷ [])
caused-push settled c n [] command [] d all one = (one, tt)
caused-push settled c n [] command (e ∷ es) d all one = absurd all
caused-push settled c n (k ∷ ks) command [] d all one = absurd all
caused-push settled c n (k ∷ ks) command (e ∷ es) d all one = (
  all.0,
  caused-push (beyond settled e.part) c e.counts ks command es d all.1
      (subst (λ (still : List Step → Type 0). IsCaused still c (counts_done e.counts es) command d.answer d.counts d.part) (beyond-both settled e.part (parts_of es)) one),
)

-- one command's text
abbrev pub text_of : Config → World → Done → List ℕ
text_of c w d = record_text (record_of c w d.part) ++ answer_line d.answer

transcript-push : (c : Config) (w : World) (done : List Done) (d : Done) → transcript c w (done ++ d ∷ []) ≡ transcript c w done ++ text_of c (run c w (parts_of done)) d
transcript-push c w [] d = ap (λ (l : List ℕ). record_text (record_of c w d.part) ++ l) (append-nil (answer_line d.answer))
transcript-push c w (e ∷ es) d =
    let w2 = run c w e.part in
    let here = record_text (record_of c w e.part) in
    let line = answer_line e.answer in
    let last = text_of c (run c w2 (parts_of es)) d in
    ap (λ (l : List ℕ). here ++ (line ++ l)) (transcript-push c w2 es d)
    ∙ ap (λ (l : List ℕ). here ++ l) (sym (append_assoc line (transcript c w2 es) last))
    ∙ sym (append_assoc here (line ++ transcript c w2 es) last)
    ∙ ap (λ (v : World). (here ++ (line ++ transcript c w2 es)) ++ text_of c v d) (sym (run-append c w e.part (parts_of es)))

parts-push : (done : List Done) (d : Done) → parts_of (done ++ d ∷ []) ≡ parts_of done ++ d.part
parts-push done d = flat_map-append (λ e. e.part) done (d ∷ []) ∙ ap (λ (l : List Step). parts_of done ++ l) (append-nil d.part)

-- one command more ends so
ends-push : (c : Config) (fates : Fates) (w : World) (entries : List Entry) (done : List Done) (d : Done) → AllEnd c fates w entries done
    → Ends c fates (run c w (parts_of done)) (entries ++ record_of c w (parts_of done)) d.answer d.part → AllEnd c fates w entries (done ++ d ∷ [])
ends-push c fates w entries [] d all one = (subst (λ (l : List Entry). Ends c fates w l d.answer d.part) (append-nil entries) one, tt)
ends-push c fates w entries (e ∷ es) d all one =
    let v = run c w e.part in
    let here = entries ++ record_of c w e.part in
    let there : entries ++ record_of c w (e.part ++ parts_of es) ≡ here ++ record_of c v (parts_of es) =
    ap (λ (l : List Entry). entries ++ l) (record-append c w e.part (parts_of es)) ∙ sym (append_assoc entries (record_of c w e.part) (record_of c v (parts_of es))) in (
      all.0,
      ends-push c fates v here es d all.1
          (subst (λ (u : World). Ends c fates u (here ++ record_of c v (parts_of es)) d.answer d.part) (run-append c w e.part (parts_of es))
          (subst (λ (l : List Entry). Ends c fates (run c w (e.part ++ parts_of es)) l d.answer d.part) there one)),
    )

session_ends : (a b : History) (xs ys : List Step) → GoesOn a b xs → (done : List Done) (answer : Told) (counts : Counts) → xs ≡ parts_of done → AllEnd a.config (fates_of a.events) (world_of a) (whole_record a) done → EndsAfter b answer ys
    → AllEnd a.config (fates_of a.events) (world_of a) (whole_record a) (done ++ record { part = ys; answer = answer; counts = counts } ∷ [])
session_ends a b xs ys goes done answer counts cut all one =
    ends-push a.config (fates_of a.events) (world_of a) (whole_record a) done (record { part = ys; answer = answer; counts = counts }) all
    (subst (λ (l : List Step). Ends a.config (fates_of a.events) (run a.config (world_of a) l) (whole_record a ++ record_of a.config (world_of a) l) answer ys) cut
    (subst (λ (l : List Entry). Ends a.config (fates_of a.events) (run a.config (world_of a) xs) l answer ys) (record-goes a b xs goes)
    (subst (λ (w : World). Ends a.config (fates_of a.events) w (whole_record b) answer ys) (world-goes a b xs goes)
    (subst (λ (e : Events). Ends a.config (fates_of e) (world_of b) (whole_record b) answer ys) goes.events
    (subst (λ (c : Config). Ends c (fates_of b.events) (world_of b) (whole_record b) answer ys) goes.config one)))))

-- a session so far, and the client after it; what was drained goes on being all
pub record SessionAt (commands : List Command) (drained drained_now : List ℕ) (before after : Option (List ℕ)) (client : ClientView) (old : History) (part : List Step) : Type 0 where
  pub session : IsSession commands drained before after old part
  pub counted : HasCounted client (counts_done first_counts session.done)
  pub kept : drained ≡ record_text (whole_record old) → drained_now ≡ record_text (whole_record old ++ record_of old.config (world_of old) part)

pub session_none : (drained : List ℕ) (told : Option (List ℕ)) (h : History) → IsSession [] drained told told h []
session_none drained told h = record { done = []; cut = refl; caused = tt; ended = tt; rests = inl refl; text = λ all. gains_nothing told }

pub session_first : (drained : List ℕ) (told : Option (List ℕ)) (client : ClientView) (h : History) → HasCounted client first_counts → SessionAt [] drained drained told told client h []
unfolding session_none
session_first drained told client h fresh = record {
  session = session_none drained told h;
  counted = fresh;
  kept = λ all. all ∙ ap record_text (sym (append-nil (whole_record h)));
}

-- a command more, with its cause and its text
module _ (client : ClientView) (commands : List Command) (command : Command) (first : List ℕ) (before mid : Option (List ℕ)) (drained text : List ℕ) (next : ClientView) (a b : History) (xs ys : List Step)
    (goes : GoesOn a b xs) (is_for : IsFor a.config client.config) (s : SessionAt commands first drained before mid client a xs) (t : IsStep client command drained text next b ys) where
  answered : (counts : Counts) × IsAnswered (counts_done first_counts s.session.done) command t.answer counts b ys × HasCounted next counts
  answered = t.answered (subst (λ (c : Config). IsFor c client.config) (sym goes.config) is_for) (counts_done first_counts s.session.done) s.counted

  last : Done
  last = record { part = ys; answer = t.answer; counts = answered.0 }

  so_far : List ℕ
  so_far = transcript a.config (world_of a) s.session.done

  line : List ℕ
  line = text_of a.config (run a.config (world_of a) (parts_of s.session.done)) last

  shown : first ≡ record_text (whole_record a) → text ≡ line
  unfolding last line
  shown all =
      t.shown (s.kept all ∙ ap record_text (sym (record-goes a b xs goes)))
      ∙ ap (λ (c : Config). text_of c (world_of b) last) goes.config
      ∙ ap (λ (w : World). text_of a.config w last) (world-goes a b xs goes ∙ ap (λ (l : List Step). run a.config (world_of a) l) s.session.cut)

  caused : AllCaused (IsSettledBy a) a.config first_counts (commands ++ command ∷ []) (s.session.done ++ last ∷ [])
  unfolding last
  caused =
      caused-push (IsSettledBy a) a.config first_counts commands command s.session.done last s.session.caused
      (subst (λ (l : List Step). IsCaused (beyond (IsSettledBy a) l) a.config (counts_done first_counts s.session.done) command t.answer answered.0 ys) s.session.cut
      (subst (λ (still : List Step → Type 0). IsCaused still a.config (counts_done first_counts s.session.done) command t.answer answered.0 ys) (settled-beyond a b xs goes)
      (subst (λ (c : Config). IsCaused (IsSettledBy b) c (counts_done first_counts s.session.done) command t.answer answered.0 ys) goes.config answered.1.caused)))

  ended : AllEnd a.config (fates_of a.events) (world_of a) (whole_record a) (s.session.done ++ last ∷ [])
  unfolding last
  ended = session_ends a b xs ys goes s.session.done t.answer answered.0 s.session.cut s.session.ended answered.1.ended

  cut : xs ++ ys ≡ parts_of (s.session.done ++ last ∷ [])
  unfolding last
  cut = ap (λ (l : List Step). l ++ ys) s.session.cut ∙ sym (parts-push s.session.done last)

  rested : (s.session.done ++ last ∷ [] ≡ []) ⊎ IsAtRestBy a (parts_of (s.session.done ++ last ∷ []))
  rested = inr (subst (λ (l : List Step). IsAtRestBy a l) cut (rests-then a b xs ys goes t.rests))

  whole : transcript a.config (world_of a) (s.session.done ++ last ∷ []) ≡ so_far ++ line
  unfolding last so_far line
  whole = transcript-push a.config (world_of a) s.session.done last

  pub session_more : (n : History) (drained_now : List ℕ) (after : Option (List ℕ)) → GoesOn b n ys → drained_now ≡ record_text (whole_record n) → Gains mid after text → SessionAt (commands ++ command ∷ []) first drained_now before after next a (xs ++ ys)
  unfolding last so_far
  session_more n drained_now after on is gained = record {
    session = record {
      done = s.session.done ++ last ∷ [];
      cut = cut;
      caused = caused;
      ended = ended;
      rests = rested;
      text = λ all. subst (λ (l : List ℕ). Gains before after l) (sym whole) (gains_then before mid after so_far line (s.session.text all) (subst (λ (l : List ℕ). Gains mid after l) (shown all) gained));
    };
    counted = subst (HasCounted next) (sym (counts-push first_counts s.session.done last)) answered.2;
    kept = λ all. is ∙ ap record_text (record-goes a n (xs ++ ys) (goes_then a b n xs ys goes on));
  }

  -- a command whose text was written in part
  pub session_stops : (all : List Command) (n : ℕ) (after : Option (List ℕ)) → take (n + 1) all ≡ commands ++ command ∷ [] → GainsPrefix mid after text → IsCutSession all first before after a (xs ++ ys)
  unfolding last so_far
  session_stops all n after more gained = record {
    count = n + 1;
    done = s.session.done ++ last ∷ [];
    more = [];
    cut = cut ∙ sym (append-nil (parts_of (s.session.done ++ last ∷ [])));
    caused = subst (λ (l : List Command). AllCaused (IsSettledBy a) a.config first_counts l (s.session.done ++ last ∷ [])) (sym more) caused;
    ended = ended;
    rests = rested;
    text = λ drained_first. (
      so_far ++ gained.0,
      (gained.1.0, append_assoc so_far gained.0 gained.1.0 ∙ ap (λ (l : List ℕ). so_far ++ l) (gained.1.1 ∙ shown drained_first) ∙ sym whole),
      gains_then before mid after so_far gained.0 (s.session.text drained_first) gained.2,
    );
  }

-- ---- a session that ends early

-- a command that ended without an answer
pub session_cut : (commands : List Command) (n : ℕ) (drained : List ℕ) (before mid : Option (List ℕ)) (a : History) (xs ys : List Step) → IsSession (take n commands) drained before mid a xs → IsCutSession commands drained before mid a (xs ++ ys)
session_cut commands n drained before mid a xs ys s = record {
  count = n;
  done = s.done;
  more = ys;
  cut = ap (λ (l : List Step). l ++ ys) s.cut;
  caused = s.caused;
  ended = s.ended;
  rests = s.rests;
  text = λ all. (transcript a.config (world_of a) s.done, ([], append-nil (transcript a.config (world_of a) s.done)), s.text all);
}
