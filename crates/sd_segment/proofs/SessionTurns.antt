-- The sessions that are due at a tick have their turns, one after another: each is the world's step Data or End.
use Rattle.std.proofs.Common.{◌≡◌, ℕ, ◌+◌, ◌<◌, ◌≤◌, Bool, true, false, cond, not, List, [], ◌∷◌, ◌++◌, length, map, drop, get_or, Some, refl, sym, ap, ◌∙◌, subst, arith, eq-eqb, append_assoc, length-append}
use Rattle.std.specs.Prelude.{◌==◌, ◌||◌, nat_lt}
use Rattle.std.specs.List.{filter, flat_map, list_any, AllByRecursion}
use Rattle.std.proofs.lemmas.List.{append-nil}
use Rattle.std.proofs.lemmas.Bool.{false≢true}
use Rattle.sd_config.specs.declared.config.Config.{Config}
use Rattle.sd_config.specs.Events.{Fates}
use Rattle.sd_services.specs.Part.{Session, ServerPart}
use Rattle.sd_services.specs.Sessions.{is_due, sent_again, block_packet, session_in, with_session, without_session}
use Rattle.sd_link.specs.World.{Flying, Server, flying}
use Rattle.sd_link.specs.Steps.{Step, Data, End}
use Rattle.sd_link.specs.Lawful.{IsNextDue, due_sessions}
use Rattle.sd_server.specs.Ticks.{after_tick, sent_at, due_of, dues, Ascending}
use Rattle.sd_segment.specs.declared.flown.Flown.{Flown}
use Rattle.sd_segment.specs.declared.flown.Kept.{Kept}
use Rattle.sd_segment.specs.declared.flown.What.TheVariants.{Again, Ended}
use Rattle.sd_segment.specs.Flight.{flying_of}
use Rattle.sd_segment.specs.Kept.{steps_kept, turns_kept}
use Rattle.sd_segment.specs.Segment.{Keeps, Turns, world_at}
use Rattle.sd_segment.specs.Passing.{AllTurns}
use Rattle.sd_segment.proofs.Fates.{IsTimely}
use Rattle.sd_segment.proofs.Keeping.{kept-push, keep_again, keep_ended}
use Rattle.sd_segment.proofs.Turning.{turn_again, turn_ended}

-- ---- lists of sessions

other : (a b : ℕ) → a < b → (a == b) ≡ false
other a b lt = grind (arith, lt)

found : (done : List Session) (x : Session) (todo : List Session) → AllByRecursion (λ (d : Session). d.number < x.number) done → session_in x.number (done ++ x ∷ todo) ≡ Some x
found [] x todo all = ap (λ (b : Bool). cond b (Some x) (session_in x.number todo)) (eq-eqb x.number x.number refl)
found (d ∷ done) x todo all = ap (λ (b : Bool). cond b (Some d) (session_in x.number (done ++ x ∷ todo))) (other d.number x.number all.0) ∙ found done x todo all.1

put_none : (new : Session) (todo : List Session) → AllByRecursion (λ (t : Session). new.number < t.number) todo → with_session new todo ≡ todo
put_none new [] all = refl
put_none new (t ∷ todo) all =
    let differs : (t.number == new.number) ≡ false = grind (arith, all.0) in
    ap (λ (b : Bool). cond b new t ∷ with_session new todo) differs ∙ ap (λ (l : List Session). t ∷ l) (put_none new todo all.1)

put_here : (new : Session) (done : List Session) (x : Session) (todo : List Session) → x.number ≡ new.number → AllByRecursion (λ (d : Session). d.number < x.number) done → AllByRecursion (λ (t : Session). x.number < t.number) todo
    → with_session new (done ++ x ∷ todo) ≡ done ++ new ∷ todo
put_here new [] x todo same below above =
    ap (λ (b : Bool). cond b new x ∷ with_session new todo) (eq-eqb x.number new.number same) ∙ ap (λ (l : List Session). new ∷ l) (put_none new todo (subst (λ (n : ℕ). AllByRecursion (λ (t : Session). n < t.number) todo) same above))
put_here new (d ∷ done) x todo same below above =
    let differs : (d.number == new.number) ≡ false = grind (arith, below.0, same) in
    ap (λ (b : Bool). cond b new d ∷ with_session new (done ++ x ∷ todo)) differs ∙ ap (λ (l : List Session). d ∷ l) (put_here new done x todo same below.1 above)

drop_none : (n : ℕ) (todo : List Session) → AllByRecursion (λ (t : Session). n < t.number) todo → without_session n todo ≡ todo
drop_none n [] all = refl
drop_none n (t ∷ todo) all =
    let differs : (t.number == n) ≡ false = grind (arith, all.0) in
    ap (λ (b : Bool). cond (not b) (t ∷ without_session n todo) (without_session n todo)) differs ∙ ap (λ (l : List Session). t ∷ l) (drop_none n todo all.1)

drop_here : (done : List Session) (x : Session) (todo : List Session) → AllByRecursion (λ (d : Session). d.number < x.number) done → AllByRecursion (λ (t : Session). x.number < t.number) todo → without_session x.number (done ++ x ∷ todo) ≡ done ++ todo
drop_here [] x todo below above = ap (λ (b : Bool). cond (not b) (x ∷ without_session x.number todo) (without_session x.number todo)) (eq-eqb x.number x.number refl) ∙ drop_none x.number todo above
drop_here (d ∷ done) x todo below above =
    ap (λ (b : Bool). cond (not b) (d ∷ without_session x.number (done ++ x ∷ todo)) (without_session x.number (done ++ x ∷ todo))) (other d.number x.number below.0)
    ∙ ap (λ (l : List Session). d ∷ l) (drop_here done x todo below.1 above)

all_push : (P : Session → Type 0) (done : List Session) (x : Session) → AllByRecursion P done → P x → AllByRecursion P (done ++ x ∷ [])
all_push P [] x all one = (one, tt)
all_push P (d ∷ done) x all one = (all.0, all_push P done x all.1 one)

none_due : (c : Config) (tick : ℕ) (done rest : List Session) → AllByRecursion (λ (d : Session). is_due c tick d ≡ false) done → filter (is_due c tick) (done ++ rest) ≡ filter (is_due c tick) rest
none_due c tick [] rest all = refl
none_due c tick (d ∷ done) rest all = ap (λ (b : Bool). cond b (d ∷ filter (is_due c tick) (done ++ rest)) (filter (is_due c tick) (done ++ rest))) all.0 ∙ none_due c tick done rest all.1

not_due : (c : Config) (tick : ℕ) (s : Session) → 1 ≤ c.wait → is_due c tick (sent_again tick s) ≡ false
not_due c tick s one = grind (arith, one)

push_below : (n : ℕ) (x : Session) (done todo : List Session) → x.number ≡ n → AllByRecursion (λ (t : Session). n < t.number) todo → AllByRecursion (λ (t : Session). AllByRecursion (λ (d : Session). d.number < t.number) done) todo
    → AllByRecursion (λ (t : Session). AllByRecursion (λ (d : Session). d.number < t.number) (done ++ x ∷ [])) todo
push_below n x done [] is above below = tt
push_below n x done (t ∷ todo) is above below = (all_push (λ (d : Session). d.number < t.number) done x below.0 (omega (arith, is, above.0)), push_below n x done todo is above.1 below.1)

none_below : (todo : List Session) → AllByRecursion (λ (t : Session). AllByRecursion (λ (d : Session). d.number < t.number) []) todo
none_below [] = tt
none_below (t ∷ todo) = (tt, none_below todo)

-- ---- after their turns none is due

still_due : (c : Config) (tick : ℕ) (sessions : List Session) → 1 ≤ c.wait → filter (is_due c tick) (flat_map (after_tick c tick) sessions) ≡ []
still_due c tick [] wait = refl
still_due c tick (x ∷ xs) wait = of (is_due c tick x) (nat_lt x.sends c.tries) refl (still_due c tick xs wait)
  where
    of : (b m : Bool) → is_due c tick x ≡ b → filter (is_due c tick) (flat_map (after_tick c tick) xs) ≡ []
        → filter (is_due c tick) (cond b (cond m (sent_again tick x ∷ []) []) (x ∷ []) ++ flat_map (after_tick c tick) xs) ≡ []
    of false m e rest = ap (λ (b : Bool). cond b (x ∷ filter (is_due c tick) (flat_map (after_tick c tick) xs)) (filter (is_due c tick) (flat_map (after_tick c tick) xs))) e ∙ rest
    of true false e rest = rest
    of true true e rest =
        ap (λ (b : Bool). cond b (sent_again tick x ∷ filter (is_due c tick) (flat_map (after_tick c tick) xs)) (filter (is_due c tick) (flat_map (after_tick c tick) xs))) (not_due c tick x wait) ∙ rest

pub none_left_due : (c : Config) (part : ServerPart) (flight : List Flown) (tick : ℕ) → 1 ≤ c.wait → due_sessions c (world_at (record part { sessions = flat_map (after_tick c tick) part.sessions }) flight tick) ≡ []
none_left_due c part flight tick wait = ap (λ (l : List Session). map (λ s. s.number) l) (still_due c tick part.sessions wait)

filter_none : (c : Config) (tick : ℕ) (sessions : List Session) → list_any (is_due c tick) sessions ≡ false → filter (is_due c tick) sessions ≡ []
filter_none c tick [] none = refl
filter_none c tick (x ∷ xs) none = of (is_due c tick x) none (λ rest. filter_none c tick xs rest)
  where
    of : (b : Bool) → (b || list_any (is_due c tick) xs) ≡ false → (list_any (is_due c tick) xs ≡ false → filter (is_due c tick) xs ≡ []) → cond b (x ∷ filter (is_due c tick) xs) (filter (is_due c tick) xs) ≡ []
    of false h more = more h
    of true h more = absurd (false≢true (sym h))

-- where none is due, none has a turn
pub rest_where : (c : Config) (part : ServerPart) (flight : List Flown) (tick : ℕ) → list_any (is_due c tick) part.sessions ≡ false → due_sessions c (world_at part flight tick) ≡ []
rest_where c part flight tick none = ap (λ (l : List Session). map (λ s. s.number) l) (filter_none c tick part.sessions none)

-- ---- the packets that are sent

-- how many are due, and how many packets they send
sent_few : (c : Config) (tick : ℕ) (sessions : List Session) → length (flat_map (sent_at c tick) sessions) ≤ length (dues c tick sessions)
sent_few c tick [] = omega arith
sent_few c tick (x ∷ xs) = of (is_due c tick x) (nat_lt x.sends c.tries) (sent_few c tick xs)
  where
    of : (b m : Bool) → length (flat_map (sent_at c tick) xs) ≤ length (dues c tick xs)
        → length (cond b (cond m (block_packet c x ∷ []) []) [] ++ flat_map (sent_at c tick) xs) ≤ length (map (due_of c) (cond b (x ∷ filter (is_due c tick) xs) (filter (is_due c tick) xs)))
    of false m rest = rest
    of true false rest = omega (arith, rest)
    of true true rest = omega (arith, rest)

pub few_sent : (c : Config) (tick : ℕ) (sessions : List Session) → length (flat_map (sent_at c tick) sessions) ≤ length (dues c tick sessions)
few_sent = sent_few

pub record Split (more : List Flown) (x : Flying) (rest : List Flying) : Type 0 where
  pub first : Flown
  pub left : List Flown
  pub is : more ≡ first ∷ left
  pub sent : flying_of first ≡ x
  pub then_sent : map flying_of left ≡ rest

pub split : (more : List Flown) (x : Flying) (rest : List Flying) → map flying_of more ≡ x ∷ rest → Split more x rest
split [] x rest e = absurd (cc e)
split (f ∷ fs) x rest e = record {
  first = f;
  left = fs;
  is = refl;
  sent = ap (λ (l : List Flying). get_or l 0 x) e;
  then_sent = ap (λ (l : List Flying). drop 1 l) e;
}

pub no_flight : (more : List Flown) → map flying_of more ≡ [] → more ≡ []
no_flight [] e = refl
no_flight (f ∷ fs) e = absurd (cc e)

-- ---- their turns

module _ (c : Config) (fates : Fates) (tick : ℕ) (part : ServerPart) (to_client : List ℕ) (wait : 1 ≤ c.wait) (timely : IsTimely c.life fates) where
  abbrev pub with_all : List Session → ServerPart
  with_all sessions = record part { sessions = sessions }

  -- the segment went on from there to these sessions, with these packets and entries more
  pub record Went (flight more : List Flown) (kept ks : List Kept) (left : List Session) : Type 0 where
    pub keeps : Keeps c (with_all left) (flight ++ more) (kept ++ ks) tick
    pub turns : Turns c fates (with_all left) (flight ++ more) (kept ++ ks) tick [] to_client
    pub steps : List Step
    pub went : steps_kept (flight ++ more) (kept ++ ks) tick ≡ steps_kept flight kept tick ++ steps
    pub serves : AllTurns steps

  went_as : (flight more more2 : List Flown) (kept ks ks2 : List Kept) (left left2 : List Session) → more ≡ more2 → ks ≡ ks2 → left ≡ left2 → Went flight more kept ks left → Went flight more2 kept ks2 left2
  went_as flight more more2 kept ks ks2 left left2 m k l w =
      subst (λ (x : List Flown). Went flight x kept ks2 left2) m (subst (λ (x : List Kept). Went flight more kept x left2) k (subst (λ (x : List Session). Went flight more kept ks x) l w))

  went_nowhere : (flight : List Flown) (kept : List Kept) (left : List Session) → Keeps c (with_all left) flight kept tick → Turns c fates (with_all left) flight kept tick [] to_client → Went flight [] kept [] left
  went_nowhere flight kept left k t =
      let f = sym (append-nil flight) in
      let j = sym (append-nil kept) in
      record {
        keeps = subst (λ (l : List Flown). Keeps c (with_all left) l (kept ++ []) tick) f (subst (λ (l : List Kept). Keeps c (with_all left) flight l tick) j k);
        turns = subst (λ (l : List Flown). Turns c fates (with_all left) l (kept ++ []) tick [] to_client) f (subst (λ (l : List Kept). Turns c fates (with_all left) flight l tick [] to_client) j t);
        steps = [];
        went = (λ i. steps_kept (sym f i) (sym j i) tick) ∙ sym (append-nil (steps_kept flight kept tick));
        serves = tt;
      }

  -- one step, and then these
  went_then : (flight one more : List Flown) (kept : List Kept) (k : Kept) (ks : List Kept) (left : List Session) (step : Step) → AllTurns (step ∷ [])
      → steps_kept (flight ++ one) (kept ++ k ∷ []) tick ≡ steps_kept flight kept tick ++ step ∷ []
      → Went (flight ++ one) more (kept ++ k ∷ []) ks left → Went flight (one ++ more) kept (k ∷ ks) left
  went_then flight one more kept k ks left step serves is w =
      let f = append_assoc flight one more in
      let j = append_assoc kept (k ∷ []) ks in
      record {
        keeps = subst (λ (l : List Flown). Keeps c (with_all left) l (kept ++ (k ∷ ks)) tick) f (subst (λ (l : List Kept). Keeps c (with_all left) ((flight ++ one) ++ more) l tick) j w.keeps);
        turns = subst (λ (l : List Flown). Turns c fates (with_all left) l (kept ++ (k ∷ ks)) tick [] to_client) f (subst (λ (l : List Kept). Turns c fates (with_all left) ((flight ++ one) ++ more) l tick [] to_client) j w.turns);
        steps = step ∷ w.steps;
        went = (λ i. steps_kept (sym f i) (sym j i) tick) ∙ w.went ∙ ap (λ (l : List Step). l ++ w.steps) is ∙ append_assoc (steps_kept flight kept tick) (step ∷ []) w.steps;
        serves = serves_both step w.steps serves w.serves;
      }
    where
      serves_both : (step : Step) (steps : List Step) → AllTurns (step ∷ []) → AllTurns steps → AllTurns (step ∷ steps)
      serves_both (Data number) steps one more = more
      serves_both (End number) steps one more = more
      serves_both others steps one more = absurd one

  due_here : (flight : List Flown) (done : List Session) (x : Session) (todo : List Session) → AllByRecursion (λ (d : Session). is_due c tick d ≡ false) done → is_due c tick x ≡ true
      → IsNextDue c (world_at (with_all (done ++ x ∷ todo)) flight tick) x.number
  due_here flight done x todo rest due = (
    map (λ (s : Session). s.number) (filter (is_due c tick) todo),
    ap (λ (l : List Session). map (λ (s : Session). s.number) l) (none_due c tick done (x ∷ todo) rest)
        ∙ ap (λ (b : Bool). map (λ (s : Session). s.number) (cond b (x ∷ filter (is_due c tick) todo) (filter (is_due c tick) todo))) due,
  )

  -- the block of the next session is sent again
  again_then : (flight : List Flown) (f : Flown) (more : List Flown) (kept ks : List Kept) (done : List Session) (x : Session) (todo left : List Session)
      → Keeps c (with_all (done ++ x ∷ todo)) flight kept tick → Turns c fates (with_all (done ++ x ∷ todo)) flight kept tick [] to_client
      → AllByRecursion (λ (d : Session). is_due c tick d ≡ false) done → AllByRecursion (λ (d : Session). d.number < x.number) done → AllByRecursion (λ (t : Session). x.number < t.number) todo
      → is_due c tick x ≡ true → x.sends < c.tries → flying_of f ≡ flying Server tick (block_packet c x)
      → (Keeps c (with_all ((done ++ sent_again tick x ∷ []) ++ todo)) (flight ++ f ∷ []) (kept ++ record { tick = tick; what = Again x.number (length flight) } ∷ []) tick
      → Turns c fates (with_all ((done ++ sent_again tick x ∷ []) ++ todo)) (flight ++ f ∷ []) (kept ++ record { tick = tick; what = Again x.number (length flight) } ∷ []) tick [] to_client
      → Went (flight ++ f ∷ []) more (kept ++ record { tick = tick; what = Again x.number (length flight) } ∷ []) ks left)
      → Went flight (f ∷ more) kept (record { tick = tick; what = Again x.number (length flight) } ∷ ks) left
  again_then flight f more kept ks done x todo left k t rest below above due may sent go_on =
      let new = sent_again tick x in
      let entry : Kept = record { tick = tick; what = Again x.number (length flight) } in
      let put : with_session new (done ++ x ∷ todo) ≡ (done ++ new ∷ []) ++ todo = put_here new done x todo refl below above ∙ sym (append_assoc done (new ∷ []) todo) in
      let k2 : Keeps c (with_all ((done ++ new ∷ []) ++ todo)) (flight ++ f ∷ []) (kept ++ entry ∷ []) tick =
      subst (λ (l : List Session). Keeps c (with_all l) (flight ++ f ∷ []) (kept ++ entry ∷ []) tick) put
      (keep_again c (with_all (done ++ x ∷ todo)) flight kept tick x.number f x k (found done x todo below) due may sent) in
      let t2 : Turns c fates (with_all ((done ++ new ∷ []) ++ todo)) (flight ++ f ∷ []) (kept ++ entry ∷ []) tick [] to_client =
      turn_again c fates (with_all (done ++ x ∷ todo)) (with_all ((done ++ new ∷ []) ++ todo)) flight kept tick x.number f [] to_client k t timely (ap (λ (y : Flying). y.tick) sent) refl (due_here flight done x todo rest due) in
      went_then flight (f ∷ []) more kept entry ks left (Data x.number) tt (kept-push flight (f ∷ []) kept tick (Again x.number (length flight)) k.ids) (go_on k2 t2)

  -- the next session ends
  ended_then : (flight more : List Flown) (kept ks : List Kept) (done : List Session) (x : Session) (todo left : List Session)
      → Keeps c (with_all (done ++ x ∷ todo)) flight kept tick → Turns c fates (with_all (done ++ x ∷ todo)) flight kept tick [] to_client
      → AllByRecursion (λ (d : Session). is_due c tick d ≡ false) done → AllByRecursion (λ (d : Session). d.number < x.number) done → AllByRecursion (λ (t : Session). x.number < t.number) todo
      → is_due c tick x ≡ true → c.tries ≤ x.sends
      → (Keeps c (with_all (done ++ todo)) flight (kept ++ record { tick = tick; what = Ended x.number } ∷ []) tick
      → Turns c fates (with_all (done ++ todo)) flight (kept ++ record { tick = tick; what = Ended x.number } ∷ []) tick [] to_client
      → Went flight more (kept ++ record { tick = tick; what = Ended x.number } ∷ []) ks left)
      → Went flight more kept (record { tick = tick; what = Ended x.number } ∷ ks) left
  ended_then flight more kept ks done x todo left k t rest below above due enough go_on =
      let entry : Kept = record { tick = tick; what = Ended x.number } in
      let none = append-nil flight in
      let k2 : Keeps c (with_all (done ++ todo)) flight (kept ++ entry ∷ []) tick =
      subst (λ (l : List Session). Keeps c (with_all l) flight (kept ++ entry ∷ []) tick) (drop_here done x todo below above)
      (keep_ended c (with_all (done ++ x ∷ todo)) flight kept tick x.number x k (found done x todo below) due enough) in
      let t2 : Turns c fates (with_all (done ++ todo)) flight (kept ++ entry ∷ []) tick [] to_client =
      turn_ended c fates (with_all (done ++ x ∷ todo)) (with_all (done ++ todo)) flight kept tick x.number [] to_client k t timely refl (due_here flight done x todo rest due) in
      went_then flight [] more kept entry ks left (End x.number) tt (kept-push flight [] kept tick (Ended x.number) k.ids)
      (subst (λ (l : List Flown). Went l more (kept ++ entry ∷ []) ks left) (sym none) (go_on k2 t2))

  -- all that are left have their turns
  pub go : (done todo : List Session) (flight more : List Flown) (kept : List Kept)
      → Keeps c (with_all (done ++ todo)) flight kept tick → Turns c fates (with_all (done ++ todo)) flight kept tick [] to_client
      → Ascending todo → AllByRecursion (λ (d : Session). is_due c tick d ≡ false) done → AllByRecursion (λ (t : Session). AllByRecursion (λ (d : Session). d.number < t.number) done) todo
      → map flying_of more ≡ map (flying Server tick) (flat_map (sent_at c tick) todo)
      → Went flight more kept (turns_kept tick (length flight) (dues c tick todo)) (done ++ flat_map (after_tick c tick) todo)
  go done [] flight more kept k t asc rest below sent =
      went_as flight [] more kept [] [] (done ++ []) (done ++ []) (sym (no_flight more sent)) refl refl (went_nowhere flight kept (done ++ []) k t)
  go done (x ∷ todo) flight more kept k t asc rest below sent =
      of (is_due c tick x) (nat_lt x.sends c.tries) refl refl (λ d f m j. go d todo f m j) sent
    where
      IH : Type 0
      IH = (d : List Session) (f m : List Flown) (j : List Kept)
          → Keeps c (with_all (d ++ todo)) f j tick → Turns c fates (with_all (d ++ todo)) f j tick [] to_client
          → Ascending todo → AllByRecursion (λ (d : Session). is_due c tick d ≡ false) d → AllByRecursion (λ (t : Session). AllByRecursion (λ (e : Session). e.number < t.number) d) todo
          → map flying_of m ≡ map (flying Server tick) (flat_map (sent_at c tick) todo)
          → Went f m j (turns_kept tick (length f) (dues c tick todo)) (d ++ flat_map (after_tick c tick) todo)

      of : (b m : Bool) → is_due c tick x ≡ b → nat_lt x.sends c.tries ≡ m → IH
          → map flying_of more ≡ map (flying Server tick) (cond b (cond m (block_packet c x ∷ []) []) [] ++ flat_map (sent_at c tick) todo)
          → Went flight more kept (turns_kept tick (length flight) (map (due_of c) (cond b (x ∷ filter (is_due c tick) todo) (filter (is_due c tick) todo))))
          (done ++ (cond b (cond m (sent_again tick x ∷ []) []) (x ∷ []) ++ flat_map (after_tick c tick) todo))
      of false m e d ih s =
          let assoc = append_assoc done (x ∷ []) todo in
          went_as flight more more kept _ _ ((done ++ x ∷ []) ++ flat_map (after_tick c tick) todo) (done ++ (x ∷ flat_map (after_tick c tick) todo)) refl refl (append_assoc done (x ∷ []) (flat_map (after_tick c tick) todo))
          (ih (done ++ x ∷ []) flight more kept
          (subst (λ (l : List Session). Keeps c (with_all l) flight kept tick) (sym assoc) k)
          (subst (λ (l : List Session). Turns c fates (with_all l) flight kept tick [] to_client) (sym assoc) t)
          asc.1 (all_push (λ (d : Session). is_due c tick d ≡ false) done x rest e) (push_below x.number x done todo refl asc.0 below.1) s)
      of true true e d ih s =
          let new = sent_again tick x in
          let p = split more (flying Server tick (block_packet c x)) (map (flying Server tick) (flat_map (sent_at c tick) todo)) s in
          let entry : Kept = record { tick = tick; what = Again x.number (length flight) } in
          let next : length (flight ++ p.first ∷ []) ≡ length flight + 1 = length-append flight (p.first ∷ []) in
          let ks = turns_kept tick (length flight + 1) (dues c tick todo) in
          went_as flight (p.first ∷ p.left) more kept (entry ∷ ks) (turns_kept tick (length flight) (due_of c x ∷ dues c tick todo)) ((done ++ new ∷ []) ++ flat_map (after_tick c tick) todo) (done ++ (new ∷ flat_map (after_tick c tick) todo))
          (sym p.is)
          (sym (ap (λ (b : Bool). cond b (entry ∷ ks) (record { tick = tick; what = Ended x.number } ∷ turns_kept tick (length flight) (dues c tick todo))) d))
          (append_assoc done (new ∷ []) (flat_map (after_tick c tick) todo))
          (again_then flight p.first p.left kept ks done x todo ((done ++ new ∷ []) ++ flat_map (after_tick c tick) todo) k t rest below.0 asc.0 e (grind (arith, d)) p.sent
          (λ k2 t2.
          subst (λ (n : ℕ). Went (flight ++ p.first ∷ []) p.left (kept ++ entry ∷ []) (turns_kept tick n (dues c tick todo)) ((done ++ new ∷ []) ++ flat_map (after_tick c tick) todo)) next
          (ih (done ++ new ∷ []) (flight ++ p.first ∷ []) p.left (kept ++ entry ∷ []) k2 t2 asc.1 (all_push (λ (d : Session). is_due c tick d ≡ false) done new rest (not_due c tick x wait)) (push_below x.number new done todo refl asc.0 below.1) p.then_sent)))
      of true false e d ih s =
          let entry : Kept = record { tick = tick; what = Ended x.number } in
          let ks = turns_kept tick (length flight) (dues c tick todo) in
          went_as flight more more kept (entry ∷ ks) (turns_kept tick (length flight) (due_of c x ∷ dues c tick todo)) (done ++ flat_map (after_tick c tick) todo) (done ++ flat_map (after_tick c tick) todo)
          refl
          (sym (ap (λ (b : Bool). cond b (record { tick = tick; what = Again x.number (length flight) } ∷ turns_kept tick (length flight + 1) (dues c tick todo)) (entry ∷ ks)) d))
          refl
          (ended_then flight more kept ks done x todo (done ++ flat_map (after_tick c tick) todo) k t rest below.0 asc.0 e (grind (arith, d))
          (λ k2 t2. ih done flight more (kept ++ entry ∷ []) k2 t2 asc.1 rest below.1 s))

  pub all_go : (flight more : List Flown) (kept : List Kept) → Keeps c part flight kept tick → Turns c fates part flight kept tick [] to_client → Ascending part.sessions
      → map flying_of more ≡ map (flying Server tick) (flat_map (sent_at c tick) part.sessions)
      → Went flight more kept (turns_kept tick (length flight) (dues c tick part.sessions)) (flat_map (after_tick c tick) part.sessions)
  all_go flight more kept k t asc sent = go [] part.sessions flight more kept k t asc tt (none_below part.sessions) sent
