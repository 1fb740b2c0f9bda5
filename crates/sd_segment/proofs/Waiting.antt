-- What a wait of the segment is as a part of its history.
use Rattle.std.proofs.Common.{◌≡◌, ℕ, ◌<◌, ◌≤◌, List, [], ◌∷◌, ◌++◌, Option, Some, None, Ok, Err, inl, inr, refl, sym, ◌∙◌, ap, subst, arith, append_assoc}
use Rattle.std.proofs.lemmas.List.{append-nil}
use Rattle.std.specs.Prelude.{slice_get, ◌⊎◌}
use Rattle.sd_outside.specs.declared.packet.Packet.{Packet}
use Rattle.sd_config.specs.declared.config.Config.{Config}
use Rattle.sd_link.specs.declared.link.LinkError.TheVariants.{NoMemory, Failed}
use Rattle.sd_link.specs.World.{World}
use Rattle.sd_link.specs.Steps.{Step, Tick, Stray, Serve, Data, End, Get, Fail, after, run, world_of}
use Rattle.sd_link.specs.Parts.{sends_in, got_in, fails_in}
use Rattle.sd_link.specs.Link.{GoesOn, Moves, TicksBefore, Receives, IsReached, NothingWaits}
use Rattle.sd_link.proofs.Histories.{sends-append, got-append, fails-append, before-append, world-goes, goes_nowhere, goes_lawful, settled-goes}
use Rattle.sd_segment.specs.Segment.{SegmentView, history_of, text_drained}
use Rattle.sd_segment.specs.Passing.{Passes, WentOn, AllServes, AllTurns, TakesTurns, Fails, Advances, Waits}

-- ---- one part after another

pub passes_then : (a b c : SegmentView) (xs ys : List Step) → Passes a b xs → Passes b c ys → Passes a c (xs ++ ys)
passes_then a b c xs ys first second = record {
  config = second.config ∙ first.config;
  events = second.events ∙ first.events;
  steps = second.steps ∙ ap (λ l. l ++ ys) first.steps ∙ append_assoc (history_of a).steps xs ys;
  drained = second.drained ∙ first.drained;
  faults = second.faults ∙ first.faults;
  broken = second.broken ∙ first.broken;
  bounded = second.bounded;
  stood = first.stood;
}

passes_went : (a b c : SegmentView) (xs ys : List Step) → Passes a b xs → WentOn b c ys → Passes a c (xs ++ ys)
passes_went a b c xs ys first (inr second) = passes_then a b c xs ys first second
passes_went a b c xs ys first (inl same) =
    let none : xs ++ ys ≡ xs = ap (λ l. xs ++ l) same.0 ∙ append-nil xs in
    subst (λ l. Passes a c l) (sym none) (subst (λ v. Passes a v xs) (sym same.1) first)

pub went_then : (a b c : SegmentView) (xs ys : List Step) → WentOn a b xs → Passes b c ys → Passes a c (xs ++ ys)
went_then a b c xs ys (inr first) second = passes_then a b c xs ys first second
went_then a b c xs ys (inl same) second =
    subst (λ (l : List Step). Passes a c (l ++ ys)) (sym same.0) (subst (λ (v : SegmentView). Passes v c ys) same.1 second)

serves-append : (xs ys : List Step) → AllServes xs → AllServes ys → AllServes (xs ++ ys)
serves-append [] ys first second = second
serves-append (Stray packet ∷ xs) ys first second = serves-append xs ys first second
serves-append (Serve id ∷ xs) ys first second = serves-append xs ys first second
serves-append (Data number ∷ xs) ys first second = serves-append xs ys first second
serves-append (End number ∷ xs) ys first second = serves-append xs ys first second
serves-append (others ∷ xs) ys first second = absurd first

-- what serving did so far, and what it did in all
abbrev pub Serves : SegmentView → SegmentView → Type 0
Serves old new = (served : List Step) × WentOn old new served × AllServes served

pub serves_none : (s : SegmentView) → Serves s s
serves_none s = ([], inl (refl, refl), tt)

pub serves_more : (old mid new : SegmentView) (id : ℕ) → Serves old mid → Passes mid new (Serve id ∷ []) → Serves old new
serves_more old mid new id m p = (m.0 ++ (Serve id ∷ []), inr (went_then old mid new m.0 (Serve id ∷ []) m.1 p), serves-append m.0 (Serve id ∷ []) m.2 tt)

turns_serve : (steps : List Step) → AllTurns steps → AllServes steps
turns_serve [] all = tt
turns_serve (Data number ∷ steps) all = turns_serve steps all
turns_serve (End number ∷ steps) all = turns_serve steps all
turns_serve (others ∷ steps) all = absurd all

-- the sessions had their turns
pub serves_turns : (old new : SegmentView) → TakesTurns old new → Serves old new
serves_turns old new (turns, p, all) = (turns, inr p, turns_serve turns all)

-- one part after another
pub serves_then : (old mid new : SegmentView) → Serves old mid → Serves mid new → Serves old new
serves_then old mid new m (more, went, serves) = of went
  where
    of : WentOn mid new more → Serves old new
    of (inl same) = subst (λ (v : SegmentView). Serves old v) (sym same.1) m
    of (inr p) = (m.0 ++ more, inr (went_then old mid new m.0 more m.1 p), serves-append m.0 more m.2 serves)

-- a tick passed, at which strangers sent, and then the server did what was due to it
pub advances : (old mid new : SegmentView) → Advances old mid → Serves mid new → Advances old new
advances old mid new (sent, p, serves) m = (sent ++ m.0, passes_went old mid new (Tick ∷ sent) m.0 p m.1, serves-append sent m.0 serves m.2)

-- none is next where none is left
pub none_left : (xs : List ℕ) (next : Option ℕ) → next ≡ slice_get xs 0 → next ≡ None → xs ≡ []
none_left [] next is none = refl
none_left (x ∷ xs) next is none = absurd (cc)

-- ---- a wait

pub goes_of : (old new : SegmentView) (part : List Step) → Passes old new part → GoesOn (history_of old) (history_of new) part
goes_of old new part p = goes_lawful (history_of old) (history_of new) part p.config p.events p.steps p.bounded.lawful

pub went_goes : (old new : SegmentView) (part : List Step) → WentOn old new part → GoesOn (history_of old) (history_of new) part
went_goes old new part (inr p) = goes_of old new part p
went_goes old new part (inl same) =
    subst (λ (l : List Step). GoesOn (history_of old) (history_of new) l) (sym same.0)
    (subst (λ (v : SegmentView). GoesOn (history_of old) (history_of v) []) (sym same.1) (goes_nowhere (history_of old)))

pub went_bounded : (old new : SegmentView) (part : List Step) → WentOn old new part → IsReached (history_of old) → IsReached (history_of new)
went_bounded old new part (inr p) b = p.bounded
went_bounded old new part (inl same) b = subst (λ (v : SegmentView). IsReached (history_of v)) (sym same.1) b

pub went_drained : (old new : SegmentView) (part : List Step) → WentOn old new part → text_drained new ≡ text_drained old
went_drained old new part (inr p) = p.drained
went_drained old new part (inl same) = ap text_drained same.1

pub serves-silent : (steps : List Step) → AllServes steps → sends_in steps ≡ []
serves-silent [] all = refl
serves-silent (Stray packet ∷ steps) all = serves-silent steps all
serves-silent (Serve id ∷ steps) all = serves-silent steps all
serves-silent (Data number ∷ steps) all = serves-silent steps all
serves-silent (End number ∷ steps) all = serves-silent steps all
serves-silent (others ∷ steps) all = absurd all

serves-got : (steps : List Step) → AllServes steps → got_in steps ≡ []
serves-got [] all = refl
serves-got (Stray packet ∷ steps) all = serves-got steps all
serves-got (Serve id ∷ steps) all = serves-got steps all
serves-got (Data number ∷ steps) all = serves-got steps all
serves-got (End number ∷ steps) all = serves-got steps all
serves-got (others ∷ steps) all = absurd all

pub serves-fails : (steps : List Step) → AllServes steps → fails_in steps ≡ 0
serves-fails [] all = refl
serves-fails (Stray packet ∷ steps) all = serves-fails steps all
serves-fails (Serve id ∷ steps) all = serves-fails steps all
serves-fails (Data number ∷ steps) all = serves-fails steps all
serves-fails (End number ∷ steps) all = serves-fails steps all
serves-fails (others ∷ steps) all = absurd all

serves-ticks : (until : ℕ) (c : Config) (w : World) (steps : List Step) → AllServes steps → TicksBefore until c w steps
serves-ticks until c w [] all = tt
serves-ticks until c w (Stray packet ∷ steps) all = serves-ticks until c (after c w (Stray packet)) steps all
serves-ticks until c w (Serve id ∷ steps) all = serves-ticks until c (after c w (Serve id)) steps all
serves-ticks until c w (Data number ∷ steps) all = serves-ticks until c (after c w (Data number)) steps all
serves-ticks until c w (End number ∷ steps) all = serves-ticks until c (after c w (End number)) steps all
serves-ticks until c w (others ∷ steps) all = absurd all

pub waits_none : (until : ℕ) (s : SegmentView) → Waits until s s []
waits_none until s = record { went = inl (refl, refl); silent = refl; got = refl; fails = refl; ticks = tt }

module _ (until : ℕ) (old mid new : SegmentView) (part ys : List Step) (w : Waits until old mid part) where
  -- the world after the wait so far
  here : world_of (history_of mid) ≡ run old.config (world_of (history_of old)) part
  here = world-goes (history_of old) (history_of mid) part (went_goes old mid part w.went)

  pub ticks_then : TicksBefore until old.config (world_of (history_of mid)) ys → TicksBefore until old.config (world_of (history_of old)) (part ++ ys)
  ticks_then t = before-append until old.config (world_of (history_of old)) part ys w.ticks (subst (λ (v : World). TicksBefore until old.config v ys) here t)

  pub silent_then : sends_in ys ≡ [] → sends_in (part ++ ys) ≡ []
  silent_then s = sends-append part ys ∙ ap (λ (l : List Packet). l ++ sends_in ys) w.silent ∙ s

  pub got_then : got_in ys ≡ [] → got_in (part ++ ys) ≡ []
  got_then g = got-append part ys ∙ ap (λ (l : List Packet). l ++ got_in ys) w.got ∙ g

  pub fails_then : (n : ℕ) → fails_in ys ≡ n → fails_in (part ++ ys) ≡ n
  fails_then n f = omega (arith, fails-append part ys, w.fails, f)

-- one tick more
pub waits_more : (until : ℕ) (old mid new : SegmentView) (part : List Step) → Waits until old mid part → mid.tick < until → Advances mid new → (more : List Step) × Waits until old new more
waits_more until old mid new part w lt (served, p, all) = (
  part ++ (Tick ∷ served),
  record {
    went = inr (went_then old mid new part (Tick ∷ served) w.went p);
    silent = silent_then until old mid new part (Tick ∷ served) w (serves-silent served all);
    got = got_then until old mid new part (Tick ∷ served) w (serves-got served all);
    fails = fails_then until old mid new part (Tick ∷ served) w 0 (serves-fails served all);
    ticks = ticks_then until old mid new part (Tick ∷ served) w (omega (arith, p.stood), serves-ticks until old.config (after old.config (world_of (history_of mid)) Tick) served all);
  },
)

-- one tick more, or none
pub waits_if : (until : ℕ) (old mid new : SegmentView) (part : List Step) → Waits until old mid part → mid.tick < until → (new ≡ mid) ⊎ Advances mid new → (more : List Step) × Waits until old new more
waits_if until old mid new part w lt (inl same) = (part, subst (λ (v : SegmentView). Waits until old v part) (sym same) w)
waits_if until old mid new part w lt (inr p) = waits_more until old mid new part w lt p

-- ---- the answers

pub receives_packet : (until : ℕ) (old mid new : SegmentView) (part : List Step) (id : ℕ) (packet : Packet) → Waits until old mid part → Passes mid new (Get id packet ∷ [])
    → Moves (Some (history_of old)) (Some (history_of new)) (Receives until (Ok (Some packet)))
receives_packet until old mid new part id packet w p = (
  part ++ (Get id packet ∷ []),
  goes_of old new (part ++ (Get id packet ∷ [])) (went_then old mid new part (Get id packet ∷ []) w.went p),
  record {
    silent = silent_then until old mid new part (Get id packet ∷ []) w refl;
    ticks = ticks_then until old mid new part (Get id packet ∷ []) w tt;
    hands = (part, id, refl, w.got);
    fails = fails_then until old mid new part (Get id packet ∷ []) w 0 refl;
  },
)

pub receives_none : (until : ℕ) (old mid : SegmentView) (part : List Step) → Waits until old mid part → (world_of (history_of mid)).tick ≡ mid.tick → until ≤ mid.tick → NothingWaits (history_of mid)
    → Moves (Some (history_of old)) (Some (history_of mid)) (Receives until (Ok None))
receives_none until old mid part w stood reached settled = (
  part,
  went_goes old mid part w.went,
  record {
    silent = w.silent;
    ticks = w.ticks;
    hands = (
      w.got,
      omega (arith, stood, ap (λ (v : World). v.tick) (world-goes (history_of old) (history_of mid) part (went_goes old mid part w.went))),
      settled-goes (history_of old) (history_of mid) part (went_goes old mid part w.went) settled,
    );
    fails = w.fails;
  },
)

pub receives_err : (until : ℕ) (old mid : SegmentView) (part : List Step) → Waits until old mid part
    → Moves (Some (history_of old)) (Some (history_of mid)) (Receives until (Err NoMemory))
receives_err until old mid part w = (part, went_goes old mid part w.went, record { silent = w.silent; ticks = w.ticks; hands = w.got; fails = w.fails })

pub receives_failed : (until : ℕ) (old mid new : SegmentView) (part : List Step) → Waits until old mid part → Fails mid new
    → Moves (Some (history_of old)) (Some (history_of new)) (Receives until (Err Failed))
receives_failed until old mid new part w p =
    let calm : SegmentView = record new { faults = mid.faults } in (
      part ++ (Fail ∷ []),
      goes_of old calm (part ++ (Fail ∷ [])) (went_then old mid calm part (Fail ∷ []) w.went p),
      record {
        silent = silent_then until old mid calm part (Fail ∷ []) w refl;
        ticks = ticks_then until old mid calm part (Fail ∷ []) w tt;
        hands = (part, refl, got_then until old mid calm part (Fail ∷ []) w refl);
        fails = fails_then until old mid calm part (Fail ∷ []) w 1 refl;
      },
    )
