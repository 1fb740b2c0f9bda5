-- How many packets of a calm run are on their way, by stages, and how steps move them.
use Rattle.std.proofs.Common.{◌≡◌, ℕ, ◌+◌, ◌≤◌, List, [], ◌∷◌, ◌++◌, length, refl, sym, ap, subst, arith}
use Rattle.std.proofs.lemmas.List.{append-nil}
use Rattle.std.specs.List.{flat_map, AllByRecursion}
use Rattle.sd_outside.specs.declared.packet.Packet.{Packet}
use Rattle.sd_link.specs.Steps.{Step, Tick, Send, Serve, Settle, Get}
use Rattle.sd_link.specs.Parts.{sends_in, got_in, ticks_in}

pub record Stages : Type 0 where
  -- requests of the client, sent at this tick
  pub sent : ℕ
  -- requests that are due to the server and not yet served
  pub asked : ℕ
  -- replies of the server, sent at this tick
  pub replied : ℕ
  -- replies that are due to the client and not yet got
  pub waiting : ℕ

pub record Ticked (s t : Stages) : Type 0 where
  pub served : s.asked ≡ 0
  pub got : s.waiting ≡ 0
  pub new_sent : t.sent ≡ 0
  pub new_asked : t.asked ≡ s.sent
  pub new_replied : t.replied ≡ 0
  pub new_waiting : t.waiting ≡ s.replied

pub record Sends (s t : Stages) : Type 0 where
  pub served : s.asked ≡ 0
  pub got : s.waiting ≡ 0
  pub new_sent : t.sent ≡ s.sent + 1
  pub new_asked : t.asked ≡ s.asked
  pub new_replied : t.replied ≡ s.replied
  pub new_waiting : t.waiting ≡ s.waiting

pub record Serves (s t : Stages) : Type 0 where
  pub new_sent : t.sent ≡ s.sent
  pub new_asked : t.asked + 1 ≡ s.asked
  pub new_replied : t.replied ≡ s.replied + 1
  pub new_waiting : t.waiting ≡ s.waiting

pub record Gets (s t : Stages) : Type 0 where
  pub served : s.asked ≡ 0
  pub new_sent : t.sent ≡ s.sent
  pub new_asked : t.asked ≡ s.asked
  pub new_replied : t.replied ≡ s.replied
  pub new_waiting : t.waiting + 1 ≡ s.waiting

pub record Stays (s t : Stages) : Type 0 where
  pub new_sent : t.sent ≡ s.sent
  pub new_asked : t.asked ≡ s.asked
  pub new_replied : t.replied ≡ s.replied
  pub new_waiting : t.waiting ≡ s.waiting

-- What a step of a calm run does to the stages: the client sends only where nothing waits, there are no sessions and no strangers, and
-- nothing fails.
abbrev pub Goes : Stages → Step → Stages → Type 0
Goes s Tick t = Ticked s t
Goes s (Send packet) t = Sends s t
Goes s (Serve id) t = Serves s t
Goes s (Settle done) t = Stays s t
Goes s (Get id packet) t = Gets s t
Goes s step t = ⊥

abbrev pub AllGo : Stages → List Step → Stages → Type 0
AllGo s [] t = s ≡ t
AllGo s (step ∷ steps) t = (mid : Stages) × Goes s step mid × AllGo mid steps t

-- ---- a pause

abbrev pub total : Stages → ℕ
total s = s.sent + s.asked + s.replied + s.waiting

-- what is got in a pause was on its way
pub silent_total : (s t : Stages) (steps : List Step) → AllGo s steps t → sends_in steps ≡ [] → length (got_in steps) + total t ≡ total s
silent_total s t [] g silent = let e : total s ≡ total t = ap total g in omega (arith, e)
silent_total s t (Tick ∷ steps) g silent = omega (arith, g.1.served, g.1.got, g.1.new_sent, g.1.new_asked, g.1.new_replied, g.1.new_waiting, silent_total g.0 t steps g.2 silent)
silent_total s t (Send packet ∷ steps) g silent = absurd cc
silent_total s t (Serve id ∷ steps) g silent = omega (arith, g.1.new_sent, g.1.new_asked, g.1.new_replied, g.1.new_waiting, silent_total g.0 t steps g.2 silent)
silent_total s t (Settle done ∷ steps) g silent = omega (arith, g.1.new_sent, g.1.new_asked, g.1.new_replied, g.1.new_waiting, silent_total g.0 t steps g.2 silent)
silent_total s t (Get id packet ∷ steps) g silent = omega (arith, g.1.new_sent, g.1.new_asked, g.1.new_replied, g.1.new_waiting, silent_total g.0 t steps g.2 silent)
silent_total s t (step ∷ steps) g silent = absurd g.1

pub silent_sent : (s t : Stages) (steps : List Step) → AllGo s steps t → sends_in steps ≡ [] → t.sent ≤ s.sent
silent_sent s t [] g silent = let e : s.sent ≡ t.sent = ap (λ (u : Stages). u.sent) g in omega (arith, e)
silent_sent s t (Tick ∷ steps) g silent = omega (arith, g.1.new_sent, silent_sent g.0 t steps g.2 silent)
silent_sent s t (Send packet ∷ steps) g silent = absurd cc
silent_sent s t (Serve id ∷ steps) g silent = omega (arith, g.1.new_sent, silent_sent g.0 t steps g.2 silent)
silent_sent s t (Settle done ∷ steps) g silent = omega (arith, g.1.new_sent, silent_sent g.0 t steps g.2 silent)
silent_sent s t (Get id packet ∷ steps) g silent = omega (arith, g.1.new_sent, silent_sent g.0 t steps g.2 silent)
silent_sent s t (step ∷ steps) g silent = absurd g.1

-- between two commands: nothing was sent at this tick, nothing waits, and at most one packet is on its way
pub record Rests (s : Stages) : Type 0 where
  pub none_sent : s.sent ≡ 0
  pub few : s.asked + s.replied ≤ 1
  pub none_waits : s.waiting ≡ 0

pub pause_few : (s t : Stages) (steps : List Step) → Rests s → AllGo s steps t → sends_in steps ≡ [] → length (got_in steps) ≤ 1
pause_few s t steps r g silent = omega (arith, r.none_sent, r.few, r.none_waits, silent_total s t steps g silent)

pub pause_rests : (s t : Stages) (steps : List Step) → Rests s → AllGo s steps t → sends_in steps ≡ [] → t.waiting ≡ 0 → Rests t
pause_rests s t steps r g silent none = record {
  none_sent = omega (arith, r.none_sent, silent_sent s t steps g silent);
  few = omega (arith, r.none_sent, r.few, r.none_waits, silent_total s t steps g silent);
  none_waits = none;
}

-- ---- tries that end with a reply

-- the client sends at most once at a tick; n times at the present one
abbrev pub Spaced : ℕ → List Step → Type 0
Spaced n [] = Unit {0}
Spaced n (Tick ∷ steps) = Spaced 0 steps
Spaced n (Send packet ∷ steps) = (n ≡ 0) × Spaced 1 steps
Spaced n (step ∷ steps) = Spaced n steps

spaced_silent : (n : ℕ) (xs : List Step) → sends_in xs ≡ [] → Spaced n xs
spaced_silent n [] silent = tt
spaced_silent n (Tick ∷ xs) silent = spaced_silent 0 xs silent
spaced_silent n (Send packet ∷ xs) silent = absurd cc
spaced_silent n (x ∷ xs) silent = spaced_silent n xs silent

spaced_after : (xs ys : List Step) → sends_in xs ≡ [] → Spaced 0 ys → Spaced 0 (xs ++ ys)
spaced_after [] ys silent later = later
spaced_after (Tick ∷ xs) ys silent later = spaced_after xs ys silent later
spaced_after (Send packet ∷ xs) ys silent later = absurd cc
spaced_after (x ∷ xs) ys silent later = spaced_after xs ys silent later

spaced_then : (n : ℕ) (xs ys : List Step) → sends_in xs ≡ [] → 1 ≤ ticks_in xs → Spaced 0 ys → Spaced n (xs ++ ys)
spaced_then n [] ys silent passes later = absurd (omega (arith, passes))
spaced_then n (Tick ∷ xs) ys silent passes later = spaced_after xs ys silent later
spaced_then n (Send packet ∷ xs) ys silent passes later = absurd cc
spaced_then n (x ∷ xs) ys silent passes later = spaced_then n xs ys silent passes later

pub spaced_tries : (request : Packet) (wait : ℕ) (before : List (List Step)) (last : List Step) → 1 ≤ wait → AllByRecursion (λ rest. sends_in rest ≡ []) (before ++ last ∷ [])
    → AllByRecursion (λ rest. ticks_in rest ≡ wait) before → Spaced 0 (flat_map (λ rest. Send request ∷ rest) (before ++ last ∷ []))
spaced_tries request wait [] last least silent waited = (refl, subst (λ (l : List Step). Spaced 1 l) (sym (append-nil last)) (spaced_silent 1 last silent.0))
spaced_tries request wait (rest ∷ rests) last least silent waited =
    (refl, spaced_then 1 rest (flat_map (λ r. Send request ∷ r) (rests ++ last ∷ [])) silent.0 (omega (arith, waited.0)) (spaced_tries request wait rests last least silent.1 waited.1))

-- what holds within tries
pub record Thin (n : ℕ) (s : Stages) : Type 0 where
  pub most : s.sent ≤ n
  pub outer : s.sent + s.waiting ≤ 1
  pub inner : s.asked + s.replied ≤ 1

pub thin_first : (s : Stages) → Rests s → Thin 0 s
thin_first s r = record { most = omega (arith, r.none_sent); outer = omega (arith, r.none_sent, r.none_waits); inner = r.few }

-- where the last step is one in which the client gets a packet, all rests again
pub tries_rest : (n : ℕ) (s t : Stages) (steps : List Step) (id : ℕ) (packet : Packet) → Thin n s → Spaced n (steps ++ Get id packet ∷ []) → AllGo s (steps ++ Get id packet ∷ []) t → Rests t
tries_rest n s t [] id packet thin spaced g =
    subst Rests g.2 (record {
      none_sent = omega (arith, g.1.new_sent, g.1.new_waiting, thin.outer);
      few = omega (arith, g.1.new_asked, g.1.new_replied, thin.inner);
      none_waits = omega (arith, g.1.new_waiting, thin.outer);
    })
tries_rest n s t (Tick ∷ steps) id packet thin spaced g =
    tries_rest 0 g.0 t steps id packet
    (record {
      most = omega (arith, g.1.new_sent);
      outer = omega (arith, g.1.new_sent, g.1.new_waiting, thin.inner);
      inner = omega (arith, g.1.new_asked, g.1.new_replied, thin.outer);
    })
    spaced g.2
tries_rest n s t (Send p ∷ steps) id packet thin spaced g =
    tries_rest 1 g.0 t steps id packet
    (record {
      most = omega (arith, g.1.new_sent, thin.most, spaced.0);
      outer = omega (arith, g.1.new_sent, g.1.new_waiting, g.1.got, thin.most, spaced.0);
      inner = omega (arith, g.1.new_asked, g.1.new_replied, thin.inner);
    })
    spaced.1 g.2
tries_rest n s t (Serve i ∷ steps) id packet thin spaced g =
    tries_rest n g.0 t steps id packet
    (record {
      most = omega (arith, g.1.new_sent, thin.most);
      outer = omega (arith, g.1.new_sent, g.1.new_waiting, thin.outer);
      inner = omega (arith, g.1.new_asked, g.1.new_replied, thin.inner);
    })
    spaced g.2
tries_rest n s t (Settle done ∷ steps) id packet thin spaced g =
    tries_rest n g.0 t steps id packet
    (record {
      most = omega (arith, g.1.new_sent, thin.most);
      outer = omega (arith, g.1.new_sent, g.1.new_waiting, thin.outer);
      inner = omega (arith, g.1.new_asked, g.1.new_replied, thin.inner);
    })
    spaced g.2
tries_rest n s t (Get i p ∷ steps) id packet thin spaced g =
    tries_rest n g.0 t steps id packet
    (record {
      most = omega (arith, g.1.new_sent, thin.most);
      outer = omega (arith, g.1.new_sent, g.1.new_waiting, thin.outer);
      inner = omega (arith, g.1.new_asked, g.1.new_replied, thin.inner);
    })
    spaced g.2
tries_rest n s t (step ∷ steps) id packet thin spaced g = absurd g.1

-- ---- tries that get nothing

-- what waits goes on waiting
still_waits : (s t : Stages) (steps : List Step) → AllGo s steps t → got_in steps ≡ [] → 1 ≤ s.waiting → 1 ≤ t.waiting
still_waits s t [] g none waits = subst (λ (u : Stages). 1 ≤ u.waiting) g waits
still_waits s t (Tick ∷ steps) g none waits = absurd (omega (arith, g.1.got, waits))
still_waits s t (Send packet ∷ steps) g none waits = absurd (omega (arith, g.1.got, waits))
still_waits s t (Serve id ∷ steps) g none waits = still_waits g.0 t steps g.2 none (omega (arith, g.1.new_waiting, waits))
still_waits s t (Settle done ∷ steps) g none waits = still_waits g.0 t steps g.2 none (omega (arith, g.1.new_waiting, waits))
still_waits s t (Get id packet ∷ steps) g none waits = absurd cc
still_waits s t (step ∷ steps) g none waits = absurd g.1

-- what was asked or replied waits a tick later
then_waits : (s t : Stages) (steps : List Step) → AllGo s steps t → got_in steps ≡ [] → 1 ≤ s.asked + s.replied → 1 ≤ ticks_in steps → 1 ≤ t.waiting
then_waits s t [] g none some passes = absurd (omega (arith, passes))
then_waits s t (Tick ∷ steps) g none some passes = still_waits g.0 t steps g.2 none (omega (arith, g.1.served, g.1.new_waiting, some))
then_waits s t (Send packet ∷ steps) g none some passes = then_waits g.0 t steps g.2 none (omega (arith, g.1.new_asked, g.1.new_replied, some)) passes
then_waits s t (Serve id ∷ steps) g none some passes = then_waits g.0 t steps g.2 none (omega (arith, g.1.new_asked, g.1.new_replied, some)) passes
then_waits s t (Settle done ∷ steps) g none some passes = then_waits g.0 t steps g.2 none (omega (arith, g.1.new_asked, g.1.new_replied, some)) passes
then_waits s t (Get id packet ∷ steps) g none some passes = absurd cc
then_waits s t (step ∷ steps) g none some passes = absurd g.1

-- a reply to what was sent waits two ticks later
pub reply_waits : (s t : Stages) (steps : List Step) → AllGo s steps t → got_in steps ≡ [] → 1 ≤ s.sent → 2 ≤ ticks_in steps → 1 ≤ t.waiting
reply_waits s t [] g none some passes = absurd (omega (arith, passes))
reply_waits s t (Tick ∷ steps) g none some passes = then_waits g.0 t steps g.2 none (omega (arith, g.1.new_asked, some)) (omega (arith, passes))
reply_waits s t (Send packet ∷ steps) g none some passes = reply_waits g.0 t steps g.2 none (omega (arith, g.1.new_sent, some)) passes
reply_waits s t (Serve id ∷ steps) g none some passes = reply_waits g.0 t steps g.2 none (omega (arith, g.1.new_sent, some)) passes
reply_waits s t (Settle done ∷ steps) g none some passes = reply_waits g.0 t steps g.2 none (omega (arith, g.1.new_sent, some)) passes
reply_waits s t (Get id packet ∷ steps) g none some passes = absurd cc
reply_waits s t (step ∷ steps) g none some passes = absurd g.1
