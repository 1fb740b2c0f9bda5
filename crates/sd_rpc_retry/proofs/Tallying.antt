-- How often a request was sent, and when.
use Rattle.std.proofs.Common.{◌≡◌, inl, inr, ℕ, zero, suc, ◌+◌, ◌*◌, ◌<◌, List, [], ◌∷◌, ◌++◌, Option, Result, Ok, Err, refl, sym, ◌∙◌, ap, arith, add-one}
use Rattle.std.specs.Prelude.{replicate}
use Rattle.std.proofs.lemmas.List.{append-nil}
use Rattle.sd_outside.specs.declared.errors.NoMemory.{NoMemory}
use Rattle.sd_outside.specs.declared.packet.Packet.{Packet}
use Rattle.sd_config.specs.declared.config.Config.{Config}
use Rattle.sd_link.specs.World.{World}
use Rattle.sd_link.specs.Steps.{Step, Send, History, after, run, world_of}
use Rattle.sd_link.specs.Parts.{sends_in, ticks_in}
use Rattle.sd_link.specs.Link.{GoesOn, Moves, IsNow}
use Rattle.sd_link.specs.Tries.{Hearing}
use Rattle.sd_link.proofs.Histories.{sends-append, ticks-append, tick-run, world-goes, moves_then, moves_weaker}
use Rattle.sd_rpc_retry.specs.declared.asking.Heard.TheVariants.{Found, Nothing, Flood}
use Rattle.sd_rpc_retry.specs.declared.asking.Asked.{Asked}
use Rattle.sd_rpc_retry.specs.declared.asking.Asked.TheVariants as asked
use Rattle.sd_rpc_retry.specs.declared.asking.Tally.{Tally}
use Rattle.sd_rpc_retry.specs.Asking.{Tried, IsSilent}
use Rattle.sd_rpc_retry.specs.Sending.{send_ticks, every, SentEvery, SentAbout, IsTallied, SendsAtOnce, IsStillButFor, SentFor}
use Rattle.sd_rpc_retry.proofs.Getting.{sends_nothing, at_now}

-- ---- lists

replicate-suc : (x : Packet) (n : ℕ) → replicate n x ++ x ∷ [] ≡ replicate (suc n) x
replicate-suc x zero = refl
replicate-suc x (suc n) = ap (λ (l : List Packet). x ∷ l) (replicate-suc x n)

replicate-push : (x : Packet) (n : ℕ) → replicate n x ++ x ∷ [] ≡ replicate (n + 1) x
replicate-push x n = replicate-suc x n ∙ ap (λ (k : ℕ). replicate k x) (sym (add-one n))

every-suc : (wait tick n : ℕ) → every wait tick n ++ (tick + n * wait) ∷ [] ≡ every wait tick (suc n)
every-suc wait tick zero = let e : tick + 0 * wait ≡ tick = omega arith in ap (λ (t : ℕ). t ∷ []) e
every-suc wait tick (suc n) =
    let e : tick + (suc n) * wait ≡ (tick + wait) + n * wait = omega arith in
    ap (λ (t : ℕ). tick ∷ (every wait (tick + wait) n ++ t ∷ [])) e ∙ ap (λ (l : List ℕ). tick ∷ l) (every-suc wait (tick + wait) n)

every-push : (wait tick n : ℕ) → every wait tick n ++ (tick + n * wait) ∷ [] ≡ every wait tick (n + 1)
every-push wait tick n = every-suc wait tick n ∙ ap (λ (k : ℕ). every wait tick k) (sym (add-one n))

-- ---- steps

ticks-append-sends : (c : Config) (w : World) (xs ys : List Step) → send_ticks c w (xs ++ ys) ≡ send_ticks c w xs ++ send_ticks c (run c w xs) ys
ticks-append-sends c w [] ys = refl
ticks-append-sends c w (Send packet ∷ xs) ys = ap (λ (l : List ℕ). w.tick ∷ l) (ticks-append-sends c (after c w (Send packet)) xs ys)
ticks-append-sends c w (x ∷ xs) ys = ticks-append-sends c (after c w x) xs ys

no_ticks : (c : Config) (w : World) (xs : List Step) → sends_in xs ≡ [] → send_ticks c w xs ≡ []
no_ticks c w [] none = refl
no_ticks c w (Send packet ∷ xs) none = absurd cc
no_ticks c w (x ∷ xs) none = no_ticks c (after c w x) xs none

-- ---- tries in vain

pub record Counted {S : Type 0} (request : Packet) (h : Hearing S) (wait count last : ℕ) (old : History) (part : List Step) : Type 0 where
  pub waited : ticks_in part ≡ count * wait
  pub sent : IsSilent h → SentEvery request wait count old part
  pub noted : 0 < count → last + wait ≡ (world_of old).tick + count * wait

pub counted_none : {S : Type 0} (request : Packet) (h : Hearing S) (wait last : ℕ) (old : History) → Counted request h wait 0 last old []
counted_none request h wait last old = record { waited = omega arith; sent = λ silent. record { packets = refl; ticks = refl }; noted = λ some. absurd (omega (arith, some)) }

module _ {S : Type 0} (request : Packet) (h : Hearing S) (wait count last now : ℕ) (a b : History) (xs ys : List Step) (goes : GoesOn a b xs) (q : Counted request h wait count last a xs) (at : now ≡ (world_of b).tick) where
  -- where the try began
  began : now ≡ (world_of a).tick + count * wait
  began =
      let moved : (world_of b).tick ≡ (run a.config (world_of a) xs).tick = ap (λ (w : World). w.tick) (world-goes a b xs goes) in
      let t = tick-run a.config (world_of a) xs in
      let w = q.waited in
      at ∙ moved ∙ t ∙ ap (λ (n : ℕ). (world_of a).tick + n) w

  pub last_is : now + wait ≡ (world_of a).tick + (count + 1) * wait
  last_is = let e = began in omega (arith, e)

  pub one_more : (rest : List Step) → ys ≡ Send request ∷ rest → sends_in rest ≡ [] → IsSilent h → SentEvery request wait (count + 1) a (xs ++ ys)
  one_more rest cut none silent =
      let s = q.sent silent in
      let c = a.config in
      let w = world_of a in
      let v = run c w xs in
      let sent : sends_in ys ≡ request ∷ [] = ap sends_in cut ∙ ap (λ (l : List Packet). request ∷ l) none in
      let start : v.tick ≡ w.tick + count * wait = tick-run c w xs ∙ ap (λ (n : ℕ). w.tick + n) q.waited in
      let first : send_ticks c v ys ≡ (w.tick + count * wait) ∷ [] =
      ap (λ (l : List Step). send_ticks c v l) cut
      ∙ ap (λ (l : List ℕ). v.tick ∷ l) (no_ticks c (after c v (Send request)) rest none)
      ∙ ap (λ (n : ℕ). n ∷ []) start in
      record {
        packets =
            sends-append xs ys
            ∙ ap (λ (l : List Packet). l ++ sends_in ys) s.packets
            ∙ ap (λ (l : List Packet). replicate count request ++ l) sent
            ∙ replicate-push request count;
        ticks =
            ticks-append-sends c w xs ys
            ∙ ap (λ (l : List ℕ). l ++ send_ticks c v ys) s.ticks
            ∙ ap (λ (l : List ℕ). every wait w.tick count ++ l) first
            ∙ every-push wait w.tick count;
      }

  none_more : sends_in ys ≡ [] → IsSilent h → SentEvery request wait count a (xs ++ ys)
  none_more none silent =
      let s = q.sent silent in
      let c = a.config in
      let w = world_of a in
      record {
        packets = sends-append xs ys ∙ ap (λ (l : List Packet). sends_in xs ++ l) none ∙ append-nil (sends_in xs) ∙ s.packets;
        ticks = ticks-append-sends c w xs ys ∙ ap (λ (l : List ℕ). send_ticks c w xs ++ l) (no_ticks c (run c w xs) ys none) ∙ append-nil (send_ticks c w xs) ∙ s.ticks;
      }

  pub about : IsStillButFor request h b ys → IsSilent h → SentAbout request wait (count + 1) a (xs ++ ys)
  about still silent = of (still silent)
    where
      of : SendsAtOnce request ys → SentAbout request wait (count + 1) a (xs ++ ys)
      of (inl none) = inr (count, refl, none_more none silent)
      of (inr sent) = inl (one_more sent.0 sent.1 sent.2 silent)

  pub counted_more : {T : Type 0} (shows : T → S) → Tried request h shows wait Nothing b ys → Counted request h wait (count + 1) now a (xs ++ ys)
  counted_more shows (t, settled) = record {
    waited = let e = ticks-append xs ys in let f = ap ticks_in t.cut in let g = t.ending.waited in let k = q.waited in omega (arith, e, f, g, k);
    sent = λ silent. one_more t.rest t.cut (sends_nothing h t.rest silent t.replied) silent;
    noted = λ some. last_is;
  }

-- ---- what a link tells

module _ {S : Type 0} (T : Type 0) (request : Packet) (h : Hearing S) (wait count last now : ℕ) (old mid new : Option History) (first : Moves old mid (Counted request h wait count last)) (at : IsNow mid now) where
  pub moves_more : (shows : T → S) → Moves mid new (Tried request h shows wait Nothing) → Moves old new (Counted request h wait (count + 1) now)
  moves_more shows second =
      moves_then old mid new (Counted request h wait count last) (λ b ys. (now ≡ (world_of b).tick) × Tried request h shows wait Nothing b ys) (Counted request h wait (count + 1) now)
      (λ a b xs ys goes q t. counted_more request h wait count last now a b xs ys goes q t.0 shows t.1)
      first (at_now mid new now (Tried request h shows wait Nothing) at second)

  with_now : (P : History → List Step → Type 0) (what : Result (Asked T) NoMemory)
      → ((a b : History) (xs ys : List Step) → GoesOn a b xs → Counted request h wait count last a xs → now ≡ (world_of b).tick → P b ys → IsSilent h → SentFor request wait (count + 1) what a (xs ++ ys))
      → Moves mid new P → Moves old new (IsTallied {T = T} request h wait (record { sends = count + 1; last = now }) what)
  with_now P what so second =
      moves_then old mid new (Counted request h wait count last) (λ b ys. (now ≡ (world_of b).tick) × P b ys) (IsTallied {T = T} request h wait (record { sends = count + 1; last = now }) what)
      (λ a b xs ys goes q p. record {
        last = λ some. last_is request h wait count last now a b xs ys goes q p.0;
        sent = so a b xs ys goes q p.0 p.1;
      })
      first (at_now mid new now P at second)

  pub moves_fault : Moves mid new (IsStillButFor request h) → Moves old new (IsTallied {T = T} request h wait (record { sends = count + 1; last = now }) (Ok asked.Fault))
  moves_fault second =
      with_now (IsStillButFor request h) (Ok asked.Fault)
      (λ a b xs ys goes q here still silent. about request h wait count last now a b xs ys goes q here still silent) second

  pub moves_wanting : (none : NoMemory) → Moves mid new (IsStillButFor request h) → Moves old new (IsTallied {T = T} request h wait (record { sends = count + 1; last = now }) (Err none))
  moves_wanting none second =
      with_now (IsStillButFor request h) (Err none)
      (λ a b xs ys goes q here still silent. about request h wait count last now a b xs ys goes q here still silent) second

  pub moves_answer : (shows : T → S) (x : T) → Moves mid new (Tried request h shows wait (Found x)) → Moves old new (IsTallied {T = T} request h wait (record { sends = count + 1; last = now }) (Ok (asked.Answer x)))
  moves_answer shows x second =
      with_now (Tried request h shows wait (Found x)) (Ok (asked.Answer x))
      (λ a b xs ys goes q here t silent. one_more request h wait count last now a b xs ys goes q here t.rest t.cut (sends_nothing h t.rest silent t.replied) silent) second

  pub moves_flood : (shows : T → S) → Moves mid new (Tried request h shows wait Flood) → Moves old new (IsTallied {T = T} request h wait (record { sends = count + 1; last = now }) (Ok asked.Flood))
  moves_flood shows second =
      with_now (Tried request h shows wait Flood) (Ok asked.Flood)
      (λ a b xs ys goes q here t silent. one_more request h wait count last now a b xs ys goes q here t.rest t.cut (sends_nothing h t.rest silent t.replied) silent) second

-- all tries were in vain
pub moves_timeout : {S : Type 0} (T : Type 0) (request : Packet) (h : Hearing S) (wait : ℕ) (tally : Tally) (old new : Option History) → Moves old new (Counted request h wait tally.sends tally.last) → Moves old new (IsTallied {T = T} request h wait tally (Ok asked.Timeout))
moves_timeout T request h wait tally old new m =
    moves_weaker old new (Counted request h wait tally.sends tally.last) (IsTallied {T = T} request h wait tally (Ok asked.Timeout))
    (λ a xs q. record { last = q.noted; sent = q.sent }) m
