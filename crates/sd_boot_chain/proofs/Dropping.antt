-- What the client knows while it gets packets until a tick, and drops them.
use Rattle.std.proofs.Common.{◌≡◌, ℕ, ◌+◌, ◌<◌, ◌≤◌, List, [], ◌∷◌, ◌++◌, length, Some, None, Ok, Err, refl, sym, ◌∙◌, ap, subst, arith, append_assoc, length-append}
use Rattle.std.proofs.lemmas.List.{append-nil}
use Rattle.sd_outside.specs.declared.packet.Packet.{Packet}
use Rattle.sd_link.specs.World.{World}
use Rattle.sd_link.specs.Steps.{Step, Get, History, world_of, run}
use Rattle.sd_link.specs.Parts.{sends_in, got_in}
use Rattle.sd_link.specs.declared.link.LinkError.{LinkError}
use Rattle.sd_link.specs.declared.link.LinkError.TheVariants.{Failed, NoMemory}
use Rattle.sd_link.specs.Link.{GoesOn, Hands, Receives}
use Rattle.sd_link.proofs.Histories.{sends-append, got-append}
use Rattle.sd_link.specs.Tries.{EndsWithPacket}
use Rattle.sd_rpc_retry.specs.Lasting.{StaysBefore}
use Rattle.sd_rpc_retry.proofs.Getting.{stays_then, at_end}

-- so many packets were got, and no tick passed from `until` on
pub record Gets (until count : ℕ) (old : History) (part : List Step) : Type 0 where
  pub silent : sends_in part ≡ []
  pub ticks : StaysBefore until old part
  pub counted : length (got_in part) ≡ count

-- so many packets were got and dropped; where there was one, nothing came after it
pub record Drops (until count : ℕ) (old : History) (part : List Step) : Type 0 where
  pub gets : Gets until count old part
  pub last : 0 < count → EndsWithPacket (λ packet. []) part

pub drops_none : (until : ℕ) (h : History) → Drops until 0 h []
drops_none until h = record { gets = record { silent = refl; ticks = tt; counted = refl }; last = λ some. absurd (omega (arith, some)) }

silent_then : (xs ys : List Step) → sends_in xs ≡ [] → sends_in ys ≡ [] → sends_in (xs ++ ys) ≡ []
silent_then xs ys first second = sends-append xs ys ∙ ap (λ (l : List Packet). l ++ sends_in ys) first ∙ second

got_one : (until : ℕ) (packet : Packet) (b : History) (ys : List Step) → Receives until (Ok (Some packet)) b ys → got_in ys ≡ packet ∷ []
got_one until packet b ys r =
    let h = r.hands in
    ap got_in h.2 ∙ got-append h.0 (Get h.1 packet ∷ []) ∙ ap (λ (l : List Packet). l ++ packet ∷ []) h.3

got_nothing : (xs ys : List Step) → got_in ys ≡ [] → got_in (xs ++ ys) ≡ got_in xs
got_nothing xs ys none = got-append xs ys ∙ ap (λ (l : List Packet). got_in xs ++ l) none ∙ append-nil (got_in xs)

-- nothing is got where the waiting failed
none_of : (until : ℕ) (b : History) (ys : List Step) (why : LinkError) → Hands until (Err why) b ys → got_in ys ≡ []
none_of until b ys Failed h = h.2
none_of until b ys NoMemory h = h

module _ (until count : ℕ) (a b : History) (xs ys : List Step) (goes : GoesOn a b xs) (g : Gets until count a xs) where
  gets_packet : (packet : Packet) → Receives until (Ok (Some packet)) b ys → Gets until (count + 1) a (xs ++ ys)
  gets_packet packet r = record {
    silent = silent_then xs ys g.silent r.silent;
    ticks = stays_then a b xs ys until goes g.ticks r.ticks;
    counted = ap length (got-append xs ys ∙ ap (λ (l : List Packet). got_in xs ++ l) (got_one until packet b ys r)) ∙ length-append (got_in xs) (packet ∷ []) ∙ ap (λ (n : ℕ). n + 1) g.counted;
  }

  pub gets_nothing : Receives until (Ok None) b ys → Gets until count a (xs ++ ys)
  gets_nothing r = record {
    silent = silent_then xs ys g.silent r.silent;
    ticks = stays_then a b xs ys until goes g.ticks r.ticks;
    counted = ap length (got_nothing xs ys r.hands.0) ∙ g.counted;
  }

  pub gets_until : Receives until (Ok None) b ys → until ≤ (run a.config (world_of a) (xs ++ ys)).tick
  gets_until r = subst (λ (w : World). until ≤ w.tick) (at_end a b xs ys goes) r.hands.1

  pub gets_error : (why : LinkError) → Receives until (Err why) b ys → Gets until count a (xs ++ ys)
  gets_error why r = record {
    silent = silent_then xs ys g.silent r.silent;
    ticks = stays_then a b xs ys until goes g.ticks r.ticks;
    counted = ap length (got_nothing xs ys (none_of until b ys why r.hands)) ∙ g.counted;
  }

-- one packet more is dropped
pub drops_packet : (until count : ℕ) (a b : History) (xs ys : List Step) → GoesOn a b xs → Drops until count a xs → (packet : Packet) → Receives until (Ok (Some packet)) b ys → Drops until (count + 1) a (xs ++ ys)
drops_packet until count a b xs ys goes d packet r = record {
  gets = gets_packet until count a b xs ys goes d.gets packet r;
  last = λ some. record {
    before = xs ++ r.hands.0;
    id = r.hands.1;
    packet = packet;
    cut = ap (λ (l : List Step). xs ++ l) r.hands.2 ∙ sym (append_assoc xs r.hands.0 (Get r.hands.1 packet ∷ []));
  };
}
