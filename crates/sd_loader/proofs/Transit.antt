-- What holds of each packet that may still come, where it holds of what the client sends and of what the server sends for it.
use Rattle.std.proofs.Common.{◌≡◌, ◌⊎◌, ℕ, zero, suc, ◌+◌, ◌<◌, Bool, List, [], ◌∷◌, ◌++◌, map, Option, Some, None, refl, sym, subst, inl, inr, arith}
use Rattle.std.specs.Prelude.{slice_get, IsTrue}
use Rattle.std.specs.List.{AllByRecursion}
use Rattle.sd_outside.specs.declared.packet.Packet.{Packet}
use Rattle.sd_config.specs.declared.config.Config.{Config}
use Rattle.sd_services.specs.Part.{Session, ServerPart}
use Rattle.sd_services.specs.Sessions.{block_packet, session_in}
use Rattle.sd_services.specs.Failing.{failure_out}
use Rattle.sd_services.specs.Reply.{out_of}
use Rattle.sd_link.specs.World.{World, Flying, Sender, Client, Server, Stranger, flying}
use Rattle.sd_link.specs.Steps.{Step, Tick, Send, Stray, Serve, Crash, Fault, Settle, Data, End, Get, Fail, IsDeliverable, IsStrangers, Allowed, AllAllowed, after, served, crashed, faulted, resent, run, goes_to_server, goes_to_client}
use Rattle.sd_link.specs.Parts.{sends_in}
use Rattle.sd_loader.specs.Lists.{IsIn}

-- what is in flight after more was sent was there before, or is of what was sent
got_split : (tick : ℕ) (from : Sender) (xs : List Flying) (packets : List Packet) (id : ℕ) (f : Flying) → slice_get (xs ++ map (flying from tick) packets) id ≡ Some f
    → (slice_get xs id ≡ Some f) ⊎ ((p : Packet) × IsIn packets p × (f ≡ flying from tick p))
got_split tick from [] [] id f e = absurd cc
got_split tick from [] (p ∷ ps) zero f e = inr (p, inl refl, sym (some_is (flying from tick p) f e))
  where
    some_is : (a b : Flying) → Some a ≡ Some b → a ≡ b
    some_is a b h = cc
got_split tick from [] (p ∷ ps) (suc id) f e = elim (got_split tick from [] ps id f e) [ inl a ↦ absurd (nothing_there id a) | inr (q, m, is) ↦ inr (q, inr m, is) ]
  where
    nothing_there : (i : ℕ) → slice_get (map (flying from tick) []) i ≡ Some f → ⊥
    nothing_there i h = cc
got_split tick from (x ∷ xs) packets zero f e = inl e
got_split tick from (x ∷ xs) packets (suc id) f e = got_split tick from xs packets id f e

-- S holds of what the client and strangers sent, and P of what the server sent
abbrev pub BySender : (Packet → Type 0) → (Packet → Type 0) → Sender → Packet → Type 0
BySender S P Client packet = S packet
BySender S P Server packet = P packet
BySender S P Stranger packet = S packet

module _ (c : Config) (S P : Packet → Type 0) where
  -- it holds of each packet that may still come
  abbrev pub InTransit : World → Type 0
  InTransit w = (id : ℕ) (f : Flying) → IsDeliverable c w id f → BySender S P f.from f.packet

  pub record Rules : Type 0 where
    pub replies : (tick : ℕ) (part : ServerPart) (q p : Packet) → S q → IsIn (out_of c tick part q) p → P p
    pub failures : (q p : Packet) → S q → IsIn (failure_out c q) p → P p
    pub blocks : (s : Session) → P (block_packet c s)
    pub strays : (q : Packet) → IsStrangers c q → S q

  -- more is sent
  more_sent : (w v : World) (from : Sender) (packets : List Packet) → v.tick ≡ w.tick → v.flight ≡ w.flight ++ map (flying from w.tick) packets
      → ((p : Packet) → IsIn packets p → BySender S P from p) → InTransit w → InTransit v
  more_sent w v from packets same grown each all id f d =
      elim (got_split w.tick from w.flight packets id f (subst (λ (l : List Flying). slice_get l id ≡ Some f) grown d.sent)) [
        | inl old ↦ all id f (record { sent = old; young = subst (λ (t : ℕ). t < f.tick + c.life) same d.young })
        | inr (p, m, is) ↦ subst (λ (g : Flying). BySender S P g.from g.packet) (sym is) (each p m)
      ]

  -- the flight stays
  same_flight : (w v : World) → v.tick ≡ w.tick → v.flight ≡ w.flight → InTransit w → InTransit v
  same_flight w v same flight all id f d =
      all id f (record { sent = subst (λ (l : List Flying). slice_get l id ≡ Some f) flight d.sent; young = subst (λ (t : ℕ). t < f.tick + c.life) same d.young })

  to_server : (from : Sender) (packet : Packet) → IsTrue (goes_to_server c from packet) → BySender S P from packet → S packet
  to_server Client packet goes h = h
  to_server Server packet goes h = absurd cc
  to_server Stranger packet goes h = h

  to_client : (from : Sender) (packet : Packet) → IsTrue (goes_to_client c from packet) → BySender S P from packet → P packet ⊎ S packet
  to_client Client packet goes h = absurd cc
  to_client Server packet goes h = inl h
  to_client Stranger packet goes h = inr h

  module _ (k : Rules) where
    transit_served : (w : World) (o : Option Flying) → ((f : Flying) → o ≡ Some f → S f.packet) → InTransit w → InTransit (served c w o)
    transit_served w None asks all = all
    transit_served w (Some f) asks all =
        more_sent w (served c w (Some f)) Server (out_of c w.tick w.server f.packet) refl refl (λ p m. k.replies w.tick w.server f.packet p (asks f refl) m) all

    transit_crashed : (w : World) (done : Bool) (o : Option Flying) → InTransit w → InTransit (crashed c done w o)
    transit_crashed w done None all = all
    transit_crashed w done (Some f) all = λ id g d. all id g (record { sent = d.sent; young = d.young })

    transit_faulted : (w : World) (doubts : Bool) (o : Option Flying) → ((f : Flying) → o ≡ Some f → S f.packet) → InTransit w → InTransit (faulted c doubts w o)
    transit_faulted w doubts None asks all = all
    transit_faulted w doubts (Some f) asks all =
        more_sent w (faulted c doubts w (Some f)) Server (failure_out c f.packet) refl refl (λ p m. k.failures f.packet p (asks f refl) m) all

    transit_resent : (w : World) (o : Option Session) → InTransit w → InTransit (resent c w o)
    transit_resent w None all = all
    transit_resent w (Some s) all = more_sent w (resent c w (Some s)) Server (block_packet c s ∷ []) refl refl (one s) all
      where
        one : (s : Session) (p : Packet) → IsIn (block_packet c s ∷ []) p → P p
        one s p (inl e) = subst P e (k.blocks s)
        one s p (inr h) = absurd h

    same_one : (o : Option Flying) (f g : Flying) → o ≡ Some f → o ≡ Some g → f ≡ g
    same_one o f g p q = cc

    sent_one : (Q : Packet → Type 0) (packet : Packet) → Q packet → (p : Packet) → IsIn (packet ∷ []) p → Q p
    sent_one Q packet s p (inl e) = subst Q e s
    sent_one Q packet s p (inr h) = absurd h

    -- what stands in the flight, where one that may still come is there
    comes : (w : World) (id : ℕ) (f g : Flying) → IsDeliverable c w id f → IsTrue (goes_to_server c f.from f.packet) → InTransit w → slice_get w.flight id ≡ Some g → S g.packet
    comes w id f g d goes all e = subst (λ (x : Flying). S x.packet) (same_one (slice_get w.flight id) f g d.sent e) (to_server f.from f.packet goes (all id f d))

    transit_on : (w : World) (step : Step) → Allowed c w step → AllByRecursion S (sends_in (step ∷ [])) → InTransit w → InTransit (after c w step)
    transit_on w Tick a s all = λ id f d. all id f (record { sent = d.sent; young = let y = d.young in omega arith })
    transit_on w (Send packet) a s all = more_sent w (after c w (Send packet)) Client (packet ∷ []) refl refl (sent_one S packet s.0) all
    transit_on w (Stray packet) a s all = more_sent w (after c w (Stray packet)) Stranger (packet ∷ []) refl refl (sent_one S packet (k.strays packet a)) all
    transit_on w (Serve id) a s all = transit_served w (slice_get w.flight id) (λ g e. comes w id a.0 g a.1 a.2 all e) all
    transit_on w (Crash id done) a s all = transit_crashed w done (slice_get w.flight id) all
    transit_on w (Fault id doubts) a s all = transit_faulted w doubts (slice_get w.flight id) (λ g e. comes w id a.0 g a.1 a.2 all e) all
    transit_on w (Settle done) a s all = λ id f d. all id f (record { sent = d.sent; young = d.young })
    transit_on w (Data number) a s all = transit_resent w (session_in number w.server.sessions) all
    transit_on w (End number) a s all = λ id f d. all id f (record { sent = d.sent; young = d.young })
    transit_on w (Get id packet) a s all = all
    transit_on w Fail a s all = all

    first_sends : (step : Step) (steps : List Step) → AllByRecursion S (sends_in (step ∷ steps)) → AllByRecursion S (sends_in (step ∷ [])) × AllByRecursion S (sends_in steps)
    first_sends (Send packet) steps s = ((s.0, tt), s.1)
    first_sends step steps s = (tt, s)

    -- It holds after steps in which the client sends such packets.
    pub transit_run : (w : World) (steps : List Step) → AllAllowed c w steps → AllByRecursion S (sends_in steps) → InTransit w → InTransit (run c w steps)
    transit_run w [] a s all = all
    transit_run w (step ∷ steps) a s all = let f = first_sends step steps s in transit_run (after c w step) steps a.1 f.1 (transit_on w step a.0 f.0 all)

    -- And what the client gets next is such, or a stranger's.
    pub transit_got : (w : World) (id : ℕ) (packet : Packet) → Allowed c w (Get id packet) → InTransit w → P packet ⊎ S packet
    transit_got w id packet a all = subst (λ (p : Packet). P p ⊎ S p) a.3 (to_client a.0.from a.0.packet a.2 (all id a.0 a.1))
