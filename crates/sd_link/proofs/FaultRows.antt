-- Failures, strangers and faults of the disk by example.
use Rattle.std.proofs.Common.{◌≡◌, ℕ, ◌≤◌, Bool, true, false, cond, List, [], ◌∷◌, Some, refl, arith}
use Rattle.std.specs.Prelude.{◌==◌}
use Rattle.sd_outside.specs.declared.packet.Packet.{Packet}
use Rattle.sd_outside.specs.declared.packet.Packet.TheVariants.{Frame, Udp}
use Rattle.sd_rarp.specs.Frame.{reading}
use Rattle.sd_config.specs.declared.config.Config.{Config}
use Rattle.sd_config.specs.Events.{plain_fates}
use Rattle.sd_config.specs.Plan.{Strays, Plan}
use Rattle.sd_link.specs.World.{World, Flying, Client, Stranger, flying, start}
use Rattle.sd_services.specs.NfsCalls.{change_of, is_swap_access}
use Rattle.sd_services.specs.Reply.{files_after}
use Rattle.sd_link.specs.Steps.{Step, Tick, Send, Stray, Serve, Settle, Fail, Sent, Served, Failed, faulted, after, record_of, IsStrangers}
use Rattle.sd_link.specs.Lawful.{IsLawful, EndsAtRest, AllStrayAsNamed}

-- no delivery is stopped, no stranger sends, and no send fails
abbrev calm : ℕ → Plan
calm receives = record { fates = plain_fates; crashes = λ id copy. false; strays = λ tick. []; sends = λ id. false; receives = receives; accesses = 0 }

-- ---- a receive fails after a send, and the client sends again

abbrev frame : Packet
frame = Frame []

abbrev failing : List Step
failing = Send frame ∷ Fail ∷ Send frame ∷ Tick ∷ Serve 0 ∷ Serve 1 ∷ []

abbrev sent : Flying
sent = flying Client 0 frame

failing_row : (c : Config) → 2 ≤ c.life → IsLawful c (calm 1) failing × EndsAtRest c (calm 1) failing
unfolding reading is_swap_access
failing_row c life = (
  record {
    orderly = record {
      allowed = (tt, (tt, (tt, (tt, ((sent, record { sent = refl; young = omega (arith, life) }, refl, λ is. refl), ((sent, record { sent = refl; young = omega (arith, life) }, refl, λ is. refl), tt))))));
      in_turn = ((refl, refl), ((refl, refl), ((refl, refl), (((refl, refl), refl), ((1 ∷ [], refl), (([], refl), tt))))));
      stops = (tt, (tt, (tt, (tt, (refl, (refl, tt))))));
      strays = (refl, (refl, (refl, (refl, (refl, (refl, tt))))));
      sends = (λ named. absurd cc, (λ named. absurd cc, tt));
      faults = omega arith;
    };
    receives = omega arith;
  },
  record { server = (refl, refl); strangers = refl },
)

failing_record : (c : Config) → record_of c (start c) failing ≡ Sent 0 0 frame ∷ Failed 0 ∷ Sent 0 1 frame ∷ Served 1 0 ∷ Served 1 1 ∷ []
unfolding reading
failing_record c = refl

-- without a line no receive fails
not_failing : (c : Config) → IsLawful c (calm 0) failing → ⊥
not_failing c lawful = omega (arith, lawful.receives)

-- ---- a send fails

-- A line names the first packet: its send fails, though it goes out, and so it is served as the second is.
abbrev named : Plan
named = record (calm 0) { sends = λ id. id == 0 }

named_row : (c : Config) → 2 ≤ c.life → IsLawful c named failing × EndsAtRest c named failing
unfolding reading is_swap_access
named_row c life = let row = failing_row c life in (
  record {
    orderly = record {
      allowed = row.0.orderly.allowed;
      in_turn = row.0.orderly.in_turn;
      stops = row.0.orderly.stops;
      strays = row.0.orderly.strays;
      sends = (λ named. (Send frame ∷ Tick ∷ Serve 0 ∷ Serve 1 ∷ [], refl), (λ named. absurd cc, tt));
      faults = omega arith;
    };
    receives = omega arith;
  },
  record { server = row.1.server; strangers = row.1.strangers },
)

-- and so the second can't come first

not_unfailing : (c : Config) → IsLawful c named (Send frame ∷ Send frame ∷ []) → ⊥
not_unfailing c lawful = let next = lawful.orderly.sends.0 refl in absurd cc

-- ---- a stranger sends at tick 1

abbrev there : Config → Config
there c = record c { server = record c.server { ip = 1 }; client = record c.client { ip = 2 } }

abbrev stray : Packet
stray = Udp (record { ip = 3; port = 900 }) (record { ip = 0xffff_ffff; port = 9 }) []

abbrev at_one : Strays
at_one tick = cond (tick == 1) (stray ∷ []) []

abbrev with_stray : Plan
with_stray = record (calm 0) { strays = at_one }

abbrev straying : List Step
straying = Tick ∷ Stray stray ∷ Tick ∷ Serve 0 ∷ []

-- it goes to everyone, and so to the server
straying_row : (c : Config) → 2 ≤ c.life → IsLawful (there c) with_stray straying × EndsAtRest (there c) with_stray straying
unfolding change_of is_swap_access
straying_row c life = (
  record {
    orderly = record {
      allowed = (tt, (record { not_client = λ e. omega (arith, e); not_server = λ e. omega (arith, e); not_portmapper = λ e. omega (arith, e) }, (tt, ((flying Stranger 1 stray, record { sent = refl; young = omega (arith, life) }, refl, λ is. refl), tt))));
      in_turn = (((refl, refl), refl), (tt, (((refl, refl), refl), (([], refl), tt))));
      stops = (tt, (tt, (tt, (refl, tt))));
      strays = (refl, (([], refl), (refl, (refl, tt))));
      sends = tt;
      faults = omega arith;
    };
    receives = omega arith;
  },
  record { server = (refl, refl); strangers = refl },
)

-- the tick isn't over before it was sent
not_late : (c : Config) → AllStrayAsNamed at_one (there c) (start (there c)) (Tick ∷ Tick ∷ Stray stray ∷ []) → ⊥
not_late c strays = let none : [] ≡ stray ∷ [] = strays.1.0 in absurd cc

-- who sends from the client's address, from the server's or from the portmapper's port is no stranger
from : ℕ → ℕ → Packet
from ip port = Udp (record { ip = ip; port = port }) (record { ip = 1; port = 9 }) []

no_strangers : (c : Config) → (IsStrangers (there c) (from 2 900) → ⊥) × (IsStrangers (there c) (from 1 900) → ⊥) × (IsStrangers (there c) (from 3 111) → ⊥)
unfolding from
no_strangers c = (λ is. is.not_client refl, λ is. is.not_server refl, λ is. is.not_portmapper refl)

-- ---- a change becomes doubtful, and is done after all, or isn't

doubted : (c : Config) (w : World) (f : Flying) → (faulted c true w (Some f)).doubt ≡ change_of c f.packet
doubted c w f = refl

undone : (c : Config) (doubts : Bool) (w : World) (f : Flying) → (faulted c doubts w (Some f)).server ≡ w.server
undone c doubts w f = refl

done_later : (c : Config) (w : World) (f : Flying) → (after c (faulted c true w (Some f)) (Settle true)).server.files ≡ files_after c w.server.files f.packet
done_later c w f = refl

never_done : (c : Config) (doubts : Bool) (w : World) (f : Flying) → (after c (faulted c doubts w (Some f)) (Settle false)).server.files ≡ w.server.files
never_done c doubts w f = refl
