-- A session whose peer is silent sends its block again, and ends, by example.
use Rattle.std.proofs.Common.{◌≡◌, ℕ, ◌≤◌, Bool, true, false, cond, List, [], ◌∷◌, Some, refl, arith}
use Rattle.std.specs.Prelude.{◌==◌}
use Rattle.sd_outside.specs.declared.packet.Packet.{Packet}
use Rattle.sd_outside.specs.declared.packet.Packet.TheVariants.{Udp}
use Rattle.sd_tftp.specs.Reading.{reading, text_at}
use Rattle.sd_config.specs.declared.config.Config.{Config}
use Rattle.sd_config.specs.Events.{Fates}
use Rattle.sd_config.specs.Plan.{Plan}
use Rattle.sd_services.specs.Part.{Session}
use Rattle.sd_services.specs.NfsCalls.{change_of, is_swap_access}
use Rattle.sd_link.specs.World.{Flying, Client, flying, start}
use Rattle.sd_link.specs.Steps.{Step, Tick, Send, Serve, Data, End}
use Rattle.sd_link.specs.Lawful.{IsLawful, EndsAtRest}

-- The server's address is 1, and it has a file of no bytes, whose name is A. It waits a tick, and sends a block twice at most.
abbrev there : Config → Config
there c = record c { server = record c.server { ip = 1 }; client = record c.client { ip = 2 }; wait = 1; tries = 2; tftp = record { name = 65 ∷ []; bytes = [] } ∷ [] }

-- it is asked for, in mode octet (RFC 1350, section 5)
abbrev asks : Packet
asks = Udp (record { ip = 2; port = 2048 }) (record { ip = 1; port = 69 }) (0 ∷ 1 ∷ 65 ∷ 0 ∷ 111 ∷ 99 ∷ 116 ∷ 101 ∷ 116 ∷ 0 ∷ [])

-- all but the first packet are lost
abbrev first_comes : Fates
first_comes id = cond (id == 0) (1 ∷ []) []

abbrev plan : Plan
plan = record { fates = first_comes; crashes = λ id copy. false; strays = λ tick. []; sends = λ id. false; receives = 0; accesses = 0 }

abbrev row : List Step
row = Send asks ∷ Tick ∷ Serve 0 ∷ Tick ∷ Data 0 ∷ Tick ∷ End 0 ∷ []

-- the session after its first block was sent, and after the second time
abbrev sent : ℕ → ℕ → Session
sent tick sends = record { number = 0; peer = record { ip = 2; port = 2048 }; name = 65 ∷ []; block = 1; sent = tick; sends = sends }

session_row : (c : Config) → 2 ≤ c.life → IsLawful (there c) plan row × EndsAtRest (there c) plan row
unfolding reading text_at change_of is_swap_access
session_row c life = (
  record {
    orderly = record {
      allowed = (
        tt,
        (tt, ((flying Client 0 asks, record { sent = refl; young = omega (arith, life) }, refl, λ is. refl), (tt, ((sent 1 1, record { found = refl; due = refl }, omega arith), (tt, ((sent 2 2, record { found = refl; due = refl }, omega arith), tt)))))),
      );
      in_turn = (
        (refl, refl),
        (((refl, refl), refl), (([], refl), (((refl, refl), refl), ((refl, ([], refl)), (((refl, refl), refl), ((refl, ([], refl)), tt)))))),
      );
      stops = (tt, (tt, (refl, (tt, (tt, (tt, (tt, tt)))))));
      strays = (refl, (refl, (refl, (refl, (refl, (refl, (refl, tt)))))));
      sends = (λ named. absurd cc, tt);
      faults = omega arith;
    };
    receives = omega arith;
  },
  record { server = (refl, refl); strangers = refl },
)
