-- The disk fails in an access of the swap file, and the next settles what became of it, by example.
use Rattle.std.proofs.Common.{◌≡◌, ℕ, ◌+◌, ◌≤◌, Bool, true, false, List, [], ◌∷◌, ◌++◌, map, Option, Some, None, refl, sym, ◌∙◌, ap, subst, arith}
use Rattle.std.specs.Prelude.{filter, ◌&&◌, ◌==◌, if◌then◌else◌}
use Rattle.std.specs.List.{flat_map, enumerate_from}
use Rattle.sd_outside.specs.declared.packet.Addr.{Addr}
use Rattle.sd_outside.specs.declared.packet.Packet.{Packet}
use Rattle.sd_outside.specs.declared.packet.Packet.TheVariants.{Udp}
use Rattle.sd_config.specs.declared.config.Config.{Config}
use Rattle.sd_config.specs.Events.{plain_fates}
use Rattle.sd_config.specs.Plan.{Plan}
use Rattle.sd_services.specs.Failing.{failure_out}
use Rattle.sd_services.specs.NfsCalls.{change_of, is_swap_access}
use Rattle.sd_services.specs.Part.{Change}
use Rattle.sd_link.specs.World.{Flying, Sender, Client, Server, flying, start}
use Rattle.sd_link.specs.Steps.{Step, Tick, Send, Serve, Fault, Settle, Entry, goes_to_server, sent_from}
use Rattle.sd_link.specs.Lawful.{IsLawful, id_at, to_server, is_stopped, is_strangers, copies_at}

-- ---- what the server sends is no delivery to it, and no stranger's

none_due : (c : Config) (t n : ℕ) (packets : List Packet) → flat_map (λ (e : ℕ × Flying). if goes_to_server c e.1.from e.1.packet then copies_at t (plain_fates e.0) e else []) (enumerate_from n (map (flying Server t) packets)) ≡ []
none_due c t n [] = refl
none_due c t n (packet ∷ packets) = none_due c t (n + 1) packets

none_served : (t n at : ℕ) (packets : List Packet) → flat_map (λ (e : Entry). id_at at (to_server e)) (sent_from t n packets) ≡ []
none_served t n at [] = refl
none_served t n at (packet ∷ packets) = none_served t (n + 1) at packets

-- nothing is written where a change is settled
none_served_settled : (t n at : ℕ) (packets : List Packet) → flat_map (λ (e : Entry). id_at at (to_server e)) (sent_from t n packets ++ []) ≡ []
none_served_settled t n at [] = refl
none_served_settled t n at (packet ∷ packets) = none_served_settled t (n + 1) at packets

none_stray : (t : ℕ) (packets : List Packet) → filter (λ (f : Flying). is_strangers f.from && f.tick == t) (map (flying Server t) packets) ≡ []
none_stray t [] = refl
none_stray t (packet ∷ packets) = none_stray t packets

never_stopped : (copy : Option (ℕ × ℕ)) → is_stopped (λ id copy. false) copy ≡ false
never_stopped None = refl
never_stopped (Some copy) = refl

-- ---- the same access is sent twice

abbrev is_access : Config → Option Flying → Bool
is_access c None = false
is_access c (Some f) = is_swap_access c f.packet

-- the server's address is 1
abbrev there : Config → Config
there c = record c { server = record c.server { ip = 1 } }

-- a datagram to the server
abbrev to_it : Addr → ℕ → List ℕ → Packet
to_it src port body = Udp src (record { ip = 1; port = port }) body

-- The disk may fail so often.
abbrev failing : ℕ → Plan
failing accesses = record { fates = plain_fates; crashes = λ id copy. false; strays = λ tick. []; sends = λ id. false; receives = 0; accesses = accesses }

-- The disk fails in the first, whose change becomes doubtful; before the second it is settled.
abbrev row : Packet → Bool → List Step
row packet done = Send packet ∷ Send packet ∷ Tick ∷ Fault 0 true ∷ Settle done ∷ Serve 1 ∷ []

fault_row : (c : Config) (src : Addr) (port : ℕ) (body : List ℕ) (done : Bool) → 2 ≤ c.life → is_swap_access (there c) (to_it src port body) ≡ true → IsLawful (there c) (failing 1) (row (to_it src port body) done)
fault_row c src port body done life access =
    let packet = to_it src port body in
    let out = failure_out (there c) packet in
    let due = none_due (there c) 1 2 out in
    let served = none_served 1 2 1 out in
    let strays = none_stray 1 out in
    let served_then = none_served_settled 1 2 1 out in
    record {
      orderly = record {
        allowed = (
          tt,
          (tt, (tt, ((flying Client 0 packet, record { sent = refl; young = omega (arith, life) }, refl, access, λ doubts. refl), (tt, ((flying Client 0 packet, record { sent = refl; young = omega (arith, life) }, refl, λ is. refl), tt))))),
        );
        in_turn = (
          (refl, refl),
          ((refl, refl), (((refl, refl), refl), ((1 ∷ [], refl), ((1, ([], λ i. 0 ∷ ((served i ++ 1 ∷ []) ++ sym due i))), (([], λ i. 0 ∷ ((served_then i ++ 1 ∷ []) ++ sym due i)), tt))))),
        );
        stops = (tt, (tt, (tt, (refl, (tt, (never_stopped _, tt))))));
        strays = (refl, (refl, (refl, (refl, (ap (map (λ (f : Flying). f.packet)) strays, (ap (map (λ (f : Flying). f.packet)) strays, tt))))));
        sends = (λ named. absurd cc, (λ named. absurd cc, tt));
        faults = omega arith;
      };
      receives = omega arith;
    }

-- without a line no access fails
not_faulting : (c : Config) (packet : Packet) (done : Bool) → IsLawful c (failing 0) (row packet done) → ⊥
not_faulting c packet done lawful = omega (arith, lawful.orderly.faults)

-- and what is in doubt is settled before the next
not_unsettled : (c : Config) (src : Addr) (port : ℕ) (body : List ℕ) (change : Change) → is_swap_access (there c) (to_it src port body) ≡ true → change_of (there c) (to_it src port body) ≡ Some change
    → IsLawful (there c) (failing 1) (Send (to_it src port body) ∷ Send (to_it src port body) ∷ Tick ∷ Fault 0 true ∷ Serve 1 ∷ []) → ⊥
not_unsettled c src port body change access changes lawful =
    let serve = lawful.orderly.allowed.1.1.1.1.0 in
    let same : Some (flying Client 0 (to_it src port body)) ≡ Some serve.0 = serve.1.sent in
    let none : change_of (there c) (to_it src port body) ≡ None = serve.3 (subst (λ (o : Option Flying). is_access (there c) o ≡ true) same access) in
    absurd (cc)
