-- A failure of the network is the last step of its command.
use Rattle.std.specs.Prelude.{◌⊎◌}
use Rattle.std.proofs.Common.{◌≡◌, ℕ, ◌+◌, List, [], ◌∷◌, ◌++◌, refl, sym, ◌∙◌, ap, subst, arith, append_assoc, inl, inr}
use Rattle.sd_outside.specs.declared.packet.Packet.{Packet}
use Rattle.sd_config.specs.declared.config.Config.{Config}
use Rattle.sd_config.specs.declared.stage.Stage.{Stage}
use Rattle.sd_link.specs.Steps.{Step, Fail}
use Rattle.sd_link.specs.Link.{IsSettledBy}
use Rattle.sd_link.specs.Parts.{fails_in}
use Rattle.sd_link.specs.Tries.{beyond, Failed}
use Rattle.sd_link.proofs.Histories.{fails-append}
use Rattle.sd_link.proofs.FailureRows.{EndsFailed, later_fails, cut_fails, send_fails, failed_last}
use Rattle.sd_config.specs.declared.command.Command.{Command}
use Rattle.sd_config.specs.declared.told.Told.{Told}
use Rattle.sd_claims.specs.Rarp.{rarp_request, rarp_hearing}
use Rattle.sd_tftp.specs.Reception.{Reception}
use Rattle.sd_claims.specs.Fetching.{Fetch, FetchFailed, FailsToFinish, request_of, fetch_hearing, acknowledge}
use Rattle.sd_rpc_retry.specs.Calling.{request, hearing_of}
use Rattle.sd_rpc_retry.specs.Chain.{RowEnd, came, timed_out, flooded, denied, failed, CallFailed, Row}
use Rattle.sd_claims.specs.Booting.{Counts, OfFetch, End, no_mount, found_mount, OfCalls, ServerTold, boot_way, asks_name, caller_after, answer_of, boot_fetch}
use Rattle.sd_claims.specs.Causes.{Cause, addr_ok, addr_timeout, addr_flood, addr_linkfault, boot_timeout_rarp, boot_flood_rarp, boot_linkfault_rarp, boot_timeout_tftp, boot_flood_tftp, boot_linkfault_tftp, boot_refused, boot_too_large, boot_calls, wait_ok, wait_flood, wait_linkfault, faults_told}
use Rattle.sd_claims.specs.Laws.{FaultIsLast}
use Rattle.sd_claims.proofs.Came.{fault_is_told}

stop_ends : (settled : List Step → Type 0) (f : Fetch) (r : Reception) (part : List Step) → Failed settled (request_of f r) (fetch_hearing f.me r) f.tries f.wait part ⊎ FailsToFinish settled f r part → EndsFailed part
stop_ends settled f r part (inl broke) = failed_last settled (request_of f r) (fetch_hearing f.me r) f.tries f.wait part broke
stop_ends settled f r part (inr k) = cut_fails part k.block k.failed k.cut (send_fails (acknowledge f.me k.to k.number) k.failed k.fails)

fetch_ends : (settled : List Step → Type 0) (f : Fetch) (part : List Step) → FetchFailed settled f part → EndsFailed part
fetch_ends settled f part s = cut_fails part s.before s.last s.cut (stop_ends (beyond settled s.before) f s.taken s.last s.stopped)

module _ (settled : List Step → Type 0) (c : Config) (n : Counts) where
  -- a row of calls whose answer is a fault ends with the failure
  calls_end : (program : List ℕ) (end : RowEnd End) (answer : Told) (next : Counts) (part : List Step) → faults_told answer ≡ 1 → answer ≡ answer_of program end → OfCalls settled c n program end next part → EndsFailed part
  calls_end program (came no_mount) answer next part one is h = let e = sym (ap faults_told is) ∙ one in absurd cc
  calls_end program (came found_mount) answer next part one is h = let e = sym (ap faults_told is) ∙ one in absurd cc
  calls_end program (timed_out step) answer next part one is h = let e = sym (ap faults_told is) ∙ one in absurd cc
  calls_end program (flooded step) answer next part one is h = let e = sym (ap faults_told is) ∙ one in absurd cc
  calls_end program (denied step code) answer next part one is h = let e = sym (ap faults_told is) ∙ one in absurd cc
  calls_end program (failed step) answer next part one is h =
      let r = h.row in
      let call = boot_way.call r.at in
      cut_fails part h.address (h.fetch ++ h.calls) h.cut
      (later_fails h.fetch h.calls
      (cut_fails h.calls r.before r.last r.cut (failed_last (beyond (beyond settled (h.address ++ h.fetch)) r.before) (request r.caller call.dst call.ask) (hearing_of r.caller call.dst call.ask) r.caller.tries r.caller.wait r.last r.ends.1)))

  fetch_failed : (part : List Step) → OfFetch settled c n FetchFailed part → EndsFailed part
  fetch_failed part h = cut_fails part h.address h.last h.cut (fetch_ends (beyond settled h.address) (boot_fetch c n.boots h.learned) h.last h.came_of)

  fault_ends : (command : Command) (answer : Told) (next : Counts) (part : List Step) → faults_told answer ≡ 1 → Cause settled c n command answer next part → EndsFailed part
  fault_ends _ _ _ part one (addr_ok learned _ h) = absurd cc
  fault_ends _ _ _ part one (addr_timeout _ h) = absurd cc
  fault_ends _ _ _ part one (addr_flood _ h) = absurd cc
  fault_ends _ _ _ part one (addr_linkfault _ h) = failed_last settled (rarp_request c.client.mac) (rarp_hearing c.client.mac) c.tries c.wait part h
  fault_ends _ _ _ part one (boot_timeout_rarp _ h) = absurd cc
  fault_ends _ _ _ part one (boot_flood_rarp _ h) = absurd cc
  fault_ends _ _ _ part one (boot_linkfault_rarp _ h) = failed_last settled (rarp_request c.client.mac) (rarp_hearing c.client.mac) c.tries c.wait part h
  fault_ends _ _ _ part one (boot_timeout_tftp _ h) = absurd cc
  fault_ends _ _ _ part one (boot_flood_tftp _ h) = absurd cc
  fault_ends _ _ _ part one (boot_linkfault_tftp _ h) = fetch_failed part h
  fault_ends _ _ _ part one (boot_refused code _ h) = absurd cc
  fault_ends _ _ _ part one (boot_too_large size _ h) = absurd cc
  fault_ends _ answer next part one (boot_calls program end _ _ _ is h) = calls_end program end answer next part one is h
  fault_ends _ _ _ part one (wait_ok ticks _ h) = absurd cc
  fault_ends _ _ _ part one (wait_flood ticks _ h) = absurd cc
  fault_ends _ _ _ part one (wait_linkfault ticks _ h) = (h.before, h.cut)

pub fault_is_last : FaultIsLast
fault_is_last h n next k a part some caused =
    let one = fault_is_told h n next k a part some caused in
    let e = fault_ends (IsSettledBy h) h.config n k a next part one caused.cause in
    let fails = ap fails_in e.1 in
    record { before = e.0; calm = omega (arith, one, caused.fails, fails, fails-append e.0 (Fail ∷ [])); cut = e.1 }
