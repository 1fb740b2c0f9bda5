-- What the client counts, and the ports of its fetches.
use Rattle.std.proofs.Common.{◌≡◌, ℕ, ◌+◌, ◌<◌, List, ◌++◌, refl, sym, ◌∙◌, ap, inl, inr, arith}
use Rattle.std.specs.Prelude.{◌⊎◌}
use Rattle.sd_config.specs.declared.config.Config.{Config}
use Rattle.sd_link.specs.Steps.{Step}
use Rattle.sd_link.specs.Link.{IsSettledBy}
use Rattle.sd_link.specs.Tries.{beyond}
use Rattle.sd_rpc_retry.specs.Chain.{RowEnd}
use Rattle.sd_rpc_retry.proofs.Rows.{row_counts}
use Rattle.sd_config.specs.declared.command.Command.TheVariants as command
use Rattle.sd_config.specs.declared.told.Told.{Told}
use Rattle.sd_claims.specs.Fetching.{Fetch, FetchTimedOut, FetchFlooded, FetchRefused, FetchTooLarge}
use Rattle.sd_claims.specs.Booting.{Counts, OfFetch, End, OfCalls, ServerTold, boot_way, asks_name, boot_fetch, caller_after}
use Rattle.sd_claims.specs.Causes.{Cause, boot_timeout_rarp, boot_flood_rarp, boot_linkfault_rarp, boot_timeout_tftp, boot_flood_tftp, boot_linkfault_tftp, boot_refused, boot_too_large, boot_calls, faults_told}
use Rattle.sd_claims.specs.Laws.{NoAddress, UncountedBoot, NoProgram, UncountedCalls, PortsDiffer}

-- what was counted has become more
more : (n k : ℕ) → 0 < k → n + k ≡ n → ⊥
more n k some same = omega (arith, some, same)

module _ (settled : List Step → Type 0) (c : Config) (n : Counts) where
  -- a boot that came to its calls counts one boot, and a number for each call
  calls_count : (program : List ℕ) (end : RowEnd End) (next : Counts) (part : List Step) → OfCalls settled c n program end next part → (next.boots ≡ n.boots + 1) × (n.next_xid < next.next_xid)
  calls_count program end next part h =
      let k = row_counts boot_way (ServerTold c) (beyond settled (h.address ++ h.fetch)) (asks_name h.learned.address) (caller_after (boot_fetch c n.boots h.learned) n.next_xid) h.last end h.calls h.row in
      let e = ap (λ (m : Counts). m.next_xid) h.next_is in
      (ap (λ (m : Counts). m.boots) h.next_is, omega (arith, k, e))

  boot_uncounted : (answer : Told) (next : Counts) (part : List Step) → faults_told answer ≡ 0 → Cause settled c n command.Boot answer next part → next.boots ≡ n.boots → NoAddress settled c part
  boot_uncounted _ _ part calm (boot_timeout_rarp _ h) same = inl h
  boot_uncounted _ _ part calm (boot_flood_rarp _ h) same = inr h
  boot_uncounted _ _ part calm (boot_linkfault_rarp _ h) same = absurd cc
  boot_uncounted _ _ part calm (boot_timeout_tftp _ h) same = absurd (more n.boots 1 (omega arith) same)
  boot_uncounted _ _ part calm (boot_flood_tftp _ h) same = absurd (more n.boots 1 (omega arith) same)
  boot_uncounted _ _ part calm (boot_linkfault_tftp _ h) same = absurd cc
  boot_uncounted _ _ part calm (boot_refused code _ h) same = absurd (more n.boots 1 (omega arith) same)
  boot_uncounted _ _ part calm (boot_too_large size _ h) same = absurd (more n.boots 1 (omega arith) same)
  boot_uncounted _ next part calm (boot_calls program end _ _ _ is h) same = let k = (calls_count program end next part h).0 in absurd (omega (arith, k, same))

  -- an address came, and then a fetch that gave no program
  no_program : (came : (List Step → Type 0) → Fetch → List Step → Type 0) (part : List Step) → OfFetch settled c n came part → ((still : List Step → Type 0) (f : Fetch) (p : List Step) → came still f p → NoProgram still f p)
      → OfFetch settled c n NoProgram part
  no_program came part h so = record { learned = h.learned; address = h.address; last = h.last; told = h.told; named = h.named; came_of = so _ _ h.last h.came_of; cut = h.cut }

  calls_uncounted : (answer : Told) (next : Counts) (part : List Step) → faults_told answer ≡ 0 → Cause settled c n command.Boot answer next part → next.next_xid ≡ n.next_xid → NoAddress settled c part ⊎ OfFetch settled c n NoProgram part
  calls_uncounted _ _ part calm (boot_timeout_rarp _ h) same = inl (inl h)
  calls_uncounted _ _ part calm (boot_flood_rarp _ h) same = inl (inr h)
  calls_uncounted _ _ part calm (boot_linkfault_rarp _ h) same = absurd cc
  calls_uncounted _ _ part calm (boot_timeout_tftp _ h) same = inr (no_program FetchTimedOut part h (λ still f p k. inl k))
  calls_uncounted _ _ part calm (boot_flood_tftp _ h) same = inr (no_program FetchFlooded part h (λ still f p k. inr (inl k)))
  calls_uncounted _ _ part calm (boot_linkfault_tftp _ h) same = absurd cc
  calls_uncounted _ _ part calm (boot_refused code _ h) same = inr (no_program (FetchRefused code) part h (λ still f p k. inr (inr (inl (code, k)))))
  calls_uncounted _ _ part calm (boot_too_large size _ h) same = inr (no_program (FetchTooLarge size) part h (λ still f p k. inr (inr (inr (size, k)))))
  calls_uncounted _ next part calm (boot_calls program end _ _ _ is h) same = let k = (calls_count program end next part h).1 in absurd (omega (arith, k, same))

pub uncounted_boot : UncountedBoot
uncounted_boot h n next answer part none caused same = boot_uncounted (IsSettledBy h) h.config n answer next part (sym caused.fails ∙ none) caused.cause same

pub uncounted_calls : UncountedCalls
uncounted_calls h n next answer part none caused same = calls_uncounted (IsSettledBy h) h.config n answer next part (sym caused.fails ∙ none) caused.cause same

pub ports_differ : PortsDiffer
ports_differ boots more some few same = omega (arith, some, few, same)
