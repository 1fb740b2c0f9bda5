-- What a command of a lawful run is answered is what the boot machine may answer.
use Rattle.std.proofs.Common.{◌≡◌, ℕ, List, [], ◌∷◌, ◌++◌, map, Some, refl, sym, ◌∙◌, ap, subst, arith, append_assoc}
use Rattle.std.proofs.lemmas.List.{append-nil}
use Rattle.std.specs.List.{AllByRecursion}
use Rattle.sd_outside.specs.declared.packet.Addr as declared
use Rattle.sd_tftp.specs.Grammar.{HasNoZero}
use Rattle.sd_config.specs.declared.config.Config.{Config}
use Rattle.sd_config.specs.Config.{IsConfig}
use Rattle.sd_config.specs.Program.{program_name, program_of, boot_file}
use Rattle.sd_link.specs.World.{World, start}
use Rattle.sd_link.specs.Steps.{Step, run, AllAllowed}
use Rattle.sd_link.specs.Parts.{got_in}
use Rattle.sd_link.specs.Tries.{beyond}
use Rattle.sd_link.specs.Requests.{AsksOnlyFor, KeepsOffRpc}
use Rattle.sd_link.proofs.Histories.{run-append, allowed-split, allowed-append}
use Rattle.sd_link.proofs.FromServer.{ComesToClient}
use Rattle.sd_config.specs.declared.command.Command.{Command}
use Rattle.sd_config.specs.declared.command.Command.TheVariants.{Addr, Boot}
use Rattle.sd_config.specs.declared.told.Told.{Told}
use Rattle.sd_config.specs.declared.told.Told.TheVariants.{AddrOk}
use Rattle.sd_rpc_retry.specs.Chain.{RowEnd, came, timed_out, flooded, denied, failed}
use Rattle.sd_claims.specs.Booting.{Counts, first_counts, End, no_mount, found_mount, OfCalls, answer_of, boot_fetch, fetch_port}
use Rattle.sd_claims.specs.Causes.{Cause, addr_ok, addr_timeout, addr_flood, addr_linkfault, boot_timeout_rarp, boot_flood_rarp, boot_linkfault_rarp, boot_timeout_tftp, boot_flood_tftp, boot_linkfault_tftp, boot_refused, boot_too_large, boot_calls, wait_ok, wait_flood, wait_linkfault, IsCaused}
use Rattle.sd_claims.specs.Machine.{State, first_state, Answers, IsRun}
use Rattle.sd_claims.specs.Transcript.{Done, AllCaused}
use Rattle.sd_claims.specs.Session.{parts_of}
use Rattle.sd_boot_chain.proofs.TrustedFile.{fetched_is_configured}
use Rattle.sd_link.proofs.ProgramNames.{program_name_clean}
use Rattle.sd_boot_chain.proofs.ClientSends.{IsHonest, Fetches, answered_right, honest_start, honest_got, honest_part, honest_asks, honest_keeps_off}

-- The world that these steps lead to is honest, and what may happen in it next is this part.
pub record Follows (c : Config) (before part : List Step) : Type 0 where
  pub honest : IsHonest c (run c (start c) before)
  pub lawful : AllAllowed c (start c) before
  pub allowed : AllAllowed c (run c (start c) before) part

module _ (c : Config) (is : IsConfig c) where
  -- ---- a boot program is the configured one

  -- the world after the address was told is honest, and no other file was asked for
  program_right : (settled : List Step → Type 0) (before part : List Step) (n next : Counts) (program : List ℕ) (end : RowEnd End) → Follows c before part → OfCalls settled c n program end next part → program_of c ≡ Some program
  program_right settled before part n next program end h b =
      let w = run c (start c) before in
      let parts = allowed-split c w b.address (b.fetch ++ b.calls) (subst (λ (l : List Step). AllAllowed c w l) b.cut h.allowed) in
      let v = run c w b.address in
      let fetched = allowed-split c v b.fetch b.calls parts.1 in
      let told : Cause settled c n Addr (AddrOk b.learned.address) n b.address = addr_ok b.learned b.address b.told in
      let got = honest_got c is w b.address h.honest parts.0 in
      let right = answered_right c b.learned b.address b.told.ends got in
      let f = boot_fetch c n.boots b.learned in
      let honest : IsHonest c v = honest_part c is settled w n Addr (AddrOk b.learned.address) n b.address h.honest parts.0 told in
      let there : run c (start c) (before ++ b.address) ≡ v = run-append c (start c) before b.address in
      let named : f.name ≡ program_name c.arch c.client.ip = ap (program_name c.arch) right.address in
      let mine : Fetches c f.me = (right.address, omega arith) in
      let asks : AsksOnlyFor f.me f.name (run c (start c) (before ++ b.address)) =
      subst (λ (u : World). AsksOnlyFor f.me f.name u) (sym there) (subst (λ (l : List ℕ). AsksOnlyFor f.me l v) (sym named) (honest_asks c is v f.me mine honest)) in
      let off : KeepsOffRpc f.me (run c (start c) (before ++ b.address)) = subst (λ (u : World). KeepsOffRpc f.me u) (sym there) (honest_keeps_off c is v f.me mine honest) in
      let lawful : AllAllowed c (start c) (before ++ b.address) = allowed-append c (start c) before b.address h.lawful parts.0 in
      let clean : HasNoZero f.name = subst (λ (l : List ℕ). HasNoZero l) (sym named) (program_name_clean c.arch c.client.ip is.arch (omega (arith, is.client.ip.1))) in
      ap (boot_file c) (sym named)
      ∙ fetched_is_configured c is (before ++ b.address) b.fetch f program clean right.responder lawful asks off (subst (λ (u : World). AllAllowed c u b.fetch) (sym there) fetched.0) b.fetched

  -- ---- one answer is the machine's

  -- what a boot is answered whose program is the configured one
  calls_right : (state : State) (program : List ℕ) (end : RowEnd End) → program_of c ≡ Some program → Answers c state Boot (answer_of program end) state
  calls_right state program (came no_mount) right = (tt, refl)
  calls_right state program (came found_mount) right = ((refl, right), refl)
  calls_right state program (timed_out step) right = (tt, refl)
  calls_right state program (flooded step) right = (tt, refl)
  calls_right state program (denied step code) right = (tt, refl)
  calls_right state program (failed step) right = (tt, refl)

  -- An answer with its cause is one that the machine may give.
  pub answer_right : (settled : List Step → Type 0) (state : State) (before : List Step) (n : Counts) (command : Command) (answer : Told) (next : Counts) (part : List Step) → Follows c before part → AllByRecursion (ComesToClient c) (got_in part)
      → Cause settled c n command answer next part → Answers c state command answer state
  answer_right settled state before n _ _ _ part h got (addr_ok learned _ told) = ((answered_right c learned part told.ends got).address, refl)
  answer_right settled state before n _ _ _ part h got (addr_timeout _ k) = (tt, refl)
  answer_right settled state before n _ _ _ part h got (addr_flood _ k) = (refl, refl)
  answer_right settled state before n _ _ _ part h got (addr_linkfault _ k) = (tt, refl)
  answer_right settled state before n _ _ _ part h got (boot_timeout_rarp _ k) = (tt, refl)
  answer_right settled state before n _ _ _ part h got (boot_flood_rarp _ k) = (tt, refl)
  answer_right settled state before n _ _ _ part h got (boot_linkfault_rarp _ k) = (tt, refl)
  answer_right settled state before n _ _ _ part h got (boot_timeout_tftp _ k) = (tt, refl)
  answer_right settled state before n _ _ _ part h got (boot_flood_tftp _ k) = (tt, refl)
  answer_right settled state before n _ _ _ part h got (boot_linkfault_tftp _ k) = (tt, refl)
  answer_right settled state before n _ _ _ part h got (boot_refused code _ k) = (tt, refl)
  answer_right settled state before n _ _ _ part h got (boot_too_large size _ k) = (tt, refl)
  answer_right settled state before n _ answer next part h got (boot_calls program end _ _ _ is k) =
      subst (λ (a : Told). Answers c state Boot a state) (sym is) (calls_right state program end (program_right settled before part n next program end h k))
  answer_right settled state before n _ _ _ part h got (wait_ok ticks _ k) = (refl, refl)
  answer_right settled state before n _ _ _ part h got (wait_flood ticks _ k) = (refl, refl)
  answer_right settled state before n _ _ _ part h got (wait_linkfault ticks _ k) = (refl, refl)

  -- ---- and so are all

  -- what follows a command's part
  follows_on : (settled : List Step → Type 0) (before part more : List Step) (n : Counts) (command : Command) (answer : Told) (next : Counts) → Follows c before (part ++ more) → IsCaused settled c n command answer next part → Follows c before part × Follows c (before ++ part) more
  follows_on settled before part more n command answer next h caused =
      let w = run c (start c) before in
      let parts = allowed-split c w part more h.allowed in
      let there : run c w part ≡ run c (start c) (before ++ part) = sym (run-append c (start c) before part) in (
        record { honest = h.honest; lawful = h.lawful; allowed = parts.0 },
        record {
          honest = subst (λ (v : World). IsHonest c v) there (honest_part c is settled w n command answer next part h.honest parts.0 caused.cause);
          lawful = allowed-append c (start c) before part h.lawful parts.0;
          allowed = subst (λ (v : World). AllAllowed c v more) there parts.1;
        },
      )

  -- Answers with their causes, after these steps and so many boots, are a run of the machine.
  pub answers_after : (settled : List Step → Type 0) (state : State) (before : List Step) (n : Counts) (commands : List Command) (done : List Done) → Follows c before (parts_of done) → AllCaused settled c n commands done
      → IsRun c state commands (map (λ d. d.answer) done)
  answers_after settled state before n [] [] h caused = tt
  answers_after settled state before n [] (d ∷ ds) h caused = absurd caused
  answers_after settled state before n (k ∷ ks) [] h caused = absurd caused
  answers_after settled state before n (k ∷ ks) (d ∷ ds) h caused =
      let f = follows_on settled before d.part (parts_of ds) n k d.answer d.counts h caused.0 in (
        state,
        answer_right settled state before n k d.answer d.counts d.part f.0 (honest_got c is (run c (start c) before) d.part f.0.honest f.0.allowed) caused.0.cause,
        answers_after (beyond settled d.part) state (before ++ d.part) d.counts ks ds f.1 caused.1,
      )

  -- Answers with their causes, from the start on, are a run of the boot machine.
  pub answers_run : (settled : List Step → Type 0) (commands : List Command) (done : List Done) → AllAllowed c (start c) (parts_of done) → AllCaused settled c first_counts commands done
      → IsRun c first_state commands (map (λ d. d.answer) done)
  answers_run settled commands done allowed caused = answers_after settled first_state [] first_counts commands done (record { honest = honest_start c is; lawful = tt; allowed = allowed }) caused

  -- The world after commands with their causes is honest.
  pub honest_after : (settled : List Step → Type 0) (before : List Step) (n : Counts) (commands : List Command) (done : List Done) → Follows c before (parts_of done) → AllCaused settled c n commands done → IsHonest c (run c (start c) (before ++ parts_of done))
  honest_after settled before n [] [] h caused = subst (λ (l : List Step). IsHonest c (run c (start c) l)) (sym (append-nil before)) h.honest
  honest_after settled before n [] (d ∷ ds) h caused = absurd caused
  honest_after settled before n (k ∷ ks) [] h caused = absurd caused
  honest_after settled before n (k ∷ ks) (d ∷ ds) h caused =
      let f = follows_on settled before d.part (parts_of ds) n k d.answer d.counts h caused.0 in
      subst (λ (l : List Step). IsHonest c (run c (start c) l)) (append_assoc before d.part (parts_of ds)) (honest_after (beyond settled d.part) (before ++ d.part) d.counts ks ds f.1 caused.1)

  -- From each boot's port the client has asked for its boot program alone, and sent nothing of a message's size to the RPC ports.
  pub ports_kept : (settled : List Step → Type 0) (commands : List Command) (done : List Done) → AllAllowed c (start c) (parts_of done) → AllCaused settled c first_counts commands done → (boots : ℕ)
      → (let me : declared.Addr = record { ip = c.client.ip; port = fetch_port boots } in AsksOnlyFor me (program_name c.arch c.client.ip) (run c (start c) (parts_of done)) × KeepsOffRpc me (run c (start c) (parts_of done)))
  ports_kept settled commands done allowed caused boots =
      let w = run c (start c) (parts_of done) in
      let honest : IsHonest c w = honest_after settled [] first_counts commands done (record { honest = honest_start c is; lawful = tt; allowed = allowed }) caused in
      (honest_asks c is w _ (refl, omega arith) honest, honest_keeps_off c is w _ (refl, omega arith) honest)
