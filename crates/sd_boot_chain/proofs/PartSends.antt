-- What the client sends in its commands: frames, what a fetch sends, and calls.
use Rattle.std.proofs.Common.{◌≡◌, ℕ, List, [], ◌∷◌, ◌++◌, Ok, Err, refl, sym, subst}
use Rattle.std.specs.List.{AllByRecursion}
use Rattle.sd_outside.specs.declared.packet.Addr.{Addr}
use Rattle.sd_outside.specs.declared.packet.Packet.{Packet}
use Rattle.sd_outside.specs.declared.packet.Packet.TheVariants.{Frame}
use Rattle.sd_tftp.specs.ReceiverTurn.{Turn}
use Rattle.sd_tftp.specs.declared.step.Step.TheVariants as step
use Rattle.sd_config.specs.declared.config.Config.{Config}
use Rattle.sd_link.specs.Steps.{Step}
use Rattle.sd_link.specs.Parts.{sends_in, got_in}
use Rattle.sd_link.specs.Tries.{beyond, EndsMatched, Flooded, TimedOut, Failed, IsTries}
use Rattle.sd_link.proofs.Histories.{sends-append}
use Rattle.sd_config.proofs.Lists.{all_append, all_always}
use Rattle.sd_link.proofs.FromServer.{AnyPacket}
use Rattle.sd_rpc_retry.specs.declared.calling.Caller.{Caller}
use Rattle.sd_rpc_retry.specs.Calling.{Verdict, request, hearing_of}
use Rattle.sd_config.specs.declared.command.Command.{Command}
use Rattle.sd_config.specs.declared.told.Told.{Told}
use Rattle.sd_claims.specs.Rarp.{Learned, rarp_request, rarp_hearing, learned_from}
use Rattle.sd_claims.specs.Fetching.{Fetch, Brings, FetchTimedOut, FetchFlooded, FetchFailed, FetchRefused, FetchTooLarge, request_of, fetch_hearing}
use Rattle.sd_rpc_retry.specs.Chain.{Call, Leads, here, further, RowEnd, came, timed_out, flooded, denied, failed, EndsAt, Row}
use Rattle.sd_claims.specs.Booting.{Counts, OfFetch, OfCalls, End, ServerTold, Place, asks_name, call_at, boot_way, boot_fetch, caller_after}
use Rattle.sd_claims.specs.Causes.{Cause, addr_ok, addr_timeout, addr_flood, addr_linkfault, boot_timeout_rarp, boot_flood_rarp, boot_linkfault_rarp, boot_timeout_tftp, boot_flood_tftp, boot_linkfault_tftp, boot_refused, boot_too_large, boot_calls, wait_ok, wait_flood, wait_linkfault}
use Rattle.sd_boot_chain.proofs.Fetched.{got_cut, got_split}
use Rattle.sd_boot_chain.proofs.FetchSends.{Sends, tries_send, failed_sends, fetched_sends, stops_send, failed_fetch_sends}

-- the address was told by what was got, of which G holds
pub record IsToldBy (c : Config) (G : Packet → Type 0) (learned : Learned) : Type 0 where
  pub address : List Step
  pub told : EndsMatched (learned_from c.client.mac) learned address
  pub got : AllByRecursion G (got_in address)

-- S holds of frames, of the calls and of what a fetch sends, where G holds of what is got.
pub record SendsAll (c : Config) (S G : Packet → Type 0) (A : Addr → Type 0) : Type 0 where
  pub frames : (bytes : List ℕ) → S (Frame bytes)
  pub fetches : (boots : ℕ) (learned : Learned) → IsToldBy c G learned → Sends (boot_fetch c boots learned) S G A
  pub calls : (boots : ℕ) (learned : Learned) → IsToldBy c G learned → (xid : ℕ) (call : Call) → S (request (caller_after (boot_fetch c boots learned) xid) call.dst call.ask)

module _ (c : Config) (S G : Packet → Type 0) (A : Addr → Type 0) (k : SendsAll c S G A) where
  -- ---- RARP

  rarp_sends : (rests : List (List Step)) (part : List Step) → IsTries (rarp_request c.client.mac) (rarp_hearing c.client.mac).replies rests part → AllByRecursion S (sends_in part)
  rarp_sends rests part is = tries_send S AnyPacket (rarp_request c.client.mac) (rarp_hearing c.client.mac).replies (k.frames _) (λ p g. tt) rests part is (all_always AnyPacket (got_in part) (λ p. tt))

  -- ---- fetches

  abbrev SendsSo : ((List Step → Type 0) → Fetch → List Step → Type 0) → Type 1
  SendsSo what = (still : List Step → Type 0) (boots : ℕ) (learned : Learned) (part : List Step) → IsToldBy c G learned → what still (boot_fetch c boots learned) part → AllByRecursion G (got_in part) → AllByRecursion S (sends_in part)

  timed_out_so : SendsSo FetchTimedOut
  timed_out_so still boots learned part told h all =
      let f = boot_fetch c boots learned in
      stops_send f S G A (k.fetches boots learned told) (λ s r last. TimedOut s (request_of f r) (fetch_hearing f.me r) f.tries f.wait last) (λ s r last w. (w.rests, w.is)) part h all

  flooded_so : SendsSo FetchFlooded
  flooded_so still boots learned part told h all =
      let f = boot_fetch c boots learned in
      stops_send f S G A (k.fetches boots learned told) (λ s r last. Flooded s (request_of f r) (fetch_hearing f.me r) f.tries f.wait last) (λ s r last w. (w.asks.before ++ w.asks.last ∷ [], w.asks.is)) part h all

  refused_so : (code : ℕ) → SendsSo (FetchRefused code)
  refused_so code still boots learned part told h all =
      let f = boot_fetch c boots learned in
      stops_send f S G A (k.fetches boots learned told) (λ s r last. (t : Turn) × Brings s f r t last × (t.says ≡ step.Refused code)) (λ s r last w. (w.1.asks.before ++ w.1.asks.last ∷ [], w.1.asks.is)) part h all

  large_so : (size : ℕ) → SendsSo (FetchTooLarge size)
  large_so size still boots learned part told h all =
      let f = boot_fetch c boots learned in
      stops_send f S G A (k.fetches boots learned told) (λ s r last. (t : Turn) × Brings s f r t last × (t.says ≡ step.Over size)) (λ s r last w. (w.1.asks.before ++ w.1.asks.last ∷ [], w.1.asks.is)) part h all

  failed_so : SendsSo FetchFailed
  failed_so still boots learned part told h all = failed_fetch_sends (boot_fetch c boots learned) S G A (k.fetches boots learned told) still part h all

  -- ---- calls

  -- S holds of each call of this caller, whatever its number
  abbrev Calls : Caller → Type 0
  Calls caller = (xid : ℕ) (call : Call) → S (request (record caller { next_xid = xid }) call.dst call.ask)

  call_sends : (caller : Caller) (call : Call) (rests : List (List Step)) (part : List Step) → Calls caller → IsTries (request caller call.dst call.ask) (hearing_of caller call.dst call.ask).replies rests part → AllByRecursion S (sends_in part)
  call_sends caller call rests part calls is =
      tries_send S AnyPacket (request caller call.dst call.ask) (hearing_of caller call.dst call.ask).replies (calls caller.next_xid call) (λ p g. tt) rests part is (all_always AnyPacket (got_in part) (λ p. tt))

  both_send : (part first more : List Step) → part ≡ first ++ more → AllByRecursion S (sends_in first) → AllByRecursion S (sends_in more) → AllByRecursion S (sends_in part)
  both_send part first more cut a b =
      subst (λ (p : List Step). AllByRecursion S (sends_in p)) (sym cut)
      (subst (λ (p : List Packet). AllByRecursion S p) (sym (sends-append first more)) (all_append S (sends_in first) (sends_in more) a b))

  -- what is sent for a row of calls
  module _ (settled : List Step → Type 0) (from : Place) (first : Caller) (calls : Calls first) where
    told_sends : (verdict : Verdict) (still : List Step → Type 0) (caller : Caller) (at : Place) (part : List Step) → Calls caller → ServerTold c verdict still caller (call_at at) part → AllByRecursion S (sends_in part)
    told_sends verdict still caller at part mine h = call_sends caller (call_at at) (h.told.asks.before ++ h.told.asks.last ∷ []) part mine h.told.asks.is

    leads_send : (at : Place) (caller : Caller) (part : List Step) → Leads boot_way (ServerTold c) settled from first at caller part → AllByRecursion S (sends_in part) × Calls caller
    leads_send _ _ _ here = (tt, calls)
    leads_send _ _ _ (further at next caller answer before last so_far t leads) =
        let b = leads_send at caller before so_far in
        (both_send (before ++ last) before last refl b.0 (told_sends (Ok answer) (beyond settled before) caller at last b.1 t), b.1)

    end_sends : (end : RowEnd End) (at : Place) (still : List Step → Type 0) (caller : Caller) (part : List Step) → Calls caller → EndsAt boot_way (ServerTold c) at end still caller part → AllByRecursion S (sends_in part)
    end_sends (came end) at still caller part mine x = told_sends (Ok x.0) still caller at part mine x.2
    end_sends (timed_out step) at still caller part mine x = call_sends caller (call_at at) x.1.rests part mine x.1.is
    end_sends (flooded step) at still caller part mine x = call_sends caller (call_at at) (x.1.asks.before ++ x.1.asks.last ∷ []) part mine x.1.asks.is
    end_sends (denied step code) at still caller part mine x = told_sends (Err code) still caller at part mine x.1
    end_sends (failed step) at still caller part mine x =
        failed_sends S AnyPacket (request caller (call_at at).dst (call_at at).ask) (hearing_of caller (call_at at).dst (call_at at).ask) (mine caller.next_xid (call_at at)) (λ p g. tt) still caller.tries caller.wait part x.1
        (all_always AnyPacket (got_in part) (λ p. tt))

    row_sends : (next : Caller) (end : RowEnd End) (part : List Step) → Row boot_way (ServerTold c) settled from first end next part → AllByRecursion S (sends_in part)
    row_sends next end part r =
        let b = leads_send r.at r.caller r.before r.leads in
        both_send part r.before r.last r.cut b.0 (end_sends end r.at (beyond settled r.before) r.caller r.last b.1 r.ends)

  -- ---- commands

  module _ (settled : List Step → Type 0) (n : Counts) where
    -- after the address was told
    of_fetch : (what : (List Step → Type 0) → Fetch → List Step → Type 0) (part : List Step) → SendsSo what → OfFetch settled c n what part → AllByRecursion G (got_in part) → AllByRecursion S (sends_in part)
    of_fetch what part so h all =
        let g = got_cut G part h.address h.last h.cut all in
        both_send part h.address h.last h.cut (rarp_sends (h.told.asks.before ++ h.told.asks.last ∷ []) h.address h.told.asks.is)
        (so (beyond settled h.address) n.boots h.learned h.last (record { address = h.address; told = h.told.ends; got = g.0 }) h.came_of g.1)

    -- after the program was fetched
    of_calls : (program : List ℕ) (end : RowEnd End) (next : Counts) (part : List Step) → OfCalls settled c n program end next part → AllByRecursion G (got_in part) → AllByRecursion S (sends_in part)
    of_calls program end next part h all =
        let f = boot_fetch c n.boots h.learned in
        let g = got_cut G part h.address (h.fetch ++ h.calls) h.cut all in
        let e = got_split G h.fetch h.calls g.1 in
        let by : IsToldBy c G h.learned = record { address = h.address; told = h.told.ends; got = g.0 } in
        both_send part h.address (h.fetch ++ h.calls) h.cut (rarp_sends (h.told.asks.before ++ h.told.asks.last ∷ []) h.address h.told.asks.is)
        (both_send (h.fetch ++ h.calls) h.fetch h.calls refl (fetched_sends f S G A (k.fetches n.boots h.learned by) program h.fetch h.fetched e.0)
        (row_sends (beyond settled (h.address ++ h.fetch)) (asks_name h.learned.address) (caller_after f n.next_xid) (k.calls n.boots h.learned by) h.last end h.calls h.row))

    silent_sends : (part : List Step) → sends_in part ≡ [] → AllByRecursion S (sends_in part)
    silent_sends part silent = subst (λ (l : List Packet). AllByRecursion S l) (sym silent) tt

    timed_out_sends : (part : List Step) → TimedOut settled (rarp_request c.client.mac) (rarp_hearing c.client.mac) c.tries c.wait part → AllByRecursion S (sends_in part)
    timed_out_sends part h = rarp_sends h.rests part h.is

    flooded_sends : (part : List Step) → Flooded settled (rarp_request c.client.mac) (rarp_hearing c.client.mac) c.tries c.wait part → AllByRecursion S (sends_in part)
    flooded_sends part h = rarp_sends (h.asks.before ++ h.asks.last ∷ []) part h.asks.is

    broken_sends : (part : List Step) → Failed settled (rarp_request c.client.mac) (rarp_hearing c.client.mac) c.tries c.wait part → AllByRecursion S (sends_in part)
    broken_sends part h = failed_sends S AnyPacket (rarp_request c.client.mac) (rarp_hearing c.client.mac) (k.frames _) (λ p g. tt) settled c.tries c.wait part h (all_always AnyPacket (got_in part) (λ p. tt))

    -- S holds of all that the client sends in a command, where G holds of what it gets.
    pub part_sends : (command : Command) (answer : Told) (next : Counts) (part : List Step) → Cause settled c n command answer next part → AllByRecursion G (got_in part) → AllByRecursion S (sends_in part)
    part_sends _ _ _ part (addr_ok learned _ h) all = rarp_sends (h.asks.before ++ h.asks.last ∷ []) part h.asks.is
    part_sends _ _ _ part (addr_timeout _ h) all = timed_out_sends part h
    part_sends _ _ _ part (addr_flood _ h) all = flooded_sends part h
    part_sends _ _ _ part (addr_linkfault _ h) all = broken_sends part h
    part_sends _ _ _ part (boot_timeout_rarp _ h) all = timed_out_sends part h
    part_sends _ _ _ part (boot_flood_rarp _ h) all = flooded_sends part h
    part_sends _ _ _ part (boot_linkfault_rarp _ h) all = broken_sends part h
    part_sends _ _ _ part (boot_timeout_tftp _ h) all = of_fetch FetchTimedOut part timed_out_so h all
    part_sends _ _ _ part (boot_flood_tftp _ h) all = of_fetch FetchFlooded part flooded_so h all
    part_sends _ _ _ part (boot_linkfault_tftp _ h) all = of_fetch FetchFailed part failed_so h all
    part_sends _ _ _ part (boot_refused code _ h) all = of_fetch (FetchRefused code) part (refused_so code) h all
    part_sends _ _ _ part (boot_too_large size _ h) all = of_fetch (FetchTooLarge size) part (large_so size) h all
    part_sends _ _ next part (boot_calls program end _ _ _ is h) all = of_calls program end next part h all
    part_sends _ _ _ part (wait_ok ticks _ h) all = silent_sends part h.silent
    part_sends _ _ _ part (wait_flood ticks _ h) all = silent_sends part h.silent
    part_sends _ _ _ part (wait_linkfault ticks _ h) all = silent_sends part h.silent
