-- What NFS does with a datagram, by what it does with the arguments that were found.
use Rattle.std.proofs.Common.{◌≡◌, ◌≢◌, ℕ, Bool, true, false, List, length, map, Option, Some, None, refl, sym, ap, ◌∙◌, subst, arith}
use Rattle.std.specs.Prelude.{◌==◌, ◌||◌}
use Rattle.std.specs.Option.{option_map, option_and_then}
use Rattle.sd_xdr.specs.Kind.{Value}
use Rattle.sd_rpc_msg.specs.Layout.{OutcomeFits}
use Rattle.sd_rpc_msg.specs.declared.message.Reply.{Reply}
use Rattle.sd_nfs_msg.specs.declared.message.NfsArgs.{NfsArgs}
use Rattle.sd_nfs_msg.specs.declared.message.NfsResult.{NfsResult}
use Rattle.sd_nfs_msg.specs.Layout as layout
use Rattle.sd_config.specs.declared.config.Config.{Config}
use Rattle.sd_services.specs.Files.{exported}
use Rattle.sd_services.specs.Decisions.{refused, err_io}
use Rattle.sd_services.specs.NfsCalls.{nfs, nfs_giving, nfs_asked, nfs_args_in, uses_swap_file}
use Rattle.sd_services.specs.NfsReply.{nfs_reply, nfs_change, file_in, swap_file}
use Rattle.sd_services.specs.RpcCalls.{Program, reply_to, asked}
use Rattle.sd_server.specs.declared.access.Act.{Act}
use Rattle.sd_server.specs.declared.nfs.NfsTurn.{NfsTurn}
use Rattle.sd_server.specs.declared.nfs.NfsTurn.TheVariants as turns
use Rattle.sd_server.specs.Access.{sizes_of, given_reply, nfs_found, change_by, result_by}
use Rattle.sd_server.specs.Coming.{Arrival, Nowhere, Refused, Calls, arrival, replied, asked_by}
use Rattle.sd_server.specs.NfsTurns.{IsTurn, IsFoundTurn, IsPlanned, IsQuiet, IsLoud, asks_swap, asks_change}
use Rattle.sd_services.specs.Failing.{nfs_failing}
use Rattle.sd_server.proofs.Arriving.{giving, replies, asks}

-- the program that answers this
answering : (NfsArgs → NfsResult) → Program
answering gives = nfs_giving (λ v. Some (layout.result_bytes (gives (nfs_args_in v))))

module _ (body : List ℕ) where
  pub asked_of : (a : Arrival) → arrival (nfs_giving (λ v. None)) body ≡ a → nfs_asked body ≡ option_map nfs_args_in (asked_by a)
  asked_of a comes = ap (option_map nfs_args_in) (asks (nfs_giving (λ v. None)) (λ v. None) body ∙ ap asked_by comes)

  found_of : (gives : NfsArgs → NfsResult) (xid : ℕ) (o : Option Value) → replied (nfs_giving (λ v. Some (layout.result_bytes (gives (nfs_args_in v))))) (Calls xid o) ≡ Some (nfs_found gives xid (option_map nfs_args_in o))
  found_of gives xid None = refl
  found_of gives xid (Some v) = refl

  pub reply_of : (gives : NfsArgs → NfsResult) (xid : ℕ) (o : Option Value) (found : Option NfsArgs) → arrival (nfs_giving (λ v. None)) body ≡ Calls xid o → found ≡ option_map nfs_args_in o
      → reply_to (nfs_giving (λ v. Some (layout.result_bytes (gives (nfs_args_in v))))) body ≡ Some (nfs_found gives xid found)
  reply_of gives xid o found comes is =
      replies (nfs_giving (λ v. Some (layout.result_bytes (gives (nfs_args_in v))))) (λ v. None) body ∙ ap (replied (nfs_giving (λ v. Some (layout.result_bytes (gives (nfs_args_in v)))))) comes
      ∙ found_of gives xid o ∙ ap (λ (f : Option NfsArgs). Some (nfs_found gives xid f)) (sym is)

  pub refused_of : (gives : NfsArgs → NfsResult) (reply : Reply) → arrival (nfs_giving (λ v. None)) body ≡ Refused reply → reply_to (nfs_giving (λ v. Some (layout.result_bytes (gives (nfs_args_in v))))) body ≡ Some reply
  refused_of gives reply comes = replies (nfs_giving (λ v. Some (layout.result_bytes (gives (nfs_args_in v))))) (λ v. None) body ∙ ap (replied (nfs_giving (λ v. Some (layout.result_bytes (gives (nfs_args_in v)))))) comes

  pub nowhere_of : (gives : NfsArgs → NfsResult) → arrival (nfs_giving (λ v. None)) body ≡ Nowhere → reply_to (nfs_giving (λ v. Some (layout.result_bytes (gives (nfs_args_in v))))) body ≡ None
  nowhere_of gives comes = replies (nfs_giving (λ v. Some (layout.result_bytes (gives (nfs_args_in v))))) (λ v. None) body ∙ ap (replied (nfs_giving (λ v. Some (layout.result_bytes (gives (nfs_args_in v)))))) comes

module _ (c : Config) (from : ℕ) (body : List ℕ) where
  none_asked : nfs_asked body ≡ None → (asks_swap c from body ≡ false) × (asks_change c from body ≡ None)
  none_asked none = (
    ap (λ (o : Option NfsArgs). uses_swap_file c (option_map (λ args. (from, args)) o)) none,
    ap (λ (o : Option NfsArgs). option_and_then (λ (call : ℕ × NfsArgs). nfs_change (exported c) call.0 call.1) (option_map (λ args. (from, args)) o)) none,
  )

  pub nowhere_turn : arrival (nfs_giving (λ v. None)) body ≡ Nowhere → IsTurn c from body turns.Ignores
  nowhere_turn comes =
      let n = none_asked (asked_of body Nowhere comes) in
      record { swap = n.0; change = n.1; gives = λ stored sized. nowhere_of body (nfs_reply (exported c) stored from) comes }

  pub refused_turn : (reply : Reply) → arrival (nfs_giving (λ v. None)) body ≡ Refused reply → OutcomeFits reply.outcome → IsTurn c from body (turns.Replies reply)
  refused_turn reply comes fits =
      let n = none_asked (asked_of body (Refused reply) comes) in
      (record { swap = n.0; change = n.1; gives = λ stored sized. refused_of body (nfs_reply (exported c) stored from) reply comes }, fits)

  pub found_turn : (xid : ℕ) (o : Option Value) (found : Option NfsArgs) (turn : NfsTurn) → arrival (nfs_giving (λ v. None)) body ≡ Calls xid o → found ≡ option_map nfs_args_in o → IsFoundTurn c from xid found turn → IsTurn c from body turn
  found_turn xid o None turns.Ignores comes is h = absurd h
  found_turn xid o None (turns.Does id result act) comes is h = absurd h
  found_turn xid o None (turns.Replies reply) comes is h =
      let n = none_asked (asked_of body (Calls xid o) comes ∙ sym is) in
      (record { swap = n.0; change = n.1; gives = λ stored sized. reply_of body (nfs_reply (exported c) stored from) xid o None comes is ∙ ap Some (sym h.0) }, h.1)
  found_turn xid o (Some args) turns.Ignores comes is h = absurd h
  found_turn xid o (Some args) (turns.Replies reply) comes is h =
      let some = asked_of body (Calls xid o) comes ∙ sym is in (
        record {
          swap = ap (λ (a : Option NfsArgs). uses_swap_file c (option_map (λ args. (from, args)) a)) some ∙ h.swap;
          change = ap (λ (a : Option NfsArgs). option_and_then (λ (call : ℕ × NfsArgs). nfs_change (exported c) call.0 call.1) (option_map (λ args. (from, args)) a)) some ∙ h.change;
          gives = λ stored sized. reply_of body (nfs_reply (exported c) stored from) xid o (Some args) comes is ∙ ap Some (sym (h.gives stored sized));
        },
        h.fits,
      )
  found_turn xid o (Some args) (turns.Does id result act) comes is h =
      let some = asked_of body (Calls xid o) comes ∙ sym is in
      record {
        swap = ap (λ (a : Option NfsArgs). uses_swap_file c (option_map (λ args. (from, args)) a)) some ∙ h.1.swap;
        change = ap (λ (a : Option NfsArgs). option_and_then (λ (call : ℕ × NfsArgs). nfs_change (exported c) call.0 call.1) (option_map (λ args. (from, args)) a)) some ∙ h.1.change;
        gives = λ stored sized. reply_of body (nfs_reply (exported c) stored from) xid o (Some args) comes is ∙ (λ i. Some (given_reply (sym h.0 i) (h.1.gives stored sized i)));
        fails = reply_of body (λ args. refused err_io) xid o (Some args) comes is ∙ ap (λ (x : ℕ). Some (given_reply x (refused err_io))) (sym h.0);
        fits = h.1.fits;
        range = h.1.range;
        zeros = h.1.zeros;
      }

-- the procedures that are skipped
pub not_skipped : (proc_no : ℕ) → ((proc_no == 3) || (proc_no == 7)) ≡ false → (proc_no ≢ 3) × (proc_no ≢ 7)
not_skipped proc_no e = (λ is. grind (arith, e, is), λ is. grind (arith, e, is))
