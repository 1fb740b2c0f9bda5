-- What NFS does with a datagram, as the code has it.
use Rattle.std.specs.Prelude.{◌≡◌, ℕ, Bool, true, false, ◌==◌, List, length, map, Option, Some, None}
use Rattle.std.specs.Option.{option_map, option_and_then}
use Rattle.sd_nfs_msg.specs.declared.message.NfsArgs.{NfsArgs}
use Rattle.sd_nfs_msg.specs.declared.message.NfsArgs.TheVariants as asks
use Rattle.sd_nfs_msg.specs.declared.message.NfsResult.{NfsResult}
use Rattle.sd_nfs_msg.specs.declared.message.NfsResult.TheVariants as results
use Rattle.sd_nfs_msg.specs.Layout.{ResultFits}
use Rattle.sd_rpc_msg.specs.declared.message.Reply.{Reply}
use Rattle.sd_rpc_msg.specs.Layout.{OutcomeFits}
use Rattle.sd_config.specs.declared.config.Config.{Config}
use Rattle.sd_services.specs.Files.{exported}
use Rattle.sd_services.specs.Decisions.{refused, err_io}
use Rattle.sd_services.specs.RpcCalls.{reply_to}
use Rattle.sd_services.specs.NfsCalls.{nfs, nfs_asked, uses_swap_file}
use Rattle.sd_services.specs.Part.{Change}
use Rattle.sd_services.specs.NfsReply.{nfs_change, nfs_reply, uses_swap, file_in, swap_file}
use Rattle.sd_nfs_server.specs.Plan.{is_write}
use Rattle.sd_server.specs.declared.access.Act.{Act}
use Rattle.sd_server.specs.declared.access.Act.TheVariants as acts
use Rattle.sd_server.specs.declared.nfs.NfsTurn.{NfsTurn}
use Rattle.sd_server.specs.declared.nfs.NfsTurn.TheVariants as turns
use Rattle.sd_server.specs.Access.{sizes_of, given_reply, nfs_found, change_by, result_by, ActFits, HasZeros}
use Rattle.sd_services.specs.Failing.{nfs_failing}

abbrev pub is_read : NfsResult → Bool
is_read (results.Read attr bytes) = true
is_read others = false

-- a WRITE's act: none where there are no bytes
abbrev pub written_by : ℕ → Bool → NfsArgs → Act
written_by at true args = acts.Nothing
written_by at false (asks.Write file begin offset total bytes) = acts.Write at bytes
written_by at false others = acts.Nothing

abbrev pub IsWriteOf : ℕ → ℕ → NfsArgs → Act → Type 0
IsWriteOf at len args act = act ≡ written_by at (len == 0) args

-- the act of a plan
abbrev pub IsReadOf : ℕ → ℕ → Act → Type 0
IsReadOf at len (acts.Read place buffer) = (place ≡ at) × (length buffer.items ≡ len)
IsReadOf at len others = ⊥

abbrev pub IsActBy : Bool → Bool → ℕ → ℕ → NfsArgs → Act → Type 0
IsActBy true w at len args act = IsReadOf at len act
IsActBy false true at len args act = IsWriteOf at len args act
IsActBy false false at len args act = act ≡ acts.Nothing

abbrev pub IsActOf : NfsResult → ℕ → ℕ → NfsArgs → Act → Type 0
IsActOf result at len args act = IsActBy (is_read result) (is_write result) at len args act

-- it reads or writes the swap file, and leads to this change and, over files of the configured sizes, to these results
pub record IsAccess (c : Config) (from : ℕ) (args : NfsArgs) (result : NfsResult) (act : Act) : Type 0 where
  pub swap : uses_swap (exported c) args ≡ true
  pub change : nfs_change (exported c) from args ≡ change_by act
  pub gives : (stored : List (List ℕ)) → map (λ file. length file) stored ≡ sizes_of c → nfs_reply (exported c) stored from args ≡ result_by act result (file_in stored swap_file)
  pub fits : ResultFits result
  pub range : ActFits (sizes_of c) act
  pub zeros : HasZeros act result

-- it needs no file of the store
pub record NeedsNone (c : Config) (from : ℕ) (args : NfsArgs) (reply : Reply) (xid : ℕ) : Type 0 where
  pub swap : uses_swap (exported c) args ≡ false
  pub change : nfs_change (exported c) from args ≡ None
  pub gives : (stored : List (List ℕ)) → map (λ file. length file) stored ≡ sizes_of c → reply ≡ given_reply xid (nfs_reply (exported c) stored from args)
  pub fits : OutcomeFits reply.outcome

-- what is done with a call by its arguments
abbrev pub IsPlanned : Config → ℕ → ℕ → NfsArgs → NfsTurn → Type 0
IsPlanned c from xid args turns.Ignores = ⊥
IsPlanned c from xid args (turns.Replies reply) = NeedsNone c from args reply xid
IsPlanned c from xid args (turns.Does id result act) = (id ≡ xid) × IsAccess c from args result act

abbrev pub IsGarbage : ℕ → NfsTurn → Type 0
IsGarbage xid turns.Ignores = ⊥
IsGarbage xid (turns.Replies reply) = (reply ≡ nfs_found (λ args. refused err_io) xid None) × OutcomeFits reply.outcome
IsGarbage xid (turns.Does id result act) = ⊥

abbrev pub IsFoundTurn : Config → ℕ → ℕ → Option NfsArgs → NfsTurn → Type 0
IsFoundTurn c from xid None turn = IsGarbage xid turn
IsFoundTurn c from xid (Some args) turn = IsPlanned c from xid args turn

-- ---- a datagram

-- what it asks of the swap file
abbrev pub asks_swap : Config → ℕ → List ℕ → Bool
asks_swap c from body = uses_swap_file c (option_map (λ args. (from, args)) (nfs_asked body))

abbrev pub asks_change : Config → ℕ → List ℕ → Option Change
asks_change c from body = option_and_then (λ (call : ℕ × NfsArgs). nfs_change (exported c) call.0 call.1) (option_map (λ args. (from, args)) (nfs_asked body))

pub record IsQuiet (c : Config) (from : ℕ) (body : List ℕ) (reply : Option Reply) : Type 0 where
  pub swap : asks_swap c from body ≡ false
  pub change : asks_change c from body ≡ None
  pub gives : (stored : List (List ℕ)) → map (λ file. length file) stored ≡ sizes_of c → reply_to (nfs c stored from) body ≡ reply

pub record IsLoud (c : Config) (from : ℕ) (body : List ℕ) (xid : ℕ) (result : NfsResult) (act : Act) : Type 0 where
  pub swap : asks_swap c from body ≡ true
  pub change : asks_change c from body ≡ change_by act
  pub gives : (stored : List (List ℕ)) → map (λ file. length file) stored ≡ sizes_of c → reply_to (nfs c stored from) body ≡ Some (given_reply xid (result_by act result (file_in stored swap_file)))
  pub fails : reply_to nfs_failing body ≡ Some (given_reply xid (refused err_io))
  pub fits : ResultFits result
  pub range : ActFits (sizes_of c) act
  pub zeros : HasZeros act result

abbrev pub IsTurn : Config → ℕ → List ℕ → NfsTurn → Type 0
IsTurn c from body turns.Ignores = IsQuiet c from body None
IsTurn c from body (turns.Replies reply) = IsQuiet c from body (Some reply) × OutcomeFits reply.outcome
IsTurn c from body (turns.Does xid result act) = IsLoud c from body xid result act
