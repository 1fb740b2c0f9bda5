-- The server's RPC programs as the code has them.
use Rattle.std.specs.Prelude.{◌≡◌, ℕ, Option, Some, None, Result, Ok, Err}
use Rattle.std.specs.Option.{option_map}
use Rattle.sd_xdr.specs.declared.error.MsgError.{MsgError}
use Rattle.sd_xdr.specs.declared.error.MsgError.TheVariants.{Xdr, RpcVersion, AuthLong, NoMemory}
use Rattle.sd_rpc_msg.specs.declared.message.Outcome.{Outcome}
use Rattle.sd_rpc_msg.specs.declared.message.Outcome.TheVariants.{Success, GarbageArgs}
use Rattle.sd_portmap.specs.declared.message.PmapArgs.{PmapArgs}
use Rattle.sd_portmap.specs.Layout as portmap
use Rattle.sd_bootparams.specs.declared.message.BpArgs.{BpArgs}
use Rattle.sd_bootparams.specs.Layout as bootparam
use Rattle.sd_config.specs.declared.config.Config.{Config}
use Rattle.sd_services.specs.RpcCalls.{Program, auth_null}
use Rattle.sd_services.specs.RpcReply.{pmap_giving, pmap_answer, bp_giving, bp_answer}
use Rattle.sd_services.specs.MountReply.{mount_to_ask}
use Rattle.sd_services.specs.NfsCalls.{nfs_to_ask}
use Rattle.sd_server.specs.declared.service.Service.{Service}
use Rattle.sd_server.specs.declared.service.Service.TheVariants as services

-- what a program is beside its answers
abbrev pub program_of : Service → Program
program_of services.Portmapper = pmap_giving (λ v. None)
program_of services.Bootparams = bp_giving (λ v. None)
program_of services.Mount = mount_to_ask
program_of services.Nfs = nfs_to_ask

-- What a reader's answer comes to, where bytes that spell nothing are passed by.
abbrev pub IsKnown : {X : Type 0} → Result X MsgError → Option X → Type 0
IsKnown (Ok x) known = known ≡ Some x
IsKnown (Err (Xdr why)) known = known ≡ None
IsKnown (Err (RpcVersion xid got)) known = known ≡ None
IsKnown (Err (AuthLong at len)) known = known ≡ None
IsKnown (Err NoMemory) known = ⊥

-- what bootparams makes of the arguments that were found
abbrev pub bp_found : Config → Option BpArgs → Option Outcome
bp_found c None = Some (GarbageArgs auth_null)
bp_found c (Some args) = option_map (Success auth_null) (option_map bootparam.result_bytes (bp_answer c args))

-- and the portmapper
abbrev pub pmap_found : Config → Option PmapArgs → Option Outcome
pmap_found c None = Some (GarbageArgs auth_null)
pmap_found c (Some args) = option_map (Success auth_null) (option_map portmap.result_bytes (pmap_answer c args))
