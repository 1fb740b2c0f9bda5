-- What a reader's answer comes to, where bytes that spell nothing are passed by.
use Rattle.std.specs.Prelude.{◌≡◌, Option, Some, None, Result, Ok, Err}
use Rattle.sd_xdr.specs.declared.error.MsgError.{MsgError}
use Rattle.sd_xdr.specs.declared.error.MsgError.TheVariants.{Xdr, RpcVersion, AuthLong, NoMemory}

abbrev pub IsKnown : {X : Type 0} → Result X MsgError → Option X → Type 0
IsKnown (Ok x) known = known ≡ Some x
IsKnown (Err (Xdr why)) known = known ≡ None
IsKnown (Err (RpcVersion xid got)) known = known ≡ None
IsKnown (Err (AuthLong at len)) known = known ≡ None
IsKnown (Err NoMemory) known = ⊥
