-- The kind of UNIX credentials (RFC 1057, section 9.2), and the value that one is. RFC 1057 has at most 10 groups; up to 16 are
-- taken here, as later systems send them (RFC 1831, appendix A).
use Rattle.std.specs.Prelude.{ℕ, ◌≤◌, List, length, map}
use Rattle.sd_xdr.specs.Kind.{any, upto, part, Kind, word, opaque, ◌&◌, array, Value, none, number, bytes, ◌⊗◌, chain}
use Rattle.sd_rpc_msg.specs.declared.unix.UnixCred.{UnixCred}

-- gids
abbrev pub groups : Kind part
groups = array 16 (word any)

-- auth_unix: stamp, machinename, uid, gid, gids
abbrev pub unix : Kind part
unix = word any & opaque (upto 255) & word any & word any & groups

abbrev pub groups_value : List ℕ → Value
groups_value gids = number (length gids) ⊗ chain (map number gids) none

abbrev pub unix_value : UnixCred → Value
unix_value c = number c.stamp ⊗ bytes c.machine ⊗ number c.uid ⊗ number c.gid ⊗ groups_value c.gids

-- what has room
abbrev pub UnixFits : UnixCred → Type 0
UnixFits c = (length c.machine ≤ 255) × (length c.gids ≤ 16)
