-- An index of the calls that were heard, by which the latest of each exchange is found.
use Rattle.std.specs.Prelude.{◌≡◌, ℕ, ◌+◌, Bool, ◌&&◌, ◌==◌, nat_le, List, [], ◌∷◌, get_or, Option, Some, None, if◌then◌else◌}
use Rattle.std.specs.declared.cmp.Ordering.{Ordering}
use Rattle.std.specs.Ordering.{nat_cmp, ordering_then}
use Rattle.std.specs.BTreeMap.{BTreeMap, get}
use Rattle.sd_outside.specs.declared.packet.Addr.{Addr}
use Rattle.sd_show.specs.declared.procedures.Procedure.{Procedure}
use Rattle.sd_show.specs.declared.calls.Heard.{Heard}
use Rattle.sd_show.specs.declared.calls.Exchange.{Exchange}

-- the number of a call, who sent it, and to whom
abbrev pub exchange_of : ℕ → Addr → Addr → Exchange
exchange_of xid src dst = record { xid = xid; src_ip = src.ip; src_port = src.port; dst_ip = dst.ip; dst_port = dst.port }

-- the order of the index
abbrev pub exchange_cmp : Exchange → Exchange → Ordering
exchange_cmp a b = ordering_then (nat_cmp a.xid b.xid) (ordering_then (nat_cmp a.src_ip b.src_ip) (ordering_then (nat_cmp a.src_port b.src_port) (ordering_then (nat_cmp a.dst_ip b.dst_ip) (nat_cmp a.dst_port b.dst_port))))

-- whether a call is of this exchange
abbrev pub is_of : Exchange → Heard → Bool
is_of e h = h.xid == e.xid && (h.src.ip == e.src_ip && (h.src.port == e.src_port && (h.dst.ip == e.dst_ip && h.dst.port == e.dst_port)))

abbrev pub or_that : Option ℕ → Option ℕ → Option ℕ
or_that (Some n) that = Some n
or_that None that = that

-- the place of the latest call of an exchange, where the first of the calls has this place
abbrev pub latest : Exchange → ℕ → List Heard → Option ℕ
latest e place [] = None
latest e place (call ∷ calls) = or_that (latest e (place + 1) calls) (if is_of e call then Some place else None)

-- the later of two places
abbrev pub later : Option ℕ → Option ℕ → Option ℕ
later None that = that
later (Some n) None = Some n
later (Some n) (Some m) = Some (if nat_le n m then m else n)

-- the index of these calls
abbrev pub IsIndex : BTreeMap Exchange ℕ → List Heard → Type 0
IsIndex index calls = (e : Exchange) → get exchange_cmp index e ≡ latest e 0 calls

-- what the call at a place asked for
abbrev pub IsAskedAt : List Heard → Option ℕ → Option Procedure → Type 0
IsAskedAt calls None asked = asked ≡ None
IsAskedAt calls (Some place) asked = (d : Heard) → asked ≡ Some (get_or calls place d).procedure
