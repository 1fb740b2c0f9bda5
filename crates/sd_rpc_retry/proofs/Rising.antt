-- Counts that rise.
use Rattle.std.proofs.Common.{◌≡◌, ℕ, ◌+◌, ◌-◌, ◌^◌, ◌≤◌, Some, Ok, arith}
use Rattle.std.specs.Prelude.{min, max}
use Rattle.sd_outside.specs.declared.packet.Packet.{Packet}
use Rattle.sd_link.specs.Link.{Counts}
use Rattle.sd_rpc_retry.specs.Sending.{RoseBy}

-- to the greatest number that a count has
rises : (top times before mid now : ℕ) → min (before + times) top ≤ mid → now ≡ max mid (min (mid + 1) top) → min (before + (times + 1)) top ≤ now
rises top times before mid now rose next = omega (arith, rose, next)

stays : (top before mid now : ℕ) → before ≤ mid → now ≡ max mid (min (mid + 1) top) → before ≤ now
stays top before mid now le next = omega (arith, le, next)

pub rose_one_more : (times before mid now : ℕ) (packet : Packet) → RoseBy times before mid → Counts mid now (Ok (Some packet)) → RoseBy (times + 1) before now
rose_one_more times before mid now packet rose next = rises (2 ^ 64 - 1) times before mid now rose next

pub counts_on : (before mid now : ℕ) (packet : Packet) → before ≤ mid → Counts mid now (Ok (Some packet)) → before ≤ now
counts_on before mid now packet le next = stays (2 ^ 64 - 1) before mid now le next

pub rose_none : (before : ℕ) → RoseBy 0 before before
rose_none before = omega arith
