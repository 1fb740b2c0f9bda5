-- How long commands and sessions last at most.
use Rattle.std.specs.Prelude.{ℕ, ◌-◌, ◌^◌, ◌≤◌}

-- the most ticks that a fetch lasts: those of 65,535 blocks
abbrev pub most_fetch_ticks : ℕ
most_fetch_ticks = 4194240000

-- the most ticks that the calls of a boot last: those of three
abbrev pub most_calls_ticks : ℕ
most_calls_ticks = 192000

-- the most ticks that a boot lasts after its address was told
abbrev pub most_boot_ticks : ℕ
most_boot_ticks = 4194432000

-- the most ticks that one command lasts: those of a boot, which also asks for its address
abbrev pub most_ticks : ℕ
most_ticks = 4194496000

-- the most ticks that a session lasts: those of 16,384 commands
abbrev pub most_session_ticks : ℕ
most_session_ticks = 68722622464000

-- the most calls that one command makes
abbrev pub most_calls : ℕ
most_calls = 65535

-- where the number of the next call leaves room for those of a command
abbrev pub HasCallsLeft : ℕ → Type 0
HasCallsLeft next_xid = next_xid ≤ 2 ^ 32 - 65536
