-- What a calm sink holds.
use Rattle.std.specs.Prelude.{ℕ, ◌+◌, List, ◌++◌, length, nat_le, Option, Some, None, if◌then◌else◌}

-- the bytes for which it has room, and the bytes written, where it tells them
pub record SinkView : Type 0 where
  pub room : ℕ
  pub written : Option (List ℕ)

-- What it tells once these bytes were written too: all bytes as long as they fit the room, and nothing from then on.
abbrev pub written_within : ℕ → Option (List ℕ) → List ℕ → Option (List ℕ)
written_within room None bytes = None
written_within room (Some old) bytes = if nat_le (length old + length bytes) room then Some (old ++ bytes) else None
