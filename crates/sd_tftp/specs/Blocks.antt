-- A file in blocks (RFC 1350, section 2): 512 bytes each, numbered from 1. The last has fewer, and none where the
-- file's length is a multiple of 512.
use Rattle.std.specs.Prelude.{◌≡◌, ℕ, ◌+◌, ◌-◌, ◌*◌, ◌/◌, ◌<◌, List, [], ◌∷◌, ◌++◌, length, take, drop}

-- block n of a file
abbrev pub block_at : List ℕ → ℕ → List ℕ
block_at file n = take 512 (drop (512 * (n - 1)) file)

-- 'A data packet of less than 512 bytes signals termination of a transfer.'
abbrev pub IsShort : List ℕ → Type 0
IsShort body = length body < 512

-- the number of a file's last block
abbrev pub last_block : List ℕ → ℕ
last_block file = length file / 512 + 1

-- the most bytes that a file may have: 65,534 whole blocks and 511 bytes, since a number has two bytes
abbrev pub longest_file : ℕ
longest_file = 33553919

-- these are a file's blocks n, n + 1, ..
abbrev pub AreBlocksOf : List ℕ → ℕ → List (List ℕ) → Type 0
AreBlocksOf file n [] = Unit {0}
AreBlocksOf file n (body ∷ later) = (body ≡ block_at file n) × AreBlocksOf file (n + 1) later

-- each of these has 512 bytes
abbrev pub AreWhole : List (List ℕ) → Type 0
AreWhole [] = Unit {0}
AreWhole (body ∷ later) = (length body ≡ 512) × AreWhole later

-- the last of these is short
pub record EndsShort (blocks : List (List ℕ)) : Type 0 where
  pub front : List (List ℕ)
  pub final : List ℕ
  pub blocks_are : blocks ≡ front ++ final ∷ []
  pub short : IsShort final
