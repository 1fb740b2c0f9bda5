-- What a crash leaves while some bytes are written and then the gate.
use Rattle.std.specs.Prelude.{◌⊎◌, ℕ, List, [], ◌∷◌, length, Option, IsSomeAnd}
use Rattle.sd_outside.specs.Ranges.{put, Torn}

-- the bytes are torn, or they stand and the gate is torn
abbrev pub MidWrite : ℕ → List ℕ → List ℕ → List ℕ → Type 0
MidWrite at bytes old image = Torn at (length bytes) old image ⊎ Torn 512 1 (put at bytes old) image

-- the same, from what a read gave
abbrev pub Midway : ℕ → List ℕ → Option (List ℕ) → List ℕ → Type 0
Midway at bytes seen image = IsSomeAnd seen (λ old. MidWrite at bytes old image)

-- the bytes stand, and the gate has that value
abbrev pub gated : ℕ → List ℕ → ℕ → List ℕ → List ℕ
gated at bytes gate old = put 512 (gate ∷ []) (put at bytes old)
