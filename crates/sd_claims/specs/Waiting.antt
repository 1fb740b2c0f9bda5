-- A client that lets time pass, and drops what comes.
use Rattle.std.specs.Prelude.{◌≡◌, ℕ, ◌<◌, ◌≤◌, List, [], ◌∷◌, ◌++◌, length}
use Rattle.sd_link.specs.Steps.{Step, Fail}
use Rattle.sd_link.specs.Parts.{sends_in, got_in, ticks_in}
use Rattle.sd_link.specs.Tries.{EndsWithPacket, flood_limit}

-- so many ticks passed, and nothing that was due still waits
pub record Waited (settled : List Step → Type 0) (ticks : ℕ) (part : List Step) : Type 0 where
  pub silent : sends_in part ≡ []
  pub passed : ticks_in part ≡ ticks
  pub calm : length (got_in part) < flood_limit
  pub settles : settled part

-- a flood of packets came first, and ended the wait with its last packet
pub record WaitFlooded (ticks : ℕ) (part : List Step) : Type 0 where
  pub silent : sends_in part ≡ []
  pub passed : ticks_in part ≤ ticks
  pub many : length (got_in part) ≡ flood_limit
  pub ends : EndsWithPacket (λ packet. []) part

-- the network failed first, by the last step
pub record WaitFailed (ticks : ℕ) (part : List Step) : Type 0 where
  pub before : List Step
  pub silent : sends_in part ≡ []
  pub passed : ticks_in part ≤ ticks
  pub few : length (got_in part) < flood_limit
  pub cut : part ≡ before ++ Fail ∷ []
