-- What a source and a sink in memory are seen as.
use Rattle.std.specs.Prelude.{ℕ, List}

pub record MemSourceView : Type 0 where
  -- the bytes that are left
  pub left : List ℕ
  -- the most bytes of one call
  pub step : ℕ
  -- the calls that are planned to fail, counted from the next
  pub plan : List ℕ
  -- how many calls failed
  pub faults : ℕ

pub record MemSinkView : Type 0 where
  -- the bytes written
  pub written : List ℕ
  -- the most bytes of one call
  pub step : ℕ
  -- the calls that are planned to fail, counted from the next
  pub plan : List ℕ
  -- how many calls failed
  pub faults : ℕ

-- how many bytes a sink in memory has room for
abbrev pub sink_room : ℕ
sink_room = 65536
