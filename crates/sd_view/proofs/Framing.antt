-- The parts of a datagram, frame by frame.
use Rattle.std.proofs.Common.{◌≡◌, ℕ, suc, ◌+◌, ◌-◌, ◌<◌, List, ◌++◌, map, sym, ◌∙◌, ap, arith, append_assoc}
use Rattle.std.specs.Prelude.{flat_map}
use Rattle.std.specs.List.{range_with_len}
use Rattle.sd_outside.specs.declared.packet.Addr.{Addr}
use Rattle.sd_view.specs.Internet.{frame_of}
use Rattle.sd_view.specs.Capture.{framed}

-- so many parts of a datagram from part i on, each in its frame
abbrev pub framed_from : ℕ → ℕ → Addr → Addr → List ℕ → ℕ → ℕ → List ℕ
framed_from tick id src dst bytes i count = flat_map (λ frame. framed tick frame) (map (λ k. frame_of id src dst bytes k) (range_with_len i count))

module _ (tick id : ℕ) (src dst : Addr) (bytes : List ℕ) where
  -- one more frame was added
  pub one_framed : (old new all : List ℕ) (i count : ℕ) → i < count → old ++ framed_from tick id src dst bytes i (count - i) ≡ all
      → new ≡ old ++ framed tick (frame_of id src dst bytes i) → new ++ framed_from tick id src dst bytes (i + 1) (count - (i + 1)) ≡ all
  one_framed old new all i count h so_far added =
      let left : count - i ≡ suc (count - (i + 1)) = omega arith in
      ap (λ (l : List ℕ). l ++ framed_from tick id src dst bytes (i + 1) (count - (i + 1))) added ∙ append_assoc old (framed tick (frame_of id src dst bytes i)) (framed_from tick id src dst bytes (i + 1) (count - (i + 1)))
      ∙ ap (λ (n : ℕ). old ++ framed_from tick id src dst bytes i n) (sym left) ∙ so_far
