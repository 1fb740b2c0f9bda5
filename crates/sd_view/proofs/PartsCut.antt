-- The parts of a datagram.
use Rattle.std.proofs.Common.{◌≡◌, ℕ, ◌+◌, ◌-◌, ◌*◌, min, List, length, take, drop, refl, arith, inl, inr}
use Rattle.std.proofs.lemmas.List.{take_all, length-drop}
use Rattle.std.proofs.lemmas.Bool.{cases_order}
use Rattle.sd_view.specs.Internet.{part}

cut_least : (n size : ℕ) (bytes : List ℕ) → size ≡ min (length bytes) n → take size bytes ≡ take n bytes
cut_least n size bytes is = elim (cases_order (length bytes) n) [
  | inl same ↦ let e : size ≡ n = omega (arith, is, same) in rw e refl
  | inr other ↦ elim other [
    | inl less ↦ let e : size ≡ length bytes = omega (arith, is, less) in rw (e, take_all (length bytes) bytes (omega arith), take_all n bytes (omega (arith, less))) refl
    | inr more ↦ let e : size ≡ n = omega (arith, is, more) in rw e refl
  ]
]

pub part_is : (bytes : List ℕ) (start size i : ℕ) → start ≡ 1480 * i → size ≡ min (length bytes - start) 1480 → take (start + size - start) (drop start bytes) ≡ part i bytes
unfolding part
part_is bytes start size i place is =
    let e : start + size - start ≡ size = omega arith in
    let shorter : size ≡ min (length (drop start bytes)) 1480 = rw (length-drop start bytes) is in
    rw (e, ← place) (cut_least 1480 size (drop start bytes) shorter)
