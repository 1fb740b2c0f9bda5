-- What a READ gives of zeros.
use Rattle.std.proofs.Common.{◌≡◌, ℕ, ◌+◌, ◌-◌, List, length, refl, take, replicate, min, sym, ap, ◌∙◌, arith}
use Rattle.std.specs.Prelude.{Bool, true, false, ◌==◌, ◌&&◌, nat_le, if◌then◌else◌, Some}
use Rattle.std.proofs.lemmas.List.{take-replicate, drop-replicate, take_all, length-replicate}
use Rattle.std.proofs.Math.Nat.{min-eq_left, min-eq_right}
use Rattle.sd_outside.specs.declared.fhandle.FHandle.{FHandle}
use Rattle.sd_nfs_msg.specs.declared.message.NfsArgs.TheVariants as asks
use Rattle.sd_nfs_msg.specs.declared.message.NfsResult.TheVariants as results
use Rattle.sd_services.specs.Decisions.{bytes_read, swap_attributes, refused, err_acces, err_nospc}
use Rattle.sd_nfs_server.specs.Plan.{read_len, range, swap_refused, swap_done, swap_reads, swap_writes, swap_decision}
use Rattle.sd_services.proofs.Order.{Rank, below, level, higher, rank}

take_zeros : (n m : ℕ) → take {A = ℕ} n (replicate m 0) ≡ replicate (min n m) 0
take_zeros n m = by (rank n m)
  where
    by : Rank n m → take {A = ℕ} n (replicate m 0) ≡ replicate (min n m) 0
    by (below h) = take-replicate n m 0 (omega arith) ∙ ap (λ (k : ℕ). replicate {A = ℕ} k 0) (sym (min-eq_left (omega arith)))
    by (level h) = take-replicate n m 0 (omega arith) ∙ ap (λ (k : ℕ). replicate {A = ℕ} k 0) (sym (min-eq_left (omega arith)))
    by (higher h) = let l : length (replicate {A = ℕ} m 0) ≡ m = length-replicate m 0 in take_all n (replicate m 0) (omega arith) ∙ ap (λ (k : ℕ). replicate {A = ℕ} k 0) (sym (min-eq_right (omega arith)))

pub read_zeros : (size offset count : ℕ) → bytes_read (replicate size 0) offset count ≡ replicate (read_len size offset count) 0
read_zeros size offset count = ap (take (min count 8192)) (drop-replicate offset size 0) ∙ take_zeros (min count 8192) (size - offset)

-- a READ of the swap file, as the table says it with zeros for the file's bytes
pub reads_zeros : (owner from size offset count total : ℕ) (at : FHandle) → swap_reads owner from size offset count ≡ swap_decision owner from size (asks.Read at offset count total)
reads_zeros owner from size offset count total at = by (from == owner)
  where
    len : ℕ
    len = read_len size offset count

    by : (b : Bool) → (if b then swap_done (results.Read (swap_attributes size) (replicate len 0)) offset len else swap_refused err_acces) ≡ record {
      done = if b then results.Read (swap_attributes size) (bytes_read (replicate size 0) offset count) else refused err_acces;
      access = Some (if b then range offset len else (0, 0));
    }
    by true = λ i. record { done = results.Read (swap_attributes size) (sym (read_zeros size offset count) i); access = Some (range offset len) }
    by false = refl

-- a WRITE of it
pub writes_swap : (owner from size begin offset total : ℕ) (at : FHandle) (bytes : List ℕ) → swap_writes owner from size offset (length bytes) ≡ swap_decision owner from size (asks.Write at begin offset total bytes)
writes_swap owner from size begin offset total at bytes = by (from == owner) (nat_le (offset + length bytes) size)
  where
    by : (b c : Bool) → (if b then (if c then swap_done (results.Write (swap_attributes size)) offset (length bytes) else swap_refused err_nospc) else swap_refused err_acces) ≡ record {
      done = if b then (if c then results.Write (swap_attributes size) else refused err_nospc) else refused err_acces;
      access = Some (if b && c then range offset (length bytes) else (0, 0));
    }
    by true true = refl
    by true false = refl
    by false true = refl
    by false false = refl
