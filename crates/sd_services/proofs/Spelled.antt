-- What bytes spell, by the grammar and by reading.
use Rattle.std.proofs.Common.{◌≡◌, ℕ, zero, suc, List, [], ◌∷◌, ◌++◌, length, Option, Some, None, Ok, Err, refl, ap, subst, arith}
use Rattle.std.specs.Prelude.{replicate}
use Rattle.sd_outside.specs.Bytes.{IsBytes}
use Rattle.sd_xdr.specs.Kind.{whole, Kind, Value, filling}
use Rattle.sd_xdr.specs.Grammar.{Reads, HasSpelling, word_bytes, counted, filled}
use Rattle.sd_xdr.specs.Reading.{Read, reading, start}
use Rattle.sd_xdr.proofs.Whole.{found, whole_again}
use Rattle.sd_xdr.proofs.Writes.{read_has_spelling}
use Rattle.sd_services.specs.RpcCalls.{value_read, spelled}

same : {A : Type 0} (x y : A) → ◌≡◌ {A = Option A} (Some x) (Some y) → x ≡ y
same x y h = cc

pub spelled_some : (K : Kind whole) (bs : List ℕ) (x : Value) → Reads whole K bs x → spelled K bs ≡ Some x
spelled_some K bs x h = ap value_read (whole_again K bs x h)

read_of : (K : Kind whole) (bs : List ℕ) (v : Value) → IsBytes bs → (r : Read) → reading K (start bs) ≡ r → value_read r ≡ Some v → Reads whole K bs v
read_of K bs v fits (Ok x) is said = subst (λ (u : Value). Reads whole K bs u) (same x.0 v said) (found K bs x.0 x.1 fits is)
read_of K bs v fits (Err why) is said = absurd cc

pub reads_of : (K : Kind whole) (bs : List ℕ) (v : Value) → IsBytes bs → spelled K bs ≡ Some v → Reads whole K bs v
reads_of K bs v fits said = read_of K bs v fits (reading K (start bs)) refl said

pub shape_of : (K : Kind whole) (bs : List ℕ) (v : Value) → IsBytes bs → spelled K bs ≡ Some v → HasSpelling K v
shape_of K bs v fits said = read_has_spelling whole K bs v (reads_of K bs v fits said)

-- ---- parts of bytes

pub bytes_back : (xs ys : List ℕ) → IsBytes (xs ++ ys) → IsBytes ys
bytes_back [] ys fits = fits
bytes_back (x ∷ xs) ys fits = bytes_back xs ys (λ i. fits (suc i))

pub bytes_front : (xs ys : List ℕ) → IsBytes (xs ++ ys) → IsBytes xs
bytes_front [] ys fits i = omega arith
bytes_front (x ∷ xs) ys fits zero = fits 0
bytes_front (x ∷ xs) ys fits (suc i) = bytes_front xs ys (λ j. fits (suc j)) i

pub counted_bytes : (l : List ℕ) → IsBytes (counted l) → IsBytes l
unfolding counted filled
counted_bytes l fits = bytes_front l (replicate (filling (length l)) 0) (bytes_back (word_bytes (length l)) (filled l) fits)
