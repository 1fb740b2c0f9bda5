-- UNIX credentials are told apart by the value that they are, and are read again.
use Rattle.std.proofs.Common.{◌≡◌, true, ℕ, zero, suc, ◌≤◌, leb, List, [], ◌∷◌, length, refl, sym, subst, arith}
use Rattle.std.specs.Prelude.{map, All}
use Rattle.std.proofs.lemmas.Bool.{le-leb}
use Rattle.sd_xdr.specs.Kind.{any, whole, word, ended, times, none, number, chain}
use Rattle.sd_xdr.specs.Grammar.{HasSpelling, IsPlain, Reads, writes}
use Rattle.sd_xdr.proofs.Whole.{one_value}
use Rattle.sd_xdr.proofs.Writes.{written_is_read, one_spelling, read_has_spelling}
use Rattle.sd_rpc_msg.specs.declared.unix.UnixCred.{UnixCred}
use Rattle.sd_rpc_msg.specs.Unix.{groups, unix, groups_value, unix_value}
use Rattle.sd_rpc_msg.specs.Laws.{IsWord, IsUnix, UnixWrittenIsRead, UnixOneSpelling, UnixToldApart}

-- ---- told apart

numbers_told : (ms ns : List ℕ) → chain (map number ms) none ≡ chain (map number ns) none → ms ≡ ns
numbers_told [] [] h = refl
numbers_told [] (n ∷ ns) h = absurd cc
numbers_told (m ∷ ms) [] h = absurd cc
numbers_told (m ∷ ms) (n ∷ ns) h =
    let first : m ≡ n = cc in
    let others : ms ≡ ns = numbers_told ms ns (cc) in
    cc

abbrev made : ℕ → List ℕ → ℕ → ℕ → List ℕ → UnixCred
made stamp machine uid gid gids = record { stamp = stamp; machine = machine; uid = uid; gid = gid; gids = gids }

told : (f : ℕ → List ℕ → ℕ → ℕ → List ℕ → UnixCred) (c d : UnixCred) → unix_value c ≡ unix_value d → f c.stamp c.machine c.uid c.gid c.gids ≡ f d.stamp d.machine d.uid d.gid d.gids
told f c d h = let gids = numbers_told c.gids d.gids (cc) in cc

pub told_apart : UnixToldApart
told_apart c d h = told made c d h

-- ---- read again

numbers_spelled : (ns : List ℕ) → All IsWord ns → HasSpelling (times (length ns) (word any)) (chain (map number ns) none)
numbers_spelled [] h = refl
numbers_spelled (n ∷ ns) h = (refl, (refl, h zero 0 (omega arith), refl), numbers_spelled ns (λ k d lt. h (suc k) d (omega (arith, lt))))

spelled : (c : UnixCred) → IsUnix c → HasSpelling (ended unix) (unix_value c)
spelled c h =
    let gids : HasSpelling groups (groups_value c.gids) = (refl, (refl, omega (arith, h.4), le-leb (length c.gids) 16 h.4), numbers_spelled c.gids h.5) in
    (refl, (refl, h.0, refl), (refl, (refl, omega (arith, h.1), h.1), (refl, (refl, h.2, refl), (refl, (refl, h.3, refl), gids))))

pub written_is_read_again : UnixWrittenIsRead
written_is_read_again c d h =
    let again : Reads whole (ended unix) (writes unix (unix_value c)) (unix_value c) = written_is_read whole (ended unix) (unix_value c) (spelled c h) in (
      λ read. told_apart d c (one_value (ended unix) (writes unix (unix_value c)) (unix_value d) (unix_value c) read again),
      λ same. subst (λ (k : UnixCred). Reads whole (ended unix) (writes unix (unix_value c)) (unix_value k)) (sym same) again,
    )

-- ---- no char stands in credentials

plain_times : (n : ℕ) → IsPlain (times n (word any))
plain_times zero = tt
plain_times (suc n) = (tt, plain_times n)

-- ---- what is read has a spelling

numbers_are : (ns : List ℕ) → HasSpelling (times (length ns) (word any)) (chain (map number ns) none) → All IsWord ns
numbers_are [] h k d lt = absurd (omega (arith, lt))
numbers_are (n ∷ ns) h zero d lt = h.1.1
numbers_are (n ∷ ns) h (suc k) d lt = numbers_are ns h.2 k d (omega (arith, lt))

unix_is : (c : UnixCred) → HasSpelling (ended unix) (unix_value c) → IsUnix c
unix_is c h =
    let machine = h.2.1 in
    let gids = h.2.2.2.2 in
    (h.1.1, machine.2, h.2.2.1.1, h.2.2.2.1.1, within (length c.gids) gids.1.2, numbers_are c.gids gids.2)
  where
    within : (n : ℕ) → leb n 16 ≡ true → n ≤ 16
    within n h = grind arith

pub one_spelling_of : UnixOneSpelling
one_spelling_of c bs h = (one_spelling whole (ended unix) bs (unix_value c) (tt, (tt, (tt, (tt, (tt, plain_times))))) h, unix_is c (read_has_spelling whole (ended unix) bs (unix_value c) h))
