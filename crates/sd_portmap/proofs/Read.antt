-- What is written is read again, as it was and not otherwise; and what is read is what is written.
use Rattle.std.proofs.Common.{◌≡◌, ℕ, zero, suc, ◌≤◌, Bool, true, false, cond, eqb, leb, ◌&&◌, List, [], ◌∷◌, refl, sym, subst, arith}
use Rattle.std.specs.Prelude.{All}
use Rattle.sd_xdr.specs.Kind.{whole, part, Kind, variant, place_of, number, ◌⊗◌, second, Value}
use Rattle.sd_xdr.specs.Grammar.{HasSpelling, IsPlain, Reads}
use Rattle.sd_xdr.proofs.Whole.{one_value}
use Rattle.sd_xdr.proofs.Writes.{written_is_read, one_spelling, read_has_spelling}
use Rattle.sd_portmap.specs.declared.mapping.Mapping.{Mapping}
use Rattle.sd_portmap.specs.declared.message.PmapArgs.{PmapArgs}
use Rattle.sd_portmap.specs.declared.message.PmapArgs.TheVariants as args
use Rattle.sd_portmap.specs.declared.message.PmapResult.{PmapResult}
use Rattle.sd_portmap.specs.declared.message.PmapResult.TheVariants as results
use Rattle.sd_portmap.specs.Layout.{mapping, pmaplist, args_kind, result_layout, result_place, result_kind, mapping_value, args_value, mappings_value, result_value, proc_of, args_bytes, result_bytes}
use Rattle.sd_portmap.specs.Laws.{ReadsArgs, ReadsResult, IsMapping, AreArgs, IsResult, ArgsWrittenAreRead, ArgsOneSpelling, ResultWrittenIsRead, ResultOneSpelling}
use Rattle.sd_portmap.proofs.Told.{told_args, told_result}

-- ---- what has a spelling

mapping_spelled : (m : Mapping) → IsMapping m → HasSpelling mapping (mapping_value m)
mapping_spelled m h = (refl, (refl, h.0, refl), (refl, (refl, h.1, refl), (refl, (refl, h.2, refl), (refl, h.3, refl))))

mappings_spelled : (ms : List Mapping) → All IsMapping ms → HasSpelling pmaplist (mappings_value ms)
mappings_spelled [] h = tt
mappings_spelled (m ∷ ms) h = (mapping_spelled m (h zero m (omega arith)), mappings_spelled ms (λ k d lt. h (suc k) d (omega (arith, lt))))

args_spelled : (a : PmapArgs) → AreArgs a → HasSpelling (args_kind (proc_of a)) (args_value a)
args_spelled args.Null h = (refl, refl)
args_spelled (args.Set m) h = (refl, mapping_spelled m h)
args_spelled (args.Unset m) h = (refl, mapping_spelled m h)
args_spelled (args.Getport m) h = (refl, mapping_spelled m h)
args_spelled args.Dump h = (refl, refl)
args_spelled (args.Callit prog vers proc_no bs) h = (refl, (refl, (refl, h.0, refl), (refl, (refl, h.1, refl), (refl, (refl, h.2, refl), (refl, h.3, omega (arith, h.3))))))

result_spelled : (r : PmapResult) → IsResult r → HasSpelling (variant result_layout (place_of (result_value r))) (result_value r)
result_spelled results.Void h = (refl, refl)
result_spelled (results.Flag true) h = (refl, (refl, omega arith, refl))
result_spelled (results.Flag false) h = (refl, (refl, omega arith, refl))
result_spelled (results.Port port) h = (refl, (refl, omega (arith, h), within port h))
  where
    within : (n : ℕ) → n ≤ 65535 → (leb 0 n && leb n 65535) ≡ true
    within n h = grind arith
result_spelled (results.Mappings ms) h = (refl, mappings_spelled ms h)
result_spelled (results.Callit port bs) h = (refl, (refl, (refl, h.0, refl), (refl, h.1, omega (arith, h.1))))

-- ---- written, and read again

pub args_written_are_read_of : ArgsWrittenAreRead
args_written_are_read_of a b h =
    let again : ReadsArgs (proc_of a) (args_bytes a) a = written_is_read whole (args_kind (proc_of a)) (args_value a) (args_spelled a h) in (
      λ read. told_args b a (one_value (args_kind (proc_of a)) (args_bytes a) (args_value b) (args_value a) read again),
      λ same. subst (λ (c : PmapArgs). ReadsArgs (proc_of a) (args_bytes a) c) (sym same) again,
    )

pub result_written_is_read_of : ResultWrittenIsRead
result_written_is_read_of proc_no r s h of =
    let own : Reads whole (variant result_layout (place_of (result_value r))) (result_bytes r) (result_value r) = written_is_read whole (variant result_layout (place_of (result_value r))) (result_value r) (result_spelled r h) in
    let again : ReadsResult proc_no (result_bytes r) r = subst (λ (n : ℕ). Reads whole (variant result_layout n) (result_bytes r) (result_value r)) of own in (
      λ read. told_result s r (one_value (result_kind proc_no) (result_bytes r) (result_value s) (result_value r) read again),
      λ same. subst (λ (c : PmapResult). ReadsResult proc_no (result_bytes r) c) (sym same) again,
    )

-- ---- no char stands in them

plain_if : (b : Bool) (A B : Kind part) → IsPlain A → IsPlain B → IsPlain (cond b A B)
plain_if true A B p q = p
plain_if false A B p q = q

plain_args : (proc_no : ℕ) → IsPlain (args_kind proc_no)
plain_args n = plain_if (eqb n 0) _ _ tt (plain_if (eqb n 4) _ _ tt (plain_if (eqb n 5) _ _ (tt, (tt, (tt, tt))) (tt, (tt, (tt, tt)))))

plain_result : (place : ℕ) → IsPlain (variant result_layout place)
plain_result n = plain_if (eqb n 0) _ _ tt (plain_if (eqb n 1) _ _ tt (plain_if (eqb n 2) _ _ tt (plain_if (eqb n 3) _ _ (tt, (tt, (tt, tt))) (tt, tt))))

-- ---- what is read has a spelling

mapping_is : (m : Mapping) → HasSpelling mapping (mapping_value m) → IsMapping m
mapping_is m h = (h.1.1, h.2.1.1, h.2.2.1.1, h.2.2.2.1)

mappings_are : (ms : List Mapping) → HasSpelling pmaplist (mappings_value ms) → All IsMapping ms
mappings_are [] h k d lt = absurd (omega (arith, lt))
mappings_are (m ∷ ms) h zero d lt = mapping_is m h.0
mappings_are (m ∷ ms) h (suc k) d lt = mappings_are ms h.1 k d (omega (arith, lt))

-- the number before the value is the one that is known
given_is : (n m : ℕ) (x y : Value) → number m ⊗ x ≡ number n ⊗ y → n ≡ m
given_is n m x y h = cc

args_are : (a : PmapArgs) → HasSpelling (args_kind (proc_of a)) (args_value a) → AreArgs a
args_are args.Null h = tt
args_are (args.Set m) h = mapping_is m h.1
args_are (args.Unset m) h = mapping_is m h.1
args_are (args.Getport m) h = mapping_is m h.1
args_are args.Dump h = tt
args_are (args.Callit prog vers proc_no bs) h = (h.1.1.1, h.1.2.1.1, h.1.2.2.1.1, h.1.2.2.2.1)

result_is : (r : PmapResult) → HasSpelling (variant result_layout (place_of (result_value r))) (result_value r) → IsResult r
result_is results.Void h = tt
result_is (results.Flag b) h = tt
result_is (results.Port port) h = within h.1.2
  where
    within : (leb 0 port && leb port 65535) ≡ true → port ≤ 65535
    within h = grind arith
result_is (results.Mappings ms) h = mappings_are ms h.1
result_is (results.Callit port bs) h = (h.1.1.1, h.1.2.1)

-- the procedure is the one that has these arguments
args_of : (proc_no : ℕ) (a : PmapArgs) → args_value a ≡ number proc_no ⊗ second (args_value a) → proc_no ≡ proc_of a
args_of n args.Null h = given_is n 0 _ _ h
args_of n (args.Set m) h = given_is n 1 _ _ h
args_of n (args.Unset m) h = given_is n 2 _ _ h
args_of n (args.Getport m) h = given_is n 3 _ _ h
args_of n args.Dump h = given_is n 4 _ _ h
args_of n (args.Callit prog vers proc_no bs) h = given_is n 5 _ _ h

result_of : (place : ℕ) (r : PmapResult) → result_value r ≡ number place ⊗ second (result_value r) → place ≡ place_of (result_value r)
result_of n results.Void h = given_is n 0 _ _ h
result_of n (results.Flag b) h = given_is n 1 _ _ h
result_of n (results.Port port) h = given_is n 2 _ _ h
result_of n (results.Mappings ms) h = given_is n 3 _ _ h
result_of n (results.Callit port bs) h = given_is n 4 _ _ h

pub args_one_spelling_of : ArgsOneSpelling
args_one_spelling_of proc_no a bs h =
    let s = read_has_spelling whole (args_kind proc_no) bs (args_value a) h in
    let same : proc_no ≡ proc_of a = args_of proc_no a s.0 in
    let read : ReadsArgs (proc_of a) bs a = subst (λ (n : ℕ). ReadsArgs n bs a) same h in (
      one_spelling whole (args_kind (proc_of a)) bs (args_value a) (plain_args (proc_of a)) read,
      same,
      args_are a (read_has_spelling whole (args_kind (proc_of a)) bs (args_value a) read),
    )

pub result_one_spelling_of : ResultOneSpelling
result_one_spelling_of proc_no r bs h =
    let s = read_has_spelling whole (result_kind proc_no) bs (result_value r) h in
    let same : result_place proc_no ≡ place_of (result_value r) = result_of (result_place proc_no) r s.0 in
    let read : Reads whole (variant result_layout (place_of (result_value r))) bs (result_value r) = subst (λ (n : ℕ). Reads whole (variant result_layout n) bs (result_value r)) same h in (
      one_spelling whole (variant result_layout (place_of (result_value r))) bs (result_value r) (plain_result (place_of (result_value r))) read,
      sym same,
      result_is r (read_has_spelling whole (variant result_layout (place_of (result_value r))) bs (result_value r) read),
    )
