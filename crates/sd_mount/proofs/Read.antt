-- What is written is read again, as it was and not otherwise; and what is read is what is written.
use Rattle.std.proofs.Common.{◌≡◌, ℕ, zero, suc, ◌≤◌, Bool, true, false, cond, eqb, List, [], ◌∷◌, length, Result, Ok, Err, IfOk, refl, sym, subst, arith}
use Rattle.std.specs.Prelude.{All}
use Rattle.sd_xdr.specs.Kind.{whole, part, Kind, list, void, variant, place_of, number, none, bytes, ◌⊗◌, second, Value}
use Rattle.sd_xdr.specs.Grammar.{HasSpelling, IsPlain, Reads, Answers}
use Rattle.sd_xdr.specs.declared.error.MsgError.{MsgError}
use Rattle.sd_xdr.proofs.Whole.{one_value}
use Rattle.sd_xdr.proofs.Writes.{written_is_read, one_spelling, read_has_spelling}
use Rattle.sd_mount.specs.declared.lists.MountPair.{MountPair}
use Rattle.sd_mount.specs.declared.lists.ExportItem.{ExportItem}
use Rattle.sd_mount.specs.declared.message.MountArgs.{MountArgs}
use Rattle.sd_mount.specs.declared.message.MountArgs.TheVariants as args
use Rattle.sd_mount.specs.declared.message.MountResult.{MountResult}
use Rattle.sd_mount.specs.declared.message.MountResult.TheVariants as results
use Rattle.sd_mount.specs.Layout.{fhandle, dirpath, name, mount, groups, export, mounts_value, names_value, exports_value, args_kind, args_value, proc_of, args_bytes, ArgsFit, result_layout, result_place, result_kind, result_value, result_bytes, IsName, MountFits, ExportFits, ResultFits}
use Rattle.sd_mount.specs.Laws.{ReadsArgs, ReadsResult, IsResult, ArgsWrittenAreRead, ArgsOneSpelling, ResultWrittenIsRead, ResultOneSpelling}
use Rattle.sd_mount.proofs.Told.{told_args, told_result}

-- ---- what has a spelling

path_spelled : (x : List ℕ) → length x ≤ 1024 → HasSpelling dirpath (bytes x)
path_spelled x h = (refl, omega (arith, h), h)

name_spelled : (x : List ℕ) → IsName x → HasSpelling name (bytes x)
name_spelled x h = (refl, omega (arith, h), h)

mounts_spelled : (ms : List MountPair) → All MountFits ms → HasSpelling (list mount) (mounts_value ms)
mounts_spelled [] h = tt
mounts_spelled (m ∷ ms) h =
    let own : MountFits m = h zero m (omega arith) in
    ((refl, name_spelled m.host own.0, path_spelled m.path own.1), mounts_spelled ms (λ k d lt. h (suc k) d (omega (arith, lt))))

names_spelled : (xs : List (List ℕ)) → All IsName xs → HasSpelling groups (names_value xs)
names_spelled [] h = tt
names_spelled (x ∷ xs) h = (name_spelled x (h zero x (omega arith)), names_spelled xs (λ k d lt. h (suc k) d (omega (arith, lt))))

exports_spelled : (es : List ExportItem) → All ExportFits es → HasSpelling (list export) (exports_value es)
exports_spelled [] h = tt
exports_spelled (e ∷ es) h =
    let own : ExportFits e = h zero e (omega arith) in
    ((refl, path_spelled e.path own.0, names_spelled e.groups own.1), exports_spelled es (λ k d lt. h (suc k) d (omega (arith, lt))))

args_spelled : (a : MountArgs) → ArgsFit a → HasSpelling (args_kind (proc_of a)) (args_value a)
args_spelled args.Null h = (refl, refl)
args_spelled (args.Mnt x) h = (refl, path_spelled x h)
args_spelled args.Dump h = (refl, refl)
args_spelled (args.Umnt x) h = (refl, path_spelled x h)
args_spelled args.UmntAll h = (refl, refl)
args_spelled args.Export h = (refl, refl)

-- nothing stands behind a status that isn't 0
none_behind : (b : Bool) (K : Kind part) → b ≡ false → HasSpelling (cond b K void) none
none_behind true K h = absurd cc
none_behind false K h = refl

not_zero : (n : ℕ) → (n ≡ 0 → ⊥) → eqb n 0 ≡ false
not_zero n h = grind (arith, h)

result_spelled : (r : MountResult) → IsResult r → HasSpelling (variant result_layout (place_of (result_value r))) (result_value r)
result_spelled results.Void h = (refl, refl)
result_spelled (results.Given f) h = (refl, (refl, (refl, omega arith, refl), (refl, h)))
result_spelled (results.Refused status) h = (refl, (refl, (refl, h.0, refl), none_behind (eqb status 0) fhandle (not_zero status h.1)))
result_spelled (results.Mounts ms) h = (refl, mounts_spelled ms h)
result_spelled (results.Exports es) h = (refl, exports_spelled es h)

-- ---- written, and read again

pub args_written_are_read_of : ArgsWrittenAreRead
args_written_are_read_of a b h =
    let again : ReadsArgs (proc_of a) (args_bytes a) a = written_is_read whole (args_kind (proc_of a)) (args_value a) (args_spelled a h) in (
      λ read. told_args b a (one_value (args_kind (proc_of a)) (args_bytes a) (args_value b) (args_value a) read again),
      λ same. subst (λ (c : MountArgs). ReadsArgs (proc_of a) (args_bytes a) c) (sym same) again,
    )

pub result_written_is_read_of : ResultWrittenIsRead
result_written_is_read_of proc_no r s h of =
    let own : Reads whole (variant result_layout (place_of (result_value r))) (result_bytes r) (result_value r) = written_is_read whole (variant result_layout (place_of (result_value r))) (result_value r) (result_spelled r h) in
    let again : ReadsResult proc_no (result_bytes r) r = subst (λ (n : ℕ). Reads whole (variant result_layout n) (result_bytes r) (result_value r)) of own in (
      λ read. told_result s r (one_value (result_kind proc_no) (result_bytes r) (result_value s) (result_value r) read again),
      λ same. subst (λ (c : MountResult). ReadsResult proc_no (result_bytes r) c) (sym same) again,
    )

-- ---- no char stands in them

plain_if : (b : Bool) (A B : Kind part) → IsPlain A → IsPlain B → IsPlain (cond b A B)
plain_if true A B p q = p
plain_if false A B p q = q

plain_args : (n : ℕ) → IsPlain (args_kind n)
plain_args n = plain_if (eqb n 1) _ _ tt (plain_if (eqb n 3) _ _ tt tt)

plain_result : (n : ℕ) → IsPlain (variant result_layout n)
plain_result n = plain_if (eqb n 0) _ _ tt (plain_if (eqb n 1) _ _ (tt, (λ t. plain_if (eqb t 0) fhandle void tt tt)) (plain_if (eqb n 2) _ _ (tt, tt) (tt, tt)))

-- ---- what is read has a spelling

mounts_are : (ms : List MountPair) → HasSpelling (list mount) (mounts_value ms) → All MountFits ms
mounts_are [] h k d lt = absurd (omega (arith, lt))
mounts_are (m ∷ ms) h zero d lt = (h.0.1.2, h.0.2.2)
mounts_are (m ∷ ms) h (suc k) d lt = mounts_are ms h.1 k d (omega (arith, lt))

names_are : (xs : List (List ℕ)) → HasSpelling groups (names_value xs) → All IsName xs
names_are [] h k d lt = absurd (omega (arith, lt))
names_are (x ∷ xs) h zero d lt = h.0.2
names_are (x ∷ xs) h (suc k) d lt = names_are xs h.1 k d (omega (arith, lt))

exports_are : (es : List ExportItem) → HasSpelling (list export) (exports_value es) → All ExportFits es
exports_are [] h k d lt = absurd (omega (arith, lt))
exports_are (e ∷ es) h zero d lt = (h.0.1.2, names_are e.groups h.0.2)
exports_are (e ∷ es) h (suc k) d lt = exports_are es h.1 k d (omega (arith, lt))

-- the number before the value is the one that is known
given_is : (n m : ℕ) (x y : Value) → number m ⊗ x ≡ number n ⊗ y → n ≡ m
given_is n m x y h = cc

args_fit : (a : MountArgs) → HasSpelling (args_kind (proc_of a)) (args_value a) → ArgsFit a
args_fit args.Null h = tt
args_fit (args.Mnt x) h = h.1.2
args_fit args.Dump h = tt
args_fit (args.Umnt x) h = h.1.2
args_fit args.UmntAll h = tt
args_fit args.Export h = tt

result_is : (r : MountResult) → HasSpelling (variant result_layout (place_of (result_value r))) (result_value r) → IsResult r
result_is results.Void h = tt
result_is (results.Given f) h = h.1.2.1
result_is (results.Refused status) h = (h.1.1.1, behind (eqb status 0) refl h.1.2)
  where
    behind : (c : Bool) → eqb status 0 ≡ c → HasSpelling (cond c fhandle void) none → (status ≡ 0 → ⊥)
    behind true e h = absurd cc
    behind false e h = λ z. absurd (grind (arith, e, z))
result_is (results.Mounts ms) h = mounts_are ms h.1
result_is (results.Exports es) h = exports_are es h.1

-- the procedure is the one that has these arguments
args_of : (n : ℕ) (a : MountArgs) → args_value a ≡ number n ⊗ second (args_value a) → n ≡ proc_of a
args_of n args.Null h = given_is n 0 _ _ h
args_of n (args.Mnt x) h = given_is n 1 _ _ h
args_of n args.Dump h = given_is n 2 _ _ h
args_of n (args.Umnt x) h = given_is n 3 _ _ h
args_of n args.UmntAll h = given_is n 4 _ _ h
args_of n args.Export h = given_is n 5 _ _ h

result_of : (n : ℕ) (r : MountResult) → result_value r ≡ number n ⊗ second (result_value r) → n ≡ place_of (result_value r)
result_of n results.Void h = given_is n 0 _ _ h
result_of n (results.Given f) h = given_is n 1 _ _ h
result_of n (results.Refused status) h = given_is n 1 _ _ h
result_of n (results.Mounts ms) h = given_is n 2 _ _ h
result_of n (results.Exports es) h = given_is n 3 _ _ h

pub args_one_spelling_of : ArgsOneSpelling
args_one_spelling_of proc_no a bs h =
    let s = read_has_spelling whole (args_kind proc_no) bs (args_value a) h in
    let same : proc_no ≡ proc_of a = args_of proc_no a s.0 in
    let read : ReadsArgs (proc_of a) bs a = subst (λ (n : ℕ). ReadsArgs n bs a) same h in (
      one_spelling whole (args_kind (proc_of a)) bs (args_value a) (plain_args (proc_of a)) read,
      same,
      args_fit a (read_has_spelling whole (args_kind (proc_of a)) bs (args_value a) read),
    )

pub result_one_spelling_of : ResultOneSpelling
result_one_spelling_of proc_no r bs h =
    let s = read_has_spelling whole (result_kind proc_no) bs (result_value r) h in
    let same : result_place proc_no ≡ place_of (result_value r) = result_of (result_place proc_no) r s.0 in
    let read : Reads whole (variant result_layout (place_of (result_value r))) bs (result_value r) = subst (λ (n : ℕ). Reads whole (variant result_layout n) bs (result_value r)) same h in (
      one_spelling whole (variant result_layout (place_of (result_value r))) bs (result_value r) (plain_result (place_of (result_value r))) read,
      sym same,
      result_is r (read_has_spelling whole (variant result_layout (place_of (result_value r))) bs (result_value r) read),
    )

-- ---- what was read can be written

result_fits : (r : MountResult) → IsResult r → ResultFits r
result_fits results.Void h = tt
result_fits (results.Given f) h = tt
result_fits (results.Refused status) h = h.1
result_fits (results.Mounts ms) h = h
result_fits (results.Exports es) h = h

pub fits_if_read : (n : ℕ) (bs : List ℕ) (answer : Result MountResult MsgError) → Answers (result_kind n) result_value bs answer → IfOk answer ResultFits
fits_if_read n bs (Ok r) h = result_fits r (result_one_spelling_of n r bs h).2
fits_if_read n bs (Err e) h = tt
