-- Which messages have a spelling.
use Rattle.std.proofs.Common.{◌≡◌, ℕ, zero, suc, Bool, true, false, cond, eqb, List, [], ◌∷◌, refl, subst, arith}
use Rattle.std.specs.Prelude.{All}
use Rattle.sd_xdr.specs.Kind.{part, Kind, list, void, given, union, any, number, none, bytes, ◌⊗◌, second, Value}
use Rattle.sd_xdr.specs.Grammar.{HasSpelling}
use Rattle.sd_outside.specs.declared.fhandle.FHandle.{FHandle}
use Rattle.sd_nfs_msg.specs.declared.parts.Fattr.{Fattr}
use Rattle.sd_nfs_msg.specs.declared.parts.Sattr.{Sattr}
use Rattle.sd_nfs_msg.specs.declared.parts.DirEntry.{DirEntry}
use Rattle.sd_nfs_msg.specs.declared.message.NfsArgs.{NfsArgs}
use Rattle.sd_nfs_msg.specs.declared.message.NfsArgs.TheVariants as args
use Rattle.sd_nfs_msg.specs.declared.message.NfsResult.{NfsResult}
use Rattle.sd_nfs_msg.specs.declared.message.NfsResult.TheVariants as results
use Rattle.sd_nfs_msg.specs.Layout.{fhandle, fattr, sattr, filename, diropargs, entry, fh_value, attr_value, sattr_value, place_value, entry_value, entries_value, args_kind, args_value, proc_of, done_layout, done_value, result_kind, result_value, result_proc, IsResultOf, ResultFits}
use Rattle.sd_nfs_msg.specs.Laws.{IsWord, IsHandle, IsName, IsAttr, IsSet, IsEntry, AreArgs, IsResult}

-- ---- parts that have a spelling

handle_spelled : (f : FHandle) → IsHandle f → HasSpelling fhandle (fh_value f)
handle_spelled f h = (refl, h)

name_spelled : (x : List ℕ) → IsName x → HasSpelling filename (bytes x)
name_spelled x h = (refl, omega (arith, h), h)

place_spelled : (f : FHandle) (x : List ℕ) → IsHandle f → IsName x → HasSpelling diropargs (place_value f x)
place_spelled f x h n = (refl, handle_spelled f h, name_spelled x n)

attr_spelled : (a : Fattr) → IsAttr a → HasSpelling fattr (attr_value a)
attr_spelled a h =
    (refl, (refl, h.0, refl), (refl, (refl, h.1, refl), (refl, (refl, h.2, refl), (refl, (refl, h.3, refl), (refl, (refl, h.4, refl), (refl, (refl, h.5, refl), (refl, (refl, h.6, refl), (refl, (refl, h.7, refl), (refl, (refl, h.8, refl), (refl, (refl, h.9, refl), (refl, (refl, h.10, refl), (refl, (refl, h.11, refl), (refl, (refl, h.12, refl), (refl, (refl, h.13, refl), (refl, (refl, h.14, refl), (refl, (refl, h.15, refl), (refl, h.16, refl)))))))))))))))))

sattr_spelled : (a : Sattr) → IsSet a → HasSpelling sattr (sattr_value a)
sattr_spelled a h =
    (refl, (refl, h.0, refl), (refl, (refl, h.1, refl), (refl, (refl, h.2, refl), (refl, (refl, h.3, refl), (refl, (refl, h.4, refl), (refl, (refl, h.5, refl), (refl, (refl, h.6, refl), (refl, h.7, refl))))))))

entry_spelled : (e : DirEntry) → IsEntry e → HasSpelling entry (entry_value e)
entry_spelled e h = (refl, (refl, h.0, refl), (refl, name_spelled e.name h.1, (refl, h.2)))

-- ---- messages that have a spelling

pub args_spelled : (a : NfsArgs) → AreArgs a → HasSpelling (args_kind (proc_of a)) (args_value a)
args_spelled args.Null h = (refl, refl)
args_spelled (args.Getattr f) h = (refl, handle_spelled f h)
args_spelled (args.Setattr f s) h = (refl, (refl, handle_spelled f h.0, sattr_spelled s h.1))
args_spelled (args.Lookup f x) h = (refl, place_spelled f x h.0 h.1)
args_spelled (args.Readlink f) h = (refl, handle_spelled f h)
args_spelled (args.Read f i j k) h = (refl, (refl, handle_spelled f h.0, (refl, (refl, h.1, refl), (refl, (refl, h.2, refl), (refl, h.3, refl)))))
args_spelled (args.Write f i j k x) h = (refl, (refl, handle_spelled f h.0, (refl, (refl, h.1, refl), (refl, (refl, h.2, refl), (refl, (refl, h.3, refl), (refl, omega (arith, h.4), h.4))))))
args_spelled (args.Create f x s) h = (refl, (refl, place_spelled f x h.0 h.1, sattr_spelled s h.2))
args_spelled (args.Remove f x) h = (refl, place_spelled f x h.0 h.1)
args_spelled (args.Rename f x g y) h = (refl, (refl, place_spelled f x h.0 h.1, place_spelled g y h.2 h.3))
args_spelled (args.Link f g y) h = (refl, (refl, handle_spelled f h.0, place_spelled g y h.1 h.2))
args_spelled (args.Symlink f x y s) h = (refl, (refl, place_spelled f x h.0 h.1, (refl, (refl, omega (arith, h.2), h.2), sattr_spelled s h.3)))
args_spelled (args.Mkdir f x s) h = (refl, (refl, place_spelled f x h.0 h.1, sattr_spelled s h.2))
args_spelled (args.Rmdir f x) h = (refl, place_spelled f x h.0 h.1)
args_spelled (args.Readdir f x i) h = (refl, (refl, handle_spelled f h.0, (refl, (refl, h.1), (refl, h.2, refl))))
args_spelled (args.Statfs f) h = (refl, handle_spelled f h)

entries_spelled : (es : List DirEntry) → All IsEntry es → HasSpelling (list entry) (entries_value es)
entries_spelled [] h = tt
entries_spelled (e ∷ es) h = (entry_spelled e (h zero e (omega arith)), entries_spelled es (λ k d lt. h (suc k) d (omega (arith, lt))))

-- nothing stands behind a status that isn't 0
none_behind : (b : Bool) (K : Kind part) → b ≡ false → HasSpelling (cond b K void) none
none_behind true K h = absurd cc
none_behind false K h = refl

pub not_zero : (n : ℕ) → (n ≡ 0 → ⊥) → eqb n 0 ≡ false
not_zero n h = grind (arith, h)

is_zero : (n : ℕ) → eqb n 0 ≡ true → n ≡ 0
is_zero n h = grind arith

pub refused_spelled : (n status : ℕ) → (n ≡ 0 → ⊥) → IsWord status → (status ≡ 0 → ⊥) → HasSpelling (result_kind n) (number status ⊗ none)
refused_spelled n status may w s = of (eqb n 0) (not_zero n may)
  where
    of : (b : Bool) → b ≡ false → HasSpelling (cond b void (union any (λ t. cond (eqb t 0) (given n (done_layout n)) void))) (number status ⊗ none)
    of true h = absurd cc
    of false h = (refl, (refl, w, refl), none_behind (eqb status 0) (given n (done_layout n)) (not_zero status s))

pub own_spelled : (r : NfsResult) → IsResult r → HasSpelling (result_kind (result_proc r)) (result_value r)
own_spelled results.Null h = refl
own_spelled (results.Refused status) h = refused_spelled 1 status (λ e. absurd (omega (arith, e))) h.0 h.1
own_spelled (results.Getattr a) h = (refl, (refl, omega arith, refl), (refl, attr_spelled a h))
own_spelled (results.Setattr a) h = (refl, (refl, omega arith, refl), (refl, attr_spelled a h))
own_spelled (results.Lookup f a) h = (refl, (refl, omega arith, refl), (refl, (refl, handle_spelled f h.0, attr_spelled a h.1)))
own_spelled (results.Readlink x) h = (refl, (refl, omega arith, refl), (refl, (refl, omega (arith, h), h)))
own_spelled (results.Read a x) h = (refl, (refl, omega arith, refl), (refl, (refl, attr_spelled a h.0, (refl, omega (arith, h.1), h.1))))
own_spelled (results.Write a) h = (refl, (refl, omega arith, refl), (refl, attr_spelled a h))
own_spelled (results.Create f a) h = (refl, (refl, omega arith, refl), (refl, (refl, handle_spelled f h.0, attr_spelled a h.1)))
own_spelled results.Remove h = (refl, (refl, omega arith, refl), (refl, refl))
own_spelled results.Rename h = (refl, (refl, omega arith, refl), (refl, refl))
own_spelled results.Link h = (refl, (refl, omega arith, refl), (refl, refl))
own_spelled results.Symlink h = (refl, (refl, omega arith, refl), (refl, refl))
own_spelled (results.Mkdir f a) h = (refl, (refl, omega arith, refl), (refl, (refl, handle_spelled f h.0, attr_spelled a h.1)))
own_spelled results.Rmdir h = (refl, (refl, omega arith, refl), (refl, refl))
own_spelled (results.Readdir es true) h = (refl, (refl, omega arith, refl), (refl, (refl, entries_spelled es h, (refl, omega arith, refl))))
own_spelled (results.Readdir es false) h = (refl, (refl, omega arith, refl), (refl, (refl, entries_spelled es h, (refl, omega arith, refl))))
own_spelled (results.Statfs i j k l m) h = (refl, (refl, omega arith, refl), (refl, (refl, (refl, h.0, refl), (refl, (refl, h.1, refl), (refl, (refl, h.2, refl), (refl, (refl, h.3, refl), (refl, h.4, refl)))))))

-- ---- what a spelling says

handle_is : (f : FHandle) → HasSpelling fhandle (fh_value f) → IsHandle f
handle_is f h = h.1

place_is : (f : FHandle) (x : List ℕ) → HasSpelling diropargs (place_value f x) → IsHandle f × IsName x
place_is f x h = (h.1.1, h.2.2)

attr_is : (a : Fattr) → HasSpelling fattr (attr_value a) → IsAttr a
attr_is a h = (
  h.1.1,
  h.2.1.1,
  h.2.2.1.1,
  h.2.2.2.1.1,
  h.2.2.2.2.1.1,
  h.2.2.2.2.2.1.1,
  h.2.2.2.2.2.2.1.1,
  h.2.2.2.2.2.2.2.1.1,
  h.2.2.2.2.2.2.2.2.1.1,
  h.2.2.2.2.2.2.2.2.2.1.1,
  h.2.2.2.2.2.2.2.2.2.2.1.1,
  h.2.2.2.2.2.2.2.2.2.2.2.1.1,
  h.2.2.2.2.2.2.2.2.2.2.2.2.1.1,
  h.2.2.2.2.2.2.2.2.2.2.2.2.2.1.1,
  h.2.2.2.2.2.2.2.2.2.2.2.2.2.2.1.1,
  h.2.2.2.2.2.2.2.2.2.2.2.2.2.2.2.1.1,
  h.2.2.2.2.2.2.2.2.2.2.2.2.2.2.2.2.1,
)

sattr_is : (a : Sattr) → HasSpelling sattr (sattr_value a) → IsSet a
sattr_is a h = (h.1.1, h.2.1.1, h.2.2.1.1, h.2.2.2.1.1, h.2.2.2.2.1.1, h.2.2.2.2.2.1.1, h.2.2.2.2.2.2.1.1, h.2.2.2.2.2.2.2.1)

entries_are : (es : List DirEntry) → HasSpelling (list entry) (entries_value es) → All IsEntry es
entries_are [] h k d lt = absurd (omega (arith, lt))
entries_are (e ∷ es) h zero d lt = (h.0.1.1, h.0.2.1.2, h.0.2.2.1)
entries_are (e ∷ es) h (suc k) d lt = entries_are es h.1 k d (omega (arith, lt))

-- the number before the value is the one that is known
pub given_is : (n m : ℕ) (x y : Value) → number m ⊗ x ≡ number n ⊗ y → n ≡ m
given_is n m x y h = cc

pub args_are : (a : NfsArgs) → HasSpelling (args_kind (proc_of a)) (args_value a) → AreArgs a
args_are args.Null h = tt
args_are (args.Getattr f) h = handle_is f h.1
args_are (args.Setattr f s) h = (handle_is f h.1.1, sattr_is s h.1.2)
args_are (args.Lookup f x) h = place_is f x h.1
args_are (args.Readlink f) h = handle_is f h.1
args_are (args.Read f i j k) h = (h.1.1.1, h.1.2.1.1, h.1.2.2.1.1, h.1.2.2.2.1)
args_are (args.Write f i j k x) h = (h.1.1.1, h.1.2.1.1, h.1.2.2.1.1, h.1.2.2.2.1.1, h.1.2.2.2.2.2)
args_are (args.Create f x s) h = let p = place_is f x h.1.1 in (p.0, p.1, sattr_is s h.1.2)
args_are (args.Remove f x) h = place_is f x h.1
args_are (args.Rename f x g y) h = let p = place_is f x h.1.1 in let q = place_is g y h.1.2 in (p.0, p.1, q.0, q.1)
args_are (args.Link f g y) h = let q = place_is g y h.1.2 in (h.1.1.1, q.0, q.1)
args_are (args.Symlink f x y s) h = let p = place_is f x h.1.1 in (p.0, p.1, h.1.2.1.2, sattr_is s h.1.2.2)
args_are (args.Mkdir f x s) h = let p = place_is f x h.1.1 in (p.0, p.1, sattr_is s h.1.2)
args_are (args.Rmdir f x) h = place_is f x h.1
args_are (args.Readdir f x i) h = (h.1.1.1, h.1.2.1.1, h.1.2.2.1)
args_are (args.Statfs f) h = handle_is f h.1

-- the procedure is the one that has these arguments
pub args_of : (n : ℕ) (a : NfsArgs) → args_value a ≡ number n ⊗ second (args_value a) → n ≡ proc_of a
args_of n args.Null h = given_is n 0 _ _ h
args_of n (args.Getattr f) h = given_is n 1 _ _ h
args_of n (args.Setattr f s) h = given_is n 2 _ _ h
args_of n (args.Lookup f x) h = given_is n 4 _ _ h
args_of n (args.Readlink f) h = given_is n 5 _ _ h
args_of n (args.Read f i j k) h = given_is n 6 _ _ h
args_of n (args.Write f i j k x) h = given_is n 8 _ _ h
args_of n (args.Create f x s) h = given_is n 9 _ _ h
args_of n (args.Remove f x) h = given_is n 10 _ _ h
args_of n (args.Rename f x g y) h = given_is n 11 _ _ h
args_of n (args.Link f g y) h = given_is n 12 _ _ h
args_of n (args.Symlink f x y s) h = given_is n 13 _ _ h
args_of n (args.Mkdir f x s) h = given_is n 14 _ _ h
args_of n (args.Rmdir f x) h = given_is n 15 _ _ h
args_of n (args.Readdir f x i) h = given_is n 16 _ _ h
args_of n (args.Statfs f) h = given_is n 17 _ _ h

-- a result of the null procedure is nothing
null_is : (n : ℕ) → HasSpelling (result_kind n) none → n ≡ 0
null_is n h = of (eqb n 0) refl h
  where
    of : (b : Bool) → eqb n 0 ≡ b → HasSpelling (cond b void (union any (λ t. cond (eqb t 0) (given n (done_layout n)) void))) none → n ≡ 0
    of true e h = is_zero n e
    of false e h = absurd cc

-- a refusal has a status that isn't 0, and isn't of the null procedure
refused_is : (n status : ℕ) → HasSpelling (result_kind n) (number status ⊗ none) → (n ≡ 0 → ⊥) × (IsWord status × (status ≡ 0 → ⊥))
refused_is n status h = of (eqb n 0) refl h
  where
    behind : (c : Bool) → eqb status 0 ≡ c → HasSpelling (cond c (given n (done_layout n)) void) none → (status ≡ 0 → ⊥)
    behind true e h = absurd cc
    behind false e h = λ z. absurd (grind (arith, e, z))

    of : (b : Bool) → eqb n 0 ≡ b → HasSpelling (cond b void (union any (λ t. cond (eqb t 0) (given n (done_layout n)) void))) (number status ⊗ none)
        → (n ≡ 0 → ⊥) × (IsWord status × (status ≡ 0 → ⊥))
    of true e h = absurd cc
    of false e h = (λ z. absurd (grind (arith, e, z)), (h.1.1, behind (eqb status 0) refl h.2))

-- what is done is of its procedure alone
done_is : (n k : ℕ) (x : Value) → HasSpelling (result_kind n) (done_value k x) → (n ≡ k) × HasSpelling (done_layout k) x
done_is n k x h = of (eqb n 0) h
  where
    of : (b : Bool) → HasSpelling (cond b void (union any (λ t. cond (eqb t 0) (given n (done_layout n)) void))) (done_value k x)
        → (n ≡ k) × HasSpelling (done_layout k) x
    of true h = absurd cc
    of false h =
        let same : n ≡ k = given_is n k x _ h.2.0 in
        (same, subst (λ (m : ℕ). HasSpelling (done_layout m) x) same h.2.1)

pub result_is : (n : ℕ) (r : NfsResult) → HasSpelling (result_kind n) (result_value r) → IsResultOf n r × IsResult r
result_is n results.Null h = (null_is n h, tt)
result_is n (results.Refused status) h = refused_is n status h
result_is n (results.Getattr a) h = let d = done_is n 1 (attr_value a) h in (d.0, attr_is a d.1)
result_is n (results.Setattr a) h = let d = done_is n 2 (attr_value a) h in (d.0, attr_is a d.1)
result_is n (results.Lookup f a) h = let d = done_is n 4 (fh_value f ⊗ attr_value a) h in (d.0, (handle_is f d.1.1, attr_is a d.1.2))
result_is n (results.Readlink x) h = let d = done_is n 5 (bytes x) h in (d.0, d.1.2)
result_is n (results.Read a x) h = let d = done_is n 6 (attr_value a ⊗ bytes x) h in (d.0, (attr_is a d.1.1, d.1.2.2))
result_is n (results.Write a) h = let d = done_is n 8 (attr_value a) h in (d.0, attr_is a d.1)
result_is n (results.Create f a) h = let d = done_is n 9 (fh_value f ⊗ attr_value a) h in (d.0, (handle_is f d.1.1, attr_is a d.1.2))
result_is n results.Remove h = ((done_is n 10 none h).0, tt)
result_is n results.Rename h = ((done_is n 11 none h).0, tt)
result_is n results.Link h = ((done_is n 12 none h).0, tt)
result_is n results.Symlink h = ((done_is n 13 none h).0, tt)
result_is n (results.Mkdir f a) h = let d = done_is n 14 (fh_value f ⊗ attr_value a) h in (d.0, (handle_is f d.1.1, attr_is a d.1.2))
result_is n results.Rmdir h = ((done_is n 15 none h).0, tt)
result_is n (results.Readdir es eof) h = let d = done_is n 16 (entries_value es ⊗ number (cond eof 1 0)) h in (d.0, entries_are es d.1.1)
result_is n (results.Statfs i j k l m) h =
    let d = done_is n 17 (number i ⊗ number j ⊗ number k ⊗ number l ⊗ number m) h in
    (d.0, (d.1.1.1, d.1.2.1.1, d.1.2.2.1.1, d.1.2.2.2.1.1, d.1.2.2.2.2.1))

pub result_fits : (r : NfsResult) → IsResult r → ResultFits r
result_fits results.Null h = tt
result_fits (results.Refused status) h = h.1
result_fits (results.Getattr a) h = tt
result_fits (results.Setattr a) h = tt
result_fits (results.Lookup f a) h = tt
result_fits (results.Readlink x) h = h
result_fits (results.Read a x) h = h.1
result_fits (results.Write a) h = tt
result_fits (results.Create f a) h = tt
result_fits results.Remove h = tt
result_fits results.Rename h = tt
result_fits results.Link h = tt
result_fits results.Symlink h = tt
result_fits (results.Mkdir f a) h = tt
result_fits results.Rmdir h = tt
result_fits (results.Readdir es eof) h = λ k d lt. (h k d lt).1
result_fits (results.Statfs i j k l m) h = tt
