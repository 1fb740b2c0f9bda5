-- Messages are told apart by the values that they are: each is found again from its value.
use Rattle.std.proofs.Common.{◌≡◌, ℕ, zero, suc, true, false, cond, eqb, List, [], ◌∷◌, refl, sym, ap, ◌∙◌}
use Rattle.sd_xdr.specs.Kind.{Value, none, number, bytes, ◌⊗◌, number_of, bytes_of, first, second}
use Rattle.sd_outside.specs.declared.fhandle.FHandle.{FHandle}
use Rattle.sd_nfs_msg.specs.declared.parts.Fattr.{Fattr}
use Rattle.sd_nfs_msg.specs.declared.parts.Sattr.{Sattr}
use Rattle.sd_nfs_msg.specs.declared.parts.DirEntry.{DirEntry}
use Rattle.sd_nfs_msg.specs.declared.message.NfsArgs.{NfsArgs}
use Rattle.sd_nfs_msg.specs.declared.message.NfsArgs.TheVariants as args
use Rattle.sd_nfs_msg.specs.declared.message.NfsResult.{NfsResult}
use Rattle.sd_nfs_msg.specs.declared.message.NfsResult.TheVariants as results
use Rattle.sd_nfs_msg.specs.Layout.{entries_value, args_value, result_value}

-- ---- parts

-- a component of a row, by its place
abbrev tail : ℕ → Value → Value
tail zero x = x
tail (suc n) x = tail n (second x)

abbrev num : ℕ → Value → ℕ
num n x = number_of (first (tail n x))

abbrev last : ℕ → Value → ℕ
last n x = number_of (tail n x)

abbrev handle : Value → FHandle
handle x = record { 0 = bytes_of x }

abbrev attr : Value → Fattr
attr x = record {
  kind = num 0 x;
  mode = num 1 x;
  nlink = num 2 x;
  uid = num 3 x;
  gid = num 4 x;
  size = num 5 x;
  blocksize = num 6 x;
  rdev = num 7 x;
  blocks = num 8 x;
  fsid = num 9 x;
  fileid = num 10 x;
  atime_s = num 11 x;
  atime_u = num 12 x;
  mtime_s = num 13 x;
  mtime_u = num 14 x;
  ctime_s = num 15 x;
  ctime_u = last 16 x;
}

abbrev sattr : Value → Sattr
sattr x = record {
  mode = num 0 x;
  uid = num 1 x;
  gid = num 2 x;
  size = num 3 x;
  atime_s = num 4 x;
  atime_u = num 5 x;
  mtime_s = num 6 x;
  mtime_u = last 7 x;
}

abbrev entry : Value → DirEntry
entry x = record { fileid = num 0 x; name = bytes_of (first (tail 1 x)); cookie = bytes_of (tail 2 x) }

entries : Value → List DirEntry
entries (x ⊗ y) = entry x ∷ entries y
entries none = []
entries (number n) = []
entries (bytes bs) = []

entries_back : (es : List DirEntry) → entries (entries_value es) ≡ es
unfolding entries
entries_back [] = refl
entries_back (e ∷ es) = ap (λ (l : List DirEntry). e ∷ l) (entries_back es)

-- ---- arguments

args_from : ℕ → Value → NfsArgs
args_from n x =
    cond (eqb n 1) (args.Getattr (handle x))
    (cond (eqb n 2) (args.Setattr (handle (first x)) (sattr (second x)))
    (cond (eqb n 4) (args.Lookup (handle (first x)) (bytes_of (second x)))
    (cond (eqb n 5) (args.Readlink (handle x))
    (cond (eqb n 6) (args.Read (handle (first x)) (num 1 x) (num 2 x) (last 3 x))
    (cond (eqb n 8) (args.Write (handle (first x)) (num 1 x) (num 2 x) (num 3 x) (bytes_of (tail 4 x)))
    (cond (eqb n 9) (args.Create (handle (first (first x))) (bytes_of (second (first x))) (sattr (second x)))
    (cond (eqb n 10) (args.Remove (handle (first x)) (bytes_of (second x)))
    (cond (eqb n 11) (args.Rename (handle (first (first x))) (bytes_of (second (first x))) (handle (first (second x))) (bytes_of (second (second x))))
    (cond (eqb n 12) (args.Link (handle (first x)) (handle (first (second x))) (bytes_of (second (second x))))
    (cond (eqb n 13) (args.Symlink (handle (first (first x))) (bytes_of (second (first x))) (bytes_of (first (second x))) (sattr (second (second x))))
    (cond (eqb n 14) (args.Mkdir (handle (first (first x))) (bytes_of (second (first x))) (sattr (second x)))
    (cond (eqb n 15) (args.Rmdir (handle (first x)) (bytes_of (second x)))
    (cond (eqb n 16) (args.Readdir (handle (first x)) (bytes_of (first (second x))) (last 2 x))
    (cond (eqb n 17) (args.Statfs (handle x)) args.Null))))))))))))))

args_again : Value → NfsArgs
args_again x = args_from (number_of (first x)) (second x)

args_back : (a : NfsArgs) → args_again (args_value a) ≡ a
unfolding args_again args_from
args_back args.Null = refl
args_back (args.Getattr f) = refl
args_back (args.Setattr f s) = refl
args_back (args.Lookup f x) = refl
args_back (args.Readlink f) = refl
args_back (args.Read f i j k) = refl
args_back (args.Write f i j k x) = refl
args_back (args.Create f x s) = refl
args_back (args.Remove f x) = refl
args_back (args.Rename f x g y) = refl
args_back (args.Link f g y) = refl
args_back (args.Symlink f x y s) = refl
args_back (args.Mkdir f x s) = refl
args_back (args.Rmdir f x) = refl
args_back (args.Readdir f x i) = refl
args_back (args.Statfs f) = refl

pub told_args : (a b : NfsArgs) → args_value a ≡ args_value b → a ≡ b
told_args a b h = sym (args_back a) ∙ ap args_again h ∙ args_back b

-- ---- results

done_from : ℕ → Value → NfsResult
done_from n x =
    cond (eqb n 1) (results.Getattr (attr x))
    (cond (eqb n 2) (results.Setattr (attr x))
    (cond (eqb n 4) (results.Lookup (handle (first x)) (attr (second x)))
    (cond (eqb n 5) (results.Readlink (bytes_of x))
    (cond (eqb n 6) (results.Read (attr (first x)) (bytes_of (second x)))
    (cond (eqb n 8) (results.Write (attr x))
    (cond (eqb n 9) (results.Create (handle (first x)) (attr (second x)))
    (cond (eqb n 10) results.Remove
    (cond (eqb n 11) results.Rename
    (cond (eqb n 12) results.Link
    (cond (eqb n 13) results.Symlink
    (cond (eqb n 14) (results.Mkdir (handle (first x)) (attr (second x)))
    (cond (eqb n 15) results.Rmdir
    (cond (eqb n 16) (results.Readdir (entries (first x)) (eqb (number_of (second x)) 1))
    (results.Statfs (num 0 x) (num 1 x) (num 2 x) (num 3 x) (last 4 x)))))))))))))))

behind : ℕ → Value → NfsResult
behind status (x ⊗ y) = done_from (number_of x) y
behind status none = results.Refused status
behind status (number n) = results.Refused status
behind status (bytes bs) = results.Refused status

result_again : Value → NfsResult
result_again (x ⊗ y) = behind (number_of x) y
result_again none = results.Null
result_again (number n) = results.Null
result_again (bytes bs) = results.Null

result_back : (r : NfsResult) → result_again (result_value r) ≡ r
unfolding result_again behind done_from
result_back results.Null = refl
result_back (results.Refused status) = refl
result_back (results.Getattr a) = refl
result_back (results.Setattr a) = refl
result_back (results.Lookup f a) = refl
result_back (results.Readlink x) = refl
result_back (results.Read a x) = refl
result_back (results.Write a) = refl
result_back (results.Create f a) = refl
result_back results.Remove = refl
result_back results.Rename = refl
result_back results.Link = refl
result_back results.Symlink = refl
result_back (results.Mkdir f a) = refl
result_back results.Rmdir = refl
result_back (results.Readdir es true) = ap (λ (l : List DirEntry). results.Readdir l true) (entries_back es)
result_back (results.Readdir es false) = ap (λ (l : List DirEntry). results.Readdir l false) (entries_back es)
result_back (results.Statfs i j k l m) = refl

pub told_result : (r s : NfsResult) → result_value r ≡ result_value s → r ≡ s
told_result r s h = sym (result_back r) ∙ ap result_again h ∙ result_back s
