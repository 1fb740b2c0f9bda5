-- The values of the results of MOUNT and NFS, by their grammars and by what is read from them.
use Rattle.std.proofs.Common.{◌≡◌, ℕ, zero, suc, Bool, true, false, cond, eqb, List, [], ◌∷◌, map, Option, Some, None, refl, sym, ap, subst, ◌∙◌, arith}
use Rattle.std.specs.Prelude.{◌==◌, nat_lt}
use Rattle.sd_outside.specs.declared.fhandle.FHandle.{FHandle}
use Rattle.sd_xdr.specs.Kind.{any, flag, part, Kind, void, word, list, ◌&◌, union, given, Value, none, number, bytes, ◌⊗◌, number_of, bytes_of, first, second, truth, chain}
use Rattle.sd_xdr.specs.Grammar.{HasSpelling, WordSpelled, EachSpelled}
use Rattle.sd_mount.specs.Layout as mount
use Rattle.sd_mount.specs.Laws as mount_laws
use Rattle.sd_mount.specs.declared.message.MountResult.{MountResult}
use Rattle.sd_mount.specs.declared.message.MountResult.TheVariants as mounts
use Rattle.sd_nfs_msg.specs.declared.parts.Fattr.{Fattr}
use Rattle.sd_nfs_msg.specs.declared.parts.DirEntry.{DirEntry}
use Rattle.sd_nfs_msg.specs.declared.message.NfsArgs.{NfsArgs}
use Rattle.sd_nfs_msg.specs.declared.message.NfsArgs.TheVariants as asks
use Rattle.sd_nfs_msg.specs.declared.message.NfsResult.{NfsResult}
use Rattle.sd_nfs_msg.specs.declared.message.NfsResult.TheVariants as results
use Rattle.sd_nfs_msg.specs.Layout.{fattr, fhandle, nfspath, nfsdata, entry, attr_value, entry_value, entries_value, done_layout, done_value, result_kind, result_value, proc_of, IsResultOf}
use Rattle.sd_rpc_retry.specs.declared.calling.Answer.{Answer}
use Rattle.sd_rpc_retry.specs.declared.calling.Answer.TheVariants as answer
use Rattle.sd_rpc_retry.specs.NfsResults.{attr_in, handle_in, entry_in, entries_in, statfs_in, done_in, status_in, nfs_result_in}
use Rattle.sd_rpc_retry.specs.Calling.{given_in, nfs_answer}
use Rattle.sd_rpc_retry.specs.Matches.{mnt_answer}

-- ---- what was written is what is read from its value

not_zero : (n : ℕ) → (n ≡ 0 → ⊥) → (n == 0) ≡ false
not_zero n h = of (eqb n 0) refl
  where
    of : (b : Bool) → eqb n 0 ≡ b → b ≡ false
    of true e = absurd (h (grind arith))
    of false e = refl

entries_again : (es : List DirEntry) → entries_in (entries_value es) ≡ es
entries_again [] = refl
entries_again (e ∷ es) = ap (λ (l : List DirEntry). e ∷ l) (entries_again es)

flag_again : (b : Bool) → (number_of (truth b) == 1) ≡ b
flag_again true = refl
flag_again false = refl

-- a result of NFS
pub result_again : (n : ℕ) (r : NfsResult) → IsResultOf n r → ((status : ℕ) → r ≡ results.Refused status → status ≡ 0 → ⊥) → nfs_result_in n (result_value r) ≡ r
result_again n results.Null is some = ap (λ (k : ℕ). nfs_result_in k none) is
result_again n (results.Refused status) is some =
    ap (λ (b : Bool). cond b results.Null (status_in n status none)) (not_zero n is)
    ∙ ap (λ (b : Bool). cond b (done_in n (second none)) (results.Refused status)) (not_zero status (some status refl))
result_again n (results.Getattr a) is some = ap (λ (k : ℕ). nfs_result_in k (result_value (results.Getattr a))) is
result_again n (results.Setattr a) is some = ap (λ (k : ℕ). nfs_result_in k (result_value (results.Setattr a))) is
result_again n (results.Lookup file a) is some = ap (λ (k : ℕ). nfs_result_in k (result_value (results.Lookup file a))) is
result_again n (results.Readlink target) is some = ap (λ (k : ℕ). nfs_result_in k (result_value (results.Readlink target))) is
result_again n (results.Read a body) is some = ap (λ (k : ℕ). nfs_result_in k (result_value (results.Read a body))) is
result_again n (results.Write a) is some = ap (λ (k : ℕ). nfs_result_in k (result_value (results.Write a))) is
result_again n (results.Create file a) is some = ap (λ (k : ℕ). nfs_result_in k (result_value (results.Create file a))) is
result_again n results.Remove is some = ap (λ (k : ℕ). nfs_result_in k (result_value results.Remove)) is
result_again n results.Rename is some = ap (λ (k : ℕ). nfs_result_in k (result_value results.Rename)) is
result_again n results.Link is some = ap (λ (k : ℕ). nfs_result_in k (result_value results.Link)) is
result_again n results.Symlink is some = ap (λ (k : ℕ). nfs_result_in k (result_value results.Symlink)) is
result_again n (results.Mkdir file a) is some = ap (λ (k : ℕ). nfs_result_in k (result_value (results.Mkdir file a))) is
result_again n results.Rmdir is some = ap (λ (k : ℕ). nfs_result_in k (result_value results.Rmdir)) is
result_again n (results.Readdir es eof) is some =
    ap (λ (k : ℕ). nfs_result_in k (result_value (results.Readdir es eof))) is ∙ (λ i. results.Readdir (entries_again es i) (flag_again eof i))
result_again n (results.Statfs tsize bsize blocks bfree bavail) is some = ap (λ (k : ℕ). nfs_result_in k (result_value (results.Statfs tsize bsize blocks bfree bavail))) is

-- a result of MNTPROC_MNT
pub given_again : (r : MountResult) (told : Answer) → ((status : ℕ) → r ≡ mounts.Refused status → status ≡ 0 → ⊥) → mnt_answer r ≡ Some told → given_in (mount.result_value r) ≡ told
given_again mounts.Void told some is = absurd cc
given_again (mounts.Given file) told some is = cc
given_again (mounts.Refused status) told some is =
    ap (λ (b : Bool). cond b (answer.Given (record { 0 = bytes_of none })) (answer.Refused status)) (not_zero status (some status refl)) ∙ cc
given_again (mounts.Mounts ms) told some is = absurd cc
given_again (mounts.Exports es) told some is = absurd cc

-- ---- a value of the grammar is that of what is read from it

attr_shape : (v : Value) → HasSpelling fattr v → v ≡ attr_value (attr_in v)
attr_shape v h =
    (h.0 ∙ (λ i0. h.1.0 i0 ⊗ (h.2.0 ∙ (λ i1. h.2.1.0 i1 ⊗ (h.2.2.0 ∙ (λ i2. h.2.2.1.0 i2 ⊗ (h.2.2.2.0 ∙ (λ i3. h.2.2.2.1.0 i3 ⊗ (h.2.2.2.2.0 ∙ (λ i4. h.2.2.2.2.1.0 i4 ⊗ (h.2.2.2.2.2.0 ∙ (λ i5. h.2.2.2.2.2.1.0 i5 ⊗ (h.2.2.2.2.2.2.0 ∙ (λ i6. h.2.2.2.2.2.2.1.0 i6 ⊗ (h.2.2.2.2.2.2.2.0 ∙ (λ i7. h.2.2.2.2.2.2.2.1.0 i7 ⊗ (h.2.2.2.2.2.2.2.2.0 ∙ (λ i8. h.2.2.2.2.2.2.2.2.1.0 i8 ⊗ (h.2.2.2.2.2.2.2.2.2.0 ∙ (λ i9. h.2.2.2.2.2.2.2.2.2.1.0 i9 ⊗ (h.2.2.2.2.2.2.2.2.2.2.0 ∙ (λ i10. h.2.2.2.2.2.2.2.2.2.2.1.0 i10 ⊗ (h.2.2.2.2.2.2.2.2.2.2.2.0 ∙ (λ i11. h.2.2.2.2.2.2.2.2.2.2.2.1.0 i11 ⊗ (h.2.2.2.2.2.2.2.2.2.2.2.2.0 ∙ (λ i12. h.2.2.2.2.2.2.2.2.2.2.2.2.1.0 i12 ⊗ (h.2.2.2.2.2.2.2.2.2.2.2.2.2.0 ∙ (λ i13. h.2.2.2.2.2.2.2.2.2.2.2.2.2.1.0 i13 ⊗ (h.2.2.2.2.2.2.2.2.2.2.2.2.2.2.0 ∙ (λ i14. h.2.2.2.2.2.2.2.2.2.2.2.2.2.2.1.0 i14 ⊗ (h.2.2.2.2.2.2.2.2.2.2.2.2.2.2.2.0 ∙ (λ i15. h.2.2.2.2.2.2.2.2.2.2.2.2.2.2.2.1.0 i15 ⊗ h.2.2.2.2.2.2.2.2.2.2.2.2.2.2.2.2.0 i15)) i14)) i13)) i12)) i11)) i10)) i9)) i8)) i7)) i6)) i5)) i4)) i3)) i2)) i1)) i0))

handle_shape : (x : Value) → HasSpelling (fhandle & fattr) x → x ≡ bytes (bytes_of (first x)) ⊗ attr_value (attr_in (second x))
handle_shape x h = h.0 ∙ (λ i. h.1.0 i ⊗ attr_shape (second x) h.2 i)

entry_shape : (x : Value) → HasSpelling entry x → x ≡ entry_value (entry_in x)
entry_shape x h = h.0 ∙ (λ i. h.1.0 i ⊗ (h.2.0 ∙ (λ j. h.2.1.0 j ⊗ h.2.2.0 j)) i)

entries_shape : (x : Value) → EachSpelled (HasSpelling entry) x → x ≡ entries_value (entries_in x)
entries_shape none h = refl
entries_shape (number n) h = absurd h
entries_shape (bytes bs) h = absurd h
entries_shape (x ⊗ y) h = λ i. entry_shape x h.0 i ⊗ entries_shape y h.1 i

flag_shape : (x : Value) → WordSpelled flag x → x ≡ truth (number_of x == 1)
flag_shape x h = h.0 ∙ of (number_of x) h.2
  where
    of : (n : ℕ) → nat_lt n 2 ≡ true → number n ≡ truth (n == 1)
    of zero lt = refl
    of (suc zero) lt = refl
    of (suc (suc n)) lt = absurd (grind arith)

statfs_shape : (x : Value) → HasSpelling (word any & word any & word any & word any & word any) x → done_value 17 x ≡ result_value (statfs_in x)
statfs_shape x h = ap (done_value 17) (h.0 ∙ (λ i0. h.1.0 i0 ⊗ (h.2.0 ∙ (λ i1. h.2.1.0 i1 ⊗ (h.2.2.0 ∙ (λ i2. h.2.2.1.0 i2 ⊗ (h.2.2.2.0 ∙ (λ i3. h.2.2.2.1.0 i3 ⊗ h.2.2.2.2.0 i3)) i2)) i1)) i0))

-- a status, and what the procedure answers behind the status 0
abbrev StatusKind : ℕ → Kind part
StatusKind n = union any (λ status. cond (status == 0) (given n (done_layout n)) void)

status_shape : (n : ℕ) → ((x : Value) → HasSpelling (done_layout n) x → done_value n x ≡ result_value (done_in n x)) → (v : Value) → HasSpelling (StatusKind n) v → v ≡ result_value (status_in n (number_of (first v)) (second v))
status_shape n done v h = of (number_of (first v) == 0) refl h.2
  where
    zero_is : (k : ℕ) → (k == 0) ≡ true → k ≡ 0
    zero_is k e = grind arith

    of : (b : Bool) → (number_of (first v) == 0) ≡ b → HasSpelling (cond b (given n (done_layout n)) void) (second v) → v ≡ result_value (cond b (done_in n (second (second v))) (results.Refused (number_of (first v))))
    of true e k = h.0 ∙ (λ i. (h.1.0 ∙ ap number (zero_is (number_of (first v)) e)) i ⊗ k.0 i) ∙ done (second (second v)) k.1
    of false e k = h.0 ∙ (λ i. h.1.0 i ⊗ k i)

pub nfs_shape : (args : NfsArgs) (v : Value) → HasSpelling (result_kind (proc_of args)) v → v ≡ result_value (nfs_result_in (proc_of args) v)
nfs_shape asks.Null v h = h
nfs_shape (asks.Getattr file) v h = status_shape 1 (λ x k. ap (done_value 1) (attr_shape x k)) v h
nfs_shape (asks.Setattr file set) v h = status_shape 2 (λ x k. ap (done_value 2) (attr_shape x k)) v h
nfs_shape (asks.Lookup dir text) v h = status_shape 4 (λ x k. ap (done_value 4) (handle_shape x k)) v h
nfs_shape (asks.Readlink file) v h = status_shape 5 (λ x k. ap (done_value 5) k.0) v h
nfs_shape (asks.Read file offset count total) v h = status_shape 6 (λ x k. ap (done_value 6) (k.0 ∙ (λ i. attr_shape (first x) k.1 i ⊗ k.2.0 i))) v h
nfs_shape (asks.Write file begin offset total body) v h = status_shape 8 (λ x k. ap (done_value 8) (attr_shape x k)) v h
nfs_shape (asks.Create dir text set) v h = status_shape 9 (λ x k. ap (done_value 9) (handle_shape x k)) v h
nfs_shape (asks.Remove dir text) v h = status_shape 10 (λ x k. ap (done_value 10) k) v h
nfs_shape (asks.Rename dir text to_dir to_text) v h = status_shape 11 (λ x k. ap (done_value 11) k) v h
nfs_shape (asks.Link from to_dir to_text) v h = status_shape 12 (λ x k. ap (done_value 12) k) v h
nfs_shape (asks.Symlink dir text target set) v h = status_shape 13 (λ x k. ap (done_value 13) k) v h
nfs_shape (asks.Mkdir dir text set) v h = status_shape 14 (λ x k. ap (done_value 14) (handle_shape x k)) v h
nfs_shape (asks.Rmdir dir text) v h = status_shape 15 (λ x k. ap (done_value 15) k) v h
nfs_shape (asks.Readdir dir mark count) v h = status_shape 16 (λ x k. ap (done_value 16) (k.0 ∙ (λ i. entries_shape (first x) k.1 i ⊗ flag_shape (second x) k.2 i))) v h
nfs_shape (asks.Statfs file) v h = status_shape 17 statfs_shape v h

-- what MNTPROC_MNT answers
pub record MntOf (v : Value) : Type 0 where
  pub result : MountResult
  pub is : v ≡ mount.result_value result
  pub told : mnt_answer result ≡ Some (given_in v)

pub mnt_shape : (v : Value) → HasSpelling (mount.result_kind 1) v → MntOf v
mnt_shape v h = of (number_of (first w) == 0) refl h.1.2
  where
    w : Value
    w = second v

    zero_is : (k : ℕ) → (k == 0) ≡ true → k ≡ 0
    zero_is k e = grind arith

    of : (b : Bool) → (number_of (first (second v)) == 0) ≡ b → HasSpelling (cond b mount.fhandle void) (second (second v)) → MntOf v
    of true e k =
        let file : FHandle = record { 0 = bytes_of (second (second v)) } in
        record {
          result = mounts.Given file;
          is = h.0 ∙ (λ i. number 1 ⊗ (h.1.0 ∙ (λ j. (h.1.1.0 ∙ ap number (zero_is (number_of (first (second v))) e)) j ⊗ k.0 j)) i);
          told = ap (λ (b : Bool). Some (cond b (answer.Given file) (answer.Refused (number_of (first (second v)))))) (sym e);
        }
    of false e k =
        let file : FHandle = record { 0 = bytes_of (second (second v)) } in
        record {
          result = mounts.Refused (number_of (first (second v)));
          is = h.0 ∙ (λ i. number 1 ⊗ (h.1.0 ∙ (λ j. h.1.1.0 j ⊗ k j)) i);
          told = ap (λ (b : Bool). Some (cond b (answer.Given file) (answer.Refused (number_of (first (second v)))))) (sym e);
        }
