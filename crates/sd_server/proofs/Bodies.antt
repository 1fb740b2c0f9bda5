-- The bytes of a READ in the body of its reply.
use Rattle.std.proofs.Common.{◌≡◌, ℕ, zero, suc, ◌+◌, ◌≤◌, List, [], ◌∷◌, ◌++◌, length, take, drop, replicate, refl, sym, ap, ◌∙◌, subst, arith, length-append, length-take, length-drop}
use Rattle.std.specs.Prelude.{slice_index}
use Rattle.sd_outside.specs.Ranges.{part}
use Rattle.sd_xdr.specs.Kind.{filling}
use Rattle.sd_xdr.specs.Grammar.{word_bytes, filled, counted, writes}
use Rattle.sd_nfs_msg.specs.declared.parts.Fattr.{Fattr}
use Rattle.sd_nfs_msg.specs.declared.message.NfsResult.{NfsResult}
use Rattle.sd_nfs_msg.specs.declared.message.NfsResult.TheVariants as results
use Rattle.sd_server.specs.declared.access.Act.{Act}
use Rattle.sd_server.specs.declared.access.Act.TheVariants as acts
use Rattle.sd_server.specs.Access.{result_by, HasZeros}
use Rattle.sd_server.specs.Deciding.{given_body, body_by, HasPlace}

-- ---- lists

append_so : {A : Type 0} (x y z : List A) → (x ++ y) ++ z ≡ x ++ (y ++ z)
append_so [] y z = refl
append_so {A} (a ∷ x) y z = ap (λ (l : List A). a ∷ l) (append_so x y z)

take_front : {A : Type 0} (x y : List A) → take (length x) (x ++ y) ≡ x
take_front [] y = refl
take_front {A} (a ∷ x) y = ap (λ (l : List A). a ∷ l) (take_front x y)

drop_front : {A : Type 0} (x y : List A) → drop (length x) (x ++ y) ≡ y
drop_front [] y = refl
drop_front (a ∷ x) y = drop_front x y

-- what is put over the middle
put_over : (x z b p : List ℕ) (n : ℕ) → length x ≡ n → length z ≡ length b → take n (x ++ (z ++ p)) ++ (b ++ drop (n + length b) (x ++ (z ++ p))) ≡ x ++ (b ++ p)
put_over x z b p n long same =
    let front : take n (x ++ (z ++ p)) ≡ x = ap (λ (k : ℕ). take k (x ++ (z ++ p))) (sym long) ∙ take_front x (z ++ p) in
    let many : n + length b ≡ length (x ++ z) = omega (arith, long, same, length-append x z) in
    let back : drop (n + length b) (x ++ (z ++ p)) ≡ p = (λ i. drop (many i) (sym (append_so x z p) i)) ∙ drop_front (x ++ z) p in
    (λ i. front i ++ (b ++ back i))

-- ---- the body

front : ℕ → Fattr → ℕ → List ℕ
front xid a n =
    word_bytes xid ++ (word_bytes 1 ++ (word_bytes 0 ++ (word_bytes 0 ++ (word_bytes 0 ++ (word_bytes 0 ++ (word_bytes 0
    ++ (word_bytes a.kind ++ (word_bytes a.mode ++ (word_bytes a.nlink ++ (word_bytes a.uid ++ (word_bytes a.gid ++ (word_bytes a.size ++ (word_bytes a.blocksize ++ (word_bytes a.rdev
    ++ (word_bytes a.blocks ++ (word_bytes a.fsid ++ (word_bytes a.fileid ++ (word_bytes a.atime_s ++ (word_bytes a.atime_u ++ (word_bytes a.mtime_s ++ (word_bytes a.mtime_u
    ++ (word_bytes a.ctime_s ++ (word_bytes a.ctime_u ++ word_bytes n)))))))))))))))))))))))

front_long : (xid : ℕ) (a : Fattr) (n : ℕ) → length (front xid a n) ≡ 100
unfolding front word_bytes
front_long xid a n = refl

read_body : (xid : ℕ) (a : Fattr) (bytes : List ℕ) → given_body xid (results.Read a bytes) ≡ front xid a (length bytes) ++ (bytes ++ replicate (filling (length bytes)) 0)
unfolding front word_bytes counted filled
read_body xid a bytes = refl

-- the same number of other bytes in the place of a READ's
pub other_bytes : (xid : ℕ) (a : Fattr) (zeros bytes : List ℕ) → length zeros ≡ length bytes
    → take 100 (given_body xid (results.Read a zeros)) ++ (bytes ++ drop (100 + length bytes) (given_body xid (results.Read a zeros))) ≡ given_body xid (results.Read a bytes)
other_bytes xid a zeros bytes same =
    let f = front xid a (length zeros) in
    let p = replicate (filling (length zeros)) 0 in
    ap (λ (l : List ℕ). take 100 l ++ (bytes ++ drop (100 + length bytes) l)) (read_body xid a zeros) ∙ put_over f zeros bytes p 100 (front_long xid a (length zeros)) same
    ∙ ap (λ (n : ℕ). front xid a n ++ (bytes ++ replicate (filling n) 0)) same ∙ sym (read_body xid a bytes)

has_room : (xid : ℕ) (a : Fattr) (zeros : List ℕ) → 100 + length zeros ≤ length (given_body xid (results.Read a zeros))
has_room xid a zeros =
    let f = front xid a (length zeros) in
    let p = replicate (filling (length zeros)) 0 in
    let long : length (given_body xid (results.Read a zeros)) ≡ length (f ++ (zeros ++ p)) = ap (λ (l : List ℕ). length l) (read_body xid a zeros) in
    omega (arith, long, length-append f (zeros ++ p), length-append zeros p, front_long xid a (length zeros))

part_long : (at n : ℕ) (content : List ℕ) → at + n ≤ length content → length (part at n content) ≡ n
unfolding part
part_long at n content le = omega (arith, le, length-take n (drop at content), length-drop at content)

-- ---- by the act

pub place_of : (xid : ℕ) (act : Act) (result : NfsResult) → HasZeros act result → HasPlace act (given_body xid result)
place_of xid acts.Nothing result h = tt
place_of xid (acts.Write at bytes) result h = tt
place_of xid (acts.Read at buffer) (results.Read attr zeros) h = subst (λ (n : ℕ). 100 + n ≤ length (given_body xid (results.Read attr zeros))) h (has_room xid attr zeros)
place_of xid (acts.Read at buffer) results.Null h = absurd h
place_of xid (acts.Read at buffer) (results.Refused status) h = absurd h
place_of xid (acts.Read at buffer) (results.Getattr a) h = absurd h
place_of xid (acts.Read at buffer) (results.Setattr a) h = absurd h
place_of xid (acts.Read at buffer) (results.Lookup file a) h = absurd h
place_of xid (acts.Read at buffer) (results.Readlink target) h = absurd h
place_of xid (acts.Read at buffer) (results.Write a) h = absurd h
place_of xid (acts.Read at buffer) (results.Create file a) h = absurd h
place_of xid (acts.Read at buffer) results.Remove h = absurd h
place_of xid (acts.Read at buffer) results.Rename h = absurd h
place_of xid (acts.Read at buffer) results.Link h = absurd h
place_of xid (acts.Read at buffer) results.Symlink h = absurd h
place_of xid (acts.Read at buffer) (results.Mkdir file a) h = absurd h
place_of xid (acts.Read at buffer) results.Rmdir h = absurd h
place_of xid (acts.Read at buffer) (results.Readdir entries eof) h = absurd h
place_of xid (acts.Read at buffer) (results.Statfs tsize bsize blocks bfree bavail) h = absurd h

-- a READ's range ends in the content
abbrev pub Inside : Act → List ℕ → Type 0
Inside acts.Nothing content = Unit {0}
Inside (acts.Read at buffer) content = at + length buffer.items ≤ length content
Inside (acts.Write at bytes) content = Unit {0}

pub body_so : (xid : ℕ) (act : Act) (result : NfsResult) (content : List ℕ) → HasZeros act result → Inside act content → given_body xid (result_by act result content) ≡ body_by act (given_body xid result) content
body_so xid acts.Nothing result content h inside = refl
body_so xid (acts.Write at bytes) result content h inside = refl
body_so xid (acts.Read at buffer) (results.Read attr zeros) content h inside =
    let long = part_long at (length buffer.items) content inside in
    sym (other_bytes xid attr zeros (part at (length buffer.items) content) (h ∙ sym long))
    ∙ ap (λ (n : ℕ). take 100 (given_body xid (results.Read attr zeros)) ++ (part at (length buffer.items) content ++ drop (100 + n) (given_body xid (results.Read attr zeros)))) long
body_so xid (acts.Read at buffer) results.Null content h inside = absurd h
body_so xid (acts.Read at buffer) (results.Refused status) content h inside = absurd h
body_so xid (acts.Read at buffer) (results.Getattr a) content h inside = absurd h
body_so xid (acts.Read at buffer) (results.Setattr a) content h inside = absurd h
body_so xid (acts.Read at buffer) (results.Lookup file a) content h inside = absurd h
body_so xid (acts.Read at buffer) (results.Readlink target) content h inside = absurd h
body_so xid (acts.Read at buffer) (results.Write a) content h inside = absurd h
body_so xid (acts.Read at buffer) (results.Create file a) content h inside = absurd h
body_so xid (acts.Read at buffer) results.Remove content h inside = absurd h
body_so xid (acts.Read at buffer) results.Rename content h inside = absurd h
body_so xid (acts.Read at buffer) results.Link content h inside = absurd h
body_so xid (acts.Read at buffer) results.Symlink content h inside = absurd h
body_so xid (acts.Read at buffer) (results.Mkdir file a) content h inside = absurd h
body_so xid (acts.Read at buffer) results.Rmdir content h inside = absurd h
body_so xid (acts.Read at buffer) (results.Readdir entries eof) content h inside = absurd h
body_so xid (acts.Read at buffer) (results.Statfs tsize bsize blocks bfree bavail) content h inside = absurd h
