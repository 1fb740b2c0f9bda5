-- What is written is read again, as it was and not otherwise; and what is read is what is written.
use Rattle.std.proofs.Common.{◌≡◌, ℕ, Bool, true, false, cond, eqb, List, [], ◌++◌, Result, Ok, Err, IfOk, refl, sym, ap, subst, ◌∙◌, arith}
use Rattle.sd_xdr.specs.Kind.{whole, part, Kind, void, union, any, given, number, none, ◌⊗◌}
use Rattle.sd_xdr.specs.Grammar.{HasSpelling, IsPlain, Reads, Answers, writes, word_bytes}
use Rattle.sd_xdr.specs.declared.error.MsgError.{MsgError}
use Rattle.sd_xdr.proofs.Whole.{one_value}
use Rattle.sd_xdr.proofs.Writes.{written_is_read, one_spelling, read_has_spelling}
use Rattle.sd_nfs_msg.specs.declared.message.NfsArgs.{NfsArgs}
use Rattle.sd_nfs_msg.specs.declared.message.NfsResult.{NfsResult}
use Rattle.sd_nfs_msg.specs.declared.message.NfsResult.TheVariants as results
use Rattle.sd_nfs_msg.specs.Layout.{fattr, sattr, args_kind, args_value, proc_of, args_bytes, done_layout, result_kind, result_value, result_proc, result_bytes, IsResultOf, ResultFits}
use Rattle.sd_nfs_msg.specs.Laws.{ReadsArgs, ReadsResult, IsResult, ArgsWrittenAreRead, ArgsOneSpelling, ResultWrittenIsRead, ResultOneSpelling}
use Rattle.sd_nfs_msg.proofs.Told.{told_args, told_result}
use Rattle.sd_nfs_msg.proofs.Spelled.{args_spelled, args_are, args_of, refused_spelled, own_spelled, not_zero, result_is, result_fits}

-- ---- arguments

pub args_written_are_read_of : ArgsWrittenAreRead
args_written_are_read_of a b h =
    let again : ReadsArgs (proc_of a) (args_bytes a) a = written_is_read whole (args_kind (proc_of a)) (args_value a) (args_spelled a h) in (
      λ read. told_args b a (one_value (args_kind (proc_of a)) (args_bytes a) (args_value b) (args_value a) read again),
      λ same. subst (λ (c : NfsArgs). ReadsArgs (proc_of a) (args_bytes a) c) (sym same) again,
    )

plain_if : (b : Bool) (A B : Kind part) → IsPlain A → IsPlain B → IsPlain (cond b A B)
plain_if true A B p q = p
plain_if false A B p q = q

-- no char stands in arguments
plain_args : (n : ℕ) → IsPlain (args_kind n)
plain_args n =
    let set : IsPlain sattr = (tt, (tt, (tt, (tt, (tt, (tt, (tt, tt))))))) in
    plain_if (eqb n 1) _ _ tt (plain_if (eqb n 2) _ _ (tt, set) (plain_if (eqb n 4) _ _ (tt, tt) (plain_if (eqb n 5) _ _ tt (plain_if (eqb n 6) _ _ (tt, (tt, (tt, tt))) (plain_if (eqb n 8) _ _ (tt, (tt, (tt, (tt, tt)))) (plain_if (eqb n 9) _ _ ((tt, tt), set) (plain_if (eqb n 10) _ _ (tt, tt) (plain_if (eqb n 11) _ _ ((tt, tt), (tt, tt)) (plain_if (eqb n 12) _ _ (tt, (tt, tt)) (plain_if (eqb n 13) _ _ ((tt, tt), (tt, set)) (plain_if (eqb n 14) _ _ ((tt, tt), set) (plain_if (eqb n 15) _ _ (tt, tt) (plain_if (eqb n 16) _ _ (tt, (tt, tt)) (plain_if (eqb n 17) _ _ tt tt))))))))))))))

pub args_one_spelling_of : ArgsOneSpelling
args_one_spelling_of proc_no a bs h =
    let s = read_has_spelling whole (args_kind proc_no) bs (args_value a) h in
    let same : proc_no ≡ proc_of a = args_of proc_no a s.0 in
    let read : ReadsArgs (proc_of a) bs a = subst (λ (n : ℕ). ReadsArgs n bs a) same h in (
      one_spelling whole (args_kind (proc_of a)) bs (args_value a) (plain_args (proc_of a)) read,
      same,
      args_are a (read_has_spelling whole (args_kind (proc_of a)) bs (args_value a) read),
    )

-- ---- results

-- a refusal, or what one procedure alone answers
data OfProc (n : ℕ) : NfsResult → Type 0 where
  a_refusal : (status : ℕ) → (n ≡ 0 → ⊥) → OfProc n (results.Refused status)
  its_own : (r : NfsResult) → n ≡ result_proc r → OfProc n r

of_proc : (n : ℕ) (r : NfsResult) → IsResultOf n r → OfProc n r
of_proc n (results.Refused status) h = a_refusal status h
of_proc n r h = its_own r h

-- each procedure that may refuse spells a refusal alike
refused_bytes : (n status : ℕ) → (n ≡ 0 → ⊥) → (status ≡ 0 → ⊥) → writes (result_kind n) (number status ⊗ none) ≡ word_bytes status ++ []
refused_bytes n status may s = of (eqb n 0) (not_zero n may)
  where
    behind : (c : Bool) → c ≡ false → writes (cond c (given n (done_layout n)) void) none ≡ []
    behind true h = absurd cc
    behind false h = refl

    of : (b : Bool) → b ≡ false → writes (cond b void (union any (λ t. cond (eqb t 0) (given n (done_layout n)) void))) (number status ⊗ none) ≡ word_bytes status ++ []
    of true h = absurd cc
    of false h = ap (λ (xs : List ℕ). word_bytes status ++ xs) (behind (eqb status 0) (not_zero status s))

same_bytes : (n : ℕ) (r : NfsResult) → IsResult r → OfProc n r → writes (result_kind n) (result_value r) ≡ result_bytes r
same_bytes n _ h (a_refusal status may) = refused_bytes n status may h.1 ∙ sym (refused_bytes 1 status (λ e. absurd (omega (arith, e))) h.1)
same_bytes n r h (its_own _ same) = ap (λ (m : ℕ). writes (result_kind m) (result_value r)) same

spelled : (n : ℕ) (r : NfsResult) → IsResult r → OfProc n r → HasSpelling (result_kind n) (result_value r)
spelled n _ h (a_refusal status may) = refused_spelled n status may h.0 h.1
spelled n r h (its_own _ same) = subst (λ (m : ℕ). HasSpelling (result_kind m) (result_value r)) (sym same) (own_spelled r h)

pub result_written_is_read_of : ResultWrittenIsRead
result_written_is_read_of n r s h of =
    let own : Reads whole (result_kind n) (writes (result_kind n) (result_value r)) (result_value r) = written_is_read whole (result_kind n) (result_value r) (spelled n r h (of_proc n r of)) in
    let again : ReadsResult n (result_bytes r) r = subst (λ (bs : List ℕ). Reads whole (result_kind n) bs (result_value r)) (same_bytes n r h (of_proc n r of)) own in (
      λ read. told_result s r (one_value (result_kind n) (result_bytes r) (result_value s) (result_value r) read again),
      λ same. subst (λ (c : NfsResult). ReadsResult n (result_bytes r) c) (sym same) again,
    )

-- no char stands in results
plain_done : (n : ℕ) → IsPlain (done_layout n)
plain_done n =
    let attr : IsPlain fattr = (tt, (tt, (tt, (tt, (tt, (tt, (tt, (tt, (tt, (tt, (tt, (tt, (tt, (tt, (tt, (tt, tt)))))))))))))))) in
    plain_if (eqb n 1) _ _ attr (plain_if (eqb n 2) _ _ attr (plain_if (eqb n 8) _ _ attr (plain_if (eqb n 4) _ _ (tt, attr) (plain_if (eqb n 9) _ _ (tt, attr) (plain_if (eqb n 14) _ _ (tt, attr) (plain_if (eqb n 5) _ _ tt (plain_if (eqb n 6) _ _ (attr, tt) (plain_if (eqb n 16) _ _ ((tt, (tt, tt)), tt) (plain_if (eqb n 17) _ _ (tt, (tt, (tt, (tt, tt)))) tt)))))))))

plain_result : (n : ℕ) → IsPlain (result_kind n)
plain_result n = plain_if (eqb n 0) _ _ tt (tt, (λ t. plain_if (eqb t 0) (given n (done_layout n)) void (plain_done n) tt))

pub result_one_spelling_of : ResultOneSpelling
result_one_spelling_of n r bs h =
    let is = result_is n r (read_has_spelling whole (result_kind n) bs (result_value r) h) in
    let one : bs ≡ writes (result_kind n) (result_value r) = one_spelling whole (result_kind n) bs (result_value r) (plain_result n) h in
    (one ∙ same_bytes n r is.1 (of_proc n r is.0), is.0, is.1)

-- what was read can be written
pub fits_if_read : (n : ℕ) (bs : List ℕ) (answer : Result NfsResult MsgError) → Answers (result_kind n) result_value bs answer → IfOk answer ResultFits
fits_if_read n bs (Ok r) h = result_fits r (result_is n r (read_has_spelling whole (result_kind n) bs (result_value r) h)).1
fits_if_read n bs (Err e) h = tt
