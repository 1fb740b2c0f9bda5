-- The names and the places of the procedures that are known by name.
use Rattle.std.specs.Option.{is_some}
use Rattle.std.proofs.Common.{◌≡◌, ℕ, ◌+◌, ◌-◌, ◌^◌, ◌<◌, Bool, true, false, cond, not, ◌&&◌, eqb, ltb, List, [], ◌∷◌, map, Option, Some, None, refl, sym, ap, ◌∙◌, arith, inl, inr}
use Rattle.std.proofs.lemmas.Bool.{and_parts, and_from, cases_Bool, false≢true, eqb-true, not_from_false, agree_below, agree_below_at}
use Rattle.sd_text.specs.Texts.{Text}
use Rattle.std.specs.Prelude.{codes}
use Rattle.sd_xdr.specs.Kind.{Value, number, ◌⊗◌}
use Rattle.sd_text.specs.Kind.{same, place_from, place_in, name_at, is_name, Kind, choice, given}
use Rattle.sd_text.specs.Reading.{◌>>=◌, front, behind, name_reading, reading}
use Rattle.sd_text.proofs.Again.{gives}
use Rattle.sd_text.specs.Answers.{Finds}
use Rattle.sd_text.proofs.Leading.{same_is}
use Rattle.sd_show.specs.declared.procedures.Procedure.{Procedure}
use Rattle.sd_show.specs.declared.procedures.Known.{Known}
use Rattle.sd_show.specs.declared.procedures.Known.TheVariants as known
use Rattle.sd_show.specs.Programs.{all_known, numbers, known_text, args, IsUnknown}
use Rattle.sd_show.specs.Lines.{known_names, known_at, place, same_procedure, is_none_of, procedure_value, is_other, named_arm, done, answer, answer_words}
use Rattle.sd_show.specs.Fields.{fields_text}
use Rattle.sd_show.specs.Packing.{place_of, later_place_of}

abbrev small : Procedure → Bool
small p = ltb p.prog 4294967296 && (ltb p.vers 4294967296 && ltb p.proc_no 4294967296)

-- where a procedure stands among those that are known
pub record Stands (k : Known) : Type 0 where
  pub back : known_at (place k) ≡ k
  pub at : place_in (known_text k) known_names ≡ Some (place k)
  pub later : place_from 4 (known_text k) known_names ≡ Some (place k + 4)
  pub name : name_at known_names (place k) ≡ known_text k
  pub reply_name : name_at answer_words (place k + 4) ≡ known_text k
  pub answers : place_in (name_at answer_words (place k + 4)) answer_words ≡ Some (place k + 4)
  pub small : small (numbers k) ≡ true
  pub near : ltb (place k) 31 ≡ true
  pub numbered : is_none_of all_known (numbers k) ≡ false

pub stands : (k : Known) → Stands k
unfolding known_names place
stands known.PmapNull = record { back = refl; at = refl; later = refl; name = refl; reply_name = refl; answers = refl; small = refl; near = refl; numbered = refl }
stands known.PmapSet = record { back = refl; at = refl; later = refl; name = refl; reply_name = refl; answers = refl; small = refl; near = refl; numbered = refl }
stands known.PmapUnset = record { back = refl; at = refl; later = refl; name = refl; reply_name = refl; answers = refl; small = refl; near = refl; numbered = refl }
stands known.PmapGetport = record { back = refl; at = refl; later = refl; name = refl; reply_name = refl; answers = refl; small = refl; near = refl; numbered = refl }
stands known.PmapDump = record { back = refl; at = refl; later = refl; name = refl; reply_name = refl; answers = refl; small = refl; near = refl; numbered = refl }
stands known.PmapCallit = record { back = refl; at = refl; later = refl; name = refl; reply_name = refl; answers = refl; small = refl; near = refl; numbered = refl }
stands known.BootparamNull = record { back = refl; at = refl; later = refl; name = refl; reply_name = refl; answers = refl; small = refl; near = refl; numbered = refl }
stands known.BootparamWhoami = record { back = refl; at = refl; later = refl; name = refl; reply_name = refl; answers = refl; small = refl; near = refl; numbered = refl }
stands known.BootparamGetfile = record { back = refl; at = refl; later = refl; name = refl; reply_name = refl; answers = refl; small = refl; near = refl; numbered = refl }
stands known.MountNull = record { back = refl; at = refl; later = refl; name = refl; reply_name = refl; answers = refl; small = refl; near = refl; numbered = refl }
stands known.MountMnt = record { back = refl; at = refl; later = refl; name = refl; reply_name = refl; answers = refl; small = refl; near = refl; numbered = refl }
stands known.MountDump = record { back = refl; at = refl; later = refl; name = refl; reply_name = refl; answers = refl; small = refl; near = refl; numbered = refl }
stands known.MountUmnt = record { back = refl; at = refl; later = refl; name = refl; reply_name = refl; answers = refl; small = refl; near = refl; numbered = refl }
stands known.MountUmntall = record { back = refl; at = refl; later = refl; name = refl; reply_name = refl; answers = refl; small = refl; near = refl; numbered = refl }
stands known.MountExport = record { back = refl; at = refl; later = refl; name = refl; reply_name = refl; answers = refl; small = refl; near = refl; numbered = refl }
stands known.NfsNull = record { back = refl; at = refl; later = refl; name = refl; reply_name = refl; answers = refl; small = refl; near = refl; numbered = refl }
stands known.NfsGetattr = record { back = refl; at = refl; later = refl; name = refl; reply_name = refl; answers = refl; small = refl; near = refl; numbered = refl }
stands known.NfsSetattr = record { back = refl; at = refl; later = refl; name = refl; reply_name = refl; answers = refl; small = refl; near = refl; numbered = refl }
stands known.NfsLookup = record { back = refl; at = refl; later = refl; name = refl; reply_name = refl; answers = refl; small = refl; near = refl; numbered = refl }
stands known.NfsReadlink = record { back = refl; at = refl; later = refl; name = refl; reply_name = refl; answers = refl; small = refl; near = refl; numbered = refl }
stands known.NfsRead = record { back = refl; at = refl; later = refl; name = refl; reply_name = refl; answers = refl; small = refl; near = refl; numbered = refl }
stands known.NfsWrite = record { back = refl; at = refl; later = refl; name = refl; reply_name = refl; answers = refl; small = refl; near = refl; numbered = refl }
stands known.NfsCreate = record { back = refl; at = refl; later = refl; name = refl; reply_name = refl; answers = refl; small = refl; near = refl; numbered = refl }
stands known.NfsRemove = record { back = refl; at = refl; later = refl; name = refl; reply_name = refl; answers = refl; small = refl; near = refl; numbered = refl }
stands known.NfsRename = record { back = refl; at = refl; later = refl; name = refl; reply_name = refl; answers = refl; small = refl; near = refl; numbered = refl }
stands known.NfsLink = record { back = refl; at = refl; later = refl; name = refl; reply_name = refl; answers = refl; small = refl; near = refl; numbered = refl }
stands known.NfsSymlink = record { back = refl; at = refl; later = refl; name = refl; reply_name = refl; answers = refl; small = refl; near = refl; numbered = refl }
stands known.NfsMkdir = record { back = refl; at = refl; later = refl; name = refl; reply_name = refl; answers = refl; small = refl; near = refl; numbered = refl }
stands known.NfsRmdir = record { back = refl; at = refl; later = refl; name = refl; reply_name = refl; answers = refl; small = refl; near = refl; numbered = refl }
stands known.NfsReaddir = record { back = refl; at = refl; later = refl; name = refl; reply_name = refl; answers = refl; small = refl; near = refl; numbered = refl }
stands known.NfsStatfs = record { back = refl; at = refl; later = refl; name = refl; reply_name = refl; answers = refl; small = refl; near = refl; numbered = refl }

-- ---- a text that is no name

none_at : (n : ℕ) (text : Text) (ks : List Known) → ((k : Known) → text ≡ known_text k → ⊥) → place_from n text (map known_text ks) ≡ None
none_at n text [] none = refl
none_at n text (k ∷ ks) none = by_test (same (known_text k) text) refl (none_at (n + 1) text ks none)
  where
    by_test : (v : Bool) → same (known_text k) text ≡ v → place_from (n + 1) text (map known_text ks) ≡ None → cond v (Some n) (place_from (n + 1) text (map known_text ks)) ≡ None
    by_test true e rest = absurd (none k (sym (same_is (known_text k) text e)))
    by_test false e rest = rest

pub at_name : (text : Text) (r : Option Known) → Finds (λ (k : Known). text ≡ known_text k) r → place_in text known_names ≡ place_of r
unfolding known_names
at_name text (Some k) h = ap (λ (t : Text). place_in t known_names) h ∙ (stands k).at
at_name text None h = none_at 0 text all_known h

pub later_name : (text : Text) (r : Option Known) → Finds (λ (k : Known). text ≡ known_text k) r → place_from 4 text known_names ≡ later_place_of r
unfolding known_names
later_name text (Some k) h = ap (λ (t : Text). place_from 4 t known_names) h ∙ (stands k).later
later_name text None h = none_at 4 text all_known h

-- ---- a procedure that isn't known

same_is_that : (p q : Procedure) → same_procedure p q ≡ true → p ≡ q
same_is_that p q h =
    let a = and_parts (eqb p.prog q.prog) (eqb p.vers q.vers && eqb p.proc_no q.proc_no) h in
    let b = and_parts (eqb p.vers q.vers) (eqb p.proc_no q.proc_no) a.1 in
    let prog = eqb-true p.prog q.prog a.0 in
    let vers = eqb-true p.vers q.vers b.0 in
    let proc_no = eqb-true p.proc_no q.proc_no b.1 in
    λ i. record { prog = prog i; vers = vers i; proc_no = proc_no i }

none_of : (ks : List Known) (p : Procedure) → IsUnknown p → is_none_of ks p ≡ true
none_of [] p unknown = refl
none_of (k ∷ ks) p unknown = elim (cases_Bool (same_procedure (numbers k) p)) [
  | inl is ↦ absurd (unknown k (same_is_that (numbers k) p is))
  | inr other ↦ and_from (not (same_procedure (numbers k) p)) (is_none_of ks p) (not_from_false (same_procedure (numbers k) p) other) (none_of ks p unknown)
]

pub is_unknown : (p : Procedure) → is_none_of all_known p ≡ true → IsUnknown p
is_unknown p h k e = absurd (false≢true (sym (stands k).numbered ∙ ap (is_none_of all_known) e ∙ h))

-- whether no procedure was found
pub other_found : (p : Procedure) (r : Option Known) (b : Bool) → Finds (λ (k : Known). numbers k ≡ p) r → is_some r ≡ not b → b ≡ is_other (procedure_value p)
unfolding is_other
other_found p (Some k) true h e = absurd (false≢true (sym e))
other_found p (Some k) false h e = sym (ap (is_none_of all_known) (sym h) ∙ (stands k).numbered)
other_found p None true h e = sym (none_of all_known p h)
other_found p None false h e = absurd (false≢true e)

pub other_is : (p : Procedure) → is_other (procedure_value p) ≡ true → IsUnknown p
unfolding is_other
other_is p h = is_unknown p h

pub is_other_from : (p : Procedure) → IsUnknown p → is_other (procedure_value p) ≡ true
unfolding is_other
is_other_from p h = none_of all_known p h

-- ---- the arms that names choose

pub named_back : (k : Known) → named_arm (place k) ≡ fields_text (args k)
named_back k = ap (λ (j : Known). fields_text (args j)) (stands k).back

-- a number above 3
pub record PastFour (n : ℕ) : Type 0 where
  pub zero_not : eqb (n + 4) 0 ≡ false
  pub one_not : eqb (n + 4) 1 ≡ false
  pub two_not : eqb (n + 4) 2 ≡ false
  pub three_not : eqb (n + 4) 3 ≡ false

pub past_four : (n : ℕ) → PastFour n
past_four n = record { zero_not = past n 0 (omega arith); one_not = past n 1 (omega arith); two_not = past n 2 (omega arith); three_not = past n 3 (omega arith) }
  where
    past : (n m : ℕ) → m < 4 → eqb (n + 4) m ≡ false
    past n m h = grind arith

pub less_four : (n : ℕ) → n + 4 - 4 ≡ n
less_four n = omega arith

pub later : (n : ℕ) → answer (n + 4) ≡ done (known_at n)
later n = let p = past_four n in rw (p.zero_not, p.one_not, p.two_not, p.three_not) (ap (λ (m : ℕ). done (known_at m)) (less_four n))

pub answer_back : (k : Known) → answer (place k + 4) ≡ done k
answer_back k = later (place k) ∙ ap done (stands k).back

-- the numbers of a procedure are words
pub record AreNumbers (p : Procedure) : Type 0 where
  pub prog : p.prog < 2 ^ 32
  pub vers : p.vers < 2 ^ 32
  pub proc_no : p.proc_no < 2 ^ 32

are_small : (p : Procedure) → small p ≡ true → AreNumbers p
are_small p h =
    let a = and_parts (ltb p.prog 4294967296) (ltb p.vers 4294967296 && ltb p.proc_no 4294967296) h in
    let b = and_parts (ltb p.vers 4294967296) (ltb p.proc_no 4294967296) a.1 in
    record { prog = less p.prog a.0; vers = less p.vers b.0; proc_no = less p.proc_no b.1 }
  where
    less : (n : ℕ) → ltb n 4294967296 ≡ true → n < 2 ^ 32
    less n h = grind arith

pub numbered_words : (k : Known) → AreNumbers (numbers k)
numbered_words k = are_small (numbers k) (stands k).small

pub place_below : (k : Known) → place k < 31
place_below k = less (place k) (stands k).near
  where
    less : (n : ℕ) → ltb n 31 ≡ true → n < 31
    less n h = grind arith

all_back : agree_below (λ m. eqb (place (known_at m)) m) (λ m. true) 31 ≡ true
unfolding known_names place
all_back = refl

-- the place of the procedure at a place
pub place_back : (n : ℕ) → n < 31 → place (known_at n) ≡ n
place_back n h = eqb-true (place (known_at n)) n (agree_below_at (λ m. eqb (place (known_at m)) m) (λ m. true) 31 n all_back h)

-- ---- the word of an answer

pub verf_at : (w : Text) → same (codes "raw") w ≡ false → same (codes "verf") w ≡ true → place_in w answer_words ≡ Some 1
verf_at w h k = rw (h, k) refl

pub known_later : (w : Text) (o : Option ℕ) → same (codes "raw") w ≡ false → same (codes "verf") w ≡ false → same (codes "rpcmismatch") w ≡ false → same (codes "autherror") w ≡ false → place_from 4 w known_names ≡ o → place_in w answer_words ≡ o
known_later w o a b c d h = rw (a, b, c, d) h

pub reply_at : (w : Text) → same (codes "tftp") w ≡ false → same (codes "call") w ≡ false → same (codes "reply") w ≡ true → place_in w (codes "tftp" ∷ codes "call" ∷ codes "reply" ∷ []) ≡ Some 2
reply_at w a b c = rw (a, b, c) refl

-- the arm that a name chooses is read
pub chosen_is : (names : List Text) (arm : ℕ → Kind) (t w b u : Text) (n : ℕ) (K : Kind) (v : Value) → w ≡ front is_name t → b ≡ behind is_name t → place_in w names ≡ Some n → arm n ≡ K → reading (given n K) b ≡ gives v u
    → reading (choice names arm) t ≡ gives v u
unfolding reading name_reading
chosen_is names arm t w b u n K v e f at is h =
    ap (λ (o : Option ℕ). (o >>= λ (m : ℕ). Some (m, behind is_name t)) >>= λ (m : ℕ × Text). reading (arm m.0) m.1 >>= λ (x : Value × Text). gives (number m.0 ⊗ x.0) x.1) (ap (λ (s : Text). place_in s names) (sym e) ∙ at)
    ∙ ap (λ (L : Kind). reading (given n L) (behind is_name t)) is
    ∙ ap (λ (c : Text). reading (given n K) c) (sym f)
    ∙ h
