-- A text is that of one script, or has one first line outside the grammar, and never both.
use Rattle.std.proofs.Common.{◌≡◌, ℕ, eqb, ◌+◌, ◌<◌, ◌≤◌, List, [], ◌∷◌, ◌++◌, length, refl, ap, sym, ◌∙◌, subst, inl, inr, ◌⊎◌, arith, length-append}
use Rattle.std.specs.List.{concat, onto_first}
use Rattle.std.proofs.lemmas.Bool.{cases_Bool, cases_order}
use Rattle.sd_script.specs.declared.draft.Draft.{Draft}
use Rattle.sd_script.specs.declared.script.Script.{Script}
use Rattle.sd_text.specs.Texts.{Text}
use Rattle.sd_script.specs.Limits.{input_limit}
use Rattle.sd_outside.specs.Lines.{lines, without_feed}
use Rattle.sd_script.specs.Grammar.{IsLine, Leads, blank, script_of, IsWhole, Says, IsScript, IsRefusedLine, EndsEarly, IsFirstOutside}
use Rattle.sd_script.proofs.OneLine.{line_one}
use Rattle.sd_text.proofs.Exits.{firsts, others}

onto_concat : (b : ℕ) (parts : List Text) → concat (onto_first b parts) ≡ b ∷ concat parts
onto_concat b [] = refl
onto_concat b (part ∷ parts) = refl

-- the lines are the text
pub lines_joined : (text : Text) → concat (lines text) ≡ text
lines_joined [] = refl
lines_joined (b ∷ text) = elim (cases_Bool (eqb b 10)) [
  | inl feed ↦ rw feed (ap (λ (t : Text). b ∷ t) (lines_joined text))
  | inr other ↦ rw other (onto_concat b (lines text) ∙ ap (λ (t : Text). b ∷ t) (lines_joined text))
]

Leads-one : (old : Draft) (all : List Text) (a b : Draft) → Leads old all a → Leads old all b → a ≡ b
Leads-one old [] a b x y = sym x ∙ y
Leads-one old (line ∷ more) a b x y =
    let next : x.0 ≡ y.0 = line_one old (without_feed line) x.0 y.0 x.1 y.1 in
    Leads-one y.0 more a b (subst (λ (d : Draft). Leads d more a) next x.2) y.2

-- the drafts on the way
pub record Parted (old : Draft) (xs : List Text) (line : Text) (ys : List Text) (new : Draft) : Type 0 where
  pub before : Draft
  pub after : Draft
  pub front : Leads old xs before
  pub here : IsLine before (without_feed line) after
  pub back : Leads after ys new

Leads-parted : (old : Draft) (xs : List Text) (line : Text) (ys : List Text) (new : Draft) → Leads old (xs ++ (line ∷ ys)) new → Parted old xs line ys new
Leads-parted old [] line ys new h = record { before = old; after = h.0; front = refl; here = h.1; back = h.2 }
Leads-parted old (x ∷ xs) line ys new h =
    let p = Leads-parted h.0 xs line ys new h.2 in
    record { before = p.before; after = p.after; front = (h.0, h.1, p.front); here = p.here; back = p.back }

concat-parted : (xs : List Text) (line : Text) (ys : List Text) → length (concat xs) + length line ≤ length (concat (xs ++ (line ∷ ys)))
concat-parted [] line ys = omega (arith, length-append line (concat ys))
concat-parted (x ∷ xs) line ys = omega (arith, concat-parted xs line ys, length-append x (concat xs), length-append x (concat (xs ++ (line ∷ ys))))

-- where a line is refused, no lines that go on with it are in the grammar
stops : (before : List Text) (line : Text) (more : List Text) (draft : Draft) (all : Draft) → Says before draft → (input_limit < length (concat before) + length line) ⊎ ((new : Draft) → IsLine draft (without_feed line) new → ⊥) → Says (before ++ (line ∷ more)) all → ⊥
stops before line more draft all s why t = elim why [
  | inl far ↦ omega (arith, far, t.within, concat-parted before line more)
  | inr none ↦
      let p = Leads-parted blank before line more all t.leads in
      let same : p.before ≡ draft = Leads-one blank before p.before draft p.front s.leads in
      none p.after (subst (λ (d : Draft). IsLine d (without_feed line) p.after) same p.here)
]

refused_stops : (text : Text) (n : ℕ) (all : Draft) → IsRefusedLine text n → Says (lines text) all → ⊥
refused_stops text n all r t = stops r.before r.line r.after r.draft all r.says r.outside (rw r.cut at t)

pub one_script : (text : Text) (a b : Script) → IsScript text a → IsScript text b → a ≡ b
one_script text a b x y =
    let same = Leads-one blank (lines text) x.draft y.draft x.says.leads y.says.leads in
    x.means ∙ ap script_of same ∙ sym y.means

early_draft : (text : Text) (n : ℕ) (draft : Draft) → EndsEarly text n → Says (lines text) draft → IsWhole draft.section → ⊥
early_draft text n draft e s whole =
    let same = Leads-one blank (lines text) draft e.draft s.leads e.says.leads in
    e.early (subst (λ (d : Draft). IsWhole d.section) same whole)

pub never_both : (text : Text) (script : Script) (n : ℕ) → IsScript text script → IsFirstOutside text n → ⊥
never_both text script n x f = elim f [ inl r ↦ refused_stops text n x.draft r x.says | inr e ↦ early_draft text n x.draft e x.says x.whole ]

-- of two places in one list the later has the earlier before it
pub record IsLonger {A : Type 0} (xs ys : List A) (x : A) : Type 0 where
  pub more : List A
  pub is : ys ≡ xs ++ (x ∷ more)

longer : {A : Type 0} (xs ys : List A) (x y : A) (us vs : List A) → xs ++ (x ∷ us) ≡ ys ++ (y ∷ vs) → length xs < length ys → IsLonger xs ys x
longer {A} xs [] x y us vs e h = absurd (omega arith)
longer {A} [] (z ∷ ys) x y us vs e h = record { more = ys; is = ap (λ (w : A). w ∷ ys) (sym (firsts e)) }
longer {A} (w ∷ xs) (z ∷ ys) x y us vs e h =
    let l = longer xs ys x y us vs (others e) (omega arith) in
    record { more = l.more; is = ap (λ (v : A). v ∷ ys) (sym (firsts e)) ∙ ap (λ (r : List A). w ∷ r) l.is }

apart : (text : Text) (m n : ℕ) (a : IsRefusedLine text m) (b : IsRefusedLine text n) → length a.before < length b.before → ⊥
apart text m n a b h =
    let l = longer a.before b.before a.line b.line a.after b.after (sym a.cut ∙ b.cut) h in
    stops a.before a.line l.more a.draft b.draft a.says a.outside (rw l.is at b.says)

pub one_refusal : (text : Text) (m n : ℕ) → IsFirstOutside text m → IsFirstOutside text n → m ≡ n
one_refusal text m n f g = elim f [
  | inl a ↦ elim g [
    | inl b ↦ elim (cases_order (length a.before) (length b.before)) [
      | inl same ↦ a.number ∙ ap (λ k. k + 1) same ∙ sym b.number
      | inr other ↦ elim other [ inl less ↦ absurd (apart text m n a b less) | inr more ↦ absurd (apart text n m b a more) ]
    ]
    | inr b ↦ absurd (refused_stops text m b.draft a b.says)
  ]
  | inr a ↦ elim g [ inl b ↦ absurd (refused_stops text n a.draft b a.says) | inr b ↦ a.number ∙ sym b.number ]
]
