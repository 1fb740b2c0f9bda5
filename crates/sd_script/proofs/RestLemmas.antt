-- The rest of a line, field by field.
use Rattle.std.proofs.Common.{◌≡◌, List, [], ◌∷◌, ◌++◌, ap, sym, ◌∙◌, append_assoc}
use Rattle.std.proofs.lemmas.List.{append-nil}
use Rattle.sd_text.specs.Texts.{Text}
use Rattle.sd_script.specs.Lines.{IsRest, spaced}

-- the text so far, and the fields that are left
pub record IsTaking (args : List Text) (text : Text) (left : List Text) : Type 0 where
  pub field : Text
  pub more : List Text
  pub fields : args ≡ field ∷ more
  pub is : field ++ spaced more ≡ text ++ spaced left

pub taking_begins : (args : List Text) (text field : Text) (left : List Text) → args ≡ field ∷ left → text ≡ field → IsTaking args text left
taking_begins args text field left e same = record { field = field; more = left; fields = e; is = ap (λ (l : Text). l ++ spaced left) (sym same) }

pub taking_goes_on : (args : List Text) (text blank new field : Text) (left all : List Text) → IsTaking args text all → all ≡ field ∷ left → blank ≡ text ++ 32 ∷ [] → new ≡ blank ++ field → IsTaking args new left
taking_goes_on args text blank new field left all t e spaces is = record {
  field = t.field;
  more = t.more;
  fields = t.fields;
  is = t.is
      ∙ ap (λ (l : List Text). text ++ spaced l) e
      ∙ sym (append_assoc text (32 ∷ []) (field ++ spaced left))
      ∙ ap (λ (l : Text). l ++ (field ++ spaced left)) (sym spaces)
      ∙ sym (append_assoc blank field (spaced left))
      ∙ ap (λ (l : Text). l ++ spaced left) (sym is);
}

pub taking_ends : (args : List Text) (text : Text) (left : List Text) → IsTaking args text left → left ≡ [] → IsRest args text
taking_ends args text left t none = record { field = t.field; more = t.more; fields = t.fields; is = sym (t.is ∙ ap (λ (l : List Text). text ++ spaced l) none ∙ append-nil text) }
