-- Directories on the way to a path.
use Rattle.std.proofs.Common.{◌≡◌, ◌+◌, ◌<◌, List, ◌∷◌, length, take, drop, get_or, refl, ap, sym, ◌∙◌, take-append-drop}
use Rattle.std.proofs.lemmas.List.{drop_more, get_or_at}
use Rattle.std.specs.List.{All}
use Rattle.std.proofs.lemmas.List.Elements.{All-cons, All-head, All-tail}
use Rattle.sd_text.specs.Texts.{Text}
use Rattle.sd_config.specs.Config.{IsComponent, IsDirectoryOf}

pub directory_from : (p q : Text) → length p < length q → take (length p) q ≡ p → get_or q (length p) 0 ≡ 47 → IsDirectoryOf p q
directory_from p q longer front slash = record {
  rest = drop (length p + 1) q;
  longer = sym (take-append-drop (length p) q) ∙ rw (front, drop_more q (length p) 0 longer, slash) refl;
}

pub directory_slash : (p q : Text) → IsDirectoryOf p q → get_or q (length p) 0 ≡ 47
directory_slash p q h = ap (λ (t : Text). get_or t (length p) 0) h.longer ∙ get_or_at p 47 h.rest 0 (length p) refl

-- what holds of the components that are left holds of all
pub record IsMatching (all parts : List Text) : Type 0 where
  pub forth : All IsComponent parts → All IsComponent all
  pub back : All IsComponent all → All IsComponent parts

pub matching_begins : (all : List Text) → IsMatching all all
matching_begins all = record { forth = λ h. h; back = λ h. h }

pub matching_goes_on : (all : List Text) (part : Text) (parts : List Text) → IsMatching all (part ∷ parts) → IsComponent part → IsMatching all parts
matching_goes_on all part parts m is = record { forth = λ h. m.forth (All-cons IsComponent part parts is h); back = λ h. All-tail IsComponent part parts (m.back h) }

pub matching_stops : (all : List Text) (part : Text) (parts : List Text) → IsMatching all (part ∷ parts) → (IsComponent part → ⊥) → All IsComponent all → ⊥
matching_stops all part parts m other h = other (All-head IsComponent part parts (m.back h))
