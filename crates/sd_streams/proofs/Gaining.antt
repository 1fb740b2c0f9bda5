-- What a sink gains piece by piece.
use Rattle.std.proofs.Common.{◌≡◌, ℕ, List, [], ◌++◌, take, drop, Option, Some, None, sym, ◌∙◌, ap, subst, append_assoc, take-append-drop}
use Rattle.std.proofs.lemmas.List.{append-nil}
use Rattle.sd_outside.specs.Streams.{Gains}
use Rattle.sd_streams.specs.Writing.{GainsPrefix}

pub gains_nothing : (told : Option (List ℕ)) → Gains told told []
gains_nothing None = tt
gains_nothing (Some w) = sym (append-nil w)

pub gains_then : (a b c : Option (List ℕ)) (x y : List ℕ) → Gains a b x → Gains b c y → Gains a c (x ++ y)
gains_then None None None x y first second = tt
gains_then None None (Some c) x y first second = second
gains_then None (Some b) c x y first second = absurd first
gains_then (Some a) b None x y first second = tt
gains_then (Some a) None (Some c) x y first second = absurd second
gains_then (Some a) (Some b) (Some c) x y first second = second ∙ ap (λ (l : List ℕ). l ++ y) first ∙ append_assoc a x y

pub gains_same : (a b : Option (List ℕ)) → b ≡ a → Gains a b []
gains_same a b is = subst (λ (o : Option (List ℕ)). Gains a o []) (sym is) (gains_nothing a)

-- so much was written, and this is left
pub record Written (old new : Option (List ℕ)) (bytes rest : List ℕ) : Type 0 where
  pub front : List ℕ
  pub split : front ++ rest ≡ bytes
  pub gained : Gains old new front

pub written_more : (old mid new : Option (List ℕ)) (bytes rest : List ℕ) (n : ℕ) → Written old mid bytes rest → Gains mid new (take n rest) → Written old new bytes (drop n rest)
written_more old mid new bytes rest n w gained = record {
  front = w.front ++ take n rest;
  split = append_assoc w.front (take n rest) (drop n rest) ∙ ap (λ (l : List ℕ). w.front ++ l) (take-append-drop n rest) ∙ w.split;
  gained = gains_then old mid new w.front (take n rest) w.gained gained;
}

pub written_all : (old new : Option (List ℕ)) (bytes rest : List ℕ) → rest ≡ [] → Written old new bytes rest → Gains old new bytes
written_all old new bytes rest none w =
    let whole : w.front ≡ bytes = sym (append-nil w.front) ∙ ap (λ (l : List ℕ). w.front ++ l) (sym none) ∙ w.split in
    subst (λ (l : List ℕ). Gains old new l) whole w.gained

pub written_front : (old mid new : Option (List ℕ)) (bytes rest : List ℕ) → new ≡ mid → Written old mid bytes rest → GainsPrefix old new bytes
written_front old mid new bytes rest same w = (w.front, (rest, w.split), subst (λ (o : Option (List ℕ)). Gains old o w.front) (sym same) w.gained)
