-- Each text is a file or is refused, and an item is its parts.
use Rattle.std.proofs.Common.{◌≡◌, ℕ, ◌==◌, Bool, true, false, not, cond, List, [], ◌∷◌, ◌++◌, Option, Some, None, refl, ap, ◌∙◌, ◌⊎◌, inl, inr}
use Rattle.std.specs.List.{before_first, after_first}
use Rattle.std.proofs.lemmas.Bool.{ltb-true, eqb-true}
use Rattle.std.proofs.lemmas.List.Sums.{split_at_first, passes_at_first}
use Rattle.sd_bootparams.specs.Contents.{Contents}
use Rattle.sd_bootparams.specs.declared.params.Why.{Why}
use Rattle.sd_bootparams.specs.declared.params.Why.TheVariants as why
use Rattle.sd_bootparams.specs.File.{Text, Part, parts, nothing, adding, fault, has, is_text, key_of, value_of, server_of, path_of, is_too_long, has_key, IsFaultless, HasRefusal, IsFile}
use Rattle.sd_bootparams.specs.FileLaws.{EitherWay, ItemsAreTheirParts}
use Rattle.sd_bootparams.proofs.Follow.{faultless_none, faultless_cons, refused_first, refused_after}

Judged : Contents → List Part → Type 0
Judged old ps = IsFaultless old ps ⊎ ((n : ℕ) × (reason : Why) × HasRefusal old ps n reason)

judged : (ps : List Part) (old : Contents) → Judged old ps
unfolding Judged
judged [] old = inl (faultless_none old)
judged (p ∷ ps) old = by_fault (judged ps (adding old (p ∷ []))) (fault old p) refl
  where
    onto : fault old p ≡ None → Judged (adding old (p ∷ [])) ps → Judged old (p ∷ ps)
    onto none (inl m) = inl (faultless_cons old p ps none m)
    onto none (inr m) = inr (m.0, m.1, refused_after old (p ∷ []) ps m.0 m.1 (faultless_cons old p [] none (faultless_none (adding old (p ∷ [])))) m.2)

    by_fault : Judged (adding old (p ∷ [])) ps → (f : Option Why) → fault old p ≡ f → Judged old (p ∷ ps)
    by_fault more (Some reason) e = inr (p.line, reason, refused_first old p ps reason e)
    by_fault more None e = onto e more

pub either_way : EitherWay
unfolding Judged
either_way text = told (judged (parts text) nothing)
  where
    told : Judged nothing (parts text) → ((params : Contents) × IsFile text params) ⊎ ((n : ℕ) × (reason : Why) × HasRefusal nothing (parts text) n reason)
    told (inl m) = inl (adding nothing (parts text), record { faultless = m; says = refl })
    told (inr m) = inr m

passes : (a b d e f : Bool) → cond (not a) (Some why.NotText) (cond (not b) (Some why.NoEquals) (cond (not d) (Some why.NoColon) (cond e (Some why.TooLong) (cond f (Some why.DoubleKey) None)))) ≡ None → (b ≡ true) × (d ≡ true)
passes false b d e f h = absurd (cc)
passes true false d e f h = absurd (cc)
passes true true false e f h = absurd (cc)
passes true true true e f h = (refl, refl)

cut_at : (c : ℕ) (text : Text) → has c text ≡ true → text ≡ before_first (λ b. b == c) text ++ (c ∷ after_first (λ b. b == c) text)
cut_at c text h =
    let within = ltb-true _ _ h in
    let is = eqb-true _ _ (passes_at_first (λ b. b == c) text 0 within) in
    split_at_first (λ b. b == c) text 0 within ∙ ap (λ k. before_first (λ b. b == c) text ++ (k ∷ after_first (λ b. b == c) text)) is

pub items_are_their_parts : ItemsAreTheirParts
items_are_their_parts before of_client text none =
    let both = passes (is_text text) (has 61 text) (has 58 (value_of text)) (is_too_long (key_of text) (server_of text) (path_of text)) (has_key before of_client (key_of text)) none in
    cut_at 61 text both.0 ∙ ap (λ (v : Text). key_of text ++ (61 ∷ v)) (cut_at 58 (value_of text) both.1)
