-- One word after what is read.
use Rattle.std.proofs.Common.{◌≡◌, ℕ, List, [], ◌∷◌, length, map, Some, None, Result, Ok, Err, refl, sym, ◌∙◌, subst, true, false, arith}
use Rattle.std.specs.List.{filter}
use Rattle.sd_bootparams.specs.Contents.{Contents}
use Rattle.sd_bootparams.specs.declared.params.ParamsError.{ParamsError}
use Rattle.sd_bootparams.specs.declared.params.ParamsError.TheVariants as errors
use Rattle.sd_bootparams.specs.declared.params.Why.{Why}
use Rattle.sd_bootparams.specs.declared.draft.Next.{Next}
use Rattle.sd_bootparams.specs.declared.draft.Next.TheVariants as next
use Rattle.sd_bootparams.specs.declared.draft.Draft.{Draft}
use Rattle.sd_bootparams.specs.File.{Text, is_full, on_line, begins_comment, Part, as_client, as_item, adding, fault, client_fault, item_fault, HasRefusal}
use Rattle.sd_bootparams.specs.LineByLine.{in_place, one_in, after_word, after_words, Says}
use Rattle.sd_bootparams.specs.Judging.{Judges, Adds}
use Rattle.sd_bootparams.proofs.Follow.{refused_first}
use Rattle.sd_bootparams.proofs.SoFar.{says_nothing, says_one}

-- the part and the turn of a word that is a client, an item, or in a comment
client_in : (now : Next) (n : ℕ) (t : Text) → begins_comment t ≡ false → now ≡ next.Client → (one_in now (on_line n t) ≡ as_client (on_line n t) ∷ []) × (after_word now t ≡ next.ItemOf t)
client_in now n t other is = rw (is, other) (refl, refl)

item_in : (now : Next) (c : Text) (n : ℕ) (t : Text) → begins_comment t ≡ false → now ≡ next.ItemOf c → (one_in now (on_line n t) ≡ as_item c (on_line n t) ∷ []) × (after_word now t ≡ next.ItemOf c)
item_in now c n t other is = rw (is, other) (refl, refl)

comment_in : (now : Next) (n : ℕ) (t : Text) → begins_comment t ≡ true → (one_in now (on_line n t) ≡ []) × (after_word now t ≡ next.Skipped)
comment_in next.Client n t is = rw is (refl, refl)
comment_in (next.ItemOf c) n t is = rw is (refl, refl)
comment_in next.Skipped n t is = rw is (refl, refl)

skipped_in : (now : Next) (n : ℕ) (t : Text) → begins_comment t ≡ false → now ≡ next.Skipped → (one_in now (on_line n t) ≡ []) × (after_word now t ≡ next.Skipped)
skipped_in now n t other is = rw (is, other) (refl, refl)

moved : (old : Draft) (ps qs : List Part) (a b : Next) (new : Draft) → (ps ≡ qs) × (a ≡ b) → Says old qs b new → Says old ps a new
moved old ps qs a b new e s = subst (λ (l : List Part). Says old l a new) (sym e.0) (subst (λ (t : Next). Says old qs t new) (sym e.1) s)

pub word_comment : (old new : Draft) (n : ℕ) (t : Text) → begins_comment t ≡ true → new.params ≡ old.params → new.next ≡ next.Skipped → Says old (one_in old.next (on_line n t)) (after_word old.next t) new
word_comment old new n t is p e = moved old _ _ _ _ new (comment_in old.next n t is) (says_nothing old new next.Skipped p e)

pub word_skipped : (old new : Draft) (n : ℕ) (t : Text) → begins_comment t ≡ false → old.next ≡ next.Skipped → new.params ≡ old.params → new.next ≡ next.Skipped → Says old (one_in old.next (on_line n t)) (after_word old.next t) new
word_skipped old new n t other is p e = moved old _ _ _ _ new (skipped_in old.next n t other is) (says_nothing old new next.Skipped p e)

pub word_client : (old new : Draft) (n : ℕ) (t : Text) → begins_comment t ≡ false → old.next ≡ next.Client → client_fault old.params t ≡ None → new.params ≡ adding old.params (as_client (on_line n t) ∷ []) → new.next ≡ next.ItemOf t → Says old (one_in old.next (on_line n t)) (after_word old.next t) new
word_client old new n t other is none p e = moved old _ _ _ _ new (client_in old.next n t other is) (says_one old new (as_client (on_line n t)) (next.ItemOf t) none p e)

refused_one : (old : Draft) (ps : List Part) (p : Part) (at : ℕ) (reason : Why) → ps ≡ p ∷ [] → fault old.params p ≡ Some reason → at ≡ p.line → HasRefusal old.params ps at reason
refused_one old ps p at reason e has place = subst (λ (l : List Part). HasRefusal old.params l at reason) (sym e) (subst (λ (k : ℕ). HasRefusal old.params (p ∷ []) k reason) (sym place) (refused_first old.params p [] reason has))

pub client_refused : (old new : Draft) (n : ℕ) (t : Text) (now added : Contents) (turn : Next) → begins_comment t ≡ false → old.next ≡ next.Client → (e : ParamsError) → Adds (client_fault old.params t) n now added (Err e) → Judges old (one_in old.next (on_line n t)) turn new (Err e)
client_refused old new n t now added turn other is (errors.Bad at reason) h = refused_one old _ (as_client (on_line n t)) at reason (client_in old.next n t other is).0 h.0 h.1
client_refused old new n t now added turn other is errors.NoMemory h = tt

pub item_judged : (old new : Draft) (c : Text) (n : ℕ) (t : Text) → begins_comment t ≡ false → old.next ≡ next.ItemOf c → new.next ≡ old.next → (r : Result (Unit {0}) ParamsError) → Adds (item_fault old.params c t) n new.params (adding old.params (as_item c (on_line n t) ∷ [])) r → Judges old (one_in old.next (on_line n t)) (after_word old.next t) new r
item_judged old new c n t other is same (Ok done) h = moved old _ _ _ _ new (item_in old.next c n t other is) (says_one old new (as_item c (on_line n t)) (next.ItemOf c) h.0 h.1 (same ∙ is))
item_judged old new c n t other is same (Err (errors.Bad at reason)) h = refused_one old _ (as_item c (on_line n t)) at reason (item_in old.next c n t other is).0 h.0 h.1
item_judged old new c n t other is same (Err errors.NoMemory) h = tt

none_in : (now : Next) → in_place now [] ≡ []
none_in next.Client = refl
none_in (next.ItemOf c) = refl
none_in next.Skipped = refl

pub no_piece : (old : Draft) (n : ℕ) (t : Text) → length t ≡ 0 → Says old (in_place old.next (map (on_line n) (filter is_full (t ∷ [])))) (after_words old.next (filter is_full (t ∷ []))) old
no_piece old n [] e = subst (λ (l : List Part). Says old l old.next old) (sym (none_in old.next)) (says_nothing old old old.next refl refl)
no_piece old n (b ∷ t) e = absurd (omega (arith, e))
