-- A walk has one end.
use Rattle.std.proofs.Common.{◌≡◌, ◌≢◌, ◌⊎◌, ℕ, suc, List, [], ◌∷◌, ◌++◌, Option, Some, refl, sym, ap, subst, ◌∙◌, inl, inr}
use Rattle.sd_services.specs.declared.node.Node.{Node}
use Rattle.sd_services.specs.declared.node.Standing.{Standing}
use Rattle.sd_services.specs.declared.node.Standing.TheVariants.{Directory, File, Symlink}
use Rattle.sd_services.specs.Files.{exported}
use Rattle.sd_loader.specs.Walk.{root, components, what_at, named_in, origin, IsNoLink, Walk, arrives, skips, enters, follows, WalksAreOne, KernelsAreOne}

same_next : (o : Option ℕ) (a b : ℕ) → o ≡ Some a → o ≡ Some b → a ≡ b
same_next o a b p q = cc

no_link : (s : Standing) (text : List ℕ) → IsNoLink s → s ≡ Symlink text → ⊥
no_link Directory text is e = absurd cc
no_link (File bytes) text is e = absurd cc
no_link (Symlink other) text is e = is

same_text : (s : Standing) (a b : List ℕ) → s ≡ Symlink a → s ≡ Symlink b → a ≡ b
same_text s a b p q = cc

-- ---- what a walk is, by its components

at_end : (nodes : List Node) (here more other : ℕ) → Walk nodes here [] more other → (0 ≡ more) × (here ≡ other)
at_end nodes _ _ _ (arrives here) = (refl, refl)

past_nothing : (nodes : List Node) (here more other : ℕ) (names : List (List ℕ)) → Walk nodes here ([] ∷ names) more other → Walk nodes here names more other
past_nothing nodes _ _ _ _ (skips here links end names w) = w
past_nothing nodes _ _ _ _ (enters dir next links end name names some named plain w) = absurd (some refl)
past_nothing nodes _ _ _ _ (follows dir next links end name text names some named is w) = absurd (some refl)

-- it goes on from there
record GoesOn (nodes : List Node) (dir : ℕ) (name : List ℕ) (names : List (List ℕ)) (more other : ℕ) : Type 0 where
  next : ℕ
  named : named_in nodes dir name ≡ Some next
  plain : IsNoLink (what_at nodes next)
  walk : Walk nodes next names more other

-- it follows a link
record Turns (nodes : List Node) (dir : ℕ) (name : List ℕ) (names : List (List ℕ)) (more other : ℕ) : Type 0 where
  next : ℕ
  text : List ℕ
  fewer : ℕ
  one : more ≡ suc fewer
  named : named_in nodes dir name ≡ Some next
  is : what_at nodes next ≡ Symlink text
  walk : Walk nodes (origin text dir) (components text ++ names) fewer other

past_name : (nodes : List Node) (dir more other : ℕ) (name : List ℕ) (names : List (List ℕ)) → name ≢ [] → Walk nodes dir (name ∷ names) more other
    → GoesOn nodes dir name names more other ⊎ Turns nodes dir name names more other
past_name nodes _ _ _ _ _ some (skips here links end names w) = absurd (some refl)
past_name nodes _ _ _ _ _ some (enters dir next links end name names given named plain w) = inl (record { next = next; named = named; plain = plain; walk = w })
past_name nodes _ _ _ _ _ some (follows dir next links end name text names given named is w) =
    inr (record { next = next; text = text; fewer = links; one = refl; named = named; is = is; walk = w })

-- ---- there is one

pub walks_are_one : WalksAreOne
walks_are_one nodes _ _ _ more _ other (arrives here) v = at_end nodes here more other v
walks_are_one nodes _ _ _ more _ other (skips here links end names w) v = walks_are_one nodes here names links more end other w (past_nothing nodes here more other names v)
walks_are_one nodes _ _ _ more _ other (enters dir next links end name names some named plain w) v =
    of (past_name nodes dir more other name names some v) (λ e. walks_are_one nodes next names links more end other w e)
  where
    of : GoesOn nodes dir name names more other ⊎ Turns nodes dir name names more other → (Walk nodes next names more other → (links ≡ more) × (end ≡ other)) → (links ≡ more) × (end ≡ other)
    of (inl g) rest = rest (subst (λ (n : ℕ). Walk nodes n names more other) (same_next (named_in nodes dir name) g.next next g.named named) g.walk)
    of (inr t) rest = absurd (no_link (what_at nodes next) t.text plain (subst (λ (n : ℕ). what_at nodes n ≡ Symlink t.text) (same_next (named_in nodes dir name) t.next next t.named named) t.is))
walks_are_one nodes _ _ _ more _ other (follows dir next links end name text names some named is w) v =
    of (past_name nodes dir more other name names some v) (λ fewer e. walks_are_one nodes (origin text dir) (components text ++ names) links fewer end other w e)
  where
    of : GoesOn nodes dir name names more other ⊎ Turns nodes dir name names more other
        → ((fewer : ℕ) → Walk nodes (origin text dir) (components text ++ names) fewer other → (links ≡ fewer) × (end ≡ other)) → (suc links ≡ more) × (end ≡ other)
    of (inl g) rest = absurd (no_link (what_at nodes g.next) text g.plain (subst (λ (n : ℕ). what_at nodes n ≡ Symlink text) (same_next (named_in nodes dir name) next g.next named g.named) is))
    of (inr t) rest =
        let here = same_next (named_in nodes dir name) t.next next t.named named in
        let words = same_text (what_at nodes next) t.text text (subst (λ (n : ℕ). what_at nodes n ≡ Symlink t.text) here t.is) is in
        let both = rest t.fewer (subst (λ (s : List ℕ). Walk nodes (origin s dir) (components s ++ names) t.fewer other) words t.walk) in
        (ap (λ (n : ℕ). suc n) both.0 ∙ sym t.one, both.1)

same_file : (s : Standing) (a b : List ℕ) → s ≡ File a → s ≡ File b → a ≡ b
same_file s a b p q = cc

pub kernels_are_one : KernelsAreOne
kernels_are_one c bytes other k l =
    let nodes = (exported c).root in
    let same = walks_are_one nodes root (components c.kernel) k.leads.links l.leads.links k.end l.end k.leads.walk l.leads.walk in
    same_file (what_at nodes l.end) bytes other (subst (λ (n : ℕ). what_at nodes n ≡ File bytes) same.1 k.holds) l.holds
