-- Parts after parts.
use Rattle.std.proofs.Common.{◌≡◌, ℕ, List, [], ◌∷◌, ◌++◌, map, Some, None, refl, ap, sym, ◌∙◌, subst, append_assoc}
use mathlib.Core.List.{append-nil}
use Rattle.sd_bootparams.specs.Contents.{Contents}
use Rattle.sd_bootparams.specs.declared.params.Why.{Why}
use Rattle.sd_bootparams.specs.File.{flat, Part, client_in, entry_in, adding, fault, IsFaultless, HasRefusal}

pub flat-append : {X : Type 0} (xs ys : List (List X)) → flat (xs ++ ys) ≡ flat xs ++ flat ys
flat-append [] ys = refl
flat-append (x ∷ xs) ys = ap (λ t. x ++ t) (flat-append xs ys) ∙ sym (append_assoc x (flat xs) (flat ys))

map-append : {X Y : Type 0} (f : X → Y) (xs ys : List X) → map f (xs ++ ys) ≡ map f xs ++ map f ys
map-append f [] ys = refl
map-append f (x ∷ xs) ys = ap (λ t. f x ∷ t) (map-append f xs ys)

gathered : {Y : Type 0} (f : Part → List Y) (front : List Y) (ps qs : List Part) → (front ++ flat (map f ps)) ++ flat (map f qs) ≡ front ++ flat (map f (ps ++ qs))
gathered f front ps qs =
    append_assoc front (flat (map f ps)) (flat (map f qs))
    ∙ ap (λ t. front ++ t) (sym (flat-append (map f ps) (map f qs)) ∙ ap flat (sym (map-append f ps qs)))

pub adding_more : (old : Contents) (ps qs : List Part) → adding (adding old ps) qs ≡ adding old (ps ++ qs)
adding_more old ps qs = λ i. record { clients = gathered client_in old.clients ps qs i; entries = gathered entry_in old.entries ps qs i }

pub adding_none : (old : Contents) → adding old [] ≡ old
adding_none old = λ i. record { clients = append-nil old.clients i; entries = append-nil old.entries i }

pub faultless_none : (old : Contents) → IsFaultless old []
faultless_none old [] p after e = absurd (cc)
faultless_none old (b ∷ before) p after e = absurd (cc)

pub faultless_cons : (old : Contents) (p : Part) (ps : List Part) → fault old p ≡ None → IsFaultless (adding old (p ∷ [])) ps → IsFaultless old (p ∷ ps)
faultless_cons old p ps none more [] q after e =
    let is : p ≡ q = cc in
    subst (λ (o : Contents). fault o q ≡ None) (sym (adding_none old)) (subst (λ (r : Part). fault old r ≡ None) is none)
faultless_cons old p ps none more (b ∷ before) q after e =
    let is : p ≡ b = cc in
    let rest : ps ≡ before ++ (q ∷ after) = cc in
    subst (λ (r : Part). fault (adding old (r ∷ before)) q ≡ None) is
    (subst (λ (o : Contents). fault o q ≡ None) (adding_more old (p ∷ []) before) (more before q after rest))

pub faultless_head : (old : Contents) (p : Part) (ps : List Part) → IsFaultless old (p ∷ ps) → fault old p ≡ None
faultless_head old p ps all = subst (λ (o : Contents). fault o p ≡ None) (adding_none old) (all [] p ps refl)

pub faultless_tail : (old : Contents) (p : Part) (ps : List Part) → IsFaultless old (p ∷ ps) → IsFaultless (adding old (p ∷ [])) ps
faultless_tail old p ps all before q after e =
    subst (λ (o : Contents). fault o q ≡ None) (sym (adding_more old (p ∷ []) before)) (all (p ∷ before) q after (ap (λ (l : List Part). p ∷ l) e))

pub faultless_append : (ps qs : List Part) (old : Contents) → IsFaultless old ps → IsFaultless (adding old ps) qs → IsFaultless old (ps ++ qs)
faultless_append [] qs old a b = subst (λ (o : Contents). IsFaultless o qs) (adding_none old) b
faultless_append (p ∷ ps) qs old a b =
    faultless_cons old p (ps ++ qs) (faultless_head old p ps a)
    (faultless_append ps qs (adding old (p ∷ [])) (faultless_tail old p ps a) (subst (λ (o : Contents). IsFaultless o qs) (sym (adding_more old (p ∷ []) ps)) b))

-- a refusal among the first parts, and one after parts without a fault
pub refused_before : (old : Contents) (ps qs : List Part) (n : ℕ) (reason : Why) → HasRefusal old ps n reason → HasRefusal old (ps ++ qs) n reason
refused_before old ps qs n reason r = record {
  before = r.before;
  part = r.part;
  after = r.after ++ qs;
  cut = ap (λ (l : List Part). l ++ qs) r.cut ∙ append_assoc r.before (r.part ∷ r.after) qs;
  faultless = r.faultless;
  at = r.at;
  place = r.place;
}

pub refused_after : (old : Contents) (ps qs : List Part) (n : ℕ) (reason : Why) → IsFaultless old ps → HasRefusal (adding old ps) qs n reason → HasRefusal old (ps ++ qs) n reason
refused_after old ps qs n reason a r = record {
  before = ps ++ r.before;
  part = r.part;
  after = r.after;
  cut = ap (λ (l : List Part). ps ++ l) r.cut ∙ sym (append_assoc ps r.before (r.part ∷ r.after));
  faultless = faultless_append ps r.before old a r.faultless;
  at = subst (λ (o : Contents). fault o r.part ≡ Some reason) (adding_more old ps r.before) r.at;
  place = r.place;
}

pub refused_first : (old : Contents) (p : Part) (ps : List Part) (reason : Why) → fault old p ≡ Some reason → HasRefusal old (p ∷ ps) p.line reason
refused_first old p ps reason at = record {
  before = [];
  part = p;
  after = ps;
  cut = refl;
  faultless = faultless_none old;
  at = subst (λ (o : Contents). fault o p ≡ Some reason) (sym (adding_none old)) at;
  place = refl;
}
