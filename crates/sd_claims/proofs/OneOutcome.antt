-- What came of a request leaves no choice: how its tries are cut, which reply was the first, and what it told.
use Rattle.std.proofs.Common.{◌≡◌, ℕ, ◌<◌, inl, inr, List, [], ◌∷◌, ◌++◌, map, length, Option, Some, None, refl, sym, ◌∙◌, ap, subst, arith, append_assoc}
use Rattle.std.specs.Prelude.{◌⊎◌}
use Rattle.std.specs.List.{flat_map, AllByRecursion}
use Rattle.std.proofs.lemmas.List.{append-nil, append_cancel_left}
use Rattle.sd_outside.specs.declared.packet.Packet.{Packet}
use Rattle.sd_link.specs.Steps.{Step, Tick, Send, Get}
use Rattle.sd_link.specs.Parts.{sends_in, got_in}
use Rattle.sd_link.specs.Tries.{Hearing, AreUnmatched, with_replies, RepliesAtOnce, IsTries, EndsMatched, Answered, TimedOut, Flooded, flood_limit}
use Rattle.sd_link.proofs.Histories.{got-append}
use Rattle.sd_config.proofs.Lists.{all_split}

-- ---- how tries are cut

heads : (x y : Step) (xs ys : List Step) → x ∷ xs ≡ y ∷ ys → (x ≡ y) × (xs ≡ ys)
heads x y xs ys e = (cc, cc)

-- what is put in behind a step
own : (Packet → List Packet) → Step → List Step
own replies (Get id packet) = map Send (replies packet)
own replies step = []

with-step : (replies : Packet → List Packet) (x : Step) (xs : List Step) → with_replies replies (x ∷ xs) ≡ x ∷ (own replies x ++ with_replies replies xs)
unfolding own
with-step replies (Get id packet) xs = refl
with-step replies x xs = refl

-- the steps are over, or the next is a send
abbrev StartsAfresh : List Step → Type 0
StartsAfresh xs = (xs ≡ []) ⊎ ((packet : Packet) × (more : List Step) × (xs ≡ Send packet ∷ more))

silent-tail : (x : Step) (xs : List Step) → sends_in (x ∷ xs) ≡ [] → sends_in xs ≡ []
silent-tail (Send packet) xs silent = absurd cc
silent-tail x xs silent = silent

silent-head : (packet : Packet) (xs : List Step) → sends_in (Send packet ∷ xs) ≡ [] → ⊥
silent-head packet xs silent = cc

module _ (replies : Packet → List Packet) where
  -- a step that isn't a send doesn't stand where a send or nothing does
  not_afresh : (y : Step) (ys rest xs : List Step) → StartsAfresh xs → sends_in (y ∷ ys) ≡ [] → xs ≡ y ∷ rest → ⊥
  not_afresh y ys rest xs (inl none) silent e = let f = sym none ∙ e in cc
  not_afresh y ys rest xs (inr (packet, more, is)) silent e =
      let same = (heads (Send packet) y more rest (sym is ∙ e)).0 in
      silent-head packet ys (subst (λ (s : Step). sends_in (s ∷ ys) ≡ []) (sym same) silent)

  rest_same : (o p xs ys : List Step) → sends_in o ≡ [] → sends_in p ≡ [] → StartsAfresh xs → StartsAfresh ys → with_replies replies o ++ xs ≡ with_replies replies p ++ ys
      → (with_replies replies o ≡ with_replies replies p) × (xs ≡ ys)
  rest_same [] [] xs ys so sp fx fy e = (refl, e)
  rest_same [] (y ∷ p) xs ys so sp fx fy e =
      absurd (not_afresh y p ((own replies y ++ with_replies replies p) ++ ys) xs fx sp (e ∙ ap (λ (l : List Step). l ++ ys) (with-step replies y p)))
  rest_same (x ∷ o) [] xs ys so sp fx fy e =
      absurd (not_afresh x o ((own replies x ++ with_replies replies o) ++ xs) ys fy so (sym e ∙ ap (λ (l : List Step). l ++ xs) (with-step replies x o)))
  rest_same (x ∷ o) (y ∷ p) xs ys so sp fx fy e =
      let ox = own replies x in
      let oy = own replies y in
      let h = heads x y ((ox ++ with_replies replies o) ++ xs) ((oy ++ with_replies replies p) ++ ys)
      (ap (λ (l : List Step). l ++ xs) (sym (with-step replies x o)) ∙ e ∙ ap (λ (l : List Step). l ++ ys) (with-step replies y p)) in
      let tails : ox ++ (with_replies replies o ++ xs) ≡ ox ++ (with_replies replies p ++ ys) =
      sym (append_assoc ox (with_replies replies o) xs) ∙ h.1 ∙ append_assoc oy (with_replies replies p) ys ∙ ap (λ (s : Step). own replies s ++ (with_replies replies p ++ ys)) (sym h.0) in
      let t = rest_same o p xs ys (silent-tail x o so) (silent-tail y p sp) fx fy (append_cancel_left ox (with_replies replies o ++ xs) (with_replies replies p ++ ys) tails) in (
        with-step replies x o
            ∙ ap (λ (l : List Step). x ∷ (ox ++ l)) t.0
            ∙ ap (λ (s : Step). s ∷ (own replies s ++ with_replies replies p)) h.0
            ∙ sym (with-step replies y p),
        t.1,
      )

  module _ (request : Packet) where
    all_of : List (List Step) → List Step
    all_of rests = flat_map (λ rest. Send request ∷ rest) rests

    afresh : (rests : List (List Step)) → StartsAfresh (all_of rests)
    unfolding all_of
    afresh [] = inl refl
    afresh (rest ∷ rests) = inr (request, rest ++ all_of rests, refl)

    -- tries are cut in one way alone
    pub tries_same : (qs rs : List (List Step)) → AllByRecursion (RepliesAtOnce replies) qs → AllByRecursion (RepliesAtOnce replies) rs → flat_map (λ rest. Send request ∷ rest) qs ≡ flat_map (λ rest. Send request ∷ rest) rs → qs ≡ rs
    unfolding all_of
    tries_same [] [] aq ar e = refl
    tries_same [] (r ∷ rs) aq ar e = absurd cc
    tries_same (q ∷ qs) [] aq ar e = absurd cc
    tries_same (q ∷ qs) (r ∷ rs) aq ar e =
        let a = aq.0 in
        let b = ar.0 in
        let tails : q ++ all_of qs ≡ r ++ all_of rs = (heads (Send request) (Send request) (q ++ all_of qs) (r ++ all_of rs) e).1 in
        let s = rest_same a.others b.others (all_of qs) (all_of rs) a.silent b.silent (afresh qs) (afresh rs)
        (ap (λ (l : List Step). l ++ all_of qs) (sym a.steps_are) ∙ tails ∙ ap (λ (l : List Step). l ++ all_of rs) b.steps_are) in
        let first : q ≡ r = a.steps_are ∙ s.0 ∙ sym b.steps_are in
        ap (λ (l : List Step). l ∷ qs) first ∙ ap (λ (l : List (List Step)). r ∷ l) (tries_same qs rs aq.1 ar.1 s.1)

-- ---- the first match

pub record SameFirst {A : Type 0} (x y : A) (xs ys xs' ys' : List Step) : Type 0 where
  pub gives : x ≡ y
  pub parts : xs ≡ ys
  pub rests : xs' ≡ ys'

module _ {A : Type 0} (match : Packet → Option A) where
  unmatched-tail : (y : Step) (ys : List Step) → AreUnmatched match (got_in (y ∷ ys)) → AreUnmatched match (got_in ys)
  unmatched-tail (Get id packet) ys all = all.1
  unmatched-tail y ys all = all

  -- a packet that matches isn't among those that don't
  not_among : (id : ℕ) (packet : Packet) (x : A) (y : Step) (ys : List Step) → match packet ≡ Some x → Get id packet ≡ y → AreUnmatched match (got_in (y ∷ ys)) → ⊥
  not_among id packet x y ys matched same all =
      let here = (subst (λ (s : Step). AreUnmatched match (got_in (s ∷ ys))) (sym same) all).0 in
      let f = sym here ∙ matched in cc

  same_gets : (i j : ℕ) (p q : Packet) → Get i p ≡ Get j q → (p ≡ q) × (Get i p ≡ Get j q)
  same_gets i j p q e = (cc, e)

  same_some : (x y : A) (p q : Packet) → match p ≡ Some x → match q ≡ Some y → p ≡ q → x ≡ y
  same_some x y p q mx my e = let f = sym mx ∙ ap match e ∙ my in cc

  first_same : (b1 b2 : List Step) (i j : ℕ) (p q : Packet) (x y : A) (xs' ys' : List Step) → AreUnmatched match (got_in b1) → AreUnmatched match (got_in b2) → match p ≡ Some x → match q ≡ Some y
      → b1 ++ (Get i p ∷ xs') ≡ b2 ++ (Get j q ∷ ys') → SameFirst x y (b1 ++ Get i p ∷ []) (b2 ++ Get j q ∷ []) xs' ys'
  first_same [] [] i j p q x y xs' ys' u1 u2 mx my e =
      let h = heads (Get i p) (Get j q) xs' ys' e in
      record { gives = same_some x y p q mx my (same_gets i j p q h.0).0; parts = ap (λ (s : Step). s ∷ []) h.0; rests = h.1 }
  first_same [] (s ∷ b2) i j p q x y xs' ys' u1 u2 mx my e = absurd (not_among i p x s b2 mx (heads (Get i p) s xs' (b2 ++ (Get j q ∷ ys')) e).0 u2)
  first_same (s ∷ b1) [] i j p q x y xs' ys' u1 u2 mx my e = absurd (not_among j q y s b1 my (sym (heads s (Get j q) (b1 ++ (Get i p ∷ xs')) ys' e).0) u1)
  first_same (s ∷ b1) (t ∷ b2) i j p q x y xs' ys' u1 u2 mx my e =
      let h = heads s t (b1 ++ (Get i p ∷ xs')) (b2 ++ (Get j q ∷ ys')) e in
      let r = first_same b1 b2 i j p q x y xs' ys' (unmatched-tail s b1 u1) (unmatched-tail t b2 u2) mx my h.1 in
      record { gives = r.gives; parts = ap (λ (l : List Step). s ∷ l) r.parts ∙ ap (λ (u : Step). u ∷ (b2 ++ Get j q ∷ [])) h.0; rests = r.rests }

  -- of one part and of what follows there is one first match
  pub matched_same : (x y : A) (xs ys xs' ys' : List Step) → EndsMatched match x xs → EndsMatched match y ys → xs ++ xs' ≡ ys ++ ys' → SameFirst x y xs ys xs' ys'
  matched_same x y xs ys xs' ys' ex ey e =
      let r = first_same ex.before ey.before ex.id ey.id ex.packet ey.packet x y xs' ys' ex.unmatched ey.unmatched ex.matched ey.matched
      (sym (append_assoc ex.before (Get ex.id ex.packet ∷ []) xs') ∙ ap (λ (l : List Step). l ++ xs') (sym ex.cut) ∙ e ∙ ap (λ (l : List Step). l ++ ys') ey.cut ∙ append_assoc ey.before (Get ey.id ey.packet ∷ []) ys') in
      record { gives = r.gives; parts = ex.cut ∙ r.parts ∙ sym ey.cut; rests = r.rests }

  unmatched-split : (xs ys : List Step) → AreUnmatched match (got_in (xs ++ ys)) → AreUnmatched match (got_in xs) × AreUnmatched match (got_in ys)
  unmatched-split xs ys all = all_split (λ packet. match packet ≡ None) (got_in xs) (got_in ys) (subst (λ (l : List Packet). AreUnmatched match l) (got-append xs ys) all)

  -- where nothing that was got matches there is none
  pub matched_not : (x : A) (xs xs' part : List Step) → EndsMatched match x xs → part ≡ xs ++ xs' → AreUnmatched match (got_in part) → ⊥
  matched_not x xs xs' part ex cut all =
      let front = (unmatched-split xs xs' (subst (λ (l : List Step). AreUnmatched match (got_in l)) cut all)).0 in
      let last = (unmatched-split ex.before (Get ex.id ex.packet ∷ []) (subst (λ (l : List Step). AreUnmatched match (got_in l)) ex.cut front)).1 in
      let f = sym last.0 ∙ ex.matched in cc

-- ---- what came of a request

pub data Outcome (A : Type 0) : Type 0 where
  gave : A → Outcome A
  in_vain : Outcome A
  in_flood : Outcome A

-- all tries were in vain
pub record IsVain {A : Type 0} (request : Packet) (h : Hearing A) (tries : ℕ) (part : List Step) : Type 0 where
  pub rests : List (List Step)
  pub is : IsTries request h.replies rests part
  pub all : length rests ≡ tries
  pub calm : AllByRecursion (λ rest. length (got_in rest) < flood_limit) rests
  pub unmatched : AreUnmatched h.match (got_in part)

-- the last try got a flood
pub record IsFull {A : Type 0} (request : Packet) (h : Hearing A) (part : List Step) : Type 0 where
  pub before : List (List Step)
  pub last : List Step
  pub is : IsTries request h.replies (before ++ last ∷ []) part
  pub many : length (got_in last) ≡ flood_limit
  pub unmatched : AreUnmatched h.match (got_in part)

last_calm : (before : List (List Step)) (last : List Step) → AllByRecursion (λ rest. length (got_in rest) < flood_limit) (before ++ last ∷ []) → length (got_in last) < flood_limit
last_calm [] last all = all.0
last_calm (rest ∷ before) last all = last_calm before last all.1

not_both : {A : Type 0} (request : Packet) (h : Hearing A) (tries : ℕ) (part : List Step) → IsVain request h tries part → IsFull request h part → ⊥
not_both request h tries part v f =
    let same = tries_same h.replies request v.rests (f.before ++ f.last ∷ []) v.is.replied f.is.replied (sym v.is.cut ∙ f.is.cut) in
    let few = last_calm f.before f.last (subst (λ (l : List (List Step)). AllByRecursion (λ rest. length (got_in rest) < flood_limit) l) same v.calm) in
    omega (arith, few, f.many)

-- how the request ended in its own part, before what follows
abbrev pub Ended : {A : Type 0} → Packet → Hearing A → ℕ → Outcome A → List Step → List Step → Type 0
Ended request h tries (gave x) own rest = EndsMatched h.match x own
Ended request h tries in_vain own rest = IsVain request h tries own × (rest ≡ [])
Ended request h tries in_flood own rest = IsFull request h own × (rest ≡ [])

pub record SameOutcome {A : Type 0} (o p : Outcome A) (rest rest' : List Step) : Type 0 where
  pub outcome : o ≡ p
  pub rests : rest ≡ rest'

whole : (part own rest : List Step) → part ≡ own ++ rest → rest ≡ [] → part ≡ own
whole part own rest cut none = cut ∙ ap (λ (l : List Step). own ++ l) none ∙ append-nil own

-- two ends of a request in one part are the same
pub one_outcome : {A : Type 0} (request : Packet) (h : Hearing A) (tries : ℕ) (o p : Outcome A) (part own rest own' rest' : List Step) → part ≡ own ++ rest → part ≡ own' ++ rest' → Ended request h tries o own rest → Ended request h tries p own' rest'
    → SameOutcome o p rest rest'
one_outcome request h tries (gave x) (gave y) part own rest own' rest' cut cut' e f =
    let s = matched_same h.match x y own own' rest rest' e f (sym cut ∙ cut') in
    record { outcome = ap gave s.gives; rests = s.rests }
one_outcome request h tries (gave x) in_vain part own rest own' rest' cut cut' e f = absurd (matched_not h.match x own rest own' e (sym (whole part own' rest' cut' f.1) ∙ cut) f.0.unmatched)
one_outcome request h tries (gave x) in_flood part own rest own' rest' cut cut' e f = absurd (matched_not h.match x own rest own' e (sym (whole part own' rest' cut' f.1) ∙ cut) f.0.unmatched)
one_outcome request h tries in_vain (gave y) part own rest own' rest' cut cut' e f = absurd (matched_not h.match y own' rest' own f (sym (whole part own rest cut e.1) ∙ cut') e.0.unmatched)
one_outcome request h tries in_vain in_vain part own rest own' rest' cut cut' e f = record { outcome = refl; rests = e.1 ∙ sym f.1 }
one_outcome request h tries in_vain in_flood part own rest own' rest' cut cut' e f =
    absurd (not_both request h tries own e.0 (subst (λ (l : List Step). IsFull request h l) (sym (whole part own' rest' cut' f.1) ∙ whole part own rest cut e.1) f.0))
one_outcome request h tries in_flood (gave y) part own rest own' rest' cut cut' e f = absurd (matched_not h.match y own' rest' own f (sym (whole part own rest cut e.1) ∙ cut') e.0.unmatched)
one_outcome request h tries in_flood in_vain part own rest own' rest' cut cut' e f =
    absurd (not_both request h tries own' f.0 (subst (λ (l : List Step). IsFull request h l) (sym (whole part own rest cut e.1) ∙ whole part own' rest' cut' f.1) e.0))
one_outcome request h tries in_flood in_flood part own rest own' rest' cut cut' e f = record { outcome = refl; rests = e.1 ∙ sym f.1 }

-- ---- what follows a request

-- what comes of it all, by what came of the request
abbrev pub After : {A R : Type 0} → R → R → (A → List Step → R → Type 0) → Outcome A → List Step → R → Type 0
After vain full next (gave x) rest r = next x rest r
After vain full next in_vain rest r = r ≡ vain
After vain full next in_flood rest r = r ≡ full

-- the request ended so in the first steps of the part, and then this came of it all
pub record Went {A R : Type 0} (asked : Packet) (h : Hearing A) (tries : ℕ) (vain full : R) (next : A → List Step → R → Type 0) (part : List Step) (r : R) : Type 0 where
  pub outcome : Outcome A
  pub own : List Step
  pub rest : List Step
  pub cut : part ≡ own ++ rest
  pub ended : Ended asked h tries outcome own rest
  pub follows : After vain full next outcome rest r

pub went_one : {A R : Type 0} (asked : Packet) (h : Hearing A) (tries : ℕ) (vain full : R) (next other : A → List Step → R → Type 0) → ((x : A) (rest : List Step) (a b : R) → next x rest a → other x rest b → a ≡ b)
    → (part : List Step) (a b : R) → Went asked h tries vain full next part a → Went asked h tries vain full other part b → a ≡ b
went_one {A = A} asked h tries vain full next other one part a b v w =
    let s = one_outcome asked h tries v.outcome w.outcome part v.own v.rest w.own w.rest v.cut w.cut v.ended w.ended in
    by v.outcome v.rest v.follows (subst (λ o. After vain full other o v.rest b) (sym s.outcome) (subst (λ (l : List Step). After vain full other w.outcome l b) (sym s.rests) w.follows))
  where
    by : (o : Outcome A) (rest : List Step) → After vain full next o rest a → After vain full other o rest b → a ≡ b
    by (gave x) rest f g = one x rest a b f g
    by in_vain rest f g = f ∙ sym g
    by in_flood rest f g = f ∙ sym g

-- ---- in the words of the claims

pub is_vain : {A : Type 0} (settled : List Step → Type 0) (request : Packet) (h : Hearing A) (tries wait : ℕ) (part : List Step) → TimedOut settled request h tries wait part → IsVain request h tries part
is_vain settled request h tries wait part t = record { rests = t.rests; is = t.is; all = t.all; calm = t.vain.calm; unmatched = t.unmatched }

pub is_full : {A : Type 0} (settled : List Step → Type 0) (request : Packet) (h : Hearing A) (tries wait : ℕ) (part : List Step) → Flooded settled request h tries wait part → IsFull request h part
is_full settled request h tries wait part f = record { before = f.asks.before; last = f.asks.last; is = f.asks.is; many = f.many; unmatched = f.unmatched }

-- ---- a request with which it all ends

module _ {A R : Type 0} (settled : List Step → Type 0) (request : Packet) (h : Hearing A) (tries wait : ℕ) (vain full : R) (next : A → List Step → R → Type 0) (part : List Step) where
  pub went_in_vain : TimedOut settled request h tries wait part → Went request h tries vain full next part vain
  went_in_vain t = record { outcome = in_vain; own = part; rest = []; cut = sym (append-nil part); ended = (is_vain settled request h tries wait part t, refl); follows = refl }

  pub went_in_flood : Flooded settled request h tries wait part → Went request h tries vain full next part full
  went_in_flood f = record { outcome = in_flood; own = part; rest = []; cut = sym (append-nil part); ended = (is_full settled request h tries wait part f, refl); follows = refl }

  pub went_so : (x : A) (r : R) → Answered settled request h tries wait x part → next x [] r → Went request h tries vain full next part r
  went_so x r a follows = record { outcome = gave x; own = part; rest = []; cut = sym (append-nil part); ended = a.ends; follows = follows }
