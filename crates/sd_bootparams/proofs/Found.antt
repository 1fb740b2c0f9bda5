-- Each entry of a file is the one that is found.
use Rattle.std.proofs.Common.{◌≡◌, ◌&&◌, ◌||◌, Bool, true, false, not, cond, List, [], ◌∷◌, ◌++◌, map, Some, None, refl, ap, sym, ◌∙◌, subst, eq-eqb}
use Rattle.std.specs.List.{find, list_any}
use Rattle.sd_bootparams.specs.declared.params.Entry.{Entry}
use Rattle.sd_bootparams.specs.Contents.{Contents}
use Rattle.sd_bootparams.specs.declared.params.Why.TheVariants as why
use Rattle.sd_bootparams.specs.File.{Text, flat, Role, client, item_of, Part, entry_in, parts, nothing, adding, fault, fault_in, item_fault, same, has, is_text, key_of, value_of, server_of, path_of, is_too_long, has_key}
use Rattle.sd_bootparams.specs.Tables.{EntriesAreFound}

pub same_refl : (xs : Text) → same xs xs ≡ true
same_refl [] = refl
same_refl (x ∷ xs) = rw (eq-eqb x x refl) (same_refl xs)

both_true : (a b : Bool) → a ≡ true → b ≡ true → (a && b) ≡ true
both_true true true x y = refl
both_true true false x y = y
both_true false b x y = x

-- the first that passes
find_after : {X : Type 0} (q : X → Bool) (before : List X) (e : X) (after : List X) → list_any q before ≡ false → q e ≡ true → find q (before ++ (e ∷ after)) ≡ Some e
find_after q [] e after none is = rw is refl
find_after q (b ∷ before) e after none is = by_test (find_after q before e after) (q b) none
  where
    by_test : (list_any q before ≡ false → q e ≡ true → find q (before ++ (e ∷ after)) ≡ Some e) → (t : Bool) → (t || list_any q before) ≡ false → cond t (Some b) (find q (before ++ (e ∷ after))) ≡ Some e
    by_test more true h = absurd (cc)
    by_test more false h = more h is

-- an entry comes from a part
record Comes (ps : List Part) (before : List Entry) (e : Entry) : Type 0 where
  front : List Part
  part : Part
  back : List Part
  cut : ps ≡ front ++ (part ∷ back)
  earlier : flat (map entry_in front) ≡ before
  here : entry_in part ≡ e ∷ []

abbrev made : Text → Text → Entry
made c t = record { client = c; key = key_of t; server = server_of t; path = path_of t }

comes : (ps : List Part) (before : List Entry) (e : Entry) (after : List Entry) → flat (map entry_in ps) ≡ before ++ (e ∷ after) → Comes ps before e
comes [] [] e after h = absurd (cc)
comes [] (b ∷ before) e after h = absurd (cc)
comes (p ∷ ps) before e after h = by_role p.role refl (comes ps) before h
  where
    by_role : (r : Role) → p.role ≡ r → ((front : List Entry) (x : Entry) (back : List Entry) → flat (map entry_in ps) ≡ front ++ (x ∷ back) → Comes ps front x) → (front : List Entry) → flat (map entry_in (p ∷ ps)) ≡ front ++ (e ∷ after) → Comes (p ∷ ps) front e
    by_role client is more front k =
        let none : entry_in p ≡ [] = rw is refl in
        let m = more front e after (ap (λ (l : List Entry). l ++ flat (map entry_in ps)) (sym none) ∙ k) in
        record { front = p ∷ m.front; part = m.part; back = m.back; cut = ap (λ (l : List Part). p ∷ l) m.cut; earlier = ap (λ (l : List Entry). l ++ flat (map entry_in m.front)) none ∙ m.earlier; here = m.here }
    by_role (item_of c) is more [] k =
        let one : entry_in p ≡ made c p.text ∷ [] = rw is refl in
        let all : made c p.text ∷ flat (map entry_in ps) ≡ e ∷ after = ap (λ (l : List Entry). l ++ flat (map entry_in ps)) (sym one) ∙ k in
        let same_one : made c p.text ≡ e = cc in
        record { front = []; part = p; back = ps; cut = refl; earlier = refl; here = one ∙ ap (λ (x : Entry). x ∷ []) same_one }
    by_role (item_of c) is more (b ∷ front) k =
        let one : entry_in p ≡ made c p.text ∷ [] = rw is refl in
        let all : made c p.text ∷ flat (map entry_in ps) ≡ b ∷ (front ++ (e ∷ after)) = ap (λ (l : List Entry). l ++ flat (map entry_in ps)) (sym one) ∙ k in
        let same_one : made c p.text ≡ b = cc in
        let rest : flat (map entry_in ps) ≡ front ++ (e ∷ after) = cc in
        let m = more front e after rest in
        record { front = p ∷ m.front; part = m.part; back = m.back; cut = ap (λ (l : List Part). p ∷ l) m.cut; earlier = ap (λ (l : List Entry). l ++ flat (map entry_in m.front)) (one ∙ ap (λ (x : Entry). x ∷ []) same_one) ∙ ap (λ (l : List Entry). b ∷ l) m.earlier; here = m.here }

passes : (a b d e f : Bool) → cond (not a) (Some why.NotText) (cond (not b) (Some why.NoEquals) (cond (not d) (Some why.NoColon) (cond e (Some why.TooLong) (cond f (Some why.DoubleKey) None)))) ≡ None → f ≡ false
passes false b d e f h = absurd (cc)
passes true false d e f h = absurd (cc)
passes true true false e f h = absurd (cc)
passes true true true true f h = absurd (cc)
passes true true true false true h = absurd (cc)
passes true true true false false h = refl

-- a part that gives an entry and has no fault: no entry before has its client and key
is_new : (old : Contents) (p : Part) (e : Entry) → fault old p ≡ None → entry_in p ≡ e ∷ [] → has_key old e.client e.key ≡ false
is_new old p e none here = by_role p.role refl
  where
    by_role : (r : Role) → p.role ≡ r → has_key old e.client e.key ≡ false
    by_role client is =
        let nothing_here : entry_in p ≡ [] = rw is refl in
        absurd (cc)
    by_role (item_of c) is =
        let one : entry_in p ≡ made c p.text ∷ [] = rw is refl in
        let same_one : made c p.text ≡ e = cc in
        let faultless : item_fault old c p.text ≡ None = sym (ap (λ (r : Role). fault_in old r p.text) is) ∙ none in
        subst (λ (x : Entry). has_key old x.client x.key ≡ false) same_one (passes (is_text p.text) (has 61 p.text) (has 58 (value_of p.text)) (is_too_long (key_of p.text) (server_of p.text) (path_of p.text)) (has_key old c (key_of p.text)) faultless)

pub entries_are_found : EntriesAreFound
entries_are_found text params before e after file is =
    let m = comes (parts text) before e after (sym (ap (λ (q : Contents). q.entries) file.says) ∙ is) in
    let new = is_new (adding nothing m.front) m.part e (file.faultless m.front m.part m.back m.cut) m.here in
    let q = λ (x : Entry). same x.client e.client && same x.key e.key in
    let none : list_any q before ≡ false = subst (λ (l : List Entry). list_any q l ≡ false) m.earlier new in
    subst (λ (l : List Entry). find q l ≡ Some e) (sym is) (find_after q before e after none (both_true _ _ (same_refl e.client) (same_refl e.key)))
