-- No client has two lines.
use Rattle.std.proofs.Common.{◌≡◌, ◌||◌, Bool, true, false, not, cond, nat_lt, List, [], ◌∷◌, ◌++◌, length, map, None, Some, refl, ap, sym, ◌∙◌, subst, append_assoc}
use Rattle.std.specs.List.{list_any}
use Rattle.sd_bootparams.specs.Contents.{Contents}
use Rattle.sd_bootparams.specs.declared.params.Why.TheVariants as why
use Rattle.sd_bootparams.specs.Layout.{name_limit}
use Rattle.sd_bootparams.specs.File.{Text, flat, Role, client, item_of, Part, client_in, parts, nothing, adding, fault, fault_in, client_fault, same, has, is_text, has_client}
use Rattle.sd_bootparams.specs.FileLaws.{ClientsDiffer}
use Rattle.sd_bootparams.proofs.Found.{same_refl}

-- a client comes from a part
record Comes (ps : List Part) (before : List Text) (c : Text) : Type 0 where
  front : List Part
  part : Part
  back : List Part
  cut : ps ≡ front ++ (part ∷ back)
  earlier : flat (map client_in front) ≡ before
  here : client_in part ≡ c ∷ []

comes : (ps : List Part) (before : List Text) (c : Text) (after : List Text) → flat (map client_in ps) ≡ before ++ (c ∷ after) → Comes ps before c
comes [] [] c after h = absurd (cc)
comes [] (b ∷ before) c after h = absurd (cc)
comes (p ∷ ps) before c after h = by_role p.role refl (comes ps) before h
  where
    by_role : (r : Role) → p.role ≡ r → ((front : List Text) (x : Text) (back : List Text) → flat (map client_in ps) ≡ front ++ (x ∷ back) → Comes ps front x) → (front : List Text) → flat (map client_in (p ∷ ps)) ≡ front ++ (c ∷ after) → Comes (p ∷ ps) front c
    by_role (item_of of_client) is more front k =
        let none : client_in p ≡ [] = rw is refl in
        let m = more front c after (ap (λ (l : List Text). l ++ flat (map client_in ps)) (sym none) ∙ k) in
        record { front = p ∷ m.front; part = m.part; back = m.back; cut = ap (λ (l : List Part). p ∷ l) m.cut; earlier = ap (λ (l : List Text). l ++ flat (map client_in m.front)) none ∙ m.earlier; here = m.here }
    by_role client is more [] k =
        let one : client_in p ≡ p.text ∷ [] = rw is refl in
        let all : p.text ∷ flat (map client_in ps) ≡ c ∷ after = ap (λ (l : List Text). l ++ flat (map client_in ps)) (sym one) ∙ k in
        let same_one : p.text ≡ c = cc in
        record { front = []; part = p; back = ps; cut = refl; earlier = refl; here = one ∙ ap (λ (x : Text). x ∷ []) same_one }
    by_role client is more (b ∷ front) k =
        let one : client_in p ≡ p.text ∷ [] = rw is refl in
        let all : p.text ∷ flat (map client_in ps) ≡ b ∷ (front ++ (c ∷ after)) = ap (λ (l : List Text). l ++ flat (map client_in ps)) (sym one) ∙ k in
        let same_one : p.text ≡ b = cc in
        let rest : flat (map client_in ps) ≡ front ++ (c ∷ after) = cc in
        let m = more front c after rest in
        record { front = p ∷ m.front; part = m.part; back = m.back; cut = ap (λ (l : List Part). p ∷ l) m.cut; earlier = ap (λ (l : List Text). l ++ flat (map client_in m.front)) (one ∙ ap (λ (x : Text). x ∷ []) same_one) ∙ ap (λ (l : List Text). b ∷ l) m.earlier; here = m.here }

passes : (a b d f : Bool) → cond (not a) (Some why.NotText) (cond b (Some why.NoName) (cond d (Some why.TooLong) (cond f (Some why.DoubleClient) None))) ≡ None → f ≡ false
passes false b d f h = absurd (cc)
passes true true d f h = absurd (cc)
passes true false true f h = absurd (cc)
passes true false false true h = absurd (cc)
passes true false false false h = refl

-- a client without a fault has no line before
is_new : (old : Contents) (p : Part) (c : Text) → fault old p ≡ None → client_in p ≡ c ∷ [] → has_client old c ≡ false
is_new old p c none here = by_role p.role refl
  where
    by_role : (r : Role) → p.role ≡ r → has_client old c ≡ false
    by_role (item_of of_client) is =
        let nothing_here : client_in p ≡ [] = rw is refl in
        absurd (cc)
    by_role client is =
        let one : client_in p ≡ p.text ∷ [] = rw is refl in
        let same_one : p.text ≡ c = cc in
        let faultless : client_fault old p.text ≡ None = sym (ap (λ (r : Role). fault_in old r p.text) is) ∙ none in
        subst (λ (x : Text). has_client old x ≡ false) same_one (passes (is_text p.text) (has 61 p.text) (nat_lt name_limit (length p.text)) (has_client old p.text) faultless)

has_it : (q : Text → Bool) (before : List Text) (c : Text) (after : List Text) → q c ≡ true → list_any q (before ++ (c ∷ after)) ≡ true
has_it q [] c after is = rw is refl
has_it q (b ∷ before) c after is = by_test (q b) (has_it q before c after is)
  where
    by_test : (t : Bool) → list_any q (before ++ (c ∷ after)) ≡ true → (t || list_any q (before ++ (c ∷ after))) ≡ true
    by_test true more = refl
    by_test false more = more

pub clients_differ_of : ClientsDiffer
clients_differ_of text params before between after c file is =
    let m = comes (parts text) (before ++ (c ∷ between)) c after (sym (ap (λ (q : Contents). q.clients) file.says) ∙ is ∙ sym (append_assoc before (c ∷ between) (c ∷ after))) in
    let new = is_new (adding nothing m.front) m.part c (file.faultless m.front m.part m.back m.cut) m.here in
    let none : list_any (λ (x : Text). same x c) (before ++ (c ∷ between)) ≡ false = subst (λ (l : List Text). list_any (λ (x : Text). same x c) l ≡ false) m.earlier new in
    let some = has_it (λ (x : Text). same x c) before c between (same_refl c) in
    cc
