-- An index beside a list, when an item is added.
use Rattle.std.proofs.Common.{◌≡◌, ℕ, Bool, true, false, not, cond, ◌&&◌, ◌||◌, List, [], ◌∷◌, ◌++◌, Result, Ok, Err, refl, sym, ap, subst, ◌∙◌, Vec}
use Rattle.std.specs.Prelude.{IfOk, OnOk, OnErr}
use Rattle.std.specs.Bool.{OnFalse}
use Rattle.std.specs.declared.alloc.Global.{Global}
use Rattle.std.specs.declared.cmp.Ordering.{Ordering}
use Rattle.std.specs.List.{list_any}
use Rattle.std.specs.Ordering.{is_eq, nat_cmp, ordering_then}
use Rattle.std.specs.Cmp.{tied_then}
use Rattle.std.specs.Cmp.Lexicographic.{slice_cmp, texts_ties}
use Rattle.std.specs.BTreeMap.{is_at}
use Rattle.std.specs.BTreeSet.{BTreeSet, contains, contains_by, IsUnchanged, Updates}
use Rattle.sd_bootparams.specs.declared.params.Entry.{Entry}
use Rattle.sd_bootparams.specs.declared.known.ItemName.{ItemName}
use Rattle.sd_bootparams.specs.File.{Text, same}
use Rattle.sd_bootparams.specs.Known.{name_cmp, item_cmp, AreNames, AreItemNames}

-- whether one of a list passes, where one is added at the end
any_more : {X : Type 0} (p : X → Bool) (xs : List X) (x : X) → list_any p (xs ++ (x ∷ [])) ≡ cond (p x) true (list_any p xs)
any_more p [] x = of (p x)
  where
    of : (v : Bool) → (v || false) ≡ cond v true false
    of true = refl
    of false = refl
any_more p (y ∷ ys) x = ap (λ (v : Bool). p y || v) (any_more p ys x) ∙ of (p y) (p x) (list_any p ys)
  where
    of : (u v w : Bool) → (u || cond v true w) ≡ cond v true (u || w)
    of true true w = refl
    of true false w = refl
    of false v w = refl

-- the order tells names apart
name_is : (a b : Vec ℕ Global) → is_at (name_cmp a) b ≡ same a.items b.items
name_is a b = sym (texts_ties a.items b.items)

item_is : (a b : ItemName) → is_at (item_cmp a) b ≡ (same a.client.items b.client.items && same a.key.items b.key.items)
item_is a b = sym (tied_then (name_cmp a.client b.client) (name_cmp a.key b.key)) ∙ (λ i. name_is a.client b.client i && name_is a.key b.key i)

unchanged : {K : Type 0} (cmp : K → K → Ordering) (old new : BTreeSet K) (k : K) → IsUnchanged old new → contains cmp new k ≡ contains cmp old k
unchanged {K} cmp old new k e = ap (λ (ks : List K). list_any (is_at (cmp k)) ks) e

-- ---- clients

is_new_name : (names : BTreeSet (Vec ℕ Global)) (clients : List Text) (name : Vec ℕ Global) (client : Text) → AreNames names clients → name.items ≡ client
    → not (contains name_cmp names name) ≡ not (list_any (λ c. same c client) clients)
is_new_name names clients name client h e = ap not (h name ∙ ap (λ (t : Text). list_any (λ c. same c t) clients) e)

pub is_new_client : {E : Type 0} (r : Result Bool E) (names : BTreeSet (Vec ℕ Global)) (clients : List Text) (name : Vec ℕ Global) (client : Text) → AreNames names clients → name.items ≡ client
    → IfOk r (λ is_new. is_new ≡ not (contains name_cmp names name)) → IfOk r (λ is_new. is_new ≡ not (list_any (λ c. same c client) clients))
is_new_client (Ok v) names clients name client h e k = k ∙ is_new_name names clients name client h e
is_new_client (Err x) names clients name client h e k = tt

names_grow : (old new : BTreeSet (Vec ℕ Global)) (clients : List Text) (added : Vec ℕ Global) (client : Text) → AreNames old clients → added.items ≡ client → Updates name_cmp old new added true
    → AreNames new (clients ++ (client ∷ []))
names_grow old new clients added client h e u name =
    u.0 name
    ∙ (λ i. cond (name_is added name i) true (h name i))
    ∙ ap (λ (t : Text). cond (same t name.items) true (list_any (λ c. same c name.items) clients)) e
    ∙ sym (any_more (λ c. same c name.items) clients client)

names_stay : (old new : BTreeSet (Vec ℕ Global)) (clients now : List Text) → AreNames old clients → IsUnchanged old new → now ≡ clients → AreNames new now
names_stay old new clients now h e is name = unchanged name_cmp old new name e ∙ h name ∙ ap (λ (l : List Text). list_any (λ c. same c name.items) l) (sym is)

-- the index has the names of the clients that are there then
pub names_are : {E : Type 0} (r : Result Bool E) (old new : BTreeSet (Vec ℕ Global)) (clients now : List Text) (added : Vec ℕ Global) (client : Text) → AreNames old clients → added.items ≡ client
    → IfOk r (λ is_new. now ≡ cond is_new (clients ++ (client ∷ [])) clients) → OnOk r (Updates name_cmp old new added true) → IfOk r (λ is_new. OnFalse is_new (IsUnchanged old new))
    → OnErr r ((now ≡ clients) × IsUnchanged old new) → AreNames new now
names_are (Ok true) old new clients now added client h e is u k f = subst (AreNames new) (sym is) (names_grow old new clients added client h e u)
names_are (Ok false) old new clients now added client h e is u k f = names_stay old new clients now h k is
names_are (Err x) old new clients now added client h e is u k f = names_stay old new clients now h f.1 f.0

-- ---- items

abbrev pub has_item : Text → Text → List Entry → Bool
has_item client key entries = list_any (λ e. same e.client client && same e.key key) entries

pub is_new_item : {E : Type 0} (r : Result Bool E) (names : BTreeSet ItemName) (entries : List Entry) (name : ItemName) (client key : Text) → AreItemNames names entries → name.client.items ≡ client → name.key.items ≡ key
    → IfOk r (λ is_new. is_new ≡ not (contains item_cmp names name)) → IfOk r (λ is_new. is_new ≡ not (has_item client key entries))
is_new_item (Ok v) names entries name client key h e g k = k ∙ ap not (h name ∙ (λ i. has_item (e i) (g i) entries))
is_new_item (Err x) names entries name client key h e g k = tt

item_names_grow : (old new : BTreeSet ItemName) (entries : List Entry) (added : ItemName) (entry : Entry) → AreItemNames old entries → added.client.items ≡ entry.client → added.key.items ≡ entry.key
    → Updates item_cmp old new added true → AreItemNames new (entries ++ (entry ∷ []))
item_names_grow old new entries added entry h e g u name =
    let here = λ (x : Entry). same x.client name.client.items && same x.key name.key.items in
    u.0 name
    ∙ (λ i. cond (item_is added name i) true (h name i))
    ∙ (λ i. cond (same (e i) name.client.items && same (g i) name.key.items) true (list_any here entries))
    ∙ sym (any_more here entries entry)

item_names_stay : (old new : BTreeSet ItemName) (entries now : List Entry) → AreItemNames old entries → IsUnchanged old new → now ≡ entries → AreItemNames new now
item_names_stay old new entries now h e is name = unchanged item_cmp old new name e ∙ h name ∙ ap (has_item name.client.items name.key.items) (sym is)

-- the index has the names of the items that are there then
pub item_names_are : {E : Type 0} (r : Result Bool E) (old new : BTreeSet ItemName) (entries now : List Entry) (added : ItemName) (entry : Entry) → AreItemNames old entries → added.client.items ≡ entry.client → added.key.items ≡ entry.key
    → IfOk r (λ is_new. now ≡ cond is_new (entries ++ (entry ∷ [])) entries) → OnOk r (Updates item_cmp old new added true) → IfOk r (λ is_new. OnFalse is_new (IsUnchanged old new))
    → OnErr r ((now ≡ entries) × IsUnchanged old new) → AreItemNames new now
item_names_are (Ok true) old new entries now added entry h e g is u k f = subst (AreItemNames new) (sym is) (item_names_grow old new entries added entry h e g u)
item_names_are (Ok false) old new entries now added entry h e g is u k f = item_names_stay old new entries now h k is
item_names_are (Err x) old new entries now added entry h e g is u k f = item_names_stay old new entries now h f.1 f.0
