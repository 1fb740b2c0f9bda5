-- What is due at a tick.
use Rattle.std.proofs.Common.{◌≡◌, ℕ, suc, ◌+◌, ◌<◌, Bool, true, false, cond, List, [], ◌∷◌, ◌++◌, length, get_or, take, map, ◌==◌, Some, refl, sym, ◌∙◌, ap, subst, arith, append_assoc, length-append, length-take}
use Rattle.std.specs.Prelude.{slice_get, IsTrue}
use Rattle.std.specs.List.{filter, flat_map, enumerate_from, AllByRecursion}
use Rattle.std.proofs.lemmas.List.{take_more, map-append, append-nil}
use Rattle.sd_outside.specs.declared.packet.Packet.{Packet}
use Rattle.sd_config.specs.declared.config.Config.{Config}
use Rattle.sd_config.specs.declared.events.Fate.{Fate}
use Rattle.sd_config.specs.Events.{Fates, fate_in}
use Rattle.sd_link.specs.World.{World, Flying, Sender}
use Rattle.sd_link.specs.Steps.{IsDeliverable}
use Rattle.sd_link.specs.Lawful.{due}
use Rattle.sd_segment.specs.declared.flown.Flown.{Flown}
use Rattle.sd_segment.specs.Flight.{flying_of, delays_of, copies, copies_to, AllFated}
use Rattle.sd_segment.proofs.Fates.{fated-at, AllTimely, IsTimely}

-- what is due of these packets, whose ids count from this one
abbrev pub due_from : (Sender → Packet → Bool) → Fates → ℕ → List Flying → ℕ → List ℕ
due_from goes fates id flight tick = flat_map (λ e. copies_to goes tick (fates e.0) e) (enumerate_from id flight)

due_from-append : (goes : Sender → Packet → Bool) (fates : Fates) (id : ℕ) (xs ys : List Flying) (tick : ℕ) → due_from goes fates id (xs ++ ys) tick ≡ due_from goes fates id xs tick ++ due_from goes fates (id + length xs) ys tick
due_from-append goes fates id [] ys tick = let here : id ≡ id + 0 = omega arith in ap (λ (n : ℕ). due_from goes fates n ys tick) here
due_from-append goes fates id (x ∷ xs) ys tick =
    let here : id + 1 + length xs ≡ id + length (x ∷ xs) = omega arith in
    let first = copies_to goes tick (fates id) (id, x) in
    ap (λ (l : List ℕ). first ++ l) (due_from-append goes fates (id + 1) xs ys tick)
    ∙ ap (λ (n : ℕ). first ++ (due_from goes fates (id + 1) xs tick ++ due_from goes fates n ys tick)) here
    ∙ sym (append_assoc first (due_from goes fates (id + 1) xs tick) (due_from goes fates (id + length (x ∷ xs)) ys tick))

pub due-append : (goes : Sender → Packet → Bool) (fates : Fates) (xs ys : List Flying) (tick : ℕ) → due goes fates (xs ++ ys) tick ≡ due goes fates xs tick ++ due_from goes fates (length xs) ys tick
due-append goes fates xs ys tick =
    let here : 0 + length xs ≡ length xs = omega arith in
    due_from-append goes fates 0 xs ys tick ∙ ap (λ (n : ℕ). due goes fates xs tick ++ due_from goes fates n ys tick) here

-- one packet more
pub due_more : (goes : Sender → Packet → Bool) (fates : List Fate) (flight : List Flown) (tick i : ℕ) (f : Flown) (old new : List ℕ)
    → i < length flight → f ≡ get_or flight i f → AllFated fates 0 flight
    → old ≡ due goes (fate_in fates) (map flying_of (take i flight)) tick
    → new ≡ old ++ copies_to goes tick (delays_of fates f.fate) (i, flying_of f)
    → new ≡ due goes (fate_in fates) (map flying_of (take (i + 1) flight)) tick
due_more goes fates flight tick i f old new lt at all was is =
    let xs = map flying_of (take i flight) in
    let x = flying_of f in
    let wide : length xs ≡ i = length-map (take i flight) ∙ omega (arith, length-take i flight) in
    let here : 0 + i ≡ i = omega arith in
    let fate : delays_of fates f.fate ≡ fate_in fates i = fated-at fates 0 flight i f all lt at ∙ ap (λ (n : ℕ). fate_in fates n) here in
    let more : take (i + 1) flight ≡ take i flight ++ f ∷ [] = take_more flight i f lt ∙ ap (λ (y : Flown). take i flight ++ y ∷ []) (sym at) in
    is
    ∙ ap (λ (l : List ℕ). l ++ copies_to goes tick (delays_of fates f.fate) (i, x)) was
    ∙ ap (λ (l : List ℕ). due goes (fate_in fates) xs tick ++ copies_to goes tick l (i, x)) fate
    ∙ ap (λ (n : ℕ). due goes (fate_in fates) xs tick ++ copies_to goes tick (fate_in fates n) (n, x)) (sym wide)
    ∙ ap (λ (l : List ℕ). due goes (fate_in fates) xs tick ++ l) (sym (append-nil (copies_to goes tick (fate_in fates (length xs)) (length xs, x))))
    ∙ sym (due-append goes (fate_in fates) xs (x ∷ []) tick)
    ∙ ap (λ (l : List Flying). due goes (fate_in fates) l tick) (sym (map-append flying_of (take i flight) (f ∷ [])))
    ∙ ap (λ (l : List Flown). due goes (fate_in fates) (map flying_of l) tick) (sym more)
  where
    length-map : (l : List Flown) → length (map flying_of l) ≡ length l
    length-map [] = refl
    length-map (y ∷ ys) = ap suc (length-map ys)

-- ---- a packet that was sent at this tick isn't due

no_copies : (id tick : ℕ) (life : ℕ) (delays : List ℕ) → AllTimely life delays → copies id tick tick delays ≡ []
no_copies id tick life [] all = refl
no_copies id tick life (d ∷ ds) all =
    let later : (tick + d == tick) ≡ false = grind (arith, all.0.0) in
    ap (λ (b : Bool). map (λ (e : ℕ). id) (cond b (d ∷ filter (λ e. tick + e == tick) ds) (filter (λ e. tick + e == tick) ds))) later ∙ no_copies id tick life ds all.1

no_copies_to : (goes : Sender → Packet → Bool) (life id : ℕ) (fates : Fates) (x : Flying) → IsTimely life fates → copies_to goes x.tick (fates id) (id, x) ≡ []
no_copies_to goes life id fates x t = of (goes x.from x.packet)
  where
    of : (b : Bool) → cond b (copies id x.tick x.tick (fates id)) [] ≡ []
    of true = no_copies id x.tick life (fates id) (t.delays id)
    of false = refl

pub due_fresh : (goes : Sender → Packet → Bool) (life id : ℕ) (fates : Fates) (xs : List Flying) (tick : ℕ) → IsTimely life fates → AllByRecursion (λ x. x.tick ≡ tick) xs → due_from goes fates id xs tick ≡ []
due_fresh goes life id fates [] tick t all = refl
due_fresh goes life id fates (x ∷ xs) tick t all =
    ap (λ (l : List ℕ). l ++ due_from goes fates (id + 1) xs tick) (subst (λ (n : ℕ). copies_to goes n (fates id) (id, x) ≡ []) all.0 (no_copies_to goes life id fates x t))
    ∙ due_fresh goes life (id + 1) fates xs tick t all.1

-- ---- what is due may be delivered

pub record IsComing (c : Config) (w : World) (goes : Sender → Packet → Bool) (id : ℕ) : Type 0 where
  pub f : Flying
  pub here : IsDeliverable c w id f
  pub goes_there : IsTrue (goes f.from f.packet)

copies_all : (P : ℕ → Type 0) (id sent tick life : ℕ) (delays : List ℕ) → AllTimely life delays → (tick < sent + life → P id) → AllByRecursion P (copies id sent tick delays)
copies_all P id sent tick life [] all young = tt
copies_all P id sent tick life (d ∷ ds) all young = of (sent + d == tick) refl (copies_all P id sent tick life ds all.1 young)
  where
    of : (b : Bool) → (sent + d == tick) ≡ b → AllByRecursion P (copies id sent tick ds)
        → AllByRecursion P (map (λ e. id) (cond b (d ∷ filter (λ e. sent + e == tick) ds) (filter (λ e. sent + e == tick) ds)))
    of true is rest = (young (grind (arith, all.0.1)), rest)
    of false is rest = rest

all-append : (P : ℕ → Type 0) (xs ys : List ℕ) → AllByRecursion P xs → AllByRecursion P ys → AllByRecursion P (xs ++ ys)
all-append P [] ys first second = second
all-append P (x ∷ xs) ys first second = (first.0, all-append P xs ys first.1 second)

pub all-suffix : (P : ℕ → Type 0) (xs ys : List ℕ) → AllByRecursion P (xs ++ ys) → AllByRecursion P ys
all-suffix P [] ys all = all
all-suffix P (x ∷ xs) ys all = all-suffix P xs ys all.1

get-last : {A : Type 0} (xs : List A) (x : A) (ys : List A) → slice_get (xs ++ x ∷ ys) (length xs) ≡ Some x
get-last [] x ys = refl
get-last (y ∷ xs) x ys = get-last xs x ys

coming_from : (c : Config) (w : World) (goes : Sender → Packet → Bool) (fates : Fates) (front back : List Flying) → IsTimely c.life fates → w.flight ≡ front ++ back
    → AllByRecursion (IsComing c w goes) (due_from goes fates (length front) back w.tick)
coming_from c w goes fates front [] t is = tt
coming_from c w goes fates front (x ∷ back) t is =
    let longer : length (front ++ x ∷ []) ≡ length front + 1 = length-append front (x ∷ []) in
    let rest = coming_from c w goes fates (front ++ x ∷ []) back t (is ∙ sym (append_assoc front (x ∷ []) back)) in
    all-append (IsComing c w goes) _ _ (of (goes x.from x.packet) refl) (subst (λ (n : ℕ). AllByRecursion (IsComing c w goes) (due_from goes fates n back w.tick)) longer rest)
  where
    of : (b : Bool) → goes x.from x.packet ≡ b → AllByRecursion (IsComing c w goes) (cond b (copies (length front) x.tick w.tick (fates (length front))) [])
    of true goes_there =
        copies_all (IsComing c w goes) (length front) x.tick w.tick c.life (fates (length front)) (t.delays (length front))
        (λ young. record { f = x; here = record { sent = ap (λ (l : List Flying). slice_get l (length front)) is ∙ get-last front x back; young = young }; goes_there = goes_there })
    of false goes_there = tt

pub all_coming : (c : Config) (w : World) (goes : Sender → Packet → Bool) (fates : Fates) → IsTimely c.life fates → AllByRecursion (IsComing c w goes) (due goes fates w.flight w.tick)
all_coming c w goes fates t = coming_from c w goes fates [] w.flight t refl
