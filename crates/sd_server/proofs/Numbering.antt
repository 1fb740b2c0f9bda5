-- What holds of a server's sessions stays so, and how the world sees them.
use Rattle.std.proofs.Common.{◌≡◌, ℕ, zero, suc, ◌+◌, ◌-◌, ◌<◌, ◌≤◌, Bool, true, false, cond, not, List, [], ◌∷◌, ◌++◌, length, drop, map, ◌==◌, if◌then◌else◌, refl, sym, ◌∙◌, ap, subst, arith, length-append, length-drop}
use Rattle.std.specs.List.{filter, AllByRecursion}
use Rattle.std.proofs.lemmas.List.{map-append, length-map}
use Rattle.sd_config.specs.declared.config.Config.{Config}
use Rattle.sd_services.specs.Part.{Session}
use Rattle.sd_services.specs.Sessions.{with_session, without_session}
use Rattle.sd_server.specs.declared.sessions.Sending.{Sending}
use Rattle.sd_server.specs.Sessions.{session_of, IsSending, AreSessions, Ascends}

-- the session with this number becomes this
abbrev pub put_over : Sending → List Sending → List Sending
put_over new xs = map (λ s. if s.number == new.number then new else s) xs

-- ---- all of a list

all-push : {A : Type 0} (P : A → Type 0) (xs : List A) (x : A) → AllByRecursion P xs → P x → AllByRecursion P (xs ++ x ∷ [])
all-push P [] x all one = (one, tt)
all-push P (y ∷ ys) x all one = (all.0, all-push P ys x all.1 one)

all-drop : {A : Type 0} (P : A → Type 0) (n : ℕ) (xs : List A) → AllByRecursion P xs → AllByRecursion P (drop n xs)
all-drop P zero xs all = all
all-drop P (suc n) [] all = tt
all-drop P (suc n) (x ∷ xs) all = all-drop P n xs all.1

pub all-filter : {A : Type 0} (P : A → Type 0) (p : A → Bool) (xs : List A) → AllByRecursion P xs → AllByRecursion P (filter p xs)
all-filter P p [] all = tt
all-filter P p (x ∷ xs) all = of (p x) (all-filter P p xs all.1)
  where
    of : (b : Bool) → AllByRecursion P (filter p xs) → AllByRecursion P (cond b (x ∷ filter p xs) (filter p xs))
    of true rest = (all.0, rest)
    of false rest = rest

all-put : (P : Sending → Type 0) (new : Sending) (xs : List Sending) → P new → AllByRecursion P xs → AllByRecursion P (put_over new xs)
all-put P new [] one all = tt
all-put P new (x ∷ xs) one all = (of (x.number == new.number), all-put P new xs one all.1)
  where
    of : (b : Bool) → P (cond b new x)
    of true = one
    of false = all.0

length-filter : {A : Type 0} (p : A → Bool) (xs : List A) → length (filter p xs) ≤ length xs
length-filter p [] = omega arith
length-filter p (x ∷ xs) = of (p x) (length-filter p xs)
  where
    of : (b : Bool) → length (filter p xs) ≤ length xs → length (cond b (x ∷ filter p xs) (filter p xs)) ≤ length (x ∷ xs)
    of true le = omega (arith, le)
    of false le = omega (arith, le)

-- ---- numbers

same_number : (new x : Sending) → (if x.number == new.number then new else x).number ≡ x.number
same_number new x = of (x.number == new.number) refl
  where
    of : (b : Bool) → (x.number == new.number) ≡ b → (cond b new x).number ≡ x.number
    of true is = let same : x.number ≡ new.number = grind (arith, is) in sym same
    of false is = refl

above-put : (n : ℕ) (new : Sending) (xs : List Sending) → AllByRecursion (λ t. n < t.number) xs → AllByRecursion (λ t. n < t.number) (put_over new xs)
above-put n new [] all = tt
above-put n new (x ∷ xs) all = (subst (λ m. n < m) (sym (same_number new x)) all.0, above-put n new xs all.1)

ascends-put : (made : ℕ) (new : Sending) (xs : List Sending) → Ascends made xs → Ascends made (put_over new xs)
ascends-put made new [] a = tt
ascends-put made new (x ∷ xs) a =
    let same = sym (same_number new x) in
    (subst (λ n. n < made) same a.0, subst (λ n. AllByRecursion (λ t. n < t.number) (put_over new xs)) same (above-put x.number new xs a.1), ascends-put made new xs a.2)

ascends-filter : (made : ℕ) (p : Sending → Bool) (xs : List Sending) → Ascends made xs → Ascends made (filter p xs)
ascends-filter made p [] a = tt
ascends-filter made p (x ∷ xs) a = of (p x) (ascends-filter made p xs a.2)
  where
    of : (b : Bool) → Ascends made (filter p xs) → Ascends made (cond b (x ∷ filter p xs) (filter p xs))
    of true rest = (a.0, all-filter (λ t. x.number < t.number) p xs a.1, rest)
    of false rest = rest

ascends-drop : (made n : ℕ) (xs : List Sending) → Ascends made xs → Ascends made (drop n xs)
ascends-drop made zero xs a = a
ascends-drop made (suc n) [] a = tt
ascends-drop made (suc n) (x ∷ xs) a = ascends-drop made n xs a.2

ascends-push : (made : ℕ) (new : Sending) (xs : List Sending) → new.number ≡ made → Ascends made xs → Ascends (made + 1) (xs ++ new ∷ [])
ascends-push made new [] is a = (omega (arith, is), tt, tt)
ascends-push made new (x ∷ xs) is a = (omega (arith, a.0), all-push (λ t. x.number < t.number) xs new a.1 (omega (arith, is, a.0)), ascends-push made new xs is a.2)

-- ---- what holds of a server

pub sound-put : (c : Config) (new : Sending) (xs : List Sending) (made : ℕ) → AreSessions c xs made → IsSending c new → AreSessions c (put_over new xs) made
sound-put c new xs made i one = record {
  each = all-put (IsSending c) new xs one i.each;
  numbers = ascends-put made new xs i.numbers;
  few = omega (arith, i.few, length-map xs (λ s. if s.number == new.number then new else s));
}

pub sound-end : (c : Config) (number : ℕ) (xs : List Sending) (made : ℕ) → AreSessions c xs made → AreSessions c (filter (λ s. not (s.number == number)) xs) made
sound-end c number xs made i = record {
  each = all-filter (IsSending c) (λ s. not (s.number == number)) xs i.each;
  numbers = ascends-filter made (λ s. not (s.number == number)) xs i.numbers;
  few = omega (arith, i.few, length-filter (λ (s : Sending). not (s.number == number)) xs);
}

pub sound-begin : (c : Config) (new : Sending) (xs : List Sending) (made : ℕ) → AreSessions c xs made → new.number ≡ made → IsSending c new → AreSessions c (drop (length xs - 15) xs ++ new ∷ []) (made + 1)
sound-begin c new xs made i is one = record {
  each = all-push (IsSending c) (drop (length xs - 15) xs) new (all-drop (IsSending c) (length xs - 15) xs i.each) one;
  numbers = ascends-push made new (drop (length xs - 15) xs) is (ascends-drop made (length xs - 15) xs i.numbers);
  few = omega (arith, i.few, length-append (drop (length xs - 15) xs) (new ∷ []), length-drop (length xs - 15) xs);
}

-- ---- as the world sees them

pub seen-put : (c : Config) (new : Sending) (xs : List Sending) → map (session_of c) (put_over new xs) ≡ with_session (session_of c new) (map (session_of c) xs)
seen-put c new [] = refl
seen-put c new (x ∷ xs) = of (x.number == new.number) (seen-put c new xs)
  where
    of : (b : Bool) → map (session_of c) (put_over new xs) ≡ with_session (session_of c new) (map (session_of c) xs)
        → session_of c (cond b new x) ∷ map (session_of c) (put_over new xs) ≡ cond b (session_of c new) (session_of c x) ∷ with_session (session_of c new) (map (session_of c) xs)
    of true so = ap (λ (l : List Session). session_of c new ∷ l) so
    of false so = ap (λ (l : List Session). session_of c x ∷ l) so

pub seen-end : (c : Config) (number : ℕ) (xs : List Sending) → map (session_of c) (filter (λ s. not (s.number == number)) xs) ≡ without_session number (map (session_of c) xs)
seen-end c number [] = refl
seen-end c number (x ∷ xs) = of (not (x.number == number)) (seen-end c number xs)
  where
    of : (b : Bool) → map (session_of c) (filter (λ s. not (s.number == number)) xs) ≡ without_session number (map (session_of c) xs)
        → map (session_of c) (cond b (x ∷ filter (λ s. not (s.number == number)) xs) (filter (λ s. not (s.number == number)) xs)) ≡ cond b (session_of c x ∷ without_session number (map (session_of c) xs)) (without_session number (map (session_of c) xs))
    of true so = ap (λ (l : List Session). session_of c x ∷ l) so
    of false so = so

map-drop : {A B : Type 0} (f : A → B) (n : ℕ) (xs : List A) → map f (drop n xs) ≡ drop n (map f xs)
map-drop f zero xs = refl
map-drop f (suc n) [] = refl
map-drop f (suc n) (x ∷ xs) = map-drop f n xs

pub seen-begin : (c : Config) (new : Sending) (xs : List Sending) → map (session_of c) (drop (length xs - 15) xs ++ new ∷ []) ≡ drop (length (map (session_of c) xs) - 15) (map (session_of c) xs) ++ session_of c new ∷ []
seen-begin c new xs =
    map-append (session_of c) (drop (length xs - 15) xs) (new ∷ [])
    ∙ ap (λ (l : List Session). l ++ session_of c new ∷ []) (map-drop (session_of c) (length xs - 15) xs)
    ∙ ap (λ (n : ℕ). drop (n - 15) (map (session_of c) xs) ++ session_of c new ∷ []) (sym (length-map xs (session_of c)))
