-- What the sessions do at a tick, by what their senders answer.
use Rattle.std.proofs.Common.{◌≡◌, ◌⊎◌, inl, inr, ℕ, zero, suc, ◌+◌, ◌<◌, ◌≤◌, Bool, true, false, cond, List, [], ◌∷◌, ◌++◌, length, map, take, get_or, refl, sym, ap, ◌∙◌, subst, arith}
use Rattle.std.specs.Prelude.{nat_lt, ◌||◌}
use Rattle.std.specs.List.{flat_map, list_any, filter, AllByRecursion}
use Rattle.std.proofs.lemmas.Bool.{false≢true}
use Rattle.sd_outside.specs.declared.packet.Packet.{Packet}
use Rattle.sd_tftp.specs.Transfer.{Transfer, resent, over}
use Rattle.sd_tftp.specs.SenderTurn as sending
use Rattle.sd_tftp.specs.Sending.{Ticks}
use Rattle.sd_tftp.specs.declared.step.SenderTick.{SenderTick}
use Rattle.sd_tftp.specs.declared.step.SenderTick.TheVariants as says
use Rattle.sd_tftp.proofs.Again.{ticks_is_tick}
use Rattle.sd_config.specs.declared.config.Config.{Config}
use Rattle.sd_services.specs.Part.{Session}
use Rattle.sd_services.specs.Sessions.{is_due, sent_again, block_packet}
use Rattle.sd_server.specs.declared.sessions.Sending.{Sending}
use Rattle.sd_server.specs.Sessions.{session_of, IsSending, AreSessions, Ascends}
use Rattle.sd_server.specs.Stepping.{sending_with}
use Rattle.sd_server.specs.declared.ticking.Due.{Due}
use Rattle.sd_server.specs.Ticks.{after_tick, sent_at, due_of, dues, Ascending}
use Rattle.sd_server.specs.Ticking.{kept_as, sending_kept, due_at}

abbrev pub sent_as : Config → Sending → SenderTick → List Packet
sent_as c s says.Rest = []
sent_as c s (says.Resend number) = block_packet c (session_of c s) ∷ []
sent_as c s says.Ended = []

module _ (c : Config) (tick : ℕ) (s : Sending) (is : IsSending c s) where
  sent_by_test : (b m : Bool) → is_due c tick (session_of c s) ≡ b → nat_lt s.sender.sends c.tries ≡ m → sent_at c tick (session_of c s) ≡ cond b (cond m (block_packet c (session_of c s) ∷ []) []) []
  sent_by_test b m e k = (λ i. cond (e i) (cond (k i) (block_packet c (session_of c s) ∷ []) []) [])

  pub sent_so : (says : SenderTick) (new : Transfer) → Ticks s.sender tick c.wait c.tries says new → sent_at c tick (session_of c s) ≡ sent_as c s says
  sent_so says.Rest new (same, inl ended) = absurd (false≢true (sym is.going ∙ ended))
  sent_so says.Rest new (same, inr early) = sent_by_test false (nat_lt s.sender.sends c.tries) (grind (arith, early)) refl
  sent_so (says.Resend n) new t = sent_by_test true true (grind (arith, t.2)) (grind (arith, t.3))
  sent_so says.Ended new t = sent_by_test true false (grind (arith, t.2)) (grind (arith, t.3))

  pub kept_so : (says : SenderTick) (new : Transfer) → Ticks s.sender tick c.wait c.tries says new → sending_kept c tick s ≡ kept_as s says new
  kept_so says new t =
      let same = (ticks_is_tick s.sender tick c.wait c.tries says new).0 t in
      (λ i. kept_as s (sym same.0 i) (sym same.1 i))

pub append_none : {A : Type 0} (x : List A) → x ++ [] ≡ x
append_none [] = refl
append_none {A} (a ∷ x) = ap (λ (l : List A). a ∷ l) (append_none x)

append_so : {A : Type 0} (x y z : List A) → (x ++ y) ++ z ≡ x ++ (y ++ z)
append_so [] y z = refl
append_so {A} (a ∷ x) y z = ap (λ (l : List A). a ∷ l) (append_so x y z)

-- one item more
flat_suc : {A B : Type 0} (f : A → List B) (xs : List A) (i : ℕ) (d : A) → i < length xs → flat_map f (take (suc i) xs) ≡ flat_map f (take i xs) ++ f (get_or xs i d)
flat_suc f [] i d lt = absurd (omega (arith, lt))
flat_suc f (x ∷ xs) zero d lt = append_none (f x)
flat_suc {B = B} f (x ∷ xs) (suc i) d lt = ap (λ (l : List B). f x ++ l) (flat_suc f xs i d (omega (arith, lt))) ∙ sym (append_so (f x) (flat_map f (take i xs)) (f (get_or xs i d)))

pub flat_next : {A B : Type 0} (f : A → List B) (xs : List A) (i : ℕ) (d : A) → i < length xs → flat_map f (take (i + 1) xs) ≡ flat_map f (take i xs) ++ f (get_or xs i d)
flat_next f xs i d lt = let one : i + 1 ≡ suc i = omega arith in ap (λ (n : ℕ). flat_map f (take n xs)) one ∙ flat_suc f xs i d lt

-- ---- what holds of the sessions that are left

-- a session is kept as one of the same number, or not at all
data Keeps (c : Config) (s : Sending) : List Sending → Type 0 where
  gone : Keeps c s []
  stays : (t : Sending) → t.number ≡ s.number → IsSending c t → Keeps c s (t ∷ [])

keeps_as : (c : Config) (tick : ℕ) (s : Sending) → IsSending c s → (t : sending.Tick) → sending.tick s.sender tick c.wait c.tries ≡ t → Keeps c s (sending_kept c tick s)
unfolding sending.tick
keeps_as c tick s is t e =
    subst (λ (b : Bool). Keeps c s (of b (nat_lt tick (s.sender.sent_at + c.wait)) (nat_lt s.sender.sends c.tries))) (sym is.going) (kept (nat_lt tick (s.sender.sent_at + c.wait)) (nat_lt s.sender.sends c.tries))
  where
    of : Bool → Bool → Bool → List Sending
    of a b d =
        let x : sending.Tick = cond a (record { says = says.Rest; becomes = s.sender }) (cond b (record { says = says.Rest; becomes = s.sender }) (cond d (record { says = says.Resend s.sender.block; becomes = resent s.sender tick }) (record { says = says.Ended; becomes = over s.sender }))) in
        kept_as s x.says x.becomes

    kept : (b d : Bool) → Keeps c s (of false b d)
    kept true d = stays s refl is
    kept false true = stays _ refl (record { peer = is.peer; going = is.going; block = is.block; filed = is.filed })
    kept false false = gone

keeps : (c : Config) (tick : ℕ) (s : Sending) → IsSending c s → Keeps c s (sending_kept c tick s)
keeps c tick s is = keeps_as c tick s is (sending.tick s.sender tick c.wait c.tries) refl

all_append : (P : Sending → Type 0) (xs ys : List Sending) → AllByRecursion P xs → AllByRecursion P ys → AllByRecursion P (xs ++ ys)
all_append P [] ys one two = two
all_append P (x ∷ xs) ys one two = (one.0, all_append P xs ys one.1 two)

module _ (c : Config) (f : Sending → List Sending) (so : (s : Sending) → IsSending c s → Keeps c s (f s)) where
  kept_one : (s : Sending) (l : List Sending) → Keeps c s l → AllByRecursion (IsSending c) l
  kept_one s _ gone = tt
  kept_one s _ (stays t number is) = (is, tt)

  kept_all : (xs : List Sending) → AllByRecursion (IsSending c) xs → AllByRecursion (IsSending c) (flat_map f xs)
  kept_all [] all = tt
  kept_all (x ∷ xs) all = all_append (IsSending c) (f x) (flat_map f xs) (kept_one x (f x) (so x all.0)) (kept_all xs all.1)

  above_one : (n : ℕ) (s : Sending) (l : List Sending) → Keeps c s l → n < s.number → AllByRecursion (λ (t : Sending). n < t.number) l
  above_one n s _ gone lt = tt
  above_one n s _ (stays t number is) lt = (omega (arith, number, lt), tt)

  above_all : (n : ℕ) (xs : List Sending) → AllByRecursion (IsSending c) xs → AllByRecursion (λ (t : Sending). n < t.number) xs → AllByRecursion (λ (t : Sending). n < t.number) (flat_map f xs)
  above_all n [] all lt = tt
  above_all n (x ∷ xs) all lt = all_append (λ (t : Sending). n < t.number) (f x) (flat_map f xs) (above_one n x (f x) (so x all.0) lt.0) (above_all n xs all.1 lt.1)

  ascends_one : (made : ℕ) (s : Sending) (l rest : List Sending) → Keeps c s l → s.number < made → AllByRecursion (λ (t : Sending). s.number < t.number) rest → Ascends made rest → Ascends made (l ++ rest)
  ascends_one made s _ rest gone lt above asc = asc
  ascends_one made s _ rest (stays t number is) lt above asc = (omega (arith, number, lt), subst (λ (n : ℕ). AllByRecursion (λ (u : Sending). n < u.number) rest) (sym number) above, asc)

  ascends_all : (made : ℕ) (xs : List Sending) → AllByRecursion (IsSending c) xs → Ascends made xs → Ascends made (flat_map f xs)
  ascends_all made [] all asc = tt
  ascends_all made (x ∷ xs) all asc = ascends_one made x (f x) (flat_map f xs) (so x all.0) asc.0 (above_all x.number xs all.1 asc.1) (ascends_all made xs all.1 asc.2)

  few_one : (s : Sending) (l rest : List Sending) (n : ℕ) → Keeps c s l → length rest ≤ n → length (l ++ rest) ≤ suc n
  few_one s _ rest n gone le = omega (arith, le)
  few_one s _ rest n (stays t number is) le = omega (arith, le)

  few_all : (xs : List Sending) → AllByRecursion (IsSending c) xs → length (flat_map f xs) ≤ length xs
  few_all [] all = omega arith
  few_all (x ∷ xs) all = few_one x (f x) (flat_map f xs) (length xs) (so x all.0) (few_all xs all.1)

-- what holds of a server's sessions holds after a tick
pub sessions_after : (c : Config) (tick : ℕ) (xs : List Sending) (made : ℕ) → AreSessions c xs made → AreSessions c (flat_map (sending_kept c tick) xs) made
sessions_after c tick xs made are = record {
  each = kept_all c (sending_kept c tick) (keeps c tick) xs are.each;
  numbers = ascends_all c (sending_kept c tick) (keeps c tick) made xs are.each are.numbers;
  few = omega (arith, are.few, few_all c (sending_kept c tick) (keeps c tick) xs are.each);
}

-- ---- as the world sees them

module _ (c : Config) (tick : ℕ) (s : Sending) (is : IsSending c s) where
  after_by_test : (b m : Bool) → is_due c tick (session_of c s) ≡ b → nat_lt s.sender.sends c.tries ≡ m → after_tick c tick (session_of c s) ≡ cond b (cond m (sent_again tick (session_of c s) ∷ []) []) (session_of c s ∷ [])
  after_by_test b m e k = (λ i. cond (e i) (cond (k i) (sent_again tick (session_of c s) ∷ []) []) (session_of c s ∷ []))

  seen_as : (says : SenderTick) (new : Transfer) → Ticks s.sender tick c.wait c.tries says new → map (session_of c) (kept_as s says new) ≡ after_tick c tick (session_of c s)
  seen_as says.Rest new (same, inl ended) = absurd (false≢true (sym is.going ∙ ended))
  seen_as says.Rest new (same, inr early) = sym (after_by_test false (nat_lt s.sender.sends c.tries) (grind (arith, early)) refl)
  seen_as (says.Resend n) new t =
      ap (λ (x : Transfer). session_of c (sending_with s x) ∷ []) t.0 ∙ sym (after_by_test true true (grind (arith, t.2)) (grind (arith, t.3)))
  seen_as says.Ended new t = sym (after_by_test true false (grind (arith, t.2)) (grind (arith, t.3)))

  seen_one : map (session_of c) (sending_kept c tick s) ≡ after_tick c tick (session_of c s)
  seen_one =
      let t = sending.tick s.sender tick c.wait c.tries in
      seen_as t.says t.becomes ((ticks_is_tick s.sender tick c.wait c.tries t.says t.becomes).1 (refl, refl))

map_append : {A B : Type 0} (f : A → B) (xs ys : List A) → map f (xs ++ ys) ≡ map f xs ++ map f ys
map_append f [] ys = refl
map_append {B = B} f (x ∷ xs) ys = ap (λ (l : List B). f x ∷ l) (map_append f xs ys)

pub seen_after : (c : Config) (tick : ℕ) (xs : List Sending) → AllByRecursion (IsSending c) xs → map (session_of c) (flat_map (sending_kept c tick) xs) ≡ flat_map (after_tick c tick) (map (session_of c) xs)
seen_after c tick [] all = refl
seen_after c tick (x ∷ xs) all =
    map_append (session_of c) (sending_kept c tick x) (flat_map (sending_kept c tick) xs)
    ∙ ap (λ (l : List Session). l ++ map (session_of c) (flat_map (sending_kept c tick) xs)) (seen_one c tick x all.0)
    ∙ ap (λ (l : List Session). after_tick c tick (session_of c x) ++ l) (seen_after c tick xs all.1)

pub sent_after : (c : Config) (tick : ℕ) (xs : List Sending) → flat_map (λ s. sent_at c tick (session_of c s)) xs ≡ flat_map (sent_at c tick) (map (session_of c) xs)
sent_after c tick [] = refl
sent_after c tick (x ∷ xs) = ap (λ (l : List Packet). sent_at c tick (session_of c x) ++ l) (sent_after c tick xs)

above_map : (c : Config) (n : ℕ) (xs : List Sending) → AllByRecursion (λ (t : Sending). n < t.number) xs → AllByRecursion (λ (t : Session). n < t.number) (map (session_of c) xs)
above_map c n [] all = tt
above_map c n (x ∷ xs) all = (all.0, above_map c n xs all.1)

pub ascending_of : (c : Config) (made : ℕ) (xs : List Sending) → Ascends made xs → Ascending (map (session_of c) xs)
ascending_of c made [] asc = tt
ascending_of c made (x ∷ xs) asc = (above_map c x.number xs asc.1, ascending_of c made xs asc.2)

-- ---- what is due

pub any_seen : (c : Config) (tick : ℕ) (xs : List Sending) → list_any (λ s. is_due c tick (session_of c s)) xs ≡ list_any (is_due c tick) (map (session_of c) xs)
any_seen c tick [] = refl
any_seen c tick (x ∷ xs) = ap (λ (b : Bool). is_due c tick (session_of c x) || b) (any_seen c tick xs)

pub dues_seen : (c : Config) (tick : ℕ) (xs : List Sending) → flat_map (λ s. due_at c tick (session_of c s)) xs ≡ dues c tick (map (session_of c) xs)
dues_seen c tick [] = refl
dues_seen c tick (x ∷ xs) = of (is_due c tick (session_of c x)) (dues_seen c tick xs)
  where
    of : (b : Bool) → flat_map (λ s. due_at c tick (session_of c s)) xs ≡ dues c tick (map (session_of c) xs)
        → cond b (due_of c (session_of c x) ∷ []) [] ++ flat_map (λ s. due_at c tick (session_of c s)) xs
        ≡ map (due_of c) (cond b (session_of c x ∷ filter (is_due c tick) (map (session_of c) xs)) (filter (is_due c tick) (map (session_of c) xs)))
    of true rest = ap (λ (l : List Due). due_of c (session_of c x) ∷ l) rest
    of false rest = rest
