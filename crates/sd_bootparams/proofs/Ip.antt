-- The spellings of an address.
use Rattle.std.proofs.Common.{◌≡◌, ℕ, ◌+◌, ◌-◌, ◌^◌, ◌/◌, ◌%◌, ◌<◌, ◌≤◌, Bool, true, false, ltb, leb, ◌||◌, List, ◌++◌, refl, ap, sym, subst, ◌∙◌, arith, ◌⊎◌, inl, inr}
use Rattle.sd_xdr.specs.Kind.{Word, between, char, allows, meaning, End, part, Kind, word, ◌&◌, Value, number, ◌⊗◌}
use Rattle.sd_xdr.specs.Grammar.{word_bytes, Reads, reads_word, reads_row}
use Rattle.sd_bootparams.specs.Layout.{ip, ip_value}
use Rattle.sd_bootparams.specs.Laws.{IsChar, SpellsIp, IpSpellings}

record Row {e : End} (A : Kind part) (B : Kind e) (bs : List ℕ) (x y : Value) : Type 0 where
  front : List ℕ
  back : List ℕ
  is : bs ≡ front ++ back
  reads_front : Reads part A front x
  reads_back : Reads e B back y

row_of : {e : End} {A : Kind part} {B : Kind e} {bs : List ℕ} {x y : Value} → Reads e (A & B) bs (x ⊗ y) → Row A B bs x y
row_of (reads_row {front = front} {bs = bs} s t) = record { front = front; back = bs; is = refl; reads_front = s; reads_back = t }

record WordOf (w : Word) (bs : List ℕ) (m : ℕ) : Type 0 where
  n : ℕ
  below : n < 2 ^ 32
  allowed : allows w n ≡ true
  is : bs ≡ word_bytes n
  means : meaning w n ≡ m

word_of : {w : Word} {bs : List ℕ} {m : ℕ} → Reads part (word w) bs (number m) → WordOf w bs m
word_of (reads_word n lt h) = record { n = n; below = lt; allowed = h; is = refl; means = refl }

-- a char
char_is : (byte n : ℕ) → n < 2 ^ 32 → allows char n ≡ true → meaning char n ≡ byte → IsChar byte n
char_is byte n lt h e = (omega (arith, e), by_test (ltb n 256) refl h)
  where
    low : (a : ℕ) → ltb a 256 ≡ true → a < 256
    low a t = grind arith

    high : (a : ℕ) → leb (2 ^ 32 - 128) a ≡ true → 2 ^ 32 - 128 ≤ a
    high a t = grind arith

    by_test : (t : Bool) → ltb n 256 ≡ t → (t || leb (2 ^ 32 - 128) n) ≡ true → (n ≡ byte) ⊎ ((128 ≤ byte) × (n ≡ byte + (2 ^ 32 - 256)))
    by_test true is k = let small = low n is in inl (omega (arith, e, small))
    by_test false is k = let great = high n k in inr (omega (arith, e, great, lt), omega (arith, e, great, lt))

char_read : (byte n : ℕ) → IsChar byte n → Reads part (word char) (word_bytes n) (number byte)
char_read byte n (small, inl is) =
    let w : Reads part (word char) (word_bytes n) (number (n % 256)) = reads_word n (omega (arith, small, is)) (low n (omega (arith, small, is))) in
    subst (λ (k : ℕ). Reads part (word char) (word_bytes n) (number k)) (omega (arith, small, is)) w
  where
    low : (a : ℕ) → a < 256 → (ltb a 256 || leb (2 ^ 32 - 128) a) ≡ true
    low a t = grind arith
char_read byte n (small, inr is) =
    let w : Reads part (word char) (word_bytes n) (number (n % 256)) = reads_word n (omega (arith, small, is)) (high n (omega (arith, small, is))) in
    subst (λ (k : ℕ). Reads part (word char) (word_bytes n) (number k)) (omega (arith, small, is)) w
  where
    high : (a : ℕ) → 2 ^ 32 - 128 ≤ a → (ltb a 256 || leb (2 ^ 32 - 128) a) ≡ true
    high a t = grind arith

spells : (address : ℕ) (bs : List ℕ) → Reads part ip bs (ip_value address) → SpellsIp bs address
spells address bs h =
    let a = row_of h in
    let b = row_of a.reads_back in
    let c = row_of b.reads_back in
    let d = row_of c.reads_back in
    let one = word_of a.reads_front in
    let net = word_of b.reads_front in
    let host = word_of c.reads_front in
    let lh = word_of d.reads_front in
    let impno = word_of d.reads_back in
    record {
      net = net.n;
      host = host.n;
      lh = lh.n;
      impno = impno.n;
      is = a.is
          ∙ (λ i. (one.is ∙ ap word_bytes one.means) i ++ (b.is ∙ (λ j. net.is j ++ (c.is ∙ (λ k. host.is k ++ (d.is ∙ (λ l. lh.is l ++ impno.is l)) k)) j)) i);
      is_net = char_is (address / 2 ^ 24) net.n net.below net.allowed net.means;
      is_host = char_is (address / 2 ^ 16 % 256) host.n host.below host.allowed host.means;
      is_lh = char_is (address / 2 ^ 8 % 256) lh.n lh.below lh.allowed lh.means;
      is_impno = char_is (address % 256) impno.n impno.below impno.allowed impno.means;
    }

spelled : (address : ℕ) (bs : List ℕ) → SpellsIp bs address → Reads part ip bs (ip_value address)
spelled address bs s =
    subst (λ (u : List ℕ). Reads part ip u (ip_value address)) (sym s.is)
    (reads_row (reads_word {w = between 1 1} 1 (omega arith) refl)
    (reads_row (char_read (address / 2 ^ 24) s.net s.is_net)
    (reads_row (char_read (address / 2 ^ 16 % 256) s.host s.is_host)
    (reads_row (char_read (address / 2 ^ 8 % 256) s.lh s.is_lh)
    (char_read (address % 256) s.impno s.is_impno)))))

pub ip_spellings_of : IpSpellings
ip_spellings_of address bs = (λ h. spells address bs h, λ s. spelled address bs s)
