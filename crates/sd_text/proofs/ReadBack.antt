-- What is written is read again.
use Rattle.std.proofs.Common.{◌≡◌, ◌≢◌, ℕ, zero, suc, ◌/◌, ◌%◌, ◌<◌, ◌≤◌, ◌^◌, true, false, not, List, [], ◌∷◌, ◌++◌, length, map, get_or, replicate, refl, ap, sym, ◌∙◌, subst, inl, inr, ◌⊎◌, arith, eqb, leb, append_assoc, length-append, add-one}
use Rattle.std.specs.List.{All, AllByRecursion, flat_map, join_with_byte, list_all}
use Rattle.std.specs.Fmt.{decimal}
use Rattle.std.specs.Prelude.{codes}
use Rattle.std.specs.Int.{IsInRange, w32, to_be_bytes}
use Rattle.sd_outside.specs.declared.packet.Addr.{Addr}
use Rattle.sd_outside.specs.declared.packet.Packet.TheVariants.{Frame, Udp}
use Rattle.sd_text.specs.Packets.{packet_text, AddrFits, IsPacket, IsPacketLine}
use Rattle.sd_outside.specs.declared.packet.Packet.{Packet}
use Rattle.std.proofs.lemmas.Bool.{eq-eqb, ne_eqb, cases_eq, cases_Bool, leb-true, false≢true, and_parts, not-true}
use Rattle.std.proofs.lemmas.List.{get_or_default, length-replicate}
use Rattle.std.proofs.lemmas.List.Elements.{All-append, All-cons, All-nil, All-weaker}
use Rattle.std.proofs.lemmas.List.Splits.{slice_split_at, slice_split_none}
use Rattle.std.proofs.lemmas.Fmt.{decimal_is_IsNumeral}
use Rattle.std.proofs.lemmas.Str.Parse.{digit_at}
use Rattle.hex.specs.Hex.{IsBytes, encode_lower}
use Rattle.sd_text.specs.Texts.{Text, ip_text, addr_text, cut, IsIp, IsAddr}
use Rattle.sd_text.specs.Values.{is_lower_digit}
use Rattle.sd_text.specs.Runs.{Item, pairs, repeated, item_text, onto_runs, maximal_runs, before, items_of_runs, normal_items, runs_text, item_bytes, IsItem, IsItems, IsRuns}
use Rattle.sd_text.proofs.HexCase.{encoded_lower}
use Rattle.sd_text.proofs.WriteLemmas.{some_items}

-- the text has no byte c
abbrev pub Lacks : ℕ → Text → Type 0
Lacks c text = All (λ b. eqb b c ≡ false) text

-- texts without the separator, joined and cut again
pub cut_joined : (c : ℕ) (x : Text) (xs : List Text) → AllByRecursion (Lacks c) (x ∷ xs) → cut c (join_with_byte c (x ∷ xs)) ≡ x ∷ xs
cut_joined c x [] h = slice_split_none (λ b. eqb b c) x h.0
cut_joined c x (y ∷ ys) h = slice_split_at (λ b. eqb b c) x c (join_with_byte c (y ∷ ys)) h.0 (eq-eqb c c refl) ∙ ap (λ (r : List Text). x ∷ r) (cut_joined c y ys h.1)

pub decimal_lacks : (c n : ℕ) → n < 2 ^ 64 → (c < 48) ⊎ (57 < c) → Lacks c (decimal n)
decimal_lacks c n small out = λ k d h.
    let digits = (decimal_is_IsNumeral n small).0.1 in
    let range : IsInRange 48 57 (get_or (decimal n) k 0) = digit_at (decimal n) k digits h in
    let same = get_or_default (decimal n) k d 0 h in
    ne_eqb _ _ (λ e. omega (arith, range.0, range.1, same, e, out))

pub digits_lack : (c : ℕ) (bytes : List ℕ) → IsBytes bytes → is_lower_digit c ≡ false → Lacks c (encode_lower bytes)
digits_lack c bytes small other = All-weaker (λ b. is_lower_digit b ≡ true) (λ b. eqb b c ≡ false) (λ b low. ne_eqb b c (λ e. false≢true (sym other ∙ rw e at low))) (encode_lower bytes) (encoded_lower bytes small)

byte_small : (b : ℕ) → b < 256 → IsBytes (b ∷ [])
byte_small b h zero = h
byte_small b h (suc i) = omega arith

pub item_lacks : (c : ℕ) (item : Item) → IsItem item → is_lower_digit c ≡ false → (c < 48) ⊎ (57 < c) → c ≢ 42 → Lacks c (item_text item)
item_lacks c (pairs bytes) is other out star = digits_lack c bytes is.1 other
item_lacks c (repeated b n) is other out star =
    All-append (λ x. eqb x c ≡ false) (encode_lower (b ∷ [])) (42 ∷ decimal n) (digits_lack c (b ∷ []) (byte_small b is.0) other)
    (All-cons (λ x. eqb x c ≡ false) 42 (decimal n) (ne_eqb 42 c (λ e. star (sym e))) (decimal_lacks c n is.2 out))

pub items_lack : (c : ℕ) (items : List Item) → AllByRecursion IsItem items → is_lower_digit c ≡ false → (c < 48) ⊎ (57 < c) → c ≢ 42 → AllByRecursion (Lacks c) (map item_text items)
items_lack c [] h other out star = tt
items_lack c (item ∷ items) h other out star = (item_lacks c item h.0 other out star, items_lack c items h.1 other out star)

-- the bytes for which items stand
abbrev pub bytes_of : List Item → List ℕ
bytes_of items = flat_map item_bytes items

items_stand : (items : List Item) → AllByRecursion IsItem items → IsItems (map item_text items) (bytes_of items)
items_stand [] h = refl
items_stand (item ∷ items) h = (item, bytes_of items, h.0, refl, refl, items_stand items h.1)

-- The items of some bytes stand for them.

abbrev pub run_bytes : ℕ × ℕ → List ℕ
run_bytes run = replicate run.1 run.0

onto_bytes : (b : ℕ) (runs : List (ℕ × ℕ)) → flat_map run_bytes (onto_runs b runs) ≡ b ∷ flat_map run_bytes runs
onto_bytes b [] = refl
onto_bytes b (run ∷ runs) = elim (cases_eq b run.0) [
  | inl same ↦ rw (eq-eqb b run.0 same, add-one, sym same) refl
  | inr other ↦ rw (ne_eqb b run.0 other) refl
]

runs_bytes : (bytes : List ℕ) → flat_map run_bytes (maximal_runs bytes) ≡ bytes
runs_bytes [] = refl
runs_bytes (b ∷ bytes) = onto_bytes b (maximal_runs bytes) ∙ ap (λ (r : List ℕ). b ∷ r) (runs_bytes bytes)

before_bytes : (bytes : List ℕ) (items : List Item) → bytes_of (before bytes items) ≡ bytes ++ bytes_of items
before_bytes bytes [] = refl
before_bytes bytes (pairs more ∷ items) = append_assoc bytes more (bytes_of items)
before_bytes bytes (repeated b n ∷ items) = refl

items_bytes : (runs : List (ℕ × ℕ)) → bytes_of (items_of_runs runs) ≡ flat_map run_bytes runs
items_bytes [] = refl
items_bytes (run ∷ runs) = elim (cases_Bool (leb 4 run.1)) [
  | inl long ↦ rw long (ap (λ (r : List ℕ). replicate run.1 run.0 ++ r) (items_bytes runs))
  | inr short ↦ rw short (before_bytes (replicate run.1 run.0) (items_of_runs runs) ∙ ap (λ (r : List ℕ). replicate run.1 run.0 ++ r) (items_bytes runs))
]

normal_bytes : (bytes : List ℕ) → bytes_of (normal_items bytes) ≡ bytes
normal_bytes bytes = items_bytes (maximal_runs bytes) ∙ runs_bytes bytes

-- They are items.

-- an item, but for the bound on how often it repeats its byte
abbrev pub IsLoose : Item → Type 0
IsLoose (pairs bytes) = (0 < length bytes) × IsBytes bytes
IsLoose (repeated b n) = (b < 256) × (2 ≤ n)

abbrev pub IsRun : ℕ × ℕ → Type 0
IsRun run = (run.0 < 256) × (1 ≤ run.1)

onto_are : (b : ℕ) (runs : List (ℕ × ℕ)) → b < 256 → AllByRecursion IsRun runs → AllByRecursion IsRun (onto_runs b runs)
onto_are b [] small h = ((small, omega arith), tt)
onto_are b (run ∷ runs) small h = elim (cases_eq b run.0) [
  | inl same ↦ rw (eq-eqb b run.0 same) ((small, omega arith), h.1)
  | inr other ↦ rw (ne_eqb b run.0 other) ((small, omega arith), h)
]

runs_are : (bytes : List ℕ) → IsBytes bytes → AllByRecursion IsRun (maximal_runs bytes)
runs_are [] small = tt
runs_are (b ∷ bytes) small = onto_are b (maximal_runs bytes) (small 0) (runs_are bytes (λ k. small (suc k)))

bytes_append : (p q : List ℕ) → IsBytes p → IsBytes q → IsBytes (p ++ q)
bytes_append [] q x y i = y i
bytes_append (b ∷ p) q x y zero = x 0
bytes_append (b ∷ p) q x y (suc i) = bytes_append p q (λ k. x (suc k)) y i

bytes_same : (n b : ℕ) → b < 256 → IsBytes (replicate n b)
bytes_same zero b h i = omega arith
bytes_same (suc n) b h zero = h
bytes_same (suc n) b h (suc i) = bytes_same n b h i

before_are : (bytes : List ℕ) (items : List Item) → 0 < length bytes → IsBytes bytes → AllByRecursion IsLoose items → AllByRecursion IsLoose (before bytes items)
before_are bytes [] some small h = ((some, small), tt)
before_are bytes (pairs more ∷ items) some small h = ((omega (arith, length-append bytes more), bytes_append bytes more small h.0.1), h.1)
before_are bytes (repeated b n ∷ items) some small h = ((some, small), h)

items_are : (runs : List (ℕ × ℕ)) → AllByRecursion IsRun runs → AllByRecursion IsLoose (items_of_runs runs)
items_are [] h = tt
items_are (run ∷ runs) h = elim (cases_Bool (leb 4 run.1)) [
  | inl long ↦ let four = leb-true 4 run.1 long in rw long ((h.0.0, omega (arith, four)), items_are runs h.1)
  | inr short ↦ rw short (before_are (replicate run.1 run.0) (items_of_runs runs) (omega (arith, length-replicate run.1 run.0, h.0.1)) (bytes_same run.1 run.0 h.0.0) (items_are runs h.1))
]

bounded : (items : List Item) → AllByRecursion IsLoose items → length (bytes_of items) < 2 ^ 64 → AllByRecursion IsItem items
bounded [] h small = tt
bounded (pairs bytes ∷ items) h small = (h.0, bounded items h.1 (omega (arith, length-append bytes (bytes_of items))))
bounded (repeated b n ∷ items) h small =
    let long = length-append (replicate n b) (bytes_of items) in
    let count = length-replicate n b in
    ((h.0.0, h.0.1, omega (arith, long, count)), bounded items h.1 (omega (arith, long)))

pub normal_are : (bytes : List ℕ) → IsBytes bytes → length bytes < 2 ^ 64 → AllByRecursion IsItem (normal_items bytes)
normal_are bytes small short = bounded (normal_items bytes) (items_are (maximal_runs bytes) (runs_are bytes small)) (omega (arith, ap length (normal_bytes bytes)))

-- the text that is written for some bytes stands for them
pub runs_again : (bytes : List ℕ) → IsBytes bytes → length bytes < 2 ^ 64 → IsRuns (runs_text bytes) bytes
runs_again [] small short = inl (refl, refl)
runs_again (b ∷ bytes) small short =
    let all = b ∷ bytes in
    let items = normal_items all in
    let are : AllByRecursion IsItem items = normal_are all small short in
    let some = some_items all (omega arith) in
    let lack = items_lack 46 items are refl (inl (omega arith)) (λ e. omega (arith, e)) in
    let apart : cut 46 (join_with_byte 46 (map item_text items)) ≡ map item_text items =
    rw some.is (cut_joined 46 (item_text some.first) (map item_text some.more) (rw some.is at lack)) in
    inr (rw apart (subst (IsItems (map item_text items)) (normal_bytes all) (items_stand items are)))

pub join_lacks : (c separator : ℕ) (texts : List Text) → eqb separator c ≡ false → AllByRecursion (Lacks c) texts → Lacks c (join_with_byte separator texts)
join_lacks c separator [] other h = All-nil (λ x. eqb x c ≡ false)
join_lacks c separator (x ∷ []) other h = h.0
join_lacks c separator (x ∷ y ∷ texts) other h =
    All-append (λ b. eqb b c ≡ false) x (separator ∷ join_with_byte separator (y ∷ texts)) h.0
    (All-cons (λ b. eqb b c ≡ false) separator (join_with_byte separator (y ∷ texts)) other (join_lacks c separator (y ∷ texts) other h.1))

-- the text of some bytes has no space
pub runs_lack : (bytes : List ℕ) → IsBytes bytes → length bytes < 2 ^ 64 → Lacks 32 (runs_text bytes)
runs_lack [] small short = All-cons (λ x. eqb x 32 ≡ false) 45 [] refl (All-nil (λ x. eqb x 32 ≡ false))
runs_lack (b ∷ bytes) small short =
    let items = normal_items (b ∷ bytes) in
    join_lacks 32 46 (map item_text items) refl (items_lack 32 items (normal_are (b ∷ bytes) small short) refl (inl (omega arith)) (λ e. omega (arith, e)))

-- Addresses.

number_small : (n : ℕ) → n % 256 < 2 ^ 64
number_small n = omega arith

octets_lack : (c ip : ℕ) → (c < 48) ⊎ (57 < c) → AllByRecursion (Lacks c) (map decimal (to_be_bytes w32 ip))
octets_lack c ip out = (
  decimal_lacks c _ (number_small (ip / 16777216)) out,
  (decimal_lacks c _ (number_small (ip / 65536)) out, (decimal_lacks c _ (number_small (ip / 256)) out, (decimal_lacks c _ (number_small ip) out, tt))),
)

pub ip_lacks : (c ip : ℕ) → (c < 48) ⊎ (57 < c) → eqb 46 c ≡ false → Lacks c (ip_text ip)
ip_lacks c ip out other = join_lacks c 46 (map decimal (to_be_bytes w32 ip)) other (octets_lack c ip out)

pub ip_again : (ip : ℕ) → ip < 2 ^ 32 → IsIp (ip_text ip) ip
ip_again ip small = record { fits = small; parts = cut_joined 46 _ _ (octets_lack 46 ip (inl (omega arith))) }

pub addr_lacks : (c : ℕ) (a : Addr) → AddrFits a → (c < 48) ⊎ (57 < c) → eqb 46 c ≡ false → eqb 58 c ≡ false → Lacks c (addr_text a)
addr_lacks c a f out dot colon = join_lacks c 58 (ip_text a.ip ∷ decimal a.port ∷ []) colon (ip_lacks c a.ip out dot, (decimal_lacks c a.port (omega (arith, f.port)) out, tt))

pub addr_again : (a : Addr) → AddrFits a → IsAddr (addr_text a) a
addr_again a f = record {
  ip = ip_text a.ip;
  port = decimal a.port;
  parts = cut_joined 58 (ip_text a.ip) (decimal a.port ∷ []) (ip_lacks 58 a.ip (inr (omega arith)) refl, (decimal_lacks 58 a.port (omega (arith, f.port)) (inr (omega arith)), tt));
  is_ip = ip_again a.ip f.ip;
  is_port = record { is = refl; low = omega arith; high = omega (arith, f.port); fits = omega (arith, f.port) };
}

-- Packets.

pub word_lacks : (text : Text) → list_all (λ b. not (eqb b 32)) text ≡ true → Lacks 32 text
word_lacks [] h = All-nil (λ b. eqb b 32 ≡ false)
word_lacks (b ∷ text) h =
    let parts = and_parts (not (eqb b 32)) (list_all (λ x. not (eqb x 32)) text) h in
    All-cons (λ x. eqb x 32 ≡ false) b text (not-true (eqb b 32) parts.0) (word_lacks text parts.1)

pub frame_again : (bytes : List ℕ) → IsBytes bytes → length bytes ≤ 1514 → IsPacketLine (packet_text (Frame bytes)) (Frame bytes)
frame_again bytes small most =
    let short : length bytes < 2 ^ 64 = omega (arith, most) in (
      runs_text bytes ∷ [],
      inl (
        cut_joined 32 (codes "frame") (runs_text bytes ∷ []) (word_lacks (codes "frame") refl, (runs_lack bytes small short, tt)),
        record { content = bytes; bytes = runs_text bytes; text = refl; runs = record { is = runs_again bytes small short; within = most }; means = refl },
      ),
    )

pub udp_again : (src dst : Addr) (body : List ℕ) → AddrFits src → AddrFits dst → IsBytes body → length body ≤ 9216 → IsPacketLine (packet_text (Udp src dst body)) (Udp src dst body)
udp_again src dst body from to small most =
    let short : length body < 2 ^ 64 = omega (arith, most) in (
      addr_text src ∷ addr_text dst ∷ runs_text body ∷ [],
      inr (
        cut_joined 32 (codes "udp") (addr_text src ∷ addr_text dst ∷ runs_text body ∷ [])
            (word_lacks (codes "udp") refl, (addr_lacks 32 src from (inl (omega arith)) refl refl, (addr_lacks 32 dst to (inl (omega arith)) refl refl, (runs_lack body small short, tt)))),
        record {
          src = src;
          dst = dst;
          content = body;
          from = addr_text src;
          to = addr_text dst;
          bytes = runs_text body;
          text = refl;
          is_src = addr_again src from;
          is_dst = addr_again dst to;
          runs = record { is = runs_again body small short; within = most };
          means = refl;
        },
      ),
    )

pub packet_again : (packet : Packet) → IsPacket packet → IsPacketLine (packet_text packet) packet
packet_again (Frame bytes) h = frame_again bytes h.0 h.1
packet_again (Udp src dst body) h = udp_again src dst body h.0 h.1 h.2 h.3
