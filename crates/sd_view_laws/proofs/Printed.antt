-- What is written is of printed characters.
use Rattle.std.proofs.Common.{◌≡◌, ℕ, zero, suc, ◌<◌, ◌≤◌, ◌^◌, ◌/◌, ◌%◌, true, false, List, [], ◌∷◌, ◌++◌, length, map, get_or, refl, sym, subst, arith, eqb}
use Rattle.std.specs.Prelude.{codes}
use Rattle.std.specs.Fmt.{decimal}
use Rattle.std.specs.Int.{IsInRange, w32, to_be_bytes}
use Rattle.std.specs.List.{AllPass, AllByRecursion, join_with_byte, list_all}
use Rattle.std.proofs.lemmas.Fmt.{decimal_is_IsNumeral}
use Rattle.std.proofs.lemmas.List.{get_or_default}
use Rattle.std.proofs.lemmas.List.Elements.{All-append, All-cons, All-nil, All-weaker}
use Rattle.std.proofs.lemmas.List.Sums.{AllPass-from_list_all}
use Rattle.std.proofs.lemmas.Str.Parse.{digit_at}
use Rattle.hex.specs.Hex.{IsBytes, encode_lower}
use Rattle.sd_outside.specs.declared.packet.Addr.{Addr}
use Rattle.sd_outside.specs.declared.packet.Packet.{Packet}
use Rattle.sd_outside.specs.declared.packet.Packet.TheVariants.{Frame, Udp}
use Rattle.sd_text.specs.Texts.{Text, ip_text, addr_text}
use Rattle.sd_text.specs.Values.{is_lower_digit}
use Rattle.sd_text.specs.Runs.{Item, pairs, repeated, item_text, normal_items, runs_text, IsItem}
use Rattle.sd_text.specs.Packets.{packet_text, AddrFits, IsPacket}
use Rattle.sd_text.proofs.HexCase.{encoded_lower}
use Rattle.sd_text.proofs.ReadBack.{normal_are}
use Rattle.sd_view.specs.Lines.{is_printable}

abbrev pub Printed : Text → Type 0
Printed text = AllPass is_printable text

pub printed_none : Printed []
printed_none = All-nil (λ b. is_printable b ≡ true)

pub printed_then : (a b : Text) → Printed a → Printed b → Printed (a ++ b)
printed_then a b x y = All-append (λ c. is_printable c ≡ true) a b x y

pub printed_word : (t : Text) → list_all is_printable t ≡ true → Printed t
printed_word t e = AllPass-from_list_all is_printable t e

digit_printed : (b : ℕ) → 48 ≤ b → b ≤ 57 → is_printable b ≡ true
digit_printed b low high = grind arith

lower_printed : (b : ℕ) → is_lower_digit b ≡ true → is_printable b ≡ true
lower_printed b h = grind arith

-- a printed character is no line feed
pub no_feed : (b : ℕ) → is_printable b ≡ true → eqb b 10 ≡ false
no_feed b h = grind arith

pub decimal_printed : (n : ℕ) → n < 2 ^ 64 → Printed (decimal n)
decimal_printed n small = λ k d h.
    let range : IsInRange 48 57 (get_or (decimal n) k 0) = digit_at (decimal n) k (decimal_is_IsNumeral n small).0.1 h in
    subst (λ (b : ℕ). is_printable b ≡ true) (sym (get_or_default (decimal n) k d 0 h)) (digit_printed (get_or (decimal n) k 0) range.0 range.1)

pub join_printed : (separator : ℕ) (texts : List Text) → is_printable separator ≡ true → AllByRecursion Printed texts → Printed (join_with_byte separator texts)
join_printed separator [] is h = printed_none
join_printed separator (x ∷ []) is h = h.0
join_printed separator (x ∷ y ∷ texts) is h =
    printed_then x (separator ∷ join_with_byte separator (y ∷ texts)) h.0
    (All-cons (λ b. is_printable b ≡ true) separator (join_with_byte separator (y ∷ texts)) is (join_printed separator (y ∷ texts) is h.1))

-- ---- addresses

number_small : (n : ℕ) → n % 256 < 2 ^ 64
number_small n = omega arith

pub ip_printed : (ip : ℕ) → Printed (ip_text ip)
ip_printed ip = join_printed 46 (map decimal (to_be_bytes w32 ip)) refl (
  decimal_printed _ (number_small (ip / 16777216)),
  (decimal_printed _ (number_small (ip / 65536)), (decimal_printed _ (number_small (ip / 256)), (decimal_printed _ (number_small ip), tt))),
)

addr_printed : (a : Addr) → AddrFits a → Printed (addr_text a)
addr_printed a f = join_printed 58 (ip_text a.ip ∷ decimal a.port ∷ []) refl (ip_printed a.ip, (decimal_printed a.port (omega (arith, f.port)), tt))

-- ---- byte runs

digits_printed : (bytes : List ℕ) → IsBytes bytes → Printed (encode_lower bytes)
digits_printed bytes small = All-weaker (λ b. is_lower_digit b ≡ true) (λ b. is_printable b ≡ true) lower_printed (encode_lower bytes) (encoded_lower bytes small)

byte_small : (b : ℕ) → b < 256 → IsBytes (b ∷ [])
byte_small b h zero = h
byte_small b h (suc i) = omega arith

item_printed : (item : Item) → IsItem item → Printed (item_text item)
item_printed (pairs bytes) is = digits_printed bytes is.1
item_printed (repeated b n) is =
    printed_then (encode_lower (b ∷ [])) (42 ∷ decimal n) (digits_printed (b ∷ []) (byte_small b is.0))
    (All-cons (λ c. is_printable c ≡ true) 42 (decimal n) refl (decimal_printed n is.2))

items_printed : (items : List Item) → AllByRecursion IsItem items → AllByRecursion Printed (map item_text items)
items_printed [] h = tt
items_printed (item ∷ items) h = (item_printed item h.0, items_printed items h.1)

pub runs_printed : (bytes : List ℕ) → IsBytes bytes → length bytes < 2 ^ 64 → Printed (runs_text bytes)
runs_printed [] small short = printed_word (codes "-") refl
runs_printed (b ∷ bytes) small short =
    let items = normal_items (b ∷ bytes) in
    join_printed 46 (map item_text items) refl (items_printed items (normal_are (b ∷ bytes) small short))

-- ---- packets

pub packet_printed : (packet : Packet) → IsPacket packet → Printed (packet_text packet)
packet_printed (Frame bytes) h =
    join_printed 32 (codes "frame" ∷ runs_text bytes ∷ []) refl (printed_word (codes "frame") refl, (runs_printed bytes h.0 (omega (arith, h.1)), tt))
packet_printed (Udp src dst body) h =
    join_printed 32 (codes "udp" ∷ addr_text src ∷ addr_text dst ∷ runs_text body ∷ []) refl
    (printed_word (codes "udp") refl, (addr_printed src h.0, (addr_printed dst h.1, (runs_printed body h.2 (omega (arith, h.3)), tt))))
