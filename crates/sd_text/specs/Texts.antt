-- The texts of single values, as they are written and as they are read. A text is the list of its bytes. Each value has one text,
-- and a name is a text.
use Rattle.std.specs.Prelude.{◌≡◌, ℕ, ◌<◌, ◌≤◌, ◌^◌, ◌==◌, List, [], ◌∷◌, length, map}
use Rattle.std.specs.List.{join_with_byte, slice_split}
use Rattle.std.specs.Int.{w32, to_be_bytes}
use Rattle.std.specs.Fmt.{decimal}
use Rattle.hex.specs.Hex.{encode_lower, IsBytes}
use Rattle.sd_outside.specs.declared.packet.Mac.{Mac}
use Rattle.sd_outside.specs.declared.packet.Addr.{Addr}

abbrev pub Text : Type 0
Text = List ℕ

-- ---- what is written

-- a hardware address: 12 hexadecimal digits in lower case
abbrev pub mac_text : Mac → Text
mac_text m = encode_lower m.0

-- an internet address: four decimal numbers joined by dots, the highest byte first
abbrev pub ip_text : ℕ → Text
ip_text ip = join_with_byte 46 (map decimal (to_be_bytes w32 ip))

-- an internet address and a port, joined by a colon
abbrev pub addr_text : Addr → Text
addr_text a = join_with_byte 58 (ip_text a.ip ∷ decimal a.port ∷ [])

-- ---- what is read

-- the parts of a text that the byte c separates
abbrev pub cut : ℕ → Text → List Text
cut c text = slice_split (λ b. b == c) text

-- the fields of a line, separated by one space
abbrev pub fields : Text → List Text
fields line = cut 32 line

-- The text of a number from least to most: its digits without leading zeros. No number has more than 64 bits.
pub record IsNumber (least most : ℕ) (text : Text) (n : ℕ) : Type 0 where
  pub is : text ≡ decimal n
  pub low : least ≤ n
  pub high : n ≤ most
  pub fits : n < 2 ^ 64

-- 12 hexadecimal digits in lower case
pub record IsMac (text : Text) (m : Mac) : Type 0 where
  pub six : length m.0 ≡ 6
  pub bytes : IsBytes m.0
  pub is : text ≡ mac_text m

-- four numbers separated by dots, the highest byte first
pub record IsIp (text : Text) (ip : ℕ) : Type 0 where
  pub fits : ip < 2 ^ 32
  pub parts : cut 46 text ≡ map decimal (to_be_bytes w32 ip)

-- an address and a port separated by a colon
pub record IsAddr (text : Text) (a : Addr) : Type 0 where
  pub ip : Text
  pub port : Text
  pub parts : cut 58 text ≡ ip ∷ port ∷ []
  pub is_ip : IsIp ip a.ip
  pub is_port : IsNumber 0 65535 port a.port
