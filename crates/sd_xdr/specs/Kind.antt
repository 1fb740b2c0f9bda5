-- What messages are made of, as tables that can be read beside the standard (RFC 1014), and the values that they carry.
use Rattle.std.specs.Prelude.{ℕ, zero, suc, ◌+◌, ◌-◌, ◌^◌, ◌%◌, Bool, true, ◌||◌, ◌&&◌, nat_lt, nat_le, ◌==◌, if◌then◌else◌, List, [], ◌∷◌, ℤ}
use Rattle.std.specs.Int.{w32, cast_unsigned}

-- ---- words: four bytes, the highest first (RFC 1014, section 3.2)

pub data Word : Type 0 where
  -- an unsigned integer (RFC 1014, section 3.2); a signed one is its bits (section 3.1)
  any : Word
  -- a bool: 0 or 1 (RFC 1014, section 3.4)
  flag : Word
  -- an enumeration or a discriminant, from the first number to the second (RFC 1014, sections 3.3 and 3.14)
  between : ℕ → ℕ → Word
  -- a char of C, which travels as an integer (RFC 1014, section 3.1): from -128 to 127 where chars have a sign,
  -- from 0 to 255 where they have none. Both are read, and the lowest eight bits are kept.
  char : Word
  -- how many elements an array has, at most so many (RFC 1014, section 3.12)
  count : ℕ → Word
  -- the version of the RPC protocol in the call with this number, which is 2 (RFC 1057, section 8)
  rpcvers : ℕ → Word

-- which words may stand there
abbrev pub allows : Word → ℕ → Bool
allows any n = true
allows flag n = nat_lt n 2
allows (between low high) n = nat_le low n && nat_le n high
allows char n = nat_lt n 256 || nat_le (2 ^ 32 - 128) n
allows (count most) n = nat_le n most
allows (rpcvers xid) n = n == 2

-- what a word that may stand there means
abbrev pub meaning : Word → ℕ → ℕ
meaning any n = n
meaning flag n = n
meaning (between low high) n = n
meaning char n = n % 256
meaning (count most) n = n
meaning (rpcvers xid) n = n

-- the word that is written for a meaning: a char with its sign
abbrev pub written : Word → ℕ → ℕ
written any n = n
written flag n = n
written (between low high) n = n
written char n = if nat_lt n 128 then n else n + (2 ^ 32 - 256)
written (count most) n = n
written (rpcvers xid) n = n

-- ---- opaque data

pub data Opaque : Type 0 where
  -- so many bytes (RFC 1014, section 3.8)
  fixed : ℕ → Opaque
  -- a length of at most so many, and that many bytes; a string likewise (RFC 1014, sections 3.9 and 3.10)
  upto : ℕ → Opaque
  -- the body of an authentication: as upto 400, with a refusal of its own (RFC 1057, section 7.2)
  auth_body : Opaque

-- how many zero bytes fill up to a multiple of four (RFC 1014, section 2)
abbrev pub filling : ℕ → ℕ
filling n = (4 - n % 4) % 4

-- the limit of opaque data and strings that name none: the longest length that a word can say (RFC 1014, section 3.9)
abbrev pub no_limit : ℕ
no_limit = 2 ^ 32 - 1

-- ---- kinds

-- whether a kind is a part of a message, or the whole of one, up to the last byte
pub data End : Type 0 where
  part : End
  whole : End

infixr 5 ◌&◌
pub data Kind : End → Type 0 where
  -- no bytes (RFC 1014, section 3.15)
  void : Kind part
  word : Word → Kind part
  opaque : Opaque → Kind part
  -- optional data that goes on with the same again (RFC 1014, section 3.18): each item behind the bool 1, at the end the bool 0
  list : Kind part → Kind part
  -- one after the other, as the components of a structure (RFC 1014, section 3.13)
  ◌&◌ : {e : End} → Kind part → Kind e → Kind e
  -- a discriminant, and then the arm that its meaning selects (RFC 1014, section 3.14)
  union : {e : End} → Word → (ℕ → Kind e) → Kind e
  -- a number that is known without the bytes, as the procedure of a call
  given : {e : End} → ℕ → Kind e → Kind e
  -- the last part, behind which no byte stands
  ended : Kind part → Kind whole
  -- all the bytes that are left
  rest : Kind whole

-- an array of so many elements (RFC 1014, section 3.11)
abbrev pub times : ℕ → Kind part → Kind part
times zero K = void
times (suc n) K = K & times n K

-- an array of at most so many elements, behind their count (RFC 1014, section 3.12)
abbrev pub array : ℕ → Kind part → Kind part
array most K = union (count most) (λ n. times n K)

-- a status, and this where the status is 0
abbrev pub where_zero : Kind part → Kind part
where_zero K = union any (λ status. if status == 0 then K else void)

-- The whole message of a variant, by its place among the variants of an enum. The place is known without the bytes.
abbrev pub variant : (ℕ → Kind part) → ℕ → Kind whole
variant kind place = ended (given place (kind place))

-- ---- values

infixr 5 ◌⊗◌
pub data Value : Type 0 where
  none : Value
  number : ℕ → Value
  bytes : List ℕ → Value
  ◌⊗◌ : Value → Value → Value

-- a bool is the number 0 or 1
abbrev pub truth : Bool → Value
truth b = number (if b then 1 else 0)

-- a signed integer is its bits (RFC 1014, section 3.1)
abbrev pub signed : ℤ → Value
signed z = number (cast_unsigned w32 z)

-- values in a row, before a last one
abbrev pub chain : List Value → Value → Value
chain [] last = last
chain (x ∷ xs) last = x ⊗ chain xs last

abbrev pub number_of : Value → ℕ
number_of none = 0
number_of (number n) = n
number_of (bytes bs) = 0
number_of (x ⊗ y) = 0

abbrev pub bytes_of : Value → List ℕ
bytes_of none = []
bytes_of (number n) = []
bytes_of (bytes bs) = bs
bytes_of (x ⊗ y) = []

abbrev pub first : Value → Value
first none = none
first (number n) = none
first (bytes bs) = none
first (x ⊗ y) = x

abbrev pub second : Value → Value
second none = none
second (number n) = none
second (bytes bs) = none
second (x ⊗ y) = y

-- which variant of an enum a value is
abbrev pub place_of : Value → ℕ
place_of x = number_of (first x)
