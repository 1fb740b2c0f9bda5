-- Which bytes spell which value of a kind, and why bytes that spell none are refused.
use Rattle.std.specs.Prelude.{◌≡◌, ℕ, zero, suc, ◌+◌, ◌^◌, ◌<◌, ◌≤◌, IsTrue, nat_lt, if◌then◌else◌, List, [], ◌∷◌, ◌++◌, length, take, drop, replicate, Option, Some, None, Result, Ok, Err}
use Rattle.std.specs.Int.{w32, to_be_bytes, from_be_bytes}
use Rattle.sd_xdr.specs.declared.error.XdrError.TheVariants.{Short, TooLong, Filling, NotBool, Tail}
use Rattle.sd_xdr.specs.declared.error.XdrError.TheVariants as xdr
use Rattle.sd_xdr.specs.declared.error.MsgError.{MsgError}
use Rattle.sd_xdr.specs.declared.error.MsgError.TheVariants.{Xdr, RpcVersion, AuthLong, NoMemory}
use Rattle.sd_xdr.specs.Kind.{Word, any, flag, between, char, count, rpcvers, allows, meaning, written, Opaque, fixed, upto, auth_body, filling, End, part, whole, Kind, void, word, opaque, list, ◌&◌, union, given, ended, rest, Value, none, number, bytes, ◌⊗◌, number_of, bytes_of, first, second}

-- a number as four bytes, the highest first (RFC 1014, section 3.2)
unfoldable pub word_bytes : ℕ → List ℕ
word_bytes n = to_be_bytes w32 n

-- words in a row
abbrev pub joined : List ℕ → List ℕ
joined [] = []
joined (n ∷ []) = word_bytes n
joined (n ∷ m ∷ ns) = word_bytes n ++ joined (m ∷ ns)

-- bytes, and zeros up to a multiple of four (RFC 1014, section 3.8)
unfoldable pub filled : List ℕ → List ℕ
filled bs = bs ++ replicate (filling (length bs)) 0

-- a length, and that many bytes (RFC 1014, section 3.9)
unfoldable pub counted : List ℕ → List ℕ
counted bs = word_bytes (length bs) ++ filled bs

-- the longest body of an authentication (RFC 1057, section 7.2)
abbrev pub auth_limit : ℕ
auth_limit = 400

-- ---- spelling

-- Reads e K bs x: the bytes bs, all of them, spell the value x of kind K.
pub data Reads : (e : End) → Kind e → List ℕ → Value → Type 0 where
  reads_void :
      Reads part void [] none
  reads_word : {w : Word} (n : ℕ) → n < 2 ^ 32 → IsTrue (allows w n) →
      Reads part (word w) (word_bytes n) (number (meaning w n))
  reads_fixed : {n : ℕ} (bs : List ℕ) → length bs ≡ n →
      Reads part (opaque (fixed n)) (filled bs) (bytes bs)
  reads_upto : {most : ℕ} (bs : List ℕ) → length bs < 2 ^ 32 → length bs ≤ most →
      Reads part (opaque (upto most)) (counted bs) (bytes bs)
  reads_auth : (bs : List ℕ) → length bs ≤ auth_limit →
      Reads part (opaque auth_body) (counted bs) (bytes bs)
  -- a list: the bool 0; or the bool 1, an item and a list
  reads_end : {K : Kind part} →
      Reads part (list K) (word_bytes 0) none
  reads_more : {K : Kind part} {front bs : List ℕ} {x y : Value} →
      Reads part K front x → Reads part (list K) bs y →
      Reads part (list K) (word_bytes 1 ++ (front ++ bs)) (x ⊗ y)
  reads_row : {e : End} {A : Kind part} {B : Kind e} {front bs : List ℕ} {x y : Value} →
      Reads part A front x → Reads e B bs y →
      Reads e (A & B) (front ++ bs) (x ⊗ y)
  reads_union : {e : End} {w : Word} {arm : ℕ → Kind e} {bs : List ℕ} {x : Value} (n : ℕ) →
      n < 2 ^ 32 → IsTrue (allows w n) → Reads e (arm (meaning w n)) bs x →
      Reads e (union w arm) (word_bytes n ++ bs) (number (meaning w n) ⊗ x)
  reads_given : {e : End} {n : ℕ} {K : Kind e} {bs : List ℕ} {x : Value} →
      Reads e K bs x →
      Reads e (given n K) bs (number n ⊗ x)
  reads_ended : {K : Kind part} {bs : List ℕ} {x : Value} →
      Reads part K bs x →
      Reads whole (ended K) bs x
  reads_rest : {bs : List ℕ} →
      Reads whole rest bs (bytes bs)

-- The spelling of x that is written. Chars have their sign; a kind without chars has this one spelling.
abbrev pub writes_list : (Value → List ℕ) → Value → List ℕ
writes_list item (x ⊗ y) = word_bytes 1 ++ (item x ++ writes_list item y)
writes_list item none = word_bytes 0
writes_list item (number n) = word_bytes 0
writes_list item (bytes bs) = word_bytes 0

abbrev pub writes : {e : End} → Kind e → Value → List ℕ
writes void x = []
writes (word w) x = word_bytes (written w (number_of x))
writes (opaque (fixed n)) x = filled (bytes_of x)
writes (opaque (upto most)) x = counted (bytes_of x)
writes (opaque auth_body) x = counted (bytes_of x)
writes (A & B) x = writes A (first x) ++ writes B (second x)
writes (union w arm) x = word_bytes (written w (number_of (first x))) ++ writes (arm (number_of (first x))) (second x)
writes (list K) x = writes_list (writes K) x
writes (given n K) x = writes K (second x)
writes (ended K) x = writes K x
writes rest x = bytes_of x

-- ---- refusal

-- the word that stands at the front
abbrev pub front_word : List ℕ → ℕ
front_word bs = from_be_bytes w32 (take 4 bs)

-- why a word that isn't allowed is refused
abbrev pub unlike : Word → ℕ → ℕ → MsgError
unlike any at n = Xdr (xdr.Kind at n)
unlike flag at n = Xdr (NotBool at n)
unlike (between low high) at n = Xdr (xdr.Kind at n)
unlike char at n = Xdr (xdr.Kind at n)
unlike (count most) at n = Xdr (TooLong at n)
unlike (rpcvers xid) at n = RpcVersion xid n

-- The first reason, in this order, why the bytes at a place don't begin with such a word.
abbrev pub word_refusal : Word → ℕ → List ℕ → Option MsgError
word_refusal w at bs =
    if nat_lt (length bs) 4 then Some (Xdr (Short at)) else
    (if allows w (front_word bs) then None else Some (unlike w at (front_word bs)))

-- the first of the bytes from a place on that isn't zero
abbrev pub filling_refusal : ℕ → List ℕ → Option MsgError
filling_refusal place [] = None
filling_refusal place (zero ∷ bs) = filling_refusal (place + 1) bs
filling_refusal place (suc b ∷ bs) = Some (Xdr (Filling place))

-- The same for the bytes of an item that begins at a place: so many stand from another place on, with what fills them up.
abbrev pub body_refusal : ℕ → ℕ → ℕ → List ℕ → Option MsgError
body_refusal at place n bs =
    if nat_lt (length bs) (n + filling n) then Some (Xdr (Short at)) else
    filling_refusal (place + n) (take (filling n) (drop n bs))

-- The same for a length, its bytes and what fills them up.
abbrev pub counted_refusal : ℕ → (ℕ → ℕ → MsgError) → ℕ → List ℕ → Option MsgError
counted_refusal most too_long at bs =
    if nat_lt (length bs) 4 then Some (Xdr (Short at)) else
    (if nat_lt most (front_word bs) then Some (too_long at (front_word bs)) else
    body_refusal at (at + 4) (front_word bs) (drop 4 bs))

abbrev pub opaque_refusal : Opaque → ℕ → List ℕ → Option MsgError
opaque_refusal (fixed n) at bs = body_refusal at at n bs
opaque_refusal (upto most) at bs = counted_refusal most (λ place len. Xdr (TooLong place len)) at bs
opaque_refusal auth_body at bs = counted_refusal auth_limit AuthLong at bs

-- Refuses e K at bs r: the bytes bs, which stand from the place at on, don't begin with a value of kind K (are no value of it,
-- where K is a whole message), and r is the reason. The longest front that spells leading parts of K ends where the next part
-- begins, and r is the first reason why that part doesn't stand there.
pub data Refuses : (e : End) → Kind e → ℕ → List ℕ → MsgError → Type 0 where
  refuses_word : {w : Word} {at : ℕ} {bs : List ℕ} {r : MsgError} →
      word_refusal w at bs ≡ Some r →
      Refuses part (word w) at bs r
  refuses_opaque : {o : Opaque} {at : ℕ} {bs : List ℕ} {r : MsgError} →
      opaque_refusal o at bs ≡ Some r →
      Refuses part (opaque o) at bs r
  -- a list: the bool, the item behind it, or the list behind the item
  refuses_flag : {K : Kind part} {at : ℕ} {bs : List ℕ} {r : MsgError} →
      word_refusal flag at bs ≡ Some r →
      Refuses part (list K) at bs r
  refuses_item : {K : Kind part} {at : ℕ} {bs : List ℕ} {r : MsgError} →
      Refuses part K (at + 4) bs r →
      Refuses part (list K) at (word_bytes 1 ++ bs) r
  refuses_later : {K : Kind part} {at : ℕ} {front bs : List ℕ} {x : Value} {r : MsgError} →
      Reads part K front x → Refuses part (list K) (at + 4 + length front) bs r →
      Refuses part (list K) at (word_bytes 1 ++ (front ++ bs)) r
  refuses_first : {e : End} {A : Kind part} {B : Kind e} {at : ℕ} {bs : List ℕ} {r : MsgError} →
      Refuses part A at bs r →
      Refuses e (A & B) at bs r
  refuses_second : {e : End} {A : Kind part} {B : Kind e} {at : ℕ} {front bs : List ℕ} {x : Value} {r : MsgError} →
      Reads part A front x → Refuses e B (at + length front) bs r →
      Refuses e (A & B) at (front ++ bs) r
  refuses_discriminant : {e : End} {w : Word} {arm : ℕ → Kind e} {at : ℕ} {bs : List ℕ} {r : MsgError} →
      word_refusal w at bs ≡ Some r →
      Refuses e (union w arm) at bs r
  refuses_arm : {e : End} {w : Word} {arm : ℕ → Kind e} {at : ℕ} {bs : List ℕ} {r : MsgError} (n : ℕ) →
      n < 2 ^ 32 → IsTrue (allows w n) → Refuses e (arm (meaning w n)) (at + 4) bs r →
      Refuses e (union w arm) at (word_bytes n ++ bs) r
  refuses_given : {e : End} {n : ℕ} {K : Kind e} {at : ℕ} {bs : List ℕ} {r : MsgError} →
      Refuses e K at bs r →
      Refuses e (given n K) at bs r
  refuses_last : {K : Kind part} {at : ℕ} {bs : List ℕ} {r : MsgError} →
      Refuses part K at bs r →
      Refuses whole (ended K) at bs r
  refuses_tail : {K : Kind part} {at : ℕ} {front : List ℕ} {x : Value} (bs : List ℕ) →
      Reads part K front x → 0 < length bs →
      Refuses whole (ended K) at (front ++ bs) (Xdr (Tail (at + length front)))

-- What a reader of a whole message answers: the value that the bytes spell, or why they spell none, unless memory runs out.
abbrev pub Fails : Kind whole → List ℕ → MsgError → Type 0
Fails K bs NoMemory = Unit {0}
Fails K bs (Xdr r) = Refuses whole K 0 bs (Xdr r)
Fails K bs (RpcVersion xid got) = Refuses whole K 0 bs (RpcVersion xid got)
Fails K bs (AuthLong at len) = Refuses whole K 0 bs (AuthLong at len)

abbrev pub Answers : {X : Type 0} → Kind whole → (X → Value) → List ℕ → Result X MsgError → Type 0
Answers K view bs (Ok x) = Reads whole K bs (view x)
Answers K view bs (Err r) = Fails K bs r

-- ---- which values have a spelling

abbrev pub EachSpelled : (Value → Type 0) → Value → Type 0
EachSpelled Spelled none = Unit {0}
EachSpelled Spelled (number n) = ⊥
EachSpelled Spelled (bytes bs) = ⊥
EachSpelled Spelled (x ⊗ y) = Spelled x × EachSpelled Spelled y

abbrev pub WordSpelled : Word → Value → Type 0
WordSpelled w x =
    let n = written w (number_of x) in
    (x ≡ number (meaning w n)) × (n < 2 ^ 32) × IsTrue (allows w n)

-- HasSpelling K x: x is a value of kind K, within its limits.
abbrev pub HasSpelling : {e : End} → Kind e → Value → Type 0
HasSpelling void x = x ≡ none
HasSpelling (word w) x = WordSpelled w x
HasSpelling (opaque (fixed n)) x = (x ≡ bytes (bytes_of x)) × (length (bytes_of x) ≡ n)
HasSpelling (opaque (upto most)) x = (x ≡ bytes (bytes_of x)) × (length (bytes_of x) < 2 ^ 32) × (length (bytes_of x) ≤ most)
HasSpelling (opaque auth_body) x = (x ≡ bytes (bytes_of x)) × (length (bytes_of x) ≤ auth_limit)
HasSpelling (list K) x = EachSpelled (HasSpelling K) x
HasSpelling (A & B) x = (x ≡ first x ⊗ second x) × HasSpelling A (first x) × HasSpelling B (second x)
HasSpelling (union w arm) x = (x ≡ first x ⊗ second x) × WordSpelled w (first x) × HasSpelling (arm (number_of (first x))) (second x)
HasSpelling (given n K) x = (x ≡ number n ⊗ second x) × HasSpelling K (second x)
HasSpelling (ended K) x = HasSpelling K x
HasSpelling rest x = x ≡ bytes (bytes_of x)

-- ---- which kinds have one spelling a value

abbrev pub IsPlainWord : Word → Type 0
IsPlainWord any = Unit {0}
IsPlainWord flag = Unit {0}
IsPlainWord (between low high) = Unit {0}
IsPlainWord char = ⊥
IsPlainWord (count most) = Unit {0}
IsPlainWord (rpcvers xid) = Unit {0}

-- IsPlain K: no char stands in K.
abbrev pub IsPlain : {e : End} → Kind e → Type 0
IsPlain void = Unit {0}
IsPlain (word w) = IsPlainWord w
IsPlain (opaque o) = Unit {0}
IsPlain (list K) = IsPlain K
IsPlain (A & B) = IsPlain A × IsPlain B
IsPlain (union w arm) = IsPlainWord w × ((n : ℕ) → IsPlain (arm n))
IsPlain (given n K) = IsPlain K
IsPlain (ended K) = IsPlain K
IsPlain rest = Unit {0}
