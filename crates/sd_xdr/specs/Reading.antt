-- Reading from left to right, with the first refusal that is met. That this is the grammar is `ReadingIsTheGrammar` of Laws.antt.
use Rattle.std.specs.Prelude.{◌≡◌, ℕ, zero, suc, ◌+◌, ◌≤◌, ◌==◌, if◌then◌else◌, List, length, take, drop, Option, Some, None, Result, Ok, Err}
use Rattle.std.specs.Borrow.{Bor}
use Rattle.sd_xdr.specs.declared.error.XdrError.{XdrError}
use Rattle.sd_xdr.specs.declared.error.XdrError.TheVariants.{Short, Tail}
use Rattle.sd_xdr.specs.declared.error.MsgError.{MsgError}
use Rattle.sd_xdr.specs.declared.error.MsgError.TheVariants.{Xdr, RpcVersion, AuthLong, NoMemory}
use Rattle.sd_xdr.specs.Kind.{Word, flag, allows, meaning, Opaque, fixed, upto, auth_body, filling, End, part, Kind, void, word, opaque, list, ◌&◌, union, given, ended, rest, Value, none, number, bytes, ◌⊗◌, number_of, chain}
use Rattle.sd_xdr.specs.Grammar.{front_word, unlike, word_refusal, opaque_refusal, body_refusal}

-- where a reader stands: how many bytes it took, and those that are left
pub record Cursor : Type 0 where
  pub at : ℕ
  pub rest : List ℕ

abbrev pub start : List ℕ → Cursor
start bs = record { at = 0; rest = bs }

-- so many bytes further
abbrev pub skip : ℕ → Cursor → Cursor
skip n c = record { at = c.at + n; rest = drop n c.rest }

abbrev pub Read : Type 0
Read = Result (Value × Cursor) MsgError

infixl 10 ◌>>=◌
abbrev pub ◌>>=◌ : {A B : Type 0} → Result A MsgError → (A → Result B MsgError) → Result B MsgError
(Ok x) >>= f = f x
(Err e) >>= f = Err e

abbrev pub unless : {A : Type 0} → Option MsgError → A → Result A MsgError
unless None x = Ok x
unless (Some e) x = Err e

unfoldable pub word_reading : Word → Cursor → Read
word_reading w c = unless (word_refusal w c.at c.rest) (number (meaning w (front_word c.rest)), skip 4 c)

-- the bytes behind a length
abbrev pub counted_body : List ℕ → List ℕ
counted_body bs = take (front_word bs) (drop 4 bs)

-- how many bytes a length takes, with what stands behind it
abbrev pub counted_size : List ℕ → ℕ
counted_size bs = 4 + (front_word bs + filling (front_word bs))

unfoldable pub opaque_reading : Opaque → Cursor → Read
opaque_reading (fixed n) c = unless (opaque_refusal (fixed n) c.at c.rest) (bytes (take n c.rest), skip (n + filling n) c)
opaque_reading (upto most) c = unless (opaque_refusal (upto most) c.at c.rest) (bytes (counted_body c.rest), skip (counted_size c.rest) c)
opaque_reading auth_body c = unless (opaque_refusal auth_body c.at c.rest) (bytes (counted_body c.rest), skip (counted_size c.rest) c)

-- all the bytes that are left
unfoldable pub rest_reading : Cursor → Read
rest_reading c = Ok (bytes c.rest, skip (length c.rest) c)

-- nothing but a value
unfoldable pub end_reading : Value × Cursor → Read
end_reading x = if length x.1.rest == 0 then Ok x else Err (Xdr (Tail x.1.at))

-- Items behind a bool each. Each takes at least the four bytes of its bool, so there are no more than bytes.
unfoldable pub items_reading : (Cursor → Read) → ℕ → Cursor → Read
items_reading item zero c = Err (Xdr (Short c.at))
items_reading item (suc most) c = do
  b ← word_reading flag c
  if number_of b.0 == 0 then Ok (none, b.1) else (do
    x ← item b.1
    y ← items_reading item most x.1
    Ok (x.0 ⊗ y.0, y.1))

unfoldable pub reading : {e : End} → Kind e → Cursor → Read
reading void c = Ok (none, c)
reading (word w) c = word_reading w c
reading (opaque o) c = opaque_reading o c
reading (list K) c = items_reading (reading K) (length c.rest) c
reading (A & B) c = do
  x ← reading A c
  y ← reading B x.1
  Ok (x.0 ⊗ y.0, y.1)
reading (union w arm) c = do
  x ← word_reading w c
  y ← reading (arm (number_of x.0)) x.1
  Ok (x.0 ⊗ y.0, y.1)
reading (given n K) c = do
  x ← reading K c
  Ok (number n ⊗ x.0, x.1)
reading (ended K) c = do
  x ← reading K c
  end_reading x
reading rest c = rest_reading c

-- What a function that reads a part of a message answers, from where the reader stood to where it stands.
abbrev pub Stops : MsgError → Read → Type 0
Stops NoMemory read = Unit {0}
Stops (Xdr e) read = read ≡ Err (Xdr e)
Stops (RpcVersion xid got) read = read ≡ Err (RpcVersion xid got)
Stops (AuthLong at len) read = read ≡ Err (AuthLong at len)

abbrev pub Takes : {e : End} {X : Type 0} → Kind e → (X → Value) → Cursor → Cursor → Result X MsgError → Type 0
Takes K view old new (Ok x) = reading K old ≡ Ok (view x, new)
Takes K view old new (Err e) = Stops e (reading K old)

-- What a reader answers for one item: refused, it stays where it was.
abbrev pub TakesItem : {X : Type 0} → Kind part → (X → Value) → Cursor → Cursor → Result X XdrError → Type 0
TakesItem K view old new (Ok x) = reading K old ≡ Ok (view x, new)
TakesItem K view old new (Err e) = (reading K old ≡ Err (Xdr e)) × (new ≡ old)

abbrev pub TakesOwn : {X : Type 0} → Kind part → (X → Value) → Cursor → Cursor → Result X MsgError → Type 0
TakesOwn K view old new (Ok x) = reading K old ≡ Ok (view x, new)
TakesOwn K view old new (Err e) = (reading K old ≡ Err e) × (new ≡ old)

-- The word at the front, seen as a word of each kind.
abbrev pub Shows : Cursor → Word → Result ℕ XdrError → Type 0
Shows c w (Ok n) = word_reading w c ≡ (if allows w n then Ok (number (meaning w n), skip 4 c) else Err (unlike w c.at n))
Shows c w (Err e) = word_reading w c ≡ Err (Xdr e)

-- Bytes that stand from a place on, with what fills them up.
abbrev pub ShowsBody : ℕ → ℕ → ℕ → List ℕ → Result (Bor (List ℕ)) XdrError → Type 0
ShowsBody at place n bs (Ok body) = (body_refusal at place n bs ≡ None) × (body.now ≡ take n bs) × (n + filling n ≤ length bs)
ShowsBody at place n bs (Err e) = body_refusal at place n bs ≡ Some (Xdr e)

-- Whether bytes are left behind a value.
abbrev pub Ends : Cursor → Result (Unit {0}) XdrError → Type 0
Ends c (Ok done) = (x : Value) → end_reading (x, c) ≡ Ok (x, c)
Ends c (Err e) = (x : Value) → end_reading (x, c) ≡ Err (Xdr e)

-- values that were read before, and those that are still read
abbrev pub with_front : List Value → Read → Read
with_front front read = read >>= λ y. Ok (chain front y.0, y.1)
