-- Parts of a value that are read from bytes and written as text, one after another.
use Rattle.std.proofs.Common.{◌≡◌, ℕ, Bool, true, false, cond, eqb, List, [], ◌∷◌, ◌++◌, Result, Ok, Err, refl, sym, ap, ◌∙◌, append_assoc}
use Rattle.std.specs.Fmt.{decimal}
use Rattle.std.proofs.lemmas.Bool.{ne_eqb, eq-eqb}
use Rattle.std.proofs.lemmas.List.{append-nil}
use Rattle.sd_xdr.specs.declared.error.MsgError.{MsgError}
use Rattle.sd_xdr.specs.declared.error.MsgError.TheVariants.{Xdr, RpcVersion, AuthLong, NoMemory}
use Rattle.sd_xdr.specs.Kind.{part, Kind, any, flag, void, word, list, ◌&◌, given, where_zero, Value, none, number, ◌⊗◌, number_of, chain}
use Rattle.sd_xdr.specs.Reading.{Cursor, Read, ◌>>=◌, Stops, word_reading, reading, with_front}
use Rattle.sd_xdr.proofs.Loops.{list_ends, list_goes_on, list_flag_stops, list_item_stops}
use Rattle.sd_text.specs.Texts.{Text}
use Rattle.sd_text.specs.Kind as texts
use Rattle.sd_text.specs.Grammar.{many_text, writes}
use Rattle.sd_show.specs.Forms.{items}
use Rattle.sd_show.specs.Saying.{SaysAs}

-- ---- reading

row_read : (A B : Kind part) (c d f : Cursor) (x y : Value) → reading A c ≡ Ok (x, d) → reading B d ≡ Ok (y, f) → reading (A & B) c ≡ Ok (x ⊗ y, f)
unfolding reading
row_read A B c d f x y h k =
    ap (λ (q : Read). q >>= λ x. reading B x.1 >>= λ y. Ok (x.0 ⊗ y.0, y.1)) h ∙ ap (λ (q : Read). q >>= λ y. Ok (x ⊗ y.0, y.1)) k

row_first : (A B : Kind part) (c : Cursor) (e : MsgError) → reading A c ≡ Err e → reading (A & B) c ≡ Err e
unfolding reading
row_first A B c e h = ap (λ (q : Read). q >>= λ x. reading B x.1 >>= λ y. Ok (x.0 ⊗ y.0, y.1)) h

row_second : (A B : Kind part) (c d : Cursor) (x : Value) (e : MsgError) → reading A c ≡ Ok (x, d) → reading B d ≡ Err e → reading (A & B) c ≡ Err e
unfolding reading
row_second A B c d x e h k =
    ap (λ (q : Read). q >>= λ x. reading B x.1 >>= λ y. Ok (x.0 ⊗ y.0, y.1)) h ∙ ap (λ (q : Read). q >>= λ y. Ok (x ⊗ y.0, y.1)) k

given_read : (n : ℕ) (M : Kind part) (c d : Cursor) (x : Value) → reading M c ≡ Ok (x, d) → reading (given n M) c ≡ Ok (number n ⊗ x, d)
unfolding reading
given_read n M c d x h = ap (λ (q : Read). q >>= λ x. Ok (number n ⊗ x.0, x.1)) h

given_stops : (n : ℕ) (M : Kind part) (c : Cursor) (e : MsgError) → reading M c ≡ Err e → reading (given n M) c ≡ Err e
unfolding reading
given_stops n M c e h = ap (λ (q : Read). q >>= λ x. Ok (number n ⊗ x.0, x.1)) h

-- a refusal of one reading is that of another
pub stopped : (e : MsgError) (read total : Read) → ((r : MsgError) → read ≡ Err r → total ≡ Err r) → Stops e read → Stops e total
stopped NoMemory read total on h = tt
stopped (Xdr r) read total on h = on (Xdr r) h
stopped (RpcVersion xid got) read total on h = on (RpcVersion xid got) h
stopped (AuthLong at len) read total on h = on (AuthLong at len) h

-- ---- two parts

pub row_stops : (A B : Kind part) (c : Cursor) (e : MsgError) → Stops e (reading A c) → Stops e (reading (A & B) c)
row_stops A B c e h = stopped e (reading A c) (reading (A & B) c) (λ r k. row_first A B c r k) h

row_stops_later : (A B : Kind part) (c d : Cursor) (x : Value) (e : MsgError) → reading A c ≡ Ok (x, d) → Stops e (reading B d) → Stops e (reading (A & B) c)
row_stops_later A B c d x e h k = stopped e (reading B d) (reading (A & B) c) (λ r q. row_second A B c d x r h q) k

-- a value that was read and written
abbrev pub Told : texts.Kind → Kind part → Cursor → Cursor → Text → Text → Type 0
Told K M old new before behind = (x : Value) × (reading M old ≡ Ok (x, new)) × (behind ≡ before ++ writes K x)

-- the one, a text, and the other
pub pair_says : (K L : texts.Kind) (M N : Kind part) (s : Text) (old mid new : Cursor) (before one two behind : Text) (r : Result Unit MsgError)
    → Told K M old mid before one → two ≡ one ++ s → SaysAs L N mid new two behind r → SaysAs (texts.◌&◌ K (texts.said s L)) (M & N) old new before behind r
unfolding writes
pair_says K L M N s old mid new before one two behind (Ok done) h said k = (
  h.0 ⊗ k.0,
  row_read M N old mid new h.0 k.0 h.1 k.1,
  k.2 ∙ ap (λ (t : Text). t ++ writes L k.0) (said ∙ ap (λ (t : Text). t ++ s) h.2)
      ∙ append_assoc (before ++ writes K h.0) s (writes L k.0) ∙ append_assoc before (writes K h.0) (s ++ writes L k.0),
)
pair_says K L M N s old mid new before one two behind (Err e) h said k = row_stops_later M N old mid h.0 e h.1 k

pub both_says : (K L : texts.Kind) (M N : Kind part) (old mid new : Cursor) (before one behind : Text) (r : Result Unit MsgError)
    → Told K M old mid before one → SaysAs L N mid new one behind r → SaysAs (texts.◌&◌ K L) (M & N) old new before behind r
unfolding writes
both_says K L M N old mid new before one behind (Ok done) h k =
    (h.0 ⊗ k.0, row_read M N old mid new h.0 k.0 h.1 k.1, k.2 ∙ ap (λ (t : Text). t ++ writes L k.0) h.2 ∙ append_assoc before (writes K h.0) (writes L k.0))
both_says K L M N old mid new before one behind (Err e) h k = row_stops_later M N old mid h.0 e h.1 k

-- a value between two bytes
pub between_says : (K : texts.Kind) (M : Kind part) (a b : ℕ) (old new : Cursor) (before one two behind : Text) → one ≡ before ++ a ∷ [] → Told K M old new one two → behind ≡ two ++ b ∷ []
    → Told (texts.between a K b) M old new before behind
unfolding writes
between_says K M a b old new before one two behind opens h closes = (
  h.0,
  h.1,
  closes ∙ ap (λ (t : Text). t ++ b ∷ []) (h.2 ∙ ap (λ (t : Text). t ++ writes K h.0) opens)
      ∙ append_assoc (before ++ a ∷ []) (writes K h.0) (b ∷ []) ∙ append_assoc before (a ∷ []) (writes K h.0 ++ b ∷ []),
)

-- a value behind a text
pub said_says : (K : texts.Kind) (M : Kind part) (s : Text) (old new : Cursor) (before one behind : Text) (r : Result Unit MsgError) → one ≡ before ++ s → SaysAs K M old new one behind r → SaysAs (texts.said s K) M old new before behind r
unfolding writes
said_says K M s old new before one behind (Ok done) named h = (h.0, h.1, h.2 ∙ ap (λ (t : Text). t ++ writes K h.0) named ∙ append_assoc before s (writes K h.0))
said_says K M s old new before one behind (Err e) named h = h

-- a number that is known
pub given_says : (n : ℕ) (K : texts.Kind) (M : Kind part) (old new : Cursor) (before behind : Text) (r : Result Unit MsgError) → SaysAs K M old new before behind r → SaysAs (texts.given n K) (given n M) old new before behind r
unfolding writes
given_says n K M old new before behind (Ok done) h = (number n ⊗ h.0, given_read n M old new h.0 h.1, h.2)
given_says n K M old new before behind (Err e) h = stopped e (reading M old) (reading (given n M) old) (λ r k. given_stops n M old r k) h

-- nothing
pub nothing_says : (old : Cursor) (before : Text) → Told texts.void void old old before before
unfolding reading writes
nothing_says old before = (none, refl, sym (append-nil before))

-- ---- a status before them

-- what stands behind a status
abbrev Behind : Kind part → Value → Cursor → Read
Behind K s b = reading (cond (eqb (number_of s) 0) K void) b >>= λ y. Ok (s ⊗ y.0, y.1)

status_read : (K : Kind part) (c b : Cursor) (s : Value) (q : Read) → reading (word any) c ≡ Ok (s, b) → Behind K s b ≡ q → reading (where_zero K) c ≡ q
unfolding reading
status_read K c b s q h k = ap (λ (r : Read). r >>= λ x. Behind K x.0 x.1) h ∙ k

status_refused : (K : Kind part) (c : Cursor) (e : MsgError) → reading (word any) c ≡ Err e → reading (where_zero K) c ≡ Err e
unfolding reading
status_refused K c e h = ap (λ (r : Read). r >>= λ x. Behind K x.0 x.1) h

there : (K : Kind part) (s : Value) (b : Cursor) (q : Read) → eqb (number_of s) 0 ≡ true → reading K b ≡ q → Behind K s b ≡ (q >>= λ y. Ok (s ⊗ y.0, y.1))
there K s b q is h = ap (λ (v : Bool). reading (cond v K void) b >>= λ y. Ok (s ⊗ y.0, y.1)) is ∙ ap (λ (r : Read). r >>= λ y. Ok (s ⊗ y.0, y.1)) h

absent : (K : Kind part) (s : Value) (b : Cursor) → eqb (number_of s) 0 ≡ false → Behind K s b ≡ Ok (s ⊗ none, b)
unfolding reading
absent K s b other = ap (λ (v : Bool). reading (cond v K void) b >>= λ y. Ok (s ⊗ y.0, y.1)) other

-- the text of a status behind its name
status_text : (before s mid text rest : Text) (n : ℕ) → mid ≡ before ++ s → text ≡ mid ++ decimal n → text ++ rest ≡ before ++ (s ++ (decimal n ++ rest))
status_text before s mid text rest n named written =
    ap (λ (t : Text). t ++ rest) (written ∙ ap (λ (t : Text). t ++ decimal n) named) ∙ append_assoc (before ++ s) (decimal n) rest ∙ append_assoc before s (decimal n ++ rest)

pub status_alone : (K : texts.Kind) (M : Kind part) (s : Text) (old new : Cursor) (before mid behind : Text) (n : ℕ) → reading (word any) old ≡ Ok (number n, new) → (n ≡ 0 → ⊥) → mid ≡ before ++ s → behind ≡ mid ++ decimal n
    → Told (texts.said s (texts.where_zero K)) (where_zero M) old new before behind
unfolding writes
status_alone K M s old new before mid behind n h other named written =
    let is = ne_eqb n 0 other in (
      number n ⊗ none,
      status_read M old new (number n) (Ok (number n ⊗ none, new)) h (absent M (number n) new is),
      sym (append-nil behind) ∙ status_text before s mid behind [] n named written ∙ ap (λ (v : Bool). before ++ (s ++ (decimal n ++ cond v (writes K none) []))) (sym is),
    )

pub status_says : (K : texts.Kind) (M : Kind part) (s : Text) (old now new : Cursor) (before mid text behind : Text) (n : ℕ) (r : Result Unit MsgError) → reading (word any) old ≡ Ok (number n, now) → n ≡ 0 → mid ≡ before ++ s → text ≡ mid ++ decimal n
    → SaysAs K M now new text behind r → SaysAs (texts.said s (texts.where_zero K)) (where_zero M) old new before behind r
unfolding writes
status_says K M s old now new before mid text behind n (Ok done) h nought named written says =
    let is = eq-eqb n 0 nought in (
      number n ⊗ says.0,
      status_read M old now (number n) (Ok (number n ⊗ says.0, new)) h (there M (number n) now (Ok (says.0, new)) is says.1),
      says.2 ∙ status_text before s mid text (writes K says.0) n named written ∙ ap (λ (v : Bool). before ++ (s ++ (decimal n ++ cond v (writes K says.0) []))) (sym is),
    )
status_says K M s old now new before mid text behind n (Err e) h nought named written says =
    stopped e (reading M now) (reading (where_zero M) old) (λ r k. status_read M old now (number n) (Err r) h (there M (number n) now (Err r) (eq-eqb n 0 nought) k)) says

pub status_stops : (M : Kind part) (old : Cursor) (e : MsgError) → reading (word any) old ≡ Err e → reading (where_zero M) old ≡ Err e
status_stops M old e h = status_refused M old e h

-- ---- the items of a list, one after the other, as a loop writes them

-- what stands before the next item
abbrev pub comma : List Value → Text
comma [] = []
comma (x ∷ xs) = 44 ∷ []

-- the text of items
abbrev listed : texts.Kind → List Value → Text
listed K [] = []
listed K (x ∷ xs) = writes K x ++ many_text 44 (writes K) (chain xs none)

listed_is : (K : texts.Kind) (xs : List Value) → listed K xs ≡ writes (items K) (chain xs none)
unfolding writes
listed_is K [] = refl
listed_is K (x ∷ xs) = refl

behind_snoc : (K : texts.Kind) (xs : List Value) (x : Value) → many_text 44 (writes K) (chain (xs ++ x ∷ []) none) ≡ many_text 44 (writes K) (chain xs none) ++ 44 ∷ writes K x
behind_snoc K [] x = ap (λ (t : Text). 44 ∷ t) (append-nil (writes K x))
behind_snoc K (y ∷ ys) x =
    ap (λ (t : Text). 44 ∷ (writes K y ++ t)) (behind_snoc K ys x) ∙ ap (λ (t : Text). 44 ∷ t) (sym (append_assoc (writes K y) (many_text 44 (writes K) (chain ys none)) (44 ∷ writes K x)))

items_snoc : (K : texts.Kind) (xs : List Value) (x : Value) → listed K (xs ++ x ∷ []) ≡ listed K xs ++ (comma xs ++ writes K x)
items_snoc K [] x = append-nil (writes K x)
items_snoc K (y ∷ ys) x =
    ap (λ (t : Text). writes K y ++ t) (behind_snoc K ys x) ∙ sym (append_assoc (writes K y) (many_text 44 (writes K) (chain ys none)) (44 ∷ writes K x))

comma_behind : (xs : List Value) (x : Value) → 44 ∷ [] ≡ comma (xs ++ x ∷ [])
comma_behind [] x = refl
comma_behind (y ∷ ys) x = refl

-- Items were read from `old` on and written behind `before`, and those that are still read are the others.
pub record IsListing (K : texts.Kind) (M : Kind part) (old : Cursor) (before : Text) (now : Cursor) (text between : Text) : Type 0 where
  pub many : List Value
  pub reads : with_front many (reading (list M) now) ≡ reading (list M) old
  pub means : text ≡ before ++ listed K many
  pub comma_is : between ≡ comma many

pub listing_begins : (K : texts.Kind) (M : Kind part) (old : Cursor) (before : Text) → IsListing K M old before old before []
listing_begins K M old before = record { many = []; reads = none_before (reading (list M) old); means = sym (append-nil before); comma_is = refl }
  where
    none_before : (r : Read) → with_front [] r ≡ r
    none_before (Ok x) = refl
    none_before (Err e) = refl

-- the bool 1 and an item
pub listing_goes_on : (K : texts.Kind) (M : Kind part) (old now mid new : Cursor) (before text between one behind : Text)
    → word_reading flag now ≡ Ok (number 1, mid) → one ≡ text ++ between → Told K M mid new one behind
    → IsListing K M old before now text between → IsListing K M old before new behind (44 ∷ [])
listing_goes_on K M old now mid new before text between one behind flagged begun item h =
    let x = item.0 in
    record {
      many = h.many ++ x ∷ [];
      reads = list_goes_on M h.many now mid new x (reading (list M) old) flagged item.1 h.reads;
      means = item.2 ∙ ap (λ (t : Text). t ++ writes K x) begun ∙ append_assoc text between (writes K x)
          ∙ ap (λ (t : Text). t ++ (between ++ writes K x)) h.means ∙ append_assoc before (listed K h.many) (between ++ writes K x)
          ∙ ap (λ (t : Text). before ++ (listed K h.many ++ (t ++ writes K x))) h.comma_is
          ∙ ap (λ (t : Text). before ++ t) (sym (items_snoc K h.many x));
      comma_is = comma_behind h.many x;
    }

-- the bool 0
pub listing_ends : (K : texts.Kind) (M : Kind part) (old now new : Cursor) (before text between : Text)
    → word_reading flag now ≡ Ok (number 0, new) → IsListing K M old before now text between → Told (items K) (list M) old new before text
listing_ends K M old now new before text between none_left h =
    (chain h.many none, list_ends M h.many now new (reading (list M) old) none_left h.reads, h.means ∙ ap (λ (t : Text). before ++ t) (listed_is K h.many))

-- no bool
pub listing_flag_stops : (K : texts.Kind) (M : Kind part) (old now : Cursor) (before text between : Text) (e : MsgError)
    → word_reading flag now ≡ Err e → IsListing K M old before now text between → reading (list M) old ≡ Err e
listing_flag_stops K M old now before text between e k h = list_flag_stops M h.many now e (reading (list M) old) k h.reads

-- no item behind the bool 1
pub listing_item_stops : (K : texts.Kind) (M : Kind part) (old now mid : Cursor) (before text between : Text) (e : MsgError)
    → word_reading flag now ≡ Ok (number 1, mid) → Stops e (reading M mid) → IsListing K M old before now text between → Stops e (reading (list M) old)
listing_item_stops K M old now mid before text between e one k h = list_item_stops M h.many now mid e (reading (list M) old) one k h.reads
