-- The bootparams file, a profile of bootparams(5): its lines, its words, what it says, and its first refusal. A text is the list of
-- its bytes.
use Rattle.std.specs.Prelude.{◌≡◌, ℕ, ◌+◌, ◌-◌, ◌==◌, ◌&&◌, ◌||◌, not, nat_lt, nat_le, Bool, true, false, if◌then◌else◌, List, [], ◌∷◌, ◌++◌, length, take, map, Option, Some, None}
use Rattle.std.specs.List.{slice_split, filter, position_or_len, before_first, after_first, list_all, list_any, ends_with}
use Rattle.std.specs.Cmp.Lexicographic.{pointwise}
use Rattle.sd_outside.specs.Lines.{lines, without_feed}
use Rattle.sd_bootparams.specs.Layout.{name_limit, key_limit, path_limit}
use Rattle.sd_bootparams.specs.declared.params.Entry.{Entry}
use Rattle.sd_bootparams.specs.Contents.{Contents}
use Rattle.sd_bootparams.specs.declared.params.Why.{Why}
use Rattle.sd_bootparams.specs.declared.params.Why.TheVariants as why

abbrev pub Text : Type 0
Text = List ℕ

-- these lists, one after another
abbrev pub flat : {X : Type 0} → List (List X) → List X
flat [] = []
flat (xs ∷ more) = xs ++ flat more

-- ---- lines that go on

-- A backslash before the line feed stands, with it, for a space: the line goes on in the next.
abbrev pub goes_on : Text → Bool
goes_on line = ends_with (λ a b. a == b) line (92 ∷ 10 ∷ [])

-- the line without its line feed, and without the backslash before that
abbrev pub bare : Text → Text
bare line = if goes_on line then take (length line - 2) line else without_feed line

-- ---- words

-- a space or a tab
abbrev pub is_blank : ℕ → Bool
is_blank b = b == 32 || b == 9

abbrev pub is_full : Text → Bool
is_full [] = false
is_full (b ∷ text) = true

-- what stands between blanks
abbrev pub words_of : Text → List Text
words_of text = filter is_full (slice_split is_blank text)

-- a word with the line of the file on which it begins, and ends
pub record Word : Type 0 where
  pub line : ℕ
  pub text : Text

abbrev pub on_line : ℕ → Text → Word
on_line n text = record { line = n; text = text }

-- the words of line n
abbrev pub line_words : ℕ → Text → List Word
line_words n line = map (on_line n) (words_of (bare line))

-- these words stand before those of the first of the joined lines
abbrev pub onto_joined : List Word → List (List Word) → List (List Word)
onto_joined words [] = words ∷ []
onto_joined words (joined ∷ more) = (words ++ joined) ∷ more

-- the words of each joined line, of which the first line is line n of the file
abbrev pub joined_from : ℕ → List Text → List (List Word)
joined_from n [] = []
joined_from n (line ∷ more) =
    if goes_on line then onto_joined (line_words n line) (joined_from (n + 1) more)
    else line_words n line ∷ joined_from (n + 1) more

-- ---- comments

-- `#` at a line's start or after a blank, so at a word's start, begins a comment
abbrev pub begins_comment : Text → Bool
begins_comment [] = false
begins_comment (b ∷ text) = b == 35

-- which ends the joined line
abbrev pub uncommented : List Word → List Word
uncommented words = before_first (λ w. begins_comment w.text) words

-- ---- what the words are

-- The first word of a joined line is a client; each other one is an item of that client.
pub data Role : Type 0 where
  client : Role
  item_of : Text → Role

-- a word in its role
pub record Part : Type 0 where
  pub line : ℕ
  pub role : Role
  pub text : Text

abbrev pub as_client : Word → Part
as_client w = record { line = w.line; role = client; text = w.text }

abbrev pub as_item : Text → Word → Part
as_item of_client w = record { line = w.line; role = item_of of_client; text = w.text }

abbrev pub in_roles : List Word → List Part
in_roles [] = []
in_roles (w ∷ words) = as_client w ∷ map (as_item w.text) words

-- the parts of the joined lines
abbrev pub parts_of : List (List Word) → List Part
parts_of joined = flat (map (λ words. in_roles (uncommented words)) joined)

-- the parts of a file, from left to right
abbrev pub parts : Text → List Part
parts text = parts_of (joined_from 1 (lines text))

-- ---- what a file says

-- An item is cut at its first `=`, and what follows at the first `:`.
abbrev pub key_of : Text → Text
key_of text = before_first (λ b. b == 61) text

abbrev pub value_of : Text → Text
value_of text = after_first (λ b. b == 61) text

abbrev pub server_of : Text → Text
server_of text = before_first (λ b. b == 58) (value_of text)

abbrev pub path_of : Text → Text
path_of text = after_first (λ b. b == 58) (value_of text)

abbrev pub client_in : Part → List Text
client_in p = one p.role p.text
  where
    one : Role → Text → List Text
    one client text = text ∷ []
    one (item_of of_client) text = []

abbrev pub entry_in : Part → List Entry
entry_in p = one p.role p.text
  where
    one : Role → Text → List Entry
    one client text = []
    one (item_of of_client) text = record { client = of_client; key = key_of text; server = server_of text; path = path_of text } ∷ []

-- nothing is said yet
abbrev pub nothing : Contents
nothing = record { clients = []; entries = [] }

-- what is said before, and the clients and entries of these parts after it, in order
abbrev pub adding : Contents → List Part → Contents
adding old ps = record { clients = old.clients ++ flat (map client_in ps); entries = old.entries ++ flat (map entry_in ps) }

-- ---- what is refused

-- a byte from 20 to 7e (hexadecimal), or a tab
abbrev pub is_text_byte : ℕ → Bool
is_text_byte b = (nat_le 32 b && nat_le b 126) || b == 9

abbrev pub is_text : Text → Bool
is_text text = list_all is_text_byte text

-- whether the byte c stands in it
abbrev pub has : ℕ → Text → Bool
has c text = nat_lt (position_or_len (λ b. b == c) text) (length text)

abbrev pub same : Text → Text → Bool
same xs ys = pointwise (λ a b. a == b) xs ys

-- whether the client has a line already
abbrev pub has_client : Contents → Text → Bool
has_client before text = list_any (λ c. same c text) before.clients

-- whether the client has an entry with this key already
abbrev pub has_key : Contents → Text → Text → Bool
has_key before of_client key = list_any (λ e. same e.client of_client && same e.key key) before.entries

abbrev pub is_too_long : Text → Text → Text → Bool
is_too_long key server path = nat_lt key_limit (length key) || nat_lt name_limit (length server) || nat_lt path_limit (length path)

-- The first reason, in the order in which a word is looked at, why it can't follow what the words before it say; or none.
abbrev pub client_fault : Contents → Text → Option Why
client_fault before text =
    if not (is_text text) then Some why.NotText else
    (if has 61 text then Some why.NoName else
    (if nat_lt name_limit (length text) then Some why.TooLong else
    (if has_client before text then Some why.DoubleClient else None)))

abbrev pub item_fault : Contents → Text → Text → Option Why
item_fault before of_client text =
    if not (is_text text) then Some why.NotText else
    (if not (has 61 text) then Some why.NoEquals else
    (if not (has 58 (value_of text)) then Some why.NoColon else
    (if is_too_long (key_of text) (server_of text) (path_of text) then Some why.TooLong else
    (if has_key before of_client (key_of text) then Some why.DoubleKey else None))))

abbrev pub fault_in : Contents → Role → Text → Option Why
fault_in before client text = client_fault before text
fault_in before (item_of of_client) text = item_fault before of_client text

abbrev pub fault : Contents → Part → Option Why
fault before p = fault_in before p.role p.text

-- no part has a fault after what is said before it
abbrev pub IsFaultless : Contents → List Part → Type 0
IsFaultless old ps = (before : List Part) (p : Part) (after : List Part) → ps ≡ before ++ (p ∷ after) → fault (adding old before) p ≡ None

-- The first part with a fault stands on this line, and this is its fault.
pub record HasRefusal (old : Contents) (ps : List Part) (line : ℕ) (reason : Why) : Type 0 where
  pub before : List Part
  pub part : Part
  pub after : List Part
  pub cut : ps ≡ before ++ (part ∷ after)
  pub faultless : IsFaultless old before
  pub at : fault (adding old before) part ≡ Some reason
  pub place : line ≡ part.line

-- ---- a file

-- The text is a bootparams file that says this.
pub record IsFile (text : Text) (params : Contents) : Type 0 where
  pub faultless : IsFaultless nothing (parts text)
  pub says : params ≡ adding nothing (parts text)

-- The text is refused on this line, for this reason.
abbrev pub IsRefused : Text → ℕ → Why → Type 0
IsRefused text line reason = HasRefusal nothing (parts text) line reason
