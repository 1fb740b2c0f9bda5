-- How the values of messages are written as texts, beside their kinds.
use Rattle.std.specs.Prelude.{ℕ, not, ◌==◌, nat_le, codes, if◌then◌else◌}
use Rattle.sd_xdr.specs.Kind.{Word, any, flag, between, char, count, rpcvers, Opaque, fixed, upto, auth_body, part, Kind, word, opaque, list, ◌&◌}
use Rattle.sd_bootparams.specs.Layout.{ip}
use Rattle.sd_text.specs.Kind as texts

-- ---- forms

-- The form in which a value is written.
infixr 5 ◌⊞◌
pub data Form : Type 0 where
  -- a word, in decimal
  as_number : Word → Form
  -- an address, as four numbers joined by dots
  as_ip : Form
  -- opaque data, as BYTES
  as_run : Opaque → Form
  -- a text of at most so many bytes, as QUOTED
  as_quoted : ℕ → Form
  -- two values, a comma between them
  ◌⊞◌ : Form → Form → Form
  -- in parentheses
  in_parens : Form → Form
  -- the items of a list, in brackets, a comma between each two
  in_brackets : Form → Form

-- the kind of the values that have this form
abbrev pub form_kind : Form → Kind part
form_kind (as_number w) = word w
form_kind as_ip = ip
form_kind (as_run o) = opaque o
form_kind (as_quoted most) = opaque (upto most)
form_kind (A ⊞ B) = form_kind A & form_kind B
form_kind (in_parens A) = form_kind A
form_kind (in_brackets A) = list (form_kind A)

-- ---- texts

-- the most bytes of a datagram, which is the most that any part of it has
abbrev pub longest : ℕ
longest = 9216

-- the least and the greatest number that a word means
abbrev pub least_of : Word → ℕ
least_of any = 0
least_of flag = 0
least_of (between low high) = low
least_of char = 0
least_of (count most) = 0
least_of (rpcvers xid) = 2

abbrev pub greatest_of : Word → ℕ
greatest_of any = 4294967295
greatest_of flag = 1
greatest_of (between low high) = high
greatest_of char = 255
greatest_of (count most) = most
greatest_of (rpcvers xid) = 2

-- the least and the greatest length of opaque data in a datagram
abbrev pub shortest_of : Opaque → ℕ
shortest_of (fixed n) = n
shortest_of (upto most) = 0
shortest_of auth_body = 0

abbrev pub smaller : ℕ → ℕ → ℕ
smaller a b = if nat_le a b then a else b

abbrev pub longest_of : Opaque → ℕ
longest_of (fixed n) = n
longest_of (upto most) = smaller most longest
longest_of auth_body = 400

-- what stands between brackets: items with a comma between each two
abbrev pub items : texts.Kind → texts.Kind
items K = texts.maybe (λ b. not (b == 93)) (texts.◌&◌ K (texts.many longest 44 K))

-- the kind of the texts of values in this form
abbrev pub text_kind : Form → texts.Kind
text_kind (as_number w) = texts.word (texts.digits (least_of w) (greatest_of w))
text_kind as_ip = texts.ip
text_kind (as_run o) = texts.word (texts.run (shortest_of o) (longest_of o))
text_kind (as_quoted most) = texts.quoted most
text_kind (A ⊞ B) = texts.◌&◌ (text_kind A) (texts.said (codes ",") (text_kind B))
text_kind (in_parens A) = texts.parens (text_kind A)
text_kind (in_brackets A) = texts.between 91 (items (text_kind A)) 93
