-- The arguments of bootparams have a length that a word can say.
use Rattle.std.proofs.Common.{◌≡◌, ℕ, ◌^◌, ◌<◌, ◌≤◌, List, ◌++◌, length, ap, ◌∙◌, refl, arith, length-append}
use Rattle.sd_xdr.specs.Kind.{filling}
use Rattle.sd_xdr.specs.Grammar.{word_bytes, counted}
use Rattle.sd_xdr.proofs.Spelled.{length-counted}
use Rattle.sd_bootparams.specs.declared.message.BpArgs.{BpArgs}
use Rattle.sd_bootparams.specs.declared.message.BpArgs.TheVariants.{Null, Whoami, Getfile}
use Rattle.sd_bootparams.specs.Layout.{args_bytes, ArgsFit}

length-word : (n : ℕ) → length (word_bytes n) ≡ 4
unfolding word_bytes
length-word n = refl

few : (n : ℕ) → filling n ≤ 3
few n = omega arith

words : (a b c d e : ℕ) → length (word_bytes a ++ (word_bytes b ++ (word_bytes c ++ (word_bytes d ++ word_bytes e)))) ≡ 20
words a b c d e =
    length-append (word_bytes a) (word_bytes b ++ (word_bytes c ++ (word_bytes d ++ word_bytes e)))
    ∙ omega (
      arith,
      length-word a,
      length-word b,
      length-word c,
      length-word d,
      length-word e,
      length-append (word_bytes b) (word_bytes c ++ (word_bytes d ++ word_bytes e)),
      length-append (word_bytes c) (word_bytes d ++ word_bytes e),
      length-append (word_bytes d) (word_bytes e),
    )

two : (client key : List ℕ) → length client ≤ 255 → length key ≤ 32 → length (counted client ++ counted key) < 2 ^ 32
two client key small low =
    let whole = length-append (counted client) (counted key) in
    let front = length-counted client in
    let back = length-counted key in
    let f = few (length client) in
    let g = few (length key) in
    omega (arith, whole, front, back, f, g, small, low)

pub short_args : (args : BpArgs) (bytes : List ℕ) → bytes ≡ args_bytes args → ArgsFit args → length bytes < 2 ^ 32
short_args Null bytes is fits = let e : length bytes ≡ 0 = ap length is in omega (arith, e)
short_args (Whoami address) bytes is fits = let e : length bytes ≡ 20 = ap length is ∙ words _ _ _ _ _ in omega (arith, e)
short_args (Getfile client key) bytes is fits = let e = ap length is in let t = two client key fits.0 fits.1 in omega (arith, e, t)
