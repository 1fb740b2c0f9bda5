-- Hardware addresses and their texts.
use Rattle.std.proofs.Common.{◌≡◌, ℕ, ◌/◌, ◌%◌, ◌<◌, ◌^◌, List, Result, Ok, Err, sym, ap, ◌∙◌, arith}
use Rattle.std.specs.Prelude.{MatchResult}
use Rattle.std.specs.List.{AllPass}
use Rattle.hex.specs.Hex.{IsBytes, decode_sized, decode_of}
use Rattle.hex.specs.declared.error.FromHexError.{FromHexError}
use Rattle.hex.proofs.HexLemmas.{decode_sized-ok, decode_sized-twice, decode_sized-encode_lower, decode_of-ok, decode_of-encode_lower}
use Rattle.sd_outside.specs.declared.packet.Mac.{Mac}
use Rattle.sd_text.specs.Texts.{Text, IsMac, IsIp}
use Rattle.std.proofs.lemmas.Fmt.{decimal_injective}
use Rattle.sd_text.proofs.Exits.{firsts, others}
use Rattle.sd_text.specs.Values.{is_lower_digit}
use Rattle.sd_text.proofs.HexCase.{decoded_text}

-- what a decoding into six bytes answers
abbrev pub Decodes : Result (List ℕ) FromHexError → Result Unit FromHexError → List ℕ → Type 0
Decodes d r out = MatchResult d (λ bytes. (r ≡ Ok tt) × (out ≡ bytes)) (λ e. r ≡ Err e)

decoded : (d : Result (List ℕ) FromHexError) (r : Result Unit FromHexError) (out : List ℕ) (done : Unit) → Decodes d r out → r ≡ Ok done → d ≡ Ok out
decoded (Ok bytes) r out done h ok = ap Ok (sym h.1)
decoded (Err e) r out done h ok = cc (sym h ∙ ok)

pub mac_read : (text : Text) (r : Result Unit FromHexError) (out : List ℕ) {done : Unit} → IsBytes text → AllPass is_lower_digit text → Decodes (decode_sized text 6) r out → r ≡ Ok done → IsMac text (record { 0 = out })
mac_read text r out {done} small low h ok =
    let sized = decoded (decode_sized text 6) r out done h ok in
    let len = decode_sized-ok text 6 out sized in
    let read : decode_of text ≡ Ok out = sym (decode_sized-twice text 6 len) ∙ sized in
    let parts = decode_of-ok text out read in
    record { six = omega (arith, len, parts.2); bytes = parts.3; is = sym (decoded_text text out small low read) }

pub mac_fits : (text : Text) (r : Result Unit FromHexError) (out : List ℕ) (m : Mac) → IsMac text m → Decodes (decode_sized text 6) r out → r ≡ Ok tt
mac_fits text r out m h d =
    let sized : decode_sized text 6 ≡ Ok m.0 = rw h.is (decode_sized-encode_lower m.0 6 h.six h.bytes) in
    (rw sized at d).0

-- one text has one value

pub one_mac : (text : Text) (a b : Mac) → IsMac text a → IsMac text b → a ≡ b
one_mac text a b x y =
    let both : Ok a.0 ≡ Ok b.0 = sym (decode_of-encode_lower a.0 x.bytes) ∙ ap decode_of (sym x.is ∙ y.is) ∙ decode_of-encode_lower b.0 y.bytes in
    let same : a.0 ≡ b.0 = cc both in
    ap (λ (l : List ℕ). record { 0 = l }) same

small : (n : ℕ) → n % 256 < 2 ^ 64
small n = omega arith

pub one_ip : (text : Text) (a b : ℕ) → IsIp text a → IsIp text b → a ≡ b
one_ip text a b x y =
    let e = sym x.parts ∙ y.parts in
    let first : a / 16777216 % 256 ≡ b / 16777216 % 256 = decimal_injective _ _ (small (a / 16777216)) (small (b / 16777216)) (firsts e) in
    let second : a / 65536 % 256 ≡ b / 65536 % 256 = decimal_injective _ _ (small (a / 65536)) (small (b / 65536)) (firsts (others e)) in
    let third : a / 256 % 256 ≡ b / 256 % 256 = decimal_injective _ _ (small (a / 256)) (small (b / 256)) (firsts (others (others e))) in
    let fourth : a % 256 ≡ b % 256 = decimal_injective _ _ (small a) (small b) (firsts (others (others (others e)))) in
    omega (arith, x.fits, y.fits)
