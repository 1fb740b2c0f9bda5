-- The text of a number, and what `parse` says of it.
use Rattle.std.proofs.Common.{◌≡◌, ℕ, ◌<◌, ◌^◌, [], ◌∷◌, get_or, Ok, refl, sym, subst, ◌∙◌, inl, inr, arith}
use Rattle.std.specs.Fmt.{decimal}
use Rattle.std.specs.Str.Parse.{ParsesUnsigned, AllDigits, digits_value}
use Rattle.std.proofs.lemmas.Fmt.{decimal_digit, first_decimal, decimal_injective, decimal-digits_value}
use Rattle.std.proofs.lemmas.Str.Parse.{IsNumeralModel, numerals_by_value, tells_digits, parse_plain}
use Rattle.std.proofs.lemmas.Bool.{cases_eq}
use Rattle.sd_text.specs.Values.{BeginsPlain}
use Rattle.sd_text.specs.Texts.{Text, IsNumber}

own : IsNumeralModel (AllDigits 10) (digits_value 10)
own = numerals_by_value _ tells_digits

pub plain_decimal : (n : ℕ) (text : Text) → n < 2 ^ 64 → text ≡ decimal n → BeginsPlain text
plain_decimal n text small e = elim (cases_eq n 0) [
  | inl zero ↦
      let is : text ≡ 48 ∷ [] = e ∙ rw zero (decimal_digit 0 (omega arith)) in
      rw is record { sign = λ h. omega (arith, h); zero = λ h. refl }
  | inr some ↦
      let first : 48 < get_or (decimal n) 0 0 = first_decimal n (omega (arith, some)) small in
      rw e record { sign = λ h. omega (arith, first, h); zero = λ h. absurd (omega (arith, first, h)) }
]

-- what `parse` gives of a text that begins plain is written as that text
pub parsed_decimal : (text : Text) (n : ℕ) → BeginsPlain text → ParsesUnsigned {E = ℕ} 64 10 text (Ok n) → text ≡ decimal n
parsed_decimal text n plain h =
    let parts = parse_plain own {E = ℕ} 64 text (Ok n) h plain.sign in
    sym (rw parts.1 (decimal-digits_value own text parts.0.0 parts.0.1 plain.zero parts.0.2))

-- one text has one value
pub one_number : (least most : ℕ) (text : Text) (a b : ℕ) → IsNumber least most text a → IsNumber least most text b → a ≡ b
one_number least most text a b x y = decimal_injective a b x.fits y.fits (sym x.is ∙ y.is)

-- equal texts have equal values
pub same_number : (least most : ℕ) {f g : Text} (m n : ℕ) → f ≡ g → IsNumber least most f m → IsNumber least most g n → m ≡ n
same_number least most {f} {g} m n e x y = one_number least most g m n (subst (λ (t : Text). IsNumber least most t m) e x) y
