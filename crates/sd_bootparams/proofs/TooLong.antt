use Rattle.std.proofs.Common.{◌≡◌, Some, true, false, refl}
use Rattle.sd_bootparams.specs.Contents.{Contents}
use Rattle.sd_bootparams.specs.declared.params.Why.TheVariants as why
use Rattle.sd_bootparams.specs.File.{Text, is_text, has, is_too_long, has_key, key_of, value_of, server_of, path_of, item_fault}

pub too_long : (p : Contents) (c text : Text) → is_text text ≡ true → has 61 text ≡ true → has 58 (value_of text) ≡ true → is_too_long (key_of text) (server_of text) (path_of text) ≡ true → item_fault p c text ≡ Some why.TooLong
too_long p c text a b d e = rw (a, b, d, e) refl

pub double_key : (before : Contents) (of_client text : Text) → is_text text ≡ true → has 61 text ≡ true → has 58 (value_of text) ≡ true → is_too_long (key_of text) (server_of text) (path_of text) ≡ false
    → has_key before of_client (key_of text) ≡ true → item_fault before of_client text ≡ Some why.DoubleKey
double_key before of_client text printable equals colon short double = rw (printable, equals, colon, short, double) refl
