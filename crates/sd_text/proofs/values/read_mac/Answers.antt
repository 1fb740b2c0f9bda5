use Rattle.std.proofs.Common.{sym, refl, arith}
use Rattle.std.proofs.lemmas.Bool.{false≢true}
use Rattle.sd_text.proofs.HexCase.{encoded_lower}
use Rattle.sd_text.proofs.MacLemmas.{mac_read, mac_fits}
use Rattle.sd_text.proofs.values.read_mac.Goals as goal

pub returns-then-not-is_lower_hex : goal.returns-then-not-is_lower_hex
returns-then-not-is_lower_hex c = λ m h. false≢true ((c.if-not-is_lower_hex.ensures).1 (rw h.is (encoded_lower m.0 h.bytes)))

pub returns-in-Ok : goal.returns-in-Ok
returns-in-Ok c =
    mac_read c.args.text.now c.decode_to_slice.result c.decode_to_slice.new.out (λ i. omega (arith, c.type_inv.text i)) ((c.if-not-is_lower_hex.ensures).0 refl) c.decode_to_slice.ensures.value c.in-Ok.is

pub returns-in-Err : goal.returns-in-Err
returns-in-Err c = λ m h. cc (sym c.in-Err.is, mac_fits c.args.text.now c.decode_to_slice.result c.decode_to_slice.new.out m h c.decode_to_slice.ensures.value)
