use Rattle.std.proofs.Common.{◌≡◌, ◌*◌, length, ap, sym, ◌∙◌, refl, arith, Ok, inl, inr}
use Rattle.std.proofs.lemmas.Bool.{eqb-true, eqb-false, false≢true}
use Rattle.hex.specs.Hex.{decode_of}
use Rattle.hex.proofs.HexLemmas.{decode_of-ok, decode_of-encode_lower}
use Rattle.sd_text.proofs.HexCase.{decoded_text, encoded_lower, length-encoded}
use Rattle.sd_text.proofs.values.read_pairs.Goals as goal
use Rattle.sd_text.proofs.values.read_pairs.Goals.{then-is_empty-via-then-is_empty, then-is_empty-via-else-is_empty+then-not-is_lower_hex}

pub returns-then-is_empty : goal.returns-then-is_empty
returns-then-is_empty c = λ x h.
    let len : length c.args.text.now ≡ 2 * length x = ap length h.is ∙ length-encoded x in
    elim c.then-is_empty.branch [
      | then-is_empty-via-then-is_empty w ↦
          let none : length c.args.text.now ≡ 0 = eqb-true _ _ (sym c.is_empty.ensures ∙ w.if-is_empty.true) in
          omega arith
      | then-is_empty-via-else-is_empty+then-not-is_lower_hex w ↦
          false≢true (sym w.if-not-is_lower_hex.true ∙ (w.is_lower_hex.ensures).1 (rw h.is (encoded_lower x h.are)))
    ]

pub returns-in-Ok : goal.returns-in-Ok
returns-in-Ok c =
    let read = (c.in-Ok.ensures).ok in
    let ok = decode_of-ok c.args.text.now c.in-Ok.bytes.items read in
    let len : length c.args.text.now ≡ 2 * length c.in-Ok.bytes.items = ok.2 in
    let some = eqb-false (length c.args.text.now) 0 (sym (c.if-is_empty.ensures)) in
    rw c.from_vec.ensures record {
      some = omega (arith, some);
      are = ok.3;
      is = sym (decoded_text c.args.text.now c.in-Ok.bytes.items (λ i. omega (arith, c.type_inv.text i)) ((c.if-not-is_lower_hex.ensures).0 refl) read);
    }

pub returns-in_default : goal.returns-in_default
returns-in_default c = λ x h.
    let reads : decode_of c.args.text.now ≡ Ok x = ap decode_of h.is ∙ decode_of-encode_lower x h.are in
    elim (c.in-Err.ensures).err [
      | inl memory ↦ c.in_default.not-OutOfMemory memory
      | inr other ↦ cc (sym reads ∙ other)
    ]
