-- Fields that are read, as the bytes of their message.
use Rattle.std.proofs.Common.{◌≡◌, ℕ, List, [], ◌++◌, None, sym, ap, subst, ◌∙◌}
use Rattle.sd_xdr.specs.Kind as xdr
use Rattle.sd_xdr.specs.Kind.{whole, ended, Value}
use Rattle.sd_xdr.specs.Grammar as message
use Rattle.sd_xdr.specs.Grammar.{writes, HasSpelling}
use Rattle.sd_xdr.proofs.Whole.{whole_again}
use Rattle.sd_xdr.proofs.Writes.{written_is_read}
use Rattle.sd_text.specs.Texts.{Text}
use Rattle.sd_text.specs.Reading.{reading}
use Rattle.sd_text.proofs.Again.{gives}
use Rattle.sd_text.proofs.Sound.{sound}
use Rattle.sd_text.proofs.ReadFits.{read_has_text}
use Rattle.sd_show.specs.Fields.{Fields, fields_kind, fields_text}
use Rattle.sd_show.specs.Packing.{packs_as, value_read, value_in, AreWritten}
use Rattle.sd_show.proofs.Packed.{packed, packed_value, none_packed}
use Rattle.sd_show.proofs.ValuesFit.{fields_bounded, fields_spelled}

-- the value that bytes are read as
pub value_is : (K : xdr.Kind whole) (bs : List ℕ) (x : Value) → message.Reads whole K bs x → value_in K bs ≡ x
unfolding value_in
value_is K bs x r = ap value_read (whole_again K bs x r)

pub value_written : (K : xdr.Kind whole) (x : Value) → HasSpelling K x → value_in K (writes K x) ≡ x
value_written K x h = value_is K (writes K x) x (written_is_read whole K x h)

-- a value of fields that is read has a spelling
pub read_spelled : (A : Fields) (t : Text) (x : Value) (u : Text) → reading (fields_text A) t ≡ gives x u → HasSpelling (fields_kind A) x
read_spelled A t x u e =
    let s = sound (fields_text A) t x u e in
    fields_spelled A x (read_has_text (fields_text A) s.front x (fields_bounded A) s.reads)

-- what the bytes of fields are
pub record Taken (A : Fields) (K : xdr.Kind whole) (t : Text) (bs : List ℕ) (u : Text) : Type 0 where
  pub takes : reading (fields_text A) t ≡ gives (value_in K bs) u
  pub written : AreWritten K bs

taken_of : (A : Fields) (w : List ℕ) (t : Text) (bs : List ℕ) (u : Text) → w ≡ [] → packs_as (fields_text A) (fields_kind A) w t ≡ packed bs u → Taken A (ended (fields_kind A)) t bs u
taken_of A w t bs u e h =
    let p = packed_value (fields_text A) (fields_kind A) w t bs u h in
    let K = ended (fields_kind A) in
    let spelled : HasSpelling K p.value = read_spelled A t p.value u p.read in
    let is : bs ≡ writes K p.value = p.written ∙ ap (λ (l : List ℕ). l ++ writes (fields_kind A) p.value) e in
    let value : value_in K bs ≡ p.value = ap (value_in K) is ∙ value_written K p.value spelled in
    record {
      takes = p.read ∙ ap (λ (v : Value). gives v u) (sym value);
      written = (subst (HasSpelling K) (sym value) spelled, is ∙ ap (writes K) (sym value));
    }

pub taken : (A B : Fields) (K : xdr.Kind whole) (w : List ℕ) (t : Text) (v bs : List ℕ) (u : Text) → A ≡ B → ended (fields_kind B) ≡ K → w ≡ [] → bs ≡ v → packs_as (fields_text A) (fields_kind A) w t ≡ packed v u → Taken B K t bs u
taken A B K w t v bs u a e empty same h =
    subst (λ (C : Fields). Taken C K t bs u) a
    (subst (λ (M : xdr.Kind whole). Taken A M t bs u) (ap (λ (C : Fields). ended (fields_kind C)) a ∙ e)
    (subst (λ (l : List ℕ). Taken A (ended (fields_kind A)) t l u) (sym same) (taken_of A w t v u empty h)))

pub none_taken : (A B : Fields) (w : List ℕ) (t : Text) → A ≡ B → packs_as (fields_text A) (fields_kind A) w t ≡ None → reading (fields_text B) t ≡ None
none_taken A B w t a h = subst (λ (C : Fields). reading (fields_text C) t ≡ None) a (none_packed (fields_text A) (fields_kind A) w t h)
