use Rattle.std.proofs.Common.{◌≡◌, ◌∷◌, [], Ok, Bool, true, false, subst, arith}
use Rattle.std.proofs.lemmas.Result.{err_from_is_err_and}
use Rattle.sd_xdr.specs.declared.error.MsgError.TheVariants.{Xdr}
use Rattle.sd_xdr.specs.Kind.{flag, list, part, truth}
use Rattle.sd_xdr.specs.Reading.{reading, word_reading}
use Rattle.sd_xdr.proofs.Loops.{shrinks, word_shrinks}
use Rattle.sd_show.specs.Forms.{text_kind, form_kind, items}
use Rattle.sd_show.specs.Packing.{form_of}
use Rattle.sd_show.proofs.Tells.{row_stops, pair_says, between_says, listing_goes_on, listing_ends, listing_flag_stops, listing_item_stops}
use Rattle.sd_show.proofs.saying.+form.Goals as goal

pub say_form-returns-in_err-say_form-in-Pair : goal.say_form-returns-in_err-say_form-in-Pair
say_form-returns-in_err-say_form-in-Pair t c =
    let p = err_from_is_err_and c.from_residual.result c.from_residual.ensures.1 in
    rw (c.in-Pair.is, p.1, p.2) (row_stops (form_kind (form_of c.in-Pair.first.now)) (form_kind (form_of c.in-Pair.second.now)) c.args.reader.now c.in_err-say_form-in-Pair.field-0.0 c.in_err-say_form-in-Pair.ensures)

pub say_form-returns-in_ok-said-in-Pair : goal.say_form-returns-in_ok-said-in-Pair
say_form-returns-in_ok-said-in-Pair t c =
    let A = form_of c.in-Pair.first.now in
    let B = form_of c.in-Pair.second.now in
    rw c.in-Pair.is (pair_says (text_kind A) (text_kind B) (form_kind A) (form_kind B) (44 ∷ []) c.args.reader.now c.say_form.new.reader c.say_form-in-Pair.new.reader
    c.args.writer.now c.say_form.new.writer c.said.new.self c.say_form-in-Pair.new.writer c.say_form-in-Pair.result c.in_ok-say_form-in-Pair.ensures c.in_ok-said-in-Pair.ensures c.say_form-in-Pair.ensures)

pub say_form-returns-in_ok-said-in-List-2 : goal.say_form-returns-in_ok-said-in-List-2
say_form-returns-in_ok-said-in-List-2 t c =
    let A = form_of c.in-List.item.now in
    rw c.in-List.is (between_says (items (text_kind A)) (list (form_kind A)) 91 93 c.args.reader.now c.say_items.new.reader c.args.writer.now c.said-in-List.new.self c.say_items.new.writer c.said-in-List-2.new.self
    c.in_ok-said-in-List.ensures c.in_ok-say_items-in-List.ensures c.in_ok-said-in-List-2.ensures)

pub say_form-returns-in_ok-said-in-Row-2 : goal.say_form-returns-in_ok-said-in-Row-2
say_form-returns-in_ok-said-in-Row-2 t c =
    let A = form_of c.in-Row.inner.now in
    rw c.in-Row.is (between_says (text_kind A) (form_kind A) 40 41 c.args.reader.now c.say_form-in-Row.new.reader c.args.writer.now c.said-in-Row.new.self c.say_form-in-Row.new.writer c.said-in-Row-2.new.self
    c.in_ok-said-in-Row.ensures c.in_ok-say_form-in-Row.ensures c.in_ok-said-in-Row-2.ensures)

pub say_items-returns-in_err-bool : goal.say_items-returns-in_err-bool
unfolding reading
say_items-returns-in_err-bool t c =
    let p = err_from_is_err_and c.from_residual.result c.from_residual.ensures.1 in
    let A = form_of c.args.item.now in
    rw (p.1, p.2) (listing_flag_stops (text_kind A) (form_kind A) c.args.reader.now c.saying.reader c.args.writer.now c.saying.writer c.saying.before.now (Xdr c.in_err-bool.field-0.0) c.in_err-bool.ensures.0 c.saying.invariant)

pub say_items-returns-in_err-say_form : goal.say_items-returns-in_err-say_form
unfolding reading
say_items-returns-in_err-say_form t c =
    let p = err_from_is_err_and c.from_residual-in_err-say_form.result c.from_residual-in_err-say_form.ensures.1 in
    let A = form_of c.args.item.now in
    let one : word_reading flag c.saying.reader ≡ Ok (truth true, c.bool.new.self) = subst (λ (b : Bool). word_reading flag c.saying.reader ≡ Ok (truth b, c.bool.new.self)) c.if-branch.true c.in_ok-bool.ensures in
    rw (p.1, p.2) (listing_item_stops (text_kind A) (form_kind A) c.args.reader.now c.saying.reader c.bool.new.self c.args.writer.now c.saying.writer c.saying.before.now c.in_err-say_form.field-0.0 one c.in_err-say_form.ensures c.saying.invariant)

pub say_items-saying-smaller : goal.say_items-saying-smaller
unfolding reading
say_items-saying-smaller t c =
    let A = form_of c.args.item.now in
    omega (arith, word_shrinks flag c.saying.reader (truth c.in_ok-bool.field-0) c.bool.new.self c.in_ok-bool.ensures, shrinks part (form_kind A) c.bool.new.self c.in_ok-say_form.ensures.0 c.say_form.new.reader c.in_ok-say_form.ensures.1)

pub say_items-saying-preserved : goal.say_items-saying-preserved
unfolding reading
say_items-saying-preserved t c =
    let A = form_of c.args.item.now in
    let one : word_reading flag c.saying.reader ≡ Ok (truth true, c.bool.new.self) = subst (λ (b : Bool). word_reading flag c.saying.reader ≡ Ok (truth b, c.bool.new.self)) c.if-branch.true c.in_ok-bool.ensures in
    listing_goes_on (text_kind A) (form_kind A) c.args.reader.now c.saying.reader c.bool.new.self c.say_form.new.reader c.args.writer.now c.saying.writer c.saying.before.now c.said.new.self c.say_form.new.writer
    one c.in_ok-said.ensures c.in_ok-say_form.ensures c.saying.invariant

pub say_items-returns : goal.say_items-returns
unfolding reading
say_items-returns t c =
    let A = form_of c.args.item.now in
    let none_left : word_reading flag c.saying.reader ≡ Ok (truth false, c.bool.new.self) = subst (λ (b : Bool). word_reading flag c.saying.reader ≡ Ok (truth b, c.bool.new.self)) c.if-branch.false c.in_ok-bool.ensures in
    listing_ends (text_kind A) (form_kind A) c.args.reader.now c.saying.reader c.bool.new.self c.args.writer.now c.saying.writer c.saying.before.now none_left c.saying.invariant
