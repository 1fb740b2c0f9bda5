use Rattle.std.proofs.Common.{◌∷◌, [], sym, ◌∙◌}
use Rattle.std.proofs.lemmas.Result.{err_from_is_err_and}
use Rattle.sd_text.proofs.Loops.{handed_on}
use Rattle.sd_show.specs.Forms.{text_kind, form_kind, items, longest}
use Rattle.sd_show.specs.Packing.{form_of, packs_more}
use Rattle.sd_xdr.specs.Kind.{list}
use Rattle.sd_show.proofs.Packed.{pair_first, pair_cut, pair_ends, between_open, between_none, between_ends, list_ends, items_none, items_stop, items_end, more_goes_on, more_stops, more_cut, more_ends, more_full}
use Rattle.sd_show.proofs.taking.+form.Goals as goal

pub take_form-returns-in_err-take_form-in-Pair : goal.take_form-returns-in_err-take_form-in-Pair
take_form-returns-in_err-take_form-in-Pair t c =
    let p = err_from_is_err_and c.from_residual.result c.from_residual.ensures.1 in
    rw (c.in-Pair.is, p.1, p.2) (handed_on c.in_err-take_form-in-Pair.field-0.0 c.in_err-take_form-in-Pair.ensures (λ none.
    pair_first (text_kind (form_of c.in-Pair.first.now)) (text_kind (form_of c.in-Pair.second.now)) (form_kind (form_of c.in-Pair.first.now)) (form_kind (form_of c.in-Pair.second.now)) (44 ∷ []) c.args.writer.now c.args.reader.now none))

pub take_form-returns-in_err-said-in-Pair : goal.take_form-returns-in_err-said-in-Pair
take_form-returns-in_err-said-in-Pair t c =
    let p = err_from_is_err_and c.from_residual-in_err-said-in-Pair.result c.from_residual-in_err-said-in-Pair.ensures.1 in
    rw (c.in-Pair.is, p.1, p.2) (handed_on c.in_err-said-in-Pair.field-0.0 c.in_err-said-in-Pair.ensures (λ none.
    pair_cut (text_kind (form_of c.in-Pair.first.now)) (text_kind (form_of c.in-Pair.second.now)) (form_kind (form_of c.in-Pair.first.now)) (form_kind (form_of c.in-Pair.second.now)) (44 ∷ []) c.args.writer.now c.args.reader.now
    c.take_form.new.writer c.take_form.new.reader c.in_ok-take_form-in-Pair.ensures none))

pub take_form-returns-in_ok-said-in-Pair : goal.take_form-returns-in_ok-said-in-Pair
take_form-returns-in_ok-said-in-Pair t c =
    rw c.in-Pair.is (pair_ends (form_of c.in-Pair.first.now) (form_of c.in-Pair.second.now) c.args.writer.now c.args.reader.now
    c.take_form.new.writer c.take_form.new.reader c.said.new.self c.take_form-in-Pair.new.writer c.take_form-in-Pair.new.reader c.take_form-in-Pair.result
    c.in_ok-take_form-in-Pair.ensures c.in_ok-said-in-Pair.ensures c.take_form-in-Pair.ensures)

pub take_form-returns-in_err-said-in-Row : goal.take_form-returns-in_err-said-in-Row
take_form-returns-in_err-said-in-Row t c =
    let p = err_from_is_err_and c.from_residual-in_err-said-in-Row.result c.from_residual-in_err-said-in-Row.ensures.1 in
    rw (c.in-Row.is, p.1, p.2) (handed_on c.in_err-said-in-Row.field-0.0 c.in_err-said-in-Row.ensures (λ none.
    between_open (text_kind (form_of c.in-Row.inner.now)) (form_kind (form_of c.in-Row.inner.now)) 40 41 c.args.writer.now c.args.reader.now none))

pub take_form-returns-in_err-take_form-in-Row : goal.take_form-returns-in_err-take_form-in-Row
take_form-returns-in_err-take_form-in-Row t c =
    let p = err_from_is_err_and c.from_residual-in_err-take_form-in-Row.result c.from_residual-in_err-take_form-in-Row.ensures.1 in
    rw (c.in-Row.is, p.1, p.2) (handed_on c.in_err-take_form-in-Row.field-0.0 c.in_err-take_form-in-Row.ensures (λ none.
    between_none (text_kind (form_of c.in-Row.inner.now)) (form_kind (form_of c.in-Row.inner.now)) 40 41 c.args.writer.now c.args.reader.now c.said-in-Row.new.self c.in_ok-said-in-Row.ensures none))

pub take_form-returns-in_ok-take_form-in-Row : goal.take_form-returns-in_ok-take_form-in-Row
take_form-returns-in_ok-take_form-in-Row t c =
    rw c.in-Row.is (between_ends (form_of c.in-Row.inner.now) c.args.writer.now c.args.reader.now c.said-in-Row.new.self c.take_form-in-Row.new.writer c.take_form-in-Row.new.reader c.said-in-Row-2.new.self c.said-in-Row-2.result
    c.in_ok-said-in-Row.ensures c.in_ok-take_form-in-Row.ensures c.said-in-Row-2.ensures)

pub take_form-returns-in_err-said-in-List : goal.take_form-returns-in_err-said-in-List
take_form-returns-in_err-said-in-List t c =
    let p = err_from_is_err_and c.from_residual-in_err-said-in-List.result c.from_residual-in_err-said-in-List.ensures.1 in
    rw (c.in-List.is, p.1, p.2) (handed_on c.in_err-said-in-List.field-0.0 c.in_err-said-in-List.ensures (λ none.
    between_open (items (text_kind (form_of c.in-List.item.now))) (list (form_kind (form_of c.in-List.item.now))) 91 93 c.args.writer.now c.args.reader.now none))

pub take_form-returns-in_err-take_items-in-List : goal.take_form-returns-in_err-take_items-in-List
take_form-returns-in_err-take_items-in-List t c =
    let p = err_from_is_err_and c.from_residual-in_err-take_items-in-List.result c.from_residual-in_err-take_items-in-List.ensures.1 in
    rw (c.in-List.is, p.1, p.2) (handed_on c.in_err-take_items-in-List.field-0.0 c.in_err-take_items-in-List.ensures (λ none.
    between_none (items (text_kind (form_of c.in-List.item.now))) (list (form_kind (form_of c.in-List.item.now))) 91 93 c.args.writer.now c.args.reader.now c.said-in-List.new.self c.in_ok-said-in-List.ensures none))

pub take_form-returns-in_ok-take_items-in-List : goal.take_form-returns-in_ok-take_items-in-List
take_form-returns-in_ok-take_items-in-List t c =
    rw c.in-List.is (list_ends (form_of c.in-List.item.now) c.args.writer.now c.args.reader.now c.said-in-List.new.self c.take_items.new.writer c.take_items.new.reader c.said-in-List-2.new.self c.said-in-List-2.result
    c.in_ok-said-in-List.ensures c.in_ok-take_items-in-List.ensures c.said-in-List-2.ensures)

pub take_items-returns-then-not-begins_other : goal.take_items-returns-then-not-begins_other
take_items-returns-then-not-begins_other t c =
    items_none (text_kind (form_of c.args.item.now)) (form_kind (form_of c.args.item.now)) c.args.writer.now c.bool.new.self c.args.reader.now (sym c.begins_other.ensures ∙ c.if-not-begins_other.true) c.in_ok-bool.ensures.ok

pub take_items-returns-in_err-take_form : goal.take_items-returns-in_err-take_form
take_items-returns-in_err-take_form t c =
    let p = err_from_is_err_and c.from_residual-in_err-take_form.result c.from_residual-in_err-take_form.ensures.1 in
    rw (p.1, p.2) (handed_on c.in_err-take_form.field-0.0 c.in_err-take_form.ensures (λ none.
    items_stop (text_kind (form_of c.args.item.now)) (form_kind (form_of c.args.item.now)) c.args.writer.now c.bool-2.new.self c.args.reader.now (sym c.begins_other.ensures ∙ c.if-not-begins_other.false) none))

pub take_items-returns : goal.take_items-returns
take_items-returns t c =
    items_end (text_kind (form_of c.args.item.now)) (form_kind (form_of c.args.item.now)) c.args.writer.now c.bool-2.new.self c.args.reader.now c.take_form.new.writer c.take_form.new.reader c.take_more.new.writer c.take_more.new.reader c.take_more.result
    (sym c.begins_other.ensures ∙ c.if-not-begins_other.false) c.in_ok-bool-2.ensures.ok c.in_ok-take_form.ensures c.take_more.ensures

pub take_more-returns-then-not-begins : goal.take_more-returns-then-not-begins
take_more-returns-then-not-begins t c =
    more_ends (text_kind (form_of c.args.item.now)) (form_kind (form_of c.args.item.now)) longest c.taking.counter c.taking.writer c.bool.new.self c.taking.reader (packs_more (text_kind (form_of c.args.item.now)) (form_kind (form_of c.args.item.now)) longest c.args.writer.now c.args.reader.now)
    c.taking-test.true (sym c.begins.ensures ∙ c.if-not-begins.true) c.in_ok-bool.ensures.ok c.taking.invariant

pub take_more-returns-in_err-said : goal.take_more-returns-in_err-said
take_more-returns-in_err-said t c =
    let p = err_from_is_err_and c.from_residual-in_err-said.result c.from_residual-in_err-said.ensures.1 in
    rw (p.1, p.2) (handed_on c.in_err-said.field-0.0 c.in_err-said.ensures (λ none.
    more_cut (text_kind (form_of c.args.item.now)) (form_kind (form_of c.args.item.now)) longest c.taking.counter c.taking.writer c.taking.reader (packs_more (text_kind (form_of c.args.item.now)) (form_kind (form_of c.args.item.now)) longest c.args.writer.now c.args.reader.now)
    c.taking-test.true (sym c.begins.ensures ∙ c.if-not-begins.false) none c.taking.invariant))

pub take_more-returns-in_err-take_form : goal.take_more-returns-in_err-take_form
take_more-returns-in_err-take_form t c =
    let p = err_from_is_err_and c.from_residual-in_err-take_form.result c.from_residual-in_err-take_form.ensures.1 in
    rw (p.1, p.2) (handed_on c.in_err-take_form.field-0.0 c.in_err-take_form.ensures (λ none.
    more_stops (text_kind (form_of c.args.item.now)) (form_kind (form_of c.args.item.now)) longest c.taking.counter c.taking.writer c.bool-in-taking.new.self c.taking.reader c.said.new.self (packs_more (text_kind (form_of c.args.item.now)) (form_kind (form_of c.args.item.now)) longest c.args.writer.now c.args.reader.now)
    c.taking-test.true (sym c.begins.ensures ∙ c.if-not-begins.false) c.in_ok-said.ensures none c.taking.invariant))

pub take_more-taking-preserved : goal.take_more-taking-preserved
take_more-taking-preserved t c =
    more_goes_on (text_kind (form_of c.args.item.now)) (form_kind (form_of c.args.item.now)) longest c.taking.counter c.taking.writer c.bool-in-taking.new.self c.taking.reader c.said.new.self c.take_form.new.writer c.take_form.new.reader (packs_more (text_kind (form_of c.args.item.now)) (form_kind (form_of c.args.item.now)) longest c.args.writer.now c.args.reader.now)
    c.taking-test.true (sym c.begins.ensures ∙ c.if-not-begins.false) c.in_ok-said.ensures c.in_ok-bool-2.ensures.ok c.in_ok-take_form.ensures c.taking.invariant

pub take_more-returns : goal.take_more-returns
take_more-returns t c =
    more_full (text_kind (form_of c.args.item.now)) (form_kind (form_of c.args.item.now)) longest c.taking.counter c.taking.writer c.bool-2.new.self c.taking.reader (packs_more (text_kind (form_of c.args.item.now)) (form_kind (form_of c.args.item.now)) longest c.args.writer.now c.args.reader.now)
    c.taking-test.false c.in_ok-bool-3.ensures.ok c.taking.invariant
