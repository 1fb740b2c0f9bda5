use Rattle.std.proofs.Common.{◌∷◌, []}
use Rattle.std.proofs.lemmas.Result.{err_from_is_err_and}
use Rattle.sd_text.proofs.Loops.{handed_on}
use Rattle.sd_show.specs.Fields.{field_name}
use Rattle.sd_show.proofs.Packed.{name_first, name_second, name_ends}
use Rattle.sd_show.proofs.taking.take_name.Goals as goal

pub returns-in_err-said : goal.returns-in_err-said
returns-in_err-said c =
    let p = err_from_is_err_and c.from_residual.result c.from_residual.ensures.1 in
    rw (p.1, p.2) (handed_on c.in_err-said.field-0.0 c.in_err-said.ensures (λ none. name_first (32 ∷ []) (field_name c.args.field) (61 ∷ []) c.args.reader.now none))

pub returns-in_err-take_word_of : goal.returns-in_err-take_word_of
returns-in_err-take_word_of c =
    let p = err_from_is_err_and c.from_residual-in_err-take_word_of.result c.from_residual-in_err-take_word_of.ensures.1 in
    rw (p.1, p.2) (handed_on c.in_err-take_word_of.field-0.0 c.in_err-take_word_of.ensures (λ none.
    name_second (32 ∷ []) (field_name c.args.field) (61 ∷ []) c.args.reader.now c.said.new.self c.in_ok-said.ensures none))

pub returns : goal.returns
returns c = name_ends (32 ∷ []) (field_name c.args.field) (61 ∷ []) c.args.reader.now c.said.new.self c.take_word_of.new.reader c.said-2.new.self c.said-2.result c.in_ok-said.ensures c.in_ok-take_word_of.ensures c.said-2.ensures
