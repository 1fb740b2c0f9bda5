use Rattle.std.proofs.Common.{◌≡◌, ◌<◌, ◌∙◌, ap, length, arith}
use Rattle.sd_script.specs.Limits.{fate_limit}
use Rattle.sd_script.proofs.IdLemmas.{has_id, may_add_told}
use Rattle.sd_script.proofs.fates.FateBook.may_add.Goals as goal

pub returns-then-len-lt-FATE_LIMIT : goal.returns-then-len-lt-FATE_LIMIT
returns-then-len-lt-FATE_LIMIT c =
    let room : length c.args.self.now < fate_limit = omega (arith, c.len.ensures, c.if-len-lt-FATE_LIMIT.true, ap length c.self.view_is) in
    let is : c.contains.result ≡ has_id c.args.id c.args.self.now = c.contains.ensures ∙ c.self.invariant c.args.id ∙ ap (has_id c.args.id) c.self.view_is in
    may_add_told c.contains.result (length c.args.self.now < fate_limit) c.args.id c.args.self.now room is
