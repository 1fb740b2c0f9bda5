use Rattle.std.proofs.Common.{refl, sym, subst}
use Rattle.sd_script.specs.Grammar.{script_of}
use Rattle.sd_script.specs.Rules.{KeepsRules}
use Rattle.sd_script.proofs.ScriptLemmas.{said_whole}
use Rattle.sd_script.proofs.RuleLemmas.{keeps_rules}
use Rattle.sd_script.proofs.read.read_script.Goals as goal

pub returns-in-Ok-clause-rules : goal.returns-in-Ok-clause-rules
returns-in-Ok-clause-rules c =
    let draft = c.read_lines.new.draft in
    let is = said_whole c.args.text.now draft (c.in_ok-number.ensures).0 ((c.if-not-is_whole.ensures).0 refl) in
    subst KeepsRules (sym c.in-Ok.ensures) (keeps_rules c.args.text.now (script_of draft) is)
