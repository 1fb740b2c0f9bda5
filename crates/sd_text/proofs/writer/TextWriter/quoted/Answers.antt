use Rattle.std.proofs.Common.{◌++◌, ◌∷◌, [], map, ap, ◌∙◌, append_assoc}
use Rattle.std.specs.List.{concat}
use Rattle.sd_text.specs.Texts.{Text}
use Rattle.sd_text.specs.Grammar.{escaped}
use Rattle.sd_text.proofs.writer.TextWriter.quoted.Goals as goal

pub loop-byte-init : goal.loop-byte-init
loop-byte-init c =
    let more = concat (map escaped c.args.bytes.now) ++ 34 ∷ [] in
    ap (λ (t : Text). t ++ more) c.in_ok-said.ensures ∙ append_assoc c.args.self.now (34 ∷ []) more
