use Rattle.std.proofs.Common.{rules}
use Rattle.std.specs.Prelude.{not, ◌==◌}
use Rattle.sd_server.proofs.Retained.{kept_by}
use Rattle.sd_server.proofs.sessions.drop_session.Goals as goal

pub returns : goal.returns
returns c = kept_by _ (λ s. not (s.number == c.args.number)) _ (λ x b q k. search (rules)) _ _ c.retain.ensures.filtered
