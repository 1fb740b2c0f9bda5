use Rattle.std.proofs.Common.{◌≡◌}
use Rattle.std.proofs.lemmas.Result.{IfOk-weaker}
use Rattle.sd_server.specs.Coming.{arrival, comes_as, ComesRead}
use Rattle.sd_server.specs.Services.{program_of}
use Rattle.sd_server.proofs.Known.{arrives_so}
use Rattle.sd_server.proofs.coming.arrive.Goals as goal

pub returns-clause-comes : goal.returns-clause-comes
returns-clause-comes c =
    let p = program_of c.args.service in
    IfOk-weaker c.coming_read.result (λ come. ComesRead p c.read_message.result (comes_as p come)) (λ come. arrival p c.args.body.now ≡ comes_as p come)
    (λ come is. arrives_so p c.args.body.now c.read_message.result (comes_as p come) c.read_message.ensures.answers is) c.coming_read.ensures.comes
