use Rattle.std.proofs.Common.{◌≡◌, ℕ, List, length, map, Option, Some, None, refl, sym, ap, ◌∙◌, subst}
use Rattle.std.specs.Prelude.{IfSome}
use Rattle.std.specs.Option.{option_map}
use Rattle.sd_config.specs.declared.config.Config.{Config}
use Rattle.sd_config.specs.declared.config.SwapLine.{SwapLine}
use Rattle.sd_config.specs.Config.{IsConfig}
use Rattle.sd_server.specs.Access.{sizes_of}
use Rattle.sd_server.specs.Deciding.{DeskView}
use Rattle.sd_server.specs.Standing.{ServerView, first_other}
use Rattle.sd_stable_disk.specs.declared.errors.OpenError.TheVariants.{DiskFault}
use Rattle.sd_server.specs.declared.errors.ServerError.TheVariants as ServerError
use Rattle.sd_server.proofs.Accesses.{none_made}
use Rattle.sd_server.proofs.Opened.{sizes_so, server_so, opened_so, holds_so, refused_so}
use Rattle.sd_server.proofs.server.Server.open.Goals as goal

pub invariant_of-result : goal.invariant_of-result
invariant_of-result g c =
    let config : Config = c.in-Ok.desk.config in
    let is : IsConfig config = subst IsConfig (sym (ap (λ (d : DeskView). d.config) c.in-Ok.ensures.ok)) c.requires in
    let want = c.wanted.ensures ∙ ap (λ (k : Config). option_map (λ (l : SwapLine). l.size) k.swap) c.config.ensures.same in
    server_so g.D.Disk.seen config c.in-Ok-open.store is
    (sizes_so config c.in-Ok-open.store.sizes c.sizes.result.now c.wanted.result c.first_other.result c.sizes.ensures want c.first_other.ensures c.in-None.is) c.in-Ok-open.ensures.sizes

pub returns-in-None-clause-opened : goal.returns-in-None-clause-opened
returns-in-None-clause-opened g c = λ stored holds.
    let server : ServerView g.row.D.Denot = record { config = c.in-Ok.desk.config; volatile = c.in-Ok.desk.volatile; store = c.in-Ok-open.store } in
    opened_so g.D.Disk.seen g.D.Disk.may_leave server stored (invariant_of-result g c) (ap (λ (d : DeskView). d.volatile) c.in-Ok.ensures.ok) c.in-Ok-open.ensures.up (c.in-Ok-open.ensures.files ∙ holds) c.in-Ok-open.ensures.durable

pub returns-in-Some-clause-refused : goal.returns-in-Some-clause-refused
returns-in-Some-clause-refused g c =
    let config_is = ap (λ (d : DeskView). d.config) c.in-Ok.ensures.ok in
    let want = c.wanted.ensures ∙ ap (λ (k : Config). option_map (λ (l : SwapLine). l.size) k.swap) (c.config.ensures.same ∙ config_is) in (
      c.in-Ok-open.store.sizes,
      holds_so (g.D.Disk.seen c.args.disk) c.in-Ok-open.store.sizes _ c.in-Ok-open.ensures.files c.in-Ok-open.ensures.readable c.in-Ok-open.ensures.sizes,
      refused_so c.args.config c.in-Ok-open.store.sizes c.sizes.result.now c.wanted.result c.first_other.result (c.in-Some.stored, c.in-Some.want) c.sizes.ensures want c.first_other.ensures c.in-Some.is,
    )

pub returns-in-Err-clause-refused_plan : goal.returns-in-Err-clause-refused_plan
returns-in-Err-clause-refused_plan g c = none_made 5 4 (g.D.Disk.plan c.args.disk) (ServerError.NoMemory ≡ ServerError.Store DiskFault) (λ same. absurd (cc same))

pub returns-in-None-clause-sizes : goal.returns-in-None-clause-sizes
returns-in-None-clause-sizes g c =
    let want = c.wanted.ensures ∙ ap (λ (k : Config). option_map (λ (l : SwapLine). l.size) k.swap) (c.config.ensures.same ∙ ap (λ (d : DeskView). d.config) c.in-Ok.ensures.ok) in
    sizes_so c.args.config c.in-Ok-open.store.sizes c.sizes.result.now c.wanted.result c.first_other.result c.sizes.ensures want c.first_other.ensures c.in-None.is
