use Rattle.std.proofs.Common.{◌≡◌, Bool, ℕ, List, Option, Some, None, refl, sym, ap, ◌∙◌, subst}
use Rattle.sd_nfs_msg.specs.declared.message.NfsResult.{NfsResult}
use Rattle.sd_nfs_server.specs.declared.plan.NfsPlan.{NfsPlan}
use Rattle.sd_nfs_server.specs.declared.plan.NfsPlan.TheVariants.{Now, Swap}
use Rattle.sd_server.proofs.NfsPlans.{now_so, later_so}
use Rattle.sd_server.proofs.nfs.nfs_planned.Goals as goal

pub returns-in_ok-given_reply-in-Now : goal.returns-in_ok-given_reply-in-Now
returns-in_ok-given_reply-in-Now c =
    let e = c.in_ok-done.ensures in
    now_so c.args.setup.now c.args.from c.args.xid c.args.args c.tree.result.now c.in_ok-done.field-0 c.in-Now.done c.in_ok-given_reply-in-Now.field-0 c.tree.ensures.same c.in-Now.is e.reply e.change e.swap
    c.in_ok-given_reply-in-Now.ensures.reply c.in_ok-given_reply-in-Now.ensures.fits

pub returns-in_ok-act-in-Swap : goal.returns-in_ok-act-in-Swap
returns-in_ok-act-in-Swap c =
    let e = c.in_ok-done.ensures in (
      refl,
      later_so c.args.setup.now c.args.from c.args.args c.tree.result.now c.in_ok-done.field-0 c.in-Swap.done c.in-Swap.at c.in-Swap.len c.in_ok-act-in-Swap.act c.tree.ensures.same c.in-Swap.is e.reply e.change e.swap e.range e.fits e.exact
          c.requires c.in_ok-act-in-Swap.ensures,
    )
