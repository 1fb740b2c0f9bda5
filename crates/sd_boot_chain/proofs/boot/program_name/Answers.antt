use Rattle.std.proofs.Common.{sym, subst}
use Rattle.sd_tftp.specs.Grammar.{HasNoZero}
use Rattle.sd_link.proofs.ProgramNames.{program_name_clean}
use Rattle.sd_boot_chain.proofs.boot.program_name.Goals as goal

pub returns-clause-clean : goal.returns-clause-clean
returns-clause-clean c = subst HasNoZero (sym c.in_ok-name.ensures) (program_name_clean c.args.arch.now c.args.ip c.requires c.ranges.ip.fits)
