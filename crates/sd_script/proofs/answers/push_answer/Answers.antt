use Rattle.sd_script.proofs.answers.push_answer.Goals as goal

pub returns-in-BootTimeout : goal.returns-in-BootTimeout
returns-in-BootTimeout c = rw c.in-BootTimeout.is c.push_step-in-BootTimeout.ensures

pub returns-in-BootTooLarge : goal.returns-in-BootTooLarge
returns-in-BootTooLarge c = rw c.in-BootTooLarge.is c.push_count.ensures

pub returns-in-BootLinkFault : goal.returns-in-BootLinkFault
returns-in-BootLinkFault c = rw c.in-BootLinkFault.is c.push_slice-in-BootLinkFault.ensures.ok

pub returns-in-WaitFlood : goal.returns-in-WaitFlood
returns-in-WaitFlood c = rw c.in-WaitFlood.is c.push_wait-in-WaitFlood.ensures
