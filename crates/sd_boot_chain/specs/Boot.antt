-- What a client does after it learned its address.
use Rattle.std.specs.Prelude.{ℕ, ◌+◌, List, [], ◌++◌}
use Rattle.sd_config.specs.Config.{IsFor}
use Rattle.sd_config.specs.Program.{program_name}
use Rattle.sd_link.specs.Steps.{Step, History}
use Rattle.sd_link.specs.Link.{GoesOn, IsSettledBy}
use Rattle.sd_rpc_retry.specs.declared.calling.Caller.{Caller}
use Rattle.sd_config.specs.declared.command.Command.TheVariants.{Boot}
use Rattle.sd_config.specs.declared.told.Told.{Told}
use Rattle.sd_claims.specs.Rarp.{Learned}
use Rattle.sd_claims.specs.Fetching.{Fetch}
use Rattle.sd_claims.specs.Booting.{Counts, LearnsAddress}
use Rattle.sd_claims.specs.Causes.{Cause}
use Rattle.sd_boot_chain.specs.Replies.{AllComeRight}
use Rattle.sd_boot_chain.specs.Step.{ClientView, HasCounted}

-- the next fetch of the boot program
abbrev pub task_of : ClientView → Learned → Fetch
task_of client learned = record {
  me = record { ip = learned.address; port = 2048 + client.boots };
  server = learned.responder;
  name = program_name client.config.arch learned.address;
  tries = client.config.tries;
  wait = client.config.wait;
}

-- who makes the next call
abbrev pub caller_of : ClientView → ℕ → Caller
caller_of client ip = record { ip = ip; port = 1021; machine = []; next_xid = client.next_xid; tries = client.config.tries; wait = client.config.wait }

-- Whatever part before told the address, the boot's answer has its cause in both parts together, where what comes in them is right,
-- and the client counts on.
abbrev pub IsBootAnswer : ClientView → Learned → Told → ClientView → History → List Step → Type 0
IsBootAnswer client learned answer next old part =
    (first : History) (address : List Step) → GoesOn first old address → IsFor first.config client.config → (n : Counts) → HasCounted client n → LearnsAddress (IsSettledBy first) first.config learned address
    → AllComeRight first.config (address ++ part)
    → (counts : Counts) × Cause (IsSettledBy first) first.config n Boot answer counts (address ++ part) × HasCounted next counts
