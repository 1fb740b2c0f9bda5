-- When what a caller is told is what its server says.
use Rattle.std.specs.Prelude.{◌≡◌, ℕ, List}
use Rattle.sd_outside.specs.declared.packet.Addr.{Addr}
use Rattle.sd_config.specs.declared.config.Config.{Config}
use Rattle.sd_config.specs.Config.{IsConfig}
use Rattle.sd_link.specs.Requests.{IsRpcPort}
use Rattle.sd_link.specs.Steps.{Step, History, world_of, run, IsLawfulSoFar}
use Rattle.sd_rpc_retry.specs.declared.calling.Caller.{Caller}
use Rattle.sd_rpc_retry.specs.Calling.{home}
use Rattle.sd_loader.specs.Fresh.{XidsBelow}

-- The world is one of a configuration. What is called is the portmapper, bootparams, MOUNT or NFS at its server. Each call from the
-- caller's address and port that may still come, and each reply to there, has an xid below the caller's next.
pub record MayTrust (caller : Caller) (dst : Addr) (h : History) : Type 0 where
  pub rules : IsConfig h.config
  pub lawful : IsLawfulSoFar h
  pub server : dst.ip ≡ h.config.server.ip
  pub port : IsRpcPort dst.port
  pub below : XidsBelow h.config (home caller) caller.next_xid (world_of h)

-- Where it may be trusted, this holds of the configuration; and afterwards the xids are below the next again.
abbrev pub Trusted : Caller → Addr → ℕ → (Config → Type 0) → History → List Step → Type 0
Trusted caller dst next Fact old part = MayTrust caller dst old → Fact old.config × XidsBelow old.config (home caller) next (run old.config (world_of old) part)
