-- A READ or WRITE of the swap file goes to the port of NFS.
use Rattle.std.proofs.Common.{◌≡◌, ℕ, Bool, true, false, cond, List, None, refl}
use Rattle.std.proofs.lemmas.Bool.{eqb-true}
use Rattle.std.specs.Prelude.{◌==◌, ◌&&◌}
use Rattle.std.specs.Option.{option_map}
use Rattle.sd_outside.specs.declared.packet.Addr.{Addr}
use Rattle.sd_outside.specs.declared.packet.Packet.TheVariants.{Udp}
use Rattle.sd_nfs_msg.specs.declared.message.NfsArgs.{NfsArgs}
use Rattle.sd_config.specs.declared.config.Config.{Config}
use Rattle.sd_nfs_msg.specs.Layout.{nfs_port}
use Rattle.sd_services.specs.NfsCalls.{nfs_asked, uses_swap_file, is_swap_access}

pub is_to_nfs_port : (c : Config) (src dst : Addr) (body : List ℕ) → is_swap_access c (Udp src dst body) ≡ true → dst.port ≡ nfs_port
unfolding is_swap_access
is_to_nfs_port c src dst body e = of (dst.ip == c.server.ip) (dst.port == nfs_port) refl e
  where
    of : (a b : Bool) → (dst.port == nfs_port) ≡ b → uses_swap_file c (cond (a && b) (option_map (λ (args : NfsArgs). (src.ip, args)) (nfs_asked body)) None) ≡ true → dst.port ≡ nfs_port
    of true true is uses = eqb-true dst.port nfs_port is
    of true false is uses = absurd cc
    of false b is uses = absurd cc
