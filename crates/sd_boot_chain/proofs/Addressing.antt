-- What came of asking for one's own address.
use Rattle.std.proofs.Common.{ℕ, List, refl, subst}
use Rattle.sd_outside.specs.declared.packet.Mac.{Mac}
use Rattle.sd_config.specs.declared.config.Config.{Config}
use Rattle.sd_config.specs.declared.config.ClientConfig.{ClientConfig}
use Rattle.sd_config.specs.declared.stage.Stage.TheVariants as stage
use Rattle.sd_config.specs.Config.{IsFor}
use Rattle.sd_link.specs.Link.{IsSettledBy}
use Rattle.sd_link.specs.Steps.{Step, History}
use Rattle.sd_link.specs.Tries.{Answered, Flooded, TimedOut, Failed}
use Rattle.sd_config.specs.declared.told.Told.TheVariants.{AddrOk, AddrTimeout, AddrFlood, AddrLinkFault}
use Rattle.sd_claims.specs.Rarp.{rarp_request, rarp_hearing}
use Rattle.sd_claims.specs.Booting.{LearnsAddress}
use Rattle.sd_claims.specs.Causes.{addr_ok, addr_timeout, addr_flood, addr_linkfault, AddressTimedOut, AddressFlooded, AddressFailed}
use Rattle.sd_rpc_retry.specs.Asking.{IsAsked}
use Rattle.sd_rpc_retry.specs.declared.asking.Asked.{Asked}
use Rattle.sd_rpc_retry.specs.declared.asking.Asked.TheVariants.{Answer, Timeout, Flood, Fault}
use Rattle.sd_boot_chain.specs.Address.{shows_learned, IsAddrAnswer}
use Rattle.sd_boot_chain.specs.declared.address.Learned as code

-- what holds of the client's configuration holds of the whole one
pub as_config : (c : Config) (client : ClientConfig) (P : Mac → ℕ → ℕ → Type 0) → IsFor c client → P client.mac client.tries client.wait → P c.client.mac c.tries c.wait
as_config c client P is h =
    subst (λ (m : Mac). P m c.tries c.wait) is.mac (subst (λ (t : ℕ). P client.mac t c.wait) is.tries (subst (λ (w : ℕ). P client.mac client.tries w) is.wait h))

-- what a client of this configuration asked
abbrev pub AsksAddress : ClientConfig → Asked code.Learned → History → List Step → Type 0
AsksAddress client what old part = IsAsked (rarp_request client.mac) (rarp_hearing client.mac) shows_learned client.tries client.wait what old part

module _ (client : ClientConfig) (h : History) (part : List Step) (is : IsFor h.config client) where
  pub told_address : (learned : code.Learned) → AsksAddress client (Answer learned) h part → LearnsAddress (IsSettledBy h) h.config (shows_learned learned) part
  told_address learned a = as_config h.config client (λ m tries wait. Answered (IsSettledBy h) (rarp_request m) (rarp_hearing m) tries wait (shows_learned learned) part) is a.came

  pub address_vain : AsksAddress client Timeout h part → AddressTimedOut (IsSettledBy h) h.config part
  address_vain a = as_config h.config client (λ m tries wait. TimedOut (IsSettledBy h) (rarp_request m) (rarp_hearing m) tries wait part) is a.came

  pub address_full : AsksAddress client Flood h part → AddressFlooded (IsSettledBy h) h.config part
  address_full a = as_config h.config client (λ m tries wait. Flooded (IsSettledBy h) (rarp_request m) (rarp_hearing m) tries wait part) is a.came

  pub address_broken : AsksAddress client Fault h part → AddressFailed (IsSettledBy h) h.config part
  address_broken a = as_config h.config client (λ m tries wait. Failed (IsSettledBy h) (rarp_request m) (rarp_hearing m) tries wait part) is a.came

pub address_told : (client : ClientConfig) (h : History) (part : List Step) (learned : code.Learned) → AsksAddress client (Answer learned) h part → IsAddrAnswer client (AddrOk learned.address) h part
address_told client h part learned a is = (
  λ n. addr_ok (shows_learned learned) part (told_address client h part is learned a),
  ((a.came.ends.before, a.came.ends.id, a.came.ends.packet, a.came.ends.cut), λ was. a.ended (λ packet. refl) was),
)

pub address_timeout : (client : ClientConfig) (h : History) (part : List Step) → AsksAddress client Timeout h part → IsAddrAnswer client AddrTimeout h part
address_timeout client h part a is = (λ n. addr_timeout part (address_vain client h part is a), λ was. a.ended (λ packet. refl) was)

pub address_flood : (client : ClientConfig) (h : History) (part : List Step) → AsksAddress client Flood h part → IsAddrAnswer client (AddrFlood stage.Rarp) h part
address_flood client h part a is = (λ n. addr_flood part (address_full client h part is a), λ was. a.ended (λ packet. refl) was)

pub address_failed : (client : ClientConfig) (h : History) (part : List Step) → AsksAddress client Fault h part → IsAddrAnswer client AddrLinkFault h part
address_failed client h part a is = (λ n. addr_linkfault part (address_broken client h part is a), tt)
