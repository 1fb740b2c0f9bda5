-- A machine's three fields.
use Rattle.std.proofs.Common.{◌≡◌, sym, ◌∙◌}
use Rattle.sd_text.specs.Texts.{Text}
use Rattle.sd_config.specs.declared.config.Machine.{Machine}
use Rattle.sd_script.specs.Lines.{IsMachine}
use Rattle.sd_text.proofs.MacLemmas.{one_mac, one_ip}

pub one_machine : (mac ip name : Text) (a b : Machine) → IsMachine mac ip name a → IsMachine mac ip name b → a ≡ b
one_machine mac ip name a b x y =
    let m = one_mac mac a.mac b.mac x.is_mac y.is_mac in
    let i = one_ip ip a.ip b.ip x.is_ip y.is_ip in
    let n = x.same_name ∙ sym y.same_name in
    λ k. record { mac = m k; ip = i k; name = n k }
