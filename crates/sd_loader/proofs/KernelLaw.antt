-- What is loaded over the kernel's path is the kernel.
use Rattle.std.proofs.Common.{◌≡◌, ℕ, List, refl, sym, ap, ◌∙◌}
use Rattle.sd_services.specs.declared.node.Standing.{Standing}
use Rattle.sd_services.specs.declared.node.Standing.TheVariants.{Directory, File, Symlink}
use Rattle.sd_services.specs.Files.{exported}
use Rattle.sd_services.specs.Decisions.{root_attributes}
use Rattle.sd_nfs_msg.specs.declared.parts.Fattr.{Fattr}
use Rattle.sd_loader.specs.Walk.{what_at}
use Rattle.sd_loader.specs.Found.{KernelIsLoaded}

file_kind : (number : ℕ) (what : Standing) → (root_attributes number what).kind ≡ 1 → (content : List ℕ) × (what ≡ File content)
file_kind number Directory e = absurd cc
file_kind number (File content) e = (content, refl)
file_kind number (Symlink text) e = absurd cc

pub kernel_is_loaded : KernelIsLoaded
kernel_is_loaded c file attr bytes r kind loaded =
    let f = file_kind r.end (what_at (exported c).root r.end) (sym (ap (λ (a : Fattr). a.kind) r.attr_is) ∙ kind) in
    record { end = r.end; leads = r.leads; holds = f.1 ∙ ap File (sym (loaded r.end f.0 r.is r.attr_is f.1)) }
