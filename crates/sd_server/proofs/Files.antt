-- The boot file at a place.
use Rattle.std.proofs.Common.{◌≡◌, ℕ, zero, suc, ◌<◌, true, List, [], ◌∷◌, length, get_or, drop, Option, Some, refl, sym, ◌∙◌, ap, arith}
use Rattle.std.specs.Prelude.{slice_get}
use Rattle.std.specs.Option.{option_map}
use Rattle.std.specs.List.{find}
use Rattle.std.specs.Str.{bytes_eq}
use Rattle.sd_config.specs.declared.config.BootFile.{BootFile}
use Rattle.sd_config.specs.declared.config.Config.{Config}
use Rattle.sd_config.specs.Program.{boot_file}
use Rattle.sd_server.specs.Sessions.{name_at, bytes_at, name_in, bytes_in}
use Rattle.sd_server.proofs.Found.{find_here}

get-some : {A : Type 0} (xs : List A) (i : ℕ) (d : A) → i < length xs → slice_get xs i ≡ Some (get_or xs i d)
get-some [] i d lt = absurd (omega arith)
get-some (x ∷ xs) zero d lt = refl
get-some (x ∷ xs) (suc i) d lt = get-some xs i d (omega arith)

at_place : (c : Config) (files : List BootFile) (place : ℕ) (f : BootFile) → files ≡ c.tftp → place < length files → f ≡ get_or files place f → slice_get c.tftp place ≡ Some f
at_place c files place f all lt at = ap (λ (l : List BootFile). slice_get l place) (sym all) ∙ get-some files place f lt ∙ ap (λ (g : BootFile). Some g) (sym at)

pub file_found : (c : Config) (files : List BootFile) (place : ℕ) (name : List ℕ) (f : BootFile) → files ≡ c.tftp → place < length files → f ≡ get_or files place f → bytes_eq f.name name ≡ true
    → find (λ (g : BootFile). bytes_eq g.name name) (drop place files) ≡ find (λ (g : BootFile). bytes_eq g.name name) c.tftp
    → boot_file c name ≡ Some (bytes_at c place)
file_found c files place name f all lt at same so_far =
    let here : find (λ (g : BootFile). bytes_eq g.name name) (drop place files) ≡ Some f =
    find_here (λ (g : BootFile). bytes_eq g.name name) files place f lt (ap (λ (g : BootFile). bytes_eq g.name name) (sym at) ∙ same) ∙ ap (λ (g : BootFile). Some g) (sym at) in
    ap (option_map (λ (g : BootFile). g.bytes)) (sym so_far ∙ here) ∙ ap (λ (o : Option BootFile). Some (bytes_in o)) (sym (at_place c files place f all lt at))

pub file_named : (c : Config) (files : List BootFile) (place : ℕ) (name : List ℕ) (f : BootFile) → files ≡ c.tftp → place < length files → f ≡ get_or files place f → f.name ≡ name → name_at c place ≡ name
file_named c files place name f all lt at same = ap name_in (at_place c files place f all lt at) ∙ same
