-- The boot program: which file of the configuration a client boots.
use Rattle.std.specs.Prelude.{ℕ, List, [], ◌∷◌, ◌++◌, Option}
use Rattle.std.specs.Int.{w32, to_be_bytes}
use Rattle.std.specs.List.{find}
use Rattle.std.specs.Option.{option_map}
use Rattle.std.specs.Str.{bytes_eq}
use Rattle.hex.specs.Hex.{encode_upper}
use Rattle.sd_config.specs.declared.config.BootFile.{BootFile}
use Rattle.sd_config.specs.declared.config.Config.{Config}

-- an architecture's name after a dot, where there is one
abbrev pub arch_suffix : List ℕ → List ℕ
arch_suffix [] = []
arch_suffix (b ∷ arch) = 46 ∷ b ∷ arch

-- the name that a client with this architecture and this address asks for: the address as eight hexadecimal digits in
-- upper case, and the architecture's name after a dot
abbrev pub program_name : List ℕ → ℕ → List ℕ
program_name arch ip = encode_upper (to_be_bytes w32 ip) ++ arch_suffix arch

-- the bytes of the boot file with this name
abbrev pub boot_file : Config → List ℕ → Option (List ℕ)
boot_file c name = option_map (λ file. file.bytes) (find (λ (file : BootFile). bytes_eq file.name name) c.tftp)

-- the boot program of the client, where it is there
abbrev pub program_of : Config → Option (List ℕ)
program_of c = boot_file c (program_name c.arch c.client.ip)
