-- The blocks of boot files.
use Rattle.std.proofs.Common.{◌≡◌, ℕ, zero, suc, ◌+◌, ◌-◌, ◌*◌, ◌<◌, ◌≤◌, List, [], ◌∷◌, length, take, drop, sym, ◌∙◌, subst, arith, length-take, length-drop}
use Rattle.std.specs.Prelude.{slice_get}
use Rattle.std.specs.List.{AllByRecursion}
use Rattle.sd_tftp.specs.Blocks.{block_at}
use Rattle.sd_config.specs.declared.config.BootFile.{BootFile}
use Rattle.sd_config.specs.declared.config.Config.{Config}
use Rattle.sd_config.specs.Config.{IsConfig, IsBootFile}
use Rattle.sd_server.specs.Sessions.{bytes_in, bytes_at}
use Rattle.sd_server.proofs.Every.{all_of}

most : {A : Type 0} (k : ℕ) (xs : List A) → length (take k xs) ≤ k
most k xs = omega (arith, length-take k xs)

pub block_fits : (bytes body file : List ℕ) (n : ℕ) → bytes ≡ body → body ≡ block_at file n → length bytes ≤ 512
block_fits bytes body file n is at = subst (λ (l : List ℕ). length l ≤ 512) (sym (is ∙ at)) (most 512 (drop (512 * (n - 1)) file))

bytes_in_all : (files : List BootFile) (place : ℕ) → AllByRecursion IsBootFile files → length (bytes_in (slice_get files place)) ≤ 33553919
bytes_in_all [] place all = omega arith
bytes_in_all (f ∷ fs) zero all = all.0.most
bytes_in_all (f ∷ fs) (suc place) all = bytes_in_all fs place all.1

pub bytes_fit : (c : Config) (place : ℕ) → IsConfig c → length (bytes_at c place) ≤ 33553919
bytes_fit c place is = bytes_in_all c.tftp place (all_of IsBootFile c.tftp is.tftp.each)
