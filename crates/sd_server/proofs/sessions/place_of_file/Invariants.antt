use Rattle.std.proofs.Common.{◌≡◌, drop}
use Rattle.std.specs.List.{find}
use Rattle.std.specs.Str.{bytes_eq}
use Rattle.sd_server.proofs.sessions.place_of_file.Given as goal

abbrev pub invariant-loop-place : goal.invariant-loop-place
invariant-loop-place l =
    find (λ f. bytes_eq f.name l.name) (drop l.place l.files) ≡ find (λ f. bytes_eq f.name l.name) l.config.tftp
