use Rattle.std.proofs.Common.{◌≡◌, true, rules}
use Rattle.std.specs.Str.{bytes_eq}
use Rattle.sd_server.proofs.Files.{file_found, file_named}
use Rattle.sd_server.proofs.sessions.place_of_file.Goals as goal

pub returns-then-eq-clause-found : goal.returns-then-eq-clause-found
returns-then-eq-clause-found c =
    let same : bytes_eq c.index-files-place.result.name c.args.name.now ≡ true = search rules in
    file_found c.args.config.now c.as_slice-files.result.now c.loop-place.place c.args.name.now c.index-files-place.result c.as_slice-files.ensures c.loop-place-test.true c.index-files-place.is same c.loop-place.invariant

pub returns-then-eq-clause-named : goal.returns-then-eq-clause-named
returns-then-eq-clause-named c =
    let same : c.index-files-place.result.name ≡ c.args.name.now = search rules in
    file_named c.args.config.now c.as_slice-files.result.now c.loop-place.place c.args.name.now c.index-files-place.result c.as_slice-files.ensures c.loop-place-test.true c.index-files-place.is same
