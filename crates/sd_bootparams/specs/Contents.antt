-- What a bootparams file says.
use Rattle.std.specs.Prelude.{ℕ, List}
use Rattle.sd_bootparams.specs.declared.params.Entry.{Entry}

-- the clients that have a line, and the entries (client, key, server, path) of all of them, in the order of the file
pub record Contents : Type 0 where
  pub clients : List (List ℕ)
  pub entries : List Entry
