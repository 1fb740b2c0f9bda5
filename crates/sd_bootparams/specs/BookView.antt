-- What a server of bootparams answers by: what the file says, the machines that are known, in order, and the domain and the router
-- of every client.
use Rattle.std.specs.Prelude.{ℕ, List}
use Rattle.sd_bootparams.specs.declared.book.Host.{Host}
use Rattle.sd_bootparams.specs.Contents.{Contents}

pub record BookView : Type 0 where
  pub contents : Contents
  pub hosts : List Host
  pub domain : List ℕ
  pub router : ℕ
