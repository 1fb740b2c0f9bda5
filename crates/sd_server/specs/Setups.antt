-- What the server's programs answer by.
use Rattle.std.specs.Prelude.{◌≡◌, List}
use Rattle.sd_portmap.specs.declared.mapping.Mapping.{Mapping}
use Rattle.sd_bootparams.specs.BookView.{BookView}
use Rattle.sd_mount.specs.declared.exports.ExportEntry.{ExportEntry}
use Rattle.sd_config.specs.declared.config.Config.{Config}
use Rattle.sd_config.specs.Config.{IsConfig}
use Rattle.sd_services.specs.Files.{Exported, exported}
use Rattle.sd_services.specs.MountReply.{exports_of}
use Rattle.sd_services.specs.RpcReply.{book_of, mappings}

-- the table, the book, the exports and the tree are those of the configuration
pub record IsSetup (c : Config) (table : List Mapping) (book : BookView) (exports : List ExportEntry) (tree : Exported) : Type 0 where
  pub config : IsConfig c
  pub table_is : table ≡ mappings
  pub book_is : book ≡ book_of c
  pub exports_is : exports ≡ exports_of c
  pub tree_is : tree ≡ exported c
