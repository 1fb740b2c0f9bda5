-- Indexes beside lists: the set of the names of clients, and that of the clients and keys of items.
use Rattle.std.specs.Prelude.{◌≡◌, ℕ, ◌&&◌, List, Vec}
use Rattle.std.specs.declared.alloc.Global.{Global}
use Rattle.std.specs.declared.cmp.Ordering.{Ordering}
use Rattle.std.specs.Cmp.Lexicographic.{slice_cmp}
use Rattle.std.specs.List.{list_any}
use Rattle.std.specs.Ordering.{nat_cmp, ordering_then}
use Rattle.std.specs.BTreeSet.{BTreeSet, contains}
use Rattle.sd_bootparams.specs.declared.params.Entry.{Entry}
use Rattle.sd_bootparams.specs.declared.known.ItemName.{ItemName}
use Rattle.sd_bootparams.specs.File.{Text, same}

-- the order of the indexes
abbrev pub name_cmp : Vec ℕ Global → Vec ℕ Global → Ordering
name_cmp a b = slice_cmp nat_cmp a.items b.items

abbrev pub item_cmp : ItemName → ItemName → Ordering
item_cmp a b = ordering_then (name_cmp a.client b.client) (name_cmp a.key b.key)

-- the set has the names of these clients
abbrev pub AreNames : BTreeSet (Vec ℕ Global) → List Text → Type 0
AreNames names clients = (name : Vec ℕ Global) → contains name_cmp names name ≡ list_any (λ c. same c name.items) clients

-- the set has the clients and keys of these items
abbrev pub AreItemNames : BTreeSet ItemName → List Entry → Type 0
AreItemNames names entries = (name : ItemName) →
    contains item_cmp names name ≡ list_any (λ e. same e.client name.client.items && same e.key name.key.items) entries
