-- The table of a portmapper (RFC 1057, appendix A): the list of its mappings, in order of setting.
use Rattle.std.specs.Prelude.{◌≡◌, ℕ, ◌==◌, ◌&&◌, not, Bool, true, false, List, [], ◌∷◌, ◌++◌, Option, Some, None}
use Rattle.std.specs.List.{filter, find, list_any}
use Rattle.sd_portmap.specs.declared.mapping.Mapping.{Mapping}

-- the mapping is of this program, version and protocol
abbrev pub is_triple : ℕ → ℕ → ℕ → Mapping → Bool
is_triple prog vers prot m = m.prog == prog && m.vers == vers && m.prot == prot

-- the mapping is of this program and version, whatever its protocol
abbrev pub is_version : ℕ → ℕ → Mapping → Bool
is_version prog vers m = m.prog == prog && m.vers == vers

abbrev pub port_or_none : Option Mapping → ℕ
port_or_none None = 0
port_or_none (Some m) = m.port

-- PMAPPROC_GETPORT: the port of the triple, or 0
abbrev pub port_of : List Mapping → ℕ → ℕ → ℕ → ℕ
port_of table prog vers prot = port_or_none (find (is_triple prog vers prot) table)

-- whether the mapping's triple is mapped
abbrev pub has : List Mapping → Mapping → Bool
has table m = list_any (is_triple m.prog m.vers m.prot) table

-- PMAPPROC_SET: a mapping is added where its triple isn't mapped, and else nothing is changed.
abbrev pub Sets : List Mapping → Mapping → List Mapping → Bool → Type 0
Sets old m new true = (has old m ≡ false) × (new ≡ old ++ (m ∷ []))
Sets old m new false = (has old m ≡ true) × (new ≡ old)

-- PMAPPROC_UNSET: what is left without the program's version
abbrev pub without : ℕ → ℕ → List Mapping → List Mapping
without prog vers table = filter (λ m. not (is_version prog vers m)) table

-- no two mappings are of the same triple
abbrev pub Differ : List Mapping → Type 0
Differ [] = Unit {0}
Differ (m ∷ ms) = (has ms m ≡ false) × Differ ms

-- Each mapping of a table is the one that is found.
abbrev pub MappingsAreFound : Type 0
MappingsAreFound = (before : List Mapping) (m : Mapping) (after : List Mapping) → Differ (before ++ (m ∷ after)) →
    find (is_triple m.prog m.vers m.prot) (before ++ (m ∷ after)) ≡ Some m
