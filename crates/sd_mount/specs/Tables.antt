-- What a mount server exports, and who has mounted what (RFC 1094, appendix A.5).
use Rattle.std.specs.Prelude.{◌≡◌, ◌↔◌, ℕ, ◌-◌, ◌==◌, ◌&&◌, not, Bool, true, false, if◌then◌else◌, List, [], ◌∷◌, ◌++◌, length, drop, Option, Some, None, Result, Ok, Err}
use Rattle.std.specs.List.{filter, find, list_any}
use Rattle.std.specs.Cmp.Lexicographic.{pointwise}
use Rattle.sd_outside.specs.declared.fhandle.FHandle.{FHandle}
use Rattle.sd_mount.specs.declared.exports.ExportEntry.{ExportEntry}

-- two texts are equal
abbrev pub same : List ℕ → List ℕ → Bool
same xs ys = pointwise (λ x y. x == y) xs ys

-- ---- exports

-- the first export of this path
abbrev pub export_of : List ExportEntry → List ℕ → Option ExportEntry
export_of exports path = find (λ e. same e.path path) exports

-- MNTPROC_MNT: the handle of the export, where the machine owns it. There is no such export: 2, which is NFSERR_NOENT. It is
-- another's: 13, which is NFSERR_ACCES (section 2.3.1).
abbrev pub given_to : ℕ → Option ExportEntry → Result FHandle ℕ
given_to host None = Err 2
given_to host (Some e) = if e.owner == host then Ok e.fhandle else Err 13

abbrev pub mnt_of : List ExportEntry → ℕ → List ℕ → Result FHandle ℕ
mnt_of exports host path = given_to host (export_of exports path)

-- ---- the mount list

-- a machine's address, and a path that it has mounted
abbrev pub Mount : Type 0
Mount = ℕ × List ℕ

abbrev pub is_mount : ℕ → List ℕ → Mount → Bool
is_mount host path m = m.0 == host && same m.1 path

abbrev pub has : List Mount → ℕ → List ℕ → Bool
has mounts host path = list_any (is_mount host path) mounts

-- so many of the latest
abbrev pub latest : ℕ → List Mount → List Mount
latest n mounts = drop (length mounts - n) mounts

-- MNTPROC_MNT adds a mount that isn't there as the latest, and of 64 the oldest goes.
abbrev pub with_mount : ℕ → List ℕ → List Mount → List Mount
with_mount host path mounts = if has mounts host path then mounts else latest 63 mounts ++ ((host, path) ∷ [])

-- MNTPROC_UMNT: what is left without the mount
abbrev pub without : ℕ → List ℕ → List Mount → List Mount
without host path mounts = filter (λ m. not (is_mount host path m)) mounts

-- MNTPROC_UMNTALL: what is left without the machine's mounts
abbrev pub without_host : ℕ → List Mount → List Mount
without_host host mounts = filter (λ m. not (m.0 == host)) mounts

-- no two mounts are equal
abbrev pub Differ : List Mount → Type 0
Differ [] = Unit {0}
Differ (m ∷ ms) = (has ms m.0 m.1 ≡ false) × Differ ms

-- ---- laws

-- Two texts are the same exactly where they are equal.
abbrev pub SameIsEqual : Type 0
SameIsEqual = (xs ys : List ℕ) → (same xs ys ≡ true) ↔ (xs ≡ ys)

-- What was added is there.
abbrev pub AddedIsThere : Type 0
AddedIsThere = (mounts : List Mount) (host : ℕ) (path : List ℕ) → has (with_mount host path mounts) host path ≡ true

-- What was removed isn't there, and of a machine that left nothing is.
abbrev pub RemovedIsGone : Type 0
RemovedIsGone = (mounts : List Mount) (host : ℕ) (path : List ℕ) →
    (has (without host path mounts) host path ≡ false) × (has (without_host host mounts) host path ≡ false)
