-- Messages are told apart by the values that they are.
use Rattle.std.proofs.Common.{◌≡◌, ℕ, List, [], ◌∷◌, refl, ap}
use Rattle.sd_outside.specs.declared.fhandle.FHandle.{FHandle}
use Rattle.sd_mount.specs.declared.lists.MountPair.{MountPair}
use Rattle.sd_mount.specs.declared.lists.ExportItem.{ExportItem}
use Rattle.sd_mount.specs.declared.message.MountArgs.{MountArgs}
use Rattle.sd_mount.specs.declared.message.MountArgs.TheVariants as args
use Rattle.sd_mount.specs.declared.message.MountResult.{MountResult}
use Rattle.sd_mount.specs.declared.message.MountResult.TheVariants as results
use Rattle.sd_mount.specs.Layout.{mount_value, mounts_value, names_value, export_value, exports_value, args_value, result_value}

abbrev handle : List ℕ → FHandle
handle bs = record { 0 = bs }

told_handle : (a b : FHandle) → a.0 ≡ b.0 → a ≡ b
told_handle a b h = ap handle h

abbrev mount : List ℕ → List ℕ → MountPair
mount host path = record { host = host; path = path }

mount_by : (f : List ℕ → List ℕ → MountPair) (m n : MountPair) → mount_value m ≡ mount_value n → f m.host m.path ≡ f n.host n.path
mount_by f m n h = cc

told_mounts : (ms ns : List MountPair) → mounts_value ms ≡ mounts_value ns → ms ≡ ns
told_mounts [] [] h = refl
told_mounts [] (n ∷ ns) h = absurd cc
told_mounts (m ∷ ms) [] h = absurd cc
told_mounts (m ∷ ms) (n ∷ ns) h =
    let first : m ≡ n = mount_by mount m n cc in
    let others : ms ≡ ns = told_mounts ms ns cc in
    cc

told_names : (xs ys : List (List ℕ)) → names_value xs ≡ names_value ys → xs ≡ ys
told_names [] [] h = refl
told_names [] (y ∷ ys) h = absurd cc
told_names (x ∷ xs) [] h = absurd cc
told_names (x ∷ xs) (y ∷ ys) h =
    let others : xs ≡ ys = told_names xs ys cc in
    cc

abbrev export : List ℕ → List (List ℕ) → ExportItem
export path groups = record { path = path; groups = groups }

export_by : (f : List ℕ → List (List ℕ) → ExportItem) (d e : ExportItem) → export_value d ≡ export_value e → f d.path d.groups ≡ f e.path e.groups
export_by f d e h =
    let groups : d.groups ≡ e.groups = told_names d.groups e.groups cc in
    cc

told_exports : (ds es : List ExportItem) → exports_value ds ≡ exports_value es → ds ≡ es
told_exports [] [] h = refl
told_exports [] (e ∷ es) h = absurd cc
told_exports (d ∷ ds) [] h = absurd cc
told_exports (d ∷ ds) (e ∷ es) h =
    let first : d ≡ e = export_by export d e cc in
    let others : ds ≡ es = told_exports ds es cc in
    cc

pub told_args : (a b : MountArgs) → args_value a ≡ args_value b → a ≡ b
told_args args.Null args.Null h = refl
told_args (args.Mnt x) (args.Mnt y) h = cc
told_args args.Dump args.Dump h = refl
told_args (args.Umnt x) (args.Umnt y) h = cc
told_args args.UmntAll args.UmntAll h = refl
told_args args.Export args.Export h = refl
told_args a b h = absurd cc

pub told_result : (r s : MountResult) → result_value r ≡ result_value s → r ≡ s
told_result results.Void results.Void h = refl
told_result (results.Given f) (results.Given g) h = ap results.Given (told_handle f g cc)
told_result (results.Refused i) (results.Refused j) h = cc
told_result (results.Mounts ms) (results.Mounts ns) h = ap results.Mounts (told_mounts ms ns cc)
told_result (results.Exports ds) (results.Exports es) h = ap results.Exports (told_exports ds es cc)
told_result r s h = absurd cc
