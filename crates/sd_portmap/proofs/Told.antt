-- Messages are told apart by the values that they are.
use Rattle.std.proofs.Common.{◌≡◌, ℕ, Bool, true, false, cond, List, [], ◌∷◌, refl, ap}
use Rattle.sd_xdr.specs.Kind.{number}
use Rattle.sd_portmap.specs.declared.mapping.Mapping.{Mapping}
use Rattle.sd_portmap.specs.declared.message.PmapArgs.{PmapArgs}
use Rattle.sd_portmap.specs.declared.message.PmapArgs.TheVariants as args
use Rattle.sd_portmap.specs.declared.message.PmapResult.{PmapResult}
use Rattle.sd_portmap.specs.declared.message.PmapResult.TheVariants as results
use Rattle.sd_portmap.specs.Layout.{mapping_value, args_value, mappings_value, result_value}

abbrev made : ℕ → ℕ → ℕ → ℕ → Mapping
made prog vers prot port = record { prog = prog; vers = vers; prot = prot; port = port }

told : (f : ℕ → ℕ → ℕ → ℕ → Mapping) (m n : Mapping) → mapping_value m ≡ mapping_value n → f m.prog m.vers m.prot m.port ≡ f n.prog n.vers n.prot n.port
told f m n h = cc

told_mapping : (m n : Mapping) → mapping_value m ≡ mapping_value n → m ≡ n
told_mapping m n h = told made m n h

told_mappings : (ms ns : List Mapping) → mappings_value ms ≡ mappings_value ns → ms ≡ ns
told_mappings [] [] h = refl
told_mappings [] (n ∷ ns) h = absurd cc
told_mappings (m ∷ ms) [] h = absurd cc
told_mappings (m ∷ ms) (n ∷ ns) h =
    let first : m ≡ n = told_mapping m n cc in
    let others : ms ≡ ns = told_mappings ms ns cc in
    cc

told_flag : (a b : Bool) → number (cond a 1 0) ≡ number (cond b 1 0) → a ≡ b
told_flag true true h = refl
told_flag false false h = refl
told_flag true false h = absurd cc
told_flag false true h = absurd cc

pub told_args : (a b : PmapArgs) → args_value a ≡ args_value b → a ≡ b
told_args args.Null args.Null h = refl
told_args (args.Set m) (args.Set n) h = ap args.Set (told_mapping m n cc)
told_args (args.Unset m) (args.Unset n) h = ap args.Unset (told_mapping m n cc)
told_args (args.Getport m) (args.Getport n) h = ap args.Getport (told_mapping m n cc)
told_args args.Dump args.Dump h = refl
told_args (args.Callit prog vers proc_no bs) (args.Callit prog' vers' proc_no' bs') h = cc
told_args a b h = absurd cc

pub told_result : (r s : PmapResult) → result_value r ≡ result_value s → r ≡ s
told_result results.Void results.Void h = refl
told_result (results.Flag a) (results.Flag b) h = ap results.Flag (told_flag a b cc)
told_result (results.Port port) (results.Port port') h = cc
told_result (results.Mappings ms) (results.Mappings ns) h = ap results.Mappings (told_mappings ms ns cc)
told_result (results.Callit port bs) (results.Callit port' bs') h = cc
told_result r s h = absurd cc
