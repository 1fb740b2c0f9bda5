-- A server that was opened, and why one isn't.
use Rattle.std.proofs.Common.{◌≡◌, ℕ, Bool, true, false, cond, List, [], ◌∷◌, length, map, replicate, Option, Some, None, refl, sym, ap, ◌∙◌, subst, arith}
use Rattle.std.specs.Prelude.{◌==◌, IfSome, IsSomeAnd, IsOk, Result, Ok, Err}
use Rattle.std.specs.Result.{result_ok}
use Rattle.std.specs.Option.{option_map, option_and_then}
use Rattle.std.proofs.lemmas.Bool.{false≢true}
use Rattle.std.proofs.lemmas.List.{length-replicate}
use Rattle.sd_stable_disk.specs.Image.{held, opens}
use Rattle.sd_stable_disk.specs.declared.errors.OpenError.{OpenError}
use Rattle.sd_stable_disk.specs.declared.errors.OpenError.TheVariants as opening
use Rattle.sd_stable_disk.specs.Files.{Stored, files, may_hold, OnlyHolds, IsRefused, HasFault}
use Rattle.sd_config.specs.declared.config.SwapLine.{SwapLine}
use Rattle.sd_config.specs.declared.config.Config.{Config}
use Rattle.sd_config.specs.Config.{IsConfig}
use Rattle.sd_services.specs.Part.{swap_files}
use Rattle.sd_server.specs.Access.{sizes_of}
use Rattle.sd_server.specs.State.{Volatile, State, nothing_volatile, part_with, opened}
use Rattle.sd_server.specs.declared.errors.ServerError.TheVariants as ServerError
use Rattle.sd_server.specs.Standing.{ServerView, IsServer, MayBe, HoldsSizes, IsRefusal, refused_by, first_other, sizes_in}

wanted_of : (line : Option SwapLine) → sizes_in (option_map (λ (l : SwapLine). l.size) line) ≡ map (λ file. length file) (swap_files line)
wanted_of None = refl
wanted_of (Some l) =
    let long : length (let zeros : List ℕ = replicate l.size 0 in zeros) ≡ l.size = length-replicate l.size 0 in
    ap (λ (n : ℕ). n ∷ []) (sym long)

pub wanted_is : (c : Config) → sizes_in (option_map (λ (l : SwapLine). l.size) c.swap) ≡ sizes_of c
wanted_is c = wanted_of c.swap

same_where : (a b : List ℕ) → first_other a b ≡ None → a ≡ b
same_where [] [] e = refl
same_where [] (y ∷ b) e = absurd (cc e)
same_where (x ∷ a) [] e = absurd (cc e)
same_where (x ∷ a) (y ∷ b) e = of (x == y) refl e (λ rest. same_where a b rest)
  where
    of : (t : Bool) → (x == y) ≡ t → cond t (first_other a b) (Some (x, y)) ≡ None → (first_other a b ≡ None → a ≡ b) → x ∷ a ≡ y ∷ b
    of true is rest more =
        let same : x ≡ y = grind (arith, is) in
        (λ i. same i ∷ more rest i)
    of false is rest more = absurd (cc rest)

-- the sizes of the store are those of the configuration
pub sizes_so : (c : Config) (sizes read : List ℕ) (want : Option ℕ) (found : Option (ℕ × ℕ)) → read ≡ sizes → want ≡ option_map (λ (l : SwapLine). l.size) c.swap → found ≡ first_other read (sizes_in want) → found ≡ None → sizes ≡ sizes_of c
sizes_so c sizes read want found read_is want_is found_is none = sym read_is ∙ same_where read (sizes_in want) (sym found_is ∙ none) ∙ ap sizes_in want_is ∙ wanted_is c

sized_so : (sizes : List ℕ) (c : Config) (o : Option (List (List ℕ))) → sizes ≡ sizes_of c → IfSome o (λ stored. sizes ≡ map (λ file. length file) stored) → IfSome o (λ stored. map (λ file. length file) stored ≡ sizes_of c)
sized_so sizes c None is h = tt
sized_so sizes c (Some stored) is h = sym h ∙ is

pub server_so : {D : Type 0} (seen : D → Option (List ℕ)) (c : Config) (store : Stored D) → IsConfig c → store.sizes ≡ sizes_of c → IfSome (files seen store) (λ stored. store.sizes ≡ map (λ file. length file) stored) → IsServer seen c store
server_so seen c store is sizes told = record { config = is; sizes = sizes; sized = sized_so store.sizes c (files seen store) sizes told }

pub opened_so : {D : Type 0} (seen : D → Option (List ℕ)) (may_leave : D → List ℕ → Type 0) (server : ServerView D) (stored : List (List ℕ)) → IsServer seen server.config server.store → server.volatile ≡ nothing_volatile → server.store.up ≡ true
    → files seen server.store ≡ Some stored → OnlyHolds (files seen server.store) (may_hold may_leave server.store) → MayBe seen may_leave server (opened stored)
opened_so seen may_leave server stored is volatile up reads only = record {
  part = ap (λ (v : Volatile). part_with v stored) (sym volatile);
  sized = subst (λ (o : Option (List (List ℕ))). IfSome o (λ stored. map (λ file. length file) stored ≡ sizes_of server.config)) reads is.sized;
  sure = λ u. refl;
  unsure = λ down. absurd (false≢true (sym down ∙ up));
  reads = (false, reads);
  leaves = λ left held. (false, only left held ∙ reads);
}

-- the disk holds files of these sizes, where it tells what it reads
pub holds_so : (seen : Option (List ℕ)) (sizes : List ℕ) (o : Option (List (List ℕ))) → o ≡ option_and_then held seen → IfSome seen (λ image. IsOk (opens image)) → IfSome o (λ stored. sizes ≡ map (λ file. length file) stored) → HoldsSizes seen sizes
holds_so None sizes o is readable sized = tt
holds_so (Some image) sizes o is readable sized = of (opens image) readable (subst (λ (o : Option (List (List ℕ))). IfSome o (λ stored. sizes ≡ map (λ file. length file) stored)) is sized)
  where
    of : (r : Result (List (List ℕ)) OpenError) → IsOk r → IfSome (result_ok r) (λ stored. sizes ≡ map (λ file. length file) stored) → IsSomeAnd (result_ok r) (λ files. map (λ file. length file) files ≡ sizes)
    of (Ok stored) ok sized = sym sized
    of (Err error) ok sized = absurd (false≢true ok)

pub refused_so : (c : Config) (sizes read : List ℕ) (want : Option ℕ) (found : Option (ℕ × ℕ)) (pair : ℕ × ℕ) → read ≡ sizes → want ≡ option_map (λ (l : SwapLine). l.size) c.swap → found ≡ first_other read (sizes_in want) → found ≡ Some pair
    → first_other sizes (sizes_of c) ≡ Some pair
refused_so c sizes read want found pair read_is want_is found_is some =
    (λ i. first_other (sym read_is i) (sym (ap sizes_in want_is ∙ wanted_is c) i)) ∙ sym found_is ∙ some

-- ---- a store that is refused

pub refusal_so : (seen : Option (List ℕ)) (want : List ℕ) (error : OpenError) → IsRefused seen error → IsRefusal seen want (refused_by error)
refusal_so seen want opening.NoMemory is = tt
refusal_so seen want opening.DiskFault is = tt
refusal_so seen want (opening.Damaged at) is = is
refusal_so seen want (opening.Version got) is = is

pub fault_so : (error : OpenError) → refused_by error ≡ ServerError.Store opening.DiskFault → error ≡ opening.DiskFault
fault_so opening.NoMemory is = absurd (cc is)
fault_so opening.DiskFault is = refl
fault_so (opening.Damaged at) is = absurd (cc is)
fault_so (opening.Version got) is = absurd (cc is)

pub cause_so : (before now : ℕ) (error : OpenError) → HasFault before now (error ≡ opening.DiskFault) → HasFault before now (refused_by error ≡ ServerError.Store opening.DiskFault)
cause_so before now error cause = record { later = cause.later; calm = λ none. cause.calm (λ is. none (ap refused_by is)); failed = λ is. cause.failed (fault_so error is) }
