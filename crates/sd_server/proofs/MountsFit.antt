-- What MOUNT answers has room in a message, and what becomes of the mounts.
use Rattle.std.proofs.Common.{◌≡◌, ℕ, zero, suc, ◌+◌, ◌<◌, ◌≤◌, ◌^◌, ◌/◌, ◌%◌, Bool, true, false, cond, List, [], ◌∷◌, ◌++◌, length, map, Option, Some, None, Result, Ok, Err, refl, sym, ap, ◌∙◌, subst, arith, length-append}
use Rattle.std.specs.Prelude.{◌==◌, IfSome}
use Rattle.std.specs.Option.{option_map}
use Rattle.std.specs.List.{All, AllByRecursion, find}
use Rattle.std.specs.Fmt.{decimal}
use Rattle.std.proofs.lemmas.Fmt.{length-decimal-le}
use Rattle.sd_outside.specs.declared.fhandle.FHandle.{FHandle}
use Rattle.sd_xdr.specs.Kind.{Value}
use Rattle.sd_rpc_msg.specs.declared.message.Reply.{Reply}
use Rattle.sd_mount.specs.declared.exports.ExportEntry.{ExportEntry}
use Rattle.sd_mount.specs.declared.message.MountArgs.{MountArgs}
use Rattle.sd_mount.specs.declared.message.MountArgs.TheVariants as asks
use Rattle.sd_mount.specs.Layout.{MountFits, ExportFits, ResultFits, IsName}
use Rattle.sd_mount.specs.Tables.{Mount, mnt_of, given_to, export_of}
use Rattle.sd_config.specs.declared.config.SwapLine.{SwapLine}
use Rattle.sd_config.specs.declared.config.Config.{Config}
use Rattle.sd_config.specs.Config.{IsConfig, IsPath, IsSwap}
use Rattle.sd_text.specs.Texts.{ip_text}
use Rattle.sd_services.specs.Part.{ServerPart}
use Rattle.sd_services.specs.RpcCalls.{asked}
use Rattle.sd_services.specs.MountReply.{mount, mount_answer, mount_args_in, mounts_by, mounts_asked, mounts_after, pair_of, item_of, exports_of, root_export, swap_export, given}
use Rattle.sd_server.specs.declared.replies.Change.{Change}
use Rattle.sd_server.specs.declared.replies.Change.TheVariants as changes
use Rattle.sd_server.specs.Sessions.{after_change, MayChange}
use Rattle.sd_server.specs.Coming.{Arrival, Refused, Calls, arrival, asked_by}
use Rattle.sd_server.specs.Mounting.{MountHasRoom, Mounts, mounts_found}
use Rattle.sd_server.proofs.Arriving.{giving, asks}

-- ---- lists

all_from : {A : Type 0} (P : A → Type 0) (xs : List A) → AllByRecursion P xs → All P xs
all_from P [] all k d lt = absurd (omega (arith, lt))
all_from P (x ∷ xs) all zero d lt = all.0
all_from P (x ∷ xs) all (suc k) d lt = all_from P xs all.1 k d (omega (arith, lt))

all_map : {A B : Type 0} (P : A → Type 0) (Q : B → Type 0) (f : A → B) (xs : List A) → ((x : A) → P x → Q (f x)) → AllByRecursion P xs → AllByRecursion Q (map f xs)
all_map P Q f [] so all = tt
all_map P Q f (x ∷ xs) so all = (so x all.0, all_map P Q f xs so all.1)

-- ---- the text of an address

byte_short : (b : ℕ) → b < 256 → length (decimal b) ≤ 3
byte_short b small = length-decimal-le 3 b (omega arith) (omega (arith, small)) (omega (arith, small))

four_short : (a b d e : List ℕ) → length a ≤ 3 → length b ≤ 3 → length d ≤ 3 → length e ≤ 3 → length (a ++ (46 ∷ (b ++ (46 ∷ (d ++ (46 ∷ e)))))) ≤ 255
four_short a b d e one two three four =
    omega (arith, one, two, three, four, length-append a (46 ∷ (b ++ (46 ∷ (d ++ (46 ∷ e))))), length-append b (46 ∷ (d ++ (46 ∷ e))), length-append d (46 ∷ e))

ip_short : (ip : ℕ) → length (ip_text ip) ≤ 255
ip_short ip = four_short _ _ _ _ (byte_short _ (omega arith)) (byte_short _ (omega arith)) (byte_short _ (omega arith)) (byte_short _ (omega arith))

-- ---- what is answered

module _ (c : Config) (is : IsConfig c) where
  root_fits : (root : Option (List ℕ)) → IfSome root IsPath → AllByRecursion ExportFits (map item_of (root_export c root))
  root_fits None h = tt
  root_fits (Some path) h = ((h.most, all_from IsName (c.client.name ∷ []) (is.client.name.most, tt)), tt)

  swap_fits : (line : Option SwapLine) → IfSome line IsSwap → AllByRecursion ExportFits (map item_of (swap_export c line))
  swap_fits None h = tt
  swap_fits (Some line) h = ((h.path.most, all_from IsName (c.client.name ∷ []) (is.client.name.most, tt)), tt)

  both_fit : (xs ys : List ExportEntry) → AllByRecursion ExportFits (map item_of xs) → AllByRecursion ExportFits (map item_of ys) → AllByRecursion ExportFits (map item_of (xs ++ ys))
  both_fit [] ys one two = two
  both_fit (x ∷ xs) ys one two = (one.0, both_fit xs ys one.1 two)

  given_fits : (from : ℕ) (o : Option ExportEntry) → ResultFits (given (given_to from o))
  given_fits from None = λ e. absurd (cc e)
  given_fits from (Some entry) = of (entry.owner == from)
    where
      of : (b : Bool) → ResultFits (given (cond b (Ok entry.fhandle) (Err 13)))
      of true = tt
      of false = λ e. absurd (cc e)

  pub mount_answer_fits : (mounts : List Mount) → AllByRecursion MountHasRoom mounts → (from : ℕ) (args : MountArgs) → ResultFits (mount_answer c mounts from args)
  mount_answer_fits mounts room from asks.Null = tt
  mount_answer_fits mounts room from (asks.Mnt path) = given_fits from (export_of (exports_of c) path)
  mount_answer_fits mounts room from asks.Dump = all_from MountFits (map pair_of mounts) (all_map MountHasRoom MountFits pair_of mounts (λ m h. (ip_short m.0, h.path)) room)
  mount_answer_fits mounts room from (asks.Umnt path) = tt
  mount_answer_fits mounts room from asks.UmntAll = tt
  mount_answer_fits mounts room from asks.Export = all_from ExportFits (map item_of (exports_of c)) (both_fit (root_export c c.root) (swap_export c c.swap) (root_fits c.root is.root) (swap_fits c.swap is.swap))

-- ---- the mounts

pub mounts_so : (c : Config) (mounts : List Mount) (from : ℕ) (part : ServerPart) (found : Option MountArgs) (args : MountArgs) (change : Change) → found ≡ Some args → part.mounts ≡ mounts
    → after_change c part change ≡ record part { mounts = mounts_by c part.mounts from args } → MayChange c part change → Mounts c part change (mounts_found c mounts from found)
mounts_so c mounts from part found args change is same becomes may = record {
  becomes = becomes ∙ ap (λ (l : List Mount). let p : ServerPart = record part { mounts = l } in p) (ap (λ (l : List Mount). mounts_by c l from args) same ∙ ap (mounts_found c mounts from) (sym is));
  may = may;
}

stays : (c : Config) (part : ServerPart) (mounts : List Mount) → part.mounts ≡ mounts → Mounts c part changes.Stays mounts
stays c part mounts same = record { becomes = ap (λ (l : List Mount). let p : ServerPart = record part { mounts = l } in p) same; may = tt }

pub refused_mounts : (c : Config) (mounts : List Mount) (from : ℕ) (part : ServerPart) (body : List ℕ) (reply : Reply) → arrival (giving (mount c mounts from) (λ v. None)) body ≡ Refused reply → part.mounts ≡ mounts
    → Mounts c part changes.Stays (mounts_after c mounts from body)
refused_mounts c mounts from part body reply comes same =
    let none : asked (mount c mounts from) body ≡ None = asks (mount c mounts from) (λ v. None) body ∙ ap asked_by comes in
    stays c part (mounts_after c mounts from body) (same ∙ ap (mounts_asked c mounts from) (sym none))

found_mounts : (c : Config) (mounts : List Mount) (from : ℕ) (o : Option Value) → mounts_found c mounts from (option_map mount_args_in o) ≡ mounts_asked c mounts from o
found_mounts c mounts from None = refl
found_mounts c mounts from (Some v) = refl

pub called_mounts : (c : Config) (mounts : List Mount) (from : ℕ) (part : ServerPart) (body : List ℕ) (xid : ℕ) (o : Option Value) (found : Option MountArgs) (change : Change)
    → arrival (giving (mount c mounts from) (λ v. None)) body ≡ Calls xid o → found ≡ option_map mount_args_in o
    → Mounts c part change (mounts_found c mounts from found) → Mounts c part change (mounts_after c mounts from body)
called_mounts c mounts from part body xid o found change comes is h =
    let some : asked (mount c mounts from) body ≡ o = asks (mount c mounts from) (λ v. None) body ∙ ap asked_by comes in
    subst (Mounts c part change) (ap (mounts_found c mounts from) is ∙ found_mounts c mounts from o ∙ ap (mounts_asked c mounts from) (sym some)) h
