-- What configuration lines keep.
use Rattle.std.proofs.Common.{◌≡◌, ◌≢◌, ℕ, ◌+◌, ◌≤◌, List, [], ◌∷◌, ◌++◌, Option, Some, None, IfSome, length, refl, sym, ◌⊎◌, inl, inr, arith, length-append}
use Rattle.std.specs.Prelude.{codes}
use Rattle.std.specs.List.{AllPairs, sum_by}
use Rattle.std.proofs.lemmas.List.Elements.{All-nil, All-cons, All-append}
use Rattle.std.proofs.lemmas.List.Sums.{AllPass-from_list_all, sum_by_push}
use Rattle.std.proofs.lemmas.List.Quantifiers.{all_pairs_push}
use Rattle.sd_config.specs.declared.config.BootFile.{BootFile}
use Rattle.sd_config.specs.declared.config.RootItem.{RootItem}
use Rattle.sd_config.specs.declared.config.SwapLine.{SwapLine}
use Rattle.sd_config.specs.declared.config.Config.{Config}
use Rattle.sd_text.specs.Texts.{Text}
use Rattle.sd_config.specs.Config.{IsName, IsPath, IsComponent, is_visible, AreBootFiles, IsBootFile, AreRootItems, IsRootItem, AreApart, IsSwap, item_path, item_size}
use Rattle.sd_script.specs.Lines.{MayAddBootFile, MayAddItem}
use Rattle.sd_script.specs.Grammar.{kernel_or_usual}

-- the bytes of all these files
abbrev pub size_of : List BootFile → List RootItem → ℕ
size_of t i = sum_by (λ (file : BootFile). length file.bytes) t + sum_by item_size i

-- what is known of each value, before and after its lines
pub record IsLined (a : Text) (t : List BootFile) (r : Option Text) (i : List RootItem) (k : Text) (s : Option SwapLine) : Type 0 where
  pub arch : (a ≡ []) ⊎ IsName a
  pub tftp : AreBootFiles t
  pub root : IfSome r IsPath
  pub items : AreRootItems i
  pub kernel : (k ≡ []) ⊎ IsPath k
  pub swap : IfSome s IsSwap
  pub exports : IfSome r (λ root. IfSome s (λ swap. root ≢ swap.path))
  pub bytes : size_of t i ≤ 67108864

abbrev pub KeepsLines : Config → Type 0
KeepsLines c = IsLined c.arch c.tftp c.root c.items c.kernel c.swap

no_pairs : {X : Type 0} (R : X → X → Type 0) → AllPairs R []
no_pairs R = λ i j d less inside. absurd (omega (arith, inside))

pub no_lines : IsLined [] [] None [] [] None
no_lines = record {
  arch = inl refl;
  tftp = record { few = omega arith; each = All-nil IsBootFile; differ = no_pairs (λ (a b : BootFile). a.name ≢ b.name) };
  root = tt;
  items = record { few = omega arith; each = All-nil IsRootItem; apart = no_pairs (λ (a b : RootItem). AreApart (item_path a) (item_path b)) };
  kernel = inl refl;
  swap = tt;
  exports = tt;
  bytes = omega arith;
}

is_usual : IsPath (kernel_or_usual [])
is_usual = record {
  rest = codes "vmunix";
  slash = refl;
  most = omega arith;
  bytes = AllPass-from_list_all is_visible (codes "/vmunix") refl;
  components = All-cons IsComponent (codes "vmunix") [] record { least = omega arith; most = omega arith; not_here = λ e. cc e; not_above = λ e. cc e } (All-nil IsComponent);
}

pub usual_or_named : (k : Text) → (k ≡ []) ⊎ IsPath k → IsPath (kernel_or_usual k)
usual_or_named [] h = is_usual
usual_or_named (b ∷ path) h = elim h [ inl e ↦ cc e | inr is ↦ is ]

-- one more boot file has so many bytes more
pub sum_with_boot_file : (t : List BootFile) (i : List RootItem) (file : BootFile) → size_of (t ++ file ∷ []) i ≡ size_of t i + length file.bytes
sum_with_boot_file t i file = let more = sum_by_push (λ (file : BootFile). length file.bytes) t file in omega (arith, more)

pub sum_with_item : (t : List BootFile) (i : List RootItem) (item : RootItem) → size_of t (i ++ item ∷ []) ≡ size_of t i + item_size item
sum_with_item t i item = let more = sum_by_push item_size i item in omega (arith, more)

one_more_boot_file : (t : List BootFile) (file : BootFile) → AreBootFiles t → MayAddBootFile t file.name → IsBootFile file → AreBootFiles (t ++ file ∷ [])
one_more_boot_file t file are may is = record {
  few = omega (arith, may.0, length-append t (file ∷ []));
  each = All-append IsBootFile t (file ∷ []) are.each (All-cons IsBootFile file [] is (All-nil IsBootFile));
  differ = all_pairs_push (λ (a b : BootFile). a.name ≢ b.name) t file are.differ (λ k d h. may.1 k d h);
}

one_more_item : (i : List RootItem) (item : RootItem) → AreRootItems i → MayAddItem i (item_path item) → IsRootItem item → AreRootItems (i ++ item ∷ [])
one_more_item i item are may is = record {
  few = omega (arith, may.0, length-append i (item ∷ []));
  each = All-append IsRootItem i (item ∷ []) are.each (All-cons IsRootItem item [] is (All-nil IsRootItem));
  apart = all_pairs_push (λ (a b : RootItem). AreApart (item_path a) (item_path b)) i item are.apart (λ k d h. may.1 k d h);
}

isnt_swap : (s : Option SwapLine) (path : Text) → IfSome s (λ (swap : SwapLine). swap.path ≢ path) → IfSome s (λ swap. path ≢ swap.path)
isnt_swap None path h = tt
isnt_swap (Some swap) path h = λ e. h (sym e)

module _ (a : Text) (t : List BootFile) (r : Option Text) (i : List RootItem) (k : Text) (s : Option SwapLine) (l : IsLined a t r i k s) where
  pub arch_lined : (name : Text) → IsName name → IsLined name t r i k s
  arch_lined name is = record { arch = inr is; tftp = l.tftp; root = l.root; items = l.items; kernel = l.kernel; swap = l.swap; exports = l.exports; bytes = l.bytes }

  pub kernel_lined : (path : Text) → IsPath path → IsLined a t r i path s
  kernel_lined path is = record { arch = l.arch; tftp = l.tftp; root = l.root; items = l.items; kernel = inr is; swap = l.swap; exports = l.exports; bytes = l.bytes }

  pub root_lined : (path : Text) → IsPath path → IfSome s (λ (swap : SwapLine). swap.path ≢ path) → IsLined a t (Some path) i k s
  root_lined path is other = record { arch = l.arch; tftp = l.tftp; root = is; items = l.items; kernel = l.kernel; swap = l.swap; exports = isnt_swap s path other; bytes = l.bytes }

  pub swap_lined : (swap : SwapLine) → IsSwap swap → IfSome r (λ root. root ≢ swap.path) → IsLined a t r i k (Some swap)
  swap_lined swap is other = record { arch = l.arch; tftp = l.tftp; root = l.root; items = l.items; kernel = l.kernel; swap = is; exports = other; bytes = l.bytes }

  pub tftp_lined : (file : BootFile) → MayAddBootFile t file.name → IsBootFile file → size_of t i + length file.bytes ≤ 67108864 → IsLined a (t ++ file ∷ []) r i k s
  tftp_lined file may is room = record {
    arch = l.arch;
    tftp = one_more_boot_file t file l.tftp may is;
    root = l.root;
    items = l.items;
    kernel = l.kernel;
    swap = l.swap;
    exports = l.exports;
    bytes = omega (arith, room, sum_with_boot_file t i file);
  }

  pub item_lined : (item : RootItem) → MayAddItem i (item_path item) → IsRootItem item → size_of t i + item_size item ≤ 67108864 → IsLined a t r (i ++ item ∷ []) k s
  item_lined item may is room = record {
    arch = l.arch;
    tftp = l.tftp;
    root = l.root;
    items = one_more_item i item l.items may is;
    kernel = l.kernel;
    swap = l.swap;
    exports = l.exports;
    bytes = omega (arith, room, sum_with_item t i item);
  }
