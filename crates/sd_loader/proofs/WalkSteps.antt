-- Steps of a walk along a path.
use Rattle.std.proofs.Common.{◌≡◌, ◌≢◌, ℕ, suc, ◌+◌, ◌<◌, ◌≤◌, Bool, true, false, cond, length-append, List, [], ◌∷◌, ◌++◌, length, Option, Some, None, refl, sym, ap, subst, ◌∙◌, arith}
use Rattle.sd_outside.specs.declared.fhandle.FHandle.{FHandle}
use Rattle.sd_nfs_msg.specs.declared.parts.Fattr.{Fattr}
use Rattle.sd_config.specs.declared.config.Config.{Config}
use Rattle.sd_services.specs.declared.node.Standing.{Standing}
use Rattle.sd_services.specs.declared.node.Standing.TheVariants.{Directory, File, Symlink}
use Rattle.sd_services.specs.Files.{exported}
use Rattle.sd_services.specs.Decisions.{root_attributes}
use Rattle.sd_loader.specs.Walk.{root, components, what_at, is_absolute, origin, IsNoLink, Walk, arrives, skips, enters, follows}
use Rattle.sd_loader.specs.Found.{IsFile, AreOf, IsFound, IsReached}
use Rattle.sd_loader.specs.Walking.{IsAt, OnPath, OnLink}
use Rattle.sd_loader.proofs.WayLaws.{few_components}

nothing : {A : Type 0} (xs : List A) → length xs ≡ 0 → xs ≡ []
nothing [] e = refl
nothing (x ∷ xs) e = absurd (omega (arith, e))

pub something : {A : Type 0} (xs : List A) → 0 < length xs → xs ≢ []
something [] some e = omega (arith, some)
something (x ∷ xs) some e = cc

other_kind : (number : ℕ) (what : Standing) → ((root_attributes number what).kind ≡ 5 → ⊥) → IsNoLink what
other_kind number Directory not = tt
other_kind number (File content) not = tt
other_kind number (Symlink text) not = not refl

-- the walk begins at the root directory
pub path_begins : (c : Config) (path : List ℕ) (way : List (List ℕ)) (h : FHandle) → way ≡ components path → IsFile c h root → OnPath c path 0 way h None
path_begins c path way h is file = record {
  here = root;
  is = record { is = file; attr_is = tt };
  leads = λ links end w.
      let same : links ≡ 0 + links = omega arith in
      subst (λ (n : ℕ). Walk (exported c).root root (components path) n end) same (subst (λ (l : List (List ℕ)). Walk (exported c).root root l links end) is w);
}

-- an empty component is skipped
pub path_skips : (c : Config) (path : List ℕ) (count : ℕ) (name : List ℕ) (left : List (List ℕ)) (file : FHandle) (attr : Option Fattr) → length name ≡ 0
    → OnPath c path count (name ∷ left) file attr → OnPath c path count left file attr
path_skips c path count name left file attr empty p = record {
  here = p.here;
  is = p.is;
  leads = λ links end w. p.leads links end (subst (λ (n : List ℕ). Walk (exported c).root p.here (n ∷ left) links end) (sym (nothing name empty)) (skips p.here links end left w));
}

-- one that names a directory or file leads there
pub path_enters : (c : Config) (path : List ℕ) (count : ℕ) (name : List ℕ) (left : List (List ℕ)) (dir file : FHandle) (attr : Option Fattr) (got : Fattr) → 0 < length name → (got.kind ≡ 5 → ⊥)
    → ((number : ℕ) → IsFile c dir number → IsFound c number name file got) → OnPath c path count (name ∷ left) dir attr → OnPath c path count left file (Some got)
path_enters c path count name left dir file attr got some not find p =
    let f = find p.here p.is.is in
    let plain = other_kind f.next (what_at (exported c).root f.next) (λ e. not (ap (λ (a : Fattr). a.kind) f.attr_is ∙ e)) in
    record {
      here = f.next;
      is = record { is = f.is; attr_is = f.attr_is };
      leads = λ links end w. p.leads links end (enters p.here f.next links end name left (something name some) f.named plain w);
    }

-- one that names a link leads to it
pub path_meets : (c : Config) (path : List ℕ) (count : ℕ) (name : List ℕ) (left : List (List ℕ)) (dir file : FHandle) (attr : Option Fattr) (got : Fattr) → 0 < length name
    → ((number : ℕ) → IsFile c dir number → IsFound c number name file got) → OnPath c path count (name ∷ left) dir attr → OnLink c path count left dir attr file
path_meets c path count name left dir file attr got some find p =
    let f = find p.here p.is.is in
    record {
      here = p.here;
      next = f.next;
      is = p.is;
      link_is = f.is;
      leads = λ text links end is w. p.leads (suc links) end (follows p.here f.next links end name text left (something name some) f.named is w);
    }

-- ---- a link that is followed

pub follow_few : (text : List ℕ) (old new : List (List ℕ)) → new ≡ components text ++ old → length text ≤ 1024 → length new ≤ length old + 1025
follow_few text old new is few = let a = ap length is in let b = length-append (components text) old in let d = few_components text in omega (arith, a, b, d, few)

followed : (c : Config) (path : List ℕ) (count here next : ℕ) (old new : List (List ℕ)) (text : List ℕ) (file : FHandle) (attr : Option Fattr) → IsAt c file attr (origin text here) → what_at (exported c).root next ≡ Symlink text → new ≡ components text ++ old
    → ((text : List ℕ) (links end : ℕ) → what_at (exported c).root next ≡ Symlink text → Walk (exported c).root (origin text here) (components text ++ old) links end → Walk (exported c).root root (components path) (count + suc links) end)
    → OnPath c path (count + 1) new file attr
followed c path count here next old new text file attr is what way leads = record {
  here = origin text here;
  is = is;
  leads = λ links end w.
      let more : count + suc links ≡ count + 1 + links = omega arith in
      let there = leads text links end what (subst (λ (l : List (List ℕ)). Walk (exported c).root (origin text here) l links end) way w) in
      subst (λ (n : ℕ). Walk (exported c).root root (components path) n end) more there;
}

pub followed_root : (c : Config) (path : List ℕ) (count : ℕ) (old new : List (List ℕ)) (text : List ℕ) (dir link h : FHandle) (attr : Option Fattr) → is_absolute text ≡ true → IsFile c h root
    → ((number : ℕ) → IsFile c link number → what_at (exported c).root number ≡ Symlink text) → new ≡ components text ++ old → OnLink c path count old dir attr link → OnPath c path (count + 1) new h None
followed_root c path count old new text dir link h attr absolute file names way o =
    followed c path count o.here o.next old new text h None (subst (λ (t : Bool). IsAt c h None (cond t root o.here)) (sym absolute) (record { is = file; attr_is = tt })) (names o.next o.link_is) way o.leads

pub followed_dir : (c : Config) (path : List ℕ) (count : ℕ) (old new : List (List ℕ)) (text : List ℕ) (dir link : FHandle) (attr : Option Fattr) → is_absolute text ≡ false
    → ((number : ℕ) → IsFile c link number → what_at (exported c).root number ≡ Symlink text) → new ≡ components text ++ old → OnLink c path count old dir attr link → OnPath c path (count + 1) new dir attr
followed_dir c path count old new text dir link attr relative names way o =
    followed c path count o.here o.next old new text dir attr (subst (λ (t : Bool). IsAt c dir attr (cond t root o.here)) (sym relative) o.is) (names o.next o.link_is) way o.leads

-- ---- the end

pub path_ends : (c : Config) (path : List ℕ) (count : ℕ) (left : List (List ℕ)) (last file : FHandle) (known : Option Fattr) (attr : Fattr) → count ≤ 8 → left ≡ [] → OnPath c path count left last known
    → ((number : ℕ) → IsAt c last known number → IsFile c file number × AreOf c number attr) → IsReached c path file attr
path_ends c path count left last file known attr few gone p finish =
    let f = finish p.here p.is in
    let none : count + 0 ≡ count = omega arith in
    record {
      end = p.here;
      leads = record {
        links = count;
        few = few;
        walk = subst (λ (n : ℕ). Walk (exported c).root root (components path) n p.here) none (p.leads 0 p.here (subst (λ (l : List (List ℕ)). Walk (exported c).root p.here l 0 p.here) (sym gone) (arrives p.here)));
      };
      is = f.0;
      attr_is = f.1;
    }
