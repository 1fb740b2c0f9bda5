-- What a plan says of an access of the swap file.
use Rattle.std.proofs.Common.{◌≡◌, ◌⊎◌, ℕ, zero, suc, ◌+◌, ◌-◌, ◌<◌, ◌≤◌, min, Bool, true, false, cond, List, [], ◌∷◌, length, map, take, drop, replicate, Option, Some, None, refl, sym, ap, ◌∙◌, subst, arith, length-take, length-drop}
use Rattle.std.specs.Prelude.{◌==◌, ◌&&◌, nat_le, nat_lt, IfSome, IsSomeAnd, slice_index, slice_index_or, if◌then◌else◌}
use Rattle.std.specs.Option.{option_map}
use Rattle.std.proofs.lemmas.Bool.{false≢true}
use Rattle.std.proofs.lemmas.List.{length-replicate}
use Rattle.sd_outside.specs.Ranges.{part}
use Rattle.sd_nfs_msg.specs.declared.parts.Fattr.{Fattr}
use Rattle.sd_nfs_msg.specs.declared.message.NfsArgs.{NfsArgs}
use Rattle.sd_nfs_msg.specs.declared.message.NfsArgs.TheVariants as asks
use Rattle.sd_nfs_msg.specs.declared.message.NfsResult.{NfsResult}
use Rattle.sd_nfs_msg.specs.declared.message.NfsResult.TheVariants as results
use Rattle.sd_nfs_msg.specs.Layout.{ArgsFit, ResultFits}
use Rattle.sd_config.specs.declared.config.SwapLine.{SwapLine}
use Rattle.sd_config.specs.declared.config.Config.{Config}
use Rattle.sd_services.specs.Part.{Change, swap_files}
use Rattle.sd_services.specs.Files.{Exported, Place, exported, named_by}
use Rattle.sd_services.specs.Decisions.{nfs_result, first_handle, swap_attributes, refused, bytes_read, on_root, node_at}
use Rattle.sd_services.specs.NfsReply.{nfs_change, nfs_reply, swap_change, names_swap, uses_swap, file_in, swap_file}
use Rattle.sd_nfs_server.specs.Plan.{Decision, decision, handle_decision, place_decision, swap_file_decision, swap_decision, swap_access, range, read_len, IsSwapContent, filled, is_write, bytes_of, HasRange}
use Rattle.sd_server.specs.declared.access.Act.{Act}
use Rattle.sd_server.specs.declared.access.Act.TheVariants as acts
use Rattle.sd_server.specs.Access.{sizes_of, change_by, result_by, ActFits, HasZeros}
use Rattle.sd_server.specs.NfsTurns.{is_read, written_by, IsActOf, IsActBy, IsReadOf, IsAccess}

-- ---- the swap file's size

long : (n : ℕ) → length (let zeros : List ℕ = replicate n 0 in zeros) ≡ n
long n = length-replicate n 0

content_of : (line : Option SwapLine) (stored : List (List ℕ)) → map (λ file. length file) stored ≡ map (λ file. length file) (swap_files line) → IsSwapContent (option_map (λ (l : SwapLine). l.size) line) (file_in stored 0)
content_of None stored is = tt
content_of (Some l) [] is = absurd (cc)
content_of (Some l) (x ∷ xs) is = ap (λ (ns : List ℕ). slice_index_or ns 0 0) is ∙ long l.size

-- the files' sizes tell the swap file's
pub swap_content : (c : Config) (stored : List (List ℕ)) → map (λ file. length file) stored ≡ sizes_of c → IsSwapContent (exported c).swap (file_in stored swap_file)
unfolding exported
swap_content c stored is = content_of c.swap stored is

within_of : (line : Option SwapLine) (n : ℕ) → IsSomeAnd (option_map (λ (l : SwapLine). l.size) line) (λ size. n ≤ size) → (0 < length (map (λ file. length file) (swap_files line))) × (n ≤ slice_index (map (λ file. length file) (swap_files line)) 0)
within_of None n is = absurd is
within_of (Some l) n is = (omega arith, subst (λ (m : ℕ). n ≤ m) (sym (long l.size)) is)

pub within : (c : Config) (n : ℕ) → IsSomeAnd (exported c).swap (λ size. n ≤ size) → (swap_file < length (sizes_of c)) × (n ≤ slice_index (sizes_of c) swap_file)
unfolding exported
within c n is = within_of c.swap n is

-- ---- what a WRITE changes

cond_some : {A : Type 0} (b : Bool) (o : Option A) (x : A) → cond b o None ≡ Some x → (b ≡ true) × (o ≡ Some x)
cond_some true o x e = (refl, e)
cond_some false o x e = absurd (cc)

both_true : (a b : Bool) → (a && b) ≡ true → (a ≡ true) × (b ≡ true)
both_true true true e = (refl, refl)
both_true true false e = absurd (false≢true e)
both_true false b e = absurd (false≢true e)

swap_within : (owner from : ℕ) (swap : Option ℕ) (offset : ℕ) (bytes : List ℕ) (ch : Change) → swap_change owner from swap offset bytes ≡ Some ch → IsSomeAnd swap (λ size. ch.at + length ch.bytes ≤ size) × (0 < length ch.bytes)
swap_within owner from None offset bytes ch e = absurd (cc)
swap_within owner from (Some size) offset bytes ch e =
    let made : Change = record { file = swap_file; at = offset; bytes = bytes } in
    let given = cond_some ((from == owner) && nat_le (offset + length bytes) size && nat_lt 0 (length bytes)) (Some made) ch e in
    let tests = both_true ((from == owner) && nat_le (offset + length bytes) size) (nat_lt 0 (length bytes)) given.0 in
    let first = both_true (from == owner) (nat_le (offset + length bytes) size) tests.0 in
    let same : made ≡ ch = cc (given.1) in
    subst (λ (x : Change). (x.at + length x.bytes ≤ size) × (0 < length x.bytes)) same (grind (arith, first.1), grind (arith, tests.1))

pub change_within : (files : Exported) (from : ℕ) (args : NfsArgs) (ch : Change) → nfs_change files from args ≡ Some ch → IsSomeAnd files.swap (λ size. ch.at + length ch.bytes ≤ size) × (0 < length ch.bytes)
change_within files from (asks.Write at begin offset total bytes) ch e = swap_within files.owner from files.swap offset bytes ch (cond_some (names_swap files at) (swap_change files.owner from files.swap offset bytes) ch e).1
change_within files from asks.Null ch e = absurd (cc)
change_within files from (asks.Getattr at) ch e = absurd (cc)
change_within files from (asks.Setattr at set) ch e = absurd (cc)
change_within files from (asks.Lookup at name) ch e = absurd (cc)
change_within files from (asks.Readlink at) ch e = absurd (cc)
change_within files from (asks.Read at offset count total) ch e = absurd (cc)
change_within files from (asks.Create at name set) ch e = absurd (cc)
change_within files from (asks.Remove at name) ch e = absurd (cc)
change_within files from (asks.Rename at name to to_name) ch e = absurd (cc)
change_within files from (asks.Link at to to_name) ch e = absurd (cc)
change_within files from (asks.Symlink at name path set) ch e = absurd (cc)
change_within files from (asks.Mkdir at name set) ch e = absurd (cc)
change_within files from (asks.Rmdir at name) ch e = absurd (cc)
change_within files from (asks.Readdir at cookie count) ch e = absurd (cc)
change_within files from (asks.Statfs at) ch e = absurd (cc)

-- ---- a READ has as many zeros as it reads

-- the result is a READ's of this many bytes
abbrev ReadsSo : NfsResult → Option (ℕ × ℕ) → Type 0
ReadsSo (results.Read attr bytes) (Some access) = length bytes ≡ access.1
ReadsSo others access = Unit {0}

zeros_read : (size offset count : ℕ) → length (bytes_read (replicate size 0) offset count) ≡ read_len size offset count
zeros_read size offset count =
    let zeros : List ℕ = replicate size 0 in
    let long : length zeros ≡ size = length-replicate size 0 in
    omega (arith, length-take (min count 8192) (drop offset zeros), length-drop offset zeros, long)

swap_reads_so : (owner from size : ℕ) (args : NfsArgs) → ReadsSo (swap_decision owner from size args).done (swap_decision owner from size args).access
swap_reads_so owner from size asks.Null = tt
swap_reads_so owner from size (asks.Getattr at) = tt
swap_reads_so owner from size (asks.Setattr at set) = of (Rattle.sd_services.specs.Decisions.changes_nothing set)
  where
    of : (b : Bool) → ReadsSo (cond b (results.Setattr (swap_attributes size)) (refused 1)) None
    of true = tt
    of false = tt
swap_reads_so owner from size (asks.Lookup at name) = tt
swap_reads_so owner from size (asks.Readlink at) = tt
swap_reads_so owner from size (asks.Read at offset count total) = of (from == owner)
  where
    of : (b : Bool) → ReadsSo (cond b (results.Read (swap_attributes size) (bytes_read (replicate size 0) offset count)) (refused 13)) (Some (cond b (range offset (read_len size offset count)) (0, 0)))
    of true = zeros_read size offset count
    of false = tt
swap_reads_so owner from size (asks.Write at begin offset total bytes) = of (from == owner) (nat_le (offset + length bytes) size)
  where
    of : (b d : Bool) → ReadsSo (cond b (cond d (results.Write (swap_attributes size)) (refused 28)) (refused 13)) (Some (cond (b && d) (range offset (length bytes)) (0, 0)))
    of true true = tt
    of true false = tt
    of false d = tt
swap_reads_so owner from size (asks.Create at name set) = tt
swap_reads_so owner from size (asks.Remove at name) = tt
swap_reads_so owner from size (asks.Rename at name to to_name) = tt
swap_reads_so owner from size (asks.Link at to to_name) = tt
swap_reads_so owner from size (asks.Symlink at name path set) = tt
swap_reads_so owner from size (asks.Mkdir at name set) = tt
swap_reads_so owner from size (asks.Rmdir at name) = tt
swap_reads_so owner from size (asks.Readdir at cookie count) = tt
swap_reads_so owner from size (asks.Statfs at) = tt

none_read : (result : NfsResult) → ReadsSo result None
none_read (results.Read attr bytes) = tt
none_read results.Null = tt
none_read (results.Refused status) = tt
none_read (results.Getattr a) = tt
none_read (results.Setattr a) = tt
none_read (results.Lookup file a) = tt
none_read (results.Readlink target) = tt
none_read (results.Write a) = tt
none_read (results.Create file a) = tt
none_read results.Remove = tt
none_read results.Rename = tt
none_read results.Link = tt
none_read results.Symlink = tt
none_read (results.Mkdir file a) = tt
none_read results.Rmdir = tt
none_read (results.Readdir entries eof) = tt
none_read (results.Statfs tsize bsize blocks bfree bavail) = tt

place_reads_so : (files : Exported) (from : ℕ) (place : Option Place) (args : NfsArgs) → ReadsSo (place_decision files from place args).done (place_decision files from place args).access
place_reads_so files from None args = tt
place_reads_so files from (Some place) args = of (place.0 == 0) files.swap
  where
    of : (b : Bool) (swap : Option ℕ) → (let d : Decision = cond b (record { done = on_root files.root place.1 (node_at files.root place.1) args; access = None }) (swap_file_decision files.owner from swap args) in ReadsSo d.done d.access)
    of true swap = none_read (on_root files.root place.1 (node_at files.root place.1) args)
    of false None = tt
    of false (Some size) = swap_reads_so files.owner from size args

pub reads_so : (files : Exported) (from : ℕ) (args : NfsArgs) (result : NfsResult) (at len : ℕ) → record { done = result; access = Some (at, len) } ≡ decision files from args → ReadsSo result (Some (at, len))
reads_so files from args result at len is =
    subst (λ (d : Decision). ReadsSo d.done d.access) (sym is) (of (first_handle args))
  where
    of : (h : Option Rattle.sd_outside.specs.declared.fhandle.FHandle.FHandle) → ReadsSo (handle_decision files from h args).done (handle_decision files from h args).access
    of None = tt
    of (Some h) = place_reads_so files from (named_by files h.0) args

-- ---- an act by its plan

filled_other : (result : NfsResult) (bytes : List ℕ) → is_read result ≡ false → filled result bytes ≡ result
filled_other (results.Read attr zeros) bytes e = absurd (false≢true (sym e))
filled_other results.Null bytes e = refl
filled_other (results.Refused status) bytes e = refl
filled_other (results.Getattr a) bytes e = refl
filled_other (results.Setattr a) bytes e = refl
filled_other (results.Lookup file a) bytes e = refl
filled_other (results.Readlink target) bytes e = refl
filled_other (results.Write a) bytes e = refl
filled_other (results.Create file a) bytes e = refl
filled_other results.Remove bytes e = refl
filled_other results.Rename bytes e = refl
filled_other results.Link bytes e = refl
filled_other results.Symlink bytes e = refl
filled_other (results.Mkdir file a) bytes e = refl
filled_other results.Rmdir bytes e = refl
filled_other (results.Readdir entries eof) bytes e = refl
filled_other (results.Statfs tsize bsize blocks bfree bavail) bytes e = refl

-- ---- which result it is

data Looks : NfsResult → Type 0 where
  a_read : (attr : Fattr) (bytes : List ℕ) → Looks (results.Read attr bytes)
  a_write : (attr : Fattr) → Looks (results.Write attr)
  another : (r : NfsResult) → is_read r ≡ false → is_write r ≡ false → ((bytes : List ℕ) → filled r bytes ≡ r) → Looks r

looks : (r : NfsResult) → Looks r
looks (results.Read attr bytes) = a_read attr bytes
looks (results.Write attr) = a_write attr
looks results.Null = another results.Null refl refl (λ bytes. refl)
looks (results.Refused status) = another (results.Refused status) refl refl (λ bytes. refl)
looks (results.Getattr a) = another (results.Getattr a) refl refl (λ bytes. refl)
looks (results.Setattr a) = another (results.Setattr a) refl refl (λ bytes. refl)
looks (results.Lookup file a) = another (results.Lookup file a) refl refl (λ bytes. refl)
looks (results.Readlink target) = another (results.Readlink target) refl refl (λ bytes. refl)
looks (results.Create file a) = another (results.Create file a) refl refl (λ bytes. refl)
looks results.Remove = another results.Remove refl refl (λ bytes. refl)
looks results.Rename = another results.Rename refl refl (λ bytes. refl)
looks results.Link = another results.Link refl refl (λ bytes. refl)
looks results.Symlink = another results.Symlink refl refl (λ bytes. refl)
looks (results.Mkdir file a) = another (results.Mkdir file a) refl refl (λ bytes. refl)
looks results.Rmdir = another results.Rmdir refl refl (λ bytes. refl)
looks (results.Readdir entries eof) = another (results.Readdir entries eof) refl refl (λ bytes. refl)
looks (results.Statfs tsize bsize blocks bfree bavail) = another (results.Statfs tsize bsize blocks bfree bavail) refl refl (λ bytes. refl)

-- ---- the access of a plan

abbrev pub planned_change : NfsResult → ℕ → ℕ → List ℕ → Option Change
planned_change result at len bytes = cond (is_write result && nat_lt 0 len) (Some (record { file = swap_file; at = at; bytes = bytes })) None

module _ (c : Config) (from : ℕ) (args : NfsArgs) (at len : ℕ)
    (swap : true ≡ uses_swap (exported c) args)
    (range_is : IsSomeAnd (exported c).swap (λ size. at + len ≤ size) × (ArgsFit args → len ≤ 8192))
    (fit : ArgsFit args) where
  read_access : (attr : Fattr) (zeros : List ℕ) (act : Act) → None ≡ nfs_change (exported c) from args
      → ((content : List ℕ) → IsSwapContent (exported c).swap content → results.Read attr (part at len content) ≡ nfs_result (exported c) content from args)
      → length zeros ≡ len → IsReadOf at len act → IsAccess c from args (results.Read attr zeros) act
  read_access attr zeros acts.Nothing change gives long is = absurd is
  read_access attr zeros (acts.Write place bytes) change gives long is = absurd is
  read_access attr zeros (acts.Read place buffer) change gives long is =
      let w = within c (at + len) range_is.0 in
      record {
        swap = sym swap;
        change = sym change;
        gives = λ stored sized. sym (gives (file_in stored swap_file) (swap_content c stored sized)) ∙ (λ i. results.Read attr (part (sym is.0 i) (sym is.1 i) (file_in stored swap_file)));
        fits = omega (arith, long, range_is.1 fit);
        range = (w.0, omega (arith, w.1, is.0, is.1), omega (arith, is.1, range_is.1 fit));
        zeros = long ∙ sym is.1;
      }

  nothing_access : (result : NfsResult) → None ≡ nfs_change (exported c) from args
      → ((content : List ℕ) → IsSwapContent (exported c).swap content → result ≡ nfs_result (exported c) content from args)
      → ResultFits result → IsAccess c from args result acts.Nothing
  nothing_access result change gives fits = record {
    swap = sym swap;
    change = sym change;
    gives = λ stored sized. sym (gives (file_in stored swap_file) (swap_content c stored sized));
    fits = fits;
    range = tt;
    zeros = tt;
  }

  write_access : (attr : Fattr) (bytes : List ℕ) → Some (record { file = swap_file; at = at; bytes = bytes }) ≡ nfs_change (exported c) from args
      → ((content : List ℕ) → IsSwapContent (exported c).swap content → results.Write attr ≡ nfs_result (exported c) content from args)
      → length bytes ≤ 8192 → IsAccess c from args (results.Write attr) (acts.Write at bytes)
  write_access attr bytes change gives short =
      let inside = change_within (exported c) from args (record { file = swap_file; at = at; bytes = bytes }) (sym change) in
      let w = within c (at + length bytes) inside.0 in
      record {
        swap = sym swap;
        change = sym change;
        gives = λ stored sized. sym (gives (file_in stored swap_file) (swap_content c stored sized));
        fits = tt;
        range = (w.0, w.1, short, inside.1);
        zeros = tt;
      }

some_bytes : (attr : Fattr) (at len : ℕ) (bytes : List ℕ) → (len == 0) ≡ false → planned_change (results.Write attr) at len bytes ≡ Some (record { file = swap_file; at = at; bytes = bytes })
some_bytes attr at len bytes e =
    let t : nat_lt 0 len ≡ true = grind (arith, e) in
    ap (λ (b : Bool). cond b (Some (let ch : Change = record { file = swap_file; at = at; bytes = bytes } in ch)) None) t

no_bytes : (attr : Fattr) (at len : ℕ) (bytes : List ℕ) → (len == 0) ≡ true → planned_change (results.Write attr) at len bytes ≡ None
no_bytes attr at len bytes e =
    let t : nat_lt 0 len ≡ false = grind (arith, e) in
    ap (λ (b : Bool). cond b (Some (let ch : Change = record { file = swap_file; at = at; bytes = bytes } in ch)) None) t

module _ (c : Config) (from at len : ℕ) (attr : Fattr) where
  write_some : (args : NfsArgs) → true ≡ uses_swap (exported c) args → IsSomeAnd (exported c).swap (λ size. at + len ≤ size) × (ArgsFit args → len ≤ 8192) → ArgsFit args
      → (len == 0) ≡ false → Some (record { file = swap_file; at = at; bytes = bytes_of args }) ≡ nfs_change (exported c) from args
      → ((content : List ℕ) → IsSwapContent (exported c).swap content → results.Write attr ≡ nfs_result (exported c) content from args)
      → IsAccess c from args (results.Write attr) (written_by at false args)
  write_some (asks.Write file begin offset total bytes) swap range_is fit e change gives = write_access c from (asks.Write file begin offset total bytes) at len swap range_is fit attr bytes change gives fit
  write_some asks.Null swap range_is fit e change gives = absurd (cc change)
  write_some (asks.Getattr x) swap range_is fit e change gives = absurd (cc change)
  write_some (asks.Setattr x set) swap range_is fit e change gives = absurd (cc change)
  write_some (asks.Lookup x name) swap range_is fit e change gives = absurd (cc change)
  write_some (asks.Readlink x) swap range_is fit e change gives = absurd (cc change)
  write_some (asks.Read x offset count total) swap range_is fit e change gives = absurd (cc change)
  write_some (asks.Create x name set) swap range_is fit e change gives = absurd (cc change)
  write_some (asks.Remove x name) swap range_is fit e change gives = absurd (cc change)
  write_some (asks.Rename x name to to_name) swap range_is fit e change gives = absurd (cc change)
  write_some (asks.Link x to to_name) swap range_is fit e change gives = absurd (cc change)
  write_some (asks.Symlink x name path set) swap range_is fit e change gives = absurd (cc change)
  write_some (asks.Mkdir x name set) swap range_is fit e change gives = absurd (cc change)
  write_some (asks.Rmdir x name) swap range_is fit e change gives = absurd (cc change)
  write_some (asks.Readdir x cookie count) swap range_is fit e change gives = absurd (cc change)
  write_some (asks.Statfs x) swap range_is fit e change gives = absurd (cc change)

  write_by : (args : NfsArgs) → true ≡ uses_swap (exported c) args → IsSomeAnd (exported c).swap (λ size. at + len ≤ size) × (ArgsFit args → len ≤ 8192) → ArgsFit args
      → (b : Bool) → (len == 0) ≡ b → planned_change (results.Write attr) at len (bytes_of args) ≡ nfs_change (exported c) from args
      → ((content : List ℕ) → IsSwapContent (exported c).swap content → results.Write attr ≡ nfs_result (exported c) content from args)
      → IsAccess c from args (results.Write attr) (written_by at b args)
  write_by args swap range_is fit true e change gives = nothing_access c from args at len swap range_is fit (results.Write attr) (sym (no_bytes attr at len (bytes_of args) e) ∙ change) gives tt
  write_by args swap range_is fit false e change gives = write_some args swap range_is fit e (sym (some_bytes attr at len (bytes_of args) e) ∙ change) gives

-- What a plan says of a call is what its act does.
pub access_so : (c : Config) (from : ℕ) (args : NfsArgs) (at len : ℕ) (result : NfsResult) (act : Act) → true ≡ uses_swap (exported c) args
    → IsSomeAnd (exported c).swap (λ size. at + len ≤ size) × (ArgsFit args → len ≤ 8192) → ArgsFit args
    → planned_change result at len (bytes_of args) ≡ nfs_change (exported c) from args
    → ((content : List ℕ) → IsSwapContent (exported c).swap content → filled result (part at len content) ≡ nfs_result (exported c) content from args)
    → ResultFits result
    → record { done = result; access = Some (at, len) } ≡ decision (exported c) from args
    → IsActOf result at len args act → IsAccess c from args result act
access_so c from args at len result act swap range_is fit change gives fits exact is = of result (looks result) change gives fits exact is
  where
    of : (r : NfsResult) → Looks r → planned_change r at len (bytes_of args) ≡ nfs_change (exported c) from args
        → ((content : List ℕ) → IsSwapContent (exported c).swap content → filled r (part at len content) ≡ nfs_result (exported c) content from args)
        → ResultFits r → record { done = r; access = Some (at, len) } ≡ decision (exported c) from args → IsActOf r at len args act → IsAccess c from args r act
    of r (a_read attr bytes) change gives fits exact is = read_access c from args at len swap range_is fit attr bytes act change gives (reads_so (exported c) from args (results.Read attr bytes) at len exact) is
    of r (a_write attr) change gives fits exact is = subst (IsAccess c from args (results.Write attr)) (sym is) (write_by c from at len attr args swap range_is fit (len == 0) refl change gives)
    of r (another x no_read no_write same) change gives fits exact is =
        let none : planned_change x at len (bytes_of args) ≡ None = ap (λ (b : Bool). cond (b && nat_lt 0 len) (Some (let ch : Change = record { file = swap_file; at = at; bytes = bytes_of args } in ch)) None) no_write in
        let nothing : act ≡ acts.Nothing = subst (λ (b : Bool). IsActBy false b at len args act) no_write (subst (λ (b : Bool). IsActBy b (is_write x) at len args act) no_read is) in
        subst (IsAccess c from args x) (sym nothing)
        (nothing_access c from args at len swap range_is fit x (sym none ∙ change) (λ content sized. sym (same (part at len content)) ∙ gives content sized) fits)
