-- The image of a store: a head with the sizes of its files, a gate, a journal of one write, and the homes of the files.
--
--     0  8  the name of the format      512  1  the gate: 1 is open, every other value is shut
--     8  4  its version, 1            1,024  4  the journal's file
--    12  4  how many files            1,028  4  how many bytes
--    16  8  each size                 1,032  8  from which place in the file on
--                                     1,088     the bytes
--    16,384  the homes in order, each rounded up to 8,192 bytes
use Rattle.std.specs.Prelude.{◌≡◌, ℕ, zero, suc, ◌+◌, ◌-◌, ◌*◌, ◌/◌, ◌<◌, ◌≤◌, min, List, [], ◌∷◌, ◌++◌, length, map, replicate, slice_index, slice_index_or, slice_set, Bool, ◌&&◌, ◌==◌, nat_lt, nat_le, if◌then◌else◌, Option, Some, None, Result, Ok, Err}
use Rattle.std.specs.List.{flat_map}
use Rattle.std.specs.Result.{result_ok}
use Rattle.std.specs.Int.{w32, w64, from_be_bytes, to_be_bytes}
use Rattle.sd_outside.specs.Ranges.{part, put}
use Rattle.sd_stable_disk.specs.declared.errors.OpenError.{OpenError}
use Rattle.sd_stable_disk.specs.declared.errors.OpenError.TheVariants.{Damaged, Version}
use Rattle.sd_stable_disk.specs.declared.entry.Entry.{Entry}

-- what comes next, where there is no refusal
abbrev pub if_ok : {T U E : Type 0} → Result T E → (T → Result U E) → Result U E
if_ok (Ok x) next = next x
if_ok (Err error) next = Err error

abbrev pub format_name : List ℕ
format_name = 0x53 ∷ 0x44 ∷ 0x53 ∷ 0x54 ∷ 0x4f ∷ 0x52 ∷ 0x45 ∷ 0x0a ∷ []

unfoldable pub word32 : ℕ → List ℕ → ℕ
word32 at bytes = from_be_bytes w32 (part at 4 bytes)

unfoldable pub word64 : ℕ → List ℕ → ℕ
word64 at bytes = from_be_bytes w64 (part at 8 bytes)

-- the room that a file takes
unfoldable pub rounded : ℕ → ℕ
rounded size = (size + 8191) / 8192 * 8192

abbrev pub total : List ℕ → ℕ
total [] = 0
total (size ∷ sizes) = rounded size + total sizes

-- the first place from `place` on at which the second list differs from the first
abbrev pub first_wrong : ℕ → List ℕ → List ℕ → Option ℕ
first_wrong place [] found = None
first_wrong place (byte ∷ bytes) [] = Some place
first_wrong place (byte ∷ bytes) (b ∷ found) = if byte == b then first_wrong (place + 1) bytes found else Some place

-- So many sizes from a place on. Each is 1 to 33,554,432, and together they fit the room.
abbrev pub sizes_from : ℕ → ℕ → ℕ → List ℕ → Result (List ℕ) OpenError
sizes_from place room zero head = Ok []
sizes_from place room (suc more) head =
    if nat_lt 0 (word64 place head) && nat_le (word64 place head) 33554432 && nat_le (rounded (word64 place head)) room
    then if_ok (sizes_from (place + 8) (room - rounded (word64 place head)) more head) (λ sizes. Ok (word64 place head ∷ sizes))
    else Err (Damaged place)

-- the rest counts only where no place is wrong
abbrev pub unless_wrong : Option ℕ → Result (List ℕ) OpenError → Result (List ℕ) OpenError
unless_wrong None rest = rest
unless_wrong (Some place) rest = Err (Damaged place)

-- the sizes that the head of an image of that length tells, or the first refusal
unfoldable pub sizes_told : ℕ → List ℕ → Result (List ℕ) OpenError
sizes_told size head =
    if nat_lt size 16384 then Err (Damaged size)
    else unless_wrong (first_wrong 0 format_name (part 0 8 head)) (
    if word32 8 head == 1 then (
    if nat_le (word32 12 head) 16
    then if_ok (sizes_from 16 50331648 (word32 12 head) head)
    (λ sizes. if size == 16384 + total sizes then Ok sizes else Err (Damaged (min size (16384 + total sizes))))
    else Err (Damaged 12))
    else Err (Version (word32 8 head)))

-- the write that the head of a journal tells
unfoldable pub entry_told : List ℕ → List ℕ → Result Entry OpenError
entry_told sizes head =
    if nat_lt (word32 0 head) (length sizes) then (
    if nat_lt 0 (word32 4 head) && nat_le (word32 4 head) 8192 then (
    if nat_le (word64 8 head + word32 4 head) (slice_index sizes (word32 0 head))
    then Ok (record { file = word32 0 head; at = word64 8 head; len = word32 4 head })
    else Err (Damaged 1032))
    else Err (Damaged 1028))
    else Err (Damaged 1024)

-- where the home of a file begins
abbrev pub home_of : ℕ → List ℕ → ℕ → ℕ
home_of base [] file = base
home_of base (size ∷ sizes) zero = base
home_of base (size ∷ sizes) (suc file) = home_of (base + rounded size) sizes file

-- what stands in the homes from a place on
abbrev pub homes : ℕ → List ℕ → List ℕ → List (List ℕ)
homes base [] image = []
homes base (size ∷ sizes) image = part base size image ∷ homes (base + rounded size) sizes image

-- the files with these bytes in one of them, from a place on
abbrev pub written : ℕ → ℕ → List ℕ → List (List ℕ) → List (List ℕ)
written file at bytes files = slice_set files file (put at bytes (slice_index_or files file []))

abbrev pub is_open : List ℕ → Bool
is_open image = slice_index (part 512 1 image) 0 == 1

-- the files of an image of these sizes: the homes, and where the gate is open the journal's bytes over them
abbrev pub files_of : List ℕ → List ℕ → Result (List (List ℕ)) OpenError
files_of image sizes =
    if is_open image
    then if_ok (entry_told sizes (part 1024 16 image)) (λ entry. Ok (written entry.file entry.at (part 1088 entry.len image) (homes 16384 sizes image)))
    else Ok (homes 16384 sizes image)

-- the files that an image holds, or why it is refused
abbrev pub opens : List ℕ → Result (List (List ℕ)) OpenError
opens image = if_ok (sizes_told (length image) (part 0 512 image)) (files_of image)

-- the image stands for these files
abbrev pub holds : List ℕ → List (List ℕ) → Type 0
holds image files = opens image ≡ Ok files

-- the files that an image holds, where it isn't refused
abbrev pub held : List ℕ → Option (List (List ℕ))
held image = result_ok (opens image)

-- sizes that an image can have
pub record AreSizes (sizes : List ℕ) : Type 0 where
  pub few : length sizes ≤ 16
  pub each : (file : ℕ) → file < length sizes → (0 < slice_index sizes file) × (slice_index sizes file ≤ 33554432)
  pub room : total sizes ≤ 50331648

-- the image of files of zeros
abbrev pub new_image : List ℕ → List ℕ
new_image sizes =
    let head = format_name ++ to_be_bytes w32 1 ++ to_be_bytes w32 (length sizes) ++ flat_map (to_be_bytes w64) sizes in
    head ++ replicate (16384 + total sizes - length head) 0

abbrev pub zero_files : List ℕ → List (List ℕ)
zero_files sizes = map (λ size. replicate size 0) sizes

-- a journal of one write
abbrev pub entry_bytes : ℕ → ℕ → List ℕ → List ℕ
entry_bytes file at bytes = to_be_bytes w32 file ++ to_be_bytes w32 (length bytes) ++ to_be_bytes w64 at ++ replicate 48 0 ++ bytes

-- a write within one of the files
pub record IsEntryOf (sizes : List ℕ) (entry : Entry) : Type 0 where
  pub file : entry.file < length sizes
  pub some : 0 < entry.len
  pub short : entry.len ≤ 8192
  pub inside : entry.at + entry.len ≤ slice_index sizes entry.file
