-- Files that are read piece by piece, and written line by line.
use Rattle.std.proofs.Common.{◌≡◌, ℕ, zero, suc, ◌+◌, ◌<◌, ◌≤◌, List, [], ◌∷◌, ◌++◌, length, get_or, take, drop, map, Option, Some, None, refl, sym, ◌∙◌, ap, arith, append_assoc}
use Rattle.std.proofs.lemmas.List.{append-nil, drop_more, drop_all, get_or-map, length-map, take_all}
use Rattle.std.specs.Prelude.{IfSome, codes}
use Rattle.std.specs.Fmt.{decimal}
use Rattle.sd_outside.specs.Ranges.{part}
use Rattle.sd_boot.specs.Images.{file_line, file_lines, files_text, HasSizes}

-- ---- a file, piece by piece

pub part_none : (xs : List ℕ) → part 0 0 xs ≡ []
unfolding part
part_none xs = refl

nothing : (k : ℕ) → take {A = ℕ} k [] ≡ []
nothing zero = refl
nothing (suc k) = refl

join : (n m : ℕ) (xs : List ℕ) → take n xs ++ take m (drop n xs) ≡ take (n + m) xs
join zero m xs = let same : m ≡ 0 + m = omega arith in ap (λ (k : ℕ). take k xs) same
join (suc n) m [] = nothing m ∙ sym (nothing (suc n + m))
join (suc n) m (x ∷ xs) =
    let same : suc (n + m) ≡ suc n + m = omega arith in
    ap (λ (l : List ℕ). x ∷ l) (join n m xs) ∙ ap (λ (k : ℕ). take k (x ∷ xs)) same

pub part_more : (n m : ℕ) (xs : List ℕ) → part 0 n xs ++ part n m xs ≡ part 0 (n + m) xs
unfolding part
part_more n m xs = join n m xs

pub part_whole : (n : ℕ) (xs : List ℕ) → n ≡ length xs → part 0 n xs ≡ xs
unfolding part
part_whole n xs all = take_all n xs (omega (arith, all))

-- ---- the files, line by line

-- a file's size is the length of its bytes
pub size_of : (files : List (List ℕ)) (sizes : List ℕ) (file : ℕ) → file < length sizes → sizes ≡ map (λ f. length f) files → get_or sizes file 0 ≡ length (get_or files file [])
size_of files sizes file below all =
    let few : length sizes ≡ length files = ap length all ∙ length-map files (λ (f : List ℕ). length f) in
    ap (λ (l : List ℕ). get_or l file 0) all ∙ get_or-map (λ (f : List ℕ). length f) files file [] 0 (omega (arith, below, few))

-- so much of the text was written, and the lines of the files from that number on are left
abbrev pub IsWritten : List ℕ → ℕ → List (List ℕ) → Type 0
IsWritten text file files = files_text files ≡ text ++ file_lines file (drop file files)

pub written_begins : (files : List (List ℕ)) (count : ℕ) (text : List ℕ) → count ≡ length files → text ≡ (codes "image files " ++ decimal count) ++ 10 ∷ [] → IsWritten text 0 files
written_begins files count text all is =
    sym (ap (λ (l : List ℕ). l ++ file_lines 0 files) is ∙ append_assoc (codes "image files " ++ decimal count) (10 ∷ []) (file_lines 0 files)
    ∙ append_assoc (codes "image files ") (decimal count) (10 ∷ file_lines 0 files) ∙ ap (λ (n : ℕ). codes "image files " ++ decimal n ++ 10 ∷ file_lines 0 files) all)

pub written_goes_on : (files : List (List ℕ)) (file : ℕ) (text new : List ℕ) → file < length files → IsWritten text file files → new ≡ text ++ file_line file (get_or files file []) → IsWritten new (file + 1) files
written_goes_on files file text new below so_far is =
    so_far ∙ ap (λ (l : List (List ℕ)). text ++ file_lines file l) (drop_more files file [] below)
    ∙ sym (append_assoc text (file_line file (get_or files file [])) (file_lines (file + 1) (drop (file + 1) files)))
    ∙ ap (λ (l : List ℕ). l ++ file_lines (file + 1) (drop (file + 1) files)) (sym is)

pub written_ends : (files : List (List ℕ)) (file : ℕ) (text : List ℕ) → length files ≤ file → IsWritten text file files → text ≡ files_text files
written_ends files file text past so_far =
    sym (so_far ∙ ap (λ (l : List (List ℕ)). text ++ file_lines file l) (drop_all file files past) ∙ append-nil text)

-- ---- a file's bytes, where the files are told

pub read_begins : (o : Option (List (List ℕ))) (file : ℕ) (bytes : List ℕ) → bytes ≡ [] → IfSome o (λ files. bytes ≡ part 0 0 (get_or files file []))
read_begins None file bytes none = tt
read_begins (Some files) file bytes none = none ∙ sym (part_none (get_or files file []))

pub read_goes_on : (o : Option (List (List ℕ))) (file at n : ℕ) (bytes new : List ℕ) → IfSome o (λ files. bytes ≡ part 0 at (get_or files file []))
    → IfSome o (λ files. new ≡ bytes ++ part at n (get_or files file [])) → IfSome o (λ files. new ≡ part 0 (at + n) (get_or files file []))
read_goes_on None file at n bytes new so_far more = tt
read_goes_on (Some files) file at n bytes new so_far more =
    more ∙ ap (λ (l : List ℕ). l ++ part at n (get_or files file [])) so_far ∙ part_more at n (get_or files file [])

pub read_ends : (o : Option (List (List ℕ))) (sizes : List ℕ) (file size at : ℕ) (bytes : List ℕ) → file < length sizes → size ≡ get_or sizes file 0 → HasSizes o sizes → at ≡ size
    → IfSome o (λ files. bytes ≡ part 0 at (get_or files file [])) → IfSome o (λ files. bytes ≡ get_or files file [])
read_ends None sizes file size at bytes below is all end so_far = tt
read_ends (Some files) sizes file size at bytes below is all end so_far = so_far ∙ part_whole at (get_or files file []) (end ∙ is ∙ size_of files sizes file below all)

-- ---- the text, where the files are told

as_many : (files : List (List ℕ)) (sizes : List ℕ) → sizes ≡ map (λ f. length f) files → length sizes ≡ length files
as_many files sizes all = ap length all ∙ length-map files (λ (f : List ℕ). length f)

pub text_begins : (o : Option (List (List ℕ))) (sizes : List ℕ) (count : ℕ) (text : List ℕ) → HasSizes o sizes → count ≡ length sizes
    → text ≡ (codes "image files " ++ decimal count) ++ 10 ∷ [] → IfSome o (λ files. IsWritten text 0 files)
text_begins None sizes count text all same is = tt
text_begins (Some files) sizes count text all same is = written_begins files count text (same ∙ as_many files sizes all) is

pub text_goes_on : (o : Option (List (List ℕ))) (sizes : List ℕ) (file : ℕ) (bytes text new : List ℕ) → HasSizes o sizes → file < length sizes → IfSome o (λ files. IsWritten text file files)
    → IfSome o (λ files. bytes ≡ get_or files file []) → new ≡ text ++ file_line file bytes → IfSome o (λ files. IsWritten new (file + 1) files)
text_goes_on None sizes file bytes text new all below so_far is more = tt
text_goes_on (Some files) sizes file bytes text new all below so_far is more =
    written_goes_on files file text new (omega (arith, below, as_many files sizes all)) so_far (more ∙ ap (λ (l : List ℕ). text ++ file_line file l) is)

pub text_ends : (o : Option (List (List ℕ))) (sizes : List ℕ) (file : ℕ) (text : List ℕ) → HasSizes o sizes → length sizes ≤ file → IfSome o (λ files. IsWritten text file files)
    → IfSome o (λ files. text ≡ files_text files)
text_ends None sizes file text all past so_far = tt
text_ends (Some files) sizes file text all past so_far = written_ends files file text (omega (arith, past, as_many files sizes all)) so_far
