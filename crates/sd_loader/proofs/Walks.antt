-- Walks by their calls, step by step.
use Rattle.std.proofs.Common.{◌≡◌, ◌≢◌, ℕ, suc, ◌+◌, ◌<◌, ◌≤◌, true, false, List, [], ◌∷◌, ◌++◌, length, Option, Some, None, Result, Ok, Err, refl, sym, subst, arith}
use Rattle.sd_outside.specs.declared.packet.Addr.{Addr}
use Rattle.sd_outside.specs.declared.fhandle.FHandle.{FHandle}
use Rattle.sd_nfs_msg.specs.declared.parts.Fattr.{Fattr}
use Rattle.sd_nfs_msg.specs.declared.message.NfsArgs.TheVariants as args
use Rattle.sd_nfs_msg.specs.declared.message.NfsResult.TheVariants as results
use Rattle.sd_config.specs.declared.stage.Stage.{Stage}
use Rattle.sd_config.specs.declared.stage.Stage.TheVariants as stage
use Rattle.sd_link.specs.Steps.{Step, History}
use Rattle.sd_link.specs.Link.{IsSettledBy}
use Rattle.sd_rpc_retry.specs.declared.calling.Ask.{Ask}
use Rattle.sd_rpc_retry.specs.declared.calling.Ask.TheVariants as asks
use Rattle.sd_rpc_retry.specs.declared.calling.Answer.{Answer}
use Rattle.sd_rpc_retry.specs.declared.calling.Answer.TheVariants as answers
use Rattle.sd_rpc_retry.specs.declared.calling.Caller.{Caller}
use Rattle.sd_loader.specs.declared.errors.LoadError.{LoadError}
use Rattle.sd_loader.specs.declared.errors.LoadError.TheVariants.{Call, Refused, Loop, NotFile, TooLarge, Short}
use Rattle.sd_loader.specs.Walk.{is_absolute, components}
use Rattle.sd_rpc_retry.specs.Chain.{after_call}
use Rattle.sd_loader.specs.Causes.{CallTold, StatusCame, IsStatusError}
use Rattle.sd_loader.specs.WalkCalls.{Stand, at, at_link, AsksNext, asks_lookup, asks_readlink, asks_getattr, LeadsOn, enters, meets, starts_again, goes_on, knows, Comes, begins, skips, asked, Walked, found, no_file, loops, too_long, refused, ended, IsWalkError}

-- ---- one call

pub one_call : (settled : List Step → Type 0) (nfs : Addr) (root : FHandle) (here there : Stand) (c : Caller) (step : Stage) (what : Ask) (told : Answer) (part : List Step) → AsksNext here step what
    → CallTold (Ok told) settled c nfs what part → LeadsOn root here told there → Comes settled nfs root here c there (after_call c) part
one_call settled nfs root here there c step what told part next call leads = asked here there c [] part step what told begins next call leads

-- a call that has no result ends the walk
pub status_ends : {T : Type 0} (nfs : Addr) (root : FHandle) (here : Stand) (c : Caller) (step : Stage) (what : Ask) (shown : Result T ℕ → Answer) (why : LoadError) (h : History) (part : List Step)
    → ((status : ℕ) → shown (Err status) ≡ answers.Refused status) → AsksNext here step what → StatusCame step c nfs what shown (Err why) h part → Walked (IsSettledBy h) nfs root here c (Err why) part
status_ends nfs root here c step what shown (Refused from status) h part shows next k =
    subst (λ (s : Stage). Walked (IsSettledBy h) nfs root here c (Err (Refused s status)) part) (sym k.0)
    (refused here c [] part step what status begins next (subst (λ (a : Answer). CallTold (Ok a) (IsSettledBy h) c nfs what part) (shows status) k.1))
status_ends nfs root here c step what shown (Call from why) h part shows next k =
    subst (λ (s : Stage). Walked (IsSettledBy h) nfs root here c (Err (Call s why)) part) (sym k.0)
    (ended here c [] part step what why begins next k.1)
status_ends nfs root here c step what shown Loop h part shows next k = absurd k
status_ends nfs root here c step what shown (NotFile kind) h part shows next k = absurd k
status_ends nfs root here c step what shown (TooLarge size) h part shows next k = absurd k
status_ends nfs root here c step what shown (Short from want got) h part shows next k = absurd k

pub walk_error : (why : LoadError) → IsStatusError why → IsWalkError why
walk_error (Refused step status) k = k
walk_error (Call step why) k = tt
walk_error Loop k = absurd k
walk_error (NotFile kind) k = absurd k
walk_error (TooLarge size) k = absurd k
walk_error (Short from want got) k = absurd k

pub no_loop : {T : Type 0} (why : LoadError) → IsStatusError why → ◌≡◌ {A = Result T LoadError} (Err why) (Err Loop) → ⊥
no_loop (Refused step status) k e = absurd cc
no_loop (Call step why) k e = absurd cc
no_loop Loop k e = absurd k
no_loop (NotFile kind) k e = absurd k
no_loop (TooLarge size) k e = absurd k
no_loop (Short from want got) k e = absurd k

-- ---- a link

pub loop_here : (settled : List Step → Type 0) (nfs : Addr) (root dir link : FHandle) (attr : Option Fattr) (names : List (List ℕ)) (links : ℕ) (c : Caller) → links ≡ 8 → Walked settled nfs root (at_link dir attr link names links) c (Err Loop) []
loop_here settled nfs root dir link attr names links c eight =
    subst (λ (n : ℕ). Walked settled nfs root (at_link dir attr link names n) c (Err Loop) []) (sym eight) (loops dir link attr names c [] begins)

abbrev link_read : (List Step → Type 0) → Addr → Caller → FHandle → List ℕ → List Step → Type 0
link_read settled nfs c link text part = CallTold (Ok (answers.Nfs (results.Readlink text))) settled c nfs (asks.Nfs (args.Readlink link)) part

pub absolute_link : (settled : List Step → Type 0) (nfs : Addr) (root dir link : FHandle) (attr : Option Fattr) (old new : List (List ℕ)) (links next : ℕ) (c now : Caller) (text : List ℕ) (part : List Step) → links < 8 → is_absolute text ≡ true
    → new ≡ components text ++ old → next ≡ links + 1 → now ≡ after_call c → link_read settled nfs c link text part → Comes settled nfs root (at_link dir attr link old links) c (at root None new next) now part
absolute_link settled nfs root dir link attr old new links next c now text part few absolute way one counted told =
    let one_more : suc links ≡ next = omega (arith, one) in
    subst (λ (k : Caller). Comes settled nfs root (at_link dir attr link old links) c (at root None new next) k part) (sym counted)
    (subst (λ (s : Stand). Comes settled nfs root (at_link dir attr link old links) c s (after_call c) part) (λ i. at root None (sym way i) (one_more i))
    (one_call settled nfs root (at_link dir attr link old links) (at root None (components text ++ old) (suc links)) c stage.Readlink (asks.Nfs (args.Readlink link)) (answers.Nfs (results.Readlink text)) part
    (asks_readlink dir attr link old links few) told (starts_again dir link attr text old links absolute)))

pub relative_link : (settled : List Step → Type 0) (nfs : Addr) (root dir link : FHandle) (attr : Option Fattr) (old new : List (List ℕ)) (links next : ℕ) (c now : Caller) (text : List ℕ) (part : List Step) → links < 8 → is_absolute text ≡ false
    → new ≡ components text ++ old → next ≡ links + 1 → now ≡ after_call c → link_read settled nfs c link text part → Comes settled nfs root (at_link dir attr link old links) c (at dir attr new next) now part
relative_link settled nfs root dir link attr old new links next c now text part few relative way one counted told =
    let one_more : suc links ≡ next = omega (arith, one) in
    subst (λ (k : Caller). Comes settled nfs root (at_link dir attr link old links) c (at dir attr new next) k part) (sym counted)
    (subst (λ (s : Stand). Comes settled nfs root (at_link dir attr link old links) c s (after_call c) part) (λ i. at dir attr (sym way i) (one_more i))
    (one_call settled nfs root (at_link dir attr link old links) (at dir attr (components text ++ old) (suc links)) c stage.Readlink (asks.Nfs (args.Readlink link)) (answers.Nfs (results.Readlink text)) part
    (asks_readlink dir attr link old links few) told (goes_on dir link attr text old links relative)))

-- ---- a component

empty_is : (name : List ℕ) → length name ≡ 0 → name ≡ []
empty_is [] e = refl
empty_is (b ∷ name) e = absurd (omega (arith, e))

pub skip_here : (settled : List Step → Type 0) (nfs : Addr) (root file : FHandle) (attr : Option Fattr) (name : List ℕ) (names : List (List ℕ)) (links : ℕ) (c : Caller) → length name ≡ 0
    → Comes settled nfs root (at file attr (name ∷ names) links) c (at file attr names links) c []
skip_here settled nfs root file attr name names links c empty =
    subst (λ (n : List ℕ). Comes settled nfs root (at file attr (n ∷ names) links) c (at file attr names links) c []) (sym (empty_is name empty)) (skips file attr names links c [] begins)

pub long_here : (settled : List Step → Type 0) (nfs : Addr) (root file : FHandle) (attr : Option Fattr) (name : List ℕ) (names : List (List ℕ)) (links : ℕ) (c : Caller) → 255 < length name
    → Walked settled nfs root (at file attr (name ∷ names) links) c (Err (Refused stage.Lookup 63)) []
long_here settled nfs root file attr name names links c long = too_long file attr name names links c [] begins long

abbrev looked_up : (List Step → Type 0) → Addr → Caller → FHandle → List ℕ → FHandle → Fattr → List Step → Type 0
looked_up settled nfs c dir name file got part = CallTold (Ok (answers.Nfs (results.Lookup file got))) settled c nfs (asks.Nfs (args.Lookup dir name)) part

pub enter_here : (settled : List Step → Type 0) (nfs : Addr) (root dir file : FHandle) (attr : Option Fattr) (got : Fattr) (name : List ℕ) (names : List (List ℕ)) (links : ℕ) (c now : Caller) (part : List Step) → name ≢ [] → length name ≤ 255
    → (got.kind ≡ 5 → ⊥) → now ≡ after_call c → looked_up settled nfs c dir name file got part → Comes settled nfs root (at dir attr (name ∷ names) links) c (at file (Some got) names links) now part
enter_here settled nfs root dir file attr got name names links c now part some short plain counted told =
    subst (λ (k : Caller). Comes settled nfs root (at dir attr (name ∷ names) links) c (at file (Some got) names links) k part) (sym counted)
    (one_call settled nfs root (at dir attr (name ∷ names) links) (at file (Some got) names links) c stage.Lookup (asks.Nfs (args.Lookup dir name)) (answers.Nfs (results.Lookup file got)) part
    (asks_lookup dir attr name names links some short) told (enters dir file attr got name names links plain))

pub meet_here : (settled : List Step → Type 0) (nfs : Addr) (root dir file : FHandle) (attr : Option Fattr) (got : Fattr) (name : List ℕ) (names : List (List ℕ)) (links : ℕ) (c now : Caller) (part : List Step) → name ≢ [] → length name ≤ 255
    → got.kind ≡ 5 → now ≡ after_call c → looked_up settled nfs c dir name file got part → Comes settled nfs root (at dir attr (name ∷ names) links) c (at_link dir attr file names links) now part
meet_here settled nfs root dir file attr got name names links c now part some short link counted told =
    subst (λ (k : Caller). Comes settled nfs root (at dir attr (name ∷ names) links) c (at_link dir attr file names links) k part) (sym counted)
    (one_call settled nfs root (at dir attr (name ∷ names) links) (at_link dir attr file names links) c stage.Lookup (asks.Nfs (args.Lookup dir name)) (answers.Nfs (results.Lookup file got)) part
    (asks_lookup dir attr name names links some short) told (meets dir file attr got name names links link))

-- ---- the end

pub known_here : (settled : List Step → Type 0) (nfs : Addr) (root file : FHandle) (attr : Option Fattr) (got : Fattr) (links : ℕ) (c : Caller) → attr ≡ Some got → Comes settled nfs root (at file attr [] links) c (at file (Some got) [] links) c []
known_here settled nfs root file attr got links c is = subst (λ (o : Option Fattr). Comes settled nfs root (at file o [] links) c (at file (Some got) [] links) c []) (sym is) begins

pub ask_here : (settled : List Step → Type 0) (nfs : Addr) (root file : FHandle) (attr : Option Fattr) (got : Fattr) (links : ℕ) (c now : Caller) (part : List Step) → attr ≡ None → now ≡ after_call c
    → CallTold (Ok (answers.Nfs (results.Getattr got))) settled c nfs (asks.Nfs (args.Getattr file)) part → Comes settled nfs root (at file attr [] links) c (at file (Some got) [] links) now part
ask_here settled nfs root file attr got links c now part none counted told =
    subst (λ (k : Caller). Comes settled nfs root (at file attr [] links) c (at file (Some got) [] links) k part) (sym counted)
    (subst (λ (o : Option Fattr). Comes settled nfs root (at file o [] links) c (at file (Some got) [] links) (after_call c) part) (sym none)
    (one_call settled nfs root (at file None [] links) (at file (Some got) [] links) c stage.Getattr (asks.Nfs (args.Getattr file)) (answers.Nfs (results.Getattr got)) part (asks_getattr file links) told (knows file got links)))

pub asks_here : (file : FHandle) (attr : Option Fattr) (links : ℕ) → attr ≡ None → AsksNext (at file attr [] links) stage.Getattr (asks.Nfs (args.Getattr file))
asks_here file attr links none = subst (λ (o : Option Fattr). AsksNext (at file o [] links) stage.Getattr (asks.Nfs (args.Getattr file))) (sym none) (asks_getattr file links)

pub file_here : (settled : List Step → Type 0) (nfs : Addr) (root file : FHandle) (attr : Option Fattr) (names : List (List ℕ)) (got : Fattr) (links : ℕ) (c now : Caller) (part : List Step) → names ≡ [] → got.kind ≡ 1
    → Comes settled nfs root (at file attr [] links) c (at file (Some got) [] links) now part → Walked settled nfs root (at file attr names links) c (Ok (file, got)) part
file_here settled nfs root file attr names got links c now part gone is k =
    subst (λ (l : List (List ℕ)). Walked settled nfs root (at file attr l links) c (Ok (file, got)) part) (sym gone) (found file got links now part k is)

pub no_file_here : (settled : List Step → Type 0) (nfs : Addr) (root file : FHandle) (attr : Option Fattr) (names : List (List ℕ)) (got : Fattr) (links : ℕ) (c now : Caller) (part : List Step) → names ≡ [] → (got.kind ≡ 1 → ⊥)
    → Comes settled nfs root (at file attr [] links) c (at file (Some got) [] links) now part → Walked settled nfs root (at file attr names links) c (Err (NotFile got.kind)) part
no_file_here settled nfs root file attr names got links c now part gone is k =
    subst (λ (l : List (List ℕ)). Walked settled nfs root (at file attr l links) c (Err (NotFile got.kind)) part) (sym gone) (no_file file got links now part k is)
