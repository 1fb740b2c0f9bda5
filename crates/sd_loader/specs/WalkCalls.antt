-- The walk by its calls: which call comes next, where its answer leads, and what ends the walk (RFC 1094, sections 2.2.2, 2.2.5 and 2.2.6).
use Rattle.std.specs.Prelude.{◌≡◌, ◌≢◌, ℕ, suc, ◌<◌, ◌≤◌, true, false, List, [], ◌∷◌, ◌++◌, length, Option, Some, None, Result, Ok, Err}
use Rattle.sd_outside.specs.declared.fhandle.FHandle.{FHandle}
use Rattle.sd_outside.specs.declared.packet.Addr.{Addr}
use Rattle.sd_nfs_msg.specs.declared.parts.Fattr.{Fattr}
use Rattle.sd_nfs_msg.specs.declared.message.NfsArgs.TheVariants as args
use Rattle.sd_nfs_msg.specs.declared.message.NfsResult.TheVariants as results
use Rattle.sd_nfs_msg.specs.Layout.{name_limit}
use Rattle.sd_config.specs.declared.stage.Stage.{Stage}
use Rattle.sd_config.specs.declared.stage.Stage.TheVariants as stage
use Rattle.sd_link.specs.Steps.{Step, History}
use Rattle.sd_link.specs.Link.{IsSettledBy}
use Rattle.sd_link.specs.Tries.{beyond}
use Rattle.sd_rpc_retry.specs.declared.calling.Ask.{Ask}
use Rattle.sd_rpc_retry.specs.declared.calling.Ask.TheVariants as asks
use Rattle.sd_rpc_retry.specs.declared.calling.Answer.{Answer}
use Rattle.sd_rpc_retry.specs.declared.calling.Answer.TheVariants as answers
use Rattle.sd_rpc_retry.specs.declared.calling.Caller.{Caller}
use Rattle.sd_rpc_retry.specs.declared.calling.CallError.{CallError}
use Rattle.sd_rpc_retry.specs.declared.calling.CallError.TheVariants as error
use Rattle.sd_loader.specs.declared.errors.LoadError.{LoadError}
use Rattle.sd_loader.specs.declared.errors.LoadError.TheVariants.{Call, Refused, Loop, NotFile, TooLarge, Short}
use Rattle.sd_loader.specs.Walk.{is_absolute, components, most_links}
use Rattle.sd_rpc_retry.specs.Chain.{after_call}
use Rattle.sd_loader.specs.Causes.{CallTold, CallEnded}

-- Where a walk stands, by what was replied.
pub data Stand : Type 0 where
  -- at a file, of which the attributes are known where it was looked up, with these components left, after so many links
  at : (file : FHandle) (attr : Option Fattr) (names : List (List ℕ)) (links : ℕ) → Stand
  -- the same, where a component named this link, which isn't followed yet
  at_link : (dir : FHandle) (attr : Option Fattr) (link : FHandle) (names : List (List ℕ)) (links : ℕ) → Stand

-- NFLNK (2.3.2)
abbrev pub link_kind : ℕ
link_kind = 5

-- NFREG
abbrev pub file_kind : ℕ
file_kind = 1

-- what is asked next: LOOKUP of a component, READLINK of a link while there were fewer than eight, GETATTR at an end that wasn't looked up
pub data AsksNext : Stand → Stage → Ask → Type 0 where
  asks_lookup : (dir : FHandle) (attr : Option Fattr) (name : List ℕ) (names : List (List ℕ)) (links : ℕ) → name ≢ [] → length name ≤ name_limit →
      AsksNext (at dir attr (name ∷ names) links) stage.Lookup (asks.Nfs (args.Lookup dir name))
  asks_readlink : (dir : FHandle) (attr : Option Fattr) (link : FHandle) (names : List (List ℕ)) (links : ℕ) → links < most_links →
      AsksNext (at_link dir attr link names links) stage.Readlink (asks.Nfs (args.Readlink link))
  asks_getattr : (file : FHandle) (links : ℕ) →
      AsksNext (at file None [] links) stage.Getattr (asks.Nfs (args.Getattr file))

-- where an answer leads, from the root where the text of a link is absolute
pub data LeadsOn (root : FHandle) : Stand → Answer → Stand → Type 0 where
  enters : (dir file : FHandle) (attr : Option Fattr) (got : Fattr) (name : List ℕ) (names : List (List ℕ)) (links : ℕ) → got.kind ≢ link_kind →
      LeadsOn root (at dir attr (name ∷ names) links) (answers.Nfs (results.Lookup file got)) (at file (Some got) names links)
  meets : (dir file : FHandle) (attr : Option Fattr) (got : Fattr) (name : List ℕ) (names : List (List ℕ)) (links : ℕ) → got.kind ≡ link_kind →
      LeadsOn root (at dir attr (name ∷ names) links) (answers.Nfs (results.Lookup file got)) (at_link dir attr file names links)
  starts_again : (dir link : FHandle) (attr : Option Fattr) (text : List ℕ) (names : List (List ℕ)) (links : ℕ) → is_absolute text ≡ true →
      LeadsOn root (at_link dir attr link names links) (answers.Nfs (results.Readlink text)) (at root None (components text ++ names) (suc links))
  goes_on : (dir link : FHandle) (attr : Option Fattr) (text : List ℕ) (names : List (List ℕ)) (links : ℕ) → is_absolute text ≡ false →
      LeadsOn root (at_link dir attr link names links) (answers.Nfs (results.Readlink text)) (at dir attr (components text ++ names) (suc links))
  knows : (file : FHandle) (attr : Fattr) (links : ℕ) →
      LeadsOn root (at file None [] links) (answers.Nfs (results.Getattr attr)) (at file (Some attr) [] links)

-- The walk came from where this caller began it to here, by these steps: each call was the one that came next, and its first reply led on.
pub data Comes (settled : List Step → Type 0) (nfs : Addr) (root : FHandle) (start : Stand) (first : Caller) : Stand → Caller → List Step → Type 0 where
  begins : Comes settled nfs root start first start first []
  skips : (dir : FHandle) (attr : Option Fattr) (names : List (List ℕ)) (links : ℕ) (now : Caller) (part : List Step) →
      Comes settled nfs root start first (at dir attr ([] ∷ names) links) now part →
      Comes settled nfs root start first (at dir attr names links) now part
  asked : (here there : Stand) (now : Caller) (before last : List Step) (step : Stage) (what : Ask) (told : Answer) →
      Comes settled nfs root start first here now before →
      AsksNext here step what →
      CallTold (Ok told) (beyond settled before) now nfs what last →
      LeadsOn root here told there →
      Comes settled nfs root start first there (after_call now) (before ++ last)

-- What ended the walk.
pub data Walked (settled : List Step → Type 0) (nfs : Addr) (root : FHandle) (start : Stand) (first : Caller) : Result (FHandle × Fattr) LoadError → List Step → Type 0 where
  -- it stands at a file, and no component is left
  found : (file : FHandle) (attr : Fattr) (links : ℕ) (now : Caller) (part : List Step) →
      Comes settled nfs root start first (at file (Some attr) [] links) now part → attr.kind ≡ file_kind →
      Walked settled nfs root start first (Ok (file, attr)) part
  -- or at something else
  no_file : (file : FHandle) (attr : Fattr) (links : ℕ) (now : Caller) (part : List Step) →
      Comes settled nfs root start first (at file (Some attr) [] links) now part → attr.kind ≢ file_kind →
      Walked settled nfs root start first (Err (NotFile attr.kind)) part
  -- a component named the ninth link
  loops : (dir link : FHandle) (attr : Option Fattr) (names : List (List ℕ)) (now : Caller) (part : List Step) →
      Comes settled nfs root start first (at_link dir attr link names most_links) now part →
      Walked settled nfs root start first (Err Loop) part
  -- the next component is too long to be asked for (NFSERR_NAMETOOLONG, 2.3.1)
  too_long : (dir : FHandle) (attr : Option Fattr) (name : List ℕ) (names : List (List ℕ)) (links : ℕ) (now : Caller) (part : List Step) →
      Comes settled nfs root start first (at dir attr (name ∷ names) links) now part → name_limit < length name →
      Walked settled nfs root start first (Err (Refused stage.Lookup 63)) part
  -- the first reply to the call that came next refused it by a status
  refused : (here : Stand) (now : Caller) (before last : List Step) (step : Stage) (what : Ask) (status : ℕ) →
      Comes settled nfs root start first here now before → AsksNext here step what →
      CallTold (Ok (answers.Refused status)) (beyond settled before) now nfs what last →
      Walked settled nfs root start first (Err (Refused step status)) (before ++ last)
  -- the call that came next has no answer
  ended : (here : Stand) (now : Caller) (before last : List Step) (step : Stage) (what : Ask) (why : CallError) →
      Comes settled nfs root start first here now before → AsksNext here step what →
      CallEnded why (beyond settled before) now nfs what last →
      Walked settled nfs root start first (Err (Call step why)) (before ++ last)
  -- out of memory between two calls
  memory : (step : Stage) (part : List Step) →
      Walked settled nfs root start first (Err (Call step error.NoMemory)) part

-- what one component came to: the walk stands there, with the caller's next call there, or it ended
abbrev pub WalksOn : Addr → FHandle → Stand → Caller → Stand → Caller → Result (Unit {0}) LoadError → History → List Step → Type 0
WalksOn nfs root start first there now (Ok done) h part = Comes (IsSettledBy h) nfs root start first there now part
WalksOn nfs root start first there now (Err why) h part = Walked (IsSettledBy h) nfs root start first (Err why) part

-- what is known of an end: its attributes, or why the walk ended
abbrev pub Knows : Addr → FHandle → Stand → Caller → FHandle → ℕ → Caller → Result Fattr LoadError → History → List Step → Type 0
Knows nfs root start first file links now (Ok attr) h part = Comes (IsSettledBy h) nfs root start first (at file (Some attr) [] links) now part
Knows nfs root start first file links now (Err why) h part = Walked (IsSettledBy h) nfs root start first (Err why) part

-- ---- over every link

-- why a walk may end: at no file, or by a status that isn't 0
abbrev pub IsWalkError : LoadError → Type 0
IsWalkError (Call step why) = Unit {0}
IsWalkError (Refused step status) = status ≡ 0 → ⊥
IsWalkError Loop = Unit {0}
IsWalkError (NotFile kind) = kind ≢ file_kind
IsWalkError (TooLarge size) = ⊥
IsWalkError (Short from want got) = ⊥
