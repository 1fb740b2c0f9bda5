-- The loading of a file by its calls (RFC 1094, section 2.2.7).
use Rattle.std.specs.Prelude.{◌≡◌, ◌≢◌, ℕ, ◌-◌, ◌<◌, ◌≤◌, min, List, [], ◌++◌, length, Result, Ok, Err}
use Rattle.sd_outside.specs.declared.fhandle.FHandle.{FHandle}
use Rattle.sd_outside.specs.declared.packet.Addr.{Addr}
use Rattle.sd_nfs_msg.specs.declared.parts.Fattr.{Fattr}
use Rattle.sd_nfs_msg.specs.declared.message.NfsArgs.TheVariants as args
use Rattle.sd_nfs_msg.specs.declared.message.NfsResult.TheVariants as results
use Rattle.sd_nfs_msg.specs.Layout.{data_limit}
use Rattle.sd_config.specs.declared.stage.Stage.TheVariants as stage
use Rattle.sd_link.specs.Steps.{Step, History}
use Rattle.sd_link.specs.Link.{IsSettledBy}
use Rattle.sd_link.specs.Tries.{beyond}
use Rattle.sd_rpc_retry.specs.declared.calling.Ask.{Ask}
use Rattle.sd_rpc_retry.specs.declared.calling.Ask.TheVariants as asks
use Rattle.sd_rpc_retry.specs.declared.calling.Answer.TheVariants as answers
use Rattle.sd_rpc_retry.specs.declared.calling.Caller.{Caller}
use Rattle.sd_rpc_retry.specs.declared.calling.CallError.{CallError}
use Rattle.sd_rpc_retry.specs.declared.calling.CallError.TheVariants as error
use Rattle.sd_loader.specs.declared.errors.LoadError.{LoadError}
use Rattle.sd_loader.specs.declared.errors.LoadError.TheVariants.{Call, Refused, Loop, NotFile, TooLarge, Short}
use Rattle.sd_rpc_retry.specs.Chain.{after_call}
use Rattle.sd_loader.specs.Causes.{CallTold, CallEnded}

-- the longest file that is loaded: 16 MiB
abbrev pub most_bytes : ℕ
most_bytes = 16777216

-- how many bytes are asked for where so many were read of so many: 8,192, or the rest
abbrev pub wanted : ℕ → ℕ → ℕ
wanted size got = min data_limit (size - got)

-- READ of the bytes behind those
abbrev pub next_read : FHandle → ℕ → ℕ → Ask
next_read file size got = asks.Nfs (args.Read file got (wanted size got) 0)

-- These bytes were read by these steps: each READ asked for what came next, and the first reply to it had as many bytes as were asked for.
pub data HasRead (settled : List Step → Type 0) (nfs : Addr) (file : FHandle) (size : ℕ) (first : Caller) : List ℕ → Caller → List Step → Type 0 where
  begins : HasRead settled nfs file size first [] first []
  reads : (bytes piece : List ℕ) (attr : Fattr) (now : Caller) (before last : List Step) →
      HasRead settled nfs file size first bytes now before → length bytes < size →
      CallTold (Ok (answers.Nfs (results.Read attr piece))) (beyond settled before) now nfs (next_read file size (length bytes)) last →
      length piece ≡ wanted size (length bytes) →
      HasRead settled nfs file size first (bytes ++ piece) (after_call now) (before ++ last)

-- What ended the loading of a file of this size.
pub data Loaded (settled : List Step → Type 0) (nfs : Addr) (file : FHandle) (size : ℕ) (first : Caller) : Result (List ℕ) LoadError → List Step → Type 0 where
  -- all bytes were read
  loaded : (bytes : List ℕ) (now : Caller) (part : List Step) → size ≤ most_bytes →
      HasRead settled nfs file size first bytes now part → length bytes ≡ size →
      Loaded settled nfs file size first (Ok bytes) part
  -- the file is too large, and nothing is asked
  too_large : most_bytes < size →
      Loaded settled nfs file size first (Err (TooLarge size)) []
  -- a reply has not as many bytes as were asked for
  short : (bytes piece : List ℕ) (attr : Fattr) (now : Caller) (before last : List Step) → size ≤ most_bytes →
      HasRead settled nfs file size first bytes now before → length bytes < size →
      CallTold (Ok (answers.Nfs (results.Read attr piece))) (beyond settled before) now nfs (next_read file size (length bytes)) last →
      length piece ≢ wanted size (length bytes) →
      Loaded settled nfs file size first (Err (Short (length bytes) (wanted size (length bytes)) (length piece))) (before ++ last)
  -- the first reply refused the READ by a status
  refused : (bytes : List ℕ) (now : Caller) (before last : List Step) (status : ℕ) → size ≤ most_bytes →
      HasRead settled nfs file size first bytes now before → length bytes < size →
      CallTold (Ok (answers.Refused status)) (beyond settled before) now nfs (next_read file size (length bytes)) last →
      Loaded settled nfs file size first (Err (Refused stage.Read status)) (before ++ last)
  -- the READ has no answer
  ended : (bytes : List ℕ) (now : Caller) (before last : List Step) (why : CallError) → size ≤ most_bytes →
      HasRead settled nfs file size first bytes now before → length bytes < size →
      CallEnded why (beyond settled before) now nfs (next_read file size (length bytes)) last →
      Loaded settled nfs file size first (Err (Call stage.Read why)) (before ++ last)
  -- out of memory between two calls
  memory : (part : List Step) →
      Loaded settled nfs file size first (Err (Call stage.Read error.NoMemory)) part

-- what one READ came to: all these bytes were read, or the loading ended
abbrev pub ReadsOn : Addr → FHandle → ℕ → Caller → List ℕ → List ℕ → Result (Unit {0}) LoadError → History → List Step → Type 0
ReadsOn nfs file size now old new (Ok done) h part = (attr : Fattr) × (piece : List ℕ) × (new ≡ old ++ piece) × (length piece ≡ wanted size (length old))
    × CallTold (Ok (answers.Nfs (results.Read attr piece))) (IsSettledBy h) now nfs (next_read file size (length old)) part
ReadsOn nfs file size now old new (Err (Short from want got)) h part = (attr : Fattr) × (piece : List ℕ) × (from ≡ length old) × (want ≡ wanted size (length old)) × (got ≡ length piece) × (length piece ≢ wanted size (length old))
    × CallTold (Ok (answers.Nfs (results.Read attr piece))) (IsSettledBy h) now nfs (next_read file size (length old)) part
ReadsOn nfs file size now old new (Err (Refused step status)) h part = (step ≡ stage.Read) × CallTold (Ok (answers.Refused status)) (IsSettledBy h) now nfs (next_read file size (length old)) part
ReadsOn nfs file size now old new (Err (Call step why)) h part = (step ≡ stage.Read) × CallEnded why (IsSettledBy h) now nfs (next_read file size (length old)) part
ReadsOn nfs file size now old new (Err other) h part = ⊥

-- ---- over every link

-- why the loading of a file of this size may end
abbrev pub IsLoadError : ℕ → LoadError → Type 0
IsLoadError size (Call step why) = Unit {0}
IsLoadError size (Refused step status) = status ≡ 0 → ⊥
IsLoadError size (TooLarge told) = (told ≡ size) × (most_bytes < size)
IsLoadError size (Short from want got) = got ≢ want
IsLoadError size Loop = ⊥
IsLoadError size (NotFile kind) = ⊥
