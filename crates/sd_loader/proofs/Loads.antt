-- The loading of a file by its calls, one after another.
use Rattle.std.proofs.Common.{◌≡◌, ℕ, ◌<◌, ◌≤◌, List, ◌++◌, length, Ok, Err, sym, subst}
use Rattle.sd_outside.specs.declared.packet.Addr.{Addr}
use Rattle.sd_outside.specs.declared.fhandle.FHandle.{FHandle}
use Rattle.sd_nfs_msg.specs.declared.message.NfsResult.TheVariants as results
use Rattle.sd_config.specs.declared.stage.Stage.{Stage}
use Rattle.sd_link.specs.Steps.{Step, History}
use Rattle.sd_link.specs.Link.{GoesOn, IsSettledBy}
use Rattle.sd_rpc_retry.specs.declared.calling.Answer.TheVariants as answers
use Rattle.sd_rpc_retry.specs.declared.calling.Caller.{Caller}
use Rattle.sd_rpc_retry.proofs.Settling.{settled-beyond}
use Rattle.sd_loader.specs.declared.errors.LoadError.{LoadError}
use Rattle.sd_loader.specs.declared.errors.LoadError.TheVariants.{Call, Refused, Loop, NotFile, TooLarge, Short}
use Rattle.sd_rpc_retry.specs.Chain.{after_call}
use Rattle.sd_loader.specs.Causes.{CallTold, CallEnded, IsStatusError}
use Rattle.sd_loader.specs.LoadCalls.{next_read, HasRead, reads, Loaded, short, refused, ended, ReadsOn, IsLoadError}

pub load_error : (size : ℕ) (why : LoadError) → IsStatusError why → IsLoadError size why
load_error size (Refused step status) k = k
load_error size (Call step why) k = tt
load_error size Loop k = absurd k
load_error size (NotFile kind) k = absurd k
load_error size (TooLarge told) k = absurd k
load_error size (Short from want got) k = absurd k

module _ (nfs : Addr) (file : FHandle) (size : ℕ) (first now : Caller) (bytes new : List ℕ) (a b : History) (xs ys : List Step) (goes : GoesOn a b xs) (more : length bytes < size) (had : HasRead (IsSettledBy a) nfs file size first bytes now xs) where
  -- a READ that told all that was asked for
  pub read_goes : (next : Caller) → next ≡ after_call now → ReadsOn nfs file size now bytes new (Ok tt) b ys → HasRead (IsSettledBy a) nfs file size first new next (xs ++ ys)
  read_goes next counted (attr, piece, joined, long, told) =
      subst (λ (k : Caller). HasRead (IsSettledBy a) nfs file size first new k (xs ++ ys)) (sym counted)
      (subst (λ (l : List ℕ). HasRead (IsSettledBy a) nfs file size first l (after_call now) (xs ++ ys)) (sym joined)
      (reads bytes piece attr now xs ys had more
      (subst (λ (s : List Step → Type 0). CallTold (Ok (answers.Nfs (results.Read attr piece))) s now nfs (next_read file size (length bytes)) ys) (settled-beyond a b xs goes) told) long))

  -- one that ended the loading
  pub read_ends : size ≤ 16777216 → (why : LoadError) → ReadsOn nfs file size now bytes new (Err why) b ys → Loaded (IsSettledBy a) nfs file size first (Err why) (xs ++ ys)
  read_ends small (Short from want got) (attr, piece, at_is, want_is, got_is, not, told) =
      subst (λ (e : LoadError). Loaded (IsSettledBy a) nfs file size first (Err e) (xs ++ ys)) (λ i. Short (sym at_is i) (sym want_is i) (sym got_is i))
      (short bytes piece attr now xs ys small had more
      (subst (λ (s : List Step → Type 0). CallTold (Ok (answers.Nfs (results.Read attr piece))) s now nfs (next_read file size (length bytes)) ys) (settled-beyond a b xs goes) told) not)
  read_ends small (Refused step status) (at_read, told) =
      subst (λ (s : Stage). Loaded (IsSettledBy a) nfs file size first (Err (Refused s status)) (xs ++ ys)) (sym at_read)
      (refused bytes now xs ys status small had more
      (subst (λ (s : List Step → Type 0). CallTold (Ok (answers.Refused status)) s now nfs (next_read file size (length bytes)) ys) (settled-beyond a b xs goes) told))
  read_ends small (Call step why) (at_read, told) =
      subst (λ (s : Stage). Loaded (IsSettledBy a) nfs file size first (Err (Call s why)) (xs ++ ys)) (sym at_read)
      (ended bytes now xs ys why small had more
      (subst (λ (s : List Step → Type 0). CallEnded why s now nfs (next_read file size (length bytes)) ys) (settled-beyond a b xs goes) told))
  read_ends small Loop k = absurd k
  read_ends small (NotFile kind) k = absurd k
  read_ends small (TooLarge told) k = absurd k
