-- What the answers of MOUNT and NFS show.
use Rattle.std.specs.Prelude.{ℕ, List, Result, Ok, Err}
use Rattle.sd_outside.specs.declared.fhandle.FHandle.{FHandle}
use Rattle.sd_nfs_msg.specs.declared.message.NfsResult.TheVariants as results
use Rattle.sd_nfs_msg.specs.declared.parts.Fattr.{Fattr}
use Rattle.sd_rpc_retry.specs.declared.calling.Answer.{Answer}
use Rattle.sd_rpc_retry.specs.declared.calling.Answer.TheVariants as answer
use Rattle.sd_rpc_retry.specs.declared.nfs_question.Found.{Found}
use Rattle.sd_rpc_retry.specs.declared.nfs_question.Piece.{Piece}

-- the status 0 with this, or the status of a refusal
abbrev pub in_status : {T : Type 0} → (T → Answer) → Result T ℕ → Answer
in_status show (Ok told) = show told
in_status show (Err status) = answer.Refused status

abbrev pub given : Result FHandle ℕ → Answer
given told = in_status answer.Given told

abbrev pub attributes : Result Fattr ℕ → Answer
attributes told = in_status (λ attr. answer.Nfs (results.Getattr attr)) told

abbrev pub found : Result Found ℕ → Answer
found told = in_status (λ (f : Found). answer.Nfs (results.Lookup f.file f.attr)) told

abbrev pub target : Result (List ℕ) ℕ → Answer
target told = in_status (λ path. answer.Nfs (results.Readlink path)) told

abbrev pub piece : Result Piece ℕ → Answer
piece told = in_status (λ (p : Piece). answer.Nfs (results.Read p.attr p.bytes)) told
