-- What was read of a result of NFS tells what its value tells.
use Rattle.std.proofs.Common.{◌≡◌, ℕ, List, Option, Some, sym, ap, subst, ◌∙◌}
use Rattle.std.specs.Option.{option_map}
use Rattle.sd_xdr.specs.Kind.{Value}
use Rattle.sd_nfs_msg.specs.declared.message.NfsResult.{NfsResult}
use Rattle.sd_nfs_msg.specs.Layout.{IsResultOf, ResultFits, result_kind, result_value}
use Rattle.sd_services.specs.RpcCalls.{spelled}
use Rattle.sd_rpc_retry.specs.Calling.{nfs_answer, nfs_answer_in}
use Rattle.sd_rpc_retry.proofs.NfsShapes.{result_again}

pub answers_again : (n m : ℕ) (done : NfsResult) (bs : List ℕ) → n ≡ m → IsResultOf n done → ResultFits done → option_map result_value (Some done) ≡ spelled (result_kind n) bs
    → Some (nfs_answer done) ≡ option_map (nfs_answer_in m) (spelled (result_kind m) bs)
answers_again n m done bs same is fits e =
    subst (λ (k : ℕ). Some (nfs_answer done) ≡ option_map (nfs_answer_in k) (spelled (result_kind k) bs)) same
    (ap (λ (r : NfsResult). Some (nfs_answer r)) (sym (result_again n done is (λ status s. subst ResultFits s fits)))
    ∙ ap (option_map (nfs_answer_in n)) e)
