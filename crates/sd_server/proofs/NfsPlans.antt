-- From what a plan says to what is answered and done.
use Rattle.std.proofs.Common.{◌≡◌, ℕ, ◌+◌, ◌≤◌, Bool, true, false, List, length, map, Option, Some, None, refl, sym, ap, ◌∙◌, subst}
use Rattle.std.specs.Prelude.{IsSomeAnd}
use Rattle.sd_outside.specs.Ranges.{part}
use Rattle.sd_rpc_msg.specs.declared.message.Reply.{Reply}
use Rattle.sd_rpc_msg.specs.Layout.{OutcomeFits}
use Rattle.sd_nfs_msg.specs.declared.message.NfsArgs.{NfsArgs}
use Rattle.sd_nfs_msg.specs.declared.message.NfsResult.{NfsResult}
use Rattle.sd_nfs_msg.specs.Layout.{ArgsFit, ResultFits}
use Rattle.sd_config.specs.declared.config.Config.{Config}
use Rattle.sd_services.specs.Files.{Exported, exported}
use Rattle.sd_services.specs.Decisions.{nfs_result}
use Rattle.sd_services.specs.NfsReply.{nfs_change, uses_swap, file_in, swap_file}
use Rattle.sd_nfs_server.specs.declared.plan.NfsPlan.{NfsPlan}
use Rattle.sd_nfs_server.specs.declared.plan.NfsPlan.TheVariants.{Now, Swap}
use Rattle.sd_nfs_server.specs.Plan.{decision, decision_of, IsSwapContent, answer_of, change_of, bytes_of, is_swap, HasRange}
use Rattle.sd_server.specs.declared.access.Act.{Act}
use Rattle.sd_server.specs.Access.{sizes_of, given_reply}
use Rattle.sd_server.specs.NfsTurns.{NeedsNone, IsAccess, IsActOf}
use Rattle.sd_server.proofs.Plans.{swap_content, access_so}

pub now_so : (c : Config) (from xid : ℕ) (args : NfsArgs) (tree : Exported) (plan : NfsPlan) (result : NfsResult) (reply : Reply) → tree ≡ exported c → plan ≡ Now result
    → ((content : List ℕ) → IsSwapContent tree.swap content → answer_of plan content ≡ nfs_result tree content from args)
    → change_of plan (bytes_of args) ≡ nfs_change tree from args → is_swap plan ≡ uses_swap tree args
    → reply ≡ given_reply xid result → OutcomeFits reply.outcome → NeedsNone c from args reply xid
now_so c from xid args tree plan result reply same is gives change swap replies fits = record {
  swap = ap (λ (t : Exported). uses_swap t args) (sym same) ∙ sym swap ∙ ap is_swap is;
  change = ap (λ (t : Exported). nfs_change t from args) (sym same) ∙ sym change ∙ ap (λ (p : NfsPlan). change_of p (bytes_of args)) is;
  gives = λ stored sized.
      let content = file_in stored swap_file in
      let found : answer_of plan content ≡ nfs_result tree content from args = gives content (subst (λ (t : Exported). IsSwapContent t.swap content) (sym same) (swap_content c stored sized)) in
      replies ∙ ap (given_reply xid) (ap (λ (p : NfsPlan). answer_of p content) (sym is) ∙ found ∙ ap (λ (t : Exported). nfs_result t content from args) same);
  fits = fits;
}

pub later_so : (c : Config) (from : ℕ) (args : NfsArgs) (tree : Exported) (plan : NfsPlan) (result : NfsResult) (at len : ℕ) (act : Act) → tree ≡ exported c → plan ≡ Swap result at len
    → ((content : List ℕ) → IsSwapContent tree.swap content → answer_of plan content ≡ nfs_result tree content from args)
    → change_of plan (bytes_of args) ≡ nfs_change tree from args → is_swap plan ≡ uses_swap tree args → HasRange tree.swap args plan
    → ResultFits (decision_of plan).done → decision_of plan ≡ decision tree from args → ArgsFit args → IsActOf result at len args act → IsAccess c from args result act
later_so c from args tree plan result at len act same is gives change swap range_is fits exact fit acts =
    of tree plan same is gives change swap range_is fits exact
  where
    of : (t : Exported) (p : NfsPlan) → t ≡ exported c → p ≡ Swap result at len
        → ((content : List ℕ) → IsSwapContent t.swap content → answer_of p content ≡ nfs_result t content from args)
        → change_of p (bytes_of args) ≡ nfs_change t from args → is_swap p ≡ uses_swap t args → HasRange t.swap args p
        → ResultFits (decision_of p).done → decision_of p ≡ decision t from args → IsAccess c from args result act
    of t p e k g ch sw r f x =
        let at_tree = λ (T : Exported → NfsPlan → Type 0) (h : T t p). subst (λ (q : NfsPlan). T (exported c) q) k (subst (λ (u : Exported). T u p) e h) in
        access_so c from args at len result act
        (at_tree (λ u q. is_swap q ≡ uses_swap u args) sw)
        (at_tree (λ u q. HasRange u.swap args q) r)
        fit
        (at_tree (λ u q. change_of q (bytes_of args) ≡ nfs_change u from args) ch)
        (at_tree (λ u q. (content : List ℕ) → IsSwapContent u.swap content → answer_of q content ≡ nfs_result u content from args) g)
        (at_tree (λ u q. ResultFits (decision_of q).done) f)
        (at_tree (λ u q. decision_of q ≡ decision u from args) x)
        acts
