-- The texts of messages, joined from their parts.
use Rattle.std.proofs.Common.{◌≡◌, ◌++◌, Option, Result, Ok, Err, refl, sym, ap, subst, ◌∙◌, append_assoc}
use Rattle.std.specs.Fmt.{decimal}
use Rattle.std.specs.Prelude.{codes}
use Rattle.sd_xdr.specs.Kind.{Value, ◌⊗◌}
use Rattle.sd_xdr.specs.declared.error.MsgError.{MsgError}
use Rattle.sd_rpc_msg.specs.declared.message.Call.{Call}
use Rattle.sd_rpc_msg.specs.declared.message.Reply.{Reply}
use Rattle.sd_rpc_msg.specs.declared.message.Outcome.{Outcome}
use Rattle.sd_rpc_msg.specs.declared.message.Outcome.TheVariants.{Success, ProgUnavail, ProgMismatch, ProcUnavail, GarbageArgs, RpcMismatch, AuthError}
use Rattle.sd_rpc_msg.specs.declared.message.Message.TheVariants.{Asked, Answered}
use Rattle.sd_text.specs.Texts.{Text}
use Rattle.sd_text.specs.Grammar.{writes}
use Rattle.sd_text.specs.Kind.{said}
use Rattle.sd_show.specs.declared.procedures.Procedure.{Procedure}
use Rattle.sd_show.specs.declared.procedures.Known.{Known}
use Rattle.sd_show.specs.Fields.{fields_text}
use Rattle.sd_show.specs.Programs.{known_text, args, results}
use Rattle.sd_show.specs.Messages.{Body, read_as, no_body}
use Rattle.sd_show.specs.Saying.{SaysCall, SaysOutcome, SaysMessage, IsBodyOf, IsNotDone}
use Rattle.sd_show.specs.Lines.{auth, asked, asked_value, outcome, outcome_value, results_value, carried, carries_message}
use Rattle.sd_show.proofs.Knowing.{stands, named_back, answer_back}

-- two parts, one behind the other
pub two : (a s t b c : Text) → b ≡ a ++ s → c ≡ b ++ t → c ≡ a ++ (s ++ t)
two a s t b c h k = k ∙ ap (λ (u : Text). u ++ t) h ∙ append_assoc a s t

pub three : (a s t u b c d : Text) → b ≡ a ++ s → c ≡ b ++ t → d ≡ c ++ u → d ≡ a ++ (s ++ (t ++ u))
three a s t u b c d h k m = two a (s ++ t) u c d (two a s t b c h k) m ∙ ap (λ (v : Text). a ++ v) (append_assoc s t u)

four : (a s t u v b c d e : Text) → b ≡ a ++ s → c ≡ b ++ t → d ≡ c ++ u → e ≡ d ++ v → e ≡ a ++ (s ++ (t ++ (u ++ v)))
four a s t u v b c d e h k m n =
    two a (s ++ (t ++ u)) v d e (three a s t u b c d h k m) n ∙ ap (λ (w : Text). a ++ w) (append_assoc s (t ++ u) v ∙ ap (λ (w : Text). s ++ w) (append_assoc t u v))

-- a number, a space, what is asked, and the authentications
pub call_text : (before d a b number spaced asks all : Text) → number ≡ before ++ d → spaced ≡ number ++ codes " " → asks ≡ spaced ++ a → all ≡ asks ++ b → all ≡ before ++ (d ++ ((codes " " ++ a) ++ b))
call_text before d a b number spaced asks all h k m n = four before d (codes " ") a b number spaced asks all h k m n

-- a name and fields
pub named_text : (before name all : Text) (p : Procedure) (k : Known) (x : Value) → name ≡ before ++ known_text k → all ≡ name ++ writes (fields_text (args k)) x → all ≡ before ++ writes asked (asked_value p (read_as k x))
unfolding writes
named_text before name all p k x h m =
    two before (known_text k) (writes (fields_text (args k)) x) name all h m
    ∙ (λ i. before ++ (sym (stands k).name i ++ writes (sym (named_back k) i) x))

-- a name, a verifier and fields
pub done_text : (before name verified success all : Text) (k : Known) (verf x : Value) → name ≡ before ++ known_text k → verified ≡ name ++ writes (said (codes " verf ") auth) verf → success ≡ verified ++ codes " success"
    → all ≡ success ++ writes (fields_text (results k)) x → all ≡ before ++ writes outcome (results_value verf (read_as k x))
unfolding writes
done_text before name verified success all k verf x h m n o =
    four before (known_text k) (writes (said (codes " verf ") auth) verf) (codes " success") (writes (fields_text (results k)) x) name verified success all h m n o
    ∙ (λ i. before ++ (sym (stands k).reply_name i ++ writes (sym (answer_back k) i) (verf ⊗ x)))

-- a call behind its word
pub call_said : (known : Option Known) (c : Call) (before word behind : Text) (r : Result Unit MsgError) → word ≡ before ++ codes "call " → SaysCall c word behind r → SaysMessage known (Asked c) before behind r
unfolding writes
call_said known c before word behind (Ok done) h k = (k.0, k.1, two before (codes "call ") _ word behind h k.2)
call_said known c before word behind (Err e) h k = k

-- the body of a call that wasn't done
not_done : (known : Option Known) (o : Outcome) → IsNotDone o → IsBodyOf known o no_body
not_done known (Success verf bs) h = absurd (h verf bs refl)
not_done known (ProgUnavail verf) h = refl
not_done known (ProgMismatch verf low high) h = refl
not_done known (ProcUnavail verf) h = refl
not_done known (GarbageArgs verf) h = refl
not_done known (RpcMismatch low high) h = refl
not_done known (AuthError stat) h = refl

message_text : (r : Reply) (before word behind : Text) (b : Body) → word ≡ before ++ (codes "reply " ++ (decimal r.xid ++ codes " ")) → behind ≡ word ++ writes outcome (outcome_value r.outcome b) → behind ≡ before ++ writes carried (carries_message (Answered r) b)
unfolding writes
message_text r before word behind b h m =
    let text = writes outcome (outcome_value r.outcome b) in
    two before (codes "reply " ++ (decimal r.xid ++ codes " ")) text word behind h m ∙ ap (λ (t : Text). before ++ (codes "reply " ++ t)) (append_assoc (decimal r.xid) (codes " ") text)

-- an outcome behind the number of a reply
pub reply_said : (known : Option Known) (r : Reply) (o : Outcome) (before word behind : Text) (done : Result Unit MsgError) → r.outcome ≡ o → word ≡ before ++ (codes "reply " ++ (decimal r.xid ++ codes " ")) → SaysOutcome known o word behind done
    → SaysMessage known (Answered r) before behind done
reply_said known r o before word behind done e h k = of done (subst (λ (x : Outcome). SaysOutcome known x word behind done) (sym e) k)
  where
    unfolds : (b : Body) → behind ≡ word ++ writes outcome (outcome_value r.outcome b) → behind ≡ before ++ writes carried (carries_message (Answered r) b)
    unfolds b m = message_text r before word behind b h m

    of : (done : Result Unit MsgError) → SaysOutcome known r.outcome word behind done → SaysMessage known (Answered r) before behind done
    of (Ok x) k = (k.0, k.1, unfolds k.0 k.2)
    of (Err e) k = k

-- the same where nothing was done
pub reply_ends : (known : Option Known) (r : Reply) (before word behind : Text) → IsNotDone r.outcome → word ≡ before ++ (codes "reply " ++ (decimal r.xid ++ codes " ")) → behind ≡ word ++ writes outcome (outcome_value r.outcome no_body)
    → (b : Body) × IsBodyOf known r.outcome b × (behind ≡ before ++ writes carried (carries_message (Answered r) b))
reply_ends known r before word behind n h m = (no_body, not_done known r.outcome n, message_text r before word behind no_body h m)
