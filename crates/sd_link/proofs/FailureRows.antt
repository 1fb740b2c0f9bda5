-- A failure of the network is the last step of a request that meets it.
use Rattle.std.specs.Prelude.{◌⊎◌}
use Rattle.std.proofs.Common.{◌≡◌, ℕ, List, [], ◌∷◌, ◌++◌, refl, sym, ◌∙◌, ap, subst, append_assoc, inl, inr}
use Rattle.sd_outside.specs.declared.packet.Packet.{Packet}
use Rattle.sd_link.specs.Steps.{Step, Send, Get, Fail}
use Rattle.sd_link.specs.Tries.{Hearing, FailsToSend, FailsToHear, at_wait, at_reply, FailsToAsk, at_request, behind_request, Failed}

-- the last step is a failure
abbrev pub EndsFailed : List Step → Type 0
EndsFailed part = (before : List Step) × (part ≡ before ++ Fail ∷ [])

pub later_fails : (xs ys : List Step) → EndsFailed ys → EndsFailed (xs ++ ys)
later_fails xs ys e = (xs ++ e.0, ap (λ (l : List Step). xs ++ l) e.1 ∙ sym (append_assoc xs e.0 (Fail ∷ [])))

pub cut_fails : (part xs ys : List Step) → part ≡ xs ++ ys → EndsFailed ys → EndsFailed part
cut_fails part xs ys cut e = subst EndsFailed (sym cut) (later_fails xs ys e)

pub send_fails : (packet : Packet) (part : List Step) → FailsToSend packet part → EndsFailed part
send_fails packet part (inl is) = ([], is)
send_fails packet part (inr is) = (Send packet ∷ [], is)

hear_fails : {A : Type 0} (h : Hearing A) (part : List Step) → FailsToHear h part → EndsFailed part
hear_fails h _ (at_wait rest replied few) = (rest, refl)
hear_fails h _ (at_reply rest id packet reply failed replied few is fails) = later_fails rest (Get id packet ∷ failed) (later_fails (Get id packet ∷ []) failed (send_fails reply failed fails))

ask_fails : {A : Type 0} (asked : Packet) (h : Hearing A) (part : List Step) → FailsToAsk asked h part → EndsFailed part
ask_fails asked h _ (at_request part fails) = send_fails asked part fails
ask_fails asked h _ (behind_request rest fails) = later_fails (Send asked ∷ []) rest (hear_fails h rest fails)

pub failed_last : {A : Type 0} (settled : List Step → Type 0) (asked : Packet) (h : Hearing A) (tries wait : ℕ) (part : List Step) → Failed settled asked h tries wait part → EndsFailed part
failed_last settled asked h tries wait part f = cut_fails part f.before f.last f.cut (ask_fails asked h f.last f.fails)
