-- What the client sends in calls, one after another: P holds of each packet.
use Rattle.std.proofs.Common.{◌≡◌, inl, inr, ℕ, List, [], ◌∷◌, ◌++◌, Option, Result, Ok, Err, sym, subst}
use Rattle.std.specs.List.{AllByRecursion}
use Rattle.sd_outside.specs.declared.packet.Packet.{Packet}
use Rattle.sd_config.proofs.Lists.{all_append, all_weaker}
use Rattle.sd_link.specs.declared.link.LinkError.{LinkError}
use Rattle.sd_link.specs.declared.link.LinkError.TheVariants.{Failed, NoMemory}
use Rattle.sd_link.specs.Steps.{Step, History}
use Rattle.sd_link.specs.Parts.{sends_in}
use Rattle.sd_link.specs.Link.{Moves, Sends, Receives}
use Rattle.sd_link.proofs.Histories.{moves_not, moves_then, moves_weaker, sends-append}
use Rattle.sd_rpc_retry.specs.Sending.{SendsOnly}

pub only_weaker : (P Q : Packet → Type 0) (old new : Option History) → ((packet : Packet) → P packet → Q packet) → SendsOnly P old new → SendsOnly Q old new
only_weaker P Q old new so m = moves_weaker old new (λ h part. AllByRecursion P (sends_in part)) (λ h part. AllByRecursion Q (sends_in part)) (λ h part all. all_weaker P Q (sends_in part) so all) m

module _ (P : Packet → Type 0) where
  pub only_none : (told : Option History) → SendsOnly P told told
  only_none told = moves_not told (λ h part. AllByRecursion P (sends_in part)) (λ h. tt)

  both_only : (xs ys : List Step) → AllByRecursion P (sends_in xs) → AllByRecursion P (sends_in ys) → AllByRecursion P (sends_in (xs ++ ys))
  both_only xs ys first second = subst (λ (l : List Packet). AllByRecursion P l) (sym (sends-append xs ys)) (all_append P (sends_in xs) (sends_in ys) first second)

  pub only_then : (old mid new : Option History) → SendsOnly P old mid → SendsOnly P mid new → SendsOnly P old new
  only_then old mid new =
      moves_then old mid new (λ h part. AllByRecursion P (sends_in part)) (λ h part. AllByRecursion P (sends_in part)) (λ h part. AllByRecursion P (sends_in part))
      (λ a b xs ys goes x y. both_only xs ys x y)

  none_sent : (part : List Step) → sends_in part ≡ [] → AllByRecursion P (sends_in part)
  none_sent part silent = subst (λ (l : List Packet). AllByRecursion P l) (sym silent) tt

  pub only_received : (old new : Option History) (until : ℕ) (result : Result (Option Packet) LinkError) → Moves old new (Receives until result) → SendsOnly P old new
  only_received old new until result m = moves_weaker old new (Receives until result) (λ h part. AllByRecursion P (sends_in part)) (λ h part r. none_sent part r.silent) m

  sent_only : (packet : Packet) (result : Result (Unit {0}) LinkError) (h : History) (part : List Step) → P packet → Sends packet result h part → AllByRecursion P (sends_in part)
  sent_only packet (Ok done) h part ok is = subst (λ (l : List Step). AllByRecursion P (sends_in l)) (sym is) (ok, tt)
  sent_only packet (Err NoMemory) h part ok is = subst (λ (l : List Step). AllByRecursion P (sends_in l)) (sym is) tt
  sent_only packet (Err Failed) h part ok (inl is) = subst (λ (l : List Step). AllByRecursion P (sends_in l)) (sym is) tt
  sent_only packet (Err Failed) h part ok (inr is) = subst (λ (l : List Step). AllByRecursion P (sends_in l)) (sym is) (ok, tt)

  pub only_sent : (old new : Option History) (packet : Packet) (result : Result (Unit {0}) LinkError) → P packet → Moves old new (Sends packet result) → SendsOnly P old new
  only_sent old new packet result ok m = moves_weaker old new (Sends packet result) (λ h part. AllByRecursion P (sends_in part)) (λ h part s. sent_only packet result h part ok s) m
