-- What is sent at once for each packet that is got.
use Rattle.std.proofs.Common.{◌≡◌, List, [], ◌∷◌, ◌++◌, map, refl, sym, ◌∙◌, ap, append_assoc}
use Rattle.std.specs.List.{flat_map}
use Rattle.sd_outside.specs.declared.packet.Packet.{Packet}
use Rattle.sd_link.specs.Steps.{Step, Send, Get}
use Rattle.sd_link.specs.Parts.{sends_in, got_in}
use Rattle.sd_link.specs.Tries.{with_replies, RepliesAtOnce}
use Rattle.sd_link.proofs.Histories.{sends-append}

sends-map : (packets : List Packet) (steps : List Step) → sends_in (map Send packets ++ steps) ≡ packets ++ sends_in steps
sends-map [] steps = refl
sends-map (packet ∷ packets) steps = ap (λ (l : List Packet). packet ∷ l) (sends-map packets steps)

got-map : (packets : List Packet) (steps : List Step) → got_in (map Send packets ++ steps) ≡ got_in steps
got-map [] steps = refl
got-map (packet ∷ packets) steps = got-map packets steps

module _ (replies : Packet → List Packet) where
  pub with-append : (xs ys : List Step) → with_replies replies (xs ++ ys) ≡ with_replies replies xs ++ with_replies replies ys
  with-append [] ys = refl
  with-append (Get id packet ∷ xs) ys =
      ap (λ (l : List Step). Get id packet ∷ (map Send (replies packet) ++ l)) (with-append xs ys)
      ∙ ap (λ (l : List Step). Get id packet ∷ l) (sym (append_assoc (map Send (replies packet)) (with_replies replies xs) (with_replies replies ys)))
  with-append (x ∷ xs) ys = ap (λ (l : List Step). x ∷ l) (with-append xs ys)

  -- where nothing is got nothing is put in
  pub with-none : (xs : List Step) → got_in xs ≡ [] → with_replies replies xs ≡ xs
  with-none [] none = refl
  with-none (Get id packet ∷ xs) none = absurd cc
  with-none (x ∷ xs) none = ap (λ (l : List Step). x ∷ l) (with-none xs none)

  pub got-with : (xs : List Step) → got_in (with_replies replies xs) ≡ got_in xs
  got-with [] = refl
  got-with (Get id packet ∷ xs) = ap (λ (l : List Packet). packet ∷ l) (got-map (replies packet) (with_replies replies xs) ∙ got-with xs)
  got-with (Send packet ∷ xs) = got-with xs
  got-with (x ∷ xs) = got-with xs

  sends-with : (xs : List Step) → sends_in xs ≡ [] → sends_in (with_replies replies xs) ≡ flat_map replies (got_in xs)
  sends-with [] silent = refl
  sends-with (Get id packet ∷ xs) silent = sends-map (replies packet) (with_replies replies xs) ∙ ap (λ (l : List Packet). replies packet ++ l) (sends-with xs silent)
  sends-with (Send packet ∷ xs) silent = absurd cc
  sends-with (x ∷ xs) silent = sends-with xs silent

  -- what is sent is what is sent for the packets that are got
  pub replied_sends : (steps : List Step) → RepliesAtOnce replies steps → sends_in steps ≡ flat_map replies (got_in steps)
  replied_sends steps r =
      ap sends_in r.steps_are ∙ sends-with r.others r.silent ∙ ap (flat_map replies) (sym (got-with r.others) ∙ ap got_in (sym r.steps_are))

  pub at_once-append : (xs ys : List Step) → RepliesAtOnce replies xs → RepliesAtOnce replies ys → RepliesAtOnce replies (xs ++ ys)
  at_once-append xs ys first second = record {
    others = first.others ++ second.others;
    silent = sends-append first.others second.others ∙ ap (λ (l : List Packet). l ++ sends_in second.others) first.silent ∙ second.silent;
    steps_are =
        ap (λ (l : List Step). l ++ ys) first.steps_are
        ∙ ap (λ (l : List Step). with_replies replies first.others ++ l) second.steps_are
        ∙ sym (with-append first.others second.others);
  }

  -- nothing is got and nothing is sent
  pub at_once-nothing : (xs : List Step) → sends_in xs ≡ [] → got_in xs ≡ [] → RepliesAtOnce replies xs
  at_once-nothing xs silent none = record { others = xs; silent = silent; steps_are = sym (with-none xs none) }
