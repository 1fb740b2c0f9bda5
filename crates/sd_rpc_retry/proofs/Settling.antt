-- Where nothing waits for the client.
use Rattle.std.proofs.Common.{◌≡◌, List, [], ◌∷◌, ◌++◌, sym, ◌∙◌, ap, subst, append_assoc}
use Rattle.std.proofs.lemmas.List.{append-nil}
use Rattle.sd_outside.specs.declared.packet.Packet.{Packet}
use Rattle.sd_config.specs.declared.config.Config.{Config}
use Rattle.sd_config.specs.declared.events.Events.{Events}
use Rattle.sd_config.specs.Events.{Fates, fates_of}
use Rattle.sd_link.specs.World.{World}
use Rattle.sd_link.specs.Steps.{Step, Send, Get, Entry, History, after, entries_of, run, record_of, world_of, whole_record}
use Rattle.sd_link.specs.Parts.{sends_in}
use Rattle.sd_link.specs.Lawful.{AllGot, Settles, SendsSettled, EndsWithGet}
use Rattle.sd_link.specs.Link.{GoesOn, NothingWaits, IsSettledBy}
use Rattle.sd_link.specs.Tries.{beyond}
use Rattle.sd_rpc_retry.specs.Asking.{SendsIn}
use Rattle.sd_link.proofs.Histories.{run-append, record-append, record-goes, world-goes}

-- ---- steps one after another

-- beyond one part and then another
pub beyond-both : (settled : List Step → Type 0) (xs ys : List Step) → beyond settled (xs ++ ys) ≡ beyond (beyond settled xs) ys
beyond-both settled xs ys = λ i steps. settled (append_assoc xs ys steps i)

pub ends_later : (xs ys : List Step) → EndsWithGet ys → EndsWithGet (xs ++ ys)
ends_later xs ys e = (xs ++ e.0, e.1, e.2, ap (λ (l : List Step). xs ++ l) e.3 ∙ sym (append_assoc xs e.0 (Get e.1 e.2 ∷ [])))

settles-append : (c : Config) (fates : Fates) (w : World) (entries : List Entry) (xs ys : List Step) → Settles c fates (run c w xs) (entries ++ record_of c w xs) ys → Settles c fates w entries (xs ++ ys)
settles-append c fates w entries xs ys settled =
    let first = record_of c w xs in
    let second = record_of c (run c w xs) ys in
    subst (λ (v : World). AllGot c fates v (entries ++ record_of c w (xs ++ ys))) (sym (run-append c w xs ys))
    (subst (λ (l : List Entry). AllGot c fates (run c (run c w xs) ys) l) (append_assoc entries first second ∙ ap (λ (l : List Entry). entries ++ l) (sym (record-append c w xs ys))) settled)

-- what holds after a step and others holds after the step, and then after the others
deeper : (c : Config) (fates : Fates) (w : World) (entries : List Entry) (x : Step) (xs ys : List Step) → SendsSettled c fates (run c (after c w x) xs) (entries ++ (entries_of c w x ++ record_of c (after c w x) xs)) ys
    → SendsSettled c fates (run c (after c w x) xs) ((entries ++ entries_of c w x) ++ record_of c (after c w x) xs) ys
deeper c fates w entries x xs ys second =
    subst (λ (l : List Entry). SendsSettled c fates (run c (after c w x) xs) l ys) (sym (append_assoc entries (entries_of c w x) (record_of c (after c w x) xs))) second

sends-append : (c : Config) (fates : Fates) (w : World) (entries : List Entry) (xs ys : List Step) → SendsSettled c fates w entries xs → SendsSettled c fates (run c w xs) (entries ++ record_of c w xs) ys
    → SendsSettled c fates w entries (xs ++ ys)
sends-append c fates w entries [] ys first second = subst (λ (l : List Entry). SendsSettled c fates w l ys) (append-nil entries) second
sends-append c fates w entries (Send packet ∷ xs) ys first second =
    (first.0, sends-append c fates (after c w (Send packet)) (entries ++ entries_of c w (Send packet)) xs ys first.1 (deeper c fates w entries (Send packet) xs ys second))
sends-append c fates w entries (x ∷ xs) ys first second =
    sends-append c fates (after c w x) (entries ++ entries_of c w x) xs ys first (deeper c fates w entries x xs ys second)

-- who sends nothing sends where nothing waits
pub silent-settled : (c : Config) (fates : Fates) (w : World) (entries : List Entry) (xs : List Step) → sends_in xs ≡ [] → SendsSettled c fates w entries xs
silent-settled c fates w entries [] silent = tt
silent-settled c fates w entries (Send packet ∷ xs) silent = absurd cc
silent-settled c fates w entries (x ∷ xs) silent = silent-settled c fates (after c w x) (entries ++ entries_of c w x) xs silent

-- ---- histories

pub settled-none : (h : History) → NothingWaits h → IsSettledBy h []
settled-none h settled = subst (λ (l : List Entry). AllGot h.config (fates_of h.events) (world_of h) l) (sym (append-nil (whole_record h))) settled

pub settled-then : (a b : History) (xs ys : List Step) → GoesOn a b xs → IsSettledBy b ys → IsSettledBy a (xs ++ ys)
settled-then a b xs ys goes settled =
    settles-append a.config (fates_of a.events) (world_of a) (whole_record a) xs ys
    (subst (λ (l : List Entry). Settles a.config (fates_of a.events) (run a.config (world_of a) xs) l ys) (record-goes a b xs goes)
    (subst (λ (w : World). Settles a.config (fates_of a.events) w (whole_record b) ys) (world-goes a b xs goes)
    (subst (λ (e : Events). Settles a.config (fates_of e) (world_of b) (whole_record b) ys) goes.events
    (subst (λ (c : Config). Settles c (fates_of b.events) (world_of b) (whole_record b) ys) goes.config settled))))

-- one try more
pub sends-try : (request : Packet) (a : History) (xs rest ys : List Step) → ys ≡ Send request ∷ rest → sends_in rest ≡ [] → SendsIn a xs → IsSettledBy a xs → SendsIn a (xs ++ ys)
sends-try request a xs rest ys cut silent sends settled =
    let c = a.config in
    let fates = fates_of a.events in
    let w = run c (world_of a) xs in
    let entries = whole_record a ++ record_of c (world_of a) xs in
    sends-append c fates (world_of a) (whole_record a) xs ys sends
    (subst (λ (l : List Step). SendsSettled c fates w entries l) (sym cut) (settled, silent-settled c fates (after c w (Send request)) (entries ++ entries_of c w (Send request)) rest silent))

-- what still waits beyond a part is what waits after all of it
settles-same : (c : Config) (fates : Fates) (w : World) (entries : List Entry) (xs ys : List Step) → Settles c fates (run c w xs) (entries ++ record_of c w xs) ys ≡ Settles c fates w entries (xs ++ ys)
settles-same c fates w entries xs ys =
    let first = record_of c w xs in
    let second = record_of c (run c w xs) ys in
    ap (λ (l : List Entry). AllGot c fates (run c (run c w xs) ys) l) (append_assoc entries first second ∙ ap (λ (l : List Entry). entries ++ l) (sym (record-append c w xs ys)))
    ∙ ap (λ (v : World). AllGot c fates v (entries ++ record_of c w (xs ++ ys))) (sym (run-append c w xs ys))

pub settled-beyond : (a b : History) (xs : List Step) → GoesOn a b xs → IsSettledBy b ≡ beyond (IsSettledBy a) xs
settled-beyond a b xs goes = λ i ys. there ys i
  where
    there : (ys : List Step) → IsSettledBy b ys ≡ IsSettledBy a (xs ++ ys)
    there ys =
        ap (λ (c : Config). Settles c (fates_of b.events) (world_of b) (whole_record b) ys) goes.config
        ∙ ap (λ (e : Events). Settles a.config (fates_of e) (world_of b) (whole_record b) ys) goes.events
        ∙ ap (λ (w : World). Settles a.config (fates_of a.events) w (whole_record b) ys) (world-goes a b xs goes)
        ∙ ap (λ (l : List Entry). Settles a.config (fates_of a.events) (run a.config (world_of a) xs) l ys) (record-goes a b xs goes)
        ∙ settles-same a.config (fates_of a.events) (world_of a) (whole_record a) xs ys
