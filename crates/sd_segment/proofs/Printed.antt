-- The record lines of what was kept, one after another.
use Rattle.std.proofs.Common.{◌≡◌, ℕ, ◌+◌, ◌<◌, List, [], ◌∷◌, ◌++◌, length, get_or, take, drop, sym, ◌∙◌, ap, arith, append_assoc, length-take, take-append-drop}
use Rattle.std.proofs.lemmas.Grind.{flat_map-append}
use Rattle.std.proofs.lemmas.List.{append-nil, take_more}
use Rattle.sd_link.specs.Steps as steps
use Rattle.sd_link.specs.Printing.{record_text, entry_text}
use Rattle.sd_segment.specs.declared.flown.Flown.{Flown}
use Rattle.sd_segment.specs.declared.flown.Kept.{Kept}
use Rattle.sd_segment.specs.Kept.{sent_entries, entries_of_kept, entries_kept}

sent-push : (tick id : ℕ) (xs : List Flown) (x : Flown) → sent_entries tick id (xs ++ x ∷ []) ≡ sent_entries tick id xs ++ steps.Sent tick (id + length xs) x.packet ∷ []
sent-push tick id [] x = ap (λ n. steps.Sent tick n x.packet ∷ []) (omega arith)
sent-push tick id (y ∷ ys) x =
    let same : id + 1 + length ys ≡ id + length (y ∷ ys) = omega arith in
    ap (λ l. steps.Sent tick id y.packet ∷ l) (sent-push tick (id + 1) ys x)
    ∙ ap (λ n. steps.Sent tick id y.packet ∷ (sent_entries tick (id + 1) ys ++ steps.Sent tick n x.packet ∷ [])) same

-- one line more
pub sent_more : (tick first id i : ℕ) (sent : List Flown) (x : Flown) (text new start : List ℕ) → i < length sent → x ≡ get_or sent i x → id ≡ first + i
    → text ≡ start ++ record_text (sent_entries tick first (take i sent)) → new ≡ text ++ entry_text (steps.Sent tick id x.packet)
    → new ≡ start ++ record_text (sent_entries tick first (take (i + 1) sent))
sent_more tick first id i sent x text new start lt is at so_far line =
    let wide : length (take i sent) ≡ i = omega (arith, length-take i sent) in
    let more : take (i + 1) sent ≡ take i sent ++ x ∷ [] = take_more sent i x lt ∙ ap (λ y. take i sent ++ y ∷ []) (sym is) in
    let here : id ≡ first + length (take i sent) = omega arith in
    let old = sent_entries tick first (take i sent) in
    line
    ∙ ap (λ l. l ++ entry_text (steps.Sent tick id x.packet)) so_far
    ∙ append_assoc start (record_text old) (entry_text (steps.Sent tick id x.packet))
    ∙ ap (λ l. start ++ (record_text old ++ l)) (sym (append-nil (entry_text (steps.Sent tick id x.packet))))
    ∙ ap (λ n. start ++ (record_text old ++ (entry_text (steps.Sent tick n x.packet) ++ []))) here
    ∙ ap (λ l. start ++ l) (sym (flat_map-append entry_text old (steps.Sent tick (first + length (take i sent)) x.packet ∷ [])))
    ∙ ap (λ l. start ++ record_text l) (sym (sent-push tick first (take i sent) x))
    ∙ ap (λ l. start ++ record_text (sent_entries tick first l)) (sym more)

-- the lines so far and the lines that are new are all lines
pub all_lines : (flight : List Flown) (kept : List Kept) (n : ℕ) → record_text (entries_kept flight kept) ≡ record_text (entries_kept flight (take n kept)) ++ record_text (entries_kept flight (drop n kept))
all_lines flight kept n =
    ap (λ l. record_text (entries_kept flight l)) (sym (take-append-drop n kept))
    ∙ ap record_text (flat_map-append (λ k. entries_of_kept flight k.tick k.what) (take n kept) (drop n kept))
    ∙ flat_map-append entry_text (entries_kept flight (take n kept)) (entries_kept flight (drop n kept))
