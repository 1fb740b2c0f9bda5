use Rattle.std.proofs.Common.{◌≡◌, ℕ, suc, ◌+◌, ◌==◌, List, [], ◌∷◌, ◌++◌, cond, get_or, take, ap, ◌∙◌, arith}
use Rattle.sd_segment.specs.Strays.{places_at}
use Rattle.sd_segment.proofs.LinesAt.{places_more}
use Rattle.sd_segment.proofs.stray_lines.stray_places.Goals as goal

pub loop-place-preserved : goal.loop-place-preserved
loop-place-preserved c = λ tick.
    let lines = c.args.lines.now in
    let n = c.loop-place.place in
    let x = c.index-lines-place.result in
    let zero : n ≡ 0 + n = omega arith in
    let one : suc n ≡ n + 1 = omega arith in
    c.in_ok-add_place.ensures tick
    ∙ ap (λ (l : List ℕ). l ++ cond ((get_or lines n x).tick == tick) (n ∷ []) []) (c.loop-place.invariant tick)
    ∙ ap (λ (m : ℕ). places_at tick 0 (take n lines) ++ cond ((get_or lines n x).tick == tick) (m ∷ []) []) zero
    ∙ places_more tick 0 n lines x c.loop-place-test.true
    ∙ ap (λ (m : ℕ). places_at tick 0 (take m lines)) one
