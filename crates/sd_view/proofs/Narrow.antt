-- No row of a ladder is wider than 120 columns.
use Rattle.std.proofs.Common.{ℕ, ◌-◌, ◌≤◌, Bool, List, [], ◌∷◌, ◌++◌, length, take, Option, Some, None, arith, inl, inr, length-append}
use Rattle.std.specs.Prelude.{nat_le, codes, slice_get}
use Rattle.std.specs.Fmt.{decimal}
use Rattle.std.proofs.lemmas.Bool.{cases_Bool, leb-true}
use Rattle.std.proofs.lemmas.List.{length-take}
use Rattle.sd_text.specs.Texts.{Text}
use Rattle.sd_view.specs.declared.journeys.Journey.{Journey}
use Rattle.sd_view.specs.declared.lines.Arrival.{Arrival}
use Rattle.sd_view.specs.declared.lines.Line.{Line}
use Rattle.sd_view.specs.declared.lines.Line.TheVariants.{Sent, Came, Failed, Answer}
use Rattle.sd_view.specs.Brief.{fit, at_right}
use Rattle.sd_view.specs.Ladder.{bare, row, behind, leaving, coming, event, sent_row, came_row, line_row}

fit_narrow : (most : ℕ) (text : Text) → 2 ≤ most → length (fit most text) ≤ most
fit_narrow most text least = elim (cases_Bool (nat_le (length text) most)) [
  | inl short ↦ rw short (leb-true (length text) most short)
  | inr long ↦ rw long (omega (arith, least, length-append (take (most - 2) text) (codes ".."), length-take (most - 2) text))
]

row_narrow : (tick middle text : Text) → length (row tick middle text) ≤ 121
row_narrow tick middle text =
    let whole = at_right 8 tick ++ codes "  " ++ middle ++ text in
    omega (arith, length-append (fit 120 whole) (10 ∷ []), fit_narrow 120 whole (omega arith))

sent_narrow : (strangers : Bool) (tick id : ℕ) (j : Option Journey) → length (sent_row strangers tick id j) ≤ 121
sent_narrow strangers tick id (Some j) = row_narrow (decimal tick) (leaving strangers id j.lost j.from j.to) (behind j.text)
sent_narrow strangers tick id None = omega arith

came_narrow : (strangers : Bool) (tick id : ℕ) (how : Arrival) (j : Option Journey) → length (came_row strangers tick id how j) ≤ 121
came_narrow strangers tick id how (Some j) = row_narrow (decimal tick) (coming strangers id how j.from) (event how)
came_narrow strangers tick id how None = omega arith

pub line_narrow : (strangers : Bool) (journeys : List Journey) (line : Line) → length (line_row strangers journeys line) ≤ 121
line_narrow strangers journeys (Sent tick id packet) = sent_narrow strangers tick id (slice_get journeys id)
line_narrow strangers journeys (Came how tick id) = came_narrow strangers tick id how (slice_get journeys id)
line_narrow strangers journeys (Failed tick) = row_narrow (decimal tick) (bare strangers) (behind (codes "the client's network failed"))
line_narrow strangers journeys (Answer answer) = row_narrow [] (bare strangers) (behind (codes "answer: " ++ answer))
