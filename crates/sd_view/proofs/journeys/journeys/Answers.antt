use Rattle.std.proofs.Common.{◌≡◌, ◌∙◌, ◌+◌, ◌∷◌, List, Option, drop, sym, ap, subst, arith}
use Rattle.std.proofs.lemmas.List.{drop_more, drop_all}
use Rattle.sd_show.specs.declared.calls.Heard.{Heard}
use Rattle.sd_view.specs.declared.ends.Column.{Column}
use Rattle.sd_view.specs.declared.ends.Ends.{Ends}
use Rattle.sd_view.specs.declared.journeys.Journey.{Journey}
use Rattle.sd_view.specs.declared.lines.Line.{Line}
use Rattle.sd_view.specs.Brief.{brief}
use Rattle.sd_view.specs.Ends.{ends_of, sender, receiver}
use Rattle.sd_view.specs.Journeys.{IsJourney, is_lost}
use Rattle.sd_view.proofs.Travelling.{AreSoFar, one_travels, came_by, failed_by, answered_by, all_travelled}
use Rattle.sd_view.proofs.journeys.journeys.Goals as goal
use Rattle.sd_view.proofs.journeys.journeys.Goals.{in-Sent+in_ok-said-in-Sent+in_ok-brief-in-Sent+in_ok-push-in-Sent, in-Came, in-Failed, in-Answer}

pub loop-place-preserved : goal.loop-place-preserved
loop-place-preserved c =
    let run = c.args.run.now in
    let place = c.loop-place.place in
    let first : drop place run ≡ c.index-run-place.result ∷ drop (place + 1) run =
    drop_more run place c.index-run-place.result c.loop-place-test.true ∙ ap (λ (line : Line). line ∷ drop (place + 1) run) (sym c.index-run-place.is) in
    elim c.match-run-place.branch [
      | in-Sent+in_ok-said-in-Sent+in_ok-brief-in-Sent+in_ok-push-in-Sent w ↦
          let packet = w.in-Sent.packet in
          let id = w.in-Sent.id in
          let to_is : w.receiver-to.result ≡ receiver (ends_of run) packet = w.receiver-to.ensures ∙ ap (λ (e : Option Ends). receiver e packet) c.ends_of-ends.ensures in
          let from_is : w.sender.result ≡ sender (ends_of run) packet = w.sender.ensures ∙ ap (λ (e : Option Ends). sender e packet) c.ends_of-ends.ensures in
          let lost_is : w.is_lost.result ≡ is_lost run id (receiver (ends_of run) packet) = w.is_lost.ensures run c.in_ok-arrived.ensures ∙ ap (λ (to : Column). is_lost run id to) to_is in
          let text_is : w.in_ok-brief-in-Sent.field-0 ≡ brief w.in_ok-said-in-Sent.said = w.in_ok-brief-in-Sent.ensures ∙ ap brief w.as_slice.ensures in
          let journey : Journey = record {
            place = place;
            from = w.sender.result;
            to = w.receiver-to.result;
            lost = w.is_lost.result;
            protocol = w.protocol_of.result;
            text = w.in_ok-brief-in-Sent.field-0;
          } in
          let is : IsJourney run c.loop-place.seen place id packet journey w.says.new.seen = record {
            said = w.in_ok-said-in-Sent.said;
            says = w.in_ok-said-in-Sent.ensures;
            means = λ i. record { place = place; from = from_is i; to = to_is i; lost = lost_is i; protocol = w.protocol_of.ensures i; text = text_is i };
          } in
          subst (λ (seen : List Heard). AreSoFar run seen (place + 1) c.match-run-place.journeys) (sym w.seen-is)
          (subst (λ (journeys : List Journey). AreSoFar run w.says.new.seen (place + 1) journeys) (sym (w.journeys-is ∙ w.in_ok-push-in-Sent.ensures.ok))
          (one_travels run c.loop-place.seen w.says.new.seen place c.loop-place.journeys w.in-Sent.tick id packet journey c.loop-place.invariant
          (first ∙ ap (λ (line : Line). line ∷ drop (place + 1) run) w.in-Sent.is) is))
      | in-Came w ↦
          subst (λ (seen : List Heard). AreSoFar run seen (place + 1) c.match-run-place.journeys) (sym w.seen-is)
          (subst (λ (journeys : List Journey). AreSoFar run c.loop-place.seen (place + 1) journeys) (sym w.journeys-is)
          (came_by run c.loop-place.seen place c.loop-place.journeys w.in-Came.how w.in-Came.tick w.in-Came.id c.loop-place.invariant
          (first ∙ ap (λ (line : Line). line ∷ drop (place + 1) run) w.in-Came.is)))
      | in-Failed w ↦
          subst (λ (seen : List Heard). AreSoFar run seen (place + 1) c.match-run-place.journeys) (sym w.seen-is)
          (subst (λ (journeys : List Journey). AreSoFar run c.loop-place.seen (place + 1) journeys) (sym w.journeys-is)
          (failed_by run c.loop-place.seen place c.loop-place.journeys w.in-Failed.tick c.loop-place.invariant
          (first ∙ ap (λ (line : Line). line ∷ drop (place + 1) run) w.in-Failed.is)))
      | in-Answer w ↦
          subst (λ (seen : List Heard). AreSoFar run seen (place + 1) c.match-run-place.journeys) (sym w.seen-is)
          (subst (λ (journeys : List Journey). AreSoFar run c.loop-place.seen (place + 1) journeys) (sym w.journeys-is)
          (answered_by run c.loop-place.seen place c.loop-place.journeys w.in-Answer.answer c.loop-place.invariant
          (first ∙ ap (λ (line : Line). line ∷ drop (place + 1) run) w.in-Answer.is)))
    ]

pub returns : goal.returns
returns c = all_travelled c.args.run.now c.loop-place.seen c.loop-place.place c.loop-place.journeys (drop_all c.loop-place.place c.args.run.now (omega (arith, c.loop-place-test.false))) c.loop-place.invariant
