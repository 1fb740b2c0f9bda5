use Rattle.std.proofs.Common.{List, [], ◌∷◌, ◌++◌, Option, refl, sym, ap, ◌∙◌}
use Rattle.std.proofs.lemmas.List.{append-nil}
use Rattle.sd_outside.specs.declared.packet.Packet.{Packet}
use Rattle.sd_config.specs.declared.events.Stranger.{Stranger}
use Rattle.sd_segment.specs.Strays.{packet_in}
use Rattle.sd_segment.proofs.LinesAt.{get-past}
use Rattle.sd_segment.proofs.Passing.{found_in}
use Rattle.sd_segment.proofs.stray_lines.push_stray.Goals as goal

pub returns-in-None : goal.returns-in-None
returns-in-None c =
    let list : List Packet = c.args.list.now in
    sym (append-nil list) ∙ ap (λ (o : Option Stranger). list ++ packet_in o) (sym (get-past c.args.lines.now c.args.place c.in-None.ensures.lookup.3))

pub returns-in_ok-push-in-Some : goal.returns-in_ok-push-in-Some
returns-in_ok-push-in-Some c =
    let list : List Packet = c.args.list.now in
    let lines : List Stranger = c.args.lines.now in
    let l = c.in-Some.ensures.lookup in
    c.in_ok-push-in-Some.ensures.ok
    ∙ ap (λ (p : Packet). list ++ p ∷ []) c.in_ok-packet_of-in-Some.ensures
    ∙ ap (λ (o : Option Stranger). list ++ packet_in o) (sym (found_in lines lines c.args.place c.in-Some.line.now refl l.3.0 l.1))
