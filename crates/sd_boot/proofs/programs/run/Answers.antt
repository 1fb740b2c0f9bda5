use Rattle.std.proofs.Common.{◌≡◌, ◌⊎◌, ◌≤◌, ℕ, List, ◌∙◌, ap, sym, subst, Err}
use Rattle.std.specs.Prelude.{IfSome}
use Rattle.sd_stable_disk.specs.Image.{opens, holds}
use Rattle.sd_stable_disk.specs.declared.errors.OpenError.{OpenError}
use Rattle.sd_script.specs.declared.script.Script.{Script}
use Rattle.sd_script.specs.Grammar.{IsScript}
use Rattle.sd_boot.specs.declared.status.Status.{Status}
use Rattle.sd_boot.specs.declared.words.Program.TheVariants.{Replay, Show, Pack, ImageMake, ImageShow}
use Rattle.sd_boot.proofs.Performing.{done_by, refused_by, no_image_by, cut_by, finished_by, replay_done, make_done, show_done, show_refused, only_show, not_show, no_row}
use Rattle.sd_boot.proofs.programs.run.Goals as goal

pub returns-in-Some-clause-transcript : goal.returns-in-Some-clause-transcript
returns-in-Some-clause-transcript g c = λ words status.
    done_by Replay c.in-Some.program c.args.words.now c.perform.result (g.S.Source.left c.args.source.now) (g.K.Sink.written c.args.sink.now) (g.K.Sink.written c.perform.new.sink) words c.in-Some.ensures c.perform.ensures.told
    (ap (λ (s : Status). s.0) (sym c.status_of.ensures) ∙ status)

pub returns-in-Some-clause-refusal : goal.returns-in-Some-clause-refusal
returns-in-Some-clause-refusal g c = λ words status.
    refused_by Replay c.in-Some.program c.args.words.now c.perform.result (g.S.Source.left c.args.source.now) (g.K.Sink.written c.args.sink.now) (g.K.Sink.written c.perform.new.sink) words c.in-Some.ensures c.perform.ensures.told
    (ap (λ (s : Status). s.0) (sym c.status_of.ensures) ∙ status)

pub returns-in-Some-clause-prefix : goal.returns-in-Some-clause-prefix
returns-in-Some-clause-prefix g c = λ words status.
    cut_by Replay c.in-Some.program c.args.words.now c.perform.result (g.S.Source.left c.args.source.now) (g.K.Sink.written c.args.sink.now) (g.K.Sink.written c.perform.new.sink) words c.in-Some.ensures c.perform.ensures.told
    (subst (λ (s : Status). 4 ≤ s.0) c.status_of.ensures status)

pub returns-in-Some-clause-shown : goal.returns-in-Some-clause-shown
returns-in-Some-clause-shown g c = λ words status.
    done_by Show c.in-Some.program c.args.words.now c.perform.result (g.S.Source.left c.args.source.now) (g.K.Sink.written c.args.sink.now) (g.K.Sink.written c.perform.new.sink) words c.in-Some.ensures c.perform.ensures.told
    (ap (λ (s : Status). s.0) (sym c.status_of.ensures) ∙ status)

pub returns-in-Some-clause-show_refusal : goal.returns-in-Some-clause-show_refusal
returns-in-Some-clause-show_refusal g c = λ words status.
    refused_by Show c.in-Some.program c.args.words.now c.perform.result (g.S.Source.left c.args.source.now) (g.K.Sink.written c.args.sink.now) (g.K.Sink.written c.perform.new.sink) words c.in-Some.ensures c.perform.ensures.told
    (ap (λ (s : Status). s.0) (sym c.status_of.ensures) ∙ status)

pub returns-in-Some-clause-show_prefix : goal.returns-in-Some-clause-show_prefix
returns-in-Some-clause-show_prefix g c = λ words status.
    cut_by Show c.in-Some.program c.args.words.now c.perform.result (g.S.Source.left c.args.source.now) (g.K.Sink.written c.args.sink.now) (g.K.Sink.written c.perform.new.sink) words c.in-Some.ensures c.perform.ensures.told
    (subst (λ (s : Status). 4 ≤ s.0) c.status_of.ensures status)

pub returns-in-Some-clause-packed : goal.returns-in-Some-clause-packed
returns-in-Some-clause-packed g c = λ words status.
    done_by Pack c.in-Some.program c.args.words.now c.perform.result (g.S.Source.left c.args.source.now) (g.K.Sink.written c.args.sink.now) (g.K.Sink.written c.perform.new.sink) words c.in-Some.ensures c.perform.ensures.told
    (ap (λ (s : Status). s.0) (sym c.status_of.ensures) ∙ status)

pub returns-in-Some-clause-pack_refusal : goal.returns-in-Some-clause-pack_refusal
returns-in-Some-clause-pack_refusal g c = λ words status.
    refused_by Pack c.in-Some.program c.args.words.now c.perform.result (g.S.Source.left c.args.source.now) (g.K.Sink.written c.args.sink.now) (g.K.Sink.written c.perform.new.sink) words c.in-Some.ensures c.perform.ensures.told
    (ap (λ (s : Status). s.0) (sym c.status_of.ensures) ∙ status)

pub returns-in-Some-clause-pack_prefix : goal.returns-in-Some-clause-pack_prefix
returns-in-Some-clause-pack_prefix g c = λ words status.
    cut_by Pack c.in-Some.program c.args.words.now c.perform.result (g.S.Source.left c.args.source.now) (g.K.Sink.written c.args.sink.now) (g.K.Sink.written c.perform.new.sink) words c.in-Some.ensures c.perform.ensures.told
    (subst (λ (s : Status). 4 ≤ s.0) c.status_of.ensures status)

pub returns-in-Some-clause-image : goal.returns-in-Some-clause-image
returns-in-Some-clause-image g c = λ words status.
    done_by ImageMake c.in-Some.program c.args.words.now c.perform.result (g.S.Source.left c.args.source.now) (g.K.Sink.written c.args.sink.now) (g.K.Sink.written c.perform.new.sink) words c.in-Some.ensures c.perform.ensures.told
    (ap (λ (s : Status). s.0) (sym c.status_of.ensures) ∙ status)

pub returns-in-Some-clause-image_unmade : goal.returns-in-Some-clause-image_unmade
returns-in-Some-clause-image_unmade g c = λ words status.
    refused_by ImageMake c.in-Some.program c.args.words.now c.perform.result (g.S.Source.left c.args.source.now) (g.K.Sink.written c.args.sink.now) (g.K.Sink.written c.perform.new.sink) words c.in-Some.ensures c.perform.ensures.told
    (ap (λ (s : Status). s.0) (sym c.status_of.ensures) ∙ status)

pub returns-in-Some-clause-image_prefix : goal.returns-in-Some-clause-image_prefix
returns-in-Some-clause-image_prefix g c = λ words status.
    cut_by ImageMake c.in-Some.program c.args.words.now c.perform.result (g.S.Source.left c.args.source.now) (g.K.Sink.written c.args.sink.now) (g.K.Sink.written c.perform.new.sink) words c.in-Some.ensures c.perform.ensures.told
    (subst (λ (s : Status). 4 ≤ s.0) c.status_of.ensures status)

pub returns-in-Some-clause-shown_image : goal.returns-in-Some-clause-shown_image
returns-in-Some-clause-shown_image g c = λ words status.
    done_by ImageShow c.in-Some.program c.args.words.now c.perform.result (g.S.Source.left c.args.source.now) (g.K.Sink.written c.args.sink.now) (g.K.Sink.written c.perform.new.sink) words c.in-Some.ensures c.perform.ensures.told
    (ap (λ (s : Status). s.0) (sym c.status_of.ensures) ∙ status)

pub returns-in-Some-clause-shown_image_prefix : goal.returns-in-Some-clause-shown_image_prefix
returns-in-Some-clause-shown_image_prefix g c = λ words status.
    cut_by ImageShow c.in-Some.program c.args.words.now c.perform.result (g.S.Source.left c.args.source.now) (g.K.Sink.written c.args.sink.now) (g.K.Sink.written c.perform.new.sink) words c.in-Some.ensures c.perform.ensures.told
    (subst (λ (s : Status). 4 ≤ s.0) c.status_of.ensures status)

pub returns-in-Some-clause-image_refusal : goal.returns-in-Some-clause-image_refusal
returns-in-Some-clause-image_refusal g c = λ words status.
    no_image_by ImageShow c.in-Some.program c.args.words.now c.perform.result (g.S.Source.left c.args.source.now) (g.K.Sink.written c.args.sink.now) (g.K.Sink.written c.perform.new.sink) words c.in-Some.ensures c.perform.ensures.told
    (ap (λ (s : Status). s.0) (sym c.status_of.ensures) ∙ status)

pub returns-in-None-clause-prefix : goal.returns-in-None-clause-prefix
returns-in-None-clause-prefix g c = λ words status. absurd (c.in-None.ensures Replay words)

pub returns-in-None-clause-show_prefix : goal.returns-in-None-clause-show_prefix
returns-in-None-clause-show_prefix g c = λ words status. absurd (c.in-None.ensures Show words)

pub returns-in-None-clause-pack_prefix : goal.returns-in-None-clause-pack_prefix
returns-in-None-clause-pack_prefix g c = λ words status. absurd (c.in-None.ensures Pack words)

pub returns-in-None-clause-image_prefix : goal.returns-in-None-clause-image_prefix
returns-in-None-clause-image_prefix g c = λ words status. absurd (c.in-None.ensures ImageMake words)

pub returns-in-None-clause-shown_image_prefix : goal.returns-in-None-clause-shown_image_prefix
returns-in-None-clause-shown_image_prefix g c = λ words status. absurd (c.in-None.ensures ImageShow words)

pub returns-in-None-clause-known : goal.returns-in-None-clause-known
returns-in-None-clause-known g c = λ row status. no_row c.args.words.now c.in-None.ensures row

pub returns-in-None-clause-complete : goal.returns-in-None-clause-complete
returns-in-None-clause-complete g c = λ words calm_source calm_sink. absurd (c.in-None.ensures Replay words)

pub returns-in-Some-clause-complete : goal.returns-in-Some-clause-complete
returns-in-Some-clause-complete g c = λ words calm_source calm_sink.
    subst (λ (s : Status). IfSome (g.S.Source.left c.args.source.now) (λ text. (script : Script) → IsScript text script → (s.0 ≡ 0) ⊎ (s.0 ≡ 5))) (sym c.status_of.ensures)
    (replay_done c.perform.result (g.S.Source.left c.args.source.now)
    (finished_by Replay c.in-Some.program c.args.words.now c.perform.result (g.S.Source.left c.args.source.now) (g.K.Sink.written c.args.sink.now) (g.K.Sink.written c.perform.new.sink) words c.in-Some.ensures c.perform.ensures.told
    (g.S.Source.faults c.args.source.now) (g.S.Source.faults c.perform.new.source) (g.K.Sink.faults c.args.sink.now) (g.K.Sink.faults c.perform.new.sink)
    c.perform.ensures.read c.perform.ensures.write calm_source calm_sink))

pub returns-in-None-clause-image_complete : goal.returns-in-None-clause-image_complete
returns-in-None-clause-image_complete g c = λ words calm_source calm_sink. absurd (c.in-None.ensures ImageMake words)

pub returns-in-Some-clause-image_complete : goal.returns-in-Some-clause-image_complete
returns-in-Some-clause-image_complete g c = λ words calm_source calm_sink.
    subst (λ (s : Status). IfSome (g.S.Source.left c.args.source.now) (λ text. (script : Script) → IsScript text script → (s.0 ≡ 0) ⊎ (s.0 ≡ 5))) (sym c.status_of.ensures)
    (make_done c.perform.result (g.S.Source.left c.args.source.now)
    (finished_by ImageMake c.in-Some.program c.args.words.now c.perform.result (g.S.Source.left c.args.source.now) (g.K.Sink.written c.args.sink.now) (g.K.Sink.written c.perform.new.sink) words c.in-Some.ensures c.perform.ensures.told
    (g.S.Source.faults c.args.source.now) (g.S.Source.faults c.perform.new.source) (g.K.Sink.faults c.args.sink.now) (g.K.Sink.faults c.perform.new.sink)
    c.perform.ensures.read c.perform.ensures.write calm_source calm_sink))

pub returns-in-None-clause-shown_image_complete : goal.returns-in-None-clause-shown_image_complete
returns-in-None-clause-shown_image_complete g c = λ words calm_source calm_sink. absurd (c.in-None.ensures ImageShow words)

pub returns-in-Some-clause-shown_image_complete : goal.returns-in-Some-clause-shown_image_complete
returns-in-Some-clause-shown_image_complete g c = λ words calm_source calm_sink.
    subst (λ (s : Status). IfSome (g.S.Source.left c.args.source.now) (λ image. (files : List (List ℕ)) → holds image files → (s.0 ≡ 0) ⊎ (s.0 ≡ 5))) (sym c.status_of.ensures)
    (show_done c.perform.result (g.S.Source.left c.args.source.now)
    (finished_by ImageShow c.in-Some.program c.args.words.now c.perform.result (g.S.Source.left c.args.source.now) (g.K.Sink.written c.args.sink.now) (g.K.Sink.written c.perform.new.sink) words c.in-Some.ensures c.perform.ensures.told
    (g.S.Source.faults c.args.source.now) (g.S.Source.faults c.perform.new.source) (g.K.Sink.faults c.args.sink.now) (g.K.Sink.faults c.perform.new.sink)
    c.perform.ensures.read c.perform.ensures.write calm_source calm_sink))

pub returns-in-None-clause-image_refused : goal.returns-in-None-clause-image_refused
returns-in-None-clause-image_refused g c = λ words calm_source calm_sink. absurd (c.in-None.ensures ImageShow words)

pub returns-in-Some-clause-image_refused : goal.returns-in-Some-clause-image_refused
returns-in-Some-clause-image_refused g c = λ words calm_source calm_sink.
    subst (λ (s : Status). IfSome (g.S.Source.left c.args.source.now) (λ image. (error : OpenError) → opens image ≡ Err error → (s.0 ≡ 8) ⊎ (s.0 ≡ 5))) (sym c.status_of.ensures)
    (show_refused c.perform.result (g.S.Source.left c.args.source.now)
    (finished_by ImageShow c.in-Some.program c.args.words.now c.perform.result (g.S.Source.left c.args.source.now) (g.K.Sink.written c.args.sink.now) (g.K.Sink.written c.perform.new.sink) words c.in-Some.ensures c.perform.ensures.told
    (g.S.Source.faults c.args.source.now) (g.S.Source.faults c.perform.new.source) (g.K.Sink.faults c.args.sink.now) (g.K.Sink.faults c.perform.new.sink)
    c.perform.ensures.read c.perform.ensures.write calm_source calm_sink))

pub returns-in-Some-clause-only_show : goal.returns-in-Some-clause-only_show
returns-in-Some-clause-only_show g c = λ status.
    only_show c.in-Some.program c.args.words.now c.perform.result c.in-Some.ensures c.perform.ensures.no_image (ap (λ (s : Status). s.0) (sym c.status_of.ensures) ∙ status)

pub returns-in-Some-clause-not_show : goal.returns-in-Some-clause-not_show
returns-in-Some-clause-not_show g c = λ words status.
    not_show c.in-Some.program c.args.words.now c.perform.result c.in-Some.ensures c.perform.ensures.refused words (ap (λ (s : Status). s.0) (sym c.status_of.ensures) ∙ status)
