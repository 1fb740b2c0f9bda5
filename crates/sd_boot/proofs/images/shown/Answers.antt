use Rattle.std.proofs.Common.{◌≡◌, ℕ, List, Option, subst}
use Rattle.std.specs.Prelude.{IfSome}
use Rattle.sd_boot.specs.Images.{IsShownImage, files_text}
use Rattle.sd_boot.proofs.Imaging.{shown_so, same_bytes}
use Rattle.sd_boot.proofs.images.shown.Goals as goal

pub returns-in-Ok : goal.returns-in-Ok
returns-in-Ok c =
    let bytes = c.in_ok-new.field-0.bytes.items in
    let out = c.in_ok-files_text-in-Ok.field-0 in
    subst (λ (image : List ℕ). IsShownImage image out) (same_bytes bytes c.args.image.now c.in_ok-new.ensures.seen)
    (shown_so bytes out c.in-Ok.ensures.readable
    (subst (λ (o : Option (List (List ℕ))). IfSome o (λ files. out ≡ files_text files)) c.in-Ok.ensures.files c.in_ok-files_text-in-Ok.ensures))
