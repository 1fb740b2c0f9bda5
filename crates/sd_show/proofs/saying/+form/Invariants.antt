use Rattle.std.proofs.Common.{length}
use Rattle.sd_show.specs.Forms.{text_kind, form_kind}
use Rattle.sd_show.specs.Packing.{form_of}
use Rattle.sd_show.proofs.Tells.{IsListing}
use Rattle.sd_show.proofs.saying.+form.Given as goal

-- the items so far and those that are still read are all
abbrev pub invariant-say_items-saying : goal.invariant-say_items-saying
invariant-say_items-saying l = IsListing (text_kind (form_of l.item)) (form_kind (form_of l.item)) l.fn.reader l.fn.writer l.reader l.writer l.before

abbrev pub decreases-say_items-saying : goal.decreases-say_items-saying
decreases-say_items-saying l = length l.reader.rest
