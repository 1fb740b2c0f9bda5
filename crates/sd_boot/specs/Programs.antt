-- What the programs write, by how they ended.
use Rattle.std.specs.Prelude.{ℕ, List, Result}
use Rattle.sd_boot.specs.declared.images.ImageWord.TheVariants as images
use Rattle.sd_boot.specs.declared.status.Ended.{Ended}
use Rattle.sd_boot.specs.declared.status.Stop.{Stop}
use Rattle.sd_boot.specs.declared.packet_texts.Direction.TheVariants as directions
use Rattle.sd_boot.specs.declared.words.Program.{Program}
use Rattle.sd_boot.specs.declared.words.Program.TheVariants.{Replay, Show, Pack, ImageMake, ImageShow}
use Rattle.sd_boot.specs.Replay.{Replays}
use Rattle.sd_boot.specs.PacketTexts.{Translates}
use Rattle.sd_boot.specs.Images.{Answers}

abbrev pub Performs : Program → Result Ended Stop → List ℕ → List ℕ → Type 0
Performs Replay result input out = Replays result input out
Performs Show result input out = Translates directions.Show result input out
Performs Pack result input out = Translates directions.Pack result input out
Performs ImageMake result input out = Answers images.Make result input out
Performs ImageShow result input out = Answers images.Show result input out
