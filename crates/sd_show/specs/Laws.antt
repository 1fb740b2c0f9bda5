-- What holds of the texts of packets. The functions of src/laws.rt have these as their contracts.
use Rattle.std.specs.Prelude.{◌≡◌, ◌⊎◌, List}
use Rattle.sd_outside.specs.declared.packet.Packet.{Packet}
use Rattle.sd_xdr.specs.Kind.{Value}
use Rattle.sd_text.specs.Texts.{Text}
use Rattle.sd_text.specs.Grammar.{Reads, writes}
use Rattle.sd_show.specs.declared.calls.Heard.{Heard}
use Rattle.sd_text.specs.Packets.{IsPacket}
use Rattle.sd_show.specs.declared.error.ShowError.{ShowError}
use Rattle.sd_show.specs.Lines.{line}
use Rattle.sd_show.specs.Shown.{Shows, Packs, IsWritten}
use Rattle.sd_show.specs.Refused.{HasNoText, HasNoPacket}

-- A packet has one text behind the same calls.
abbrev pub OneText : Type 0
OneText = (seen : List Heard) (packet : Packet) (s t : Text) → Shows seen packet s → Shows seen packet t → s ≡ t

-- A packet that has a text is not refused.
abbrev pub NeverBoth : Type 0
NeverBoth = (seen : List Heard) (packet : Packet) (text : Text) (e : ShowError) → Shows seen packet text → HasNoText seen packet e → ⊥

-- A packet of the code has a text or is refused.
abbrev pub EitherWay : Type 0
EitherWay = (seen : List Heard) (packet : Packet) → IsPacket packet → ((text : Text) × Shows seen packet text) ⊎ ((e : ShowError) × HasNoText seen packet e)

-- A packet is refused for one reason behind the same calls.
abbrev pub OneRefusal : Type 0
OneRefusal = (seen : List Heard) (packet : Packet) (d e : ShowError) → HasNoText seen packet d → HasNoText seen packet e → d ≡ e

-- A text is of one packet.
abbrev pub OnePacket : Type 0
OnePacket = (text : Text) (p q : Packet) → Packs text p → Packs text q → p ≡ q

-- Every text is that of a packet, or has a refusal.
abbrev pub EitherPacked : Type 0
EitherPacked = (text : Text) → ((packet : Packet) × Packs text packet) ⊎ ((e : ShowError) × HasNoPacket text e)

-- A text has one refusal.
abbrev pub OneTextRefusal : Type 0
OneTextRefusal = (text : Text) (d e : ShowError) → HasNoPacket text d → HasNoPacket text e → d ≡ e

-- The text that a packet within the limits has is a text of its written form.
abbrev pub ShownIsPacked : Type 0
ShownIsPacked = (seen : List Heard) (packet written : Packet) (text : Text) → IsPacket packet → Shows seen packet text → IsWritten seen packet written → Packs text written

-- A text of a packet is the one that it has behind some calls, but for how its byte runs are split: both spell one value.
pub record IsSplitOf (text shown : Text) : Type 0 where
  pub value : Value
  pub reads : Reads line text value
  pub written : shown ≡ writes line value

abbrev pub PackedIsShown : Type 0
PackedIsShown = (text : Text) (packet : Packet) → Packs text packet → (seen : List Heard) × (shown : Text) × Shows seen packet shown × IsSplitOf text shown
