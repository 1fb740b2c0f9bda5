-- The texts of record lines.
use Rattle.std.proofs.Common.{◌≡◌, ℕ, [], ◌∷◌, ◌++◌, refl, sym, ◌∙◌, append_assoc}
use Rattle.sd_outside.specs.declared.packet.Packet.{Packet}
use Rattle.sd_text.specs.Texts.{Text}
use Rattle.sd_text.specs.Packets.{packet_text}
use Rattle.sd_text.specs.Writing.{AppendsPrefix}
use Rattle.sd_link.specs.Printing.{entry_text}
use Rattle.sd_link.specs.Steps as steps
use Rattle.sd_script.specs.PacketWriting.{head_of_sent}

-- a prefix of what follows a head, behind the head, where more follows
pub front_within : (old mid new head rest more whole : Text) → mid ≡ old ++ head → whole ≡ head ++ (rest ++ more) → AppendsPrefix mid new rest → AppendsPrefix old new whole
front_within old mid new head rest more whole e is a = record {
  front = head ++ a.front;
  rest = a.rest ++ more;
  parts = is ∙ rw (a.parts, append_assoc, append_assoc) refl;
  appended = a.appended ∙ rw (e, append_assoc) refl;
}

-- all but the last part of the whole is written
pub front_before : (old mid last new head rest more whole : Text) → mid ≡ old ++ head → whole ≡ head ++ (rest ++ more) → last ≡ mid ++ rest → new ≡ last → AppendsPrefix old new whole
front_before old mid last new head rest more whole e is written same = record {
  front = head ++ rest;
  rest = more;
  parts = is ∙ sym (append_assoc head rest more);
  appended = same ∙ written ∙ rw (e, append_assoc) refl;
}

pub sent_text : (tick id : ℕ) (packet : Packet) → entry_text (steps.Sent tick id packet) ≡ head_of_sent tick id ++ (packet_text packet ++ (10 ∷ []))
sent_text tick id packet = simp append_assoc
