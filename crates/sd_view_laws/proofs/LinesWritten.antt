-- What the lines of a record and the answers say.
use Rattle.std.proofs.Common.{◌≡◌, ℕ, ◌<◌, ◌^◌, List, [], ◌∷◌, ◌++◌, refl, ap, ◌∙◌, inl, arith, eqb}
use Rattle.std.specs.Prelude.{codes}
use Rattle.std.specs.Fmt.{decimal}
use Rattle.std.specs.List.{join_with_byte}
use Rattle.std.proofs.lemmas.List.Splits.{slice_split_at, slice_split_none}
use Rattle.sd_config.specs.declared.stage.Stage.{Stage}
use Rattle.sd_config.specs.declared.stage.Stage.TheVariants as stages
use Rattle.sd_config.specs.declared.told.Told.{Told}
use Rattle.sd_config.specs.declared.told.Told.TheVariants.{AddrOk, AddrTimeout, AddrFlood, AddrLinkFault, BootUnbuilt, BootTimeout, BootFlood, BootDenied, BootRefused, BootNoPort, BootTooLarge, BootLinkFault, WaitOk, WaitFlood, WaitLinkFault}
use Rattle.sd_text.specs.Texts.{Text, fields, ip_text, IsNumber}
use Rattle.sd_text.specs.Runs.{runs_text}
use Rattle.sd_text.specs.Packets.{packet_text}
use Rattle.sd_text.proofs.ReadBack.{decimal_lacks, packet_again}
use Rattle.sd_link.specs.Steps.{Entry, Sent, Served, Crashed, Faulted, Got, Failed}
use Rattle.sd_link.specs.Printing.{entry_text}
use Rattle.sd_script.specs.Answers.{stage_text, answer_text}
use Rattle.sd_view.specs.declared.lines.Arrival.{Arrival}
use Rattle.sd_view.specs.declared.lines.Arrival.TheVariants as arrivals
use Rattle.sd_view.specs.declared.lines.Line.{Line}
use Rattle.sd_view.specs.declared.lines.Line.TheVariants as lines
use Rattle.sd_view.specs.declared.words.Word.TheVariants as words
use Rattle.sd_view.specs.Lines.{greatest, IsCame, IsLine}
use Rattle.sd_view_laws.specs.Written.{line_of, EntryFits, AnswerFits}
use Rattle.sd_view_laws.proofs.Printed.{Printed, printed_then, printed_word, decimal_printed, join_printed, ip_printed, runs_printed, packet_printed}

-- a printed text that says a line
pub record Tells (body : Text) (line : Line) : Type 0 where
  pub printed : Printed body
  pub says : IsLine body line

is_count : (n : ℕ) → n < 2 ^ 64 → IsNumber 0 greatest (decimal n) n
is_count n small = record { is = refl; low = omega arith; high = omega (arith, small); fits = small }

-- a number, and what stands behind the space after it
count_first : (n : ℕ) (behind : Text) → n < 2 ^ 64 → fields (decimal n ++ (32 ∷ behind)) ≡ decimal n ∷ fields behind
count_first n behind small = slice_split_at (λ b. eqb b 32) (decimal n) 32 behind (decimal_lacks 32 n small (inl (omega arith))) refl

count_alone : (n : ℕ) → n < 2 ^ 64 → fields (decimal n) ≡ decimal n ∷ []
count_alone n small = slice_split_none (λ b. eqb b 32) (decimal n) (decimal_lacks 32 n small (inl (omega arith)))

-- ---- the record

abbrev pub entry_body : Entry → Text
entry_body (Sent tick id packet) = join_with_byte 32 (codes "sent" ∷ decimal tick ∷ decimal id ∷ packet_text packet ∷ [])
entry_body (Served tick id) = join_with_byte 32 (codes "served" ∷ decimal tick ∷ decimal id ∷ [])
entry_body (Crashed tick id) = join_with_byte 32 (codes "crashed" ∷ decimal tick ∷ decimal id ∷ [])
entry_body (Faulted tick id) = join_with_byte 32 (codes "faulted" ∷ decimal tick ∷ decimal id ∷ [])
entry_body (Got tick id) = join_with_byte 32 (codes "got" ∷ decimal tick ∷ decimal id ∷ [])
entry_body (Failed tick) = join_with_byte 32 (codes "failed" ∷ decimal tick ∷ [])

pub entry_ended : (entry : Entry) → entry_text entry ≡ entry_body entry ++ 10 ∷ []
entry_ended (Sent tick id packet) = refl
entry_ended (Served tick id) = refl
entry_ended (Crashed tick id) = refl
entry_ended (Faulted tick id) = refl
entry_ended (Got tick id) = refl
entry_ended (Failed tick) = refl

two_counts : (how : Arrival) (tick id : ℕ) → tick < 2 ^ 64 → id < 2 ^ 64 → IsCame how (fields (decimal tick ++ (32 ∷ decimal id))) (lines.Came how tick id)
two_counts how tick id t i = record {
  tick = tick;
  id = id;
  first = decimal tick;
  second = decimal id;
  text = count_first tick (decimal id) t ∙ ap (λ (l : List Text). decimal tick ∷ l) (count_alone id i);
  is_tick = is_count tick t;
  is_id = is_count id i;
  means = refl;
}

came_printed : (word : Text) (tick id : ℕ) → Printed word → tick < 2 ^ 64 → id < 2 ^ 64 → Printed (join_with_byte 32 (word ∷ decimal tick ∷ decimal id ∷ []))
came_printed word tick id w t i = join_printed 32 (word ∷ decimal tick ∷ decimal id ∷ []) refl (w, (decimal_printed tick t, (decimal_printed id i, tt)))

pub entry_told : (entry : Entry) → EntryFits entry → Tells (entry_body entry) (line_of entry)
entry_told (Sent tick id packet) f = record {
  printed = join_printed 32 (codes "sent" ∷ decimal tick ∷ decimal id ∷ packet_text packet ∷ []) refl
      (printed_word (codes "sent") refl, (decimal_printed tick f.0, (decimal_printed id f.1, (packet_printed packet f.2, tt))));
  says = record {
    word = words.Sent;
    behind = decimal tick ++ (32 ∷ (decimal id ++ (32 ∷ packet_text packet)));
    parted = refl;
    says = record {
      tick = tick;
      id = id;
      packet = packet;
      first = decimal tick;
      second = decimal id;
      rest = packet_text packet;
      text = count_first tick (decimal id ++ (32 ∷ packet_text packet)) f.0 ∙ ap (λ (l : List Text). decimal tick ∷ l) (count_first id (packet_text packet) f.1);
      is_tick = is_count tick f.0;
      is_id = is_count id f.1;
      is_packet = packet_again packet f.2;
      means = refl;
    };
  };
}
entry_told (Served tick id) f = record {
  printed = came_printed (codes "served") tick id (printed_word (codes "served") refl) f.0 f.1;
  says = record { word = words.Served; behind = decimal tick ++ (32 ∷ decimal id); parted = refl; says = two_counts arrivals.Served tick id f.0 f.1 };
}
entry_told (Crashed tick id) f = record {
  printed = came_printed (codes "crashed") tick id (printed_word (codes "crashed") refl) f.0 f.1;
  says = record { word = words.Crashed; behind = decimal tick ++ (32 ∷ decimal id); parted = refl; says = two_counts arrivals.Crashed tick id f.0 f.1 };
}
entry_told (Faulted tick id) f = record {
  printed = came_printed (codes "faulted") tick id (printed_word (codes "faulted") refl) f.0 f.1;
  says = record { word = words.Faulted; behind = decimal tick ++ (32 ∷ decimal id); parted = refl; says = two_counts arrivals.Faulted tick id f.0 f.1 };
}
entry_told (Got tick id) f = record {
  printed = came_printed (codes "got") tick id (printed_word (codes "got") refl) f.0 f.1;
  says = record { word = words.Got; behind = decimal tick ++ (32 ∷ decimal id); parted = refl; says = two_counts arrivals.Got tick id f.0 f.1 };
}
entry_told (Failed tick) f = record {
  printed = join_printed 32 (codes "failed" ∷ decimal tick ∷ []) refl (printed_word (codes "failed") refl, (decimal_printed tick f, tt));
  says = record {
    word = words.Failed;
    behind = decimal tick;
    parted = refl;
    says = record { tick = tick; first = decimal tick; text = count_alone tick f; is_tick = is_count tick f; means = refl };
  };
}

-- ---- answers

stage_printed : (step : Stage) → Printed (stage_text step)
stage_printed stages.Rarp = printed_word (codes "rarp") refl
stage_printed stages.Tftp = printed_word (codes "tftp") refl
stage_printed stages.Whoami = printed_word (codes "whoami") refl
stage_printed stages.Getfile = printed_word (codes "getfile") refl
stage_printed stages.Getport = printed_word (codes "getport") refl
stage_printed stages.Mnt = printed_word (codes "mnt") refl
stage_printed stages.Lookup = printed_word (codes "lookup") refl
stage_printed stages.Readlink = printed_word (codes "readlink") refl
stage_printed stages.Read = printed_word (codes "read") refl
stage_printed stages.Getattr = printed_word (codes "getattr") refl
stage_printed stages.Wait = printed_word (codes "wait") refl

-- the whole line is the answer
addr_line : (behind : Text) → Printed (codes "addr " ++ behind) → Tells (codes "addr " ++ behind) (lines.Answer (codes "addr " ++ behind))
addr_line behind p = record { printed = p; says = record { word = words.Addr; behind = behind; parted = refl; says = record { plain = p; means = refl } } }

boot_line : (behind : Text) → Printed (codes "boot " ++ behind) → Tells (codes "boot " ++ behind) (lines.Answer (codes "boot " ++ behind))
boot_line behind p = record { printed = p; says = record { word = words.Boot; behind = behind; parted = refl; says = record { plain = p; means = refl } } }

wait_line : (behind : Text) → Printed (codes "wait " ++ behind) → Tells (codes "wait " ++ behind) (lines.Answer (codes "wait " ++ behind))
wait_line behind p = record { printed = p; says = record { word = words.Wait; behind = behind; parted = refl; says = record { plain = p; means = refl } } }

pub answer_told : (told : Told) → AnswerFits told → Tells (answer_text told) (lines.Answer (answer_text told))
answer_told (AddrOk ip) f = addr_line (codes "ok " ++ ip_text ip) (printed_then (codes "addr ok ") (ip_text ip) (printed_word (codes "addr ok ") refl) (ip_printed ip))
answer_told AddrTimeout f = addr_line (codes "timeout rarp") (printed_word (codes "addr timeout rarp") refl)
answer_told (AddrFlood step) f = addr_line (codes "flood " ++ stage_text step) (printed_then (codes "addr flood ") (stage_text step) (printed_word (codes "addr flood ") refl) (stage_printed step))
answer_told AddrLinkFault f = addr_line (codes "linkfault") (printed_word (codes "addr linkfault") refl)
answer_told (BootUnbuilt step program) f =
    boot_line (codes "unbuilt " ++ stage_text step ++ codes " program " ++ runs_text program)
    (printed_then (codes "boot unbuilt ") (stage_text step ++ codes " program " ++ runs_text program) (printed_word (codes "boot unbuilt ") refl)
    (printed_then (stage_text step ++ codes " program ") (runs_text program) (printed_then (stage_text step) (codes " program ") (stage_printed step) (printed_word (codes " program ") refl)) (runs_printed program f.0 f.1)))
answer_told (BootTimeout step) f = boot_line (codes "timeout " ++ stage_text step) (printed_then (codes "boot timeout ") (stage_text step) (printed_word (codes "boot timeout ") refl) (stage_printed step))
answer_told (BootFlood step) f = boot_line (codes "flood " ++ stage_text step) (printed_then (codes "boot flood ") (stage_text step) (printed_word (codes "boot flood ") refl) (stage_printed step))
answer_told (BootDenied step code) f =
    boot_line (codes "denied " ++ stage_text step ++ codes " " ++ decimal code)
    (printed_then (codes "boot denied ") (stage_text step ++ codes " " ++ decimal code) (printed_word (codes "boot denied ") refl)
    (printed_then (stage_text step ++ codes " ") (decimal code) (printed_then (stage_text step) (codes " ") (stage_printed step) (printed_word (codes " ") refl)) (decimal_printed code f)))
answer_told (BootRefused step status) f =
    boot_line (codes "refused " ++ stage_text step ++ codes " " ++ decimal status)
    (printed_then (codes "boot refused ") (stage_text step ++ codes " " ++ decimal status) (printed_word (codes "boot refused ") refl)
    (printed_then (stage_text step ++ codes " ") (decimal status) (printed_then (stage_text step) (codes " ") (stage_printed step) (printed_word (codes " ") refl)) (decimal_printed status f)))
answer_told BootNoPort f = boot_line (codes "noport getport") (printed_word (codes "boot noport getport") refl)
answer_told (BootTooLarge size) f = boot_line (codes "toolarge " ++ decimal size) (printed_then (codes "boot toolarge ") (decimal size) (printed_word (codes "boot toolarge ") refl) (decimal_printed size f))
answer_told BootLinkFault f = boot_line (codes "linkfault") (printed_word (codes "boot linkfault") refl)
answer_told (WaitOk ticks) f = wait_line (decimal ticks ++ codes " ok") (printed_then (codes "wait ") (decimal ticks ++ codes " ok") (printed_word (codes "wait ") refl) (printed_then (decimal ticks) (codes " ok") (decimal_printed ticks f) (printed_word (codes " ok") refl)))
answer_told (WaitFlood ticks) f = wait_line (decimal ticks ++ codes " flood wait") (printed_then (codes "wait ") (decimal ticks ++ codes " flood wait") (printed_word (codes "wait ") refl) (printed_then (decimal ticks) (codes " flood wait") (decimal_printed ticks f) (printed_word (codes " flood wait") refl)))
answer_told (WaitLinkFault ticks) f = wait_line (decimal ticks ++ codes " linkfault") (printed_then (codes "wait ") (decimal ticks ++ codes " linkfault") (printed_word (codes "wait ") refl) (printed_then (decimal ticks) (codes " linkfault") (decimal_printed ticks f) (printed_word (codes " linkfault") refl)))
