-- What the lines so far say, line by line.
use Rattle.std.proofs.Common.{◌≡◌, ℕ, ◌+◌, ◌<◌, ◌≤◌, List, [], ◌∷◌, ◌++◌, length, refl, ap, sym, ◌∙◌, subst, arith, append_assoc, length-append}
use Rattle.std.proofs.lemmas.List.{append-nil}
use Rattle.std.proofs.lemmas.List.Sums.{fold-append}
use Rattle.std.specs.List.{AllZip}
use Rattle.sd_text.specs.Texts.{Text}
use Rattle.sd_view.specs.declared.lines.Line.{Line}
use Rattle.sd_view.specs.declared.lines.Line.TheVariants.{Sent, Came, Failed, Answer}
use Rattle.sd_view.specs.declared.order.SoFar.{SoFar}
use Rattle.sd_view.specs.Order.{nothing, after, after_all, MayFollow, AllFollow}
use Rattle.sd_outside.specs.Lines.{lines}
use Rattle.sd_view.specs.Transcript.{IsWhole, Say, IsTranscript, IsFirstOutside}

pub zip-snoc : (texts : List Text) (run : List Line) (text : Text) (line : Line) → AllZip IsWhole texts run → IsWhole text line → AllZip IsWhole (texts ++ (text ∷ [])) (run ++ (line ∷ []))
zip-snoc [] [] text line z h = (h, tt)
zip-snoc [] (x ∷ run) text line z h = absurd z
zip-snoc (t ∷ texts) [] text line z h = absurd z
zip-snoc (t ∷ texts) (x ∷ run) text line z h = (z.0, zip-snoc texts run text line z.1 h)

pub follow-snoc : (s : SoFar) (run : List Line) (line : Line) → AllFollow s run → MayFollow (after_all s run) line → AllFollow s (run ++ (line ∷ []))
follow-snoc s [] line f h = (h, tt)
follow-snoc s (x ∷ run) line f h = (f.0, follow-snoc (after s x) run line f.1 h)

one_more : (s : SoFar) (line : Line) → (after s line).sent ≤ s.sent + 1
one_more s (Sent tick id packet) = omega arith
one_more s (Came how tick id) = omega arith
one_more s (Failed tick) = omega arith
one_more s (Answer answer) = omega arith

-- The lines before say the run, what it leaves is known, and the rest is left.
pub record IsSoFar (text rest : Text) (run : List Line) (known : SoFar) (number : ℕ) : Type 0 where
  pub before : List Text
  pub parted : lines text ≡ before ++ lines rest
  pub says : Say before run
  pub is_known : known ≡ after_all nothing run
  pub count : number ≡ length before
  pub room : number + length rest ≤ length text
  pub few : known.sent ≤ number

pub so_far_begins : (text : Text) → IsSoFar text text [] nothing 0
so_far_begins text = record { before = []; parted = refl; says = record { each = tt; ordered = tt }; is_known = refl; count = refl; room = omega arith; few = omega arith }

pub so_far_goes_on : (text rest : Text) (run : List Line) (known : SoFar) (number : ℕ) (line next : Text) (said : Line) → IsSoFar text rest run known number
    → lines rest ≡ line ∷ lines next → length next < length rest → IsWhole line said → MayFollow known said
    → IsSoFar text next (run ++ (said ∷ [])) (after known said) (number + 1)
so_far_goes_on text rest run known number line next said s first shorter h may = record {
  before = s.before ++ (line ∷ []);
  parted = s.parted ∙ rw (first, append_assoc) refl;
  says = record { each = zip-snoc s.before run line said s.says.each h; ordered = follow-snoc nothing run said s.says.ordered (subst (λ (k : SoFar). MayFollow k said) s.is_known may) };
  is_known = ap (λ (k : SoFar). after k said) s.is_known ∙ sym (fold-append after nothing run (said ∷ []));
  count = omega (arith, length-append s.before (line ∷ []), s.count);
  room = omega (arith, s.room, shorter);
  few = omega (arith, s.few, one_more known said);
}

pub refused_here : (text rest : Text) (run : List Line) (known : SoFar) (number : ℕ) (line next : Text) → IsSoFar text rest run known number
    → lines rest ≡ line ∷ lines next → ((said : Line) → IsWhole line said → MayFollow known said → ⊥) → IsFirstOutside text (number + 1)
refused_here text rest run known number line next s first none = record {
  before = s.before;
  line = line;
  others = lines next;
  run = run;
  parted = s.parted ∙ ap (λ (more : List Text). s.before ++ more) first;
  number = ap (λ k. k + 1) s.count;
  says = s.says;
  outside = λ said h may. none said h (subst (λ (k : SoFar). MayFollow k said) (sym s.is_known) may);
}

pub all_read : (text rest : Text) (run : List Line) (known : SoFar) (number : ℕ) → rest ≡ [] → IsSoFar text rest run known number → IsTranscript text run
all_read text rest run known number none s =
    let all : lines text ≡ s.before = s.parted ∙ rw none (append-nil s.before) in
    subst (λ (texts : List Text). Say texts run) (sym all) s.says
