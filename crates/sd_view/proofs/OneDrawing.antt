-- What a view makes of a run is one thing.
use Rattle.std.proofs.Common.{◌≡◌, ℕ, ◌+◌, List, [], ◌∷◌, sym, ap, subst, ◌∙◌, inl, inr}
use Rattle.std.proofs.lemmas.Bool.{false≢true}
use Rattle.sd_outside.specs.declared.packet.Packet.{Packet}
use Rattle.sd_outside.specs.declared.packet.Packet.TheVariants.{Frame, Udp}
use Rattle.sd_rpc_msg.specs.declared.message.Message.{Message}
use Rattle.sd_text.specs.Texts.{Text}
use Rattle.sd_show.specs.declared.calls.Heard.{Heard}
use Rattle.sd_show.specs.Calls.{heard}
use Rattle.sd_show.specs.Shown.{Hears}
use Rattle.sd_show.proofs.OneShown.{one_text, never_both, one_message}
use Rattle.sd_view.specs.declared.journeys.Journey.{Journey}
use Rattle.sd_view.specs.declared.lines.Line.{Line}
use Rattle.sd_view.specs.declared.lines.Line.TheVariants.{Sent, Came, Failed, Answer}
use Rattle.sd_view.specs.declared.views.View.{View}
use Rattle.sd_view.specs.declared.views.View.TheVariants.{Ladder, Pcap, Svg}
use Rattle.sd_view.specs.Journeys.{Says, IsJourney, JourneysFrom}
use Rattle.sd_view.specs.Ladder.{ladder}
use Rattle.sd_view.specs.Picture.{picture}
use Rattle.sd_view.specs.Views.{IsDrawing}

-- the calls behind a packet
hears_one : (seen : List Heard) (packet : Packet) (a b : List Heard) → Hears seen packet a → Hears seen packet b → a ≡ b
hears_one seen (Frame bytes) a b x y = x ∙ sym y
hears_one seen (Udp src dst body) a b (inl x) (inl y) = x.1 ∙ sym y.1
hears_one seen (Udp src dst body) a b (inl x) (inr y) = absurd (false≢true (sym y.0 ∙ x.0))
hears_one seen (Udp src dst body) a b (inr x) (inl y) = absurd (false≢true (sym x.0 ∙ y.0))
hears_one seen (Udp src dst body) a b (inr x) (inr y) =
    x.1.2 ∙ ap (λ (m : Message). heard seen src dst m) (one_message body x.1.0 y.1.0 x.1.1 y.1.1) ∙ sym y.1.2

says_one : (seen : List Heard) (packet : Packet) (s t : Text) (a b : List Heard) → Says seen packet s a → Says seen packet t b → (s ≡ t) × (a ≡ b)
says_one seen packet s t a b (inl x) (inl y) = (one_text seen packet s t x.0 y.0, hears_one seen packet a b x.1 y.1)
says_one seen packet s t a b (inl x) (inr y) = absurd (never_both seen packet s y.0 x.0 y.1)
says_one seen packet s t a b (inr x) (inl y) = absurd (never_both seen packet t x.0 y.0 x.1)
says_one seen packet s t a b (inr x) (inr y) = (x.2 ∙ sym y.2, x.3 ∙ sym y.3)

journey_one : (run : List Line) (seen : List Heard) (place id : ℕ) (packet : Packet) (j k : Journey) (a b : List Heard) → IsJourney run seen place id packet j a → IsJourney run seen place id packet k b → (j ≡ k) × (a ≡ b)
journey_one run seen place id packet j k a b x y =
    let same = says_one seen packet x.said y.said a b x.says y.says in
    (x.means ∙ rw (same.0) (sym y.means), same.1)

journeys_one : (run : List Line) (seen : List Heard) (place : ℕ) (lines : List Line) (js ks : List Journey) → JourneysFrom run seen place lines js → JourneysFrom run seen place lines ks → js ≡ ks
journeys_one run seen place [] js ks x y = x ∙ sym y
journeys_one run seen place (Sent tick id packet ∷ lines) js ks x y =
    let same = journey_one run seen place id packet x.0 y.0 x.1 y.1 x.4 y.4 in
    let rest = journeys_one run y.1 (place + 1) lines x.2 y.2 (subst (λ (seen : List Heard). JourneysFrom run seen (place + 1) lines x.2) same.1 x.5) y.5 in
    x.3 ∙ (λ i. same.0 i ∷ rest i) ∙ sym y.3
journeys_one run seen place (Came how tick id ∷ lines) js ks x y = journeys_one run seen (place + 1) lines js ks x y
journeys_one run seen place (Failed tick ∷ lines) js ks x y = journeys_one run seen (place + 1) lines js ks x y
journeys_one run seen place (Answer answer ∷ lines) js ks x y = journeys_one run seen (place + 1) lines js ks x y

pub one_drawing : (view : View) (run : List Line) (a b : Text) → IsDrawing view run a → IsDrawing view run b → a ≡ b
one_drawing Ladder run a b x y = x.2 ∙ ap (λ (js : List Journey). ladder js run) (journeys_one run [] 0 run x.0 y.0 x.1 y.1) ∙ sym y.2
one_drawing Pcap run a b x y = x ∙ sym y
one_drawing Svg run a b x y = x.2 ∙ ap (λ (js : List Journey). picture js run) (journeys_one run [] 0 run x.0 y.0 x.1 y.1) ∙ sym y.2
