-- What is too short for a message of RPC.
use Rattle.std.proofs.Common.{◌≡◌, ◌<◌, ℕ, List, [], ◌∷◌, length, None, refl, arith}
use Rattle.sd_xdr.specs.Reading.{reading, word_reading}
use Rattle.sd_services.specs.RpcCalls.{Program, reply_to}

-- A datagram of fewer than eight bytes has no message type.
pub short_silent : (p : Program) (body : List ℕ) → length body < 8 → reply_to p body ≡ None
unfolding reading word_reading
short_silent p [] h = refl
short_silent p (a ∷ []) h = refl
short_silent p (a ∷ b ∷ []) h = refl
short_silent p (a ∷ b ∷ c ∷ []) h = refl
short_silent p (a ∷ b ∷ c ∷ d ∷ []) h = refl
short_silent p (a ∷ b ∷ c ∷ d ∷ e ∷ []) h = refl
short_silent p (a ∷ b ∷ c ∷ d ∷ e ∷ f ∷ []) h = refl
short_silent p (a ∷ b ∷ c ∷ d ∷ e ∷ f ∷ g ∷ []) h = refl
short_silent p (a ∷ b ∷ c ∷ d ∷ e ∷ f ∷ g ∷ i ∷ rest) h = absurd (omega (arith, h))
