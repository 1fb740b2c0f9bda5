-- Tries in vain, and the one that ends them.
use Rattle.std.proofs.Common.{◌≡◌, ℕ, ◌+◌, ◌<◌, List, [], ◌∷◌, ◌++◌, length, Option, refl, sym, ◌∙◌, ap, subst, arith, append_assoc, length-append}
use Rattle.std.specs.List.{flat_map}
use Rattle.std.proofs.lemmas.Grind.{flat_map-append}
use Rattle.std.proofs.lemmas.List.{append-nil}
use Rattle.sd_outside.specs.declared.packet.Packet.{Packet}
use Rattle.sd_link.specs.Steps.{Step, Send, History}
use Rattle.sd_link.specs.Parts.{sends_in, got_in, ticks_in}
use Rattle.sd_link.specs.Link.{GoesOn, Moves, NothingWaits, IsSettledBy}
use Rattle.sd_link.specs.Tries.{Hearing, AreUnmatched, RepliesAtOnce, EndsMatched, flood_limit, IsTries, AllSettle, AreInVain, Asks}
use Rattle.sd_rpc_retry.specs.declared.asking.Heard.{Heard}
use Rattle.sd_rpc_retry.specs.declared.asking.Heard.TheVariants.{Found, Nothing, Flood, Fault}
use Rattle.sd_rpc_retry.specs.declared.asking.Asked.TheVariants as asked
use Rattle.sd_rpc_retry.specs.Asking.{Tried, IsTry, IsReplied, IsSilent, SendsIn, IsAsked}
use Rattle.sd_rpc_retry.proofs.Getting.{all-push, unmatched-append, matched-later, sends_nothing}
use Rattle.sd_rpc_retry.proofs.Settling.{settled-none, settled-then, sends-try}

-- so many tries were made, all in vain
pub record Vain {S : Type 0} (request : Packet) (h : Hearing S) (wait count : ℕ) (old : History) (part : List Step) : Type 0 where
  pub rests : List (List Step)
  pub is : IsTries request h.replies rests part
  pub counted : length rests ≡ count
  pub vain : AreInVain (IsSettledBy old) request wait rests
  pub unmatched : AreUnmatched h.match (got_in part)
  pub patient : IsSilent h → NothingWaits old → SendsIn old part × IsSettledBy old part

pub vain_none : {S : Type 0} (request : Packet) (h : Hearing S) (wait : ℕ) (old : History) → Vain request h wait 0 old []
vain_none request h wait old = record { rests = []; is = record { cut = refl; replied = tt }; counted = refl; vain = record { waited = tt; calm = tt; settles = tt }; unmatched = tt; patient = λ silent settled. (tt, settled-none old settled) }

-- one try more
tries-push : (request : Packet) (replies : Packet → List Packet) (rests : List (List Step)) (xs rest ys : List Step) → IsTries request replies rests xs → ys ≡ Send request ∷ rest → RepliesAtOnce replies rest
    → IsTries request replies (rests ++ rest ∷ []) (xs ++ ys)
tries-push request replies rests xs rest ys is cut replied = record {
  cut =
      ap (λ (l : List Step). l ++ ys) is.cut
      ∙ ap (λ (l : List Step). flat_map (λ r. Send request ∷ r) rests ++ l) (cut ∙ sym (append-nil (Send request ∷ rest)))
      ∙ sym (flat_map-append (λ r. Send request ∷ r) rests (rest ∷ []));
  replied = all-push (RepliesAtOnce replies) rests rest is.replied replied;
}

-- one try more that ends where nothing waits
settles-push : (settled : List Step → Type 0) (request : Packet) (rests : List (List Step)) (rest : List Step) → AllSettle settled request rests → settled (flat_map (λ r. Send request ∷ r) rests ++ (Send request ∷ rest))
    → AllSettle settled request (rests ++ rest ∷ [])
settles-push settled request [] rest all one = (one, tt)
settles-push settled request (r ∷ rests) rest all one = (all.0, settles-push (λ steps. settled ((Send request ∷ r) ++ steps)) request rests rest all.1 (subst settled (append_assoc (Send request ∷ r) (flat_map (λ r. Send request ∷ r) rests) (Send request ∷ rest)) one))

unmatched_try : {S : Type 0} (h : Hearing S) (request : Packet) (xs rest ys : List Step) → ys ≡ Send request ∷ rest → AreUnmatched h.match (got_in xs) → AreUnmatched h.match (got_in rest) → AreUnmatched h.match (got_in (xs ++ ys))
unmatched_try h request xs rest ys cut first second = unmatched-append h.match xs ys first (subst (λ (l : List Step). AreUnmatched h.match (got_in l)) (sym cut) second)

count-push : {A : Type 0} (xs : List A) (x : A) (n : ℕ) → length xs ≡ n → length (xs ++ x ∷ []) ≡ n + 1
count-push xs x n is = length-append xs (x ∷ []) ∙ ap (λ (k : ℕ). k + 1) is

module _ {S T : Type 0} (request : Packet) (h : Hearing S) (shows : T → S) (wait count : ℕ) (a b : History) (xs ys : List Step) (goes : GoesOn a b xs) (v : Vain request h wait count a xs) where
  -- where nothing waited at first, the next try begins where nothing waits
  sends_more : (rest : List Step) → ys ≡ Send request ∷ rest → IsReplied h rest → IsSilent h → NothingWaits a → SendsIn a (xs ++ ys)
  sends_more rest cut replied silent was = let p = v.patient silent was in sends-try request a xs rest ys cut (sends_nothing h rest silent replied) p.0 p.1

  pub vain_more : Tried request h shows wait Nothing b ys → Vain request h wait (count + 1) a (xs ++ ys)
  vain_more (t, settled) = record {
    rests = v.rests ++ t.rest ∷ [];
    is = tries-push request h.replies v.rests xs t.rest ys v.is t.cut t.replied;
    counted = count-push v.rests t.rest count v.counted;
    vain = record {
      waited = all-push (λ rest. ticks_in rest ≡ wait) v.rests t.rest v.vain.waited t.ending.waited;
      calm = all-push (λ rest. length (got_in rest) < flood_limit) v.rests t.rest v.vain.calm t.ending.calm;
      settles =
          settles-push (IsSettledBy a) request v.rests t.rest v.vain.settles
          (subst (λ (l : List Step). IsSettledBy a (flat_map (λ r. Send request ∷ r) v.rests ++ l)) t.cut (subst (λ (l : List Step). IsSettledBy a (l ++ ys)) v.is.cut (settled-then a b xs ys goes settled)));
    };
    unmatched = unmatched_try h request xs t.rest ys t.cut v.unmatched t.ending.unmatched;
    patient = λ silent was. (sends_more t.rest t.cut t.replied silent was, settled-then a b xs ys goes settled);
  }

  -- the try that ends them
  ends : (tries : ℕ) (E : List Step → Type 0) → count < tries → IsTry request h wait E ys → Asks (IsSettledBy a) request h.replies tries wait (xs ++ ys)
  ends tries E lt t = record {
    before = v.rests;
    last = t.rest;
    is = tries-push request h.replies v.rests xs t.rest ys v.is t.cut t.replied;
    few = omega (arith, v.counted);
    vain = v.vain;
    short = t.short;
    most = t.most;
  }

  pub answered : (tries : ℕ) (x : T) → count < tries → Tried request h shows wait (Found x) b ys → IsAsked request h shows tries wait (asked.Answer x) a (xs ++ ys)
  answered tries x lt t = record {
    came = record {
      asks = ends tries (EndsMatched h.match (shows x)) lt t;
      ends =
          matched-later h.match (shows x) xs ys v.unmatched
          (subst (EndsMatched h.match (shows x)) (sym t.cut) (matched-later h.match (shows x) (Send request ∷ []) t.rest tt t.ending));
    };
    ended = λ silent was. sends_more t.rest t.cut t.replied silent was;
  }

  pub flooded : (tries : ℕ) → count < tries → Tried request h shows wait Flood b ys → IsAsked request h shows tries wait asked.Flood a (xs ++ ys)
  unfolding ends
  flooded tries lt t = record {
    came = record {
      asks = ends tries _ lt t;
      many = t.ending.many;
      ends = t.ending.ends;
      unmatched = unmatched_try h request xs t.rest ys t.cut v.unmatched t.ending.unmatched;
    };
    ended = λ silent was. sends_more t.rest t.cut t.replied silent was;
  }

  -- the network failed in it
  pub failed : (tries : ℕ) → count < tries → Tried request h shows wait Fault b ys → IsAsked request h shows tries wait asked.Fault a (xs ++ ys)
  failed tries lt t = record {
    came = record {
      rests = v.rests;
      before = xs;
      last = ys;
      is = v.is;
      few = omega (arith, v.counted);
      vain = v.vain;
      fails = t.failed;
      short = t.short;
      unmatched = unmatched-append h.match xs ys v.unmatched t.unmatched;
      cut = refl;
    };
    ended = λ silent was. tt;
  }

pub timed_out : {S T : Type 0} (request : Packet) (h : Hearing S) (shows : T → S) (wait tries : ℕ) (old : History) (part : List Step) → Vain request h wait tries old part → IsAsked request h shows tries wait asked.Timeout old part
timed_out request h shows wait tries old part v = record { came = record { rests = v.rests; is = v.is; all = v.counted; vain = v.vain; unmatched = v.unmatched }; ended = v.patient }

-- what a try was is read off by an equation
pub heard_is : {S T : Type 0} (mid new : Option History) (request : Packet) (h : Hearing S) (shows : T → S) (wait : ℕ) (heard shown : Heard T) → heard ≡ shown → Moves mid new (Tried request h shows wait heard) → Moves mid new (Tried request h shows wait shown)
heard_is mid new request h shows wait heard shown is m = subst (λ e. Moves mid new (Tried request h shows wait e)) is m
