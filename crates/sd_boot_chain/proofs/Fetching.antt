-- A fetch, block after block.
use Rattle.std.proofs.Common.{inl, inr, ◌≡◌, ◌≢◌, ◌≤◌, ℕ, ◌+◌, ◌<◌, Bool, true, false, List, [], ◌∷◌, ◌++◌, length, Option, refl, sym, ◌∙◌, ap, subst, arith, append_assoc, length-append}
use Rattle.sd_outside.specs.declared.packet.Addr.{Addr}
use Rattle.sd_outside.specs.declared.packet.Packet.{Packet}
use Rattle.sd_tftp.specs.declared.step.Step as answers
use Rattle.sd_tftp.specs.declared.step.Step.TheVariants as step
use Rattle.sd_tftp.specs.ReceiverTurn.{Turn}
use Rattle.sd_tftp.specs.Reception.{Reception, fresh, with_block}
use Rattle.sd_link.specs.Steps.{Step, Send, History}
use Rattle.sd_link.specs.Link.{GoesOn, Moves, IsSettledBy}
use Rattle.sd_link.specs.Tries.{beyond, TimedOut, Flooded, Failed, FailsToSend}
use Rattle.sd_link.proofs.Histories.{moves_not, moves_then}
use Rattle.sd_claims.specs.Fetching.{Fetch, Takes, takes_none, takes_block, Brings, request_of, acknowledge, fetch_hearing}
use Rattle.sd_rpc_retry.specs.declared.asking.Asked.{Asked}
use Rattle.sd_rpc_retry.specs.declared.asking.Asked.TheVariants as asked
use Rattle.sd_rpc_retry.specs.Asking.{IsAsked, IsAnswer}
use Rattle.sd_rpc_retry.proofs.Settling.{settled-beyond}
use Rattle.sd_boot_chain.specs.declared.fetch.Progress.{Progress}
use Rattle.sd_boot_chain.specs.declared.fetch.Progress.TheVariants as moves
use Rattle.sd_boot_chain.specs.declared.fetch.Fetched as outcomes
use Rattle.sd_boot_chain.specs.declared.fetch.Fetched.TheVariants as came
use Rattle.sd_boot_chain.specs.Fetch.{shows_progress, CameOf, Finishes}
use Rattle.sd_boot_chain.proofs.Turned.{turned, took_block}

-- so much was taken
abbrev pub HasTaken : Fetch → Reception → History → List Step → Type 0
HasTaken f r old part = Takes (IsSettledBy old) f part r

-- a request of the fetch was asked
abbrev pub AsksNext : Fetch → Reception → Reception → Asked Progress → History → List Step → Type 0
AsksNext f r new what old part = IsAsked (request_of f r) (fetch_hearing f.me r) (shows_progress new) f.tries f.wait what old part

-- in the words of the fetch
pub asks_next : (f : Fetch) (old new : Option History) (request : Packet) (me : Addr) (r s : Reception) (what shown : Asked Progress) → request ≡ request_of f r → me ≡ f.me → what ≡ shown
    → Moves old new (IsAsked request (fetch_hearing me r) (shows_progress s) f.tries f.wait what) → Moves old new (AsksNext f r s shown)
asks_next f old new request me r s what shown is mine same m =
    subst (λ e. Moves old new (AsksNext f r s e)) same
    (subst (λ a. Moves old new (IsAsked (request_of f r) (fetch_hearing a r) (shows_progress s) f.tries f.wait what)) mine
    (subst (λ p. Moves old new (IsAsked p (fetch_hearing me r) (shows_progress s) f.tries f.wait what)) is m))

pub takes_first : (f : Fetch) (r : Reception) (old : Option History) → r ≡ fresh f.server → Moves old old (HasTaken f r)
takes_first f r old is = subst (λ s. Moves old old (HasTaken f s)) (sym is) (moves_not old (HasTaken f (fresh f.server)) (λ h. takes_none))

-- a turn, by what it says and the receiver then
abbrev turned_to : answers.Step → Reception → Turn
turned_to says s = record { says = says; becomes = s }

abbrev took : Addr → ℕ → Bool → Reception → Turn
took to n last s = record { says = step.Took to n last; becomes = s }

-- what came after other steps
brought : (a b : History) (xs ys : List Step) → GoesOn a b xs → (f : Fetch) (r : Reception) (t : Turn) → Brings (IsSettledBy b) f r t ys → Brings (beyond (IsSettledBy a) xs) f r t ys
brought a b xs ys goes f r t h = subst (λ (still : List Step → Type 0). Brings still f r t ys) (settled-beyond a b xs goes) h

module _ (f : Fetch) (old mid new : Option History) (r s : Reception) (first : Moves old mid (HasTaken f r)) where
  pub takes_more : (to : Addr) (n : ℕ) → Moves mid new (AsksNext f r s (asked.Answer (moves.Block to n false))) → Moves old new (HasTaken f s)
  takes_more to n second =
      moves_then old mid new (HasTaken f r) (AsksNext f r s (asked.Answer (moves.Block to n false))) (HasTaken f s)
      (λ a b xs ys goes t k. takes_block xs ys r (took to n false s) t (brought a b xs ys goes f r (took to n false s) k.came) (to, n, refl)) first second

  pub came_timeout : Moves mid new (AsksNext f r s asked.Timeout) → Moves old new (CameOf f came.Timeout)
  came_timeout second =
      moves_then old mid new (HasTaken f r) (AsksNext f r s asked.Timeout) (CameOf f came.Timeout)
      (λ a b xs ys goes t k. record {
        before = xs;
        last = ys;
        taken = r;
        takes = t;
        stopped = subst (λ (still : List Step → Type 0). TimedOut still (request_of f r) (fetch_hearing f.me r) f.tries f.wait ys) (settled-beyond a b xs goes) k.came;
        cut = refl;
      }) first second

  pub came_flood : Moves mid new (AsksNext f r s asked.Flood) → Moves old new (CameOf f came.Flood)
  came_flood second =
      moves_then old mid new (HasTaken f r) (AsksNext f r s asked.Flood) (CameOf f came.Flood)
      (λ a b xs ys goes t k. record {
        before = xs;
        last = ys;
        taken = r;
        takes = t;
        stopped = subst (λ (still : List Step → Type 0). Flooded still (request_of f r) (fetch_hearing f.me r) f.tries f.wait ys) (settled-beyond a b xs goes) k.came;
        cut = refl;
      }) first second

  pub came_fault : Moves mid new (AsksNext f r s asked.Fault) → Moves old new (CameOf f came.Fault)
  came_fault second =
      moves_then old mid new (HasTaken f r) (AsksNext f r s asked.Fault) (CameOf f came.Fault)
      (λ a b xs ys goes t k. record {
        before = xs;
        last = ys;
        taken = r;
        takes = t;
        stopped = inl (subst (λ (still : List Step → Type 0). Failed still (request_of f r) (fetch_hearing f.me r) f.tries f.wait ys) (settled-beyond a b xs goes) k.came);
        cut = refl;
      }) first second

  pub came_refused : (code : ℕ) → Moves mid new (AsksNext f r s (asked.Answer (moves.Refused code))) → Moves old new (CameOf f (came.Refused code))
  came_refused code second =
      moves_then old mid new (HasTaken f r) (AsksNext f r s (asked.Answer (moves.Refused code))) (CameOf f (came.Refused code))
      (λ a b xs ys goes t k. record { before = xs; last = ys; taken = r; takes = t; stopped = (turned_to (step.Refused code) s, brought a b xs ys goes f r (turned_to (step.Refused code) s) k.came, refl); cut = refl }) first second

  pub came_large : (got : ℕ) → Moves mid new (AsksNext f r s (asked.Answer (moves.Over got))) → Moves old new (CameOf f (came.TooLarge got))
  came_large got second =
      moves_then old mid new (HasTaken f r) (AsksNext f r s (asked.Answer (moves.Over got))) (CameOf f (came.TooLarge got))
      (λ a b xs ys goes t k. record { before = xs; last = ys; taken = r; takes = t; stopped = (turned_to (step.Over got) s, brought a b xs ys goes f r (turned_to (step.Over got) s) k.came, refl); cut = refl }) first second

-- the last block came
pub record HasLast (f : Fetch) (s : Reception) (to : Addr) (n : ℕ) (old : History) (part : List Step) : Type 0 where
  pub before : List Step
  pub last : List Step
  pub taken : Reception
  pub takes : Takes (IsSettledBy old) f before taken
  pub brings : Brings (beyond (IsSettledBy old) before) f taken (record { says = step.Took to n true; becomes = s }) last
  pub cut : part ≡ before ++ last

pub has_last : (f : Fetch) (old mid new : Option History) (r s : Reception) (to : Addr) (n : ℕ) → Moves old mid (HasTaken f r) → Moves mid new (AsksNext f r s (asked.Answer (moves.Block to n true))) → Moves old new (HasLast f s to n)
has_last f old mid new r s to n first second =
    moves_then old mid new (HasTaken f r) (AsksNext f r s (asked.Answer (moves.Block to n true))) (HasLast f s to n)
    (λ a b xs ys goes t k. record { before = xs; last = ys; taken = r; takes = t; brings = brought a b xs ys goes f r (took to n true s) k.came; cut = refl }) first second

finishes_is : (f : Fetch) (s : Reception) (to : Addr) (n : ℕ) (request : Packet) → request ≡ acknowledge f.me to n → (what : outcomes.Fetched) (a b : History) (xs ys : List Step) → HasLast f s to n a xs → Finishes request s what b ys → CameOf f what a (xs ++ ys)
finishes_is f s to n request is (came.File bytes) a b xs ys h k = record {
  before = h.before;
  last = h.last;
  taken = h.taken;
  final = record { says = step.Took to n true; becomes = s };
  to = to;
  number = n;
  takes = h.takes;
  brings = h.brings;
  says = refl;
  joined = k.1;
  cut =
      ap (λ (l : List Step). l ++ ys) h.cut
      ∙ ap (λ (l : List Step). (h.before ++ h.last) ++ l) (k.0 ∙ ap (λ (p : Packet). Send p ∷ []) is)
      ∙ append_assoc h.before h.last (Send (acknowledge f.me to n) ∷ []);
}
finishes_is f s to n request is came.Timeout a b xs ys h k = absurd k
finishes_is f s to n request is came.Flood a b xs ys h k = absurd k
finishes_is f s to n request is (came.Refused code) a b xs ys h k = absurd k
finishes_is f s to n request is (came.TooLarge got) a b xs ys h k = absurd k
finishes_is f s to n request is came.Fault a b xs ys h k = record {
  before = h.before;
  last = h.last ++ ys;
  taken = h.taken;
  takes = h.takes;
  stopped = inr (record {
    block = h.last;
    failed = ys;
    final = record { says = step.Took to n true; becomes = s };
    to = to;
    number = n;
    brings = h.brings;
    says = refl;
    fails = subst (λ (p : Packet). FailsToSend p ys) is k;
    cut = refl;
  });
  cut = ap (λ (l : List Step). l ++ ys) h.cut ∙ append_assoc h.before h.last ys;
}

pub came_last : (f : Fetch) (old mid new : Option History) (s : Reception) (to : Addr) (n : ℕ) (request : Packet) (what : outcomes.Fetched) → request ≡ acknowledge f.me to n
    → Moves old mid (HasLast f s to n) → Moves mid new (Finishes request s what) → Moves old new (CameOf f what)
came_last f old mid new s to n request what is first second =
    moves_then old mid new (HasLast f s to n) (Finishes request s what) (CameOf f what)
    (λ a b xs ys goes h k. finishes_is f s to n request is what a b xs ys h k) first second

-- ---- what a block makes of the receiver

pub record Goes (f : Fetch) (r s : Reception) (request : Packet) : Type 0 where
  pub request_is : request ≡ request_of f s
  pub server : s.server ≡ f.server
  pub going : s.ended ≡ false
  pub counted : length s.blocks ≡ length r.blocks + 1
  pub few : length s.blocks < 65535

goes_on : (f : Fetch) (r : Reception) (from to : Addr) (n : ℕ) (body : List ℕ) (s : Reception) (request : Packet)
    → r.server ≡ f.server → s ≡ with_block r from.port body false → to ≡ from → from.ip ≡ r.server → n ≡ length r.blocks + 1 → length r.blocks < 65535 → n ≢ 65535 → request ≡ acknowledge f.me to n → Goes f r s request
goes_on f r from to n body s request server is to_is ip number was more sent =
    let one : length (r.blocks ++ body ∷ []) ≡ length r.blocks + 1 = length-append r.blocks (body ∷ []) in
    let made = with_block r from.port body false in
    let addr : from ≡ record { ip = r.server; port = from.port } = ap (λ (i : ℕ). made_addr i from.port) ip in
    subst (λ (u : Reception). Goes f r u request) (sym is) (record {
      request_is =
          sent
          ∙ ap (λ (a : Addr). acknowledge f.me a n) (to_is ∙ addr)
          ∙ ap (λ (m : ℕ). acknowledge f.me (made_addr r.server from.port) m) (number ∙ sym one);
      server = server;
      going = refl;
      counted = one;
      few = subst (λ (m : ℕ). m < 65535) (number ∙ sym one) (below n (omega (arith, number, was)) more);
    })
  where
    made_addr : ℕ → ℕ → Addr
    made_addr i p = record { ip = i; port = p }

    below : (m : ℕ) → m ≤ 65535 → m ≢ 65535 → m < 65535
    below m le ne = omega (arith, le, ne)

pub block_goes : (f : Fetch) (me : Addr) (r s : Reception) (to : Addr) (n : ℕ) (request : Packet) (what : Asked Progress)
    → me ≡ f.me → r.server ≡ f.server → length r.blocks < 65535 → what ≡ asked.Answer (moves.Block to n false) → IsAnswer (fetch_hearing me r) (shows_progress s) what → request ≡ acknowledge f.me to n → Goes f r s request
block_goes f me r s to n request what mine server few is answer sent =
    let a = subst (λ e. IsAnswer (fetch_hearing me r) (shows_progress s) e) is answer in
    let t = turned me r a.0 (record { says = step.Took to n false; becomes = s }) a.1 in
    let k = took_block me r a.0 to n false s t in
    goes_on f r t.from to n k.body s request server k.new_is k.to_is k.from_ip k.number few (k.next refl) sent
