-- What a clause reads of a hall and of its seats.
use Rattle.std.specs.Prelude.{◌≡◌, ℕ, List, [], ◌∷◌, ◌++◌, Option}
use Rattle.sd_turnstile.specs.History.{StartsWith, calls_by}
use Rattle.sd_turnstile.specs.Seats as seats
use Rattle.sd_outside.specs.declared.disk.Disk.{Ghosts}
use Rattle.sd_server.specs.Standing.{ServerView}
use Rattle.sd_server.specs.declared.replies.Replies.{Replies}
use Rattle.sd_workers.specs.declared.account.Entry.{Entry}
use Rattle.sd_workers.specs.declared.account.Event.{Event}
use Rattle.sd_workers.specs.declared.hall.Hall.{Hall}
use Rattle.sd_workers.specs.declared.hall.HallSeat.{HallSeat}
use Rattle.sd_workers.specs.Legal.{Leads}

module _ {D : Type 0} where
  -- the server as it was when the hall was opened
  abbrev pub opened_with : Hall D → ServerView D
  opened_with hall = (seats.opening_of hall.turnstile).server

  -- how many seats there may be
  abbrev pub seats_of : Hall D → ℕ
  seats_of hall = seats.seats_of hall.turnstile

  -- the same hall
  abbrev pub IsSameHall : Hall D → Hall D → Type 0
  IsSameHall h k = (k.turnstile ≡ h.turnstile) × (k.still ≡ h.still)

module _ {D : Type 0} {G : Ghosts D} where
  abbrev pub number_of : HallSeat D G → ℕ
  number_of s = seats.number_of s.seat

  abbrev pub parts_of : HallSeat D G → ℕ
  parts_of s = seats.parts_of s.seat

  -- the beginning of the history that the seat has seen
  abbrev pub seen_by : HallSeat D G → List Entry
  seen_by s = seats.seen_by s.seat

  -- the seat's own entries
  abbrev pub own_of : HallSeat D G → List Entry
  own_of s = seats.own_of s.seat

  abbrev pub IsSeatOf : Hall D → HallSeat D G → Type 0
  IsSeatOf hall s = seats.IsSeatOf hall.turnstile s.seat

  -- the same seat of the same hall
  abbrev pub IsSameSeat : HallSeat D G → HallSeat D G → Type 0
  IsSameSeat s t = seats.IsSameSeat s.seat t.seat

  -- The seat has made one call more. It has seen a history that begins with all that it had seen and ends with this call, and the call is the last of its own.
  pub record MadeOneCall (old new : HallSeat D G) (now : ℕ) (event : Event) (replies : Replies) : Type 0 where
    pub before : List Entry
    pub last : Entry
    pub begins : StartsWith before (seen_by old)
    pub seen : seen_by new ≡ before ++ last ∷ []
    pub own : own_of new ≡ own_of old ++ last ∷ []
    pub by : last.by ≡ number_of old
    pub tick : last.now ≡ now
    pub event_is : last.event ≡ event
    pub replies_are : last.replies ≡ replies

  -- The seat has seen more of the history, and has made no call.
  abbrev pub MadeNoCall : HallSeat D G → HallSeat D G → Type 0
  MadeNoCall old new = StartsWith (seen_by new) (seen_by old) × (own_of new ≡ own_of old)

  -- What the seat has seen is one legal history from the opening to this server. Of its own calls it has just those that it made, each once.
  pub record HasSeenTo (seen : D → Option (List ℕ)) (may_leave : D → List ℕ → Type 0) (faults : D → ℕ) (hall : Hall D) (s : HallSeat D G) (server : ServerView D) : Type 0 where
    pub legal : Leads seen may_leave faults (opened_with hall) (seen_by s) server
    pub mine : calls_by (λ e. e.by) (number_of s) (seen_by s) ≡ own_of s

  -- it is one to some server
  abbrev pub HasSeen : (D → Option (List ℕ)) → (D → List ℕ → Type 0) → (D → ℕ) → Hall D → HallSeat D G → Type 0
  HasSeen seen may_leave faults hall s = (server : ServerView D) × HasSeenTo seen may_leave faults hall s server
