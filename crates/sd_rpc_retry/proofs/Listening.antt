-- What the client knows while it waits for a packet that matches.
use Rattle.std.proofs.Common.{◌≡◌, inl, inr, ℕ, ◌+◌, ◌<◌, ◌≤◌, List, [], ◌∷◌, ◌++◌, length, Option, Some, None, Result, Ok, Err, refl, sym, ◌∙◌, ap, subst, arith, append_assoc, length-append}
use Rattle.std.proofs.lemmas.List.{append-nil}
use Rattle.std.specs.Prelude.{map}
use Rattle.sd_outside.specs.declared.packet.Packet.{Packet}
use Rattle.sd_link.specs.Steps.{Step, Send, Get, Fail, History}
use Rattle.sd_link.specs.World.{World}
use Rattle.sd_link.specs.Parts.{sends_in, got_in}
use Rattle.sd_link.specs.declared.link.LinkError.{LinkError}
use Rattle.sd_link.specs.declared.link.LinkError.TheVariants.{Failed, NoMemory}
use Rattle.sd_link.specs.Link.{GoesOn, Moves, Receives, Sends}
use Rattle.sd_link.specs.Tries.{Hearing, AreUnmatched, EndsWithPacket, FailsToHear, at_wait, at_reply, flood_limit}
use Rattle.sd_link.proofs.Histories.{sends-append, got-append, moves_then, moves_weaker}
use Rattle.sd_rpc_retry.specs.Lasting.{StaysBefore}
use Rattle.sd_rpc_retry.specs.Asking.{Looks, Hears, IsReplied}
use Rattle.sd_rpc_retry.specs.declared.asking.Look.TheVariants.{Match, Reply, Other}
use Rattle.sd_rpc_retry.specs.declared.asking.Heard.{Heard}
use Rattle.sd_rpc_retry.specs.declared.asking.Heard.TheVariants as heard
use Rattle.sd_rpc_retry.proofs.Getting.{stays_then, at_end, replied-append, replied-nothing, replied-one, unmatched-append, unmatched-nothing}
use Rattle.sd_rpc_retry.proofs.Settling.{settled-then}

-- so many packets were got, and none matched; where there was one, nothing came after it
pub record Quiet {S : Type 0} (h : Hearing S) (until count : ℕ) (old : History) (part : List Step) : Type 0 where
  pub ticks : StaysBefore until old part
  pub replied : IsReplied h part
  pub unmatched : AreUnmatched h.match (got_in part)
  pub counted : length (got_in part) ≡ count
  pub last : 0 < count → EndsWithPacket h.replies part

pub quiet_none : {S : Type 0} (h : Hearing S) (until : ℕ) (old : History) → Quiet h until 0 old []
quiet_none h until old = record { ticks = tt; replied = replied-nothing h [] refl refl; unmatched = tt; counted = refl; last = λ some. absurd (omega (arith, some)) }

-- one packet more was got, and isn't looked at yet
pub record Got {S : Type 0} (h : Hearing S) (until count : ℕ) (packet : Packet) (old : History) (part : List Step) : Type 0 where
  pub before : List Step
  pub id : ℕ
  pub cut : part ≡ before ++ Get id packet ∷ []
  pub ticks : StaysBefore until old part
  pub replied : IsReplied h before
  pub unmatched : AreUnmatched h.match (got_in before)
  pub counted : length (got_in before) ≡ count

-- a send lets no tick pass
pub sent_stays : (until : ℕ) (packet : Packet) (result : Result (Unit {0}) LinkError) (old : History) (part : List Step) → Sends packet result old part → StaysBefore until old part
sent_stays until packet (Ok done) old part is = subst (λ (l : List Step). StaysBefore until old l) (sym is) tt
sent_stays until packet (Err NoMemory) old part is = subst (λ (l : List Step). StaysBefore until old l) (sym is) tt
sent_stays until packet (Err Failed) old part (inl is) = subst (λ (l : List Step). StaysBefore until old l) (sym is) tt
sent_stays until packet (Err Failed) old part (inr is) = subst (λ (l : List Step). StaysBefore until old l) (sym is) tt

silent_front : (xs : List Step) (id : ℕ) (packet : Packet) → sends_in (xs ++ Get id packet ∷ []) ≡ [] → sends_in xs ≡ []
silent_front xs id packet none = sym (append-nil (sends_in xs)) ∙ sym (sends-append xs (Get id packet ∷ [])) ∙ none

front_silent : (xs : List Step) → sends_in (xs ++ Fail ∷ []) ≡ [] → sends_in xs ≡ []
front_silent xs none = sym (append-nil (sends_in xs)) ∙ sym (sends-append xs (Fail ∷ [])) ∙ none

front_nothing : (xs : List Step) → got_in (xs ++ Fail ∷ []) ≡ [] → got_in xs ≡ []
front_nothing xs none = sym (append-nil (got_in xs)) ∙ sym (got-append xs (Fail ∷ [])) ∙ none

module _ {S : Type 0} (h : Hearing S) (until count : ℕ) (a b : History) (xs ys : List Step) (goes : GoesOn a b xs) (q : Quiet h until count a xs) where
  pub got_packet : (packet : Packet) → Receives until (Ok (Some packet)) b ys → Got h until count packet a (xs ++ ys)
  got_packet packet r =
      let front = r.hands.0 in
      let id = r.hands.1 in
      let none : sends_in front ≡ [] = silent_front front id packet (ap sends_in (sym r.hands.2) ∙ r.silent) in
      record {
        before = xs ++ front;
        id = id;
        cut = ap (λ (l : List Step). xs ++ l) r.hands.2 ∙ sym (append_assoc xs front (Get id packet ∷ []));
        ticks = stays_then a b xs ys until goes q.ticks r.ticks;
        replied = replied-append h xs front q.replied (replied-nothing h front none r.hands.3);
        unmatched = unmatched-append h.match xs front q.unmatched (unmatched-nothing h.match front r.hands.3);
        counted = ap length (got-append xs front) ∙ ap (λ (l : List Packet). length (got_in xs ++ l)) r.hands.3 ∙ ap length (append-nil (got_in xs)) ∙ q.counted;
      }

  pub hears_nothing : {T : Type 0} (shows : T → S) → count < flood_limit → Receives until (Ok None) b ys → Hears h shows until heard.Nothing a (xs ++ ys)
  hears_nothing shows few r =
      let all = replied-append h xs ys q.replied (replied-nothing h ys r.silent r.hands.0) in
      let many : length (got_in (xs ++ ys)) ≡ count = ap length (got-append xs ys) ∙ ap (λ (l : List Packet). length (got_in xs ++ l)) r.hands.0 ∙ ap length (append-nil (got_in xs)) ∙ q.counted in
      record {
        ticks = stays_then a b xs ys until goes q.ticks r.ticks;
        found = (
          all,
          unmatched-append h.match xs ys q.unmatched (unmatched-nothing h.match ys r.hands.0),
          subst (λ (w : World). until ≤ w.tick) (at_end a b xs ys goes) r.hands.1,
          omega (arith, few, many),
          settled-then a b xs ys goes r.hands.2,
        );
      }

  -- the waiting failed
  pub hears_failed : {T : Type 0} (shows : T → S) → count < flood_limit → Receives until (Err Failed) b ys → Hears h shows until heard.Fault a (xs ++ ys)
  hears_failed shows few r =
      let front = r.hands.0 in
      let none : got_in front ≡ [] = front_nothing front (ap got_in (sym r.hands.1) ∙ r.hands.2) in
      let silent : sends_in front ≡ [] = front_silent front (ap sends_in (sym r.hands.1) ∙ r.silent) in
      let whole : xs ++ ys ≡ (xs ++ front) ++ Fail ∷ [] = ap (λ (l : List Step). xs ++ l) r.hands.1 ∙ sym (append_assoc xs front (Fail ∷ [])) in
      let many : length (got_in (xs ++ front)) ≡ count = ap length (got-append xs front) ∙ ap (λ (l : List Packet). length (got_in xs ++ l)) none ∙ ap length (append-nil (got_in xs)) ∙ q.counted in
      record {
        ticks = stays_then a b xs ys until goes q.ticks r.ticks;
        found = (
          subst (FailsToHear h) (sym whole) (at_wait (xs ++ front) (replied-append h xs front q.replied (replied-nothing h front silent none)) (omega (arith, few, many))),
          unmatched-append h.match xs ys q.unmatched (unmatched-nothing h.match ys r.hands.2),
        );
      }

  pub fails : (why : LinkError) → Receives until (Err why) b ys → StaysBefore until a (xs ++ ys)
  fails why r = stays_then a b xs ys until goes q.ticks r.ticks

-- ---- what the packet that was got means

one_got : {S : Type 0} (match : Packet → Option S) (id : ℕ) (packet : Packet) (more : List Step) → got_in more ≡ [] → match packet ≡ None → AreUnmatched match (got_in (Get id packet ∷ more))
one_got match id packet more none is = subst (λ (l : List Packet). AreUnmatched match (packet ∷ l)) (sym none) (is, tt)

count_one : (before : List Step) (id : ℕ) (packet : Packet) (more : List Step) (count : ℕ) → got_in more ≡ [] → length (got_in before) ≡ count → length (got_in (before ++ Get id packet ∷ more)) ≡ count + 1
count_one before id packet more count none is =
    ap length (got-append before (Get id packet ∷ more))
    ∙ ap (λ (l : List Packet). length (got_in before ++ packet ∷ l)) none
    ∙ length-append (got_in before) (packet ∷ [])
    ∙ ap (λ (n : ℕ). n + 1) is

unsent_nothing : (packet : Packet) (b : History) (ys : List Step) → Sends packet (Err Failed) b ys → got_in ys ≡ []
unsent_nothing packet b ys (inl is) = ap got_in is
unsent_nothing packet b ys (inr is) = ap got_in is

module _ {S : Type 0} (h : Hearing S) (until count : ℕ) (packet : Packet) (a : History) (xs : List Step) (g : Got h until count packet a xs) where
  -- it is of no interest
  pub quiet_other : h.match packet ≡ None → h.replies packet ≡ [] → Quiet h until (count + 1) a xs
  quiet_other unmatched none =
      let last = Get g.id packet ∷ [] in
      let replied : IsReplied h last = replied-one h g.id packet [] none in
      record {
        ticks = g.ticks;
        replied = subst (IsReplied h) (sym g.cut) (replied-append h g.before last g.replied replied);
        unmatched = subst (λ (l : List Step). AreUnmatched h.match (got_in l)) (sym g.cut) (unmatched-append h.match g.before last g.unmatched (unmatched, tt));
        counted = ap (λ (l : List Step). length (got_in l)) g.cut ∙ count_one g.before g.id packet [] count refl g.counted;
        last = λ some. record { before = g.before; id = g.id; packet = packet; cut = g.cut ∙ ap (λ (l : List Packet). g.before ++ Get g.id packet ∷ map Send l) (sym none) };
      }

  -- something is sent for it
  pub quiet_reply : (b : History) (ys : List Step) (sent : Packet) → GoesOn a b xs → h.match packet ≡ None → h.replies packet ≡ sent ∷ [] → Sends sent (Ok tt) b ys → Quiet h until (count + 1) a (xs ++ ys)
  quiet_reply b ys sent goes unmatched is sends =
      let last = Get g.id packet ∷ Send sent ∷ [] in
      let replied : IsReplied h last = replied-one h g.id packet (sent ∷ []) is in
      let whole : xs ++ ys ≡ g.before ++ last = ap (λ (l : List Step). l ++ ys) g.cut ∙ ap (λ (l : List Step). (g.before ++ Get g.id packet ∷ []) ++ l) sends ∙ append_assoc g.before (Get g.id packet ∷ []) (Send sent ∷ []) in
      record {
        ticks = stays_then a b xs ys until goes g.ticks (sent_stays until sent (Ok tt) b ys sends);
        replied = subst (IsReplied h) (sym whole) (replied-append h g.before last g.replied replied);
        unmatched = subst (λ (l : List Step). AreUnmatched h.match (got_in l)) (sym whole) (unmatched-append h.match g.before last g.unmatched (unmatched, tt));
        counted = ap (λ (l : List Step). length (got_in l)) whole ∙ count_one g.before g.id packet (Send sent ∷ []) count refl g.counted;
        last = λ some. record { before = g.before; id = g.id; packet = packet; cut = whole ∙ ap (λ (l : List Packet). g.before ++ Get g.id packet ∷ map Send l) (sym is) };
      }

  -- something is sent for it, and that failed
  pub hears_unsent : {T : Type 0} (shows : T → S) (b : History) (ys : List Step) (sent : Packet) → count < flood_limit → GoesOn a b xs → h.match packet ≡ None → h.replies packet ≡ sent ∷ [] → Sends sent (Err Failed) b ys
      → Hears h shows until heard.Fault a (xs ++ ys)
  hears_unsent shows b ys sent few goes unmatched is sends =
      let none = unsent_nothing sent b ys sends in
      let whole : xs ++ ys ≡ g.before ++ Get g.id packet ∷ ys = ap (λ (l : List Step). l ++ ys) g.cut ∙ append_assoc g.before (Get g.id packet ∷ []) ys in
      record {
        ticks = stays_then a b xs ys until goes g.ticks (sent_stays until sent (Err Failed) b ys sends);
        found = (
          subst (FailsToHear h) (sym whole) (at_reply g.before g.id packet sent ys g.replied (omega (arith, few, g.counted)) is sends),
          subst (λ (l : List Step). AreUnmatched h.match (got_in l)) (sym whole) (unmatched-append h.match g.before (Get g.id packet ∷ ys) g.unmatched (one_got h.match g.id packet ys none unmatched)),
        );
      }

  -- it is the answer
  pub hears_found : {T : Type 0} (shows : T → S) (x : T) → count < flood_limit → h.match packet ≡ Some (shows x) → h.replies packet ≡ [] → Hears h shows until (heard.Found x) a xs
  hears_found shows x few is none =
      let last = Get g.id packet ∷ [] in
      let replied : IsReplied h last = replied-one h g.id packet [] none in
      let many : length (got_in xs) ≡ count + 1 = ap (λ (l : List Step). length (got_in l)) g.cut ∙ count_one g.before g.id packet [] count refl g.counted in
      record {
        ticks = g.ticks;
        found = (
          subst (IsReplied h) (sym g.cut) (replied-append h g.before last g.replied replied),
          record { before = g.before; id = g.id; packet = packet; cut = g.cut; matched = is; unmatched = g.unmatched },
          omega (arith, many),
        );
      }

pub hears_flood : {S T : Type 0} (h : Hearing S) (shows : T → S) (until : ℕ) (old : History) (part : List Step) → Quiet h until flood_limit old part → Hears h shows until heard.Flood old part
hears_flood h shows until old part q = record { ticks = q.ticks; found = (q.replied, q.unmatched, q.counted, q.last (omega arith)) }

-- ---- what a link tells

module _ {S : Type 0} (h : Hearing S) (until count : ℕ) (old mid new : Option History) where
  pub moves_got : (packet : Packet) → Moves old mid (Quiet h until count) → Moves mid new (Receives until (Ok (Some packet))) → Moves old new (Got h until count packet)
  moves_got packet first second =
      moves_then old mid new (Quiet h until count) (Receives until (Ok (Some packet))) (Got h until count packet)
      (λ a b xs ys goes q r. got_packet h until count a b xs ys goes q packet r) first second

  pub moves_nothing : {T : Type 0} (shows : T → S) → count < flood_limit → Moves old mid (Quiet h until count) → Moves mid new (Receives until (Ok None)) → Moves old new (Hears h shows until heard.Nothing)
  moves_nothing shows few first second =
      moves_then old mid new (Quiet h until count) (Receives until (Ok None)) (Hears h shows until heard.Nothing)
      (λ a b xs ys goes q r. hears_nothing h until count a b xs ys goes q shows few r) first second

  pub moves_failed : (why : LinkError) → Moves old mid (Quiet h until count) → Moves mid new (Receives until (Err why)) → Moves old new (StaysBefore until)
  moves_failed why first second =
      moves_then old mid new (Quiet h until count) (Receives until (Err why)) (StaysBefore until)
      (λ a b xs ys goes q r. fails h until count a b xs ys goes q why r) first second

  pub moves_fault : {T : Type 0} (shows : T → S) (why : LinkError) → count < flood_limit → why ≡ Failed → Moves old mid (Quiet h until count) → Moves mid new (Receives until (Err why)) → Moves old new (Hears h shows until heard.Fault)
  moves_fault shows why few is first second =
      moves_then old mid new (Quiet h until count) (Receives until (Err Failed)) (Hears h shows until heard.Fault)
      (λ a b xs ys goes q r. hears_failed h until count a b xs ys goes q shows few r) first (subst (λ (e : LinkError). Moves mid new (Receives until (Err e))) is second)

  -- a packet was looked at
  pub moves_unsent_fault : {T : Type 0} (shows : T → S) (packet sent : Packet) (why : LinkError) → count < flood_limit → why ≡ Failed → Looks h shows packet (Reply sent) → Moves old mid (Got h until count packet) → Moves mid new (Sends sent (Err why))
      → Moves old new (Hears h shows until heard.Fault)
  moves_unsent_fault shows packet sent why few is looks first second =
      moves_then old mid new (Got h until count packet) (Sends sent (Err Failed)) (Hears h shows until heard.Fault)
      (λ a b xs ys goes g s. hears_unsent h until count packet a xs g shows b ys sent few goes looks.0 looks.1 s) first (subst (λ (e : LinkError). Moves mid new (Sends sent (Err e))) is second)

  pub moves_reply : {T : Type 0} (shows : T → S) (packet sent : Packet) → Looks h shows packet (Reply sent) → Moves old mid (Got h until count packet) → Moves mid new (Sends sent (Ok tt)) → Moves old new (Quiet h until (count + 1))
  moves_reply shows packet sent looks first second =
      moves_then old mid new (Got h until count packet) (Sends sent (Ok tt)) (Quiet h until (count + 1))
      (λ a b xs ys goes g s. quiet_reply h until count packet a xs g b ys sent goes looks.0 looks.1 s) first second

  pub moves_unsent : (packet sent : Packet) (why : LinkError) → Moves old mid (Got h until count packet) → Moves mid new (Sends sent (Err why)) → Moves old new (StaysBefore until)
  moves_unsent packet sent why first second =
      moves_then old mid new (Got h until count packet) (Sends sent (Err why)) (StaysBefore until)
      (λ a b xs ys goes g s. stays_then a b xs ys until goes g.ticks (sent_stays until sent (Err why) b ys s)) first second

module _ {S T : Type 0} (h : Hearing S) (shows : T → S) (until : ℕ) (old new : Option History) where
  pub moves_other : (count : ℕ) (packet : Packet) → Looks h shows packet Other → Moves old new (Got h until count packet) → Moves old new (Quiet h until (count + 1))
  moves_other count packet looks m = moves_weaker old new (Got h until count packet) (Quiet h until (count + 1)) (λ a xs g. quiet_other h until count packet a xs g looks.0 looks.1) m

  pub moves_found : (count : ℕ) (packet : Packet) (x : T) → count < flood_limit → Looks h shows packet (Match x) → Moves old new (Got h until count packet) → Moves old new (Hears h shows until (heard.Found x))
  moves_found count packet x few looks m =
      moves_weaker old new (Got h until count packet) (Hears h shows until (heard.Found x)) (λ a xs g. hears_found h until count packet a xs g shows x few looks.0 looks.1) m

  pub moves_flood : Moves old new (Quiet h until flood_limit) → Moves old new (Hears h shows until heard.Flood)
  moves_flood m = moves_weaker old new (Quiet h until flood_limit) (Hears h shows until heard.Flood) (λ a xs q. hears_flood h shows until a xs q) m

  pub moves_stays : (what : Heard T) → Moves old new (Hears h shows until what) → Moves old new (StaysBefore until)
  moves_stays what m = moves_weaker old new (Hears h shows until what) (StaysBefore until) (λ a xs e. e.ticks) m
