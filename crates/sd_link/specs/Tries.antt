-- A request that is sent again and again until its answer comes.
use Rattle.std.specs.Prelude.{◌≡◌, ◌⊎◌, ℕ, ◌<◌, ◌≤◌, List, [], ◌∷◌, ◌++◌, length, map, Option, Some, None}
use Rattle.std.specs.List.{flat_map, AllByRecursion}
use Rattle.sd_outside.specs.declared.packet.Packet.{Packet}
use Rattle.sd_link.specs.Steps.{Step, Send, Get, Fail}
use Rattle.sd_link.specs.Parts.{sends_in, got_in, ticks_in}

-- What a client makes of a packet while it waits for an answer: whether it matches, and what it sends for it at once.
pub record Hearing (A : Type 0) : Type 0 where
  pub match : Packet → Option A
  pub replies : Packet → List Packet

-- so many packets without a match end a try
abbrev pub flood_limit : ℕ
flood_limit = 4096

-- none of these packets matches
abbrev pub AreUnmatched : {A : Type 0} → (Packet → Option A) → List Packet → Type 0
AreUnmatched match packets = AllByRecursion (λ packet. match packet ≡ None) packets

-- these steps, with what is sent for each packet right behind its getting
abbrev pub with_replies : (Packet → List Packet) → List Step → List Step
with_replies replies [] = []
with_replies replies (Get id packet ∷ steps) = Get id packet ∷ (map Send (replies packet) ++ with_replies replies steps)
with_replies replies (step ∷ steps) = step ∷ with_replies replies steps

-- For each packet that it gets in these steps the client sends at once what it sends for it, and nothing else.
pub record RepliesAtOnce (replies : Packet → List Packet) (steps : List Step) : Type 0 where
  pub others : List Step
  pub silent : sends_in others ≡ []
  pub steps_are : steps ≡ with_replies replies others

-- The part is tries of this request, one after another: each is a send, and then steps in which the client sends only what it
-- sends for the packets that it gets.
pub record IsTries (request : Packet) (replies : Packet → List Packet) (rests : List (List Step)) (part : List Step) : Type 0 where
  pub cut : part ≡ flat_map (λ rest. Send request ∷ rest) rests
  pub replied : AllByRecursion (RepliesAtOnce replies) rests

-- ---- what is still on its way

-- Below, `settled` tells of the first steps of a part whether nothing that is due still waits for the client after them.

-- what `settled` tells of the steps behind this part
abbrev pub beyond : (List Step → Type 0) → List Step → List Step → Type 0
beyond settled part steps = settled (part ++ steps)

-- each of these tries ends where nothing that is due still waits: a packet that comes at the last tick of a try belongs to it
abbrev pub AllSettle : (List Step → Type 0) → Packet → List (List Step) → Type 0
AllSettle settled request [] = Unit {0}
AllSettle settled request (rest ∷ rests) = settled (Send request ∷ rest) × AllSettle (beyond settled (Send request ∷ rest)) request rests

-- these tries waited so many ticks each, each got fewer packets than a flood, and each ended where nothing still waited
pub record AreInVain (settled : List Step → Type 0) (request : Packet) (wait : ℕ) (rests : List (List Step)) : Type 0 where
  pub waited : AllByRecursion (λ rest. ticks_in rest ≡ wait) rests
  pub calm : AllByRecursion (λ rest. length (got_in rest) < flood_limit) rests
  pub settles : AllSettle settled request rests

-- The client asks nothing but this, at most so often. All tries but the last were in vain, and the last waits no longer
-- and gets no more packets than a flood.
pub record Asks (settled : List Step → Type 0) (request : Packet) (replies : Packet → List Packet) (tries wait : ℕ) (part : List Step) : Type 0 where
  pub before : List (List Step)
  pub last : List Step
  pub is : IsTries request replies (before ++ last ∷ []) part
  pub few : length before < tries
  pub vain : AreInVain settled request wait before
  pub short : ticks_in last ≤ wait
  pub most : length (got_in last) ≤ flood_limit

-- the last step gets the first packet that matches, and it gives this
pub record EndsMatched {A : Type 0} (match : Packet → Option A) (x : A) (part : List Step) : Type 0 where
  pub before : List Step
  pub id : ℕ
  pub packet : Packet
  pub cut : part ≡ before ++ Get id packet ∷ []
  pub matched : match packet ≡ Some x
  pub unmatched : AreUnmatched match (got_in before)

-- the first packet that matches gives this
pub record Answered {A : Type 0} (settled : List Step → Type 0) (request : Packet) (hearing : Hearing A) (tries wait : ℕ) (x : A) (part : List Step) : Type 0 where
  pub asks : Asks settled request hearing.replies tries wait part
  pub ends : EndsMatched hearing.match x part

-- the last thing that happened is that a packet was got, and what the client sends for it was sent
pub record EndsWithPacket (replies : Packet → List Packet) (part : List Step) : Type 0 where
  pub before : List Step
  pub id : ℕ
  pub packet : Packet
  pub cut : part ≡ before ++ Get id packet ∷ map Send (replies packet)

-- the last try ended with the last packet of a flood, and nothing that was got matched
pub record Flooded {A : Type 0} (settled : List Step → Type 0) (request : Packet) (hearing : Hearing A) (tries wait : ℕ) (part : List Step) : Type 0 where
  pub asks : Asks settled request hearing.replies tries wait part
  pub many : length (got_in asks.last) ≡ flood_limit
  pub ends : EndsWithPacket hearing.replies asks.last
  pub unmatched : AreUnmatched hearing.match (got_in part)

-- all tries were made, all in vain, and nothing that was got matched
pub record TimedOut {A : Type 0} (settled : List Step → Type 0) (request : Packet) (hearing : Hearing A) (tries wait : ℕ) (part : List Step) : Type 0 where
  pub rests : List (List Step)
  pub is : IsTries request hearing.replies rests part
  pub all : length rests ≡ tries
  pub vain : AreInVain settled request wait rests
  pub unmatched : AreUnmatched hearing.match (got_in part)

-- ---- a failure of the network

-- this packet couldn't be sent: the call failed after it went out, or without it
abbrev pub FailsToSend : Packet → List Step → Type 0
FailsToSend packet part = (part ≡ Fail ∷ []) ⊎ (part ≡ Send packet ∷ Fail ∷ [])

-- The network failed while the client waited for packets, or at what it sends for one, before a flood was got. The failure is the last step.
pub data FailsToHear {A : Type 0} (hearing : Hearing A) : List Step → Type 0 where
  at_wait : (rest : List Step) → RepliesAtOnce hearing.replies rest → length (got_in rest) < flood_limit → FailsToHear hearing (rest ++ Fail ∷ [])
  at_reply : (rest : List Step) (id : ℕ) (packet reply : Packet) (failed : List Step) → RepliesAtOnce hearing.replies rest → length (got_in rest) < flood_limit → hearing.replies packet ≡ reply ∷ [] → FailsToSend reply failed
      → FailsToHear hearing (rest ++ Get id packet ∷ failed)

-- The network failed in one try: at the request, or behind it.
pub data FailsToAsk {A : Type 0} (request : Packet) (hearing : Hearing A) : List Step → Type 0 where
  at_request : (failed : List Step) → FailsToSend request failed → FailsToAsk request hearing failed
  behind_request : (rest : List Step) → FailsToHear hearing rest → FailsToAsk request hearing (Send request ∷ rest)

-- The network failed in the last try, which waits no longer than the others. Those before it were in vain, and nothing that was got
-- matched.
pub record Failed {A : Type 0} (settled : List Step → Type 0) (request : Packet) (hearing : Hearing A) (tries wait : ℕ) (part : List Step) : Type 0 where
  pub rests : List (List Step)
  pub before : List Step
  pub last : List Step
  pub is : IsTries request hearing.replies rests before
  pub few : length rests < tries
  pub vain : AreInVain settled request wait rests
  pub fails : FailsToAsk request hearing last
  pub short : ticks_in last ≤ wait
  pub unmatched : AreUnmatched hearing.match (got_in part)
  pub cut : part ≡ before ++ last
