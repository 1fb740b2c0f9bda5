-- What a fetch sends: its request, and to those from whom it hears ACKs and refusals.
use Rattle.std.specs.Prelude.{◌⊎◌}
use Rattle.std.proofs.Common.{inl, inr, ◌≡◌, ℕ, ◌==◌, ◌&&◌, Bool, true, false, cond, List, [], ◌∷◌, ◌++◌, length, Option, Some, None, Result, Ok, Err, refl, sym, ◌∙◌, ap, subst}
use Rattle.std.specs.List.{AllByRecursion, flat_map}
use Rattle.sd_outside.specs.declared.packet.Addr.{Addr}
use Rattle.sd_outside.specs.declared.packet.Packet.{Packet}
use Rattle.sd_outside.specs.declared.packet.Packet.TheVariants.{Frame, Udp}
use Rattle.sd_tftp.specs.declared.packet.TftpPacket.{TftpPacket}
use Rattle.sd_tftp.specs.declared.packet.TftpError.{TftpError}
use Rattle.sd_tftp.specs.declared.step.Step as answers
use Rattle.sd_tftp.specs.declared.step.Step.TheVariants as step
use Rattle.sd_tftp.specs.Reading.{reading}
use Rattle.sd_tftp.specs.Reception.{Reception}
use Rattle.sd_tftp.specs.Receiving.{Receives}
use Rattle.sd_tftp.specs.ReceiverTurn.{Turn, turn, ignored}
use Rattle.sd_tftp.proofs.Receives.{receiving_is_turn}
use Rattle.sd_link.specs.Steps.{Step, Send, Get, Fail}
use Rattle.sd_link.specs.Parts.{sends_in, got_in}
use Rattle.sd_link.specs.Tries.{Hearing, RepliesAtOnce, IsTries, beyond, FailsToSend, FailsToHear, at_wait, at_reply, FailsToAsk, at_request, behind_request, Failed}
use Rattle.sd_link.proofs.AtOnce.{replied_sends}
use Rattle.sd_link.proofs.Histories.{sends-append}
use Rattle.sd_config.proofs.Lists.{all_append}
use Rattle.sd_claims.specs.Fetching.{Fetch, Takes, takes_none, takes_block, Fetched, Stops, FetchFailed, FailsToFinish, read_request, acknowledge, turn_away, asked_by, request_of, turn_by, turn_on, courtesy, fetch_hearing}
use Rattle.std.proofs.lemmas.Bool.{eqb-true}
use Rattle.sd_boot_chain.proofs.Turned.{and_first, and_second}
use Rattle.sd_boot_chain.proofs.Fetched.{got_split, got_cut, Moved, moved_by, took_by}

-- ---- tries

replies_send : (S G : Packet → Type 0) (replies : Packet → List Packet) → ((p : Packet) → G p → AllByRecursion S (replies p)) → (got : List Packet) → AllByRecursion G got → AllByRecursion S (flat_map replies got)
replies_send S G replies so [] all = tt
replies_send S G replies so (p ∷ ps) all = all_append S (replies p) (flat_map replies ps) (so p all.0) (replies_send S G replies so ps all.1)

module _ (S G : Packet → Type 0) (request : Packet) (replies : Packet → List Packet) (asks : S request) (so : (p : Packet) → G p → AllByRecursion S (replies p)) where
  rests_send : (rests : List (List Step)) → AllByRecursion (RepliesAtOnce replies) rests → AllByRecursion G (got_in (flat_map (λ rest. Send request ∷ rest) rests))
      → AllByRecursion S (sends_in (flat_map (λ rest. Send request ∷ rest) rests))
  rests_send [] replied all = tt
  rests_send (rest ∷ rests) replied all =
      let more : List Step = flat_map (λ rest. Send request ∷ rest) rests in
      let g = got_split G rest more all in
      let own : AllByRecursion S (sends_in rest) = subst (λ (l : List Packet). AllByRecursion S l) (sym (replied_sends replies rest replied.0)) (replies_send S G replies so (got_in rest) g.0) in
      (asks, subst (λ (l : List Packet). AllByRecursion S l) (sym (sends-append rest more)) (all_append S (sends_in rest) (sends_in more) own (rests_send rests replied.1 g.1)))

  -- all that tries send: the request, and the replies to what was got
  pub tries_send : (rests : List (List Step)) (part : List Step) → IsTries request replies rests part → AllByRecursion G (got_in part) → AllByRecursion S (sends_in part)
  tries_send rests part is all =
      subst (λ (l : List Step). AllByRecursion S (sends_in l)) (sym is.cut) (rests_send rests is.replied (subst (λ (l : List Step). AllByRecursion G (got_in l)) is.cut all))

-- ---- tries the last of which failed

sent_or_not : (S : Packet → Type 0) (packet : Packet) (part : List Step) → S packet → FailsToSend packet part → AllByRecursion S (sends_in part)
sent_or_not S packet part ok (inl is) = subst (λ (l : List Step). AllByRecursion S (sends_in l)) (sym is) tt
sent_or_not S packet part ok (inr is) = subst (λ (l : List Step). AllByRecursion S (sends_in l)) (sym is) (ok, tt)

both_sent : (S : Packet → Type 0) (xs ys : List Step) → AllByRecursion S (sends_in xs) → AllByRecursion S (sends_in ys) → AllByRecursion S (sends_in (xs ++ ys))
both_sent S xs ys first second = subst (λ (l : List Packet). AllByRecursion S l) (sym (sends-append xs ys)) (all_append S (sends_in xs) (sends_in ys) first second)

module _ {X : Type 0} (S G : Packet → Type 0) (request : Packet) (h : Hearing X) (asks : S request) (so : (p : Packet) → G p → AllByRecursion S (h.replies p)) where
  rest_sends : (rest : List Step) → RepliesAtOnce h.replies rest → AllByRecursion G (got_in rest) → AllByRecursion S (sends_in rest)
  rest_sends rest replied all = subst (λ (l : List Packet). AllByRecursion S l) (sym (replied_sends h.replies rest replied)) (replies_send S G h.replies so (got_in rest) all)

  hear_sends : (part : List Step) → FailsToHear h part → AllByRecursion G (got_in part) → AllByRecursion S (sends_in part)
  hear_sends _ (at_wait rest replied few) all = both_sent S rest (Fail ∷ []) (rest_sends rest replied (got_split G rest (Fail ∷ []) all).0) tt
  hear_sends _ (at_reply rest id packet reply failed replied few is fails) all =
      let g = got_split G rest (Get id packet ∷ failed) all in
      let ok : AllByRecursion S (reply ∷ []) = subst (λ (l : List Packet). AllByRecursion S l) is (so packet g.1.0) in
      both_sent S rest (Get id packet ∷ failed) (rest_sends rest replied g.0) (sent_or_not S reply failed ok.0 fails)

  ask_sends : (part : List Step) → FailsToAsk request h part → AllByRecursion G (got_in part) → AllByRecursion S (sends_in part)
  ask_sends _ (at_request part fails) all = sent_or_not S request part asks fails
  ask_sends _ (behind_request rest fails) all = (asks, hear_sends rest fails all)

  -- all that they send: the request, and the replies to what was got
  pub failed_sends : (settled : List Step → Type 0) (tries wait : ℕ) (part : List Step) → Failed settled request h tries wait part → AllByRecursion G (got_in part) → AllByRecursion S (sends_in part)
  failed_sends settled tries wait part f all =
      let g = got_cut G part f.before f.last f.cut all in
      subst (λ (l : List Step). AllByRecursion S (sends_in l)) (sym f.cut)
      (both_sent S f.before f.last (tries_send S G request h.replies asks so f.rests f.before f.is g.0) (ask_sends f.last f.fails g.1))

-- ---- a fetch

-- S holds of its request, and of its ACKs and refusals to where A holds, which holds of whoever it hears.
pub record Sends (f : Fetch) (S G : Packet → Type 0) (A : Addr → Type 0) : Type 0 where
  pub request : S (read_request f)
  pub acks : (to : Addr) (n : ℕ) → A to → S (acknowledge f.me to n)
  pub away : (to : Addr) → A to → S (turn_away f.me to)
  -- of what comes to its own address and port
  pub heard : (from to : Addr) (body : List ℕ) → to.ip ≡ f.me.ip → to.port ≡ f.me.port → G (Udp from to body) → A from

at_port : ℕ → ℕ → Addr
at_port ip port = record { ip = ip; port = port }

module _ (f : Fetch) (S G : Packet → Type 0) (A : Addr → Type 0) (k : Sends f S G A) where
  courtesy_sends : (r : Reception) (from : Addr) (packet : TftpPacket) (says : answers.Step) (new : Reception) → Receives r from packet says new → A from → AllByRecursion S (courtesy f.me says)
  courtesy_sends r from packet step.Ignored new h a = tt
  courtesy_sends r from packet (step.Stranger to) new h a = (k.away to (subst A (sym h.1.to_is) a), tt)
  courtesy_sends r from packet (step.Again to n) new h a = (k.acks to n (subst A (sym h.1.to_is) a), tt)
  courtesy_sends r from packet (step.Took to n last) new h a = tt
  courtesy_sends r from packet (step.Refused code) new h a = tt
  courtesy_sends r from packet (step.Over got) new h a = tt

  reply_sends : (r : Reception) (packet : Packet) → G packet → AllByRecursion S (courtesy f.me (turn_on f.me r packet).says)
  reply_sends r (Frame bytes) g = tt
  reply_sends r (Udp src dst body) g = of ((dst.ip == f.me.ip) && (dst.port == f.me.port)) refl
    where
      by : (o : Result TftpPacket TftpError) → A src → AllByRecursion S (courtesy f.me (turn_by r src o).says)
      by (Err why) a = tt
      by (Ok p) a = courtesy_sends r src p (turn r src p).says (turn r src p).becomes ((receiving_is_turn r src p (turn r src p).says (turn r src p).becomes).1 (refl, refl)) a

      heard_by : (dst.ip == f.me.ip) && (dst.port == f.me.port) ≡ true → A src
      heard_by mine = k.heard src dst body (eqb-true dst.ip f.me.ip (and_first (dst.ip == f.me.ip) (dst.port == f.me.port) mine)) (eqb-true dst.port f.me.port (and_second (dst.ip == f.me.ip) (dst.port == f.me.port) mine)) g

      of : (b : Bool) → (dst.ip == f.me.ip) && (dst.port == f.me.port) ≡ b → AllByRecursion S (courtesy f.me (cond b (turn_by r src (reading body)) (ignored r)).says)
      of true mine = by (reading body) (heard_by mine)
      of false mine = tt

  -- the peer is one that it may send to
  abbrev PeerFine : Reception → Type 0
  PeerFine r = (port : ℕ) → r.peer ≡ Some port → A (let a : Addr = record { ip = r.server; port = port } in a)

  asked_sends : (r : Reception) → PeerFine r → S (request_of f r)
  asked_sends r peer = of r.peer refl
    where
      of : (o : Option ℕ) → r.peer ≡ o → S (asked_by f r o)
      of None e = k.request
      of (Some port) e = k.acks (record { ip = r.server; port = port }) (length r.blocks) (peer port e)

  fetch_tries : (r : Reception) (rests : List (List Step)) (part : List Step) → PeerFine r → IsTries (request_of f r) (fetch_hearing f.me r).replies rests part → AllByRecursion G (got_in part) → AllByRecursion S (sends_in part)
  fetch_tries r rests part peer is all = tries_send S G (request_of f r) (fetch_hearing f.me r).replies (asked_sends r peer) (λ p g. reply_sends r p g) rests part is all

  from_heard : (r : Reception) (t : Turn) → (m : Moved f r t G) → A m.turned_on.from
  from_heard r t m = let u = m.turned_on in k.heard u.from u.to u.body u.to_ip u.to_port (subst G u.packet_is m.holds)

  same_addr : (a : Addr) (ip port : ℕ) → a.ip ≡ ip → a.port ≡ port → A a → A (at_port ip port)
  unfolding at_port
  same_addr a ip port i p h = subst (λ (q : ℕ). A (at_port ip q)) p (subst (λ (j : ℕ). A (at_port j a.port)) i h)

  peer_moved : (r : Reception) (t : Turn) (to : Addr) (n : ℕ) (last : Bool) → t.says ≡ step.Took to n last → Moved f r t G → PeerFine t.becomes
  unfolding at_port
  peer_moved r t to n last e m port is =
      let b = took_by G f r t to n last e m in
      let from = m.turned_on.from in
      let server : from.ip ≡ t.becomes.server = b.from_ip ∙ sym (ap (λ (s : Reception). s.server) b.new_is) in
      let peer : Some from.port ≡ Some port = sym (ap (λ (s : Reception). s.peer) b.new_is) ∙ is in
      let source : from.port ≡ port = cc in
      same_addr from t.becomes.server port server source (from_heard r t m)

  pub takes_send : {settled : List Step → Type 0} {part : List Step} {r : Reception} → Takes settled f part r → AllByRecursion G (got_in part) → AllByRecursion S (sends_in part) × PeerFine r
  takes_send takes_none all = (tt, λ port e. absurd (cc))
  takes_send (takes_block part more r t before brings next) all =
      let g = got_split G part more all in
      let h = takes_send before g.0 in (
        subst (λ (l : List Packet). AllByRecursion S l) (sym (sends-append part more))
            (all_append S (sends_in part) (sends_in more) h.0 (fetch_tries r (brings.asks.before ++ brings.asks.last ∷ []) more h.1 brings.asks.is g.1)),
        peer_moved r t next.0 next.1 false next.2 (moved_by G f r t more brings g.1),
      )

  -- all that a fetch sends
  pub fetched_sends : {settled : List Step → Type 0} (bytes : List ℕ) (part : List Step) → Fetched settled f bytes part → AllByRecursion G (got_in part) → AllByRecursion S (sends_in part)
  fetched_sends bytes part h all =
      let last = Send (acknowledge f.me h.to h.number) ∷ [] in
      let g = got_cut G part h.before (h.last ++ last) h.cut all in
      let l = got_split G h.last last g.1 in
      let t = takes_send h.takes g.0 in
      let m = moved_by G f h.taken h.final h.last h.brings l.0 in
      let b = took_by G f h.taken h.final h.to h.number true h.says m in
      let ends : S (acknowledge f.me h.to h.number) = k.acks h.to h.number (subst A (sym b.to_is) (from_heard h.taken h.final m)) in
      let final : AllByRecursion S (sends_in h.last) = fetch_tries h.taken (h.brings.asks.before ++ h.brings.asks.last ∷ []) h.last t.1 h.brings.asks.is l.0 in
      subst (λ (p : List Step). AllByRecursion S (sends_in p)) (sym h.cut)
      (subst (λ (p : List Packet). AllByRecursion S p) (sym (sends-append h.before (h.last ++ last) ∙ ap (λ (p : List Packet). sends_in h.before ++ p) (sends-append h.last last)))
      (all_append S (sends_in h.before) (sends_in h.last ++ sends_in last) t.0 (all_append S (sends_in h.last) (sends_in last) final (ends, tt))))

  -- and all that one sends that stops
  pub stops_send : {settled : List Step → Type 0} (why : (List Step → Type 0) → Reception → List Step → Type 0) → ((still : List Step → Type 0) (r : Reception) (last : List Step) → why still r last → (rests : List (List Step)) × IsTries (request_of f r) (fetch_hearing f.me r).replies rests last)
      → (part : List Step) → Stops settled f why part → AllByRecursion G (got_in part) → AllByRecursion S (sends_in part)
  stops_send why tries part h all =
      let g = got_cut G part h.before h.last h.cut all in
      let t = takes_send h.takes g.0 in
      let is = tries _ h.taken h.last h.stopped in
      subst (λ (p : List Step). AllByRecursion S (sends_in p)) (sym h.cut)
      (subst (λ (p : List Packet). AllByRecursion S p) (sym (sends-append h.before h.last))
      (all_append S (sends_in h.before) (sends_in h.last) t.0 (fetch_tries h.taken is.0 h.last t.1 is.1 g.1)))

  -- the network failed in the tries of a request, or at the last ACK
  stopped_sends : (still : List Step → Type 0) (r : Reception) (last : List Step) → PeerFine r → Failed still (request_of f r) (fetch_hearing f.me r) f.tries f.wait last ⊎ FailsToFinish still f r last → AllByRecursion G (got_in last) → AllByRecursion S (sends_in last)
  stopped_sends still r last peer (inl failed) all = failed_sends S G (request_of f r) (fetch_hearing f.me r) (asked_sends r peer) (λ p g. reply_sends r p g) still f.tries f.wait last failed all
  stopped_sends still r last peer (inr h) all =
      let g = got_cut G last h.block h.failed h.cut all in
      let m = moved_by G f r h.final h.block h.brings g.0 in
      let b = took_by G f r h.final h.to h.number true h.says m in
      let ok : S (acknowledge f.me h.to h.number) = k.acks h.to h.number (subst A (sym b.to_is) (from_heard r h.final m)) in
      let tried = fetch_tries r (h.brings.asks.before ++ h.brings.asks.last ∷ []) h.block peer h.brings.asks.is g.0 in
      subst (λ (p : List Step). AllByRecursion S (sends_in p)) (sym h.cut) (both_sent S h.block h.failed tried (sent_or_not S (acknowledge f.me h.to h.number) h.failed ok h.fails))

  -- and all that one sends in which the network failed
  pub failed_fetch_sends : (still : List Step → Type 0) (part : List Step) → FetchFailed still f part → AllByRecursion G (got_in part) → AllByRecursion S (sends_in part)
  failed_fetch_sends still part h all =
      let g = got_cut G part h.before h.last h.cut all in
      let t = takes_send h.takes g.0 in
      subst (λ (p : List Step). AllByRecursion S (sends_in p)) (sym h.cut) (both_sent S h.before h.last t.0 (stopped_sends (beyond still h.before) h.taken h.last t.1 h.stopped g.1))
