-- The blocks in flight to one who asks only for one file are that file's.
use Rattle.std.proofs.Common.{◌≡◌, ◌≢◌, true, ℕ, ◌-◌, ◌*◌, ◌<◌, ◌≤◌, ◌^◌, List, [], length, drop, Option, Some, None, Result, Ok, refl, sym, ◌∙◌, ap, subst, inl, inr, arith, length-take, length-drop}
use Rattle.std.specs.Prelude.{slice_get}
use Rattle.std.specs.Option.{option_map}
use Rattle.std.specs.Str.{bytes_eq}
use Rattle.std.specs.List.{AllByRecursion, find}
use Rattle.sd_outside.specs.declared.packet.Addr.{Addr}
use Rattle.sd_outside.specs.declared.packet.Packet.{Packet}
use Rattle.sd_outside.specs.declared.packet.Packet.TheVariants.{Frame, Udp}
use Rattle.sd_rarp.specs.declared.frame.RarpFrame.{RarpFrame}
use Rattle.sd_rarp.specs.Frame as rarp
use Rattle.sd_tftp.specs.declared.packet.TftpPacket.{TftpPacket}
use Rattle.sd_tftp.specs.declared.packet.TftpPacket.TheVariants.{Block, Error}
use Rattle.sd_tftp.specs.declared.packet.TftpError.{TftpError}
use Rattle.sd_tftp.specs.Blocks.{block_at}
use Rattle.sd_tftp.specs.Grammar.{packet_bytes, spells_error, spells_data}
use Rattle.sd_tftp.specs.Reading.{reading}
use Rattle.sd_tftp.proofs.Whole.{spelled_is_read}
use Rattle.sd_config.specs.declared.config.BootFile.{BootFile}
use Rattle.sd_config.specs.declared.config.Config.{Config}
use Rattle.sd_config.specs.Config.{IsConfig, IsBootFile, boot_file_limit}
use Rattle.sd_config.specs.Program.{boot_file}
use Rattle.sd_link.specs.World.{World, Flying, Server, start}
use Rattle.sd_services.specs.Part.{Session, ServerPart}
use Rattle.sd_services.specs.Sessions.{bytes_or_none, file_of, present_block, block_packet, new_session, sent_again, next_block}
use Rattle.sd_rpc_msg.specs.declared.message.Reply.{Reply}
use Rattle.sd_services.specs.RpcCalls.{Program, reply_to}
use Rattle.sd_nfs_msg.specs.Layout.{nfs_port}
use Rattle.sd_services.specs.Failing.{nfs_failing}
use Rattle.sd_services.specs.RpcReply.{is_rpc_port, program_at, rpc_packet, as_packets}
use Rattle.sd_services.specs.Reply.{rarp_answer, as_frame}
use Rattle.sd_link.specs.Steps.{Step, run, AllAllowed}
use Rattle.sd_link.specs.Parts.{sends_in, got_in}
use Rattle.sd_link.specs.Requests.{AsksOnlyFor, IsRpcPort, KeepsOffRpc}
use Rattle.sd_services.proofs.RpcSilence.{rpc_port_is}
use Rattle.sd_link.proofs.ShortMessages.{short_silent}
use Rattle.sd_link.proofs.InFlight.{Rules, AllAsk, SentFine, FlyingFine, GotFine, Keeps, keeps_run, keeps_got}
use Rattle.sd_config.proofs.Lists.{all_always, all_at, all_found, all_recursive, all_weaker}
use Rattle.sd_link.proofs.FromServer.{AnyPacket}

-- the session sends the file of this name, and its present block stands in it or right behind its end
pub record IsServing (c : Config) (name : List ℕ) (s : Session) : Type 0 where
  pub named : s.name ≡ name
  pub file : List ℕ
  pub found : boot_file c name ≡ Some file
  pub first : 1 ≤ s.block
  pub inside : 512 * (s.block - 1) ≤ length file

abbrev pub Serves : Config → Addr → List ℕ → Session → Type 0
Serves c me name s = s.peer ≡ me → IsServing c name s

-- these bytes are this block of the file of this name
pub record IsBlockOf (c : Config) (name : List ℕ) (n : ℕ) (bytes : List ℕ) : Type 0 where
  pub file : List ℕ
  pub found : boot_file c name ≡ Some file
  pub is : bytes ≡ block_at file n

-- a block from the server's address to this address and port is the file's
abbrev pub Carries : Config → Addr → List ℕ → Packet → Type 0
Carries c me name packet = (from : Addr) (body bytes : List ℕ) (n : ℕ) → packet ≡ Udp from me body → from.ip ≡ c.server.ip → reading body ≡ Ok (Block n bytes) → IsBlockOf c name n bytes

-- from there this file alone is asked for
abbrev pub AsksFor : Addr → List ℕ → Addr → List ℕ → Type 0
AsksFor me name from asked = from ≡ me → asked ≡ name

-- what goes from there to an RPC program is too short for a message
abbrev pub CallsNone : Addr → Addr → ℕ → List ℕ → Type 0
CallsNone me from port body = from ≡ me → length body < 8

-- ---- the files

bytes_short : (o : Option BootFile) (file : List ℕ) → ((f : BootFile) → o ≡ Some f → IsBootFile f) → option_map (λ (f : BootFile). f.bytes) o ≡ Some file → length file ≤ boot_file_limit
bytes_short None file each e = absurd (cc)
bytes_short (Some f) file each e = let same : f.bytes ≡ file = cc in subst (λ (l : List ℕ). length l ≤ boot_file_limit) same (each f refl).most

-- no boot file is too long
pub boot_file_short : (c : Config) → IsConfig c → (name file : List ℕ) → boot_file c name ≡ Some file → length file ≤ boot_file_limit
boot_file_short c is name file e =
    bytes_short (find (λ (f : BootFile). bytes_eq f.name name) c.tftp) file (λ f found. all_found IsBootFile (λ (g : BootFile). bytes_eq g.name name) c.tftp f (all_recursive IsBootFile c.tftp is.tftp.each) found) e

-- ---- what the server sends

abbrev Read : Type 0
Read = Result TftpPacket TftpError

frames_carry : (c : Config) (me : Addr) (name : List ℕ) (o : Option RarpFrame) → AllByRecursion (Carries c me name) (as_frame o)
frames_carry c me name None = tt
frames_carry c me name (Some frame) = (λ from body bytes n is server reads. absurd (cc), tt)

not_block : (r : Read) (code n : ℕ) (bytes : List ℕ) → r ≡ Ok (Error code []) → r ≡ Ok (Block n bytes) → ⊥
not_block r code n bytes e f = absurd (cc)

-- an ERROR is no block
error_carries : (c : Config) (me : Addr) (name : List ℕ) (from to : Addr) (code : ℕ) → code < 2 ^ 16 → Carries c me name (Udp from to (packet_bytes (Error code [])))
error_carries c me name a to code lt from body bytes n is server reads =
    let same : body ≡ packet_bytes (Error code []) = cc in
    let read : reading body ≡ Ok (Error code []) = spelled_is_read body (Error code []) (spells_error code [] same lt tt) in
    absurd (not_block (reading body) code n bytes read reads)

file_served : (c : Config) (name : List ℕ) (s : Session) (h : IsServing c name s) → file_of c s ≡ h.file
file_served c name s h = ap (λ (n : List ℕ). bytes_or_none (boot_file c n)) h.named ∙ ap bytes_or_none h.found

not_silent : (o : Option Reply) (reply : Reply) → o ≡ Some reply → o ≡ None → ⊥
not_silent o reply e f = cc

module _ (c : Config) (is : IsConfig c) (me : Addr) (name : List ℕ) where
  same_block : (r : Read) (n m : ℕ) (xs ys : List ℕ) → r ≡ Ok (Block n xs) → r ≡ Ok (Block m ys) → (n ≡ m) × (xs ≡ ys)
  same_block r n m xs ys e f = (cc, cc)

  -- a session's present block is its file's
  block_carries : (s : Session) → Serves c me name s → Carries c me name (block_packet c s)
  block_carries s serves from body bytes n packet_is server reads =
      let peer : s.peer ≡ me = cc in
      let same : body ≡ packet_bytes (Block s.block (present_block c s)) = cc in
      let h = serves peer in
      let short = boot_file_short c is name h.file h.found in
      let few : length (present_block c s) ≤ 512 = omega (arith, length-take 512 (drop (512 * (s.block - 1)) (file_of c s))) in
      let numbered : s.block < 2 ^ 16 = omega (arith, h.inside, short) in
      let read : reading body ≡ Ok (Block s.block (present_block c s)) = spelled_is_read body (Block s.block (present_block c s)) (spells_data s.block (present_block c s) same numbered few) in
      let both = same_block (reading body) s.block n (present_block c s) bytes read reads in
      record {
        file = h.file;
        found = h.found;
        is = sym both.1 ∙ ap (λ (l : List ℕ). block_at l s.block) (file_served c name s h) ∙ ap (λ (m : ℕ). block_at h.file m) both.0;
      }

  -- after a whole block comes one that stands in the file or right behind its end
  next_serves : (tick : ℕ) (s : Session) → Serves c me name s → 512 ≤ length (present_block c s) → Serves c me name (next_block tick s)
  next_serves tick s serves whole peer =
      let h = serves peer in
      let long : 512 ≤ length (block_at h.file s.block) = subst (λ (l : List ℕ). 512 ≤ length (block_at l s.block)) (file_served c name s h) whole in
      record {
        named = h.named;
        file = h.file;
        found = h.found;
        first = omega arith;
        inside = omega (arith, h.first, h.inside, long, length-take 512 (drop (512 * (s.block - 1)) h.file), length-drop (512 * (s.block - 1)) h.file);
      }

  again_serves : (tick : ℕ) (s : Session) → Serves c me name s → Serves c me name (sent_again tick s)
  again_serves tick s serves peer = let h = serves peer in record { named = h.named; file = h.file; found = h.found; first = h.first; inside = h.inside }

  first_serves : (part : ServerPart) (tick : ℕ) (from : Addr) (asked bytes : List ℕ) → AsksFor me name from asked → boot_file c asked ≡ Some bytes → Serves c me name (new_session part tick from asked)
  first_serves part tick from asked bytes asks found peer =
      record { named = asks peer; file = bytes; found = ap (λ (l : List ℕ). boot_file c l) (sym (asks peer)) ∙ found; first = omega arith; inside = omega arith }

  -- the replies go to others
  replies_carry : (port : ℕ) (from : Addr) (p : Program) (body : List ℕ) → (from ≡ me → length body < 8) → (o : Option Reply) → reply_to p body ≡ o → AllByRecursion (Carries c me name) (as_packets (option_map (rpc_packet c port from) o))
  replies_carry port from p body short None e = tt
  replies_carry port from p body short (Some reply) e = (λ src own bytes n packet_is server reads. let same : from ≡ me = cc in absurd (not_silent (reply_to p body) reply e (short_silent p body (short same))), tt)

  block_rules : Rules c (Carries c me name) (Serves c me name) (AsksFor me name) (CallsNone me)
  block_rules = record {
    frames = λ bytes. frames_carry c me name (rarp_answer c (rarp.reading bytes));
    errors = λ port to code is lt. error_carries c me name (record { ip = c.server.ip; port = port }) to code lt;
    replies = λ part from port body rpc short. replies_carry port from (program_at c part from.ip port) body short (reply_to (program_at c part from.ip port) body) refl;
    failures = λ from body short. replies_carry nfs_port from nfs_failing body short (reply_to nfs_failing body) refl;
    blocks = block_carries;
    first = first_serves;
    again = again_serves;
    onward = next_serves;
  }

  rpc_port : (port : ℕ) → is_rpc_port port ≡ true → IsRpcPort port
  rpc_port port e = rpc_port_is port e

  -- what is asked where one asks only for one file, and calls no program from there
  asks_for : (w : World) → AsksOnlyFor me name w → KeepsOffRpc me w → AllAsk (AsksFor me name) (CallsNone me) w
  asks_for w asks off id f at = record {
    requests = λ from to body asked mode is reads mine. asks id f to body asked mode at (is ∙ ap (λ (a : Addr). Udp a to body) mine) reads;
    calls = λ from to body is rpc mine. off id f to body at (is ∙ ap (λ (a : Addr). Udp a to body) mine) (rpc_port to.port rpc);
  }

  any_sends : (steps : List Step) → AllByRecursion AnyPacket (sends_in steps)
  any_sends steps = all_always AnyPacket (sends_in steps) (λ p. tt)

  -- Where it holds before, and this file alone is asked for, it holds after steps.
  pub blocks_run : (w : World) (steps : List Step) → Keeps c AnyPacket (Carries c me name) (Serves c me name) w → AsksOnlyFor me name (run c w steps) → KeepsOffRpc me (run c w steps) → AllAllowed c w steps → Keeps c AnyPacket (Carries c me name) (Serves c me name) (run c w steps)
  blocks_run w steps h asks off all = keeps_run c (Carries c me name) (Serves c me name) (AsksFor me name) (CallsNone me) block_rules AnyPacket w steps h (any_sends steps) (asks_for (run c w steps) asks off) all

  -- what strangers send comes from elsewhere
  got_carries : (packet : Packet) → GotFine c (Carries c me name) packet → Carries c me name packet
  got_carries packet (inl carries) from body read n is server reads = carries from body read n is server reads
  got_carries (Frame bytes) (inr elsewhere) from body read n is server reads = absurd elsewhere
  got_carries (Udp src dst own) (inr elsewhere) from body read n is server reads =
      let same : src ≡ from = cc in
      absurd (elsewhere.not_server (ap (λ (a : Addr). a.ip) same ∙ server))

  -- The blocks that the client gets in these steps from the server's address are the file's.
  pub blocks_got : (w : World) (steps : List Step) → Keeps c AnyPacket (Carries c me name) (Serves c me name) w → AsksOnlyFor me name (run c w steps) → KeepsOffRpc me (run c w steps) → AllAllowed c w steps → AllByRecursion (Carries c me name) (got_in steps)
  blocks_got w steps h asks off all =
      all_weaker (GotFine c (Carries c me name)) (Carries c me name) (got_in steps) got_carries
      (keeps_got c (Carries c me name) (Serves c me name) (AsksFor me name) (CallsNone me) block_rules AnyPacket w steps h (any_sends steps) (asks_for (run c w steps) asks off) all)

  -- From the start on, sessions serve the file and packets carry it.
  pub blocks_kept : (steps : List Step) → AllAllowed c (start c) steps → AsksOnlyFor me name (run c (start c) steps) → KeepsOffRpc me (run c (start c) steps) → Keeps c AnyPacket (Carries c me name) (Serves c me name) (run c (start c) steps)
  blocks_kept steps all asks off = blocks_run (start c) steps (tt, tt) asks off all

  -- Each session with one who asks only for one file sends that file.
  pub sessions_serve : (steps : List Step) → AllAllowed c (start c) steps → AsksOnlyFor me name (run c (start c) steps) → KeepsOffRpc me (run c (start c) steps) → AllByRecursion (Serves c me name) (run c (start c) steps).server.sessions
  sessions_serve steps all asks off = (blocks_kept steps all asks off).1

  -- Each block in flight to it from the server is that file's.
  pub blocks_in_flight : (steps : List Step) → AllAllowed c (start c) steps → AsksOnlyFor me name (run c (start c) steps) → KeepsOffRpc me (run c (start c) steps) → (id : ℕ) (f : Flying) → slice_get (run c (start c) steps).flight id ≡ Some f → f.from ≡ Server → Carries c me name f.packet
  blocks_in_flight steps all asks off id f at from =
      subst (λ s. SentFine c AnyPacket (Carries c me name) s f.packet) from (all_at (FlyingFine c AnyPacket (Carries c me name)) (run c (start c) steps).flight id f (blocks_kept steps all asks off).0 at)
