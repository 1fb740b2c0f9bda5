-- What the server sends: from which ports, and which frames.
use Rattle.std.proofs.Common.{◌≡◌, ℕ, Bool, true, false, cond, List, [], length, Some, None, Result, Ok, Err, refl, sym, ◌∙◌, ap, subst, arith, inl, inr, ◌⊎◌}
use Rattle.std.proofs.lemmas.Slice.Eq.{bytes_eq-Decides}
use Rattle.std.specs.Prelude.{slice_get}
use Rattle.std.specs.Option.{option_map}
use Rattle.std.specs.List.{AllByRecursion}
use Rattle.sd_outside.specs.declared.packet.Addr.{Addr}
use Rattle.sd_outside.specs.declared.packet.Mac.{Mac}
use Rattle.sd_outside.specs.declared.packet.Packet.{Packet}
use Rattle.sd_outside.specs.declared.packet.Packet.TheVariants.{Frame, Udp}
use Rattle.sd_rarp.specs.declared.frame.RarpFrame.{RarpFrame}
use Rattle.sd_rarp.specs.declared.frame.RarpFrame.TheVariants.{Request, Reply}
use Rattle.sd_rarp.specs.declared.frame.RarpError.{RarpError}
use Rattle.sd_rarp.specs.Frame.{reading, frame_bytes}
use Rattle.sd_rarp.specs.Answer.{is_mac, reply_with}
use Rattle.sd_tftp.specs.declared.packet.TftpPacket.TheVariants.{Rrq}
use Rattle.sd_tftp.specs.Reading as tftp
use Rattle.sd_rarp.proofs.RoundTrip.{reading-reply}
use Rattle.sd_rarp.proofs.Fields.{request_at, mac_wide}
use Rattle.sd_config.specs.declared.config.Config.{Config}
use Rattle.sd_config.specs.Config.{IsConfig}
use Rattle.sd_link.specs.World.{World, Flying, Server, start}
use Rattle.sd_services.specs.Part.{Session}
use Rattle.sd_services.specs.Sessions.{present_block}
use Rattle.sd_nfs_msg.specs.Layout.{nfs_port}
use Rattle.sd_services.specs.RpcReply.{is_rpc_port}
use Rattle.sd_services.specs.Reply.{rarp_answer, as_frame}
use Rattle.sd_link.specs.Steps.{Step, run, AllAllowed}
use Rattle.sd_link.specs.Parts.{sends_in, got_in}
use Rattle.sd_link.specs.Requests.{IsRpcPort}
use Rattle.sd_services.proofs.NoRequests.{block_asks_not, error_asks_not}
use Rattle.sd_services.proofs.RpcSilence.{rpc_port_is, all_replies, all_failures}
use Rattle.sd_link.proofs.InFlight.{IsTftpPort, Rules, AllAsk, SentFine, FlyingFine, GotFine, Keeps, keeps_run, keeps_got}
use Rattle.sd_config.proofs.Lists.{all_always, all_at, all_weaker}

-- the frame tells the client its address and the server's
pub record TellsAddresses (c : Config) (bytes : List ℕ) : Type 0 where
  pub src : Mac
  pub reads : reading bytes ≡ Ok (Reply src c.server.mac c.server.mac c.server.ip c.client.mac c.client.ip)

-- a datagram from the server's address and a port of TFTP or of an RPC program; from a port of TFTP it is no request for a file
pub record IsServersDatagram (c : Config) (src : Addr) (body : List ℕ) : Type 0 where
  pub ip : src.ip ≡ c.server.ip
  pub port : IsTftpPort src.port ⊎ (is_rpc_port src.port ≡ true)
  pub no_request : IsTftpPort src.port → (name mode : List ℕ) → tftp.reading body ≡ Ok (Rrq name mode) → ⊥

-- what the server sends: such frames and datagrams
abbrev pub IsServers : Config → Packet → Type 0
IsServers c (Frame bytes) = TellsAddresses c bytes
IsServers c (Udp src dst body) = IsServersDatagram c src body

-- What comes to the client: frames of the server, and from the server's address its datagrams.
abbrev pub ComesToClient : Config → Packet → Type 0
ComesToClient c (Frame bytes) = TellsAddresses c bytes
ComesToClient c (Udp src dst body) = src.ip ≡ c.server.ip → IsServersDatagram c src body

-- a stranger sends no frame, and from another address
pub comes_to_client : (c : Config) (packet : Packet) → GotFine c (IsServers c) packet → ComesToClient c packet
comes_to_client c (Frame bytes) (inl servers) = servers
comes_to_client c (Frame bytes) (inr strangers) = absurd strangers
comes_to_client c (Udp src dst body) (inl servers) = λ ip. servers
comes_to_client c (Udp src dst body) (inr strangers) = λ ip. absurd (strangers.not_server ip)

-- anything
abbrev pub AnyPacket : Packet → Type 0
AnyPacket packet = Unit {0}

abbrev pub AnySession : Session → Type 0
AnySession s = Unit {0}

abbrev pub AnyRequest : Addr → List ℕ → Type 0
AnyRequest from name = Unit {0}

abbrev pub AnyCall : Addr → ℕ → List ℕ → Type 0
AnyCall from port body = Unit {0}

mac_of : List ℕ → Mac
mac_of bytes = record { 0 = bytes }

same_mac : (a b : Mac) → is_mac a b ≡ true → a ≡ b
unfolding mac_of
same_mac a b e = ap mac_of ((bytes_eq-Decides a.0 b.0).0 e)

module _ (c : Config) (is : IsConfig c) where
  reply_tells : (src target : Mac) → length src.0 ≡ 6 → target ≡ c.client.mac → TellsAddresses c (frame_bytes (Reply src c.server.mac c.server.mac c.server.ip target c.client.ip))
  reply_tells src target s t = subst (λ (m : Mac). TellsAddresses c (frame_bytes (Reply src c.server.mac c.server.mac c.server.ip m c.client.ip))) (sym t) (record {
    src = src;
    reads = reading-reply src c.server.mac c.server.mac c.server.ip c.client.mac c.client.ip s is.server.mac.wide is.server.mac.wide is.client.mac.wide (omega (arith, is.server.ip.1)) (omega (arith, is.client.ip.1));
  })

  with_tells : (src target : Mac) → length src.0 ≡ 6 → (b : Bool) → is_mac c.client.mac target ≡ b
      → AllByRecursion (IsServers c) (as_frame (reply_with (c.server.mac, c.server.ip) src target (option_map (λ (entry : Mac × ℕ). entry.1) (cond b (Some (c.client.mac, c.client.ip)) None))))
  with_tells src target s true e = (reply_tells src target s (sym (same_mac c.client.mac target e)), tt)
  with_tells src target s false e = tt

  answer_tells : (bytes : List ℕ) (r : Result RarpFrame RarpError) → reading bytes ≡ r → AllByRecursion (IsServers c) (as_frame (rarp_answer c r))
  answer_tells bytes (Err why) e = tt
  answer_tells bytes (Ok (Reply dst src sender sender_ip target target_ip)) e = tt
  answer_tells bytes (Ok (Request dst src sender target)) e =
      let at = request_at bytes dst src sender target e in
      let s : length src.0 ≡ 6 = ap (λ (m : Mac). length m.0) at.1 ∙ mac_wide bytes 6 (omega (arith, at.0)) in
      with_tells src target s (is_mac c.client.mac target) refl

  no_tftp : (port : ℕ) → is_rpc_port port ≡ true → IsTftpPort port → ⊥
  no_tftp port e (inl tftp) = let no : is_rpc_port 69 ≡ true = subst (λ (n : ℕ). is_rpc_port n ≡ true) tftp e in absurd (cc)
  no_tftp port e (inr session) = off (rpc_port_is port e)
    where
      off : IsRpcPort port → ⊥
      off (inl a) = omega (arith, a, session.0)
      off (inr (inl a)) = omega (arith, a, session.0)
      off (inr (inr (inl a))) = omega (arith, a, session.0)
      off (inr (inr (inr a))) = omega (arith, a, session.0)

  pub server_rules : Rules c (IsServers c) AnySession AnyRequest AnyCall
  server_rules = record {
    frames = λ bytes. answer_tells bytes (reading bytes) refl;
    errors = λ port to code is lt. record { ip = refl; port = inl is; no_request = λ _. error_asks_not code [] };
    replies = λ part from port body rpc o. all_replies (IsServers c) c part from port body (λ sent. record { ip = refl; port = inr rpc; no_request = λ tftp. absurd (no_tftp port rpc tftp) });
    failures = λ from body o. all_failures (IsServers c) c from body (λ sent. record { ip = refl; port = inr refl; no_request = λ tftp. absurd (no_tftp nfs_port refl tftp) });
    blocks = λ s h. record { ip = refl; port = inl (inr (omega arith, omega arith)); no_request = λ _. block_asks_not s.block (present_block c s) };
    first = λ part tick from name bytes r is. tt;
    again = λ tick s h. tt;
    onward = λ tick s h whole. tt;
  }

  any_asks : (w : World) → AllAsk AnyRequest AnyCall w
  any_asks w id f e = record { requests = λ from to body name mode is reads. tt; calls = λ from to body is rpc. tt }

  module _ (S : Packet → Type 0) where
    -- Where the client's packets are such, the server's are so too.
    pub servers_run : (w : World) (steps : List Step) → Keeps c S (IsServers c) AnySession w → AllByRecursion S (sends_in steps) → AllAllowed c w steps → Keeps c S (IsServers c) AnySession (run c w steps)
    servers_run w steps h s all = keeps_run c (IsServers c) AnySession AnyRequest AnyCall server_rules S w steps h s (any_asks (run c w steps)) all

    -- What the client gets from the server's address is the server's.
    pub servers_got : (w : World) (steps : List Step) → Keeps c S (IsServers c) AnySession w → AllByRecursion S (sends_in steps) → AllAllowed c w steps → AllByRecursion (ComesToClient c) (got_in steps)
    servers_got w steps h s all =
        all_weaker (GotFine c (IsServers c)) (ComesToClient c) (got_in steps) (comes_to_client c)
        (keeps_got c (IsServers c) AnySession AnyRequest AnyCall server_rules S w steps h s (any_asks (run c w steps)) all)

  -- Every packet of the server in flight is one that it sends.
  pub sent_by_server : (steps : List Step) (id : ℕ) (f : Flying) → AllAllowed c (start c) steps → slice_get (run c (start c) steps).flight id ≡ Some f → f.from ≡ Server → IsServers c f.packet
  sent_by_server steps id f all at from =
      let k = servers_run AnyPacket (start c) steps (tt, tt) (all_always AnyPacket (sends_in steps) (λ p. tt)) all in
      subst (λ s. SentFine c AnyPacket (IsServers c) s f.packet) from (all_at (FlyingFine c AnyPacket (IsServers c)) (run c (start c) steps).flight id f k.0 at)
