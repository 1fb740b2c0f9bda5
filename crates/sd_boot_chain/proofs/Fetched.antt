-- What was fetched is the file, where the blocks that came are the file's.
use Rattle.std.proofs.Common.{◌≡◌, ℕ, ◌+◌, ◌<◌, Bool, true, false, List, [], ◌∷◌, ◌++◌, length, Option, Some, Ok, refl, sym, ◌∙◌, ap, subst, arith}
use Rattle.std.specs.List.{AllByRecursion, concat}
use Rattle.sd_outside.specs.declared.packet.Addr.{Addr}
use Rattle.sd_outside.specs.declared.packet.Packet.{Packet}
use Rattle.sd_outside.specs.declared.packet.Packet.TheVariants.{Udp}
use Rattle.sd_tftp.specs.declared.packet.TftpPacket.{TftpPacket}
use Rattle.sd_tftp.specs.declared.step.Step as answers
use Rattle.sd_tftp.specs.declared.step.Step.TheVariants as step
use Rattle.sd_tftp.specs.Blocks.{block_at, AreBlocksOf, EndsShort}
use Rattle.sd_tftp.specs.Reception.{Reception}
use Rattle.sd_tftp.specs.ReceiverTurn.{Turn}
use Rattle.sd_tftp.proofs.Pieces.{blocks_are_the_file, one_more_block}
use Rattle.sd_config.specs.declared.config.Config.{Config}
use Rattle.sd_config.specs.Program.{boot_file}
use Rattle.sd_link.specs.Steps.{Step, Send, Get}
use Rattle.sd_link.specs.Parts.{got_in}
use Rattle.sd_link.proofs.Histories.{got-append}
use Rattle.sd_config.proofs.Lists.{all_split, all_always}
use Rattle.sd_link.proofs.FromServer.{AnyPacket}
use Rattle.sd_link.proofs.BlocksInFlight.{Carries, IsBlockOf}
use Rattle.sd_claims.specs.Fetching.{Fetch, Brings, Takes, takes_none, takes_block, Fetched, acknowledge}
use Rattle.sd_boot_chain.proofs.Turned.{Turned, turned, TookBlock, took_block}

-- what holds of all that was got in a part holds in its pieces
pub got_split : (P : Packet → Type 0) (xs ys : List Step) → AllByRecursion P (got_in (xs ++ ys)) → AllByRecursion P (got_in xs) × AllByRecursion P (got_in ys)
got_split P xs ys all = all_split P (got_in xs) (got_in ys) (subst (λ (l : List Packet). AllByRecursion P l) (got-append xs ys) all)

pub got_cut : (P : Packet → Type 0) (part xs ys : List Step) → part ≡ xs ++ ys → AllByRecursion P (got_in part) → AllByRecursion P (got_in xs) × AllByRecursion P (got_in ys)
got_cut P part xs ys cut all = got_split P xs ys (subst (λ (l : List Step). AllByRecursion P (got_in l)) cut all)

-- the packet that moved a fetch on, with the turn that it brought
pub record Moved (f : Fetch) (r : Reception) (t : Turn) (P : Packet → Type 0) : Type 0 where
  pub packet : Packet
  pub turned_on : Turned f.me r packet t
  pub holds : P packet

pub moved_by : {settled : List Step → Type 0} (P : Packet → Type 0) (f : Fetch) (r : Reception) (t : Turn) (part : List Step) → Brings settled f r t part → AllByRecursion P (got_in part) → Moved f r t P
moved_by P f r t part b all = record {
  packet = b.ends.packet;
  turned_on = turned f.me r b.ends.packet t b.ends.matched;
  holds = (got_cut P part b.ends.before (Get b.ends.id b.ends.packet ∷ []) b.ends.cut all).1.0;
}

-- the turn with its answer
pub says_is : (t : Turn) (says : answers.Step) → t.says ≡ says → t ≡ (let u : Turn = record { says = says; becomes = t.becomes } in u)
says_is t says e = λ i. record { says = e i; becomes = t.becomes }

pub took_by : (P : Packet → Type 0) (f : Fetch) (r : Reception) (t : Turn) (to : Addr) (n : ℕ) (last : Bool) → t.says ≡ step.Took to n last → (m : Moved f r t P) → TookBlock r t.becomes m.turned_on.from m.turned_on.inner to n last
took_by P f r t to n last e m =
    let k = subst (λ (u : Turn). Turned f.me r m.packet u) (says_is t (step.Took to n last) e) m.turned_on in
    took_block f.me r m.packet to n last t.becomes k

same_addr : (a b : Addr) → a.ip ≡ b.ip → a.port ≡ b.port → a ≡ b
same_addr a b i p = λ k. record { ip = i k; port = p k }

-- the block that was taken is the file's
record Taken (c : Config) (f : Fetch) (r new : Reception) (last : Bool) : Type 0 where
  pub number : ℕ
  pub body : List ℕ
  pub of : IsBlockOf c f.name number body
  pub number_is : number ≡ length r.blocks + 1
  pub new_is : new.blocks ≡ r.blocks ++ body ∷ []
  pub short : last ≡ true → length body < 512

taken_by : (c : Config) (f : Fetch) (r : Reception) (t : Turn) (to : Addr) (n : ℕ) (last : Bool) → t.says ≡ step.Took to n last → r.server ≡ c.server.ip → Moved f r t (Carries c f.me f.name) → Taken c f r t.becomes last
taken_by c f r t to n last e server m =
    let k = took_by (Carries c f.me f.name) f r t to n last e m in
    let u = m.turned_on in
    let mine : m.packet ≡ Udp u.from f.me u.body = u.packet_is ∙ ap (λ (a : Addr). Udp u.from a u.body) (same_addr u.to f.me u.to_ip u.to_port) in
    record {
      number = n;
      body = k.body;
      of = m.holds u.from u.body k.body n mine (k.from_ip ∙ server) (u.reads ∙ ap (λ (p : TftpPacket). Ok p) k.inner_is);
      number_is = k.number;
      new_is = ap (λ (s : Reception). s.blocks) k.new_is;
      short = k.short;
    }

-- the receiver listens to the address that was asked
takes_server : {settled : List Step → Type 0} {f : Fetch} {part : List Step} {r : Reception} → Takes settled f part r → r.server ≡ f.server
takes_server takes_none = refl
takes_server {f = f} (takes_block part more r t before brings next) =
    let m = moved_by AnyPacket f r t more brings (all_always AnyPacket (got_in more) (λ p. tt)) in
    ap (λ (s : Reception). s.server) (took_by AnyPacket f r t next.0 next.1 false next.2 m).new_is ∙ takes_server before

same_file : (o : Option (List ℕ)) (a b : List ℕ) → o ≡ Some a → o ≡ Some b → a ≡ b
same_file o a b e h = cc

module _ (c : Config) (f : Fetch) (file : List ℕ) (is : boot_file c f.name ≡ Some file) (server : f.server ≡ c.server.ip) where
  more_blocks : (r new : Reception) (last : Bool) → AreBlocksOf file 1 r.blocks → Taken c f r new last → AreBlocksOf file 1 new.blocks
  more_blocks r new last are t =
      let same : t.of.file ≡ file = same_file (boot_file c f.name) t.of.file file t.of.found is in
      let next : t.number ≡ 1 + length r.blocks = omega (arith, t.number_is) in
      subst (λ (l : List (List ℕ)). AreBlocksOf file 1 l) (sym t.new_is)
      (one_more_block file 1 r.blocks t.body are (t.of.is ∙ ap (λ (l : List ℕ). block_at l t.number) same ∙ ap (λ (n : ℕ). block_at file n) next))

  -- the blocks taken so far are the file's
  pub taken_blocks : {settled : List Step → Type 0} {part : List Step} {r : Reception} → Takes settled f part r → AllByRecursion (Carries c f.me f.name) (got_in part) → AreBlocksOf file 1 r.blocks
  taken_blocks takes_none all = tt
  taken_blocks (takes_block part more r t before brings next) all =
      let s = got_split (Carries c f.me f.name) part more all in
      more_blocks r t.becomes false (taken_blocks before s.0)
      (taken_by c f r t next.0 next.1 false next.2 (takes_server before ∙ server) (moved_by (Carries c f.me f.name) f r t more brings s.1))

-- What was fetched from the server is the configured file, where each block that came from there was that file's.
pub fetched_file : {settled : List Step → Type 0} (c : Config) (f : Fetch) (bytes : List ℕ) (part : List Step) → f.server ≡ c.server.ip → Fetched settled f bytes part → AllByRecursion (Carries c f.me f.name) (got_in part) → boot_file c f.name ≡ Some bytes
fetched_file c f bytes part server h all =
    let P = Carries c f.me f.name in
    let s = got_cut P part h.before (h.last ++ Send (acknowledge f.me h.to h.number) ∷ []) h.cut all in
    let l = got_split P h.last (Send (acknowledge f.me h.to h.number) ∷ []) s.1 in
    let t = taken_by c f h.taken h.final h.to h.number true h.says (takes_server h.takes ∙ server) (moved_by P f h.taken h.final h.last h.brings l.0) in
    let file = t.of.file in
    let are = taken_blocks c f file t.of.found server h.takes s.0 in
    let ends : EndsShort h.final.becomes.blocks = record { front = h.taken.blocks; final = t.body; blocks_are = t.new_is; short = t.short refl } in
    let joined : concat h.final.becomes.blocks ≡ file =
    blocks_are_the_file file h.final.becomes.blocks (more_blocks c f file t.of.found server h.taken h.final.becomes true are t) ends in
    t.of.found ∙ ap (λ (l : List ℕ). Some l) (sym joined ∙ sym h.joined)
