-- What a receiver took is in order, whole until it ends, and the file's.
use Rattle.std.proofs.Common.{◌≡◌, ℕ, ◌+◌, Bool, true, false, Option, Some, None, List, [], ◌∷◌, ◌++◌, length, refl, sym, ◌∙◌, subst, arith, inl, inr, ◌⊎◌}
use Rattle.std.proofs.lemmas.Bool.{ltb-false}
use Rattle.sd_outside.specs.declared.packet.Addr.{Addr}
use Rattle.sd_tftp.specs.declared.packet.TftpPacket.{TftpPacket}
use Rattle.sd_tftp.specs.declared.packet.TftpPacket.TheVariants.{Block}
use Rattle.sd_tftp.specs.declared.step.Step.{Step}
use Rattle.sd_tftp.specs.declared.step.Step.TheVariants.{Ignored, Stranger, Again, Took, Refused, Over}
use Rattle.sd_tftp.specs.Blocks.{AreBlocksOf, AreWhole}
use Rattle.sd_tftp.specs.Reception.{Reception, with_block, closed}
use Rattle.sd_tftp.specs.Receiving.{IsRightPort, awaited, Brings, Receives}
use Rattle.sd_tftp.specs.Runs.{Arrival, Run, run_begins, run_goes_on, Holds, holds_none, holds_block, holds_other, Carries}
use Rattle.sd_tftp.specs.Laws.{TakenInOrder, WholeUntilTheEnd, TakenIsTheFile}
use Rattle.sd_tftp.proofs.Pieces.{blocks_are_the_file}

-- a packet more that isn't taken
skips : {s : Addr} {n : ℕ} {arrivals : List Arrival} {bodies : List (List ℕ)} (a : Arrival) → Holds s n arrivals bodies → Holds s n (arrivals ++ a ∷ []) bodies
skips a (holds_none arrivals) = holds_none (arrivals ++ a ∷ [])
skips a (holds_block from body i p later) = holds_block from body i p (skips a later)
skips a (holds_other b later) = holds_other b (skips a later)

-- a packet more that is the next block
module _ (s from : Addr) (ip : from.ip ≡ s.ip) (port : from.port ≡ s.port) (body : List ℕ) where
  only : (n : ℕ) (arrivals : List Arrival) → Holds s n (arrivals ++ (from, Block n body) ∷ []) (body ∷ [])
  only n [] = holds_block from body ip port (holds_none [])
  only n (a ∷ arrivals) = holds_other a (only n arrivals)

  adds : {n : ℕ} {arrivals : List Arrival} {bodies : List (List ℕ)} (m : ℕ) → m ≡ n + length bodies → Holds s n arrivals bodies → Holds s n (arrivals ++ (from, Block m body) ∷ []) (bodies ++ body ∷ [])
  adds {n} m is (holds_none arrivals) =
      let same : n ≡ m = omega (arith, is) in
      subst (λ (k : ℕ). Holds s n (arrivals ++ (from, Block k body) ∷ []) (body ∷ [])) same (only n arrivals)
  adds m is (holds_block a b i p later) = holds_block a b i p (adds m (omega (arith, is)) later)
  adds m is (holds_other a later) = holds_other a (adds m is later)

-- what holds of a receiver after each packet
pub record Sound (ip : ℕ) (arrivals : List Arrival) (now : Reception) : Type 0 where
  pub server : now.server ≡ ip
  pub source : ℕ
  pub peer : ((now.peer ≡ None) × (now.blocks ≡ [])) ⊎ (now.peer ≡ Some source)
  pub holds : Holds (let a : Addr = record { ip = ip; port = source } in a) 1 arrivals now.blocks
  pub whole : now.ended ≡ false → AreWhole now.blocks

stays : (ip : ℕ) (arrivals : List Arrival) (old new : Reception) (a : Arrival) → new ≡ old → Sound ip arrivals old → Sound ip (arrivals ++ a ∷ []) new
stays ip arrivals old new a e s =
    subst (λ (r : Reception). Sound ip (arrivals ++ a ∷ []) r) (sym e) (record { server = s.server; source = s.source; peer = s.peer; holds = skips a s.holds; whole = s.whole })

ends : (ip : ℕ) (arrivals : List Arrival) (old new : Reception) (a : Arrival) → new ≡ closed old → Sound ip arrivals old → Sound ip (arrivals ++ a ∷ []) new
ends ip arrivals old new a e s =
    subst (λ (r : Reception). Sound ip (arrivals ++ a ∷ []) r) (sym e) (record { server = s.server; source = s.source; peer = s.peer; holds = skips a s.holds; whole = λ f. absurd cc })

one_more : (bodies : List (List ℕ)) (body : List ℕ) → AreWhole bodies → length body ≡ 512 → AreWhole (bodies ++ body ∷ [])
one_more [] body w e = (e, tt)
one_more (b ∷ bodies) body w e = (w.0, one_more bodies body w.1 e)

is_source : (peer : Option ℕ) (port source : ℕ) → IsRightPort peer port → peer ≡ Some source → port ≡ source
is_source None port source right e = absurd cc
is_source (Some p) port source right e = right ∙ (let same : p ≡ source = cc in same)

-- where its block 1 may come from
record Found (ip : ℕ) (arrivals : List Arrival) (old : Reception) (from : Addr) : Type 0 where
  pub source_ip : from.ip ≡ ip
  pub holds : Holds (let a : Addr = record { ip = ip; port = from.port } in a) 1 arrivals old.blocks

found : (ip : ℕ) (arrivals : List Arrival) (old : Reception) (from : Addr) → from.ip ≡ old.server → IsRightPort old.peer from.port → Sound ip arrivals old → Found ip arrivals old from
found ip arrivals old from i right s = of s.peer
  where
    of : ((old.peer ≡ None) × (old.blocks ≡ [])) ⊎ (old.peer ≡ Some s.source) → Found ip arrivals old from
    of (inl none) = record { source_ip = i ∙ s.server; holds = subst (λ (l : List (List ℕ)). Holds (record { ip = ip; port = from.port }) 1 arrivals l) (sym none.1) (holds_none arrivals) }
    of (inr some) = record { source_ip = i ∙ s.server; holds = subst (λ (p : ℕ). Holds (record { ip = ip; port = p }) 1 arrivals old.blocks) (sym (is_source old.peer from.port s.source right some)) s.holds }

takes : (ip : ℕ) (arrivals : List Arrival) (old new : Reception) (from : Addr) (packet : TftpPacket) (body : List ℕ) (over : Bool) → Brings old from packet body
    → (over ≡ false → length body ≡ 512) → new ≡ with_block old from.port body over → Sound ip arrivals old → Sound ip (arrivals ++ (from, packet) ∷ []) new
takes ip arrivals old new from packet body over b full e s =
    let f = found ip arrivals old from b.heard.ip b.heard.port s in
    let next : awaited old ≡ 1 + length old.blocks = omega arith in
    subst (λ (r : Reception). Sound ip (arrivals ++ (from, packet) ∷ []) r) (sym e) (record {
      server = s.server;
      source = from.port;
      peer = inr refl;
      holds = subst (λ (p : TftpPacket). Holds (record { ip = ip; port = from.port }) 1 (arrivals ++ (from, p) ∷ []) (old.blocks ++ body ∷ [])) (sym b.packet_is)
          (adds (record { ip = ip; port = from.port }) from f.source_ip refl body (awaited old) next f.holds);
      whole = λ going. one_more old.blocks body (s.whole b.heard.going) (full going);
    })

goes_on : (ip : ℕ) (arrivals : List Arrival) (old new : Reception) (from : Addr) (packet : TftpPacket) (says : Step) → Receives old from packet says new → Sound ip arrivals old → Sound ip (arrivals ++ (from, packet) ∷ []) new
goes_on ip arrivals old new from packet Ignored r s = stays ip arrivals old new (from, packet) r.0 s
goes_on ip arrivals old new from packet (Stranger to) r s = stays ip arrivals old new (from, packet) r.0 s
goes_on ip arrivals old new from packet (Again to n) r s = stays ip arrivals old new (from, packet) r.0 s
goes_on ip arrivals old new from packet (Refused code_no) r s = ends ip arrivals old new (from, packet) r.0 s
goes_on ip arrivals old new from packet (Over got) r s = takes ip arrivals old new from packet r.0.body true r.0.brings (λ f. absurd cc) r.1 s
goes_on ip arrivals old new from packet (Took to n last) r s =
    takes ip arrivals old new from packet r.0.body last r.0.brings (λ f. omega (arith, r.0.brings.fits, ltb-false (length r.0.body) 512 (sym r.0.short ∙ f))) r.1 s

pub sound : {ip : ℕ} {arrivals : List Arrival} {now : Reception} → Run ip arrivals now → Sound ip arrivals now
sound run_begins = record { server = refl; source = 0; peer = inl (refl, refl); holds = holds_none []; whole = λ f. tt }
sound {ip} (run_goes_on {arrivals} {old} {new} run from packet says r) = goes_on ip arrivals old new from packet says r (sound run)

pub taken_in_order : TakenInOrder
taken_in_order ip arrivals now run = let s = sound run in (s.source, s.holds)

pub whole_until_the_end : WholeUntilTheEnd
whole_until_the_end ip arrivals now run going = (sound run).whole going

-- the blocks held are the file's where the arrivals are
carried : (file : List ℕ) {s : Addr} {n : ℕ} {arrivals : List Arrival} {bodies : List (List ℕ)} → Holds s n arrivals bodies → Carries file s.ip arrivals → AreBlocksOf file n bodies
carried file (holds_none arrivals) c = tt
carried file {n = n} (holds_block from body i p later) c = (c.0 i n body refl, carried file later c.1)
carried file (holds_other a later) c = carried file later c.1

pub taken_is_the_file : TakenIsTheFile
taken_is_the_file file ip arrivals now run c =
    let blocks : AreBlocksOf file 1 now.blocks = carried file (sound run).holds c in
    (blocks, λ short. blocks_are_the_file file now.blocks blocks short)
