-- A file, piece by piece.
use Rattle.std.proofs.Common.{◌≡◌, ℕ, zero, suc, ◌+◌, ◌<◌, ◌≤◌, ◌^◌, min, List, [], ◌∷◌, ◌++◌, length, length-append, take, drop, Ok, refl, sym, ap, subst, ◌∙◌, arith}
use Rattle.sd_outside.specs.declared.fhandle.FHandle.{FHandle}
use Rattle.sd_outside.specs.declared.packet.Addr.{Addr}
use Rattle.sd_nfs_msg.specs.declared.parts.Fattr.{Fattr}
use Rattle.sd_nfs_msg.specs.declared.message.NfsResult.TheVariants as results
use Rattle.sd_config.specs.declared.config.Config.{Config}
use Rattle.sd_config.specs.Config.{IsConfig}
use Rattle.sd_services.specs.declared.node.Standing.{Standing}
use Rattle.sd_services.specs.declared.node.Standing.TheVariants.{File}
use Rattle.sd_services.specs.Files.{exported}
use Rattle.sd_services.specs.Decisions.{bytes_read, root_attributes}
use Rattle.sd_rpc_retry.specs.declared.calling.Answer.TheVariants as answers
use Rattle.sd_rpc_retry.specs.declared.calling.Caller.{Caller}
use Rattle.sd_loader.specs.Walk.{what_at}
use Rattle.sd_loader.specs.Served.{IsServers}
use Rattle.sd_loader.specs.Found.{AreFirstBytes, AreBytesOf}
use Rattle.sd_loader.specs.LoadCalls.{wanted, next_read}
use Rattle.sd_loader.proofs.RootSays.{bytes_are}

take_whole : (n : ℕ) (xs : List ℕ) → length xs ≤ n → take n xs ≡ xs
take_whole zero [] h = refl
take_whole zero (x ∷ xs) h = absurd (omega (arith, h))
take_whole (suc n) [] h = refl
take_whole (suc n) (x ∷ xs) h = ap (λ (l : List ℕ). x ∷ l) (take_whole n xs (omega (arith, h)))

take_more : (n m : ℕ) (xs : List ℕ) → take n xs ++ take m (drop n xs) ≡ take (n + m) xs
take_more zero m xs = ap (λ (k : ℕ). take k xs) (omega arith)
take_more (suc n) m [] = nothing m
  where
    none : List ℕ
    none = []

    nothing : (m : ℕ) → take m none ≡ take (suc n + m) none
    nothing m = take_whole m none (omega arith) ∙ sym (take_whole (suc n + m) none (omega arith))
take_more (suc n) m (x ∷ xs) =
    let same : suc (n + m) ≡ suc n + m = omega arith in
    ap (λ (l : List ℕ). x ∷ l) (take_more n m xs) ∙ ap (λ (k : ℕ). take k (x ∷ xs)) same

same_content : (s : Standing) (a b : List ℕ) → s ≡ File a → s ≡ File b → a ≡ b
same_content s a b p q = cc

-- what the server says to a READ of what comes next is the next piece
pub front_grows : (c : Config) → IsConfig c → (caller : Caller) (dst : Addr) → length caller.machine ≤ 255 → (file : FHandle) (size : ℕ) (old new piece : List ℕ) (attr : Fattr) → size < 2 ^ 32 → length old < size → new ≡ old ++ piece → length piece ≡ wanted size (length old)
    → IsServers c caller dst (next_read file size (length old)) (Ok (answers.Nfs (results.Read attr piece))) → AreFirstBytes c file size old → AreFirstBytes c file size new
front_grows c is caller dst machine file size old new piece attr word more joined long s front number content f stands size_is =
    let at = length old in
    let want = wanted size at in
    let b = bytes_are c is caller dst machine file number f at want attr piece (omega (arith, more, word)) (omega arith) s in
    let same = same_content (what_at (exported c).root number) b.0 content b.1 stands in
    let whole : min want 8192 ≡ want = omega arith in
    let read : piece ≡ take want (drop at content) = b.2 ∙ ap (λ (l : List ℕ). bytes_read l at want) same ∙ ap (λ (n : ℕ). take n (drop at content)) whole in
    let all : length new ≡ at + want = ap length joined ∙ length-append old piece ∙ ap (λ (n : ℕ). at + n) long in
    joined ∙ (λ i. front number content f stands size_is i ++ read i) ∙ take_more at want content ∙ ap (λ (k : ℕ). take k content) (sym all)

pub first_bytes_begin : (c : Config) (file : FHandle) (size : ℕ) (bytes : List ℕ) → bytes ≡ [] → AreFirstBytes c file size bytes
first_bytes_begin c file size bytes none number content f stands size_is = subst (λ (l : List ℕ). l ≡ take (length l) content) (sym none) refl

-- all bytes are those of the file
pub first_bytes_end : (c : Config) (file : FHandle) (attr : Fattr) (bytes : List ℕ) → length bytes ≡ attr.size → AreFirstBytes c file attr.size bytes → AreBytesOf c file attr bytes
first_bytes_end c file attr bytes long front number content f are is =
    let size : attr.size ≡ length content = ap (λ (a : Fattr). a.size) (are ∙ ap (root_attributes number) is) in
    front number content f is (sym size) ∙ take_whole (length bytes) content (omega (arith, long, size))
