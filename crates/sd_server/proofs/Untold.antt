-- What a server sends and keeps over any disk, also one that doesn't tell what it reads.
use Rattle.std.proofs.Common.{◌≡◌, ◌⊎◌, inl, inr, ℕ, ◌+◌, ◌-◌, ◌≤◌, ◌<◌, Bool, true, false, List, [], ◌∷◌, ◌++◌, length, map, take, drop, replicate, Option, Some, None, refl, sym, ap, ◌∙◌, subst, arith}
use Rattle.std.specs.Prelude.{is_some, not, ◌||◌, ◌==◌, slice_index}
use Rattle.std.proofs.lemmas.Bool.{false≢true}
use Rattle.std.proofs.lemmas.List.{length-append, length-replicate}
use Rattle.std.proofs.Math.Seq.{drop-append_seam, take-append_seam}
use Rattle.sd_outside.specs.Ranges.{part}
use Rattle.sd_outside.specs.declared.packet.Packet.{Packet}
use Rattle.sd_stable_disk.specs.Files.{Stored}
use Rattle.sd_config.specs.declared.config.SwapLine.{SwapLine}
use Rattle.sd_config.specs.declared.config.Config.{Config}
use Rattle.sd_services.specs.Part.{ServerPart, swap_files}
use Rattle.sd_services.specs.NfsReply.{file_in, swap_file}
use Rattle.sd_services.specs.Reply.{reply, out_of, next_of, files_after}
use Rattle.sd_server.specs.declared.access.Act.{Act}
use Rattle.sd_server.specs.declared.access.Act.TheVariants as acts
use Rattle.sd_server.specs.declared.access.Access.{Access}
use Rattle.sd_server.specs.declared.replies.Answer.{Answer}
use Rattle.sd_server.specs.declared.replies.Change.{Change as Becomes}
use Rattle.sd_server.specs.declared.replies.Change.TheVariants as changes
use Rattle.sd_server.specs.Sessions.{packets_in, after_change}
use Rattle.sd_server.specs.State.{Volatile, part_with, volatile_of}
use Rattle.sd_server.specs.Deciding.{IsNow, IsLater, body_by, volatile_after}
use Rattle.sd_server.specs.Access.{sizes_of, ActFits, datagram}
use Rattle.sd_server.specs.Standing.{Accessed, Goes}

-- ---- a file that reads as these bytes

-- zeros, but for these bytes from a place on
pub content_with : ℕ → ℕ → List ℕ → List ℕ
content_with size at bytes = replicate at 0 ++ (bytes ++ replicate (size - (at + length bytes)) 0)

pub content_long : (size at : ℕ) (bytes : List ℕ) → at + length bytes ≤ size → length (content_with size at bytes) ≡ size
unfolding content_with
content_long size at bytes le =
    let zeros : List ℕ = replicate at 0 in
    let more : List ℕ = replicate (size - (at + length bytes)) 0 in
    let one : length zeros ≡ at = length-replicate {A = ℕ} at 0 in
    let two : length more ≡ size - (at + length bytes) = length-replicate {A = ℕ} (size - (at + length bytes)) 0 in
    omega (arith, le, one, two, length-append zeros (bytes ++ more), length-append bytes more)

pub content_part : (size at : ℕ) (bytes : List ℕ) → part at (length bytes) (content_with size at bytes) ≡ bytes
unfolding part content_with
content_part size at bytes =
    let zeros : List ℕ = replicate at 0 in
    let more : List ℕ = replicate (size - (at + length bytes)) 0 in
    let one : length zeros ≡ at = length-replicate {A = ℕ} at 0 in
    ap (λ (n : ℕ). take (length bytes) (drop n (zeros ++ (bytes ++ more)))) (sym one)
    ∙ ap (take (length bytes)) (drop-append_seam zeros (bytes ++ more))
    ∙ take-append_seam bytes more

-- ---- files of the configured sizes

abbrev files_with : Option SwapLine → List ℕ → List (List ℕ)
files_with None content = []
files_with (Some line) content = content ∷ []

files_sized : (line : Option SwapLine) (content : List ℕ) → length content ≡ slice_index (map (λ file. length file) (swap_files line)) swap_file → map (λ file. length file) (files_with line content) ≡ map (λ file. length file) (swap_files line)
files_sized None content long = refl
files_sized (Some line) content long = ap (λ (n : ℕ). n ∷ []) long

same_body : (line : Option SwapLine) (content : List ℕ) (act : Act) (done : List ℕ) → ActFits (map (λ file. length file) (swap_files line)) act → body_by act done content ≡ body_by act done (file_in (files_with line content) swap_file)
same_body line content acts.Nothing done fits = refl
same_body line content (acts.Write at bytes) done fits = refl
same_body (Some line) content (acts.Read at buffer) done fits = refl
same_body None content (acts.Read at buffer) done fits =
    let no_file : 0 < 0 = fits.0 in
    absurd (omega (arith, no_file))

-- ---- an access

pub goes_later : {D : Type 0} (seen : D → Option (List ℕ)) (may_leave : D → List ℕ → Type 0) (c : Config) (tick : ℕ) (packet : Packet) (v : Volatile) (old new : Stored D) (a : Access) (out : List Packet) (faulted : Bool) (damaged : Option ℕ)
    → IsLater c v tick packet a → Accessed seen may_leave c a old new out faulted damaged → Goes c tick packet v out (faulted || is_some damaged) v
goes_later seen may_leave c tick packet v old new a out faulted damaged later d = of d.which
  where
    failing : (faulted : Bool) (damaged : Option ℕ) → faulted ≡ not (is_some damaged) → (faulted || is_some damaged) ≡ true
    failing true damaged is = refl
    failing false (Some place) is = refl
    failing false None is = absurd (false≢true is)

    of : (d.status ≡ 0) ⊎ (d.status ≡ 5) → Goes c tick packet v out (faulted || is_some damaged) v
    of (inl zero_is) =
        let x = d.some zero_is in
        let calm = d.done zero_is in
        let stored = files_with c.swap x.0 in
        let sized : map (λ file. length file) stored ≡ sizes_of c = files_sized c.swap x.0 x.1 in
        let told : (faulted || is_some damaged) ≡ false = λ i. calm.0 i || is_some (calm.1 i) in
        subst (λ (b : Bool). Goes c tick packet v out b v) (sym told)
        (stored, sized, x.2 ∙ ap (λ (bs : List ℕ). datagram c a.to bs ∷ []) (same_body c.swap x.0 a.act a.done later.range) ∙ sym (later.gives stored sized), sym (ap volatile_of (later.next stored)))
    of (inr five_is) =
        let fail = d.failed five_is in
        subst (λ (b : Bool). Goes c tick packet v out b v) (sym (failing faulted damaged fail.0))
        (later.swap, fail.1 ∙ sym later.fails, refl)

-- ---- what needs no file

pub goes_now : (c : Config) (tick : ℕ) (packet : Packet) (v : Volatile) (a : Answer) → IsNow c v tick packet a → Goes c tick packet v (packets_in a.out) false (volatile_after c v a.change)
goes_now c tick packet v a now =
    let stored = swap_files c.swap in
    let answers = now.answers stored refl in
    (stored, refl, answers.out, of a.change ∙ ap volatile_of answers.next)
  where
    of : (change : Becomes) → volatile_after c v change ≡ volatile_of (after_change c (part_with v (swap_files c.swap)) change)
    of changes.Stays = refl
    of (changes.Begins x) = refl
    of (changes.Moves x) = refl
    of (changes.Ends number) = refl
    of (changes.Mounts host path) = refl
    of (changes.Unmounts host path) = refl
    of (changes.Leaves host) = refl
