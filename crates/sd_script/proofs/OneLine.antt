-- A line leads to one draft.
use Rattle.std.proofs.Common.{◌≡◌, ◌≢◌, ℕ, ◌-◌, ◌<◌, cond, List, [], ◌∷◌, length, get_or, refl, ap, sym, ◌∙◌, subst, inl, inr, arith}
use Rattle.std.specs.Prelude.{codes}
use Rattle.std.specs.List.{AllZip, onto_first}
use Rattle.std.specs.Str.{bytes_eq}
use Rattle.sd_script.specs.declared.draft.Draft.{Draft}
use Rattle.sd_script.specs.declared.draft.Word.{Word}
use Rattle.sd_script.specs.declared.draft.Word.TheVariants as words
use Rattle.sd_config.specs.declared.command.Command.{Command}
use Rattle.sd_config.specs.declared.command.Command.TheVariants as commands
use Rattle.sd_config.specs.declared.events.PlannedFault.{PlannedFault}
use Rattle.sd_config.specs.declared.events.PlannedFault.TheVariants as planned
use Rattle.sd_text.specs.Texts.{Text, fields, IsNumber, IsIp, IsAddr}
use Rattle.sd_text.specs.Runs.{IsRuns}
use Rattle.sd_script.specs.Lines.{IsMachine, LifeLine, TriesLine, WaitLine, PagesLine, ServerLine, ClientLine, IsDelays, FateLine, StrangerLine, FaultLine, fault_word, fault_number, AddsCommand, WaitCommandLine}
use Rattle.sd_script.specs.Grammar.{spelling, WordLine, IsSkipped, IsWordLine, IsLine}
use Rattle.sd_text.proofs.Exits.{firsts, others}
use Rattle.sd_text.proofs.NumberLemmas.{one_number, same_number}
use Rattle.sd_text.proofs.PacketLemmas.{one_addr}
use Rattle.sd_text.proofs.ItemLemmas.{one_runs}
use Rattle.sd_script.proofs.MachineLemmas.{one_machine}
use Rattle.sd_text.proofs.MacLemmas.{one_ip}
use Rattle.sd_script.proofs.DelayLemmas.{zip-at, no_number}
use Rattle.sd_script.proofs.JudgeLemmas.{not_in_heading}
use Rattle.sd_script.proofs.OneConfigLine.{arch_one, host_one, params_one, tftp_one, root_one, file_one, link_one, kernel_one, swap_one}

-- equal fields have equal values

same_ip : {f g : Text} (m n : ℕ) → f ≡ g → IsIp f m → IsIp g n → m ≡ n
same_ip {f} {g} m n e x y = one_ip g m n (subst (λ (t : Text). IsIp t m) e x) y

life_one : (old : Draft) (args : List Text) (a b : Draft) → LifeLine old args a → LifeLine old args b → a ≡ b
life_one old args a b x y =
    let same = same_number 2 10000 x.life y.life (firsts (sym x.text ∙ y.text)) x.number y.number in
    x.means ∙ rw same (sym y.means)

tries_one : (old : Draft) (args : List Text) (a b : Draft) → TriesLine old args a → TriesLine old args b → a ≡ b
tries_one old args a b x y =
    let same = same_number 1 64 x.tries y.tries (firsts (sym x.text ∙ y.text)) x.number y.number in
    x.means ∙ rw same (sym y.means)

wait_one : (old : Draft) (args : List Text) (a b : Draft) → WaitLine old args a → WaitLine old args b → a ≡ b
wait_one old args a b x y =
    let same = same_number 1 1000 x.wait y.wait (firsts (sym x.text ∙ y.text)) x.number y.number in
    x.means ∙ rw same (sym y.means)

pages_one : (old : Draft) (args : List Text) (a b : Draft) → PagesLine old args a → PagesLine old args b → a ≡ b
pages_one old args a b x y =
    let same = same_number 1 4095 x.pages y.pages (firsts (sym x.text ∙ y.text)) x.number y.number in
    x.means ∙ rw same (sym y.means)

server_one : (old : Draft) (args : List Text) (a b : Draft) → ServerLine old args a → ServerLine old args b → a ≡ b
server_one old args a b x y =
    let e = sym x.text ∙ y.text in
    let here : IsMachine y.mac y.ip y.name x.server = rw (firsts e, firsts (others e), firsts (others (others e))) at x.machine in
    let same = one_machine y.mac y.ip y.name x.server y.server here y.machine in
    x.means ∙ rw same (sym y.means)

client_one : (old : Draft) (args : List Text) (a b : Draft) → ClientLine old args a → ClientLine old args b → a ≡ b
client_one old args a b x y =
    let e = sym x.text ∙ y.text in
    let here : IsMachine y.mac y.ip y.name x.client = rw (firsts e, firsts (others e), firsts (others (others e))) at x.machine in
    let same = one_machine y.mac y.ip y.name x.client y.client here y.machine in
    let domain : x.domain ≡ y.domain = firsts (others (others (others e))) in
    let router = same_ip x.router y.router (firsts (others (others (others (others e))))) x.is_router y.is_router in
    x.means ∙ rw (same, domain, router) (sym y.means)

delays_zip : (most : ℕ) (args : List Text) (a b : List ℕ) → AllZip (IsNumber 1 most) args a → AllZip (IsNumber 1 most) args b → a ≡ b
delays_zip most [] [] [] x y = refl
delays_zip most [] [] (n ∷ b) x y = absurd y
delays_zip most [] (m ∷ a) b x y = absurd x
delays_zip most (text ∷ args) [] b x y = absurd x
delays_zip most (text ∷ args) (m ∷ a) [] x y = absurd y
delays_zip most (text ∷ args) (m ∷ a) (n ∷ b) x y =
    let first = one_number 1 most text m n x.0 y.0 in
    let rest = delays_zip most args a b x.1 y.1 in
    rw (first, rest) refl

none_or_some : (life : ℕ) (args : List Text) (b : List ℕ) → args ≡ codes "none" ∷ [] → AllZip (IsNumber 1 (life - 1)) args b → ⊥
none_or_some life args b e zip = let at = zip-at (IsNumber 1 (life - 1)) [] (codes "none") [] b (rw e at zip) in no_number (life - 1) at.0 (codes "none") refl at.1

delays_one : (life : ℕ) {f g : List Text} (a b : List ℕ) → f ≡ g → IsDelays life f a → IsDelays life g b → a ≡ b
delays_one life {f} {g} a b e x y = elim x [
  | inl none ↦ elim y [ inl none' ↦ none.1 ∙ sym none'.1 | inr some ↦ absurd (none_or_some life g b (sym e ∙ none.0) some.2) ]
  | inr some ↦ elim y [
    | inl none ↦ absurd (none_or_some life f a (e ∙ none.0) some.2)
    | inr some' ↦ delays_zip (life - 1) g a b (subst (λ (t : List Text). AllZip (IsNumber 1 (life - 1)) t a) e some.2) some'.2
  ]
]

fate_one : (old : Draft) (args : List Text) (a b : Draft) → FateLine old args a → FateLine old args b → a ≡ b
fate_one old args a b x y =
    let e = sym x.text ∙ y.text in
    let id : x.fate.id ≡ y.fate.id = same_number 0 4294967295 x.fate.id y.fate.id (firsts e) x.is_id y.is_id in
    let delays : x.fate.delays ≡ y.fate.delays = delays_one old.config.life x.fate.delays y.fate.delays (others e) x.are_delays y.are_delays in
    let same : x.fate ≡ y.fate = λ k. record { id = id k; delays = delays k } in
    x.means ∙ rw same (sym y.means)

stranger_one : (old : Draft) (args : List Text) (a b : Draft) → StrangerLine old args a → StrangerLine old args b → a ≡ b
stranger_one old args a b x y =
    let e = sym x.text ∙ y.text in
    let after_tick = others e in
    let after_from = others after_tick in
    let tick : x.stranger.tick ≡ y.stranger.tick = same_number 1 4294967295 x.stranger.tick y.stranger.tick (firsts e) x.is_tick y.is_tick in
    let src : x.stranger.src ≡ y.stranger.src = one_addr y.from x.stranger.src y.stranger.src (subst (λ (t : Text). IsAddr t x.stranger.src) (firsts after_tick) x.is_src) y.is_src in
    let dst : x.stranger.dst ≡ y.stranger.dst = one_addr y.to x.stranger.dst y.stranger.dst (subst (λ (t : Text). IsAddr t x.stranger.dst) (firsts after_from) x.is_dst) y.is_dst in
    let body : x.stranger.body ≡ y.stranger.body = one_runs y.body x.stranger.body y.stranger.body (subst (λ (t : Text). IsRuns t x.stranger.body) (firsts (others after_from)) x.is_body.is) y.is_body.is in
    let same : x.stranger ≡ y.stranger = λ k. record { tick = tick k; src = src k; dst = dst k; body = body k } in
    x.means ∙ rw same (sym y.means)

same_fault : (a b : PlannedFault) → fault_word a ≡ fault_word b → fault_number a ≡ fault_number b → a ≡ b
same_fault (planned.Send m) (planned.Send n) e h = ap planned.Send h
same_fault (planned.Send m) (planned.Recv n) e h = absurd (omega (arith, ap (λ (t : Text). get_or t 0 0) e))
same_fault (planned.Recv m) (planned.Send n) e h = absurd (omega (arith, ap (λ (t : Text). get_or t 0 0) e))
same_fault (planned.Recv m) (planned.Recv n) e h = ap planned.Recv h

fault_one : (old : Draft) (args : List Text) (a b : Draft) → FaultLine old args a → FaultLine old args b → a ≡ b
fault_one old args a b x y =
    let e = sym x.text ∙ y.text in
    let number = same_number 0 4294967295 (fault_number x.fault) (fault_number y.fault) (firsts (others e)) x.is_number y.is_number in
    let same : x.fault ≡ y.fault = same_fault x.fault y.fault (firsts e) number in
    x.means ∙ rw same (sym y.means)

adds_one : (old : Draft) (c d : Command) (a b : Draft) → c ≡ d → AddsCommand old c a → AddsCommand old d b → a ≡ b
adds_one old c d a b same x y = x.means ∙ rw same (sym y.means)

wait_command_one : (old : Draft) (args : List Text) (a b : Draft) → WaitCommandLine old args a → WaitCommandLine old args b → a ≡ b
wait_command_one old args a b x y =
    let same = same_number 1 100000 x.ticks y.ticks (firsts (sym x.text ∙ y.text)) x.number y.number in
    adds_one old _ _ a b (ap commands.Wait same) x.adds y.adds

-- one word, one rule
word_one : (word : Word) (old : Draft) (args : List Text) (a b : Draft) → WordLine word old args a → WordLine word old args b → a ≡ b
word_one words.Life old args a b x y = life_one old args a b x y
word_one words.Tries old args a b x y = tries_one old args a b x y
word_one words.Wait old args a b x y = elim x [
  | inl h ↦ elim y [ inl k ↦ wait_one old args a b h k | inr k ↦ absurd (not_in_heading old h.place k.adds.place) ]
  | inr h ↦ elim y [ inl k ↦ absurd (not_in_heading old k.place h.adds.place) | inr k ↦ wait_command_one old args a b h k ]
]
word_one words.Pages old args a b x y = pages_one old args a b x y
word_one words.Server old args a b x y = server_one old args a b x y
word_one words.Client old args a b x y = client_one old args a b x y
word_one words.Arch old args a b x y = arch_one old args a b x y
word_one words.Host old args a b x y = host_one old args a b x y
word_one words.Params old args a b x y = params_one old args a b x y
word_one words.Tftp old args a b x y = tftp_one old args a b x y
word_one words.Root old args a b x y = root_one old args a b x y
word_one words.File old args a b x y = file_one old args a b x y
word_one words.Link old args a b x y = link_one old args a b x y
word_one words.Kernel old args a b x y = kernel_one old args a b x y
word_one words.Swap old args a b x y = swap_one old args a b x y
word_one words.Fate old args a b x y = fate_one old args a b x y
word_one words.Stranger old args a b x y = stranger_one old args a b x y
word_one words.Fault old args a b x y = fault_one old args a b x y
word_one words.Addr old args a b x y = adds_one old commands.Addr commands.Addr a b refl x.adds y.adds
word_one words.Boot old args a b x y = adds_one old commands.Boot commands.Boot a b refl x.adds y.adds

-- a word is known by its spelling

abbrev word_at : Text → Word
word_at text =
    cond (bytes_eq text (codes "life")) words.Life (cond (bytes_eq text (codes "tries")) words.Tries (cond (bytes_eq text (codes "wait")) words.Wait
    (cond (bytes_eq text (codes "pages")) words.Pages (cond (bytes_eq text (codes "server")) words.Server (cond (bytes_eq text (codes "client")) words.Client
    (cond (bytes_eq text (codes "arch")) words.Arch (cond (bytes_eq text (codes "host")) words.Host (cond (bytes_eq text (codes "params")) words.Params (cond (bytes_eq text (codes "tftp")) words.Tftp (cond (bytes_eq text (codes "root")) words.Root
    (cond (bytes_eq text (codes "file")) words.File (cond (bytes_eq text (codes "link")) words.Link (cond (bytes_eq text (codes "kernel")) words.Kernel
    (cond (bytes_eq text (codes "swap")) words.Swap (cond (bytes_eq text (codes "fate")) words.Fate
    (cond (bytes_eq text (codes "stranger")) words.Stranger (cond (bytes_eq text (codes "fault")) words.Fault (cond (bytes_eq text (codes "addr")) words.Addr words.Boot))))))))))))))))))

word_back : (word : Word) → word_at (spelling word) ≡ word
word_back words.Life = refl
word_back words.Tries = refl
word_back words.Wait = refl
word_back words.Pages = refl
word_back words.Server = refl
word_back words.Client = refl
word_back words.Arch = refl
word_back words.Host = refl
word_back words.Params = refl
word_back words.Tftp = refl
word_back words.Root = refl
word_back words.File = refl
word_back words.Link = refl
word_back words.Kernel = refl
word_back words.Swap = refl
word_back words.Fate = refl
word_back words.Stranger = refl
word_back words.Fault = refl
word_back words.Addr = refl
word_back words.Boot = refl

pub one_word : (a b : Word) → spelling a ≡ spelling b → a ≡ b
one_word a b e = sym (word_back a) ∙ ap word_at e ∙ word_back b

-- no word is empty or begins with `#`
word_starts : (word : Word) → (0 < length (spelling word)) × (get_or (spelling word) 0 0 ≢ 35)
word_starts words.Life = (omega arith, λ e. omega (arith, e))
word_starts words.Tries = (omega arith, λ e. omega (arith, e))
word_starts words.Wait = (omega arith, λ e. omega (arith, e))
word_starts words.Pages = (omega arith, λ e. omega (arith, e))
word_starts words.Server = (omega arith, λ e. omega (arith, e))
word_starts words.Client = (omega arith, λ e. omega (arith, e))
word_starts words.Arch = (omega arith, λ e. omega (arith, e))
word_starts words.Host = (omega arith, λ e. omega (arith, e))
word_starts words.Params = (omega arith, λ e. omega (arith, e))
word_starts words.Tftp = (omega arith, λ e. omega (arith, e))
word_starts words.Root = (omega arith, λ e. omega (arith, e))
word_starts words.File = (omega arith, λ e. omega (arith, e))
word_starts words.Link = (omega arith, λ e. omega (arith, e))
word_starts words.Kernel = (omega arith, λ e. omega (arith, e))
word_starts words.Swap = (omega arith, λ e. omega (arith, e))
word_starts words.Fate = (omega arith, λ e. omega (arith, e))
word_starts words.Stranger = (omega arith, λ e. omega (arith, e))
word_starts words.Fault = (omega arith, λ e. omega (arith, e))
word_starts words.Addr = (omega arith, λ e. omega (arith, e))
word_starts words.Boot = (omega arith, λ e. omega (arith, e))

onto_starts : (b : ℕ) (parts : List Text) (x : Text) (xs : List Text) → onto_first b parts ≡ x ∷ xs → get_or x 0 0 ≡ b
onto_starts b [] x xs e = ap (λ (t : Text). get_or t 0 0) (sym (firsts e))
onto_starts b (part ∷ parts) x xs e = ap (λ (t : Text). get_or t 0 0) (sym (firsts e))

not_skipped : (old : Draft) (line : Text) (new : Draft) → IsSkipped line → IsWordLine old line new → ⊥
not_skipped old [] new s w = omega (arith, (word_starts w.word).0, ap length (firsts w.text))
not_skipped old (b ∷ line) new s w =
    let shown : fields (35 ∷ line) ≡ spelling w.word ∷ w.args = rw s at w.text in
    (word_starts w.word).1 (onto_starts 35 (fields line) (spelling w.word) w.args shown)

pub line_one : (old : Draft) (line : Text) (a b : Draft) → IsLine old line a → IsLine old line b → a ≡ b
line_one old line a b x y = elim x [
  | inl s ↦ elim y [ inl t ↦ s.1 ∙ sym t.1 | inr w ↦ absurd (not_skipped old line b s.0 w) ]
  | inr v ↦ elim y [
    | inl t ↦ absurd (not_skipped old line a t.0 v)
    | inr w ↦
        let e = sym v.text ∙ w.text in
        let word = one_word v.word w.word (firsts e) in
        let args : v.args ≡ w.args = others e in
        word_one w.word old w.args a b (rw (word, args) at v.says) w.says
  ]
]
