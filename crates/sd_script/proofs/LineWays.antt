-- Whether a line leads on from a draft: it leads to one, or to none.
use Rattle.std.proofs.Common.{◌≡◌, ◌≢◌, ◌⊎◌, ℕ, ◌+◌, ◌<◌, ◌^◌, List, [], ◌∷◌, ◌++◌, length, Some, refl, sym, ap, subst, ◌∙◌, arith, inl, inr}
use Rattle.std.proofs.lemmas.Bool.{cases_eq}
use Rattle.sd_bootparams.specs.declared.book.Host.{Host}
use Rattle.sd_bootparams.specs.Contents.{Contents}
use Rattle.sd_bootparams.specs.declared.draft.Draft as file
use Rattle.sd_bootparams.specs.File.{Part, adding, fault, IsFaultless}
use Rattle.sd_bootparams.specs.LineByLine.{fed, line_parts, after_line}
use Rattle.sd_bootparams.proofs.Follow.{faultless_none, faultless_cons, faultless_head, faultless_tail}
use Rattle.sd_config.specs.declared.config.Config.{Config}
use Rattle.sd_config.specs.declared.config.Machine.{Machine}
use Rattle.sd_config.specs.declared.config.BootFile.{BootFile}
use Rattle.sd_config.specs.declared.config.RootItem.{RootItem}
use Rattle.sd_config.specs.declared.config.RootItem.TheVariants.{File, Symlink}
use Rattle.sd_config.specs.declared.config.SwapLine.{SwapLine}
use Rattle.sd_config.specs.declared.command.Command.{Command}
use Rattle.sd_config.specs.declared.command.Command.TheVariants as commands
use Rattle.sd_config.specs.Commands.{command_limit}
use Rattle.sd_config.specs.Config.{IsName, boot_file_limit, IsPath, IsTarget, AreApart, item_path}
use Rattle.sd_outside.specs.declared.packet.Mac.{Mac}
use Rattle.sd_script.specs.declared.draft.Section.TheVariants as sections
use Rattle.sd_script.specs.declared.draft.Draft.{Draft}
use Rattle.sd_script.specs.declared.draft.Word.{Word}
use Rattle.sd_script.specs.declared.draft.Word.TheVariants as words
use Rattle.sd_text.specs.Texts.{Text, fields, IsNumber, IsMac, IsIp}
use Rattle.sd_text.specs.Runs.{IsRunsWithin}
use Rattle.sd_text.proofs.Exits.{firsts, others}
use Rattle.sd_text.proofs.NumberLemmas.{one_number}
use Rattle.sd_text.proofs.ItemLemmas.{one_runs}
use Rattle.sd_script.specs.Limits.{all_files_limit, host_limit, params_limit}
use Rattle.sd_script.specs.Lines.{with_config, with_host, with_params, with_boot_file, with_item, with_command, MayBeCommand, LifeLine, TriesLine, WaitLine, PagesLine, IsMachine, Differ, ServerLine, ClientLine, ArchLine, MayAddHost, HostLine, spaced, IsRest, ParamsLine, HasRoom, MayAddBootFile, TftpLine, MayBeRoot, RootLine, MayAddItem, FileLine, LinkLine, KernelLine, MayBeSwap, SwapFileLine, AddsCommand, AddrLine, BootLine, WaitCommandLine}
use Rattle.sd_script.specs.Grammar.{spelling, WordLine, IsSkipped, IsWordLine, IsLine}
use Rattle.sd_text.proofs.Deciding.{Settled, Way, both, not_so, as_well, le_settled, lt_settled, text_settled, all_settled, some_settled, none_settled, empty_settled, number_way, mac_way, run_way, ip_way}
use Rattle.sd_text.proofs.MacLemmas.{one_ip}
use Rattle.sd_script.proofs.Deciding.{name_settled, target_settled, path_settled, apart_settled}
use Rattle.sd_script.proofs.MachineLemmas.{one_machine}
use Rattle.sd_script.proofs.OneLine.{one_word}
use Rattle.sd_script.proofs.Sections.{section_settled, command_settled}
use Rattle.sd_script.proofs.EventWays.{fate_way, stranger_way, fault_way}

-- ---- lines of one number

life_way : (old : Draft) (args : List Text) → Way (LifeLine old args)
life_way old [] = inr (λ new h. absurd (omega (arith, ap length h.text)))
life_way old (a ∷ b ∷ more) = inr (λ new h. absurd (omega (arith, ap length h.text)))
life_way old (f ∷ []) = of (number_way 2 10000 f) (section_settled old.section sections.Life)
  where
    of : Way (IsNumber 2 10000 f) → Settled (old.section ≡ sections.Life) → Way (LifeLine old (f ∷ []))
    of (inl n) (inl at) = inl (with_config old sections.Tries (record old.config { life = n.0 }), record { life = n.0; field = f; text = refl; number = n.1; place = at; means = refl })
    of (inr none) at = inr (λ new h. none h.life (subst (λ (t : Text). IsNumber 2 10000 t h.life) (sym (firsts h.text)) h.number))
    of (inl n) (inr other) = inr (λ new h. other h.place)

tries_way : (old : Draft) (args : List Text) → Way (TriesLine old args)
tries_way old [] = inr (λ new h. absurd (omega (arith, ap length h.text)))
tries_way old (a ∷ b ∷ more) = inr (λ new h. absurd (omega (arith, ap length h.text)))
tries_way old (f ∷ []) = of (number_way 1 64 f) (section_settled old.section sections.Tries)
  where
    of : Way (IsNumber 1 64 f) → Settled (old.section ≡ sections.Tries) → Way (TriesLine old (f ∷ []))
    of (inl n) (inl at) = inl (with_config old sections.Wait (record old.config { tries = n.0 }), record { tries = n.0; field = f; text = refl; number = n.1; place = at; means = refl })
    of (inr none) at = inr (λ new h. none h.tries (subst (λ (t : Text). IsNumber 1 64 t h.tries) (sym (firsts h.text)) h.number))
    of (inl n) (inr other) = inr (λ new h. other h.place)

wait_way : (old : Draft) (args : List Text) → Way (WaitLine old args)
wait_way old [] = inr (λ new h. absurd (omega (arith, ap length h.text)))
wait_way old (a ∷ b ∷ more) = inr (λ new h. absurd (omega (arith, ap length h.text)))
wait_way old (f ∷ []) = of (number_way 1 1000 f) (section_settled old.section sections.Wait)
  where
    of : Way (IsNumber 1 1000 f) → Settled (old.section ≡ sections.Wait) → Way (WaitLine old (f ∷ []))
    of (inl n) (inl at) = inl (with_config old sections.Pages (record old.config { wait = n.0 }), record { wait = n.0; field = f; text = refl; number = n.1; place = at; means = refl })
    of (inr none) at = inr (λ new h. none h.wait (subst (λ (t : Text). IsNumber 1 1000 t h.wait) (sym (firsts h.text)) h.number))
    of (inl n) (inr other) = inr (λ new h. other h.place)

pages_way : (old : Draft) (args : List Text) → Way (PagesLine old args)
pages_way old [] = inr (λ new h. absurd (omega (arith, ap length h.text)))
pages_way old (a ∷ b ∷ more) = inr (λ new h. absurd (omega (arith, ap length h.text)))
pages_way old (f ∷ []) = of (number_way 1 4095 f) (section_settled old.section sections.Pages)
  where
    of : Way (IsNumber 1 4095 f) → Settled (old.section ≡ sections.Pages) → Way (PagesLine old (f ∷ []))
    of (inl n) (inl at) = inl (with_config old sections.Server (record old.config { pages = n.0 }), record { pages = n.0; field = f; text = refl; number = n.1; place = at; means = refl })
    of (inr none) at = inr (λ new h. none h.pages (subst (λ (t : Text). IsNumber 1 4095 t h.pages) (sym (firsts h.text)) h.number))
    of (inl n) (inr other) = inr (λ new h. other h.place)

-- ---- machines

machine_way : (mac ip name : Text) → Way (IsMachine mac ip name)
machine_way mac ip name = of (mac_way mac) (ip_way ip) (name_settled name)
  where
    by_range : (m : Mac) (n : ℕ) → IsMac mac m → IsIp ip n → IsName name → Settled ((0 < n) × (n + 1 < 2 ^ 32)) → Way (IsMachine mac ip name)
    by_range m n is_mac is_ip is_name (inl r) = inl (record { mac = m; ip = n; name = name }, record { is_mac = is_mac; is_ip = is_ip; least = r.0; most = r.1; is_name = is_name; same_name = refl })
    by_range m n is_mac is_ip is_name (inr other) = inr (λ k h. let same = one_ip ip k.ip n h.is_ip is_ip in other (omega (arith, same, h.least), omega (arith, same, h.most)))

    of : Way (IsMac mac) → Way (IsIp ip) → Settled (IsName name) → Way (IsMachine mac ip name)
    of (inl m) (inl n) (inl is) = by_range m.0 n.0 m.1 n.1 is (both (lt_settled 0 n.0) (lt_settled (n.0 + 1) (2 ^ 32)))
    of (inr none) n is = inr (λ k h. none k.mac h.is_mac)
    of (inl m) (inr none) is = inr (λ k h. none k.ip h.is_ip)
    of (inl m) (inl n) (inr other) = inr (λ k h. other h.is_name)

mac_settled : (a b : Mac) → Settled (a ≡ b)
mac_settled a b = as_well (λ e i. record { 0 = e i }) (λ e. ap (λ (m : Mac). m.0) e) (text_settled a.0 b.0)

differ_settled : (a b : Machine) → Settled (Differ a b)
differ_settled a b = as_well (λ h. record { mac = h.0; ip = h.1.0; name = h.1.1 }) (λ h. (h.mac, (h.ip, h.name)))
    (both (not_so (mac_settled a.mac b.mac)) (both (not_so (cases_eq a.ip b.ip)) (not_so (text_settled a.name b.name))))

server_way : (old : Draft) (args : List Text) → Way (ServerLine old args)
server_way old [] = inr (λ new h. absurd (omega (arith, ap length h.text)))
server_way old (a ∷ []) = inr (λ new h. absurd (omega (arith, ap length h.text)))
server_way old (a ∷ b ∷ []) = inr (λ new h. absurd (omega (arith, ap length h.text)))
server_way old (a ∷ b ∷ c ∷ d ∷ more) = inr (λ new h. absurd (omega (arith, ap length h.text)))
server_way old (mac ∷ ip ∷ name ∷ []) = of (machine_way mac ip name) (section_settled old.section sections.Server)
  where
    of : Way (IsMachine mac ip name) → Settled (old.section ≡ sections.Server) → Way (ServerLine old (mac ∷ ip ∷ name ∷ []))
    of (inl m) (inl at) = inl (with_config old sections.Client (record old.config { server = m.0 }), record { server = m.0; mac = mac; ip = ip; name = name; text = refl; place = at; machine = m.1; means = refl })
    of (inr none) at = inr (λ new h. let e = sym h.text in none h.server (rw (firsts e, firsts (others e), firsts (others (others e))) at h.machine))
    of (inl m) (inr other) = inr (λ new h. other h.place)

client_way : (old : Draft) (args : List Text) → Way (ClientLine old args)
client_way old [] = inr (λ new h. absurd (omega (arith, ap length h.text)))
client_way old (a ∷ []) = inr (λ new h. absurd (omega (arith, ap length h.text)))
client_way old (a ∷ b ∷ []) = inr (λ new h. absurd (omega (arith, ap length h.text)))
client_way old (a ∷ b ∷ c ∷ []) = inr (λ new h. absurd (omega (arith, ap length h.text)))
client_way old (a ∷ b ∷ c ∷ d ∷ []) = inr (λ new h. absurd (omega (arith, ap length h.text)))
client_way old (a ∷ b ∷ c ∷ d ∷ e ∷ f ∷ more) = inr (λ new h. absurd (omega (arith, ap length h.text)))
client_way old (mac ∷ ip ∷ name ∷ domain ∷ router ∷ []) = of (machine_way mac ip name) (name_settled domain) (ip_way router) (section_settled old.section sections.Client)
  where
    here : (new : Draft) (h : ClientLine old (mac ∷ ip ∷ name ∷ domain ∷ router ∷ []) new) → IsMachine mac ip name h.client
    here new h = let e = sym h.text in rw (firsts e, firsts (others e), firsts (others (others e))) at h.machine

    by_other : (m : Machine) (n : ℕ) → IsMachine mac ip name m → IsName domain → IsIp router n → old.section ≡ sections.Client → Settled (Differ m old.config.server) → Way (ClientLine old (mac ∷ ip ∷ name ∷ domain ∷ router ∷ []))
    by_other m n is is_name is_ip at (inl apart) = inl (
      with_config old sections.Config (record old.config { client = m; domain = domain; router = n }),
      record { client = m; router = n; mac = mac; ip = ip; name = name; domain = domain; router_ip = router; text = refl; place = at; machine = is; domain_name = is_name; is_router = is_ip; differ = apart; means = refl },
    )
    by_other m n is is_name is_ip at (inr other) = inr (λ new h. other (subst (λ (k : Machine). Differ k old.config.server) (one_machine mac ip name h.client m (here new h) is) h.differ))

    of : Way (IsMachine mac ip name) → Settled (IsName domain) → Way (IsIp router) → Settled (old.section ≡ sections.Client) → Way (ClientLine old (mac ∷ ip ∷ name ∷ domain ∷ router ∷ []))
    of (inl m) (inl is) (inl n) (inl at) = by_other m.0 n.0 m.1 is n.1 at (differ_settled m.0 old.config.server)
    of (inr none) is n at = inr (λ new h. none h.client (here new h))
    of (inl m) (inr other) n at = inr (λ new h. other (subst IsName (sym (firsts (others (others (others h.text))))) h.domain_name))
    of (inl m) (inl is) (inr none) at = inr (λ new h. none h.router (subst (λ (t : Text). IsIp t h.router) (sym (firsts (others (others (others (others h.text)))))) h.is_router))
    of (inl m) (inl is) (inl n) (inr other) = inr (λ new h. other h.place)

-- ---- configuration lines

arch_way : (old : Draft) (args : List Text) → Way (ArchLine old args)
arch_way old [] = inr (λ new h. absurd (omega (arith, ap length h.text)))
arch_way old (a ∷ b ∷ more) = inr (λ new h. absurd (omega (arith, ap length h.text)))
arch_way old (name ∷ []) = of (both (name_settled name) (both (section_settled old.section sections.Config) (empty_settled old.config.arch)))
  where
    of : Settled (IsName name × ((old.section ≡ sections.Config) × (old.config.arch ≡ []))) → Way (ArchLine old (name ∷ []))
    of (inl h) = inl (with_config old sections.Config (record old.config { arch = name }), record { name = name; text = refl; place = h.1.0; is_name = h.0; first = h.1.1; means = refl })
    of (inr other) = inr (λ new h. other (subst IsName (sym (firsts h.text)) h.is_name, (h.place, h.first)))

may_add_host : (config : Config) (name : Text) → Settled (MayAddHost config name)
may_add_host config name = as_well (λ h. record { few = h.0; not_server = h.1.0; not_client = h.1.1.0; others = h.1.1.1 }) (λ h. (h.few, (h.not_server, (h.not_client, h.others))))
    (both (lt_settled (length config.hosts) host_limit) (both (not_so (text_settled config.server.name name)) (both (not_so (text_settled config.client.name name))
    (all_settled (λ (other : Host). other.name ≢ name) (λ other. not_so (text_settled other.name name)) config.hosts))))

host_way : (old : Draft) (args : List Text) → Way (HostLine old args)
host_way old [] = inr (λ new h. absurd (omega (arith, ap length h.text)))
host_way old (a ∷ []) = inr (λ new h. absurd (omega (arith, ap length h.text)))
host_way old (a ∷ b ∷ c ∷ more) = inr (λ new h. absurd (omega (arith, ap length h.text)))
host_way old (name ∷ ip ∷ []) = of (ip_way ip) (both (name_settled name) (both (section_settled old.section sections.Config) (may_add_host old.config name)))
  where
    of : Way (IsIp ip) → Settled (IsName name × ((old.section ≡ sections.Config) × MayAddHost old.config name)) → Way (HostLine old (name ∷ ip ∷ []))
    of (inl n) (inl h) = let host : Host = record { name = name; ip = n.0 } in
        inl (with_host old host, record { host = host; name = name; ip = ip; text = refl; place = h.1.0; is_name = h.0; same_name = refl; is_ip = n.1; may = h.1.1; means = refl })
    of (inr none) h = inr (λ new h. none h.host.ip (subst (λ (t : Text). IsIp t h.host.ip) (sym (firsts (others h.text))) h.is_ip))
    of (inl n) (inr other) = inr (λ new h. let same = sym (firsts h.text) in other (subst IsName same h.is_name, (h.place, subst (λ (t : Text). MayAddHost old.config t) same h.may)))

faultless_settled : (ps : List Part) (old : Contents) → Settled (IsFaultless old ps)
faultless_settled [] old = inl (faultless_none old)
faultless_settled (p ∷ ps) old = as_well (λ h. faultless_cons old p ps h.0 h.1) (λ h. (faultless_head old p ps h, faultless_tail old p ps h)) (both (none_settled (fault old p)) (faultless_settled ps (adding old (p ∷ []))))

-- what a line says of the bootparams file
abbrev said : Draft → Text → List Part
said old line = line_parts old.params.next (old.params_lines + 1) (fed line)

rest_is : (f : Text) (more : List Text) (line : Text) → IsRest (f ∷ more) line → line ≡ f ++ spaced more
rest_is f more line h = h.is ∙ (λ i. firsts (sym h.fields) i ++ spaced (others (sym h.fields) i))

params_way : (old : Draft) (args : List Text) → Way (ParamsLine old args)
params_way old [] = inr (λ new h. absurd (omega (arith, ap length h.text.fields)))
params_way old (f ∷ more) = of (both (section_settled old.section sections.Config) (both (lt_settled old.params_lines params_limit) (faultless_settled (said old (f ++ spaced more)) old.params.params)))
  where
    of : Settled ((old.section ≡ sections.Config) × ((old.params_lines < params_limit) × IsFaultless old.params.params (said old (f ++ spaced more)))) → Way (ParamsLine old (f ∷ more))
    of (inl h) =
        let line = f ++ spaced more in
        let params : file.Draft = record { params = adding old.params.params (said old line); next = after_line old.params.next (fed line) } in
        inl (
          with_params old line params,
          record {
            line = line;
            params = params;
            text = record { field = f; more = more; fields = refl; is = refl };
            place = h.0;
            few = h.1.0;
            says = record { faultless = h.1.1; params = refl; next = refl };
            means = refl;
          },
        )
    of (inr other) = inr (λ new h. other (h.place, (h.few, subst (λ (t : Text). IsFaultless old.params.params (said old t)) (rest_is f more h.line h.text) h.says.faultless)))

may_add_boot_file : (files : List BootFile) (name : Text) → Settled (MayAddBootFile files name)
may_add_boot_file files name = both (lt_settled (length files) 16) (all_settled (λ (other : BootFile). other.name ≢ name) (λ other. not_so (text_settled other.name name)) files)

tftp_way : (old : Draft) (args : List Text) → Way (TftpLine old args)
tftp_way old [] = inr (λ new h. absurd (omega (arith, ap length h.text)))
tftp_way old (a ∷ []) = inr (λ new h. absurd (omega (arith, ap length h.text)))
tftp_way old (a ∷ b ∷ c ∷ more) = inr (λ new h. absurd (omega (arith, ap length h.text)))
tftp_way old (name ∷ bytes ∷ []) = of (run_way boot_file_limit bytes) (both (name_settled name) (both (section_settled old.section sections.Config) (may_add_boot_file old.config.tftp name)))
  where
    by_room : (content : List ℕ) → IsRunsWithin boot_file_limit bytes content → IsName name × ((old.section ≡ sections.Config) × MayAddBootFile old.config.tftp name) → Settled (HasRoom old (length content)) → Way (TftpLine old (name ∷ bytes ∷ []))
    by_room content runs h (inl room) = let boot_file : BootFile = record { name = name; bytes = content } in
        inl (with_boot_file old boot_file, record { file = boot_file; name = name; bytes = bytes; text = refl; place = h.1.0; is_name = h.0; same_name = refl; runs = runs; may = h.1.1; room = room; means = refl })
    by_room content runs h (inr other) = inr (λ new k. other (subst (λ (c : List ℕ). HasRoom old (length c)) (one_runs bytes k.file.bytes content (subst (λ (t : Text). IsRunsWithin boot_file_limit t k.file.bytes) (sym (firsts (others k.text))) k.runs).is runs.is) k.room))

    of : Way (IsRunsWithin boot_file_limit bytes) → Settled (IsName name × ((old.section ≡ sections.Config) × MayAddBootFile old.config.tftp name)) → Way (TftpLine old (name ∷ bytes ∷ []))
    of (inl c) (inl h) = by_room c.0 c.1 h (le_settled (old.bytes + length c.0) all_files_limit)
    of (inr none) h = inr (λ new k. none k.file.bytes (subst (λ (t : Text). IsRunsWithin boot_file_limit t k.file.bytes) (sym (firsts (others k.text))) k.runs))
    of (inl c) (inr other) = inr (λ new k. let same = sym (firsts k.text) in other (subst IsName same k.is_name, (k.place, subst (λ (t : Text). MayAddBootFile old.config.tftp t) same k.may)))

may_be_root : (config : Config) (path : Text) → Settled (MayBeRoot config path)
may_be_root config path = both (none_settled config.root) (some_settled (λ (swap : SwapLine). swap.path ≢ path) (λ swap. not_so (text_settled swap.path path)) config.swap)

root_way : (old : Draft) (args : List Text) → Way (RootLine old args)
root_way old [] = inr (λ new h. absurd (omega (arith, ap length h.text)))
root_way old (a ∷ b ∷ more) = inr (λ new h. absurd (omega (arith, ap length h.text)))
root_way old (path ∷ []) = of (both (path_settled path) (both (section_settled old.section sections.Config) (may_be_root old.config path)))
  where
    of : Settled (IsPath path × ((old.section ≡ sections.Config) × MayBeRoot old.config path)) → Way (RootLine old (path ∷ []))
    of (inl h) = inl (with_config old sections.Config (record old.config { root = Some path }), record { path = path; text = refl; place = h.1.0; is_path = h.0; may = h.1.1; means = refl })
    of (inr other) = inr (λ new k. let same = sym (firsts k.text) in other (subst IsPath same k.is_path, (k.place, subst (λ (t : Text). MayBeRoot old.config t) same k.may)))

may_add_item : (items : List RootItem) (path : Text) → Settled (MayAddItem items path)
may_add_item items path = both (lt_settled (length items) 256) (all_settled (λ (item : RootItem). AreApart (item_path item) path) (λ item. apart_settled (item_path item) path) items)

file_way : (old : Draft) (args : List Text) → Way (FileLine old args)
file_way old [] = inr (λ new h. absurd (omega (arith, ap length h.text)))
file_way old (a ∷ []) = inr (λ new h. absurd (omega (arith, ap length h.text)))
file_way old (a ∷ b ∷ c ∷ more) = inr (λ new h. absurd (omega (arith, ap length h.text)))
file_way old (path ∷ bytes ∷ []) = of (run_way 33554432 bytes) (both (path_settled path) (both (section_settled old.section sections.Config) (may_add_item old.config.items path)))
  where
    by_room : (content : List ℕ) → IsRunsWithin 33554432 bytes content → IsPath path × ((old.section ≡ sections.Config) × MayAddItem old.config.items path) → Settled (HasRoom old (length content)) → Way (FileLine old (path ∷ bytes ∷ []))
    by_room content runs h (inl room) = inl (with_item old (File path content), record { path = path; content = content; bytes = bytes; text = refl; place = h.1.0; is_path = h.0; runs = runs; may = h.1.1; room = room; means = refl })
    by_room content runs h (inr other) = inr (λ new k. other (subst (λ (c : List ℕ). HasRoom old (length c)) (one_runs bytes k.content content (subst (λ (t : Text). IsRunsWithin 33554432 t k.content) (sym (firsts (others k.text))) k.runs).is runs.is) k.room))

    of : Way (IsRunsWithin 33554432 bytes) → Settled (IsPath path × ((old.section ≡ sections.Config) × MayAddItem old.config.items path)) → Way (FileLine old (path ∷ bytes ∷ []))
    of (inl c) (inl h) = by_room c.0 c.1 h (le_settled (old.bytes + length c.0) all_files_limit)
    of (inr none) h = inr (λ new k. none k.content (subst (λ (t : Text). IsRunsWithin 33554432 t k.content) (sym (firsts (others k.text))) k.runs))
    of (inl c) (inr other) = inr (λ new k. let same = sym (firsts k.text) in other (subst IsPath same k.is_path, (k.place, subst (λ (t : Text). MayAddItem old.config.items t) same k.may)))

link_way : (old : Draft) (args : List Text) → Way (LinkLine old args)
link_way old [] = inr (λ new h. absurd (omega (arith, ap length h.text)))
link_way old (a ∷ []) = inr (λ new h. absurd (omega (arith, ap length h.text)))
link_way old (a ∷ b ∷ c ∷ more) = inr (λ new h. absurd (omega (arith, ap length h.text)))
link_way old (path ∷ target ∷ []) = of (both (both (path_settled path) (target_settled target)) (both (section_settled old.section sections.Config) (may_add_item old.config.items path)))
  where
    of : Settled ((IsPath path × IsTarget target) × ((old.section ≡ sections.Config) × MayAddItem old.config.items path)) → Way (LinkLine old (path ∷ target ∷ []))
    of (inl h) = inl (with_item old (Symlink path target), record { path = path; target = target; text = refl; place = h.1.0; is_path = h.0.0; is_target = h.0.1; may = h.1.1; means = refl })
    of (inr other) = inr (λ new k. let same = sym (firsts k.text) in other ((subst IsPath same k.is_path, subst IsTarget (sym (firsts (others k.text))) k.is_target), (k.place, subst (λ (t : Text). MayAddItem old.config.items t) same k.may)))

kernel_way : (old : Draft) (args : List Text) → Way (KernelLine old args)
kernel_way old [] = inr (λ new h. absurd (omega (arith, ap length h.text)))
kernel_way old (a ∷ b ∷ more) = inr (λ new h. absurd (omega (arith, ap length h.text)))
kernel_way old (path ∷ []) = of (both (path_settled path) (both (section_settled old.section sections.Config) (empty_settled old.config.kernel)))
  where
    of : Settled (IsPath path × ((old.section ≡ sections.Config) × (old.config.kernel ≡ []))) → Way (KernelLine old (path ∷ []))
    of (inl h) = inl (with_config old sections.Config (record old.config { kernel = path }), record { path = path; text = refl; place = h.1.0; is_path = h.0; first = h.1.1; means = refl })
    of (inr other) = inr (λ new k. other (subst IsPath (sym (firsts k.text)) k.is_path, (k.place, k.first)))

may_be_swap : (config : Config) (path : Text) → Settled (MayBeSwap config path)
may_be_swap config path = both (none_settled config.swap) (some_settled (λ (root : Text). root ≢ path) (λ root. not_so (text_settled root path)) config.root)

swap_way : (old : Draft) (args : List Text) → Way (SwapFileLine old args)
swap_way old [] = inr (λ new h. absurd (omega (arith, ap length h.text)))
swap_way old (a ∷ []) = inr (λ new h. absurd (omega (arith, ap length h.text)))
swap_way old (a ∷ b ∷ c ∷ more) = inr (λ new h. absurd (omega (arith, ap length h.text)))
swap_way old (path ∷ number ∷ []) = of (number_way 8192 33554432 number) (both (path_settled path) (both (section_settled old.section sections.Config) (may_be_swap old.config path)))
  where
    of : Way (IsNumber 8192 33554432 number) → Settled (IsPath path × ((old.section ≡ sections.Config) × MayBeSwap old.config path)) → Way (SwapFileLine old (path ∷ number ∷ []))
    of (inl n) (inl h) = inl (with_config old sections.Config (record old.config { swap = Some (record { path = path; size = n.0 }) }), record { path = path; size = n.0; number = number; text = refl; place = h.1.0; is_path = h.0; is_size = n.1; may = h.1.1; means = refl })
    of (inr none) h = inr (λ new k. none k.size (subst (λ (t : Text). IsNumber 8192 33554432 t k.size) (sym (firsts (others k.text))) k.is_size))
    of (inl n) (inr other) = inr (λ new k. let same = sym (firsts k.text) in other (subst IsPath same k.is_path, (k.place, subst (λ (t : Text). MayBeSwap old.config t) same k.may)))

-- ---- commands

adds_way : (old : Draft) (command : Command) → Way (AddsCommand old command)
adds_way old command = of (both (command_settled old.section) (lt_settled (length old.commands) command_limit))
  where
    of : Settled (MayBeCommand old.section × (length old.commands < command_limit)) → Way (AddsCommand old command)
    of (inl h) = inl (with_command old command, record { place = h.0; count = h.1; means = refl })
    of (inr other) = inr (λ new h. other (h.place, h.count))

addr_line_way : (old : Draft) (args : List Text) → Way (AddrLine old args)
addr_line_way old [] = elim (adds_way old commands.Addr) [
  | inl new ↦ inl (new.0, record { text = refl; adds = new.1 })
  | inr none ↦ inr (λ new h. none new h.adds)
]
addr_line_way old (f ∷ more) = inr (λ new h. absurd (omega (arith, ap length h.text)))

boot_way : (old : Draft) (args : List Text) → Way (BootLine old args)
boot_way old [] = elim (adds_way old commands.Boot) [
  | inl new ↦ inl (new.0, record { text = refl; adds = new.1 })
  | inr none ↦ inr (λ new h. none new h.adds)
]
boot_way old (f ∷ more) = inr (λ new h. absurd (omega (arith, ap length h.text)))

wait_command_way : (old : Draft) (args : List Text) → Way (WaitCommandLine old args)
wait_command_way old [] = inr (λ new h. absurd (omega (arith, ap length h.text)))
wait_command_way old (a ∷ b ∷ more) = inr (λ new h. absurd (omega (arith, ap length h.text)))
wait_command_way old (f ∷ []) = of (number_way 1 100000 f)
  where
    by_rule : (n : ℕ) → IsNumber 1 100000 f n → Way (AddsCommand old (commands.Wait n)) → Way (WaitCommandLine old (f ∷ []))
    by_rule n is (inl new) = inl (new.0, record { ticks = n; field = f; text = refl; number = is; adds = new.1 })
    by_rule n is (inr none) = inr (λ new h. none new (subst (λ (m : ℕ). AddsCommand old (commands.Wait m) new) (one_number 1 100000 f h.ticks n (subst (λ (t : Text). IsNumber 1 100000 t h.ticks) (sym (firsts h.text)) h.number) is) h.adds))

    of : Way (IsNumber 1 100000 f) → Way (WaitCommandLine old (f ∷ []))
    of (inl n) = by_rule n.0 n.1 (adds_way old (commands.Wait n.0))
    of (inr none) = inr (λ new h. none h.ticks (subst (λ (t : Text). IsNumber 1 100000 t h.ticks) (sym (firsts h.text)) h.number))

-- ---- lines

either_way_of : (P Q : Draft → Type 0) → Way P → Way Q → Way (λ (new : Draft). P new ⊎ Q new)
either_way_of P Q (inl p) q = inl (p.0, inl p.1)
either_way_of P Q (inr p) (inl q) = inl (q.0, inr q.1)
either_way_of P Q (inr p) (inr q) = inr (λ new h. elim h [ inl x ↦ p new x | inr y ↦ q new y ])

word_line_way : (word : Word) (old : Draft) (args : List Text) → Way (WordLine word old args)
word_line_way words.Life old args = life_way old args
word_line_way words.Tries old args = tries_way old args
word_line_way words.Wait old args = either_way_of (WaitLine old args) (WaitCommandLine old args) (wait_way old args) (wait_command_way old args)
word_line_way words.Pages old args = pages_way old args
word_line_way words.Server old args = server_way old args
word_line_way words.Client old args = client_way old args
word_line_way words.Arch old args = arch_way old args
word_line_way words.Host old args = host_way old args
word_line_way words.Params old args = params_way old args
word_line_way words.Tftp old args = tftp_way old args
word_line_way words.Root old args = root_way old args
word_line_way words.File old args = file_way old args
word_line_way words.Link old args = link_way old args
word_line_way words.Kernel old args = kernel_way old args
word_line_way words.Swap old args = swap_way old args
word_line_way words.Fate old args = fate_way old args
word_line_way words.Stranger old args = stranger_way old args
word_line_way words.Fault old args = fault_way old args
word_line_way words.Addr old args = addr_line_way old args
word_line_way words.Boot old args = boot_way old args

-- ---- words

abbrev IsAmong : Word → List Word → Type 0
IsAmong word [] = ⊥
IsAmong word (one ∷ more) = (word ≡ one) ⊎ IsAmong word more

abbrev all_words : List Word
all_words = words.Life ∷ words.Tries ∷ words.Wait ∷ words.Pages ∷ words.Server ∷ words.Client ∷ words.Arch ∷ words.Host ∷ words.Params ∷ words.Tftp ∷ words.Root ∷ words.File ∷ words.Link ∷ words.Kernel ∷ words.Swap ∷ words.Fate ∷ words.Stranger ∷ words.Fault ∷ words.Addr ∷ words.Boot ∷ []

among_all : (word : Word) → IsAmong word all_words
among_all words.Life = inl refl
among_all words.Tries = inr (inl refl)
among_all words.Wait = inr (inr (inl refl))
among_all words.Pages = inr (inr (inr (inl refl)))
among_all words.Server = inr (inr (inr (inr (inl refl))))
among_all words.Client = inr (inr (inr (inr (inr (inl refl)))))
among_all words.Arch = inr (inr (inr (inr (inr (inr (inl refl))))))
among_all words.Host = inr (inr (inr (inr (inr (inr (inr (inl refl)))))))
among_all words.Params = inr (inr (inr (inr (inr (inr (inr (inr (inl refl))))))))
among_all words.Tftp = inr (inr (inr (inr (inr (inr (inr (inr (inr (inl refl)))))))))
among_all words.Root = inr (inr (inr (inr (inr (inr (inr (inr (inr (inr (inl refl))))))))))
among_all words.File = inr (inr (inr (inr (inr (inr (inr (inr (inr (inr (inr (inl refl)))))))))))
among_all words.Link = inr (inr (inr (inr (inr (inr (inr (inr (inr (inr (inr (inr (inl refl))))))))))))
among_all words.Kernel = inr (inr (inr (inr (inr (inr (inr (inr (inr (inr (inr (inr (inr (inl refl)))))))))))))
among_all words.Swap = inr (inr (inr (inr (inr (inr (inr (inr (inr (inr (inr (inr (inr (inr (inl refl))))))))))))))
among_all words.Fate = inr (inr (inr (inr (inr (inr (inr (inr (inr (inr (inr (inr (inr (inr (inr (inl refl)))))))))))))))
among_all words.Stranger = inr (inr (inr (inr (inr (inr (inr (inr (inr (inr (inr (inr (inr (inr (inr (inr (inl refl))))))))))))))))
among_all words.Fault = inr (inr (inr (inr (inr (inr (inr (inr (inr (inr (inr (inr (inr (inr (inr (inr (inr (inl refl)))))))))))))))))
among_all words.Addr = inr (inr (inr (inr (inr (inr (inr (inr (inr (inr (inr (inr (inr (inr (inr (inr (inr (inr (inl refl))))))))))))))))))
among_all words.Boot = inr (inr (inr (inr (inr (inr (inr (inr (inr (inr (inr (inr (inr (inr (inr (inr (inr (inr (inr (inl refl)))))))))))))))))))

search_word : (t : Text) (these : List Word) → ((word : Word) × (t ≡ spelling word)) ⊎ ((word : Word) → IsAmong word these → t ≡ spelling word → ⊥)
search_word t [] = inr (λ word h e. h)
search_word t (one ∷ more) = of (text_settled t (spelling one)) (search_word t more)
  where
    of : Settled (t ≡ spelling one) → ((word : Word) × (t ≡ spelling word)) ⊎ ((word : Word) → IsAmong word more → t ≡ spelling word → ⊥) → ((word : Word) × (t ≡ spelling word)) ⊎ ((word : Word) → IsAmong word (one ∷ more) → t ≡ spelling word → ⊥)
    of (inl e) more_way = inl (one, e)
    of (inr other) (inl found) = inl found
    of (inr other) (inr none) = inr (λ word h e. elim h [ inl same ↦ other (e ∙ ap spelling same) | inr later ↦ none word later e ])

word_line : (old : Draft) (line : Text) → Way (IsWordLine old line)
word_line old line = of (fields line) refl
  where
    by_line : (f : Text) (args : List Text) (word : Word) → fields line ≡ f ∷ args → f ≡ spelling word → Way (WordLine word old args) → Way (IsWordLine old line)
    by_line f args word e is (inl new) = inl (new.0, record { word = word; args = args; text = e ∙ ap (λ (t : Text). t ∷ args) is; says = new.1 })
    by_line f args word e is (inr none) = inr (λ new h.
        let g : spelling h.word ∷ h.args ≡ f ∷ args = sym h.text ∙ e in
        let same : h.word ≡ word = one_word h.word word (firsts g ∙ is) in
        none new (subst (λ (l : List Text). WordLine word old l new) (others g) (subst (λ (w : Word). WordLine w old h.args new) same h.says)))

    by_word : (f : Text) (args : List Text) → fields line ≡ f ∷ args → ((word : Word) × (f ≡ spelling word)) ⊎ ((word : Word) → IsAmong word all_words → f ≡ spelling word → ⊥) → Way (IsWordLine old line)
    by_word f args e (inl found) = by_line f args found.0 e found.1 (word_line_way found.0 old args)
    by_word f args e (inr none) = inr (λ new h. none h.word (among_all h.word) (firsts (sym e ∙ h.text)))

    of : (parts : List Text) → fields line ≡ parts → Way (IsWordLine old line)
    of [] e = inr (λ new h. absurd (omega (arith, ap length (sym e ∙ h.text))))
    of (f ∷ args) e = by_word f args e (search_word f all_words)

skipped_settled : (line : Text) → Settled (IsSkipped line)
skipped_settled [] = inl tt
skipped_settled (b ∷ line) = cases_eq b 35

pub line_way : (old : Draft) (line : Text) → Way (IsLine old line)
line_way old line = of (skipped_settled line) (word_line old line)
  where
    of : Settled (IsSkipped line) → Way (IsWordLine old line) → Way (IsLine old line)
    of (inl skipped) word = inl (old, inl (skipped, refl))
    of (inr other) (inl new) = inl (new.0, inr new.1)
    of (inr other) (inr none) = inr (λ new h. elim h [ inl skipped ↦ other skipped.0 | inr word ↦ none new word ])
