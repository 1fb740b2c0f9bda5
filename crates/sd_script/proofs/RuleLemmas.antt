-- Lines in the grammar make a script that keeps the rules.
use Rattle.std.proofs.Common.{◌≡◌, ℕ, ◌+◌, ◌-◌, ◌<◌, ◌≤◌, ◌^◌, List, [], ◌∷◌, ◌++◌, Some, length, refl, sym, ◌∙◌, ap, subst, inl, inr, arith, length-append}
use Rattle.std.specs.List.{All, AllByRecursion, AllZip}
use Rattle.std.proofs.lemmas.List.Elements.{All-nil, All-cons, All-append}
use Rattle.sd_config.specs.declared.config.Config.{Config}
use Rattle.sd_config.specs.declared.config.Machine.{Machine}
use Rattle.sd_config.specs.declared.config.BootFile.{BootFile}
use Rattle.sd_config.specs.declared.config.RootItem.{RootItem}
use Rattle.sd_config.specs.declared.config.RootItem.TheVariants as items
use Rattle.sd_config.specs.declared.config.SwapLine.{SwapLine}
use Rattle.sd_config.specs.declared.events.Fate.{Fate}
use Rattle.sd_config.specs.declared.events.PlannedFault.{PlannedFault}
use Rattle.sd_config.specs.declared.events.PlannedFault.TheVariants as planned
use Rattle.sd_text.specs.Texts.{Text, IsNumber}
use Rattle.sd_config.specs.Config as rules
use Rattle.sd_config.specs.Config.{IsConfig, IsWithin, bytes_of}
use Rattle.sd_config.specs.Events.{IsFate, IsStranger, IsPlanned}
use Rattle.sd_config.specs.declared.command.Command.{Command}
use Rattle.sd_config.specs.declared.command.Command.TheVariants as commands
use Rattle.sd_script.specs.declared.script.Script.{Script}
use Rattle.sd_script.specs.declared.draft.Section.{Section}
use Rattle.sd_script.specs.declared.draft.Section.TheVariants as sections
use Rattle.sd_script.specs.declared.draft.Draft.{Draft}
use Rattle.sd_script.specs.declared.draft.Word.{Word}
use Rattle.sd_script.specs.declared.draft.Word.TheVariants as words
use Rattle.sd_config.specs.Commands.{command_limit}
use Rattle.sd_script.specs.Lines.{IsMachine, LifeLine, TriesLine, WaitLine, PagesLine, ServerLine, ClientLine, ArchLine, HostLine, ParamsLine, TftpLine, RootLine, FileLine, LinkLine, KernelLine, SwapFileLine, HasRoom, MayAddHost, with_host, with_params, MayAddBootFile, MayAddItem, MayBeEvent, MayBeCommand, IsDelays, FateLine, StrangerLine, FaultLine, fault_number, AddsCommand, Differ, with_config, with_boot_file, with_item, with_fate, with_stranger, with_fault, with_command}
use Rattle.sd_outside.specs.Lines.{without_feed}
use Rattle.sd_script.specs.Grammar.{spelling, WordLine, IsLine, Leads, blank, kernel_or_usual, script_of, IsScript}
use Rattle.sd_script.specs.Rules.{KeepsRules}
use Rattle.sd_config.specs.Commands.{IsCommand}
use Rattle.sd_script.proofs.ParamsLemmas.{OneLine, parts_one, rest_one_line, before_one, no_hosts_are, one_more_host, ParamsSoFar, no_params, one_more_line, params_are}
use Rattle.sd_script.proofs.ConfigLemmas.{KeepsLines, size_of, no_lines, usual_or_named, sum_with_boot_file, sum_with_item, arch_lined, tftp_lined, root_lined, item_lined, kernel_lined, swap_lined}

-- how many lines of the heading stand before a section
abbrev stage : Section → ℕ
stage sections.Life = 0
stage sections.Tries = 1
stage sections.Wait = 2
stage sections.Pages = 3
stage sections.Server = 4
stage sections.Client = 5
stage sections.Config = 6
stage sections.Events = 6
stage sections.Commands = 6

-- what is known of the heading's lines once so many came, of each value alone
record IsHeaded (n l t w p : ℕ) (s c : Machine) (d : Text) (r : ℕ) : Type 0 where
  life : 1 ≤ n → IsWithin 2 10000 l
  tries : 2 ≤ n → IsWithin 1 64 t
  wait : 3 ≤ n → IsWithin 1 1000 w
  pages : 4 ≤ n → IsWithin 1 4095 p
  server : 5 ≤ n → rules.IsMachine s
  client : 6 ≤ n → rules.IsMachine c
  domain : 6 ≤ n → rules.IsName d
  router : 6 ≤ n → r < 2 ^ 32
  differ : 6 ≤ n → Differ c s

abbrev Headed : ℕ → Config → Type 0
Headed n c = IsHeaded n c.life c.tries c.wait c.pages c.server c.client c.domain c.router

-- the rules so far
record KeepsSoFar (d : Draft) : Type 0 where
  headed : Headed (stage d.section) d.config
  hosts : rules.AreHosts d.config.server.name d.config.client.name d.config.hosts
  no_hosts : stage d.section < 6 → d.config.hosts ≡ []
  params : ParamsSoFar d.config.params d.params_lines d.params
  lines : KeepsLines d.config
  sum : d.bytes ≡ bytes_of d.config
  early : stage d.section < 6 → (d.fates ≡ []) × (d.strangers ≡ [])
  fates : All (IsFate d.config.life) d.fates
  strangers : All (IsStranger d.config.client.ip d.config.server.ip) d.strangers
  faults : All IsPlanned d.faults
  commands : All IsCommand d.commands
  few : length d.commands ≤ command_limit

within : (least most : ℕ) {text : Text} {n : ℕ} → IsNumber least most text n → IsWithin least most n
within least most h = (h.low, h.high)

machine_kept : {mac ip name : Text} (m : Machine) → IsMachine mac ip name m → rules.IsMachine m
machine_kept m h = record {
  mac = record { wide = h.is_mac.six; bytes = h.is_mac.bytes };
  ip = omega (arith, h.least, h.most);
  name = subst rules.IsName (sym h.same_name) h.is_name;
}

none : {X : Type 0} (P : X → Type 0) (xs : List X) → xs ≡ [] → All P xs
none P xs e = subst (λ l. All P l) (sym e) (All-nil P)

-- the draft with another configuration, before the heading's end
heads : (old : Draft) (section : Section) (c : Config) → c.hosts ≡ old.config.hosts → c.params ≡ old.config.params → KeepsSoFar old → stage old.section < 6 → Headed (stage section) c → KeepsLines c → old.bytes ≡ bytes_of c → KeepsSoFar (with_config old section c)
heads old section c same_hosts same_params k early h lines sum = record {
  headed = h;
  hosts = no_hosts_are c.server.name c.client.name c.hosts (same_hosts ∙ k.no_hosts early);
  no_hosts = λ _. same_hosts ∙ k.no_hosts early;
  params = subst (λ (t : Text). ParamsSoFar t old.params_lines old.params) (sym same_params) k.params;
  lines = lines;
  sum = sum;
  early = λ _. k.early early;
  fates = none (IsFate c.life) old.fates (k.early early).0;
  strangers = none (IsStranger c.client.ip c.server.ip) old.strangers (k.early early).1;
  faults = k.faults;
  commands = k.commands;
  few = k.few;
}

-- the lines of the heading that came, where the next is at this place
came : (old : Draft) (section : Section) → old.section ≡ section → KeepsSoFar old → Headed (stage section) old.config
came old section at k = subst (λ s. Headed (stage s) old.config) at k.headed

early_at : (old : Draft) (section : Section) → old.section ≡ section → stage section < 6 → stage old.section < 6
early_at old section at h = subst (λ s. stage s < 6) (sym at) h

life_kept : (old : Draft) (args : List Text) (new : Draft) → LifeLine old args new → KeepsSoFar old → KeepsSoFar new
life_kept old args new l k = subst KeepsSoFar (sym l.means) (heads old sections.Tries (record old.config { life = l.life }) refl refl k (early_at old sections.Life l.place (omega arith)) record {
  life = λ _. within 2 10000 l.number;
  tries = λ h. absurd (omega (arith, h));
  wait = λ h. absurd (omega (arith, h));
  pages = λ h. absurd (omega (arith, h));
  server = λ h. absurd (omega (arith, h));
  client = λ h. absurd (omega (arith, h));
  domain = λ h. absurd (omega (arith, h));
  router = λ h. absurd (omega (arith, h));
  differ = λ h. absurd (omega (arith, h));
} k.lines k.sum)

tries_kept : (old : Draft) (args : List Text) (new : Draft) → TriesLine old args new → KeepsSoFar old → KeepsSoFar new
tries_kept old args new l k =
    let c = came old sections.Tries l.place k in
    subst KeepsSoFar (sym l.means) (heads old sections.Wait (record old.config { tries = l.tries }) refl refl k (early_at old sections.Tries l.place (omega arith)) record {
      life = λ _. c.life (omega arith);
      tries = λ _. within 1 64 l.number;
      wait = λ h. absurd (omega (arith, h));
      pages = λ h. absurd (omega (arith, h));
      server = λ h. absurd (omega (arith, h));
      client = λ h. absurd (omega (arith, h));
      domain = λ h. absurd (omega (arith, h));
      router = λ h. absurd (omega (arith, h));
      differ = λ h. absurd (omega (arith, h));
    } k.lines k.sum)

wait_kept : (old : Draft) (args : List Text) (new : Draft) → WaitLine old args new → KeepsSoFar old → KeepsSoFar new
wait_kept old args new l k =
    let c = came old sections.Wait l.place k in
    subst KeepsSoFar (sym l.means) (heads old sections.Pages (record old.config { wait = l.wait }) refl refl k (early_at old sections.Wait l.place (omega arith)) record {
      life = λ _. c.life (omega arith);
      tries = λ _. c.tries (omega arith);
      wait = λ _. within 1 1000 l.number;
      pages = λ h. absurd (omega (arith, h));
      server = λ h. absurd (omega (arith, h));
      client = λ h. absurd (omega (arith, h));
      domain = λ h. absurd (omega (arith, h));
      router = λ h. absurd (omega (arith, h));
      differ = λ h. absurd (omega (arith, h));
    } k.lines k.sum)

pages_kept : (old : Draft) (args : List Text) (new : Draft) → PagesLine old args new → KeepsSoFar old → KeepsSoFar new
pages_kept old args new l k =
    let c = came old sections.Pages l.place k in
    subst KeepsSoFar (sym l.means) (heads old sections.Server (record old.config { pages = l.pages }) refl refl k (early_at old sections.Pages l.place (omega arith)) record {
      life = λ _. c.life (omega arith);
      tries = λ _. c.tries (omega arith);
      wait = λ _. c.wait (omega arith);
      pages = λ _. within 1 4095 l.number;
      server = λ h. absurd (omega (arith, h));
      client = λ h. absurd (omega (arith, h));
      domain = λ h. absurd (omega (arith, h));
      router = λ h. absurd (omega (arith, h));
      differ = λ h. absurd (omega (arith, h));
    } k.lines k.sum)

server_kept : (old : Draft) (args : List Text) (new : Draft) → ServerLine old args new → KeepsSoFar old → KeepsSoFar new
server_kept old args new l k =
    let c = came old sections.Server l.place k in
    subst KeepsSoFar (sym l.means) (heads old sections.Client (record old.config { server = l.server }) refl refl k (early_at old sections.Server l.place (omega arith)) record {
      life = λ _. c.life (omega arith);
      tries = λ _. c.tries (omega arith);
      wait = λ _. c.wait (omega arith);
      pages = λ _. c.pages (omega arith);
      server = λ _. machine_kept l.server l.machine;
      client = λ h. absurd (omega (arith, h));
      domain = λ h. absurd (omega (arith, h));
      router = λ h. absurd (omega (arith, h));
      differ = λ h. absurd (omega (arith, h));
    } k.lines k.sum)

client_kept : (old : Draft) (args : List Text) (new : Draft) → ClientLine old args new → KeepsSoFar old → KeepsSoFar new
client_kept old args new l k =
    let c = came old sections.Client l.place k in
    subst KeepsSoFar (sym l.means) (heads old sections.Config (record old.config { client = l.client; domain = l.domain; router = l.router }) refl refl k (early_at old sections.Client l.place (omega arith)) record {
      life = λ _. c.life (omega arith);
      tries = λ _. c.tries (omega arith);
      wait = λ _. c.wait (omega arith);
      pages = λ _. c.pages (omega arith);
      server = λ _. c.server (omega arith);
      client = λ _. machine_kept l.client l.machine;
      domain = λ _. l.domain_name;
      router = λ _. l.is_router.fits;
      differ = λ _. l.differ;
    } k.lines k.sum)

-- the draft with another configuration, after the heading
lined : (old : Draft) (c : Config) → KeepsSoFar old → Headed 6 c → All (IsFate c.life) old.fates → All (IsStranger c.client.ip c.server.ip) old.strangers → rules.AreHosts c.server.name c.client.name c.hosts → ParamsSoFar c.params old.params_lines old.params → KeepsLines c → old.bytes ≡ bytes_of c
    → KeepsSoFar (with_config old sections.Config c)
lined old c k h fates strangers hosts params lines sum = record {
  headed = h;
  hosts = hosts;
  no_hosts = λ h. absurd (omega (arith, h));
  params = params;
  lines = lines;
  sum = sum;
  early = λ h. absurd (omega (arith, h));
  fates = fates;
  strangers = strangers;
  faults = k.faults;
  commands = k.commands;
  few = k.few;
}

host_kept : (old : Draft) (args : List Text) (new : Draft) → HostLine old args new → KeepsSoFar old → KeepsSoFar new
host_kept old args new l k =
    let may : MayAddHost old.config l.host.name = subst (λ (t : Text). MayAddHost old.config t) (sym l.same_name) l.may in
    let is : rules.IsHost l.host = record { name = subst rules.IsName (sym l.same_name) l.is_name; ip = l.is_ip.fits } in
    let kept : KeepsSoFar (with_host old l.host) = record {
      headed = k.headed;
      hosts = one_more_host old.config l.host k.hosts may is;
      no_hosts = λ h. absurd (omega (arith, h, ap stage l.place));
      params = k.params;
      lines = k.lines;
      sum = k.sum;
      early = k.early;
      fates = k.fates;
      strangers = k.strangers;
      faults = k.faults;
      commands = k.commands;
      few = k.few;
    } in
    subst KeepsSoFar (sym l.means) kept

params_kept : (old : Draft) (args : List Text) (new : Draft) → AllByRecursion OneLine args → ParamsLine old args new → KeepsSoFar old → KeepsSoFar new
params_kept old args new one l k =
    let kept : KeepsSoFar (with_params old l.line l.params) = record {
      headed = k.headed;
      hosts = k.hosts;
      no_hosts = k.no_hosts;
      params = one_more_line old.config.params old.params_lines old.params l.params l.line k.params l.few (rest_one_line args l.line one l.text) l.says;
      lines = k.lines;
      sum = k.sum;
      early = k.early;
      fates = k.fates;
      strangers = k.strangers;
      faults = k.faults;
      commands = k.commands;
      few = k.few;
    } in
    subst KeepsSoFar (sym l.means) kept

arch_kept : (old : Draft) (args : List Text) (new : Draft) → ArchLine old args new → KeepsSoFar old → KeepsSoFar new
arch_kept old args new l k =
    let c = old.config in
    let lines = arch_lined c.arch c.tftp c.root c.items c.kernel c.swap k.lines l.name l.is_name in
    subst KeepsSoFar (sym l.means) (lined old (record c { arch = l.name }) k (came old sections.Config l.place k) k.fates k.strangers k.hosts k.params lines k.sum)

kernel_kept : (old : Draft) (args : List Text) (new : Draft) → KernelLine old args new → KeepsSoFar old → KeepsSoFar new
kernel_kept old args new l k =
    let c = old.config in
    let lines = kernel_lined c.arch c.tftp c.root c.items c.kernel c.swap k.lines l.path l.is_path in
    subst KeepsSoFar (sym l.means) (lined old (record c { kernel = l.path }) k (came old sections.Config l.place k) k.fates k.strangers k.hosts k.params lines k.sum)

root_kept : (old : Draft) (args : List Text) (new : Draft) → RootLine old args new → KeepsSoFar old → KeepsSoFar new
root_kept old args new l k =
    let c = old.config in
    let lines = root_lined c.arch c.tftp c.root c.items c.kernel c.swap k.lines l.path l.is_path l.may.1 in
    subst KeepsSoFar (sym l.means) (lined old (record c { root = Some l.path }) k (came old sections.Config l.place k) k.fates k.strangers k.hosts k.params lines k.sum)

swap_kept : (old : Draft) (args : List Text) (new : Draft) → SwapFileLine old args new → KeepsSoFar old → KeepsSoFar new
swap_kept old args new l k =
    let c = old.config in
    let swap : SwapLine = record { path = l.path; size = l.size } in
    let is : rules.IsSwap swap = record { path = l.is_path; size = within 8192 33554432 l.is_size } in
    let lines = swap_lined c.arch c.tftp c.root c.items c.kernel c.swap k.lines swap is l.may.1 in
    subst KeepsSoFar (sym l.means) (lined old (record c { swap = Some swap }) k (came old sections.Config l.place k) k.fates k.strangers k.hosts k.params lines k.sum)

boot_file_kept : (old : Draft) (file : BootFile) → old.section ≡ sections.Config → MayAddBootFile old.config.tftp file.name → rules.IsBootFile file → HasRoom old (length file.bytes) → KeepsSoFar old → KeepsSoFar (with_boot_file old file)
boot_file_kept old file place may is room k =
    let c = old.config in
    let sum : old.bytes + length file.bytes ≡ size_of (c.tftp ++ file ∷ []) c.items = omega (arith, k.sum, sum_with_boot_file c.tftp c.items file) in
    record {
      headed = k.headed;
      hosts = k.hosts;
      no_hosts = k.no_hosts;
      params = k.params;
      lines = tftp_lined c.arch c.tftp c.root c.items c.kernel c.swap k.lines file may is (omega (arith, room, k.sum));
      sum = sum;
      early = k.early;
      fates = k.fates;
      strangers = k.strangers;
      faults = k.faults;
      commands = k.commands;
      few = k.few;
    }

tftp_kept : (old : Draft) (args : List Text) (new : Draft) → TftpLine old args new → KeepsSoFar old → KeepsSoFar new
tftp_kept old args new l k =
    let may : MayAddBootFile old.config.tftp l.file.name = subst (MayAddBootFile old.config.tftp) (sym l.same_name) l.may in
    let is : rules.IsBootFile l.file = record { name = subst rules.IsName (sym l.same_name) l.is_name; most = l.runs.within } in
    subst KeepsSoFar (sym l.means) (boot_file_kept old l.file l.place may is l.room k)

item_kept : (old : Draft) (item : RootItem) → old.section ≡ sections.Config → MayAddItem old.config.items (rules.item_path item) → rules.IsRootItem item → HasRoom old (rules.item_size item) → KeepsSoFar old → KeepsSoFar (with_item old item)
item_kept old item place may is room k =
    let c = old.config in
    let sum : old.bytes + rules.item_size item ≡ size_of c.tftp (c.items ++ item ∷ []) = omega (arith, k.sum, sum_with_item c.tftp c.items item) in
    record {
      headed = k.headed;
      hosts = k.hosts;
      no_hosts = k.no_hosts;
      params = k.params;
      lines = item_lined c.arch c.tftp c.root c.items c.kernel c.swap k.lines item may is (omega (arith, room, k.sum));
      sum = sum;
      early = k.early;
      fates = k.fates;
      strangers = k.strangers;
      faults = k.faults;
      commands = k.commands;
      few = k.few;
    }

file_kept : (old : Draft) (args : List Text) (new : Draft) → FileLine old args new → KeepsSoFar old → KeepsSoFar new
file_kept old args new l k = subst KeepsSoFar (sym l.means) (item_kept old (items.File l.path l.content) l.place l.may (l.is_path, l.runs.within) l.room k)

link_kept : (old : Draft) (args : List Text) (new : Draft) → LinkLine old args new → KeepsSoFar old → KeepsSoFar new
link_kept old args new l k =
    let full : HasRoom old 0 = omega (arith, k.sum, k.lines.bytes) in
    subst KeepsSoFar (sym l.means) (item_kept old (items.Symlink l.path l.target) l.place l.may (l.is_path, l.is_target) full k)

delays_kept : (most : ℕ) (args : List Text) (delays : List ℕ) → AllZip (IsNumber 1 most) args delays → All (IsWithin 1 most) delays × (length delays ≤ length args)
delays_kept most [] [] z = (All-nil (IsWithin 1 most), omega arith)
delays_kept most [] (d ∷ delays) z = absurd z
delays_kept most (text ∷ args) [] z = absurd z
delays_kept most (text ∷ args) (d ∷ delays) z =
    let rest = delays_kept most args delays z.1 in
    (All-cons (IsWithin 1 most) d delays (within 1 most z.0) rest.0, omega (arith, rest.1))

fate_ok : (life : ℕ) (args : List Text) (fate : Fate) → fate.id ≤ 4294967295 → IsDelays life args fate.delays → IsFate life fate
fate_ok life args fate id delays = elim delays [
  | inl lost ↦ record { id = omega (arith, id); few = rw lost.1 (omega arith); delays = none (IsWithin 1 (life - 1)) fate.delays lost.1 }
  | inr some ↦
      let kept = delays_kept (life - 1) args fate.delays some.2 in
      record { id = omega (arith, id); few = omega (arith, some.1, kept.1); delays = kept.0 }
]

whole_at_event : (s : Section) → MayBeEvent s → stage s ≡ 6
whole_at_event s m = elim m [ inl e ↦ ap stage e | inr e ↦ ap stage e ]

whole_at_command : (s : Section) → MayBeCommand s → stage s ≡ 6
whole_at_command s m = elim m [ inl e ↦ ap stage e | inr f ↦ elim f [ inl e ↦ ap stage e | inr e ↦ ap stage e ] ]

headed_on : (old : Draft) → stage old.section ≡ 6 → KeepsSoFar old → Headed 6 old.config
headed_on old at k = subst (λ n. Headed n old.config) at k.headed

fate_kept : (old : Draft) (args : List Text) (new : Draft) → FateLine old args new → KeepsSoFar old → KeepsSoFar new
fate_kept old args new l k =
    let at = whole_at_event old.section l.place in
    let is = fate_ok old.config.life l.delays l.fate l.is_id.high l.are_delays in
    let P = IsFate old.config.life in
    let kept : KeepsSoFar (with_fate old l.fate) = record {
      headed = headed_on old at k;
      hosts = k.hosts;
      no_hosts = λ h. absurd (omega (arith, h));
      params = k.params;
      lines = k.lines;
      sum = k.sum;
      early = λ h. absurd (omega (arith, h));
      fates = All-append P old.fates (l.fate ∷ []) k.fates (All-cons P l.fate [] is (All-nil P));
      strangers = k.strangers;
      faults = k.faults;
      commands = k.commands;
      few = k.few;
    } in
    subst KeepsSoFar (sym l.means) kept

stranger_kept : (old : Draft) (args : List Text) (new : Draft) → StrangerLine old args new → KeepsSoFar old → KeepsSoFar new
stranger_kept old args new l k =
    let at = whole_at_event old.section l.place in
    let P = IsStranger old.config.client.ip old.config.server.ip in
    let is : P l.stranger = record { tick = within 1 4294967295 l.is_tick; from = l.elsewhere; body = l.is_body.within } in
    let kept : KeepsSoFar (with_stranger old l.stranger) = record {
      headed = headed_on old at k;
      hosts = k.hosts;
      no_hosts = λ h. absurd (omega (arith, h));
      params = k.params;
      lines = k.lines;
      sum = k.sum;
      early = λ h. absurd (omega (arith, h));
      fates = k.fates;
      strangers = All-append P old.strangers (l.stranger ∷ []) k.strangers (All-cons P l.stranger [] is (All-nil P));
      faults = k.faults;
      commands = k.commands;
      few = k.few;
    } in
    subst KeepsSoFar (sym l.means) kept

planned_ok : (fault : PlannedFault) → fault_number fault ≤ 4294967295 → IsPlanned fault
planned_ok (planned.Send id) h = omega (arith, h)
planned_ok (planned.Recv call) h = omega (arith, h)

fault_kept : (old : Draft) (args : List Text) (new : Draft) → FaultLine old args new → KeepsSoFar old → KeepsSoFar new
fault_kept old args new l k =
    let at = whole_at_event old.section l.place in
    let is = planned_ok l.fault l.is_number.high in
    let kept : KeepsSoFar (with_fault old l.fault) = record {
      headed = headed_on old at k;
      hosts = k.hosts;
      no_hosts = λ h. absurd (omega (arith, h));
      params = k.params;
      lines = k.lines;
      sum = k.sum;
      early = λ h. absurd (omega (arith, h));
      fates = k.fates;
      strangers = k.strangers;
      faults = All-append IsPlanned old.faults (l.fault ∷ []) k.faults (All-cons IsPlanned l.fault [] is (All-nil IsPlanned));
      commands = k.commands;
      few = k.few;
    } in
    subst KeepsSoFar (sym l.means) kept

adds_kept : (old : Draft) (command : Command) (new : Draft) → IsCommand command → AddsCommand old command new → KeepsSoFar old → KeepsSoFar new
adds_kept old command new is l k =
    let at = whole_at_command old.section l.place in
    let kept : KeepsSoFar (with_command old command) = record {
      headed = headed_on old at k;
      hosts = k.hosts;
      no_hosts = λ h. absurd (omega (arith, h));
      params = k.params;
      lines = k.lines;
      sum = k.sum;
      early = λ h. absurd (omega (arith, h));
      fates = k.fates;
      strangers = k.strangers;
      faults = k.faults;
      commands = All-append IsCommand old.commands (command ∷ []) k.commands (All-cons IsCommand command [] is (All-nil IsCommand));
      few = omega (arith, l.count, length-append old.commands (command ∷ []));
    } in
    subst KeepsSoFar (sym l.means) kept

word_kept : (word : Word) (old : Draft) (args : List Text) (new : Draft) → AllByRecursion OneLine args → WordLine word old args new → KeepsSoFar old → KeepsSoFar new
word_kept words.Life old args new one l k = life_kept old args new l k
word_kept words.Tries old args new one l k = tries_kept old args new l k
word_kept words.Wait old args new one l k = elim l [ inl h ↦ wait_kept old args new h k | inr h ↦ adds_kept old (commands.Wait h.ticks) new (within 1 100000 h.number) h.adds k ]
word_kept words.Pages old args new one l k = pages_kept old args new l k
word_kept words.Server old args new one l k = server_kept old args new l k
word_kept words.Client old args new one l k = client_kept old args new l k
word_kept words.Arch old args new one l k = arch_kept old args new l k
word_kept words.Host old args new one l k = host_kept old args new l k
word_kept words.Params old args new one l k = params_kept old args new one l k
word_kept words.Tftp old args new one l k = tftp_kept old args new l k
word_kept words.Root old args new one l k = root_kept old args new l k
word_kept words.File old args new one l k = file_kept old args new l k
word_kept words.Link old args new one l k = link_kept old args new l k
word_kept words.Kernel old args new one l k = kernel_kept old args new l k
word_kept words.Swap old args new one l k = swap_kept old args new l k
word_kept words.Fate old args new one l k = fate_kept old args new l k
word_kept words.Stranger old args new one l k = stranger_kept old args new l k
word_kept words.Fault old args new one l k = fault_kept old args new l k
word_kept words.Addr old args new one l k = adds_kept old commands.Addr new tt l.adds k
word_kept words.Boot old args new one l k = adds_kept old commands.Boot new tt l.adds k

line_kept : (old : Draft) (line : Text) (new : Draft) → OneLine line → IsLine old line new → KeepsSoFar old → KeepsSoFar new
line_kept old line new one l k = elim l [
  | inl skipped ↦ subst KeepsSoFar (sym skipped.1) k
  | inr w ↦
      let parts : AllByRecursion OneLine (spelling w.word ∷ w.args) = subst (λ (l : List Text). AllByRecursion OneLine l) w.text (parts_one 32 line one) in
      word_kept w.word old w.args new parts.1 w.says k
]

leads_kept : (old : Draft) (lines : List Text) (new : Draft) → Leads old lines new → KeepsSoFar old → KeepsSoFar new
leads_kept old [] new e k = subst KeepsSoFar e k
leads_kept old (line ∷ more) new l k = leads_kept l.0 more new l.2 (line_kept old (without_feed line) l.0 (before_one line) l.1 k)

blank_kept : KeepsSoFar blank
blank_kept = record {
  headed = record {
    life = λ h. absurd (omega (arith, h));
    tries = λ h. absurd (omega (arith, h));
    wait = λ h. absurd (omega (arith, h));
    pages = λ h. absurd (omega (arith, h));
    server = λ h. absurd (omega (arith, h));
    client = λ h. absurd (omega (arith, h));
    domain = λ h. absurd (omega (arith, h));
    router = λ h. absurd (omega (arith, h));
    differ = λ h. absurd (omega (arith, h));
  };
  hosts = no_hosts_are [] [] [] refl;
  no_hosts = λ _. refl;
  params = no_params;
  lines = no_lines;
  sum = refl;
  early = λ _. (refl, refl);
  fates = All-nil (IsFate 0);
  strangers = All-nil (IsStranger 0 0);
  faults = All-nil IsPlanned;
  commands = All-nil IsCommand;
  few = omega arith;
}

-- a heading and configuration lines make a configuration
config_kept : (c : Config) → Headed 6 c → rules.AreHosts c.server.name c.client.name c.hosts → rules.AreParams c.params → KeepsLines c → IsConfig (record c { kernel = kernel_or_usual c.kernel })
config_kept c h hosts params l =
    let differ = h.differ (omega arith) in
    record {
      life = h.life (omega arith);
      tries = h.tries (omega arith);
      wait = h.wait (omega arith);
      pages = h.pages (omega arith);
      server = h.server (omega arith);
      client = h.client (omega arith);
      domain = h.domain (omega arith);
      router = h.router (omega arith);
      macs = λ e. differ.mac (ap (λ (b : List ℕ). record { 0 = b }) (sym e));
      ips = λ e. differ.ip (sym e);
      names = λ e. differ.name (sym e);
      arch = l.arch;
      hosts = hosts;
      tftp = l.tftp;
      params = params;
      root = l.root;
      items = l.items;
      kernel = usual_or_named c.kernel l.kernel;
      swap = l.swap;
      exports = l.exports;
      bytes = l.bytes;
    }

pub keeps_rules : (text : Text) (script : Script) → IsScript text script → KeepsRules script
keeps_rules text script s =
    let k = leads_kept blank _ s.draft s.says.leads blank_kept in
    let at = whole_at_command s.draft.section s.whole in
    let kept : KeepsRules (script_of s.draft) = record {
      config = config_kept s.draft.config (headed_on s.draft at k) k.hosts (params_are s.draft.config.params s.draft.params_lines s.draft.params k.params) k.lines;
      events = record { fates = k.fates; strangers = k.strangers; faults = k.faults };
      commands = k.commands;
      few = k.few;
    } in
    subst KeepsRules (sym s.means) kept
