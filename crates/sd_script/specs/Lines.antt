-- Each line of a script: its text, its rule and what it says. `old` is what the lines before it say.
use Rattle.std.specs.Prelude.{◌≡◌, ◌≢◌, ℕ, ◌+◌, ◌-◌, ◌<◌, ◌≤◌, ◌^◌, List, [], ◌∷◌, ◌++◌, length, codes, Some, None, IfSome, ◌⊎◌}
use Rattle.std.specs.List.{All, AllZip}
use Rattle.sd_bootparams.specs.declared.book.Host.{Host}
use Rattle.sd_bootparams.specs.declared.draft.Draft as file
use Rattle.sd_bootparams.specs.LineByLine.{fed, line_parts, after_line, Says}
use Rattle.sd_config.specs.declared.config.Config.{Config}
use Rattle.sd_config.specs.declared.config.Machine.{Machine}
use Rattle.sd_config.specs.declared.config.BootFile.{BootFile}
use Rattle.sd_config.specs.declared.config.RootItem.{RootItem}
use Rattle.sd_config.specs.declared.config.RootItem.TheVariants.{File, Symlink}
use Rattle.sd_config.specs.declared.config.SwapLine.{SwapLine}
use Rattle.sd_config.specs.declared.events.Fate.{Fate}
use Rattle.sd_config.specs.declared.events.Stranger.{Stranger}
use Rattle.sd_config.specs.declared.events.PlannedFault.{PlannedFault}
use Rattle.sd_config.specs.declared.events.PlannedFault.TheVariants as planned
use Rattle.sd_config.specs.declared.command.Command.{Command}
use Rattle.sd_config.specs.declared.command.Command.TheVariants as commands
use Rattle.sd_script.specs.declared.draft.Section.{Section}
use Rattle.sd_script.specs.declared.draft.Section.TheVariants as sections
use Rattle.sd_script.specs.declared.draft.Draft.{Draft}
use Rattle.sd_text.specs.Texts.{Text, IsNumber, IsMac, IsIp, IsAddr}
use Rattle.sd_config.specs.Config.{IsName, boot_file_limit, IsPath, IsTarget, AreApart, item_path, item_size}
use Rattle.sd_text.specs.Runs.{IsRunsWithin}
use Rattle.sd_script.specs.Limits.{all_files_limit, host_limit, params_limit, fate_limit, stranger_limit}
use Rattle.sd_config.specs.Commands.{command_limit}
use Rattle.sd_config.specs.Events.{body_limit, IsElsewhere}

-- The draft with another configuration, event or command, and the section of the next line.

abbrev pub with_config : Draft → Section → Config → Draft
with_config draft section config = record draft { section = section; config = config }

abbrev pub with_host : Draft → Host → Draft
with_host draft host = record draft { config = record draft.config { hosts = draft.config.hosts ++ (host ∷ []) } }

-- one more line of the bootparams file, which then says this
abbrev pub with_params : Draft → Text → file.Draft → Draft
with_params draft line params = record draft { config = record draft.config { params = draft.config.params ++ fed line }; params_lines = draft.params_lines + 1; params = params }

abbrev pub with_boot_file : Draft → BootFile → Draft
with_boot_file draft file = record draft { config = record draft.config { tftp = draft.config.tftp ++ (file ∷ []) }; bytes = draft.bytes + length file.bytes }

abbrev pub with_item : Draft → RootItem → Draft
with_item draft item = record draft { config = record draft.config { items = draft.config.items ++ (item ∷ []) }; bytes = draft.bytes + item_size item }

abbrev pub with_fate : Draft → Fate → Draft
with_fate draft fate = record draft { section = sections.Events; fates = draft.fates ++ (fate ∷ []) }

abbrev pub with_stranger : Draft → Stranger → Draft
with_stranger draft stranger = record draft { section = sections.Events; strangers = draft.strangers ++ (stranger ∷ []) }

abbrev pub with_fault : Draft → PlannedFault → Draft
with_fault draft fault = record draft { section = sections.Events; faults = draft.faults ++ (fault ∷ []) }

abbrev pub with_command : Draft → Command → Draft
with_command draft command = record draft { section = sections.Commands; commands = draft.commands ++ (command ∷ []) }

-- Configuration lines, then event lines, then command lines.

abbrev pub MayBeEvent : Section → Type 0
MayBeEvent section = (section ≡ sections.Config) ⊎ (section ≡ sections.Events)

abbrev pub MayBeCommand : Section → Type 0
MayBeCommand section = (section ≡ sections.Config) ⊎ (section ≡ sections.Events) ⊎ (section ≡ sections.Commands)

-- The six lines of the heading.

-- `life L`
pub record LifeLine (old : Draft) (args : List Text) (new : Draft) : Type 0 where
  pub life : ℕ
  pub field : Text
  pub text : args ≡ field ∷ []
  pub number : IsNumber 2 10000 field life
  pub place : old.section ≡ sections.Life
  pub means : new ≡ with_config old sections.Tries (record old.config { life = life })

-- `tries T`
pub record TriesLine (old : Draft) (args : List Text) (new : Draft) : Type 0 where
  pub tries : ℕ
  pub field : Text
  pub text : args ≡ field ∷ []
  pub number : IsNumber 1 64 field tries
  pub place : old.section ≡ sections.Tries
  pub means : new ≡ with_config old sections.Wait (record old.config { tries = tries })

-- `wait W`
pub record WaitLine (old : Draft) (args : List Text) (new : Draft) : Type 0 where
  pub wait : ℕ
  pub field : Text
  pub text : args ≡ field ∷ []
  pub number : IsNumber 1 1000 field wait
  pub place : old.section ≡ sections.Wait
  pub means : new ≡ with_config old sections.Pages (record old.config { wait = wait })

-- `pages P`
pub record PagesLine (old : Draft) (args : List Text) (new : Draft) : Type 0 where
  pub pages : ℕ
  pub field : Text
  pub text : args ≡ field ∷ []
  pub number : IsNumber 1 4095 field pages
  pub place : old.section ≡ sections.Pages
  pub means : new ≡ with_config old sections.Server (record old.config { pages = pages })

-- `MAC IP NAME`, with an address other than 0.0.0.0 and 255.255.255.255
pub record IsMachine (mac ip name : Text) (machine : Machine) : Type 0 where
  pub is_mac : IsMac mac machine.mac
  pub is_ip : IsIp ip machine.ip
  pub least : 0 < machine.ip
  pub most : machine.ip + 1 < 2 ^ 32
  pub is_name : IsName name
  pub same_name : machine.name ≡ name

-- the two ends have nothing in common
pub record Differ (a b : Machine) : Type 0 where
  pub mac : a.mac ≢ b.mac
  pub ip : a.ip ≢ b.ip
  pub name : a.name ≢ b.name

-- `server MAC IP NAME`
pub record ServerLine (old : Draft) (args : List Text) (new : Draft) : Type 0 where
  pub server : Machine
  pub mac : Text
  pub ip : Text
  pub name : Text
  pub text : args ≡ mac ∷ ip ∷ name ∷ []
  pub place : old.section ≡ sections.Server
  pub machine : IsMachine mac ip name server
  pub means : new ≡ with_config old sections.Client (record old.config { server = server })

-- `client MAC IP NAME DOMAIN IP`
pub record ClientLine (old : Draft) (args : List Text) (new : Draft) : Type 0 where
  pub client : Machine
  pub router : ℕ
  pub mac : Text
  pub ip : Text
  pub name : Text
  pub domain : Text
  pub router_ip : Text
  pub text : args ≡ mac ∷ ip ∷ name ∷ domain ∷ router_ip ∷ []
  pub place : old.section ≡ sections.Client
  pub machine : IsMachine mac ip name client
  pub domain_name : IsName domain
  pub is_router : IsIp router_ip router
  pub differ : Differ client old.config.server
  pub means : new ≡ with_config old sections.Config (record old.config { client = client; domain = domain; router = router })

-- Configuration lines, in any order.

-- `arch NAME`, at most once
pub record ArchLine (old : Draft) (args : List Text) (new : Draft) : Type 0 where
  pub name : Text
  pub text : args ≡ name ∷ []
  pub place : old.section ≡ sections.Config
  pub is_name : IsName name
  pub first : old.config.arch ≡ []
  pub means : new ≡ with_config old sections.Config (record old.config { arch = name })

-- at most 16 further machines, whose names differ from each other and from those of the two ends
pub record MayAddHost (config : Config) (name : Text) : Type 0 where
  pub few : length config.hosts < host_limit
  pub not_server : config.server.name ≢ name
  pub not_client : config.client.name ≢ name
  pub others : All (λ (other : Host). other.name ≢ name) config.hosts

-- `host NAME IP`, with any address
pub record HostLine (old : Draft) (args : List Text) (new : Draft) : Type 0 where
  pub host : Host
  pub name : Text
  pub ip : Text
  pub text : args ≡ name ∷ ip ∷ []
  pub place : old.section ≡ sections.Config
  pub is_name : IsName name
  pub same_name : host.name ≡ name
  pub is_ip : IsIp ip host.ip
  pub may : MayAddHost old.config name
  pub means : new ≡ with_host old host

-- the rest of a line, of which these are the fields: the first, and a space before each further one
abbrev pub spaced : List Text → Text
spaced [] = []
spaced (field ∷ more) = 32 ∷ field ++ spaced more

pub record IsRest (args : List Text) (text : Text) : Type 0 where
  pub field : Text
  pub more : List Text
  pub fields : args ≡ field ∷ more
  pub is : text ≡ field ++ spaced more

-- `params TEXT`: one more line of the bootparams file, at most 256. What its words say has no fault after what the lines before it
-- say.
pub record ParamsLine (old : Draft) (args : List Text) (new : Draft) : Type 0 where
  pub line : Text
  pub params : file.Draft
  pub text : IsRest args line
  pub place : old.section ≡ sections.Config
  pub few : old.params_lines < params_limit
  pub says : Says old.params (line_parts old.params.next (old.params_lines + 1) (fed line)) (after_line old.params.next (fed line)) params
  pub means : new ≡ with_params old line params

-- the files so far, with so many bytes more, are within the limit
abbrev pub HasRoom : Draft → ℕ → Type 0
HasRoom draft more = draft.bytes + more ≤ all_files_limit

-- at most 16 boot files, whose names differ
abbrev pub MayAddBootFile : List BootFile → Text → Type 0
MayAddBootFile files name = (length files < 16) × All (λ (other : BootFile). other.name ≢ name) files

-- `tftp NAME BYTES`
pub record TftpLine (old : Draft) (args : List Text) (new : Draft) : Type 0 where
  pub file : BootFile
  pub name : Text
  pub bytes : Text
  pub text : args ≡ name ∷ bytes ∷ []
  pub place : old.section ≡ sections.Config
  pub is_name : IsName name
  pub same_name : file.name ≡ name
  pub runs : IsRunsWithin boot_file_limit bytes file.bytes
  pub may : MayAddBootFile old.config.tftp name
  pub room : HasRoom old (length file.bytes)
  pub means : new ≡ with_boot_file old file

-- one root export, whose path isn't that of the swap file
abbrev pub MayBeRoot : Config → Text → Type 0
MayBeRoot config path = (config.root ≡ None) × IfSome config.swap (λ (swap : SwapLine). swap.path ≢ path)

-- `root PATH`
pub record RootLine (old : Draft) (args : List Text) (new : Draft) : Type 0 where
  pub path : Text
  pub text : args ≡ path ∷ []
  pub place : old.section ≡ sections.Config
  pub is_path : IsPath path
  pub may : MayBeRoot old.config path
  pub means : new ≡ with_config old sections.Config (record old.config { root = Some path })

-- at most 256 files and links; a path is used once, and none is a directory on the way to another
abbrev pub MayAddItem : List RootItem → Text → Type 0
MayAddItem items path = (length items < 256) × All (λ (item : RootItem). AreApart (item_path item) path) items

-- `file PATH BYTES`
pub record FileLine (old : Draft) (args : List Text) (new : Draft) : Type 0 where
  pub path : Text
  pub content : List ℕ
  pub bytes : Text
  pub text : args ≡ path ∷ bytes ∷ []
  pub place : old.section ≡ sections.Config
  pub is_path : IsPath path
  pub runs : IsRunsWithin 33554432 bytes content
  pub may : MayAddItem old.config.items path
  pub room : HasRoom old (length content)
  pub means : new ≡ with_item old (File path content)

-- `link PATH TEXT`
pub record LinkLine (old : Draft) (args : List Text) (new : Draft) : Type 0 where
  pub path : Text
  pub target : Text
  pub text : args ≡ path ∷ target ∷ []
  pub place : old.section ≡ sections.Config
  pub is_path : IsPath path
  pub is_target : IsTarget target
  pub may : MayAddItem old.config.items path
  pub means : new ≡ with_item old (Symlink path target)

-- `kernel PATH`, at most once
pub record KernelLine (old : Draft) (args : List Text) (new : Draft) : Type 0 where
  pub path : Text
  pub text : args ≡ path ∷ []
  pub place : old.section ≡ sections.Config
  pub is_path : IsPath path
  pub first : old.config.kernel ≡ []
  pub means : new ≡ with_config old sections.Config (record old.config { kernel = path })

-- one swap file, whose path isn't that of the root export
abbrev pub MayBeSwap : Config → Text → Type 0
MayBeSwap config path = (config.swap ≡ None) × IfSome config.root (λ root. root ≢ path)

-- `swap PATH SIZE`
pub record SwapFileLine (old : Draft) (args : List Text) (new : Draft) : Type 0 where
  pub path : Text
  pub size : ℕ
  pub number : Text
  pub text : args ≡ path ∷ number ∷ []
  pub place : old.section ≡ sections.Config
  pub is_path : IsPath path
  pub is_size : IsNumber 8192 33554432 number size
  pub may : MayBeSwap old.config path
  pub means : new ≡ with_config old sections.Config (record old.config { swap = Some (record { path = path; size = size }) })

-- Event lines.

-- `none`, or 1 to 8 delays from 1 to life - 1
abbrev pub IsDelays : ℕ → List Text → List ℕ → Type 0
IsDelays life args delays = ((args ≡ codes "none" ∷ []) × (delays ≡ [])) ⊎ ((1 ≤ length args) × (length args ≤ 8) × AllZip (IsNumber 1 (life - 1)) args delays)

-- one fate for each packet, and at most 65,536
abbrev pub MayAddFate : List Fate → ℕ → Type 0
MayAddFate fates id = (length fates < fate_limit) × All (λ (other : Fate). other.id ≢ id) fates

-- `fate ID none`, `fate ID D ..`
pub record FateLine (old : Draft) (args : List Text) (new : Draft) : Type 0 where
  pub fate : Fate
  pub id : Text
  pub delays : List Text
  pub text : args ≡ id ∷ delays
  pub place : MayBeEvent old.section
  pub is_id : IsNumber 0 4294967295 id fate.id
  pub are_delays : IsDelays old.config.life delays fate.delays
  pub may : MayAddFate old.fates fate.id
  pub means : new ≡ with_fate old fate

-- `stranger TICK ADDR ADDR BYTES`, of which a script has at most 4,096
pub record StrangerLine (old : Draft) (args : List Text) (new : Draft) : Type 0 where
  pub stranger : Stranger
  pub tick : Text
  pub from : Text
  pub to : Text
  pub body : Text
  pub text : args ≡ tick ∷ from ∷ to ∷ body ∷ []
  pub place : MayBeEvent old.section
  pub is_tick : IsNumber 1 4294967295 tick stranger.tick
  pub is_src : IsAddr from stranger.src
  pub is_dst : IsAddr to stranger.dst
  pub is_body : IsRunsWithin body_limit body stranger.body
  pub elsewhere : IsElsewhere old.config.client.ip old.config.server.ip stranger.src
  pub few : length old.strangers < stranger_limit
  pub means : new ≡ with_stranger old stranger

-- which call of the client's network fails, and by which number it is known
abbrev pub fault_word : PlannedFault → Text
fault_word (planned.Send id) = codes "send"
fault_word (planned.Recv call) = codes "recv"

abbrev pub fault_number : PlannedFault → ℕ
fault_number (planned.Send id) = id
fault_number (planned.Recv call) = call

-- `fault send ID`, `fault recv N`
pub record FaultLine (old : Draft) (args : List Text) (new : Draft) : Type 0 where
  pub fault : PlannedFault
  pub number : Text
  pub text : args ≡ fault_word fault ∷ number ∷ []
  pub place : MayBeEvent old.section
  pub is_number : IsNumber 0 4294967295 number (fault_number fault)
  pub means : new ≡ with_fault old fault

-- Command lines.

-- a command in the place of one, of which a script has at most 16,384
pub record AddsCommand (old : Draft) (command : Command) (new : Draft) : Type 0 where
  pub place : MayBeCommand old.section
  pub count : length old.commands < command_limit
  pub means : new ≡ with_command old command

-- `addr`
pub record AddrLine (old : Draft) (args : List Text) (new : Draft) : Type 0 where
  pub text : args ≡ []
  pub adds : AddsCommand old commands.Addr new

-- `boot`
pub record BootLine (old : Draft) (args : List Text) (new : Draft) : Type 0 where
  pub text : args ≡ []
  pub adds : AddsCommand old commands.Boot new

-- `wait N`
pub record WaitCommandLine (old : Draft) (args : List Text) (new : Draft) : Type 0 where
  pub ticks : ℕ
  pub field : Text
  pub text : args ≡ field ∷ []
  pub number : IsNumber 1 100000 field ticks
  pub adds : AddsCommand old (commands.Wait ticks) new
