-- Which bytes are a script, and which line is the first outside the grammar.
use Rattle.std.specs.Prelude.{◌≡◌, ℕ, ◌+◌, ◌<◌, ◌≤◌, ◌==◌, List, [], ◌∷◌, ◌++◌, length, codes, None, ◌⊎◌, if◌then◌else◌}
use Rattle.std.specs.List.{concat}
use Rattle.sd_outside.specs.Lines.{lines, without_feed}
use Rattle.sd_bootparams.specs.LineByLine as file
use Rattle.sd_config.specs.declared.config.Machine.{Machine}
use Rattle.sd_config.specs.declared.config.Config.{Config}
use Rattle.sd_script.specs.declared.draft.Section.{Section}
use Rattle.sd_script.specs.declared.draft.Section.TheVariants as sections
use Rattle.sd_script.specs.declared.draft.Word.{Word}
use Rattle.sd_script.specs.declared.draft.Word.TheVariants as words
use Rattle.sd_script.specs.declared.draft.Draft.{Draft}
use Rattle.sd_script.specs.declared.script.Script.{Script}
use Rattle.sd_script.specs.declared.error.ScriptError.{ScriptError}
use Rattle.sd_script.specs.declared.error.ScriptError.TheVariants as errors
use Rattle.sd_text.specs.Texts.{Text, fields}
use Rattle.sd_script.specs.Limits.{input_limit}
use Rattle.sd_script.specs.Lines.{LifeLine, TriesLine, WaitLine, PagesLine, ServerLine, ClientLine, ArchLine, HostLine, ParamsLine, TftpLine, RootLine, FileLine, LinkLine, KernelLine, SwapFileLine, FateLine, StrangerLine, FaultLine, AddrLine, BootLine, WaitCommandLine}

-- the word with which a line begins
abbrev pub spelling : Word → Text
spelling words.Life = codes "life"
spelling words.Tries = codes "tries"
spelling words.Wait = codes "wait"
spelling words.Pages = codes "pages"
spelling words.Server = codes "server"
spelling words.Client = codes "client"
spelling words.Arch = codes "arch"
spelling words.Host = codes "host"
spelling words.Params = codes "params"
spelling words.Tftp = codes "tftp"
spelling words.Root = codes "root"
spelling words.File = codes "file"
spelling words.Link = codes "link"
spelling words.Kernel = codes "kernel"
spelling words.Swap = codes "swap"
spelling words.Fate = codes "fate"
spelling words.Stranger = codes "stranger"
spelling words.Fault = codes "fault"
spelling words.Addr = codes "addr"
spelling words.Boot = codes "boot"

-- a line with this word and these further fields leads from what the lines before it say to what they say with it
abbrev pub WordLine : Word → Draft → List Text → Draft → Type 0
WordLine words.Life old args new = LifeLine old args new
WordLine words.Tries old args new = TriesLine old args new
WordLine words.Wait old args new = WaitLine old args new ⊎ WaitCommandLine old args new
WordLine words.Pages old args new = PagesLine old args new
WordLine words.Server old args new = ServerLine old args new
WordLine words.Client old args new = ClientLine old args new
WordLine words.Arch old args new = ArchLine old args new
WordLine words.Host old args new = HostLine old args new
WordLine words.Params old args new = ParamsLine old args new
WordLine words.Tftp old args new = TftpLine old args new
WordLine words.Root old args new = RootLine old args new
WordLine words.File old args new = FileLine old args new
WordLine words.Link old args new = LinkLine old args new
WordLine words.Kernel old args new = KernelLine old args new
WordLine words.Swap old args new = SwapFileLine old args new
WordLine words.Fate old args new = FateLine old args new
WordLine words.Stranger old args new = StrangerLine old args new
WordLine words.Fault old args new = FaultLine old args new
WordLine words.Addr old args new = AddrLine old args new
WordLine words.Boot old args new = BootLine old args new

-- an empty line, and one that begins with `#`
abbrev pub IsSkipped : Text → Type 0
IsSkipped [] = Unit {0}
IsSkipped (b ∷ line) = b ≡ 35

pub record IsWordLine (old : Draft) (line : Text) (new : Draft) : Type 0 where
  pub word : Word
  pub args : List Text
  pub text : fields line ≡ spelling word ∷ args
  pub says : WordLine word old args new

-- a line in its place, without its line feed
abbrev pub IsLine : Draft → Text → Draft → Type 0
IsLine old line new = (IsSkipped line × (new ≡ old)) ⊎ IsWordLine old line new

-- the lines lead from one draft to another
abbrev pub Leads : Draft → List Text → Draft → Type 0
Leads old [] new = old ≡ new
Leads old (line ∷ more) new = (next : Draft) × IsLine old (without_feed line) next × Leads next more new

-- Nothing is said yet. A value whose line hasn't come is zero or empty.

abbrev pub no_machine : Machine
no_machine = record { mac = record { 0 = 0 ∷ 0 ∷ 0 ∷ 0 ∷ 0 ∷ 0 ∷ [] }; ip = 0; name = [] }

abbrev pub no_config : Config
no_config = record {
  life = 0;
  tries = 0;
  wait = 0;
  pages = 0;
  server = no_machine;
  client = no_machine;
  domain = [];
  router = 0;
  arch = [];
  hosts = [];
  tftp = [];
  params = [];
  root = None;
  items = [];
  kernel = [];
  swap = None;
}

abbrev pub blank : Draft
blank = record { section = sections.Life; config = no_config; params_lines = 0; params = file.blank; bytes = 0; fates = []; strangers = []; faults = []; commands = [] }

-- the kernel's path, and the usual one where no line names another
abbrev pub kernel_or_usual : Text → Text
kernel_or_usual [] = codes "/vmunix"
kernel_or_usual (b ∷ path) = b ∷ path

-- the script that the draft is
abbrev pub script_of : Draft → Script
script_of draft = record { config = record draft.config { kernel = kernel_or_usual draft.config.kernel }; events = record { fates = draft.fates; strangers = draft.strangers; faults = draft.faults }; commands = draft.commands }

-- all six lines of the heading came
abbrev pub IsWhole : Section → Type 0
IsWhole section = (section ≡ sections.Config) ⊎ (section ≡ sections.Events) ⊎ (section ≡ sections.Commands)

-- what the lines say, and they end within the input limit
pub record Says (before : List Text) (draft : Draft) : Type 0 where
  pub leads : Leads blank before draft
  pub within : length (concat before) ≤ input_limit

-- the text is that of the script
pub record IsScript (text : Text) (script : Script) : Type 0 where
  pub draft : Draft
  pub says : Says (lines text) draft
  pub whole : IsWhole draft.section
  pub means : script ≡ script_of draft

-- line n is there, all lines before it are in the grammar, and it isn't or reaches past the input limit
pub record IsRefusedLine (text : Text) (n : ℕ) : Type 0 where
  pub before : List Text
  pub line : Text
  pub after : List Text
  pub draft : Draft
  pub cut : lines text ≡ before ++ (line ∷ after)
  pub number : n ≡ length before + 1
  pub says : Says before draft
  pub outside : (input_limit < length (concat before) + length line) ⊎ ((new : Draft) → ¬ IsLine draft (without_feed line) new)

-- all lines are in the grammar, and end before the sixth line of the heading: n comes after the last
pub record EndsEarly (text : Text) (n : ℕ) : Type 0 where
  pub draft : Draft
  pub says : Says (lines text) draft
  pub early : ¬ IsWhole draft.section
  pub number : n ≡ length (lines text) + 1

-- n is the first line outside the grammar
abbrev pub IsFirstOutside : Text → ℕ → Type 0
IsFirstOutside text n = IsRefusedLine text n ⊎ EndsEarly text n

-- what a refusal says of the text; out of memory says nothing
abbrev pub IsScriptError : Text → ScriptError → Type 0
IsScriptError text (errors.Line n) = IsFirstOutside text n
IsScriptError text errors.NoMemory = Unit {0}
