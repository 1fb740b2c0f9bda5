-- A configuration line leads to one draft.
use Rattle.std.proofs.Common.{◌≡◌, ℕ, ◌+◌, List, ◌++◌, ap, sym, ◌∙◌, subst}
use Rattle.sd_bootparams.specs.File.{adding}
use Rattle.sd_bootparams.specs.LineByLine.{fed, line_parts, after_line}
use Rattle.sd_text.specs.Texts.{Text, IsIp}
use Rattle.sd_config.specs.Config.{boot_file_limit}
use Rattle.sd_script.specs.declared.draft.Draft.{Draft}
use Rattle.sd_text.specs.Runs.{IsRunsWithin}
use Rattle.sd_script.specs.Lines.{with_params, ArchLine, HostLine, ParamsLine, IsRest, spaced, TftpLine, RootLine, FileLine, LinkLine, KernelLine, SwapFileLine}
use Rattle.sd_text.proofs.Exits.{firsts, others}
use Rattle.sd_text.proofs.NumberLemmas.{same_number}
use Rattle.sd_text.proofs.ItemLemmas.{one_runs}
use Rattle.sd_text.proofs.MacLemmas.{one_ip}

same_runs : (most : ℕ) {f g : Text} (a b : List ℕ) → f ≡ g → IsRunsWithin most f a → IsRunsWithin most g b → a ≡ b
same_runs most {f} {g} a b e x y = let here : IsRunsWithin most g a = subst (λ (t : Text). IsRunsWithin most t a) e x in one_runs g a b here.is y.is

pub arch_one : (old : Draft) (args : List Text) (a b : Draft) → ArchLine old args a → ArchLine old args b → a ≡ b
arch_one old args a b x y =
    let name : x.name ≡ y.name = firsts (sym x.text ∙ y.text) in
    x.means ∙ rw name (sym y.means)

pub host_one : (old : Draft) (args : List Text) (a b : Draft) → HostLine old args a → HostLine old args b → a ≡ b
host_one old args a b x y =
    let e = sym x.text ∙ y.text in
    let name : x.host.name ≡ y.host.name = x.same_name ∙ firsts e ∙ sym y.same_name in
    let here : IsIp y.ip x.host.ip = subst (λ (t : Text). IsIp t x.host.ip) (firsts (others e)) x.is_ip in
    let ip : x.host.ip ≡ y.host.ip = one_ip y.ip x.host.ip y.host.ip here y.is_ip in
    let same : x.host ≡ y.host = λ k. record { name = name k; ip = ip k } in
    x.means ∙ rw same (sym y.means)

rest_one : (args : List Text) (a b : Text) → IsRest args a → IsRest args b → a ≡ b
rest_one args a b x y =
    let e = sym x.fields ∙ y.fields in
    let field : x.field ≡ y.field = firsts e in
    let more : x.more ≡ y.more = others e in
    x.is ∙ (λ k. field k ++ spaced (more k)) ∙ sym y.is

pub params_one : (old : Draft) (args : List Text) (a b : Draft) → ParamsLine old args a → ParamsLine old args b → a ≡ b
params_one old args a b x y =
    let line : x.line ≡ y.line = rest_one args x.line y.line x.text y.text in
    let says : x.params.params ≡ y.params.params =
    x.says.params ∙ ap (λ (l : Text). adding old.params.params (line_parts old.params.next (old.params_lines + 1) (fed l))) line ∙ sym y.says.params in
    let next : x.params.next ≡ y.params.next = x.says.next ∙ ap (λ (l : Text). after_line old.params.next (fed l)) line ∙ sym y.says.next in
    let same : x.params ≡ y.params = λ k. record { params = says k; next = next k } in
    x.means ∙ (λ k. with_params old (line k) (same k)) ∙ sym y.means

pub tftp_one : (old : Draft) (args : List Text) (a b : Draft) → TftpLine old args a → TftpLine old args b → a ≡ b
tftp_one old args a b x y =
    let e = sym x.text ∙ y.text in
    let name : x.file.name ≡ y.file.name = x.same_name ∙ firsts e ∙ sym y.same_name in
    let bytes : x.file.bytes ≡ y.file.bytes = same_runs boot_file_limit x.file.bytes y.file.bytes (firsts (others e)) x.runs y.runs in
    let same : x.file ≡ y.file = λ k. record { name = name k; bytes = bytes k } in
    x.means ∙ rw same (sym y.means)

pub root_one : (old : Draft) (args : List Text) (a b : Draft) → RootLine old args a → RootLine old args b → a ≡ b
root_one old args a b x y =
    let path : x.path ≡ y.path = firsts (sym x.text ∙ y.text) in
    x.means ∙ rw path (sym y.means)

pub file_one : (old : Draft) (args : List Text) (a b : Draft) → FileLine old args a → FileLine old args b → a ≡ b
file_one old args a b x y =
    let e = sym x.text ∙ y.text in
    let path : x.path ≡ y.path = firsts e in
    let content : x.content ≡ y.content = same_runs 33554432 x.content y.content (firsts (others e)) x.runs y.runs in
    x.means ∙ rw (path, content) (sym y.means)

pub link_one : (old : Draft) (args : List Text) (a b : Draft) → LinkLine old args a → LinkLine old args b → a ≡ b
link_one old args a b x y =
    let e = sym x.text ∙ y.text in
    let path : x.path ≡ y.path = firsts e in
    let target : x.target ≡ y.target = firsts (others e) in
    x.means ∙ rw (path, target) (sym y.means)

pub kernel_one : (old : Draft) (args : List Text) (a b : Draft) → KernelLine old args a → KernelLine old args b → a ≡ b
kernel_one old args a b x y =
    let path : x.path ≡ y.path = firsts (sym x.text ∙ y.text) in
    x.means ∙ rw path (sym y.means)

pub swap_one : (old : Draft) (args : List Text) (a b : Draft) → SwapFileLine old args a → SwapFileLine old args b → a ≡ b
swap_one old args a b x y =
    let e = sym x.text ∙ y.text in
    let path : x.path ≡ y.path = firsts e in
    let size : x.size ≡ y.size = same_number 8192 33554432 x.size y.size (firsts (others e)) x.is_size y.is_size in
    x.means ∙ rw (path, size) (sym y.means)
