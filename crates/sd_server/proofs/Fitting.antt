-- What the RPC programs answer has room in a message.
use Rattle.std.proofs.Common.{◌≡◌, ℕ, ◌+◌, ◌^◌, ◌<◌, ◌≤◌, Bool, true, false, not, cond, eqb, ltb, ◌||◌, List, [], ◌∷◌, ◌++◌, length, map, Option, Some, None, refl, ◌∙◌, arith, length-append}
use Rattle.std.specs.Prelude.{IfSome, ◌==◌, ◌&&◌}
use Rattle.std.specs.Option.{option_map}
use Rattle.std.specs.List.{AllByRecursion, find}
use Rattle.std.proofs.lemmas.Bool.{ltb-false}
use Rattle.sd_xdr.specs.Kind.{Value, filling}
use Rattle.sd_xdr.specs.Grammar.{word_bytes, counted}
use Rattle.sd_xdr.proofs.Spelled.{length-counted}
use Rattle.sd_rpc_msg.specs.declared.message.Outcome.{Outcome}
use Rattle.sd_rpc_msg.specs.declared.message.Outcome.TheVariants.{Success, ProgUnavail, ProgMismatch, ProcUnavail}
use Rattle.sd_portmap.specs.declared.message.PmapArgs.{PmapArgs}
use Rattle.sd_portmap.specs.declared.message.PmapArgs.TheVariants as pmap
use Rattle.sd_portmap.specs.declared.message.PmapResult.TheVariants as pmap_result
use Rattle.sd_portmap.specs.Layout as portmap
use Rattle.sd_bootparams.specs.declared.params.Entry.{Entry}
use Rattle.sd_bootparams.specs.declared.params.Why.{Why}
use Rattle.sd_bootparams.specs.declared.params.Why.TheVariants as why
use Rattle.sd_bootparams.specs.declared.book.Host.{Host}
use Rattle.sd_bootparams.specs.Contents.{Contents}
use Rattle.sd_bootparams.specs.File.{Text, same, flat, Role, client, item_of, Part, parts, entry_in, nothing, adding, key_of, server_of, path_of, value_of, is_text, has, has_key, is_too_long, has_client, fault_in, IsFaultless}
use Rattle.sd_bootparams.specs.Tables.{entry_of, address_of, client_named, file_at, file_of}
use Rattle.sd_bootparams.specs.declared.message.BpArgs.{BpArgs}
use Rattle.sd_bootparams.specs.declared.message.BpArgs.TheVariants as bp
use Rattle.sd_bootparams.specs.declared.message.BpResult.{BpResult}
use Rattle.sd_bootparams.specs.declared.message.BpResult.TheVariants as bp_result
use Rattle.sd_bootparams.specs.Layout as bootparam
use Rattle.sd_bootparams.proofs.Follow.{faultless_head, faultless_tail}
use Rattle.sd_config.specs.declared.config.Config.{Config}
use Rattle.sd_config.specs.Config.{IsConfig, IsHost}
use Rattle.sd_services.specs.RpcCalls.{auth_null, answered, unless_refused, accepted, spelled}
use Rattle.sd_services.specs.RpcReply.{machines_of, book_of, bp_args_in, bp_answer, bootparams, bootparams_port, results_in, pmap_answer}
use Rattle.sd_config.proofs.Lists.{all_append, all_recursive, all_weaker, all_found}

-- ---- what a bootparams file says

pub record EntryFits (e : Entry) : Type 0 where
  pub server : length e.server ≤ 255
  pub path : length e.path ≤ 1024

-- the fourth test was passed
passed : (a b d e f : Bool) (k l m n o : Why) → cond a (Some k) (cond b (Some l) (cond d (Some m) (cond e (Some n) (cond f (Some o) None)))) ≡ None → e ≡ false
passed true b d e f k l m n o h = absurd (cc)
passed false true d e f k l m n o h = absurd (cc)
passed false false true e f k l m n o h = absurd (cc)
passed false false false true f k l m n o h = absurd (cc)
passed false false false false f k l m n o h = refl

neither : (a b : Bool) → (a || b) ≡ false → (a ≡ false) × (b ≡ false)
neither true b h = absurd (cc)
neither false b h = (refl, h)

short_enough : (text : Text) → is_too_long (key_of text) (server_of text) (path_of text) ≡ false → (length (server_of text) ≤ 255) × (length (path_of text) ≤ 1024)
short_enough text h =
    let two = neither (ltb 32 (length (key_of text)) || ltb 255 (length (server_of text))) (ltb 1024 (length (path_of text))) h in
    let one = neither (ltb 32 (length (key_of text))) (ltb 255 (length (server_of text))) two.0 in
    (ltb-false 255 (length (server_of text)) one.1, ltb-false 1024 (length (path_of text)) two.1)

part_fits : (old : Contents) (line : ℕ) (role : Role) (text : Text) → fault_in old role text ≡ None → AllByRecursion EntryFits (entry_in (record { line = line; role = role; text = text }))
part_fits old line client text h = tt
part_fits old line (item_of owner) text h =
    let e = passed (not (is_text text)) (not (has 61 text)) (not (has 58 (value_of text))) (is_too_long (key_of text) (server_of text) (path_of text)) (has_key old owner (key_of text))
    why.NotText why.NoEquals why.NoColon why.TooLong why.DoubleKey h in
    let s = short_enough text e in
    (record { server = s.0; path = s.1 }, tt)

entries_fit : (old : Contents) (ps : List Part) → IsFaultless old ps → AllByRecursion EntryFits (flat (map entry_in ps))
entries_fit old [] h = tt
entries_fit old (p ∷ ps) h =
    all_append EntryFits (entry_in p) (flat (map entry_in ps)) (part_fits old p.line p.role p.text (faultless_head old p ps h))
    (entries_fit (adding old (p ∷ [])) ps (faultless_tail old p ps h))

-- ---- bootparams

NameFits : Host → Type 0
NameFits host = length host.name ≤ 255

module _ (c : Config) (is : IsConfig c) where
  machines_fit : AllByRecursion NameFits (machines_of c)
  unfolding NameFits
  machines_fit = (is.server.name.most, (is.client.name.most, all_weaker IsHost NameFits c.hosts (λ h k. k.name.most) (all_recursive IsHost c.hosts is.hosts.each)))

  whoami_fits : (found : Option Host) → IfSome found NameFits
      → IfSome (option_map (λ (x : Text × Text × ℕ). bp_result.Whoami x.0 x.1 x.2) (client_named (book_of c) (option_map (λ (h : Host). h.name) found))) bootparam.ResultFits
  unfolding NameFits
  whoami_fits None h = tt
  whoami_fits (Some host) h = of (has_client (book_of c).contents host.name)
    where
      of : (b : Bool) → IfSome (option_map (λ (x : Text × Text × ℕ). bp_result.Whoami x.0 x.1 x.2) (cond b (Some (host.name, c.domain, c.router)) None)) bootparam.ResultFits
      of true = (h, is.domain.most)
      of false = tt

  getfile_fits : (found : Option Entry) → IfSome found EntryFits → IfSome (option_map (λ (x : Text × ℕ × Text). bp_result.Getfile x.0 x.1 x.2) (file_of (machines_of c) found)) bootparam.ResultFits
  getfile_fits None h = tt
  getfile_fits (Some e) h = of (address_of (machines_of c) e.server)
    where
      of : (o : Option ℕ) → IfSome (option_map (λ (x : Text × ℕ × Text). bp_result.Getfile x.0 x.1 x.2) (file_at e o)) bootparam.ResultFits
      of None = tt
      of (Some ip) = (h.server, h.path)

  found_one : {X : Type 0} (P : X → Type 0) (test : X → Bool) (xs : List X) → AllByRecursion P xs → IfSome (find test xs) P
  found_one P test xs all = of (find test xs) refl
    where
      of : (o : Option _) → find test xs ≡ o → IfSome o P
      of None e = tt
      of (Some x) e = all_found P test xs x all e

  pub bp_answer_fits : (args : BpArgs) → IfSome (bp_answer c args) bootparam.ResultFits
  bp_answer_fits bp.Null = tt
  bp_answer_fits (bp.Whoami ip) = whoami_fits (find (λ h. h.ip == ip) (machines_of c)) (found_one NameFits (λ h. h.ip == ip) (machines_of c) machines_fit)
  bp_answer_fits (bp.Getfile owner key) = getfile_fits (entry_of (book_of c).contents owner key) (found_one EntryFits (λ e. same e.client owner && same e.key key) (book_of c).contents.entries (entries_fit nothing (parts c.params) is.params.faultless))

-- ---- the portmapper

length-word : (n : ℕ) → length (word_bytes n) ≡ 4
unfolding word_bytes
length-word n = refl

few : (n : ℕ) → filling n ≤ 3
few n = omega arith

words : (a b d e f : ℕ) → length (word_bytes a ++ (word_bytes b ++ (word_bytes d ++ (word_bytes e ++ word_bytes f)))) ≡ 20
words a b d e f =
    length-append (word_bytes a) (word_bytes b ++ (word_bytes d ++ (word_bytes e ++ word_bytes f)))
    ∙ omega (
      arith,
      length-word a,
      length-word b,
      length-word d,
      length-word e,
      length-word f,
      length-append (word_bytes b) (word_bytes d ++ (word_bytes e ++ word_bytes f)),
      length-append (word_bytes d) (word_bytes e ++ word_bytes f),
      length-append (word_bytes e) (word_bytes f),
    )

-- two texts and an address
texts_short : (x y z : Text) → length x ≤ 255 → length y ≤ 1024 → length z ≡ 20 → length (counted x ++ (counted y ++ z)) < 2 ^ 32
texts_short x y z small long twenty =
    let whole = length-append (counted x) (counted y ++ z) in
    let behind = length-append (counted y) z in
    let front = length-counted x in
    let back = length-counted y in
    let f = few (length x) in
    let g = few (length y) in
    omega (arith, whole, behind, front, back, f, g, small, long, twenty)

between_short : (x y z : Text) → length x ≤ 255 → length y ≤ 1024 → length z ≡ 20 → length (counted x ++ (z ++ counted y)) < 2 ^ 32
between_short x y z small long twenty =
    let whole = length-append (counted x) (z ++ counted y) in
    let behind = length-append z (counted y) in
    let front = length-counted x in
    let back = length-counted y in
    let f = few (length x) in
    let g = few (length y) in
    omega (arith, whole, behind, front, back, f, g, small, long, twenty)

result_short : (r : BpResult) → bootparam.ResultFits r → length (bootparam.result_bytes r) < 2 ^ 32
result_short bp_result.Void h = omega arith
result_short (bp_result.Whoami owner domain router) h = texts_short owner domain _ h.0 (omega (arith, h.1)) (words _ _ _ _ _)
result_short (bp_result.Getfile server ip path) h = between_short server path _ h.0 h.1 (words _ _ _ _ _)

Short : Text → Type 0
Short results = length results < 2 ^ 32

module _ (c : Config) (is : IsConfig c) where
  given_short : (o : Option BpResult) → IfSome o bootparam.ResultFits → IfSome (results_in (option_map (Success auth_null) (option_map bootparam.result_bytes o))) Short
  unfolding Short
  given_short None h = tt
  given_short (Some r) h = result_short r h

  answered_short : (o : Option Value) → IfSome (results_in (answered (bootparams c) o)) Short
  answered_short None = tt
  answered_short (Some v) = given_short (bp_answer c (bp_args_in v)) (bp_answer_fits c is (bp_args_in v))

  refused_short : (a b d : Bool) (answer : Option Outcome) → IfSome (results_in answer) Short
      → IfSome (results_in (unless_refused (cond (not a) (Some (ProgUnavail auth_null)) (cond (not b) (Some (ProgMismatch auth_null 1 1)) (cond d (Some (ProcUnavail auth_null)) None))) answer)) Short
  refused_short false b d answer h = tt
  refused_short true false d answer h = tt
  refused_short true true true answer h = tt
  refused_short true true false answer h = h

  called_short : (prog vers proc_no : ℕ) (args : Text) → IfSome (results_in (accepted (bootparams c) prog vers proc_no args)) Short
  called_short prog vers proc_no args =
      refused_short (eqb prog 100026) (eqb vers 1) (ltb 2 proc_no) (answered (bootparams c) (spelled (bootparam.args_kind proc_no) args)) (answered_short (spelled (bootparam.args_kind proc_no) args))

  relayed_fits : (o : Option Text) → IfSome o Short → IfSome (option_map (pmap_result.Callit bootparams_port) o) portmap.ResultFits
  unfolding Short
  relayed_fits None h = tt
  relayed_fits (Some results) h = h

  pub pmap_answer_fits : (args : PmapArgs) → IfSome (pmap_answer c args) portmap.ResultFits
  pmap_answer_fits pmap.Null = tt
  pmap_answer_fits (pmap.Set m) = tt
  pmap_answer_fits (pmap.Unset m) = tt
  pmap_answer_fits (pmap.Getport m) = tt
  pmap_answer_fits pmap.Dump = tt
  pmap_answer_fits (pmap.Callit prog vers proc_no args) = relayed_fits (results_in (accepted (bootparams c) prog vers proc_no args)) (called_short prog vers proc_no args)
