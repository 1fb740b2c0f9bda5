-- What host and params lines keep.
use Rattle.std.proofs.Common.{◌≡◌, ◌≢◌, ℕ, suc, ◌+◌, ◌<◌, ◌≤◌, Bool, true, false, not, cond, eqb, List, [], ◌∷◌, ◌++◌, length, take, refl, ap, sym, ◌∙◌, subst, append_assoc, arith, length-append}
use Rattle.std.proofs.lemmas.List.{append-nil}
use Rattle.std.specs.Prelude.{◌&&◌}
use Rattle.std.specs.List.{AllPairs, AllByRecursion, onto_first, before_first, prefix_len}
use Rattle.std.specs.Cmp.Derive.{both_true}
use Rattle.std.proofs.lemmas.List.Elements.{All-nil, All-cons, All-append}
use Rattle.std.proofs.lemmas.List.Folds.{list_all-append}
use Rattle.std.proofs.lemmas.List.Quantifiers.{all_pairs_push}
use Rattle.sd_bootparams.specs.declared.book.Host.{Host}
use Rattle.sd_bootparams.specs.declared.draft.Draft as file
use Rattle.sd_bootparams.specs.LineByLine.{blank, fed, file_of, is_one_line, AreLines, StandsAt, Says, line_parts, after_line}
use Rattle.sd_bootparams.proofs.Standing.{begins_blank, next_line_stands, standing_is_file}
use Rattle.sd_text.specs.Texts.{Text, cut}
use Rattle.sd_config.specs.declared.config.Config.{Config}
use Rattle.sd_config.specs.Config.{IsHost, AreHosts, AreParams}
use Rattle.sd_script.specs.Lines.{MayAddHost, IsRest, spaced}

-- ---- machines

no_pairs : {X : Type 0} (R : X → X → Type 0) → AllPairs R []
no_pairs R = λ i j d less inside. absurd (omega (arith, inside))

pub no_hosts_are : (server client : Text) (hosts : List Host) → hosts ≡ [] → AreHosts server client hosts
no_hosts_are server client hosts none = subst (λ (l : List Host). AreHosts server client l) (sym none) (record {
  few = omega arith;
  each = All-nil IsHost;
  differ = no_pairs (λ (a b : Host). a.name ≢ b.name);
  not_server = All-nil (λ (host : Host). host.name ≢ server);
  not_client = All-nil (λ (host : Host). host.name ≢ client);
})

pub one_more_host : (c : Config) (host : Host) → AreHosts c.server.name c.client.name c.hosts → MayAddHost c host.name → IsHost host → AreHosts c.server.name c.client.name (c.hosts ++ host ∷ [])
one_more_host c host are may is =
    let S = λ (other : Host). other.name ≢ c.server.name in
    let C = λ (other : Host). other.name ≢ c.client.name in
    record {
      few = omega (arith, may.few, length-append c.hosts (host ∷ []));
      each = All-append IsHost c.hosts (host ∷ []) are.each (All-cons IsHost host [] is (All-nil IsHost));
      differ = all_pairs_push (λ (a b : Host). a.name ≢ b.name) c.hosts host are.differ (λ k d h. may.others k d h);
      not_server = All-append S c.hosts (host ∷ []) are.not_server (All-cons S host [] (λ e. may.not_server (sym e)) (All-nil S));
      not_client = All-append C c.hosts (host ∷ []) are.not_client (All-cons C host [] (λ e. may.not_client (sym e)) (All-nil C));
    }

-- ---- texts of one line

abbrev pub OneLine : Text → Type 0
OneLine text = is_one_line text ≡ true

both_are : (a b : Bool) → (a && b) ≡ true → (a ≡ true) × (b ≡ true)
both_are true b h = (refl, h)
both_are false b h = absurd (cc)

onto_one : (b : ℕ) (parts : List Text) → not (eqb b 10) ≡ true → AllByRecursion OneLine parts → AllByRecursion OneLine (onto_first b parts)
onto_one b [] e all = (both_true e refl, tt)
onto_one b (part ∷ parts) e all = (both_true e all.0, all.1)

-- the parts of such a text are such
pub parts_one : (c : ℕ) (text : Text) → OneLine text → AllByRecursion OneLine (cut c text)
parts_one c [] one = (refl, tt)
parts_one c (b ∷ text) one =
    let both = both_are (not (eqb b 10)) (is_one_line text) one in
    of (eqb b c) both.0 (parts_one c text both.1)
  where
    of : (t : Bool) → not (eqb b 10) ≡ true → AllByRecursion OneLine (cut c text) → AllByRecursion OneLine (cond t ([] ∷ cut c text) (onto_first b (cut c text)))
    of true e all = (refl, all)
    of false e all = onto_one b (cut c text) e all

spaced_one : (fields : List Text) → AllByRecursion OneLine fields → OneLine (spaced fields)
spaced_one [] all = refl
spaced_one (field ∷ more) all = list_all-append (λ b. not (eqb b 10)) field (spaced more) ∙ both_true all.0 (spaced_one more all.1)

-- and so is the text of such fields
pub rest_one_line : (args : List Text) (text : Text) → AllByRecursion OneLine args → IsRest args text → OneLine text
rest_one_line args text all r =
    let parts : AllByRecursion OneLine (r.field ∷ r.more) = subst (λ (l : List Text). AllByRecursion OneLine l) r.fields all in
    ap is_one_line r.is ∙ list_all-append (λ b. not (eqb b 10)) r.field (spaced r.more) ∙ both_true parts.0 (spaced_one r.more parts.1)

-- what stands before the line feed is one line
pub before_one : (line : Text) → OneLine (before_first (λ b. eqb b 10) line)
before_one [] = refl
before_one (b ∷ line) = of (before_one line) (eqb b 10) refl
  where
    of : OneLine (before_first (λ b. eqb b 10) line) → (t : Bool) → eqb b 10 ≡ t → is_one_line (take (cond (not t) (1 + prefix_len (λ x. not (eqb x 10)) line) 0) (b ∷ line)) ≡ true
    of more true e = refl
    of more false e =
        let same : 1 + prefix_len (λ x. not (eqb x 10)) line ≡ suc (prefix_len (λ x. not (eqb x 10)) line) = omega arith in
        ap (λ (k : ℕ). is_one_line (take k (b ∷ line))) same ∙ both_true (ap not e) more

-- ---- the bootparams file

-- the lines that came, and what they say
pub record ParamsSoFar (text : Text) (n : ℕ) (draft : file.Draft) : Type 0 where
  pub texts : List Text
  pub is : text ≡ file_of texts
  pub lines : AreLines texts
  pub count : length texts ≡ n
  pub few : n ≤ 256
  pub stands : StandsAt (file_of texts) draft

pub no_params : ParamsSoFar [] 0 blank
no_params = record { texts = []; is = refl; lines = tt; count = refl; few = omega arith; stands = begins_blank }

file_more : (texts : List Text) (line : Text) → file_of (texts ++ (line ∷ [])) ≡ file_of texts ++ fed line
file_more [] line = append-nil (fed line)
file_more (text ∷ texts) line = ap (λ (l : Text). fed text ++ l) (file_more texts line) ∙ sym (append_assoc (fed text) (file_of texts) (fed line))

lines_more : (texts : List Text) (line : Text) → AreLines texts → OneLine line → AreLines (texts ++ (line ∷ []))
lines_more [] line are one = (one, tt)
lines_more (text ∷ texts) line are one = (are.0, lines_more texts line are.1 one)

pub one_more_line : (text : Text) (n : ℕ) (old new : file.Draft) (line : Text) → ParamsSoFar text n old → n < 256 → OneLine line
    → Says old (line_parts old.next (n + 1) (fed line)) (after_line old.next (fed line)) new → ParamsSoFar (text ++ fed line) (n + 1) new
one_more_line text n old new line p less one says =
    let here : Says old (line_parts old.next (length p.texts + 1) (fed line)) (after_line old.next (fed line)) new =
    subst (λ (k : ℕ). Says old (line_parts old.next (k + 1) (fed line)) (after_line old.next (fed line)) new) (sym p.count) says in
    record {
      texts = p.texts ++ (line ∷ []);
      is = ap (λ (l : Text). l ++ fed line) p.is ∙ sym (file_more p.texts line);
      lines = lines_more p.texts line p.lines one;
      count = omega (arith, length-append p.texts (line ∷ []), p.count);
      few = omega (arith, less);
      stands = next_line_stands p.texts line old new p.lines one p.stands here;
    }

pub params_are : (text : Text) (n : ℕ) (draft : file.Draft) → ParamsSoFar text n draft → AreParams text
params_are text n draft p = record {
  texts = p.texts;
  is = p.is;
  lines = p.lines;
  few = omega (arith, p.few, p.count);
  faultless = (standing_is_file text draft (subst (λ (t : Text). StandsAt t draft) (sym p.is) p.stands)).faultless;
}
