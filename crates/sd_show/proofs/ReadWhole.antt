-- Arguments and results that are read whole, by their fields.
use Rattle.std.proofs.Common.{◌≡◌, ℕ, ◌<◌, Bool, true, false, cond, eqb, List, [], ◌++◌, length, Ok, Err, sym, ap, subst, ◌∙◌}
use Rattle.sd_outside.specs.Bytes.{IsBytes}
use Rattle.sd_xdr.specs.declared.error.XdrError.{XdrError}
use Rattle.sd_xdr.specs.declared.error.XdrError.TheVariants.{Tail}
use Rattle.sd_xdr.specs.declared.error.MsgError.{MsgError}
use Rattle.sd_xdr.specs.declared.error.MsgError.TheVariants.{Xdr, RpcVersion, AuthLong, NoMemory}
use Rattle.sd_xdr.specs.Kind.{any, flag, between, char, count, rpcvers, part, whole, Kind, void, ended, Value}
use Rattle.sd_xdr.specs.Grammar.{Reads, Refuses}
use Rattle.sd_xdr.specs.Reading.{Cursor, Read, ◌>>=◌, start, Stops, end_reading, reading}
use Rattle.sd_xdr.proofs.OneItem.{ends, goes_on}
use Rattle.sd_xdr.proofs.Sound.{refused}
use Rattle.sd_xdr.proofs.Whole.{found}
use Rattle.sd_text.specs.Texts.{Text}
use Rattle.sd_text.specs.Grammar.{writes}
use Rattle.sd_show.specs.declared.procedures.Known.{Known}
use Rattle.sd_show.specs.Forms.{Form, as_number, as_ip, as_run, as_quoted, ◌⊞◌, in_parens, in_brackets, form_kind}
use Rattle.sd_show.specs.Fields.{Fields, nothing, field, ◌⊕◌, numbered, checked, field_form, fields_kind, fields_text}
use Rattle.sd_show.specs.Programs.{args_kind, results_kind, args, results}
use Rattle.sd_show.specs.Saying.{OnRefusal}
use Rattle.sd_show.proofs.Agreeing.{args_are, results_are}
use Rattle.sd_show.proofs.Places.{IsUsual}
use Rattle.sd_show.proofs.Tells.{Told}
use Rattle.sd_show.proofs.ValuesFit.{fits, field_fits}
use Rattle.std.proofs.lemmas.Bool.{and_parts, false≢true}

-- ---- what was read, to the last byte

read_whole : (K : Kind part) (c new : Cursor) (x : Value) (q : Read) → reading K c ≡ Ok (x, new) → end_reading (x, new) ≡ q → reading (ended K) c ≡ q
unfolding reading
read_whole K c new x q h k = ap (λ (r : Read). r >>= end_reading) h ∙ k

refused_whole : (K : Kind part) (c : Cursor) (e : MsgError) → reading K c ≡ Err e → reading (ended K) c ≡ Err e
unfolding reading
refused_whole K c e h = ap (λ (r : Read). r >>= end_reading) h

pub whole_said : (A : Fields) (K : Kind whole) (bs : List ℕ) (new : Cursor) (before behind : Text) → IsBytes bs → ended (fields_kind A) ≡ K
    → (x : Value) × (reading (fields_kind A) (start bs) ≡ Ok (x, new)) × (behind ≡ before ++ writes (fields_text A) x) → new.rest ≡ []
    → (x : Value) × Reads whole K bs x × (behind ≡ before ++ writes (fields_text A) x)
whole_said A K bs new before behind fits same says nil =
    let r = read_whole (fields_kind A) (start bs) new says.0 (Ok (says.0, new)) says.1 (ends says.0 new (ap length nil)) in
    (says.0, found K bs says.0 new fits (subst (λ (L : Kind whole). reading L (start bs) ≡ Ok (says.0, new)) same r), says.2)

pub tail_refused : (A : Fields) (K : Kind whole) (bs : List ℕ) (new : Cursor) (x : Value) → IsBytes bs → ended (fields_kind A) ≡ K
    → reading (fields_kind A) (start bs) ≡ Ok (x, new) → 0 < length new.rest → Refuses whole K 0 bs (Xdr (Tail new.at))
tail_refused A K bs new x fits same read more =
    let r = read_whole (fields_kind A) (start bs) new x (Err (Xdr (Tail new.at))) read (goes_on x new more) in
    refused whole K (start bs) (Xdr (Tail new.at)) fits (subst (λ (L : Kind whole). reading L (start bs) ≡ Err (Xdr (Tail new.at))) same r)

by_fields : (A : Fields) (K : Kind whole) (bs : List ℕ) (e : MsgError) → IsBytes bs → ended (fields_kind A) ≡ K → reading (fields_kind A) (start bs) ≡ Err e → Refuses whole K 0 bs e
by_fields A K bs e fits same h = refused whole K (start bs) e fits (subst (λ (L : Kind whole). reading L (start bs) ≡ Err e) same (refused_whole (fields_kind A) (start bs) e h))

pub fields_refused : (A : Fields) (K : Kind whole) (bs : List ℕ) (e : MsgError) → IsBytes bs → ended (fields_kind A) ≡ K → Stops e (reading (fields_kind A) (start bs)) → OnRefusal e (Refuses whole K 0 bs e)
fields_refused A K bs NoMemory fits same h = tt
fields_refused A K bs (Xdr r) fits same h = by_fields A K bs (Xdr r) fits same h
fields_refused A K bs (RpcVersion xid got) fits same h = by_fields A K bs (RpcVersion xid got) fits same h
fields_refused A K bs (AuthLong at len) fits same h = by_fields A K bs (AuthLong at len) fits same h

pub refusal_as : {P Q : Type 0} (e : MsgError) → (P → Q) → OnRefusal e P → OnRefusal e Q
refusal_as NoMemory f h = tt
refusal_as (Xdr r) f h = f h
refusal_as (RpcVersion xid got) f h = f h
refusal_as (AuthLong at len) f h = f h

-- ---- the fields of a procedure, from the first byte to the last

pub all_said : (A B : Fields) (K : Kind whole) (bs : List ℕ) (begun new : Cursor) (before behind : Text) → IsBytes bs → A ≡ B → ended (fields_kind B) ≡ K → begun ≡ start bs
    → Told (fields_text A) (fields_kind A) begun new before behind → new.rest ≡ [] → (x : Value) × Reads whole K bs x × (behind ≡ before ++ writes (fields_text B) x)
all_said A B K bs begun new before behind fits a same at says nil =
    whole_said B K bs new before behind fits same (subst (λ (C : Fields). Told (fields_text C) (fields_kind C) (start bs) new before behind) a (subst (λ (c : Cursor). Told (fields_text A) (fields_kind A) c new before behind) at says)) nil

pub all_refused : (A B : Fields) (K : Kind whole) (bs : List ℕ) (begun : Cursor) (e : MsgError) → IsBytes bs → A ≡ B → ended (fields_kind B) ≡ K → begun ≡ start bs
    → Stops e (reading (fields_kind A) begun) → OnRefusal e (Refuses whole K 0 bs e)
all_refused A B K bs begun e fits a same at h =
    fields_refused B K bs e fits same (subst (λ (C : Fields). Stops e (reading (fields_kind C) (start bs))) a (subst (λ (c : Cursor). Stops e (reading (fields_kind A) c)) at h))

pub all_but_tail : (A B : Fields) (K : Kind whole) (bs : List ℕ) (begun new : Cursor) (before behind : Text) (e : XdrError) → IsBytes bs → A ≡ B → ended (fields_kind B) ≡ K → begun ≡ start bs
    → Told (fields_text A) (fields_kind A) begun new before behind → (0 < length new.rest) × (e ≡ Tail new.at) → Refuses whole K 0 bs (Xdr e)
all_but_tail A B K bs begun new before behind e fits a same at says tail =
    let read = subst (λ (C : Fields). reading (fields_kind C) (start bs) ≡ Ok (says.0, new)) a (subst (λ (c : Cursor). reading (fields_kind A) c ≡ Ok (says.0, new)) at says.1) in
    subst (λ (r : XdrError). Refuses whole K 0 bs (Xdr r)) (sym tail.1) (tail_refused B K bs new says.0 fits same read tail.0)

-- ---- no version stands among them

form_usual : (F : Form) → fits F ≡ true → IsUsual (form_kind F)
form_usual (as_number any) h = tt
form_usual (as_number flag) h = tt
form_usual (as_number (between low high)) h = tt
form_usual (as_number char) h = tt
form_usual (as_number (count most)) h = tt
form_usual (as_number (rpcvers xid)) h = absurd (false≢true h)
form_usual as_ip h = (tt, (tt, (tt, (tt, tt))))
form_usual (as_run o) h = tt
form_usual (as_quoted most) h = tt
form_usual (A ⊞ B) h = let p = and_parts (fits A) (fits B) h in (form_usual A p.0, form_usual B p.1)
form_usual (in_parens A) h = form_usual A h
form_usual (in_brackets A) h = form_usual A h

where_zero_usual : (K : Kind part) → IsUsual K → (v : Bool) → IsUsual (cond v K void)
where_zero_usual K h true = h
where_zero_usual K h false = tt

fields_usual : (A : Fields) → IsUsual (fields_kind A)
fields_usual nothing = tt
fields_usual (field f) = form_usual (field_form f) (field_fits f)
fields_usual (A ⊕ B) = (fields_usual A, fields_usual B)
fields_usual (numbered n A) = fields_usual A
fields_usual (checked A) = (tt, λ n. where_zero_usual (fields_kind A) (fields_usual A) (eqb n 0))

pub args_usual : (k : Known) → IsUsual (args_kind k)
args_usual k = subst (λ (K : Kind whole). IsUsual K) (args_are k) (fields_usual (args k))

pub results_usual : (k : Known) → IsUsual (results_kind k)
results_usual k = subst (λ (K : Kind whole). IsUsual K) (results_are k) (fields_usual (results k))
