-- What a call asks for is what its bytes spell; changes and accesses of the swap file are those that are spelled.
use Rattle.std.proofs.Common.{◌≡◌, ℕ, ◌+◌, ◌<◌, ◌≤◌, Bool, true, false, ◌&&◌, cond, List, [], ◌++◌, length, Option, Some, None, Ok, Err, refl, sym, ◌∙◌, ap, subst, arith, inl, inr, ◌⊎◌}
use Rattle.std.specs.Prelude.{◌==◌, ◌||◌, nat_lt, nat_le, not, IsTrue}
use Rattle.std.specs.Option.{option_map, option_and_then}
use Rattle.std.proofs.lemmas.Bool.Decides.{nat_tests}
use Rattle.sd_outside.specs.Bytes.{IsBytes}
use Rattle.sd_outside.specs.declared.fhandle.FHandle.{FHandle}
use Rattle.sd_outside.specs.declared.packet.Addr.{Addr}
use Rattle.sd_outside.specs.declared.packet.Packet.TheVariants.{Udp}
use Rattle.sd_xdr.specs.Kind.{whole, Kind, ended, Value, number, bytes, ◌⊗◌, number_of, bytes_of, first, second, place_of}
use Rattle.sd_xdr.specs.Grammar.{Reads, HasSpelling, word_bytes, counted, writes}
use Rattle.sd_xdr.specs.Reading.{Read, reading, start}
use Rattle.sd_xdr.proofs.Whole.{found, whole_again}
use Rattle.sd_xdr.proofs.Writes.{read_has_spelling}
use Rattle.sd_rpc_msg.specs.declared.message.OpaqueAuth.{OpaqueAuth}
use Rattle.sd_rpc_msg.specs.declared.message.Call.{Call}
use Rattle.sd_rpc_msg.specs.declared.message.Outcome.{Outcome}
use Rattle.sd_rpc_msg.specs.declared.message.Outcome.TheVariants.{ProgUnavail, ProgMismatch, ProcUnavail, AuthError}
use Rattle.sd_rpc_msg.specs.declared.message.Message.TheVariants.{Asked}
use Rattle.sd_rpc_msg.specs.Layout.{message, message_value, message_arm, call, auth, auth_value}
use Rattle.sd_rpc_msg.specs.Unix.{unix}
use Rattle.sd_rpc_msg.proofs.Told.{one_spelling_of}
use Rattle.sd_nfs_msg.specs.declared.message.NfsArgs.{NfsArgs}
use Rattle.sd_nfs_msg.specs.declared.message.NfsArgs.TheVariants as asks
use Rattle.sd_nfs_msg.specs.Layout.{args_kind, args_value, nfs_port}
use Rattle.sd_config.specs.declared.config.SwapLine.{SwapLine}
use Rattle.sd_config.specs.declared.config.Config.{Config}
use Rattle.sd_services.specs.Part.{Change}
use Rattle.sd_services.specs.Files.{Exported, exported}
use Rattle.sd_services.specs.NfsReply.{swap_file, names_swap, uses_swap, swap_change, nfs_change}
use Rattle.sd_services.specs.RpcCalls.{Program, auth_null, is_none, auth_refusal, refusal, unless_refused, is_call, call_in, spelled, call_read, spelled_call, if_passed, arguments_of, asked}
use Rattle.sd_services.specs.NfsCalls.{handle_in, read_in, write_in, create_in, rename_in, link_in, symlink_in, mkdir_in, readdir_in, is_to_nfs, nfs_to_ask, nfs_asked, nfs_call, nfs_args_in, nfs_args_of, change_of, uses_swap_file, is_swap_access}
use Rattle.sd_services.specs.Spelling.{IsKnown, Asks, AskedIsSpelled, Writes, ChangeIsWritten, Accesses, AccessIsSpelled}
use Rattle.sd_services.proofs.Spelled.{spelled_some, reads_of, bytes_back, bytes_front, counted_bytes}

-- ---- taking apart

some_is : {A : Type 0} (x y : A) → ◌≡◌ {A = Option A} (Some x) (Some y) → x ≡ y
some_is x y h = cc

only_if : {A : Type 0} (t : Bool) (x : Option A) (y : A) → cond t x None ≡ Some y → (t ≡ true) × (x ≡ Some y)
only_if true x y h = (refl, h)
only_if false x y h = absurd cc

follows : {A B : Type 0} (f : A → Option B) (o : Option A) (y : B) → option_and_then f o ≡ Some y → (x : A) × (o ≡ Some x) × (f x ≡ Some y)
follows f None y h = absurd cc
follows f (Some x) y h = (x, refl, h)

mapped : {A B : Type 0} (f : A → B) (o : Option A) (y : B) → option_map f o ≡ Some y → (x : A) × (o ≡ Some x) × (f x ≡ y)
mapped f None y h = absurd cc
mapped f (Some x) y h = (x, refl, some_is (f x) y h)

passed : (o : Option Outcome) (v : Option Value) (x : Value) → if_passed o v ≡ Some x → (o ≡ None) × (v ≡ Some x)
passed None v x h = (refl, h)
passed (Some refused) v x h = absurd cc

each : (a b : Bool) → (a && b) ≡ true → (a ≡ true) × (b ≡ true)
each true true h = (refl, refl)
each true false h = absurd cc
each false b h = absurd cc

both : (a b : Bool) → a ≡ true → b ≡ true → (a && b) ≡ true
both true true p q = refl
both true false p q = absurd cc
both false b p q = absurd cc

are_equal : (m n : ℕ) → (m == n) ≡ true → m ≡ n
are_equal m n h = grind arith

equal_are : (m n : ℕ) → m ≡ n → (m == n) ≡ true
equal_are m n e = subst (λ (k : ℕ). (m == k) ≡ true) e (same_number m)
  where
    same_number : (n : ℕ) → (n == n) ≡ true
    same_number n = grind arith

-- ---- a call

auth_is : (v : Value) → HasSpelling auth v → v ≡ auth_value (record { flavor = number_of (first v); body = bytes_of (second v) })
auth_is v h = h.0 ∙ (λ i. h.1.0 i ⊗ h.2.0 i)

the_version : (x : Value) → x ≡ number (number_of x) → (number_of x == 2) ≡ true → x ≡ number 2
the_version x is two = is ∙ ap number (are_equal (number_of x) 2 two)

call_is : (v : Value) → HasSpelling message v → is_call v ≡ true → v ≡ message_value (Asked (call_in v))
call_is v h called =
    let w = second v in
    let zero_is = are_equal (number_of (first w)) 0 called in
    let body = subst (λ (n : ℕ). HasSpelling (message_arm (number_of (first v)) n) (second w)) zero_is h.2.2 in
    let prog = second (second w) in
    let vers = second prog in
    let proc_no = second vers in
    let cred = second proc_no in
    let verf = second cred in
    h.0 ∙ (λ i. h.1.0 i ⊗ (h.2.0 ∙ (λ j. (h.2.1.0 ∙ ap number zero_is) j ⊗
    (body.0 ∙ (λ k. the_version (first (second w)) body.1.0 body.1.2 k ⊗
    (body.2.0 ∙ (λ l. body.2.1.0 l ⊗
    (body.2.2.0 ∙ (λ m. body.2.2.1.0 m ⊗
    (body.2.2.2.0 ∙ (λ n. body.2.2.2.1.0 n ⊗
    (body.2.2.2.2.0 ∙ (λ o. auth_is (first cred) body.2.2.2.2.1 o ⊗
    (body.2.2.2.2.2.0 ∙ (λ p. auth_is (first verf) body.2.2.2.2.2.1 p ⊗ body.2.2.2.2.2.2 p)) o)) n)) m)) l)) k)) j)) i)

record HasCall (body : List ℕ) (k : Call) : Type 0 where
  reads : Reads whole message body (message_value (Asked k))

call_of : (body : List ℕ) (k : Call) → IsBytes body → (r : Read) → reading message (start body) ≡ r → call_read r ≡ Some k → HasCall body k
call_of body k fits (Err why) is said = absurd cc
call_of body k fits (Ok x) is said =
    let t = only_if (is_call x.0) (Some (call_in x.0)) k said in
    let read = found message body x.0 x.1 fits is in
    let whole_is : x.0 ≡ message_value (Asked k) = call_is x.0 (read_has_spelling whole message body x.0 read) t.0 ∙ ap (λ (q : Call). message_value (Asked q)) (some_is (call_in x.0) k t.1) in
    record { reads = subst (λ (u : Value). Reads whole message body u) whole_is read }

-- the bytes of the credentials and of the arguments are bytes
record PartsFit (k : Call) : Type 0 where
  cred : IsBytes k.cred.body
  args : IsBytes k.args

parts_fit : (body : List ℕ) (k : Call) → IsBytes body → Reads whole message body (message_value (Asked k)) → PartsFit k
parts_fit body k fits read =
    let all = subst IsBytes (one_spelling_of (Asked k) body read).0 fits in
    let tail = writes auth (auth_value k.verf) ++ k.args in
    let creds =
    bytes_back (word_bytes k.proc_no) (writes auth (auth_value k.cred) ++ tail)
    (bytes_back (word_bytes k.vers) _
    (bytes_back (word_bytes k.prog) _
    (bytes_back (word_bytes 2) _
    (bytes_back (word_bytes 0) _
    (bytes_back (word_bytes k.xid) _ all))))) in
    record {
      cred = counted_bytes k.cred.body (bytes_back (word_bytes k.cred.flavor) (counted k.cred.body) (bytes_front (writes auth (auth_value k.cred)) tail creds));
      args = bytes_back (writes auth (auth_value k.verf)) k.args (bytes_back (writes auth (auth_value k.cred)) tail creds);
    }

-- ---- credentials

known_of : (cred : OpaqueAuth) → IsBytes cred.body → auth_refusal cred ≡ None → IsKnown cred
known_of cred fits none = of (nat_lt 1 cred.flavor) refl none
  where
    unless : (t : Bool) (why : Outcome) → ◌≡◌ {A = Option Outcome} (cond t (Some why) None) None → t ≡ false
    unless true why h = absurd cc
    unless false why h = refl

    spells : (o : Option Value) → is_none o ≡ false → (v : Value) × (o ≡ Some v)
    spells None h = absurd cc
    spells (Some v) h = (v, refl)

    unknown : (one : Bool) (o : Option Value) → (one && is_none o) ≡ false → (one ≡ false) ⊎ (is_none o ≡ false)
    unknown false o h = inl refl
    unknown true o h = inr h

    of : (t : Bool) → nat_lt 1 cred.flavor ≡ t
        → cond t (Some (AuthError 5)) (cond ((cred.flavor == 1) && is_none (spelled (ended unix) cred.body)) (Some (AuthError 1)) None) ≡ None → IsKnown cred
    of true is h = absurd cc
    of false is h = either (unknown (cred.flavor == 1) (spelled (ended unix) cred.body) (unless ((cred.flavor == 1) && is_none (spelled (ended unix) cred.body)) (AuthError 1) h))
      where
        either : ((cred.flavor == 1) ≡ false) ⊎ (is_none (spelled (ended unix) cred.body) ≡ false) → IsKnown cred
        either (inl other) = inl (grind (arith, nat_tests, is, other))
        either (inr spelt) =
            let v = spells (spelled (ended unix) cred.body) spelt in
            by_flavor (cred.flavor == 1) refl v.0 (reads_of (ended unix) cred.body v.0 fits v.1)
          where
            by_flavor : (one : Bool) → (cred.flavor == 1) ≡ one → (v : Value) → Reads whole (ended unix) cred.body v → IsKnown cred
            by_flavor true one v read = inr (are_equal cred.flavor 1 one, v, read)
            by_flavor false one v read = inl (grind (arith, nat_tests, is, one))

not_refused : (cred : OpaqueAuth) → IsKnown cred → auth_refusal cred ≡ None
not_refused cred (inl null) = ap (λ (n : ℕ). cond (nat_lt 1 n) (Some (AuthError 5)) (cond ((n == 1) && is_none (spelled (ended unix) cred.body)) (Some (AuthError 1)) None)) null
not_refused cred (inr (one, v, read)) =
    ap (λ (n : ℕ). cond (nat_lt 1 n) (Some (AuthError 5)) (cond ((n == 1) && is_none (spelled (ended unix) cred.body)) (Some (AuthError 1)) None)) one
    ∙ ap (λ (o : Option Value). cond (true && is_none o) (Some (AuthError 1)) None) (spelled_some (ended unix) cred.body v read)

-- ---- what a program is asked for

record Passes (p : Program) (k : Call) : Type 0 where
  prog : k.prog ≡ p.prog
  vers : k.vers ≡ p.vers
  unskipped : p.skips k.proc_no ≡ false
  most : k.proc_no ≤ p.last

passes_of : (p : Program) (k : Call) → refusal p k.prog k.vers k.proc_no ≡ None → Passes p k
passes_of p k none = of (k.prog == p.prog) (k.vers == p.vers) (p.skips k.proc_no) (nat_lt p.last k.proc_no) refl refl refl refl none
  where
    of : (a b s l : Bool) → (k.prog == p.prog) ≡ a → (k.vers == p.vers) ≡ b → p.skips k.proc_no ≡ s → nat_lt p.last k.proc_no ≡ l
        → cond (not a) (Some (ProgUnavail auth_null)) (cond (not b) (Some (ProgMismatch auth_null p.vers p.vers)) (cond (s || l) (Some (ProcUnavail auth_null)) None)) ≡ None → Passes p k
    of true true false false prog vers skips more h = record { prog = are_equal k.prog p.prog prog; vers = are_equal k.vers p.vers vers; unskipped = skips; most = grind (arith, nat_tests, more) }
    of true true false true prog vers skips more h = absurd cc
    of true true true l prog vers skips more h = absurd cc
    of true false s l prog vers skips more h = absurd cc
    of false b s l prog vers skips more h = absurd cc

passes_so : (p : Program) (k : Call) → k.prog ≡ p.prog → k.vers ≡ p.vers → p.skips k.proc_no ≡ false → k.proc_no ≤ p.last → refusal p k.prog k.vers k.proc_no ≡ None
passes_so p k prog vers skips most =
    let few : nat_lt p.last k.proc_no ≡ false = grind (arith, nat_tests, most) in
    ap (λ (t : Bool). cond (not t) (Some (ProgUnavail auth_null)) (cond (not (k.vers == p.vers)) (Some (ProgMismatch auth_null p.vers p.vers)) (cond (p.skips k.proc_no || nat_lt p.last k.proc_no) (Some (ProcUnavail auth_null)) None))) (equal_are k.prog p.prog prog)
    ∙ ap (λ (t : Bool). cond (not t) (Some (ProgMismatch auth_null p.vers p.vers)) (cond (p.skips k.proc_no || nat_lt p.last k.proc_no) (Some (ProcUnavail auth_null)) None)) (equal_are k.vers p.vers vers)
    ∙ ap (λ (t : Bool). cond (t || nat_lt p.last k.proc_no) (Some (ProcUnavail auth_null)) None) skips
    ∙ ap (λ (t : Bool). cond (false || t) (Some (ProcUnavail auth_null)) None) few

spelled_asks : (p : Program) (body : List ℕ) (v : Value) → IsBytes body → asked p body ≡ Some v → Asks p body v
spelled_asks p body v fits h =
    let k = follows (arguments_of p) (spelled_call body) v h in
    let q = passed (auth_refusal k.0.cred) (if_passed (refusal p k.0.prog k.0.vers k.0.proc_no) (spelled (p.args k.0.proc_no) k.0.args)) v k.2 in
    let r = passed (refusal p k.0.prog k.0.vers k.0.proc_no) (spelled (p.args k.0.proc_no) k.0.args) v q.1 in
    let called = call_of body k.0 fits (reading message (start body)) refl k.1 in
    let parts = parts_fit body k.0 fits called.reads in
    let it = passes_of p k.0 r.0 in
    record {
      call = k.0;
      reads = called.reads;
      known = known_of k.0.cred parts.cred q.0;
      prog = it.prog;
      vers = it.vers;
      unskipped = it.unskipped;
      most = it.most;
      args = reads_of (p.args k.0.proc_no) k.0.args v parts.args r.1;
    }

asks_spelled : (p : Program) (body : List ℕ) (v : Value) → Asks p body v → asked p body ≡ Some v
asks_spelled p body v w =
    let k = w.call in
    let called : spelled_call body ≡ Some k = ap call_read (whole_again message body (message_value (Asked k)) w.reads) in
    ap (option_and_then (arguments_of p)) called
    ∙ ap (λ (o : Option Outcome). if_passed o (if_passed (refusal p k.prog k.vers k.proc_no) (spelled (p.args k.proc_no) k.args))) (not_refused k.cred w.known)
    ∙ ap (λ (o : Option Outcome). if_passed o (spelled (p.args k.proc_no) k.args)) (passes_so p k w.prog w.vers w.unskipped w.most)
    ∙ spelled_some (p.args k.proc_no) k.args v w.args

pub asked_is_spelled : AskedIsSpelled
asked_is_spelled p body v fits = (spelled_asks p body v fits, asks_spelled p body v)

-- ---- the arguments

none_some : {A P : Type 0} (o : Option A) (x : A) → o ≡ None → o ≡ Some x → P
none_some None x none some = absurd cc
none_some (Some y) x none some = absurd cc

-- the arguments of the procedures behind WRITE
abbrev args_behind : ℕ → Value → NfsArgs
args_behind n w =
    cond (n == 9) (create_in w)
    (cond (n == 10) (asks.Remove (handle_in (first w)) (bytes_of (second w)))
    (cond (n == 11) (rename_in w)
    (cond (n == 12) (link_in w)
    (cond (n == 13) (symlink_in w)
    (cond (n == 14) (mkdir_in w)
    (cond (n == 15) (asks.Rmdir (handle_in (first w)) (bytes_of (second w)))
    (cond (n == 16) (readdir_in w)
    (cond (n == 17) (asks.Statfs (handle_in w)) asks.Null))))))))

module _ (files : Exported) (from : ℕ) (ch : Change) where
  skip : (t : Bool) (x y : NfsArgs) → nfs_change files from x ≡ None → nfs_change files from (cond t x y) ≡ Some ch → nfs_change files from y ≡ Some ch
  skip true x y none h = none_some (nfs_change files from x) ch none h
  skip false x y none h = h

  -- WRITE alone changes a file
  is_write : (n : ℕ) (w : Value) → nfs_change files from (nfs_args_of n w) ≡ Some ch → n ≡ 8
  is_write n w h =
      of (n == 8) refl (skip (n == 6) _ _ refl (skip (n == 5) _ _ refl (skip (n == 4) _ _ refl (skip (n == 2) _ _ refl (skip (n == 1) _ _ refl h)))))
    where
      of : (t : Bool) → (n == 8) ≡ t → nfs_change files from (cond t (write_in w) (args_behind n w)) ≡ Some ch → n ≡ 8
      of true is h = are_equal n 8 is
      of false is h =
          none_some (nfs_change files from asks.Null) ch refl
          (skip (n == 17) _ _ refl (skip (n == 16) _ _ refl (skip (n == 15) _ _ refl (skip (n == 14) _ _ refl (skip (n == 13) _ _ refl (skip (n == 12) _ _ refl
          (skip (n == 11) _ _ refl (skip (n == 10) _ _ refl (skip (n == 9) _ _ refl h)))))))))

  record WritesTo (w : Value) : Type 0 where
    handle : names_swap files (handle_in (first w)) ≡ true
    owner : from ≡ files.owner
    size : ℕ
    line : files.swap ≡ Some size
    within : number_of (first (second (second w))) + length (bytes_of (second (second (second (second w))))) ≤ size
    some : 0 < length (bytes_of (second (second (second (second w)))))
    is : ◌≡◌ {A = Change} (record { file = swap_file; at = number_of (first (second (second w))); bytes = bytes_of (second (second (second (second w)))) }) ch

  swap_writes : (w : Value) (s : Option ℕ) → files.swap ≡ s → names_swap files (handle_in (first w)) ≡ true
      → swap_change files.owner from s (number_of (first (second (second w)))) (bytes_of (second (second (second (second w))))) ≡ Some ch → WritesTo w
  swap_writes w None line names h = absurd cc
  swap_writes w (Some size) line names h =
      let offset = number_of (first (second (second w))) in
      let bs = bytes_of (second (second (second (second w)))) in
      let t = only_if ((from == files.owner) && nat_le (offset + length bs) size && nat_lt 0 (length bs)) (Some (record { file = swap_file; at = offset; bytes = bs })) ch h in
      let a = each ((from == files.owner) && nat_le (offset + length bs) size) (nat_lt 0 (length bs)) t.0 in
      let b = each (from == files.owner) (nat_le (offset + length bs) size) a.0 in
      record {
        handle = names;
        owner = are_equal from files.owner b.0;
        size = size;
        line = line;
        within = grind (arith, nat_tests, b.1);
        some = grind (arith, nat_tests, a.1);
        is = some_is _ ch t.1;
      }

  writes_to : (w : Value) → nfs_change files from (write_in w) ≡ Some ch → WritesTo w
  writes_to w h =
      let t = only_if (names_swap files (handle_in (first w))) (swap_change files.owner from files.swap (number_of (first (second (second w)))) (bytes_of (second (second (second (second w)))))) ch h in
      swap_writes w files.swap refl t.0 t.1

write_is : (v : Value) → HasSpelling (args_kind 8) v → v ≡ args_value (write_in (second v))
write_is v h =
    let b = h.1 in
    h.0 ∙ ap (λ (x : Value). number 8 ⊗ x)
    (b.0 ∙ (λ i. b.1.0 i ⊗ (b.2.0 ∙ (λ j. b.2.1.0 j ⊗ (b.2.2.0 ∙ (λ k. b.2.2.1.0 k ⊗ (b.2.2.2.0 ∙ (λ l. b.2.2.2.1.0 l ⊗ b.2.2.2.2.0 l)) k)) j)) i))

-- ---- changes

written_by : (c : Config) (src dst : Addr) (body : List ℕ) (ch : Change) → IsBytes body → change_of c (Udp src dst body) ≡ Some ch → Writes c src dst body ch
unfolding change_of exported
written_by c src dst body ch fits h =
    let a = follows (λ (call : ℕ × NfsArgs). nfs_change (exported c) call.0 call.1) (nfs_call c (Udp src dst body)) ch h in
    let b = only_if (is_to_nfs c dst) (option_map (λ (args : NfsArgs). (src.ip, args)) (nfs_asked body)) a.0 a.1 in
    let there = each (dst.ip == c.server.ip) (dst.port == nfs_port) b.0 in
    let m = mapped (λ (args : NfsArgs). (src.ip, args)) (nfs_asked body) a.0 b.1 in
    let n = mapped nfs_args_in (asked nfs_to_ask body) m.0 m.1 in
    let v = n.0 in
    let q = spelled_asks nfs_to_ask body v fits n.1 in
    let changes : nfs_change (exported c) src.ip (nfs_args_in v) ≡ Some ch =
    ap (λ (args : NfsArgs). nfs_change (exported c) src.ip args) n.2 ∙ ap (λ (u : ℕ × NfsArgs). nfs_change (exported c) u.0 u.1) m.2 ∙ a.2 in
    let shape = read_has_spelling whole (args_kind q.call.proc_no) q.call.args v q.args in
    let eight : place_of v ≡ 8 = is_write (exported c) src.ip ch (place_of v) (second v) changes in
    let procedure : q.call.proc_no ≡ 8 = sym (ap place_of shape.0) ∙ eight in
    let value_is = write_is v (subst (λ (p : ℕ). HasSpelling (args_kind p) v) procedure shape) in
    let w = writes_to (exported c) src.ip ch (second v) (sym (ap (λ (p : ℕ). nfs_change (exported c) src.ip (nfs_args_of p (second v))) eight) ∙ changes) in
    let begin = number_of (first (second (second v))) in
    let total = number_of (first (second (second (second (second v))))) in
    record {
      owner = w.owner;
      ip = are_equal dst.ip c.server.ip there.0;
      port = are_equal dst.port nfs_port there.1;
      at = handle_in (first (second v));
      begin = begin;
      total = total;
      asks =
          subst (λ (x : Change). Asks nfs_to_ask body (args_value (asks.Write (handle_in (first (second v))) begin x.at total x.bytes))) w.is
          (subst (Asks nfs_to_ask body) value_is q);
      handle = w.handle;
      file = ap (λ (x : Change). x.file) (sym w.is);
      size = w.size;
      line = w.line;
      within = subst (λ (x : Change). x.at + length x.bytes ≤ w.size) w.is w.within;
      some = subst (λ (x : Change). 0 < length x.bytes) w.is w.some;
    }

changes_so : (c : Config) (src dst : Addr) (body : List ℕ) (ch : Change) → Writes c src dst body ch → change_of c (Udp src dst body) ≡ Some ch
unfolding change_of exported
changes_so c src dst body ch w =
    let a = asks.Write w.at w.begin ch.at w.total ch.bytes in
    let args_are : nfs_asked body ≡ Some a = ap (option_map nfs_args_in) (asks_spelled nfs_to_ask body (args_value a) w.asks) in
    let there = both (dst.ip == c.server.ip) (dst.port == nfs_port) (equal_are dst.ip c.server.ip w.ip) (equal_are dst.port nfs_port w.port) in
    let call_is : nfs_call c (Udp src dst body) ≡ Some (src.ip, a) =
    ap (λ (t : Bool). cond t (option_map (λ (args : NfsArgs). (src.ip, args)) (nfs_asked body)) None) there ∙ ap (option_map (λ (args : NfsArgs). (src.ip, args))) args_are in
    let fits = both ((src.ip == c.client.ip) && nat_le (ch.at + length ch.bytes) w.size) (nat_lt 0 (length ch.bytes))
    (both (src.ip == c.client.ip) (nat_le (ch.at + length ch.bytes) w.size) (equal_are src.ip c.client.ip w.owner) (grind (arith, nat_tests, w.within))) (grind (arith, nat_tests, w.some)) in
    ap (option_and_then (λ (call : ℕ × NfsArgs). nfs_change (exported c) call.0 call.1)) call_is
    ∙ ap (λ (t : Bool). cond t (swap_change c.client.ip src.ip (option_map (λ (line : SwapLine). line.size) c.swap) ch.at ch.bytes) None) w.handle
    ∙ ap (λ (s : Option ℕ). swap_change c.client.ip src.ip s ch.at ch.bytes) w.line
    ∙ ap (λ (t : Bool). cond t (Some (record { file = swap_file; at = ch.at; bytes = ch.bytes })) None) fits
    ∙ (λ i. Some (record { file = sym w.file i; at = ch.at; bytes = ch.bytes }))

pub change_is_written : ChangeIsWritten
change_is_written c src dst body ch fits = (written_by c src dst body ch fits, changes_so c src dst body ch)

-- ---- accesses of the swap file

module _ (files : Exported) where
  passes_by : (t : Bool) (x y : NfsArgs) → uses_swap files x ≡ false → uses_swap files (cond t x y) ≡ true → uses_swap files y ≡ true
  passes_by true x y none h = absurd (never (sym none ∙ h))
    where
      never : false ≡ true → ⊥
      never e = cc
  passes_by false x y none h = h

  -- READ and WRITE alone use a file so
  is_access : (n : ℕ) (w : Value) → uses_swap files (nfs_args_of n w) ≡ true → (n ≡ 6) ⊎ (n ≡ 8)
  is_access n w h =
      six (n == 6) refl (passes_by (n == 5) _ _ refl (passes_by (n == 4) _ _ refl (passes_by (n == 2) _ _ refl (passes_by (n == 1) _ _ refl h))))
    where
      eight : (t : Bool) → (n == 8) ≡ t → uses_swap files (cond t (write_in w) (args_behind n w)) ≡ true → (n ≡ 6) ⊎ (n ≡ 8)
      eight true is h = inr (are_equal n 8 is)
      eight false is h =
          absurd (never
          (passes_by (n == 17) _ _ refl (passes_by (n == 16) _ _ refl (passes_by (n == 15) _ _ refl (passes_by (n == 14) _ _ refl (passes_by (n == 13) _ _ refl (passes_by (n == 12) _ _ refl
          (passes_by (n == 11) _ _ refl (passes_by (n == 10) _ _ refl (passes_by (n == 9) _ _ refl h))))))))))
        where
          never : false ≡ true → ⊥
          never e = cc

      six : (t : Bool) → (n == 6) ≡ t → uses_swap files (cond t (read_in w) (cond (n == 8) (write_in w) (args_behind n w))) ≡ true → (n ≡ 6) ⊎ (n ≡ 8)
      six true is h = inl (are_equal n 6 is)
      six false is h = eight (n == 8) refl h

read_is : (v : Value) → HasSpelling (args_kind 6) v → v ≡ args_value (read_in (second v))
read_is v h =
    let b = h.1 in
    h.0 ∙ ap (λ (x : Value). number 6 ⊗ x) (b.0 ∙ (λ i. b.1.0 i ⊗ (b.2.0 ∙ (λ j. b.2.1.0 j ⊗ (b.2.2.0 ∙ (λ k. b.2.2.1.0 k ⊗ b.2.2.2.0 k)) j)) i))

-- the arguments of such a call are what its value is that of
args_are : (v : Value) (n : ℕ) → HasSpelling (args_kind n) v → (n ≡ 6) ⊎ (n ≡ 8) → v ≡ args_value (nfs_args_of n (second v))
args_are v n h (inl six) =
    read_is v (subst (λ (p : ℕ). HasSpelling (args_kind p) v) six h) ∙ ap (λ (p : ℕ). args_value (nfs_args_of p (second v))) (sym six)
args_are v n h (inr eight) =
    write_is v (subst (λ (p : ℕ). HasSpelling (args_kind p) v) eight h) ∙ ap (λ (p : ℕ). args_value (nfs_args_of p (second v))) (sym eight)

used : (c : Config) (o : Option (ℕ × NfsArgs)) → uses_swap_file c o ≡ true → (call : ℕ × NfsArgs) × (o ≡ Some call) × (uses_swap (exported c) call.1 ≡ true)
used c None h = absurd cc
used c (Some call) h = (call, refl, h)

accesses_of : (c : Config) (src dst : Addr) (body : List ℕ) → IsBytes body → is_swap_access c (Udp src dst body) ≡ true → Accesses c dst body
unfolding is_swap_access
accesses_of c src dst body fits h =
    let a = used c (nfs_call c (Udp src dst body)) h in
    let b = only_if (is_to_nfs c dst) (option_map (λ (args : NfsArgs). (src.ip, args)) (nfs_asked body)) a.0 a.1 in
    let there = each (dst.ip == c.server.ip) (dst.port == nfs_port) b.0 in
    let m = mapped (λ (args : NfsArgs). (src.ip, args)) (nfs_asked body) a.0 b.1 in
    let n = mapped nfs_args_in (asked nfs_to_ask body) m.0 m.1 in
    let v = n.0 in
    let q = spelled_asks nfs_to_ask body v fits n.1 in
    let uses : uses_swap (exported c) (nfs_args_in v) ≡ true =
    ap (λ (args : NfsArgs). uses_swap (exported c) args) n.2 ∙ ap (λ (u : ℕ × NfsArgs). uses_swap (exported c) u.1) m.2 ∙ a.2 in
    let shape = read_has_spelling whole (args_kind q.call.proc_no) q.call.args v q.args in
    let place = ap place_of shape.0 in
    let which = is_access (exported c) (place_of v) (second v) uses in
    record {
      ip = are_equal dst.ip c.server.ip there.0;
      port = are_equal dst.port nfs_port there.1;
      args = nfs_args_in v;
      asks = subst (Asks nfs_to_ask body) (args_are v (place_of v) (subst (λ (p : ℕ). HasSpelling (args_kind p) v) (sym place) shape) which) q;
      uses = uses;
    }

-- what has such a value is read from it
read_back : (args : NfsArgs) → nfs_args_in (args_value args) ≡ args
read_back asks.Null = refl
read_back (asks.Getattr file) = refl
read_back (asks.Setattr file set) = refl
read_back (asks.Lookup dir text) = refl
read_back (asks.Readlink file) = refl
read_back (asks.Read file offset count total) = refl
read_back (asks.Write file begin offset total body) = refl
read_back (asks.Create dir text set) = refl
read_back (asks.Remove dir text) = refl
read_back (asks.Rename dir text to to_text) = refl
read_back (asks.Link from to to_text) = refl
read_back (asks.Symlink dir text target set) = refl
read_back (asks.Mkdir dir text set) = refl
read_back (asks.Rmdir dir text) = refl
read_back (asks.Readdir dir mark count) = refl
read_back (asks.Statfs file) = refl

accesses_so : (c : Config) (src dst : Addr) (body : List ℕ) → Accesses c dst body → is_swap_access c (Udp src dst body) ≡ true
unfolding is_swap_access
accesses_so c src dst body w =
    let args_are : nfs_asked body ≡ Some w.args = ap (option_map nfs_args_in) (asks_spelled nfs_to_ask body (args_value w.args) w.asks) ∙ ap (λ (a : NfsArgs). Some a) (read_back w.args) in
    let there = both (dst.ip == c.server.ip) (dst.port == nfs_port) (equal_are dst.ip c.server.ip w.ip) (equal_are dst.port nfs_port w.port) in
    let call_is : nfs_call c (Udp src dst body) ≡ Some (src.ip, w.args) =
    ap (λ (t : Bool). cond t (option_map (λ (args : NfsArgs). (src.ip, args)) (nfs_asked body)) None) there ∙ ap (option_map (λ (args : NfsArgs). (src.ip, args))) args_are in
    ap (uses_swap_file c) call_is ∙ w.uses

pub access_is_spelled : AccessIsSpelled
access_is_spelled c src dst body fits = (accesses_of c src dst body fits, accesses_so c src dst body)
