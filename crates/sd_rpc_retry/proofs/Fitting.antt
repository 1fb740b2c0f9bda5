-- What a reply tells is of the kind that was asked for, and its texts are within their limits.
use Rattle.std.proofs.Common.{◌≡◌, ℕ, ◌≤◌, Bool, true, false, ◌&&◌, nat_lt, eqb, cond, List, length, take, drop, Option, Some, None, Ok, Err, refl, ap, subst, ◌∙◌, arith}
use Rattle.sd_outside.specs.declared.packet.Addr.{Addr}
use Rattle.sd_outside.specs.declared.packet.Packet.{Packet}
use Rattle.sd_outside.specs.declared.packet.Packet.TheVariants.{Frame, Udp}
use Rattle.sd_xdr.specs.declared.error.MsgError.{MsgError}
use Rattle.sd_xdr.specs.Kind.{part, whole, Kind, opaque, upto, ◌&◌, ended, given, Value, bytes, number, ◌⊗◌, number_of, bytes_of, first, second}
use Rattle.sd_xdr.specs.Grammar.{front_word}
use Rattle.sd_xdr.specs.Reading.{Read, Cursor, unless, start, reading, opaque_reading, end_reading}
use Rattle.sd_portmap.specs.Layout as portmap
use Rattle.sd_bootparams.specs.Layout.{name_limit, path_limit, name, ip, whoami_res, getfile_res, result_kind}
use Rattle.sd_rpc_msg.specs.Layout.{message}
use Rattle.sd_mount.specs.Layout as mount
use Rattle.sd_nfs_msg.specs.Layout as nfs
use Rattle.sd_nfs_msg.specs.declared.message.NfsArgs.{NfsArgs}
use Rattle.sd_nfs_msg.specs.declared.message.NfsArgs.TheVariants as asks
use Rattle.sd_nfs_msg.specs.declared.message.NfsResult.{NfsResult}
use Rattle.sd_nfs_msg.specs.declared.message.NfsResult.TheVariants as results
use Rattle.sd_rpc_retry.specs.NfsResults.{done_in, status_in, nfs_result_in}
use Rattle.sd_rpc_retry.specs.declared.calling.Ask.{Ask}
use Rattle.sd_rpc_retry.specs.declared.calling.Ask.TheVariants as ask
use Rattle.sd_rpc_retry.specs.declared.calling.Answer.{Answer}
use Rattle.sd_rpc_retry.specs.declared.calling.Answer.TheVariants as answer
use Rattle.sd_rpc_retry.specs.declared.calling.Caller.{Caller}
use Rattle.std.specs.Prelude.{IfOk, Result}
use Rattle.sd_rpc_retry.specs.declared.calling.CallError.{CallError}
use Rattle.sd_rpc_retry.specs.declared.calling.CallError.TheVariants as error
use Rattle.sd_services.specs.RpcCalls.{value_read, spelled}
use Rattle.sd_rpc_retry.specs.Calling.{Said, Verdict, home, is_at, comes_from, is_relayed, and_then, message_says, whoami_in, getfile_in, given_in, nfs_answer, nfs_answer_in, bootparams_results, bootparams_says, answer_in, verdict_of, verdict_in}
use Rattle.sd_rpc_retry.specs.Calls.{asked_as, IsTold, IsAnswerTo}
use Rattle.sd_rpc_retry.proofs.MatchLaw.{only_if, some_is, follows, mapped}
use Rattle.sd_xdr.proofs.Sound.{bind_ok, ok_is}
use Rattle.std.proofs.lemmas.List.{length-take}

-- ---- texts are within their limits

not_more : (most n : ℕ) → nat_lt most n ≡ false → n ≤ most
not_more most n h = grind arith

counted_few : (most n : ℕ) (bs : List ℕ) (d e : Cursor) (v : Value) (short long : MsgError) (t u : Bool) (body : Option MsgError) → nat_lt most n ≡ u
    → ◌≡◌ {A = Read} (unless (cond t (Some short) (cond u (Some long) body)) (bytes (take n bs), d)) (Ok (v, e)) → length (bytes_of v) ≤ most
counted_few most n bs d e v short long true u body is h = absurd cc
counted_few most n bs d e v short long false true body is h = absurd cc
counted_few most n bs d e v short long false false (Some why) is h = absurd cc
counted_few most n bs d e v short long false false None is h =
    subst (λ (x : Value). length (bytes_of x) ≤ most) (ap (λ (x : Value × Cursor). x.0) (ok_is (bytes (take n bs), d) (v, e) h)) (omega (arith, length-take n bs, not_more most n is))

text_few : (most : ℕ) (c d : Cursor) (v : Value) → reading (opaque (upto most)) c ≡ Ok (v, d) → length (bytes_of v) ≤ most
unfolding reading opaque_reading
text_few most c d v h = counted_few most (front_word c.rest) (drop 4 c.rest) _ d v _ _ _ _ _ refl h

-- ---- the parts of a value that was read

record IsRow (A B : Kind part) (c d : Cursor) (v : Value) : Type 0 where
  mid : Cursor
  left : reading A c ≡ Ok (first v, mid)
  right : reading B mid ≡ Ok (second v, d)

row_of : (A B : Kind part) (c d : Cursor) (v : Value) → reading (A & B) c ≡ Ok (v, d) → IsRow A B c d v
unfolding reading
row_of A B c d v h =
    let one = bind_ok (reading A c) _ (v, d) h in
    let two = bind_ok (reading B one.0.1) _ (v, d) one.2 in
    let is = ok_is (one.0.0 ⊗ two.0.0, two.0.1) (v, d) two.2 in
    record {
      mid = one.0.1;
      left = one.1 ∙ (λ i. Ok (first (is i).0, one.0.1));
      right = two.1 ∙ (λ i. Ok (second (is i).0, (is i).1));
    }

ended_is : (t : Bool) (x v : Value × Cursor) (e : MsgError) → ◌≡◌ {A = Read} (cond t (Ok x) (Err e)) (Ok v) → x ≡ v
ended_is true x v e h = ok_is x v h
ended_is false x v e h = absurd cc

-- what stands behind the number of a variant
variant_read : (n : ℕ) (K : Kind part) (bs : List ℕ) (v : Value) (d : Cursor) → reading (ended (given n K)) (start bs) ≡ Ok (v, d) → reading K (start bs) ≡ Ok (second v, d)
unfolding reading end_reading
variant_read n K bs v d h =
    let one = bind_ok _ end_reading (v, d) h in
    let two = bind_ok (reading K (start bs)) _ one.0 one.1 in
    let is = ok_is (number n ⊗ two.0.0, two.0.1) one.0 two.2 ∙ ended_is _ one.0 (v, d) _ one.2 in
    two.1 ∙ (λ i. Ok (second (is i).0, (is i).1))

read_by : (K : Kind whole) (bs : List ℕ) (v : Value) (r : Read) → value_read r ≡ Some v → (d : Cursor) × (r ≡ Ok (v, d))
read_by K bs v (Ok x) h = (x.1, λ i. Ok (some_is x.0 v h i, x.1))
read_by K bs v (Err why) h = absurd cc

variant_of : (n : ℕ) (K : Kind part) (bs : List ℕ) (v : Value) → spelled (ended (given n K)) bs ≡ Some v → (d : Cursor) × (reading K (start bs) ≡ Ok (second v, d))
variant_of n K bs v h =
    let r = read_by (ended (given n K)) bs v (reading (ended (given n K)) (start bs)) h in
    (r.0, variant_read n K bs v r.0 r.1)

-- ---- the texts of bootparams

inner_of : (b : Bool) (proc_no : ℕ) (results : List ℕ) (v : Value) → bootparams_says proc_no b results ≡ Some v → (inner : List ℕ) × (spelled (result_kind proc_no) inner ≡ Some v)
inner_of b proc_no results v h = let f = follows (bootparams_results b results) (spelled (result_kind proc_no)) v h in (f.0, f.2)

whoami_fits : (bs : List ℕ) (v : Value) → spelled (result_kind 1) bs ≡ Some v → (length (bytes_of (first (second v))) ≤ name_limit) × (length (bytes_of (first (second (second v)))) ≤ name_limit)
whoami_fits bs v h =
    let read = variant_of 1 whoami_res bs v h in
    let client = row_of name (name & ip) (start bs) read.0 (second v) read.1 in
    let domain = row_of name ip client.mid read.0 (second (second v)) client.right in
    (text_few name_limit (start bs) client.mid (first (second v)) client.left, text_few name_limit client.mid domain.mid (first (second (second v))) domain.left)

getfile_fits : (bs : List ℕ) (v : Value) → spelled (result_kind 2) bs ≡ Some v → (length (bytes_of (first (second v))) ≤ name_limit) × (length (bytes_of (second (second (second v)))) ≤ path_limit)
getfile_fits bs v h =
    let read = variant_of 2 getfile_res bs v h in
    let server = row_of name (ip & opaque (upto path_limit)) (start bs) read.0 (second v) read.1 in
    let path = row_of ip (opaque (upto path_limit)) server.mid read.0 (second (second v)) server.right in
    (text_few name_limit (start bs) server.mid (first (second v)) server.left, text_few path_limit path.mid read.0 (second (second (second v))) path.right)

-- ---- answers

told_is : (a b : Answer) → ◌≡◌ {A = Verdict} (Ok a) (Ok b) → a ≡ b
told_is a b e = cc

-- ---- statuses

differs : (n : ℕ) → eqb n 0 ≡ false → n ≡ 0 → ⊥
differs n e is = grind arith

given_fits : (path : List ℕ) (status : ℕ) (handle : List ℕ) (b : Bool) → eqb status 0 ≡ b → IsAnswerTo (ask.Mnt path) (cond b (answer.Given (record { 0 = handle })) (answer.Refused status))
given_fits path status handle true e = tt
given_fits path status handle false e = differs status e

status_fits : (args : NfsArgs) (status : ℕ) (done : NfsResult) → IsAnswerTo (ask.Nfs args) (nfs_answer done) → (b : Bool) → eqb status 0 ≡ b
    → IsAnswerTo (ask.Nfs args) (nfs_answer (cond b done (results.Refused status)))
status_fits args status done fits true e = fits
status_fits args status done fits false e = differs status e

result_fits : (args : NfsArgs) (v : Value) → IsAnswerTo (ask.Nfs args) (nfs_answer (nfs_result_in (nfs.proc_of args) v))
result_fits asks.Null v = refl
result_fits (asks.Getattr file) v = status_fits (asks.Getattr file) _ (done_in 1 (second (second v))) refl _ refl
result_fits (asks.Setattr file set) v = status_fits (asks.Setattr file set) _ (done_in 2 (second (second v))) refl _ refl
result_fits (asks.Lookup dir text) v = status_fits (asks.Lookup dir text) _ (done_in 4 (second (second v))) refl _ refl
result_fits (asks.Readlink file) v = status_fits (asks.Readlink file) _ (done_in 5 (second (second v))) refl _ refl
result_fits (asks.Read file offset count total) v = status_fits (asks.Read file offset count total) _ (done_in 6 (second (second v))) refl _ refl
result_fits (asks.Write file begin offset total body) v = status_fits (asks.Write file begin offset total body) _ (done_in 8 (second (second v))) refl _ refl
result_fits (asks.Create dir text set) v = status_fits (asks.Create dir text set) _ (done_in 9 (second (second v))) refl _ refl
result_fits (asks.Remove dir text) v = status_fits (asks.Remove dir text) _ (done_in 10 (second (second v))) refl _ refl
result_fits (asks.Rename dir text to_dir to_text) v = status_fits (asks.Rename dir text to_dir to_text) _ (done_in 11 (second (second v))) refl _ refl
result_fits (asks.Link from to_dir to_text) v = status_fits (asks.Link from to_dir to_text) _ (done_in 12 (second (second v))) refl _ refl
result_fits (asks.Symlink dir text target set) v = status_fits (asks.Symlink dir text target set) _ (done_in 13 (second (second v))) refl _ refl
result_fits (asks.Mkdir dir text set) v = status_fits (asks.Mkdir dir text set) _ (done_in 14 (second (second v))) refl _ refl
result_fits (asks.Rmdir dir text) v = status_fits (asks.Rmdir dir text) _ (done_in 15 (second (second v))) refl _ refl
result_fits (asks.Readdir dir mark count) v = status_fits (asks.Readdir dir mark count) _ (done_in 16 (second (second v))) refl _ refl
result_fits (asks.Statfs file) v = status_fits (asks.Statfs file) _ (done_in 17 (second (second v))) refl _ refl

answer_fits : (asked : Ask) (dst : Addr) (from : ℕ) (results : List ℕ) (a : Answer) → answer_in asked dst from results ≡ Some a → IsAnswerTo asked a
answer_fits (ask.Getport prog vers) dst from results a h =
    let m = mapped (spelled (portmap.result_kind 3) results) (λ v. answer.Port (number_of (second v))) a h in
    subst (λ (x : Answer). IsAnswerTo (ask.Getport prog vers) x) m.2 tt
answer_fits (ask.Whoami address) dst from results a h =
    let m = mapped (bootparams_says 1 (is_relayed dst) results) (whoami_in from) a h in
    let inner = inner_of (is_relayed dst) 1 results m.0 m.1 in
    subst (λ (x : Answer). IsAnswerTo (ask.Whoami address) x) m.2 (whoami_fits inner.0 m.0 inner.1)
answer_fits (ask.Getfile client key) dst from results a h =
    let m = mapped (bootparams_says 2 (is_relayed dst) results) (getfile_in from) a h in
    let inner = inner_of (is_relayed dst) 2 results m.0 m.1 in
    subst (λ (x : Answer). IsAnswerTo (ask.Getfile client key) x) m.2 (getfile_fits inner.0 m.0 inner.1)
answer_fits (ask.Mnt path) dst from results a h =
    let m = mapped (spelled (mount.result_kind 1) results) given_in a h in
    subst (λ (x : Answer). IsAnswerTo (ask.Mnt path) x) m.2 (given_fits path (number_of (first (second m.0))) (bytes_of (second (second m.0))) _ refl)
answer_fits (ask.Nfs args) dst from results a h =
    let n = nfs.proc_of args in
    let m = mapped (spelled (nfs.result_kind n) results) (nfs_answer_in n) a h in
    subst (λ (x : Answer). IsAnswerTo (ask.Nfs args) x) m.2 (result_fits args m.0)

said_fits : (asked : Ask) (dst : Addr) (from : ℕ) (said : Said) (a : Answer) → verdict_of asked dst from said ≡ Some (Ok a) → IsAnswerTo asked a
said_fits asked dst from (Ok results) a h =
    let m = mapped (answer_in asked dst from results) Ok (Ok a) h in
    subst (λ (x : Answer). IsAnswerTo asked x) (told_is m.0 a m.2) (answer_fits asked dst from results m.0 m.1)
said_fits asked dst from (Err code) a h = absurd cc

packet_fits : (me : Addr) (xid : ℕ) (dst : Addr) (asked : Ask) (packet : Packet) (a : Answer) → verdict_in me xid dst asked packet ≡ Some (Ok a) → IsAnswerTo asked a
packet_fits me xid dst asked (Frame frame) a h = absurd cc
packet_fits me xid dst asked (Udp from to body) a h =
    let i = only_if (is_at me to && comes_from dst from) (and_then (and_then (spelled message body) (message_says xid)) (verdict_of asked dst from.ip)) (Ok a) h in
    let f = follows (and_then (spelled message body) (message_says xid)) (verdict_of asked dst from.ip) (Ok a) i.1 in
    said_fits asked dst from.ip f.0 a f.2

-- What is told is of the kind that was asked for.
pub told_fits : {T : Type 0} (caller : Caller) (dst : Addr) (what : Ask) (shown : T → Answer) (r : Result T CallError) → IfOk (asked_as r) (IsTold caller dst what shown) → IfOk r (λ told. IsAnswerTo what (shown told))
told_fits caller dst what shown (Ok told) t = packet_fits (home caller) caller.next_xid dst what t.0 (shown told) t.1
told_fits caller dst what shown (Err error.Timeout) t = tt
told_fits caller dst what shown (Err error.Flood) t = tt
told_fits caller dst what shown (Err (error.Denied code)) t = tt
told_fits caller dst what shown (Err error.LinkFault) t = tt
told_fits caller dst what shown (Err error.NoMemory) t = tt
