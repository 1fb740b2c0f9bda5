-- What a packet tells a caller is what the grammars say.
use Rattle.std.proofs.Common.{◌≡◌, ℕ, zero, suc, ◌+◌, ◌^◌, ◌<◌, Bool, true, false, ◌&&◌, eqb, cond, List, [], ◌∷◌, ◌++◌, length, Option, Some, None, Ok, Err, refl, sym, ap, subst, ◌∙◌, arith}
use Rattle.std.specs.Prelude.{replicate}
use Rattle.std.specs.Option.{option_map}
use Rattle.sd_outside.specs.Bytes.{IsBytes}
use Rattle.sd_outside.specs.declared.packet.Addr.{Addr}
use Rattle.sd_outside.specs.declared.packet.Packet.{Packet}
use Rattle.sd_outside.specs.declared.packet.Packet.TheVariants.{Frame, Udp}
use Rattle.sd_xdr.specs.Kind.{whole, Value, number, ◌⊗◌, number_of, first, second, filling}
use Rattle.sd_xdr.specs.Grammar.{Reads, HasSpelling, writes, word_bytes, counted, filled}
use Rattle.sd_rpc_msg.specs.declared.message.Outcome.{Outcome}
use Rattle.sd_rpc_msg.specs.declared.message.Outcome.TheVariants.{Success, ProgUnavail, ProgMismatch, ProcUnavail, GarbageArgs, RpcMismatch, AuthError}
use Rattle.sd_rpc_msg.specs.declared.message.Message.TheVariants.{Answered}
use Rattle.sd_rpc_msg.specs.Layout.{message, message_value, message_arm, auth, auth_value, outcome_value}
use Rattle.sd_rpc_msg.proofs.Told.{one_spelling_of}
use Rattle.sd_portmap.specs.Layout as portmap
use Rattle.sd_portmap.specs.Laws as portmap_laws
use Rattle.sd_portmap.specs.declared.message.PmapResult.TheVariants as pmap
use Rattle.sd_portmap.proofs.Read.{result_one_spelling_of}
use Rattle.sd_bootparams.specs.Layout as bootparams
use Rattle.sd_bootparams.specs.Laws as bootparams_laws
use Rattle.sd_bootparams.specs.Layout.{ip_value}
use Rattle.sd_bootparams.specs.declared.message.BpResult.{BpResult}
use Rattle.sd_bootparams.specs.declared.message.BpResult.TheVariants as bp
use Rattle.sd_bootparams.proofs.Read.{read_is_result_of}
use Rattle.sd_mount.specs.Layout as mount
use Rattle.sd_mount.specs.Laws as mount_laws
use Rattle.sd_mount.proofs.Read.{result_one_spelling_of as mnt_one_spelling_of}
use Rattle.sd_nfs_msg.specs.Layout as nfs
use Rattle.sd_nfs_msg.specs.Laws as nfs_laws
use Rattle.sd_nfs_msg.specs.declared.message.NfsResult.{NfsResult}
use Rattle.sd_nfs_msg.proofs.Read.{result_one_spelling_of as nfs_one_spelling_of}
use Rattle.sd_rpc_retry.specs.NfsResults.{nfs_result_in}
use Rattle.sd_rpc_retry.specs.declared.calling.Ask.{Ask}
use Rattle.sd_rpc_retry.specs.declared.calling.Ask.TheVariants as ask
use Rattle.sd_rpc_retry.specs.declared.calling.Answer.{Answer}
use Rattle.sd_rpc_retry.specs.declared.calling.Answer.TheVariants as answer
use Rattle.sd_services.specs.RpcCalls.{spelled}
use Rattle.sd_portmap.specs.Layout.{pmap_port}
use Rattle.sd_services.specs.RpcReply.{address_in}
use Rattle.sd_rpc_retry.specs.Calling.{Said, Verdict, is_everyone, is_relayed, comes_from, is_at, and_then, port_in, whoami_in, getfile_in, given_in, nfs_answer, nfs_answer_in, relayed_in, bootparams_says, answer_in, verdict_of, verdict_in, reply_says, message_says}
use Rattle.sd_rpc_retry.specs.Matches.{TellsResult, Tells, Decides, MayReply, Matches, CarriesBytes, VerdictIsMatch}
use Rattle.sd_services.proofs.Spelled.{spelled_some, reads_of, shape_of, bytes_back, counted_bytes}
use Rattle.sd_rpc_retry.proofs.NfsShapes.{result_again, given_again, nfs_shape, mnt_shape}
use Rattle.sd_rpc_retry.proofs.MatchLaws.{port_shape, relayed_shape, whoami_shape, getfile_shape, outcome_of}

-- ---- tests

same_number : (n : ℕ) → eqb n n ≡ true
same_number n = grind arith

are_equal : (m n : ℕ) → eqb m n ≡ true → m ≡ n
are_equal m n h = grind arith

equal_are : (m n : ℕ) → m ≡ n → eqb m n ≡ true
equal_are m n e = subst (λ (k : ℕ). eqb m k ≡ true) e (same_number m)

both : (a b : Bool) → a ≡ true → b ≡ true → (a && b) ≡ true
both true true p q = refl
both true false p q = absurd cc
both false b p q = absurd cc

each : (a b : Bool) → (a && b) ≡ true → (a ≡ true) × (b ≡ true)
each true true h = (refl, refl)
each true false h = absurd cc
each false b h = absurd cc

if_so : {A : Type 0} (t : Bool) (x y : A) → t ≡ true → cond t x y ≡ x
if_so true x y h = refl
if_so false x y h = absurd cc

pub only_if : {A : Type 0} (t : Bool) (x : Option A) (y : A) → cond t x None ≡ Some y → (t ≡ true) × (x ≡ Some y)
only_if true x y h = (refl, h)
only_if false x y h = absurd cc

pub some_is : {A : Type 0} (x y : A) → ◌≡◌ {A = Option A} (Some x) (Some y) → x ≡ y
some_is x y h = cc

pub follows : {A B : Type 0} (o : Option A) (f : A → Option B) (y : B) → and_then o f ≡ Some y → (x : A) × (o ≡ Some x) × (f x ≡ Some y)
follows None f y h = absurd cc
follows (Some x) f y h = (x, refl, h)

pub mapped : {A B : Type 0} (o : Option A) (f : A → B) (y : B) → option_map f o ≡ Some y → (x : A) × (o ≡ Some x) × (f x ≡ y)
mapped None f y h = absurd cc
mapped (Some x) f y h = (x, refl, some_is (f x) y h)

-- ---- addresses

at_is : (me to : Addr) → is_at me to ≡ true → to ≡ me
at_is me to h =
    let e = each (eqb to.ip me.ip) (eqb to.port me.port) h in
    let same_ip = are_equal to.ip me.ip e.0 in
    let same_port = are_equal to.port me.port e.1 in
    λ i. record { ip = same_ip i; port = same_port i }

is_there : (me to : Addr) → to ≡ me → is_at me to ≡ true
is_there me to e = both (eqb to.ip me.ip) (eqb to.port me.port) (equal_are to.ip me.ip (ap (λ (a : Addr). a.ip) e)) (equal_are to.port me.port (ap (λ (a : Addr). a.port) e))

may_reply : (b : Bool) (dst src : Addr) → cond b (eqb src.port pmap_port) (eqb src.ip dst.ip && eqb src.port dst.port) ≡ true → MayReply b dst src
may_reply true dst src h = are_equal src.port pmap_port h
may_reply false dst src h = at_is dst src h

did_reply : (b : Bool) (dst src : Addr) → MayReply b dst src → cond b (eqb src.port pmap_port) (eqb src.ip dst.ip && eqb src.port dst.port) ≡ true
did_reply true dst src h = equal_are src.port pmap_port h
did_reply false dst src h = is_there dst src h

-- ---- results

says_result : (b : Bool) (proc_no : ℕ) (results : List ℕ) (r : BpResult) → TellsResult b proc_no results r → bootparams_says proc_no b results ≡ Some (bootparams.result_value r)
says_result false proc_no results r h = spelled_some (bootparams.result_kind proc_no) results (bootparams.result_value r) h
says_result true proc_no results r (port, inner, h, k) =
    ap (λ (o : Option Value). and_then (option_map relayed_in o) (spelled (bootparams.result_kind proc_no))) (spelled_some (portmap.result_kind 5) results (portmap.result_value (pmap.Callit port inner)) h)
    ∙ spelled_some (bootparams.result_kind proc_no) inner (bootparams.result_value r) k

of_result : (b : Bool) (proc_no : ℕ) (results : List ℕ) (r : BpResult) → TellsResult b proc_no results r → bootparams_laws.IsResult r
of_result false proc_no results r h = (read_is_result_of proc_no r results h).1
of_result true proc_no results r (port, inner, h, k) = (read_is_result_of proc_no r inner k).1

address_is : (address : ℕ) → address < 2 ^ 32 → address_in (ip_value address) ≡ address
address_is address small = omega (arith, small)

answers : (asked : Ask) (dst : Addr) (from : ℕ) (results : List ℕ) (a : Answer) → Tells asked dst from results a → answer_in asked dst from results ≡ Some a
answers (ask.Getport prog vers) dst from results (answer.Port port) h = ap port_in (spelled_some (portmap.result_kind 3) results (portmap.result_value (pmap.Port port)) h)
answers (ask.Getport prog vers) dst from results other h = absurd h
answers (ask.Whoami address) dst from results (answer.Whoami at client domain router) h =
    let fits = of_result (is_relayed dst) 1 results (bp.Whoami client domain router) h.1 in
    ap (option_map (whoami_in from)) (says_result (is_relayed dst) 1 results (bp.Whoami client domain router) h.1)
    ∙ (λ i. Some (answer.Whoami (sym h.0 i) client domain (address_is router fits.2 i)))
answers (ask.Whoami address) dst from results other h = absurd h
answers (ask.Getfile client key) dst from results (answer.Getfile at server ip path) h =
    let fits = of_result (is_relayed dst) 2 results (bp.Getfile server ip path) h.1 in
    ap (option_map (getfile_in from)) (says_result (is_relayed dst) 2 results (bp.Getfile server ip path) h.1)
    ∙ (λ i. Some (answer.Getfile (sym h.0 i) server (address_is ip fits.1 i) path))
answers (ask.Getfile client key) dst from results other h = absurd h
answers (ask.Mnt path) dst from results a (r, reads, is) =
    let fits = (mnt_one_spelling_of 1 r results reads).2 in
    ap (option_map given_in) (spelled_some (mount.result_kind 1) results (mount.result_value r) reads)
    ∙ ap Some (given_again r a (λ status e. (subst mount_laws.IsResult e fits).1) is)
answers (ask.Nfs args) dst from results a (r, reads, is) =
    let fits = nfs_one_spelling_of (nfs.proc_of args) r results reads in
    ap (option_map (nfs_answer_in (nfs.proc_of args))) (spelled_some (nfs.result_kind (nfs.proc_of args)) results (nfs.result_value r) reads)
    ∙ ap (λ (x : NfsResult). Some (nfs_answer x)) (result_again (nfs.proc_of args) r fits.1 (λ status e. (subst nfs_laws.IsResult e fits.2).1))
    ∙ ap Some is

-- and back
relayed_inner : (results inner : List ℕ) → IsBytes results → option_map relayed_in (spelled (portmap.result_kind 5) results) ≡ Some inner
    → (port : ℕ) × portmap_laws.ReadsResult 5 results (pmap.Callit port inner) × IsBytes inner
relayed_inner results inner fits said =
    let m = mapped (spelled (portmap.result_kind 5) results) relayed_in inner said in
    let port = number_of (first (second m.0)) in
    let read = subst (λ (u : Value). Reads whole (portmap.result_kind 5) results u) (relayed_shape m.0 (shape_of (portmap.result_kind 5) results m.0 fits m.1)) (reads_of (portmap.result_kind 5) results m.0 fits m.1) in
    let told : portmap_laws.ReadsResult 5 results (pmap.Callit port inner) = subst (λ (l : List ℕ). portmap_laws.ReadsResult 5 results (pmap.Callit port l)) m.2 read in
    let spelling = (result_one_spelling_of 5 (pmap.Callit port inner) results told).0 in
    (port, told, counted_bytes inner (bytes_back (word_bytes port) (counted inner) (subst IsBytes spelling fits)))

said_shape : (b : Bool) (proc_no : ℕ) (results : List ℕ) (v : Value) → IsBytes results → bootparams_says proc_no b results ≡ Some v → HasSpelling (bootparams.result_kind proc_no) v
said_shape false proc_no results v fits said = shape_of (bootparams.result_kind proc_no) results v fits said
said_shape true proc_no results v fits said =
    let f = follows (option_map relayed_in (spelled (portmap.result_kind 5) results)) (spelled (bootparams.result_kind proc_no)) v said in
    let i = relayed_inner results f.0 fits f.1 in
    shape_of (bootparams.result_kind proc_no) f.0 v i.2 f.2

result_said : (b : Bool) (proc_no : ℕ) (results : List ℕ) (v : Value) (r : BpResult) → IsBytes results → v ≡ bootparams.result_value r → bootparams_says proc_no b results ≡ Some v → TellsResult b proc_no results r
result_said false proc_no results v r fits is said = subst (λ (u : Value). Reads whole (bootparams.result_kind proc_no) results u) is (reads_of (bootparams.result_kind proc_no) results v fits said)
result_said true proc_no results v r fits is said =
    let f = follows (option_map relayed_in (spelled (portmap.result_kind 5) results)) (spelled (bootparams.result_kind proc_no)) v said in
    let i = relayed_inner results f.0 fits f.1 in
    (i.0, f.0, i.1, subst (λ (u : Value). Reads whole (bootparams.result_kind proc_no) f.0 u) is (reads_of (bootparams.result_kind proc_no) f.0 v i.2 f.2))

tells_of : (asked : Ask) (dst : Addr) (from : ℕ) (results : List ℕ) (a : Answer) → IsBytes results → answer_in asked dst from results ≡ Some a → Tells asked dst from results a
tells_of (ask.Getport prog vers) dst from results a fits said =
    let m = mapped (spelled (portmap.result_kind 3) results) (λ v. answer.Port (number_of (second v))) a said in
    subst (λ (x : Answer). Tells (ask.Getport prog vers) dst from results x) m.2
    (subst (λ (u : Value). Reads whole (portmap.result_kind 3) results u) (port_shape m.0 (shape_of (portmap.result_kind 3) results m.0 fits m.1)) (reads_of (portmap.result_kind 3) results m.0 fits m.1))
tells_of (ask.Whoami address) dst from results a fits said =
    let m = mapped (bootparams_says 1 (is_relayed dst) results) (whoami_in from) a said in
    subst (λ (x : Answer). Tells (ask.Whoami address) dst from results x) m.2
    (refl, result_said (is_relayed dst) 1 results m.0 _ fits (whoami_shape m.0 (said_shape (is_relayed dst) 1 results m.0 fits m.1)) m.1)
tells_of (ask.Getfile client key) dst from results a fits said =
    let m = mapped (bootparams_says 2 (is_relayed dst) results) (getfile_in from) a said in
    subst (λ (x : Answer). Tells (ask.Getfile client key) dst from results x) m.2
    (refl, result_said (is_relayed dst) 2 results m.0 _ fits (getfile_shape m.0 (said_shape (is_relayed dst) 2 results m.0 fits m.1)) m.1)
tells_of (ask.Mnt path) dst from results a fits said =
    let m = mapped (spelled (mount.result_kind 1) results) given_in a said in
    let k = mnt_shape m.0 (shape_of (mount.result_kind 1) results m.0 fits m.1) in
    (k.result, subst (λ (u : Value). Reads whole (mount.result_kind 1) results u) k.is (reads_of (mount.result_kind 1) results m.0 fits m.1), k.told ∙ ap Some m.2)
tells_of (ask.Nfs args) dst from results a fits said =
    let n = nfs.proc_of args in
    let m = mapped (spelled (nfs.result_kind n) results) (nfs_answer_in n) a said in
    let is = nfs_shape args m.0 (shape_of (nfs.result_kind n) results m.0 fits m.1) in
    (nfs_result_in n m.0, subst (λ (u : Value). Reads whole (nfs.result_kind n) results u) is (reads_of (nfs.result_kind n) results m.0 fits m.1), m.2)

decided : (asked : Ask) (dst : Addr) (from : ℕ) (outcome : Outcome) (verdict : Verdict) → Decides asked dst from outcome verdict → verdict_of asked dst from (reply_says (outcome_value outcome)) ≡ Some verdict
decided asked dst from (Success verf results) (Ok a) h = ap (option_map Ok) (answers asked dst from results a h)
decided asked dst from (Success verf results) (Err code) h = absurd h
decided asked dst from (ProgUnavail verf) verdict h = ap Some (sym h)
decided asked dst from (ProgMismatch verf low high) verdict h = ap Some (sym h)
decided asked dst from (ProcUnavail verf) verdict h = ap Some (sym h)
decided asked dst from (GarbageArgs verf) verdict h = ap Some (sym h)
decided asked dst from (RpcMismatch low high) verdict h = ap Some (sym h)
decided asked dst from (AuthError stat) verdict h = ap Some (sym h)

pub told_by : (me : Addr) (xid : ℕ) (dst : Addr) (asked : Ask) (packet : Packet) (verdict : Verdict) → Matches me xid dst asked packet verdict → verdict_in me xid dst asked packet ≡ Some verdict
told_by me xid dst asked (Frame frame) verdict m = absurd m
told_by me xid dst asked (Udp src to body) verdict (at, fits, r) =
    let v = message_value (Answered (record { xid = xid; outcome = r.outcome })) in
    let here = both (is_at me to) (comes_from dst src) (is_there me to at) (did_reply (is_everyone dst) dst src r.source) in
    let said : message_says xid v ≡ Some (reply_says (outcome_value r.outcome)) = if_so (eqb xid xid && true) (Some (reply_says (outcome_value r.outcome))) None (both (eqb xid xid) true (same_number xid) refl) in
    if_so (is_at me to && comes_from dst src) _ None here
    ∙ ap (λ (o : Option Value). and_then (and_then o (message_says xid)) (verdict_of asked dst src.ip)) (spelled_some message body v r.reads)
    ∙ ap (λ (o : Option Said). and_then o (verdict_of asked dst src.ip)) said
    ∙ decided asked dst src.ip r.outcome verdict r.decides

-- and back
ResultsFit : Outcome → Type 0
ResultsFit (Success verf results) = IsBytes results
ResultsFit (ProgUnavail verf) = Unit {0}
ResultsFit (ProgMismatch verf low high) = Unit {0}
ResultsFit (ProcUnavail verf) = Unit {0}
ResultsFit (GarbageArgs verf) = Unit {0}
ResultsFit (RpcMismatch low high) = Unit {0}
ResultsFit (AuthError stat) = Unit {0}

results_fit : (xid : ℕ) (outcome : Outcome) (body : List ℕ) → IsBytes body → Reads whole message body (message_value (Answered (record { xid = xid; outcome = outcome }))) → ResultsFit outcome
unfolding ResultsFit
results_fit xid (Success verf results) body fits read =
    let m = Answered (record { xid = xid; outcome = Success verf results }) in
    let all = subst IsBytes (one_spelling_of m body read).0 fits in
    bytes_back (word_bytes 0) results
    (bytes_back (writes auth (auth_value verf)) (word_bytes 0 ++ results)
    (bytes_back (word_bytes 0) (writes auth (auth_value verf) ++ (word_bytes 0 ++ results))
    (bytes_back (word_bytes 1) (word_bytes 0 ++ (writes auth (auth_value verf) ++ (word_bytes 0 ++ results)))
    (bytes_back (word_bytes xid) (word_bytes 1 ++ (word_bytes 0 ++ (writes auth (auth_value verf) ++ (word_bytes 0 ++ results)))) all))))
results_fit xid (ProgUnavail verf) body fits read = tt
results_fit xid (ProgMismatch verf low high) body fits read = tt
results_fit xid (ProcUnavail verf) body fits read = tt
results_fit xid (GarbageArgs verf) body fits read = tt
results_fit xid (RpcMismatch low high) body fits read = tt
results_fit xid (AuthError stat) body fits read = tt

decides_of : (asked : Ask) (dst : Addr) (from : ℕ) (outcome : Outcome) (verdict : Verdict) → ResultsFit outcome → verdict_of asked dst from (reply_says (outcome_value outcome)) ≡ Some verdict → Decides asked dst from outcome verdict
unfolding ResultsFit
decides_of asked dst from (Success verf results) verdict fits said =
    let m = mapped (answer_in asked dst from results) Ok verdict said in
    subst (λ (w : Verdict). Decides asked dst from (Success verf results) w) m.2 (tells_of asked dst from results m.0 fits m.1)
decides_of asked dst from (ProgUnavail verf) verdict fits said = sym (some_is (Err 1) verdict said)
decides_of asked dst from (ProgMismatch verf low high) verdict fits said = sym (some_is (Err 2) verdict said)
decides_of asked dst from (ProcUnavail verf) verdict fits said = sym (some_is (Err 3) verdict said)
decides_of asked dst from (GarbageArgs verf) verdict fits said = sym (some_is (Err 4) verdict said)
decides_of asked dst from (RpcMismatch low high) verdict fits said = sym (some_is (Err 10) verdict said)
decides_of asked dst from (AuthError stat) verdict fits said = sym (some_is (Err (10 + stat)) verdict said)

pub match_of : (me : Addr) (xid : ℕ) (dst : Addr) (asked : Ask) (packet : Packet) (verdict : Verdict) → CarriesBytes packet → verdict_in me xid dst asked packet ≡ Some verdict → Matches me xid dst asked packet verdict
match_of me xid dst asked (Frame frame) verdict fits h = absurd cc
match_of me xid dst asked (Udp src to body) verdict fits h =
    let i = only_if (is_at me to && comes_from dst src) (and_then (and_then (spelled message body) (message_says xid)) (verdict_of asked dst src.ip)) verdict h in
    let e = each (is_at me to) (comes_from dst src) i.0 in
    let f = follows (and_then (spelled message body) (message_says xid)) (verdict_of asked dst src.ip) verdict i.1 in
    let g = follows (spelled message body) (message_says xid) f.0 f.1 in
    let v = g.0 in
    let w = second v in
    let t = only_if (eqb (number_of (first v)) xid && eqb (number_of (first w)) 1) (Some (reply_says (second w))) f.0 g.2 in
    let k = each (eqb (number_of (first v)) xid) (eqb (number_of (first w)) 1) t.0 in
    let one = are_equal (number_of (first w)) 1 k.1 in
    let shape = shape_of message body v fits g.1 in
    let o = outcome_of (second w) (subst (λ (n : ℕ). HasSpelling (message_arm (number_of (first v)) n) (second w)) one shape.2.2) in
    let is : v ≡ message_value (Answered (record { xid = xid; outcome = o.outcome })) =
    shape.0 ∙ (λ p. (shape.1.0 ∙ ap number (are_equal (number_of (first v)) xid k.0)) p ⊗ (shape.2.0 ∙ (λ q. (shape.2.1.0 ∙ ap number one) q ⊗ o.is q)) p) in
    let read = subst (λ (u : Value). Reads whole message body u) is (reads_of message body v fits g.1) in
    let said : f.0 ≡ reply_says (outcome_value o.outcome) = sym (some_is (reply_says (second w)) f.0 t.1) ∙ ap reply_says o.is in (
      at_is me to e.0,
      fits,
      record {
        source = may_reply (is_everyone dst) dst src e.1;
        outcome = o.outcome;
        reads = read;
        decides = decides_of asked dst src.ip o.outcome verdict (results_fit xid o.outcome body fits read) (subst (λ (s : Said). verdict_of asked dst src.ip s ≡ Some verdict) said f.2);
      },
    )

pub verdict_is_match : VerdictIsMatch
verdict_is_match me xid dst asked packet verdict fits = (match_of me xid dst asked packet verdict fits, told_by me xid dst asked packet verdict)
