-- What the server says of the files of the root export, and what it mounts.
use Rattle.std.proofs.Common.{◌≡◌, ℕ, ◌<◌, ◌≤◌, ◌^◌, Bool, true, false, cond, List, ◌++◌, length, length-take, drop, min, Option, Some, None, Result, Ok, Err, refl, sym, ◌∙◌, ap, subst, inl, inr, arith}
use Rattle.std.specs.Prelude.{◌==◌}
use Rattle.sd_outside.specs.declared.fhandle.FHandle.{FHandle}
use Rattle.sd_outside.specs.declared.packet.Addr.{Addr}
use Rattle.sd_mount.specs.declared.message.MountResult.TheVariants as mounts
use Rattle.sd_mount.specs.Layout as mount
use Rattle.sd_mount.specs.Laws as mount_laws
use Rattle.sd_mount.specs.Tables.{same, export_of, given_to, mnt_of}
use Rattle.sd_mount.proofs.Mounted.{same_is_equal}
use Rattle.sd_nfs_msg.specs.declared.parts.Fattr.{Fattr}
use Rattle.sd_nfs_msg.specs.declared.message.NfsArgs.{NfsArgs}
use Rattle.sd_nfs_msg.specs.declared.message.NfsArgs.TheVariants as asks
use Rattle.sd_nfs_msg.specs.declared.message.NfsResult.{NfsResult}
use Rattle.sd_nfs_msg.specs.declared.message.NfsResult.TheVariants as results
use Rattle.sd_nfs_msg.specs.Layout as nfs
use Rattle.sd_nfs_msg.specs.Laws as nfs_laws
use Rattle.sd_config.specs.declared.config.SwapLine.{SwapLine}
use Rattle.sd_config.specs.declared.config.Config.{Config}
use Rattle.sd_services.specs.declared.node.Node.{Node}
use Rattle.sd_services.specs.declared.node.Standing.{Standing}
use Rattle.sd_services.specs.declared.node.Standing.TheVariants.{Directory, File, Symlink}
use Rattle.sd_config.specs.Config.{IsConfig}
use Rattle.sd_services.specs.Files.{Place, handle, named_by, exported}
use Rattle.sd_services.specs.Names.{called}
use Rattle.sd_services.specs.NfsReply.{file_in, swap_file, nfs_reply}
use Rattle.sd_services.specs.MountReply.{exports_of, export_of as entry_of, root_export, swap_export, given}
use Rattle.sd_services.specs.Decisions.{decided, on_root, node_at, root_attributes, lookup, looks_up, readlink, read, bytes_read}
use Rattle.sd_rpc_retry.specs.declared.calling.Ask.TheVariants as ask
use Rattle.sd_rpc_retry.specs.declared.calling.Answer.{Answer}
use Rattle.sd_rpc_retry.specs.declared.calling.Answer.TheVariants as answer
use Rattle.sd_rpc_retry.specs.declared.calling.Caller.{Caller}
use Rattle.sd_rpc_retry.specs.Calling.{nfs_answer}
use Rattle.sd_loader.specs.Walk.{what_at, named_in, called_by}
use Rattle.sd_loader.specs.Mounting.{IsMounted}
use Rattle.sd_loader.proofs.Handles.{named}
use Rattle.sd_loader.specs.Found.{IsNumber, IsFile, IsFound}
use Rattle.sd_loader.proofs.Nodes.{StandingFits, few_files, file_fits, named_number}
use Rattle.sd_loader.proofs.Says.{IsAsked, mnt_told, mnt_says, nfs_says, never_mounts, always_refuses}
use Rattle.sd_loader.specs.Served.{Serves, IsServers}
use Rattle.sd_rpc_msg.specs.declared.message.Outcome.{Outcome}
use Rattle.sd_rpc_msg.specs.Layout.{outcome_value}
use Rattle.sd_services.specs.Part.{ServerPart}
use Rattle.sd_services.specs.RpcCalls.{Program, outcome_of}
use Rattle.sd_services.specs.RpcReply.{program_at}
use Rattle.sd_services.specs.Failing.{nfs_failing}
use Rattle.sd_rpc_retry.specs.declared.calling.Ask.{Ask}
use Rattle.sd_rpc_retry.specs.Calling.{Verdict, reply_says, verdict_of, call_for}

handle_long : (export number : ℕ) → length (handle export number) ≡ 32
unfolding handle
handle_long export number = refl

attr_is : (number : ℕ) (what : Standing) → number < 2 ^ 32 → StandingFits what → nfs_laws.IsAttr (root_attributes number what)
unfolding StandingFits
attr_is number Directory few fits = (omega arith, omega arith, omega arith, omega arith, omega arith, omega arith, omega arith, omega arith, omega arith, omega arith, few, omega arith, omega arith, omega arith, omega arith, omega arith, omega arith)
attr_is number (File content) few fits =
    (omega arith, omega arith, omega arith, omega arith, omega arith, omega (arith, fits), omega arith, omega arith, omega (arith, fits), omega arith, few, omega arith, omega arith, omega arith, omega arith, omega arith, omega arith)
attr_is number (Symlink text) few fits =
    (omega arith, omega arith, omega arith, omega arith, omega arith, omega (arith, fits), omega arith, omega arith, omega (arith, fits), omega arith, few, omega arith, omega arith, omega arith, omega arith, omega arith, omega arith)

-- ---- a program that works

-- the verdict is what the program at the port says, with what the server holds at some time
record Answers (c : Config) (caller : Caller) (dst : Addr) (what : Ask) (v : Verdict) : Type 0 where
  part : ServerPart
  outcome : Outcome
  given : outcome_of (program_at c part caller.ip dst.port) (call_for caller.machine caller.next_xid dst what) ≡ Some outcome
  verdict : verdict_of what dst dst.ip (reply_says (outcome_value outcome)) ≡ Some v

-- where NFS whose disk fails can't have said so
works : (c : Config) (caller : Caller) (dst : Addr) (what : Ask) (v : Verdict) → ((o : Outcome) → outcome_of nfs_failing (call_for caller.machine caller.next_xid dst what) ≡ Some o → verdict_of what dst dst.ip (reply_says (outcome_value o)) ≡ Some v → ⊥)
    → IsServers c caller dst what v → Answers c caller dst what v
works c caller dst what v never s = of s.program s.serves s.given
  where
    of : (p : Program) → Serves c caller.ip dst.port p → outcome_of p (call_for caller.machine caller.next_xid dst what) ≡ Some s.outcome → Answers c caller dst what v
    of p (inl (part, is)) given =
        record { part = part; outcome = s.outcome; given = subst (λ (q : Program). outcome_of q (call_for caller.machine caller.next_xid dst what) ≡ Some s.outcome) is given; verdict = s.verdict }
    of p (inr is) given = absurd (never s.outcome (subst (λ (q : Program). outcome_of q (call_for caller.machine caller.next_xid dst what) ≡ Some s.outcome) is given) s.verdict)

-- ---- a file of the root export

long : (c : Config) (h : FHandle) (number : ℕ) → IsFile c h number → length h.0 ≡ 32
long c h number f = ap length f.same ∙ handle_long 0 number

-- a call for it is answered by what stands there, whatever the swap file holds
on_file : (c : Config) → IsConfig c → (h : FHandle) (number : ℕ) → IsFile c h number → (stored : List (List ℕ)) (from : ℕ) (args : NfsArgs)
    → decided (exported c) (file_in stored swap_file) from (named_by (exported c) h.0) args ≡ on_root (exported c).root number (node_at (exported c).root number) args
on_file c is h number f stored from args =
    ap (λ (o : Option Place). decided (exported c) (file_in stored swap_file) from o args)
    (named (exported c) h.0 (0, number) (few_files c is) (inl (refl, f.live.0, f.live.1)) f.same)

small : (c : Config) → IsConfig c → (h : FHandle) (number : ℕ) → IsFile c h number → number < 2 ^ 32
small c is h number f = let few = few_files c is in omega (arith, few, f.live.1)

-- ---- LOOKUP

refusal_is : (n status : ℕ) → (n ≡ 0 → ⊥) → status < 2 ^ 32 → (status ≡ 0 → ⊥) → nfs_laws.IsResult (results.Refused status) × nfs.IsResultOf n (results.Refused status)
refusal_is n status some word not = ((word, not), some)

lookup_is : (c : Config) → IsConfig c → (number : ℕ) → IsNumber (exported c).root number → (path name : List ℕ) (what : Standing)
    → ((next : ℕ) → called_by (exported c).root number path what name ≡ Some next → IsNumber (exported c).root next)
    → nfs_laws.IsResult (lookup (exported c).root number path what name) × nfs.IsResultOf 4 (lookup (exported c).root number path what name)
lookup_is c is number live path name Directory leads = of (called (exported c).root number path name) leads
  where
    of : (o : Option ℕ) → ((next : ℕ) → o ≡ Some next → IsNumber (exported c).root next) → nfs_laws.IsResult (looks_up (exported c).root o) × nfs.IsResultOf 4 (looks_up (exported c).root o)
    of None h = refusal_is 4 2 (λ e. absurd (omega (arith, e))) (omega arith) (λ e. absurd (omega (arith, e)))
    of (Some next) h =
        let there = h next refl in
        let few = few_files c is in
        ((handle_long 0 next, attr_is next (what_at (exported c).root next) (omega (arith, few, there.1)) (file_fits c is next there)), refl)
lookup_is c is number live path name (File content) leads = refusal_is 4 20 (λ e. absurd (omega (arith, e))) (omega arith) (λ e. absurd (omega (arith, e)))
lookup_is c is number live path name (Symlink text) leads = refusal_is 4 20 (λ e. absurd (omega (arith, e))) (omega arith) (λ e. absurd (omega (arith, e)))

-- ---- what is told is what stands there

module _ (c : Config) (is : IsConfig c) (caller : Caller) (dst : Addr) (machine : length caller.machine ≤ 255) (h : FHandle) (number : ℕ) (f : IsFile c h number) where
  abbrev nodes : List Node
  nodes = (exported c).root

  abbrev node : Node
  node = node_at nodes number

  -- a call of NFS that has a procedure other than NULL, and was answered
  answered : (args : NfsArgs) (a : NfsResult) → IsAsked args → (nfs.proc_of args ≡ 0 → ⊥) → IsServers c caller dst (ask.Nfs args) (Ok (answer.Nfs a)) → Answers c caller dst (ask.Nfs args) (Ok (answer.Nfs a))
  answered args a asked some s =
      works c caller dst (ask.Nfs args) (Ok (answer.Nfs a))
      (λ o given verdict. refused_not (always_refuses caller.machine caller.next_xid dst dst.ip args o (answer.Nfs a) machine asked some given verdict)) s
    where
      refused_not : answer.Nfs a ≡ answer.Refused 5 → ⊥
      refused_not e = absurd cc

  lookup_asked : (name : List ℕ) → length name ≤ 255 → IsAsked (asks.Lookup h name)
  lookup_asked name few = record { are = (long c h number f, few); passed = λ gives. refl; again = refl }

  readlink_asked : IsAsked (asks.Readlink h)
  readlink_asked = record { are = long c h number f; passed = λ gives. refl; again = refl }

  getattr_asked : IsAsked (asks.Getattr h)
  getattr_asked = record { are = long c h number f; passed = λ gives. refl; again = refl }

  read_asked : (offset count : ℕ) → offset < 2 ^ 32 → count < 2 ^ 32 → IsAsked (asks.Read h offset count 0)
  read_asked offset count low few = record { are = (long c h number f, low, few, omega arith); passed = λ gives. refl; again = refl }

  lookup_told : (name : List ℕ) (a : Answer) → length name ≤ 255 → Answers c caller dst (ask.Nfs (asks.Lookup h name)) (Ok a) → a ≡ nfs_answer (lookup nodes number node.path node.what name)
  lookup_told name a few s =
      let args = asks.Lookup h name in
      let says = on_file c is h number f s.part.files caller.ip args in
      let fits = lookup_is c is number f.live node.path name node.what (λ next e. named_number nodes number name next f.live e) in
      let r = nfs_reply (exported c) s.part.files caller.ip args in
      nfs_says c s.part caller.ip dst.port caller.machine caller.next_xid dst dst.ip args s.outcome a machine
      (lookup_asked name few)
      (subst nfs_laws.IsResult (sym says) fits.0) (subst (nfs.IsResultOf 4) (sym says) fits.1) s.given s.verdict
      ∙ ap nfs_answer says

  -- a call with one handle is asked, where its other arguments are words
  readlink_told : (a : Answer) → Answers c caller dst (ask.Nfs (asks.Readlink h)) (Ok a) → a ≡ nfs_answer (readlink node.what)
  unfolding StandingFits
  readlink_told a s =
      let args = asks.Readlink h in
      let says = on_file c is h number f s.part.files caller.ip args in
      let fits = readlink_is node.what (file_fits c is number f.live) in
      nfs_says c s.part caller.ip dst.port caller.machine caller.next_xid dst dst.ip args s.outcome a machine readlink_asked
      (subst nfs_laws.IsResult (sym says) fits.0) (subst (nfs.IsResultOf 5) (sym says) fits.1) s.given s.verdict
      ∙ ap nfs_answer says
    where
      readlink_is : (what : Standing) → StandingFits what → nfs_laws.IsResult (readlink what) × nfs.IsResultOf 5 (readlink what)
      readlink_is Directory fits = refusal_is 5 6 (λ e. absurd (omega (arith, e))) (omega arith) (λ e. absurd (omega (arith, e)))
      readlink_is (File content) fits = refusal_is 5 6 (λ e. absurd (omega (arith, e))) (omega arith) (λ e. absurd (omega (arith, e)))
      readlink_is (Symlink text) fits = (fits, refl)

  getattr_told : (a : Answer) → Answers c caller dst (ask.Nfs (asks.Getattr h)) (Ok a) → a ≡ answer.Nfs (results.Getattr (root_attributes number node.what))
  getattr_told a s =
      let args = asks.Getattr h in
      let says = on_file c is h number f s.part.files caller.ip args in
      let fits = attr_is number node.what (small c is h number f) (file_fits c is number f.live) in
      nfs_says c s.part caller.ip dst.port caller.machine caller.next_xid dst dst.ip args s.outcome a machine getattr_asked
      (subst nfs_laws.IsResult (sym says) fits) (subst (nfs.IsResultOf 1) (sym says) refl) s.given s.verdict
      ∙ ap nfs_answer says

  read_told : (offset count : ℕ) (a : Answer) → offset < 2 ^ 32 → count < 2 ^ 32 → Answers c caller dst (ask.Nfs (asks.Read h offset count 0)) (Ok a) → a ≡ nfs_answer (read number node.what offset count)
  read_told offset count a low few s =
      let args = asks.Read h offset count 0 in
      let says = on_file c is h number f s.part.files caller.ip args in
      let fits = read_is node.what (attr_is number node.what (small c is h number f) (file_fits c is number f.live)) in
      nfs_says c s.part caller.ip dst.port caller.machine caller.next_xid dst dst.ip args s.outcome a machine
      (read_asked offset count low few)
      (subst nfs_laws.IsResult (sym says) fits.0) (subst (nfs.IsResultOf 6) (sym says) fits.1) s.given s.verdict
      ∙ ap nfs_answer says
    where
      read_is : (what : Standing) → nfs_laws.IsAttr (root_attributes number what) → nfs_laws.IsResult (read number what offset count) × nfs.IsResultOf 6 (read number what offset count)
      read_is Directory fits = refusal_is 6 21 (λ e. absurd (omega (arith, e))) (omega arith) (λ e. absurd (omega (arith, e)))
      read_is (File content) fits = ((fits, omega (arith, length-take (min count 8192) (drop offset content))), refl)
      read_is (Symlink text) fits = refusal_is 6 6 (λ e. absurd (omega (arith, e))) (omega arith) (λ e. absurd (omega (arith, e)))

  -- ---- in the words of typed answers

  answers_are : (a b : NfsResult) → answer.Nfs a ≡ answer.Nfs b → a ≡ b
  answers_are a b e = cc

  -- a file that was found
  pub found_is : (name : List ℕ) (file : FHandle) (attr : Fattr) → length name ≤ 255 → IsServers c caller dst (ask.Nfs (asks.Lookup h name)) (Ok (answer.Nfs (results.Lookup file attr))) → IsFound c number name file attr
  found_is name file attr few s = of node.what (λ next e. named_number nodes number name next f.live e) refl (lookup_told name (answer.Nfs (results.Lookup file attr)) few (answered (asks.Lookup h name) (results.Lookup file attr) (lookup_asked name few) (λ e. absurd (omega (arith, e))) s))
    where
      by : (o : Option ℕ) → o ≡ named_in nodes number name → ((next : ℕ) → o ≡ Some next → IsNumber nodes next) → answer.Nfs (results.Lookup file attr) ≡ nfs_answer (looks_up nodes o) → IsFound c number name file attr
      by None e leads t = absurd cc
      by (Some next) e leads t =
          let both : results.Lookup file attr ≡ results.Lookup (record { 0 = handle 0 next }) (root_attributes next (node_at nodes next).what) = answers_are _ _ t in
          record {
            next = next;
            named = sym e;
            is = record { live = leads next refl; same = handle_of both };
            attr_is = attr_of both;
          }
        where
          handle_of : {g : FHandle} {b : Fattr} → results.Lookup file attr ≡ results.Lookup g b → file.0 ≡ g.0
          handle_of {g} {b} k = ap (λ (x : FHandle). x.0) (same_handle k)
            where
              same_handle : results.Lookup file attr ≡ results.Lookup g b → file ≡ g
              same_handle k = cc

          attr_of : {g : FHandle} {b : Fattr} → results.Lookup file attr ≡ results.Lookup g b → attr ≡ b
          attr_of k = cc

      of : (what : Standing) → ((next : ℕ) → called_by nodes number node.path what name ≡ Some next → IsNumber nodes next) → what ≡ node.what
          → answer.Nfs (results.Lookup file attr) ≡ nfs_answer (lookup nodes number node.path what name) → IsFound c number name file attr
      of Directory leads e t = by (called nodes number node.path name) (ap (λ (w : Standing). called_by nodes number node.path w name) e) leads t
      of (File content) leads e t = absurd cc
      of (Symlink text) leads e t = absurd cc

  -- a link's text
  pub target_is : (text : List ℕ) → IsServers c caller dst (ask.Nfs (asks.Readlink h)) (Ok (answer.Nfs (results.Readlink text))) → node.what ≡ Symlink text
  target_is text s = of node.what (readlink_told (answer.Nfs (results.Readlink text)) (answered (asks.Readlink h) (results.Readlink text) readlink_asked (λ e. absurd (omega (arith, e))) s))
    where
      of : (what : Standing) → answer.Nfs (results.Readlink text) ≡ nfs_answer (readlink what) → what ≡ Symlink text
      of Directory t = absurd cc
      of (File content) t = absurd cc
      of (Symlink other) t = ap Symlink (same_text t)
        where
          same_text : answer.Nfs (results.Readlink text) ≡ answer.Nfs (results.Readlink other) → other ≡ text
          same_text t = cc

  -- a file's attributes
  pub attributes_are : (attr : Fattr) → IsServers c caller dst (ask.Nfs (asks.Getattr h)) (Ok (answer.Nfs (results.Getattr attr))) → attr ≡ root_attributes number node.what
  attributes_are attr s = of (root_attributes number node.what) (getattr_told (answer.Nfs (results.Getattr attr)) (answered (asks.Getattr h) (results.Getattr attr) getattr_asked (λ e. absurd (omega (arith, e))) s))
    where
      of : (b : Fattr) → answer.Nfs (results.Getattr attr) ≡ answer.Nfs (results.Getattr b) → attr ≡ b
      of b e = cc

  -- bytes of a file
  pub bytes_are : (offset count : ℕ) (attr : Fattr) (bytes : List ℕ) → offset < 2 ^ 32 → count < 2 ^ 32 → IsServers c caller dst (ask.Nfs (asks.Read h offset count 0)) (Ok (answer.Nfs (results.Read attr bytes)))
      → (content : List ℕ) × (node.what ≡ File content) × (bytes ≡ bytes_read content offset count)
  bytes_are offset count attr bytes low few s = of node.what (read_told offset count (answer.Nfs (results.Read attr bytes)) low few (answered (asks.Read h offset count 0) (results.Read attr bytes) (read_asked offset count low few) (λ e. absurd (omega (arith, e))) s))
    where
      of : (what : Standing) → answer.Nfs (results.Read attr bytes) ≡ nfs_answer (read number what offset count) → (content : List ℕ) × (what ≡ File content) × (bytes ≡ bytes_read content offset count)
      of Directory t = absurd cc
      of (File content) t = (content, refl, same_bytes (bytes_read content offset count) (root_attributes number (File content)) t)
        where
          same_bytes : (b : List ℕ) (a : Fattr) → answer.Nfs (results.Read attr bytes) ≡ answer.Nfs (results.Read a b) → bytes ≡ b
          same_bytes b a t = cc
      of (Symlink text) t = absurd cc

-- ---- MOUNT

-- what the exports give for a path has a spelling, and its handle is that of what is exported there
pub record FitsGiven (c : Config) (path : List ℕ) (r : Result FHandle ℕ) : Type 0 where
  pub is : mount_laws.IsResult (given r)
  pub of_proc : mount.IsResultOf 1 (given r)
  pub some : (status : ℕ) → given r ≡ mounts.Refused status → status ≡ 0 → ⊥
  pub handle_is : (file : FHandle) → r ≡ Ok file → IsMounted c path file

refused_given : (c : Config) (path : List ℕ) (status : ℕ) → status < 2 ^ 32 → (status ≡ 0 → ⊥) → FitsGiven c path (Err status)
refused_given c path status word not = record { is = (word, not); of_proc = refl; some = λ other e z. not (same_status other e ∙ z); handle_is = λ file e. absurd cc }
  where
    same_status : (other : ℕ) → mounts.Refused status ≡ mounts.Refused other → status ≡ other
    same_status other e = cc

handle_given : (c : Config) (path : List ℕ) (export : ℕ) → IsMounted c path (record { 0 = handle export 1 }) → FitsGiven c path (Ok (record { 0 = handle export 1 }))
handle_given c path export m =
    record { is = handle_long export 1; of_proc = refl; some = λ status e. absurd cc; handle_is = λ file e. subst (IsMounted c path) (same_file file e) m }
  where
    same_file : (file : FHandle) → ◌≡◌ {A = Result FHandle ℕ} (Ok (record { 0 = handle export 1 })) (Ok file) → ◌≡◌ {A = FHandle} (record { 0 = handle export 1 }) file
    same_file file e = cc

pub exports_fit : (c : Config) (from : ℕ) (path : List ℕ) → FitsGiven c path (mnt_of (exports_of c) from path)
exports_fit c from path = of_root c.root refl
  where
    none : FitsGiven c path (Err 2)
    none = refused_given c path 2 (omega arith) (λ e. absurd (omega (arith, e)))

    owned : (b : Bool) (export : ℕ) → IsMounted c path (record { 0 = handle export 1 }) → FitsGiven c path (cond b (Ok (record { 0 = handle export 1 })) (Err 13))
    owned true export m = handle_given c path export m
    owned false export m = refused_given c path 13 (omega arith) (λ e. absurd (omega (arith, e)))

    at_swap : (line : SwapLine) → c.swap ≡ Some line → (b : Bool) → same line.path path ≡ b → FitsGiven c path (given_to from (cond b (Some (entry_of c 1 line.path)) None))
    at_swap line e true there = owned (c.client.ip == from) 1 (inr (line, e, (same_is_equal line.path path).0 there, refl))
    at_swap line e false there = none

    of_swap : (o : Option SwapLine) → c.swap ≡ o → FitsGiven c path (mnt_of (swap_export c o) from path)
    of_swap None e = none
    of_swap (Some line) e = at_swap line e (same line.path path) refl

    at_root : (own : List ℕ) → c.root ≡ Some own → (b : Bool) → same own path ≡ b
        → FitsGiven c path (given_to from (cond b (Some (entry_of c 0 own)) (export_of (swap_export c c.swap) path)))
    at_root own e true there = owned (c.client.ip == from) 0 (inl (e ∙ ap Some ((same_is_equal own path).0 there), refl))
    at_root own e false there = of_swap c.swap refl

    of_root : (o : Option (List ℕ)) → c.root ≡ o → FitsGiven c path (mnt_of (root_export c o ++ swap_export c c.swap) from path)
    of_root None e = of_swap c.swap refl
    of_root (Some own) e = at_root own e (same own path) refl

-- A handle that MNT told is that of what is exported there.
pub mounted_is : (c : Config) (caller : Caller) (dst : Addr) (path : List ℕ) (file : FHandle) → length caller.machine ≤ 255 → length path ≤ 1024 → IsServers c caller dst (ask.Mnt path) (Ok (answer.Given file)) → IsMounted c path file
mounted_is c caller dst path file machine few said =
    let s = works c caller dst (ask.Mnt path) (Ok (answer.Given file)) (λ o given verdict. never_mounts caller.machine caller.next_xid dst dst.ip path o (answer.Given file) machine given verdict) said in
    let fits = exports_fit c caller.ip path in
    let told = mnt_says c s.part caller.ip dst.port caller.machine caller.next_xid dst dst.ip path s.outcome (answer.Given file) machine few fits.is fits.of_proc fits.some s.given s.verdict in
    fits.handle_is file (ok_is (mnt_of (exports_of c) caller.ip path) told)
  where
    ok_is : (r : Result FHandle ℕ) → answer.Given file ≡ mnt_told r → r ≡ Ok file
    ok_is (Ok other) e = ap Ok (same_file e)
      where
        same_file : answer.Given file ≡ answer.Given other → other ≡ file
        same_file e = cc
    ok_is (Err status) e = absurd cc
