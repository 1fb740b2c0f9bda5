-- Each procedure that is known by name has its own numbers, and its own text.
use Rattle.std.proofs.Common.{◌≡◌, ℕ, ◌+◌, ◌*◌, ◌<◌, false, get_or, refl, sym, ap, ◌∙◌, cond, eqb, arith}
use Rattle.sd_text.specs.Texts.{Text}
use Rattle.sd_show.specs.declared.procedures.Procedure.{Procedure}
use Rattle.sd_show.specs.declared.procedures.Known.{Known}
use Rattle.sd_show.specs.declared.procedures.Known.TheVariants as known
use Rattle.sd_show.specs.Programs.{numbers, known_text}

-- ---- by the numbers

-- by the number of a procedure of pmap
abbrev pmap_at : ℕ → Known
pmap_at n = cond (eqb n 0) known.PmapNull (cond (eqb n 1) known.PmapSet (cond (eqb n 2) known.PmapUnset (cond (eqb n 3) known.PmapGetport (cond (eqb n 4) known.PmapDump known.PmapCallit))))

-- by the number of a procedure of bootparam
abbrev bootparam_at : ℕ → Known
bootparam_at n = cond (eqb n 0) known.BootparamNull (cond (eqb n 1) known.BootparamWhoami known.BootparamGetfile)

-- by the number of a procedure of mount
abbrev mount_at : ℕ → Known
mount_at n = cond (eqb n 0) known.MountNull (cond (eqb n 1) known.MountMnt (cond (eqb n 2) known.MountDump (cond (eqb n 3) known.MountUmnt (cond (eqb n 4) known.MountUmntall known.MountExport))))

-- by the number of a procedure of nfs
abbrev nfs_at : ℕ → Known
nfs_at n = cond (eqb n 0) known.NfsNull (cond (eqb n 1) known.NfsGetattr (cond (eqb n 2) known.NfsSetattr (cond (eqb n 4) known.NfsLookup (cond (eqb n 5) known.NfsReadlink (cond (eqb n 6) known.NfsRead (cond (eqb n 8) known.NfsWrite (cond (eqb n 9) known.NfsCreate (cond (eqb n 10) known.NfsRemove (cond (eqb n 11) known.NfsRename (cond (eqb n 12) known.NfsLink (cond (eqb n 13) known.NfsSymlink (cond (eqb n 14) known.NfsMkdir (cond (eqb n 15) known.NfsRmdir (cond (eqb n 16) known.NfsReaddir known.NfsStatfs))))))))))))))

abbrev known_at : ℕ → ℕ → Known
known_at prog n = cond (eqb prog 100000) (pmap_at n) (cond (eqb prog 100026) (bootparam_at n) (cond (eqb prog 100005) (mount_at n) (nfs_at n)))

known_again : (k : Known) → known_at (numbers k).prog (numbers k).proc_no ≡ k
known_again known.PmapNull = refl
known_again known.PmapSet = refl
known_again known.PmapUnset = refl
known_again known.PmapGetport = refl
known_again known.PmapDump = refl
known_again known.PmapCallit = refl
known_again known.BootparamNull = refl
known_again known.BootparamWhoami = refl
known_again known.BootparamGetfile = refl
known_again known.MountNull = refl
known_again known.MountMnt = refl
known_again known.MountDump = refl
known_again known.MountUmnt = refl
known_again known.MountUmntall = refl
known_again known.MountExport = refl
known_again known.NfsNull = refl
known_again known.NfsGetattr = refl
known_again known.NfsSetattr = refl
known_again known.NfsLookup = refl
known_again known.NfsReadlink = refl
known_again known.NfsRead = refl
known_again known.NfsWrite = refl
known_again known.NfsCreate = refl
known_again known.NfsRemove = refl
known_again known.NfsRename = refl
known_again known.NfsLink = refl
known_again known.NfsSymlink = refl
known_again known.NfsMkdir = refl
known_again known.NfsRmdir = refl
known_again known.NfsReaddir = refl
known_again known.NfsStatfs = refl

pub one_known : (j k : Known) → numbers j ≡ numbers k → j ≡ k
one_known j k e = sym (known_again j) ∙ ap (λ (p : Procedure). known_at p.prog p.proc_no) e ∙ known_again k

-- ---- by the text

-- the bytes that tell the texts apart, as a number
abbrev mark : Text → ℕ
mark t = ((get_or t 4 0) * 256 + get_or t 8 0) * 256 + get_or t 10 0

abbrev marked : ℕ → Known
marked n = cond (eqb n 3042304) known.PmapNull (cond (eqb n 3014656) known.PmapSet (cond (eqb n 3040512) known.PmapUnset (cond (eqb n 3043442) known.PmapGetport (cond (eqb n 3043328) known.PmapDump (cond (eqb n 3042420) known.PmapCallit (cond (eqb n 7368046) known.BootparamNull (cond (eqb n 7368055) known.BootparamWhoami (cond (eqb n 7368039) known.BootparamGetfile (cond (eqb n 7629824) known.MountNull (cond (eqb n 7631872) known.MountMnt (cond (eqb n 7630080) known.MountDump (cond (eqb n 7630336) known.MountUmnt (cond (eqb n 7630433) known.MountUmntall (cond (eqb n 7630962) known.MountExport (cond (eqb n 7208960) known.NfsNull (cond (eqb n 6780018) known.NfsGetattr (cond (eqb n 7566450) known.NfsSetattr (cond (eqb n 7107840) known.NfsLookup (cond (eqb n 7498862) known.NfsReadlink (cond (eqb n 7471104) known.NfsRead (cond (eqb n 7824640) known.NfsWrite (cond (eqb n 6517760) known.NfsCreate (cond (eqb n 7501312) known.NfsRemove (cond (eqb n 7499008) known.NfsRename (cond (eqb n 7077888) known.NfsLink (cond (eqb n 7563627) known.NfsSymlink (cond (eqb n 7172608) known.NfsMkdir (cond (eqb n 7500288) known.NfsRmdir (cond (eqb n 7496818) known.NfsReaddir known.NfsStatfs)))))))))))))))))))))))))))))

marked_again : (k : Known) → marked (mark (known_text k)) ≡ k
marked_again known.PmapNull = refl
marked_again known.PmapSet = refl
marked_again known.PmapUnset = refl
marked_again known.PmapGetport = refl
marked_again known.PmapDump = refl
marked_again known.PmapCallit = refl
marked_again known.BootparamNull = refl
marked_again known.BootparamWhoami = refl
marked_again known.BootparamGetfile = refl
marked_again known.MountNull = refl
marked_again known.MountMnt = refl
marked_again known.MountDump = refl
marked_again known.MountUmnt = refl
marked_again known.MountUmntall = refl
marked_again known.MountExport = refl
marked_again known.NfsNull = refl
marked_again known.NfsGetattr = refl
marked_again known.NfsSetattr = refl
marked_again known.NfsLookup = refl
marked_again known.NfsReadlink = refl
marked_again known.NfsRead = refl
marked_again known.NfsWrite = refl
marked_again known.NfsCreate = refl
marked_again known.NfsRemove = refl
marked_again known.NfsRename = refl
marked_again known.NfsLink = refl
marked_again known.NfsSymlink = refl
marked_again known.NfsMkdir = refl
marked_again known.NfsRmdir = refl
marked_again known.NfsReaddir = refl
marked_again known.NfsStatfs = refl

pub one_known_text : (j k : Known) → known_text j ≡ known_text k → j ≡ k
one_known_text j k e = sym (marked_again j) ∙ ap (λ (t : Text). marked (mark t)) e ∙ marked_again k

-- ---- by the first letters

-- what the second letter of the first word says of an outcome: 1 rpcmismatch, 2 autherror, and 0 a call that was done
abbrev pub second_tag : ℕ → ℕ
second_tag b = cond (eqb b 112) 1 (cond (eqb b 117) 2 0)

pub record KnownBegins (k : Known) : Type 0 where
  pub letter : 57 < get_or (known_text k) 0 0
  pub not_raw : eqb (get_or (known_text k) 0 0) 114 ≡ false
  pub no_verf : eqb (get_or (known_text k) 1 0) 101 ≡ false
  pub tag : second_tag (get_or (known_text k) 1 0) ≡ 0

pub known_begins : (k : Known) → KnownBegins k
known_begins known.PmapNull = record { letter = omega arith; not_raw = refl; no_verf = refl; tag = refl }
known_begins known.PmapSet = record { letter = omega arith; not_raw = refl; no_verf = refl; tag = refl }
known_begins known.PmapUnset = record { letter = omega arith; not_raw = refl; no_verf = refl; tag = refl }
known_begins known.PmapGetport = record { letter = omega arith; not_raw = refl; no_verf = refl; tag = refl }
known_begins known.PmapDump = record { letter = omega arith; not_raw = refl; no_verf = refl; tag = refl }
known_begins known.PmapCallit = record { letter = omega arith; not_raw = refl; no_verf = refl; tag = refl }
known_begins known.BootparamNull = record { letter = omega arith; not_raw = refl; no_verf = refl; tag = refl }
known_begins known.BootparamWhoami = record { letter = omega arith; not_raw = refl; no_verf = refl; tag = refl }
known_begins known.BootparamGetfile = record { letter = omega arith; not_raw = refl; no_verf = refl; tag = refl }
known_begins known.MountNull = record { letter = omega arith; not_raw = refl; no_verf = refl; tag = refl }
known_begins known.MountMnt = record { letter = omega arith; not_raw = refl; no_verf = refl; tag = refl }
known_begins known.MountDump = record { letter = omega arith; not_raw = refl; no_verf = refl; tag = refl }
known_begins known.MountUmnt = record { letter = omega arith; not_raw = refl; no_verf = refl; tag = refl }
known_begins known.MountUmntall = record { letter = omega arith; not_raw = refl; no_verf = refl; tag = refl }
known_begins known.MountExport = record { letter = omega arith; not_raw = refl; no_verf = refl; tag = refl }
known_begins known.NfsNull = record { letter = omega arith; not_raw = refl; no_verf = refl; tag = refl }
known_begins known.NfsGetattr = record { letter = omega arith; not_raw = refl; no_verf = refl; tag = refl }
known_begins known.NfsSetattr = record { letter = omega arith; not_raw = refl; no_verf = refl; tag = refl }
known_begins known.NfsLookup = record { letter = omega arith; not_raw = refl; no_verf = refl; tag = refl }
known_begins known.NfsReadlink = record { letter = omega arith; not_raw = refl; no_verf = refl; tag = refl }
known_begins known.NfsRead = record { letter = omega arith; not_raw = refl; no_verf = refl; tag = refl }
known_begins known.NfsWrite = record { letter = omega arith; not_raw = refl; no_verf = refl; tag = refl }
known_begins known.NfsCreate = record { letter = omega arith; not_raw = refl; no_verf = refl; tag = refl }
known_begins known.NfsRemove = record { letter = omega arith; not_raw = refl; no_verf = refl; tag = refl }
known_begins known.NfsRename = record { letter = omega arith; not_raw = refl; no_verf = refl; tag = refl }
known_begins known.NfsLink = record { letter = omega arith; not_raw = refl; no_verf = refl; tag = refl }
known_begins known.NfsSymlink = record { letter = omega arith; not_raw = refl; no_verf = refl; tag = refl }
known_begins known.NfsMkdir = record { letter = omega arith; not_raw = refl; no_verf = refl; tag = refl }
known_begins known.NfsRmdir = record { letter = omega arith; not_raw = refl; no_verf = refl; tag = refl }
known_begins known.NfsReaddir = record { letter = omega arith; not_raw = refl; no_verf = refl; tag = refl }
known_begins known.NfsStatfs = record { letter = omega arith; not_raw = refl; no_verf = refl; tag = refl }
