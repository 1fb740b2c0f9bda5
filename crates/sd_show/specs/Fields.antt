-- The fields of arguments and results: NAME=VALUE, in the order of the message.
use Rattle.std.specs.Prelude.{ℕ, ◌++◌, codes}
use Rattle.sd_xdr.specs.Kind.{any, flag, between, fixed, upto, no_limit, part, Kind, void, ◌&◌, given, where_zero}
use Rattle.sd_show.specs.declared.fields.Field.{Field}
use Rattle.sd_show.specs.declared.fields.Field.TheVariants as fields
use Rattle.sd_text.specs.Texts.{Text}
use Rattle.sd_text.specs.Kind as texts
use Rattle.sd_show.specs.Forms.{Form, as_number, as_ip, as_run, as_quoted, ◌⊞◌, in_parens, in_brackets, form_kind, text_kind}

-- what stands before the `=` of a field
abbrev pub field_name : Field → Text
field_name fields.Address = codes "address"
field_name fields.Args = codes "args"
field_name fields.Attr = codes "attr"
field_name fields.Bavail = codes "bavail"
field_name fields.Begin = codes "begin"
field_name fields.Bfree = codes "bfree"
field_name fields.Blocks = codes "blocks"
field_name fields.Bsize = codes "bsize"
field_name fields.Bytes = codes "bytes"
field_name fields.Client = codes "client"
field_name fields.Cookie = codes "cookie"
field_name fields.Count = codes "count"
field_name fields.Dir = codes "dir"
field_name fields.Domain = codes "domain"
field_name fields.Entries = codes "entries"
field_name fields.Eof = codes "eof"
field_name fields.Exports = codes "exports"
field_name fields.File = codes "file"
field_name fields.From = codes "from"
field_name fields.Key = codes "key"
field_name fields.Maps = codes "maps"
field_name fields.Mounts = codes "mounts"
field_name fields.Named = codes "name"
field_name fields.Offset = codes "offset"
field_name fields.Ok = codes "ok"
field_name fields.Path = codes "path"
field_name fields.Port = codes "port"
field_name fields.PortAnswer = codes "port"
field_name fields.Proc = codes "proc"
field_name fields.Prog = codes "prog"
field_name fields.Prot = codes "prot"
field_name fields.Results = codes "results"
field_name fields.Router = codes "router"
field_name fields.Server = codes "server"
field_name fields.Set = codes "set"
field_name fields.Status = codes "status"
field_name fields.ToDir = codes "to_dir"
field_name fields.ToName = codes "to_name"
field_name fields.Total = codes "total"
field_name fields.Tsize = codes "tsize"
field_name fields.Vers = codes "vers"

-- unsigned words, names, paths, file handles and cookies
abbrev pub u : Form
u = as_number any

abbrev pub t255 : Form
t255 = as_quoted 255

abbrev pub t1024 : Form
t1024 = as_quoted 1024

abbrev pub fh : Form
fh = as_run (fixed 32)

abbrev pub f4 : Form
f4 = as_run (fixed 4)

-- the form of what stands behind it
abbrev pub field_form : Field → Form
field_form fields.Address = as_ip
field_form fields.Args = as_run (upto no_limit)
-- kind, mode, nlink, uid, gid, size, blocksize, rdev, blocks, fsid, fileid, and the seconds and microseconds of atime, mtime, ctime
field_form fields.Attr = in_parens (u ⊞ u ⊞ u ⊞ u ⊞ u ⊞ u ⊞ u ⊞ u ⊞ u ⊞ u ⊞ u ⊞ u ⊞ u ⊞ u ⊞ u ⊞ u ⊞ u)
field_form fields.Bavail = u
field_form fields.Begin = u
field_form fields.Bfree = u
field_form fields.Blocks = u
field_form fields.Bsize = u
field_form fields.Bytes = as_run (upto 8192)
field_form fields.Client = t255
field_form fields.Cookie = f4
field_form fields.Count = u
field_form fields.Dir = fh
field_form fields.Domain = t255
-- fileid, name, cookie
field_form fields.Entries = in_brackets (in_parens (u ⊞ t255 ⊞ f4))
field_form fields.Eof = as_number flag
-- path, groups
field_form fields.Exports = in_brackets (in_parens (t1024 ⊞ in_brackets t255))
field_form fields.File = fh
field_form fields.From = fh
field_form fields.Key = as_quoted 32
-- prog, vers, prot, port
field_form fields.Maps = in_brackets (in_parens (u ⊞ u ⊞ u ⊞ u))
-- host, path
field_form fields.Mounts = in_brackets (in_parens (t255 ⊞ t1024))
field_form fields.Named = t255
field_form fields.Offset = u
field_form fields.Ok = as_number flag
field_form fields.Path = t1024
field_form fields.Port = u
-- a port that is answered is one of UDP or TCP
field_form fields.PortAnswer = as_number (between 0 65535)
field_form fields.Proc = u
field_form fields.Prog = u
field_form fields.Prot = u
field_form fields.Results = as_run (upto no_limit)
field_form fields.Router = as_ip
field_form fields.Server = t255
-- mode, uid, gid, size, and the seconds and microseconds of atime and mtime
field_form fields.Set = in_parens (u ⊞ u ⊞ u ⊞ u ⊞ u ⊞ u ⊞ u ⊞ u)
field_form fields.Status = u
field_form fields.ToDir = fh
field_form fields.ToName = t255
field_form fields.Total = u
field_form fields.Tsize = u
field_form fields.Vers = u

infixr 5 ◌⊕◌
pub data Fields : Type 0 where
  nothing : Fields
  field : Field → Fields
  -- the one and then the other
  ◌⊕◌ : Fields → Fields → Fields
  -- those of a variant, whose number is known without the bytes
  numbered : ℕ → Fields → Fields
  -- a status, and these where it is 0
  checked : Fields → Fields

-- the kind of the messages that have these fields
abbrev pub fields_kind : Fields → Kind part
fields_kind nothing = void
fields_kind (field f) = form_kind (field_form f)
fields_kind (A ⊕ B) = fields_kind A & fields_kind B
fields_kind (numbered n A) = given n (fields_kind A)
fields_kind (checked A) = where_zero (fields_kind A)

-- the kind of their texts: a space, NAME=VALUE, and so on
abbrev pub fields_text : Fields → texts.Kind
fields_text nothing = texts.void
fields_text (field f) = texts.said (codes " " ++ (field_name f ++ codes "=")) (text_kind (field_form f))
fields_text (A ⊕ B) = texts.◌&◌ (fields_text A) (fields_text B)
fields_text (numbered n A) = texts.given n (fields_text A)
fields_text (checked A) = texts.said (codes " " ++ (field_name fields.Status ++ codes "=")) (texts.where_zero (fields_text A))
