-- What the tables answer, by the lists that they stand for.
use Rattle.std.specs.Prelude.{◌≡◌, ℕ, ◌==◌, ◌&&◌, if◌then◌else◌, List, ◌∷◌, ◌++◌, Option, Some, None}
use denote.Ref.{Bor}
use Rattle.std.specs.List.{find}
use Rattle.std.specs.Option.{option_map}
use Rattle.sd_bootparams.specs.declared.params.Entry.{Entry}
use Rattle.sd_bootparams.specs.Contents.{Contents}
use Rattle.sd_bootparams.specs.declared.book.Host.{Host}
use Rattle.sd_bootparams.specs.BookView.{BookView}
use Rattle.sd_bootparams.specs.File.{Text, same, has_client, IsFile}

-- the entry of this client and key
abbrev pub entry_of : Contents → Text → Text → Option Entry
entry_of params client key = find (λ e. same e.client client && same e.key key) params.entries

-- the address of the first machine with this name
abbrev pub address_of : List Host → Text → Option ℕ
address_of hosts name = option_map (λ h. h.ip) (find (λ h. same h.name name) hosts)

-- the name of the first machine with this address
abbrev pub name_of : List Host → ℕ → Option Text
name_of hosts ip = option_map (λ h. h.name) (find (λ h. h.ip == ip) hosts)

-- the server and the path
abbrev pub place_in : Entry → Text × Text
place_in e = (e.server, e.path)

-- the client of this name, its domain and its router, where it has a line
abbrev pub client_named : BookView → Option Text → Option (Text × Text × ℕ)
client_named book None = None
client_named book (Some name) = if has_client book.contents name then Some (name, book.domain, book.router) else None

abbrev pub whoami_of : BookView → ℕ → Option (Text × Text × ℕ)
whoami_of book ip = client_named book (name_of book.hosts ip)

-- the server, its address and the path, where the address is known
abbrev pub file_at : Entry → Option ℕ → Option (Text × ℕ × Text)
file_at e None = None
file_at e (Some ip) = Some (e.server, ip, e.path)

abbrev pub file_of : List Host → Option Entry → Option (Text × ℕ × Text)
file_of hosts None = None
file_of hosts (Some e) = file_at e (address_of hosts e.server)

abbrev pub getfile_of : BookView → Text → Text → Option (Text × ℕ × Text)
getfile_of book client key = file_of book.hosts (entry_of book.contents client key)

-- what slices show
abbrev pub shown : Option (Bor Text) → Option Text
shown None = None
shown (Some x) = Some x.now

abbrev pub shown_pair : Option (Bor Text × Bor Text) → Option (Text × Text)
shown_pair None = None
shown_pair (Some x) = Some (x.0.now, x.1.now)

abbrev pub shown_client : Option (Bor Text × Bor Text × ℕ) → Option (Text × Text × ℕ)
shown_client None = None
shown_client (Some x) = Some (x.0.now, x.1.now, x.2)

abbrev pub shown_file : Option (Bor Text × ℕ × Bor Text) → Option (Text × ℕ × Text)
shown_file None = None
shown_file (Some x) = Some (x.0.now, x.1, x.2.now)

-- Each entry of a file is the one that is found.
abbrev pub EntriesAreFound : Type 0
EntriesAreFound = (text : Text) (params : Contents) (before : List Entry) (e : Entry) (after : List Entry) → IsFile text params → params.entries ≡ before ++ (e ∷ after) → entry_of params e.client e.key ≡ Some e
