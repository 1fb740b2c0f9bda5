-- Words for the functions that write the text of a packet.
use Rattle.std.specs.Prelude.{◌≡◌, ℕ, ◌+◌, ◌<◌, ◌^◌, ◌⊎◌, List, ◌++◌, codes, length, Option, Some, None}
use Rattle.sd_outside.specs.declared.packet.Addr.{Addr}
use Rattle.sd_rpc_msg.specs.declared.message.Outcome.{Outcome}
use Rattle.sd_rpc_msg.specs.declared.message.Outcome.TheVariants.{Success, ProgUnavail, ProgMismatch, ProcUnavail, GarbageArgs, RpcMismatch, AuthError}
use Rattle.sd_rpc_msg.specs.declared.message.Message.{Message}
use Rattle.sd_rpc_msg.specs.declared.message.Message.TheVariants.{Asked, Answered}
use Rattle.sd_text.specs.Kind.{addr, addr_value}
use Rattle.sd_text.specs.Grammar.{writes}
use Rattle.sd_show.specs.declared.error.ShowError.{ShowError}
use Rattle.sd_show.specs.declared.error.ShowError.TheVariants.{Bad, NoMemory}
use Rattle.sd_show.specs.declared.procedures.Procedure.{Procedure}
use Rattle.sd_show.specs.declared.procedures.Known.{Known}
use Rattle.sd_show.specs.declared.calls.Heard.{Heard}
use Rattle.sd_show.specs.Programs.{numbers, IsUnknown}
use Rattle.sd_show.specs.Calls.{answered}
use Rattle.sd_show.specs.Refused.{IsNoFile, IsNoMessage, HasNoBody}

-- what refusals say; out of memory says nothing
abbrev pub IsFileRefused : Addr → Addr → List ℕ → ShowError → Type 0
IsFileRefused src dst content (Bad word at) = IsNoFile src dst content (Bad word at)
IsFileRefused src dst content NoMemory = Unit {0}

abbrev pub IsMessageNotShown : List Heard → Addr → Addr → List ℕ → ShowError → Type 0
IsMessageNotShown seen src dst content (Bad word at) = IsNoMessage src dst content (Bad word at) ⊎ HasNoBody seen src dst content (Bad word at)
IsMessageNotShown seen src dst content NoMemory = Unit {0}

-- the procedure that the call of a reply asked for, where that is known by name
abbrev pub IsKnownOf : Option Procedure → Option Known → Type 0
IsKnownOf None asked = asked ≡ None
IsKnownOf (Some p) (Some k) = numbers k ≡ p
IsKnownOf (Some p) None = IsUnknown p

abbrev pub IsAskedOf : List Heard → Addr → Addr → Message → Option Known → Type 0
IsAskedOf seen src dst (Asked c) asked = asked ≡ None
IsAskedOf seen src dst (Answered r) asked = IsKnownOf (answered r.xid src dst seen) asked

-- how many bytes of a message are arguments or results, which are its last
abbrev pub results_length : Outcome → ℕ
results_length (Success verf bs) = length bs
results_length (ProgUnavail verf) = 0
results_length (ProgMismatch verf low high) = 0
results_length (ProcUnavail verf) = 0
results_length (GarbageArgs verf) = 0
results_length (RpcMismatch low high) = 0
results_length (AuthError stat) = 0

abbrev pub content_length : Message → ℕ
content_length (Asked c) = length c.args
content_length (Answered r) = results_length r.outcome

-- the same refusal, whose place is counted from so many bytes earlier
abbrev pub moved : ℕ → ShowError → ShowError
moved by (Bad word at) = Bad word (at + by)
moved by NoMemory = NoMemory

abbrev pub PlaceFits : ℕ → ShowError → Type 0
PlaceFits by (Bad word at) = at + by < 2 ^ 64
PlaceFits by NoMemory = Unit {0}

-- udp ADDR ADDR, and a space
abbrev pub datagram_head : Addr → Addr → List ℕ
datagram_head src dst = codes "udp " ++ (writes addr (addr_value src) ++ (codes " " ++ (writes addr (addr_value dst) ++ codes " ")))
