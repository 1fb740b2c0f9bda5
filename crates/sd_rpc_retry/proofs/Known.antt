-- What the readers of messages answer is what the bytes spell.
use Rattle.std.proofs.Common.{◌≡◌, ℕ, List, Option, Some, None, Result, Ok, Err, sym, ap, subst, ◌∙◌}
use Rattle.std.specs.Option.{option_map}
use Rattle.sd_xdr.specs.declared.error.MsgError.{MsgError}
use Rattle.sd_xdr.specs.declared.error.MsgError.TheVariants.{Xdr, RpcVersion, AuthLong, NoMemory}
use Rattle.sd_xdr.specs.Kind.{whole, Kind, Value}
use Rattle.sd_xdr.specs.Grammar.{Refuses, Answers}
use Rattle.sd_xdr.proofs.Again.{refuses_again}
use Rattle.std.specs.Prelude.{IfSome}
use Rattle.sd_rpc_msg.specs.declared.message.Message.{Message}
use Rattle.sd_rpc_msg.specs.Layout.{message, message_value}
use Rattle.sd_rpc_msg.specs.Laws.{IsMessage}
use Rattle.sd_rpc_msg.proofs.Told.{one_spelling_of}
use Rattle.sd_services.specs.RpcCalls.{value_read, spelled}
use Rattle.sd_services.proofs.Spelled.{spelled_some}
use Rattle.sd_rpc_retry.specs.Reading.{IsKnown}

pub spelled_none : (K : Kind whole) (bs : List ℕ) (why : MsgError) → Refuses whole K 0 bs why → spelled K bs ≡ None
spelled_none K bs why h = ap value_read (refuses_again whole K 0 bs why h)

pub known_says : {X : Type 0} (K : Kind whole) (view : X → Value) (bs : List ℕ) (read : Result X MsgError) (known : Option X) → Answers K view bs read → IsKnown read known → option_map view known ≡ spelled K bs
known_says K view bs (Ok x) known h is = ap (option_map view) is ∙ sym (spelled_some K bs (view x) h)
known_says K view bs (Err (Xdr why)) known h is = ap (option_map view) is ∙ sym (spelled_none K bs (Xdr why) h)
known_says K view bs (Err (RpcVersion xid got)) known h is = ap (option_map view) is ∙ sym (spelled_none K bs (RpcVersion xid got) h)
known_says K view bs (Err (AuthLong at len)) known h is = ap (option_map view) is ∙ sym (spelled_none K bs (AuthLong at len) h)
known_says K view bs (Err NoMemory) known h is = absurd is

-- a message that was read keeps the rules of messages
pub known_is_message : (bs : List ℕ) (read : Result Message MsgError) (known : Option Message) → Answers message message_value bs read → IsKnown read known → IfSome known IsMessage
known_is_message bs (Ok m) known h is = subst (λ (k : Option Message). IfSome k IsMessage) (sym is) (one_spelling_of m bs h).1
known_is_message bs (Err (Xdr why)) known h is = subst (λ (k : Option Message). IfSome k IsMessage) (sym is) tt
known_is_message bs (Err (RpcVersion xid got)) known h is = subst (λ (k : Option Message). IfSome k IsMessage) (sym is) tt
known_is_message bs (Err (AuthLong at len)) known h is = subst (λ (k : Option Message). IfSome k IsMessage) (sym is) tt
known_is_message bs (Err NoMemory) known h is = absurd is
