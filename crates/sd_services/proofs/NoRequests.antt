-- A block, an ACK and an ERROR are read as no request for a file.
use Rattle.std.proofs.Common.{◌≡◌, ℕ, ◌+◌, ◌*◌, Bool, true, false, cond, ltb, eqb, List, [], ◌∷◌, ◌++◌, length, drop, Result, Ok, Err, sym, ◌∙◌, ap, arith}
use Rattle.std.proofs.lemmas.Bool.{le-ltb}
use Rattle.sd_tftp.specs.declared.packet.TftpPacket.{TftpPacket}
use Rattle.sd_tftp.specs.declared.packet.TftpPacket.TheVariants.{Rrq, Wrq, Block, Ack, Error}
use Rattle.sd_tftp.specs.declared.packet.TftpError.{TftpError}
use Rattle.sd_tftp.specs.declared.packet.TftpError.TheVariants.{Short, Opcode, DataLong, Tail}
use Rattle.sd_tftp.specs.Grammar.{word, packet_bytes}
use Rattle.sd_tftp.specs.Reading.{◌>>=◌, half, text_at, request, block, ack, fault, reading}

abbrev Read : Type 0
Read = Result TftpPacket TftpError

-- no request for a file was read
abbrev AsksNot : Read → Type 0
AsksNot r = (name mode : List ℕ) → r ≡ Ok (Rrq name mode) → ⊥

-- what is read after the opcode
abbrev by_code : ℕ → List ℕ → Read
by_code op bs =
    cond (eqb op 1) (request Rrq bs) (cond (eqb op 2) (request Wrq bs) (cond (eqb op 3) (block bs) (cond (eqb op 4) (ack bs) (cond (eqb op 5) (fault bs) (Err (Opcode op))))))

opened : (op : ℕ) (rest : List ℕ) → reading (0 ∷ op ∷ rest) ≡ by_code (256 * 0 + op) (0 ∷ op ∷ rest)
unfolding reading
opened op rest = ap (λ (u : Bool). cond u (Err (Short 0)) (by_code (256 * 0 + op) (0 ∷ op ∷ rest))) (le-ltb (length (0 ∷ op ∷ rest)) 2 (omega arith))

not_asked : (r q : Read) → r ≡ q → AsksNot q → AsksNot r
not_asked r q e n name mode is = n name mode (sym e ∙ is)

block_not : (bs : List ℕ) → AsksNot (block bs)
block_not bs = of (ltb (length bs) 4) (ltb 512 (length (drop 4 bs)))
  where
    of : (u v : Bool) → AsksNot (cond u (Err (Short 2)) (cond v (Err (DataLong (length (drop 4 bs)))) (Ok (Block (half 2 bs) (drop 4 bs)))))
    of true v name mode e = absurd (cc)
    of false true name mode e = absurd (cc)
    of false false name mode e = absurd (cc)

ack_not : (bs : List ℕ) → AsksNot (ack bs)
ack_not bs = of (ltb (length bs) 4) (ltb 4 (length bs))
  where
    of : (u v : Bool) → AsksNot (cond u (Err (Short 2)) (cond v (Err (Tail 4)) (Ok (Ack (half 2 bs)))))
    of true v name mode e = absurd (cc)
    of false true name mode e = absurd (cc)
    of false false name mode e = absurd (cc)

abbrev faulted : List ℕ → List ℕ × ℕ → Read
faulted bs message = cond (ltb message.1 (length bs)) (Err (Tail message.1)) (Ok (Error (half 2 bs) message.0))

faulted_not : (bs : List ℕ) (message : List ℕ × ℕ) → AsksNot (faulted bs message)
faulted_not bs message = of (ltb message.1 (length bs))
  where
    of : (u : Bool) → AsksNot (cond u (Err (Tail message.1)) (Ok (Error (half 2 bs) message.0)))
    of true name mode e = absurd (cc)
    of false name mode e = absurd (cc)

fault_not : (bs : List ℕ) → AsksNot (fault bs)
fault_not bs = of (ltb (length bs) 4) (text_at bs 4)
  where
    of : (u : Bool) (t : Result (List ℕ × ℕ) TftpError) → AsksNot (cond u (Err (Short 2)) (t >>= (λ message. faulted bs message)))
    of true t name mode e = absurd (cc)
    of false (Err why) name mode e = absurd (cc)
    of false (Ok message) name mode e = faulted_not bs message name mode e

-- a block
pub block_asks_not : (n : ℕ) (body : List ℕ) (name mode : List ℕ) → reading (packet_bytes (Block n body)) ≡ Ok (Rrq name mode) → ⊥
block_asks_not n body = not_asked (reading (packet_bytes (Block n body))) (block (packet_bytes (Block n body))) (opened 3 (word n ++ body)) (block_not (packet_bytes (Block n body)))

-- an ACK
pub ack_asks_not : (n : ℕ) (name mode : List ℕ) → reading (packet_bytes (Ack n)) ≡ Ok (Rrq name mode) → ⊥
ack_asks_not n = not_asked (reading (packet_bytes (Ack n))) (ack (packet_bytes (Ack n))) (opened 4 (word n)) (ack_not (packet_bytes (Ack n)))

-- an ERROR
pub error_asks_not : (n : ℕ) (message : List ℕ) (name mode : List ℕ) → reading (packet_bytes (Error n message)) ≡ Ok (Rrq name mode) → ⊥
error_asks_not n message = not_asked (reading (packet_bytes (Error n message))) (fault (packet_bytes (Error n message))) (opened 5 (word n ++ (message ++ 0 ∷ []))) (fault_not (packet_bytes (Error n message)))
