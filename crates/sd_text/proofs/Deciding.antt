-- What can be decided: texts of single values, byte runs, addresses, and lines of packets.
use Rattle.std.proofs.Common.{◌≡◌, ◌⊎◌, ℕ, zero, suc, ◌+◌, ◌*◌, ◌/◌, ◌%◌, ◌<◌, ◌≤◌, ◌^◌, Bool, true, false, List, [], ◌∷◌, length, map, Option, Some, None, refl, sym, ap, subst, ◌∙◌, arith, inl, inr, IfSome, codes}
use Rattle.std.specs.List.{All, AllPass, list_all}
use Rattle.std.specs.Fmt.{decimal}
use Rattle.std.specs.Int.{w32, to_be_bytes}
use Rattle.std.proofs.lemmas.Bool.{cases_Bool, cases_eq, cases_lt, false≢true}
use Rattle.std.proofs.lemmas.List.Elements.{All-nil, All-cons, All-head, All-tail}
use Rattle.std.proofs.lemmas.List.Sums.{AllPass-from_list_all, list_all-from_AllPass}
use Rattle.hex.proofs.HexLemmas.{decode_of-ok, decode_of-encode_lower}
use Rattle.hex.specs.Hex.{decode_of}
use Rattle.sd_outside.specs.declared.packet.Mac.{Mac}
use Rattle.sd_outside.specs.declared.packet.Addr.{Addr}
use Rattle.sd_outside.specs.declared.packet.Packet.{Packet}
use Rattle.sd_outside.specs.declared.packet.Packet.TheVariants.{Frame, Udp}
use Rattle.sd_xdr.specs.Kind.{Value, number}
use Rattle.sd_text.specs.Texts.{Text, cut, fields, IsNumber, IsMac, IsIp, IsAddr}
use Rattle.sd_text.specs.Runs.{IsRunsWithin}
use Rattle.sd_text.specs.Packets.{IsFrameLine, IsUdpLine, IsPacketLine}
use Rattle.sd_text.specs.Kind.{same}
use Rattle.sd_text.specs.Grammar.{number_value, pairs_value, run_value}
use Rattle.sd_text.proofs.Exits.{firsts, others}
use Rattle.sd_text.proofs.Leading.{same_is}
use Rattle.sd_text.proofs.Meanings.{same_self, number_is, is_number, pairs_is, is_pairs}
use Rattle.sd_text.proofs.NumberLemmas.{one_number}
use Rattle.sd_text.proofs.RunWords.{run_is, is_run}

-- it holds or doesn't
abbrev pub Settled : Type 0 → Type 0
Settled P = P ⊎ (P → ⊥)

-- there is one with the property, or none
abbrev pub Way : {X : Type 0} → (X → Type 0) → Type 0
Way {X} P = ((x : X) × P x) ⊎ ((x : X) → P x → ⊥)

pub both : {P Q : Type 0} → Settled P → Settled Q → Settled (P × Q)
both (inl p) (inl q) = inl (p, q)
both (inl p) (inr q) = inr (λ h. q h.1)
both (inr p) q = inr (λ h. p h.0)

pub either : {P Q : Type 0} → Settled P → Settled Q → Settled (P ⊎ Q)
either (inl p) q = inl (inl p)
either (inr p) (inl q) = inl (inr q)
either (inr p) (inr q) = inr (λ h. elim h [ inl x ↦ p x | inr y ↦ q y ])

pub not_so : {P : Type 0} → Settled P → Settled (P → ⊥)
not_so (inl p) = inr (λ h. h p)
not_so (inr p) = inl p

pub as_well : {P Q : Type 0} → (P → Q) → (Q → P) → Settled P → Settled Q
as_well to from (inl p) = inl (to p)
as_well to from (inr p) = inr (λ q. p (from q))

pub le_settled : (a b : ℕ) → Settled (a ≤ b)
le_settled a b = elim (cases_lt b a) [ inl lt ↦ inr (λ h. omega (arith, lt, h)) | inr le ↦ inl le ]

pub lt_settled : (a b : ℕ) → Settled (a < b)
lt_settled a b = elim (cases_lt a b) [ inl lt ↦ inl lt | inr le ↦ inr (λ h. omega (arith, le, h)) ]

pub text_settled : (s t : Text) → Settled (s ≡ t)
text_settled s t = elim (cases_Bool (same s t)) [
  | inl e ↦ inl (same_is s t e)
  | inr e ↦ inr (λ h. false≢true (sym e ∙ subst (λ (u : Text). same s u ≡ true) h (same_self s)))
]

pub all_settled : {X : Type 0} (P : X → Type 0) → ((x : X) → Settled (P x)) → (xs : List X) → Settled (All P xs)
all_settled P one [] = inl (All-nil P)
all_settled P one (x ∷ xs) = elim (one x) [
  | inl p ↦ elim (all_settled P one xs) [ inl ps ↦ inl (All-cons P x xs p ps) | inr more ↦ inr (λ h. more (All-tail P x xs h)) ]
  | inr first ↦ inr (λ h. first (All-head P x xs h))
]

pub pass_settled : (p : ℕ → Bool) (t : Text) → Settled (AllPass p t)
pass_settled p t = elim (cases_Bool (list_all p t)) [
  | inl e ↦ inl (AllPass-from_list_all p t e)
  | inr e ↦ inr (λ h. false≢true (sym e ∙ list_all-from_AllPass p t h))
]

pub some_settled : {X : Type 0} (P : X → Type 0) → ((x : X) → Settled (P x)) → (o : Option X) → Settled (IfSome o P)
some_settled P one None = inl tt
some_settled P one (Some x) = one x

pub none_settled : {X : Type 0} (o : Option X) → Settled (o ≡ None)
none_settled None = inl refl
none_settled (Some x) = inr (λ h. cc h)

pub empty_settled : (t : Text) → Settled (t ≡ [])
empty_settled [] = inl refl
empty_settled (b ∷ t) = inr (λ h. cc h)

-- ---- single values

widened : (low high : ℕ) (t : Text) (n : ℕ) → IsNumber low high t n → IsNumber low 18446744073709551615 t n
widened low high t n h = record { is = h.is; low = h.low; high = omega (arith, h.fits); fits = h.fits }

pub number_way : (low high : ℕ) (t : Text) → Way (IsNumber low high t)
number_way low high t = by_value (number_value low 18446744073709551615 t) refl
  where
    by_limit : (n : ℕ) → IsNumber low 18446744073709551615 t n → Settled (n ≤ high) → Way (IsNumber low high t)
    by_limit n h (inl le) = inl (n, record { is = h.is; low = h.low; high = le; fits = h.fits })
    by_limit n h (inr above) = inr (λ m k. above (subst (λ (j : ℕ). j ≤ high) (one_number low 18446744073709551615 t m n (widened low high t m k) h) k.high))

    by_value : (o : Option Value) → number_value low 18446744073709551615 t ≡ o → Way (IsNumber low high t)
    by_value (Some x) e = let i = is_number low 18446744073709551615 t x (omega arith) e in by_limit i.0 i.2 (le_settled i.0 high)
    by_value None e = inr (λ n h. differ n (sym e ∙ number_is low 18446744073709551615 t n (widened low high t n h)))
      where
        differ : (n : ℕ) → ◌≡◌ {A = Option Value} None (Some (number n)) → ⊥
        differ n h = cc h

pub mac_way : (t : Text) → Way (IsMac t)
mac_way t = by_value (pairs_value t) refl
  where
    found : (m : Mac) → IsMac t m → pairs_value t ≡ Some m.0
    found m h = pairs_is t m.0 (ap decode_of h.is ∙ decode_of-encode_lower m.0 h.bytes) h.is

    none_found : (m : Mac) → ◌≡◌ {A = Option (List ℕ)} None (Some m.0) → ⊥
    none_found m h = cc h

    by_length : (bs : List ℕ) → pairs_value t ≡ Some bs → Way (IsMac t)
    by_length bs e = elim (cases_eq (length bs) 6) [
      | inl six ↦ let p = is_pairs t bs e in inl (record { 0 = bs }, record { six = six; bytes = (decode_of-ok t bs p.1).3; is = p.0 })
      | inr other ↦ inr (λ m h. other (same_length m bs (sym (found m h) ∙ e) ∙ h.six))
    ]
      where
        same_length : (m : Mac) (bs : List ℕ) → ◌≡◌ {A = Option (List ℕ)} (Some m.0) (Some bs) → length bs ≡ length m.0
        same_length m bs h = let same : m.0 ≡ bs = cc h in ap length (sym same)

    by_value : (o : Option (List ℕ)) → pairs_value t ≡ o → Way (IsMac t)
    by_value (Some bs) e = by_length bs e
    by_value None e = inr (λ m h. none_found m (sym e ∙ found m h))

pub run_way : (most : ℕ) (t : Text) → Way (IsRunsWithin most t)
run_way most t = by_value (run_value t) refl
  where
    same_bytes : (a b : List ℕ) → ◌≡◌ {A = Option (List ℕ)} (Some a) (Some b) → a ≡ b
    same_bytes a b h = cc h

    none_found : (a : List ℕ) → ◌≡◌ {A = Option (List ℕ)} None (Some a) → ⊥
    none_found a h = cc h

    by_limit : (bs : List ℕ) → run_value t ≡ Some bs → Settled (length bs ≤ most) → Way (IsRunsWithin most t)
    by_limit bs e (inl le) = inl (bs, record { is = is_run t bs e; within = le })
    by_limit bs e (inr above) = inr (λ other h. above (subst (λ (u : List ℕ). length u ≤ most) (same_bytes other bs (sym (run_is t other h.is) ∙ e)) h.within))

    by_value : (o : Option (List ℕ)) → run_value t ≡ o → Way (IsRunsWithin most t)
    by_value (Some bs) e = by_limit bs e (le_settled (length bs) most)
    by_value None e = inr (λ bs h. none_found bs (sym e ∙ run_is t bs h.is))

-- ---- addresses

-- four numbers, the highest first
ip_of : ℕ → ℕ → ℕ → ℕ → ℕ
ip_of a b c d = a * 16777216 + b * 65536 + c * 256 + d

ip_parts : (a b c d : ℕ) → a ≤ 255 → b ≤ 255 → c ≤ 255 → d ≤ 255 → (ip_of a b c d < 2 ^ 32) × (map decimal (to_be_bytes w32 (ip_of a b c d)) ≡ decimal a ∷ decimal b ∷ decimal c ∷ decimal d ∷ [])
unfolding ip_of
ip_parts a b c d ha hb hc hd =
    let n = a * 16777216 + b * 65536 + c * 256 + d in
    let p : n / 16777216 % 256 ≡ a = omega (arith, ha, hb, hc, hd) in
    let q : n / 65536 % 256 ≡ b = omega (arith, ha, hb, hc, hd) in
    let r : n / 256 % 256 ≡ c = omega (arith, ha, hb, hc, hd) in
    let s : n % 256 ≡ d = omega (arith, ha, hb, hc, hd) in
    (omega (arith, ha, hb, hc, hd), λ i. decimal (p i) ∷ decimal (q i) ∷ decimal (r i) ∷ decimal (s i) ∷ [])

small : (n : ℕ) → IsNumber 0 255 (decimal (n % 256)) (n % 256)
small n = record { is = refl; low = omega arith; high = omega arith; fits = omega arith }

octets_way : (t : Text) (a b c d : Text) → cut 46 t ≡ a ∷ b ∷ c ∷ d ∷ [] → Way (IsNumber 0 255 a) → Way (IsNumber 0 255 b) → Way (IsNumber 0 255 c) → Way (IsNumber 0 255 d) → Way (IsIp t)
octets_way t a b c d e (inl x) (inl y) (inl z) (inl w) =
    let p = ip_parts x.0 y.0 z.0 w.0 x.1.high y.1.high z.1.high w.1.high in
    inl (ip_of x.0 y.0 z.0 w.0, record { fits = p.0; parts = e ∙ (λ i. x.1.is i ∷ y.1.is i ∷ z.1.is i ∷ w.1.is i ∷ []) ∙ sym p.1 })
octets_way t a b c d e (inr x) y z w = inr (λ n h. let g = sym e ∙ h.parts in x (n / 16777216 % 256) (subst (λ (u : Text). IsNumber 0 255 u (n / 16777216 % 256)) (sym (firsts g)) (small (n / 16777216))))
octets_way t a b c d e (inl x) (inr y) z w = inr (λ n h. let g = sym e ∙ h.parts in y (n / 65536 % 256) (subst (λ (u : Text). IsNumber 0 255 u (n / 65536 % 256)) (sym (firsts (others g))) (small (n / 65536))))
octets_way t a b c d e (inl x) (inl y) (inr z) w = inr (λ n h. let g = sym e ∙ h.parts in z (n / 256 % 256) (subst (λ (u : Text). IsNumber 0 255 u (n / 256 % 256)) (sym (firsts (others (others g)))) (small (n / 256))))
octets_way t a b c d e (inl x) (inl y) (inl z) (inr w) = inr (λ n h. let g = sym e ∙ h.parts in w (n % 256) (subst (λ (u : Text). IsNumber 0 255 u (n % 256)) (sym (firsts (others (others (others g))))) (small n)))

not_four : (t : Text) (parts : List Text) → cut 46 t ≡ parts → (length parts ≡ 4 → ⊥) → Way (IsIp t)
not_four t parts e other = inr (λ n h. other (ap length (sym e ∙ h.parts)))

pub ip_way : (t : Text) → Way (IsIp t)
ip_way t = of (cut 46 t) refl
  where
    of : (parts : List Text) → cut 46 t ≡ parts → Way (IsIp t)
    of [] e = not_four t [] e (λ h. omega (arith, h))
    of (a ∷ []) e = not_four t (a ∷ []) e (λ h. omega (arith, h))
    of (a ∷ b ∷ []) e = not_four t (a ∷ b ∷ []) e (λ h. omega (arith, h))
    of (a ∷ b ∷ c ∷ []) e = not_four t (a ∷ b ∷ c ∷ []) e (λ h. omega (arith, h))
    of (a ∷ b ∷ c ∷ d ∷ []) e = octets_way t a b c d e (number_way 0 255 a) (number_way 0 255 b) (number_way 0 255 c) (number_way 0 255 d)
    of (a ∷ b ∷ c ∷ d ∷ f ∷ more) e = not_four t (a ∷ b ∷ c ∷ d ∷ f ∷ more) e (λ h. omega (arith, h))

pub addr_way : (t : Text) → Way (IsAddr t)
addr_way t = of (cut 58 t) refl
  where
    not_two : (parts : List Text) → cut 58 t ≡ parts → (length parts ≡ 2 → ⊥) → Way (IsAddr t)
    not_two parts e other = inr (λ a h. other (ap length (sym e ∙ h.parts)))

    by_parts : (i p : Text) → cut 58 t ≡ i ∷ p ∷ [] → Way (IsIp i) → Way (IsNumber 0 65535 p) → Way (IsAddr t)
    by_parts i p e (inl x) (inl y) = inl (record { ip = x.0; port = y.0 }, record { ip = i; port = p; parts = e; is_ip = x.1; is_port = y.1 })
    by_parts i p e (inr none) y = inr (λ a h. none a.ip (subst (λ (u : Text). IsIp u a.ip) (firsts (sym h.parts ∙ e)) h.is_ip))
    by_parts i p e (inl x) (inr none) = inr (λ a h. none a.port (subst (λ (u : Text). IsNumber 0 65535 u a.port) (firsts (others (sym h.parts ∙ e))) h.is_port))

    of : (parts : List Text) → cut 58 t ≡ parts → Way (IsAddr t)
    of [] e = not_two [] e (λ h. omega (arith, h))
    of (i ∷ []) e = not_two (i ∷ []) e (λ h. omega (arith, h))
    of (i ∷ p ∷ []) e = by_parts i p e (ip_way i) (number_way 0 65535 p)
    of (i ∷ p ∷ c ∷ more) e = not_two (i ∷ p ∷ c ∷ more) e (λ h. omega (arith, h))

-- ---- lines of packets

frame_way : (args : List Text) → Way (IsFrameLine args)
frame_way [] = inr (λ p h. absurd (omega (arith, ap length h.text)))
frame_way (a ∷ b ∷ more) = inr (λ p h. absurd (omega (arith, ap length h.text)))
frame_way (a ∷ []) = of (run_way 1514 a)
  where
    of : Way (IsRunsWithin 1514 a) → Way (IsFrameLine (a ∷ []))
    of (inl c) = inl (Frame c.0, record { content = c.0; bytes = a; text = refl; runs = c.1; means = refl })
    of (inr none) = inr (λ p h. none h.content (subst (λ (u : Text). IsRunsWithin 1514 u h.content) (sym (firsts h.text)) h.runs))

udp_way : (args : List Text) → Way (IsUdpLine args)
udp_way [] = inr (λ p h. absurd (omega (arith, ap length h.text)))
udp_way (a ∷ []) = inr (λ p h. absurd (omega (arith, ap length h.text)))
udp_way (a ∷ b ∷ []) = inr (λ p h. absurd (omega (arith, ap length h.text)))
udp_way (a ∷ b ∷ c ∷ d ∷ more) = inr (λ p h. absurd (omega (arith, ap length h.text)))
udp_way (a ∷ b ∷ c ∷ []) = of (addr_way a) (addr_way b) (run_way 9216 c)
  where
    of : Way (IsAddr a) → Way (IsAddr b) → Way (IsRunsWithin 9216 c) → Way (IsUdpLine (a ∷ b ∷ c ∷ []))
    of (inl x) (inl y) (inl z) = inl (Udp x.0 y.0 z.0, record { src = x.0; dst = y.0; content = z.0; from = a; to = b; bytes = c; text = refl; is_src = x.1; is_dst = y.1; runs = z.1; means = refl })
    of (inr none) y z = inr (λ p h. none h.src (subst (λ (u : Text). IsAddr u h.src) (sym (firsts h.text)) h.is_src))
    of (inl x) (inr none) z = inr (λ p h. none h.dst (subst (λ (u : Text). IsAddr u h.dst) (sym (firsts (others h.text))) h.is_dst))
    of (inl x) (inl y) (inr none) = inr (λ p h. none h.content (subst (λ (u : Text). IsRunsWithin 9216 u h.content) (sym (firsts (others (others h.text)))) h.runs))

-- what follows the first word
abbrev Behind : Text → List Text → Packet → Type 0
Behind word args p = ((word ≡ codes "frame") × IsFrameLine args p) ⊎ ((word ≡ codes "udp") × IsUdpLine args p)

behind_way : (word : Text) (args : List Text) → Way (Behind word args)
behind_way word args = of (text_settled word (codes "frame")) (text_settled word (codes "udp")) (frame_way args) (udp_way args)
  where
    of : Settled (word ≡ codes "frame") → Settled (word ≡ codes "udp") → Way (IsFrameLine args) → Way (IsUdpLine args) → Way (Behind word args)
    of (inl e) u (inl p) q = inl (p.0, inl (e, p.1))
    of f (inl e) p (inl q) = inl (q.0, inr (e, q.1))
    of (inl e) (inl g) (inr p) (inr q) = inr (λ x h. elim h [ inl a ↦ p x a.1 | inr b ↦ q x b.1 ])
    of (inl e) (inr g) (inr p) q = inr (λ x h. elim h [ inl a ↦ p x a.1 | inr b ↦ g b.0 ])
    of (inr e) (inl g) p (inr q) = inr (λ x h. elim h [ inl a ↦ e a.0 | inr b ↦ q x b.1 ])
    of (inr e) (inr g) p q = inr (λ x h. elim h [ inl a ↦ e a.0 | inr b ↦ g b.0 ])

pub packet_way : (line : Text) → Way (IsPacketLine line)
packet_way line = of (fields line) refl
  where
    by_word : (word : Text) (args : List Text) → fields line ≡ word ∷ args → Way (Behind word args) → Way (IsPacketLine line)
    by_word word args e (inl p) = inl (
      p.0,
      (
        args,
        elim p.1 [
          | inl a ↦ inl (e ∙ ap (λ (w : Text). w ∷ args) a.0, a.1)
          | inr b ↦ inr (e ∙ ap (λ (w : Text). w ∷ args) b.0, b.1)
        ],
      ),
    )
    by_word word args e (inr none) = inr (λ p h. none p (elim h.1 [
      | inl a ↦ let g = sym e ∙ a.0 in inl (firsts g, subst (λ (l : List Text). IsFrameLine l p) (sym (others g)) a.1)
      | inr b ↦ let g = sym e ∙ b.0 in inr (firsts g, subst (λ (l : List Text). IsUdpLine l p) (sym (others g)) b.1)
    ]))

    no_word : (p : Packet) (args : List Text) (word : Text) → ◌≡◌ {A = List Text} [] (word ∷ args) → ⊥
    no_word p args word h = absurd (omega (arith, ap length h))

    of : (parts : List Text) → fields line ≡ parts → Way (IsPacketLine line)
    of [] e = inr (λ p h. elim h.1 [ inl a ↦ no_word p h.0 (codes "frame") (sym e ∙ a.0) | inr b ↦ no_word p h.0 (codes "udp") (sym e ∙ b.0) ])
    of (word ∷ args) e = by_word word args e (behind_way word args)
