-- Whether an event line leads on from a draft: it leads to one, or to none.
use Rattle.std.proofs.Common.{◌≡◌, ◌≢◌, ℕ, ◌-◌, ◌<◌, ◌≤◌, List, [], ◌∷◌, length, refl, sym, ap, subst, arith, inl, inr, codes}
use Rattle.std.specs.List.{AllZip}
use Rattle.std.proofs.lemmas.Bool.{cases_eq}
use Rattle.sd_outside.specs.declared.packet.Addr.{Addr}
use Rattle.sd_config.specs.declared.events.Fate.{Fate}
use Rattle.sd_config.specs.declared.events.Stranger.{Stranger}
use Rattle.sd_config.specs.declared.events.PlannedFault.{PlannedFault}
use Rattle.sd_config.specs.declared.events.PlannedFault.TheVariants as planned
use Rattle.sd_config.specs.Events.{body_limit, IsElsewhere}
use Rattle.sd_text.specs.Texts.{Text, IsNumber, IsAddr}
use Rattle.sd_text.specs.Runs.{IsRunsWithin}
use Rattle.sd_text.proofs.Exits.{firsts, others}
use Rattle.sd_text.proofs.NumberLemmas.{one_number}
use Rattle.sd_text.proofs.PacketLemmas.{one_addr}
use Rattle.sd_text.proofs.Deciding.{Settled, Way, both, not_so, as_well, le_settled, lt_settled, text_settled, all_settled, number_way, run_way, addr_way}
use Rattle.sd_script.specs.declared.draft.Draft.{Draft}
use Rattle.sd_script.specs.Limits.{fate_limit, stranger_limit}
use Rattle.sd_script.specs.Lines.{with_fate, with_stranger, with_fault, MayBeEvent, IsDelays, MayAddFate, FateLine, StrangerLine, fault_word, fault_number, FaultLine}
use Rattle.sd_script.proofs.Deciding.{numbers_way}
use Rattle.sd_script.proofs.Sections.{event_settled}

delays_way : (life : ℕ) (args : List Text) → Way (IsDelays life args)
delays_way life args = of (both (le_settled 1 (length args)) (le_settled (length args) 8)) (numbers_way 1 (life - 1) args) (word_settled args)
  where
    word_settled : (args : List Text) → Settled (args ≡ codes "none" ∷ [])
    word_settled [] = inr (λ h. absurd (omega (arith, ap length h)))
    word_settled (f ∷ []) = as_well (λ e. ap (λ (t : Text). t ∷ []) e) (λ e. firsts e) (text_settled f (codes "none"))
    word_settled (f ∷ g ∷ more) = inr (λ h. absurd (omega (arith, ap length h)))

    of : Settled ((1 ≤ length args) × (length args ≤ 8)) → Way (λ (ns : List ℕ). AllZip (IsNumber 1 (life - 1)) args ns) → Settled (args ≡ codes "none" ∷ []) → Way (IsDelays life args)
    of few ns (inl e) = inl ([], inl (e, refl))
    of (inl few) (inl ns) (inr other) = inl (ns.0, inr (few.0, few.1, ns.1))
    of (inr many) ns (inr other) = inr (λ ds h. elim h [ inl none ↦ other none.0 | inr some ↦ many (some.0, some.1) ])
    of (inl few) (inr ns) (inr other) = inr (λ ds h. elim h [ inl none ↦ other none.0 | inr some ↦ ns ds some.2 ])

may_add_fate : (fates : List Fate) (id : ℕ) → Settled (MayAddFate fates id)
may_add_fate fates id = both (lt_settled (length fates) fate_limit) (all_settled (λ (other : Fate). other.id ≢ id) (λ other. not_so (cases_eq other.id id)) fates)

pub fate_way : (old : Draft) (args : List Text) → Way (FateLine old args)
fate_way old [] = inr (λ new h. absurd (omega (arith, ap length h.text)))
fate_way old (id ∷ delays) = of (number_way 0 4294967295 id) (delays_way old.config.life delays) (event_settled old.section)
  where
    by_rule : (n : ℕ) (ds : List ℕ) → IsNumber 0 4294967295 id n → IsDelays old.config.life delays ds → MayBeEvent old.section → Settled (MayAddFate old.fates n) → Way (FateLine old (id ∷ delays))
    by_rule n ds is are at (inl may) = let fate : Fate = record { id = n; delays = ds } in
        inl (with_fate old fate, record { fate = fate; id = id; delays = delays; text = refl; place = at; is_id = is; are_delays = are; may = may; means = refl })
    by_rule n ds is are at (inr other) = inr (λ new h. other (subst (λ (m : ℕ). MayAddFate old.fates m) (one_number 0 4294967295 id h.fate.id n (subst (λ (t : Text). IsNumber 0 4294967295 t h.fate.id) (sym (firsts h.text)) h.is_id) is) h.may))

    of : Way (IsNumber 0 4294967295 id) → Way (IsDelays old.config.life delays) → Settled (MayBeEvent old.section) → Way (FateLine old (id ∷ delays))
    of (inl n) (inl ds) (inl at) = by_rule n.0 ds.0 n.1 ds.1 at (may_add_fate old.fates n.0)
    of (inr none) ds at = inr (λ new h. none h.fate.id (subst (λ (t : Text). IsNumber 0 4294967295 t h.fate.id) (sym (firsts h.text)) h.is_id))
    of (inl n) (inr none) at = inr (λ new h. none h.fate.delays (subst (λ (l : List Text). IsDelays old.config.life l h.fate.delays) (sym (others h.text)) h.are_delays))
    of (inl n) (inl ds) (inr other) = inr (λ new h. other h.place)

elsewhere_settled : (client server : ℕ) (src : Addr) → Settled (IsElsewhere client server src)
elsewhere_settled client server src = of (both (not_so (cases_eq src.ip client)) (both (not_so (cases_eq src.ip server)) (not_so (cases_eq src.port 111))))
  where
    of : Settled ((src.ip ≢ client) × ((src.ip ≢ server) × (src.port ≢ 111))) → Settled (IsElsewhere client server src)
    of (inl h) = inl (record { not_client = h.0; not_server = h.1.0; not_portmapper = h.1.1 })
    of (inr other) = inr (λ h. other (h.not_client, (h.not_server, h.not_portmapper)))

pub stranger_way : (old : Draft) (args : List Text) → Way (StrangerLine old args)
stranger_way old [] = inr (λ new h. absurd (omega (arith, ap length h.text)))
stranger_way old (a ∷ []) = inr (λ new h. absurd (omega (arith, ap length h.text)))
stranger_way old (a ∷ b ∷ []) = inr (λ new h. absurd (omega (arith, ap length h.text)))
stranger_way old (a ∷ b ∷ c ∷ []) = inr (λ new h. absurd (omega (arith, ap length h.text)))
stranger_way old (a ∷ b ∷ c ∷ d ∷ e ∷ more) = inr (λ new h. absurd (omega (arith, ap length h.text)))
stranger_way old (tick ∷ from ∷ to ∷ body ∷ []) = of (number_way 1 4294967295 tick) (addr_way from) (addr_way to) (run_way body_limit body) (both (event_settled old.section) (lt_settled (length old.strangers) stranger_limit))
  where
    client : ℕ
    client = old.config.client.ip

    server : ℕ
    server = old.config.server.ip

    by_rule : (s : Stranger) → IsNumber 1 4294967295 tick s.tick → IsAddr from s.src → IsAddr to s.dst → IsRunsWithin body_limit body s.body → MayBeEvent old.section × (length old.strangers < stranger_limit) → Settled (IsElsewhere client server s.src) → Way (StrangerLine old (tick ∷ from ∷ to ∷ body ∷ []))
    by_rule s t f g b at (inl away) = inl (with_stranger old s, record { stranger = s; tick = tick; from = from; to = to; body = body; text = refl; place = at.0; is_tick = t; is_src = f; is_dst = g; is_body = b; elsewhere = away; few = at.1; means = refl })
    by_rule s t f g b at (inr near) = inr (λ new h. near (subst (λ (a : Addr). IsElsewhere client server a) (one_addr from h.stranger.src s.src (subst (λ (u : Text). IsAddr u h.stranger.src) (sym (firsts (others h.text))) h.is_src) f) h.elsewhere))

    of : Way (IsNumber 1 4294967295 tick) → Way (IsAddr from) → Way (IsAddr to) → Way (IsRunsWithin body_limit body) → Settled (MayBeEvent old.section × (length old.strangers < stranger_limit)) → Way (StrangerLine old (tick ∷ from ∷ to ∷ body ∷ []))
    of (inl t) (inl f) (inl g) (inl b) (inl at) = by_rule (record { tick = t.0; src = f.0; dst = g.0; body = b.0 }) t.1 f.1 g.1 b.1 at (elsewhere_settled client server f.0)
    of (inr none) f g b at = inr (λ new h. none h.stranger.tick (subst (λ (u : Text). IsNumber 1 4294967295 u h.stranger.tick) (sym (firsts h.text)) h.is_tick))
    of (inl t) (inr none) g b at = inr (λ new h. none h.stranger.src (subst (λ (u : Text). IsAddr u h.stranger.src) (sym (firsts (others h.text))) h.is_src))
    of (inl t) (inl f) (inr none) b at = inr (λ new h. none h.stranger.dst (subst (λ (u : Text). IsAddr u h.stranger.dst) (sym (firsts (others (others h.text)))) h.is_dst))
    of (inl t) (inl f) (inl g) (inr none) at = inr (λ new h. none h.stranger.body (subst (λ (u : Text). IsRunsWithin body_limit u h.stranger.body) (sym (firsts (others (others (others h.text))))) h.is_body))
    of (inl t) (inl f) (inl g) (inl b) (inr other) = inr (λ new h. other (h.place, h.few))

-- the fault with this word and this number
planned_way : (word : Text) (n : ℕ) → Way (λ (fault : PlannedFault). (word ≡ fault_word fault) × (fault_number fault ≡ n))
planned_way word n = of (text_settled word (codes "send")) (text_settled word (codes "recv"))
  where
    of : Settled (word ≡ codes "send") → Settled (word ≡ codes "recv") → Way (λ (fault : PlannedFault). (word ≡ fault_word fault) × (fault_number fault ≡ n))
    of (inl is) recv = inl (planned.Send n, (is, refl))
    of (inr send) (inl is) = inl (planned.Recv n, (is, refl))
    of (inr send) (inr recv) = inr (λ fault h. none fault h.0)
      where
        none : (fault : PlannedFault) → word ≡ fault_word fault → ⊥
        none (planned.Send id) is = send is
        none (planned.Recv call) is = recv is

pub fault_way : (old : Draft) (args : List Text) → Way (FaultLine old args)
fault_way old [] = inr (λ new h. absurd (omega (arith, ap length h.text)))
fault_way old (a ∷ []) = inr (λ new h. absurd (omega (arith, ap length h.text)))
fault_way old (a ∷ b ∷ c ∷ more) = inr (λ new h. absurd (omega (arith, ap length h.text)))
fault_way old (word ∷ number ∷ []) = of (number_way 0 4294967295 number) (event_settled old.section)
  where
    planned_as : (n : ℕ) → IsNumber 0 4294967295 number n → MayBeEvent old.section → Way (λ (fault : PlannedFault). (word ≡ fault_word fault) × (fault_number fault ≡ n)) → Way (FaultLine old (word ∷ number ∷ []))
    planned_as n is at (inl h) = inl (
      with_fault old h.0,
      record {
        fault = h.0;
        number = number;
        text = ap (λ (t : Text). t ∷ number ∷ []) h.1.0;
        place = at;
        is_number = subst (λ (m : ℕ). IsNumber 0 4294967295 number m) (sym h.1.1) is;
        means = refl;
      },
    )
    planned_as n is at (inr none) = inr (λ new h. none h.fault (firsts h.text, one_number 0 4294967295 number (fault_number h.fault) n (subst (λ (u : Text). IsNumber 0 4294967295 u (fault_number h.fault)) (sym (firsts (others h.text))) h.is_number) is))

    of : Way (IsNumber 0 4294967295 number) → Settled (MayBeEvent old.section) → Way (FaultLine old (word ∷ number ∷ []))
    of (inl n) (inl at) = planned_as n.0 n.1 at (planned_way word n.0)
    of (inr none) at = inr (λ new h. none (fault_number h.fault) (subst (λ (u : Text). IsNumber 0 4294967295 u (fault_number h.fault)) (sym (firsts (others h.text))) h.is_number))
    of (inl n) (inr other) = inr (λ new h. other h.place)
