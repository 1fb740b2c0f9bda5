use Rattle.std.proofs.Common.{◌≡◌, ℕ, suc, ◌-◌, ◌<◌, List, length, drop, sym, ◌∙◌, ap, arith}
use Rattle.std.specs.BTreeMap.{is_at}
use Rattle.std.specs.Map.{lookup}
use Rattle.std.specs.Ordering.{nat_cmp}
use Rattle.sd_config.specs.Events.{fate_in}
use Rattle.sd_segment.specs.Flight.{delays_of}
use Rattle.sd_segment.proofs.Fates.{fate_more, none_after}
use Rattle.sd_segment.proofs.places.fate_places.Goals as goal

pub bounds-fates-left : goal.bounds-fates-left
bounds-fates-left c = omega (arith, c.loop-left.invariant.few, c.loop-left-test.true)

pub loop-left-init : goal.loop-left-init
loop-left-init c =
    let fates = c.args.fates.now in
    record {
      few = omega arith;
      known = λ id. ap (λ (es : List (ℕ × ℕ)). delays_of fates (lookup (is_at (nat_cmp id)) es)) c.new-places.ensures.empty ∙ sym (none_after fates id);
    }

pub loop-left-preserved : goal.loop-left-preserved
loop-left-preserved c =
    let fates = c.args.fates.now in
    let n = c.loop-left.left - 1 in
    let old = c.loop-left.places in
    let is : c.loop-left.left ≡ suc n = omega (arith, c.loop-left-test.true) in
    let lt : n < length fates = omega (arith, c.loop-left.invariant.few, c.loop-left-test.true) in
    record {
      few = omega (arith, c.loop-left.invariant.few);
      known =
          fate_more fates n c.loop-left.left c.index-fates-left.result old c.insert.new.self is lt
          c.in_ok-insert.ensures.updates.0
          c.loop-left.invariant.known;
    }

pub returns : goal.returns
returns c =
    let fates = c.args.fates.now in
    let none : c.loop-left.left ≡ 0 = omega (arith, c.loop-left-test.false) in
    λ id. c.loop-left.invariant.known id ∙ ap (λ (n : ℕ). fate_in (drop n fates) id) none
