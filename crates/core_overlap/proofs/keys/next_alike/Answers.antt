use Rattle.std.proofs.Common.{◌≡◌, ◌+◌, ◌-◌, ◌<◌, length, ◌∙◌, sym, subst, arith}
use Rattle.std.proofs.lemmas.List.{length-set}
use Rattle.std.proofs.lemmas.Option.{slice_get-get_or}
use Rattle.core_overlap.specs.Keys.{IsFirst}
use Rattle.core_overlap.proofs.Chains.{FirstsFrom, NextFrom, all_next, firsts_more, next_more, no_firsts, none_next}
use Rattle.core_overlap.proofs.keys.next_alike.Goals as goal

pub loop-left-init : goal.loop-left-init
loop-left-init c = record {
  within = omega arith;
  each = c.in_ok-next.ensures;
  next = none_next c.args.keys.now c.in_ok-next.next.items;
  firsts = no_firsts c.args.keys.now c.new-firsts.result c.new-firsts.ensures.empty;
}

pub loop-left-preserved : goal.loop-left-preserved
loop-left-preserved c =
    let keys = c.args.keys.now in
    let i = c.loop-left.left - 1 in
    let some = c.loop-left-test.true in
    let upto = c.loop-left.invariant.within in
    let each = c.loop-left.invariant.each in
    let inside : i < length keys = omega (arith, some, upto) in
    let one : c.loop-left.left ≡ i + 1 = omega (arith, some) in
    let here = slice_get-get_or keys i _ inside in
    let firsts = subst (λ n. FirstsFrom keys n c.loop-left.firsts) one c.loop-left.invariant.firsts in
    let next = subst (λ n. NextFrom keys n c.loop-left.next.items) one c.loop-left.invariant.next in
    record {
      within = omega (arith, some, upto);
      each = length-set c.loop-left.next.items i c.first_of.result ∙ each;
      next = next_more keys c.loop-left.next.items i c.first_of.result _ (omega (arith, inside, each)) here (subst (IsFirst keys (i + 1) _) (sym c.first_of.ensures) (firsts _)) next;
      firsts = firsts_more keys i _ c.loop-left.firsts c.insert.new.self here (λ q. c.in_ok-insert.ensures.updates.0 q) firsts;
    }

pub returns : goal.returns
returns c =
    let none : c.loop-left.left ≡ 0 = let e = c.loop-left-test.false in omega (arith, e) in
    all_next c.args.keys.now c.loop-left.next.items c.loop-left.invariant.each (subst (λ n. NextFrom c.args.keys.now n c.loop-left.next.items) none c.loop-left.invariant.next)
