use Rattle.std.proofs.Common.{◌≤◌, ◌⊎◌, length, inl, inr, rules, arith}
use Rattle.core_rule_sets.specs.SiteViews.{constraint_views}
use Rattle.core_rule_sets.proofs.SideBySide.{nothing_met, walk_first, walk_second, walk_both, walked_whole}
use Rattle.core_rule_sets.proofs.Ascending.{views_ascend}
use Rattle.core_rule_sets.proofs.overlaps.side_by_side.Goals as goal
use Rattle.core_rule_sets.proofs.overlaps.side_by_side.Goals.{then-loop-i-test+else-j-others, else-loop-i-test}

pub loop-i-init : goal.loop-i-init
loop-i-init c = record {
  first = omega arith;
  second = omega arith;
  met = nothing_met (constraint_views c.args.some.now) (constraint_views c.args.others.now) (views_ascend c.args.some.now c.requires.ascending) (views_ascend c.args.others.now c.requires.others_ascending);
}

pub loop-i-preserved-then-index : goal.loop-i-preserved-then-index
loop-i-preserved-then-index c = record {
  first = omega arith;
  second = c.loop-i.invariant.second;
  met = walk_first c.args.some.now c.args.others.now c.loop-i.i c.loop-i.j c.index-some-i.result c.index-others-j.result c.loop-i.among c.loop-i.others_among c.loop-i-test.true c.if-j-others.true c.index-some-i.is c.index-others-j.is (search (rules, arith)) c.loop-i.invariant.met;
}

pub loop-i-preserved-then-index-2 : goal.loop-i-preserved-then-index-2
loop-i-preserved-then-index-2 c = record {
  first = c.loop-i.invariant.first;
  second = omega arith;
  met = walk_second c.args.some.now c.args.others.now c.loop-i.i c.loop-i.j c.index-some-i.result c.index-others-j.result c.loop-i.among c.loop-i.others_among c.loop-i-test.true c.if-j-others.true c.index-some-i.is c.index-others-j.is (search (rules, arith)) c.loop-i.invariant.met;
}

pub loop-i-preserved : goal.loop-i-preserved
loop-i-preserved c = record {
  first = omega arith;
  second = omega arith;
  met = walk_both c.args.some.now c.args.others.now c.loop-i.i c.loop-i.j c.index-some-i.result c.index-others-j.result c.loop-i.among c.loop-i.others_among c.loop-i-test.true c.if-j-others.true c.index-some-i.is c.index-others-j.is (omega arith) (search rules) c.loop-i.invariant.met;
}

pub returns : goal.returns
returns c =
    let done : (length c.args.some.now ≤ c.loop-i.i) ⊎ (length c.args.others.now ≤ c.loop-i.j) =
    elim c.loop-i-test.branch [ then-loop-i-test+else-j-others w ↦ inr w.if-j-others.false | else-loop-i-test w ↦ inl w.loop-i-test.false ] in
    walked_whole c.args.some.now c.args.others.now c.loop-i.i c.loop-i.j c.loop-i.among c.loop-i.others_among c.is_whole.result c.is_whole-2.result c.loop-i.invariant.first c.loop-i.invariant.second done c.loop-i.invariant.met c.is_whole.ensures c.is_whole-2.ensures
