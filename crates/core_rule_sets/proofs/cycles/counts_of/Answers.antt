use Rattle.std.proofs.Common.{arith}
use Rattle.core_rule_sets.proofs.ClassEndings.{few_counted}
use Rattle.core_rule_sets.proofs.cycles.counts_of.Goals as goal

pub add_one-requires : goal.add_one-requires
add_one-requires c =
    let is = c.loop-part.invariant c.class_of.result in
    let few = few_counted c.args.classes.now c.args.parts.now c.loop-part.part-index c.class_of.result c.loop-part-test.true in
    let all = c.requires in
    omega (arith, is, few, all)
