use Rattle.std.proofs.Common.{rules, ◌≡◌, true}
use Rattle.core_rule_sets.proofs.FieldJoins.{fewer_apart}
use Rattle.core_rule_sets.proofs.closure_classes.join_parts.Goals as goal

pub loop-smaller : goal.loop-smaller
loop-smaller c =
    let joined : c.in_ok-join_round.field-0 ≡ true = search rules in
    fewer_apart c.loop.classes c.join_round.new.classes c.in_ok-join_round.ensures.kept c.args.parts.now (c.in_ok-join_round.ensures.changed joined)

pub loop-preserved : goal.loop-preserved
loop-preserved c = record {
  kept = λ a b e. c.in_ok-join_round.ensures.kept a b (c.loop.invariant.kept a b e);
  least = λ name congruent named. c.in_ok-join_round.ensures.least name congruent (c.loop.invariant.least name congruent named);
}

pub returns-clause-least : goal.returns-clause-least
returns-clause-least c name congruent named = c.in_ok-join_round.ensures.least name congruent (c.loop.invariant.least name congruent named)
