use Rattle.std.proofs.Common.{[], false}
use Rattle.model.proofs.Elements.{in_from_contains}
use Rattle.core_rule_sets.proofs.FieldJoins.{joined_more}
use Rattle.core_rule_sets.proofs.closure_classes.join_ahead.Goals as goal

pub loop-preserved : goal.loop-preserved
loop-preserved c =
    let parts = c.args.parts.now in
    let p = c.in-Some.part in
    let told = c.in_ok-look_at.ensures in
    joined_more parts [] c.args.classes.now c.loop.classes c.look_at.new.classes c.loop.firsts c.look_at.new.firsts false p (in_from_contains parts p c.in-Some.ensures.there) c.loop.invariant told.partition told.kept told.least told.firsts told.added
