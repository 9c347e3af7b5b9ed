use Rattle.core_rule_sets.proofs.ClassHeads.{merged_keeps, merged_joins, merged_named}
use Rattle.core_rule_sets.proofs.closure_classes.join.Goals as goal

pub returns-clause-kept : goal.returns-clause-kept
returns-clause-kept c =
    merged_keeps c.args.classes.now c.merge.new.self c.class_of.ensures.partition c.in_ok-merge.ensures.partition c.args.first c.args.second c.in_ok-merge.ensures.ok

pub returns-clause-joined : goal.returns-clause-joined
returns-clause-joined c =
    merged_joins c.args.classes.now c.merge.new.self c.class_of.ensures.partition c.in_ok-merge.ensures.partition c.args.first c.args.second c.in_ok-merge.ensures.ok

pub returns-clause-least : goal.returns-clause-least
returns-clause-least c name named same =
    merged_named c.args.classes.now c.merge.new.self c.class_of.ensures.partition c.in_ok-merge.ensures.partition c.args.first c.args.second c.in_ok-merge.ensures.ok name named same
