use Rattle.std.proofs.Common.{rules}
use Rattle.spec_questions.proofs.Told.{kept_step, told_end, told_step}
use Rattle.spec_questions.proofs.Whole.{element_there}
use Rattle.spec_questions.proofs.questions.add_term.Goals as goal

pub loop-rule-preserved : goal.loop-rule-preserved
loop-rule-preserved c = record {
  told = told_step c.args.asker.wanted c.loop-rule.found c.add_if_wanted.new.found c.args.term.now.id.0 c.deref-rule-items.result.now c.loop-rule.rule-index
      c.rule-item.result (search rules) c.rule-item.is c.in_ok-add_if_wanted.ensures.kept c.loop-rule.invariant.told c.in_ok-add_if_wanted.ensures.told;
  kept = kept_step c.args.found.now c.loop-rule.found c.add_if_wanted.new.found c.loop-rule.invariant.kept c.in_ok-add_if_wanted.ensures.kept;
  whole = λ place there all. c.in_ok-add_if_wanted.ensures.whole c.loop-rule.rule-index
      (element_there c.deref-rule-items.result.now c.args.term.now.rules.rules.items c.loop-rule.rule-index c.rule-item.result (search rules) c.rule-item.is c.deref-rule-items.ensures.value)
      place there (c.loop-rule.invariant.whole place there all);
}

pub returns-clause-told : goal.returns-clause-told
returns-clause-told c = told_end c.args.asker.wanted c.loop-rule.found c.args.term.now.id.0 c.deref-rule-items.result.now c.args.term.now.rules.rules.items c.loop-rule.rule-index (search rules) c.deref-rule-items.ensures.value c.loop-rule.invariant.told

pub returns-clause-whole : goal.returns-clause-whole
returns-clause-whole c = c.loop-rule.invariant.whole
