use Rattle.std.proofs.Common.{rules}
use Rattle.spec_questions.proofs.Told.{all_told_end, all_told_step}
use Rattle.spec_questions.proofs.Whole.{element_there}
use Rattle.spec_questions.proofs.questions.add_terms.Goals as goal

pub loop-term-preserved : goal.loop-term-preserved
loop-term-preserved c = record {
  told = all_told_step c.args.asker.wanted c.args.asker.specs.now.terms.items c.loop-term.found c.add_said.new.found c.deref-term-items.result.now c.loop-term.term-index
      c.term-item.result (search rules) c.term-item.is c.in_ok-add_said.ensures.kept c.loop-term.invariant.told c.in_ok-add_said.ensures.told;
  whole = λ all. c.in_ok-add_said.ensures.whole c.loop-term.term-index
      (element_there c.deref-term-items.result.now c.args.asker.lowered.now.terms.items c.loop-term.term-index c.term-item.result (search rules) c.term-item.is c.deref-term-items.ensures.value)
      (c.loop-term.invariant.whole all);
}

pub returns-clause-told : goal.returns-clause-told
returns-clause-told c = all_told_end c.args.asker.wanted c.args.asker.specs.now.terms.items c.loop-term.found c.deref-term-items.result.now c.args.asker.lowered.now.terms.items c.loop-term.term-index (search rules) c.deref-term-items.ensures.value c.loop-term.invariant.told

pub returns-clause-whole : goal.returns-clause-whole
returns-clause-whole c = c.loop-term.invariant.whole
