use Rattle.std.proofs.Common.{take}
use Rattle.spec_questions.specs.Right.{KeepsWhole}
use Rattle.spec_questions.specs.Telling.{AreTold, KeepsTold}
use Rattle.spec_questions.proofs.questions.add_term.Given as goal

abbrev pub invariant-loop-rule : goal.invariant-loop-rule
invariant-loop-rule l = record {
  told : AreTold l.asker.wanted l.found l.term.id.0 (take l.rule-index l.rule-items);
  kept : KeepsTold l.fn.found l.found;
  whole : KeepsWhole l.asker.lowered.now l.asker.known.now.signatures.items l.asker.tables l.term l.fn.found l.found;
}
