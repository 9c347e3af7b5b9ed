use Rattle.std.proofs.Common.{take}
use Rattle.spec_questions.specs.Right.{AreAskedWhole}
use Rattle.spec_questions.specs.Telling.{AreAllTold}
use Rattle.spec_questions.proofs.questions.add_terms.Given as goal

abbrev pub invariant-loop-term : goal.invariant-loop-term
invariant-loop-term l = record {
  told : AreAllTold l.asker.wanted l.asker.specs.now.terms.items l.found (take l.term-index l.term-items);
  whole : AreAskedWhole l.asker.lowered.now l.asker.known.now.signatures.items l.asker.tables l.fn.found.rules.items → AreAskedWhole l.asker.lowered.now l.asker.known.now.signatures.items l.asker.tables l.found.rules.items;
}
