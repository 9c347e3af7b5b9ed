use Rattle.std.proofs.Common.{length}
use Rattle.spec_questions.proofs.questions.+add_said_terms.Given as goal

abbrev pub decreases-add_said_terms : goal.decreases-add_said_terms
decreases-add_said_terms l = length l.terms.now
