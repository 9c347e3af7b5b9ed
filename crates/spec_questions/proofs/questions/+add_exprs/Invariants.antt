use Rattle.std.proofs.Common.{length}
use Rattle.spec_questions.proofs.questions.+add_exprs.Given as goal

abbrev pub decreases-add_exprs : goal.decreases-add_exprs
decreases-add_exprs l = length l.said.now
