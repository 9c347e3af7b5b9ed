use Rattle.std.proofs.Common.{refl, sym, subst}
use Rattle.spec_questions.specs.Right.{AreAskedWhole}
use Rattle.spec_questions.proofs.Whole.{whole_pushed}
use Rattle.spec_questions.proofs.questions.Questions.add_questions.Goals as goal

pub returns-clause-whole : goal.returns-clause-whole
returns-clause-whole c = λ lowered signatures specs at place of there asks plain all.
    subst (AreAskedWhole lowered signatures specs) (sym c.in_ok-push.ensures.items)
    (whole_pushed lowered signatures specs c.args.self.now.rules.items _ c.args.asked.term.now c.args.asked.rule.now at place of there refl refl asks plain all)
