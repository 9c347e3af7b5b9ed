use Rattle.std.proofs.Common.{sym, subst}
use Rattle.std.proofs.lemmas.Result.{on_ok_weaker}
use Rattle.spec_questions.specs.Right.{AreAskedWhole}
use Rattle.spec_questions.proofs.questions.add_rule.Goals as goal

pub returns-in-Ok-clause-whole : goal.returns-in-Ok-clause-whole
returns-in-Ok-clause-whole c =
    on_ok_weaker c.add_questions.result
    (λ kept at of place there all. kept c.args.asker.lowered.now c.args.asker.known.now.signatures.items c.args.asker.tables at place of there c.in-Ok.ensures.whole c.in-Ok.ensures.plain all)
    c.add_questions.ensures.whole

pub returns-clause-whole : goal.returns-clause-whole
returns-clause-whole c =
    on_ok_weaker c.add_fault.result
    (λ same at of place there all. subst (AreAskedWhole c.args.asker.lowered.now c.args.asker.known.now.signatures.items c.args.asker.tables) (sym same) all)
    c.add_fault.ensures.rules
