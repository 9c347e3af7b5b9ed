use Rattle.std.proofs.Common.{subst, sym}
use Rattle.std.proofs.lemmas.Result.{IfOk-weaker}
use Rattle.cranelift_isle.specs.SyntaxViews.{definition_views}
use Rattle.app_command.specs.TaskAnswers.{IsAnswerToDefinitions, IsAnswerToReading}
use Rattle.app_command.proofs.TaskStatuses.{status_of_answer}
use Rattle.app_command.proofs.answers.answer_to_reading.Goals as goal

pub returns-in-Defs-clause-answer : goal.returns-in-Defs-clause-answer
returns-in-Defs-clause-answer g c =
    IfOk-weaker c.answer_to_defs.result _ (IsAnswerToReading c.args.asked.now c.args.files.now c.args.reading.now)
    (λ answer h. subst (λ r. IsAnswerToReading c.args.asked.now c.args.files.now r answer) (sym c.in-Defs.is)
    (subst (λ ds. IsAnswerToDefinitions (definition_views ds) c.args.asked.now c.args.files.now answer) c.deref.ensures.value h))
    c.answer_to_defs.ensures

pub returns-in-Defs-clause-status : goal.returns-in-Defs-clause-status
returns-in-Defs-clause-status g c =
    IfOk-weaker c.answer_to_defs.result _ _
    (λ answer. status_of_answer c.args.asked.now c.args.files.now c.args.reading.now answer)
    (returns-in-Defs-clause-answer g c)
