use Rattle.std.proofs.Common.{subst, sym}
use Rattle.cranelift_isle.specs.Lowerings.{AreAccepted}
use Rattle.cranelift_isle.specs.SyntaxViews.{definition_views}
use Rattle.app_command.specs.Readings.{IsAcceptedReading}
use Rattle.app_command.specs.TaskAnswers.{IsAnswerToBoth}
use Rattle.app_command.proofs.versions.answer_to_readings.Goals as goal

pub returns-in_ok-answer-in-Defs : goal.returns-in_ok-answer-in-Defs
returns-in_ok-answer-in-Defs g c =
    let asked = c.args.asked.now in
    let New = IsAcceptedReading asked.expand c.args.new.reading.now in
    let answer = c.in_ok-answer-in-Defs.answer in
    subst (λ r. IsAnswerToBoth (IsAcceptedReading asked.expand r) New asked answer) (sym c.in-Defs.is)
    (subst (λ ds. IsAnswerToBoth (AreAccepted (definition_views ds) asked.expand) New asked answer) c.deref-in-Defs.ensures.value c.in_ok-answer-in-Defs.ensures)
