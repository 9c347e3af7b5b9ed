use Rattle.std.proofs.Common.{Err, inr, subst}
use Rattle.std.proofs.lemmas.Result.{IfOk-weaker}
use Rattle.core_syntax.specs.Answers.{Answers}
use Rattle.cranelift_isle.specs.Lowerings.{AreAccepted, IsLowered}
use Rattle.cranelift_isle.specs.Refusing.{as_lower}
use Rattle.cranelift_isle.specs.SyntaxViews.{definition_views}
use Rattle.cranelift_isle.specs.declared.lower.Lowered.{Lowered}
use Rattle.cranelift_isle.specs.declared.lower.Refused.{Refused}
use Rattle.app_command.proofs.TaskStatuses.{answer_of_lowered}
use Rattle.app_command.proofs.answers.answer_to_defs.Goals as goal

pub returns-in-Ok : goal.returns-in-Ok
returns-in-Ok g c =
    IfOk-weaker c.answer_to_lowered.result _ _
    (λ answer. answer_of_lowered (definition_views c.args.defs.now) c.args.asked.now c.args.files.now c.in-Ok.lowered answer c.in-Ok.ensures.accepted.1)
    c.answer_to_lowered.ensures

pub returns-in-Err-Errors : goal.returns-in-Err-Errors
returns-in-Err-Errors g c =
    let defs = definition_views c.args.defs.now in
    let expand = c.args.asked.now.expand in
    let refuses = subst (λ (r : Refused). Answers {A = Lowered} (as_lower (Err r)) (AreAccepted defs expand) (IsLowered defs expand)) c.in-Err-Errors.field-0-is c.in-Err-Errors.ensures.accepted in
    IfOk-weaker c.refused.result _ _ (λ answer refusal. inr (refuses.1, refusal)) c.refused.ensures
