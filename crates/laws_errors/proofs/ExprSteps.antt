-- Expressions at one depth: the function of typing is what reading makes where nothing is wrong, as at all depths.
use Rattle.model.specs.lists.Elaborated.{elaborated_expr}
use Rattle.laws_errors.specs.AllMade.{all_made}
use Rattle.laws_errors.specs.StepLaws.{ExprStepsAgree}
use Rattle.laws_errors.proofs.AgreeingDepths.{agrees_at_own}
use Rattle.laws_errors.proofs.ExprDepths.{expr_steps_agree_at_depths_lem}

pub expr_steps_agree_lem : ExprStepsAgree
expr_steps_agree_lem e flags d x ty n s few = agrees_at_own n d _ (λ c. elaborated_expr (all_made e) flags c x ty s) few (expr_steps_agree_at_depths_lem e flags d x ty n s)
