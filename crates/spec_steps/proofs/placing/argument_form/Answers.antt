use Rattle.std.proofs.Common.{◌∙◌, ap}
use Rattle.model_questions.specs.Formulas as M
use Rattle.model_questions.specs.Steps as S
use Rattle.spec_steps.proofs.placing.argument_form.Goals as goal

pub returns : goal.returns
returns c = λ v names.
    let made = c.in_ok-typed_at.ensures v names in
    (made.0, λ m. made.1 ∙ ap (λ o. S.typed_at o (M.argument_at c.args.index)) (c.own_type-ty.ensures v m))
