use Rattle.std.proofs.Common.{◌∙◌, ap}
use Rattle.model_questions.specs.Evaluated as E
use Rattle.model_questions.specs.Formulas as M
use Rattle.spec_steps.proofs.steps.args_of.Goals as goal

pub returns : goal.returns
returns c = λ v names.
    let made = c.in_ok-fields_at.ensures v names in
    (made.0, λ m. made.1 ∙ ap (E.fields_at M.argument_at 0) (c.own_types.ensures v m))
