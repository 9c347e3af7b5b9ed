use Rattle.std.proofs.Common.{◌∙◌, ap}
use Rattle.model_questions.specs.Evaluated as E
use Rattle.model_questions.specs.Formulas as M
use Rattle.spec_steps.proofs.answering.outputs_at.Goals as goal

pub returns : goal.returns
returns c = λ v names.
    let made = c.in_ok-fields_at.ensures v names in
    (made.0, λ m. made.1 ∙ ap (E.fields_at (M.output_at (v.site c.args.answer)) 0) (c.term_types.ensures v m))
