use Rattle.std.proofs.Common.{◌∙◌, ap}
use Rattle.model_questions.specs.Steps as S
use Rattle.spec_cases.specs.Namings.{layer_of_place}
use Rattle.spec_steps.proofs.placing.constant_form.Goals as goal

pub returns : goal.returns
returns c = λ v names.
    let made = c.in_ok-written_or.ensures v names in
    (made.0, λ m. made.1 ∙ ap (S.written_or (layer_of_place v c.args.place)) (c.constant-value.ensures v m))
