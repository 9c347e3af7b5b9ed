use Rattle.std.proofs.Common.{◌∙◌, ap, rules}
use mir.Val.{SFits}
use mir.Syntax.{w128}
use Rattle.std.proofs.lemmas.Int.{to_z-of_z}
use Rattle.model_questions.specs.Steps as S
use Rattle.spec_cases.specs.Namings.{layer_of_place}
use Rattle.spec_steps.proofs.placing.integer_form.Goals as goal

pub returns : goal.returns
returns c =
    let fits : SFits w128 c.args.number = search rules in λ v names.
    let made = c.in_ok-written_or.ensures v names in
    (made.0, λ m. made.1 ∙ ap (S.written_or (layer_of_place v c.args.place)) (rw (to_z-of_z w128 c.args.number fits) at (c.in_ok-value.ensures v m)))
