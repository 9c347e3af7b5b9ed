use Rattle.std.proofs.Common.{◌∙◌, ap}
use Rattle.model_questions.specs.Forms as MF
use Rattle.spec_cases.proofs.arena.Formulas.surely_said.Goals as goal

pub returns : goal.returns
returns c = λ v w names apart all.
    let last = c.in_ok-surely.ensures v names in
    let cases = c.in_ok-cases.ensures v w last.0 apart all in
    (cases.0, last.1 ∙ ap MF.surely cases.1)
