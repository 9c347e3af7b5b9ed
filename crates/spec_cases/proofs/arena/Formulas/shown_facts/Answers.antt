use Rattle.std.proofs.Common.{◌∙◌, ap}
use Rattle.model_questions.specs.Formulas as M
use Rattle.spec_cases.proofs.arena.Formulas.shown_facts.Goals as goal

pub returns : goal.returns
returns c = λ v w names apart all.
    let last = c.in_ok-not.ensures v names in
    let fact = c.in_ok-fact.ensures v w last.0 apart all in
    (fact.0, (fact.1, last.1 ∙ ap M.none_of fact.1))
