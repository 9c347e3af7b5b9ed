use Rattle.std.proofs.Common.{◌∙◌, ap}
use Rattle.model_questions.specs.Forms as MF
use Rattle.spec_cases.specs.CaseViews.{list_cases_of}
use Rattle.spec_cases.specs.Namings.{fact_of}
use Rattle.spec_cases.proofs.CombiningSteps.{list_joined, list_under}
use Rattle.spec_cases.proofs.arena.Formulas.lists_from_first.Goals as goal

pub returns : goal.returns
returns c = λ v names.
    let joined = c.in_ok-joined_cases.ensures v names in
    let here = c.in_ok-here.ensures v joined.0 in (
      here.0,
      list_joined v c.in_ok-here.here c.args.later.now c.in_ok-joined_cases.field-0 joined.1
          ∙ ap (λ l. MF.joined_cases l (list_cases_of v c.args.later.now)) (list_under v (fact_of v c.args.guard) c.args.first.now c.in_ok-here.here here.1),
    )
