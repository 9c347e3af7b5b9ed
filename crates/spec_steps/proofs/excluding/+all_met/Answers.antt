use Rattle.std.proofs.Common.{ap₂, ◌∙◌}
use Rattle.model_questions.specs.Formulas as M
use Rattle.spec_steps.proofs.ExcludingSteps.{met_first}
use Rattle.spec_steps.proofs.excluding.+all_met.Goals as goal

pub returns-in_ok-both_of-in-len1-up : goal.returns-in_ok-both_of-in-len1-up
returns-in_ok-both_of-in-len1-up t c = λ v names.
    let both = c.in_ok-both_of-in-len1-up.ensures v names in
    let met = c.in_ok-met-in-len1-up.ensures v both.0 in
    let others = c.in_ok-others-in-len1-up.ensures v met.0 in (
      others.0,
      λ m. both.1 ∙ ap₂ M.both_of (met.1 m) (others.1 m) ∙ met_first v m.p m.specs m.c c.args.tests.now _ c.in-len1-up.len_at_least,
    )
