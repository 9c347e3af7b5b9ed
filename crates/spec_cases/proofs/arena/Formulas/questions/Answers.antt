use Rattle.std.proofs.Common.{◌∙◌, ◌++◌, ap}
use Rattle.spec_cases.specs.declared.trails.Trail.TheVariants as T
use Rattle.spec_cases.specs.Asking.{asked_in}
use Rattle.spec_cases.specs.Steps.{step_views}
use Rattle.spec_cases.specs.Trails.{trails_in}
use Rattle.spec_cases.proofs.arena.Formulas.questions.Goals as goal

pub returns : goal.returns
returns c = λ v w s names apart all links.
    let made = c.in_ok-paths.ensures v w s names apart all links in
    (made.0, made.1, made.2 ∙ ap (λ l. trails_in s l ++ asked_in v s c.args.asking.now (step_views v w c.args.steps.now) T.Start) c.new-out.ensures.items)
