use Rattle.spec_steps.proofs.AddingSteps.{adds_then}
use Rattle.spec_steps.proofs.steps.new_steps.Goals as goal

pub returns : goal.returns
returns c = λ v names.
    let follows = c.in_ok-event_steps.ensures v names in
    let answers = c.in_ok-answers_each.ensures v follows.0 in
    (answers.0, λ m. adds_then v m.w c.args.out.now.items c.answers_each.new.out.items c.event_steps.new.out.items _ _ (answers.1 m) (follows.1 m))
