use Rattle.std.proofs.Common.{map, ap}
use Rattle.model_questions.specs.Steps as S
use Rattle.spec_steps.proofs.AddingSteps.{adds_as}
use Rattle.spec_steps.proofs.steps.result_steps.Goals as goal

pub returns : goal.returns
returns c = λ v names.
    let form = c.in_ok-form.ensures v names in (
      form.0,
      λ m. adds_as v m.w c.args.out.now.items c.show_provided.new.out.items _ _ (ap (λ f. map S.shown (S.provides_of m.specs m.c.term (v.fields c.args.args.0) f)) (form.1 m)) (c.in_ok-show_provided.ensures v m),
    )
