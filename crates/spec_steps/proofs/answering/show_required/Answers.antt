use Rattle.std.proofs.Common.{map, ap}
use Rattle.model_questions.specs.Steps as S
use Rattle.spec_steps.proofs.AddingSteps.{adds_as}
use Rattle.spec_steps.proofs.answering.show_required.Goals as goal

pub returns : goal.returns
returns c = λ v names.
    let args = c.in_ok-args.ensures v names in (
      args.0,
      λ m. adds_as v m.w c.args.out.now.items c.show_all_required.new.out.items _ _ (ap (λ z. map S.shown (S.requires_of m.specs c.args.term.0 z)) (args.1 m)) (c.in_ok-show_all_required.ensures v m),
    )
