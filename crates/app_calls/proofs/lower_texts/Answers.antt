use Rattle.std.proofs.Common.{subst}
use Rattle.app_calls.specs.Told.{IsToldOfTexts}
use Rattle.app_calls.proofs.lower_texts.Goals as goal

pub returns-in-Ok-Some-clause-told : goal.returns-in-Ok-Some-clause-told
returns-in-Ok-Some-clause-told c _ _ _ _ = (
  c.in-Some.asked,
  c.in-Some.ensures.asked,
  subst (λ texts. IsToldOfTexts c.in-Some.asked texts c.args.out.now c.told.new.out c.told.new.sizes c.told.result)
      c.in-Ok.ensures.same c.told.ensures.told,
)
