use Rattle.std.proofs.Common.{◌∙◌, slice_get, ap}
use Rattle.spec_steps.proofs.typing.own_type.Goals as goal

pub returns : goal.returns
returns c = λ v m. c.type_in.ensures ∙ ap (λ l. slice_get l c.args.index) (c.own_types.ensures v m)
