use Rattle.std.proofs.Common.{◌∙◌, slice_get, ap}
use Rattle.spec_steps.proofs.typing.arg_type.Goals as goal

pub returns : goal.returns
returns c = λ v m. c.type_in.ensures ∙ ap (λ l. slice_get l c.args.index) (c.term_types.ensures v m)
