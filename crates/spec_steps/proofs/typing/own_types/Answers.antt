use Rattle.std.proofs.Common.{◌∙◌, slice_get, sym, ap}
use Rattle.model.specs.sites.Serves.{term_args}
use Rattle.spec_steps.proofs.TypingSteps.{types_said}
use Rattle.spec_steps.proofs.typing.own_types.Goals as goal

pub returns : goal.returns
returns c = λ v m. c.term_types.ensures v m ∙ (ap (λ t. term_args (slice_get m.p.terms t)) (sym m.demand.term) ∙ sym (types_said m.p m.c.term))
