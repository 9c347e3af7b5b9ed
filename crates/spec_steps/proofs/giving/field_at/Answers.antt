use Rattle.std.proofs.Common.{◌∙◌, slice_get, sym, ap}
use Rattle.model_questions.specs.Forms as MF
use Rattle.spec_steps.proofs.GivingSteps.{fields_listed}
use Rattle.spec_steps.proofs.giving.field_at.Goals as goal

pub returns : goal.returns
returns c = λ v names.
    c.form_in.ensures v ∙ ap (λ l. slice_get l c.args.index) (sym (ap MF.form_list (c.in_ok-list.ensures v names) ∙ fields_listed v c.in_ok-list.list.now))
