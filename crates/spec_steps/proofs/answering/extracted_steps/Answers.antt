use Rattle.std.proofs.Common.{◌++◌, ◌∙◌, sym, ap}
use Rattle.model_questions.specs.Steps as S
use Rattle.spec_cases.specs.Namings.{form_of, forms_of}
use Rattle.spec_cases.specs.Steps.{step_views}
use Rattle.spec_steps.specs.Listing.{sites}
use Rattle.spec_steps.specs.Roots.{plan}
use Rattle.spec_steps.proofs.AnsweringSteps.{extracted_by}
use Rattle.spec_steps.proofs.answering.extracted_steps.Goals as goal

pub returns : goal.returns
returns c = λ v names.
    let form = c.in_ok-form.ensures v names in
    let fields = c.in_ok-field_splits.ensures v form.0 in
    let args = c.in_ok-args.ensures v fields.0 in
    let outputs = c.in_ok-outputs.ensures v args.0 in (
      outputs.0,
      λ m. extracted_by v m.w m.p m.specs m.c (sites v c.args.done.now) (plan c.args.flag) c.args.term.0 (v.site c.args.looked) (v.site c.args.answer)
          c.args.out.now.items c.split_list.new.out.items c.field_splits.new.out.items c.assume_said.new.out.items (form_of v c.in_ok-form.form) (v.fields c.in_ok-args.args.0) (forms_of v c.deref.result.now)
          (ap (forms_of v) c.deref.ensures.value ∙ outputs.1 m) (args.1 ∙ outputs.1 m) (form.1 m)
          (c.in_ok-split_list.ensures v m.w)
          (fields.1 m ∙ ap (λ l. step_views v m.w c.split_list.new.out.items ++ S.field_splits m.p m.specs m.c (plan c.args.flag) (S.is_output_of (v.site c.args.answer)) l) (sym m.demand.constraints))
          (c.in_ok-assume_said.ensures v m),
    )
