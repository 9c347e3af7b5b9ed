use Rattle.std.proofs.Common.{◌++◌, ◌∙◌, [], if◌then◌else◌, sym, ap}
use Rattle.model_questions.specs.Steps as S
use Rattle.spec_cases.specs.Namings.{form_of, forms_of}
use Rattle.spec_cases.specs.Steps.{constraint_view, step_views}
use Rattle.spec_steps.specs.Roots.{plan}
use Rattle.spec_steps.proofs.splitting.split_told.Goals as goal

pub returns-in_ok-split_list : goal.returns-in_ok-split_list
returns-in_ok-split_list c = λ v names.
    let fields = c.in_ok-fields.ensures v names in
    let below = c.in_ok-is_form_below.ensures v fields.0 in (
      fields.0,
      λ m. let old = step_views v m.w c.args.out.now.items in
          c.in_ok-split_list.ensures v m.w
          ∙ ap (λ l. old ++ S.split_each (plan c.args.flag) (forms_of v l)) c.deref.ensures.value
          ∙ ap (λ x. old ++ S.split_each (plan c.args.flag) x) (fields.1 m)
          ∙ ap (λ b. old ++ (if b then S.split_each (plan c.args.flag) (S.told_fields m.p (form_of v c.args.form) (constraint_view c.args.constraint)) else [])) (sym c.if-branch.true ∙ below m.apart),
    )
