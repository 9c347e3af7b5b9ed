use Rattle.std.proofs.Common.{◌++◌, ◌-◌, ◌∙◌, drop, length, take, sym, ap}
use Rattle.core_rule_sets.specs.declared.trie_again.Binding.{Binding}
use Rattle.core_rule_sets.specs.SiteViews.{site_view}
use Rattle.model.specs.sites.Sites.{each_term, layer}
use Rattle.model_questions.specs.Forms as MF
use Rattle.model_questions.specs.Steps as S
use Rattle.spec_cases.specs.Namings.{layer_of_place}
use Rattle.spec_steps.specs.Forming.{each_form}
use Rattle.spec_steps.specs.Listing.{sites}
use Rattle.spec_steps.proofs.PlacingSteps.{forms_added, same_forms}
use Rattle.spec_steps.proofs.placing.+placing.Goals as goal

pub form_by-returns-in_ok-called_form-in-Extractor : goal.form_by-returns-in_ok-called_form-in-Extractor
form_by-returns-in_ok-called_form-in-Extractor t c = λ v names.
    let made = c.in_ok-called_form-in-Extractor.ensures v names in
    let is = ap (λ (b : Binding). layer v.site (site_view b)) c.in-Extractor.is in
    let done = sites v c.args.done.now in (
      made.0,
      λ m bound. made.1 m ∙ ap (λ s. S.answer_form m.p m.specs m.c (S.is_answered m.p m.specs m.c done s) s s) (bound ∙ is) ∙ sym (ap (S.form_at m.p m.specs m.c done) is),
    )

pub form_by-returns-in_ok-called_form-in-Constructor : goal.form_by-returns-in_ok-called_form-in-Constructor
form_by-returns-in_ok-called_form-in-Constructor t c = λ v names.
    let made = c.in_ok-called_form-in-Constructor.ensures v names in
    let is = ap (λ (b : Binding). layer v.site (site_view b)) c.in-Constructor.is in
    let done = sites v c.args.done.now in (
      made.0,
      λ m bound. made.1 m ∙ ap (λ s. S.answer_form m.p m.specs m.c (S.is_answered m.p m.specs m.c done s) s s) (bound ∙ is) ∙ sym (ap (S.form_at m.p m.specs m.c done) is),
    )

pub form_by-returns-in_ok-made-in-MakeVariant : goal.form_by-returns-in_ok-made-in-MakeVariant
form_by-returns-in_ok-made-in-MakeVariant t c = λ v names.
    let made = c.in_ok-made-in-MakeVariant.ensures v names in
    let variant = c.in-MakeVariant in
    let done = sites v c.args.done.now in (
      made.0,
      λ m bound. ap (MF.variant_by variant.ty.0 variant.variant.0) (made.1 m ∙ ap (λ l. S.forms_at m.p m.specs m.c done (each_term v.site l)) c.deref.ensures.value)
          ∙ sym (ap (λ b. S.form_at m.p m.specs m.c done (layer v.site (site_view b))) variant.is),
    )

pub form_by-returns-in_ok-made-in-MakeStruct : goal.form_by-returns-in_ok-made-in-MakeStruct
form_by-returns-in_ok-made-in-MakeStruct t c = λ v names.
    let made = c.in_ok-made-in-MakeStruct.ensures v names in
    let whole = c.in-MakeStruct in
    let done = sites v c.args.done.now in (
      made.0,
      λ m bound. ap (MF.struct_by whole.ty.0) (made.1 m ∙ ap (λ l. S.forms_at m.p m.specs m.c done (each_term v.site l)) c.deref-in-MakeStruct.ensures.value)
          ∙ sym (ap (λ b. S.form_at m.p m.specs m.c done (layer v.site (site_view b))) whole.is),
    )

pub part_by-returns-in_ok-called_form-in-Extractor : goal.part_by-returns-in_ok-called_form-in-Extractor
part_by-returns-in_ok-called_form-in-Extractor t c = λ v names.
    let made = c.in_ok-called_form-in-Extractor.ensures v names in
    let is = ap (λ (b : Binding). layer v.site (site_view b)) c.in-Extractor.is in
    let done = sites v c.args.done.now in
    let place = layer_of_place v c.args.place in (
      made.0,
      λ m bound. made.1 m ∙ ap (λ s. S.answer_form m.p m.specs m.c (S.is_answered m.p m.specs m.c done s) s s) (bound ∙ is) ∙ sym (ap (λ s. S.part_form m.p m.specs m.c done s place) is),
    )

pub part_by-returns-in_ok-called_form-in-Constructor : goal.part_by-returns-in_ok-called_form-in-Constructor
part_by-returns-in_ok-called_form-in-Constructor t c = λ v names.
    let made = c.in_ok-called_form-in-Constructor.ensures v names in
    let is = ap (λ (b : Binding). layer v.site (site_view b)) c.in-Constructor.is in
    let done = sites v c.args.done.now in
    let place = layer_of_place v c.args.place in (
      made.0,
      λ m bound. made.1 m ∙ ap (λ s. S.answer_form m.p m.specs m.c (S.is_answered m.p m.specs m.c done s) s s) (bound ∙ is) ∙ sym (ap (λ s. S.part_form m.p m.specs m.c done s place) is),
    )

pub add_forms-returns-in_ok-add_forms-in-len1-up : goal.add_forms-returns-in_ok-add_forms-in-len1-up
add_forms-returns-in_ok-add_forms-in-len1-up t c = λ v names.
    let last = c.in_ok-add_forms-in-len1-up.ensures v names in
    let first = c.in_ok-form-in-len1-up.ensures v last.0 in
    let done = sites v c.args.done.now in (
      first.0,
      λ m. forms_added v m.p m.specs m.c done c.args.sources.now c.first-item.result c.args.out.now.items c.in_ok-form-in-len1-up.form c.add_forms.new.out.items c.in-len1-up.len_at_least c.first-item.is
          (first.1 m ∙ ap (λ n. S.form_at m.p m.specs m.c done (v.site n)) c.in_ok-source-in-len1-up.ensures.value)
          (last.1 m ∙ ap (λ l. each_form v l ++ MF.form_list (S.forms_at m.p m.specs m.c done (each_term v.site (take (length c.args.sources.now - 1) (drop 1 c.args.sources.now))))) c.in_ok-push_form-in-len1-up.ensures),
    )

pub fields_at-returns : goal.fields_at-returns
fields_at-returns t c = λ v names.
    let made = c.in_ok-made_fields.ensures v names in
    let added = c.in_ok-add_forms.ensures v made.0 in (
      added.0,
      λ m. let all = S.forms_at m.p m.specs m.c (sites v c.args.done.now) (each_term v.site c.args.sources.now) in
          made.1 ∙ same_forms v c.add_forms.new.out.items all (added.1 m ∙ ap (λ l. each_form v l ++ MF.form_list all) c.new-out.ensures.items),
    )
