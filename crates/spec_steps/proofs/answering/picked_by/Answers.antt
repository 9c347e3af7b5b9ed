use Rattle.std.proofs.Common.{◌∙◌, sym, ap}
use Rattle.core_rule_sets.specs.declared.trie_again.Binding.{Binding}
use Rattle.core_rule_sets.specs.SiteViews.{site_view}
use Rattle.model.specs.sites.Sites.{each_term, layer, pick_of}
use Rattle.model_questions.specs.Steps as S
use Rattle.spec_steps.specs.Listing.{sites}
use Rattle.spec_steps.specs.Roots.{plan}
use Rattle.spec_steps.proofs.AddingSteps.{adds_as}
use Rattle.spec_steps.proofs.answering.picked_by.Goals as goal

pub returns-in_ok-constructed-in-Constructor : goal.returns-in_ok-constructed-in-Constructor
returns-in_ok-constructed-in-Constructor c = λ v names.
    let made = c.in_ok-constructed-in-Constructor.ensures v names in
    let call = c.in-Constructor in
    let is = ap (λ (b : Binding). layer v.site (site_view b)) call.is in
    let done = sites v c.args.done.now in (
      made.0,
      λ m of bound. adds_as v m.w c.args.out.now.items c.constructed.new.out.items _ _
          (ap (λ b. S.constructed m.p m.specs m.c done (plan c.args.flag) b call.term.0 (each_term v.site c.deref.result.now) call.instance (v.site c.args.pick)) (c.in_ok-answered-in-Constructor.ensures v m)
          ∙ ap (λ l. S.constructed m.p m.specs m.c done (plan c.args.flag) (S.is_pure_made m.p m.specs m.c (v.site c.args.call)) call.term.0 (each_term v.site l) call.instance (v.site c.args.pick)) c.deref.ensures.value
          ∙ ap (S.constructed m.p m.specs m.c done (plan c.args.flag) (S.is_pure_made m.p m.specs m.c (v.site c.args.call)) call.term.0 (each_term v.site call.parameters.items) call.instance) of
          ∙ ap (λ s. S.constructed m.p m.specs m.c done (plan c.args.flag) (S.is_pure_made m.p m.specs m.c s) call.term.0 (each_term v.site call.parameters.items) call.instance (pick_of s)) (bound ∙ is)
          ∙ sym (ap (S.picked m.p m.specs m.c done (plan c.args.flag)) is))
          (made.1 m),
    )

pub returns-in_ok-extracted-in-Extractor : goal.returns-in_ok-extracted-in-Extractor
returns-in_ok-extracted-in-Extractor c = λ v names.
    let made = c.in_ok-extracted-in-Extractor.ensures v names in
    let call = c.in-Extractor in
    let is = ap (λ (b : Binding). layer v.site (site_view b)) call.is in
    let done = sites v c.args.done.now in (
      made.0,
      λ m of bound. adds_as v m.w c.args.out.now.items c.extracted.new.out.items _ _
          (ap (λ b. S.extracted m.p m.specs m.c done (plan c.args.flag) b call.term.0 (v.site c.in_ok-looked-in-Extractor.looked) (v.site c.args.pick)) (c.in_ok-answered-in-Extractor.ensures v m)
          ∙ ap (λ n. S.extracted m.p m.specs m.c done (plan c.args.flag) (S.is_pure_made m.p m.specs m.c (v.site c.args.call)) call.term.0 (v.site n) (v.site c.args.pick)) c.in_ok-looked-in-Extractor.ensures.value
          ∙ ap (S.extracted m.p m.specs m.c done (plan c.args.flag) (S.is_pure_made m.p m.specs m.c (v.site c.args.call)) call.term.0 (v.site call.parameter)) of
          ∙ ap (λ s. S.extracted m.p m.specs m.c done (plan c.args.flag) (S.is_pure_made m.p m.specs m.c s) call.term.0 (v.site call.parameter) (pick_of s)) (bound ∙ is)
          ∙ sym (ap (S.picked m.p m.specs m.c done (plan c.args.flag)) is))
          (made.1 m),
    )
