use Rattle.std.proofs.Common.{◌∙◌, ◌++◌, [], sym, ap}
use Rattle.core_types.specs.TypeViews.{type_views}
use Rattle.model_questions.specs.Questions as Q
use Rattle.model_questions.specs.Steps as S
use Rattle.spec_cases.specs.Steps.{step_views}
use Rattle.spec_steps.specs.Roots.{plan}
use Rattle.spec_asked.proofs.asking.asked_demands.Goals as goal

pub returns-clause-asked : goal.returns-clause-asked
returns-clause-asked c = λ v m unknowns names said are.
    let asked = c.in_ok-questions.ensures v m.w unknowns names m.apart said in
    let made = c.in_ok-steps_of.ensures v asked.0 in
    let steps = made.1 m in (
      made.0,
      asked.1
          ∙ ap (λ s. Q.paths (type_views c.args.demands.now.types.now) s (step_views v m.w c.deref.result.now) Q.nothing_known []) (sym are)
          ∙ ap (λ ts. Q.paths ts m.specs (step_views v m.w c.deref.result.now) Q.nothing_known []) m.demand.types
          ∙ ap (λ l. Q.paths m.p.types m.specs l Q.nothing_known []) (ap (step_views v m.w) c.deref.ensures.value ∙ steps ∙ ap (λ l. step_views v m.w l ++ S.steps_of m.p m.specs m.c (plan c.args.flag)) c.new-steps.ensures.items),
    )
