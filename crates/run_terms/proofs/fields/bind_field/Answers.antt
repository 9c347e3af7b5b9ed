use Rattle.std.proofs.Common.{◌∷◌, sym, ap, ◌∙◌}
use Rattle.run_terms.specs.RunViews.{env_view, with_field}
use Rattle.run_terms.specs.ValueViews.{content_view}
use Rattle.run_terms.proofs.BindSteps.{env_pushed}
use Rattle.run_terms.proofs.fields.bind_field.Goals as goal

pub returns-in_ok-push-clause-bound : goal.returns-in_ok-push-clause-bound
returns-in_ok-push-clause-bound c =
    let around = env_view c.args.env.now.items in
    env_pushed c.args.env.now.items c.push.new.self.items c.in-Some.site c.in_ok-clone.field-0 c.in_ok-push.ensures.items
    ∙ ap (λ d. (c.in-Some.site, d) ∷ around) c.in_ok-clone.ensures.cases
    ∙ ap (λ f. with_field f (content_view c.args.content.now) around) (sym c.in-Some.is)
