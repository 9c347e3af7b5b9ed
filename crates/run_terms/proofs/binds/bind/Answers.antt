use Rattle.std.proofs.Common.{sym, ap, ◌∙◌}
use Rattle.model.specs.trees.Run.{all_bound}
use Rattle.run_terms.specs.RunViews.{env_view, found_view}
use Rattle.run_terms.proofs.BindSteps.{env_pushed}
use Rattle.run_terms.proofs.binds.bind.Goals as goal

pub returns-in_ok-push-in-There-clause-bound : goal.returns-in_ok-push-in-There-clause-bound
returns-in_ok-push-in-There-clause-bound c = λ calls.
    ap (λ e. all_bound e calls) (env_pushed c.args.env.now.items c.push.new.self.items c.args.site c.in-There.content c.in_ok-push-in-There.ensures.items)
    ∙ ap (λ h. found_view h (env_view c.args.env.now.items) calls c.args.site) (sym c.in-There.is)
