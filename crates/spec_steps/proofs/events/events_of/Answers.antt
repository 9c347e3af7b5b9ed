use Rattle.std.proofs.Common.{◌++◌, ◌∷◌, ◌∙◌, [], map, sym, ap}
use Rattle.model_questions.specs.Steps as S
use Rattle.spec_steps.specs.Demands.{same_views, tested_views}
use Rattle.spec_steps.specs.Events.{event_views}
use Rattle.spec_steps.specs.Listing.{sites}
use Rattle.spec_steps.specs.declared.events.Event.TheVariants as E
use Rattle.spec_steps.proofs.EventSteps.{four_parts}
use Rattle.spec_steps.proofs.events.events_of.Goals as goal

pub returns : goal.returns
returns c = λ v m.
    let d = c.args.demands.now in
    let tests = map (λ e. S.tests e.0 e.1) (tested_views v d.constraints.now) in
    let equals = map (λ e. S.equals_at e.0 e.1) (same_views v d.equalities.now) in
    let calls = map S.calls (sites v d.impure.now) in
    ap (event_views v) c.in_ok-push_event.ensures
    ∙ four_parts v c.add_tests.new.out.items c.add_equals.new.out.items c.add_calls.new.out.items (E.Gives d.result) tests equals calls
    (c.in_ok-add_tests.ensures v ∙ ap (λ l. event_views v l ++ tests) c.new-out.ensures.items) (c.in_ok-add_equals.ensures v) (c.in_ok-add_calls.ensures v)
    ∙ ap (λ l. map (λ e. S.tests e.0 e.1) l ++ (equals ++ (calls ++ S.gives_at (v.site d.result) ∷ []))) (sym m.demand.constraints)
    ∙ ap (λ l. map (λ e. S.tests e.0 e.1) m.c.constraints ++ (map (λ e. S.equals_at e.0 e.1) l ++ (calls ++ S.gives_at (v.site d.result) ∷ []))) (sym m.demand.equalities)
    ∙ ap (λ l. map (λ e. S.tests e.0 e.1) m.c.constraints ++ (map (λ e. S.equals_at e.0 e.1) m.c.equalities ++ (map S.calls l ++ S.gives_at (v.site d.result) ∷ []))) (sym m.demand.impure)
    ∙ ap (λ s. map (λ e. S.tests e.0 e.1) m.c.constraints ++ (map (λ e. S.equals_at e.0 e.1) m.c.equalities ++ (map S.calls m.c.impure ++ S.gives_at s ∷ []))) (sym m.demand.result)
