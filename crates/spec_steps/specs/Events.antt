-- What happens in a condition, by numbers of sites.
use Rattle.std.specs.Prelude.{List, map}
use Rattle.model_questions.specs.Steps as S
use Rattle.spec_cases.specs.Namings.{Naming}
use Rattle.spec_cases.specs.Steps.{constraint_view}
use Rattle.spec_steps.specs.declared.events.Event.{Event}
use Rattle.spec_steps.specs.declared.events.Event.TheVariants as E

module _ (v : Naming) where
  abbrev pub event_view : Event → S.Event
  event_view (E.Tests t) = S.tests (v.site t.site) (constraint_view t.constraint)
  event_view (E.Equals s) = S.equals_at (v.site s.first) (v.site s.second)
  event_view (E.Calls u) = S.calls (v.site u)
  event_view (E.Gives s) = S.gives_at (v.site s)

  abbrev pub event_views : List Event → List S.Event
  event_views es = map event_view es
