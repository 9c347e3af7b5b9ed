-- Steps of what happens.
use Rattle.std.proofs.Common.{◌≡◌, ℕ, List, [], ◌∷◌, ◌++◌, map, ap, ◌∙◌}
use Rattle.std.proofs.lemmas.List.{append_assoc, map-append}
use Rattle.model_questions.specs.Steps as S
use Rattle.spec_cases.specs.Namings.{Naming}
use Rattle.spec_steps.specs.declared.events.Event.{Event}
use Rattle.spec_steps.specs.Events.{event_view, event_views}

pub events_pushed : (v : Naming) (out : List Event) (e : Event) → event_views v (out ++ e ∷ []) ≡ event_views v out ++ (event_view v e ∷ [])
events_pushed v out e = map-append (event_view v) out (e ∷ [])

pub ruleset event_steps = (events_pushed, append_assoc)

-- four parts, one after another
pub four_parts : (v : Naming) (one two three : List Event) (e : Event) (a b c : List S.Event)
    → event_views v one ≡ a → event_views v two ≡ event_views v one ++ b → event_views v three ≡ event_views v two ++ c
    → event_views v (three ++ e ∷ []) ≡ a ++ (b ++ (c ++ event_view v e ∷ []))
four_parts v one two three e a b c f g h =
    events_pushed v three e
    ∙ ap (λ l. l ++ (event_view v e ∷ [])) (h ∙ ap (λ l. l ++ c) (g ∙ ap (λ l. l ++ b) f))
    ∙ append_assoc (a ++ b) c (event_view v e ∷ [])
    ∙ append_assoc a b (c ++ event_view v e ∷ [])
