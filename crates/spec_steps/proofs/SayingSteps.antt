-- Steps of what is said.
use Rattle.std.proofs.Common.{◌≡◌, List, [], ◌∷◌, ◌++◌}
use Rattle.std.proofs.lemmas.List.{append_assoc, map-append}
use Rattle.spec_cases.specs.declared.steps.Said.{Said}
use Rattle.spec_cases.specs.declared.steps.Step.{Step}
use Rattle.spec_cases.specs.Expressions.{Saying}
use Rattle.spec_cases.specs.Namings.{Naming}
use Rattle.spec_cases.specs.Steps.{said_view, said_views, step_view, step_views}

module _ (v : Naming) (w : Saying) where
  pub saids_pushed : (out : List Said) (s : Said) → said_views v w (out ++ s ∷ []) ≡ said_views v w out ++ (said_view v w s ∷ [])
  saids_pushed out s = map-append (said_view v w) out (s ∷ [])

  pub steps_pushed : (out : List Step) (s : Step) → step_views v w (out ++ s ∷ []) ≡ step_views v w out ++ (step_view v w s ∷ [])
  steps_pushed out s = map-append (step_view v w) out (s ∷ [])

pub ruleset said_steps = (saids_pushed, append_assoc)

pub ruleset step_steps = (steps_pushed, append_assoc)
