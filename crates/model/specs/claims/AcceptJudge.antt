-- The judge of acceptance: the typed rules of a list of definitions whose rules can be told apart, by computing.
use Rattle.std.specs.Prelude.{Bool, true, false, List, [], ◌∷◌, Option, Some, None, if◌then◌else◌}
use Rattle.model.specs.lists.Syntax.{Definition}
use Rattle.model.specs.lists.Elaborated.{TypedRules}
use Rattle.model.specs.rules.Outcome.{then_option}
use Rattle.model.specs.rules.Program.{Program}
use Rattle.model.specs.sites.Overlap.{check_reports}
use Rattle.model.specs.claims.Layers.{own_program}
use Rattle.model.specs.claims.ReadJudge.{read_list}

-- whether the rules of a program can be told apart: nothing is reported of them
abbrev pub is_checkable : Program → Bool
is_checkable p = elim (check_reports p) [ [] ↦ true | r ∷ rs ↦ false ]

-- the typed rules of a list that is read with its own types, where they can be told apart
abbrev pub accepted_list : List Definition → Bool → Option TypedRules
accepted_list defs expand = then_option (read_list defs expand) (λ rules. if is_checkable (own_program defs rules) then Some rules else None)
