-- What is said, and steps, that are added.
use Rattle.std.specs.Prelude.{◌≡◌, List, ◌++◌, map, Option}
use Rattle.laws_specs.specs.Specs.{SpecExpr}
use Rattle.model_questions.specs.Forms as MF
use Rattle.model_questions.specs.Steps as S
use Rattle.spec_cases.specs.declared.expressions.ExprId.{ExprId}
use Rattle.spec_cases.specs.declared.steps.Step.{Step}
use Rattle.spec_cases.specs.Expressions.{Saying}
use Rattle.spec_cases.specs.Namings.{Naming}
use Rattle.spec_cases.specs.Steps.{step_views}

-- expressions by their numbers
abbrev pub exprs_of : Saying → List ExprId → List SpecExpr
exprs_of w es = map (λ e. w.expr e.0) es

-- expressions on arguments, and on a result where there is one
abbrev pub said_on : MF.Forms → Option MF.Form → SpecExpr → S.Said
said_on args result e = record { args = args; result = result; expr = e }

abbrev pub saids_on : MF.Forms → Option MF.Form → List SpecExpr → List S.Said
saids_on args result es = map (said_on args result) es

-- steps are added
abbrev pub Adds : Naming → Saying → List Step → List Step → List S.Step → Type 0
Adds v w old new steps = step_views v w new ≡ step_views v w old ++ steps
