-- What comes with errors: the environments of definitions whose types and rules can be read.
use Rattle.std.specs.Prelude.{Bool, List, Option, Some, None, Result, Ok, Err, ⊤}
use Rattle.core_syntax.specs.declared.syntax.Fault.{Fault}
use Rattle.core_syntax.specs.declared.syntax.Fault.TheVariants as Fault
use Rattle.model.specs.lists.Syntax.{Definition}
use Rattle.core_rules.specs.ShownEnvs.{environment_shown_by}
use Rattle.core_types.specs.EnvViews.{environment_view}
use Rattle.cranelift_isle.specs.Environments.{AreEnvironments, AreTyped}
use Rattle.cranelift_isle.specs.declared.environments.Environments.{Environments}
use Rattle.cranelift_isle.specs.declared.lower.Lowered.{Lowered}
use Rattle.cranelift_isle.specs.declared.lower.Refused.{Refused}
use Rattle.cranelift_isle.specs.declared.lower.Refused.TheVariants.{Memory, Errors}

-- a fault, with what definitions became
abbrev pub refused_by : Fault → Option Environments → Refused
refused_by (Fault.Memory e) environments = Memory e
refused_by (Fault.Errors es) environments = Errors es environments

-- the answer of `lower`
abbrev pub as_lower : Result Lowered Refused → Result Lowered Fault
as_lower (Ok x) = Ok x
as_lower (Err (Memory e)) = Err (Fault.Memory e)
as_lower (Err (Errors es environments)) = Err (Fault.Errors es)

-- the environments that come with errors are those of the definitions; where none come, types or rules can't be read
abbrev pub ComesWithErrors : List Definition → Bool → Result Lowered Refused → Type 0
ComesWithErrors defs expand (Ok x) = ⊤
ComesWithErrors defs expand (Err (Memory e)) = ⊤
ComesWithErrors defs expand (Err (Errors es None)) = AreTyped defs expand → ⊥
ComesWithErrors defs expand (Err (Errors es (Some e))) = AreTyped defs expand × AreEnvironments defs expand (environment_view e.tyenv) (environment_shown_by e.termenv)
