-- What is refused, with the environments of the definitions, as an answer of `lower`.
use Rattle.std.proofs.Common.{◌≡◌, Bool, List, Ok, Err, refl}
use Rattle.std.specs.Prelude.{Option, Some, None, Result}
use Rattle.core_syntax.specs.Answers.{Answers}
use Rattle.core_syntax.specs.declared.syntax.Fault.{Fault}
use Rattle.core_syntax.specs.declared.syntax.Fault.TheVariants.{Memory, Errors}
use Rattle.model.specs.lists.Syntax.{Definition}
use Rattle.core_rules.specs.ShownEnvs.{environment_shown_by}
use Rattle.core_types.specs.EnvViews.{environment_view}
use Rattle.cranelift_isle.specs.Environments.{AreEnvironments, AreTyped}
use Rattle.cranelift_isle.specs.Lowerings.{AreAccepted, IsLowered}
use Rattle.cranelift_isle.specs.Refusing.{refused_by, as_lower, ComesWithErrors}
use Rattle.cranelift_isle.specs.declared.environments.Environments.{Environments}
use Rattle.cranelift_isle.specs.declared.lower.Lowered.{Lowered}

-- `lower` answers the fault alone
pub fault_alone : (f : Fault) (e : Option Environments) → as_lower (Err (refused_by f e)) ≡ Err f
fault_alone (Errors es) e = refl
fault_alone (Memory m) e = refl

module _ (defs : List Definition) (expand : Bool) where
  -- accepted definitions have types and typed rules
  pub typed : AreAccepted defs expand → AreTyped defs expand
  typed (rules, a) = (a.read.types, (rules, a.read.elaborated))

  module _ (Says : Environments → Type 0) where
    -- what can't be read isn't accepted
    pub unread : (f : Fault) → Answers {A = Environments} (Err f) (AreTyped defs expand) Says → Answers {A = Lowered} (Err f) (AreAccepted defs expand) (IsLowered defs expand)
    unread (Errors es) (some, lacks) = (some, λ accepted. lacks (typed accepted))
    unread (Memory m) h = tt

    -- and has no environments
    pub hands_nothing : (f : Fault) → Answers {A = Environments} (Err f) (AreTyped defs expand) Says → ComesWithErrors defs expand (Err (refused_by f None))
    hands_nothing (Errors es) (some, lacks) = lacks
    hands_nothing (Memory m) h = tt

  -- what was read has some
  pub hands_over : (f : Fault) (e : Environments) → AreTyped defs expand → AreEnvironments defs expand (environment_view e.tyenv) (environment_shown_by e.termenv)
      → ComesWithErrors defs expand (Err (refused_by f (Some e)))
  hands_over (Errors es) e t a = (t, a)
  hands_over (Memory m) e t a = tt
