-- What a call answers that collects errors.
use Rattle.std.specs.Prelude.{◌≡◌, ◌≢◌, List, [], All, Option, Some, None, Result, Ok, Err, ⊤}
use Rattle.core_syntax.specs.declared.syntax.Error.{Error}
use Rattle.core_syntax.specs.declared.syntax.Error.TheVariants.{TypeError, UnreachableError, OverlapError, ShadowedError, LimitError}
use Rattle.core_syntax.specs.declared.syntax.Fault.{Fault}
use Rattle.core_syntax.specs.declared.syntax.Fault.TheVariants.{Memory, Errors}
use Rattle.core_syntax.specs.declared.syntax.Limit.{Limit}

-- an Ok gives the claim and what it says; an answer with errors names at least one, and gives that the claim is
-- false; want of memory says nothing
abbrev pub Answers : {A : Type 0} → Result A Fault → Type 0 → (A → Type 0) → Type 0
Answers (Ok x) claim says = claim × says x
Answers (Err (Errors es)) claim says = (es.items ≢ []) × (claim → ⊥)
Answers (Err (Memory e)) claim says = ⊤

-- the limit that an error says was passed
abbrev pub limit_of : Error → Option Limit
limit_of (LimitError limit msg span) = Some limit
limit_of (TypeError msg span) = None
limit_of (UnreachableError msg span) = None
limit_of (OverlapError msg rules) = None
limit_of (ShadowedError shadowed mask) = None

-- a fact of the errors of an answer
abbrev pub OnErrors : {A : Type 0} → Result A Fault → (List Error → Type 0) → Type 0
OnErrors (Ok x) P = ⊤
OnErrors (Err (Errors es)) P = P es.items
OnErrors (Err (Memory e)) P = ⊤

-- no error of an answer says that a limit was passed
abbrev pub NoLimit : {A : Type 0} → Result A Fault → Type 0
NoLimit r = OnErrors r (All (λ e. limit_of e ≡ None))
