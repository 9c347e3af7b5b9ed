-- Functions of `Context` that are pure for each of their terms, or for none.
use Rattle.std.specs.Prelude.{◌≡◌, ℕ, Bool, false, not, Option, Some, None, slice_get}
use Rattle.model.specs.rules.Program.{Program, is_pure}
use Rattle.model_code.specs.Notation.{Callee, extractor_of, constructor_of}
use Rattle.model_code.specs.ProgramNotation.{callees, outside_of}

-- an extractor is pure, and a constructor as its term is declared
abbrev pub is_impure_callee : Program → Callee → Bool
is_impure_callee p (extractor_of term) = false
is_impure_callee p (constructor_of term) = not (is_pure p term)

abbrev pub impure_or_none : Program → Option Callee → Bool
impure_or_none p None = false
impure_or_none p (Some f) = is_impure_callee p f

-- by the number of a function
abbrev pub is_impure_number : Program → ℕ → Bool
is_impure_number p n = impure_or_none p (slice_get (callees p) n)

-- what is one function from outside is pure alike
abbrev pub ArePureAlike : Program → Type 0
ArePureAlike p = (f g : Callee) (name : ℕ) → outside_of p f ≡ Some name → outside_of p g ≡ Some name → is_impure_callee p f ≡ is_impure_callee p g
