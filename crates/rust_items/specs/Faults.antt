-- What an error tells.
use Rattle.std.specs.Prelude.{ℕ, List, string_bytes}
use Rattle.std.specs.Bool.{⊤}
use Rattle.rust_items.specs.declared.faults.CodeError.{CodeError}
use Rattle.rust_items.specs.declared.faults.CodeError.TheVariants.{Memory, Names}

-- what is told of names. Nothing is said where memory was refused
abbrev pub TellsOf : CodeError → (List ℕ → Type 0) → Type 0
TellsOf Memory Says = ⊤
TellsOf (Names text) Says = Says (string_bytes text)
