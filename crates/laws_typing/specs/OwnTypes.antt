-- The types that a list of definitions makes are such that terms and rules can be read with them.
use Rattle.std.specs.Prelude.{List}
use Rattle.model.specs.lists.Syntax.{Definition}
use Rattle.model.specs.lists.TypeTable.{IsValidTypes}
use Rattle.model.specs.claims.Environments.{types_read, AreReadable}

-- the types and constants of a list with valid types can be read
abbrev pub OwnTypesAreReadable : Type 0
OwnTypesAreReadable = (defs : List Definition) → IsValidTypes defs → AreReadable (types_read defs)
