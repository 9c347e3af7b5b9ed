-- What reading rules leaves of the types that they are read with, where it is refused.
use Rattle.std.specs.Prelude.{List}
use Rattle.model.specs.lists.Syntax.{Definition}
use Rattle.model.specs.claims.Environments.{AreReadable, IsLeftByRefusal, TypeEnvironment, types_read}

-- the types of the list, which can be read, and more names
abbrev pub IsLeftOf : List Definition → TypeEnvironment → Type 0
IsLeftOf defs env = AreReadable (types_read defs) × IsLeftByRefusal (types_read defs) env
