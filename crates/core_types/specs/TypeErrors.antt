-- Which errors are told of the types and the constants of a list of definitions.
use Rattle.std.specs.Prelude.{◌≡◌, ℕ, List, [], ◌∷◌, ◌++◌, if◌then◌else◌}
use Rattle.model.specs.lists.Syntax.{Definition, type_definition, extern_definition, extern_const}
use Rattle.model.specs.lists.Names.{has_name}
use Rattle.model.specs.lists.TypeTable.{builtin_names, type_names, IsOfKnownType}
use Rattle.core_syntax.specs.declared.syntax.Error.{Error}
use Rattle.core_syntax.specs.Positions.{type_positions}
use Rattle.core_types.specs.Reading.{IsRightType}
use Rattle.core_types.specs.ToldErrors.{Tells, TellsUnless, Told}

-- how many errors say that a type has the name of another one, after these definitions: two where the other one is built in
abbrev pub times_taken : List Definition → List ℕ → ℕ
times_taken before x = if has_name builtin_names x then 2 else (if has_name (type_names before) x then 1 else 0)

-- of the name of a type, at the type's position
abbrev pub TellsOfName : List Definition → Definition → List Error → Type 0
TellsOfName before (type_definition t) es = Tells (times_taken before t.name.text) (t.at ∷ []) es
TellsOfName before _ es = es ≡ []

-- of what a type is, also where its name is taken: the first thing that isn't right, and no other
abbrev pub TellsOfType : List Definition → List Definition → Definition → List Error → Type 0
TellsOfType defs before (type_definition t) es = TellsUnless (IsRightType defs t) (type_positions t) es
TellsOfType defs before _ es = es ≡ []

-- of a constant whose type isn't known, at the constant's position
abbrev pub TellsOfConstant : List Definition → List Definition → Definition → List Error → Type 0
TellsOfConstant defs before (extern_definition (extern_const name ty at)) es = TellsUnless (IsOfKnownType defs (record { name = name; ty = ty })) (at ∷ []) es
TellsOfConstant defs before _ es = es ≡ []

-- the errors are those of the names of all types, then those of what the types are, then those of constants
pub record AreErrorsOfTypes (defs : List Definition) (errors : List Error) : Type 0 where
  pub of_names : List Error
  pub of_types : List Error
  pub of_constants : List Error
  pub are : errors ≡ of_names ++ of_types ++ of_constants
  pub names : Told TellsOfName defs of_names
  pub types : Told (TellsOfType defs) defs of_types
  pub constants : Told (TellsOfConstant defs) defs of_constants
