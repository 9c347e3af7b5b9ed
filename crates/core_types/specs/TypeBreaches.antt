-- Which definitions break a condition on types, and where the first error stands.
use Rattle.std.specs.Prelude.{◌≡◌, List, ◌∷◌, ◌++◌, Contains, IsTrue}
use Rattle.model.specs.lists.Syntax.{TypeTree, Definition, type_definition}
use Rattle.model.specs.lists.Names.{has_name}
use Rattle.model.specs.lists.TypeTable.{ConstantTree, constant_of, all_type_names, IsOfKnownType}
use Rattle.core_syntax.specs.declared.syntax.Error.{Error}
use Rattle.core_syntax.specs.Positions.{ErrorStandsAt, definition_positions}
use Rattle.core_types.specs.Reading.{IsRightType}

-- a definition of a list breaks one of the conditions on the list's types
pub data BreaksTypes (defs : List Definition) : Definition → Type 0 where
  -- it gives a type the name of a built-in type, or of one that is defined before it
  takes_a_name : (before after : List Definition) (t : TypeTree) → defs ≡ before ++ type_definition t ∷ after
      → IsTrue (has_name (all_type_names before) t.name.text) → BreaksTypes defs (type_definition t)
  -- what it says of its type isn't right: the marks, the variants or the fields
  isnt_right : (t : TypeTree) → Contains defs (type_definition t) → (IsRightType defs t → ⊥) → BreaksTypes defs (type_definition t)
  -- it makes a constant of an unknown type
  has_unknown_type : (d : Definition) (c : ConstantTree) → Contains defs d → Contains (constant_of d) c
      → (IsOfKnownType defs c → ⊥) → BreaksTypes defs d

-- the first of these errors stands at a definition that breaks one of the conditions
pub record FirstBreaksTypes (defs : List Definition) (errors : List Error) : Type 0 where
  pub first : Error
  pub rest : List Error
  pub is : errors ≡ first ∷ rest
  pub definition : Definition
  pub breaks : BreaksTypes defs definition
  pub stands : ErrorStandsAt (definition_positions definition) first
