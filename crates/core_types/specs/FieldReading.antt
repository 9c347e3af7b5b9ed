-- What reading one field does.
use Rattle.std.specs.Prelude.{◌≡◌, ℕ, nat_eq, Bool, true, false, if◌then◌else◌, List, ◌⊎◌, Option, Some, None}
use Rattle.model.specs.lists.Syntax.{FieldTree, TupleFieldTree}
use Rattle.model.specs.lists.Names.{number}
use Rattle.core_syntax.specs.declared.syntax.Error.{Error}
use Rattle.core_syntax.specs.Positions.{field_positions, tuple_field_positions}
use Rattle.core_syntax.specs.Stable.{Members, contains}
use Rattle.core_types.specs.declared.ids.Sym.{Sym}
use Rattle.core_types.specs.declared.type_env.TypeEnv.{TypeEnv}
use Rattle.core_types.specs.declared.types.StructField.{StructField}
use Rattle.core_types.specs.declared.types.TupleField.{TupleField}
use Rattle.core_types.specs.Envs.{names_of, same_symbol, symbol, type_of_name}
use Rattle.core_types.specs.ToldErrors.{Notes}

-- the number of a name is one of those that were seen
abbrev pub was_seen : Members Sym → ℕ → Bool
was_seen seen k = contains same_symbol seen (symbol k)

-- a field whose name was met becomes the field of this id, and its number is seen; its name was new and its type is known
pub record IsField (f : FieldTree) (id : ℕ) (read : StructField) (old new : TypeEnv) (seen seen' : Members Sym) : Type 0 where
  pub name : read.name.0 ≡ number (names_of old) f.name.text
  pub id_is : read.id.0 ≡ id
  pub ty : type_of_name new f.ty.text ≡ Some read.ty.0
  pub fresh : was_seen seen (number (names_of old) f.name.text) ≡ false
  pub more : (k : ℕ) → was_seen seen' k ≡ (if nat_eq (number (names_of old) f.name.text) k then true else was_seen seen k)

-- a field is read, or its name was seen before or its type isn't known
abbrev pub ReadsField : FieldTree → ℕ → Option StructField → TypeEnv → List Error → Members Sym → TypeEnv → List Error → Members Sym → Type 0
ReadsField f id (Some read) old es seen new es' seen' = (es' ≡ es) × IsField f id read old new seen seen'
ReadsField f id None old es seen new es' seen' =
    Notes 1 (field_positions f) es es' × ((was_seen seen (number (names_of old) f.name.text) ≡ true) ⊎ (type_of_name new f.ty.text ≡ None))

-- a field without a name becomes the field of this id, and its type is known
pub record IsTupleField (f : TupleFieldTree) (id : ℕ) (read : TupleField) (env : TypeEnv) : Type 0 where
  pub id_is : read.id.0 ≡ id
  pub ty : type_of_name env f.ty.text ≡ Some read.ty.0

-- a field without a name is read, or its type isn't known
abbrev pub ReadsTupleField : TupleFieldTree → ℕ → Option TupleField → TypeEnv → List Error → List Error → Type 0
ReadsTupleField f id (Some read) env es es' = (es' ≡ es) × IsTupleField f id read env
ReadsTupleField f id None env es es' = Notes 1 (tuple_field_positions f) es es' × (type_of_name env f.ty.text ≡ None)
