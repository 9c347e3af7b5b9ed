-- What reading one definition does to a type environment and to the errors found so far.
use Rattle.std.specs.Prelude.{◌≡◌, ℕ, ◌+◌, ◌<◌, ◌≤◌, nat_eq, List, [], ◌∷◌, ◌++◌, ◌⊎◌, if◌then◌else◌, Option, Some, None, All}
use Rattle.model.specs.lists.Syntax.{Position, FieldTrees, TypeTree, Definition, type_definition}
use Rattle.model.specs.lists.Names.{number, with_name, with_names}
use Rattle.model.specs.lists.Tables.{builtin_type}
use Rattle.model.specs.lists.TypeTable.{field_names, names_inside, field_lists_of, IsUnmarkedIfPrimitive, HasAtMostOneMark, HasDistinctVariants, HasDistinctFields, HasKnownTypes, field_entries, type_entry}
use Rattle.core_syntax.specs.declared.syntax.Error.{Error}
use Rattle.core_syntax.specs.Positions.{fields_positions, type_positions}
use Rattle.core_syntax.specs.Stable.{entry_count}
use Rattle.core_types.specs.Builtin.{builtin_name, builtin_place}
use Rattle.core_types.specs.declared.builtin.BuiltinType.{BuiltinType}
use Rattle.core_types.specs.declared.type_env.TypeEnv.{TypeEnv}
use Rattle.core_types.specs.declared.types.Fields.{Fields}
use Rattle.core_types.specs.declared.types.Type as T
use Rattle.core_types.specs.Envs.{names_of, type_at}
use Rattle.core_types.specs.ToldErrors.{Notes}
use Rattle.core_types.specs.TypeViews.{fields_view, type_view, type_views}

-- a name that was no type's becomes that of the next type
pub record NamesType (name : List ℕ) (old new : TypeEnv) : Type 0 where
  pub names : names_of new ≡ with_name (names_of old) name
  pub fresh : type_at old (number (names_of old) name) ≡ None
  pub ids : (k : ℕ) → type_at new k ≡ (if nat_eq (number (names_of old) name) k then Some (entry_count old.type_map) else type_at old k)
  pub count : entry_count new.type_map ≡ entry_count old.type_map + 1
  pub const_types : new.const_types ≡ old.const_types
  pub errors : new.errors ≡ old.errors

-- a name is a type's already
pub record IsTakenByType (name : List ℕ) (old : TypeEnv) : Type 0 where
  pub id : ℕ
  pub taken : type_at old (number (names_of old) name) ≡ Some id

-- these names are met in this order, and nothing else changes
pub record MeetsNames (met : List (List ℕ)) (old new : TypeEnv) : Type 0 where
  pub names : names_of new ≡ with_names (names_of old) met
  pub types : new.types ≡ old.types
  pub type_map : new.type_map ≡ old.type_map
  pub const_types : new.const_types ≡ old.const_types
  pub errors : new.errors ≡ old.errors

-- that a name is the type's of this id is noted at a position: twice where the type is built in
abbrev pub NotesTaken : ℕ → Position → List Error → List Error → Type 0
NotesTaken id at es es' = ((id < 13) × Notes 2 (at ∷ []) es es') ⊎ ((13 ≤ id) × Notes 1 (at ∷ []) es es')

-- a name is a type's already, which is noted
pub record RefusesName (name : List ℕ) (at : Position) (old : TypeEnv) (es : List Error) (new : TypeEnv) (es' : List Error) : Type 0 where
  pub id : ℕ
  pub taken : type_at old (number (names_of old) name) ≡ Some id
  pub meets : MeetsNames (name ∷ []) old new
  pub notes : NotesTaken id at es es'

-- the name of a type's definition is read
abbrev pub NamesDefinition : Definition → TypeEnv → List Error → TypeEnv → List Error → Type 0
NamesDefinition (type_definition t) old es new es' = ((es' ≡ es) × NamesType t.name.text old new × (new.types ≡ old.types)) ⊎ RefusesName t.name.text t.at old es new es'
NamesDefinition _ old es new es' = (es' ≡ es) × (new ≡ old)

-- a built-in type becomes the next type, unless its name is taken
abbrev pub AddsBuiltin : BuiltinType → TypeEnv → TypeEnv → Type 0
AddsBuiltin b old new =
    (NamesType (builtin_name b) old new × (type_views new.types.items ≡ type_views old.types.items ++ builtin_type (builtin_place b) ∷ [])) ⊎ IsTakenByType (builtin_name b) old

-- the work on something ends with one error at these positions, after some names were met
pub record EndsAt (positions : List Position) (old : TypeEnv) (es : List Error) (new : TypeEnv) (es' : List Error) : Type 0 where
  pub met : List (List ℕ)
  pub meets : MeetsNames met old new
  pub notes : Notes 1 positions es es'

-- no two fields of a list have one name, and their types are known
pub record AreRightFields (defs : List Definition) (fields : FieldTrees) : Type 0 where
  pub distinct : HasDistinctFields fields
  pub known : HasKnownTypes defs fields

-- a list of fields becomes its entries, or it isn't right
abbrev pub ReadsFields : List Definition → FieldTrees → Option Fields → TypeEnv → List Error → TypeEnv → List Error → Type 0
ReadsFields defs fields (Some read) old es new es' = (es' ≡ es) × AreRightFields defs fields × MeetsNames (field_names fields) old new × (fields_view read ≡ field_entries defs (names_of new) fields)
ReadsFields defs fields None old es new es' = EndsAt (fields_positions fields) old es new es' × (AreRightFields defs fields → ⊥)

-- what a type must meet by itself
pub record IsRightType (defs : List Definition) (t : TypeTree) : Type 0 where
  pub unmarked : IsUnmarkedIfPrimitive t
  pub marks : HasAtMostOneMark t
  pub variants : HasDistinctVariants t
  pub fields : All (AreRightFields defs) (field_lists_of t.value)

-- a type becomes its entry, or it isn't right
abbrev pub ReadsType : List Definition → ℕ → TypeTree → Option T.Type → TypeEnv → List Error → TypeEnv → List Error → Type 0
ReadsType defs id t (Some read) old es new es' = (es' ≡ es) × IsRightType defs t × MeetsNames (names_inside t.name.text t.value) old new × (type_view read ≡ type_entry defs (names_of new) id t)
ReadsType defs id t None old es new es' = EndsAt (type_positions t) old es new es' × (IsRightType defs t → ⊥)
