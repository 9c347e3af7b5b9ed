-- What reading a part of a type promises of each list of definitions whose type names are all seen.
use Rattle.std.specs.Prelude.{ℕ, List, [], ◌∷◌, Option, IsTrue}
use Rattle.model.specs.lists.Syntax.{Position, Name, FieldTrees, VariantTree, TypeTree, TypeValueTree, primitive_value, Definition}
use Rattle.model.specs.lists.Names.{has_name}
use Rattle.model.specs.lists.TypeTable.{all_type_names, type_names}
use Rattle.core_syntax.specs.declared.syntax.Error.{Error}
use Rattle.core_syntax.specs.Stable.{Members}
use Rattle.core_types.specs.declared.ids.Sym.{Sym}
use Rattle.core_types.specs.declared.type_env.TypeEnv.{TypeEnv}
use Rattle.core_types.specs.declared.types.Fields.{Fields}
use Rattle.core_types.specs.declared.types.Type as T
use Rattle.core_types.specs.declared.types.Variant.{Variant}
use Rattle.core_types.specs.Envs.{names_of}
use Rattle.core_types.specs.Reading.{ReadsFields, ReadsType}
use Rattle.core_types.specs.Stages.{Sees, AreMet}
use Rattle.core_types.specs.VariantReading.{of_value, HasSeen, ReadsVariant, ReadsVariants, FillsDefinition}

abbrev pub FieldsAreRead : FieldTrees → Option Fields → TypeEnv → List Error → TypeEnv → List Error → Type 0
FieldsAreRead fields o old es new es' = (defs : List Definition) → Sees old (all_type_names defs) → ReadsFields defs fields o old es new es'

-- a type of this id, whose name was met
abbrev pub TypeIsRead : ℕ → TypeTree → Option T.Type → TypeEnv → List Error → TypeEnv → List Error → Type 0
TypeIsRead id t o old es new es' =
    (defs : List Definition) → Sees old (all_type_names defs) → IsTrue (has_name (names_of old) t.name.text) → ReadsType defs id t o old es new es'

-- a primitive type names no other one, so that no type needs to be seen
abbrev pub PrimitiveIsRead : ℕ → TypeTree → Name → Option T.Type → TypeEnv → List Error → TypeEnv → List Error → Type 0
PrimitiveIsRead id t name o old es new es' = (defs : List Definition) (at : Position) → ReadsType defs id (of_value t (primitive_value name at)) o old es new es'

-- a type whose value is this one, wherever the value stands
abbrev pub ValueIsRead : ℕ → TypeTree → (Position → TypeValueTree) → Option T.Type → TypeEnv → List Error → TypeEnv → List Error → Type 0
ValueIsRead id t value o old es new es' =
    (defs : List Definition) (at : Position) → Sees old (all_type_names defs) → ReadsType defs id (of_value t (value at)) o old es new es'

abbrev pub VariantsAreRead : List ℕ → List VariantTree → Option (List Variant) → TypeEnv → List Error → TypeEnv → List Error → Type 0
VariantsAreRead ty vs o old es new es' = (defs : List Definition) → Sees old (all_type_names defs) → ReadsVariants defs ty vs o old es new es'

-- a variant of this id, after those whose names were seen
abbrev pub OneVariantIsRead : List ℕ → ℕ → VariantTree → Option Variant → TypeEnv → List Error → Members Sym → TypeEnv → List Error → Members Sym → Type 0
OneVariantIsRead ty id v o old es seen new es' seen' =
    (defs : List Definition) (earlier : List (List ℕ)) → Sees old (all_type_names defs) → HasSeen (names_of old) seen earlier → ReadsVariant defs ty id v earlier o old es new es' seen'

-- what the type of a definition is, where the name of the type was met
abbrev pub DefinitionIsFilled : Definition → TypeEnv → List Error → TypeEnv → List Error → Type 0
DefinitionIsFilled d old es new es' =
    (defs : List Definition) → Sees old (all_type_names defs) → AreMet old (type_names (d ∷ [])) → FillsDefinition defs d old es new es'
