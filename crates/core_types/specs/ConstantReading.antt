-- What reading a constant does to a type environment and to the errors found so far.
use Rattle.std.specs.Prelude.{◌≡◌, ℕ, nat_eq, List, [], ◌∷◌, ◌⊎◌, if◌then◌else◌, Some, None}
use Rattle.model.specs.lists.Syntax.{Position, Name, Definition, extern_definition, extern_const}
use Rattle.model.specs.lists.Names.{number, with_name}
use Rattle.core_syntax.specs.declared.syntax.Error.{Error}
use Rattle.core_types.specs.declared.type_env.TypeEnv.{TypeEnv}
use Rattle.core_types.specs.Envs.{names_of, constant_at, type_of_name}
use Rattle.core_types.specs.ToldErrors.{Notes}

-- a name is met, and is that of a constant of a type that is known
pub record TypesConstant (name ty : List ℕ) (old new : TypeEnv) : Type 0 where
  pub id : ℕ
  pub known : type_of_name old ty ≡ Some id
  pub names : names_of new ≡ with_name (names_of old) name
  pub constants : (k : ℕ) → constant_at new k ≡ (if nat_eq (number (names_of old) name) k then Some id else constant_at old k)
  pub types : new.types ≡ old.types
  pub type_map : new.type_map ≡ old.type_map
  pub errors : new.errors ≡ old.errors

-- a constant is read, or its type isn't known, which is noted at its position
abbrev pub ReadsConstant : Name → Name → Position → TypeEnv → List Error → TypeEnv → List Error → Type 0
ReadsConstant name ty at old es new es' =
    ((es' ≡ es) × TypesConstant name.text ty.text old new) ⊎ (Notes 1 (at ∷ []) es es' × (new ≡ old) × (type_of_name old ty.text ≡ None))

-- the constant that a definition makes is read
abbrev pub ReadsDefinition : Definition → TypeEnv → List Error → TypeEnv → List Error → Type 0
ReadsDefinition (extern_definition (extern_const name ty at)) old es new es' = ReadsConstant name ty at old es new es'
ReadsDefinition _ old es new es' = (es' ≡ es) × (new ≡ old)
