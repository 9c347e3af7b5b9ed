-- How far the reading of a list of definitions is.
use Rattle.std.specs.Prelude.{◌≡◌, ℕ, false, List, [], ◌++◌, length, map, reverse, Option, None, option_map, slice_get, All, IsTrue}
use Rattle.std.specs.List.{find, flat_map, enumerate_from}
use Rattle.std.specs.Str.{bytes_eq}
use Rattle.model.specs.lists.Syntax.{TypeTree, Definition}
use Rattle.model.specs.lists.Names.{has_name, with_names, IsDistinct}
use Rattle.model.specs.rules.Outcome.{then_option}
use Rattle.model.specs.lists.Tables.{TypeEntry, builtin_type}
use Rattle.model.specs.lists.TypeTable.{builtin_names, type_trees, type_names, all_type_names, names_inside, ConstantTree, constant_trees, type_names_met, type_id, type_or_first, type_of_number, place_from, IsOfKnownType, builtin_from, type_entry, type_table}
use Rattle.core_syntax.specs.declared.syntax.Error.{Error}
use Rattle.core_syntax.specs.Stable.{entry_count}
use Rattle.core_types.specs.declared.builtin.BuiltinType.{BuiltinType}
use Rattle.core_types.specs.declared.type_env.TypeEnv.{TypeEnv}
use Rattle.core_types.specs.Builtin.{builtin_name, builtin_place}
use Rattle.core_types.specs.Envs.{names_of, type_at, constant_at, IsInterned}
use Rattle.core_types.specs.Reading.{IsRightType}
use Rattle.core_types.specs.TypeViews.{type_views}

-- the types have these names, in the order of their numbers, and no constant was read
pub record Sees (env : TypeEnv) (types : List (List ℕ)) : Type 0 where
  pub ids : (k : ℕ) → type_at env k ≡ then_option (slice_get (names_of env) k) (λ x. place_from 0 x types)
  pub known : (x : List ℕ) → has_name (names_of env) x ≡ false → place_from 0 x types ≡ None
  pub count : entry_count env.type_map ≡ length types
  pub constants : (k : ℕ) → constant_at env k ≡ None
  pub errors : env.errors.items ≡ []

-- the types that have a name of their own are seen; they have all names that types of these definitions have
pub record KnowsTypes (defs : List Definition) (env : TypeEnv) : Type 0 where
  pub kept : List Definition
  pub sees : Sees env (all_type_names kept)
  pub same : (x : List ℕ) → has_name (all_type_names kept) x ≡ has_name (all_type_names defs) x

-- each name has its number, the types are known so far, and where there is no error the environment is right so far
pub record ReadsSoFar (Knows Right : TypeEnv → Type 0) (env : TypeEnv) (es : List Error) : Type 0 where
  pub inverse : IsInterned env
  pub knows : Knows env
  pub right : es ≡ [] → Right env

-- these built-in types are left to be added
pub record Booting (env : TypeEnv) (rest : List BuiltinType) : Type 0 where
  pub inverse : IsInterned env
  pub sees : Sees env (names_of env)
  pub whole : names_of env ++ map builtin_name rest ≡ builtin_names
  pub types : type_views env.types.items ++ map (λ b. builtin_type (builtin_place b)) rest ≡ builtin_from 0 builtin_names

-- the names of the types of these definitions are left to be read
pub record Naming (defs rest : List Definition) (env : TypeEnv) : Type 0 where
  pub named : List (List ℕ)
  pub sees : Sees env named
  pub distinct : IsDistinct named
  pub whole : named ++ type_names rest ≡ builtin_names ++ type_names defs
  pub names : with_names (names_of env) (type_names rest) ≡ with_names builtin_names (type_names defs)
  pub types : type_views env.types.items ≡ builtin_from 0 builtin_names

-- the names of the types of the definitions before these are read
abbrev pub NamesTypes : List Definition → List Definition → List Definition → TypeEnv → List Error → Type 0
NamesTypes defs before rest env es = ReadsSoFar (KnowsTypes before) (Naming defs rest) env es

-- the names inside these types, in order
abbrev pub names_in_types : List Definition → List (List ℕ)
names_in_types defs = flat_map (λ t. names_inside t.name.text t.value) (type_trees defs)

-- the names of the constants, in order
abbrev pub constant_names : List Definition → List (List ℕ)
constant_names defs = map (λ c. c.name.text) (constant_trees defs)

-- the entries of these types, the first of this id
abbrev pub entries_from : List Definition → ℕ → List TypeTree → List TypeEntry
entries_from defs id ts = map (λ p. type_entry defs (type_names_met defs) p.0 p.1) (enumerate_from id ts)

-- each of these names was met
abbrev pub AreMet : TypeEnv → List (List ℕ) → Type 0
AreMet env xs = All (λ x. IsTrue (has_name (names_of env) x)) xs

-- the types of these definitions are left to be read
pub record Filling (defs rest : List Definition) (env : TypeEnv) : Type 0 where
  pub sees : Sees env (all_type_names defs)
  pub distinct : IsDistinct (all_type_names defs)
  pub names : with_names (names_of env) (names_in_types rest ++ constant_names defs) ≡ type_names_met defs
  pub types : type_views env.types.items ++ entries_from defs (length (type_views env.types.items)) (type_trees rest) ≡ type_table defs
  pub right : All (IsRightType defs) (type_trees rest) → All (IsRightType defs) (type_trees defs)

-- such types are read
abbrev pub FillsTypes : List Definition → List Definition → TypeEnv → List Error → Type 0
FillsTypes defs rest env es = ReadsSoFar (KnowsTypes defs) (Filling defs rest) env es

-- the type of the last of these definitions of a constant
abbrev pub last_type : List Definition → List ConstantTree → List ℕ → Option ℕ
last_type defs read x = option_map (λ c. type_or_first defs c.ty) (find (λ c. bytes_eq c.name.text x) (reverse read))

-- the constants of these definitions are left to be read
pub record TypingConstants (defs rest : List Definition) (env : TypeEnv) : Type 0 where
  pub ids : (k : ℕ) → type_at env k ≡ type_of_number defs (names_of env) k
  pub known : (x : List ℕ) → has_name (names_of env) x ≡ false → type_id defs x ≡ None
  pub errors : env.errors.items ≡ []
  pub distinct : IsDistinct (all_type_names defs)
  pub names : with_names (names_of env) (constant_names rest) ≡ type_names_met defs
  pub types : type_views env.types.items ≡ type_table defs
  pub right : All (IsRightType defs) (type_trees defs)
  pub read : List ConstantTree
  pub whole : read ++ constant_trees rest ≡ constant_trees defs
  pub constants : (k : ℕ) → constant_at env k ≡ then_option (slice_get (type_names_met defs) k) (last_type defs read)
  pub of_known : All (IsOfKnownType defs) (constant_trees rest) → All (IsOfKnownType defs) (constant_trees defs)

-- the types that have a name of their own are found by it, while constants are read
pub record LooksUpTypes (defs : List Definition) (env : TypeEnv) : Type 0 where
  pub kept : List Definition
  pub ids : (k : ℕ) → type_at env k ≡ type_of_number kept (names_of env) k
  pub known : (x : List ℕ) → has_name (names_of env) x ≡ false → type_id kept x ≡ None
  pub same : (x : List ℕ) → has_name (all_type_names kept) x ≡ has_name (all_type_names defs) x

-- such constants are read
abbrev pub ReadsConstants : List Definition → List Definition → TypeEnv → List Error → Type 0
ReadsConstants defs rest env es = ReadsSoFar (LooksUpTypes defs) (TypingConstants defs rest) env es
