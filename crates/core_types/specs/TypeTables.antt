-- What a type environment is: the type table of a list of definitions.
use Rattle.std.specs.Prelude.{◌≡◌, ℕ, List, []}
use Rattle.std.specs.Bool.{◌==◌}
use Rattle.model.specs.lists.Syntax.{Definition}
use Rattle.model.specs.rules.Meaning.{look}
use Rattle.model.specs.lists.TypeTable.{type_table, type_of_number, constant_types}
use Rattle.core_types.specs.declared.type_env.TypeEnv.{TypeEnv}
use Rattle.core_types.specs.Envs.{names_of, symbol_of, type_at, constant_at}
use Rattle.model.specs.lists.Names.{AreNumbersOf}
use Rattle.core_types.specs.TypeViews.{type_views}

-- the types and the constants are those of the definitions, and the names are these, which may go on after those of the
-- type table
pub record SeesTypes (env : TypeEnv) (defs : List Definition) (texts : List (List ℕ)) : Type 0 where
  pub names : names_of env ≡ texts
  pub inverse : AreNumbersOf texts (symbol_of env)
  pub types : type_views env.types.items ≡ type_table defs
  pub ids : (k : ℕ) → type_at env k ≡ type_of_number defs texts k
  pub constants : (k : ℕ) → constant_at env k ≡ look (λ j. j == k) (constant_types defs)
  pub errors : env.errors.items ≡ []
