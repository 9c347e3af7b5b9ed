-- What a type environment shows to those who read terms and rules with it.
use Rattle.std.specs.Prelude.{length}
use Rattle.model.specs.claims.Environments.{TypeEnvironment}
use Rattle.core_types.specs.declared.type_env.TypeEnv.{TypeEnv}
use Rattle.core_types.specs.Envs.{names_of, symbol_of, type_at, constant_at}
use Rattle.core_types.specs.TypeViews.{type_views}

abbrev pub environment_view : TypeEnv → TypeEnvironment
environment_view env = record {
  names = names_of env;
  number_of = symbol_of env;
  types = type_views env.types.items;
  type_of = type_at env;
  constant_type_of = constant_at env;
  errors = length env.errors.items;
}
