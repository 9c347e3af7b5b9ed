-- Rules are read with the types of the same definitions, and with the names that were met.
use Rattle.core_syntax.specs.SyntaxViews.{definition_views}
use Rattle.model.specs.claims.Environments.{types_read, with_read_names}
use Rattle.core_types.specs.EnvViews.{environment_view}
use Rattle.check_refusals.proofs.environments.read_again.Given as goal

abbrev pub ghost-from_ast : goal.ghost-from_ast
ghost-from_ast a = with_read_names (types_read (definition_views a.defs.now)) (environment_view a.tyenv.now).names
