-- Terms and rules are read with the types of the same definitions.
use Rattle.core_syntax.specs.SyntaxViews.{definition_views}
use Rattle.model.specs.claims.Environments.{types_read}
use Rattle.cranelift_isle.proofs.environments.environments_of.Given as goal

abbrev pub ghost-from_ast : goal.ghost-from_ast
ghost-from_ast a = types_read (definition_views a.defs.now)
