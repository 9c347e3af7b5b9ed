-- What was read of the types is handed on.
use Rattle.check_clauses.proofs.terms_of.Given as goal

abbrev pub ghost-from_ast : goal.ghost-from_ast
ghost-from_ast g a = g.read
