use Rattle.core_rules.proofs.term_env.TermEnv.from_ast.Given as goal

abbrev pub ghost-from_ast : goal.ghost-from_ast
ghost-from_ast g a = g.read
