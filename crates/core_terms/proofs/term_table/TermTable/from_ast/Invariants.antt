use Rattle.core_terms.proofs.term_table.TermTable.from_ast.Given as goal

abbrev pub ghost-read_signatures : goal.ghost-read_signatures
ghost-read_signatures g a = g.read

abbrev pub ghost-read_definitions : goal.ghost-read_definitions
ghost-read_definitions g a = g.read

abbrev pub ghost-read_converters : goal.ghost-read_converters
ghost-read_converters g a = g.read

abbrev pub ghost-read_externs : goal.ghost-read_externs
ghost-read_externs g a = g.read
