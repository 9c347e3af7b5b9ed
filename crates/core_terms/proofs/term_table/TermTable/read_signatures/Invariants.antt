use Rattle.core_terms.proofs.term_table.TermTable.read_signatures.Given as goal

abbrev pub ghost-read_declarations : goal.ghost-read_declarations
ghost-read_declarations g a = g.read
