use Rattle.core_terms.proofs.term_table.TermTable.read_definitions.Given as goal

abbrev pub ghost-read_roots : goal.ghost-read_roots
ghost-read_roots g a = g.read

abbrev pub ghost-collect_extractor_templates : goal.ghost-collect_extractor_templates
ghost-collect_extractor_templates g a = g.read
