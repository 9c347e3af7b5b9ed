use Rattle.core_terms.proofs.term_table.TermTable.collect_extractor_templates.Given as goal

abbrev pub ghost-read_templates : goal.ghost-read_templates
ghost-read_templates g a = g.read
