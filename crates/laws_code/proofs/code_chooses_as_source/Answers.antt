use Rattle.laws_code.proofs.CodeChoices.{code_chooses_as_source_lem}
use Rattle.laws_code.proofs.code_chooses_as_source.Goals as goal

pub returns : goal.returns
returns c = code_chooses_as_source_lem c.best_trees_keep_the_headline.ensures c.code_of_lowered_terms_means.ensures
