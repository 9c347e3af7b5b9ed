use Rattle.laws_code.proofs.CodeChoices.{code_of_lowered_terms_means_lem}
use Rattle.laws_code.proofs.code_of_lowered_terms_means.Goals as goal

pub returns : goal.returns
returns c = code_of_lowered_terms_means_lem c.printed_code_runs.ensures
