use Rattle.laws_typing.proofs.RefusedTerms.{refused_terms_refuse_rules_lem}
use Rattle.laws_typing.proofs.refused_terms_refuse_rules.Goals as goal

pub returns : goal.returns
returns c = refused_terms_refuse_rules_lem
