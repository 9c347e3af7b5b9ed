use Rattle.laws_typing.proofs.VariantTerms.{variants_have_terms_lem}
use Rattle.laws_typing.proofs.variants_have_terms.Goals as goal

pub returns : goal.returns
returns c = variants_have_terms_lem
