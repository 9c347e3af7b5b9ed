use Rattle.laws_sites.proofs.overlaps.JudgedLists.{well_typed_rules_have_terms_lem}
use Rattle.laws_sites.proofs.well_typed_rules_have_terms.Goals as goal

pub returns : goal.returns
returns c = well_typed_rules_have_terms_lem
