use Rattle.laws_examples.proofs.TextPremises.{text_premises_hold_lem}
use Rattle.laws_examples.proofs.text_premises_hold.Goals as goal

pub returns : goal.returns
returns c = text_premises_hold_lem c.pure_functions_call_alike.ensures
