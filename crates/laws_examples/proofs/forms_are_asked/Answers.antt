use Rattle.laws_examples.proofs.AskedForms.{forms_are_asked_lem}
use Rattle.laws_examples.proofs.forms_are_asked.Goals as goal

pub returns : goal.returns
returns c = forms_are_asked_lem
