use Rattle.text_reader.proofs.Dividing.{divided}
use Rattle.text_reader.proofs.OneDivision.{one_division}
use Rattle.text_reader.proofs.laws.texts_have_one_division.Goals as goal

pub returns-clause-are : goal.returns-clause-are
returns-clause-are c = divided

pub returns-clause-one : goal.returns-clause-one
returns-clause-one c = one_division
