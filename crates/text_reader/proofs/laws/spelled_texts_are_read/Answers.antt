use Rattle.text_reader.proofs.Spelled.{spelled_if_given, given_if_spelled}
use Rattle.text_reader.proofs.laws.spelled_texts_are_read.Goals as goal

pub returns-clause-read : goal.returns-clause-read
returns-clause-read c = given_if_spelled

pub returns-clause-spelled : goal.returns-clause-spelled
returns-clause-spelled c = spelled_if_given
