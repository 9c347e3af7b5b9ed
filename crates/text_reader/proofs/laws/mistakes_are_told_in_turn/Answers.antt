use Rattle.text_reader.proofs.Turns.{in_turn, first_told}
use Rattle.text_reader.proofs.laws.mistakes_are_told_in_turn.Goals as goal

pub returns-clause-told : goal.returns-clause-told
returns-clause-told c = in_turn

pub returns-clause-first : goal.returns-clause-first
returns-clause-first c = first_told
