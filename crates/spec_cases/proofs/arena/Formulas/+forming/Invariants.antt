use Rattle.std.proofs.Common.{◌+◌, ◌*◌, length}
use Rattle.spec_cases.specs.Arenas.{word_number}
use Rattle.spec_cases.proofs.arena.Formulas.+forming.Given as goal

abbrev pub decreases-is_surely_formed : goal.decreases-is_surely_formed
decreases-is_surely_formed l = word_number l.word * 147573952589676412928

abbrev pub decreases-is_made_formed : goal.decreases-is_made_formed
decreases-is_made_formed l = l.node.0 * 147573952589676412928 + 147573952589676412927

abbrev pub decreases-is_result_formed : goal.decreases-is_result_formed
decreases-is_result_formed l = l.limit.0 * 147573952589676412928 + 73786976294838206464

abbrev pub decreases-are_both_formed : goal.decreases-are_both_formed
decreases-are_both_formed l = l.limit.0 * 147573952589676412928 + 2

abbrev pub decreases-is_part_formed : goal.decreases-is_part_formed
decreases-is_part_formed l = l.limit.0 * 147573952589676412928 + 1

abbrev pub decreases-are_surely_formed : goal.decreases-are_surely_formed
decreases-are_surely_formed l = l.limit.0 * 147573952589676412928 + 3 + length l.of.now

abbrev pub decreases-is_operand_formed : goal.decreases-is_operand_formed
decreases-is_operand_formed l = l.limit.0 * 147573952589676412928 + 2
