use Rattle.std.proofs.Common.{◌+◌, ◌*◌, length}
use Rattle.spec_cases.proofs.arena.Formulas.+asking.Given as goal

abbrev pub decreases-paths : goal.decreases-paths
decreases-paths l = length l.steps.now * 147573952589676412928

abbrev pub decreases-first_path : goal.decreases-first_path
decreases-first_path l = length l.rest.now * 147573952589676412928 + 18446744073709551620

abbrev pub decreases-told_step : goal.decreases-told_step
decreases-told_step l = length l.rest.now * 147573952589676412928 + 18446744073709551619

abbrev pub decreases-split : goal.decreases-split
decreases-split l = length l.rest.now * 147573952589676412928 + 18446744073709551619

abbrev pub decreases-each_width : goal.decreases-each_width
decreases-each_width l = length l.rest.now * 147573952589676412928 + 2 + length l.widths.now

abbrev pub decreases-unless_false : goal.decreases-unless_false
decreases-unless_false l = length l.rest.now * 147573952589676412928 + 2

abbrev pub decreases-shown : goal.decreases-shown
decreases-shown l = length l.rest.now * 147573952589676412928 + 2

abbrev pub decreases-told : goal.decreases-told
decreases-told l = length l.rest.now * 147573952589676412928 + 1
