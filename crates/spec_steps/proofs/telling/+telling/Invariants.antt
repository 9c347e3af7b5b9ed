use Rattle.std.proofs.Common.{◌+◌, ◌*◌, length}
use Rattle.spec_steps.proofs.telling.+telling.Given as goal

abbrev pub decreases-told_in : goal.decreases-told_in
decreases-told_in l = l.site * 147573952589676412928 + 73786976294838206465

abbrev pub decreases-told_by : goal.decreases-told_by
decreases-told_by l = l.site * 147573952589676412928 + 73786976294838206464

abbrev pub decreases-told_in_each : goal.decreases-told_in_each
decreases-told_in_each l = l.site * 147573952589676412928 + length l.sources.now

abbrev pub decreases-sources_in : goal.decreases-sources_in
decreases-sources_in l = l.site * 147573952589676412928 + 73786976294838206465

abbrev pub decreases-sources_by : goal.decreases-sources_by
decreases-sources_by l = l.site * 147573952589676412928 + 73786976294838206464

abbrev pub decreases-part_in : goal.decreases-part_in
decreases-part_in l = l.site * 147573952589676412928 + 73786976294838206465

abbrev pub decreases-part_by : goal.decreases-part_by
decreases-part_by l = l.site * 147573952589676412928 + 73786976294838206464

abbrev pub decreases-outputs_in : goal.decreases-outputs_in
decreases-outputs_in l = l.site * 147573952589676412928 + 73786976294838206465

abbrev pub decreases-outputs_by : goal.decreases-outputs_by
decreases-outputs_by l = l.site * 147573952589676412928 + 73786976294838206464

abbrev pub decreases-picked_in : goal.decreases-picked_in
decreases-picked_in l = l.site * 147573952589676412928 + 73786976294838206465

abbrev pub decreases-picked_by : goal.decreases-picked_by
decreases-picked_by l = l.site * 147573952589676412928 + 73786976294838206464

abbrev pub decreases-part_outputs_in : goal.decreases-part_outputs_in
decreases-part_outputs_in l = l.site * 147573952589676412928 + 73786976294838206465

abbrev pub decreases-part_outputs_by : goal.decreases-part_outputs_by
decreases-part_outputs_by l = l.site * 147573952589676412928 + 73786976294838206464
