use Rattle.std.proofs.Common.{◌+◌, ◌*◌, length}
use Rattle.spec_steps.proofs.placing.+placing.Given as goal

abbrev pub decreases-form_at : goal.decreases-form_at
decreases-form_at l = l.site * 147573952589676412928 + 73786976294838206465

abbrev pub decreases-form_by : goal.decreases-form_by
decreases-form_by l = l.site * 147573952589676412928 + 73786976294838206464

abbrev pub decreases-add_forms : goal.decreases-add_forms
decreases-add_forms l = l.site * 147573952589676412928 + length l.sources.now

abbrev pub decreases-fields_at : goal.decreases-fields_at
decreases-fields_at l = l.site * 147573952589676412928 + 73786976294838206463

abbrev pub decreases-part_form : goal.decreases-part_form
decreases-part_form l = l.site * 147573952589676412928 + 73786976294838206465

abbrev pub decreases-part_by : goal.decreases-part_by
decreases-part_by l = l.site * 147573952589676412928 + 73786976294838206464
