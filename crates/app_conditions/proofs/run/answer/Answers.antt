use Rattle.app_conditions.proofs.Made.{accepted_where_done, made_status}
use Rattle.app_conditions.proofs.run.answer.Goals as goal

pub returns-in-Ok-clause-known : goal.returns-in-Ok-clause-known
returns-in-Ok-clause-known g c = (made_status _ _ c.write_made.result c.in-Ok.made c.write_made.ensures).0

pub returns-in-Ok-clause-used : goal.returns-in-Ok-clause-used
returns-in-Ok-clause-used g c = (made_status _ _ c.write_made.result c.in-Ok.made c.write_made.ensures).1

pub returns-in-Ok-clause-accepted : goal.returns-in-Ok-clause-accepted
returns-in-Ok-clause-accepted g c = accepted_where_done _ _ c.write_made.result _ c.in-Ok.made c.in-Ok.ensures c.write_made.ensures
