use Rattle.std.proofs.Common.{inr}
use Rattle.app_command.proofs.run.run_request.Goals as goal

pub returns-in-Ok-clause-ending : goal.returns-in-Ok-clause-ending
returns-in-Ok-clause-ending g c _ = inr (c.in-Ok.files, c.run_files.ensures.ending)
