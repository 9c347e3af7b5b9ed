use Rattle.std.proofs.Common.{subst}
use Rattle.spec_cases.specs.Trails.{AreEarlier}
use Rattle.spec_cases.proofs.TrailSteps.{all_trails}
use Rattle.spec_cases.proofs.trails.trails_stand.Goals as goal

pub returns : goal.returns
returns c = λ v. all_trails v c.args.trails.now (subst AreEarlier c.trails.view_is c.trails.invariant)
