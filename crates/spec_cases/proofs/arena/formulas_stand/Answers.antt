use Rattle.std.proofs.Common.{subst}
use Rattle.spec_cases.specs.Arenas.{AreOrdered}
use Rattle.spec_cases.proofs.Standing.{all_named}
use Rattle.spec_cases.proofs.arena.formulas_stand.Goals as goal

pub returns : goal.returns
returns c = λ site. all_named site c.args.formulas.now (subst AreOrdered c.formulas.view_is c.formulas.invariant)
