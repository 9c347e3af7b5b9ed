use Rattle.std.proofs.Common.{sym, ap}
use Rattle.cranelift_isle.specs.Refusing.{refused_by}
use Rattle.cranelift_isle.proofs.lower.refused_with.Goals as goal

pub returns-in-Memory : goal.returns-in-Memory
returns-in-Memory c = ap (λ f. refused_by f c.args.environments) (sym c.in-Memory.is)

pub returns-in-Errors : goal.returns-in-Errors
returns-in-Errors c = ap (λ f. refused_by f c.args.environments) (sym c.in-Errors.is)
