use Rattle.std.proofs.Common.{◌≡◌, ◌++◌, drop}
use Rattle.model_code.specs.MovedOnce as Moved
use Rattle.rust_code.proofs.moves.without.Given as goal

abbrev pub invariant-loop-bound : goal.invariant-loop-bound
invariant-loop-bound l = l.out.items ++ Moved.without l.site (drop l.bound-index l.inside) ≡ Moved.without l.site l.inside
