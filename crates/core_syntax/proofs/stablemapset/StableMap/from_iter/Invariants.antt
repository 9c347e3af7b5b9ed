use Rattle.std.specs.HashMap.{IsFromIterResult}
use Rattle.core_syntax.proofs.stablemapset.StableMap.from_iter.Given as goal

abbrev pub invariant-loop-key : goal.invariant-loop-key
invariant-loop-key g l = IsFromIterResult g.K.PartialEq.eq l.yielded l.entries
