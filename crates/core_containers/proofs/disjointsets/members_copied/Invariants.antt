use Rattle.std.proofs.Common.{◌≡◌, take}
use Rattle.core_containers.specs.Numbers.{sets_of}
use Rattle.core_containers.proofs.disjointsets.members_copied.Given as goal

abbrev pub invariant-loop-set : goal.invariant-loop-set
invariant-loop-set g l = sets_of l.copy.items ≡ sets_of (take l.set-index l.members)
