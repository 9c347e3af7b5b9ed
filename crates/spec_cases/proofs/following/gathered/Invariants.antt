use Rattle.std.proofs.Common.{◌≡◌, ◌++◌, drop, map}
use Rattle.spec_cases.specs.Namings.{Naming}
use Rattle.spec_cases.specs.CaseViews.{guarded, guarded_each}
use Rattle.spec_cases.specs.Following.{joined_parts}
use Rattle.spec_cases.proofs.following.gathered.Given as goal

abbrev pub invariant-loop-part : goal.invariant-loop-part
invariant-loop-part g l =
    (v : Naming) → guarded_each v l.out.items ++ (joined_parts (map (guarded v) (drop l.part-index l.parts))).cases ≡ (joined_parts (map (guarded v) l.parts)).cases
