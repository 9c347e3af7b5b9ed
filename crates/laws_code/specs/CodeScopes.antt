-- What the code of a tree of accepted definitions reads is in scope.
use Rattle.laws_sites.specs.BuiltSets.{OfBuiltSets}
use Rattle.model_code.specs.Scopes.{IsScoped, LoopsAreOverBound}
use Rattle.laws_code.specs.AcceptedCode.{OfBestTrees, EachCode}

-- in a set that is built of a well-typed program's rules no loop goes over what is written in place
abbrev pub BuiltSetsLoopOverBound : Type 0
BuiltSetsLoopOverBound = OfBuiltSets (λ p t set. LoopsAreOverBound set.sites)

-- each variable that is read was bound before, in the block or in one around it, and each label that is left is around
abbrev pub CodeOfAcceptedIsScoped : Type 0
CodeOfAcceptedIsScoped = OfBestTrees (λ p l. EachCode l IsScoped)
