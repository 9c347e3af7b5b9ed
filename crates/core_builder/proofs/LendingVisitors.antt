-- What is taken back of a visitor that lends itself.
use Rattle.std.proofs.Common.{◌≡◌, Result, Ok, Err, arith}
use Rattle.std.specs.Prelude.{MatchResult}
use Rattle.std.proofs.lemmas.Grind.{common_steps}
use Rattle.core_syntax.specs.declared.visit_fault.VisitFault.{VisitFault}
use Rattle.model.specs.visits.Runs.{taking}

pub taken_back : {S T : Type 0} (s l : S) (a : Result T VisitFault) → MatchResult a (λ x. taking (λ s l r t. (r ≡ Ok tt) × (t ≡ l)) l x s a l) (λ e. (l ≡ l) × (a ≡ Err e))
taken_back s l a = grind (arith, common_steps)
