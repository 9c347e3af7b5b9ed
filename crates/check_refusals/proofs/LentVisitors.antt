-- What a visitor that lends itself answers.
use Rattle.std.proofs.Common.{◌≡◌, refl, Result, Ok, Err}
use Rattle.std.specs.Prelude.{MatchResult}
use Rattle.core_syntax.specs.declared.visit_fault.VisitFault.{VisitFault}
use Rattle.model.specs.visits.Runs.{taking}

pub taken : {S T : Type 0} (s : S) (a : Result T VisitFault) →
    MatchResult a (λ x. taking (λ h l r t. Unit {0}) s x s a s) (λ e. Unit {0} × (a ≡ Err e))
taken s (Ok x) = (Ok tt, tt, refl)
taken s (Err e) = (tt, refl)
