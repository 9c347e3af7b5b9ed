-- What holds of two things holds of the one that a test takes.
use Rattle.std.proofs.Common.{Bool, cond, arith}
use Rattle.std.proofs.lemmas.Grind.{common_steps}

pub either : {X : Type 0} (P : X → Type 0) (b : Bool) (x y : X) → P x → P y → P (cond b x y)
either P b x y p q = grind (arith, common_steps)
