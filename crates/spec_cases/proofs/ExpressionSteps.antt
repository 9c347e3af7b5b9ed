-- What stands in a list of expressions.
use Rattle.std.proofs.Common.{◌≡◌, ℕ, ◌<◌, List, length, get_or, refl}
use Rattle.std.proofs.lemmas.Option.{slice_get_read}
use Rattle.spec_cases.specs.declared.expressions.Expr.{Expr}
use Rattle.spec_cases.specs.Expressions.{Saying, AreSaid, IsSaid}

pub said_at : (w : Saying) (l : List Expr) (n : ℕ) (x : Expr) → AreSaid w l → n < length l → x ≡ get_or l n x → IsSaid w n x
said_at w l n x all h e = all n x (slice_get_read l (length l) n x refl h e)
