-- An element that is there doesn't depend on what stands for one that isn't.
use Rattle.std.proofs.Common.{◌≡◌, ℕ, suc, ◌<◌, List, ◌∷◌, length, get_or, arith}

pub same_default : {A : Type 0} (xs : List A) (i : ℕ) (a b : A) → i < length xs → get_or xs i a ≡ get_or xs i b
same_default (x ∷ xs) (suc i) a b h = same_default xs i a b (omega (arith, h))
same_default xs i a b h = grind arith
