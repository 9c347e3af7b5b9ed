-- Lists that are gone over, with what is added at each element.
use Rattle.std.proofs.Common.{◌≡◌, ℕ, ◌≤◌, List, [], ◌++◌, length, drop, sym, ap, ◌∙◌, drop_of_length-le, arith}
use Rattle.std.proofs.lemmas.List.{append-nil}
use Rattle.std.proofs.lemmas.Grind.{common_steps}

-- one more piece
pub more : {Y : Type 0} (before now piece rest after whole : List Y) → now ≡ before ++ piece → rest ≡ piece ++ after → before ++ rest ≡ whole → now ++ after ≡ whole
more before now piece rest after whole e f h = grind (arith, common_steps)

-- no more
pub no_more : {X Y : Type 0} (f : List X → List Y) (xs : List X) (i : ℕ) (now whole : List Y) → f [] ≡ [] → length xs ≤ i → now ++ f (drop i xs) ≡ whole → now ≡ whole
no_more f xs i now whole e l h = sym (append-nil now) ∙ ap (λ x. now ++ x) (sym (ap f (drop_of_length-le xs l) ∙ e)) ∙ h
