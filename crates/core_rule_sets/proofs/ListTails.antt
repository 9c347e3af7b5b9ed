-- What is left of a list from a place on.
use Rattle.std.proofs.Common.{◌≡◌, ℕ, ◌+◌, ◌<◌, Bool, cond, List, [], ◌∷◌, ◌++◌, length, take, drop, filter, get_or, sym, ap, ◌∙◌, drop-cons, add-one}
use Rattle.std.proofs.lemmas.List.Elements.{filter_more}

-- the rest of a list begins with the element here
pub rest_is : {X : Type 0} (xs : List X) (i : ℕ) (x : X) → i < length xs → x ≡ get_or xs i x → drop i xs ≡ x ∷ drop (i + 1) xs
rest_is xs i x h e = drop-cons xs i x h ∙ (λ k. sym e k ∷ drop (sym (add-one i) k) xs)

-- what is kept of a list grows by the element here, where that passes
pub kept_at : {X : Type 0} (p : X → Bool) (xs : List X) (i : ℕ) (d : X) (old new : List X) → i < length xs → old ≡ filter p (take i xs) → new ≡ old ++ cond (p (get_or xs i d)) (get_or xs i d ∷ []) [] → new ≡ filter p (take (i + 1) xs)
kept_at p xs i d old new l h n = n ∙ ap (λ o. o ++ cond (p (get_or xs i d)) (get_or xs i d ∷ []) []) h ∙ sym (filter_more p xs i d l)
