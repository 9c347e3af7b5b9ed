-- A turn of a loop over a list of which a view is taken, and what an error tells.
use Rattle.std.proofs.Common.{◌≡◌, ℕ, ◌+◌, ◌<◌, List, [], ◌∷◌, ◌++◌, length, get_or, take, drop, map, Result, Ok, Err, true≢false, refl, sym, ap, ◌∙◌}
use Rattle.std.specs.Prelude.{IsErr, IsErrAnd}
use Rattle.std.proofs.lemmas.List.{map-append, take_more, take-append-drop, at_drop_more}
use Rattle.rust_items.specs.declared.faults.CodeError.{CodeError}
use Rattle.rust_items.specs.declared.faults.CodeError.TheVariants.{Memory, Names}
use Rattle.rust_items.specs.Faults.{TellsOf}

pub taken_more : {X Y : Type 0} (v : X → Y) (xs : List X) (i : ℕ) (x : X) → i < length xs → x ≡ get_or xs i x → map v (take (i + 1) xs) ≡ map v (take i xs) ++ v x ∷ []
taken_more v xs i x h e = ap (map v) (take_more xs i x h) ∙ map-append v (take i xs) (get_or xs i x ∷ []) ∙ ap (λ y. map v (take i xs) ++ v y ∷ []) (sym e)

pub parted : {X Y : Type 0} (v : X → Y) (xs : List X) (i : ℕ) (x : X) → i < length xs → x ≡ get_or xs i x → map v xs ≡ map v (take i xs) ++ v x ∷ map v (drop (i + 1) xs)
parted v xs i x h e =
    ap (map v) (sym (take-append-drop i xs)) ∙ map-append v (take i xs) (drop i xs)
    ∙ ap (λ ys. map v (take i xs) ++ ys) (at_drop_more (map v) xs i x h ∙ ap (λ y. v y ∷ map v (drop (i + 1) xs)) (sym e))

pub err_is : {A : Type 0} (r : Result A CodeError) (e : CodeError) → IsErr r × IsErrAnd r (λ y. y ≡ e) → r ≡ Err e
err_is (Ok a) e h = absurd (true≢false (sym h.0))
err_is (Err y) e h = ap Err h.1

pub tells_more : (e : CodeError) (P Q : List ℕ → Type 0) → TellsOf e P → ((text : List ℕ) → P text → Q text) → TellsOf e Q
tells_more Memory P Q h f = h
tells_more (Names text) P Q h f = f _ h
