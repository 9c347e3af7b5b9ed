-- Uses with moves, one after another.
use Rattle.std.proofs.Common.{◌≡◌, ◌+◌, ◌-◌, ◌<◌, ◌≤◌, ◌++◌, ◌∷◌, ◌∙◌, [], ℕ, Bool, List, length, get_or, take, drop, arith, sym, ap}
use Rattle.std.proofs.lemmas.List.{at_drop_more, length-drop, map-append, take_all}
use Rattle.model_code.specs.Code as M
use Rattle.model_code.specs.Modes.{Types}
use Rattle.model_code.specs.MovedOnce.{beside}
use Rattle.model_code.specs.Saving.{all_saved, saved_use}
use Rattle.rust_code.specs.declared.code.Use.{Use}
use Rattle.rust_code.specs.CodeViews.{use_view, use_views}
use Rattle.rust_code.proofs.Moving.{all_saved_more}

-- what is behind a place of a slice
pub slice_behind : {X : Type 0} (xs : List X) (number i : ℕ) → number ≡ i → take (length xs - (number + 1)) (drop (number + 1) xs) ≡ drop (i + 1) xs
slice_behind xs number i e =
    let l = length-drop (number + 1) xs in
    take_all (length xs - (number + 1)) (drop (number + 1) xs) (omega (arith, l)) ∙ ap (λ k. drop (k + 1) xs) e

module _ (types : Types) (movable : List ℕ) (later : M.Place → Bool) where
  abbrev pub uses_left : List Use → List Use → List M.PlaceUse
  uses_left out us = use_views out ++ all_saved types movable later (use_views out) (use_views us)

  pub uses_more : (out new uses rest : List Use) (u made : Use) (i : ℕ) (whole : List M.PlaceUse) → i < length uses → u ≡ get_or uses i u → rest ≡ drop (i + 1) uses → new ≡ out ++ made ∷ []
      → use_view made ≡ saved_use types movable (beside (use_views out) (use_views rest) later) (use_view u) → uses_left out (drop i uses) ≡ whole → uses_left new (drop (i + 1) uses) ≡ whole
  uses_more out new uses rest u made i whole h at r is m inv =
      let tail = use_views (drop (i + 1) uses) in
      let seen : use_views (drop i uses) ≡ use_view u ∷ tail = at_drop_more use_views uses i u h ∙ ap (λ x. use_view x ∷ tail) (sym at) in
      ap (λ l. l ++ all_saved types movable later l tail) (ap use_views is ∙ map-append use_view out (made ∷ []))
      ∙ all_saved_more types movable later (use_views out) tail (use_view u) (use_view made) (m ∙ ap (λ l. saved_use types movable (beside (use_views out) (use_views l) later) (use_view u)) r)
      ∙ ap (λ l. use_views out ++ all_saved types movable later (use_views out) l) (sym seen) ∙ inv
