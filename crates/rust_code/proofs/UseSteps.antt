-- Uses of sites, one after another.
use Rattle.std.proofs.Common.{◌≡◌, ℕ, ◌+◌, ◌<◌, ◌≤◌, List, [], ◌∷◌, ◌++◌, length, get_or, drop, map, sym, ap, ◌∙◌, append_assoc}
use Rattle.std.proofs.lemmas.List.{at_drop_more, at_drop_all, append-nil, map-append}
use Rattle.model_code.specs.Code as M
use Rattle.rust_code.specs.declared.code.Use.{Use}
use Rattle.rust_code.specs.CodeViews.{use_view, use_views}

module _ (f : ℕ → M.PlaceUse) where
  pub uses_start : (ss : List ℕ) (made : List Use) → made ≡ [] → use_views made ++ map f ss ≡ map f ss
  uses_start ss made is = ap (λ l. use_views l ++ map f ss) is

  pub uses_more : (out new : List Use) (ss : List ℕ) (u : Use) (s i : ℕ) (whole : List M.PlaceUse) → i < length ss → s ≡ get_or ss i s → use_view u ≡ f s → new ≡ out ++ u ∷ []
      → use_views out ++ map f (drop i ss) ≡ whole → use_views new ++ map f (drop (i + 1) ss) ≡ whole
  uses_more out new ss u s i whole h at same is inv =
      let a : map f (drop i ss) ≡ f (get_or ss i s) ∷ map f (drop (i + 1) ss) = at_drop_more (map f) ss i s h in
      let b : f (get_or ss i s) ≡ use_view u = ap f (sym at) ∙ sym same in
      ap (λ l. use_views l ++ map f (drop (i + 1) ss)) is
      ∙ ap (λ l. l ++ map f (drop (i + 1) ss)) (map-append use_view out (u ∷ []))
      ∙ append_assoc (use_views out) (use_view u ∷ []) (map f (drop (i + 1) ss))
      ∙ ap (λ l. use_views out ++ l) (ap (λ y. y ∷ map f (drop (i + 1) ss)) (sym b) ∙ sym a) ∙ inv

  pub uses_done : (out : List Use) (ss : List ℕ) (i : ℕ) (whole : List M.PlaceUse) → length ss ≤ i → use_views out ++ map f (drop i ss) ≡ whole → use_views out ≡ whole
  uses_done out ss i whole h inv = sym (append-nil (use_views out)) ∙ ap (λ l. use_views out ++ l) (sym (at_drop_all (map f) ss i h)) ∙ inv
