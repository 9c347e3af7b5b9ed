-- Variables that may be moved, statement by statement.
use Rattle.std.proofs.Common.{[], ◌≡◌, ◌++◌, ◌∷◌, ◌∙◌, ℕ, List, Option, Vec, refl, sym, ap}
use Rattle.std.specs.declared.alloc.Global.{Global}
use Rattle.model.specs.trees.Places.{field_sites, is_in}
use Rattle.model_code.specs.Code as M
use Rattle.model_code.specs.Code.{variable, parameter, part_of, int_written, name_written, variant_written, struct_written}
use Rattle.model_code.specs.MovedOnce.{movable_after, unlooked}
use Rattle.core_rule_sets.specs.declared.trie_again.Constraint.{Constraint}
use Rattle.rust_code.specs.declared.code.Use.{Use}
use Rattle.rust_code.specs.declared.code.BoundExpr.{BoundExpr}
use Rattle.rust_code.specs.declared.code.Statement.{Statement, Bind, BindSome, UnlessLet}
use Rattle.rust_code.specs.CodeViews.{place_view, statement_view}
use Rattle.rust_code.specs.Spots.{HasSame}
use Rattle.rust_code.proofs.CodeBridges.{bind_seen, bind_some_seen, unless_let_seen}
use Rattle.rust_code.proofs.Moving.{same_joined, same_without}

module _ (inside movable : List ℕ) (same : HasSame inside movable) where
  pub same_unlooked : (q : M.Place) → HasSame (unlooked inside q) (unlooked movable q)
  same_unlooked (variable v) = same_without v inside movable same
  same_unlooked (part_of v i) = same_without v inside movable same
  same_unlooked (parameter i) = same
  same_unlooked (int_written z ty) = same
  same_unlooked (name_written name) = same
  same_unlooked (variant_written ty variant) = same
  same_unlooked (struct_written ty) = same

  module _ (s : Statement) where
    abbrev pub IsBehind : List ℕ → Type 0
    IsBehind new = HasSame new (movable_after movable (statement_view s))

    seen_behind : (v : M.Statement) (new : List ℕ) → statement_view s ≡ v → HasSame new (movable_after movable v) → IsBehind new
    seen_behind v new is h x = h x ∙ ap (λ k. is_in x (movable_after movable k)) (sym is)

    pub stays_movable : (v : M.Statement) → statement_view s ≡ v → movable_after movable v ≡ movable → IsBehind inside
    stays_movable v is e = seen_behind v inside is (λ x. same x ∙ ap (is_in x) (sym e))

    pub bound_movable : (site : ℕ) (e : BoundExpr) (new : List ℕ) → s ≡ Bind site e → new ≡ inside ++ site ∷ [] → IsBehind new
    bound_movable site e new is made = seen_behind _ new (ap statement_view is ∙ bind_seen site e) (λ x. ap (is_in x) made ∙ same_joined inside movable (site ∷ []) same x)

    pub looked_movable : (site : ℕ) (value : Use) (kept new : List ℕ) → s ≡ BindSome site value → kept ≡ unlooked inside (place_view value.place) → new ≡ kept ++ site ∷ [] → IsBehind new
    looked_movable site value kept new is left made =
        let q = place_view value.place in
        seen_behind _ new (ap statement_view is ∙ bind_some_seen site value)
        (λ x. ap (is_in x) (made ∙ ap (λ l. l ++ site ∷ []) left) ∙ same_joined (unlooked inside q) (unlooked movable q) (site ∷ []) (same_unlooked q) x)

    pub fields_movable : (value : Use) (pattern : Constraint) (fields : Vec (Option ℕ) Global) (kept new : List ℕ) → s ≡ UnlessLet value pattern fields → kept ≡ unlooked inside (place_view value.place)
        → new ≡ kept ++ field_sites fields.items → IsBehind new
    fields_movable value pattern fields kept new is left made =
        let q = place_view value.place in
        seen_behind _ new (ap statement_view is ∙ unless_let_seen value pattern fields)
        (λ x. ap (is_in x) (made ∙ ap (λ l. l ++ field_sites fields.items) left) ∙ same_joined (unlooked inside q) (unlooked movable q) (field_sites fields.items) (same_unlooked q) x)
