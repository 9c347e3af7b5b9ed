-- Fields one by one.
use Rattle.std.proofs.Common.{◌≡◌, ◌≤◌, ◌∷◌, ◌||◌, ℕ, Bool, List, Option, Some, None, is_some, is_none, suc, drop, length, refl}
use Rattle.std.proofs.lemmas.List.{drop_all}
use Rattle.model_code.specs.Tokens.{Owner, closing, closing_brace}
use Rattle.model_code.specs.Notation.{Notation}
use Rattle.model_code.specs.Pieces.{CodePiece, space, put, named_values, unnamed_values, named_bindings, unnamed_bindings, fields_end}
use Rattle.rust_code.specs.declared.code.Use.{Use}
use Rattle.rust_code.specs.CodeViews.{use_views}
use Rattle.rust_text.specs.Fields.{named_field}

-- a field of a pattern before the others
pub named_more : (p : Notation) (o : Owner) (i : ℕ) (bound lacking : Bool) (field : Option ℕ) (fields : List (Option ℕ)) (rest : List CodePiece)
    → named_bindings p o i bound lacking (field ∷ fields) rest
    ≡ named_field p o i bound field (named_bindings p o (suc i) (is_some field || bound) (is_none field || lacking) fields rest)
named_more p o i bound lacking None fields rest = refl
named_more p o i bound lacking (Some v) fields rest = refl

pub ruleset field_steps = (named_more)

-- behind the last one
module _ (p : Notation) (o : Owner) (i : ℕ) (rest : List CodePiece) where
  pub named_values_done : (values : List Use) → length values ≤ i → named_values p o i (use_views (drop i values)) rest ≡ space ∷ put closing_brace rest
  named_values_done values h = rw (drop_all i values h) refl

  pub unnamed_values_done : (values : List Use) → length values ≤ i → unnamed_values p i (use_views (drop i values)) rest ≡ put closing rest
  unnamed_values_done values h = rw (drop_all i values h) refl

  pub named_bindings_done : (bound lacking : Bool) (fields : List (Option ℕ)) → length fields ≤ i → named_bindings p o i bound lacking (drop i fields) rest ≡ fields_end bound lacking rest
  named_bindings_done bound lacking fields h = rw (drop_all i fields h) refl

  pub unnamed_bindings_done : (fields : List (Option ℕ)) → length fields ≤ i → unnamed_bindings p o i (drop i fields) rest ≡ put closing rest
  unnamed_bindings_done fields h = rw (drop_all i fields h) refl
