-- The tokens of a function stand in order.
use Rattle.std.proofs.Common.{◌≡◌, ◌&&◌, ◌∷◌, [], ℕ, zero, suc, Bool, true, false, List, Option, Some, None, refl, arith}
use Rattle.std.proofs.lemmas.Bool.{and_parts, and_from}
use Rattle.std.proofs.lemmas.Grind.{common_steps}
use Rattle.model.specs.sites.Sites.{Constraint, is_variant, is_struct, is_bool, is_int, is_prim, is_present}
use Rattle.model_code.specs.Code.{PlaceUse, Expr, truth_written, read, extraction, call, variant_of, struct_of, some_of, Block, no_statement, statement, Statement, bind, bind_some, no_way, match_on, if_equal, for_each_of, give, labelled, unless_let, unless_equal, CodeArms, no_code_arm, code_arm}
use Rattle.model_code.specs.Tokens.{comma, colon, arrow, Owner, field_name}
use Rattle.model_code.specs.Notation.{Notation}
use Rattle.model_code.specs.Pieces.{CodePiece, token, space, Margin, inside, in_braces_at, put, put_first, put_first_if, use_before, args_before, named_values, unnamed_values, binding_before, named_bindings, unnamed_bindings, pattern_before, arm_pattern, open_body, close_body, one_line, bind_lines, arm_head, is_left, result_ends, block_before, statement_before, arms_before}
use Rattle.model_code.specs.Written.{written, written_at, written_arms}
use Rattle.model_code.specs.Reading.{same_owner}
use Rattle.model_code.specs.OneReading.{signs_of, Next, anything, a_field, in_order, use_unnamed, uses_unnamed, expr_unnamed, unnamed, unnamed_at, unnamed_arms, PrintedTokensAreInOrder}
use Rattle.model_code.proofs.Uses.{same_owner-refl}

module _ (p : Notation) where
  abbrev Fits : Next → List CodePiece → Type 0
  Fits s rest = in_order p s (signs_of rest) ≡ true

  abbrev FitsAll : List CodePiece → Type 0
  FitsAll rest = Fits (anything None) rest

  -- 1. places, uses, and what is bound: within braces or not
  use_fits : (inside : Option Owner) (u : PlaceUse) (rest : List CodePiece) → use_unnamed p u ≡ true → Fits (anything inside) rest → Fits (anything inside) (use_before p u rest)
  use_fits inside u rest n h = grind arith

  args_fit : (us : List PlaceUse) (rest : List CodePiece) → uses_unnamed p us ≡ true → FitsAll rest → FitsAll (args_before p us rest)
  args_fit [] rest n h = h
  args_fit (u ∷ us) rest n h = let ns = and_parts (use_unnamed p u) (uses_unnamed p us) n in use_fits None u (args_before p us rest) ns.0 (args_fit us rest ns.1 h)

  -- where a field may stand: behind the brace, and behind a comma
  abbrev field_place : Owner → ℕ → Next
  field_place o zero = a_field o
  field_place o (suc i) = anything (Some o)

  field_fits : (o : Owner) (i : ℕ) (rest : List CodePiece) → Fits (anything (Some o)) rest → Fits (a_field o) (token (field_name o i) ∷ rest)
  field_fits o i rest h = and_from (same_owner o o) (in_order p (anything (Some o)) (signs_of rest)) (same_owner-refl o) h

  named_fit : (o : Owner) (i : ℕ) (us : List PlaceUse) (rest : List CodePiece) → uses_unnamed p us ≡ true → FitsAll rest → Fits (field_place o i) (named_values p o i us rest)
  named_fit o i [] rest n h = grind arith
  named_fit o i (u ∷ us) rest n h = grind (arith, common_steps, named_fit o (suc i) us rest, and_parts, field_fits, use_fits)

  unnamed_behind : (i : ℕ) (us : List PlaceUse) (rest : List CodePiece) → uses_unnamed p us ≡ true → FitsAll rest → FitsAll (unnamed_values p (suc i) us rest)
  unnamed_behind i [] rest n h = h
  unnamed_behind i (u ∷ us) rest n h = let ns = and_parts (use_unnamed p u) (uses_unnamed p us) n in use_fits None u (unnamed_values p (suc (suc i)) us rest) ns.0 (unnamed_behind (suc i) us rest ns.1 h)

  unnamed_fit : (us : List PlaceUse) (rest : List CodePiece) → uses_unnamed p us ≡ true → FitsAll rest → FitsAll (unnamed_values p 0 us rest)
  unnamed_fit [] rest n h = h
  unnamed_fit (u ∷ us) rest n h = let ns = and_parts (use_unnamed p u) (uses_unnamed p us) n in use_fits None u (unnamed_values p 1 us rest) ns.0 (unnamed_behind 0 us rest ns.1 h)

  -- 2. patterns
  abbrev bound_place : Owner → Bool → Next
  bound_place o true = anything (Some o)
  bound_place o false = a_field o

  comma_if_fits : (o : Owner) (bound : Bool) (rest : List CodePiece) → Fits (a_field o) rest → Fits (bound_place o bound) (put_first_if bound comma rest)
  comma_if_fits o bound rest h = grind (arith, common_steps)

  named_bindings_fit : (o : Owner) (i : ℕ) (bound lacking : Bool) (fields : List (Option ℕ)) (rest : List CodePiece) → FitsAll rest → Fits (bound_place o bound) (named_bindings p o i bound lacking fields rest)
  named_bindings_fit o i bound lacking [] rest h = grind arith
  named_bindings_fit o i bound lacking (None ∷ fields) rest h = named_bindings_fit o (suc i) bound true fields rest h
  named_bindings_fit o i bound lacking (Some v ∷ fields) rest h =
      let later : List CodePiece = named_bindings p o (suc i) true lacking fields rest in
      let behind : List CodePiece = put_first colon (binding_before p o i v later) in
      comma_if_fits o bound (token (field_name o i) ∷ behind) (field_fits o i behind (grind (arith, common_steps, named_bindings_fit o (suc i) true lacking fields rest h)))

  bindings_behind : (o : Owner) (i : ℕ) (fields : List (Option ℕ)) (rest : List CodePiece) → FitsAll rest → FitsAll (unnamed_bindings p o (suc i) fields rest)
  bindings_behind o i [] rest h = h
  bindings_behind o i (field ∷ fields) rest h = grind (arith, bindings_behind o (suc i) fields rest h)

  unnamed_bindings_fit : (o : Owner) (fields : List (Option ℕ)) (rest : List CodePiece) → FitsAll rest → FitsAll (unnamed_bindings p o 0 fields rest)
  unnamed_bindings_fit o [] rest h = h
  unnamed_bindings_fit o (field ∷ fields) rest h = grind (arith, bindings_behind)

  pattern_fits : (c : Constraint) (fields : List (Option ℕ)) (rest : List CodePiece) → FitsAll rest → FitsAll (pattern_before p c fields rest)
  pattern_fits c fields rest h = grind (arith, common_steps, named_bindings_fit, unnamed_bindings_fit)

  -- 3. tests
  arm_pattern_fits : (u : PlaceUse) (c : Constraint) (fields : List (Option ℕ)) (rest : List CodePiece) → use_unnamed p u ≡ true → FitsAll rest → FitsAll (arm_pattern p u c fields rest)
  arm_pattern_fits u (is_prim name) fields rest n h = grind (arith, use_fits)
  arm_pattern_fits u (is_variant ty variant k) fields rest n h = pattern_fits (is_variant ty variant k) fields rest h
  arm_pattern_fits u (is_struct ty k) fields rest n h = pattern_fits (is_struct ty k) fields rest h
  arm_pattern_fits u (is_bool b ty) fields rest n h = pattern_fits (is_bool b ty) fields rest h
  arm_pattern_fits u (is_int z ty) fields rest n h = h
  arm_pattern_fits u is_present fields rest n h = pattern_fits is_present fields rest h

  -- 4. lines
  one_fits : (at : Margin) (v : ℕ) (x : Expr) (rest : List CodePiece) → expr_unnamed p x ≡ true → FitsAll rest → FitsAll (one_line p at v x rest)
  one_fits at v x rest n h = grind (arith, use_fits, and_from, named_fit, unnamed_fit, args_fit)

  bind_fits : (at : Margin) (v : ℕ) (x : Expr) (rest : List CodePiece) → expr_unnamed p x ≡ true → FitsAll rest → FitsAll (bind_lines p at v x rest)
  bind_fits at v (extraction term u) rest n h = grind (arith, and_from, args_fit, one_fits)
  bind_fits at v (call term us instance) rest n h = grind (arith, args_fit, one_fits)
  bind_fits at v (truth_written b ty) rest n h = one_fits at v (truth_written b ty) rest n h
  bind_fits at v (read u) rest n h = one_fits at v (read u) rest n h
  bind_fits at v (variant_of ty variant us) rest n h = one_fits at v (variant_of ty variant us) rest n h
  bind_fits at v (struct_of ty us) rest n h = one_fits at v (struct_of ty us) rest n h
  bind_fits at v (some_of u) rest n h = one_fits at v (some_of u) rest n h

  arm_fits : (alone : Bool) (at : Margin) (u : PlaceUse) (c : Constraint) (fields : List (Option ℕ)) (rest : List CodePiece) → use_unnamed p u ≡ true → FitsAll rest → FitsAll (arm_head alone p at u c fields rest)
  arm_fits true at u c fields rest n h = grind (arith, use_fits, pattern_fits)
  arm_fits false at u c fields rest n h = arm_pattern_fits u c fields (space ∷ put arrow (open_body rest)) n h

  -- 5. blocks
  mutual
    block_fits : (b : Block) (at : Margin) (rest : List CodePiece) → unnamed p b ≡ true → FitsAll rest → FitsAll (block_before p at b rest)
    block_fits no_statement at rest n h = h
    block_fits (statement s later) at rest n h = grind (arith, common_steps, statement_fits s at, block_fits later at rest, and_parts)

    statement_fits : (s : Statement) (at : Margin) (rest : List CodePiece) → unnamed_at p s ≡ true → FitsAll rest → FitsAll (statement_before p at s rest)
    statement_fits (bind v x) at rest n h = bind_fits at v x rest n h
    statement_fits (bind_some v u) at rest n h = grind (arith, use_fits)
    statement_fits no_way at rest n h = h
    statement_fits (match_on u arms) at rest n h = grind (arith, common_steps, arms_fit arms, and_parts)
    statement_fits (if_equal a b body) at rest n h =
        let ns = and_parts (use_unnamed p a) (use_unnamed p b && unnamed p body) n in
        let ms = and_parts (use_unnamed p b) (unnamed p body) ns.1 in
        grind (arith, common_steps, use_fits, block_fits body (inside at) (close_body at rest) ms.1 h, ns.0, ms.0)
    statement_fits (for_each_of v from body) at rest n h = block_fits body (inside at) (close_body at rest) n h
    statement_fits (give place u) at rest n h = grind (arith, use_fits)
    statement_fits (labelled body) at rest n h =
        grind (arith, common_steps, block_fits body (in_braces_at (is_left (result_ends p) body) at) (close_body at rest) n h)
    statement_fits (unless_let u c fields) at rest n h = grind (arith, use_fits, pattern_fits)
    statement_fits (unless_equal a b) at rest n h = grind (arith, and_parts, use_fits)

    arms_fit : (arms : CodeArms) (alone : Bool) (at : Margin) (u : PlaceUse) (rest : List CodePiece) → use_unnamed p u ≡ true → unnamed_arms p arms ≡ true → FitsAll rest → FitsAll (arms_before alone p at u arms rest)
    arms_fit no_code_arm alone at u rest m n h = h
    arms_fit (code_arm c fields body more) alone at u rest m n h = grind (arith, block_fits body (inside at), arms_fit more alone at u rest m, and_parts, arm_fits)

  -- 6. as code is written
  mutual
    written_unnamed : (b : Block) → unnamed p b ≡ true → unnamed p (written p b) ≡ true
    written_unnamed no_statement n = refl
    written_unnamed (statement s later) n = let ns = and_parts (unnamed_at p s) (unnamed p later) n in and_from _ _ (statement_unnamed s ns.0) (written_unnamed later ns.1)

    statement_unnamed : (s : Statement) → unnamed_at p s ≡ true → unnamed_at p (written_at p s) ≡ true
    statement_unnamed (match_on u arms) n = let ns = and_parts (use_unnamed p u) (unnamed_arms p arms) n in and_from _ _ ns.0 (arms_unnamed arms ns.1)
    statement_unnamed (if_equal a b body) n =
        let ns = and_parts (use_unnamed p a) (use_unnamed p b && unnamed p body) n in
        let ms = and_parts (use_unnamed p b) (unnamed p body) ns.1 in
        and_from _ _ ns.0 (and_from _ _ ms.0 (grind (arith, common_steps, and_parts, written_unnamed body ms.1)))
    statement_unnamed (for_each_of v from body) n = grind (arith, common_steps, and_parts, written_unnamed body n)
    statement_unnamed (labelled body) n = written_unnamed body n
    statement_unnamed _ n = n

    arms_unnamed : (arms : CodeArms) → unnamed_arms p arms ≡ true → unnamed_arms p (written_arms p arms) ≡ true
    arms_unnamed no_code_arm n = refl
    arms_unnamed (code_arm pattern fields body rest) n =
        let ns = and_parts (unnamed p body) (unnamed_arms p rest) n in
        and_from _ _ (grind (arith, common_steps, and_parts, written_unnamed body ns.0)) (arms_unnamed rest ns.1)

pub printed_tokens_are_in_order_lem : PrintedTokensAreInOrder
printed_tokens_are_in_order_lem p code n = grind (arith, common_steps, block_fits, written_unnamed)
