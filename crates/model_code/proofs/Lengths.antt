-- Code isn't longer than its text.
use Rattle.std.proofs.Common.{◌≡◌, ◌≤◌, ◌+◌, ◌∷◌, [], ℕ, suc, Bool, true, false, List, length, Option, Some, None, arith}
use Rattle.std.proofs.lemmas.Bool.{false≢true}
use Rattle.std.proofs.lemmas.Grind.{common_steps}
use Rattle.model.specs.lists.Syntax.{Position}
use Rattle.model.specs.sites.Sites.{Constraint, is_variant, is_struct, is_bool, is_int, is_prim, is_present}
use Rattle.model_code.specs.Code.{PlaceUse, Expr, truth_written, read, extraction, call, variant_of, struct_of, some_of, Block, no_statement, statement, Statement, bind, bind_some, no_way, match_on, if_equal, for_each_of, give, labelled, unless_let, unless_equal, CodeArms, no_code_arm, code_arm}
use Rattle.model_code.specs.Tokens.{arrow, Owner}
use Rattle.model_code.specs.Notation.{Notation}
use Rattle.model_code.specs.Pieces.{CodePiece, space, tokens_of, Margin, inside, in_braces_at, put, use_before, args_before, named_values, unnamed_values, named_bindings, unnamed_bindings, pattern_before, is_constant, condition_before, arm_pattern, open_body, close_body, one_line, bind_lines, result_lines, unless_line, is_alone, arm_head, match_end, is_left, result_ends, block_before, statement_before, arms_before}
use Rattle.model_code.specs.ReadsBack.{expr_size, size, size_at, size_of_arms}

abbrev long : List CodePiece → ℕ
long pieces = length (tokens_of pieces)

module _ (p : Notation) where
  -- 1. places, uses, and what is bound
  use_long : (u : PlaceUse) (rest : List CodePiece) → suc (long rest) ≤ long (use_before p u rest)
  use_long u rest = grind arith

  args_long : (us : List PlaceUse) (rest : List CodePiece) → length us + long rest ≤ long (args_before p us rest)
  args_long [] rest = omega arith
  args_long (u ∷ us) rest = omega (arith, use_long u (args_before p us rest), args_long us rest)

  named_long : (o : Owner) (i : ℕ) (us : List PlaceUse) (rest : List CodePiece) → long rest ≤ long (named_values p o i us rest)
  named_long o i [] rest = omega arith
  named_long o i (u ∷ us) rest = grind (arith, common_steps, named_long o (suc i) us rest, use_long)

  unnamed_long : (i : ℕ) (us : List PlaceUse) (rest : List CodePiece) → long rest ≤ long (unnamed_values p i us rest)
  unnamed_long i [] rest = omega arith
  unnamed_long i (u ∷ us) rest = grind (arith, common_steps, unnamed_long (suc i) us rest, use_long)

  -- 2. patterns
  named_fields_long : (o : Owner) (i : ℕ) (bound lacking : Bool) (fields : List (Option ℕ)) (rest : List CodePiece) → long rest ≤ long (named_bindings p o i bound lacking fields rest)
  named_fields_long o i bound lacking [] rest = grind arith
  named_fields_long o i bound lacking (None ∷ fields) rest = named_fields_long o (suc i) bound true fields rest
  named_fields_long o i bound lacking (Some v ∷ fields) rest = grind (arith, named_fields_long o (suc i) true lacking fields rest)

  unnamed_fields_long : (o : Owner) (i : ℕ) (fields : List (Option ℕ)) (rest : List CodePiece) → long rest ≤ long (unnamed_bindings p o i fields rest)
  unnamed_fields_long o i [] rest = omega arith
  unnamed_fields_long o i (field ∷ fields) rest = grind (arith, common_steps, unnamed_fields_long o (suc i) fields rest)

  pattern_long : (c : Constraint) (fields : List (Option ℕ)) (rest : List CodePiece) → long rest ≤ long (pattern_before p c fields rest)
  pattern_long c fields rest = grind (arith, common_steps, named_fields_long, unnamed_fields_long)

  -- 3. tests
  condition_long : (constant : Bool) (u : PlaceUse) (c : Constraint) (fields : List (Option ℕ)) (rest : List CodePiece) → suc (long rest) ≤ long (condition_before constant p u c fields rest)
  condition_long true u c fields rest = grind (arith, use_long)
  condition_long false u c fields rest = grind (arith, pattern_long, use_long)

  arm_pattern_long : (u : PlaceUse) (c : Constraint) (fields : List (Option ℕ)) (rest : List CodePiece) → long rest ≤ long (arm_pattern p u c fields rest)
  arm_pattern_long u (is_prim name) fields rest = grind (arith, use_long)
  arm_pattern_long u (is_variant ty variant n) fields rest = pattern_long (is_variant ty variant n) fields rest
  arm_pattern_long u (is_struct ty n) fields rest = pattern_long (is_struct ty n) fields rest
  arm_pattern_long u (is_bool b ty) fields rest = pattern_long (is_bool b ty) fields rest
  arm_pattern_long u (is_int z ty) fields rest = pattern_long (is_int z ty) fields rest
  arm_pattern_long u is_present fields rest = pattern_long is_present fields rest

  -- 4. lines
  one_long : (at : Margin) (v : ℕ) (x : Expr) (rest : List CodePiece) → suc (expr_size x) + long rest ≤ long (one_line p at v x rest)
  one_long at v x rest = grind (arith, use_long, named_long, unnamed_long, args_long)

  bind_long : (at : Margin) (v : ℕ) (x : Expr) (rest : List CodePiece) → suc (expr_size x) + long rest ≤ long (bind_lines p at v x rest)
  bind_long at v (extraction term u) rest = grind (arith, args_long, one_long)
  bind_long at v (call term us instance) rest = grind (arith, args_long, one_long)
  bind_long at v (truth_written b ty) rest = one_long at v (truth_written b ty) rest
  bind_long at v (read u) rest = one_long at v (read u) rest
  bind_long at v (variant_of ty variant us) rest = one_long at v (variant_of ty variant us) rest
  bind_long at v (struct_of ty us) rest = one_long at v (struct_of ty us) rest
  bind_long at v (some_of u) rest = one_long at v (some_of u) rest

  result_long : (at : Margin) (place : Position) (u : PlaceUse) (rest : List CodePiece) → suc (long rest) ≤ long (result_lines p at place u rest)
  result_long at place u rest = grind (arith, use_long)

  unless_long : (constant : Bool) (at : Margin) (u : PlaceUse) (c : Constraint) (fields : List (Option ℕ)) (rest : List CodePiece) → suc (long rest) ≤ long (unless_line constant p at u c fields rest)
  unless_long constant at u c fields rest = grind (arith, common_steps, pattern_long, use_long)

  arm_long : (at : Margin) (u : PlaceUse) (c : Constraint) (fields : List (Option ℕ)) (rest : List CodePiece) → suc (suc (long rest)) ≤ long (arm_head false p at u c fields rest)
  arm_long at u c fields rest = omega (arith, arm_pattern_long u c fields (space ∷ put arrow (open_body rest)))

  alone_head_long : (at : Margin) (u : PlaceUse) (c : Constraint) (fields : List (Option ℕ)) (rest : List CodePiece) → suc (suc (suc (long rest))) ≤ long (arm_head true p at u c fields rest)
  alone_head_long at u c fields rest = omega (arith, condition_long (is_constant c) u c fields (open_body rest))

  -- 5. blocks
  mutual
    block_long : (b : Block) (at : Margin) (rest : List CodePiece) → size p b + long rest ≤ suc (long (block_before p at b rest))
    block_long no_statement at rest = omega arith
    block_long (statement s later) at rest = grind (arith, common_steps, statement_long s at, block_long later at rest)

    statement_long : (s : Statement) (at : Margin) (rest : List CodePiece) → suc (size_at p s) + long rest ≤ long (statement_before p at s rest)
    statement_long (bind v x) at rest = bind_long at v x rest
    statement_long (bind_some v u) at rest = grind (arith, use_long)
    statement_long no_way at rest = omega arith
    statement_long (match_on u arms) at rest = grind (arith, alone_long arms at u rest, arms_long arms at u (match_end false at rest), use_long)
    statement_long (if_equal a b body) at rest = grind (arith, block_long body (inside at) (close_body at rest), use_long)
    statement_long (for_each_of v from body) at rest = omega (arith, block_long body (inside at) (close_body at rest))
    statement_long (give place u) at rest = omega (arith, result_long at place u rest)
    statement_long (labelled body) at rest = grind (arith, block_long body (in_braces_at (is_left (result_ends p) body) at) (close_body at rest))
    statement_long (unless_let u c fields) at rest = omega (arith, unless_long (is_constant c) at u c fields rest)
    statement_long (unless_equal a b) at rest = grind (arith, use_long)

    alone_long : (arms : CodeArms) (at : Margin) (u : PlaceUse) (rest : List CodePiece) → is_alone arms ≡ true → suc (size_of_arms p arms) + long rest ≤ long (arms_before true p at u arms rest)
    alone_long (code_arm c fields body no_code_arm) at u rest e =
        omega (arith, alone_head_long at u c fields (block_before p (inside at) body (close_body at rest)), block_long body (inside at) (close_body at rest))
    alone_long _ at u rest e = absurd (false≢true e)

    arms_long : (arms : CodeArms) (at : Margin) (u : PlaceUse) (rest : List CodePiece) → size_of_arms p arms + long rest ≤ suc (long (arms_before false p (inside at) u arms rest))
    arms_long no_code_arm at u rest = omega arith
    arms_long (code_arm c fields body more) at u rest =
        let behind : List CodePiece = arms_before false p (inside at) u more rest in
        omega (arith, arm_long (inside at) u c fields (block_before p (inside (inside at)) body (close_body (inside at) behind)), block_long body (inside (inside at)) (close_body (inside at) behind), arms_long more at u rest)

pub size_within : (p : Notation) (b : Block) (at : Margin) → size p b ≤ suc (length (tokens_of (block_before p at b [])))
size_within p b at = omega (arith, block_long p b at [])

pub size_within_all : (p : Notation) (b : Block) (at : Margin) (rest : List CodePiece) → size p b ≤ suc (length (tokens_of (block_before p at b rest)))
size_within_all p b at rest = omega (arith, block_long p b at rest)
