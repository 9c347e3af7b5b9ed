-- No two words of code touch.
use Rattle.std.proofs.Common.{◌≡◌, ◌∷◌, [], ℕ, suc, Bool, true, false, List, Option, Some, None, refl, arith}
use Rattle.std.proofs.lemmas.Bool.{and_parts, false≢true}
use Rattle.std.proofs.lemmas.Grind.{common_steps}
use Rattle.model.specs.sites.Sites.{Constraint}
use Rattle.model_code.specs.Code.{Place, Pass, PlaceUse, Expr, truth_written, read, extraction, call, variant_of, struct_of, some_of, Block, no_statement, statement, Statement, bind, bind_some, no_way, match_on, if_equal, for_each_of, give, labelled, unless_let, unless_equal, CodeArms, no_code_arm, code_arm}
use Rattle.model_code.specs.Tokens.{comma, colon, Owner, field_name}
use Rattle.model_code.specs.Notation.{Notation, Shape, no_fields, named_fields, unnamed_fields}
use Rattle.model_code.specs.Pieces.{CodePiece, token, space, set_in, line_end, rule_comment, log_line, Margin, inside, in_braces_at, put, put_first, put_first_if, passed_before, use_before, truth_word, args_before, named_values, unnamed_values, binding_before, named_bindings, unnamed_bindings, bindings_before, let_before, close_body, one_line, bind_lines, arm_head, is_left, result_ends, block_before, statement_before, arms_before}
use Rattle.model_code.specs.Parted.{begins, nothing, a_name, a_field, ends, may_follow, is_nothing, Behind, parted, TokensAreParted}

-- behind a field that is bound, or behind the brace
abbrev behind_field : Bool → Behind
behind_field true = a_name
behind_field false = nothing

-- what may stand behind something may stand alone
pub apart_behind : (behind : Behind) (rest : List CodePiece) → parted behind rest ≡ true → parted nothing rest ≡ true
apart_behind behind [] h = refl
apart_behind behind (token t ∷ rest) h = (and_parts (may_follow behind (begins t)) (parted (ends t) rest) h).1
apart_behind behind (space ∷ rest) h = h
apart_behind behind (set_in depth ∷ rest) h = apart_behind behind rest h
apart_behind behind (line_end ∷ rest) h = h
apart_behind behind (rule_comment at ∷ (line_end ∷ rest)) h = h
apart_behind behind (rule_comment at ∷ rest) h = absurd (false≢true h)
apart_behind behind (log_line at ∷ rest) h = (and_parts (is_nothing behind) (parted a_name rest) h).1

apart : (rest : List CodePiece) → parted a_name rest ≡ true → parted nothing rest ≡ true
apart rest h = apart_behind a_name rest h

module _ (p : Notation) where
  -- 1. places, uses, and what is bound: what follows may stand behind a word
  pass_apart : (place : Place) (pass : Pass) (rest : List CodePiece) → parted a_name rest ≡ true → parted nothing (passed_before p place pass rest) ≡ true
  pass_apart place pass rest h = grind (arith, common_steps, apart)

  use_apart : (u : PlaceUse) (rest : List CodePiece) → parted a_name rest ≡ true → parted nothing (use_before p u rest) ≡ true
  use_apart u rest h = pass_apart u.place u.pass rest h

  -- a comma stands before each
  args_apart : (us : List PlaceUse) (rest : List CodePiece) → parted a_name rest ≡ true → parted a_name (args_before p us rest) ≡ true
  args_apart [] rest h = h
  args_apart (u ∷ us) rest h = use_apart u (args_before p us rest) (args_apart us rest h)

  named_apart : (o : Owner) (i : ℕ) (us : List PlaceUse) (rest : List CodePiece) → parted nothing rest ≡ true → parted a_name (named_values p o i us rest) ≡ true
  named_apart o i [] rest h = h
  named_apart o i (u ∷ us) rest h = grind (arith, named_apart o (suc i) us rest h, use_apart)

  unnamed_behind : (i : ℕ) (us : List PlaceUse) (rest : List CodePiece) → parted nothing rest ≡ true → parted a_name (unnamed_values p (suc i) us rest) ≡ true
  unnamed_behind i [] rest h = h
  unnamed_behind i (u ∷ us) rest h = use_apart u (unnamed_values p (suc (suc i)) us rest) (unnamed_behind (suc i) us rest h)

  unnamed_apart : (us : List PlaceUse) (rest : List CodePiece) → parted nothing rest ≡ true → parted nothing (unnamed_values p 0 us rest) ≡ true
  unnamed_apart [] rest h = h
  unnamed_apart (u ∷ us) rest h = use_apart u (unnamed_values p 1 us rest) (unnamed_behind 0 us rest h)

  truth_apart : (b : Bool) (rest : List CodePiece) → parted a_name rest ≡ true → parted nothing (put (truth_word b) rest) ≡ true
  truth_apart b rest h = grind (arith, common_steps)

  -- 2. patterns
  comma_if_apart : (bound : Bool) (o : Owner) (i : ℕ) (rest : List CodePiece) → parted a_field rest ≡ true → parted (behind_field bound) (put_first_if bound comma (token (field_name o i) ∷ rest)) ≡ true
  comma_if_apart bound o i rest h = grind (arith, common_steps)

  -- behind a field that is bound, or behind the brace
  named_fields_apart : (o : Owner) (i : ℕ) (bound lacking : Bool) (fields : List (Option ℕ)) (rest : List CodePiece) → parted nothing rest ≡ true → parted (behind_field bound) (named_bindings p o i bound lacking fields rest) ≡ true
  named_fields_apart o i bound lacking [] rest h = grind arith
  named_fields_apart o i bound lacking (None ∷ fields) rest h = named_fields_apart o (suc i) bound true fields rest h
  named_fields_apart o i bound lacking (Some v ∷ fields) rest h =
      let behind : List CodePiece = named_bindings p o (suc i) true lacking fields rest in
      comma_if_apart bound o i (put_first colon (binding_before p o i v behind)) (grind (arith, common_steps, named_fields_apart o (suc i) true lacking fields rest h))

  unnamed_fields_behind : (o : Owner) (i : ℕ) (fields : List (Option ℕ)) (rest : List CodePiece) → parted nothing rest ≡ true → parted a_name (unnamed_bindings p o (suc i) fields rest) ≡ true
  unnamed_fields_behind o i [] rest h = h
  unnamed_fields_behind o i (field ∷ fields) rest h = grind (arith, unnamed_fields_behind o (suc i) fields rest h)

  unnamed_fields_apart : (o : Owner) (fields : List (Option ℕ)) (rest : List CodePiece) → parted nothing rest ≡ true → parted nothing (unnamed_bindings p o 0 fields rest) ≡ true
  unnamed_fields_apart o [] rest h = h
  unnamed_fields_apart o (field ∷ fields) rest h = grind (arith, unnamed_fields_behind)

  bindings_apart : (o : Owner) (shape : Shape) (fields : List (Option ℕ)) (rest : List CodePiece) → parted a_name rest ≡ true → parted a_name (bindings_before p o shape fields rest) ≡ true
  bindings_apart o no_fields fields rest h = h
  bindings_apart o (named_fields n) fields rest h = named_fields_apart o 0 false false fields rest (apart rest h)
  bindings_apart o (unnamed_fields n) fields rest h = unnamed_fields_apart o fields rest (apart rest h)

  -- 3. tests. What follows them begins with a space
  let_apart : (u : PlaceUse) (c : Constraint) (fields : List (Option ℕ)) (rest : List CodePiece) → parted a_name rest ≡ true → parted nothing (let_before p u c fields rest) ≡ true
  let_apart u c fields rest h = grind (arith, use_apart, bindings_apart, apart)

  -- 4. lines: what follows a line may be anything
  one_apart : (at : Margin) (v : ℕ) (x : Expr) (rest : List CodePiece) → parted nothing rest ≡ true → parted nothing (one_line p at v x rest) ≡ true
  one_apart at v x rest h = grind (arith, truth_apart, use_apart, apart, named_apart, unnamed_apart, args_apart)

  bind_apart : (at : Margin) (v : ℕ) (x : Expr) (rest : List CodePiece) → parted nothing rest ≡ true → parted nothing (bind_lines p at v x rest) ≡ true
  bind_apart at v (extraction term u) rest h = grind (arith, common_steps, args_apart, one_apart)
  bind_apart at v (call term us instance) rest h = grind (arith, common_steps, args_apart, one_apart)
  bind_apart at v (truth_written b ty) rest h = one_apart at v (truth_written b ty) rest h
  bind_apart at v (read u) rest h = one_apart at v (read u) rest h
  bind_apart at v (variant_of ty variant us) rest h = one_apart at v (variant_of ty variant us) rest h
  bind_apart at v (struct_of ty us) rest h = one_apart at v (struct_of ty us) rest h
  bind_apart at v (some_of u) rest h = one_apart at v (some_of u) rest h

  arm_apart : (alone : Bool) (at : Margin) (u : PlaceUse) (c : Constraint) (fields : List (Option ℕ)) (rest : List CodePiece) → parted nothing rest ≡ true → parted nothing (arm_head alone p at u c fields rest) ≡ true
  arm_apart true at u c fields rest h = grind (arith, truth_apart, apart, let_apart)
  arm_apart false at u c fields rest h = grind (arith, truth_apart, apart, bindings_apart)

  -- 5. blocks
  mutual
    block_apart : (b : Block) (at : Margin) (rest : List CodePiece) → parted nothing rest ≡ true → parted nothing (block_before p at b rest) ≡ true
    block_apart no_statement at rest h = h
    block_apart (statement s later) at rest h = grind (arith, statement_apart s at, block_apart later at rest h)

    statement_apart : (s : Statement) (at : Margin) (rest : List CodePiece) → parted nothing rest ≡ true → parted nothing (statement_before p at s rest) ≡ true
    statement_apart (bind v x) at rest h = bind_apart at v x rest h
    statement_apart (bind_some v u) at rest h = grind (arith, use_apart)
    statement_apart no_way at rest h = h
    statement_apart (match_on u arms) at rest h = grind (arith, common_steps, arms_apart arms)
    statement_apart (if_equal a b body) at rest h = grind (arith, block_apart body (inside at) (close_body at rest) h, use_apart)
    statement_apart (for_each_of v from body) at rest h = block_apart body (inside at) (close_body at rest) h
    statement_apart (give place u) at rest h = grind (arith, use_apart)
    statement_apart (labelled body) at rest h = grind (arith, block_apart body (in_braces_at (is_left (result_ends p) body) at) (close_body at rest) h)
    statement_apart (unless_let u c fields) at rest h = grind (arith, truth_apart, apart, let_apart)
    statement_apart (unless_equal a b) at rest h = grind (arith, use_apart)

    arms_apart : (arms : CodeArms) (alone : Bool) (at : Margin) (u : PlaceUse) (rest : List CodePiece) → parted nothing rest ≡ true → parted nothing (arms_before alone p at u arms rest) ≡ true
    arms_apart no_code_arm alone at u rest h = h
    arms_apart (code_arm c fields body more) alone at u rest h =
        let behind : List CodePiece = arms_before alone p at u more rest in
        arm_apart alone at u c fields (block_before p (inside at) body (close_body at behind)) (block_apart body (inside at) (close_body at behind) (arms_apart more alone at u rest h))

pub tokens_are_parted_lem : TokensAreParted
tokens_are_parted_lem p code = grind (arith, block_apart)
