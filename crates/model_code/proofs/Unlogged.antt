-- Where the log is told nothing, the words and marks of a function's pieces are those of its tokens.
use Rattle.std.proofs.Common.{◌≡◌, ◌++◌, ◌∷◌, [], ℕ, suc, Bool, true, false, List, Option, Some, None, refl, ap, ◌∙◌, arith}
use Rattle.std.proofs.lemmas.Grind.{common_steps}
use Rattle.model.specs.sites.Sites.{Constraint, is_variant, is_struct, is_prim, is_present}
use Rattle.model_code.specs.Code.{PlaceUse, Expr, truth_written, read, extraction, call, variant_of, struct_of, some_of, Block, no_statement, statement, Statement, bind, bind_some, no_way, match_on, if_equal, for_each_of, give, labelled, unless_let, unless_equal, CodeArms, no_code_arm, code_arm}
use Rattle.model_code.specs.Tokens.{Word, arrow, Owner}
use Rattle.model_code.specs.Notation.{Notation}
use Rattle.model_code.specs.Pieces.{CodePiece, token, space, set_in, line_end, rule_comment, log_line, tokens_of, Margin, inside, put, put_if, use_before, args_before, named_values, unnamed_values, binding_before, named_bindings, unnamed_bindings, arm_pattern, open_body, close_body, one_line, bind_lines, is_alone, arms_at, arm_head, match_end, block_before, statement_before, arms_before}
use Rattle.model_code.specs.Spelling.{Names, token_text}
use Rattle.model_code.specs.Lexing.{lexed, pieces_lexed}
use Rattle.model_code.specs.ReadTexts.{words_of, UnloggedTextIsItsTokens}
use Rattle.model_code.proofs.Lexing.{text_has_tokens_lem}

-- whether nothing tells the log a rule
abbrev is_quiet : List CodePiece → Bool
is_quiet [] = true
is_quiet (log_line at ∷ rest) = false
is_quiet (token t ∷ rest) = is_quiet rest
is_quiet (space ∷ rest) = is_quiet rest
is_quiet (set_in depth ∷ rest) = is_quiet rest
is_quiet (line_end ∷ rest) = is_quiet rest
is_quiet (rule_comment at ∷ rest) = is_quiet rest

-- what is put before pieces tells the log nothing
abbrev AsQuiet : List CodePiece → List CodePiece → Type 0
AsQuiet pieces rest = is_quiet pieces ≡ is_quiet rest

put_if_quiet : (b : Bool) (w : Word) (rest : List CodePiece) → AsQuiet (put_if b w rest) rest
put_if_quiet b w rest = grind (arith, common_steps)

module _ (p : Notation) where
  -- 1. places, uses, and what is bound
  use_quiet : (u : PlaceUse) (rest : List CodePiece) → AsQuiet (use_before p u rest) rest
  use_quiet u rest = grind arith

  args_quiet : (us : List PlaceUse) (rest : List CodePiece) → AsQuiet (args_before p us rest) rest
  args_quiet [] rest = refl
  args_quiet (u ∷ us) rest = use_quiet u (args_before p us rest) ∙ args_quiet us rest

  named_quiet : (o : Owner) (i : ℕ) (us : List PlaceUse) (rest : List CodePiece) → AsQuiet (named_values p o i us rest) rest
  named_quiet o i [] rest = refl
  named_quiet o i (u ∷ us) rest = grind (arith, common_steps, named_quiet o (suc i) us rest, use_quiet)

  unnamed_quiet : (i : ℕ) (us : List PlaceUse) (rest : List CodePiece) → AsQuiet (unnamed_values p i us rest) rest
  unnamed_quiet i [] rest = refl
  unnamed_quiet i (u ∷ us) rest = grind (arith, common_steps, unnamed_quiet (suc i) us rest, use_quiet)

  -- 2. patterns
  binding_quiet : (o : Owner) (i v : ℕ) (rest : List CodePiece) → AsQuiet (binding_before p o i v rest) rest
  binding_quiet o i v rest = grind (arith, common_steps)

  named_fields_quiet : (o : Owner) (i : ℕ) (bound lacking : Bool) (fields : List (Option ℕ)) (rest : List CodePiece) → AsQuiet (named_bindings p o i bound lacking fields rest) rest
  named_fields_quiet o i bound lacking [] rest = grind arith
  named_fields_quiet o i bound lacking (None ∷ fields) rest = named_fields_quiet o (suc i) bound true fields rest
  named_fields_quiet o i bound lacking (Some v ∷ fields) rest =
      let behind : List CodePiece = named_bindings p o (suc i) true lacking fields rest in
      (grind (arith, common_steps)) ∙ (binding_quiet o i v behind ∙ named_fields_quiet o (suc i) true lacking fields rest)

  unnamed_fields_quiet : (o : Owner) (i : ℕ) (fields : List (Option ℕ)) (rest : List CodePiece) → AsQuiet (unnamed_bindings p o i fields rest) rest
  unnamed_fields_quiet o i [] rest = refl
  unnamed_fields_quiet o i (field ∷ fields) rest = grind (arith, common_steps, unnamed_fields_quiet o (suc i) fields rest)

  -- 3. tests
  arm_pattern_quiet : (u : PlaceUse) (c : Constraint) (fields : List (Option ℕ)) (rest : List CodePiece) → AsQuiet (arm_pattern p u c fields rest) rest
  arm_pattern_quiet u (is_prim name) fields rest = grind (arith, put_if_quiet, use_quiet)
  arm_pattern_quiet u (is_variant ty variant n) fields rest = grind (arith, named_fields_quiet, unnamed_fields_quiet)
  arm_pattern_quiet u (is_struct ty n) fields rest = grind (arith, named_fields_quiet, unnamed_fields_quiet)
  arm_pattern_quiet u is_present fields rest = grind (arith, named_fields_quiet, unnamed_fields_quiet)
  arm_pattern_quiet u _ fields rest = refl

  -- 4. lines
  one_quiet : (at : Margin) (v : ℕ) (x : Expr) (rest : List CodePiece) → AsQuiet (one_line p at v x rest) rest
  one_quiet at v x rest = grind (arith, use_quiet, named_quiet, unnamed_quiet, put_if_quiet, args_quiet)

  bind_quiet : (at : Margin) (v : ℕ) (x : Expr) (rest : List CodePiece) → AsQuiet (bind_lines p at v x rest) rest
  bind_quiet at v (extraction term u) rest = grind (arith, args_quiet, one_quiet)
  bind_quiet at v (call term us instance) rest = grind (arith, args_quiet, one_quiet)
  bind_quiet at v (truth_written b ty) rest = one_quiet at v (truth_written b ty) rest
  bind_quiet at v (read u) rest = one_quiet at v (read u) rest
  bind_quiet at v (variant_of ty variant us) rest = one_quiet at v (variant_of ty variant us) rest
  bind_quiet at v (struct_of ty us) rest = one_quiet at v (struct_of ty us) rest
  bind_quiet at v (some_of u) rest = one_quiet at v (some_of u) rest

  arm_quiet : (alone : Bool) (at : Margin) (u : PlaceUse) (c : Constraint) (fields : List (Option ℕ)) (rest : List CodePiece) → AsQuiet (arm_head alone p at u c fields rest) rest
  arm_quiet true at u c fields rest = grind (arith, put_if_quiet, use_quiet, named_fields_quiet, unnamed_fields_quiet)
  arm_quiet false at u c fields rest = arm_pattern_quiet u c fields (space ∷ put arrow (open_body rest))

  -- 5. blocks, where the log is told nothing
  module _ (silent : p.is_logged ≡ false) where
    mutual
      block_quiet : (b : Block) (at : Margin) (rest : List CodePiece) → AsQuiet (block_before p at b rest) rest
      block_quiet no_statement at rest = refl
      block_quiet (statement s later) at rest = grind (arith, common_steps, statement_quiet s at, block_quiet later at rest)

      statement_quiet : (s : Statement) (at : Margin) (rest : List CodePiece) → AsQuiet (statement_before p at s rest) rest
      statement_quiet (bind v x) at rest = bind_quiet at v x rest
      statement_quiet (bind_some v u) at rest = grind (arith, use_quiet)
      statement_quiet no_way at rest = refl
      statement_quiet (match_on u arms) at rest =
          grind arith
          ∙ (arms_quiet arms (is_alone arms) (arms_at (is_alone arms) at) u (match_end (is_alone arms) at rest) ∙ (grind arith))
      statement_quiet (if_equal a b body) at rest = grind (arith, block_quiet body (inside at) (close_body at rest), use_quiet)
      statement_quiet (for_each_of v from body) at rest = block_quiet body (inside at) (close_body at rest)
      statement_quiet (give place u) at rest = grind (arith, use_quiet)
      statement_quiet (labelled body) at rest = grind (arith, common_steps, block_quiet body)
      statement_quiet (unless_let u c fields) at rest = grind (arith, put_if_quiet, use_quiet, named_fields_quiet, unnamed_fields_quiet)
      statement_quiet (unless_equal a b) at rest = grind (arith, use_quiet)

      arms_quiet : (arms : CodeArms) (alone : Bool) (at : Margin) (u : PlaceUse) (rest : List CodePiece) → AsQuiet (arms_before alone p at u arms rest) rest
      arms_quiet no_code_arm alone at u rest = refl
      arms_quiet (code_arm c fields body more) alone at u rest =
          let behind : List CodePiece = arms_before alone p at u more rest in
          arm_quiet alone at u c fields (block_before p (inside at) body (close_body at behind)) ∙ (block_quiet body (inside at) (close_body at behind) ∙ arms_quiet more alone at u rest)

-- 6. so the words and marks are those of the tokens
quiet_words : (names : Names) (ps : List CodePiece) → is_quiet ps ≡ true → pieces_lexed names ps ≡ words_of names (tokens_of ps)
quiet_words names (token t ∷ rest) h = ap (λ xs. lexed (token_text names t) ++ xs) (quiet_words names rest h)
quiet_words names (space ∷ rest) h = quiet_words names rest h
quiet_words names (set_in depth ∷ rest) h = quiet_words names rest h
quiet_words names (line_end ∷ rest) h = quiet_words names rest h
quiet_words names (rule_comment at ∷ rest) h = quiet_words names rest h
quiet_words names ps h = grind arith

pub unlogged_text_is_its_tokens_lem : UnloggedTextIsItsTokens
unlogged_text_is_its_tokens_lem names p code whole silent = grind (arith, common_steps, text_has_tokens_lem, quiet_words, block_quiet)
