-- Each statement is read back, where the blocks in it are.
use Rattle.std.proofs.Common.{◌≡◌, ◌<◌, ◌≤◌, ◌∷◌, [], ℕ, suc, Bool, true, false, List, length, Option, Some, None, is_some, refl, ap, arith}
use Rattle.std.proofs.lemmas.Bool.{false≢true}
use Rattle.std.proofs.lemmas.Grind.{common_steps}
use Rattle.model.specs.lists.Syntax.{Position}
use Rattle.model.specs.sites.Sites.{Constraint, is_bool, is_int, is_prim}
use Rattle.model.specs.rules.Outcome.{then_option}
use Rattle.model.proofs.SameSites.{number_same}
use Rattle.model_code.specs.Code.{PlaceUse, Expr, truth_written, read, extraction, call, variant_of, struct_of, some_of, Block, Statement, bind, bind_some, match_on, if_equal, for_each_of, give, labelled, unless_let, unless_equal, CodeArms, no_code_arm, code_arm}
use Rattle.model_code.specs.Tokens.{opening_brace, closing_brace, semicolon, Token}
use Rattle.model_code.specs.Notation.{Notation, Callee, extractor_of, constructor_of}
use Rattle.model_code.specs.Pieces.{CodePiece, line_end, set_in, tokens_of, Margin, inside, put, pattern_before, is_constant, open_body, close_body, one_line, call_lines, bind_lines, bind_some_line, result_lines, equal_head, loop_head, unless_line, unless_equal_line, arm_head, in_braces_at, label_before, match_head, arms_at, match_end, block_before, arms_before}
use Rattle.model_code.specs.Shown.{nowhere, shown_use, shown_uses, shown_expr, shown_constraint, shown, shown_at}
use Rattle.model_code.specs.Reading.{then_read, expect, Inner, read_body, done, read_let, read_let_pattern, read_arms, read_statement, read_block}
use Rattle.model_code.specs.ReadsBack.{pattern_writable, match_writable, expr_writable, expr_size, ends_block}
use Rattle.model_code.proofs.Uses.{after_use, that_variable}
use Rattle.model_code.proofs.Values.{call_back, expr_back}
use Rattle.model_code.proofs.Patterns.{pattern_back}
use Rattle.model_code.proofs.Tests.{plain_or_lent, after_second, constants_bind_nothing, if_back, arm_back, break_back}

-- what ends a block begins no statement
pub nothing_more : (p : Notation) (n : ℕ) (inner : Inner) (label : Option ℕ) (tokens : List Token) → ends_block tokens ≡ true → read_statement p n inner label tokens ≡ None
nothing_more p n inner label tokens h = grind (arith, common_steps)

module _ (p : Notation) (n : ℕ) where
  abbrev inner : Inner
  inner = read_block p n

  -- a statement's pieces are read as what it shows
  abbrev IsBack : Margin → List CodePiece → Statement → List CodePiece → Type 0
  IsBack at pieces s rest = read_statement p n inner at.label (tokens_of pieces) ≡ Some (s, tokens_of rest)

  -- a block in braces
  abbrev pub BlockBack : Margin → Block → List CodePiece → Type 0
  BlockBack at body rest = read_block p n at.label (tokens_of (block_before p at body rest)) ≡ Some (shown p body, tokens_of rest)

  pub body_back : (at around : Margin) (body : Block) (rest : List CodePiece) → BlockBack at body (close_body around rest)
      → read_body inner at.label (tokens_of (open_body (block_before p at body (close_body around rest)))) ≡ Some (shown p body, tokens_of rest)
  body_back at around body rest h = ap (λ r. then_read r (λ b behind. then_option (expect closing_brace behind) (λ end. Some (b, end)))) h

  -- 1. what binds a variable
  one_back : (at : Margin) (v : ℕ) (e : Expr) (rest : List CodePiece) → expr_size e ≤ n → expr_writable p e ≡ true → IsBack at (one_line p at v e rest) (bind v (shown_expr p e)) rest
  one_back at v e rest h w = ap (λ r. then_read r (λ x behind. done (bind v x) (expect semicolon behind))) (expr_back p n e rest h w)

  call_lines_back : (many : Bool) (at : Margin) (v : ℕ) (f : Callee) (us : List PlaceUse) (e : Expr) (rest : List CodePiece) → length us < n → expr_size e ≤ n → expr_writable p e ≡ true
      → shown_expr p e ≡ call (p.function f) (shown_uses p us) 0 → IsBack at (call_lines many p at v f us e rest) (bind v (shown_expr p e)) rest
  call_lines_back true at v f us e rest h k w s = grind (arith, call_back, that_variable)
  call_lines_back false at v f us e rest h k w s = one_back at v e rest k w

  pub bind_back : (at : Margin) (v : ℕ) (e : Expr) (rest : List CodePiece) → expr_size e ≤ n → expr_writable p e ≡ true → IsBack at (bind_lines p at v e rest) (bind v (shown_expr p e)) rest
  bind_back at v (extraction term u) rest h w = call_lines_back (p.has_many (extractor_of term)) at v (extractor_of term) (u ∷ []) (extraction term u) rest h h w refl
  bind_back at v (call term us instance) rest h w = call_lines_back (p.has_many (constructor_of term)) at v (constructor_of term) us (call term us instance) rest h h w refl
  bind_back at v (truth_written b ty) rest h w = one_back at v (truth_written b ty) rest h w
  bind_back at v (read u) rest h w = one_back at v (read u) rest h w
  bind_back at v (variant_of ty variant us) rest h w = one_back at v (variant_of ty variant us) rest h w
  bind_back at v (struct_of ty us) rest h w = one_back at v (struct_of ty us) rest h w
  bind_back at v (some_of u) rest h w = one_back at v (some_of u) rest h w

  pub bind_some_back : (at : Margin) (v : ℕ) (u : PlaceUse) (rest : List CodePiece) → IsBack at (bind_some_line p at v u rest) (bind_some v (shown_use p u)) rest
  bind_some_back at v u rest = grind (arith, common_steps, after_use)

  -- 2. results
  pub result_back : (at : Margin) (place : Position) (u : PlaceUse) (rest : List CodePiece) → IsBack at (result_lines p at place u rest) (give nowhere (shown_use p u)) rest
  result_back at place u rest = grind arith

  -- 3. tests with a body
  pub equal_back_at : (at : Margin) (a b : PlaceUse) (body : Block) (rest : List CodePiece) → BlockBack (inside at) body (close_body at rest)
      → IsBack at (equal_head p at a b (block_before p (inside at) body (close_body at rest))) (shown_at p (if_equal a b body)) rest
  equal_back_at at a b body rest h = grind (arith, common_steps, if_back, after_use, after_second, body_back)

  pub alone_back : (at : Margin) (u : PlaceUse) (c : Constraint) (fields : List (Option ℕ)) (body : Block) (rest : List CodePiece) → pattern_writable p c fields ≡ true → match_writable p u c ≡ true
      → BlockBack (inside at) body (close_body at rest)
      → IsBack at (arm_head true p at u c fields (block_before p (inside at) body (close_body at rest))) (match_on (shown_use p u) (code_arm (shown_constraint p c) fields (shown p body) no_code_arm)) rest
  alone_back at u c fields body rest w m h = grind (arith, common_steps, pattern_back, after_use, body_back)

  -- 4. tests that leave a label
  unless_constant : (at : Margin) (u : PlaceUse) (c : Constraint) (fields : List (Option ℕ)) (rest : List CodePiece) → is_some at.label ≡ true → is_constant c ≡ true → pattern_writable p c fields ≡ true → match_writable p u c ≡ true
      → IsBack at (unless_line true p at u c fields rest) (unless_let (shown_use p u) (shown_constraint p c) fields) rest
  unless_constant at u (is_prim name) fields rest l k w m = grind (arith, common_steps, plain_or_lent, constants_bind_nothing)
  unless_constant at u (is_bool b ty) fields rest l k w m = grind (arith, common_steps)
  unless_constant at u (is_int z ty) fields rest l k w m = grind (arith, common_steps)
  unless_constant at u _ fields rest l k w e = absurd (false≢true k)

  -- behind `let`, a pattern that is no constant begins with no variable
  bare_let : (label : Option ℕ) (c : Constraint) (fields : List (Option ℕ)) (rest : List CodePiece) → is_constant c ≡ false
      → read_let p n inner label (tokens_of (pattern_before p c fields rest)) ≡ read_let_pattern p label (tokens_of (pattern_before p c fields rest))
  bare_let label c fields rest k = grind (arith, common_steps)

  pub unless_let_back : (at : Margin) (u : PlaceUse) (c : Constraint) (fields : List (Option ℕ)) (rest : List CodePiece) → is_some at.label ≡ true → pattern_writable p c fields ≡ true → match_writable p u c ≡ true
      → IsBack at (unless_line (is_constant c) p at u c fields rest) (unless_let (shown_use p u) (shown_constraint p c) fields) rest
  unless_let_back at u c fields rest l w m = grind (arith, unless_constant, bare_let, pattern_back, after_use)

  pub unless_equal_back : (at : Margin) (a b : PlaceUse) (rest : List CodePiece) → is_some at.label ≡ true → IsBack at (unless_equal_line p at a b rest) (shown_at p (unless_equal a b)) rest
  unless_equal_back at a b rest l = grind (arith, common_steps, if_back, after_use, after_second, break_back)

  -- 5. loops
  pub loop_back : (at : Margin) (v from : ℕ) (body : Block) (rest : List CodePiece) → BlockBack (inside at) body (close_body at rest)
      → IsBack at (loop_head at v from (block_before p (inside at) body (close_body at rest))) (for_each_of v from (shown p body)) rest
  loop_back at v from body rest h = grind (arith, common_steps, number_same, that_variable, body_back)

  -- 6. blocks with a label, or with braces alone
  pub labelled_back : (left : Bool) (at : Margin) (body : Block) (rest : List CodePiece) → BlockBack (in_braces_at left at) body (close_body at rest)
      → IsBack at (set_in at.depth ∷ label_before left at (put opening_brace (line_end ∷ block_before p (in_braces_at left at) body (close_body at rest)))) (labelled (shown p body)) rest
  labelled_back left at body rest h = grind (arith, common_steps, body_back)

  -- 7. matches
  -- an arm, where the arms behind it are
  pub arm_then : (k : ℕ) (at : Margin) (u : PlaceUse) (c : Constraint) (fields : List (Option ℕ)) (body : Block) (more : CodeArms) (behind rest : List CodePiece) → pattern_writable p c fields ≡ true → match_writable p u c ≡ true
      → BlockBack (inside at) body (close_body at behind) → read_arms p inner at.label (shown_use p u) k (tokens_of behind) ≡ Some (more, tokens_of rest)
      → read_arms p inner at.label (shown_use p u) (suc k) (tokens_of (arm_head false p at u c fields (block_before p (inside at) body (close_body at behind)))) ≡ Some (code_arm (shown_constraint p c) fields (shown p body) more, tokens_of rest)
  arm_then k at u c fields body more behind rest w m h arms = grind (arith, common_steps, arm_back, body_back)

  pub match_back : (alone : Bool) (at : Margin) (u : PlaceUse) (arms : CodeArms) (shows : CodeArms) (rest : List CodePiece)
      → (alone ≡ true → IsBack at (arms_before true p at u arms rest) (match_on (shown_use p u) shows) rest)
      → read_arms p inner at.label (shown_use p u) n (tokens_of (arms_before false p (inside at) u arms (match_end false at rest))) ≡ Some (shows, tokens_of rest)
      → IsBack at (match_head alone p at u (arms_before alone p (arms_at alone at) u arms (match_end alone at rest))) (match_on (shown_use p u) shows) rest
  match_back alone at u arms shows rest one many = grind (arith, common_steps)
