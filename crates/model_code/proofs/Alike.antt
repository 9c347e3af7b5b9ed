-- Code is written as what is shown of it, in a notation where terms are functions and types are endings.
use Rattle.std.proofs.Common.{◌≡◌, ◌∷◌, [], ℕ, suc, Bool, true, false, List, Option, Some, None, refl, ap, ◌∙◌, sym, arith}
use Rattle.std.proofs.lemmas.Grind.{common_steps}
use Rattle.model.specs.sites.Sites.{Constraint, is_variant, is_struct, is_bool, is_int, is_prim, is_present}
use Rattle.model_code.specs.Code.{PlaceUse, Expr, truth_written, read, extraction, call, variant_of, struct_of, some_of, Block, no_statement, statement, Statement, bind, bind_some, no_way, match_on, if_equal, for_each_of, give, labelled, unless_let, unless_equal, CodeArms, no_code_arm, code_arm}
use Rattle.model_code.specs.Tokens.{Word, opening, closing, opening_brace, closing_brace, comma, semicolon, break_word, arrow, unreachable_word, Owner, variant_owner, struct_owner, Token, word, owner_name, label_name}
use Rattle.model_code.specs.Notation.{Notation, ReturnForm, Shape, Callee, extractor_of, constructor_of}
use Rattle.model_code.specs.Pieces.{CodePiece, token, space, line_end, tokens_of, Margin, inside, in_braces_at, put, put_between, put_all, put_if, end_line, use_before, args_before, named_values, unnamed_values, made_before, answer_before, expr_before, named_bindings, place_in_order, unnamed_bindings, constant_before, pattern_before, condition_before, arm_pattern, label_number, break_before, open_body, close_body, one_line, call_lines, bind_lines, give_lines, equal_head, loop_head, unless_line, unless_equal_line, is_alone, match_head, arms_at, arm_head, match_end, label_before, is_left, leaves_at, leaves_arms, result_ends, is_end, unless_end, block_before, statement_before, arms_before}
use Rattle.model_code.specs.Shown.{shown_place, shown_use, shown_uses, shown_made, shown_expr, shown_constraint, test_at, equal_or_match, unless_either, shown, shown_at, shown_arms}
use Rattle.model_code.specs.Written.{no_margin, written}
use Rattle.model_code.proofs.Written.{either}
use Rattle.model_code.specs.Alike.{term_of, IsByName, ShownIsAll}

abbrev as_shown : Notation → (many_of composed_of : ℕ → Bool) → (list_of : ℕ → Option ℕ) → Notation
as_shown p many_of composed_of list_of = record {
  kind = p.kind;
  is_logged = p.is_logged;
  shape = p.shape;
  is_field_composed = p.is_field_composed;
  is_constant_composed = p.is_constant_composed;
  gives_composed = λ f. composed_of (term_of f);
  has_many = λ f. many_of (term_of f);
  function = term_of;
  list = λ f. list_of (term_of f);
  ending = λ ty. ty;
}

module _ (p : Notation) (many_of composed_of : ℕ → Bool) (list_of : ℕ → Option ℕ) (by : IsByName p many_of composed_of list_of) where
  abbrev q : Notation
  q = as_shown p many_of composed_of list_of

  -- the tokens are the same
  abbrev Same : List CodePiece → List CodePiece → Type 0
  Same r s = tokens_of r ≡ tokens_of s

  first : (t : Token) (r s : List CodePiece) → Same r s → Same (token t ∷ r) (token t ∷ s)
  first t r s e = ap (λ tokens. t ∷ tokens) e

  all : (ws : List Word) (r s : List CodePiece) → Same r s → Same (put_all ws r) (put_all ws s)
  all [] r s e = e
  all (w ∷ ws) r s e = first (word w) (put_all ws r) (put_all ws s) (all ws r s e)

  -- 1. places, uses, and what is bound
  use_same : (u : PlaceUse) (r s : List CodePiece) → Same r s → Same (use_before p u r) (use_before q (shown_use p u) s)
  use_same u r s e = grind (arith, all)

  args_same : (us : List PlaceUse) (r s : List CodePiece) → Same r s → Same (args_before p us r) (args_before q (shown_uses p us) s)
  args_same [] r s e = e
  args_same (u ∷ us) r s e = ap (λ tokens. word comma ∷ tokens) (use_same u (args_before p us r) (args_before q (shown_uses p us) s) (args_same us r s e))

  abbrev named : Callee → Callee
  named f = constructor_of (p.function f)

  if_same : (b : Bool) (w : Word) (r s : List CodePiece) → Same r s → Same (put_if b w r) (put_if b w s)
  if_same b w r s e = grind (arith, common_steps, first)

  answer_same : (f : Callee) (us : List PlaceUse) (r s : List CodePiece) → Same r s → Same (answer_before p f us r) (answer_before q (named f) (shown_uses p us) s)
  answer_same f us r s e = grind (arith, common_steps, if_same, first, args_same)

  named_same : (o : Owner) (i : ℕ) (us : List PlaceUse) (r s : List CodePiece) → Same r s → Same (named_values p o i us r) (named_values q o i (shown_uses p us) s)
  named_same o i [] r s e = first (word closing_brace) r s e
  named_same o i (u ∷ us) r s e = grind (arith, common_steps, named_same o (suc i) us r s e, use_same)

  unnamed_same : (i : ℕ) (us : List PlaceUse) (r s : List CodePiece) → Same r s → Same (unnamed_values p i us r) (unnamed_values q i (shown_uses p us) s)
  unnamed_same i [] r s e = first (word closing) r s e
  unnamed_same i (u ∷ us) r s e = grind (arith, common_steps, unnamed_same (suc i) us r s e, use_same)

  made_struct : (ty : ℕ) (shape : Shape) (us : List PlaceUse) (r s : List CodePiece) → p.shape (struct_owner ty) ≡ shape → Same r s
      → Same (token (owner_name (struct_owner ty)) ∷ made_before p (struct_owner ty) shape us r) (expr_before q (shown_made (struct_owner ty) shape (shown_uses p us)) s)
  made_struct ty shape us r s h e = grind (arith, common_steps, first, named_same, unnamed_same)

  -- 2. patterns
  named_fields_same : (o : Owner) (i : ℕ) (bound lacking : Bool) (fields : List (Option ℕ)) (r s : List CodePiece) → Same r s → Same (named_bindings p o i bound lacking fields r) (named_bindings q o i bound lacking fields s)
  named_fields_same o i bound lacking [] r s e = grind (arith, first)
  named_fields_same o i bound lacking (None ∷ fields) r s e = named_fields_same o (suc i) bound true fields r s e
  named_fields_same o i bound lacking (Some v ∷ fields) r s e = grind (arith, named_fields_same o (suc i) true lacking fields r s e)

  in_order_same : (o : Owner) (i : ℕ) (field : Option ℕ) (r s : List CodePiece) → Same r s → Same (place_in_order p o i field r) (place_in_order q o i field s)
  in_order_same o i field r s e = grind (arith, common_steps)

  unnamed_fields_same : (o : Owner) (i : ℕ) (fields : List (Option ℕ)) (r s : List CodePiece) → Same r s → Same (unnamed_bindings p o i fields r) (unnamed_bindings q o i fields s)
  unnamed_fields_same o i [] r s e = first (word closing) r s e
  unnamed_fields_same o i (field ∷ fields) r s e = grind (arith, common_steps, unnamed_fields_same o (suc i) fields r s e, in_order_same)

  constant_same : (c : Constraint) (r s : List CodePiece) → Same r s → Same (constant_before p c r) (constant_before q (shown_constraint p c) s)
  constant_same c r s e = grind (arith, common_steps, first)

  pattern_same : (c : Constraint) (fields : List (Option ℕ)) (r s : List CodePiece) → Same r s → Same (pattern_before p c fields r) (pattern_before q (shown_constraint p c) fields s)
  pattern_same c fields r s e = grind (arith, common_steps, first, named_fields_same, unnamed_fields_same)

  -- 3. tests
  condition_same : (constant : Bool) (u : PlaceUse) (c : Constraint) (fields : List (Option ℕ)) (r s : List CodePiece) → Same r s → Same (condition_before constant p u c fields r) (condition_before constant q (shown_use p u) (shown_constraint p c) fields s)
  condition_same true u c fields r s e = grind (arith, if_same, use_same, constant_same)
  condition_same false u c fields r s e = grind (arith, pattern_same, use_same)

  arm_pattern_same : (u : PlaceUse) (c : Constraint) (fields : List (Option ℕ)) (r s : List CodePiece) → Same r s → Same (arm_pattern p u c fields r) (arm_pattern q (shown_use p u) (shown_constraint p c) fields s)
  arm_pattern_same u (is_prim name) fields r s e = grind (arith, if_same, use_same, constant_same)
  arm_pattern_same u (is_variant ty variant n) fields r s e = pattern_same (is_variant ty variant n) fields r s e
  arm_pattern_same u (is_struct ty n) fields r s e = pattern_same (is_struct ty n) fields r s e
  arm_pattern_same u (is_bool b ty) fields r s e = pattern_same (is_bool b ty) fields r s e
  arm_pattern_same u (is_int z ty) fields r s e = pattern_same (is_int z ty) fields r s e
  arm_pattern_same u is_present fields r s e = pattern_same is_present fields r s e

  break_same : (at : Margin) (r s : List CodePiece) → Same r s → Same (break_before at r) (break_before at s)
  break_same at r s e = ap (λ tokens. word opening_brace ∷ (word break_word ∷ (label_name (label_number at.label) ∷ (word closing_brace ∷ tokens)))) e

  -- 4. lines
  close_same : (at : Margin) (r s : List CodePiece) → Same r s → Same (close_body at r) (close_body at s)
  close_same at r s e = first (word closing_brace) r s e

  end_line_same : (r s : List CodePiece) → Same r s → Same (end_line r) (end_line s)
  end_line_same r s e = first (word semicolon) r s e

  one_same : (at : Margin) (v : ℕ) (x : Expr) (r s : List CodePiece) → Same r s → Same (one_line p at v x r) (one_line q at v (shown_expr p x) s)
  one_same at v x r s e = grind (arith, end_line_same, first, use_same, answer_same, made_struct, named_same, unnamed_same)

  call_same : (many : Bool) (at : Margin) (v : ℕ) (f : Callee) (us : List PlaceUse) (x : Expr) (r s : List CodePiece) → shown_expr p x ≡ call (p.function f) (shown_uses p us) 0 → Same r s
      → Same (call_lines many p at v f us x r) (call_lines many q at v (named f) (shown_uses p us) (call (p.function f) (shown_uses p us) 0) s)
  call_same true at v f us x r s h e = grind (arith, args_same)
  call_same false at v f us x r s h e = one_same at v x r s e ∙ ap (λ y. tokens_of (one_line q at v y s)) h

  made_line : (at : Margin) (v : ℕ) (o : Owner) (shape : Shape) (us : List PlaceUse) (s : List CodePiece) → bind_lines q at v (shown_made o shape us) s ≡ one_line q at v (shown_made o shape us) s
  made_line at v o shape us s = grind (arith, common_steps)

  bind_same : (at : Margin) (v : ℕ) (x : Expr) (r s : List CodePiece) → Same r s → Same (bind_lines p at v x r) (bind_lines q at v (shown_expr p x) s)
  bind_same at v (extraction term u) r s e = rw (by.many (extractor_of term)) (call_same (many_of (p.function (extractor_of term))) at v (extractor_of term) (u ∷ []) (extraction term u) r s refl e)
  bind_same at v (call term us instance) r s e = rw (by.many (constructor_of term)) (call_same (many_of (p.function (constructor_of term))) at v (constructor_of term) us (call term us instance) r s refl e)
  bind_same at v (truth_written b ty) r s e = one_same at v (truth_written b ty) r s e
  bind_same at v (read u) r s e = one_same at v (read u) r s e
  bind_same at v (variant_of ty variant us) r s e =
      one_same at v (variant_of ty variant us) r s e ∙ sym (ap tokens_of (made_line at v (variant_owner ty variant) (p.shape (variant_owner ty variant)) (shown_uses p us) s))
  bind_same at v (struct_of ty us) r s e =
      one_same at v (struct_of ty us) r s e ∙ sym (ap tokens_of (made_line at v (struct_owner ty) (p.shape (struct_owner ty)) (shown_uses p us) s))
  bind_same at v (some_of u) r s e = one_same at v (some_of u) r s e

  given_same : (kind : ReturnForm) (at : Margin) (u : PlaceUse) (r s : List CodePiece) → Same r s → Same (give_lines kind p at u r) (give_lines kind q at (shown_use p u) s)
  given_same kind at u r s e = grind (arith, common_steps, use_same, end_line_same, all)

  loop_same : (at : Margin) (v from : ℕ) (r s : List CodePiece) → Same r s → Same (loop_head at v from r) (loop_head at v from s)
  loop_same at v from r s e = grind (arith, common_steps, all)

  unless_same : (constant : Bool) (at : Margin) (u : PlaceUse) (c : Constraint) (fields : List (Option ℕ)) (r s : List CodePiece) → Same r s → Same (unless_line constant p at u c fields r) (unless_line constant q at (shown_use p u) (shown_constraint p c) fields s)
  unless_same true at u c fields r s e = grind (arith, break_same, if_same, use_same, constant_same)
  unless_same false at u c fields r s e = grind (arith, common_steps, break_same, end_line_same, pattern_same, use_same)

  -- 5. a comparison with a constant, and a match with it, have the same tokens
  uses_same : (sign : Word) (a b : PlaceUse) (r s : List CodePiece) → Same r s → Same (use_before p a (put_between sign (use_before p b r))) (use_before q (shown_use p a) (put_between sign (use_before q (shown_use p b) s)))
  uses_same sign a b r s e = use_same a (put_between sign (use_before p b r)) (put_between sign (use_before q (shown_use p b) s)) (ap (λ tokens. word sign ∷ tokens) (use_same b r s e))

  abbrev test_of : PlaceUse → PlaceUse → Option (PlaceUse × Constraint)
  test_of a b = test_at p (shown_use p a) (shown_place p b.place) b.pass

  equal_same : (t : Option (PlaceUse × Constraint)) (at : Margin) (a b : PlaceUse) (body : Block) (r s : List CodePiece) → test_of a b ≡ t
      → Same r (block_before q (inside at) body (close_body at s)) → Same (equal_head p at a b r) (statement_before q at (equal_or_match t (shown_use p a) (shown_use p b) body) s)
  equal_same t at a b body r s h e = grind (arith, common_steps, uses_same)

  unless_equal_same : (t : Option (PlaceUse × Constraint)) (at : Margin) (a b : PlaceUse) (r s : List CodePiece) → test_of a b ≡ t → Same r s → Same (unless_equal_line p at a b r) (statement_before q at (unless_either t (shown_use p a) (shown_use p b)) s)
  unless_equal_same t at a b r s h e = grind (arith, common_steps, uses_same, break_same)

  -- 6. what ends a block, and which labels are left
  end_is : (s : Statement) → is_end (result_ends q) (shown_at p s) ≡ is_end (result_ends p) s
  end_is s = grind (arith, common_steps)

  left_of_either : (t : Option (PlaceUse × Constraint)) (a b : PlaceUse) (body : Block) → leaves_at (result_ends q) (equal_or_match t a b body) ≡ is_left (result_ends q) body
  left_of_either t a b body = grind (arith, common_steps)

  mutual
    left_is : (b : Block) → is_left (result_ends q) (shown p b) ≡ is_left (result_ends p) b
    left_is no_statement = refl
    left_is (statement s later) = grind (arith, leaves_is s, left_is later, end_is, either)

    leaves_is : (s : Statement) → leaves_at (result_ends q) (shown_at p s) ≡ leaves_at (result_ends p) s
    leaves_is (match_on u arms) = arms_left arms
    leaves_is (if_equal a b body) = left_of_either (test_of a b) (shown_use p a) (shown_use p b) (shown p body) ∙ left_is body
    leaves_is (for_each_of v from body) = left_is body
    leaves_is s = grind (arith, common_steps)

    arms_left : (arms : CodeArms) → leaves_arms (result_ends q) (shown_arms p arms) ≡ leaves_arms (result_ends p) arms
    arms_left no_code_arm = refl
    arms_left (code_arm c fields body rest) = either (left_is body) (arms_left rest)

  alone_is : (arms : CodeArms) → is_alone (shown_arms p arms) ≡ is_alone arms
  alone_is arms = grind (arith, common_steps)

  head_same : (alone : Bool) (at : Margin) (u : PlaceUse) (r s : List CodePiece) → Same r s → Same (match_head alone p at u r) (match_head alone q at (shown_use p u) s)
  head_same alone at u r s e = grind (arith, common_steps, use_same)

  arm_same : (alone : Bool) (at : Margin) (u : PlaceUse) (c : Constraint) (fields : List (Option ℕ)) (r s : List CodePiece) → Same r s → Same (arm_head alone p at u c fields r) (arm_head alone q at (shown_use p u) (shown_constraint p c) fields s)
  arm_same true at u c fields r s e = grind (arith, condition_same, first)
  arm_same false at u c fields r s e = arm_pattern_same u c fields (space ∷ put arrow (open_body r)) (space ∷ put arrow (open_body s)) (ap (λ tokens. word arrow ∷ (word opening_brace ∷ tokens)) e)

  match_end_same : (alone : Bool) (at : Margin) (r s : List CodePiece) → Same r s → Same (match_end alone at r) (match_end alone at s)
  match_end_same alone at r s e = grind (arith, common_steps)

  label_same : (left : Bool) (at : Margin) (r s : List CodePiece) → Same r s → Same (label_before left at r) (label_before left at s)
  label_same left at r s e = grind (arith, common_steps)

  later_same : (ended : Bool) (at : Margin) (x y : Block) (r s : List CodePiece) → Same r s → Same (block_before p at x r) (block_before q at y s)
      → Same (unless_end ended r (block_before p at x r)) (unless_end ended s (block_before q at (unless_end ended no_statement y) s))
  later_same ended at x y r s e h = grind (arith, common_steps)

  mutual
    block_same : (b : Block) (at : Margin) (r s : List CodePiece) → Same r s → Same (block_before p at b r) (block_before q at (shown p b) s)
    block_same no_statement at r s e = e
    block_same (statement x later) at r s e = rw (end_is x) (statement_same x at (unless_end (is_end (result_ends p) x) r (block_before p at later r)) (unless_end (is_end (result_ends p) x) s (block_before q at (unless_end (is_end (result_ends p) x) no_statement (shown p later)) s))
        (later_same (is_end (result_ends p) x) at later (shown p later) r s e (block_same later at r s e)))

    statement_same : (x : Statement) (at : Margin) (r s : List CodePiece) → Same r s → Same (statement_before p at x r) (statement_before q at (shown_at p x) s)
    statement_same (bind v x) at r s e = bind_same at v x r s e
    statement_same (bind_some v u) at r s e = grind (arith, use_same)
    statement_same no_way at r s e = all (unreachable_word ∷ opening ∷ closing ∷ semicolon ∷ []) r s e
    statement_same (match_on u arms) at r s e = rw (alone_is arms) (
        head_same (is_alone arms) at u _ _ (arms_same arms (is_alone arms) (arms_at (is_alone arms) at) u (match_end (is_alone arms) at r) (match_end (is_alone arms) at s) (match_end_same (is_alone arms) at r s e)))
    statement_same (if_equal a b body) at r s e = equal_same (test_of a b) at a b (shown p body) (block_before p (inside at) body (close_body at r)) s refl (block_same body (inside at) (close_body at r) (close_body at s) (close_same at r s e))
    statement_same (for_each_of v from body) at r s e =
        loop_same at v from (block_before p (inside at) body (close_body at r)) (block_before q (inside at) (shown p body) (close_body at s)) (block_same body (inside at) (close_body at r) (close_body at s) (close_same at r s e))
    statement_same (give place u) at r s e = grind (arith, given_same)
    statement_same (labelled body) at r s e = rw (left_is body) (
        label_same (is_left (result_ends p) body) at (put opening_brace (line_end ∷ block_before p (in_braces_at (is_left (result_ends p) body) at) body (close_body at r))) (put opening_brace (line_end ∷ block_before q (in_braces_at (is_left (result_ends p) body) at) (shown p body) (close_body at s)))
        (ap (λ tokens. word opening_brace ∷ tokens) (block_same body (in_braces_at (is_left (result_ends p) body) at) (close_body at r) (close_body at s) (close_same at r s e))))
    statement_same (unless_let u c fields) at r s e = grind (arith, unless_same)
    statement_same (unless_equal a b) at r s e = unless_equal_same (test_of a b) at a b r s refl e

    arms_same : (arms : CodeArms) (alone : Bool) (at : Margin) (u : PlaceUse) (r s : List CodePiece) → Same r s → Same (arms_before alone p at u arms r) (arms_before alone q at (shown_use p u) (shown_arms p arms) s)
    arms_same no_code_arm alone at u r s e = e
    arms_same (code_arm c fields body rest) alone at u r s e = grind (arith, block_same body (inside at), arms_same rest alone at u r s e, arm_same, close_same)

pub shown_is_all_lem : ShownIsAll
shown_is_all_lem p many_of composed_of list_of by a b e =
    block_same p many_of composed_of list_of by (written p a) no_margin [] [] refl
    ∙ (ap (λ code. tokens_of (block_before (as_shown p many_of composed_of list_of) no_margin code [])) e ∙ sym (block_same p many_of composed_of list_of by (written p b) no_margin [] [] refl))
