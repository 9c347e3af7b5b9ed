-- Blocks as they are written, statement by statement.
use Rattle.std.proofs.Common.{◌≡◌, ◌==◌, ◌+◌, ◌<◌, ◌≤◌, ◌∷◌, [], ℕ, drop, get_or, Bool, true, false, not, List, length, refl, ap, sym, ◌∙◌, arith}
use Rattle.std.proofs.lemmas.Bool.{false≢true}
use Rattle.std.proofs.lemmas.List.{at_drop_more, at_drop_all}
use Rattle.model_code.specs.Code.{PlaceUse, Block, no_statement, statement, Statement, bind, bind_some, no_way, match_on, if_equal, for_each_of, give, labelled, unless_let, unless_equal, no_code_arm}
use Rattle.model_code.specs.Notation.{Notation}
use Rattle.model_code.specs.Pieces as P
use Rattle.model_code.specs.Pieces.{CodePiece, Margin, arm_head, is_left, result_ends, is_end, unless_end, is_alone, block_before, statement_before}
use Rattle.model_code.specs.Written.{is_bare, unwrapped, written, written_at, written_arms}
use Rattle.model_code.proofs.Written.{end_written, left_written}
use Rattle.core_rule_sets.specs.SiteViews.{constraint_view}
use Rattle.rust_code.specs.declared.code.CodeArm.{CodeArm}
use Rattle.rust_code.specs.declared.code.Statement as C
use Rattle.rust_code.specs.CodeViews.{arms_before, before, block_view, statement_view}
use Rattle.rust_text.specs.declared.tokens.Piece as T
use Rattle.rust_text.specs.Adding.{ahead}
use Rattle.rust_text.specs.WrittenBodies.{body_before, labelled_before}

module _ (p : Notation) (at : Margin) where
  pub block_more : (s : Statement) (later : Block) (rest : List CodePiece) → is_end (result_ends p) s ≡ false
      → block_before p at (written p (statement s later)) rest ≡ statement_before p at (written_at p s) (block_before p at (written p later) rest)
  block_more s later rest h = rw (end_written p s, h)

  pub block_ended : (s : Statement) (later : Block) (rest : List CodePiece) → is_end (result_ends p) s ≡ true
      → block_before p at (written p (statement s later)) rest ≡ statement_before p at (written_at p s) rest
  block_ended s later rest h = rw (end_written p s, h)

  pub labelled_written : (body : Block) (rest : List CodePiece) → statement_before p at (written_at p (labelled body)) rest ≡ labelled_before p at body rest
  labelled_written body rest = rw (left_written p body)

  end_alike : (ended : Bool) (rest : List CodePiece) → unless_end ended rest rest ≡ rest
  end_alike true rest = refl
  end_alike false rest = refl

  alone : (s : Statement) (rest : List CodePiece) → block_before p at (written p (statement s no_statement)) rest ≡ statement_before p at (written_at p s) rest
  alone s rest = ap (statement_before p at (written_at p s)) (end_alike (is_end (result_ends p) (written_at p s)) rest)

  abbrev is_labelled : Statement → Bool
  is_labelled (labelled body) = true
  is_labelled s = false

  -- a body of one statement
  pub one_written : (s : Statement) (rest : List CodePiece) → is_labelled s ≡ false
      → block_before p at (unwrapped (is_bare p (statement s no_statement)) (written p (statement s no_statement))) rest ≡ statement_before p at (written_at p s) rest
  one_written (labelled body) rest h = absurd (false≢true (sym h))
  one_written (bind v e) rest h = alone (bind v e) rest
  one_written (bind_some v u) rest h = alone (bind_some v u) rest
  one_written no_way rest h = alone no_way rest
  one_written (match_on u arms) rest h = alone (match_on u arms) rest
  one_written (if_equal a b body) rest h = alone (if_equal a b body) rest
  one_written (for_each_of v from body) rest h = alone (for_each_of v from body) rest
  one_written (give place u) rest h = alone (give place u) rest
  one_written (unless_let u pattern fields) rest h = alone (unless_let u pattern fields) rest
  one_written (unless_equal a b) rest h = alone (unless_equal a b) rest

  -- a body that is a label
  pub label_written : (body : Block) (rest : List CodePiece) → is_left (result_ends p) body ≡ true
      → block_before p at (unwrapped (is_bare p (statement (labelled body) no_statement)) (written p (statement (labelled body) no_statement))) rest ≡ labelled_before p at body rest
  label_written body rest h =
      ap (λ left. block_before p at (unwrapped (not left) (written p (statement (labelled body) no_statement))) rest) h
      ∙ (alone (labelled body) rest ∙ labelled_written body rest)

many_bare : (p : Notation) (s t : Statement) (later : Block) → is_bare p (statement s (statement t later)) ≡ false
many_bare p (labelled body) t later = refl
many_bare p (bind v e) t later = refl
many_bare p (bind_some v u) t later = refl
many_bare p no_way t later = refl
many_bare p (match_on u arms) t later = refl
many_bare p (if_equal a b body) t later = refl
many_bare p (for_each_of v from body) t later = refl
many_bare p (give place u) t later = refl
many_bare p (unless_let u pattern fields) t later = refl
many_bare p (unless_equal a b) t later = refl

-- a body of several statements
pub many_written : (p : Notation) (at : Margin) (s t : Statement) (later : Block) (rest : List CodePiece)
    → block_before p at (unwrapped (is_bare p (statement s (statement t later))) (written p (statement s (statement t later)))) rest ≡ block_before p at (written p (statement s (statement t later))) rest
many_written p at s t later rest = rw (many_bare p s t later)

pub many_inside : (p : Notation) (at : Margin) (rest : List CodePiece) (ss : List C.Statement) → 2 ≤ length ss
    → block_before p at (unwrapped (is_bare p (before ss no_statement)) (written p (before ss no_statement))) rest ≡ block_before p at (written p (before ss no_statement)) rest
many_inside p at rest [] h = refl
many_inside p at rest (s ∷ []) h = absurd (omega (arith, h))
many_inside p at rest (s ∷ t ∷ ss) h = many_written p at (statement_view s) (statement_view t) (before ss no_statement) rest

-- one arm alone
pub alone_by_length : (p : Notation) (arms : List CodeArm) → is_alone (written_arms p (arms_before arms no_code_arm)) ≡ (length arms == 1)
alone_by_length p [] = refl
alone_by_length p (a ∷ []) = refl
alone_by_length p (a ∷ b ∷ arms) = grind arith

-- statements from a place on
module _ (p : Notation) (at : Margin) (ss : List C.Statement) (i : ℕ) (rest : List CodePiece) where
  abbrev pub statements_left : List CodePiece
  statements_left = block_before p at (written p (before (drop i ss) no_statement)) rest

  abbrev pub statements_behind : List CodePiece
  statements_behind = block_before p at (written p (before (drop (i + 1) ss) no_statement)) rest

  module _ (s : C.Statement) (h : i < length ss) (is : s ≡ get_or ss i s) where
    left_is : statements_left ≡ block_before p at (written p (statement (statement_view s) (before (drop (i + 1) ss) no_statement))) rest
    left_is =
        at_drop_more (λ l. block_before p at (written p (before l no_statement)) rest) ss i s h
        ∙ ap (λ x. block_before p at (written p (before (x ∷ drop (i + 1) ss) no_statement)) rest) (sym is)

    module _ (ends ended : Bool) (r : ends ≡ result_ends p) (e : ended ≡ is_end ends (statement_view s)) where
      ended_is : (b : Bool) → ended ≡ b → is_end (result_ends p) (statement_view s) ≡ b
      ended_is b f = ap (λ x. is_end x (statement_view s)) (sym r) ∙ (sym e ∙ f)

      pub statement_more : ended ≡ false → statements_left ≡ statement_before p at (written_at p (statement_view s)) statements_behind
      statement_more f = left_is ∙ block_more p at (statement_view s) (before (drop (i + 1) ss) no_statement) rest (ended_is false f)

      pub statement_ended : ended ≡ true → statements_left ≡ statement_before p at (written_at p (statement_view s)) rest
      statement_ended f = left_is ∙ block_ended p at (statement_view s) (before (drop (i + 1) ss) no_statement) rest (ended_is true f)

-- arms from a place on
module _ (p : Notation) (at : Margin) (is_only : Bool) (u : PlaceUse) (arms : List CodeArm) (i : ℕ) (rest : List CodePiece) where
  abbrev pub arms_left : ℕ → List CodePiece
  arms_left k = P.arms_before is_only p at u (written_arms p (arms_before (drop k arms) no_code_arm)) rest

  pub arms_more : (a : CodeArm) → i < length arms → a ≡ get_or arms i a
      → arms_left i ≡ arm_head is_only p at u (constraint_view a.pattern) a.fields.items (body_before p at (block_view a.body) (arms_left (i + 1)))
  arms_more a h is =
      at_drop_more (λ l. P.arms_before is_only p at u (written_arms p (arms_before l no_code_arm)) rest) arms i a h
      ∙ ap (λ x. P.arms_before is_only p at u (written_arms p (arms_before (x ∷ drop (i + 1) arms) no_code_arm)) rest) (sym is)

  pub arms_done : length arms ≤ i → arms_left i ≡ rest
  arms_done h = at_drop_all (λ l. P.arms_before is_only p at u (written_arms p (arms_before l no_code_arm)) rest) arms i h

-- a statement that is seen as another
pub at_statement : (p : Notation) (at : Margin) (old : List T.Piece) (rest : List CodePiece) (s t : Statement) → s ≡ t
    → ahead p old (statement_before p at (written_at p t) rest) ≡ ahead p old (statement_before p at (written_at p s) rest)
at_statement p at old rest s t e = ap (λ x. ahead p old (statement_before p at (written_at p x) rest)) (sym e)
