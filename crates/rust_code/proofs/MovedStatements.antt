-- Statements with moves, kind by kind.
use Rattle.std.proofs.Common.{[], ◌≡◌, ◌||◌, ◌∷◌, ◌∙◌, ℕ, Bool, List, Option, Vec, refl, sym, ap}
use Rattle.std.specs.declared.alloc.Global.{Global}
use Rattle.core_syntax.specs.declared.syntax.Pos.{Pos}
use Rattle.core_syntax.specs.SyntaxViews.{position}
use Rattle.core_rule_sets.specs.declared.trie_again.Constraint.{Constraint}
use Rattle.core_rule_sets.specs.SiteViews.{constraint_view}
use Rattle.model_code.specs.Code as M
use Rattle.model_code.specs.Code.{no_code_arm, no_statement}
use Rattle.model_code.specs.Modes.{Types}
use Rattle.model_code.specs.MovedOnce.{block_reads, read_no_more, unlooked}
use Rattle.model_code.specs.Saving.{saved, saved_arms, saved_at, saved_expr, saved_use}
use Rattle.rust_code.specs.declared.code.Use.{Use}
use Rattle.rust_code.specs.declared.code.BoundExpr.{BoundExpr}
use Rattle.rust_code.specs.declared.code.CodeBlock.{CodeBlock}
use Rattle.rust_code.specs.declared.code.CodeArm.{CodeArm}
use Rattle.rust_code.specs.declared.code.Statement.{Statement, Bind, BindSome, NoWay, MatchOn, IfEqual, ForEachOf, Give, Labelled, UnlessLet, UnlessEqual}
use Rattle.rust_code.specs.declared.moves.Spot.{Spot}
use Rattle.rust_code.specs.CodeViews.{arms_before, before, block_view, expr_view, place_view, statement_view, use_view}
use Rattle.rust_code.specs.Spots.{later_at, left_reads}
use Rattle.rust_code.proofs.CodeBridges.{bind_seen, bind_some_seen, no_way_seen, match_seen, equal_seen, loop_seen, give_seen, labelled_seen, unless_let_seen, unless_equal_seen}
use Rattle.rust_code.proofs.MovedBlocks.{made_so}

module _ (types : Types) (movable : List ℕ) (spot : Spot) (s : Statement) where
  abbrev pub moved : M.Statement
  moved = saved_at types movable (later_at s spot) (statement_view s)

  -- read behind the statement, where it binds nothing to the end of its block
  abbrev pub around_body : M.Place → Bool
  around_body q = block_reads q (before spot.rest.now no_statement) || left_reads spot.after.now q

  at_once : (made : Statement) (v w : M.Statement) → statement_view s ≡ v → statement_view made ≡ w → w ≡ saved_at types movable (later_at s spot) v → statement_view made ≡ moved
  at_once made v w is m e = m ∙ e ∙ ap (saved_at types movable (later_at s spot)) (sym is)

  pub bind_moved : (site : ℕ) (e made : BoundExpr) → s ≡ Bind site e → expr_view made ≡ saved_expr types movable (later_at s spot) (expr_view e) → statement_view (Bind site made) ≡ moved
  bind_moved site e made is m = at_once (Bind site made) (M.bind site (expr_view e)) (M.bind site (expr_view made)) (ap statement_view is ∙ bind_seen site e) (bind_seen site made) (ap (M.bind site) m)

  pub give_moved : (pos : Pos) (value made : Use) → s ≡ Give pos value → use_view made ≡ saved_use types movable (later_at s spot) (use_view value) → statement_view (Give pos made) ≡ moved
  give_moved pos value made is m =
      at_once (Give pos made) (M.give (position pos) (use_view value)) (M.give (position pos) (use_view made)) (ap statement_view is ∙ give_seen pos value) (give_seen pos made) (ap (M.give (position pos)) m)

  pub bind_some_stays : (site : ℕ) (value : Use) → s ≡ BindSome site value → statement_view (BindSome site value) ≡ moved
  bind_some_stays site value is = at_once (BindSome site value) (M.bind_some site (use_view value)) _ (ap statement_view is ∙ bind_some_seen site value) (bind_some_seen site value) refl

  pub no_way_stays : s ≡ NoWay → statement_view NoWay ≡ moved
  no_way_stays is = at_once NoWay M.no_way _ (ap statement_view is ∙ no_way_seen) no_way_seen refl

  pub unless_let_stays : (value : Use) (pattern : Constraint) (fields copied : Vec (Option ℕ) Global) → s ≡ UnlessLet value pattern fields → copied.items ≡ fields.items → statement_view (UnlessLet value pattern copied) ≡ moved
  unless_let_stays value pattern fields copied is same =
      at_once (UnlessLet value pattern copied) (M.unless_let (use_view value) (constraint_view pattern) fields.items) (M.unless_let (use_view value) (constraint_view pattern) copied.items)
      (ap statement_view is ∙ unless_let_seen value pattern fields) (unless_let_seen value pattern copied) (ap (M.unless_let (use_view value) (constraint_view pattern)) same)

  pub unless_equal_stays : (a b : Use) → s ≡ UnlessEqual a b → statement_view (UnlessEqual a b) ≡ moved
  unless_equal_stays a b is = at_once (UnlessEqual a b) (M.unless_equal (use_view a) (use_view b)) _ (ap statement_view is ∙ unless_equal_seen a b) (unless_equal_seen a b) refl

  pub match_moved : (value : Use) (arms made : Vec CodeArm Global) → s ≡ MatchOn value arms
      → arms_before made.items no_code_arm ≡ saved_arms types (unlooked movable (place_view value.place)) around_body (arms_before arms.items no_code_arm) → statement_view (MatchOn value made) ≡ moved
  match_moved value arms made is m =
      made_so types movable (before spot.rest.now no_statement) (left_reads spot.after.now) s (MatchOn value made) (M.match_on (use_view value) (arms_before arms.items no_code_arm))
      (M.match_on (use_view value) (arms_before made.items no_code_arm)) (ap statement_view is ∙ match_seen value arms) (match_seen value made) (ap (M.match_on (use_view value)) m)

  pub equal_moved : (a b : Use) (body made : CodeBlock) → s ≡ IfEqual a b body → block_view made ≡ saved types movable around_body (block_view body) → statement_view (IfEqual a b made) ≡ moved
  equal_moved a b body made is m =
      made_so types movable (before spot.rest.now no_statement) (left_reads spot.after.now) s (IfEqual a b made) (M.if_equal (use_view a) (use_view b) (block_view body)) (M.if_equal (use_view a) (use_view b) (block_view made))
      (ap statement_view is ∙ equal_seen a b body) (equal_seen a b made) (ap (M.if_equal (use_view a) (use_view b)) m)

  pub labelled_moved : (body made : CodeBlock) → s ≡ Labelled body → block_view made ≡ saved types movable around_body (block_view body) → statement_view (Labelled made) ≡ moved
  labelled_moved body made is m =
      made_so types movable (before spot.rest.now no_statement) (left_reads spot.after.now) s (Labelled made) (M.labelled (block_view body)) (M.labelled (block_view made)) (ap statement_view is ∙ labelled_seen body) (labelled_seen made)
      (ap M.labelled m)

  pub loop_moved : (site from : ℕ) (body made : CodeBlock) → s ≡ ForEachOf site from body → block_view made ≡ saved types (site ∷ []) read_no_more (block_view body) → statement_view (ForEachOf site from made) ≡ moved
  loop_moved site from body made is m =
      at_once (ForEachOf site from made) (M.for_each_of site from (block_view body)) (M.for_each_of site from (block_view made)) (ap statement_view is ∙ loop_seen site from body) (loop_seen site from made) (ap (M.for_each_of site from) m)
