-- The code that data is, without where its parts lie in memory.
use Rattle.std.specs.Prelude.{List, [], ◌∷◌, map}
use Rattle.core_syntax.specs.SyntaxViews.{position}
use Rattle.core_rule_sets.specs.SiteViews.{constraint_view}
use Rattle.model_code.specs.Code as M
use Rattle.model_code.specs.Code.{Block, no_statement, statement, CodeArms, no_code_arm, code_arm}
use Rattle.rust_code.specs.declared.code.ReadPlace.{ReadPlace}
use Rattle.rust_code.specs.declared.code.ReadPlace.TheVariants as P
use Rattle.rust_code.specs.declared.code.Pass.{Pass}
use Rattle.rust_code.specs.declared.code.Pass.TheVariants as W
use Rattle.rust_code.specs.declared.code.Use.{Use}
use Rattle.rust_code.specs.declared.code.BoundExpr.{BoundExpr}
use Rattle.rust_code.specs.declared.code.BoundExpr.TheVariants as E
use Rattle.rust_code.specs.declared.code.CodeBlock.{CodeBlock}
use Rattle.rust_code.specs.declared.code.CodeArm.{CodeArm}
use Rattle.rust_code.specs.declared.code.Statement.{Statement, Bind, BindSome, NoWay, MatchOn', IfEqual', ForEachOf', Give, Labelled', UnlessLet, UnlessEqual}
use Rattle.rust_code.specs.declared.code.Statement.TheBlock.{Row_of-Statement, end_of-Statement, more_of-Statement, Row_of-CodeArm, end_of-CodeArm, more_of-CodeArm}

abbrev pub place_view : ReadPlace → M.Place
place_view (P.Variable site) = M.variable site
place_view (P.Parameter index) = M.parameter index
place_view (P.PartOf tuple field) = M.part_of tuple field
place_view (P.IntWritten val ty) = M.int_written val ty.0
place_view (P.NameWritten name) = M.name_written name.0
place_view (P.VariantWritten ty variant) = M.variant_written ty.0 variant.0
place_view (P.StructWritten ty) = M.struct_written ty.0

abbrev pub pass_view : Pass → M.Pass
pass_view W.AsItIs = M.as_it_is
pass_view W.Lent = M.lent
pass_view W.Cloned = M.cloned
pass_view W.SeenThrough = M.seen_through

abbrev pub use_view : Use → M.PlaceUse
use_view u = record { place = place_view u.place; pass = pass_view u.pass }

abbrev pub use_views : List Use → List M.PlaceUse
use_views us = map use_view us

abbrev pub expr_view : BoundExpr → M.Expr
expr_view (E.TruthWritten val ty) = M.truth_written val ty.0
expr_view (E.Extraction term value) = M.extraction term.0 (use_view value)
expr_view (E.Call term args instance) = M.call term.0 (use_views args.items) instance
expr_view (E.VariantOf ty variant fields) = M.variant_of ty.0 variant.0 (use_views fields.items)
expr_view (E.StructOf ty fields) = M.struct_of ty.0 (use_views fields.items)
expr_view (E.SomeOf value) = M.some_of (use_view value)

unfoldable mutual
  pub statement_view : Statement → M.Statement
  statement_view (Bind site expr) = M.bind site (expr_view expr)
  statement_view (BindSome site value) = M.bind_some site (use_view value)
  statement_view NoWay = M.no_way
  statement_view (MatchOn' value shape rows) = M.match_on (use_view value) (row_arms rows)
  statement_view (IfEqual' a b shape rows) = M.if_equal (use_view a) (use_view b) (row_statements rows)
  statement_view (ForEachOf' site from shape rows) = M.for_each_of site from (row_statements rows)
  statement_view (Give pos value) = M.give (position pos) (use_view value)
  statement_view (Labelled' shape rows) = M.labelled (row_statements rows)
  statement_view (UnlessLet value pattern fields) = M.unless_let (use_view value) (constraint_view pattern) fields.items
  statement_view (UnlessEqual a b) = M.unless_equal (use_view a) (use_view b)

  pub row_statements : {m : _} → Row_of-Statement m → Block
  row_statements end_of-Statement = no_statement
  row_statements (more_of-Statement s rest) = statement (statement_view s) (row_statements rest)

  pub row_arms : {m : _} → Row_of-CodeArm m → CodeArms
  row_arms end_of-CodeArm = no_code_arm
  row_arms (more_of-CodeArm pattern fields shape rows rest) = code_arm (constraint_view pattern) fields.items (row_statements rows) (row_arms rest)

-- statements before those of a block
abbrev pub before : List Statement → Block → Block
before [] rest = rest
before (s ∷ ss) rest = statement (statement_view s) (before ss rest)

abbrev pub block_view : CodeBlock → Block
block_view b = before b.statements.items no_statement

-- an arm before others
abbrev pub arm_view : CodeArm → CodeArms → CodeArms
arm_view a rest = code_arm (constraint_view a.pattern) a.fields.items (block_view a.body) rest

-- arms before others
abbrev pub arms_before : List CodeArm → CodeArms → CodeArms
arms_before [] rest = rest
arms_before (a ∷ arms) rest = arm_view a (arms_before arms rest)
