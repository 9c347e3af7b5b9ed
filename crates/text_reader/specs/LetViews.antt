-- One definition of a let: a name, its type's name, its value and its place.
use Rattle.model.specs.lists.Syntax.{Position, Name, ExprTree}
use Rattle.core_syntax.specs.declared.syntax.LetDef.{LetDef}
use Rattle.core_syntax.specs.SyntaxViews.{expr_view, name_view, position}

abbrev pub let_tuple : LetDef → Name × Name × ExprTree × Position
let_tuple d = (name_view d.var, name_view d.ty, expr_view d.val.value, position d.pos)
