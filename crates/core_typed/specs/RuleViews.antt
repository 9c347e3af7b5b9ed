-- What typed rules say, without where their parts lie in memory.
use Rattle.std.specs.Prelude.{List, map, option_map}
use Rattle.model.specs.rules.Typed.{TypedIfLet, TypedVar, TypedRule}
use Rattle.core_syntax.specs.SyntaxViews.{position}
use Rattle.core_typed.specs.declared.rules.BoundVar.{BoundVar}
use Rattle.core_typed.specs.declared.rules.IfLet.{IfLet}
use Rattle.core_typed.specs.declared.rules.Rule.{Rule}
use Rattle.core_typed.specs.PatternViews.{pattern_view, pattern_views}
use Rattle.core_typed.specs.ExprViews.{expr_view}

abbrev pub var_view : BoundVar → TypedVar
var_view v = record { id = v.id.0; name = v.name.0; ty = v.ty.0 }

abbrev pub iflet_view : IfLet → TypedIfLet
iflet_view i = record { lhs = pattern_view i.lhs; rhs = expr_view i.rhs }

abbrev pub rule_view : Rule → TypedRule
rule_view r = record {
  id = r.id.0;
  root_term = r.root_term.0;
  args = pattern_views r.args.items;
  iflets = map iflet_view r.iflets.items;
  rhs = expr_view r.rhs;
  vars = map var_view r.vars.items;
  prio = r.prio;
  at = position r.pos;
  name = option_map (λ s. s.0) r.name;
}

abbrev pub rule_views : List Rule → List TypedRule
rule_views rs = map rule_view rs
