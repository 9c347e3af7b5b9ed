use Rattle.std.proofs.Common.{slice_get, sym, ◌∙◌}
use Rattle.model.specs.rules.Values.{is_atom_type}
use Rattle.core_syntax.specs.SyntaxViews.{position}
use Rattle.core_types.specs.TypeViews.{type_views}
use Rattle.core_typed.proofs.NotedErrors.{told_when, wrong_when}
use Rattle.core_typed.proofs.checks.check_integer.Goals as goal

pub returns-clause-exact : goal.returns-clause-exact
returns-clause-exact c =
    let at = position c.args.pos in
    wrong_when c.report.result at _ _ (is_atom_type (slice_get (type_views c.args.tyenv.now.types.items) c.args.ty.0)) (sym c.has_integers.ensures ∙ c.if-has_integers.false) (told_when c.report.result at _ _ c.report.ensures.told)
