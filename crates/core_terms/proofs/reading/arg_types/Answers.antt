use Rattle.std.proofs.Common.{map, rules, subst}
use Rattle.core_syntax.specs.NotedErrors.{NotesMore}
use Rattle.core_syntax.specs.Positions.{NotesAt, name_positions}
use Rattle.core_syntax.specs.SyntaxViews.{name_view}
use Rattle.core_syntax.proofs.Positioned.{notes_among, notes_nothing}
use Rattle.core_terms.proofs.NotedPositions.{name_among}
use Rattle.core_terms.proofs.Arguments.{next_type, unknown_type}
use Rattle.core_terms.proofs.reading.arg_types.Goals as goal

pub returns-in_default-clause-noted : goal.returns-in_default-clause-noted
returns-in_default-clause-noted c = (
  subst (λ es. NotesMore es c.report_name.new.errors.items) c.loop-name.invariant.0 c.in_ok-report_name.ensures.noted,
  unknown_type c.args.tyenv.now c.args.names.now c.loop-name.name-index c.name-item.result (search rules) c.name-item.is _ c.loop-name.invariant.1 c.in_default.ensures,
)

pub loop-name-preserved : goal.loop-name-preserved
loop-name-preserved c = (
  c.loop-name.invariant.0,
  next_type c.args.tyenv.now c.args.names.now c.loop-name.name-index c.name-item.result (search rules) c.name-item.is _ c.loop-name.invariant.1 c.push.new.self.items c.in-Some.ty c.in_ok-push.ensures.items c.in-Some.ensures,
)

pub returns-in_default-clause-places : goal.returns-in_default-clause-places
returns-in_default-clause-places c =
    let ns = c.args.names.now in
    subst (λ es. NotesAt (name_positions (map name_view ns)) es c.report_name.new.errors.items) c.loop-name.invariant.0
    (notes_among _ _ _ _ (name_among ns c.loop-name.name-index c.name-item.result (search rules) c.name-item.is) c.in_ok-report_name.ensures.places)

pub returns-clause-places : goal.returns-clause-places
returns-clause-places c = notes_nothing _ _ _ c.loop-name.invariant.0
