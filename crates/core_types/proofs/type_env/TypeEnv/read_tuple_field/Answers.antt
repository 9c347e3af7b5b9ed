use Rattle.std.proofs.Common.{rules}
use Rattle.core_types.proofs.NotedPositions.{tuple_type_among}
use Rattle.core_types.proofs.ToldErrors.{noted_among}
use Rattle.core_syntax.specs.SyntaxViews.{tuple_field_view}
use Rattle.core_types.proofs.type_env.TypeEnv.read_tuple_field.Goals as goal

pub returns-in_default : goal.returns-in_default
returns-in_default c =
    record { reads = (noted_among 1 _ _ _ _ (tuple_type_among (tuple_field_view c.args.field.now)) c.in_ok-report_unknown_type.ensures, search rules) }
