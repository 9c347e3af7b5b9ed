use Rattle.std.proofs.Common.{drop}
use Rattle.core_types.proofs.FieldSteps.{ReadsMoreTuple}
use Rattle.core_types.proofs.type_env.TypeEnv.read_tuple_fields.Given as goal

abbrev pub invariant-loop-field : goal.invariant-loop-field
invariant-loop-field l = ReadsMoreTuple l.fields (drop l.field-index l.fields) l.read.items l.self l.fn.errors.items l.errors.items
