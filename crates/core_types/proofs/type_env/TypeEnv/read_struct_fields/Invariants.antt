use Rattle.std.proofs.Common.{drop}
use Rattle.core_types.proofs.FieldSteps.{ReadsMore}
use Rattle.core_types.proofs.type_env.TypeEnv.read_struct_fields.Given as goal

abbrev pub invariant-loop-field : goal.invariant-loop-field
invariant-loop-field l = ReadsMore l.fields (drop l.field-index l.fields) l.read.items l.seen l.fn.self l.fn.errors.items l.self l.errors.items
