use Rattle.std.proofs.Common.{take, map, string_bytes}
use Rattle.core_syntax.specs.SyntaxViews.{variant_view}
use Rattle.core_types.proofs.VariantRuns.{VariantsSoFar}
use Rattle.core_types.proofs.type_env.TypeEnv.read_variants.Given as goal

abbrev pub invariant-loop-variant : goal.invariant-loop-variant
invariant-loop-variant l =
    VariantsSoFar (string_bytes l.ty.0) (map variant_view (take l.variant-index l.variants)) l.read.items l.initial.self l.initial.errors.items l.self l.errors.items l.seen
