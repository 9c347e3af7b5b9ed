use Rattle.std.proofs.Common.{◌≡◌, ◌++◌, map, drop}
use Rattle.core_builder.proofs.builder_exprs.ids_of.Given as goal

abbrev pub invariant-loop-input : goal.invariant-loop-input
invariant-loop-input l = map (λ x. x.0) l.inputs ≡ l.ids.items ++ map (λ x. x.0) (drop l.input-index l.inputs)
