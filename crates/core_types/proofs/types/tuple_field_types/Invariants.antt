use Rattle.std.proofs.Common.{◌≡◌, ◌++◌, map, drop}
use Rattle.core_types.proofs.types.tuple_field_types.Given as goal

abbrev pub invariant-loop-part : goal.invariant-loop-part
invariant-loop-part l = map (λ f. f.ty) l.fields ≡ l.types.items ++ map (λ f. f.ty) (drop l.part-index l.fields)
