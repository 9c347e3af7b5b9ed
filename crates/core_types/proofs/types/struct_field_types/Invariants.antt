use Rattle.std.proofs.Common.{◌≡◌, ◌++◌, map, drop}
use Rattle.core_types.proofs.types.struct_field_types.Given as goal

abbrev pub invariant-loop-field : goal.invariant-loop-field
invariant-loop-field l = map (λ f. f.ty) l.fields ≡ l.types.items ++ map (λ f. f.ty) (drop l.field-index l.fields)
