use Rattle.std.proofs.Common.{◌≡◌, ◌++◌, drop}
use Rattle.model.specs.trees.Places.{field_sites}
use Rattle.rust_code.proofs.moves.add_fields.Given as goal

abbrev pub invariant-loop-field : goal.invariant-loop-field
invariant-loop-field l = l.inside.items ++ field_sites (drop l.field-index l.fields) ≡ l.fn.inside.items ++ field_sites l.fields
