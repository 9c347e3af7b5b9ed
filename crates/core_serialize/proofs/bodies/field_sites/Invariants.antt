use Rattle.std.proofs.Common.{◌≡◌, ◌++◌, drop}
use Rattle.model.specs.trees.Places.{field_sites}
use Rattle.core_serialize.proofs.bodies.field_sites.Given as goal

abbrev pub invariant-loop-field : goal.invariant-loop-field
invariant-loop-field l = field_sites l.fields ≡ l.sites.items ++ field_sites (drop l.field-index l.fields)
