use Rattle.std.proofs.Common.{◌⊎◌, ◌↔◌, Contains}
use Rattle.core_rule_sets.specs.FieldParts.{IsFieldPart}
use Rattle.core_rule_sets.specs.SiteTables.{table_sites}
use Rattle.core_rule_sets.specs.declared.closure_classes.Part.{Part}
use Rattle.core_rule_sets.proofs.closure_classes.add_parts.Given as goal

abbrev pub invariant-loop-index : goal.invariant-loop-index
invariant-loop-index l =
    (p : Part) → Contains l.parts.items p ↔ (Contains l.fn.parts.items p ⊎ IsFieldPart (table_sites l.table) l.source l.variant l.index p)
