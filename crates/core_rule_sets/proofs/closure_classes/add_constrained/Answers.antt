use Rattle.core_rule_sets.proofs.closure_classes.add_constrained.Goals as goal

pub returns-in-Variant : goal.returns-in-Variant
returns-in-Variant c = rw c.in-Variant.is c.add_parts.ensures

pub returns-in-Struct : goal.returns-in-Struct
returns-in-Struct c = rw c.in-Struct.is c.add_parts-in-Struct.ensures
