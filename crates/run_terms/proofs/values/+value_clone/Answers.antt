use Rattle.std.proofs.Common.{refl, rules}
use Rattle.run_terms.proofs.ValueSteps.{row_values-hidden, step_before, end_before}
use Rattle.run_terms.proofs.values.+value_clone.Goals as goal

pub ValueClone::clone-returns-in_ok-value_clones-in-Variant : goal.ValueClone::clone-returns-in_ok-value_clones-in-Variant
ValueClone::clone-returns-in_ok-value_clones-in-Variant t c =
    record { cases = rw (c.in-Variant.is, row_values-hidden c.in_ok-value_clones-in-Variant.field-0, row_values-hidden c.in-Variant.fields, c.in_ok-value_clones-in-Variant.ensures, c.deref.ensures.value) refl }

pub ValueClone::clone-returns-in_ok-value_clones-in-Struct : goal.ValueClone::clone-returns-in_ok-value_clones-in-Struct
ValueClone::clone-returns-in_ok-value_clones-in-Struct t c =
    record { cases = rw (c.in-Struct.is, row_values-hidden c.in_ok-value_clones-in-Struct.field-0, row_values-hidden c.in-Struct.fields, c.in_ok-value_clones-in-Struct.ensures, c.deref-in-Struct.ensures.value) refl }

pub value_clones-loop-part-preserved : goal.value_clones-loop-part-preserved
value_clones-loop-part-preserved t c =
    step_before c.loop-part.out.items c.push.new.self.items c.args.parts.now c.in_ok-clone.field-0 c.part-item.result c.loop-part.part-index (search rules) c.part-item.is c.in_ok-clone.ensures.cases c.in_ok-push.ensures.items c.loop-part.invariant

pub value_clones-returns : goal.value_clones-returns
value_clones-returns t c = end_before c.loop-part.out.items c.args.parts.now c.loop-part.part-index (search rules) c.loop-part.invariant
