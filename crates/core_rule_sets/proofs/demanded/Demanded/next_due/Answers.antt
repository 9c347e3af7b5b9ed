use Rattle.std.proofs.Common.{◌∙◌, sym}
use Rattle.std.specs.Ordering.{nat_cmp}
use Rattle.std.specs.BTreeSet.{IsLowerBound}
use Rattle.core_rule_sets.proofs.ClosingSteps.{held_same}
use Rattle.core_rule_sets.proofs.DueSites.{least_due, due_again, of_copied}
use Rattle.core_rule_sets.proofs.demanded.Demanded.next_due.Goals as goal

pub returns-in-Some-due_constraint-clause-next : goal.returns-in-Some-due_constraint-clause-next
returns-in-Some-due_constraint-clause-next c =
    let old = c.args.self.now in
    let now = c.loop-site.self in
    let same = due_again old now c.loop-site.invariant.asked c.loop-site.invariant.equated in
    let site = c.in-Some.site in
    record {
      constraint = sym (held_same old now c.loop-site.invariant.asked site) ∙ c.in-Some-due_constraint.ensures.0;
      due = sym (same site site) ∙ c.in-Some-due_constraint.ensures.1;
      least = λ r t. least_due now site r c.loop-site.invariant.due (of_copied (IsLowerBound nat_cmp now.open) c.first.result site c.first.ensures.least (sym c.copied.ensures ∙ c.in-Some.is)) (same r r ∙ t);
    }
