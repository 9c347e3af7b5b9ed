use Rattle.std.proofs.Common.{ℕ}
use Rattle.model.specs.sites.Sites.{SiteTerm}
use Rattle.core_rule_sets.specs.Verdicts.{class_head}
use Rattle.core_rule_sets.specs.FieldParts.{AreCongruent, HaveOneName}
use Rattle.core_rule_sets.proofs.FieldJoins.{pairs_apart}
use Rattle.core_rule_sets.proofs.closure_classes.join_parts.Given as goal

abbrev pub invariant-loop : goal.invariant-loop
invariant-loop l = record {
  kept : HaveOneName l.fn.classes (class_head l.classes);
  least : (name : ℕ → SiteTerm) → AreCongruent l.parts name → HaveOneName l.fn.classes name → HaveOneName l.classes name;
}

abbrev pub decreases-loop : goal.decreases-loop
decreases-loop l = pairs_apart l.classes l.parts
