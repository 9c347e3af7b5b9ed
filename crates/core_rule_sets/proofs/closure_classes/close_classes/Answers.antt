use Rattle.std.proofs.Common.{ℕ, subst}
use Rattle.std.specs.Prelude.{nat_eq}
use Rattle.core_containers.specs.Partition.{IsPartition}
use Rattle.model.specs.sites.Sites.{SiteTerm}
use Rattle.core_rule_sets.specs.FieldParts.{AreCongruent, HaveOneName}
use Rattle.core_rule_sets.specs.Verdicts.{class_head}
use Rattle.core_rule_sets.proofs.closure_classes.close_classes.Goals as goal

pub returns : goal.returns
returns c =
    let ks = c.join_parts.new.classes in
    let same = c.in_ok-classes.ensures.same in
    let told = c.in_ok-join_parts.ensures in
    record {
      partition = subst (λ l. IsPartition nat_eq l) same c.in_ok-classes.ensures.partition;
      kept = subst (λ l. HaveOneName l (class_head ks)) same told.kept;
      congruent = told.congruent;
      least = subst (λ l. (name : ℕ → SiteTerm) → AreCongruent c.args.parts.now name → HaveOneName l name → HaveOneName ks name) same told.least;
    }
