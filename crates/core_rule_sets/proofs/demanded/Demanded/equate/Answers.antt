use Rattle.std.proofs.Common.{◌≡◌, false, refl, rules}
use Rattle.std.specs.Prelude.{nat_eq}
use Rattle.core_rule_sets.specs.declared.demanded.Demanded.{Demanded}
use Rattle.core_rule_sets.proofs.DueSites.{due_equated}
use Rattle.core_rule_sets.proofs.demanded.Demanded.equate.Goals as goal

pub returns-in_ok-merge-clause-equated : goal.returns-in_ok-merge-clause-equated
returns-in_ok-merge-clause-equated c a b =
    let d : nat_eq c.args.first c.args.second ≡ false = search rules in rw d (c.in_ok-merge.ensures.ok a b)

pub returns-in_ok-merge-clause-due : goal.returns-in_ok-merge-clause-due
returns-in_ok-merge-clause-due c keeps =
    let old = c.args.self.now in
    let new : Demanded = record { constraints = old.constraints; equals = c.merge.new.self; «open» = c.insert-then-ne.new.self } in
    due_equated old new c.args.first c.args.second keeps refl (returns-in_ok-merge-clause-equated c) c.insert.new.self c.in_ok-insert.ensures.updates c.in_ok-insert-2.ensures.updates
