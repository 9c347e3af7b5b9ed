use Rattle.std.proofs.Common.{◌≡◌, false, sym, ◌∙◌}
use Rattle.std.specs.Prelude.{is_some, nat_eq}
use Rattle.std.proofs.lemmas.Bool.{and_right}
use Rattle.core_containers.specs.Partition.{together}
use Rattle.core_rule_sets.specs.SiteDemands.{constraint_held, are_equated}
use Rattle.core_rule_sets.proofs.DueSites.{not_in_class}
use Rattle.core_rule_sets.proofs.demanded.Demanded.due_constraint.Goals as goal

pub returns-else-contains : goal.returns-else-contains
returns-else-contains c r =
    let d = c.args.self.now in
    let none : together nat_eq d.equals c.args.site c.args.site ≡ false = sym c.contains.ensures.value ∙ c.if-contains.false in
    and_right (is_some (constraint_held d c.args.site)) (are_equated d r c.args.site) (not_in_class d.equals r c.args.site c.contains.ensures.partition none)
