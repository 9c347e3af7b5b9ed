use Rattle.std.proofs.Common.{◌≡◌, false, sym, ◌∙◌}
use Rattle.std.specs.Prelude.{nat_eq}
use Rattle.std.proofs.lemmas.Bool.{both_ways}
use Rattle.core_containers.specs.Partition.{together}
use Rattle.core_rule_sets.specs.SiteDemands.{are_equated}
use Rattle.core_rule_sets.proofs.DueSites.{not_in_class, still_open}
use Rattle.core_rule_sets.proofs.demanded.Demanded.open_equated.Goals as goal

pub returns-in_ok-insert-clause-opened : goal.returns-in_ok-insert-clause-opened
returns-in_ok-insert-clause-opened c r t = c.in_ok-insert.ensures.updates.1

pub returns-in_ok-insert-clause-still : goal.returns-in_ok-insert-clause-still
returns-in_ok-insert-clause-still c s h = still_open c.args.self.now.open c.insert.new.self c.args.site c.in_ok-insert.ensures.updates s h

pub returns-else-contains-clause-opened : goal.returns-else-contains-clause-opened
returns-else-contains-clause-opened c r t =
    let d = c.args.self.now in
    let none : together nat_eq d.equals c.args.site c.args.site ≡ false = sym c.contains.ensures.value ∙ c.if-contains.false in
    absurd (both_ways (are_equated d r c.args.site) (not_in_class d.equals r c.args.site c.contains.ensures.partition none) t)
