use Rattle.std.proofs.Common.{ap, sym, ◌∙◌}
use Rattle.std.specs.List.{zip}
use Rattle.std.specs.Prelude.{length}
use Rattle.core_rule_sets.specs.SiteDemands.{are_equated, equated_each}
use Rattle.core_rule_sets.specs.SiteTables.{table_sites}
use Rattle.core_rule_sets.specs.SiteViews.{constraint_view}
use Rattle.core_rule_sets.proofs.ClosingSteps.{as_many, member_joined}
use Rattle.core_rule_sets.proofs.demanded.Demanded.join_member.Goals as goal

pub equate_each-requires : goal.equate_each-requires
equate_each-requires c =
    let w = c.requires.demands in
    let u = c.requires.fields in
    as_many (table_sites c.args.table.now) c.args.self.now w.0 w.1 (table_sites c.add_fields.new.self) (constraint_view c.args.constraint.now) c.args.member c.args.fields.now c.in_ok-others.others.items u.0
    c.in_ok-others.ensures.sites u.1
    ∙ ap length (sym c.deref.ensures.value)

pub returns-clause-joined : goal.returns-clause-joined
returns-clause-joined c k least h of_least =
    member_joined (table_sites c.args.table.now) c.args.self.now k h (table_sites c.add_fields.new.self) (constraint_view c.args.constraint.now) c.args.member c.args.fields.now c.in_ok-others.others.items least
    c.in_ok-others.ensures.sites of_least c.equate_each.new.self c.equate_each.ensures.asked
    (λ a b. c.in_ok-equate_each.ensures.equated a b ∙ ap (λ l. equated_each (are_equated c.args.self.now) (zip c.args.fields.now l) a b) c.deref.ensures.value)
