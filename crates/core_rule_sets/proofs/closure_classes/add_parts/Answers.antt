use Rattle.std.proofs.Common.{rules, ◌≡◌, subst}
use Rattle.core_rule_sets.specs.SiteTables.{table_sites}
use Rattle.core_rule_sets.proofs.PartsAdded.{HasParts, part_more}
use Rattle.core_rule_sets.proofs.closure_classes.add_parts.Goals as goal

pub loop-index-preserved : goal.loop-index-preserved
loop-index-preserved c =
    part_more (table_sites c.args.table.now) c.args.source c.args.variant c.args.parts.now.items c.loop-index.index c.loop-index.parts.items c.add_part.new.parts.items c.loop-index.invariant c.in_ok-add_part.ensures

pub returns : goal.returns
returns c =
    let all : c.loop-index.index ≡ c.args.fields = search rules in
    subst (λ n. HasParts (table_sites c.args.table.now) c.args.source c.args.variant c.args.parts.now.items n c.loop-index.parts.items) all c.loop-index.invariant
