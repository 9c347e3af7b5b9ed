use Rattle.std.proofs.Common.{◌↔◌, Contains, take}
use Rattle.core_rule_sets.specs.FieldParts.{IsPartOfAny}
use Rattle.core_rule_sets.specs.SiteTables.{table_sites}
use Rattle.core_rule_sets.specs.SiteViews.{constraint_views}
use Rattle.core_rule_sets.specs.declared.closure_classes.Part.{Part}
use Rattle.core_rule_sets.proofs.closure_classes.list_parts.Given as goal

abbrev pub invariant-loop-site : goal.invariant-loop-site
invariant-loop-site l =
    (p : Part) → Contains l.parts.items p ↔ IsPartOfAny (table_sites l.table) (constraint_views (take l.site-index l.constraints)) p
