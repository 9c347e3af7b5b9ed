use Rattle.std.proofs.Common.{Some, sym, ap, ◌∙◌, arith}
use Rattle.std.proofs.lemmas.List.{length-map}
use Rattle.std.proofs.lemmas.Option.{slice_get-get_or}
use Rattle.model.proofs.Mapped.{get_map}
use Rattle.core_rule_sets.specs.SiteViews.{set_rule_view}
use Rattle.core_overlap.proofs.Chains.{ahead_behind, bare_behind}
use Rattle.core_overlap.proofs.overlap.check_row.Goals as goal

pub returns-then-bare-i-clause-bare : goal.returns-then-bare-i-clause-bare
returns-then-bare-i-clause-bare c =
    let keys = c.args.keys.now in
    let many = length-map c.args.rules.now set_rule_view in
    let each = c.requires.keys.apart.each in
    let within = c.requires.within in
    let next = c.requires.keys.next.each in
    bare_behind keys.of_rules.items keys.next.items c.args.i c.args.bare c.index-alike.result.now c.requires.keys.next c.requires.bare (omega (arith, many, each, within)) c.if-bare-i.true (slice_get-get_or keys.next.items c.args.i _ (omega (arith, many, each, within, next)) ∙ ap Some (sym c.index-alike.ensures))

pub check_alike-requires-clause-left : goal.check_alike-requires-clause-left
check_alike-requires-clause-left c =
    get_map set_rule_view c.args.rules.now c.args.i c.index-rules-i.result (slice_get-get_or c.args.rules.now c.args.i c.index-rules-i.result c.requires.within ∙ ap Some (sym c.index-rules-i.is))

pub check_alike-requires-clause-ahead : goal.check_alike-requires-clause-ahead
check_alike-requires-clause-ahead c =
    let keys = c.args.keys.now in
    let many = length-map c.args.rules.now set_rule_view in
    let each = c.requires.keys.apart.each in
    let within = c.requires.within in
    let next = c.requires.keys.next.each in
    ahead_behind keys.of_rules.items keys.next.items c.args.i c.args.bare c.index-alike.result.now c.requires.keys.next c.requires.bare (omega (arith, many, each, within)) c.if-bare-i.false (slice_get-get_or keys.next.items c.args.i _ (omega (arith, many, each, within, next)) ∙ ap Some (sym c.index-alike.ensures))
