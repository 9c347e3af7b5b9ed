use Rattle.core_terms.proofs.ErrorSteps.{both_ok, may_note}
use Rattle.core_terms.proofs.Breaches.{begins_among, begins_both, begins_noted}
use Rattle.std.proofs.Common.{map, refl, sym, ap, ◌∙◌}
use Rattle.core_syntax.specs.SyntaxViews.{extractor_view, position}
use Rattle.core_syntax.specs.Positions.{extractor_positions}
use Rattle.core_terms.specs.TermPositions.{table_positions}
use Rattle.core_terms.proofs.NotedPositions.{argument_there, extractor_there, pattern_in_extractor, argument_noted, extractor_noted, noted_among, placed_still}
use Rattle.core_terms.proofs.TemplateParts.{parts_noted, no_first}
use Rattle.std.proofs.lemmas.Result.{on_ok_weaker}
use Rattle.core_terms.proofs.Callees.{still_callees}
use Rattle.core_terms.proofs.term_table.TermTable.read_template_of.Goals as goal

pub returns-clause-callees : goal.returns-clause-callees
returns-clause-callees c =
    on_ok_weaker c.take_template.result (λ _.
    still_callees c.args.self.now c.take_template.new.self c.args.callees.now.items c.set_callees.new.callees.items c.args.id.0 c.in_ok-named.named.items c.in_ok-named.ensures.within c.set_callees.ensures c.take_template.ensures.count c.requires.callees) c.take_template.ensures.within

pub returns-clause-notes : goal.returns-clause-notes
returns-clause-notes c =
    let none = no_first c.deref.result.now (sym c.in_default.ensures.value) in
    let x = extractor_view c.args.extractor.now in
    on_ok_weaker c.take_template.result (λ r.
    parts_noted x c.args.id.0 c.args.tyenv.now c.args.self.now c.take_template.new.self c.args.callees.now.items c.set_callees.new.callees.items (map (λ t. t.0) c.in_ok-named.named.items) c.args.errors.now.items c.terms_named.new.errors.items c.take_template.new.errors.items (sym c.in_ok-arguments.ensures.numbers ∙ ap (map (λ a. a.1)) (sym c.deref.ensures.value ∙ none)) c.set_callees.ensures c.in_ok-named.ensures.notes r) c.take_template.ensures.notes

pub returns-in-Some-clause-places : goal.returns-in-Some-clause-places
returns-in-Some-clause-places c =
    let x = extractor_view c.args.extractor.now in
    let places = ap (map (λ a. position a.0)) c.deref.ensures.value ∙ c.in_ok-arguments.ensures.places in
    noted_among c.report.result _ _ _ _ (argument_noted x (table_positions c.args.self.now) c.deref.result.now _ places (sym c.in-Some.ensures.value)) c.report.ensures.places

pub returns-in-Some-clause-placed : goal.returns-in-Some-clause-placed
returns-in-Some-clause-placed c = placed_still c.report.result c.args.self.now _ (extractor_positions (extractor_view c.args.extractor.now)) refl

pub returns-clause-places : goal.returns-clause-places
returns-clause-places c =
    let x = extractor_view c.args.extractor.now in
    on_ok_weaker c.take_template.result (λ r.
    extractor_noted x (table_positions c.args.self.now) c.args.errors.now.items c.terms_named.new.errors.items c.take_template.new.errors.items c.in_ok-named.ensures.places r) c.take_template.ensures.places

pub returns-in-Some-clause-begins : goal.returns-in-Some-clause-begins
returns-in-Some-clause-begins c =
    let x = extractor_view c.args.extractor.now in
    let places = ap (map (λ a. position a.0)) c.deref.ensures.value ∙ c.in_ok-arguments.ensures.places in
    on_ok_weaker c.report.result (λ n. begins_among _ (extractor_positions x) _ _ (argument_there x c.deref.result.now _ places (sym c.in-Some.ensures.value)) (begins_noted _ _ _ n)) c.report.ensures.places

pub returns-clause-begins : goal.returns-clause-begins
returns-clause-begins c =
    let x = extractor_view c.args.extractor.now in
    let ps = extractor_positions x in
    let named = begins_among _ ps _ _ (pattern_in_extractor x) (begins_noted _ _ _ c.in_ok-named.ensures.places) in
    both_ok c.take_template.result _ _ _ (λ n b.
    begins_both ps _ _ _ (may_note _ _ _ _ c.in_ok-named.ensures.notes) named (may_note _ _ _ _ n) (begins_among _ ps _ _ (extractor_there x) b)) c.take_template.ensures.notes c.take_template.ensures.begins
