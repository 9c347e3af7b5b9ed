use Rattle.std.proofs.Common.{◌≡◌, ◌∙◌, get_or, Some, option_map, sym, ap, inr}
use Rattle.std.proofs.lemmas.Result.{on_ok_weaker}
use Rattle.core_syntax.proofs.NotedErrors.{both}
use Rattle.core_syntax.proofs.Positioned.{among_one}
use Rattle.core_syntax.specs.Positions.{declaration_positions}
use Rattle.core_terms.proofs.Breaches.{begins_among, begins_before, begins_noted}
use Rattle.core_syntax.specs.SyntaxViews.{decl_view}
use Rattle.core_terms.proofs.NotedPositions.{declaration_there, declared_before}
use Rattle.core_terms.specs.TermTables.{term_at}
use Rattle.core_terms.proofs.term_table.TermTable.check_free.Goals as goal

pub index-requires-2 : goal.index-requires-2
index-requires-2 c =
    let taken : term_at c.args.self.now c.args.name.0 ≡ Some c.in-Some.existing.now.0 = sym (ap (option_map (λ t. t.0)) c.in-Some.ensures.value) in
    rw (c.index.ensures, c.args.self.now.terms.ok.0) (c.requires c.args.name.0 c.in-Some.existing.now.0 taken)

pub returns-clause-noted : goal.returns-clause-noted
returns-clause-noted c =
    let taken : term_at c.args.self.now c.args.name.0 ≡ Some c.in-Some.existing.now.0 = sym (ap (option_map (λ t. t.0)) c.in-Some.ensures.value) in
    on_ok_weaker c.report_name-2.result (λ r. inr (both _ _ _ c.in_ok-report_name.ensures.noted r, record { id = c.in-Some.existing.now.0; taken = taken })) c.report_name-2.ensures.noted

pub returns-clause-places : goal.returns-clause-places
returns-clause-places c =
    let d = decl_view c.args.decl.now in
    let items = c.args.self.now.terms.items in
    let id = c.in-Some.existing.now.0 in
    let entry = c.index-2.result.now in
    let taken : term_at c.args.self.now c.args.name.0 ≡ Some id = sym (ap (option_map (λ t. t.0)) c.in-Some.ensures.value) in
    let here : entry ≡ get_or items id entry = c.index-2.ensures ∙ ap (λ k. get_or items k entry) c.index.ensures in
    on_ok_weaker c.report_name-2.result (λ r.
    declared_before d c.args.self.now id entry (c.requires c.args.name.0 id taken) here _ _ _ c.in_ok-report_name.ensures.places r) c.report_name-2.ensures.places

pub returns-clause-begins : goal.returns-clause-begins
returns-clause-begins c =
    let d = decl_view c.args.decl.now in
    let one = begins_among _ (declaration_positions d) _ _ (among_one d.at (declaration_positions d) (declaration_there d)) (begins_noted _ _ _ c.in_ok-report_name.ensures.places) in
    on_ok_weaker c.report_name-2.result (λ r. begins_before _ _ _ _ c.in_ok-report_name.ensures.noted one (inr r)) c.report_name-2.ensures.noted
