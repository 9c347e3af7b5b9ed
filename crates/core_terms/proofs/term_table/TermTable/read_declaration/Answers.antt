use Rattle.std.proofs.Common.{subst}
use Rattle.core_syntax.specs.Positions.{declaration_positions}
use Rattle.core_syntax.proofs.Positioned.{among_one}
use Rattle.core_terms.proofs.Breaches.{begins_among, begins_noted}
use Rattle.core_terms.proofs.ErrorSteps.{both_ok}
use Rattle.std.proofs.lemmas.Result.{on_ok_weaker}
use Rattle.core_syntax.specs.SyntaxViews.{decl_view}
use Rattle.core_terms.specs.Reading.{IsFreeOrReported, AddsOrReports}
use Rattle.core_terms.specs.TermPositions.{table_positions}
use Rattle.core_terms.proofs.NotedPositions.{declaration_noted, declaration_there}
use Rattle.core_terms.proofs.Declaring.{declaration_begins, declaration_read}
use Rattle.core_terms.proofs.term_table.TermTable.read_declaration.Goals as goal

pub returns-clause-reads : goal.returns-clause-reads
returns-clause-reads c =
    let d = decl_view c.args.decl.now in
    let number = c.in_ok-name.ensures.number in
    let free = subst (λ n. IsFreeOrReported n c.args.self.now c.args.errors.now.items c.check_free.new.errors.items) number c.in_ok-check_free.ensures.noted in
    on_ok_weaker c.add_decl.result (λ a. declaration_read d _ _ _ _ _ _ _ _ c.in_ok-name.ensures.met free c.in_ok-check_marks.ensures.noted
    (subst (λ n. AddsOrReports d c.meet_name.new.tyenv n c.args.self.now c.add_decl.new.self c.check_marks.new.errors.items c.add_decl.new.errors.items) number a)) c.add_decl.ensures.adds

pub returns-clause-places : goal.returns-clause-places
returns-clause-places c =
    let d = decl_view c.args.decl.now in
    on_ok_weaker c.add_decl.result (λ r.
    declaration_noted d (table_positions c.args.self.now) c.args.errors.now.items c.check_free.new.errors.items c.check_marks.new.errors.items c.add_decl.new.errors.items c.in_ok-check_free.ensures.places c.in_ok-check_marks.ensures.places r) c.add_decl.ensures.places

pub returns-clause-begins : goal.returns-clause-begins
returns-clause-begins c =
    let d = decl_view c.args.decl.now in
    let ps = declaration_positions d in
    let marks = begins_among _ ps _ _ (among_one d.at ps (declaration_there d)) (begins_noted _ _ _ c.in_ok-check_marks.ensures.places) in
    both_ok c.add_decl.result _ _ _ (λ a n.
    declaration_begins d c.meet_name.new.tyenv c.args.self.now c.add_decl.new.self _ _ _ _ _ c.in_ok-check_free.ensures.noted c.in_ok-check_marks.ensures.noted a c.in_ok-check_free.ensures.begins marks (begins_noted ps _ _ n)) c.add_decl.ensures.adds c.add_decl.ensures.places
