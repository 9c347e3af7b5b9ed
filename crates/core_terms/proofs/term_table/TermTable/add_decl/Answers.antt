use Rattle.std.proofs.Common.{map, refl, subst}
use Rattle.std.proofs.lemmas.Result.{on_ok_weaker}
use Rattle.core_syntax.specs.Positions.{NotesAt, declaration_positions, name_positions}
use Rattle.core_syntax.specs.SyntaxViews.{decl_view, name_view}
use Rattle.core_terms.specs.Reading.{signature_entry}
use Rattle.core_terms.proofs.Making.{within_push}
use Rattle.core_terms.proofs.NotedPositions.{arguments_noted, declaration_there, noted_before, placed_pushed, placed_same, placed_still, types_noted}
use Rattle.core_terms.proofs.ErrorSteps.{both_ok}
use Rattle.core_terms.proofs.term_table.TermTable.add_decl.Goals as goal

pub returns-in_default-clause-places : goal.returns-in_default-clause-places
returns-in_default-clause-places c =
    let es = c.args.errors.now.items in
    let es' = c.arg_types.new.errors.items in
    arguments_noted (decl_view c.args.decl.now) es es' (subst (λ ns. NotesAt (name_positions (map name_view ns)) es es') c.deref.ensures.value c.in_ok-arg_tys.ensures.places)

pub returns-in_default-clause-placed : goal.returns-in_default-clause-placed
returns-in_default-clause-placed c = placed_same c.args.self.now c.args.self.now (declaration_positions (decl_view c.args.decl.now)) refl

pub returns-in_default-get_type_by_name-clause-places :
    goal.returns-in_default-get_type_by_name-clause-places
returns-in_default-get_type_by_name-clause-places c =
    let es = c.args.errors.now.items in
    let es' = c.arg_types.new.errors.items in
    on_ok_weaker c.report_name.result (λ r.
    types_noted (decl_view c.args.decl.now) es es' c.report_name.new.errors.items (subst (λ ns. NotesAt (name_positions (map name_view ns)) es es') c.deref.ensures.value c.in_ok-arg_tys.ensures.places) r) c.report_name.ensures.places

pub returns-in_default-get_type_by_name-clause-placed :
    goal.returns-in_default-get_type_by_name-clause-placed
returns-in_default-get_type_by_name-clause-placed c = placed_still c.report_name.result c.args.self.now c.args.self.now (declaration_positions (decl_view c.args.decl.now)) refl

pub returns-clause-within : goal.returns-clause-within
returns-clause-within c =
    let d = decl_view c.args.decl.now in
    both_ok c.push_term.result _ _ _ (λ i t.
    within_push c.args.name.0 (λ id. signature_entry id c.args.name.0 (map (λ t. t.0) c.in-Some.arg_tys.items) c.in-Some-get_type_by_name.ret_ty.0 d) c.args.self.now c.push_term.new.self (record { ids = i; terms = t; converters = c.push_term.ensures.converters }) c.requires) c.push_term.ensures.ids c.push_term.ensures.terms

pub returns-clause-places : goal.returns-clause-places
returns-clause-places c =
    let es = c.args.errors.now.items in
    let es' = c.arg_types.new.errors.items in
    noted_before c.push_term.result _ _ _ (arguments_noted (decl_view c.args.decl.now) es es' (subst (λ ns. NotesAt (name_positions (map name_view ns)) es es') c.deref.ensures.value c.in_ok-arg_tys.ensures.places))

pub returns-clause-placed : goal.returns-clause-placed
returns-clause-placed c =
    let d = decl_view c.args.decl.now in
    on_ok_weaker c.push_term.result (λ t. placed_pushed c.args.self.now c.push_term.new.self _ d.at (declaration_positions d) refl (declaration_there d) t) c.push_term.ensures.terms
