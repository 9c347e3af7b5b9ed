use Rattle.std.proofs.lemmas.Result.{on_ok_weaker}
use Rattle.core_terms.proofs.Breaches.{begins_noted}
use Rattle.std.proofs.Common.{◌≡◌, ◌<◌, [], ◌∷◌, length, true, false, get_or, refl, ap, ◌∙◌, rules}
use Rattle.std.proofs.Math.ListN.{set}
use Rattle.model.specs.lists.Tables.{external_extractor}
use Rattle.core_syntax.specs.SyntaxViews.{name_view, position}
use Rattle.core_syntax.proofs.Positioned.{among_first, among_same}
use Rattle.core_types.specs.Envs.{symbol_of}
use Rattle.core_terms.specs.TermPositions.{table_positions}
use Rattle.core_terms.specs.TermViews.{term_view}
use Rattle.core_terms.proofs.NotedPositions.{noted_among, notes_at_term, placed_same, placed_set, placed_still, taken_entry_among}
use Rattle.core_terms.proofs.Rooting.{is_within}
use Rattle.core_terms.proofs.KindChanges.{kind_refused, kind_changed}
use Rattle.core_terms.proofs.term_table.TermTable.read_extractor.Goals as goal

pub returns-then-not-branch-clause-reads : goal.returns-then-not-branch-clause-reads
returns-then-not-branch-clause-reads c =
    let items = c.args.self.now.terms.items in
    let this : c.index-2.result.now ≡ get_or items c.in-Some.id.0 c.index-2.result.now = c.index-2.ensures ∙ ap (λ k. get_or items k c.index-2.result.now) c.index.ensures in
    let taken : c.in_ok-may_have_external.field-0 ≡ false = search rules in
    let may = c.in_ok-may_have_external.ensures in
    kind_refused _ _ _ _ _ _ _ c.requires c.in-Some.id.0 c.in-Some.ensures c.index-2.result.now this _ may.free may.noted taken

pub returns-clause-reads : goal.returns-clause-reads
returns-clause-reads c =
    let items = c.args.self.now.terms.items in
    let this : c.index-2.result.now ≡ get_or items c.in-Some.id.0 c.index-2.result.now = c.index-2.ensures ∙ ap (λ k. get_or items k c.index-2.result.now) c.index.ensures in
    let again : c.index_mut.result.now ≡ get_or items c.in-Some.id.0 c.index_mut.result.now = c.index_mut.ensures.value ∙ ap (λ k. get_or items k c.index_mut.result.now) c.index-3.ensures in
    let free : c.in_ok-may_have_external.field-0 ≡ true = search rules in
    let may = c.in_ok-may_have_external.ensures in
    kind_changed _ _ _ _ _ _ _ c.requires c.in-Some.id.0 c.in-Some.ensures c.index-2.result.now this _ may.free may.noted _ c.set_extractor.new.self _ (ap (λ k. set items k c.set_extractor.new.self) c.index-3.ensures) refl refl again c.set_extractor.ensures free

pub returns-in_default-clause-places : goal.returns-in_default-clause-places
returns-in_default-clause-places c = noted_among c.report_name.result _ _ _ _ (among_first (position c.args.pos) (table_positions c.args.self.now)) c.report_name.ensures.places

pub returns-in_default-clause-placed : goal.returns-in_default-clause-placed
returns-in_default-clause-placed c = placed_still c.report_name.result c.args.self.now c.args.self.now (position c.args.pos ∷ []) refl

pub returns-then-not-branch-clause-places : goal.returns-then-not-branch-clause-places
returns-then-not-branch-clause-places c =
    let items = c.args.self.now.terms.items in
    let this : c.index-2.result.now ≡ get_or items c.in-Some.id.0 c.index-2.result.now = c.index-2.ensures ∙ ap (λ k. get_or items k c.index-2.result.now) c.index.ensures in
    let inside : c.in-Some.id.0 < length items = is_within c.args.self.now c.requires (symbol_of c.args.tyenv.now (name_view c.args.term.now).text) c.in-Some.id.0 c.in-Some.ensures in
    notes_at_term (position c.args.pos) c.args.self.now c.in-Some.id.0 c.index-2.result.now inside this _ _ c.in_ok-may_have_external.ensures.places

pub returns-then-not-branch-clause-placed : goal.returns-then-not-branch-clause-placed
returns-then-not-branch-clause-placed c = placed_same c.args.self.now _ (position c.args.pos ∷ []) refl

pub returns-clause-places : goal.returns-clause-places
returns-clause-places c =
    let items = c.args.self.now.terms.items in
    let this : c.index-2.result.now ≡ get_or items c.in-Some.id.0 c.index-2.result.now = c.index-2.ensures ∙ ap (λ k. get_or items k c.index-2.result.now) c.index.ensures in
    let inside : c.in-Some.id.0 < length items = is_within c.args.self.now c.requires (symbol_of c.args.tyenv.now (name_view c.args.term.now).text) c.in-Some.id.0 c.in-Some.ensures in
    notes_at_term (position c.args.pos) c.args.self.now c.in-Some.id.0 c.index-2.result.now inside this _ _ c.in_ok-may_have_external.ensures.places

pub returns-clause-placed : goal.returns-clause-placed
returns-clause-placed c =
    let items = c.args.self.now.terms.items in
    let at = position c.args.pos in
    let again : c.index_mut.result.now ≡ get_or items c.in-Some.id.0 c.index_mut.result.now = c.index_mut.ensures.value ∙ ap (λ k. get_or items k c.index_mut.result.now) c.index-3.ensures in
    let inside : c.in-Some.id.0 < length items = is_within c.args.self.now c.requires (symbol_of c.args.tyenv.now (name_view c.args.term.now).text) c.in-Some.id.0 c.in-Some.ensures in
    placed_set c.args.self.now _ c.in-Some.id.0 c.set_extractor.new.self c.index_mut.result.now (at ∷ []) inside again (ap (λ k. set items k c.set_extractor.new.self) c.index-3.ensures)
    (taken_entry_among (external_extractor c.args.name.0 c.args.infallible at) (term_view c.set_extractor.new.self) (term_view c.index_mut.result.now) (at ∷ []) (among_same (at ∷ [])) c.set_extractor.ensures)

pub returns-in_default-clause-begins : goal.returns-in_default-clause-begins
returns-in_default-clause-begins c = on_ok_weaker c.report_name.result (λ n. begins_noted _ _ _ n) c.report_name.ensures.places
