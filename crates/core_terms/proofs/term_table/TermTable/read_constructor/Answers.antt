use Rattle.std.proofs.Common.{◌≡◌, ◌<◌, [], length, true, false, get_or, refl, ap, ◌∙◌, rules}
use Rattle.std.proofs.Math.ListN.{set}
use Rattle.model.specs.lists.Tables.{external_constructor}
use Rattle.core_syntax.specs.SyntaxViews.{name_view}
use Rattle.core_types.specs.Envs.{symbol_of}
use Rattle.core_terms.specs.TermViews.{term_view}
use Rattle.core_terms.proofs.NotedPositions.{made_among, placed_same, placed_set, placed_still}
use Rattle.core_terms.proofs.Rooting.{is_within}
use Rattle.core_terms.proofs.KindChanges.{kind_refused, kind_changed}
use Rattle.core_terms.proofs.term_table.TermTable.read_constructor.Goals as goal

pub returns-then-not-branch-clause-reads : goal.returns-then-not-branch-clause-reads
returns-then-not-branch-clause-reads c =
    let items = c.args.self.now.terms.items in
    let this : c.index-2.result.now ≡ get_or items c.in-Some.id.0 c.index-2.result.now = c.index-2.ensures ∙ ap (λ k. get_or items k c.index-2.result.now) c.index.ensures in
    let taken : c.in_ok-may_have_constructor.field-0 ≡ false = search rules in
    let may = c.in_ok-may_have_constructor.ensures in
    kind_refused _ _ _ _ _ _ _ c.requires c.in-Some.id.0 c.in-Some.ensures c.index-2.result.now this _ may.free may.noted taken

pub returns-clause-reads : goal.returns-clause-reads
returns-clause-reads c =
    let items = c.args.self.now.terms.items in
    let this : c.index-2.result.now ≡ get_or items c.in-Some.id.0 c.index-2.result.now = c.index-2.ensures ∙ ap (λ k. get_or items k c.index-2.result.now) c.index.ensures in
    let again : c.index_mut.result.now ≡ get_or items c.in-Some.id.0 c.index_mut.result.now = c.index_mut.ensures.value ∙ ap (λ k. get_or items k c.index_mut.result.now) c.index-3.ensures in
    let free : c.in_ok-may_have_constructor.field-0 ≡ true = search rules in
    let may = c.in_ok-may_have_constructor.ensures in
    kind_changed _ _ _ _ _ _ _ c.requires c.in-Some.id.0 c.in-Some.ensures c.index-2.result.now this _ may.free may.noted _ c.set_constructor.new.self _ (ap (λ k. set items k c.set_constructor.new.self) c.index-3.ensures) refl refl again c.set_constructor.ensures free

pub returns-in_default-clause-placed : goal.returns-in_default-clause-placed
returns-in_default-clause-placed c = placed_still c.report_name.result c.args.self.now c.args.self.now [] refl

pub returns-then-not-branch-clause-placed : goal.returns-then-not-branch-clause-placed
returns-then-not-branch-clause-placed c = placed_same c.args.self.now _ [] refl

pub returns-clause-placed : goal.returns-clause-placed
returns-clause-placed c =
    let items = c.args.self.now.terms.items in
    let again : c.index_mut.result.now ≡ get_or items c.in-Some.id.0 c.index_mut.result.now = c.index_mut.ensures.value ∙ ap (λ k. get_or items k c.index_mut.result.now) c.index-3.ensures in
    let inside : c.in-Some.id.0 < length items = is_within c.args.self.now c.requires (symbol_of c.args.tyenv.now (name_view c.args.term.now).text) c.in-Some.id.0 c.in-Some.ensures in
    placed_set c.args.self.now _ c.in-Some.id.0 c.set_constructor.new.self c.index_mut.result.now [] inside again (ap (λ k. set items k c.set_constructor.new.self) c.index-3.ensures)
    (made_among (external_constructor c.args.name.0) (term_view c.set_constructor.new.self) (term_view c.index_mut.result.now) c.set_constructor.ensures)
