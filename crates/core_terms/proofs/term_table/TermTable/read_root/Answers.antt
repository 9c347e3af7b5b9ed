use Rattle.std.proofs.Common.{◌≡◌, ◌<◌, [], Some, is_none, true, false, length, get_or, refl, sym, ap, ◌∙◌, inl, inr}
use Rattle.std.proofs.Math.ListN.{set}
use Rattle.std.proofs.lemmas.Result.{on_ok_weaker}
use Rattle.model.specs.rules.Outcome.{then_option}
use Rattle.model.specs.lists.TermTable.{root_name}
use Rattle.core_syntax.specs.SyntaxViews.{name_view, rule_view, pattern_view}
use Rattle.core_types.specs.Envs.{symbol_of}
use Rattle.core_terms.specs.TermViews.{term_view, term_views}
use Rattle.core_terms.specs.Reading.{internal_entry, root_term_id, term_of_name}
use Rattle.core_terms.specs.ReadTerms.{is_declared_kind}
use Rattle.core_terms.proofs.Changing.{changes_one, view_at, not_there}
use Rattle.core_terms.proofs.NotedPositions.{internal_among, placed_set, placed_still}
use Rattle.core_terms.proofs.Rooting.{is_within}
use Rattle.core_terms.proofs.term_table.TermTable.read_root.Goals as goal

pub returns-in-Some-why_no_root-clause-reads : goal.returns-in-Some-why_no_root-clause-reads
returns-in-Some-why_no_root-clause-reads c =
    let name : root_name (pattern_view c.args.rule.now.pattern) ≡ Some (name_view c.in-Some.root.now) = sym c.in-Some.ensures in
    let root : root_term_id c.args.tyenv.now c.args.self.now (rule_view c.args.rule.now) ≡ Some c.in-Some-find_term.id.0 =
    ap (λ o. then_option o (term_of_name c.args.tyenv.now c.args.self.now)) name ∙ sym c.in-Some-find_term.ensures in
    let within : c.in-Some-find_term.id.0 < length c.args.self.now.terms.items = is_within c.args.self.now c.requires (symbol_of c.args.tyenv.now (name_view c.in-Some.root.now).text) c.in-Some-find_term.id.0 c.in-Some-find_term.ensures in
    let items = c.args.self.now.terms.items in
    let value : c.index-2.result.now ≡ get_or items c.in-Some-find_term.id.0 c.index-2.result.now = c.index-2.ensures ∙ ap (λ k. get_or items k c.index-2.result.now) c.index.ensures in
    let kind : is_declared_kind (term_view c.index-2.result.now).kind ≡ false = sym c.why_no_root.ensures ∙ ap is_none c.in-Some-why_no_root.is in
    on_ok_weaker c.report_name-in-Some-why_no_root.result (λ r. inr (
      r,
      inr (record {
        id = c.in-Some-find_term.id.0;
        root = root;
        entry = term_view c.index-2.result.now;
        at = view_at items c.in-Some-find_term.id.0 c.index-2.result.now c.index-2.result.now within value;
        made = kind;
      }),
    )) c.report_name-in-Some-why_no_root.ensures.noted

pub returns-clause-reads : goal.returns-clause-reads
returns-clause-reads c =
    let name : root_name (pattern_view c.args.rule.now.pattern) ≡ Some (name_view c.in-Some.root.now) = sym c.in-Some.ensures in
    let root : root_term_id c.args.tyenv.now c.args.self.now (rule_view c.args.rule.now) ≡ Some c.in-Some-find_term.id.0 =
    ap (λ o. then_option o (term_of_name c.args.tyenv.now c.args.self.now)) name ∙ sym c.in-Some-find_term.ensures in
    let within : c.in-Some-find_term.id.0 < length c.args.self.now.terms.items = is_within c.args.self.now c.requires (symbol_of c.args.tyenv.now (name_view c.in-Some.root.now).text) c.in-Some-find_term.id.0 c.in-Some-find_term.ensures in
    let items = c.args.self.now.terms.items in
    let value : c.index-2.result.now ≡ get_or items c.in-Some-find_term.id.0 c.index-2.result.now = c.index-2.ensures ∙ ap (λ k. get_or items k c.index-2.result.now) c.index.ensures in
    let again : c.index_mut.result.now ≡ get_or items c.in-Some-find_term.id.0 c.index_mut.result.now = c.index_mut.ensures.value ∙ ap (λ k. get_or items k c.index_mut.result.now) c.index-3.ensures in
    let kind : is_declared_kind (term_view c.index-2.result.now).kind ≡ true = sym c.why_no_root.ensures ∙ not_there c.why_no_root.result (λ x h. c.in_default-why_no_root.not-Some x h) in
    inl (
      refl,
      record {
        id = c.in-Some-find_term.id.0;
        root = root;
        entry = term_view c.index-2.result.now;
        at = view_at items c.in-Some-find_term.id.0 c.index-2.result.now c.index-2.result.now within value;
        declared = kind;
        changes = record {
          terms = ap (λ k. term_views (set items k c.set_internal.new.term)) c.index-3.ensures
              ∙ changes_one internal_entry items c.in-Some-find_term.id.0 c.set_internal.new.term c.index_mut.result.now within (c.set_internal.ensures ∙ ap (λ t. internal_entry (term_view t)) again);
          term_map = refl;
          converters = refl;
        };
      },
    )

pub returns-in_default-clause-placed : goal.returns-in_default-clause-placed
returns-in_default-clause-placed c = placed_still c.report.result c.args.self.now c.args.self.now [] refl

pub returns-in_default-find_term-clause-placed : goal.returns-in_default-find_term-clause-placed
returns-in_default-find_term-clause-placed c = placed_still c.report_name.result c.args.self.now c.args.self.now [] refl

pub returns-in-Some-why_no_root-clause-placed :
    goal.returns-in-Some-why_no_root-clause-placed
returns-in-Some-why_no_root-clause-placed c = placed_still c.report_name-in-Some-why_no_root.result c.args.self.now _ [] refl

pub returns-clause-placed : goal.returns-clause-placed
returns-clause-placed c =
    let items = c.args.self.now.terms.items in
    let id = c.in-Some-find_term.id.0 in
    let within : id < length items = is_within c.args.self.now c.requires (symbol_of c.args.tyenv.now (name_view c.in-Some.root.now).text) id c.in-Some-find_term.ensures in
    let again : c.index_mut.result.now ≡ get_or items id c.index_mut.result.now = c.index_mut.ensures.value ∙ ap (λ k. get_or items k c.index_mut.result.now) c.index-3.ensures in
    placed_set c.args.self.now _ id c.set_internal.new.term c.index_mut.result.now [] within again (ap (λ k. set items k c.set_internal.new.term) c.index-3.ensures)
    (internal_among (term_view c.set_internal.new.term) (term_view c.index_mut.result.now) c.set_internal.ensures)
