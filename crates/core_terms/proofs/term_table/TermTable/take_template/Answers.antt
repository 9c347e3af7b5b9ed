use Rattle.core_terms.specs.TermBreaches.{FirstStandsAt}
use Rattle.core_terms.proofs.Breaches.{begins_noted}
use Rattle.std.proofs.Common.{◌≡◌, [], ◌∷◌, Some, true, false, not, length, get_or, refl, sym, ap, subst, ◌∙◌, inl, inr, ⊎_elim, slice_get, rules}
use Rattle.std.proofs.Math.ListN.{set}
use Rattle.std.proofs.lemmas.List.{length-map}
use Rattle.std.proofs.lemmas.Option.{same_Some}
use Rattle.model.specs.lists.Tables.{TermEntry, internal_extractor}
use Rattle.model.specs.lists.TermTable.{arguments_in, extractor_template}
use Rattle.core_syntax.specs.SyntaxViews.{extractor_view, pattern_view, position}
use Rattle.core_syntax.specs.Positions.{OccurAmong, extractor_positions, pattern_positions}
use Rattle.core_syntax.proofs.Positioned.{among_first, notes_among, notes_both}
use Rattle.core_terms.specs.TermPositions.{table_positions}
use Rattle.core_terms.proofs.NotedPositions.{notes_at_term, placed_same, placed_set, taken_entry_among, template_in_extractor}
use Rattle.core_syntax.specs.NotedErrors.{NotesMore}
use Rattle.core_types.specs.VariantReading.{ReportsIf}
use Rattle.core_terms.specs.TermViews.{term_view, term_views}
use Rattle.core_terms.specs.Externing.{taken_by_this, with_kind}
use Rattle.core_terms.specs.ReadTerms.{change}
use Rattle.core_terms.specs.Templating.{AreArguments}
use Rattle.core_terms.proofs.Changing.{changes_one, view_at}
use Rattle.core_terms.proofs.term_table.TermTable.take_template.Goals as goal

pub returns-then-not-branch-clause-notes : goal.returns-then-not-branch-clause-notes
returns-then-not-branch-clause-notes c =
    let items = c.args.self.now.terms.items in
    let value : c.index-2.result.now ≡ get_or items c.args.id.0 c.index-2.result.now = c.index-2.ensures ∙ ap (λ k. get_or items k c.index-2.result.now) c.index.ensures in
    let taken : c.in_ok-can_have_template.field-0 ≡ false = search rules in
    inr (
      subst (λ b. ReportsIf (not b) c.args.errors.now.items c.can_have_template.new.errors.items) taken c.in_ok-can_have_template.ensures.noted,
      record {
        entry = term_view c.index-2.result.now;
        at = view_at items c.args.id.0 c.index-2.result.now c.index-2.result.now c.requires.there value;
        fails = inl (sym c.in_ok-can_have_template.ensures.free ∙ taken);
      },
    )

pub returns-clause-notes : goal.returns-clause-notes
returns-clause-notes c =
    let items = c.args.self.now.terms.items in
    let id = c.args.id.0 in
    let x = extractor_view c.args.extractor.now in
    let p = pattern_view c.in_ok-template.template in
    let value : c.index-2.result.now ≡ get_or items id c.index-2.result.now = c.index-2.ensures ∙ ap (λ k. get_or items k c.index-2.result.now) c.index.ensures in
    let other : c.index-4.result.now ≡ get_or items id c.index-4.result.now = c.index-4.ensures ∙ ap (λ k. get_or items k c.index-4.result.now) c.index-3.ensures in
    let again : c.index_mut.result.now ≡ get_or items id c.index_mut.result.now = c.index_mut.ensures.value ∙ ap (λ k. get_or items k c.index_mut.result.now) c.index-5.ensures in
    let at : slice_get (term_views items) id ≡ Some (term_view c.index-2.result.now) = view_at items id c.index-2.result.now c.index-2.result.now c.requires.there value in
    let at_other : slice_get (term_views items) id ≡ Some (term_view c.index-4.result.now) = view_at items id c.index-4.result.now c.index-4.result.now c.requires.there other in
    let same : term_view c.index-4.result.now ≡ term_view c.index-2.result.now = same_Some _ _ (sym at_other ∙ at) in
    let size : c.len-count.result ≡ length c.index-4.result.now.arg_tys.items = search rules in
    let count : c.len-count.result ≡ length (term_view c.index-2.result.now).arg_tys =
    size ∙ sym (length-map c.index-4.result.now.arg_tys.items (λ ty. ty.0)) ∙ ap (λ (t : TermEntry). length t.arg_tys) same in
    let free : c.in_ok-can_have_template.field-0 ≡ true = search rules in
    let noted : c.can_have_template.new.errors.items ≡ c.args.errors.now.items = subst (λ b. ReportsIf (not b) c.args.errors.now.items c.can_have_template.new.errors.items) free c.in_ok-can_have_template.ensures.noted in
    ⊎_elim
    (λ r. inl (
      r.0 ∙ noted,
      record {
        entry = term_view c.index-2.result.now;
        at = at;
        passes = sym c.in_ok-can_have_template.ensures.free ∙ free;
        arguments = subst (λ n. AreArguments n (arguments_in (extractor_template x))) count (subst (λ q. AreArguments c.len-count.result (arguments_in q)) c.in_ok-template.ensures r.1);
        changes = record {
          terms = ap (λ k. term_views (set items k c.set_extractor.new.self)) c.index-5.ensures
              ∙ changes_one (with_kind (taken_by_this (internal_extractor p))) items id c.set_extractor.new.self c.index_mut.result.now c.requires.there (c.set_extractor.ensures ∙ ap (λ t. with_kind (taken_by_this (internal_extractor p)) (term_view t)) again)
              ∙ ap (λ q. change (with_kind (taken_by_this (internal_extractor q))) id (term_views items)) c.in_ok-template.ensures;
          term_map = refl;
          converters = refl;
        };
      },
    ))
    (λ r. inr (
      subst (λ es. NotesMore es c.check_arguments.new.errors.items) noted r.0,
      record {
        entry = term_view c.index-2.result.now;
        at = at;
        fails = inr (λ all. r.1 (subst (λ q. AreArguments c.len-count.result (arguments_in q)) (sym c.in_ok-template.ensures) (subst (λ n. AreArguments n (arguments_in (extractor_template x))) (sym count) all)));
      },
    ))
    c.in_ok-check_arguments.ensures.notes

pub returns-then-not-branch-clause-places : goal.returns-then-not-branch-clause-places
returns-then-not-branch-clause-places c =
    let items = c.args.self.now.terms.items in
    let value : c.index-2.result.now ≡ get_or items c.args.id.0 c.index-2.result.now = c.index-2.ensures ∙ ap (λ k. get_or items k c.index-2.result.now) c.index.ensures in
    notes_at_term (position c.args.extractor.now.pos) c.args.self.now c.args.id.0 c.index-2.result.now c.requires.there value _ _ c.in_ok-can_have_template.ensures.places

pub returns-then-not-branch-clause-placed : goal.returns-then-not-branch-clause-placed
returns-then-not-branch-clause-placed c = placed_same c.args.self.now _ (extractor_positions (extractor_view c.args.extractor.now)) refl

pub returns-clause-places : goal.returns-clause-places
returns-clause-places c =
    let items = c.args.self.now.terms.items in
    let at = position c.args.extractor.now.pos in
    let ps = table_positions c.args.self.now in
    let value : c.index-2.result.now ≡ get_or items c.args.id.0 c.index-2.result.now = c.index-2.ensures ∙ ap (λ k. get_or items k c.index-2.result.now) c.index.ensures in
    notes_both (at ∷ ps) _ _ _ (notes_at_term at c.args.self.now c.args.id.0 c.index-2.result.now c.requires.there value _ _ c.in_ok-can_have_template.ensures.places)
    (notes_among (at ∷ []) (at ∷ ps) _ _ (among_first at ps) c.in_ok-check_arguments.ensures.places)

pub returns-clause-placed : goal.returns-clause-placed
returns-clause-placed c =
    let items = c.args.self.now.terms.items in
    let id = c.args.id.0 in
    let x = extractor_view c.args.extractor.now in
    let p = pattern_view c.in_ok-template.template in
    let again : c.index_mut.result.now ≡ get_or items id c.index_mut.result.now = c.index_mut.ensures.value ∙ ap (λ k. get_or items k c.index_mut.result.now) c.index-5.ensures in
    let of_extractor = subst (λ q. OccurAmong (pattern_positions q) (extractor_positions x)) (sym c.in_ok-template.ensures) (template_in_extractor x) in
    placed_set c.args.self.now _ id c.set_extractor.new.self c.index_mut.result.now (extractor_positions x) c.requires.there again (ap (λ k. set items k c.set_extractor.new.self) c.index-5.ensures)
    (taken_entry_among (internal_extractor p) (term_view c.set_extractor.new.self) (term_view c.index_mut.result.now) (extractor_positions x) of_extractor c.set_extractor.ensures)

pub returns-clause-begins : goal.returns-clause-begins
returns-clause-begins c =
    let free : c.in_ok-can_have_template.field-0 ≡ true = search rules in
    let noted : c.can_have_template.new.errors.items ≡ c.args.errors.now.items = subst (λ b. ReportsIf (not b) c.args.errors.now.items c.can_have_template.new.errors.items) free c.in_ok-can_have_template.ensures.noted in
    subst (λ l. FirstStandsAt (position c.args.extractor.now.pos ∷ []) l c.check_arguments.new.errors.items) noted (begins_noted _ _ _ c.in_ok-check_arguments.ensures.places)
