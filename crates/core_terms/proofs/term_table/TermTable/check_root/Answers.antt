use Rattle.std.proofs.Common.{◌≡◌, ◌<◌, get_or, length, refl, ap, subst, sym, ◌∙◌, inl, inr}
use Rattle.core_terms.specs.Recursion.{IsWayBack}
use Rattle.core_terms.specs.TermViews.{term_view}
use Rattle.core_terms.proofs.Changing.{view_at}
use Rattle.core_syntax.specs.SyntaxViews.{position}
use Rattle.core_terms.proofs.Breaches.{begins_noted}
use Rattle.core_terms.proofs.ErrorSteps.{both_ok}
use Rattle.core_terms.proofs.NotedPositions.{noted_among, template_there}
use Rattle.core_terms.proofs.Marks.{said_of_some}
use Rattle.core_terms.proofs.Recursion.{within_all, no_some, back_calls}
use Rattle.core_terms.proofs.term_table.TermTable.check_root.Goals as goal

pub walk-requires-clause-within : goal.walk-requires-clause-within
walk-requires-clause-within c = within_all c.args.self.now c.args.callees.now c.requires.callees

pub returns-in_default-template_pos-clause-notes : goal.returns-in_default-template_pos-clause-notes
returns-in_default-template_pos-clause-notes c =
    let cs = c.args.callees.now in
    let r = c.in-Some.repeated in
    let items = c.args.self.now.terms.items in
    let way : IsWayBack cs c.args.root c.walk.new.self r = said_of_some c.in_ok-repeated.field-0 _ _ r c.in-Some.is c.in_ok-repeated.ensures in
    let calls = back_calls cs way.comes in
    let within : r.0 < length items = subst (λ n. r.0 < n) c.requires.callees.count way.there in
    let value : c.index-2.result.now ≡ get_or items r.0 c.index-2.result.now = c.index-2.ensures ∙ ap (λ k. get_or items k c.index-2.result.now) c.index.ensures in
    inl (
      refl,
      λ have. absurd (no_some c.template_pos.result c.in_default-template_pos.not-Some
          (c.template_pos.ensures.has ∙ have r.0 calls.0 (term_view c.index-2.result.now) calls.1 (view_at items r.0 c.index-2.result.now c.index-2.result.now within value))),
    )

pub returns-clause-places : goal.returns-clause-places
returns-clause-places c =
    let cs = c.args.callees.now in
    let r = c.in-Some.repeated in
    let items = c.args.self.now.terms.items in
    let entry = c.index-2.result.now in
    let way : IsWayBack cs c.args.root c.walk.new.self r = said_of_some c.in_ok-repeated.field-0 _ _ r c.in-Some.is c.in_ok-repeated.ensures in
    let within : r.0 < length items = subst (λ n. r.0 < n) c.requires.callees.count way.there in
    let value : entry ≡ get_or items r.0 entry = c.index-2.ensures ∙ ap (λ k. get_or items k entry) c.index.ensures in
    let at = position c.in-Some-template_pos.pos in
    noted_among c.report_recursion.result _ _ _ _ (template_there c.args.self.now r.0 entry within value at (sym c.in-Some-template_pos.ensures.place)) c.report_recursion.ensures.places

pub returns-clause-notes : goal.returns-clause-notes
returns-clause-notes c =
    let cs = c.args.callees.now in
    let r = c.in-Some.repeated in
    let items = c.args.self.now.terms.items in
    let entry = c.index-2.result.now in
    let way : IsWayBack cs c.args.root c.walk.new.self r = said_of_some c.in_ok-repeated.field-0 _ _ r c.in-Some.is c.in_ok-repeated.ensures in
    let within : r.0 < length items = subst (λ n. r.0 < n) c.requires.callees.count way.there in
    let value : entry ≡ get_or items r.0 entry = c.index-2.ensures ∙ ap (λ k. get_or items k entry) c.index.ensures in
    both_ok c.report_recursion.result _ _ _ (λ n p.
    inr (
      n,
      record {
        at = position c.in-Some-template_pos.pos;
        back = record { term = r.0; comes = way.comes; entry = term_view entry; entry_is = view_at items r.0 entry entry within value; place = sym c.in-Some-template_pos.ensures.place };
        begins = begins_noted _ _ _ p;
      },
    )) c.report_recursion.ensures.noted c.report_recursion.ensures.places
