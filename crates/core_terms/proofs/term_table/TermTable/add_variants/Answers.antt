use Rattle.std.proofs.Common.{◌≡◌, ◌≤◌, [], ◌∷◌, None, length, map, refl, sym, subst, inl, inr, ◌∙◌, rules}
use Rattle.std.proofs.lemmas.List.{take_all}
use Rattle.std.proofs.lemmas.Result.{on_ok_weaker}
use Rattle.core_terms.specs.TermTables.{term_at}
use Rattle.core_syntax.specs.Positions.{NotesAt}
use Rattle.core_syntax.specs.SyntaxViews.{position}
use Rattle.core_syntax.proofs.Positioned.{notes_nothing}
use Rattle.core_terms.proofs.NotedPositions.{placed_same, variant_placed}
use Rattle.core_types.specs.TypeViews.{variant_view}
use Rattle.core_terms.specs.TermPositions.{variants_positions}
use Rattle.core_syntax.specs.NotedErrors.{NotesMore}
use Rattle.core_terms.specs.Signing.{GrowsBy}
use Rattle.core_terms.proofs.Making.{grows_nothing, none_mapped, some_mapped, next_variant, taken_variant, variant_numbers_of, variant_entries_of}
use Rattle.core_terms.proofs.term_table.TermTable.add_variants.Goals as goal

pub returns-then-contains_key-clause-adds : goal.returns-then-contains_key-clause-adds
returns-then-contains_key-clause-adds c =
    let taken = some_mapped (λ t. t.0) _ (sym c.contains_key.ensures.value ∙ c.if-contains_key.true) in
    on_ok_weaker c.report_name.result (λ r. inr (
      subst (λ l. NotesMore l c.report_name.new.errors.items) c.loop-variant.invariant.1 r,
      taken_variant c.args.ty.0 c.args.variants.now c.loop-variant.variant-index c.variant-item.result (search rules) c.variant-item.is c.args.self.now c.loop-variant.self taken.0 taken.1 c.loop-variant.invariant.2,
    )) c.report_name.ensures.noted

pub loop-variant-preserved : goal.loop-variant-preserved
loop-variant-preserved c =
    let free : term_at c.loop-variant.self c.variant-item.result.fullname.0 ≡ None = none_mapped (λ t. t.0) _ (sym c.contains_key.ensures.value ∙ c.if-contains_key.false) in (
      c.in_ok-push_variant.ensures.within,
      c.loop-variant.invariant.1,
      next_variant c.args.ty.0 c.args.variants.now c.loop-variant.variant-index c.variant-item.result (search rules) c.variant-item.is c.args.self.now c.loop-variant.self c.push_variant.new.self free c.in_ok-push_variant.ensures.pushes c.loop-variant.invariant.2,
      variant_placed c.args.ty.0 c.args.variants.now c.loop-variant.variant-index c.variant-item.result (search rules) c.variant-item.is _ _ _ c.in_ok-push_variant.ensures.pushes c.loop-variant.invariant.3,
    )

pub returns-clause-adds : goal.returns-clause-adds
returns-clause-adds c =
    let end : length c.args.variants.now ≤ c.loop-variant.variant-index = search rules in
    inl (c.loop-variant.invariant.1, subst (λ l. GrowsBy (variant_numbers_of l) (variant_entries_of c.args.ty.0 l) c.args.self.now c.loop-variant.self) (take_all c.loop-variant.variant-index c.args.variants.now end) c.loop-variant.invariant.2)

pub returns-then-contains_key-clause-places : goal.returns-then-contains_key-clause-places
returns-then-contains_key-clause-places c =
    on_ok_weaker c.report_name.result (λ r. subst (λ l. NotesAt (position c.args.pos ∷ []) l c.report_name.new.errors.items) c.loop-variant.invariant.1 r) c.report_name.ensures.places

pub returns-then-contains_key-clause-placed : goal.returns-then-contains_key-clause-placed
returns-then-contains_key-clause-placed c = on_ok_weaker c.report_name.result (λ _. c.loop-variant.invariant.3) c.report_name.ensures.places

pub returns-clause-places : goal.returns-clause-places
returns-clause-places c = notes_nothing _ _ _ c.loop-variant.invariant.1

pub loop-variant-init : goal.loop-variant-init
loop-variant-init c = (c.requires, refl, grows_nothing c.args.self.now, placed_same c.args.self.now c.args.self.now (variants_positions (map variant_view c.args.variants.now)) refl)
