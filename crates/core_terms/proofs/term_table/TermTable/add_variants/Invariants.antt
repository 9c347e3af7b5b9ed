use Rattle.std.proofs.Common.{◌≡◌, ◌++◌, take, map}
use Rattle.model.specs.lists.TermTable.{variant_as_term}
use Rattle.core_types.specs.TypeViews.{variant_view}
use Rattle.core_terms.specs.Reading.{IsWithin}
use Rattle.core_terms.specs.TermPositions.{table_positions, variants_positions, IsPlacedAmong}
use Rattle.core_terms.specs.Signing.{GrowsBy}
use Rattle.core_terms.proofs.term_table.TermTable.add_variants.Given as goal

abbrev pub invariant-loop-variant : goal.invariant-loop-variant
invariant-loop-variant l =
    IsWithin l.self × (l.errors.items ≡ l.initial.errors.items) × GrowsBy (map (λ v. v.full_name) (map variant_view (take l.variant-index l.variants))) (map (variant_as_term l.ty.0) (map variant_view (take l.variant-index l.variants))) l.initial.self l.self
    × IsPlacedAmong (variants_positions (map variant_view l.variants) ++ table_positions l.initial.self) l.self
