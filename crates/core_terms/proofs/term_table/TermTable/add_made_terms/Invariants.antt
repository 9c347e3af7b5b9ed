use Rattle.std.proofs.Common.{◌++◌, take}
use Rattle.core_syntax.specs.Positions.{NotesAt}
use Rattle.core_types.specs.TypeViews.{type_views}
use Rattle.core_terms.specs.Reading.{IsWithin}
use Rattle.core_terms.specs.TermPositions.{table_positions, IsPlacedAmong}
use Rattle.core_types.specs.TypePositions.{types_positions}
use Rattle.core_terms.specs.Signing.{AddsAllMade}
use Rattle.core_terms.proofs.term_table.TermTable.add_made_terms.Given as goal

abbrev pub invariant-loop-ty : goal.invariant-loop-ty
invariant-loop-ty l =
    IsWithin l.self × AddsAllMade (type_views (take l.ty-index l.tyenv.types.items)) l.initial.self l.initial.errors.items l.self l.errors.items
    × NotesAt (types_positions (type_views l.tyenv.types.items)) l.initial.errors.items l.errors.items
    × IsPlacedAmong (types_positions (type_views l.tyenv.types.items) ++ table_positions l.initial.self) l.self
