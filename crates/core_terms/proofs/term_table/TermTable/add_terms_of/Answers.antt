use Rattle.core_syntax.specs.SyntaxViews.{position}
use Rattle.core_syntax.proofs.Positioned.{among_first, among_rest}
use Rattle.core_terms.proofs.NotedPositions.{noted_among, placed_on, placed_same}
use Rattle.std.proofs.Common.{refl}
use Rattle.core_types.specs.TypeViews.{type_view}
use Rattle.core_types.specs.TypePositions.{entry_positions as type_entry_positions}
use Rattle.core_terms.proofs.term_table.TermTable.add_terms_of.Goals as goal

pub returns-in-Enum-clause-adds : goal.returns-in-Enum-clause-adds
returns-in-Enum-clause-adds c = rw (c.in-Enum.is, ← c.deref.ensures.value) c.add_variants.ensures.adds

pub returns-in-Struct-clause-adds : goal.returns-in-Struct-clause-adds
returns-in-Struct-clause-adds c = rw c.in-Struct.is c.add_struct.ensures.adds

pub returns-in-Enum-clause-places : goal.returns-in-Enum-clause-places
returns-in-Enum-clause-places c = rw c.in-Enum.is (noted_among c.add_variants.result _ _ _ _ (among_first (position c.in-Enum.pos) _) c.add_variants.ensures.places)

pub returns-in-Enum-clause-placed : goal.returns-in-Enum-clause-placed
returns-in-Enum-clause-placed c = rw (c.in-Enum.is, ← c.deref.ensures.value) (placed_on c.add_variants.result _ _ _ (among_rest (position c.in-Enum.pos) _) c.add_variants.ensures.placed)

pub returns-in-Struct-clause-places : goal.returns-in-Struct-clause-places
returns-in-Struct-clause-places c = rw c.in-Struct.is c.add_struct.ensures.places

pub returns-in-Struct-clause-placed : goal.returns-in-Struct-clause-placed
returns-in-Struct-clause-placed c = rw c.in-Struct.is c.add_struct.ensures.placed

pub returns-in-Builtin-clause-placed : goal.returns-in-Builtin-clause-placed
returns-in-Builtin-clause-placed c = placed_same c.args.self.now c.args.self.now (type_entry_positions (type_view c.args.ty.now)) refl

pub returns-in-Builtin-2-clause-placed : goal.returns-in-Builtin-2-clause-placed
returns-in-Builtin-2-clause-placed c = placed_same c.args.self.now c.args.self.now (type_entry_positions (type_view c.args.ty.now)) refl
