-- The positions that a term table and a type table keep: those of definitions that were read before, at which errors may
-- stand too.
use Rattle.std.specs.Prelude.{List, [], ◌∷◌, ◌++◌, Option, Some, None, map}
use Rattle.std.specs.List.{flat_map}
use Rattle.model.specs.lists.Syntax.{Position, PatternTree, PatternTrees, bind_pattern, term_pattern, and_pattern, macro_arg, no_pattern, pattern_and}
use Rattle.model.specs.lists.Tables.{VariantEntry, ExtractorEntry, internal_extractor, external_extractor, TermKindEntry, variant_term, struct_term, declared_term, TermEntry}
use Rattle.core_syntax.specs.Patterns.{pattern_position}
use Rattle.core_syntax.specs.Positions.{pattern_positions, OccurAmong}
use Rattle.core_terms.specs.declared.term.ExtractorKind.{ExtractorKind}
use Rattle.core_terms.specs.declared.term_table.TermTable.{TermTable}
use Rattle.core_terms.specs.TermViews.{extractor_view, term_views}

-- what takes a term apart: an internal extractor by its template, an external one by where it is defined
abbrev pub taker_positions : ExtractorEntry → List Position
taker_positions (internal_extractor template) = pattern_positions template
taker_positions (external_extractor name infallible at) = at ∷ []

abbrev pub taker_places : ExtractorKind → List Position
taker_places kind = taker_positions (extractor_view kind)

abbrev pub taken_positions : Option ExtractorEntry → List Position
taken_positions None = []
taken_positions (Some x) = taker_positions x

abbrev pub kind_positions : TermKindEntry → List Position
kind_positions (variant_term variant) = []
kind_positions struct_term = []
kind_positions (declared_term flags constructor_kind extractor_kind) = taken_positions extractor_kind

-- where the template of a term stands, if it has one
abbrev pub taker_template : Option ExtractorEntry → Option Position
taker_template None = None
taker_template (Some (internal_extractor template)) = Some (pattern_position template)
taker_template (Some (external_extractor name infallible at)) = None

abbrev pub template_place : TermKindEntry → Option Position
template_place (variant_term variant) = None
template_place struct_term = None
template_place (declared_term flags constructor_kind extractor_kind) = taker_template extractor_kind

-- where a term is declared, and where its extractor is defined
abbrev pub entry_positions : TermEntry → List Position
entry_positions e = e.at ∷ kind_positions e.kind

abbrev pub terms_positions : List TermEntry → List Position
terms_positions es = flat_map entry_positions es

abbrev pub table_positions : TermTable → List Position
table_positions table = terms_positions (term_views table.terms.items)

-- where variants are defined
abbrev pub variants_positions : List VariantEntry → List Position
variants_positions vs = map (λ v. v.at) vs

-- each position that a table keeps is one of these
pub record IsPlacedAmong (positions : List Position) (table : TermTable) : Type 0 where
  pub each : OccurAmong (table_positions table) positions

-- where the macro arguments of a pattern stand, left to right
abbrev mutual
  pub argument_places : PatternTree → List Position
  argument_places (bind_pattern name p at) = argument_places p
  argument_places (term_pattern term ps at) = argument_places_all ps
  argument_places (and_pattern ps at) = argument_places_all ps
  argument_places (macro_arg i at) = at ∷ []
  argument_places _ = []

  pub argument_places_all : PatternTrees → List Position
  argument_places_all no_pattern = []
  argument_places_all (pattern_and p ps) = argument_places p ++ argument_places_all ps
