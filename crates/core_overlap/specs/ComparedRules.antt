-- What was found of rules that were compared.
use Rattle.std.specs.Prelude.{List, All}
use Rattle.model.specs.lists.Syntax.{Position}
use Rattle.model.specs.claims.Refusals.{Refusal}
use Rattle.core_syntax.specs.ErrorViews.{error_views}
use Rattle.core_syntax.specs.Positions.{HasSingleSpans}
use Rattle.core_overlap.specs.Comparisons.{pair_views}
use Rattle.core_overlap.specs.declared.overlap.Errors.{Errors}

-- the wrong overlaps, by the positions of their rules
abbrev pub found_wrong : Errors → List (Position × Position)
found_wrong e = pair_views e.wrong.items

-- the errors of rules that mask others
abbrev pub found_shadows : Errors → List Refusal
found_shadows e = error_views e.shadows.items

-- each span of these errors is that of one position
abbrev pub HaveSingleSpans : Errors → Type 0
HaveSingleSpans e = All HasSingleSpans e.shadows.items
