-- Where errors stand.
use Rattle.std.specs.Prelude.{List, [], ◌∷◌}
use Rattle.core_syntax.specs.declared.syntax.Error.{Error}
use Rattle.core_syntax.specs.declared.syntax.Error.TheVariants.{TypeError, UnreachableError, OverlapError, ShadowedError, LimitError}
use Rattle.core_syntax.specs.declared.syntax.Pos.{Pos}
use Rattle.core_syntax.specs.declared.syntax.Span.{Span}

-- the first of places, or the default one
abbrev pub first_start : List Span → Pos
first_start [] = record { file = 0; offset = 0 }
first_start (s ∷ ss) = s.from

-- where an error stands: at its definition or rule, at the first rule of an overlap, or at the mask
abbrev pub error_pos : Error → Pos
error_pos (TypeError msg span) = span.from
error_pos (UnreachableError msg span) = span.from
error_pos (OverlapError msg rules) = first_start rules.items
error_pos (ShadowedError shadowed mask) = mask.from
error_pos (LimitError limit msg span) = span.from
