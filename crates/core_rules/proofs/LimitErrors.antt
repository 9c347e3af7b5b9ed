-- An error that says that a limit is passed, noted after others.
use Rattle.std.proofs.Common.{List, ◌∷◌, ◌++◌, ◌≡◌, [], String, ap}
use Rattle.std.specs.declared.alloc.Global.{Global}
use Rattle.model.specs.claims.Refusals.{past_limit}
use Rattle.core_syntax.specs.SyntaxViews.{position}
use Rattle.core_syntax.specs.declared.syntax.Error.{Error}
use Rattle.core_syntax.specs.declared.syntax.Error.TheVariants.{LimitError}
use Rattle.core_syntax.specs.declared.syntax.Limit.{Limit}
use Rattle.core_syntax.specs.declared.syntax.Pos.{Pos}
use Rattle.core_syntax.specs.declared.syntax.Span.{Span}
use Rattle.core_syntax.specs.ErrorViews.{limit_view}
use Rattle.core_rules.specs.RuleLists.{NotesLimit}

-- a limit that is noted
pub limit_noted : (l : Limit) (at : Pos) (msg : String Global) (span : Span) → span.from ≡ at → (old new : List Error) → new ≡ old ++ LimitError l msg span ∷ [] → NotesLimit l at old new
limit_noted l at msg span from old new last = record { error = LimitError l msg span; last = last; says = ap (λ p. past_limit (limit_view l) (position p)) from }
