-- What errors say, without their texts and without where spans end.
use Rattle.std.specs.Prelude.{List, map}
use Rattle.model.specs.lists.Syntax.{Position}
use Rattle.model.specs.sites.Limits.{fields_limit, outputs_limit, arguments_limit, sites_limit}
use Rattle.model.specs.claims.Refusals.{NamedLimit, of_rule, of_nesting, of_expansions, Refusal, ill_typed, unreachable, overlapping, shadowing, past_limit}
use Rattle.core_syntax.specs.SyntaxViews.{position}
use Rattle.core_syntax.specs.declared.syntax.Error.{Error}
use Rattle.core_syntax.specs.declared.syntax.Error.TheVariants.{TypeError, UnreachableError, OverlapError, ShadowedError, LimitError}
use Rattle.core_syntax.specs.declared.syntax.Limit.{Limit}
use Rattle.core_syntax.specs.declared.syntax.Limit.TheVariants as L
use Rattle.core_syntax.specs.declared.syntax.Span.{Span}

abbrev pub limit_view : Limit → NamedLimit
limit_view L.Fields = of_rule fields_limit
limit_view L.Outputs = of_rule outputs_limit
limit_view L.Arguments = of_rule arguments_limit
limit_view L.Sites = of_rule sites_limit
limit_view L.Nesting = of_nesting
limit_view L.Expansions = of_expansions

-- where spans begin
abbrev pub span_starts : List Span → List Position
span_starts spans = map (λ s. position s.from) spans

abbrev pub error_view : Error → Refusal
error_view (TypeError msg span) = ill_typed (position span.from)
error_view (UnreachableError msg span) = unreachable (position span.from)
error_view (OverlapError msg rules) = overlapping (span_starts rules.items)
error_view (ShadowedError shadowed mask) = shadowing (span_starts shadowed.items) (position mask.from)
error_view (LimitError limit msg span) = past_limit (limit_view limit) (position span.from)

abbrev pub error_views : List Error → List Refusal
error_views es = map error_view es
