-- A visitor of rules that lends itself runs patterns and expressions as its own, with the variables that it has.
use Rattle.std.proofs.Common.{◌≡◌, List, [], ◌∷◌, Option, Some, Result, Ok, Err, sym, subst, arith}
use Rattle.std.specs.Prelude.{MatchResult}
use Rattle.std.proofs.lemmas.Grind.{common_steps}
use Rattle.model.specs.lists.Tables.{TermEntry}
use Rattle.model.specs.rules.Typed.{TypedPattern, TypedExpr}
use Rattle.model.specs.visits.Runs.{BoundIds}
use Rattle.model.specs.visits.Visitors.{PatternSteps, ExprSteps, RuleSteps}
use Rattle.model.specs.visits.PatternRuns.{PatternRun}
use Rattle.model.specs.visits.ExprRuns.{ExprRun}
use Rattle.model.specs.visits.RuleRuns.{lent_binding, ExchangeRun, PatternCall, ExprCall, ValueRun}
use Rattle.laws_sites.specs.Followers.{Follower, FollowsRules}
use Rattle.laws_sites.proofs.KnownVars.{by_and_then, no_fault, one_answer, refusal}

module _ {F S N : Type 0} (o : Follower F S N) (want : Option F) (rules : RuleSteps F S S S N N N) (f : FollowsRules o rules) where
  -- 1. variables are to expressions what they are to patterns, unless memory is refused
  abbrev IsExchanged : BoundIds N → S → Result (BoundIds N) F → S → Type 0
  IsExchanged vs s r t = MatchResult r (λ ws. (ws ≡ vs) × (t ≡ s)) (λ e. want ≡ Some e)

  exchanged : (vs : BoundIds N) (s : S) (r : Result (BoundIds N) F) (t : S) → ExchangeRun want rules vs s r t → IsExchanged vs s r t
  exchanged [] s r t run = subst (λ z. IsExchanged [] s z t) (sym run.0) (λ i. [], run.1)
  exchanged (b ∷ rest) s r t run = grind (arith, common_steps, exchanged rest, by_and_then, refusal, one_answer, no_fault)

  module _ (patterns : PatternSteps F S N) (exprs : ExprSteps F S N) (terms : List TermEntry) where
    -- 2. a pattern
    module _ (vs : BoundIds N) (s t : S) (r : Result (BoundIds N) F) where
      pub pattern_called : (q : TypedPattern) (n : N) → PatternCall want rules patterns exprs terms q n vs s r t → lent_binding (PatternRun want patterns terms q n) vs s r t
      pattern_called q n run = grind (arith, common_steps, no_fault, one_answer)

    -- 3. an expression
    module _ (s t : S) (r : Result N F) (x : TypedExpr) where
      expr_called : (vs : BoundIds N) → ExprCall want rules patterns exprs terms x vs s r t → ExprRun want exprs terms x vs s r t
      expr_called vs run = grind (arith, common_steps, no_fault, one_answer)

    -- under the variables, unless memory is refused before
    pub value_called : (x : TypedExpr) (vs : BoundIds N) (s : S) (r : Result N F) (t : S) (G : Result N F → Type 0) → ((z : Result N F) → ExprRun want exprs terms x vs s z t → G z) → ((e : F) → want ≡ Some e → G (Err e))
        → ValueRun want rules patterns exprs terms x vs s r t → G r
    value_called x vs s r t G goes ends run =
        by_and_then (ExchangeRun want rules vs) (λ ws. ExprCall want rules patterns exprs terms x ws) s r t G
        (λ ws m step call. grind (arith, common_steps, exchanged vs s (Ok ws) m step, expr_called m t r x ws call))
        (λ e step. ends e (exchanged vs s (Err e) t step)) run
