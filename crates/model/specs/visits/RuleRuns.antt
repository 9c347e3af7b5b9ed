-- The calls of a rule's visit.
use Rattle.std.specs.Prelude.{◌≡◌, ℕ, suc, List, [], ◌∷◌, Option, Result, Ok, Err, MatchResult, slice_get}
use Rattle.model.specs.lists.Setting.{expr_type}
use Rattle.model.specs.lists.Tables.{TermEntry}
use Rattle.model.specs.rules.Typed.{TypedPattern, TypedExpr, TypedIfLet, TypedRule}
use Rattle.model.specs.visits.Runs.{VisitRun, BoundIds, done, no_run, or_refused, and_then, lent_run, taking}
use Rattle.model.specs.visits.Visitors.{PatternSteps, ExprSteps, RuleSteps}
use Rattle.model.specs.visits.PatternRuns.{PatternRun}
use Rattle.model.specs.visits.ExprRuns.{ExprRun, entry_arg_types}

-- what a run that binds variables, from vs on, does with a lent visitor: it answers the variables at its end
abbrev pub lent_binding : {F L P : Type 0} → VisitRun F (L × BoundIds P) (Unit {0}) → BoundIds P → L → Result (BoundIds P) F → L → Type 0
lent_binding {F} {L} {P} m vs l a k = MatchResult a (λ ws. m (l, vs) (Ok tt) (k, ws)) (λ e. (ws : BoundIds P) × m (l, vs) (Err e) (k, ws))

-- what a run does with a lent visitor, of an expression of type ty: it answers the type beside the id
abbrev pub lent_valuing : {F M E : Type 0} → VisitRun F M E → ℕ → M → Result (ℕ × E) F → M → Type 0
lent_valuing m ty l a k = MatchResult a (λ x. (x.0 ≡ ty) × m l (Ok x.1) k) (λ e. m l (Err e) k)

module _ {F S L M X P E : Type 0} (want : Option F) (v : RuleSteps F S L M X P E) where
  -- `pattern_as_expr` for each variable, ascending
  abbrev pub ExchangeRun : BoundIds P → VisitRun F S (BoundIds E)
  ExchangeRun [] = done []
  ExchangeRun (b ∷ rest) =
      and_then (λ s r t. v.pattern_as_expr_steps s b.1 r t) (λ id. or_refused want (and_then (ExchangeRun rest) (λ ws. done ((b.0, id) ∷ ws))))

module _ {F S L M X P E : Type 0} (want : Option F) (v : RuleSteps F S L M X P E) (p : PatternSteps F L P) (q : ExprSteps F M E) (terms : List TermEntry) where
  -- `add_pattern` around the visit of a pattern
  abbrev pub PatternCall : TypedPattern → P → BoundIds P → VisitRun F S (BoundIds P)
  PatternCall pattern input vs =
      lent_run (λ s r t. v.lend_pattern_steps s r t) (taking (λ s l r t. v.take_pattern_steps s l r t)) (λ l s t. v.leave_pattern_steps l s t) (lent_binding (PatternRun want p terms pattern input) vs)

  -- `add_expr` around the visit of an expression
  abbrev pub ExprCall : TypedExpr → BoundIds E → VisitRun F S X
  ExprCall expr ws =
      lent_run (λ s r t. v.lend_expr_steps s r t) (λ l x s r t. v.take_expr_steps s l x.0 x.1 r t) (λ l s t. v.leave_expr_steps l s t) (lent_valuing (ExprRun want q terms expr ws) (expr_type expr))

  -- an expression of the rule, under its variables
  abbrev pub ValueRun : TypedExpr → BoundIds P → VisitRun F S X
  ValueRun expr vs = and_then (ExchangeRun want v vs) (λ ws. ExprCall expr ws)

  -- as many arguments as types, from argument i on
  abbrev pub ArgsRun : List TypedPattern → List ℕ → ℕ → BoundIds P → VisitRun F S (BoundIds P)
  ArgsRun [] [] i vs = done vs
  ArgsRun [] (ty ∷ tys) i vs = no_run
  ArgsRun (pattern ∷ rest) [] i vs = no_run
  ArgsRun (pattern ∷ rest) (ty ∷ tys) i vs =
      and_then (λ s r t. v.arg_steps s i ty r t) (λ input. and_then (PatternCall pattern input vs) (λ ws. ArgsRun rest tys (suc i) ws))

  -- each if-let: the variables bound so far, its expression, that as an input, its pattern
  abbrev pub IfLetsRun : List TypedIfLet → BoundIds P → VisitRun F S (BoundIds P)
  IfLetsRun [] vs = done vs
  IfLetsRun (iflet ∷ rest) vs =
      and_then (ValueRun iflet.rhs vs) (λ value. and_then (λ s r t. v.expr_as_pattern_steps s value r t) (λ input. and_then (PatternCall iflet.lhs input vs) (λ ws. IfLetsRun rest ws)))

  -- a rule: its arguments, its if-lets, its right side
  abbrev pub RuleRun : TypedRule → VisitRun F S X
  RuleRun rule =
      and_then (ArgsRun rule.args (entry_arg_types (slice_get terms rule.root_term)) 0 [])
      (λ vs. and_then (IfLetsRun rule.iflets vs) (λ ws. ValueRun rule.rhs ws))
