-- How rules are read, with all that is wrong in them: one rule, then the rules of a list.
use Rattle.std.specs.Prelude.{ℕ, suc, ◌+◌, List, [], ◌∷◌, ◌++◌, length, map, Option, Some, None}
use Rattle.std.specs.Bool.{◌==◌}
use Rattle.model.specs.lists.Syntax.{Position, Name, IfLetTree, RuleTree, pattern_list}
use Rattle.model.specs.lists.Tables.{Flags, TermEntry}
use Rattle.model.specs.lists.TermTable.{root_name}
use Rattle.model.specs.rules.Typed.{TypedPatterns, TypedIfLet, TypedRule}
use Rattle.model.specs.lists.Setting.{Setting, Scope, new_scope, term_of, declared_flags, on_lhs, expr_type}
use Rattle.model.specs.lists.Elaborated.{typed_iflet, root_parts, Sides, rule_of_sides, with_own_name, may_have_priority, most_nested}
use Rattle.model.specs.claims.Refusals.{NamedLimit, Refusal, ill_typed, past_limit}
use Rattle.laws_errors.specs.Steps.{argument_count, no_root, unknown_root, undeclared_root, priority, Mistake, Step, went_on, stopped, unless, here, nothing, noting, made_step, then_step, then_made}
use Rattle.laws_errors.specs.PatternSteps.{pattern_step, parts_step, deeper_step}
use Rattle.laws_errors.specs.ExprSteps.{expr_step, deeper_expr_step}

-- the expression of an if-let, at any type; where it is made, its pattern at that type
abbrev pub iflet_step : Setting → Flags → ℕ → IfLetTree → ℕ → Scope → Step TypedIfLet
iflet_step e flags d i n s =
    then_made (expr_step e (on_lhs flags) (deeper_expr_step e (on_lhs flags) d) i.expr None n s) (λ x t k.
    made_step (typed_iflet x) (pattern_step e flags.multi (deeper_step e flags.multi d) i.pattern (expr_type x) (n + k) t))

-- an if-let for which nothing is made is left out
abbrev pub with_iflet : Option TypedIfLet → List TypedIfLet → List TypedIfLet
with_iflet None rest = rest
with_iflet (Some i) rest = i ∷ rest

abbrev pub iflets_step : Setting → Flags → ℕ → List IfLetTree → ℕ → Scope → Step (List TypedIfLet)
iflets_step e flags d [] n s = here [] s
iflets_step e flags d (i ∷ is) n s = then_step with_iflet (iflet_step e flags d i n s) (λ m t k. iflets_step e flags d is (n + k) t)

-- the arguments of a rule's root, behind a wrong number of them, which is said at the rule's place
abbrev pub root_step : Setting → Flags → ℕ → RuleTree → Name → TermEntry → ℕ → Scope → Step TypedPatterns
root_step e flags d r x t n s =
    noting (unless (length (pattern_list (root_parts r.pattern)) == length t.arg_tys) (argument_count x.text (length (pattern_list (root_parts r.pattern))) (length t.arg_tys)) r.at)
    (parts_step e flags.multi (deeper_step e flags.multi d) (root_parts r.pattern) t.arg_tys n s)

-- arguments, if-lets, right side
abbrev pub sides_step : Setting → Flags → ℕ → RuleTree → Name → TermEntry → ℕ → Scope → Step Sides
sides_step e flags d r x t n s =
    then_made (root_step e flags d r x t n s) (λ args u k.
    then_made (iflets_step e flags d r.iflets (n + k) u) (λ iflets v j.
    made_step (λ rhs. (args, (iflets, rhs))) (expr_step e flags (deeper_expr_step e flags d) r.expr (Some t.ret_ty) ((n + k) + j) v)))

-- where the sides are made, a priority that may not be is wrong, and the rule's own name is met
abbrev pub finished_step : ℕ → RuleTree → TermEntry → Flags → Step Sides → Step TypedRule
finished_step id r t flags (went_on None s k es) = went_on None s k es
finished_step id r t flags (went_on (Some q) s k es) = went_on (Some (rule_of_sides id r t q s)) (with_own_name r.name s) k (es ++ unless (may_have_priority flags r) priority r.at)
finished_step id r t flags (stopped l s es) = stopped l s es

-- a rule of a term that may have some
abbrev pub declared_step : Setting → ℕ → ℕ → RuleTree → Name → TermEntry → ℕ → Scope → Option Flags → Step TypedRule
declared_step e d id r x t n s None = nothing s (undeclared_root x.text) r.at
declared_step e d id r x t n s (Some flags) = finished_step id r t flags (sides_step e flags d r x t n s)

abbrev pub of_term_step : Setting → ℕ → ℕ → RuleTree → Name → ℕ → Scope → Option TermEntry → Step TypedRule
of_term_step e d id r x n s None = nothing s (unknown_root x.text) r.at
of_term_step e d id r x n s (Some t) = declared_step e d id r x t n s (declared_flags t.kind)

abbrev pub rooted_step : Setting → ℕ → ℕ → RuleTree → ℕ → Scope → Option Name → Step TypedRule
rooted_step e d id r n s None = nothing s no_root r.at
rooted_step e d id r n s (Some x) = of_term_step e d id r x n s (term_of e s x.text)

-- a rule with this id, in which so many expansions may nest
abbrev pub rule_step : Setting → ℕ → ℕ → RuleTree → ℕ → Scope → Step TypedRule
rule_step e d id r n s = rooted_step e d id r n s (root_name r.pattern)

-- within the limits, from the names met before it
abbrev pub step_of_rule : Setting → ℕ → RuleTree → List (List ℕ) → Step TypedRule
step_of_rule e id r names = rule_step e most_nested id r 0 (new_scope names)

-- an error of a rule: what is wrong and where, or which limit the rule at a place passes
pub data RuleError : Type 0 where
  is_wrong : (w : Mistake) → RuleError
  passes : (limit : NamedLimit) (at : Position) → RuleError

-- the errors of a step on a rule at a place: a limit comes last
abbrev pub errors_of : {X : Type 0} → Position → Step X → List RuleError
errors_of at (went_on m s k es) = map is_wrong es
errors_of at (stopped l s es) = map is_wrong es ++ passes l at ∷ []

-- what errors are answered as
abbrev pub refusal_of_error : RuleError → Refusal
refusal_of_error (is_wrong w) = ill_typed w.at
refusal_of_error (passes limit at) = past_limit limit at

-- what the rules of a list come to: those that are made, also with something wrong, the names met, and all errors
pub record RulesStep : Type 0 where
  pub rules : List TypedRule
  pub names : List (List ℕ)
  pub errors : List RuleError

-- errors before those of the rules that follow
abbrev pub behind : List RuleError → RulesStep → RulesStep
behind es l = record l { errors = es ++ l.errors }

abbrev pub with_rule : TypedRule → RulesStep → RulesStep
with_rule q l = record l { rules = q ∷ l.rules }

-- what follows a rule: it is the next one where it was made, and else the next has its id. What is met before a limit stays met
abbrev pub then_rules : Position → ℕ → Step TypedRule → (ℕ → List (List ℕ) → RulesStep) → RulesStep
then_rules at id (went_on None s k es) next = behind (map is_wrong es) (next id s.names)
then_rules at id (went_on (Some q) s k es) next = behind (map is_wrong es) (with_rule q (next (suc id) s.names))
then_rules at id (stopped l s es) next = behind (map is_wrong es ++ passes l at ∷ []) (next id s.names)

-- the rules of a list in order, the first of which has this id, each from the names met before it
abbrev pub rules_step : Setting → List RuleTree → ℕ → List (List ℕ) → RulesStep
rules_step e [] id names = record { rules = []; names = names; errors = [] }
rules_step e (r ∷ rs) id names = then_rules r.at id (step_of_rule e id r names) (rules_step e rs)
