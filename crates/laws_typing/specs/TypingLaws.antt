-- That the rules of typing and the function say the same, and that a tree becomes one thing at most.
use Rattle.std.specs.Prelude.{◌≡◌, ℕ, ◌≤◌, ◌↔◌, Bool, List, Option, Some}
use Rattle.model.specs.lists.Syntax.{PatternTree, ExprTree, RuleTree}
use Rattle.model.specs.lists.Tables.{Flags}
use Rattle.model.specs.rules.Typed.{TypedPattern, TypedExpr, TypedRule}
use Rattle.model.specs.lists.Setting.{Setting, Scope}
use Rattle.model.specs.lists.Typings.{Typing}
use Rattle.model.specs.lists.Elaborated.{elaborated_pattern, elaborated_expr, elaborated_rule, typed_rule, typed_rules, most_nested, most_expansions}
use Rattle.model.specs.lists.Elaborates.{ElaboratesPattern, ElaboratesExpr, ElaboratesRule, ElaboratesRules}

-- what was made, the scope after it, and the number of expansions
abbrev pub typing : {X : Type 0} → X → Scope → ℕ → Typing X
typing q t n = record { made = q; scope = t; expansions = n }

-- a pattern, an expression and a rule have a derivation exactly where the function answers, and it answers just that
abbrev pub PatternsAgree : Type 0
PatternsAgree =
    (e : Setting) (multi : Bool) (d : ℕ) (p : PatternTree) (ty : ℕ) (s : Scope) (q : TypedPattern) (t : Scope) (n : ℕ)
    → ElaboratesPattern e multi d p ty s q t n ↔ (elaborated_pattern e multi d p ty s ≡ Some (typing q t n))

-- likewise an expression
abbrev pub ExprsAgree : Type 0
ExprsAgree =
    (e : Setting) (flags : Flags) (d : ℕ) (x : ExprTree) (ty : Option ℕ) (s : Scope) (q : TypedExpr) (t : Scope) (n : ℕ)
    → ElaboratesExpr e flags d x ty s q t n ↔ (elaborated_expr e flags d x ty s ≡ Some (typing q t n))

-- likewise a rule
abbrev pub RulesAgree : Type 0
RulesAgree =
    (e : Setting) (d id : ℕ) (r : RuleTree) (names : List (List ℕ)) (q : TypedRule) (t : Scope) (n : ℕ)
    → ElaboratesRule e d id r names q t n ↔ (elaborated_rule e d id r names ≡ Some (typing q t n))

-- a rule has a typed rule exactly where it has a derivation within the limits
abbrev pub TypedWithinLimits : Type 0
TypedWithinLimits =
    (e : Setting) (id : ℕ) (r : RuleTree) (names : List (List ℕ)) (q : TypedRule) (t : Scope) (n : ℕ)
    → (ElaboratesRule e most_nested id r names q t n × (n ≤ most_expansions)) ↔ (typed_rule e id r names ≡ Some (typing q t n))

-- a derivation within some nested expansions is one within more
abbrev pub MoreMayNest : Type 0
MoreMayNest =
    (e : Setting) (d c id : ℕ) (r : RuleTree) (names : List (List ℕ)) (q : TypedRule) (t : Scope) (n : ℕ)
    → d ≤ c → ElaboratesRule e d id r names q t n → ElaboratesRule e c id r names q t n

-- any two derivations make the same, with as many expansions, however deep they may nest
abbrev pub PatternsOneWay : Type 0
PatternsOneWay =
    (e : Setting) (multi : Bool) (c d : ℕ) (p : PatternTree) (ty : ℕ) (s : Scope) (q r : TypedPattern) (t u : Scope) (n m : ℕ)
    → ElaboratesPattern e multi c p ty s q t n → ElaboratesPattern e multi d p ty s r u m → (q ≡ r) × (t ≡ u) × (n ≡ m)

-- likewise of an expression
abbrev pub ExprsOneWay : Type 0
ExprsOneWay =
    (e : Setting) (flags : Flags) (c d : ℕ) (x : ExprTree) (ty : Option ℕ) (s : Scope) (q r : TypedExpr) (t u : Scope) (n m : ℕ)
    → ElaboratesExpr e flags c x ty s q t n → ElaboratesExpr e flags d x ty s r u m → (q ≡ r) × (t ≡ u) × (n ≡ m)

-- likewise of a rule
abbrev pub RulesOneWay : Type 0
RulesOneWay =
    (e : Setting) (c d id : ℕ) (r : RuleTree) (names : List (List ℕ)) (p q : TypedRule) (t u : Scope) (n m : ℕ)
    → ElaboratesRule e c id r names p t n → ElaboratesRule e d id r names q u m → (p ≡ q) × (t ≡ u) × (n ≡ m)

-- the rules of a list have typed rules exactly where each has a derivation within the limits
abbrev pub ListsAgree : Type 0
ListsAgree =
    (e : Setting) (id : ℕ) (rs : List RuleTree) (names : List (List ℕ)) (qs : List TypedRule) (after : List (List ℕ))
    → ElaboratesRules e id rs names qs after ↔ (typed_rules e id rs names ≡ Some (record { rules = qs; names = after }))
