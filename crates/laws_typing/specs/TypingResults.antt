-- What is known of all that elaboration makes: types, variables and names.
use Rattle.std.specs.Prelude.{◌≡◌, ℕ, Bool, true, List, ◌++◌, Some, slice_get}
use Rattle.model.specs.lists.Syntax.{PatternTree, ExprTree, RuleTree}
use Rattle.model.specs.lists.Names.{IsDistinct}
use Rattle.model.specs.lists.Tables.{Flags}
use Rattle.model.specs.rules.Program.{Program}
use Rattle.model.specs.rules.Typed.{TypedPattern, TypedExpr, TypedVar, TypedRule}
use Rattle.model.specs.lists.Setting.{Setting, Scope, expr_type}
use Rattle.model.specs.lists.Elaborates.{ElaboratesPattern, ElaboratesExpr, ElaboratesRule, ElaboratesRules}
use Rattle.model.specs.lists.Formed.{pattern_type, is_formed_rule}
use Rattle.model.specs.lists.Visitable.{is_visitable_rule}

-- a pattern is made at the type asked for, an expression at the type expected
abbrev pub TypesAreExpected : Type 0
TypesAreExpected =
    ((e : Setting) (multi : Bool) (d : ℕ) (p : PatternTree) (ty : ℕ) (s : Scope) (q : TypedPattern) (t : Scope) (n : ℕ) → ElaboratesPattern e multi d p ty s q t n → pattern_type q ≡ ty)
    × ((e : Setting) (flags : Flags) (d : ℕ) (x : ExprTree) (ty : ℕ) (s : Scope) (q : TypedExpr) (t : Scope) (n : ℕ) → ElaboratesExpr e flags d x (Some ty) s q t n → expr_type q ≡ ty)

-- a rule's variables stand at their numbers
abbrev pub VariablesAtPlaces : Type 0
VariablesAtPlaces =
    (e : Setting) (d id : ℕ) (r : RuleTree) (names : List (List ℕ)) (q : TypedRule) (t : Scope) (n : ℕ)
    → ElaboratesRule e d id r names q t n → (k : ℕ) (v : TypedVar) → slice_get q.vars k ≡ Some v → v.id ≡ k

-- the names met before a rule stay at their numbers, and where they were distinct they are so with those that it meets
abbrev pub NamesStay : Type 0
NamesStay =
    (e : Setting) (d id : ℕ) (r : RuleTree) (names : List (List ℕ)) (q : TypedRule) (t : Scope) (n : ℕ)
    → ElaboratesRule e d id r names q t n → ((more : List (List ℕ)) × (t.names ≡ names ++ more)) × (IsDistinct names → IsDistinct t.names)

-- so do the names met before a list of rules
abbrev pub NamesStayInLists : Type 0
NamesStayInLists =
    (e : Setting) (id : ℕ) (rs : List RuleTree) (names : List (List ℕ)) (qs : List TypedRule) (after : List (List ℕ))
    → ElaboratesRules e id rs names qs after → ((more : List (List ℕ)) × (after ≡ names ++ more)) × (IsDistinct names → IsDistinct after)

-- a rule that hangs together can be visited
abbrev pub FormedRulesCanBeVisited : Type 0
FormedRulesCanBeVisited = (p : Program) (r : TypedRule) → is_formed_rule p r ≡ true → is_visitable_rule p.terms r ≡ true
