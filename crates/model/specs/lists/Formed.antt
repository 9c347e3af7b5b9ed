-- Typed rules that hang together: terms have the extractor or constructor that is used and as many parts as arguments,
-- all at their types, each integer literal lies in the range of its type, and each variable is bound once, before it is used.
use Rattle.std.specs.Prelude.{[], ◌≡◌, ℕ, Bool, true, false, ◌&&◌, List, ◌∷◌, Option, Some, None, is_none, slice_get, if◌then◌else◌}
use Rattle.std.specs.Bool.{◌==◌}
use Rattle.model.specs.lists.Syntax.{RuleTree}
use Rattle.model.specs.lists.Ranges.{is_literal_of}
use Rattle.model.specs.rules.Outcome.{then_option}
use Rattle.model.specs.lists.Tables.{TermEntry}
use Rattle.model.specs.rules.Meaning.{look}
use Rattle.model.specs.rules.Program.{Program}
use Rattle.model.specs.sites.Serves.{constant_type}
use Rattle.model.specs.rules.Typed.{TypedPattern, match_bind, match_var, match_bool, match_int, match_prim, match_term, match_any, match_and, TypedPatterns, no_typed_pattern, typed_pattern_and, TypedExpr, make_term, make_var, make_bool, make_int, make_prim, make_let, TypedExprs, no_typed_expr, typed_expr_and, TypedLets, no_typed_let, typed_let_and, TypedIfLet, TypedRule}
use Rattle.model.specs.lists.Setting.{Setting, Scope, bool_type, expr_type, has_constructor, has_extractor}
use Rattle.model.specs.lists.Elaborates.{ElaboratesRule}

-- the type that a pattern matches
abbrev pub pattern_type : TypedPattern → ℕ
pattern_type (match_bind ty x of) = ty
pattern_type (match_var ty x) = ty
pattern_type (match_bool ty b) = ty
pattern_type (match_int ty z) = ty
pattern_type (match_prim ty name) = ty
pattern_type (match_term ty term args) = ty
pattern_type (match_any ty) = ty
pattern_type (match_and ty parts) = ty

-- the type of a variable among those that can be used
abbrev pub var_type : List (ℕ × ℕ) → ℕ → Option ℕ
var_type vars x = look (λ y. y == x) vars

-- whether there is a type and it is this one
abbrev pub is_type : Option ℕ → ℕ → Bool
is_type None ty = false
is_type (Some t) ty = t == ty

-- with a variable that is new
abbrev pub with_new : ℕ → ℕ → List (ℕ × ℕ) → Option (List (ℕ × ℕ))
with_new x ty vars = if is_none (var_type vars x) then Some ((x, ty) ∷ vars) else None

-- what holds of an entry, where there is one
abbrev pub of_entry : Option TermEntry → (TermEntry → Bool) → Bool
of_entry None f = false
of_entry (Some t) f = f t

-- what holds with these variables, where there are some
abbrev pub where_bound : Option (List (ℕ × ℕ)) → (List (ℕ × ℕ) → Bool) → Bool
where_bound None f = false
where_bound (Some vars) f = f vars

abbrev mutual
  -- the variables after a pattern, where it hangs together
  pub formed_pattern : Program → TypedPattern → List (ℕ × ℕ) → Option (List (ℕ × ℕ))
  formed_pattern p (match_bind ty x of) vars = if pattern_type of == ty then then_option (formed_pattern p of vars) (with_new x ty) else None
  formed_pattern p (match_var ty x) vars = if is_type (var_type vars x) ty then Some vars else None
  formed_pattern p (match_bool ty b) vars = if ty == bool_type then Some vars else None
  formed_pattern p (match_int ty z) vars = if is_literal_of (slice_get p.types ty) z then Some vars else None
  formed_pattern p (match_prim ty name) vars = if is_type (constant_type p name) ty then Some vars else None
  formed_pattern p (match_term ty term args) vars =
      then_option (slice_get p.terms term) (λ t. if (t.ret_ty == ty) && has_extractor t.kind then formed_parts p args t.arg_tys vars else None)
  formed_pattern p (match_any ty) vars = Some vars
  formed_pattern p (match_and ty parts) vars = formed_each p parts ty vars

  -- as many patterns as types, each at its own
  pub formed_parts : Program → TypedPatterns → List ℕ → List (ℕ × ℕ) → Option (List (ℕ × ℕ))
  formed_parts p no_typed_pattern [] vars = Some vars
  formed_parts p no_typed_pattern (ty ∷ tys) vars = None
  formed_parts p (typed_pattern_and q rest) [] vars = None
  formed_parts p (typed_pattern_and q rest) (ty ∷ tys) vars = if pattern_type q == ty then then_option (formed_pattern p q vars) (λ more. formed_parts p rest tys more) else None

  -- patterns of one value
  pub formed_each : Program → TypedPatterns → ℕ → List (ℕ × ℕ) → Option (List (ℕ × ℕ))
  formed_each p no_typed_pattern ty vars = Some vars
  formed_each p (typed_pattern_and q rest) ty vars = if pattern_type q == ty then then_option (formed_pattern p q vars) (λ more. formed_each p rest ty more) else None

abbrev mutual
  -- whether an expression hangs together
  pub is_formed_expr : Program → TypedExpr → List (ℕ × ℕ) → Bool
  is_formed_expr p (make_term ty term args) vars = of_entry (slice_get p.terms term) (λ t. (t.ret_ty == ty) && (has_constructor t.kind && are_formed_args p args t.arg_tys vars))
  is_formed_expr p (make_var ty x) vars = is_type (var_type vars x) ty
  is_formed_expr p (make_bool ty b) vars = ty == bool_type
  is_formed_expr p (make_int ty z) vars = is_literal_of (slice_get p.types ty) z
  is_formed_expr p (make_prim ty name) vars = is_type (constant_type p name) ty
  is_formed_expr p (make_let ty defs body) vars = where_bound (formed_lets p defs vars) (λ more. (expr_type body == ty) && is_formed_expr p body more)

  pub are_formed_args : Program → TypedExprs → List ℕ → List (ℕ × ℕ) → Bool
  are_formed_args p no_typed_expr [] vars = true
  are_formed_args p no_typed_expr (ty ∷ tys) vars = false
  are_formed_args p (typed_expr_and x rest) [] vars = false
  are_formed_args p (typed_expr_and x rest) (ty ∷ tys) vars = (expr_type x == ty) && (is_formed_expr p x vars && are_formed_args p rest tys vars)

  -- the variables after a let's definitions
  pub formed_lets : Program → TypedLets → List (ℕ × ℕ) → Option (List (ℕ × ℕ))
  formed_lets p no_typed_let vars = Some vars
  formed_lets p (typed_let_and x ty value rest) vars =
      if (expr_type value == ty) && is_formed_expr p value vars then then_option (with_new x ty vars) (λ more. formed_lets p rest more) else None

-- the arguments of a rule, each at its type
abbrev pub formed_list : Program → List TypedPattern → List ℕ → List (ℕ × ℕ) → Option (List (ℕ × ℕ))
formed_list p [] [] vars = Some vars
formed_list p (q ∷ qs) (ty ∷ tys) vars = if pattern_type q == ty then then_option (formed_pattern p q vars) (λ more. formed_list p qs tys more) else None
formed_list p _ _ vars = None

-- if-lets in order, each pattern at its expression's type
abbrev pub formed_iflets : Program → List TypedIfLet → List (ℕ × ℕ) → Option (List (ℕ × ℕ))
formed_iflets p [] vars = Some vars
formed_iflets p (i ∷ is) vars =
    if is_formed_expr p i.rhs vars && (pattern_type i.lhs == expr_type i.rhs) then then_option (formed_pattern p i.lhs vars) (λ more. formed_iflets p is more) else None

-- arguments at the types of the rule's term, if-lets in order, the right side at the result's type
abbrev pub is_formed_rule : Program → TypedRule → Bool
is_formed_rule p r =
    of_entry (slice_get p.terms r.root_term) (λ t.
    where_bound (then_option (formed_list p r.args t.arg_tys []) (formed_iflets p r.iflets)) (λ vars. (expr_type r.rhs == t.ret_ty) && is_formed_expr p r.rhs vars))

-- the program of a setting and typed rules
abbrev pub program_in : Setting → List TypedRule → Program
program_in e rules = record { types = e.types; constants = e.constants; terms = e.terms; rules = rules }

-- where each term stands at its id, every rule that elaborates hangs together
abbrev pub RulesAreFormed : Type 0
RulesAreFormed =
    (e : Setting) (rules : List TypedRule) → ((k : ℕ) (t : TermEntry) → slice_get e.terms k ≡ Some t → t.id ≡ k)
    → (d id : ℕ) (r : RuleTree) (names : List (List ℕ)) (q : TypedRule) (t : Scope) (n : ℕ)
    → ElaboratesRule e d id r names q t n → is_formed_rule (program_in e rules) q ≡ true
