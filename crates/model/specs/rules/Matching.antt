-- What a typed pattern holds of, the value of an expression without impure calls, and which arguments a rule matches.
use Rattle.std.specs.Prelude.{ℕ, ◌&&◌, List, [], ◌∷◌, Option, Some, None, if◌then◌else◌}
use Rattle.std.specs.Bool.{◌==◌}
use Rattle.model.specs.rules.Values.{Value, of_variant, of_struct, Values, no_value, value_and, value_eq}
use Rattle.model.specs.rules.Meaning.{Content, one, just, Meaning, look, bool_literal, int_literal, literal_value, constant_value, extractor_answer, pure_answer, answered_outputs}
use Rattle.model.specs.rules.Outcome.{then_option}
use Rattle.model.specs.rules.Program.{Program, Kind, a_variant, a_struct, a_call, unknown, kind}
use Rattle.model.specs.rules.Typed.{TypedPattern, match_bind, match_var, match_bool, match_int, match_prim, match_term, match_any, match_and, TypedPatterns, no_typed_pattern, typed_pattern_and, TypedExpr, make_term, make_var, make_bool, make_int, make_prim, make_let, TypedExprs, no_typed_expr, typed_expr_and, TypedLets, no_typed_let, typed_let_and, TypedIfLet, TypedRule}

-- variables by number, the last one bound first: a value, or that it failed
abbrev pub Vars : Type 0
Vars = List (ℕ × Option Value)

abbrev pub var_value : Vars → ℕ → Option Value
var_value e x = then_option (look (λ k. k == x) e) (λ o. o)

-- the value is the one wanted, and the variables stay
abbrev pub where_equal : Option Value → Value → Vars → Option Vars
where_equal None v e = None
where_equal (Some w) v e = if value_eq w v then Some e else None

-- what the parts of a term's pattern are matched with: the fields of that variant or struct, or the outputs of the extractor
abbrev pub parts_seen : Kind → Meaning → ℕ → Value → Option Values
parts_seen (a_variant ty variant) m t (of_variant s i fields) = if (s == ty) && (i == variant) then Some fields else None
parts_seen (a_struct ty) m t (of_struct s fields) = if s == ty then Some fields else None
parts_seen (a_call flags infallible) m t v = then_option (extractor_answer m t v) answered_outputs
parts_seen _ m t v = None

-- a typed pattern holds of a value, and takes the variables on
abbrev mutual
  pub holds : Program → Meaning → TypedPattern → Value → Vars → Option Vars
  holds p m (match_bind ty x sub) v e = holds p m sub v ((x, Some v) ∷ e)
  holds p m (match_var ty x) v e = where_equal (var_value e x) v e
  holds p m (match_bool ty b) v e = where_equal (literal_value m (bool_literal b ty)) v e
  holds p m (match_int ty z) v e = where_equal (literal_value m (int_literal z ty)) v e
  holds p m (match_prim ty name) v e = where_equal (constant_value m name) v e
  holds p m (match_term ty t args) v e = then_option (parts_seen (kind p t) m t v) (λ vs. each_holds p m args vs e)
  holds p m (match_any ty) v e = Some e
  holds p m (match_and ty subs) v e = all_hold p m subs v e

  -- each pattern of its own value
  pub each_holds : Program → Meaning → TypedPatterns → Values → Vars → Option Vars
  each_holds p m no_typed_pattern no_value e = Some e
  each_holds p m (typed_pattern_and q qs) (value_and v vs) e = then_option (holds p m q v e) (λ e'. each_holds p m qs vs e')
  each_holds p m _ _ e = None

  -- all patterns of one value
  pub all_hold : Program → Meaning → TypedPatterns → Value → Vars → Option Vars
  all_hold p m no_typed_pattern v e = Some e
  all_hold p m (typed_pattern_and q qs) v e = then_option (holds p m q v e) (λ e'. all_hold p m qs v e')

-- the value that a call's answer is, where it is one
abbrev pub single : Content → Option Value
single (one v) = Some v
single (just (one v)) = Some v
single _ = None

-- a term's value, its arguments having values: a construction, or what the meaning answers
abbrev pub pure_term : Kind → Meaning → ℕ → Values → Option Value
pure_term (a_variant ty variant) m t vs = Some (of_variant ty variant vs)
pure_term (a_struct ty) m t vs = Some (of_struct ty vs)
pure_term (a_call flags infallible) m t vs = then_option (pure_answer m t vs) single
pure_term unknown m t vs = None

-- the value of an expression without impure calls, or failure: a let stores either, and only a use of a failed variable fails
abbrev mutual
  pub pure_value : Program → Meaning → TypedExpr → Vars → Option Value
  pure_value p m (make_term ty t args) e = then_option (pure_values p m args e) (λ vs. pure_term (kind p t) m t vs)
  pure_value p m (make_var ty x) e = var_value e x
  pure_value p m (make_bool ty b) e = literal_value m (bool_literal b ty)
  pure_value p m (make_int ty z) e = literal_value m (int_literal z ty)
  pure_value p m (make_prim ty name) e = constant_value m name
  pure_value p m (make_let ty defs body) e = pure_value p m body (pure_lets p m defs e)

  pub pure_values : Program → Meaning → TypedExprs → Vars → Option Values
  pure_values p m no_typed_expr e = Some no_value
  pure_values p m (typed_expr_and x xs) e = then_option (pure_value p m x e) (λ v. then_option (pure_values p m xs e) (λ vs. Some (value_and v vs)))

  pub pure_lets : Program → Meaning → TypedLets → Vars → Vars
  pure_lets p m no_typed_let e = e
  pure_lets p m (typed_let_and x ty value rest) e = pure_lets p m rest ((x, pure_value p m value e) ∷ e)

-- the argument patterns in order, each of its own value
abbrev pub args_hold : Program → Meaning → List TypedPattern → List Value → Vars → Option Vars
args_hold p m [] [] e = Some e
args_hold p m (q ∷ qs) (v ∷ vs) e = then_option (holds p m q v e) (λ e'. args_hold p m qs vs e')
args_hold p m _ _ e = None

-- then the if-lets in order: each has a value of which its pattern holds
abbrev pub iflets_hold : Program → Meaning → List TypedIfLet → Vars → Option Vars
iflets_hold p m [] e = Some e
iflets_hold p m (i ∷ is) e = then_option (pure_value p m i.rhs e) (λ v. then_option (holds p m i.lhs v e) (λ e'. iflets_hold p m is e'))

-- a rule matches arguments, with these variables
abbrev pub matches : Program → Meaning → TypedRule → List Value → Option Vars
matches p m r args = then_option (args_hold p m r.args args []) (λ e. iflets_hold p m r.iflets e)
