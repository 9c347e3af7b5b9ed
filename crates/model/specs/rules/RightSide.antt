-- What a right side does: its impure calls in order, and its result or a failure.
use Rattle.std.specs.Prelude.{ℕ, Bool, true, false, List, [], ◌∷◌, ◌++◌, length, Option, Some, None, if◌then◌else◌}
use Rattle.model.specs.rules.Values.{Value, of_variant, of_struct, Values, no_value, value_and}
use Rattle.model.specs.rules.Meaning.{Content, one, just, Meaning, bool_literal, int_literal, literal_value, constant_value, pure_answer, impure_answer}
use Rattle.model.specs.rules.Outcome.{Call, ended, failed, Outcome, then_option}
use Rattle.model.specs.rules.Program.{Program, Kind, a_variant, a_struct, a_call, unknown, kind, is_partial}
use Rattle.model.specs.rules.Matching.{Vars, var_value, single}
use Rattle.model.specs.rules.Typed.{TypedExpr, make_term, make_var, make_bool, make_int, make_prim, make_let, TypedExprs, no_typed_expr, typed_expr_and, TypedLets, no_typed_let, typed_let_and, TypedRule}

-- an expression gives its value, or that it failed, with the calls made so far; or an impure call ended all
pub data Eval : Type 0 where
  gives : (value : Option Value) (calls : List Call) → Eval
  ends : (calls : List Call) → Eval

pub data EvalAll : Type 0 where
  gives_all : (values : Option Values) (calls : List Call) → EvalAll
  ends_all : (calls : List Call) → EvalAll

pub data EvalLets : Type 0 where
  gives_vars : (vars : Vars) (calls : List Call) → EvalLets
  ends_lets : (calls : List Call) → EvalLets

abbrev pub or_end : Option Value → List Call → Eval
or_end None calls = ends calls
or_end (Some v) calls = gives (Some v) calls

-- an impure call with values for its arguments is made; one of its arguments, or its answer, missing ends all
abbrev pub impure_call : Meaning → ℕ → Option Values → List Call → Eval
impure_call m t None calls = ends calls
impure_call m t (Some vs) calls = or_end (then_option (impure_answer m t (length calls)) single) (calls ++ record { term = t; args = vs } ∷ [])

-- a term with its arguments
abbrev pub applied : Kind → Meaning → ℕ → Option Values → List Call → Eval
applied (a_variant ty variant) m t vs calls = gives (then_option vs (λ ws. Some (of_variant ty variant ws))) calls
applied (a_struct ty) m t vs calls = gives (then_option vs (λ ws. Some (of_struct ty ws))) calls
applied (a_call flags infallible) m t vs calls =
    if flags.pure then gives (then_option vs (λ ws. then_option (pure_answer m t ws) single)) calls else impure_call m t vs calls
applied unknown m t vs calls = ends calls

abbrev pub apply : Kind → Meaning → ℕ → EvalAll → Eval
apply k m t (ends_all calls) = ends calls
apply k m t (gives_all vs calls) = applied k m t vs calls

abbrev pub pair_up : Option Value → EvalAll → EvalAll
pair_up o (ends_all calls) = ends_all calls
pair_up o (gives_all vs calls) = gives_all (then_option o (λ v. then_option vs (λ ws. Some (value_and v ws)))) calls

abbrev pub then_rest : Eval → (List Call → EvalAll) → EvalAll
then_rest (ends calls) go = ends_all calls
then_rest (gives o calls) go = pair_up o (go calls)

abbrev pub then_lets : Eval → (Option Value → List Call → EvalLets) → EvalLets
then_lets (ends calls) go = ends_lets calls
then_lets (gives o calls) go = go o calls

abbrev pub then_body : EvalLets → (Vars → List Call → Eval) → Eval
then_body (ends_lets calls) go = ends calls
then_body (gives_vars e calls) go = go e calls

-- arguments left to right before their call, a let's definitions before its body
abbrev mutual
  pub eval : Program → Meaning → TypedExpr → Vars → List Call → Eval
  eval p m (make_term ty t args) e calls = apply (kind p t) m t (eval_all p m args e calls)
  eval p m (make_var ty x) e calls = gives (var_value e x) calls
  eval p m (make_bool ty b) e calls = gives (literal_value m (bool_literal b ty)) calls
  eval p m (make_int ty z) e calls = gives (literal_value m (int_literal z ty)) calls
  eval p m (make_prim ty name) e calls = gives (constant_value m name) calls
  eval p m (make_let ty defs body) e calls = then_body (eval_lets p m defs e calls) (λ e' calls'. eval p m body e' calls')

  pub eval_all : Program → Meaning → TypedExprs → Vars → List Call → EvalAll
  eval_all p m no_typed_expr e calls = gives_all (Some no_value) calls
  eval_all p m (typed_expr_and x xs) e calls = then_rest (eval p m x e calls) (λ calls'. eval_all p m xs e calls')

  pub eval_lets : Program → Meaning → TypedLets → Vars → List Call → EvalLets
  eval_lets p m no_typed_let e calls = gives_vars e calls
  eval_lets p m (typed_let_and x ty value rest) e calls = then_lets (eval p m value e calls) (λ o calls'. eval_lets p m rest ((x, o) ∷ e) calls')

-- a result: of a partial term, Some of the value
abbrev pub result_content : Bool → Value → Content
result_content false v = one v
result_content true v = just (one v)

abbrev pub outcome_of : Bool → Eval → Outcome
outcome_of partial (ends calls) = record { calls = calls; results = []; ending = failed }
outcome_of partial (gives None calls) = record { calls = calls; results = []; ending = failed }
outcome_of partial (gives (Some v) calls) = record { calls = calls; results = result_content partial v ∷ []; ending = ended }

-- the outcome of a rule whose left side took these variables
abbrev pub right_side : Program → Meaning → TypedRule → Vars → Outcome
right_side p m r e = outcome_of (is_partial p r.root_term) (eval p m r.rhs e [])
