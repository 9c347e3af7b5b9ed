-- Of a program, the choice asks the terms alone.
use Rattle.std.proofs.Common.{◌≡◌, ℕ, List, [], ◌∷◌, Option, Some, None, slice_get, refl, ap, ◌∙◌, arith}
use Rattle.std.proofs.lemmas.Grind.{common_steps}
use Rattle.model.specs.lists.Tables.{TermEntry}
use Rattle.model.specs.rules.Values.{Value, Values, no_value, value_and}
use Rattle.model.specs.rules.Meaning.{Meaning}
use Rattle.model.specs.rules.Outcome.{Call, then_option}
use Rattle.model.specs.rules.Program.{Program, unknown, kind_of, kind, flags_of}
use Rattle.model.specs.rules.Typed.{TypedPattern, match_bind, match_var, match_bool, match_int, match_prim, match_term, match_any, match_and, TypedPatterns, no_typed_pattern, typed_pattern_and, TypedExpr, make_term, make_var, make_bool, make_int, make_prim, make_let, TypedExprs, no_typed_expr, typed_expr_and, TypedLets, no_typed_let, typed_let_and, TypedIfLet, TypedRule}
use Rattle.model.specs.rules.Matching.{Vars, parts_seen, holds, each_holds, all_hold, pure_term, pure_value, pure_values, pure_lets, args_hold, iflets_hold, matches}
use Rattle.model.specs.rules.RightSide.{apply, then_rest, then_lets, then_body, eval, eval_all, eval_lets, outcome_of, right_side}
use Rattle.model.specs.rules.Choice.{chosen, with_vars, outcome_of_rule}
use Rattle.laws_trees.specs.ChoiceLaws.{ChoiceAsksTerms}

module _ (p q : Program) (terms : p.terms ≡ q.terms) (m : Meaning) where
  kind_same : (t : ℕ) → kind p t ≡ kind q t
  kind_same t = ap (λ ts. elim (slice_get {X = TermEntry} ts t) [ None ↦ unknown | Some e ↦ kind_of e ]) terms

  mutual
    holds_same : (x : TypedPattern) (v : Value) (e : Vars) → holds p m x v e ≡ holds q m x v e
    holds_same (match_bind ty x sub) v e = holds_same sub v ((x, Some v) ∷ e)
    holds_same (match_var ty x) v e = refl
    holds_same (match_bool ty b) v e = refl
    holds_same (match_int ty z) v e = refl
    holds_same (match_prim ty name) v e = refl
    holds_same (match_term ty t args) v e = λ k. then_option (parts_seen (kind_same t k) m t v) (λ vs. each_same args vs e k)
    holds_same (match_any ty) v e = refl
    holds_same (match_and ty subs) v e = all_same subs v e

    each_same : (xs : TypedPatterns) (vs : Values) (e : Vars) → each_holds p m xs vs e ≡ each_holds q m xs vs e
    each_same no_typed_pattern no_value e = refl
    each_same no_typed_pattern (value_and v vs) e = refl
    each_same (typed_pattern_and x xs) no_value e = refl
    each_same (typed_pattern_and x xs) (value_and v vs) e = λ k. then_option (holds_same x v e k) (λ f. each_same xs vs f k)

    all_same : (xs : TypedPatterns) (v : Value) (e : Vars) → all_hold p m xs v e ≡ all_hold q m xs v e
    all_same no_typed_pattern v e = refl
    all_same (typed_pattern_and x xs) v e = λ k. then_option (holds_same x v e k) (λ f. all_same xs v f k)

  mutual
    value_same : (x : TypedExpr) (e : Vars) → pure_value p m x e ≡ pure_value q m x e
    value_same (make_term ty t args) e = λ k. then_option (values_same args e k) (λ vs. pure_term (kind_same t k) m t vs)
    value_same (make_var ty x) e = refl
    value_same (make_bool ty b) e = refl
    value_same (make_int ty z) e = refl
    value_same (make_prim ty name) e = refl
    value_same (make_let ty defs body) e = value_same body (pure_lets p m defs e) ∙ ap (pure_value q m body) (lets_same defs e)

    values_same : (xs : TypedExprs) (e : Vars) → pure_values p m xs e ≡ pure_values q m xs e
    values_same no_typed_expr e = refl
    values_same (typed_expr_and x xs) e = λ k. then_option (value_same x e k) (λ v. then_option (values_same xs e k) (λ vs. Some (value_and v vs)))

    lets_same : (xs : TypedLets) (e : Vars) → pure_lets p m xs e ≡ pure_lets q m xs e
    lets_same no_typed_let e = refl
    lets_same (typed_let_and x ty value rest) e = grind (arith, common_steps, lets_same rest ((x, pure_value p m value e) ∷ e), value_same value e)

  args_same : (xs : List TypedPattern) (vs : List Value) (e : Vars) → args_hold p m xs vs e ≡ args_hold q m xs vs e
  args_same [] [] e = refl
  args_same [] (v ∷ vs) e = refl
  args_same (x ∷ xs) [] e = refl
  args_same (x ∷ xs) (v ∷ vs) e = λ k. then_option (holds_same x v e k) (λ f. args_same xs vs f k)

  iflets_same : (is : List TypedIfLet) (e : Vars) → iflets_hold p m is e ≡ iflets_hold q m is e
  iflets_same [] e = refl
  iflets_same (i ∷ is) e = λ k. then_option (value_same i.rhs e k) (λ v. then_option (holds_same i.lhs v e k) (λ f. iflets_same is f k))

  pub matches_same : (r : TypedRule) (args : List Value) → matches p m r args ≡ matches q m r args
  matches_same r args = λ k. then_option (args_same r.args args [] k) (λ e. iflets_same r.iflets e k)

  mutual
    eval_same : (x : TypedExpr) (e : Vars) (calls : List Call) → eval p m x e calls ≡ eval q m x e calls
    eval_same (make_term ty t args) e calls = λ k. apply (kind_same t k) m t (evals_same args e calls k)
    eval_same (make_var ty x) e calls = refl
    eval_same (make_bool ty b) e calls = refl
    eval_same (make_int ty z) e calls = refl
    eval_same (make_prim ty name) e calls = refl
    eval_same (make_let ty defs body) e calls = λ k. then_body (eval_lets_same defs e calls k) (λ f done. eval_same body f done k)

    evals_same : (xs : TypedExprs) (e : Vars) (calls : List Call) → eval_all p m xs e calls ≡ eval_all q m xs e calls
    evals_same no_typed_expr e calls = refl
    evals_same (typed_expr_and x xs) e calls = λ k. then_rest (eval_same x e calls k) (λ done. evals_same xs e done k)

    eval_lets_same : (xs : TypedLets) (e : Vars) (calls : List Call) → eval_lets p m xs e calls ≡ eval_lets q m xs e calls
    eval_lets_same no_typed_let e calls = refl
    eval_lets_same (typed_let_and x ty value rest) e calls = λ k. then_lets (eval_same value e calls k) (λ o done. eval_lets_same rest ((x, o) ∷ e) done k)

  right_same : (r : TypedRule) (e : Vars) → right_side p m r e ≡ right_side q m r e
  right_same r e = λ k. outcome_of (flags_of (kind_same r.root_term k)).partial (eval_same r.rhs e [] k)

  pub chosen_same : (rs : List TypedRule) (args : List Value) → chosen p m rs args ≡ chosen q m rs args
  chosen_same [] args = refl
  chosen_same (r ∷ rs) args = grind (arith, common_steps, chosen_same rs args, matches_same)

  vars_same : (r : TypedRule) (o : Option Vars) → with_vars p m r o ≡ with_vars q m r o
  vars_same r None = refl
  vars_same r (Some e) = right_same r e

  outcome_same : (args : List Value) (o : Option TypedRule) → outcome_of_rule p m args o ≡ outcome_of_rule q m args o
  outcome_same args None = refl
  outcome_same args (Some r) = vars_same r (matches p m r args) ∙ ap (with_vars q m r) (matches_same r args)

pub choice_asks_terms_lem : ChoiceAsksTerms
choice_asks_terms_lem p q terms m rs args = grind (arith, common_steps, outcome_same, chosen_same)
