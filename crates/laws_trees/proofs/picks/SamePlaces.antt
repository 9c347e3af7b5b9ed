-- Picks that give each call the same place act alike.
use Rattle.std.proofs.Common.{◌≡◌, ℕ, suc, Bool, List, [], ◌∷◌, Option, Some, refl, ap, ◌∙◌, arith}
use Rattle.std.proofs.lemmas.Grind.{common_steps}
use Rattle.model.specs.rules.Values.{Value, Values, no_value, value_and}
use Rattle.model.specs.rules.Meaning.{Content, Meaning}
use Rattle.model.specs.rules.Outcome.{Call, then_option}
use Rattle.model.specs.rules.Program.{Program, Kind, kind, is_partial}
use Rattle.model.specs.rules.RightSide.{EvalAll, then_rest, outcome_of}
use Rattle.model.specs.sites.Sites.{SiteTerm, argument, SiteTerms}
use Rattle.model.specs.rules.Picks.{Pick, taken_answer, site_content, sited, SitedVars, expr_site, expr_sites, input_sites, parts_under, holds_under, each_holds_under, all_hold_under, term_under, value_under, values_under, lets_under, args_hold_under, iflets_hold_under, impure_under, apply_under, then_sited_body, eval_under, eval_all_under, eval_lets_under, matches_under, right_side_under}
use Rattle.model.specs.rules.Typed.{TypedPattern, match_bind, match_var, match_bool, match_int, match_prim, match_term, match_any, match_and, TypedPatterns, no_typed_pattern, typed_pattern_and, TypedExpr, make_term, make_var, make_bool, make_int, make_prim, make_let, TypedExprs, no_typed_expr, typed_expr_and, TypedLets, no_typed_let, typed_let_and, TypedIfLet, TypedRule}
use Rattle.laws_trees.specs.PickLaws.{GiveSamePlaces, OnlyPlacesMatter}
use Rattle.laws_trees.proofs.picks.LongerPicks.{picked_alike, content_alike}

module _ (m : Meaning) (k l : Pick) (g : GiveSamePlaces k l) where
  -- 1. answers
  taken_same : (multi : Bool) (call : SiteTerm) (c : Content) → taken_answer multi k call c ≡ taken_answer multi l call c
  taken_same multi call c = grind (arith, common_steps, picked_alike)

  -- 2. sites
  pub content_same : (args : List Value) (s : SiteTerm) → site_content m args k s ≡ site_content m args l s
  content_same args s = content_alike m args k l s (λ c n. g c)

-- two picks that give each call the same place, or both none
pub record PicksAlike : Type 0 where
  pub first : Pick
  pub second : Pick
  pub same : GiveSamePlaces first second

module _ (p : Program) (m : Meaning) (picks : PicksAlike) where
  -- 3. patterns
  parts_same : (kd : Kind) (t : ℕ) (s : SiteTerm) (v : Value) → parts_under kd m picks.first t s v ≡ parts_under kd m picks.second t s v
  parts_same kd t s v = grind (arith, common_steps, taken_same)

  mutual
    holds_same : (q : TypedPattern) (s : SiteTerm) (v : Value) (e : SitedVars) → holds_under p m picks.first q s v e ≡ holds_under p m picks.second q s v e
    holds_same (match_bind ty x sub) s v e = holds_same sub s v ((x, sited s (Some v)) ∷ e)
    holds_same (match_var ty x) s v e = refl
    holds_same (match_bool ty b) s v e = refl
    holds_same (match_int ty z) s v e = refl
    holds_same (match_prim ty name) s v e = refl
    holds_same (match_term ty t args) s v e = λ j. then_option (parts_same (kind p t) t s v j) (λ vs. each_same args (input_sites (kind p t) t s args) vs e j)
    holds_same (match_any ty) s v e = refl
    holds_same (match_and ty subs) s v e = all_same subs s v e

    each_same : (qs : TypedPatterns) (ss : List SiteTerm) (vs : Values) (e : SitedVars) → each_holds_under p m picks.first qs ss vs e ≡ each_holds_under p m picks.second qs ss vs e
    each_same no_typed_pattern [] no_value e = refl
    each_same no_typed_pattern [] (value_and v vs) e = refl
    each_same no_typed_pattern (s ∷ ss) vs e = refl
    each_same (typed_pattern_and q qs) [] vs e = refl
    each_same (typed_pattern_and q qs) (s ∷ ss) no_value e = refl
    each_same (typed_pattern_and q qs) (s ∷ ss) (value_and v vs) e = λ j. then_option (holds_same q s v e j) (λ e'. each_same qs ss vs e' j)

    all_same : (qs : TypedPatterns) (s : SiteTerm) (v : Value) (e : SitedVars) → all_hold_under p m picks.first qs s v e ≡ all_hold_under p m picks.second qs s v e
    all_same no_typed_pattern s v e = refl
    all_same (typed_pattern_and q qs) s v e = λ j. then_option (holds_same q s v e j) (λ e'. all_same qs s v e' j)

  -- 4. values
  term_same : (kd : Kind) (t : ℕ) (ss : SiteTerms) (vs : Values) → term_under kd m picks.first t ss vs ≡ term_under kd m picks.second t ss vs
  term_same kd t ss vs = grind (arith, common_steps, taken_same)

  mutual
    value_same : (x : TypedExpr) (e : SitedVars) → value_under p m picks.first x e ≡ value_under p m picks.second x e
    value_same (make_term ty t args) e = λ j. then_option (values_same args e j) (λ vs. term_same (kind p t) t (expr_sites p args e 0) vs j)
    value_same (make_var ty x) e = refl
    value_same (make_bool ty b) e = refl
    value_same (make_int ty z) e = refl
    value_same (make_prim ty name) e = refl
    value_same (make_let ty defs body) e = value_same body (lets_under p m picks.first defs e) ∙ ap (value_under p m picks.second body) (lets_same defs e)

    values_same : (xs : TypedExprs) (e : SitedVars) → values_under p m picks.first xs e ≡ values_under p m picks.second xs e
    values_same no_typed_expr e = refl
    values_same (typed_expr_and x xs) e = grind (arith, common_steps, value_same x e, values_same xs e)

    lets_same : (xs : TypedLets) (e : SitedVars) → lets_under p m picks.first xs e ≡ lets_under p m picks.second xs e
    lets_same no_typed_let e = refl
    lets_same (typed_let_and x ty value rest) e = grind (arith, common_steps, lets_same rest, value_same value e)

  -- 5. left sides
  args_same : (i : ℕ) (qs : List TypedPattern) (vs : List Value) (e : SitedVars) → args_hold_under p m picks.first i qs vs e ≡ args_hold_under p m picks.second i qs vs e
  args_same i [] [] e = refl
  args_same i [] (v ∷ vs) e = refl
  args_same i (q ∷ qs) [] e = refl
  args_same i (q ∷ qs) (v ∷ vs) e = λ j. then_option (holds_same q (argument i) v e j) (λ e'. args_same (suc i) qs vs e' j)

  iflets_same : (is : List TypedIfLet) (e : SitedVars) → iflets_hold_under p m picks.first is e ≡ iflets_hold_under p m picks.second is e
  iflets_same [] e = refl
  iflets_same (i ∷ is) e =
      λ j. then_option (value_same i.rhs e j) (λ v. then_option (holds_same i.lhs (expr_site p i.rhs e 0) v e j) (λ e'. iflets_same is e' j))

  -- 6. right sides
  impure_same : (multi : Bool) (t : ℕ) (ss : SiteTerms) (vs : Option Values) (calls : List Call) → impure_under multi m picks.first t ss vs calls ≡ impure_under multi m picks.second t ss vs calls
  impure_same multi t ss vs calls = grind (arith, common_steps, taken_same)

  apply_same : (kd : Kind) (t : ℕ) (ss : SiteTerms) (a : EvalAll) → apply_under kd m picks.first t ss a ≡ apply_under kd m picks.second t ss a
  apply_same kd t ss a = grind (arith, common_steps, term_same, impure_same)

  mutual
    eval_same : (x : TypedExpr) (e : SitedVars) (calls : List Call) → eval_under p m picks.first x e calls ≡ eval_under p m picks.second x e calls
    eval_same (make_term ty t args) e calls = grind (arith, common_steps, eval_all_same args e calls, apply_same)
    eval_same (make_var ty x) e calls = refl
    eval_same (make_bool ty b) e calls = refl
    eval_same (make_int ty z) e calls = refl
    eval_same (make_prim ty name) e calls = refl
    eval_same (make_let ty defs body) e calls = λ j. then_sited_body (eval_lets_same defs e calls j) (λ e' calls'. eval_same body e' calls' j)

    eval_all_same : (xs : TypedExprs) (e : SitedVars) (calls : List Call) → eval_all_under p m picks.first xs e calls ≡ eval_all_under p m picks.second xs e calls
    eval_all_same no_typed_expr e calls = refl
    eval_all_same (typed_expr_and x xs) e calls = λ j. then_rest (eval_same x e calls j) (λ calls'. eval_all_same xs e calls' j)

    eval_lets_same : (xs : TypedLets) (e : SitedVars) (calls : List Call) → eval_lets_under p m picks.first xs e calls ≡ eval_lets_under p m picks.second xs e calls
    eval_lets_same no_typed_let e calls = refl
    eval_lets_same (typed_let_and x ty value rest) e calls = grind (arith, common_steps, eval_same value e calls, eval_lets_same rest)

  -- 7. rules
  pub matching_same : (r : TypedRule) (args : List Value) → matches_under p m picks.first r args ≡ matches_under p m picks.second r args
  matching_same r args = λ j. then_option (args_same 0 r.args args [] j) (λ e. iflets_same r.iflets e j)

  pub ends_same : (r : TypedRule) (e : SitedVars) → right_side_under p m picks.first r e ≡ right_side_under p m picks.second r e
  ends_same r e = ap (outcome_of (is_partial p r.root_term)) (eval_same r.rhs e [])

pub only_places_matter_lem : OnlyPlacesMatter
only_places_matter_lem p m args r k l g =
    let picks : PicksAlike = record { first = k; second = l; same = g } in
    record { contents = content_same m k l g args; matching = matching_same p m picks r args; ends = ends_same p m picks r }
