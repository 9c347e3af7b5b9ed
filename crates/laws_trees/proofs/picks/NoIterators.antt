-- A rule whose demands go over no call has no multi calls.
use Rattle.std.proofs.Common.{◌≡◌, ℕ, suc, false, List, [], ◌∷◌, length, arith}
use Rattle.std.proofs.lemmas.Grind.{common_steps}
use Rattle.model.specs.rules.Program.{Program, Kind, flags_of}
use Rattle.model.specs.sites.Sites.{SiteTerm, argument}
use Rattle.model.specs.visits.Demands.{site_term_eq, pattern_count, Visit, binding, var_site, open_term, visit_pattern, visit_each, visit_all, ValuedAll, visit_term, visit_expr, visit_exprs, visit_lets, visit_args, visit_iflets, demands_of, taking_argument}
use Rattle.model.specs.rules.Typed.{TypedPattern, match_bind, match_var, match_bool, match_int, match_prim, match_term, match_any, match_and, TypedPatterns, no_typed_pattern, typed_pattern_and, TypedExpr, make_term, make_var, make_bool, make_int, make_prim, make_let, TypedExprs, no_typed_expr, typed_expr_and, TypedLets, no_typed_let, typed_let_and, TypedIfLet, TypedRule}
use Rattle.model.specs.rules.CallsNoMulti.{WhereKnown, PatternCallsNoMulti, PatternsCallNoMulti, ExprCallsNoMulti, ExprsCallNoMulti, LetsCallNoMulti, ArgsCallNoMulti, IfLetsCallNoMulti, CallsNoMulti}
use Rattle.laws_trees.proofs.picks.VisitOrder.{met}
use Rattle.laws_trees.proofs.picks.PlainMatching.{fields_count, output_count, either_count}
use Rattle.laws_trees.proofs.picks.OnePick.{asking_met, finished_met}
use Rattle.model.proofs.Either.{either}

-- 1. a call that is gone over stays in the list

term_opened_none : (k : Kind) (t : ℕ) (s : SiteTerm) (args : TypedPatterns) (v : Visit) → met (open_term k t s args v).visit ≡ [] → (met v ≡ []) × ((flags_of k).multi ≡ false)
term_opened_none k t s args v h = grind (arith, common_steps)

term_visited_none : (k : Kind) (t : ℕ) (a : ValuedAll) → met (visit_term k t a).visit ≡ [] → (met a.visit ≡ []) × ((flags_of k).multi ≡ false)
term_visited_none k t a h = grind (arith, common_steps)

-- 2. visits
module _ (p : Program) where
  parts_none : (kd : Kind) (t : ℕ) (s : SiteTerm) (args : TypedPatterns) (v : Visit)
      → ((ss : List SiteTerm) (w : Visit) → length ss ≡ pattern_count args → met (visit_each p args ss w) ≡ [] → (met w ≡ []) × PatternsCallNoMulti p args)
      → met (visit_each p args (open_term kd t s args v).inputs (open_term kd t s args v).visit) ≡ []
      → (met (open_term kd t s args v).visit ≡ []) × WhereKnown kd (PatternsCallNoMulti p args)
  parts_none kd t s args v ih h = grind (arith, common_steps, fields_count, either_count, output_count)

  mutual
    pattern_none : (q : TypedPattern) (s : SiteTerm) (v : Visit) → met (visit_pattern p q s v) ≡ [] → (met v ≡ []) × PatternCallsNoMulti p q
    pattern_none (match_bind ty x sub) s v h = pattern_none sub s (binding x s v) h
    pattern_none (match_var ty x) s v h = (either (λ (w : Visit). met w ≡ [] → met v ≡ []) (site_term_eq s (var_site v x)) v _ (λ e. e) (λ e. e) h, tt)
    pattern_none (match_bool ty b) s v h = (h, tt)
    pattern_none (match_int ty z) s v h = (h, tt)
    pattern_none (match_prim ty name) s v h = (h, tt)
    pattern_none (match_term ty t args) s v h = grind (arith, common_steps, each_none args, parts_none, term_opened_none)
    pattern_none (match_any ty) s v h = (h, tt)
    pattern_none (match_and ty subs) s v h = all_none subs s v h

    each_none : (qs : TypedPatterns) (ss : List SiteTerm) (v : Visit) → length ss ≡ pattern_count qs → met (visit_each p qs ss v) ≡ [] → (met v ≡ []) × PatternsCallNoMulti p qs
    each_none no_typed_pattern ss v n h = (h, tt)
    each_none (typed_pattern_and q qs) [] v n h = absurd (omega (arith, n))
    each_none (typed_pattern_and q qs) (s ∷ ss) v n h = grind (arith, common_steps, each_none qs ss (visit_pattern p q s v), pattern_none q s v)

    all_none : (qs : TypedPatterns) (s : SiteTerm) (v : Visit) → met (visit_all p qs s v) ≡ [] → (met v ≡ []) × PatternsCallNoMulti p qs
    all_none no_typed_pattern s v h = (h, tt)
    all_none (typed_pattern_and q qs) s v h = grind (arith, common_steps, all_none qs s (visit_pattern p q s v) h, pattern_none q s v)

  mutual
    expr_none : (x : TypedExpr) (v : Visit) → met (visit_expr p x v).visit ≡ [] → (met v ≡ []) × ExprCallsNoMulti p x
    expr_none (make_term ty t args) v h = grind (arith, common_steps, exprs_none args v, term_visited_none)
    expr_none (make_var ty x) v h = (h, tt)
    expr_none (make_bool ty b) v h = (h, tt)
    expr_none (make_int ty z) v h = (h, tt)
    expr_none (make_prim ty name) v h = (h, tt)
    expr_none (make_let ty defs body) v h = grind (arith, common_steps, expr_none body (visit_lets p defs v) h, lets_none defs v)

    exprs_none : (xs : TypedExprs) (v : Visit) → met (visit_exprs p xs v).visit ≡ [] → (met v ≡ []) × ExprsCallNoMulti p xs
    exprs_none no_typed_expr v h = (h, tt)
    exprs_none (typed_expr_and x xs) v h =
        let a = exprs_none xs (visit_expr p x v).visit h in
        let b = expr_none x v a.0 in
        (b.0, (b.1, a.1))

    lets_none : (xs : TypedLets) (v : Visit) → met (visit_lets p xs v) ≡ [] → (met v ≡ []) × LetsCallNoMulti p xs
    lets_none no_typed_let v h = (h, tt)
    lets_none (typed_let_and x ty value rest) v h = grind (arith, common_steps, lets_none rest, expr_none value v)

  args_none : (i : ℕ) (qs : List TypedPattern) (v : Visit) → met (visit_args p i qs v) ≡ [] → (met v ≡ []) × ArgsCallNoMulti p qs
  args_none i [] v h = (h, tt)
  args_none i (q ∷ qs) v h = grind (arith, common_steps, args_none (suc i) qs (visit_pattern p q (argument i) (taking_argument i v)) h, pattern_none)

  iflets_none : (is : List TypedIfLet) (v : Visit) → met (visit_iflets p is v) ≡ [] → (met v ≡ []) × IfLetsCallNoMulti p is
  iflets_none [] v h = (h, tt)
  iflets_none (i ∷ rest) v h = grind (arith, common_steps, iflets_none rest, pattern_none, expr_none, asking_met)

  pub calls_no_multi : (r : TypedRule) → (demands_of p r).iterators ≡ [] → CallsNoMulti p r
  calls_no_multi r h = grind (arith, common_steps, expr_none, finished_met, iflets_none, args_none)
