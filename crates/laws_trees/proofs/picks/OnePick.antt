-- A rule without multi calls has the empty pick alone, and its bag is its plain result.
use Rattle.std.proofs.Common.{◌≡◌, ℕ, suc, Bool, false, List, [], ◌∷◌, Option, refl, ap, ◌∙◌, arith}
use Rattle.std.proofs.lemmas.List.{append-nil}
use Rattle.std.proofs.lemmas.Grind.{common_steps}
use Rattle.model.specs.rules.Meaning.{Meaning}
use Rattle.model.specs.rules.Program.{Program, Kind, flags_of, kind}
use Rattle.model.specs.rules.Choice.{with_vars}
use Rattle.model.specs.sites.Sites.{is_present, SiteTerm, argument}
use Rattle.model.specs.visits.Demands.{site_term_eq, Visit, asking, binding, var_site, open_term, visit_pattern, visit_each, visit_all, Valued, ValuedAll, visit_term, visit_expr, visit_exprs, visit_lets, asking_all, visit_args, visit_iflets, finished, demands_of, with_sites, taking_argument}
use Rattle.model.specs.rules.Picks.{multi_calls, SitedVars, results_with}
use Rattle.model.specs.rules.Typed.{TypedPattern, match_bind, match_var, match_bool, match_int, match_prim, match_term, match_any, match_and, TypedPatterns, no_typed_pattern, typed_pattern_and, TypedExpr, make_term, make_var, make_bool, make_int, make_prim, make_let, TypedExprs, no_typed_expr, typed_expr_and, TypedLets, no_typed_let, typed_let_and, TypedIfLet, TypedRule}
use Rattle.model.specs.rules.CallsNoMulti.{WhereKnown, PatternCallsNoMulti, PatternsCallNoMulti, ExprCallsNoMulti, ExprsCallNoMulti, LetsCallNoMulti, ArgsCallNoMulti, IfLetsCallNoMulti, CallsNoMulti}
use Rattle.laws_trees.specs.WithoutMulti.{without_sites, BagAsPlain}
use Rattle.laws_trees.proofs.picks.VisitOrder.{met}
use Rattle.laws_trees.proofs.picks.PlainMatching.{matches_as_plain_lem, ends_as_plain_lem}
use Rattle.model.proofs.Either.{either}

-- 1. what isn't multi isn't gone over
term_opened : (k : Kind) (t : ℕ) (s : SiteTerm) (args : TypedPatterns) (v : Visit) → (flags_of k).multi ≡ false → met (open_term k t s args v).visit ≡ met v
term_opened k t s args v e = grind (arith, common_steps)

term_visited : (k : Kind) (t : ℕ) (a : ValuedAll) → (flags_of k).multi ≡ false → met (visit_term k t a).visit ≡ met a.visit
term_visited k t a e = grind (arith, common_steps)

pub asking_met : (ss : List SiteTerm) (v : Visit) → met (asking_all ss v) ≡ met v
asking_met [] v = refl
asking_met (s ∷ ss) v = asking_met ss (asking s is_present v)

-- 2. visits
module _ (p : Program) where
  parts_met : (kd : Kind) (t : ℕ) (s : SiteTerm) (args : TypedPatterns) (v : Visit) → WhereKnown kd (PatternsCallNoMulti p args)
      → ((ss : List SiteTerm) (w : Visit) → PatternsCallNoMulti p args → met (visit_each p args ss w) ≡ met w)
      → met (visit_each p args (open_term kd t s args v).inputs (open_term kd t s args v).visit) ≡ met (open_term kd t s args v).visit
  parts_met kd t s args v h ih = grind (arith, common_steps)

  mutual
    pattern_met : (q : TypedPattern) (s : SiteTerm) (v : Visit) → PatternCallsNoMulti p q → met (visit_pattern p q s v) ≡ met v
    pattern_met (match_bind ty x sub) s v h = pattern_met sub s (binding x s v) h
    pattern_met (match_var ty x) s v h = either (λ (w : Visit). met w ≡ met v) (site_term_eq s (var_site v x)) v _ refl refl
    pattern_met (match_bool ty b) s v h = refl
    pattern_met (match_int ty z) s v h = refl
    pattern_met (match_prim ty name) s v h = refl
    pattern_met (match_term ty t args) s v h = grind (arith, common_steps, each_met args, parts_met, term_opened)
    pattern_met (match_any ty) s v h = refl
    pattern_met (match_and ty subs) s v h = all_met subs s v h

    each_met : (qs : TypedPatterns) (ss : List SiteTerm) (v : Visit) → PatternsCallNoMulti p qs → met (visit_each p qs ss v) ≡ met v
    each_met no_typed_pattern ss v h = refl
    each_met (typed_pattern_and q qs) [] v h = refl
    each_met (typed_pattern_and q qs) (s ∷ ss) v h = each_met qs ss (visit_pattern p q s v) h.1 ∙ pattern_met q s v h.0

    all_met : (qs : TypedPatterns) (s : SiteTerm) (v : Visit) → PatternsCallNoMulti p qs → met (visit_all p qs s v) ≡ met v
    all_met no_typed_pattern s v h = refl
    all_met (typed_pattern_and q qs) s v h = all_met qs s (visit_pattern p q s v) h.1 ∙ pattern_met q s v h.0

  mutual
    expr_met : (x : TypedExpr) (v : Visit) → ExprCallsNoMulti p x → met (visit_expr p x v).visit ≡ met v
    expr_met (make_term ty t args) v h = term_visited (kind p t) t (visit_exprs p args v) h.0 ∙ exprs_met args v h.1
    expr_met (make_var ty x) v h = refl
    expr_met (make_bool ty b) v h = refl
    expr_met (make_int ty z) v h = refl
    expr_met (make_prim ty name) v h = refl
    expr_met (make_let ty defs body) v h = expr_met body (visit_lets p defs v) h.1 ∙ lets_met defs v h.0

    exprs_met : (xs : TypedExprs) (v : Visit) → ExprsCallNoMulti p xs → met (visit_exprs p xs v).visit ≡ met v
    exprs_met no_typed_expr v h = refl
    exprs_met (typed_expr_and x xs) v h = exprs_met xs (visit_expr p x v).visit h.1 ∙ expr_met x v h.0

    lets_met : (xs : TypedLets) (v : Visit) → LetsCallNoMulti p xs → met (visit_lets p xs v) ≡ met v
    lets_met no_typed_let v h = refl
    lets_met (typed_let_and x ty value rest) v h = grind (arith, common_steps, lets_met rest, expr_met value v h.0)

  args_met : (i : ℕ) (qs : List TypedPattern) (v : Visit) → ArgsCallNoMulti p qs → met (visit_args p i qs v) ≡ met v
  args_met i [] v h = refl
  args_met i (q ∷ qs) v h = grind (arith, common_steps, args_met (suc i) qs (visit_pattern p q (argument i) (taking_argument i v)) h.1, pattern_met)

  iflets_met : (is : List TypedIfLet) (v : Visit) → IfLetsCallNoMulti p is → met (visit_iflets p is v) ≡ met v
  iflets_met [] v h = refl
  iflets_met (i ∷ rest) v h = grind (arith, common_steps, iflets_met rest, pattern_met, asking_met, expr_met)

  pub finished_met : (b : Bool) (a : Valued) → met (finished b a).visit ≡ met a.visit
  finished_met b a = grind (arith, common_steps)

  pub no_iterators : (r : TypedRule) → CallsNoMulti p r → (demands_of p r).iterators ≡ []
  no_iterators r h = grind (arith, common_steps, finished_met, expr_met, iflets_met, args_met)

  no_calls : (r : TypedRule) → CallsNoMulti p r → multi_calls p r ≡ []
  no_calls r h = ap (with_sites []) (no_iterators r h)

-- 3. the bag
results_plain : (p : Program) (m : Meaning) (r : TypedRule) (o : Option SitedVars) → CallsNoMulti p r → results_with p m [] r o ≡ (with_vars p m r (without_sites o)).results
results_plain p m r o h = grind (arith, common_steps, ends_as_plain_lem)

pub bag_as_plain_lem : BagAsPlain
bag_as_plain_lem p m args r h = grind (arith, common_steps, no_calls, append-nil, results_plain, matches_as_plain_lem)
