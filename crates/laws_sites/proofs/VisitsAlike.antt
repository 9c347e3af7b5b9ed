-- Visits from one place, whatever was demanded before: they meet the same sites, and go over the same calls.
use Rattle.std.proofs.Common.{◌≡◌, ◌⊎◌, ℕ, suc, Bool, true, false, List, [], ◌∷◌, ◌==◌, refl, sym, ap, ap₂, arith}
use Rattle.std.proofs.lemmas.Grind.{common_steps}
use Rattle.model.specs.rules.Meaning.{look}
use Rattle.model.specs.lists.Tables.{Flags}
use Rattle.model.specs.rules.Program.{Program, Kind, a_variant, a_struct, a_call, unknown, kind}
use Rattle.model.specs.sites.Sites.{is_present, SiteTerm, constructor_call, SiteTerms}
use Rattle.model.specs.rules.Typed.{TypedPattern, match_bind, match_var, match_bool, match_int, match_prim, match_term, match_any, match_and, TypedPatterns, no_typed_pattern, typed_pattern_and, TypedExpr, make_term, make_var, make_bool, make_int, make_prim, make_let, TypedExprs, no_typed_expr, typed_expr_and, TypedLets, no_typed_let, typed_let_and}
use Rattle.model.specs.visits.Demands.{Visit, making, asking, equating, binding, or_no_site, var_site, Opened, visit_pattern, visit_each, visit_all, Valued, ValuedAll, call_result, call_sites, where_multi, visit_call, visit_term, visit_expr, visit_exprs, visit_lets, asking_all}
use Rattle.model.proofs.Elements.{In, in_left, in_right, in_either}
use Rattle.laws_sites.proofs.AskedSites.{equated}

-- two visits at one place: their variables stand for the same sites, and they met as many impure calls
pub record AreAlike (v w : Visit) : Type 0 where
  pub vars : v.vars ≡ w.vars
  pub impure_calls : v.impure_calls ≡ w.impure_calls

-- asking and equating bind nothing and call nothing
pub asked_alike : (ss : List SiteTerm) (v w : Visit) → AreAlike v w → AreAlike (asking_all ss v) w
asked_alike [] v w a = a
asked_alike (s ∷ ss) v w a = asked_alike ss (asking s is_present v) w (record { vars = a.vars; impure_calls = a.impure_calls })

pub asked_iterators : (ss : List SiteTerm) (v : Visit) → (asking_all ss v).demands.iterators ≡ v.demands.iterators
asked_iterators [] v = refl
asked_iterators (s ∷ ss) v = asked_iterators ss (asking s is_present v)

equating_alike : (s t : SiteTerm) (v w : Visit) → AreAlike v w → AreAlike (equating s t v) w
equating_alike s t v w a = grind (arith, equated)

alike_turned : (v w : Visit) → AreAlike v w → AreAlike w v
alike_turned v w a = record { vars = sym a.vars; impure_calls = sym a.impure_calls }

-- 1. patterns
-- opened alike: the same inputs
record AreOpened (o q : Opened) : Type 0 where
  inputs : o.inputs ≡ q.inputs
  after : AreAlike o.visit q.visit

module _ (p : Program) where
  mutual
    pub pattern_alike : (q : TypedPattern) (s : SiteTerm) (v w : Visit) → AreAlike v w → AreAlike (visit_pattern p q s v) (visit_pattern p q s w)
    pattern_alike (match_bind ty x sub) s v w a = pattern_alike sub s (binding x s v) (binding x s w) (grind arith)
    pattern_alike (match_var ty x) s v w a =
        equating_alike s (var_site v x) v (equating s (var_site w x) w) (alike_turned (equating s (var_site w x) w) v (equating_alike s (var_site w x) w v (alike_turned v w a)))
    pattern_alike (match_bool ty b) s v w a = record { vars = a.vars; impure_calls = a.impure_calls }
    pattern_alike (match_int ty z) s v w a = record { vars = a.vars; impure_calls = a.impure_calls }
    pattern_alike (match_prim ty name) s v w a = record { vars = a.vars; impure_calls = a.impure_calls }
    pattern_alike (match_term ty t args) s v w a = grind (arith, common_steps, each_alike args)
    pattern_alike (match_any ty) s v w a = a
    pattern_alike (match_and ty subs) s v w a = all_alike subs s v w a

    each_alike : (qs : TypedPatterns) (ss : List SiteTerm) (v w : Visit) → AreAlike v w → AreAlike (visit_each p qs ss v) (visit_each p qs ss w)
    each_alike (typed_pattern_and q qs) (s ∷ ss) v w a = each_alike qs ss (visit_pattern p q s v) (visit_pattern p q s w) (pattern_alike q s v w a)
    each_alike _ _ v w a = a

    all_alike : (qs : TypedPatterns) (s : SiteTerm) (v w : Visit) → AreAlike v w → AreAlike (visit_all p qs s v) (visit_all p qs s w)
    all_alike no_typed_pattern s v w a = a
    all_alike (typed_pattern_and q qs) s v w a = all_alike qs s (visit_pattern p q s v) (visit_pattern p q s w) (pattern_alike q s v w a)

-- 2. expressions
-- between these visits the first one goes over no other calls than the second one
pub record GoesOverSame (v v' w w' : Visit) : Type 0 where
  pub after : AreAlike v' w'
  pub calls : (u : SiteTerm) → In v'.demands.iterators u → In v.demands.iterators u ⊎ In w'.demands.iterators u
  pub kept : (u : SiteTerm) → In w.demands.iterators u → In w'.demands.iterators u

pub record AreValuedAlike (v w : Visit) (a b : Valued) : Type 0 where
  pub site : a.site ≡ b.site
  pub same : GoesOverSame v a.visit w b.visit

record AreAllAlike (v w : Visit) (a b : ValuedAll) : Type 0 where
  sites : a.sites ≡ b.sites
  same : GoesOverSame v a.visit w b.visit

-- of one call, or of equal ones
gone_alike : (flags : Flags) (c d : SiteTerm) (v w : Visit) → c ≡ d → AreAlike v w
    → GoesOverSame v (where_multi flags c (making (call_sites flags c) v)) w (where_multi flags d (making (call_sites flags d) w))
gone_alike flags c d v w e a = grind (arith, common_steps, in_either, in_right, in_left)

called_alike : (pure multi partial rec : Bool) (t : ℕ) (xs ys : SiteTerms) (v w : Visit) → xs ≡ ys → AreAlike v w
    → AreValuedAlike v w (visit_call (record { pure = pure; multi = multi; partial = partial; rec = rec }) t xs v) (visit_call (record { pure = pure; multi = multi; partial = partial; rec = rec }) t ys w)
called_alike true multi partial rec t xs ys v w e a =
    let flags : Flags = record { pure = true; multi = multi; partial = partial; rec = rec } in
    let c : constructor_call t xs 0 ≡ constructor_call t ys 0 = ap (λ zs. constructor_call t zs 0) e in
    record { site = ap (call_result flags) c; same = gone_alike flags (constructor_call t xs 0) (constructor_call t ys 0) v w c a }
called_alike false multi partial rec t xs ys v w e a =
    let flags : Flags = record { pure = false; multi = multi; partial = partial; rec = rec } in
    let c : constructor_call t xs (suc v.impure_calls) ≡ constructor_call t ys (suc w.impure_calls) = ap₂ (λ zs n. constructor_call t zs (suc n)) e a.impure_calls in
    let g = gone_alike flags (constructor_call t xs (suc v.impure_calls)) (constructor_call t ys (suc w.impure_calls)) v w c a in
    record {
      site = ap (call_result flags) c;
      same = record { after = record { vars = g.after.vars; impure_calls = ap suc g.after.impure_calls }; calls = g.calls; kept = g.kept };
    }

term_valued_alike : (k : Kind) (t : ℕ) (a b : ValuedAll) (v w : Visit) → AreAllAlike v w a b → AreValuedAlike v w (visit_term k t a) (visit_term k t b)
term_valued_alike (a_variant ty variant) t a b v w h = grind arith
term_valued_alike (a_struct ty) t a b v w h = grind arith
term_valued_alike (a_call flags infallible) t a b v w h =
    let c = called_alike flags.pure flags.multi flags.partial flags.rec t a.sites b.sites a.visit b.visit h.sites h.same.after in
    record { site = c.site; same = grind (arith, common_steps) }
term_valued_alike unknown t a b v w h = record { site = refl; same = h.same }

module _ (p : Program) where
  mutual
    pub expr_alike : (x : TypedExpr) (v w : Visit) → AreAlike v w → AreValuedAlike v w (visit_expr p x v) (visit_expr p x w)
    expr_alike (make_term ty t args) v w a = term_valued_alike (kind p t) t (visit_exprs p args v) (visit_exprs p args w) v w (exprs_alike args v w a)
    expr_alike (make_var ty x) v w a = record { site = (ap (λ vs. or_no_site (look (λ k. k == x) vs)) a.vars); same = grind arith }
    expr_alike (make_bool ty b) v w a = grind arith
    expr_alike (make_int ty z) v w a = grind arith
    expr_alike (make_prim ty name) v w a = grind arith
    expr_alike (make_let ty defs body) v w a = grind (arith, common_steps, lets_alike defs v w a, expr_alike body (visit_lets p defs v) (visit_lets p defs w))

    exprs_alike : (xs : TypedExprs) (v w : Visit) → AreAlike v w → AreAllAlike v w (visit_exprs p xs v) (visit_exprs p xs w)
    exprs_alike no_typed_expr v w a = record { sites = refl; same = grind arith }
    exprs_alike (typed_expr_and x xs) v w a = grind (arith, common_steps, expr_alike x v w a, exprs_alike xs)

    lets_alike : (ds : TypedLets) (v w : Visit) → AreAlike v w → GoesOverSame v (visit_lets p ds v) w (visit_lets p ds w)
    lets_alike no_typed_let v w a = grind arith
    lets_alike (typed_let_and x ty value rest) v w a = grind (arith, common_steps, expr_alike value v w a, lets_alike rest)
