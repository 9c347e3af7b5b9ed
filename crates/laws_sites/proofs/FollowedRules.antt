-- A visitor that follows the visitor of sites follows it through a rule that hangs together.
use Rattle.std.proofs.Common.{◌≡◌, ℕ, suc, ◌==◌, true, List, [], ◌∷◌, Option, Some, slice_get, Result, Ok, Err, subst, arith}
use Rattle.std.specs.Prelude.{MatchResult}
use Rattle.std.proofs.lemmas.Grind.{common_steps}
use Rattle.model.specs.lists.Formed.{pattern_type, formed_pattern, formed_list, formed_iflets, is_formed_expr}
use Rattle.model.specs.rules.Outcome.{then_option}
use Rattle.model.specs.rules.Program.{Program}
use Rattle.model.specs.rules.Typed.{TypedPattern, TypedExpr, TypedIfLet}
use Rattle.model.specs.sites.Sites.{SiteTerm, argument}
use Rattle.model.specs.visits.Demands.{Visit, visit_start, taking_argument, asking_all, unwraps, visit_pattern, visit_expr, visit_args, visit_iflets, value_of_rule}
use Rattle.model.specs.visits.Runs.{BoundIds, and_then}
use Rattle.model.specs.visits.Visitors.{PatternSteps, ExprSteps, RuleSteps}
use Rattle.model.specs.visits.PatternRuns.{PatternRun}
use Rattle.model.specs.visits.ExprRuns.{entry_arg_types}
use Rattle.model.specs.visits.RuleRuns.{lent_binding, PatternCall, ValueRun, ArgsRun, IfLetsRun}
use Rattle.model.proofs.Elements.{none_some, some_is}
use Rattle.model.proofs.Options.{then_some}
use Rattle.laws_sites.specs.VisitLaws.{Continues}
use Rattle.laws_sites.proofs.SameExprs.{expr_keeps}
use Rattle.laws_sites.proofs.Continued.{continues_now, tests_continue, values_continue}
use Rattle.laws_sites.proofs.VisitInvariants.{args_kept, asking_kept, expr_kept, iflets_kept, pattern_kept}
use Rattle.laws_sites.proofs.RuleParts.{rule_parts, iflet_parts}
use Rattle.laws_sites.proofs.AskedSites.{asked_binds}
use Rattle.laws_typing.proofs.FormedParts.{from_if}
use Rattle.laws_sites.specs.Followers.{Follower, Goes, Gives, FollowsSites, VisitsFollow}
use Rattle.laws_sites.proofs.AskedNothingElse.{IsQuiet, IsPlain, quiet_kept, asks_nothing_else}
use Rattle.laws_sites.proofs.WithSites.{IsAt, answers_past, argument_given, expr_given, pattern_past}
use Rattle.laws_sites.proofs.FittingPatterns.{formed_fits}
use Rattle.laws_sites.proofs.FollowedExprs.{expr_follows, gives_further}
use Rattle.laws_sites.proofs.FollowedPatterns.{pattern_follows}
use Rattle.laws_sites.proofs.KnownVars.{InScope, KnowsVars, by_and_then, goes_further, goes_nowhere, knows_on, knows_stay}
use Rattle.laws_sites.proofs.LentVisits.{pattern_called, value_called}
use Rattle.laws_sites.proofs.ScopeOfPatterns.{scope_after}

module _ {F S N : Type 0} (o : Follower F S N) (want : Option F) (p : Program) where
  -- 1. where a visitor goes, with variables that can be used
  record Arrives (s t : S) (w : Visit) (more : List (ℕ × ℕ)) (vs : BoundIds N) : Type 0 where
    goes : Goes o s t w
    knows : KnowsVars o t vs w
    scope : InScope vs more
    quiet : IsAt (IsQuiet p) (IsPlain p) w

  -- or it ends on the way
  abbrev ArrivesOr : S → Result (BoundIds N) F → S → Visit → List (ℕ × ℕ) → Type 0
  ArrivesOr s r t w more = MatchResult r (Arrives s t w more) (λ e. o.Ends t w e)

  arrives_further : (s m : S) (r : Result (BoundIds N) F) (t : S) (v w : Visit) (more : List (ℕ × ℕ)) → Goes o s m v → ArrivesOr m r t w more → ArrivesOr s r t w more
  arrives_further s m r t v w more g h = grind (arith, common_steps, goes_further)

  module _ (rules : RuleSteps F S S S N N N) (patterns : PatternSteps F S N) (exprs : ExprSteps F S N) (f : FollowsSites o want rules patterns exprs) where
    -- 2. a pattern, and an expression
    pattern_lent : (q : TypedPattern) (u : SiteTerm) (n : N) (vs : BoundIds N) (vars more : List (ℕ × ℕ)) (s : S) (r : Result (BoundIds N) F) (t : S) (w : Visit) → formed_pattern p q vars ≡ Some more
        → lent_binding (PatternRun want patterns p.terms q n) vs s r t → Arrives s s w vars vs → o.Names s u n → IsPlain p w.demands u → ArrivesOr s r t (visit_pattern p q u w) more
    pattern_lent q u n vs vars more s (Ok ws) t w formed run h named plain =
        let a = pattern_follows o want f.ends patterns f.in_patterns p q n (s, vs) (Ok tt) (t, ws) w u (formed_fits p q vars more formed) run h.goes.stands h.knows named in
        record { goes = a.goes; knows = a.knows; scope = scope_after want patterns p q n (s, vs) (t, ws) vars more formed run h.scope; quiet = (pattern_past p (IsQuiet p) (IsPlain p) (quiet_kept p) q u w h.quiet plain).at }
    pattern_lent q u n vs vars more s (Err e) t w formed run h named plain =
        pattern_follows o want f.ends patterns f.in_patterns p q n (s, vs) (Err e) (t, run.0) w u (formed_fits p q vars more formed) run.1 h.goes.stands h.knows named

    pattern_arrives : (q : TypedPattern) (u : SiteTerm) (n : N) (vs : BoundIds N) (vars more : List (ℕ × ℕ)) (s : S) (r : Result (BoundIds N) F) (t : S) (w : Visit) → formed_pattern p q vars ≡ Some more
        → PatternCall want rules patterns exprs p.terms q n vs s r t → Arrives s s w vars vs → o.Names s u n → IsPlain p w.demands u → ArrivesOr s r t (visit_pattern p q u w) more
    pattern_arrives q u n vs vars more s r t w formed run h named plain = grind (arith, common_steps, pattern_lent, pattern_called)

    value_follows : (x : TypedExpr) (vs : BoundIds N) (vars : List (ℕ × ℕ)) (s : S) (r : Result N F) (t : S) (w : Visit) → is_formed_expr p x vars ≡ true → ValueRun want rules patterns exprs p.terms x vs s r t
        → Arrives s s w vars vs → Gives o s r t (visit_expr p x w)
    value_follows x vs vars s r t w formed run h =
        value_called o want rules f.in_rules patterns exprs p.terms x vs s r t (λ z. Gives o s z t (visit_expr p x w))
        (λ z part. expr_follows o want f.ends exprs f.in_exprs p x vs vars s z t w formed part h.goes.stands h.knows h.scope) (λ e refused. f.ends.refused t (visit_expr p x w).visit e refused) run

    -- 3. the arguments
    args_arrive : (qs : List TypedPattern) (tys : List ℕ) (i : ℕ) (vs : BoundIds N) (vars more : List (ℕ × ℕ)) (s : S) (r : Result (BoundIds N) F) (t : S) (w : Visit) → formed_list p qs tys vars ≡ Some more
        → ArgsRun want rules patterns exprs p.terms qs tys i vs s r t → Arrives s s w vars vs → ArrivesOr s r t (visit_args p i qs w) more
    args_arrive [] [] i vs vars more s r t w formed run h = grind (arith, common_steps, some_is)
    args_arrive [] (ty ∷ tys) i vs vars more s r t w formed run h = absurd run
    args_arrive (q ∷ qs) [] i vs vars more s r t w formed run h = absurd run
    args_arrive (q ∷ qs) (ty ∷ tys) i vs vars more s r t w formed run h =
        let a = from_if (pattern_type q == ty) (then_option (formed_pattern p q vars) (λ mid. formed_list p qs tys mid)) more formed in
        let b = then_some (formed_pattern p q vars) (λ mid. formed_list p qs tys mid) more a.1 in
        let u = taking_argument i w in
        let still = argument_given p (IsQuiet p) (IsPlain p) (quiet_kept p) i w h.quiet in
        let mid = visit_pattern p q (argument i) u in
        let last = visit_args p (suc i) qs mid in
        by_and_then (λ x y z. rules.arg_steps x i ty y z) (λ input. and_then (PatternCall want rules patterns exprs p.terms q input vs) (λ ws. ArgsRun want rules patterns exprs p.terms qs tys (suc i) ws)) s r t (λ z. ArrivesOr s z t last more)
        (λ input m step later.
        let taken = f.in_rules.arg s w i ty (Ok input) m h.goes.stands step in
        let here : Arrives m m u vars vs = grind (arith, common_steps, goes_nowhere o m u taken.0.stands, knows_stay o s m vs w u (λ i. w.vars) taken.0 h.knows) in
        by_and_then (PatternCall want rules patterns exprs p.terms q input vs) (λ ws. ArgsRun want rules patterns exprs p.terms qs tys (suc i) ws) m r t (λ z. ArrivesOr s z t last more)
        (λ ws k call others.
        let first = pattern_arrives q (argument i) input vs vars b.0 m (Ok ws) k u b.1 call here taken.1 still.site in
        arrives_further s k r t mid last more (goes_further o s m k u mid taken.0 first.goes)
        (args_arrive qs tys (suc i) ws b.0 more k r t mid b.2 others (record { goes = goes_nowhere o k mid first.goes.stands; knows = first.knows; scope = first.scope; quiet = first.quiet })))
        (λ e call.
        f.ends.further t mid last e (args_kept p (Continues mid) (tests_continue p mid) (values_continue p mid).made (suc i) qs mid (continues_now mid))
        (pattern_arrives q (argument i) input vs vars b.0 m (Err e) t u b.1 call here taken.1 still.site)) later)
        (λ e step.
        f.ends.further t u last e (args_kept p (Continues u) (tests_continue p u) (values_continue p u).made (suc i) qs mid (pattern_kept p (Continues u) (tests_continue p u) q (argument i) u (continues_now u)))
        (f.in_rules.arg s w i ty (Err e) t h.goes.stands step)) run

    -- 4. the if-lets
    iflets_arrive : (is : List TypedIfLet) (vs : BoundIds N) (vars more : List (ℕ × ℕ)) (s : S) (r : Result (BoundIds N) F) (t : S) (w : Visit) → formed_iflets p is vars ≡ Some more
        → IfLetsRun want rules patterns exprs p.terms is vs s r t → Arrives s s w vars vs → ArrivesOr s r t (visit_iflets p is w) more
    iflets_arrive [] vs vars more s r t w formed run h = grind (arith, common_steps, some_is)
    iflets_arrive (i ∷ is) vs vars more s r t w formed run h =
        let g = iflet_parts p i is vars more formed in
        let a = visit_expr p i.rhs w in
        let still = expr_given p (IsQuiet p) (IsPlain p) (quiet_kept p) i.rhs w h.quiet in
        let u = asking_all (unwraps a.site) a.visit in
        let mid = visit_pattern p i.lhs a.site u in
        let last = visit_iflets p is mid in
        by_and_then (ValueRun want rules patterns exprs p.terms i.rhs vs)
        (λ value. and_then (λ x y z. rules.expr_as_pattern_steps x value y z) (λ input. and_then (PatternCall want rules patterns exprs p.terms i.lhs input vs) (λ ws. IfLetsRun want rules patterns exprs p.terms is ws))) s r t
        (λ z. ArrivesOr s z t last more)
        (λ value m step later.
        let first = value_follows i.rhs vs vars s (Ok value) m w g.value step h in
        let nothing = asks_nothing_else p a.visit a.site still.past.at.holds still.site in
        by_and_then (λ x y z. rules.expr_as_pattern_steps x value y z) (λ input. and_then (PatternCall want rules patterns exprs p.terms i.lhs input vs) (λ ws. IfLetsRun want rules patterns exprs p.terms is ws)) m r t
        (λ z. ArrivesOr s z t last more)
        (λ input k asked others.
        let second = f.in_rules.expr_as_pattern m a.visit a.site value (Ok input) k first.0.stands first.1 nothing asked in
        let there = goes_further o s m k a.visit u first.0 second.0 in
        let known = knows_stay o m k vs a.visit u (asked_binds (unwraps a.site) a.visit) second.0 (knows_on o s m vs vars w a.visit h.scope (expr_keeps p i.rhs w vars g.value) first.0 h.knows) in
        let here : Arrives k k u vars vs = record { goes = goes_nowhere o k u second.0.stands; knows = known; scope = h.scope; quiet = (answers_past p (IsQuiet p) (IsPlain p) (quiet_kept p) a.site a.visit still.past.at still.site).at } in
        by_and_then (PatternCall want rules patterns exprs p.terms i.lhs input vs) (λ ws. IfLetsRun want rules patterns exprs p.terms is ws) k r t (λ z. ArrivesOr s z t last more)
        (λ ws l call rest.
        let third = pattern_arrives i.lhs a.site input vs vars g.mid k (Ok ws) l u g.pattern call here second.1 still.site in
        arrives_further s l r t mid last more (goes_further o s k l u mid there third.goes)
        (iflets_arrive is ws g.mid more l r t mid g.rest rest (record { goes = goes_nowhere o l mid third.goes.stands; knows = third.knows; scope = third.scope; quiet = third.quiet })))
        (λ e call.
        f.ends.further t mid last e (iflets_kept p (Continues mid) (tests_continue p mid) (values_continue p mid) is mid (continues_now mid))
        (pattern_arrives i.lhs a.site input vs vars g.mid k (Err e) t u g.pattern call here second.1 still.site)) others)
        (λ e asked.
        f.ends.further t u last e (iflets_kept p (Continues u) (tests_continue p u) (values_continue p u) is mid (pattern_kept p (Continues u) (tests_continue p u) i.lhs a.site u (continues_now u)))
        (f.in_rules.expr_as_pattern m a.visit a.site value (Err e) t first.0.stands first.1 nothing asked)) later)
        (λ e step.
        let c = tests_continue p a.visit in
        f.ends.further t a.visit last e
        (iflets_kept p (Continues a.visit) c (values_continue p a.visit) is mid
        (pattern_kept p (Continues a.visit) c i.lhs a.site u (asking_kept p (Continues a.visit) c (unwraps a.site) a.visit (continues_now a.visit))))
        (value_follows i.rhs vs vars s (Err e) t w g.value step h)) run

-- 5. a rule
pub visits_follow_lem : VisitsFollow
visits_follow_lem F S N o want rules patterns exprs f p r s a t formed h run =
    let g = rule_parts p r formed in
    let u = visit_args p 0 r.args visit_start in
    let w = visit_iflets p r.iflets u in
    let last = value_of_rule p r in
    let start : Arrives o want p s s visit_start [] [] = record { goes = goes_nowhere o s visit_start h; knows = λ x n e. absurd (none_some n e); scope = λ x n e. absurd (none_some n e); quiet = record { holds = λ e i. absurd i; vars = λ e i. absurd i } } in
    by_and_then (ArgsRun want rules patterns exprs p.terms r.args (entry_arg_types (slice_get p.terms r.root_term)) 0 [])
    (λ vs. and_then (IfLetsRun want rules patterns exprs p.terms r.iflets vs) (λ ws. ValueRun want rules patterns exprs p.terms r.rhs ws)) s a t (λ z. Gives o s z t last)
    (λ vs m step later.
    let first = args_arrive o want p rules patterns exprs f r.args g.entry.arg_tys 0 [] [] g.mid s (Ok vs) m visit_start g.args
    (subst (λ e. ArgsRun want rules patterns exprs p.terms r.args (entry_arg_types e) 0 [] s (Ok vs) m) g.there step) start in
    let here : Arrives o want p m m u g.mid vs = record { goes = goes_nowhere o m u first.goes.stands; knows = first.knows; scope = first.scope; quiet = first.quiet } in
    by_and_then (IfLetsRun want rules patterns exprs p.terms r.iflets vs) (λ ws. ValueRun want rules patterns exprs p.terms r.rhs ws) m a t (λ z. Gives o s z t last)
    (λ ws k others value.
    let second = iflets_arrive o want p rules patterns exprs f r.iflets vs g.mid g.vars m (Ok ws) k u g.iflets others here in
    let there : Arrives o want p k k w g.vars ws = record { goes = goes_nowhere o k w second.goes.stands; knows = second.knows; scope = second.scope; quiet = second.quiet } in
    gives_further o want f.ends s k a t w last (goes_further o s m k u w first.goes second.goes) (value_follows o want p rules patterns exprs f r.rhs ws g.vars k a t w g.right value there))
    (λ e others.
    f.ends.further t w last.visit e (expr_kept p (Continues w) (values_continue p w) r.rhs w (continues_now w)) (iflets_arrive o want p rules patterns exprs f r.iflets vs g.mid g.vars m (Err e) t u g.iflets others here)) later)
    (λ e step.
    f.ends.further t u last.visit e (expr_kept p (Continues u) (values_continue p u) r.rhs w (iflets_kept p (Continues u) (tests_continue p u) (values_continue p u) r.iflets u (continues_now u)))
    (grind (arith, common_steps, args_arrive o want p rules patterns exprs f r.args g.entry.arg_tys 0 [] [] g.mid s (Err e) t visit_start g.args))) run
