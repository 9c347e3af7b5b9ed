-- The calls that a rule goes over: their gates are demanded, but for multi calls of if-lets whose values take no answer
-- of them.
use Rattle.std.proofs.Common.{◌≡◌, ◌⊎◌, ℕ, Bool, true, false, not, List, [], ◌∷◌, ◌++◌, Some, filter, subst, inl, inr, arith}
use Rattle.std.proofs.lemmas.Bool.{and_parts, false≢true}
use Rattle.std.proofs.lemmas.Grind.{common_steps}
use Rattle.model.specs.rules.Program.{Program, is_partial}
use Rattle.model.specs.sites.Sites.{SiteTerm}
use Rattle.model.specs.rules.Typed.{TypedIfLet, TypedRule}
use Rattle.model.specs.visits.Demands.{demands_of, result_of, Visit, visit_start, visit_pattern, Valued, visit_expr, unwraps, asking_all, visit_args, visit_iflets, finished, has_site, var_site}
use Rattle.model.specs.trees.Collects.{afresh, calls_in, iflets_need_calls}
use Rattle.model.specs.claims.SetMeanings.{calls_left, calls_left_by}
use Rattle.model.specs.lists.Formed.{is_formed_expr, formed_iflets, is_formed_rule}
use Rattle.model.proofs.Elements.{In, in_left, in_right, in_either, all_in, in_filter, filter_from, passed_filter}
use Rattle.model.specs.sites.DemandedGates.{GatesDemanded, IsPureExpr, ArePureIfLets}
use Rattle.model.proofs.SitesMade.{has_in}
use Rattle.laws_sites.proofs.VisitsAlike.{AreAlike, asked_alike, asked_iterators, pattern_alike, AreValuedAlike, expr_alike}
use Rattle.model.specs.rules.CalledTerms.{CallsAlone}
use Rattle.laws_typing.specs.WellTypedPrograms.{IsWellTypedRule}
use Rattle.laws_typing.proofs.WellTypedPrograms.{pure_iflets}
use Rattle.laws_sites.proofs.Exprs.{IsTotal, expr_valued_by, expr_valued}
use Rattle.laws_sites.proofs.Gates.{unpurified, gates_of_taken}
use Rattle.laws_sites.proofs.Patterns.{IsAfter}
use Rattle.laws_sites.proofs.RightSides.{IsSingle, expr_single, expr_quiet}
use Rattle.laws_sites.proofs.Rules.{IsPast, IfLetMet, sides_past, less_good, iflet_tested, iflet_after, iflet_past, iflets_are_past}
use Rattle.laws_sites.proofs.AskedSites.{Good, MayTest, good_stays, AreGood}
use Rattle.laws_sites.proofs.RuleParts.{iflet_parts, rule_parts}

-- 1. if-lets
iflets_calls : (p : Program) (is : List TypedIfLet) (v v' : Visit) (vars more : List (ℕ × ℕ)) → formed_iflets p is vars ≡ Some more → ArePureIfLets p is → AreGood true true vars v → AreAlike v v'
    → (u : SiteTerm) → In (visit_iflets p is v).demands.iterators u → In v.demands.iterators u ⊎ (In (calls_left p is v') u ⊎ MayTest (visit_iflets p is v) u)
iflets_calls p [] v v' vars more f h g alike u k = inl k
iflets_calls p (i ∷ is) v v' vars more f h g alike u k =
    let a = iflet_parts p i is vars more f in
    let x = visit_expr p i.rhs v in
    let y = visit_expr p i.rhs (afresh v') in
    let w = asking_all (unwraps x.site) x.visit in
    let z = visit_pattern p i.lhs x.site w in
    let z' = visit_pattern p i.lhs y.site y.visit in
    let met : IfLetMet p = record { iflet = i; visit = v; vars = vars; formed = a.value; pure = h.0; good = g } in
    let r = iflet_past p met a.mid a.pattern in
    let same : AreValuedAlike v (afresh v') x y = expr_alike p i.rhs v (afresh v') (record { vars = alike.vars; impure_calls = alike.impure_calls }) in
    let after : AreAlike z z' =
    subst (λ t. AreAlike z (visit_pattern p i.lhs t y.visit)) same.site (pattern_alike p i.lhs x.site w y.visit (asked_alike (unwraps x.site) x.visit y.visit same.same.after)) in
    in_rest p i is v v' x y same w (iflet_tested p met) a.mid (iflet_after p met a.mid a.pattern) u
    (subst (λ l. In l u) (asked_iterators (unwraps x.site) x.visit))
    (iflets_are_past p is z a.mid more a.rest h.1 r.good)
    (iflets_calls p is z z' a.mid more a.rest h.1 r.good after u k)
  where
    in_rest : (p : Program) (i : TypedIfLet) (is : List TypedIfLet) (v v' : Visit) (x y : Valued) → AreValuedAlike v (afresh v') x y
        → (w : Visit) → MayTest w x.site → (mid : List (ℕ × ℕ)) → IsAfter w (visit_pattern p i.lhs x.site w) mid → (u : SiteTerm) → (In w.demands.iterators u → In x.visit.demands.iterators u)
        → IsPast (visit_pattern p i.lhs x.site w) (visit_iflets p is (visit_pattern p i.lhs x.site w)) more
        → In (visit_pattern p i.lhs x.site w).demands.iterators u ⊎ (In (calls_left p is (visit_pattern p i.lhs y.site y.visit)) u ⊎ MayTest (visit_iflets p is (visit_pattern p i.lhs x.site w)) u)
        → In v.demands.iterators u
        ⊎ (In (filter (λ c. not (has_site (calls_in y.site) c)) y.visit.demands.iterators ++ calls_left p is (visit_pattern p i.lhs y.site y.visit)) u ⊎ MayTest (visit_iflets p is (visit_pattern p i.lhs x.site w)) u)
    in_rest p i is v v' x y same w tested mid after u before past found = grind (arith, in_right, has_in, good_stays, gates_of_taken, in_left, filter_from)

-- where values take an answer of each call, none is left
pub none_left : (p : Program) (is : List TypedIfLet) (v : Visit) (u : SiteTerm) → iflets_need_calls p is v ≡ true → In (calls_left p is v) u → ⊥
none_left p [] v u h i = i
none_left p (i ∷ is) v u h k = grind (arith, common_steps, none_left p is, and_parts, in_either, in_filter, passed_filter, all_in)

-- 2. rules
abbrev before_right : Program → TypedRule → Visit
before_right p r = visit_iflets p r.iflets (visit_args p 0 r.args visit_start)

-- what is known before the right side
record IsBeforeRight (p : Program) (r : TypedRule) : Type 0 where
  vars : List (ℕ × ℕ)
  formed : is_formed_expr p r.rhs vars ≡ true
  good : AreGood true true vars (before_right p r)
  calls : (u : SiteTerm) → In (before_right p r).demands.iterators u → In (calls_left_by p r) u ⊎ MayTest (before_right p r) u

is_before_right : (p : Program) (r : TypedRule) → is_formed_rule p r ≡ true → ArePureIfLets p r.iflets → IsBeforeRight p r
is_before_right p r f h =
    let a = rule_parts p r f in
    let u = visit_args p 0 r.args visit_start in
    let w = visit_iflets p r.iflets u in
    let sides = sides_past p r a h in
    record {
      vars = a.vars;
      formed = a.right;
      good = sides.iflets.good;
      calls = grind (arith, common_steps, iflets_calls p r.iflets u u a.mid a.vars a.iflets h sides.args.good, good_stays u w sides.iflets.later true true);
    }

-- the calls that a visit goes over are among these, or their gates are demanded
abbrev AreCalled : Bool → List SiteTerm → Valued → Type 0
AreCalled pure left a = (u : SiteTerm) → In a.visit.demands.iterators u → In left u ⊎ Good true pure a.visit u

finished_good : (pure b : Bool) (a : Valued) → Good true pure a.visit a.site → Good true pure (finished b a).visit (finished b a).site
finished_good pure b a h = grind (arith, common_steps)

-- a rule that makes no impure call has a pure right side
pub pure_right_side : (p : Program) (r : TypedRule) → (demands_of p r).impure ≡ [] → IsPureExpr p r.rhs
pure_right_side p r h = (expr_quiet p r.rhs (before_right p r) (grind arith)).0

module _ (pure : Bool) (p : Program) (r : TypedRule) (typed : IsWellTypedRule p r) where
  known : IsBeforeRight p r
  known = is_before_right p r typed.formed (pure_iflets typed)

  variables : AreGood true pure known.vars (before_right p r)
  variables x k = unpurified (before_right p r).demands.constraints (before_right p r).demands.iterators true pure (var_site (before_right p r) x) (known.good x k)

  total_calls : (pure ≡ true → IsPureExpr p r.rhs) → CallsAlone (IsTotal p) r.rhs → AreCalled pure (calls_left_by p r) (visit_expr p r.rhs (before_right p r))
  total_calls right total u i =
      let v = before_right p r in
      let x = expr_valued_by true pure p r.rhs v known.vars known.formed right (λ q. total) variables in
      elim (x.calls u i) [
        | inl j ↦ elim (known.calls u j) [ inl l ↦ inl l | inr m ↦ inr (good_stays v (visit_expr p r.rhs v).visit x.later true pure u (grind (arith, unpurified))) ]
        | inr g ↦ inr g
      ]

  single_calls : CallsAlone (IsSingle p) r.rhs → AreCalled pure (calls_left_by p r) (visit_expr p r.rhs (before_right p r))
  single_calls single u i =
      let v = before_right p r in
      let x = expr_valued false p r.rhs v known.vars known.formed (λ q. absurd (false≢true q)) (less_good false known.vars v known.good) in
      elim (known.calls u (expr_single p r.rhs v single u i)) [
        | inl l ↦ inl l
        | inr m ↦ inr (good_stays v (visit_expr p r.rhs v).visit x.later true pure u (grind (arith, unpurified)))
      ]

  -- where its right side calls no partial term, or no multi term, the gates of the calls that it goes over are demanded,
  -- but for those that are left
  pub rule_calls : (pure ≡ true → IsPureExpr p r.rhs) → CallsAlone (IsTotal p) r.rhs ⊎ CallsAlone (IsSingle p) r.rhs → (u : SiteTerm) → In (demands_of p r).iterators u
      → In (calls_left_by p r) u ⊎ GatesDemanded true pure (demands_of p r).constraints (demands_of p r).iterators u
  rule_calls right h = grind (arith, common_steps, total_calls, single_calls)

  -- where it calls no partial term, so are those of the result
  pub rule_result : (pure ≡ true → IsPureExpr p r.rhs) → CallsAlone (IsTotal p) r.rhs → GatesDemanded true pure (demands_of p r).constraints (demands_of p r).iterators (result_of p r)
  rule_result right total =
      let v = before_right p r in
      finished_good pure (is_partial p r.root_term) (visit_expr p r.rhs v) (expr_valued_by true pure p r.rhs v known.vars known.formed right (λ q. total) variables).site
