-- A rule that hangs together demands its gates.
use Rattle.std.proofs.Common.{◌≡◌, ℕ, suc, ◌==◌, Bool, true, false, List, [], ◌∷◌, Some, sym, ap, subst, ◌∙◌, inl, refl, arith}
use Rattle.std.proofs.lemmas.Bool.{false≢true}
use Rattle.std.proofs.lemmas.Grind.{common_steps}
use Rattle.model.specs.rules.Meaning.{look}
use Rattle.model.specs.rules.Outcome.{then_option}
use Rattle.model.specs.rules.Program.{Program, is_partial}
use Rattle.model.specs.sites.Sites.{SiteTerm, argument}
use Rattle.model.specs.rules.Typed.{TypedPattern, TypedIfLet, TypedRule}
use Rattle.model.specs.visits.Demands.{demands_of, Visit, visit_start, or_no_site, var_site, visit_pattern, Valued, visit_expr, unwraps, asking_all, visit_args, visit_iflets, finished, visit_rule, taking_argument, argument_taken, counting}
use Rattle.model.specs.lists.Formed.{pattern_type, formed_pattern, is_formed_expr, formed_list, formed_iflets, is_formed_rule}
use Rattle.model.proofs.Elements.{in_from_contains, some_is, none_some}
use Rattle.model.specs.sites.DemandedGates.{IsPureExpr, ArePureIfLets, DemandsGates}
use Rattle.laws_sites.specs.VisitLaws.{WellTypedRulesDemandGates}
use Rattle.laws_sites.proofs.Gates.{asking_of, gates_stay, weaker, stronger, unwrapped}
use Rattle.laws_sites.proofs.AskedSites.{Good, MayTest, IsSound, Later, good_stays, now, then_later, later_making, asked_binds, asked_more, asked_calls, all_asked, later_asked, AreGood, later_counting}
use Rattle.laws_sites.proofs.Calls.{no_call}
use Rattle.laws_sites.proofs.Patterns.{from_then, IsAfter, unbound, then_after, pattern_after}
use Rattle.laws_sites.proofs.Exprs.{IsValuedUnasked, expr_valued}
use Rattle.laws_sites.proofs.RuleParts.{iflet_parts, RuleParts, rule_parts}
use Rattle.laws_typing.proofs.FormedParts.{from_if}
use Rattle.laws_typing.proofs.WellTypedPrograms.{pure_iflets}

-- after some patterns and if-lets: nothing less is asked, and variables that can be used may be tested
pub record IsPast (v w : Visit) (more : List (ℕ × ℕ)) : Type 0 where
  pub later : Later v w
  pub good : AreGood true true more w

then_is_past : (u v w : Visit) (more : List (ℕ × ℕ)) → Later u v → IsPast v w more → IsPast u w more
then_is_past u v w more l r = record { later = then_later u v w l r.later; good = r.good }

pub args_after : (p : Program) (i : ℕ) (qs : List TypedPattern) (tys : List ℕ) (v : Visit) (vars more : List (ℕ × ℕ)) → formed_list p qs tys vars ≡ Some more → AreGood true true vars v → IsAfter v (visit_args p i qs v) more
args_after p i (q ∷ qs) (ty ∷ tys) v vars more f g =
    let a = from_if (pattern_type q == ty) (then_option (formed_pattern p q vars) (λ after. formed_list p qs tys after)) more f in
    let b = from_then (formed_pattern p q vars) (λ after. formed_list p qs tys after) more a.1 in
    let x = counting (argument_taken i) v in
    let u = taking_argument i v in
    let w = visit_pattern p q (argument i) u in
    let o = unbound v u vars vars (then_later v x u (later_counting (argument_taken i) v) (later_making (argument i ∷ []) x)) refl g refl (λ c j. inl j) in
    let r = pattern_after p q (argument i) u vars b.0 b.1 tt o.good in
    then_after v w (visit_args p (suc i) qs w) b.0 more (then_after v u w vars b.0 o r) (args_after p (suc i) qs tys w b.0 more b.2 r.good)
args_after p i h k v vars more f g = grind (arith, common_steps, unbound, now, some_is, no_call, none_some)

pub less_good : (pure : Bool) (vars : List (ℕ × ℕ)) (v : Visit) → AreGood true true vars v → AreGood false pure vars v
less_good pure vars v g x h = weaker v.demands.constraints v.demands.iterators pure (var_site v x) (g x h)

-- an if-let where a visit meets it, after some variables that may be tested: its value is well formed, and pure
pub record IfLetMet (p : Program) : Type 0 where
  pub iflet : TypedIfLet
  pub visit : Visit
  pub vars : List (ℕ × ℕ)
  pub formed : is_formed_expr p iflet.rhs vars ≡ true
  pub pure : IsPureExpr p iflet.rhs
  pub good : AreGood true true vars visit

module _ (p : Program) (of : IfLetMet p) where
  abbrev i : TypedIfLet
  i = of.iflet

  abbrev v : Visit
  v = of.visit

  abbrev vars : List (ℕ × ℕ)
  vars = of.vars

  abbrev g : AreGood true true vars v
  g = of.good

  abbrev s : SiteTerm
  s = (visit_expr p i.rhs v).site

  abbrev u : Visit
  u = (visit_expr p i.rhs v).visit

  abbrev w : Visit
  w = asking_all (unwraps s) u

  valued : IsValuedUnasked true vars v (visit_expr p i.rhs v)
  valued = expr_valued true p i.rhs v vars of.formed (λ q. of.pure) (less_good true vars v g)

  -- an if-let's value may be tested, once the calls that it unwraps are asked to answer
  pub iflet_tested : MayTest w s
  iflet_tested =
      stronger w.demands.constraints w.demands.iterators s
      (gates_stay (asking_of u.demands) (asking_of w.demands) (record { constraints = asked_more (unwraps s) u; calls = asked_calls (unwraps s) u }) false true s valued.site)
      (all_asked (unwraps s) u)

  asked_later : Later u w
  asked_later = later_asked (unwraps s) u (λ t k. unwrapped w.demands.constraints w.demands.iterators s t iflet_tested k)

  asked_good : AreGood true true vars w
  asked_good x k =
      subst (MayTest w) (sym (ap (λ vs. or_no_site (look (λ y. y == x) vs)) (asked_binds (unwraps s) u) ∙ valued.same x k))
      (good_stays v w (then_later v u w valued.later asked_later) true true (var_site v x) (g x k))

  pub iflet_after : (more : List (ℕ × ℕ)) → formed_pattern p i.lhs vars ≡ Some more → IsAfter w (visit_pattern p i.lhs s w) more
  iflet_after more e = pattern_after p i.lhs s w vars more e iflet_tested asked_good

  pub iflet_past : (more : List (ℕ × ℕ)) → formed_pattern p i.lhs vars ≡ Some more → IsPast v (visit_pattern p i.lhs s w) more
  iflet_past more e =
      let b = iflet_after more e in
      then_is_past v u (visit_pattern p i.lhs s w) more valued.later
      (then_is_past u w (visit_pattern p i.lhs s w) more asked_later (record { later = b.later; good = b.good }))

pub iflets_are_past : (p : Program) (is : List TypedIfLet) (v : Visit) (vars more : List (ℕ × ℕ)) → formed_iflets p is vars ≡ Some more → ArePureIfLets p is → AreGood true true vars v → IsPast v (visit_iflets p is v) more
iflets_are_past p [] v vars more f h g = grind (arith, now, some_is)
iflets_are_past p (i ∷ is) v vars more f h g =
    let a = iflet_parts p i is vars more f in
    let r = iflet_past p (record { iflet = i; visit = v; vars = vars; formed = a.value; pure = h.0; good = g }) a.mid a.pattern in
    let w = visit_pattern p i.lhs (visit_expr p i.rhs v).site (asking_all (unwraps (visit_expr p i.rhs v).site) (visit_expr p i.rhs v).visit) in
    then_is_past v w (visit_iflets p is w) more r.later (iflets_are_past p is w a.mid more a.rest h.1 r.good)

-- the visit of a rule before its right side: its arguments, then its if-lets
pub record IsPastSides (p : Program) (r : TypedRule) (a : RuleParts p r) : Type 0 where
  pub args : IsAfter visit_start (visit_args p 0 r.args visit_start) a.mid
  pub iflets : IsPast (visit_args p 0 r.args visit_start) (visit_iflets p r.iflets (visit_args p 0 r.args visit_start)) a.vars

pub sides_past : (p : Program) (r : TypedRule) (a : RuleParts p r) → ArePureIfLets p r.iflets → IsPastSides p r a
sides_past p r a h =
    let args = args_after p 0 r.args a.entry.arg_tys visit_start [] a.mid a.args (λ x k. absurd (false≢true k)) in
    record { args = args; iflets = iflets_are_past p r.iflets (visit_args p 0 r.args visit_start) a.mid a.vars a.iflets h args.good }

-- the whole visit
record IsDone (a : Valued) : Type 0 where
  sound : IsSound a.visit
  site : Good false false a.visit a.site

finished_done : (b : Bool) (a : Valued) → IsDone a → IsDone (finished b a)
finished_done b a h = grind (arith, common_steps, later_making)

start_sound : IsSound visit_start
start_sound = record { asked = λ e i. absurd i; equal = λ e i. absurd i; impure = λ u i. absurd i }

rule_done : (p : Program) (r : TypedRule) → is_formed_rule p r ≡ true → ArePureIfLets p r.iflets → IsDone (visit_rule p r)
rule_done p r f h =
    let a = rule_parts p r f in
    let u = visit_args p 0 r.args visit_start in
    let w = visit_iflets p r.iflets u in
    let sides = sides_past p r a h in
    let x = expr_valued false p r.rhs w a.vars a.right (λ q. absurd (false≢true q)) (less_good false a.vars w sides.iflets.good) in
    finished_done (is_partial p r.root_term) (visit_expr p r.rhs w)
    (record { sound = x.later.sound (sides.iflets.later.sound (sides.args.later.sound start_sound)); site = x.site })

pub formed_rules_demand_gates_lem : (p : Program) (r : TypedRule) → is_formed_rule p r ≡ true → ArePureIfLets p r.iflets → DemandsGates p r
formed_rules_demand_gates_lem p r f h =
    let d = rule_done p r f h in
    record {
      tested = record {
        asked = λ u c i. d.sound.asked (u, c) (in_from_contains (demands_of p r).constraints (u, c) i);
        equal = λ u w i. d.sound.equal (u, w) (in_from_contains (demands_of p r).equalities (u, w) i);
      };
      impure = λ u i. d.sound.impure u (in_from_contains (demands_of p r).impure u i);
      result = d.site;
    }

pub well_typed_rules_demand_gates_lem : WellTypedRulesDemandGates
well_typed_rules_demand_gates_lem p h r c = let w = h.rules r c in formed_rules_demand_gates_lem p r w.formed (pure_iflets w)
