-- The set of a term goes past one more rule: what was built before stays, and the rule is added or left out.
use Rattle.std.proofs.Common.{◌≡◌, ℕ, ◌<◌, Bool, true, false, not, ◌&&◌, is_none, List, [], ◌∷◌, ◌++◌, map, length, None, All, Contains, refl, sym, ap, ◌∙◌, subst, arith}
use Rattle.std.proofs.lemmas.Bool.{cond-true, cond-false, ltb-false}
use Rattle.std.proofs.lemmas.List.{append-nil, append_assoc, take_all}
use Rattle.std.proofs.lemmas.List.Elements.{All-head, All-tail}
use Rattle.model.specs.rules.Typed.{TypedRule}
use Rattle.model.specs.rules.Program.{Program}
use Rattle.model.specs.sites.Sites.{Constraint, Site, SetRule, SiteSet, SiteTerm, unfold_site}
use Rattle.model.specs.visits.Demands.{demands_of, with_sites}
use Rattle.model.specs.sites.Closure.{Closed, closed, is_unreachable, reported}
use Rattle.model.specs.sites.Limits.{first_limit, most_sites, sites_after_rule, sites_after_rules, sites_reached, sites_wanted}
use Rattle.model.specs.sites.Overlap.{BuiltRule, not_reached, built_from, built_rule, is_built}
use Rattle.model.specs.sites.RuleSets.{AreRulesOfSet, AsksFor, Equates, GoesOver, IsRuleOf, StandFor}
use Rattle.model.proofs.Members.{all_members, nothing_in}
use Rattle.std.proofs.lemmas.Grind.{common_steps}
use Rattle.laws_sites.specs.RuleByRule.{HaveGrown, SetsEndBuilt, SetsGoPastRules, SetsStartEmpty, StandsAfter, limit_met, rule_added, rule_unreachable}
use Rattle.laws_sites.proofs.BuiltWithinLimits.{has_room, all_wanted}
use Rattle.laws_sites.proofs.overlaps.CheckedPrograms.{built_silent, sites_on}

-- 1. what was built stays where sites have grown
module _ (before after : List Site) (g : HaveGrown before after) where
  below : (s : ℕ) → s < length before → s < length after
  below s l = let m = g.longer in omega (arith, l, m)

  asks_still : (k : Closed) (cs : List (ℕ × Constraint)) → AsksFor before k cs → AsksFor after k cs
  asks_still k cs h = record {
    asked = λ s c i.
        let a = h.asked s c i in
        (below s a.0, subst (λ u. Contains k.constraints (u, c)) (sym (g.kept s a.0)) a.1);
    all_asked = λ u c i.
        let a = h.all_asked u c i in
        (a.0, a.1, g.kept a.0 (h.asked a.0 c a.1).0 ∙ a.2);
    once = h.once;
  }

  equates_still : (k : Closed) (classes : List (List ℕ)) → Equates before k classes → Equates after k classes
  equates_still k classes h = record {
    joined = grind (arith, common_steps, below);
    all_joined = λ class u v i j k.
        let e = h.all_joined class u v i j k in
        let l = h.joined e.0 e.1 e.2 in
        (e.0, e.1, e.2, g.kept e.0 l.0 ∙ e.3, g.kept e.1 l.1 ∙ e.4);
    once = h.once;
    many = h.many;
  }

  goes_over_still : (calls : List SiteTerm) (iterators : List ℕ) → GoesOver before calls iterators → GoesOver after calls iterators
  goes_over_still calls iterators h = record {
    gone_over = λ s i. let a = h.gone_over s i in (below s a.0, subst (Contains calls) (sym (g.kept s a.0)) a.1);
    all_gone_over = λ u i. let a = h.all_gone_over u i in (a.0, a.1, g.kept a.0 (h.gone_over a.0 a.1).0 ∙ a.2);
    once = h.once;
  }

  each_kept : (ns : List ℕ) → All (λ s. s < length before) ns → map (unfold_site after) ns ≡ map (unfold_site before) ns
  each_kept [] h = refl
  each_kept (n ∷ ns) h = grind (arith, common_steps, each_kept ns (All-tail (λ s. s < length before) n ns h), All-head, All-tail)

  rule_still : (p : Program) (b : BuiltRule) (r : SetRule) → IsRuleOf p before b r → IsRuleOf p after b r
  rule_still p b r h = record {
    id = h.id;
    at = h.at;
    prio = h.prio;
    name = h.name;
    constraints = asks_still b.demands r.constraints h.constraints;
    classes = equates_still b.demands r.classes h.classes;
    iterators = goes_over_still (demands_of p b.rule).iterators r.iterators h.iterators;
    impure = grind (arith, common_steps, all_members (λ s. s < length after) r.impure, below, each_kept r.impure h.impure.0);
    result = (below r.result h.result.0, g.kept r.result h.result.0 ∙ h.result.1);
  }

  rules_still : (p : Program) (bs : List BuiltRule) (rs : List SetRule) → AreRulesOfSet p before bs rs → AreRulesOfSet p after bs rs
  rules_still p (b ∷ bs) (r ∷ rs) h = (rule_still p b r h.0, rules_still p bs rs h.1)
  rules_still p k i h = grind (arith, common_steps)

rules_and : (p : Program) (sites : List Site) (bs cs : List BuiltRule) (rs qs : List SetRule) → AreRulesOfSet p sites bs rs → AreRulesOfSet p sites cs qs → AreRulesOfSet p sites (bs ++ cs) (rs ++ qs)
rules_and p sites (b ∷ bs) cs (r ∷ rs) qs h g = (h.0, rules_and p sites bs cs rs qs h.1 g)
rules_and p sites k cs i qs h g = grind (arith, common_steps)

-- 2. the rules that are built after one more
module _ (p : Program) where
  abbrev if_built : List SiteTerm → TypedRule → List BuiltRule
  if_built before r = built_from p before (r ∷ [])

  built_more : (before : List SiteTerm) (rs : List TypedRule) (r : TypedRule) → built_from p before (rs ++ r ∷ []) ≡ built_from p before rs ++ if_built (sites_after_rules p before rs) r
  built_more before [] r = refl
  built_more before (q ∷ rs) r = grind (arith, common_steps, built_more (sites_after_rule p before q) rs r, append_assoc)

-- 3. one rule, after the sites of those before
module _ (p : Program) (before : List SiteTerm) (r : TypedRule) (none : first_limit p before r ≡ None) where
  -- the sites after it are all that were wanted
  all_kept : sites_after_rule p before r ≡ sites_wanted p before r
  all_kept = take_all most_sites (sites_reached p before r) (let l = ltb-false most_sites (length (sites_reached p before r)) (has_room p before r none) in omega (arith, l)) ∙ all_wanted p before r none

  is_built_by : (b : Bool) → is_unreachable (demands_of p r) ≡ b → is_built p before r ≡ not b
  is_built_by b e = (λ i. is_none (none i) && not (e i))

-- 4. the set goes on
module _ (p : Program) (done : List TypedRule) (r : TypedRule) where
  abbrev then_sites : List SiteTerm
  then_sites = sites_after_rules p [] done

  abbrev here : List SiteTerm → BuiltRule
  here s = built_rule p s r

  left : (old new : SiteSet) → StandsAfter p done old → HaveGrown old.sites new.sites → is_built p then_sites r ≡ false → StandFor new.sites (sites_after_rule p then_sites r) → new.rules ≡ old.rules → StandsAfter p (done ++ r ∷ []) new
  left old new h g f s e = grind (arith, rules_still, sites_on, built_more, append-nil)

  added : (old new : SiteSet) → StandsAfter p done old → (rule : SetRule) → HaveGrown old.sites new.sites → is_built p then_sites r ≡ true → StandFor new.sites (sites_after_rule p then_sites r) → new.rules ≡ old.rules ++ rule ∷ []
      → IsRuleOf p new.sites (here then_sites) rule → StandsAfter p (done ++ r ∷ []) new
  added old new h rule g t s e q = grind (arith, common_steps, rules_and, rules_still, sites_on, built_more)

pub sets_go_past_rules_lem : SetsGoPastRules
sets_go_past_rules_lem p done r old new said h (rule_added rule g none reachable stand rules is_rule) =
    let before = sites_after_rules p [] done in
    let wanted = cond-false (is_unreachable (demands_of p r)) (with_sites before (demands_of p r).made) (closed before (demands_of p r)).made reachable in
    let t = is_built_by p before r none false reachable in (
      added p done r old new h rule g t (subst (StandFor new.sites) (sym (all_kept p before r none ∙ wanted)) stand) rules is_rule,
      sym (built_silent p before r (first_limit p before r) t),
    )
sets_go_past_rules_lem p done r old new said h (rule_unreachable g none cant stand rules) =
    let before = sites_after_rules p [] done in
    let wanted = cond-true (is_unreachable (demands_of p r)) (with_sites before (demands_of p r).made) (closed before (demands_of p r)).made cant in (
      left p done r old new h g (is_built_by p before r none true cant) (subst (StandFor new.sites) (sym (all_kept p before r none ∙ wanted)) stand) rules,
      ap (λ s. map (λ why. not_reached why r.at) (reported s (demands_of p r))) (sym wanted) ∙ sym (grind arith),
    )
sets_go_past_rules_lem p done r old new said h (limit_met l g passed stand rules) = grind (arith, common_steps, left p done r old new h g)

-- 5. the start and the end
pub sets_start_empty_lem : SetsStartEmpty
sets_start_empty_lem p = grind (arith, common_steps, nothing_in)

pub sets_end_built_lem : SetsEndBuilt
sets_end_built_lem p t set = grind (arith, common_steps)
