-- Overlap of two rules of a set is symmetric, and in a built set it is that of their closed demands.
use Rattle.std.proofs.Common.{◌≡◌, ◌≤◌, ℕ, ◌==◌, Bool, true, false, ◌&&◌, ◌||◌, if◌then◌else◌, List, [], ◌∷◌, length, Contains, All, refl, sym, ap, ◌∙◌, subst, inl, inr, arith, eq-eqb}
use Rattle.std.proofs.lemmas.Bool.{cases_Bool, cond-true, cond-false, and_parts, and_from, false≢true, not-true}
use Rattle.std.proofs.lemmas.Grind.{common_steps}
use Rattle.model.specs.sites.Sites.{Constraint, SetRule, SiteSet, SiteTerm, unfold_site}
use Rattle.model.specs.sites.Closure.{Closed, in_order}
use Rattle.model.specs.sites.Overlap.{Overlaps, AreAmong, IsSubsetPair, BuiltRule}
use Rattle.model.specs.sites.RuleSets.{IsRuleOf}
use Rattle.model.specs.sites.SetRules.{sites_differ, all_agree, equates_none, is_subset_of_sites, no_overlap, some_overlap, overlap_between}
use Rattle.model.specs.trees.Places.{is_in, joins_in}
use Rattle.model.proofs.Elements.{In, in_from_contains, contains_from_in, any_in, in_any, all_in, all_from, from_flat_map, passed_filter, or_split, or_left, or_right}
use Rattle.model.proofs.SameSites.{constraint_means, same_constraint, constraint_cases}
use Rattle.laws_sites.specs.SetOverlapLaws.{SetRulesOverlapAsTheirDemands, OverlapOfSetRulesIsSymmetric}
use Rattle.laws_sites.proofs.overlaps.Overlaps.{bool_same, none_listed}
use Rattle.laws_sites.proofs.built.BuiltGates.{stands_for, was_built}
use Rattle.laws_sites.proofs.built.BuiltSets.{BuiltSet, RuleOfSet}
use Rattle.laws_sites.proofs.built.DistinctSites.{one_number}

-- 1. the tests
-- two constraints of one site that differ
record DifferingAt (as' bs : List (ℕ × Constraint)) : Type 0 where
  site : ℕ
  first : Constraint
  second : Constraint
  in_first : In as' (site, first)
  in_second : In bs (site, second)
  two : first ≡ second → ⊥

differing : (as' bs : List (ℕ × Constraint)) → sites_differ as' bs ≡ true → DifferingAt as' bs
differing as' bs h = grind (arith, common_steps, in_any, and_parts, not-true, same_constraint)

differ_at : (as' bs : List (ℕ × Constraint)) → DifferingAt as' bs → sites_differ as' bs ≡ true
differ_at as' bs d = grind (arith, common_steps, any_in, and_from)

agree_from : (as' bs : List (ℕ × Constraint)) → ((d : ℕ × Constraint) → In as' d → In bs d) → all_agree as' bs ≡ true
agree_from as' bs h = grind (arith, common_steps, all_from, any_in, and_from, same_constraint)

-- 2. symmetry
pub overlap_of_set_rules_is_symmetric_lem : OverlapOfSetRulesIsSymmetric
overlap_of_set_rules_is_symmetric_lem r s = grind (arith, common_steps, bool_same, differ_at, differing)

-- 3. what is told
told_subset : (b c : Bool) → (if b then no_overlap else some_overlap c) ≡ some_overlap true → (b ≡ false) × (c ≡ true)
told_subset b c e = grind (arith, common_steps)

-- 4. classes
-- the classes of closed demands have sites
class_filled : (k : Closed) (l : List SiteTerm) → In (in_order k).classes l → (u : SiteTerm) × In l u
class_filled k l i = grind (arith, common_steps, from_flat_map, passed_filter)

-- a rule of a built set has no class exactly where its closed demands have none
module _ (of : BuiltSet) (x : RuleOfSet of) where
  none_closed : x.rule.classes ≡ [] → x.typed.demands.classes ≡ []
  none_closed e = filled x.typed.demands.classes (grind (arith, common_steps, was_built, class_filled)) (λ l u i m. all l u i m)
    where
      all : (l : List SiteTerm) (u : SiteTerm) → In x.typed.demands.classes l → In l u → ⊥
      all l u i m =
          let c = contains_from_in l u m in
          let y = x.is.classes.all_joined l u u (contains_from_in x.typed.demands.classes l i) c c in
          false≢true (subst (λ k. joins_in k y.0 y.1 ≡ true) e y.2)

      filled : (ks : List (List SiteTerm)) → ((l : List SiteTerm) → In ks l → (u : SiteTerm) × In l u) → ((l : List SiteTerm) (u : SiteTerm) → In ks l → In l u → ⊥) → ks ≡ []
      filled [] f n = refl
      filled (l ∷ ks) f n = let u = f l (inl refl) in absurd (n l u.0 (inl refl) u.1)

  none_numbered : x.typed.demands.classes ≡ [] → x.rule.classes ≡ []
  none_numbered e = unfilled x.rule.classes x.is.classes.many (λ n h. let c = x.is.classes.joined n n h in in_from_contains [] c.2 (subst (λ k. Contains k c.2) e c.3))
    where
      unfilled : (ks : List (List ℕ)) → All (λ c. 2 ≤ length c) ks → ((x : ℕ) → joins_in ks x x ≡ true → ⊥) → ks ≡ []
      unfilled [] m n = refl
      unfilled ([] ∷ ks) m n = absurd (let l : 2 ≤ 0 = m 0 [] (omega arith) in omega (arith, l))
      unfilled ((x ∷ c) ∷ ks) m n =
          let here = any_in (λ y. y == x) (x ∷ c) x (inl refl) (eq-eqb x x refl) in
          absurd (n x (any_in (λ k. is_in x k && is_in x k) ((x ∷ c) ∷ ks) (x ∷ c) (inl refl) (and_from (is_in x (x ∷ c)) (is_in x (x ∷ c)) here here)))

-- 5. two rules of a built set
module _ (of : BuiltSet) (first second : RuleOfSet of) where
  abbrev set : SiteSet
  set = of.set

  abbrev a : BuiltRule
  a = first.typed

  abbrev b : BuiltRule
  b = second.typed

  abbrev r : SetRule
  r = first.rule

  abbrev s : SetRule
  s = second.rule

  abbrev q : IsRuleOf of.program set.sites a r
  q = first.is

  abbrev w : IsRuleOf of.program set.sites b s
  w = second.is

  apart_above : DifferingAt r.constraints s.constraints → Overlaps a.demands b.demands → ⊥
  apart_above d o =
      d.two (o (unfold_site set.sites d.site) d.first d.second
      (q.constraints.asked d.site d.first (contains_from_in r.constraints (d.site, d.first) d.in_first)).1
      (w.constraints.asked d.site d.second (contains_from_in s.constraints (d.site, d.second) d.in_second)).1)

  apart_below : (u : SiteTerm) (c d : Constraint) → Contains a.demands.constraints (u, c) → Contains b.demands.constraints (u, d) → (c ≡ d → ⊥) → DifferingAt r.constraints s.constraints
  apart_below u c d i j n =
      let x = q.constraints.all_asked u c i in
      let y = w.constraints.all_asked u d j in
      let same = one_number of.program of.term set of.built y.0 x.0 (w.constraints.asked y.0 d y.1).0 (q.constraints.asked x.0 c x.1).0 (y.2 ∙ sym x.2) in
      record {
        site = x.0;
        first = c;
        second = d;
        in_first = in_from_contains r.constraints (x.0, c) x.1;
        in_second = subst (λ k. In s.constraints (k, d)) same (in_from_contains s.constraints (y.0, d) y.1);
        two = n;
      }

  overlap_above : sites_differ r.constraints s.constraints ≡ false → Overlaps a.demands b.demands
  overlap_above f u c d i j = grind (arith, common_steps, constraint_cases c d, differ_at r.constraints s.constraints, apart_below u c d i j)

  overlap_below : Overlaps a.demands b.demands → sites_differ r.constraints s.constraints ≡ false
  overlap_below o = grind (arith, common_steps, apart_above, differing)

  among_above : ((d : ℕ × Constraint) → In r.constraints d → In s.constraints d) → AreAmong a.demands.constraints b.demands.constraints
  among_above f u c i =
      let x = q.constraints.all_asked u c i in
      let j = contains_from_in s.constraints (x.0, c) (f (x.0, c) (in_from_contains r.constraints (x.0, c) x.1)) in
      subst (λ v. Contains b.demands.constraints (v, c)) x.2 (w.constraints.asked x.0 c j).1

  among_below : AreAmong a.demands.constraints b.demands.constraints → (d : ℕ × Constraint) → In r.constraints d → In s.constraints d
  among_below f d i =
      let x = q.constraints.asked d.0 d.1 (contains_from_in r.constraints d i) in
      let y = w.constraints.all_asked (unfold_site set.sites d.0) d.1 (f (unfold_site set.sites d.0) d.1 x.1) in
      let same = one_number of.program of.term set of.built y.0 d.0 (w.constraints.asked y.0 d.1 y.1).0 x.0 y.2 in
      subst (λ k. In s.constraints (k, d.1)) same (in_from_contains s.constraints (y.0, d.1) y.1)

pub set_rules_overlap_as_their_demands_lem : SetRulesOverlapAsTheirDemands
set_rules_overlap_as_their_demands_lem p t set h a b r s one other = record {
  none = (
    λ e o. apart_above of first second (differing r.constraints s.constraints (grind arith)) o,
    λ n. elim (cases_Bool (sites_differ r.constraints s.constraints)) [
      | inl y ↦ cond-true (sites_differ r.constraints s.constraints) no_overlap (some_overlap (is_subset_of_sites r s)) y
      | inr f ↦ absurd (n (overlap_above of first second f))
    ],
  );
  subset = (above, below);
}
  where
    of : BuiltSet
    of = record { program = p; term = t; set = set; built = h }

    first : RuleOfSet of
    first = stands_for of a r one

    second : RuleOfSet of
    second = stands_for of b s other

    above : overlap_between r s ≡ some_overlap true → IsSubsetPair a.demands b.demands
    above e =
        let k = told_subset (sites_differ r.constraints s.constraints) (is_subset_of_sites r s) e in
        let x = and_parts (equates_none r && equates_none s) (all_agree r.constraints s.constraints || all_agree s.constraints r.constraints) k.1 in
        let y = and_parts (equates_none r) (equates_none s) x.0 in
        record {
          overlap = overlap_above of first second k.0;
          first_has_none = none_closed of first ((none_listed r.classes).0 y.0);
          second_has_none = none_closed of second ((none_listed s.classes).0 y.1);
          among = elim (or_split (all_agree r.constraints s.constraints) (all_agree s.constraints r.constraints) x.1) [
            | inl z ↦ inl (among_above of first second (grind (arith, common_steps, in_any, all_in, and_parts, constraint_means)))
            | inr z ↦ inr (among_above of second first (grind (arith, common_steps, in_any, all_in, and_parts, constraint_means)))
          ];
        }

    below : IsSubsetPair a.demands b.demands → overlap_between r s ≡ some_overlap true
    below k =
        cond-false (sites_differ r.constraints s.constraints) no_overlap (some_overlap (is_subset_of_sites r s)) (overlap_below of first second k.overlap)
        ∙ ap some_overlap (and_from (equates_none r && equates_none s) (all_agree r.constraints s.constraints || all_agree s.constraints r.constraints)
        (and_from (equates_none r) (equates_none s) ((none_listed r.classes).1 (none_numbered of first k.first_has_none)) ((none_listed s.classes).1 (none_numbered of second k.second_has_none)))
        (elim k.among [
          | inl z ↦ or_left (all_agree r.constraints s.constraints) (all_agree s.constraints r.constraints) (agree_from r.constraints s.constraints (among_below of first second z))
          | inr z ↦ or_right (all_agree r.constraints s.constraints) (all_agree s.constraints r.constraints) (agree_from s.constraints r.constraints (among_below of second first z))
        ]))
