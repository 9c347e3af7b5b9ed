-- A rule of greater priority is excluded by the tests that another one doesn't make.
use Rattle.std.proofs.Common.{if◌then◌else◌, ◌≡◌, ◌≤◌, ◌-◌, drop, get_or, take, ◌<◌, ◌<ℤ◌, ℕ, Bool, true, false, not, List, [], ◌∷◌, length, map, filter, Option, Some, None, All, Contains, refl, sym, ap, subst, ◌∙◌, inl, inr, arith}
use Rattle.std.proofs.lemmas.Bool.{false≢true}
use Rattle.std.proofs.lemmas.Grind.{common_steps}
use Rattle.std.proofs.lemmas.List.{take_all}
use Rattle.std.specs.List.{flat_map}
use Rattle.model.specs.rules.Program.{Program}
use Rattle.model.specs.sites.Sites.{Constraint, SetRule, SiteSet, SiteTerm, unfold_site}
use Rattle.model.specs.trees.Judge.{is_that}
use Rattle.model.specs.trees.Places.{constraint_at, joins_in}
use Rattle.model.specs.visits.Demands.{constraint_eq}
use Rattle.model.proofs.Elements.{In, in_map, map_in, contains_from_in, in_from_contains, from_flat_map}
use Rattle.model.proofs.Members.{constraint_in}
use Rattle.model.proofs.SameSites.{constraint_means}
use Rattle.laws_specs.specs.Conditions.{Condition}
use Rattle.laws_specs.specs.SetConditions.{pairs_of, set_condition}
use Rattle.laws_specs.specs.Specs.{Specs}
use Rattle.laws_questions.specs.BelowLaws.{AreMetBy, ExcludesOne}
use Rattle.model_questions.specs.Formulas.{Fact, none_of}
use Rattle.core_rule_sets.specs.declared.trie_again.Rule.{Rule}
use Rattle.core_rule_sets.specs.SiteViews.{set_rule_view, set_rule_views}
use Rattle.spec_cases.specs.Namings.{Naming}
use Rattle.spec_steps.specs.declared.demands.Tested.{Tested}
use Rattle.spec_steps.specs.Demands.{tested_views}
use Rattle.spec_steps.specs.Excluding.{all_met}
use Rattle.spec_asked.specs.Above.{is_other, AreOfSet, IsPlainAbove, IsOfRule}
use Rattle.spec_asked.specs.Demanded.{test_numbers, tests_within}
use Rattle.spec_asked.proofs.DemandsMeant.{tests_agree}
use Rattle.spec_asked.proofs.ListedRules.{in_class, pair_parts}

-- a test that isn't another one is among them
own_there : (own : List (ℕ × Constraint)) (d : ℕ × Constraint) → is_other own d ≡ false → Contains own d
own_there own d e = by (constraint_at own d.0) refl e
  where
    by : (o : Option Constraint) → constraint_at own d.0 ≡ o → not (is_that o d.1) ≡ false → Contains own d
    by None q h = absurd (false≢true (sym h))
    by (Some k) q h = constraint_in own d.0 d.1 (q ∙ ap Some (constraint_means k d.1 (same k h)))
      where
        same : (k : Constraint) → not (constraint_eq k d.1) ≡ false → constraint_eq k d.1 ≡ true
        same k h = grind (arith, common_steps)

module _ (p : Program) (specs : Specs) (set : SiteSet) (c : Condition) (own : List (ℕ × Constraint)) where
  abbrev at_tree : ℕ × Constraint → SiteTerm × Constraint
  at_tree d = (unfold_site set.sites d.0, d.1)

  others_met : (all : (d : ℕ × Constraint) → Contains own d → Contains c.constraints (at_tree d)) (ds : List (ℕ × Constraint))
      → AreMetBy p specs c (map at_tree ds) (all_met p specs c (map at_tree (filter (is_other own) ds)))
  others_met all [] = refl
  others_met all (d ∷ ds) = by (is_other own d) refl (others_met all ds)
    where
      by : (b : Bool) → is_other own d ≡ b → AreMetBy p specs c (map at_tree ds) (all_met p specs c (map at_tree (filter (is_other own) ds))) → AreMetBy p specs c (map at_tree (d ∷ ds)) (all_met p specs c (map at_tree (filter (is_other own) (d ∷ ds))))
      by true e rest = subst (λ l. AreMetBy p specs c (map at_tree (d ∷ ds)) (all_met p specs c (map at_tree l))) (sym (taken e)) (inr (all_met p specs c (map at_tree (filter (is_other own) ds)), rest, refl))
        where
          taken : is_other own d ≡ true → filter (is_other own) (d ∷ ds) ≡ d ∷ filter (is_other own) ds
          taken q = ap (λ b. if b then d ∷ filter (is_other own) ds else filter (is_other own) ds) q
      by false e rest = subst (λ l. AreMetBy p specs c (map at_tree (d ∷ ds)) (all_met p specs c (map at_tree l))) (sym (left e)) (inl (all d (own_there own d e), rest))
        where
          left : is_other own d ≡ false → filter (is_other own) (d ∷ ds) ≡ filter (is_other own) ds
          left q = ap (λ b. if b then d ∷ filter (is_other own) ds else filter (is_other own) ds) q

-- classes that join nothing have no pairs
no_pairs : (classes : List (List ℕ)) → ((a b : ℕ) → joins_in classes a b ≡ false) → (e : ℕ × ℕ) → In (flat_map pairs_of classes) e → ⊥
no_pairs classes none e i =
    let m = from_flat_map pairs_of classes e i in
    let k = pair_parts m.0 e m.2 in
    false≢true (sym (none k.0 k.1) ∙ in_class classes m.0 k.0 k.1 m.1 k.2 k.3)

pub excluded_is : (p : Program) (specs : Specs) (v : Naming) (c : Condition) (t : ℕ) (set : SiteSet) (r rule q : SetRule) (count : ℕ) (ts : List Tested) (f : Fact)
    → IsOfRule v c t set r rule count → Contains set.rules q → IsPlainAbove rule q
    → test_numbers ts ≡ filter (is_other rule.constraints) q.constraints → tests_within count ts ≡ true → f ≡ none_of (all_met p specs c (tested_views v ts))
    → ExcludesOne p specs t set r f
excluded_is p specs v c t set r rule q count ts f of there ex others within e =
    let tree = at_tree p specs set c rule.constraints in
    let views : map tree (filter (is_other rule.constraints) q.constraints) ≡ tested_views v ts = ap (map tree) (sym others) ∙ tests_agree count v.site (unfold_site set.sites) of.sites ts within in
    let met = all_met p specs c (map tree (filter (is_other rule.constraints) q.constraints)) in
    let own : (d : ℕ × Constraint) → Contains rule.constraints d → Contains c.constraints (tree d) =
    λ d i. subst (λ (z : Condition). Contains z.constraints (tree d)) (sym of.same)
    (contains_from_in (map tree r.constraints) (tree d) (map_in tree r.constraints d (in_from_contains r.constraints d (subst (λ l. Contains l d) (sym of.constraints) i)))) in
    record {
      rule = q;
      above = (there, subst (λ z. z <ℤ q.prio) (sym of.prio) ex.above_it);
      without_equalities = λ a b i.
          let k = in_map (λ (e : ℕ × ℕ). (unfold_site set.sites e.0, unfold_site set.sites e.1)) (flat_map pairs_of q.classes) (a, b) (in_from_contains (set_condition t set q).equalities (a, b) i) in
          no_pairs q.classes ex.apart k.0 k.1;
      met = met;
      meets = subst (λ z. AreMetBy p specs z (map tree q.constraints) met) of.same (others_met p specs set c rule.constraints own q.constraints);
      excludes = e ∙ ap (λ l. none_of (all_met p specs c l)) (sym views);
    }

pub rules_of_set : (rs : List Rule) (q : Rule) → Contains rs q → Contains (set_rule_views rs) (set_rule_view q)
rules_of_set rs q i = contains_from_in (set_rule_views rs) (set_rule_view q) (map_in set_rule_view rs q (in_from_contains rs q i))

pub first_of_set : (rs : List Rule) (set : SiteSet) (d : Rule) → 1 ≤ length rs → AreOfSet rs set → Contains set.rules (set_rule_view (get_or rs 0 d))
first_of_set [] set d h these = absurd (omega arith)
first_of_set (r ∷ rs) set d h these = these r (contains_from_in (r ∷ rs) r (inl refl))

pub rest_of_set : (rs : List Rule) (set : SiteSet) → 1 ≤ length rs → AreOfSet rs set → AreOfSet (take (length rs - 1) (drop 1 rs)) set
rest_of_set [] set h these = absurd (omega arith)
rest_of_set (r ∷ rs) set h these = λ q i.
    these q (contains_from_in (r ∷ rs) q (inr (in_from_contains rs q (subst (λ l. Contains l q) (take_all (length (r ∷ rs) - 1) rs (omega arith)) i))))
