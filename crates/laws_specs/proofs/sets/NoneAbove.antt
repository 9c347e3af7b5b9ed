-- In a run in which a rule is chosen, no rule of the set above its own one matches, by truths for what rules of the set ask.
use Rattle.std.proofs.Common.{◌≡◌, ◌≢◌, ◌↔◌, ℕ, ◌==◌, ◌≤◌, length, Bool, true, false, List, [], flat_map, Some, is_some, slice_get, Contains, refl, sym, subst, ◌∙◌, inl, inr, arith, eqb-true, eq-eqb}
use Rattle.std.proofs.lemmas.Bool.{cases_Bool, false≢true}
use Rattle.std.proofs.lemmas.Int.{ints}
use Rattle.std.proofs.lemmas.Grind.{common_steps}
use Rattle.model.specs.rules.Values.{Value}
use Rattle.model.specs.rules.Meaning.{Meaning}
use Rattle.model.specs.rules.Choice.{choice}
use Rattle.model.specs.rules.Matching.{matches}
use Rattle.model.specs.rules.Program.{Program, is_multi, rules_of}
use Rattle.model.specs.rules.Typed.{TypedRule}
use Rattle.model.specs.rules.Picks.{site_content}
use Rattle.model.specs.sites.Sites.{Constraint, SetRule, SiteSet, SiteTerm, unfold_site}
use Rattle.model.specs.sites.Closure.{DemandsHold, ClosedDemandsHold, IsMet, AreEqual, HasConstraint}
use Rattle.model.specs.visits.Demands.{demands_of}
use Rattle.model.specs.sites.Overlap.{BuiltRule, built_rules}
use Rattle.model.specs.trees.Places.{joins_in}
use Rattle.model.proofs.Elements.{In, in_from_contains, contains_from_in, in_slice, slice_in, in_map, map_in, in_flat_map, from_flat_map}
use Rattle.laws_trees.proofs.choosing.OtherRules.{most}
use Rattle.laws_typing.specs.WellTypedPrograms.{IsWellTypedProgram}
use Rattle.laws_trees.specs.MatchLaws.{BuiltDemandsHoldAlike}
use Rattle.laws_specs.specs.Specs.{Specs}
use Rattle.laws_specs.specs.Conditions.{IsMetAs, is_told_apart}
use Rattle.laws_specs.specs.Meets.{Atoms, AreNumbers}
use Rattle.laws_specs.specs.ConditionLaws.{IsCalled}
use Rattle.laws_specs.proofs.PlainOutcomes.{is_tried, holds_matches}
use Rattle.laws_specs.proofs.Valuations.{Called, sites_as, args_as}
use Rattle.laws_specs.proofs.Assumptions.{met, same}
use Rattle.laws_specs.proofs.Answers.{called, IsPicked, quiet, content_meets, is_met, meets_so, content_equals, are_equal, equals_so, there, decided, bool_asked}
use Rattle.laws_sites.proofs.built.WellBuiltSets.{in_from_all}
use Rattle.laws_specs.specs.SetConditions.{pairs_of, set_condition, IsNoneAboveInSet}
use Rattle.laws_specs.proofs.sets.SetNumbers.{in_one_class, joining_class, another_member, members_pair, pair_members}
use Rattle.laws_specs.proofs.sets.SourceRules.{HasSourceRule}

module _ (p : Program) (t : ℕ) (set : SiteSet) (well : IsWellTypedProgram p) (alike : BuiltDemandsHoldAlike) (specs : Specs) (d : Atoms) (m : Meaning) (args : List Value) (single : is_multi p t ≡ false) (c : IsCalled p specs t d m args (choice p m (rules_of p t) args).calls) where
  abbrev rs : List TypedRule
  rs = rules_of p t

  abbrev K : Called
  K = called p specs t d m args c

  abbrev tree : ℕ → SiteTerm
  tree s = unfold_site set.sites s

  abbrev met_at : SiteTerm → Constraint → Bool
  met_at s k = content_meets p specs t d m args well single c k (site_content m args [] s)

  abbrev equal_at : SiteTerm → SiteTerm → Bool
  equal_at a b = content_equals p specs t d m args well single c (site_content m args [] a) (site_content m args [] b)

  is_met_at : (s : SiteTerm) (k : Constraint) → met_at s k ≡ true → IsMet m args [] s k
  is_met_at s k h = is_met p specs t d m args well single c k s (site_content m args [] s) refl h

  are_equal_at : (a b : SiteTerm) → equal_at a b ≡ true → AreEqual m args [] a b
  are_equal_at a b h = are_equal p specs t d m args well single c a b (site_content m args [] a) (site_content m args [] b) refl refl h

  -- a rule of the set, and its source rule
  module _ (place : ℕ) (r : SetRule) (s : HasSourceRule p t set place r) where
    abbrev b : BuiltRule
    b = s.typed

    listed : Contains rs b.rule
    listed = contains_from_in rs b.rule (in_slice rs place b.rule s.here)

    hold_alike : DemandsHold m args [] (demands_of p b.rule) ↔ ClosedDemandsHold m args [] b.demands
    hold_alike =
        alike p t m args b [] well (contains_from_in (built_rules p t) b s.listed)
        (is_tried p t m args b.rule well c.typed c.serves listed (quiet p specs t d m args well single c b.rule listed))

    -- where its demands hold, what it asks is met
    asked_met : ClosedDemandsHold m args [] b.demands → (u : SiteTerm) (k : Constraint) → In (set_condition t set r).constraints (u, k) → met_at u k ≡ true
    asked_met h u k i =
        let n = in_map (λ (e : ℕ × Constraint). (tree e.0, e.1)) r.constraints (u, k) i in
        subst (λ (x : SiteTerm × Constraint). met_at x.0 x.1 ≡ true) n.2
        (meets_so p specs t d m args well single c (tree n.0.0) n.0.1 (h.constraints (tree n.0.0) n.0.1 (s.is.constraints.asked n.0.0 n.0.1 (contains_from_in r.constraints n.0 n.1)).1))

    pairs_met : ClosedDemandsHold m args [] b.demands → (u v : SiteTerm) → In (set_condition t set r).equalities (u, v) → equal_at u v ≡ true
    pairs_met h u v i =
        let n = in_map (λ (e : ℕ × ℕ). (tree e.0, tree e.1)) (flat_map pairs_of r.classes) (u, v) i in
        let l = from_flat_map pairs_of r.classes n.0 n.1 in
        let e = pair_members l.0 n.0 l.2 in
        let j = s.is.classes.joined n.0.0 n.0.1 (in_one_class r.classes l.0 n.0.0 n.0.1 l.1 e.0 e.1) in
        subst (λ (x : SiteTerm × SiteTerm). equal_at x.0 x.1 ≡ true) n.2
        (equals_so p specs t d m args well single c (tree n.0.0) (tree n.0.1) (h.classes j.2 (tree n.0.0) (tree n.0.1) j.3 j.4 j.5))

    -- and where all that it asks is met, its demands hold
    module _ (constraints : (u : SiteTerm) (k : Constraint) → In (set_condition t set r).constraints (u, k) → met_at u k ≡ true) (equalities : (u v : SiteTerm) → In (set_condition t set r).equalities (u, v) → equal_at u v ≡ true) where
      pair_equal : (class : List ℕ) (x y : ℕ) → In r.classes class → In class x → In class y → x ≢ y → AreEqual m args [] (tree x) (tree y)
      pair_equal class x y l i j n =
          are_equal_at (tree x) (tree y)
          (equalities (tree x) (tree y)
          (map_in (λ (e : ℕ × ℕ). (tree e.0, tree e.1)) (flat_map pairs_of r.classes) (x, y) (in_flat_map pairs_of r.classes class (x, y) l (members_pair class x y i j n))))

      members_equal : (x y : ℕ) → joins_in r.classes x y ≡ true → AreEqual m args [] (tree x) (tree y)
      members_equal x y h =
          let k = joining_class r.classes x y h in
          elim (cases_Bool (x == y)) [
            | inr n ↦ pair_equal k.0 x y k.1 k.2 k.3 (λ e. false≢true (sym n ∙ eq-eqb x y e))
            | inl e ↦
                let o = another_member r.classes s.is.classes.once k.0 k.1 (in_from_all (λ l. 2 ≤ length l) r.classes s.is.classes.many k.0 k.1) x k.2 in
                let q = pair_equal k.0 x o.0 k.1 k.2 o.1 o.2 in
                subst (λ n. AreEqual m args [] (tree x) (tree n)) (eqb-true x y e) (record { value = q.value; first = q.first; second = q.first })
          ]

      all_hold : DemandsHold m args [] (demands_of p b.rule)
      all_hold =
          hold_alike.1
          (record {
            constraints = λ u k i.
                (let n = s.is.constraints.all_asked u k i in
                subst (λ x. IsMet m args [] x k) n.2
                (is_met_at (tree n.0) k (constraints (tree n.0) k (map_in (λ (e : ℕ × Constraint). (tree e.0, e.1)) r.constraints (n.0, k) (in_from_contains r.constraints (n.0, k) n.1)))));
            classes = λ class u v l i j.
                (grind (arith, common_steps, members_equal, s.is.classes.all_joined class u v l i j));
          })

      matched : is_some (matches p m b.rule args) ≡ true
      matched = holds_matches p t m args b.rule well c.typed c.serves listed (quiet p specs t d m args well single c b.rule listed) all_hold

  module _ (sources : (place : ℕ) (r : SetRule) → slice_get set.rules place ≡ Some r → HasSourceRule p t set place r) (numbers : AreNumbers d) where
    -- of a rule of the set by itself
    place_of : (q : SetRule) → Contains set.rules q → (place : ℕ) × HasSourceRule p t set place q
    place_of q i = let n = slice_in set.rules q (in_from_contains set.rules q i) in (n.0, sources n.0 q n.1)

    decided_at : (q : SetRule) (u : SiteTerm) (k : Constraint) → Contains set.rules q → In (set_condition t set q).constraints (u, k) → is_told_apart k ≡ true → IsMetAs specs (sites_as K) u k → met_at u k ≡ true
    decided_at q u k j i g w =
        let s = place_of q j in
        let n = in_map (λ (e : ℕ × Constraint). (tree e.0, e.1)) q.constraints (u, k) i in
        let h : HasConstraint (demands_of p s.1.typed.rule) u k =
        subst (λ (x : SiteTerm × Constraint). HasConstraint (demands_of p s.1.typed.rule) x.0 x.1) n.2 ((s.1.asks.constraints n.0.0 n.0.1).0 (contains_from_in q.constraints n.0 n.1)).1 in
        decided p specs t d m args well single c numbers u k
        (λ b ty e. bool_asked p specs t d m args well single c numbers s.1.typed.rule (listed s.0 q s.1) h.source b ty (subst (λ y. Contains (demands_of p s.1.typed.rule).constraints (h.source, y)) e h.asked)) g w

    pub none_above_in_set : (place : ℕ) (r : SetRule) (s : HasSourceRule p t set place r) → IsPicked K t s.typed.rule → IsNoneAboveInSet specs t set r (args_as K) (sites_as K)
    none_above_in_set place r s x =
        let own = (hold_alike place r s).0 x.holds in
        record {
          there = there p specs t d m args well single c numbers;
          constraint = met_at;
          equality = equal_at;
          own = λ u k i. asked_met place r s own u k (in_from_contains (set_condition t set r).constraints (u, k) i);
          own_equality = λ u v i. pairs_met place r s own u v (in_from_contains (set_condition t set r).equalities (u, v) i);
          met = λ u k g. met K u k (is_met_at u k g);
          equal = λ u v g. same K u v (are_equal_at u v g);
          decided = λ q u k a i g w. decided_at q u k a.0 (in_from_contains (set_condition t set q).constraints (u, k) i) g w;
          none = λ q a f g.
              (let o = place_of q a.0 in
              let matching = matched o.0 q o.1 (λ u k i. f u k (contains_from_in (set_condition t set q).constraints (u, k) i)) (λ u v i. g u v (contains_from_in (set_condition t set q).equalities (u, v) i)) in
              let lower = most p m args rs s.typed.rule x.is_chosen o.1.typed.rule (in_from_contains rs o.1.typed.rule (listed o.0 q o.1)) matching in
              grind (arith, common_steps, ints));
        }
