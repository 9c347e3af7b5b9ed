-- The demands of a set's rule, by the numbers of its sites, hold exactly where the closed demands do that it is built of.
use Rattle.std.proofs.Common.{◌≡◌, ◌==◌, ◌≤◌, ℕ, true, ◌&&◌, List, [], ◌∷◌, length, Option, Some, None, is_some, refl, sym, ap, subst, ◌∙◌, inl, inr, arith, eq-eqb, eqb-true}
use Rattle.std.proofs.lemmas.Bool.{and_parts, and_from, false≢true}
use Rattle.std.specs.List.{list_all}
use Rattle.std.proofs.lemmas.Grind.{common_steps}
use Rattle.model.specs.rules.Values.{Value}
use Rattle.model.specs.rules.Meaning.{Content, one, Meaning}
use Rattle.model.specs.rules.Outcome.{then_option}
use Rattle.model.specs.rules.Picks.{Pick, site_content}
use Rattle.model.specs.trees.Run.{World, as_value, content_fields, world_of}
use Rattle.model.specs.trees.Places.{is_in, joins_in}
use Rattle.model.specs.trees.Collects.{content_at, meets, same_value, value_at, all_same, demands_hold}
use Rattle.model.specs.sites.Sites.{Site, Constraint, SetRule, unfold_site}
use Rattle.model.specs.sites.Closure.{Closed, ClosedDemandsHold}
use Rattle.model.specs.sites.RuleSets.{AsksFor, Equates}
use Rattle.model.proofs.Elements.{In, in_from_contains, contains_from_in, in_any, any_in, all_in, all_from}
use Rattle.model.proofs.ValuesEqual.{eq_means, eq_same}
use Rattle.laws_sites.proofs.built.WellBuiltSets.{in_from_all}
use Rattle.laws_trees.proofs.Contents.{Given, is_value}

found_in : (x : ℕ) (xs : List ℕ) → is_in x xs ≡ true → In xs x
found_in x xs h = let a = in_any (λ y. y == x) xs h in subst (In xs) (eqb-true a.0 x a.2) a.1

in_found : (x : ℕ) (xs : List ℕ) → In xs x → is_in x xs ≡ true
in_found x xs i = any_in (λ y. y == x) xs x i (eq-eqb x x refl)

-- two values that are there and are one
both_same : (o q : Option Value) → same_value o q ≡ true → (v : Value) × (o ≡ Some v) × (q ≡ Some v)
both_same (Some v) (Some w) h = (v, refl, ap Some (sym (eq_means v w h)))
both_same (Some v) None h = absurd (false≢true h)
both_same None q h = absurd (false≢true h)

same_both : (o q : Option Value) (v : Value) → o ≡ Some v → q ≡ Some v → same_value o q ≡ true
same_both o q v e f = ap (λ x. same_value x q) e ∙ ap (same_value (Some v)) f ∙ eq_same v

module _ (g : Given) (t : ℕ) (sites : List Site) where
  abbrev m : Meaning
  m = g.meaning

  abbrev args : List Value
  args = g.args

  abbrev k : Pick
  k = g.pick

  abbrev w : World
  w = world_of g.program t sites m args

  met_means : (c : Constraint) (o : Option Content) → meets m c o ≡ true → (x : Content) × (o ≡ Some x) × (is_some (content_fields m c x) ≡ true)
  met_means c o h = grind (arith, common_steps)

  -- the sites of a class of numbers have one value
  class_value : (l : List ℕ) → 2 ≤ length l → all_same w k l ≡ true → (v : Value) × ((s : ℕ) → In l s → value_at w k s ≡ Some v)
  class_value [] n h = absurd (omega (arith, n))
  class_value (a ∷ []) n h = absurd (omega (arith, n))
  class_value (a ∷ (b ∷ rest)) n h =
      let x = both_same (value_at w k a) (value_at w k b) (all_in (λ u. same_value (value_at w k a) (value_at w k u)) (b ∷ rest) b h (inl refl)) in (
        x.0,
        λ s i. elim i [
          | inl e ↦ subst (λ u. value_at w k u ≡ Some x.0) e x.1
          | inr j ↦
              let y = both_same (value_at w k a) (value_at w k s) (all_in (λ u. same_value (value_at w k a) (value_at w k u)) (b ∷ rest) s h j) in
              y.2 ∙ sym y.1 ∙ x.1
        ],
      )

  module _ (d : Closed) (r : SetRule) (asks : AsksFor sites d r.constraints) (equates : Equates sites d r.classes) where
    holds_closed : demands_hold w k r ≡ true → ClosedDemandsHold m args k d
    holds_closed h =
        let a = and_parts (list_all (λ x. meets m x.1 (content_at w k x.0)) r.constraints) (list_all (all_same w k) r.classes) h in
        record {
          constraints = λ u c i.
              (let s = asks.all_asked u c i in
              let x = met_means c (content_at w k s.0) (all_in (λ y. meets m y.1 (content_at w k y.0)) r.constraints (s.0, c) a.0 (in_from_contains r.constraints (s.0, c) s.1)) in
              record { content = x.0; held = subst (λ z. site_content m args k z ≡ Some x.0) s.2 x.1; meets = x.2 });
          classes = λ class u v i j n.
              (let s = equates.all_joined class u v i j n in
              let l = in_any (λ c. is_in s.0 c && is_in s.1 c) r.classes s.2 in
              let b = and_parts (is_in s.0 l.0) (is_in s.1 l.0) l.2 in
              let x = class_value l.0 (in_from_all (λ c. 2 ≤ length c) r.classes equates.many l.0 l.1) (all_in (all_same w k) r.classes l.0 a.1 l.1) in
              record {
                value = x.0;
                first = subst (λ z. site_content m args k z ≡ Some (one x.0)) s.3 (is_value (content_at w k s.0) x.0 (x.1 s.0 (found_in s.0 l.0 b.0)));
                second = subst (λ z. site_content m args k z ≡ Some (one x.0)) s.4 (is_value (content_at w k s.1) x.0 (x.1 s.1 (found_in s.1 l.0 b.1)));
              });
        }

    closed_holds : ClosedDemandsHold m args k d → demands_hold w k r ≡ true
    closed_holds h =
        and_from (list_all (λ x. meets m x.1 (content_at w k x.0)) r.constraints) (list_all (all_same w k) r.classes)
        (all_from (λ x. meets m x.1 (content_at w k x.0)) r.constraints
        (λ x i.
        let c = h.constraints (unfold_site sites x.0) x.1 (asks.asked x.0 x.1 (contains_from_in r.constraints x i)).1 in
        ap (meets m x.1) c.held ∙ c.meets))
        (all_from (all_same w k) r.classes (λ l i. class_same l (λ a b m n. joined l i a b m n)))
      where
        joined : (l : List ℕ) → In r.classes l → (a b : ℕ) → In l a → In l b → joins_in r.classes a b ≡ true
        joined l i a b m n = any_in (λ c. is_in a c && is_in b c) r.classes l i (and_from (is_in a l) (is_in b l) (in_found a l m) (in_found b l n))

        pair_same : (a b : ℕ) → joins_in r.classes a b ≡ true → same_value (value_at w k a) (value_at w k b) ≡ true
        pair_same a b j =
            let s = equates.joined a b j in
            let e = h.classes s.2 (unfold_site sites a) (unfold_site sites b) s.3 s.4 s.5 in
            same_both (value_at w k a) (value_at w k b) e.value (ap (λ o. then_option o as_value) e.first) (ap (λ o. then_option o as_value) e.second)

        class_same : (l : List ℕ) → ((a b : ℕ) → In l a → In l b → joins_in r.classes a b ≡ true) → all_same w k l ≡ true
        class_same [] f = refl
        class_same (a ∷ rest) f = all_from (λ b. same_value (value_at w k a) (value_at w k b)) rest (λ b i. pair_same a b (f a b (inl refl) (inr i)))

    pub numbers_hold : (demands_hold w k r ≡ true → ClosedDemandsHold m args k d) × (ClosedDemandsHold m args k d → demands_hold w k r ≡ true)
    numbers_hold = (holds_closed, closed_holds)
