-- Demands over numbers stay those that they stand for, step by step of the closing.
use Rattle.std.proofs.Common.{◌≡◌, ◌⊎◌, ℕ, zero, suc, ◌<◌, ◌≤◌, true, false, not, ◌&&◌, List, length, map, Option, Some, None, is_some, Contains, refl, sym, ap, ◌∙◌, subst, inl, inr, arith}
use Rattle.std.specs.Prelude.{nat_eq, nat_lt}
use Rattle.std.specs.List.{zip}
use Rattle.std.proofs.lemmas.Bool.{cases_Bool, and_parts, both_ways, false_from_ne_true, ltb-true, ltb-false}
use Rattle.std.proofs.lemmas.List.{length-map}
use Rattle.std.proofs.lemmas.Option.{same_Some, slice_get_within}
use Rattle.std.proofs.lemmas.Grind.{common_steps}
use Rattle.core_containers.specs.Partition.{together}
use Rattle.model.specs.sites.Sites.{Site, Constraint, SiteTerm, unfold_site, fields_from, field_terms}
use Rattle.model.specs.visits.Demands.{with_sites}
use Rattle.model.specs.sites.Closure.{Closed, constraint_of, without_class_of, merged_all, with_constraints}
use Rattle.model.specs.sites.RuleSets.{StandFor}
use Rattle.model.proofs.Elements.{In, in_from_contains, contains_from_in, slice_in, in_slice, in_map, in_zip}
use Rattle.model.proofs.SitesMade.{once_with}
use Rattle.laws_sites.proofs.Closing.{found_constraint, constraints_in}
use Rattle.laws_sites.proofs.FollowingDemands.{IsApart, without_in, each_apart, each_all_in}
use Rattle.model.specs.trees.Places.{constraint_at}
use Rattle.core_rule_sets.specs.SiteDemands.{constraint_held, are_equated, equated_each}
use Rattle.core_rule_sets.specs.SiteTables.{AddsFields}
use Rattle.core_rule_sets.specs.SiteViews.{constraint_views}
use Rattle.core_rule_sets.specs.Closings.{are_in_one_class, AreDemandsOf, AreFieldsOf, GoOn, asked_each, with_member}
use Rattle.core_rule_sets.specs.declared.demanded.Demanded.{Demanded}
use Rattle.core_rule_sets.proofs.ClassTests.{in_one, one_without, each_merged}
use Rattle.core_rule_sets.proofs.ClosingNumbers.{AreBelow, below_from_all, each_agree, asked_agree, each_within, asked_within}
use Rattle.core_rule_sets.proofs.SitesAdded.{same_all}

pub held_same : (d e : Demanded) → e.constraints ≡ d.constraints → (s : ℕ) → constraint_held e s ≡ constraint_held d s
held_same d e h s = ap (λ cs. constraint_at (constraint_views cs) s) h

pub equated_same : (d e : Demanded) → e.equals ≡ d.equals → (a b : ℕ) → are_equated e a b ≡ are_equated d a b
equated_same d e h a b = ap (λ l. together nat_eq l a b) h

abbrev pub without_class : Closed → SiteTerm → Closed
without_class k u = record { constraints = k.constraints; classes = without_class_of k.classes u; made = k.made }

abbrev pub with_asked : Closed → List SiteTerm → Constraint → Closed
with_asked k us c = record { constraints = with_constraints k.constraints (map (λ m. (m, c)) us); classes = k.classes; made = k.made }

abbrev pub with_equal : Closed → List (SiteTerm × SiteTerm) → Closed
with_equal k es = record { constraints = k.constraints; classes = merged_all k.classes es; made = k.made }

abbrev pub with_made : Closed → List SiteTerm → Closed
with_made k us = record { constraints = k.constraints; classes = k.classes; made = with_sites k.made us }

module _ (sites : List Site) (d : Demanded) (k : Closed) (h : AreDemandsOf sites d k) where
  abbrev n : ℕ
  n = length sites

  abbrev f : ℕ → SiteTerm
  f = unfold_site sites

  pub told_apart : (a b : ℕ) → a < n → b < n → f a ≡ f b → a ≡ b
  told_apart a b l m e = h.once a b (f a) (h.stand.exact a l) (h.stand.exact b m ∙ ap Some (sym e))

  pub apart_of : IsApart k.classes
  apart_of l m s i j x y =
      h.apart l m s (contains_from_in k.classes l i) (contains_from_in k.classes m j) (contains_from_in l s x) (contains_from_in m s y)

  pub stands_made : (a : ℕ) → a < n → In k.made (f a)
  stands_made a l = in_slice k.made a (f a) (h.stand.exact a l)

  apart_again : (ks : List (List SiteTerm)) → IsApart ks → (l m : List SiteTerm) (s : SiteTerm) → Contains ks l → Contains ks m → Contains l s → Contains m s → l ≡ m
  apart_again ks a l m s i j x y = a l m s (in_from_contains ks l i) (in_from_contains ks m j) (in_from_contains l s x) (in_from_contains m s y)

  -- 1. a class is taken away
  pub removed : (e : Demanded) (s : ℕ) → s < n → e.constraints ≡ d.constraints
      → ((a b : ℕ) → are_equated e a b ≡ (are_equated d a b && not (are_equated d s a))) → AreDemandsOf sites e (without_class k (f s))
  removed e s l same new = record {
    stand = h.stand;
    once = h.once;
    asked = λ a m. held_same d e same a ∙ h.asked a m;
    asked_within = λ a t. h.asked_within a (sym (ap is_some (held_same d e same a)) ∙ t);
    asked_made = h.asked_made;
    equated = grind (arith, common_steps, one_without k.classes apart_of (f s));
    equated_within = λ a b t. h.equated_within a b (and_parts (are_equated d a b) (not (are_equated d s a)) (sym (new a b) ∙ t)).0;
    equated_made = λ class u i j. h.equated_made class u (from_without class (f s) i) j;
    apart = λ l m u i j. h.apart l m u (from_without l (f s) i) (from_without m (f s) j);
  }
    where
      from_without : (class : List SiteTerm) (u : SiteTerm) → Contains (without_class_of k.classes u) class → Contains k.classes class
      from_without class u i =
          contains_from_in k.classes class (without_in k.classes u class (in_from_contains (without_class_of k.classes u) class i)).0

  -- 2. more is asked
  pub asked_more : (e : Demanded) (xs : List ℕ) (c : Constraint) → AreBelow n xs → e.equals ≡ d.equals
      → ((s : ℕ) → constraint_held e s ≡ asked_each (constraint_held d) xs c s) → AreDemandsOf sites e (with_asked k (map f xs) c)
  asked_more e xs c below same new = record {
    stand = h.stand;
    once = h.once;
    asked = λ s l. new s ∙ asked_agree n f told_apart xs below c (constraint_held d) k.constraints h.asked s l;
    asked_within = λ s t. asked_within n xs below c (constraint_held d) h.asked_within s (sym (ap is_some (new s)) ∙ t);
    asked_made = λ u b i.
        let more = map (λ m. (m, c)) (map f xs) in
        elim (constraints_in k.constraints more (u, b) (in_from_contains (with_constraints k.constraints more) (u, b) i)) [
          | inl j ↦ h.asked_made u b (contains_from_in k.constraints (u, b) j)
          | inr j ↦ contains_from_in k.made u (of_members u b j)
        ];
    equated = λ a b l m. equated_same d e same a b ∙ h.equated a b l m;
    equated_within = λ a b t. h.equated_within a b (sym (equated_same d e same a b) ∙ t);
    equated_made = h.equated_made;
    apart = h.apart;
  }
    where
      of_members : (u : SiteTerm) (b : Constraint) → In {X = SiteTerm × Constraint} (map (λ m. (m, c)) (map f xs)) (u, b) → In k.made u
      of_members u b j = grind (arith, common_steps, in_map (λ (v : SiteTerm). (v, c)) (map f xs) (u, b) j, in_map f xs, stands_made)

  -- 3. sites are made equal
  pub equated_more : (e : Demanded) (xs ys : List ℕ) → AreBelow n xs → AreBelow n ys → e.constraints ≡ d.constraints
      → ((a b : ℕ) → are_equated e a b ≡ equated_each (are_equated d) (zip xs ys) a b) → AreDemandsOf sites e (with_equal k (zip (map f xs) (map f ys)))
  equated_more e xs ys below within same new =
      let pairs = zip (map f xs) (map f ys) in
      record {
        stand = h.stand;
        once = h.once;
        asked = λ s l. held_same d e same s ∙ h.asked s l;
        asked_within = λ s t. h.asked_within s (sym (ap is_some (held_same d e same s)) ∙ t);
        asked_made = h.asked_made;
        equated = λ a b l m.
            new a b ∙ each_agree n f told_apart xs ys below within (are_equated d) (are_in_one_class k.classes) h.equated a b l m
            ∙ sym (each_merged pairs k.classes apart_of (f a) (f b));
        equated_within = λ a b t. each_within n xs ys below within (are_equated d) h.equated_within a b (sym (new a b) ∙ t);
        equated_made = λ class u i j.
            contains_from_in k.made u
            (each_all_in (In k.made) pairs k.classes
            (λ l v p q. in_from_contains k.made v (h.equated_made l v (contains_from_in k.classes l p) (contains_from_in l v q))) of_pair
            class u (in_from_contains (merged_all k.classes pairs) class i) (in_from_contains class u j));
        apart = apart_again (merged_all k.classes pairs) (each_apart pairs k.classes apart_of);
      }
    where
      of_list : (zs : List ℕ) → AreBelow n zs → (u : SiteTerm) → In (map f zs) u → In k.made u
      of_list zs w u i = let z = in_map f zs u i in subst (In k.made) z.2 (stands_made z.0 (w z.0 z.1))

      of_pair : (p : SiteTerm × SiteTerm) → In (zip (map f xs) (map f ys)) p → In k.made p.0 × In k.made p.1
      of_pair p i =
          let z = in_zip (map f xs) (map f ys) p i in
          (of_list xs below p.0 (in_slice (map f xs) z.0 p.0 z.1), of_list ys within p.1 (in_slice (map f ys) z.0 p.1 z.2))

  -- 4. there are more sites
  module _ (after : List Site) (us : List SiteTerm) (stand : StandFor after (with_sites k.made us)) (kept : (s : ℕ) → s < n → unfold_site after s ≡ f s) (longer : n ≤ length after) where
    abbrev g : ℕ → SiteTerm
    g = unfold_site after

    -- what a new site stands for was not made before
    is_new : (s : ℕ) → s < length after → nat_lt s n ≡ false → In k.made (g s) → ⊥
    is_new s l new i =
        let at = slice_in k.made (g s) i in
        let count = h.stand.count in
        let r = slice_get_within k.made at.0 (g s) at.1 in
        let old : at.0 < n = omega (arith, count, r) in
        let is : g at.0 ≡ g s = kept at.0 old ∙ same_Some (f at.0) (g s) (sym (h.stand.exact at.0 old) ∙ at.1) in
        let one : at.0 ≡ s = once_with k.made us h.once at.0 s (g at.0) (stand.exact at.0 (omega arith)) (stand.exact s l ∙ ap Some (sym is)) in
        both_ways (nat_lt s n) new (subst (λ j. nat_lt j n ≡ true) one (lt_true at.0 n old))
      where
        lt_true : (a b : ℕ) → a < b → nat_lt a b ≡ true
        lt_true a b l = elim (cases_Bool (nat_lt a b)) [ inl t ↦ t | inr q ↦ absurd (let m = ltb-false a b q in omega (arith, m)) ]

    none_there : (s : ℕ) (o : Option Constraint) → s < length after → nat_lt s n ≡ false → constraint_of k.constraints (g s) ≡ o → constraint_of k.constraints (g s) ≡ None
    none_there s None l new e = e
    none_there s (Some c) l new e =
        absurd (is_new s l new (in_from_contains k.made (g s) (h.asked_made (g s) c (contains_from_in k.constraints (g s, c) (found_constraint k.constraints (g s) c e)))))

    not_held : (s : ℕ) (o : Option Constraint) → nat_lt s n ≡ false → constraint_held d s ≡ o → constraint_held d s ≡ None
    not_held s o new e = grind (arith, common_steps, ltb-false s n new)

    not_one : (a b x : ℕ) → x < length after → nat_lt x n ≡ false → (x ≡ a) ⊎ (x ≡ b) → are_in_one_class k.classes (g a) (g b) ≡ false
    not_one a b x l new which = false_from_ne_true (are_in_one_class k.classes (g a) (g b)) spoken_of
      where
        spoken_of : are_in_one_class k.classes (g a) (g b) ≡ true → ⊥
        spoken_of t =
            let o = in_one k.classes (g a) (g b) t in
            let has : Contains o.class (g x) = grind (arith, common_steps, contains_from_in o.class (g a) o.first, contains_from_in o.class (g b) o.second) in
            is_new x l new (in_from_contains k.made (g x) (h.equated_made o.class (g x) (contains_from_in k.classes o.class o.there) has))

    not_equated : (a b x : ℕ) → nat_lt x n ≡ false → (x ≡ a) ⊎ (x ≡ b) → are_equated d a b ≡ false
    not_equated a b x new which = grind (arith, common_steps, false_from_ne_true (are_equated d a b), ltb-false x n new)

    pub grown : AreDemandsOf after d (with_made k us)
    grown = record {
      stand = stand;
      once = once_with k.made us h.once;
      asked = λ s l.
          elim (cases_Bool (nat_lt s n)) [
            | inl t ↦ let m = ltb-true s n t in h.asked s m ∙ ap (constraint_of k.constraints) (sym (kept s m))
            | inr q ↦ not_held s (constraint_held d s) q refl ∙ sym (none_there s (constraint_of k.constraints (g s)) l q refl)
          ];
      asked_within = λ s t. let l = h.asked_within s t in omega (arith, l);
      asked_made = λ u c i. contains_from_in (with_sites k.made us) u (still u (in_from_contains k.made u (h.asked_made u c i)));
      equated = λ a b l m.
          elim (cases_Bool (nat_lt a n)) [
            | inl t ↦ grind (arith, common_steps, ltb-true a n t, ltb-true b n, not_equated a b b, not_one a b b m)
            | inr q ↦ not_equated a b a q (inl refl) ∙ sym (not_one a b a l q (inl refl))
          ];
      equated_within = λ a b t. let w = h.equated_within a b t in let x : a < length after = omega (arith, w.0) in let y : b < length after = omega (arith, w.1) in (x, y);
      equated_made = λ class u i j. contains_from_in (with_sites k.made us) u (still u (in_from_contains k.made u (h.equated_made class u i j)));
      apart = h.apart;
    }
      where
        still : (u : SiteTerm) → In k.made u → In (with_sites k.made us) u
        still u i = grind (arith, common_steps, slice_in k.made u i, slice_get_within k.made, same_Some, in_slice (with_sites k.made us))

-- 5. a member's fields
from_as_many : (f g : ℕ → SiteTerm) (i n : ℕ) → length (fields_from f i n) ≡ length (fields_from g i n)
from_as_many f g i zero = refl
from_as_many f g i (suc n) = ap suc (from_as_many f g (suc i) n)

as_many_fields : (c : Constraint) (a b : SiteTerm) → length (field_terms c a) ≡ length (field_terms c b)
as_many_fields c a b = grind (arith, from_as_many)

module _ (sites : List Site) (d : Demanded) (k : Closed) (h : AreDemandsOf sites d k) (after : List Site) (c : Constraint) (member : ℕ) (fields others : List ℕ) (least : SiteTerm)
    (adds : AddsFields sites after c member others) (of_least : AreFieldsOf sites c fields least) where
  pub as_many : length fields ≡ length others
  as_many =
      let made = adds k.made h.once h.stand in
      sym (length-map fields (unfold_site sites)) ∙ ap length of_least.of_site ∙ as_many_fields c least (unfold_site sites member) ∙ sym (ap length made.numbers)
      ∙ length-map others (unfold_site after)

  pub member_joined : (e : Demanded) → e.constraints ≡ d.constraints → ((a b : ℕ) → are_equated e a b ≡ equated_each (are_equated d) (zip fields others) a b)
      → GoOn sites after e (with_member c least k (unfold_site sites member))
  member_joined e same new =
      let m = unfold_site sites member in
      let made = adds k.made h.once h.stand in
      let more = grown sites d k h after (field_terms c m) made.stand made.kept made.longer in
      let first : map (unfold_site after) fields ≡ field_terms c least =
      same_all (unfold_site after) (unfold_site sites) (length sites) fields made.kept of_least.within ∙ of_least.of_site in
      let longer = made.longer in
      record {
        demands =
            subst (λ es. AreDemandsOf after e (with_equal (with_made k (field_terms c m)) es)) (λ i. zip (first i) (made.numbers i))
            (equated_more after d (with_made k (field_terms c m)) more e fields others
            (λ x i. let l = below_from_all (length sites) fields of_least.within x i in omega (arith, l)) (below_from_all (length after) others made.within) same new);
        kept = made.kept;
        longer = made.longer;
      }
