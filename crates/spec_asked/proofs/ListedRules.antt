-- The condition of a rule is valid where it is with classes that join the same sites.
use Rattle.std.proofs.Common.{◌≡◌, ◌==◌, ℕ, suc, true, not, ◌&&◌, List, ◌++◌, Contains, filter, flat_map, map, Some, refl, sym, subst, ◌∙◌, inl, inr, eqb-true, eq-eqb}
use Rattle.std.proofs.lemmas.Bool.{and_parts, and_from}
use Rattle.model.specs.rules.Program.{Program}
use Rattle.model.specs.sites.Sites.{SetRule, SiteSet, SiteTerm, unfold_site}
use Rattle.model.specs.trees.Places.{is_in, joins_in, below, all_below, return_uses}
use Rattle.model.specs.trees.SetRuns.{tested_sites}
use Rattle.model.proofs.Elements.{In, in_from_contains, contains_from_in, in_left, in_right, in_either, any_in, in_any, filter_from, in_filter, passed_filter, in_map, map_in, in_flat_map, from_flat_map}
use Rattle.laws_specs.specs.Conditions.{Valuation, Condition, IsAssumed, IsValid}
use Rattle.laws_specs.specs.SetConditions.{pairs_of, set_condition, IsNoneAboveInSet, IsValidBelowInSet}
use Rattle.laws_specs.specs.Specs.{Specs}
use Rattle.laws_specs.specs.Words.{DenotedList}
use Rattle.spec_asked.specs.Listed.{JoinAlike, with_classes}

-- 1. numbers that are in a list, and in a class with another one
pub is_there : (x : ℕ) (xs : List ℕ) → In xs x → is_in x xs ≡ true
is_there x xs i = any_in (λ y. y == x) xs x i (eq-eqb x x refl)

pub there_is : (x : ℕ) (xs : List ℕ) → is_in x xs ≡ true → In xs x
there_is x xs h = let a = in_any (λ y. y == x) xs h in subst (In xs) (eqb-true a.0 x a.2) a.1

pub in_class : (classes : List (List ℕ)) (c : List ℕ) (a b : ℕ) → In classes c → In c a → In c b → joins_in classes a b ≡ true
in_class classes c a b i j k = any_in (λ d. is_in a d && is_in b d) classes c i (and_from (is_in a c) (is_in b c) (is_there a c j) (is_there b c k))

class_with : (classes : List (List ℕ)) (a b : ℕ) → joins_in classes a b ≡ true → (c : List ℕ) × In classes c × In c a × In c b
class_with classes a b h =
    let m = in_any (λ d. is_in a d && is_in b d) classes h in
    let k = and_parts (is_in a m.0) (is_in b m.0) m.2 in
    (m.0, m.1, there_is a m.0 k.0, there_is b m.0 k.1)

pub pair_parts : (c : List ℕ) (e : ℕ × ℕ) → In (pairs_of c) e → (a : ℕ) × (b : ℕ) × In c a × In c b × (not (a == b) ≡ true) × ((a, b) ≡ e)
pair_parts c e i =
    let m = from_flat_map (λ a. map (λ b. (a, b)) (filter (λ b. not (a == b)) c)) c e i in
    let n = in_map (λ b. (m.0, b)) (filter (λ b. not (m.0 == b)) c) e m.2 in
    (m.0, n.0, m.1, in_filter (λ b. not (m.0 == b)) c n.0 n.1, passed_filter (λ b. not (m.0 == b)) c n.0 n.1, n.2)

pair_from : (c : List ℕ) (a b : ℕ) → In c a → In c b → not (a == b) ≡ true → In (pairs_of c) (a, b)
pair_from c a b i j n =
    in_flat_map (λ x. map (λ y. (x, y)) (filter (λ y. not (x == y)) c)) c a (a, b) i
    (map_in (λ y. (a, y)) (filter (λ y. not (a == y)) c) b (filter_from (λ y. not (a == y)) c b j n))

-- 2. what is assumed where classes join the same
module _ (t : ℕ) (set : SiteSet) (r : SetRule) (classes : List (List ℕ)) (alike : JoinAlike classes r.classes) where
  abbrev q : SetRule
  q = with_classes r classes

  abbrev tree : ℕ → SiteTerm
  tree s = unfold_site set.sites s

  abbrev these : Condition
  these = set_condition t set q

  abbrev those : Condition
  those = set_condition t set r

  abbrev roots : SetRule → List ℕ
  roots x = tested_sites x ++ return_uses (Some x)

  -- members of classes, and pairs of them
  member : (s : ℕ) → In (flat_map (λ c. c) classes) s → In (flat_map (λ c. c) r.classes) s
  member s i =
      let m = from_flat_map (λ (c : List ℕ). c) classes s i in
      let k = class_with r.classes s s (sym (alike s s) ∙ in_class classes m.0 s s m.1 m.2 m.2) in
      in_flat_map (λ c. c) r.classes k.0 s k.1 k.2

  pair : (e : ℕ × ℕ) → In (flat_map pairs_of classes) e → In (flat_map pairs_of r.classes) e
  pair e i =
      let m = from_flat_map pairs_of classes e i in
      let k = pair_parts m.0 e m.2 in
      let j = class_with r.classes k.0 k.1 (sym (alike k.0 k.1) ∙ in_class classes m.0 k.0 k.1 m.1 k.2 k.3) in
      subst (In (flat_map pairs_of r.classes)) k.5 (in_flat_map pairs_of r.classes j.0 (k.0, k.1) j.1 (pair_from j.0 k.0 k.1 j.2 j.3 k.4))

  equal : (a b : SiteTerm) → In these.equalities (a, b) → In those.equalities (a, b)
  equal a b i =
      let m = in_map (λ (e : ℕ × ℕ). (tree e.0, tree e.1)) (flat_map pairs_of classes) (a, b) i in
      subst (In those.equalities) m.2 (map_in (λ (e : ℕ × ℕ). (tree e.0, tree e.1)) (flat_map pairs_of r.classes) m.0 (pair m.0 m.1))

  -- sites that are made
  tested : (s : ℕ) → In (tested_sites q) s → In (tested_sites r) s
  tested s i =
      elim (in_either (map (λ d. d.0) r.constraints) (flat_map (λ c. c) classes) s i) [
        | inl j ↦ in_left (map (λ d. d.0) r.constraints) (flat_map (λ c. c) r.classes) s j
        | inr j ↦ in_right (map (λ d. d.0) r.constraints) (flat_map (λ c. c) r.classes) s (member s j)
      ]

  root : (s : ℕ) → In (roots q) s → In (roots r) s
  root s i =
      elim (in_either (tested_sites q) (return_uses (Some q)) s i) [
        | inl j ↦ in_left (tested_sites r) (return_uses (Some r)) s (tested s j)
        | inr j ↦ in_right (tested_sites r) (return_uses (Some r)) s j
      ]

  made : (s : SiteTerm) → In these.made s → In those.made s
  made s i =
      let m = in_map tree (all_below set.sites (roots q)) s i in
      let n = from_flat_map (λ s. below (suc s) set.sites s) (roots q) m.0 m.1 in
      subst (In those.made) m.2 (map_in tree (all_below set.sites (roots r)) m.0 (in_flat_map (λ s. below (suc s) set.sites s) (roots r) n.0 m.0 (root n.0 n.1) n.2))

  made_too : (s : SiteTerm) → Contains these.made s → Contains those.made s
  made_too s i = contains_from_in those.made s (made s (in_from_contains these.made s i))

  module _ (p : Program) (specs : Specs) where
    assumed : (args : DenotedList) (f : Valuation) → IsAssumed p specs those args f → IsAssumed p specs these args f
    assumed args f a = record {
      arguments = a.arguments;
      formed_args = a.formed_args;
      required = a.required;
      unknowns = a.unknowns;
      held = a.held;
      formed = a.formed;
      constraints = a.constraints;
      equalities = λ x y i. a.equalities x y (contains_from_in those.equalities (x, y) (equal x y (in_from_contains these.equalities (x, y) i)));
      calls = λ s i e. a.calls s (made_too s i) e;
      typed = λ s h i e f. a.typed s h (made_too s i) e f;
      picks = λ s i e. a.picks s (made_too s i) e;
      typed_picks = λ s h i e f. a.typed_picks s h (made_too s i) e f;
    }

    pub valid_alike : IsValid p specs these → IsValid p specs those
    valid_alike valid args f a = (let s = valid args f (assumed args f a) in record { provides = s.provides; requires = s.requires })

    -- and so is what no rule of greater priority is
    none_above : (args : DenotedList) (f : Valuation) → IsNoneAboveInSet specs t set r args f → IsNoneAboveInSet specs t set q args f
    none_above args f n = record {
      there = n.there;
      constraint = n.constraint;
      equality = n.equality;
      own = n.own;
      own_equality = λ x y i. n.own_equality x y (contains_from_in those.equalities (x, y) (equal x y (in_from_contains these.equalities (x, y) i)));
      met = n.met;
      equal = n.equal;
      decided = n.decided;
      none = n.none;
    }

    pub valid_below_alike : IsValidBelowInSet p specs t set q → IsValidBelowInSet p specs t set r
    valid_below_alike valid args f a n = (let s = valid args f (assumed args f a) (none_above args f n) in record { provides = s.provides; requires = s.requires })
