-- A rule's demands after their closing, listed as those of its set's rule.
use Rattle.std.proofs.Common.{◌≡◌, ℕ, suc, ◌<◌, ◌==◌, true, false, List, [], ◌∷◌, length, Some, is_some, slice_index_or, All, Contains, flat_map, refl, sym, ap, ◌∙◌, inl, inr, arith, eq-eqb}
use Rattle.std.specs.Prelude.{nat_eq}
use Rattle.std.specs.List.{AllByRecursion}
use Rattle.std.specs.List as Std
use Rattle.std.proofs.lemmas.Bool.{cond-true, and_parts, false≢true}
use Rattle.std.proofs.lemmas.List.Elements.{All-cons, All-tail}
use Rattle.std.proofs.lemmas.Option.{get_or_from_slice_get}
use Rattle.std.proofs.lemmas.Grind.{common_steps}
use Rattle.core_containers.specs.Partition.{in_set, IsPartition}
use Rattle.laws_sites.specs.RuleByRule.{AreListedAs}
use Rattle.model.specs.lists.Names.{IsDistinct}
use Rattle.model.specs.sites.Sites as Sites
use Rattle.model.specs.sites.Sites.{Site}
use Rattle.model.specs.sites.Closure.{Closed}
use Rattle.model.specs.trees.Places.{constraint_at, is_in}
use Rattle.model.proofs.DistinctJoined.{distinct_cons, distinct_append}
use Rattle.model.proofs.Elements.{In, in_from_contains, any_in, from_flat_map, slice_in}
use Rattle.model.proofs.Members.{nothing_in, member_from_get}
use Rattle.core_rule_sets.specs.Closings.{AreDemandsOf}
use Rattle.core_rule_sets.specs.SiteDemands.{constraint_held}
use Rattle.core_rule_sets.specs.Listings.{ascends, is_below_first, sites_of}
use Rattle.core_rule_sets.specs.SiteViews.{constraint_views}
use Rattle.core_rule_sets.specs.declared.demanded.Demanded.{Demanded}
use Rattle.core_rule_sets.specs.declared.trie_again.Constraint.{Constraint}
use Rattle.core_rule_sets.proofs.Ascending.{sites_of_views}
use Rattle.core_rule_sets.proofs.JoinedSets.{in_set_in, together_joins}
use Rattle.core_rule_sets.proofs.SetsListed.{below_rest}

-- 1. constraints
-- a site that stands in a list is asked something by it
asked_here : (d : ℕ × Sites.Constraint) (ds : List (ℕ × Sites.Constraint)) → is_some (constraint_at (d ∷ ds) d.0) ≡ true
asked_here d ds = ap is_some (cond-true (d.0 == d.0) (Some d.1) (constraint_at ds d.0) (eq-eqb d.0 d.0 refl))

asked_later : (d : ℕ × Sites.Constraint) (ds : List (ℕ × Sites.Constraint)) (s : ℕ) → is_some (constraint_at ds s) ≡ true → is_some (constraint_at (d ∷ ds) s) ≡ true
asked_later d ds s h = grind (arith, common_steps)

each_asked : (ds : List (ℕ × Sites.Constraint)) (n : ℕ) → ((s : ℕ) → is_some (constraint_at ds s) ≡ true → s < n) → All (λ d. d.0 < n) ds
each_asked [] n h = λ k d l. absurd (omega (arith, l))
each_asked (d ∷ ds) n h = All-cons (λ d. d.0 < n) d ds (h d.0 (asked_here d ds)) (each_asked ds n (λ s t. h s (asked_later d ds s t)))

-- numbers that ascend are distinct
is_in_contains : (xs : List ℕ) (a : ℕ) → Contains xs a → is_in a xs ≡ true
is_in_contains xs a c = any_in (λ y. y == a) xs a (in_from_contains xs a c) (eq-eqb a a refl)

ascending_distinct : (xs : List ℕ) → ascends xs ≡ true → IsDistinct xs
ascending_distinct [] h = λ j k x e f. absurd (nothing_in x (member_from_get [] j x e))
ascending_distinct (x ∷ xs) h =
    distinct_cons x xs (λ c. let l = below_rest x xs x h (is_in_contains xs x c) in absurd (omega (arith, l)))
    (ascending_distinct xs (and_parts (is_below_first x xs) (ascends xs) h).1)

-- 2. classes
differs : (x : ℕ) (xs : List ℕ) → AllByRecursion (λ y. nat_eq x y ≡ false) xs → In xs x → ⊥
differs x [] a i = absurd i
differs x (y ∷ xs) a (inl e) = false≢true (sym a.0 ∙ eq-eqb x y (sym e))
differs x (y ∷ xs) a (inr i) = differs x xs a.1 i

distinct_members : (xs : List ℕ) → Std.IsDistinct nat_eq xs → IsDistinct xs
unfolding Std.IsDistinct
distinct_members [] d = ascending_distinct [] refl
distinct_members (x ∷ xs) d = distinct_cons x xs (λ c. differs x xs d.0 (in_from_contains xs x c)) (distinct_members xs d.1)

members_distinct : (cs : List (List ℕ)) → All (Std.IsDistinct nat_eq) cs
    → ((x j k : ℕ) → in_set nat_eq (slice_index_or cs j []) x ≡ true → in_set nat_eq (slice_index_or cs k []) x ≡ true → j ≡ k) → IsDistinct (flat_map (λ c. c) cs)
members_distinct [] d apart = ascending_distinct [] refl
members_distinct (c ∷ cs) d apart =
    distinct_append c (flat_map (λ c. c) cs) (distinct_members c (d 0 c (omega arith)))
    (members_distinct cs (All-tail (Std.IsDistinct nat_eq) c cs d) (λ x j k a b. let e = apart x (suc j) (suc k) a b in omega (arith, e)))
    (λ x here later.
    let there = from_flat_map (λ c. c) cs x (in_from_contains (flat_map (λ c. c) cs) x later) in
    let at = slice_in cs there.0 there.1 in
    let first : in_set nat_eq c x ≡ true = in_set_in c x ∙ is_in_contains c x here in
    let second : in_set nat_eq (slice_index_or cs at.0 []) x ≡ true =
    ap (λ l. in_set nat_eq l x) (get_or_from_slice_get cs at.0 there.0 [] at.1) ∙ in_set_in there.0 x ∙ any_in (λ y. y == x) there.0 x there.2 (eq-eqb x x refl) in
    let e = apart x 0 (suc at.0) first second in absurd (omega (arith, e)))

-- 3. both
pub demands_listed : (sites : List Site) (d : Demanded) (k : Closed) (cs : List (ℕ × Constraint)) → AreDemandsOf sites d k → IsPartition nat_eq d.equals → ascends (sites_of cs) ≡ true
    → ((s : ℕ) → constraint_at (constraint_views cs) s ≡ constraint_held d s) → AreListedAs sites k (constraint_views cs) d.equals
demands_listed sites d k cs h p ascending held = record {
  stand = h.stand;
  asked = λ s l. held s ∙ h.asked s l;
  asked_within = each_asked (constraint_views cs) (length sites) (λ s t. h.asked_within s (sym (ap is_some (held s)) ∙ t));
  asked_once = ascending_distinct (sites_of (constraint_views cs)) (ap ascends (sites_of_views cs) ∙ ascending);
  asked_made = h.asked_made;
  joined = λ a b l m. sym (together_joins d.equals p a b) ∙ h.equated a b l m;
  joined_within = λ a b t. h.equated_within a b (together_joins d.equals p a b ∙ t);
  joined_made = h.equated_made;
  joined_once = members_distinct d.equals p.distinct p.disjoint;
  many = p.plural;
}
