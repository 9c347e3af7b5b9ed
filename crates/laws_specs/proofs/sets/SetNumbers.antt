-- The numbers of a rule of a set: what stands at and below a number is below its tree, and a class has two members at least.
use Rattle.std.proofs.Common.{◌≡◌, ◌≢◌, ℕ, zero, suc, ◌==◌, ◌≤◌, not, Bool, true, List, [], ◌∷◌, ◌++◌, length, map, filter, flat_map, refl, sym, subst, ◌∙◌, inl, inr, arith, eqb-true, eq-eqb}
use Rattle.std.proofs.lemmas.Grind.{common_steps}
use Rattle.std.proofs.lemmas.Bool.{cases_Bool, and_parts, and_from, false≢true}
use Rattle.model.specs.lists.Names.{IsDistinct}
use Rattle.model.specs.sites.Sites.{Site, sources_of, sources_at, SiteTerm, each_term, layer, unfold_site}
use Rattle.model.specs.trees.Places.{is_in, joins_in, below, all_below}
use Rattle.model.proofs.DistinctJoined.{distinct_tail, not_in_tail}
use Rattle.model.proofs.Elements.{In, contains_from_in, from_flat_map, in_map, map_in, in_flat_map, in_filter, filter_from, passed_filter, any_in, in_any}
use Rattle.laws_sites.proofs.built.Unfolding.{SourcesFirst, unfolds}
use Rattle.laws_specs.specs.SetConditions.{pairs_of}
use Rattle.laws_specs.proofs.sets.CallsMade.{CallsAre, AllCallsAre}

-- 1. sites at and below a number
module _ (P : SiteTerm → Type 0) (sites : List Site) (first : SourcesFirst sites) where
  abbrev at : ℕ → SiteTerm
  at s = unfold_site sites s

  each_source : (ss : List ℕ) → AllCallsAre P (each_term at ss) → (a : ℕ) → In ss a → CallsAre P (at a)
  each_source [] h a i = absurd i
  each_source (s ∷ ss) h a (inl e) = subst (λ n. CallsAre P (at n)) e h.0
  each_source (s ∷ ss) h a (inr i) = each_source ss h.1 a i

  layer_sources : (b : Site) → CallsAre P (layer at b) → (a : ℕ) → In (sources_of b) a → CallsAre P (at a)
  layer_sources b h a i = grind (arith, common_steps, each_source)

  source_calls : (s : ℕ) → CallsAre P (at s) → (a : ℕ) → In (sources_at sites s) a → CallsAre P (at a)
  source_calls s h a i = grind (arith, unfolds, layer_sources)

  calls_below : (n s : ℕ) → CallsAre P (at s) → (u : ℕ) → In (below n sites s) u → CallsAre P (at u)
  calls_below zero s h u i = absurd i
  calls_below (suc n) s h u (inl e) = subst (λ m. CallsAre P (at m)) e h
  calls_below (suc n) s h u (inr i) = grind (arith, common_steps, calls_below n, from_flat_map (below n sites) (sources_at sites s) u i, source_calls s h, from_flat_map, source_calls)

  pub all_calls_below : (ss : List ℕ) → ((s : ℕ) → In ss s → CallsAre P (at s)) → (u : ℕ) → In (all_below sites ss) u → CallsAre P (at u)
  all_calls_below ss f u i = let m = from_flat_map (λ s. below (suc s) sites s) ss u i in calls_below (suc m.0) m.0 (f m.0 m.1) u m.2

-- 2. classes
pub in_one_class : (classes : List (List ℕ)) (class : List ℕ) (a b : ℕ) → In classes class → In class a → In class b → joins_in classes a b ≡ true
in_one_class classes class a b c i j = grind (arith, common_steps, and_from (is_in a class) (is_in b class), eq-eqb a a refl, eq-eqb b b refl, any_in, and_from, eq-eqb)

distinct_right : (xs ys : List ℕ) → IsDistinct (xs ++ ys) → IsDistinct ys
distinct_right [] ys h = h
distinct_right (x ∷ xs) ys h = distinct_right xs ys (distinct_tail x (xs ++ ys) h)

first_two : (classes : List (List ℕ)) → IsDistinct (flat_map (λ c. c) classes) → (x y : ℕ) (rest : List ℕ) → In classes (x ∷ (y ∷ rest)) → x ≢ y
first_two [] h x y rest i = absurd i
first_two (c ∷ cs) h x y rest (inl e) =
    let others = flat_map (λ (k : List ℕ). k) cs in
    let here : IsDistinct (x ∷ (y ∷ (rest ++ others))) = subst (λ k. IsDistinct (k ++ others)) e h in
    λ same. not_in_tail x (y ∷ (rest ++ others)) here (contains_from_in (y ∷ (rest ++ others)) x (inl (sym same)))
first_two (c ∷ cs) h x y rest (inr i) = first_two cs (distinct_right c (flat_map (λ (k : List ℕ). k) cs) h) x y rest i

-- each member has another one beside it
pub another_member : (classes : List (List ℕ)) → IsDistinct (flat_map (λ c. c) classes) → (class : List ℕ) → In classes class → 2 ≤ length class → (a : ℕ) → In class a → (b : ℕ) × In class b × (a ≢ b)
another_member classes once (x ∷ (y ∷ rest)) c many a i =
    elim (cases_Bool (a == x)) [
      | inl t ↦ (y, inr (inl refl), λ same. first_two classes once x y rest c (sym (eqb-true a x t) ∙ same))
      | inr n ↦ (x, inl refl, λ same. false≢true (sym n ∙ eq-eqb a x same))
    ]
another_member classes once a c many h i = grind (arith, common_steps)

pub joining_class : (classes : List (List ℕ)) (a b : ℕ) → joins_in classes a b ≡ true → (class : List ℕ) × In classes class × In class a × In class b
joining_class classes a b h = grind (arith, common_steps, in_any, and_parts)

-- a pair of a class: two different members
pub members_pair : (class : List ℕ) (a b : ℕ) → In class a → In class b → a ≢ b → In (pairs_of class) (a, b)
members_pair class a b i j n =
    in_flat_map (λ x. map (λ y. (x, y)) (filter (λ y. not (x == y)) class)) class a (a, b) i
    (map_in (λ y. (a, y)) (filter (λ y. not (a == y)) class) b (filter_from (λ y. not (a == y)) class b j (passes (a == b) refl)))
  where
    passes : (c : Bool) → (a == b) ≡ c → not c ≡ true
    passes c e = grind (arith, common_steps)

pub pair_members : (class : List ℕ) (e : ℕ × ℕ) → In (pairs_of class) e → In class e.0 × In class e.1 × (e.0 ≢ e.1)
pair_members class e i = grind (arith, common_steps, from_flat_map, in_map, passed_filter, in_filter, eq-eqb)
