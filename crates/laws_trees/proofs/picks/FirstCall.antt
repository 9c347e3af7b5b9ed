-- A call that is ready can be gone over before others, and results are of places alone.
use Rattle.std.proofs.Common.{◌≡◌, ℕ, Bool, true, cond, List, [], ◌∷◌, ◌++◌, Option, Some, None, Contains, flat_map, refl, sym, ap, ◌∙◌, subst, subst₂, arith}
use Rattle.std.specs.Prelude.{IsPermutation, ◌&&◌}
use Rattle.std.specs.List.{list_all}
use Rattle.std.proofs.lemmas.List.Elements.{Contains-append_left}
use Rattle.std.proofs.lemmas.List.Sorted.{IsPermutation-refl, IsPermutation-trans}
use Rattle.std.proofs.lemmas.Grind.{common_steps}
use Rattle.model.specs.rules.Values.{Value}
use Rattle.model.specs.rules.Meaning.{Content, Meaning}
use Rattle.model.specs.trees.Run.{World, or_else}
use Rattle.model.specs.sites.Sites.{SiteTerm, SetRule, unfold_site}
use Rattle.model.specs.visits.Demands.{site_term_eq}
use Rattle.model.specs.rules.Picks.{Pick, place_of, site_content, places_in, picks_over, SitedVars, matches_under, results_with, results_under}
use Rattle.model.specs.trees.Collects.{content_at, meets, all_same, demands_hold, as_list, result_in}
use Rattle.model.specs.rules.Program.{Program}
use Rattle.model.specs.rules.Typed.{TypedRule}
use Rattle.model.proofs.Bags.{flat_flat, each_moved, exchanged}
use Rattle.model.proofs.Members.{in_head, in_tail}
use Rattle.laws_trees.specs.PickLaws.{GiveSamePlaces}
use Rattle.laws_trees.specs.Orders.{Covered, OrderedFrom, IsOfPlaces, CallsCanComeFirst, ResultsAreOfPlaces}
use Rattle.model.proofs.SameSites.{term_means}
use Rattle.laws_trees.proofs.picks.SamePlaces.{content_same, PicksAlike, matching_same, ends_same}
use Rattle.laws_trees.proofs.picks.LongerPicks.{keys, keys_push, content_kept}

-- 1. places
else_kept : (b : Bool) (n : ℕ) (o q : Option ℕ) → cond b (Some n) (or_else o q) ≡ or_else (cond b (Some n) o) q
else_kept b n o q = grind (arith, common_steps)

place_after : (k rest : Pick) (c : SiteTerm) → place_of (k ++ rest) c ≡ or_else (place_of k c) (place_of rest c)
place_after [] rest c = refl
place_after (e ∷ k) rest c = ap (cond (site_term_eq e.0 c) (Some e.1)) (place_after k rest c) ∙ else_kept (site_term_eq e.0 c) e.1 (place_of k c) (place_of rest c)

longer_same : (k l rest : Pick) → GiveSamePlaces k l → GiveSamePlaces (k ++ rest) (l ++ rest)
longer_same k l rest g c = place_after k rest c ∙ ap (λ o. or_else o (place_of rest c)) (g c) ∙ sym (place_after l rest c)

one_of_two : (o : Option ℕ) (x y : Bool) (n i : ℕ) → (x ≡ true → y ≡ true → ⊥)
    → or_else (or_else o (cond x (Some n) None)) (cond y (Some i) None) ≡ or_else (or_else o (cond y (Some i) None)) (cond x (Some n) None)
one_of_two o x y n i h = grind (arith, common_steps)

two_same : (k : Pick) (a b : SiteTerm) (n i : ℕ) → (a ≡ b → ⊥) → GiveSamePlaces ((k ++ (a, n) ∷ []) ++ (b, i) ∷ []) ((k ++ (b, i) ∷ []) ++ (a, n) ∷ [])
two_same k a b n i h c =
    place_after (k ++ (a, n) ∷ []) ((b, i) ∷ []) c
    ∙ ap (λ o. or_else o (place_of ((b, i) ∷ []) c)) (place_after k ((a, n) ∷ []) c)
    ∙ one_of_two (place_of k c) (site_term_eq a c) (site_term_eq b c) n i (λ s t. h (term_means a c s ∙ sym (term_means b c t)))
    ∙ ap (λ o. or_else o (place_of ((a, n) ∷ []) c)) (sym (place_after k ((b, i) ∷ []) c))
    ∙ sym (place_after (k ++ (b, i) ∷ []) ((a, n) ∷ []) c)

-- 2. what is made of all picks of some calls
module _ (m : Meaning) (args : List Value) (f : Pick → List Content) (g : IsOfPlaces f) where
  abbrev pub made_by : Pick → List SiteTerm → List Content
  made_by k calls = flat_map f (picks_over m args k calls)

  pub made_each : (k : Pick) (c : SiteTerm) (calls : List SiteTerm) → made_by k (c ∷ calls) ≡ flat_map (λ n. made_by (k ++ (c, n) ∷ []) calls) (places_in (site_content m args k c))
  made_each k c calls = flat_flat f (λ n. picks_over m args (k ++ (c, n) ∷ []) calls) (places_in (site_content m args k c))

  made_same : (calls : List SiteTerm) (k l : Pick) → GiveSamePlaces k l → made_by k calls ≡ made_by l calls
  made_same [] k l h = ap (λ u. u ++ []) (g k l h)
  made_same (c ∷ calls) k l h = grind (arith, common_steps, made_same calls, content_same, made_each, longer_same)

  made_two : (k : Pick) (a b : SiteTerm) (n : ℕ) (calls : List SiteTerm) → Covered (keys k) b
      → made_by (k ++ (a, n) ∷ []) (b ∷ calls) ≡ flat_map (λ i. made_by ((k ++ (a, n) ∷ []) ++ (b, i) ∷ []) calls) (places_in (site_content m args k b))
  made_two k a b n calls h = grind (arith, common_steps, made_each, content_kept)

  first : (before after : List SiteTerm) (k : Pick) (c : SiteTerm) → OrderedFrom (keys k) before → Covered (keys k) c → (Contains before c → ⊥)
      → IsPermutation (made_by k (before ++ c ∷ after)) (made_by k (c ∷ (before ++ after)))
  first [] after k c o v d = IsPermutation-refl _
  first (x ∷ before) after k c o v d =
      let rest = before ++ after in
      let here = places_in (site_content m args k x) in
      let there = places_in (site_content m args k c) in
      let moved : IsPermutation (flat_map (λ n. made_by (k ++ (x, n) ∷ []) (before ++ c ∷ after)) here) (flat_map (λ n. made_by (k ++ (x, n) ∷ []) (c ∷ rest)) here)
      = each_moved _ _ here (λ n.
      first before after (k ++ (x, n) ∷ []) c
      (subst (λ l. OrderedFrom l before) (keys_push k (x, n)) o.1)
      (subst (λ l. Covered l c) (keys_push k (x, n)) (λ a h. Contains-append_left (keys k) (x ∷ []) a (v a h)))
      (λ h. d (in_tail x c before h))) in
      let left : flat_map (λ n. made_by (k ++ (x, n) ∷ []) (c ∷ rest)) here ≡ flat_map (λ n. flat_map (λ i. made_by ((k ++ (x, n) ∷ []) ++ (c, i) ∷ []) rest) there) here
      = λ j. flat_map (λ n. made_two k x c n rest v j) here in
      let right : flat_map (λ i. flat_map (λ n. made_by ((k ++ (x, n) ∷ []) ++ (c, i) ∷ []) rest) here) there ≡ flat_map (λ i. made_by (k ++ (c, i) ∷ []) (x ∷ rest)) there
      = (λ j. flat_map (λ i. flat_map (λ n. made_same rest ((k ++ (x, n) ∷ []) ++ (c, i) ∷ []) ((k ++ (c, i) ∷ []) ++ (x, n) ∷ []) (two_same k x c n i (λ e. d (subst (Contains (x ∷ before)) e (in_head x before)))) j) here) there)
      ∙ (λ j. flat_map (λ i. sym (made_two k c x i rest o.0) j) there) in
      subst₂ IsPermutation (sym (made_each k x (before ++ c ∷ after))) (right ∙ sym (made_each k c (x ∷ rest)))
      (IsPermutation-trans _ _ _ moved
      (subst (λ l. IsPermutation l (flat_map (λ i. flat_map (λ n. made_by ((k ++ (x, n) ∷ []) ++ (c, i) ∷ []) rest) here) there)) (sym left)
      (exchanged (λ n i. made_by ((k ++ (x, n) ∷ []) ++ (c, i) ∷ []) rest) here there)))

pub calls_can_come_first_lem : CallsCanComeFirst
calls_can_come_first_lem m args f k before after call g o v d = first m args f g before after k call o v d

-- 3. results
with_same : (p : Program) (m : Meaning) (r : TypedRule) (picks : PicksAlike) (o : Option SitedVars) → results_with p m picks.first r o ≡ results_with p m picks.second r o
with_same p m r picks o = grind (arith, common_steps, ends_same)

rule_same : (p : Program) (m : Meaning) (args : List Value) (r : TypedRule) (picks : PicksAlike) → results_under p m args r picks.first ≡ results_under p m args r picks.second
rule_same p m args r picks = ap (results_with p m picks.first r) (matching_same p m picks r args) ∙ with_same p m r picks (matches_under p m picks.second r args)

module _ (w : World) (picks : PicksAlike) where
  at_same : (s : ℕ) → content_at w picks.first s ≡ content_at w picks.second s
  at_same s = content_same w.meaning picks.first picks.second picks.same w.args (unfold_site w.sites s)

  class_same : (c : List ℕ) → all_same w picks.first c ≡ all_same w picks.second c
  class_same c = grind (arith, common_steps, at_same)

  demands_same : (r : SetRule) → demands_hold w picks.first r ≡ demands_hold w picks.second r
  demands_same r = λ j. list_all (λ d. meets w.meaning d.1 (at_same d.0 j)) r.constraints && list_all (λ c. class_same c j) r.classes

  result_same : (r : SetRule) → result_in w r picks.first ≡ result_in w r picks.second
  result_same r = λ j. cond (demands_same r j) (as_list (at_same r.result j)) []

pub results_are_of_places_lem : ResultsAreOfPlaces
results_are_of_places_lem = (λ p m args r k l g. rule_same p m args r (record { first = k; second = l; same = g }), λ w r k l g. result_same w (record { first = k; second = l; same = g }) r)
