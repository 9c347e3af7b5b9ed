-- A list of sites with one more: what its numbers stand for, where sources have smaller numbers.
use Rattle.std.proofs.Common.{◌≡◌, ◌⊎◌, ℕ, zero, suc, ◌<◌, ◌==◌, false, List, [], ◌∷◌, ◌++◌, length, Some, None, slice_get, Contains, inl, inr, refl, sym, ap, ap₂, ◌∙◌, subst, arith, eq-eqb}
use Rattle.std.proofs.lemmas.Bool.{cases_Bool, cond-true, cond-false, both_ways}
use Rattle.std.proofs.lemmas.List.{length_push}
use Rattle.std.proofs.lemmas.Option.{none-some, same_Some, slice_get_within}
use Rattle.std.proofs.lemmas.Grind.{common_steps}
use Rattle.model.specs.lists.Names.{IsDistinct}
use Rattle.model.specs.sites.Sites.{Site, bool_site, int_site, prim_site, argument_site, extractor_site, constructor_site, iterator_site, make_variant_site, match_variant_site, make_struct_site, extract_struct_site, make_some_site, match_some_site, match_tuple_site, sources_of, sources_at, SiteTerm, each_term, layer, layer_at, unfolded, unfold_site}
use Rattle.model.specs.visits.Demands.{has_site}
use Rattle.model.specs.sites.RuleSets.{StandFor}
use Rattle.model.proofs.Elements.{In, contains_from_in}
use Rattle.model.proofs.Members.{get_within}
use Rattle.model.proofs.Positions.{get_front, get_middle}
use Rattle.model.proofs.SitesMade.{in_has, has_in}
use Rattle.laws_sites.proofs.built.Unfolding.{SourcesFirst, layer_same, layer_at_same, unfolds}
use Rattle.core_rule_sets.specs.SiteTables.{AddsSite, StandsFor}

-- 1. one more site
front : (sites : List Site) (b : Site) (s : ℕ) → s < length sites → slice_get (sites ++ b ∷ []) s ≡ slice_get sites s
front sites b s l = let g = get_within sites s l in get_front sites (b ∷ []) s g.0 g.1 ∙ sym g.1

sources_cases : (sites : List Site) (b : Site) (s a : ℕ) → Contains (sources_at (sites ++ b ∷ []) s) a → Contains (sources_at sites s) a ⊎ ((s ≡ length sites) × Contains (sources_of b) a)
sources_cases (x ∷ sites) b (suc s) a c =
    elim (sources_cases sites b s a c) [ inl d ↦ inl d | inr d ↦ inr (ap suc d.0, d.1) ]
sources_cases sites b s a c = grind arith

pub sources_first_grown : (sites : List Site) (b : Site) → SourcesFirst sites → ((a : ℕ) → Contains (sources_of b) a → a < length sites) → SourcesFirst (sites ++ b ∷ [])
sources_first_grown sites b first h s a c = grind (arith, common_steps, sources_cases sites b s a c, first s a, h a)

-- 2. what a number stands for stays
module _ (sites : List Site) (b : Site) (first : SourcesFirst sites) where
  unfolded_kept : (n s : ℕ) → s < length sites → unfolded n (sites ++ b ∷ []) s ≡ unfolded n sites s
  unfolded_kept zero s l = refl
  unfolded_kept (suc n) s l =
      ap (layer_at (unfolded n (sites ++ b ∷ []))) (front sites b s l)
      ∙ layer_at_same (unfolded n (sites ++ b ∷ [])) (unfolded n sites) (slice_get sites s)
      (λ a i. let k : a < s = first s a (contains_from_in (sources_at sites s) a i) in unfolded_kept n a (omega arith))

  pub unfold_kept : (s : ℕ) → s < length sites → unfold_site (sites ++ b ∷ []) s ≡ unfold_site sites s
  unfold_kept s l = unfolded_kept (suc s) s l

  pub unfold_new : ((a : ℕ) → Contains (sources_of b) a → a < length sites) → unfold_site (sites ++ b ∷ []) (length sites) ≡ layer (unfold_site sites) b
  unfold_new h =
      unfolds (sites ++ b ∷ []) (sources_first_grown sites b first h) (length sites)
      ∙ ap (layer_at (unfold_site (sites ++ b ∷ []))) (get_middle sites b [])
      ∙ layer_same (unfold_site (sites ++ b ∷ [])) (unfold_site sites) b (λ a i. unfold_kept a (h a (contains_from_in (sources_of b) a i)))

-- 3. a layer tells the site, where sources are told by what they stand for
module _ (f : ℕ → SiteTerm) (n : ℕ) (one : (j k : ℕ) → j < n → k < n → f j ≡ f k → j ≡ k) where
  abbrev Below : List ℕ → Type 0
  Below xs = (a : ℕ) → In xs a → a < n

  one_list : (xs ys : List ℕ) → Below xs → Below ys → each_term f xs ≡ each_term f ys → xs ≡ ys
  one_list [] [] h k e = refl
  one_list (x ∷ xs) (y ∷ ys) h k e =
      let p : f x ≡ f y = cc in
      let q : each_term f xs ≡ each_term f ys = cc in
      ap₂ ◌∷◌ (one x y (h x (inl refl)) (k y (inl refl)) p) (one_list xs ys (λ a i. h a (inr i)) (λ a i. k a (inr i)) q)
  one_list _ _ h k e = cc

  pub one_layer : (a b : Site) → Below (sources_of a) → Below (sources_of b) → layer f a ≡ layer f b → a ≡ b
  one_layer (bool_site x s) (bool_site y t) h k e = cc
  one_layer (int_site x s) (int_site y t) h k e = cc
  one_layer (prim_site s) (prim_site t) h k e = cc
  one_layer (argument_site i) (argument_site j) h k e = cc
  one_layer (extractor_site t x) (extractor_site u y) h k e =
      let p : f x ≡ f y = cc in let q = one x y (h x (inl refl)) (k y (inl refl)) p in cc
  one_layer (constructor_site t xs i) (constructor_site u ys j) h k e = grind (arith, common_steps, one_list xs ys h k)
  one_layer (iterator_site x) (iterator_site y) h k e =
      let p : f x ≡ f y = cc in let q = one x y (h x (inl refl)) (k y (inl refl)) p in cc
  one_layer (make_variant_site s v xs) (make_variant_site t w ys) h k e = grind (arith, common_steps, one_list xs ys h k)
  one_layer (match_variant_site x v i) (match_variant_site y w j) h k e =
      let p : f x ≡ f y = cc in let q = one x y (h x (inl refl)) (k y (inl refl)) p in cc
  one_layer (make_struct_site s xs) (make_struct_site t ys) h k e = grind (arith, common_steps, one_list xs ys h k)
  one_layer (extract_struct_site x i) (extract_struct_site y j) h k e =
      let p : f x ≡ f y = cc in let q = one x y (h x (inl refl)) (k y (inl refl)) p in cc
  one_layer (make_some_site x) (make_some_site y) h k e =
      let p : f x ≡ f y = cc in let q = one x y (h x (inl refl)) (k y (inl refl)) p in cc
  one_layer (match_some_site x) (match_some_site y) h k e =
      let p : f x ≡ f y = cc in let q = one x y (h x (inl refl)) (k y (inl refl)) p in cc
  one_layer (match_tuple_site x i) (match_tuple_site y j) h k e =
      let p : f x ≡ f y = cc in let q = one x y (h x (inl refl)) (k y (inl refl)) p in cc
  one_layer _ _ h k e = cc

-- 4. sites that stand for terms, and one more of each
module _ (sites : List Site) (terms : List SiteTerm) (first : SourcesFirst sites) (once : IsDistinct terms) (stand : StandFor sites terms) where
  term_at : (s : ℕ) → s < length sites → slice_get terms s ≡ Some (unfold_site sites s)
  term_at = stand.exact

  one_number_of : (j k : ℕ) → j < length sites → k < length sites → unfold_site sites j ≡ unfold_site sites k → j ≡ k
  one_number_of j k l m e = once j k (unfold_site sites k) (term_at j l ∙ ap Some e) (term_at k m)

  module _ (b : Site) (below : (a : ℕ) → Contains (sources_of b) a → a < length sites) where
    abbrev term : SiteTerm
    term = layer (unfold_site sites) b

    -- a term that is there is one of this site's
    there_as_site : (s : ℕ) → s < length sites → unfold_site sites s ≡ term → slice_get sites s ≡ Some b
    there_as_site s l e =
        let g = get_within sites s l in
        g.1 ∙ ap Some
        (one_layer (unfold_site sites) (length sites) one_number_of g.0 b
        (λ a i. let k : a < s = first s a (subst (λ o. Contains (elim o as (λ _. List ℕ) [ None ↦ [] | Some x ↦ sources_of x ]) a) (sym g.1) (contains_from_in (sources_of g.0) a i)) in omega arith)
        (λ a i. below a (contains_from_in (sources_of b) a i))
        (sym (ap (layer_at (unfold_site sites)) g.1) ∙ sym (unfolds sites first s) ∙ e))

    site_as_term : (s : ℕ) → slice_get sites s ≡ Some b → unfold_site sites s ≡ term
    site_as_term s e = unfolds sites first s ∙ ap (layer_at (unfold_site sites)) e

in_of_get : (ts : List SiteTerm) (s : ℕ) (t : SiteTerm) → slice_get ts s ≡ Some t → In ts t
in_of_get (x ∷ ts) (suc s) t e = inr (in_of_get ts s t e)
in_of_get ts s t e = grind (arith, none-some, same_Some)

get_of_in : (ts : List SiteTerm) (t : SiteTerm) → In ts t → (s : ℕ) × (slice_get ts s ≡ Some t)
get_of_in [] t i = absurd i
get_of_in (x ∷ ts) t (inl e) = (zero, ap Some e)
get_of_in (x ∷ ts) t (inr i) = let r = get_of_in ts t i in (suc r.0, r.1)

module _ (before : List Site) (terms : List SiteTerm) (first : SourcesFirst before) (once : IsDistinct terms) (stand : StandFor before terms) (b : Site) (below : (a : ℕ) → Contains (sources_of b) a → a < length before) where
  abbrev new_term : SiteTerm
  new_term = layer (unfold_site before) b

  known_stands : (n : ℕ) → slice_get before n ≡ Some b → StandsFor before before terms b n
  known_stands n e =
      let l = slice_get_within before n b e in
      let is = site_as_term before terms first once stand b below n e in
      let has = in_has terms new_term (in_of_get terms n new_term (stand.exact n l ∙ ap Some is)) in
      record {
        stand = subst (StandFor before) (sym (cond-true (has_site terms new_term) terms (terms ++ new_term ∷ []) has)) stand;
        within = l;
        number = is;
        kept = λ s k. refl;
      }

  pub not_there : ((s : ℕ) → slice_get before s ≡ Some b → ⊥) → has_site terms new_term ≡ false
  not_there absent =
      elim (cases_Bool (has_site terms new_term)) [
        | inl h ↦
            let r = get_of_in terms new_term (has_in terms new_term h) in
            let l = slice_get_within terms r.0 new_term r.1 in
            let c = stand.count in
            let m : r.0 < length before = omega arith in
            absurd (absent r.0 (there_as_site before terms first once stand b below r.0 m (same_Some (unfold_site before r.0) new_term (sym (stand.exact r.0 m) ∙ r.1))))
        | inr n ↦ n
      ]

  new_stands : ((s : ℕ) → slice_get before s ≡ Some b → ⊥) → StandsFor before (before ++ b ∷ []) terms b (length before)
  new_stands absent =
      let p = length_push before b in
      let q = length_push terms new_term in
      let c = stand.count in
      let made = cond-false (has_site terms new_term) terms (terms ++ new_term ∷ []) (not_there absent) in
      let new_is = unfold_new before b first below in
      record {
        stand = subst (StandFor (before ++ b ∷ [])) (sym made) (record {
          exact = λ s l. elim (cases_Bool (s == length before)) [
            | inl t ↦ grind (arith, common_steps, get_middle terms new_term [])
            | inr f ↦
                let d : s ≡ length before → ⊥ = λ (d : s ≡ length before). both_ways (s == length before) f (eq-eqb s (length before) d) in
                let k : s < length before = omega arith in
                get_front terms (new_term ∷ []) s (unfold_site before s) (stand.exact s k) ∙ ap Some (sym (unfold_kept before b first s k))
          ];
          count = omega arith;
        });
        within = omega arith;
        number = new_is;
        kept = λ s l. unfold_kept before b first s l;
      }

  pub added_stands : (after : List Site) (n : ℕ) → AddsSite before after b n → StandsFor before after terms b n
  added_stands after n h = grind (arith, common_steps, known_stands n, new_stands)
