-- The calls that a site unwraps are found by taking sites apart, the greatest first.
use Rattle.std.proofs.Common.{Bool, true, eqb-true, if◌then◌else◌, get_or, drop, ◌≡◌, ◌⊎◌, ℕ, suc, ◌+◌, ◌<◌, ◌≤◌, List, [], ◌∷◌, ◌++◌, length, map, Option, Some, None, slice_get, All, refl, sym, ap, ◌∙◌, subst, inl, inr, arith}
use Rattle.std.proofs.lemmas.List.{map-append}
use Rattle.std.proofs.lemmas.Bool.{cases_Bool, cond-false}
use Rattle.std.specs.Ordering.{nat_cmp}
use Rattle.std.specs.declared.cmp.Ordering.TheVariants.{Less}
use Rattle.std.specs.BTreeSet.{insert_key}
use Rattle.std.specs.Bool.{◌==◌}
use Rattle.std.specs.Prelude.{IsTrue}
use Rattle.std.proofs.lemmas.Cmp.{ranked}
use Rattle.std.proofs.lemmas.Map.Lookups.{exact_unsigned}
use Rattle.std.proofs.lemmas.Grind.{common_steps}
use Rattle.model.specs.sites.Sites.{Site, extractor_site, constructor_site, iterator_site, make_variant_site, match_variant_site, make_struct_site, extract_struct_site, make_some_site, match_some_site, match_tuple_site, sources_of, sources_at, SiteTerm, each_term, layer, layer_at, unfold_site}
use Rattle.model.specs.visits.Demands.{unwraps, unwraps_all}
use Rattle.model.proofs.Elements.{In, in_from_contains, contains_from_in, in_either, in_left, in_right}
use Rattle.model.proofs.Members.{all_members}
use Rattle.laws_sites.proofs.built.Unfolding.{SourcesFirst, unfolds}
use Rattle.core_syntax.specs.Stable.{Members, contains}
use Rattle.core_rule_sets.proofs.ListTails.{rest_is}
use Rattle.core_builder.specs.VisitedSites.{AreUnwrapped, IsWalked, unwrapped_at, unwrapped_source, with_keys}

-- 1. keys
inserted : (keys : List ℕ) (k t : ℕ) → In (insert_key nat_cmp keys k) t → In keys t ⊎ (k ≡ t)
inserted [] k t i = elim i [ inl e ↦ inr e | inr n ↦ absurd n ]
inserted (x ∷ xs) k t i = grind (arith, common_steps, inserted xs k t)

stays_in : (keys : List ℕ) (k t : ℕ) → In keys t → In (insert_key nat_cmp keys k) t
stays_in [] k t i = absurd i
stays_in (x ∷ xs) k t i = grind (arith, common_steps, stays_in xs k t)

comes_in : (keys : List ℕ) (k : ℕ) → In (insert_key nat_cmp keys k) k
comes_in [] k = inl refl
comes_in (x ∷ xs) k = grind (arith, common_steps, comes_in xs k, exact_unsigned k x)

keys_from : (keys ns : List ℕ) (t : ℕ) → In (with_keys keys ns) t → In keys t ⊎ In ns t
keys_from keys [] t i = inl i
keys_from keys (n ∷ ns) t i = grind (arith, common_steps, keys_from (insert_key nat_cmp keys n) ns t i, inserted keys n t)

keys_stay : (keys ns : List ℕ) (t : ℕ) → In keys t → In (with_keys keys ns) t
keys_stay keys [] t i = i
keys_stay keys (n ∷ ns) t i = keys_stay (insert_key nat_cmp keys n) ns t (stays_in keys n t i)

keys_come : (keys ns : List ℕ) (t : ℕ) → In ns t → In (with_keys keys ns) t
keys_come keys [] t i = absurd i
keys_come keys (n ∷ ns) t i = grind (arith, common_steps, keys_come (insert_key nat_cmp keys n) ns t, keys_stay (insert_key nat_cmp keys n) ns t, comes_in keys n)

pub one_more_key : (keys next xs : List ℕ) (i x : ℕ) → i < length xs → x ≡ get_or xs i x → next ≡ insert_key nat_cmp keys x → with_keys next (drop (i + 1) xs) ≡ with_keys keys (drop i xs)
one_more_key keys next xs i x l is e = ap (λ k. with_keys k (drop (i + 1) xs)) e ∙ ap (with_keys keys) (sym (rest_is xs i x l is))

-- 2. what one layer unwraps
module _ (f : ℕ → SiteTerm) (u : SiteTerm) where
  -- a source unwraps it
  abbrev Deeper : List ℕ → Type 0
  Deeper xs = (a : ℕ) × In xs a × In (unwraps (f a)) u

  from_each : (xs : List ℕ) → In (unwraps_all (each_term f xs)) u → Deeper xs
  from_each [] i = absurd i
  from_each (x ∷ xs) i = grind (arith, common_steps, from_each xs, in_either (unwraps (f x)) (unwraps_all (each_term f xs)) u i)

  to_each : (xs : List ℕ) → Deeper xs → In (unwraps_all (each_term f xs)) u
  to_each [] d = absurd d.1
  to_each (x ∷ xs) d =
      elim d.1 [
        | inl e ↦ in_left (unwraps (f x)) (unwraps_all (each_term f xs)) u (subst (λ y. In (unwraps (f y)) u) (sym e) d.2)
        | inr j ↦ in_right (unwraps (f x)) (unwraps_all (each_term f xs)) u (to_each xs (d.0, j, d.2))
      ]

  from_one : (x : ℕ) → In (unwraps (f x)) u → Deeper (x ∷ [])
  from_one x i = (x, inl refl, i)

  to_one : (x : ℕ) → Deeper (x ∷ []) → In (unwraps (f x)) u
  to_one x d = elim d.1 [ inl e ↦ subst (λ y. In (unwraps (f y)) u) (sym e) d.2 | inr n ↦ absurd n ]

  from_layer : (b : Site) → In (unwraps (layer f b)) u → In (map f (unwrapped_source b)) u ⊎ Deeper (sources_of b)
  from_layer b i = grind (arith, common_steps, from_one, from_each)

  to_layer : (b : Site) → Deeper (sources_of b) → In (unwraps (layer f b)) u
  to_layer (extractor_site term source) d = to_one source d
  to_layer (constructor_site term sources instance) d = to_each sources d
  to_layer (iterator_site source) d = to_one source d
  to_layer (make_variant_site ty variant fields) d = to_each fields d
  to_layer (match_variant_site source variant field) d = to_one source d
  to_layer (make_struct_site ty fields) d = to_each fields d
  to_layer (extract_struct_site source field) d = to_one source d
  to_layer (make_some_site source) d = to_one source d
  to_layer (match_some_site source) d = inr (to_one source d)
  to_layer (match_tuple_site source field) d = to_one source d
  to_layer _ d = absurd d.1

  -- of what may be a site
  abbrev sources_in : Option Site → List ℕ
  sources_in o = elim o [ None ↦ [] | Some b ↦ sources_of b ]

  abbrev unwrapped_in : Option Site → List ℕ
  unwrapped_in o = elim o [ None ↦ [] | Some b ↦ unwrapped_source b ]

  from_at : (o : Option Site) → In (unwraps (layer_at f o)) u → In (map f (unwrapped_in o)) u ⊎ Deeper (sources_in o)
  from_at None i = absurd i
  from_at (Some b) i = from_layer b i

  to_at : (o : Option Site) → Deeper (sources_in o) → In (unwraps (layer_at f o)) u
  to_at None d = absurd d.1
  to_at (Some b) d = to_layer b d

  itself_at : (o : Option Site) → In (map f (unwrapped_in o)) u → In (unwraps (layer_at f o)) u
  itself_at o i = grind (arith, common_steps)

unwrapped_at_source : (o : Option Site) (c : ℕ) → In (elim o [ None ↦ [] | Some b ↦ unwrapped_source b ]) c → In (elim o [ None ↦ [] | Some b ↦ sources_of b ]) c
unwrapped_at_source o c i = grind (arith, common_steps)

-- 3. after some steps: the sites that are walked, those that are due, and the calls that were found
-- what a site unwraps is one of the calls, or a site unwraps it that is due or was walked before
abbrev IsCovered : List Site → Members ℕ → List ℕ → List ℕ → ℕ → Type 0
IsCovered sites before due calls s =
    (u : SiteTerm) → In (unwraps (unfold_site sites s)) u
    → In (map (unfold_site sites) calls) u ⊎ ((t : ℕ) × (In due t ⊎ IsTrue (contains ◌==◌ before t)) × In (unwraps (unfold_site sites t)) u)

-- a site was walked before, or is now, after all that are due
abbrev IsPassed : List Site → Members ℕ → List ℕ → List ℕ → ℕ → Type 0
IsPassed sites before due calls s = IsTrue (contains ◌==◌ before s) ⊎ (((t : ℕ) → In due t → t < s) × (s < length sites) × IsCovered sites before due calls s)

pub record Searched (sites : List Site) (s : ℕ) (before walked : Members ℕ) (due calls : List ℕ) (steps : ℕ) : Type 0 where
  pub below : (t : ℕ) → In due t → t + steps ≤ s
  pub within : (c : ℕ) → In calls c → c < length sites
  pub found : (u : SiteTerm) → In (map (unfold_site sites) calls) u → In (unwraps (unfold_site sites s)) u
  pub each : (t : ℕ) (u : SiteTerm) → In due t → In (unwraps (unfold_site sites t)) u → In (unwraps (unfold_site sites s)) u
  pub all : IsCovered sites before due calls s
  pub passed : (t : ℕ) → IsTrue (contains ◌==◌ walked t) → IsPassed sites before due calls t

pub search_starts : (sites : List Site) (s : ℕ) (before : Members ℕ) (due calls : List ℕ) → due ≡ s ∷ [] → calls ≡ [] → Searched sites s before before due calls 0
search_starts sites s before due calls one none = grind (arith, common_steps)

unless : (w : Bool) (xs : List ℕ) (x : ℕ) → In (if w then [] else xs) x → In xs x
unless w xs x i = grind (arith, common_steps)

module _ (sites : List Site) (first : SourcesFirst sites) (s : ℕ) (there : s < length sites) (before : Members ℕ) where
  abbrev f : ℕ → SiteTerm
  f = unfold_site sites

  module _ (walked after : Members ℕ) (due rest next calls found : List ℕ) (k steps : ℕ) (taken : due ≡ rest ++ k ∷ []) (less : (t : ℕ) → In rest t → t < k)
      (noted : (t : ℕ) → contains ◌==◌ after t ≡ (if k == t then true else contains ◌==◌ walked t))
      (more : next ≡ with_keys rest (if contains ◌==◌ walked k then [] else sources_at sites k))
      (got : found ≡ calls ++ (if contains ◌==◌ walked k then [] else unwrapped_at sites k)) (h : Searched sites s before walked due calls steps) where
    abbrev sources : List ℕ
    sources = if contains ◌==◌ walked k then [] else sources_at sites k

    abbrev unwrapped : List ℕ
    unwrapped = if contains ◌==◌ walked k then [] else unwrapped_at sites k

    greatest : In due k
    greatest = subst (λ d. In d k) (sym taken) (in_right rest (k ∷ []) k (inl refl))

    other : (t : ℕ) → In rest t → In due t
    other t i = subst (λ d. In d t) (sym taken) (in_left rest (k ∷ []) t i)

    source : (t : ℕ) → In (sources_at sites k) t → t < k
    source t i = first k t (contains_from_in (sources_at sites k) t i)

    either : (t : ℕ) → In next t → In rest t ⊎ In (sources_at sites k) t
    either t i = elim (keys_from rest sources t (subst (λ d. In d t) more i)) [ inl j ↦ inl j | inr j ↦ inr (unless (contains ◌==◌ walked k) (sources_at sites k) t j) ]

    less_again : (t : ℕ) → In next t → t < k
    less_again t i = elim (either t i) [ inl j ↦ less t j | inr j ↦ source t j ]

    of_k : (u : SiteTerm) → In (unwraps (layer_at f (slice_get sites k))) u → In (unwraps (f s)) u
    of_k u i = h.each k u greatest (subst (λ w. In (unwraps w) u) (sym (unfolds sites first k)) i)

    calls_are : map f found ≡ map f calls ++ map f unwrapped
    calls_are = ap (map f) got ∙ map-append f calls unwrapped

    unwrapped_mapped : (w : Bool) (u : SiteTerm) → In (map f (if w then [] else unwrapped_at sites k)) u → In (map f (unwrapped_at sites k)) u
    unwrapped_mapped w u i = grind (arith, common_steps)

    calls_either : (u : SiteTerm) → In (map f found) u → In (map f calls) u ⊎ In (map f (unwrapped_at sites k)) u
    calls_either u i =
        elim (in_either (map f calls) (map f unwrapped) u (subst (λ l. In l u) calls_are i)) [ inl j ↦ inl j | inr j ↦ inr (unwrapped_mapped (contains ◌==◌ walked k) u j) ]

    calls_stay : (u : SiteTerm) → In (map f calls) u → In (map f found) u
    calls_stay u i = subst (λ l. In l u) (sym calls_are) (in_left (map f calls) (map f unwrapped) u i)

    -- what the site that is taken unwraps: it was walked before, or its sources are due now
    abbrev IsHeld : SiteTerm → Type 0
    IsHeld u = In (map f found) u ⊎ ((t : ℕ) × (In next t ⊎ IsTrue (contains ◌==◌ before t)) × In (unwraps (f t)) u)

    of_taken : (u : SiteTerm) → In (unwraps (f k)) u → IsHeld u
    of_taken u i =
        elim (cases_Bool (contains ◌==◌ walked k)) [
          | inl w ↦
              elim (h.passed k w) [
                | inl b ↦ inr (k, inr b, i)
                | inr p ↦ let l = p.0 k greatest in absurd (omega (arith, l))
              ]
          | inr w ↦
              elim (from_at f u (slice_get sites k) (subst (λ x. In (unwraps x) u) (unfolds sites first k) i)) [
                | inl m ↦ grind (arith, common_steps, in_right (map f calls) (map f unwrapped) u)
                | inr d ↦ grind (arith, common_steps, keys_come rest sources d.0)
              ]
        ]

    of_due : (u : SiteTerm) (t : ℕ) → In due t → In (unwraps (f t)) u → IsHeld u
    of_due u t i j = grind (arith, common_steps, in_either rest (k ∷ []) t (subst (λ d. In d t) taken i), keys_stay rest sources t, of_taken u)

    still_covered : (t : ℕ) → IsCovered sites before due calls t → IsCovered sites before next found t
    still_covered t c u i = grind (arith, common_steps, calls_stay u, of_due u)

    taken_within : k < length sites
    taken_within = let b = h.below k greatest in omega (arith, b, there)

    still_passed : (t : ℕ) → IsTrue (contains ◌==◌ after t) → IsPassed sites before next found t
    still_passed t w =
        elim (cases_Bool (k == t)) [
          | inl e ↦ subst (IsPassed sites before next found) (eqb-true k t e) (inr (less_again, taken_within, of_taken))
          | inr n ↦
              elim (h.passed t (sym (noted t ∙ cond-false (k == t) true (contains ◌==◌ walked t) n) ∙ w)) [
                | inl b ↦ inl b
                | inr p ↦
                    inr (
                      λ x i. elim (either x i) [ inl j ↦ p.0 x (other x j) | inr j ↦ let l = source x j in let m = p.0 k greatest in omega (arith, l, m) ],
                      p.1,
                      still_covered t p.2,
                    )
              ]
        ]

    pub search_goes_on : Searched sites s before after next found (suc steps)
    search_goes_on = record {
      below = λ t i. let a = less_again t i in let b = h.below k greatest in omega (arith, a, b);
      within = λ c i.
          elim (in_either calls unwrapped c (subst (λ l. In l c) got i)) [
            | inl j ↦ h.within c j
            | inr j ↦
                let a = source c (unwrapped_at_source (slice_get sites k) c (unless (contains ◌==◌ walked k) (unwrapped_at sites k) c j)) in
                omega (arith, a, taken_within)
          ];
      found = λ u i. elim (calls_either u i) [ inl j ↦ h.found u j | inr j ↦ of_k u (itself_at f u (slice_get sites k) j) ];
      each = λ t u i j.
          elim (either t i) [
            | inl a ↦ h.each t u (other t a) j
            | inr a ↦ of_k u (to_at f u (slice_get sites k) (t, a, j))
          ];
      all = still_covered s h.all;
      passed = still_passed;
    }

  -- nothing is due any more
  pub search_ends : (walked : Members ℕ) (due calls : List ℕ) (steps : ℕ) → ((t : ℕ) → In due t → ⊥) → Searched sites s before walked due calls steps → AreUnwrapped sites s before walked calls
  search_ends walked due calls steps none h = record {
    within = all_members (λ n. n < length sites) calls (λ n i. h.within n (in_from_contains calls n i));
    unwrapped = λ u i. contains_from_in (unwraps (f s)) u (h.found u (in_from_contains (map f calls) u i));
    all = ended s h.all;
    walked = λ t w. elim (h.passed t w) [ inl b ↦ inl b | inr p ↦ inr (p.1, ended t p.2) ];
  }
    where
      ended : (t : ℕ) → IsCovered sites before due calls t → IsWalked sites before calls t
      ended t c u i =
          elim (c u (in_from_contains (unwraps (f t)) u i)) [
            | inl j ↦ inl (contains_from_in (map f calls) u j)
            | inr d ↦ elim d.1 [ inl j ↦ absurd (none d.0 j) | inr b ↦ inr (d.0, b, contains_from_in (unwraps (f d.0)) u d.2) ]
          ]

-- 4. the greatest is taken first
pub all_less : (rest : List ℕ) (k : ℕ) → All (λ t. nat_cmp t k ≡ Less) rest → (t : ℕ) → In rest t → t < k
all_less rest k h t i = let c = contains_from_in rest t i in ranked t k Less (sym (subst (λ x. nat_cmp x k ≡ Less) c.2 (h c.0 t c.1)))

pub none_left : (keys : List ℕ) → (0 < length keys → ⊥) → (t : ℕ) → In keys t → ⊥
none_left keys h t i = grind (arith, common_steps)
