-- The calls of a rule by their numbers: different sites unfold to different terms, a site takes answers of the calls below
-- it, calls in the order of their numbers are in order, and one of them taken out.
use Rattle.std.proofs.Common.{◌≡◌, ◌⊎◌, ℕ, zero, suc, ◌+◌, ◌<◌, ◌≤◌, Bool, true, false, List, [], ◌∷◌, ◌++◌, length, map, filter, flat_map, Option, Some, None, slice_get, Contains, refl, sym, ap, ◌∙◌, subst, inl, inr, arith}
use Rattle.std.proofs.lemmas.Bool.{cases_Bool, cond-true, cond-false, both_ways, cases_lt}
use Rattle.std.proofs.lemmas.List.Elements.{Contains-append_left, Contains-append_right, Contains-append_cases}
use Rattle.std.proofs.lemmas.Grind.{common_steps}
use Rattle.model.specs.lists.Names.{IsDistinct}
use Rattle.model.specs.sites.Sites.{Site, bool_site, int_site, prim_site, argument_site, extractor_site, constructor_site, iterator_site, make_variant_site, match_variant_site, make_struct_site, extract_struct_site, make_some_site, match_some_site, match_tuple_site, SiteTerm, each_term, layer, layer_at, unfolded, unfold_site, sources_of, sources_at}
use Rattle.model.specs.trees.Places.{below}
use Rattle.model.specs.rules.Program.{numbers_from}
use Rattle.model.specs.trees.Collects.{calls_in, calls_in_all}
use Rattle.model.proofs.Members.{nothing_in, in_head, in_tail, in_cases, get_within, in_flat_map}
use Rattle.laws_trees.proofs.runs.Contents.{SourcesBefore, sources_in, unfolded_layer, unfolded_enough}
use Rattle.laws_trees.specs.Orders.{OrderedFrom}

-- 1. sites that unfold alike are one
same_each : (f : ℕ → SiteTerm) (ss rs : List ℕ) → ((u v : ℕ) → Contains ss u → Contains rs v → f u ≡ f v → u ≡ v) → each_term f ss ≡ each_term f rs → ss ≡ rs
same_each f [] [] h e = refl
same_each f [] (r ∷ rs) h e = cc
same_each f (s ∷ ss) [] h e = cc
same_each f (s ∷ ss) (r ∷ rs) h e = grind (arith, common_steps, same_each f ss rs (λ u v c d. h u v (in_tail s u ss c) (in_tail r v rs d)), in_head, in_tail)

layer_apart : (f : ℕ → SiteTerm) (a b : Site) → ((u v : ℕ) → Contains (sources_of a) u → Contains (sources_of b) v → f u ≡ f v → u ≡ v) → layer f a ≡ layer f b → a ≡ b
layer_apart f (bool_site x ty) (bool_site y tz) h e = cc
layer_apart f (int_site x ty) (int_site y tz) h e = cc
layer_apart f (prim_site n) (prim_site m) h e = cc
layer_apart f (argument_site i) (argument_site j) h e = cc
layer_apart f (extractor_site t s) (extractor_site u r) h e = grind (arith, common_steps, in_head)
layer_apart f (constructor_site t ss i) (constructor_site u rs j) h e = grind (arith, common_steps, same_each)
layer_apart f (iterator_site s) (iterator_site r) h e = grind (arith, common_steps, in_head)
layer_apart f (make_variant_site t i ss) (make_variant_site u j rs) h e = grind (arith, common_steps, same_each)
layer_apart f (match_variant_site s v i) (match_variant_site r w j) h e = grind (arith, common_steps, in_head)
layer_apart f (make_struct_site t ss) (make_struct_site u rs) h e = grind (arith, common_steps, same_each)
layer_apart f (extract_struct_site s i) (extract_struct_site r j) h e = grind (arith, common_steps, in_head)
layer_apart f (make_some_site s) (make_some_site r) h e = grind (arith, common_steps, in_head)
layer_apart f (match_some_site s) (match_some_site r) h e = grind (arith, common_steps, in_head)
layer_apart f (match_tuple_site s i) (match_tuple_site r j) h e = grind (arith, common_steps, in_head)
layer_apart f a b h e = cc

-- 2. the calls that a layer takes answers of
each_calls : (f : ℕ → SiteTerm) (ss : List ℕ) (c : SiteTerm) → Contains (calls_in_all (each_term f ss)) c → (u : ℕ) × Contains ss u × Contains (calls_in (f u)) c
each_calls f [] c h = absurd (nothing_in c h)
each_calls f (s ∷ ss) c h =
    elim (Contains-append_cases (calls_in (f s)) (calls_in_all (each_term f ss)) c h) [
      | inl a ↦ (s, in_head s ss, a)
      | inr b ↦ let r = each_calls f ss c b in (r.0, in_tail s r.0 ss r.1, r.2)
    ]

abbrev FromLayer : (ℕ → SiteTerm) → Site → SiteTerm → Type 0
FromLayer f b c = ((a : ℕ) × (b ≡ iterator_site a) × (c ≡ f a)) ⊎ ((u : ℕ) × Contains (sources_of b) u × Contains (calls_in (f u)) c)

layer_calls : (f : ℕ → SiteTerm) (b : Site) (c : SiteTerm) → Contains (calls_in (layer f b)) c → FromLayer f b c
layer_calls f (bool_site b ty) c h = absurd (nothing_in c h)
layer_calls f (int_site z ty) c h = absurd (nothing_in c h)
layer_calls f (prim_site name) c h = absurd (nothing_in c h)
layer_calls f (argument_site i) c h = absurd (nothing_in c h)
layer_calls f (extractor_site term source) c h = inr (source, in_head source [], h)
layer_calls f (constructor_site term sources instance) c h = inr (each_calls f sources c h)
layer_calls f (iterator_site source) c h = grind (arith, common_steps, in_cases (f source) c (calls_in (f source)) h, in_head source [])
layer_calls f (make_variant_site ty variant fields) c h = inr (each_calls f fields c h)
layer_calls f (match_variant_site source variant field) c h = inr (source, in_head source [], h)
layer_calls f (make_struct_site ty fields) c h = inr (each_calls f fields c h)
layer_calls f (extract_struct_site source field) c h = inr (source, in_head source [], h)
layer_calls f (make_some_site source) c h = inr (source, in_head source [], h)
layer_calls f (match_some_site source) c h = inr (source, in_head source [], h)
layer_calls f (match_tuple_site source field) c h = inr (source, in_head source [], h)

module _ (sites : List Site) (before : SourcesBefore sites) where
  source_there : (s u : ℕ) (b : Site) → slice_get sites s ≡ Some b → Contains (sources_of b) u → Contains (sources_at sites s) u
  source_there s u b e c = subst (λ o. Contains (sources_in o) u) (sym e) c

  unfold_apart : (n a b : ℕ) → a < n → b < n → IsDistinct sites → a < length sites → b < length sites → unfold_site sites a ≡ unfold_site sites b → a ≡ b
  unfold_apart zero a b l m once x y e = absurd (omega arith)
  unfold_apart (suc n) a b l m once x y e =
      let p = get_within sites a x in
      let q = get_within sites b y in
      let same = layer_apart (unfold_site sites) p.0 q.0
      (λ u v c d h.
      let i = before a u (source_there a u p.0 p.1 c) in
      let j = before b v (source_there b v q.0 q.1 d) in
      unfold_apart n u v (omega arith) (omega arith) once (omega arith) (omega arith) h)
      (sym (unfolded_layer sites before a p.0 p.1) ∙ e ∙ unfolded_layer sites before b q.0 q.1) in
      once a b q.0 (p.1 ∙ ap Some same) q.1

  pub unfold_once : (a b : ℕ) → IsDistinct sites → a < length sites → b < length sites → unfold_site sites a ≡ unfold_site sites b → a ≡ b
  unfold_once a b once x y e = unfold_apart (suc (a + b)) a b (omega arith) (omega arith) once x y e

  abbrev pub IsCallBelow : ℕ → ℕ → SiteTerm → Type 0
  IsCallBelow n s c = (t a : ℕ) × Contains (below n sites s) t × (slice_get sites t ≡ Some (iterator_site a)) × (c ≡ unfold_site sites a)

  calls_from : (n s : ℕ) (c : SiteTerm) → s < n → Contains (calls_in (unfolded n sites s)) c → IsCallBelow n s c
  calls_from zero s c l h = absurd (omega arith)
  calls_from (suc n) s c l h = by (λ u k d. calls_from n u c k d) (slice_get sites s) refl h
    where
      by : ((u : ℕ) → u < n → Contains (calls_in (unfolded n sites u)) c → IsCallBelow n u c) → (o : Option Site) → slice_get sites s ≡ o → Contains (calls_in (layer_at (unfolded n sites) o)) c → IsCallBelow (suc n) s c
      by go None at k = absurd (nothing_in c k)
      by go (Some b) at k =
          elim (layer_calls (unfolded n sites) b c k) [
            | inl (a, e, f) ↦
                let here = at ∙ ap Some e in
                let less = before s a (source_there s a (iterator_site a) here (in_head a [])) in
                (s, a, in_head s (flat_map (below n sites) (sources_at sites s)), here, f ∙ unfolded_enough sites before n a (omega arith))
            | inr (u, m, d) ↦
                let there = source_there s u b at m in
                let less = before s u there in
                let r = go u (omega arith) d in
                (r.0, r.1, in_tail s r.0 (flat_map (below n sites) (sources_at sites s)) (in_flat_map (below n sites) (sources_at sites s) u r.0 there r.2), r.3, r.4)
          ]

  -- the calls that a site takes answers of are gone over below it
  pub calls_below : (s : ℕ) (c : SiteTerm) → Contains (calls_in (unfold_site sites s)) c → IsCallBelow (suc s) s c
  calls_below s c h = calls_from (suc s) s c (omega arith) h

-- 3. calls in order
pub ordered_prefix : (ls xs ys : List SiteTerm) → OrderedFrom ls (xs ++ ys) → OrderedFrom ls xs
ordered_prefix ls [] ys h = tt
ordered_prefix ls (x ∷ xs) ys h = (h.0, ordered_prefix (ls ++ x ∷ []) xs ys h.1)

abbrev pub IsEarlier : (ℕ → SiteTerm) → (ℕ → Bool) → List SiteTerm → ℕ → ℕ → SiteTerm → Type 0
IsEarlier f P ls i s c = Contains ls c ⊎ ((a : ℕ) × (P a ≡ true) × (i ≤ a) × (a < s) × (c ≡ f a))

module _ {X : Type 0} (f : ℕ → SiteTerm) (P : ℕ → Bool) where
  pub numbers_ordered : (ls : List SiteTerm) (i : ℕ) (xs : List X) → ((s : ℕ) → i ≤ s → P s ≡ true → (c : SiteTerm) → Contains (calls_in (f s)) c → IsEarlier f P ls i s c)
      → OrderedFrom ls (map f (filter P (numbers_from i xs)))
  numbers_ordered ls i [] h = tt
  numbers_ordered ls i (x ∷ xs) h =
      elim (cases_Bool (P i)) [
        | inl t ↦ subst (λ l. OrderedFrom ls (map f l)) (sym (cond-true (P i) (i ∷ filter P (numbers_from (suc i) xs)) (filter P (numbers_from (suc i) xs)) t)) (first t, numbers_ordered (ls ++ f i ∷ []) (suc i) xs later)
        | inr n ↦ subst (λ l. OrderedFrom ls (map f l)) (sym (cond-false (P i) (i ∷ filter P (numbers_from (suc i) xs)) (filter P (numbers_from (suc i) xs)) n)) (numbers_ordered ls (suc i) xs (skipped n))
      ]
    where
      first : P i ≡ true → (c : SiteTerm) → Contains (calls_in (f i)) c → Contains ls c
      first t c k = elim (h i (omega arith) t c k) [ inl a ↦ a | inr (a, p, l, m, e) ↦ absurd (omega (arith, l, m)) ]

      later : (s : ℕ) → suc i ≤ s → P s ≡ true → (c : SiteTerm) → Contains (calls_in (f s)) c → IsEarlier f P (ls ++ f i ∷ []) (suc i) s c
      later s l p c k =
          elim (h s (omega arith) p c k) [
            | inl a ↦ inl (Contains-append_left ls (f i ∷ []) c a)
            | inr (a, q, m, n, e) ↦
                elim (cases_lt i a) [
                  | inl g ↦ inr (a, q, g, n, e)
                  | inr g ↦ let same : i ≡ a = omega (arith, m, g) in inl (Contains-append_right ls (f i ∷ []) c (subst (Contains (f i ∷ [])) (ap f same ∙ sym e) (in_head (f i) [])))
                ]
          ]

      skipped : P i ≡ false → (s : ℕ) → suc i ≤ s → P s ≡ true → (c : SiteTerm) → Contains (calls_in (f s)) c → IsEarlier f P ls (suc i) s c
      skipped none s l p c k =
          elim (h s (omega arith) p c k) [
            | inl a ↦ inl a
            | inr (a, q, m, n, e) ↦
                elim (cases_lt i a) [
                  | inl g ↦ inr (a, q, g, n, e)
                  | inr g ↦ let same : i ≡ a = omega (arith, m, g) in absurd (both_ways (P i) none (ap P same ∙ q))
                ]
          ]
