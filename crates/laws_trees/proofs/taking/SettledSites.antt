-- Sites that taking a rule needs nothing new for: they and all below them make no impure call and have contents. What is
-- emitted at a place that a run reached is so, and what isn't so is bound alike from every such place.
use Rattle.std.proofs.Common.{◌≡◌, ◌⊎◌, ℕ, zero, suc, ◌<◌, Bool, true, false, not, ◌&&◌, ◌||◌, cond, List, [], ◌∷◌, ◌++◌, length, Option, Some, None, if◌then◌else◌, is_some, slice_get, Contains, IsTrue, filter, flat_map, refl, sym, ap, ◌∙◌, subst, inl, inr, arith, append-nil}
use Rattle.std.specs.List.{list_all}
use Rattle.std.proofs.lemmas.Bool.{cases_Bool, cases_lt, cond-true, cond-false, and_parts, and_from, or_left, or_right, or_from, false_from_ne_true, false≢true}
use Rattle.std.proofs.lemmas.Option.{none-some, slice_get_within}
use Rattle.std.proofs.lemmas.List.Elements.{filter-append, All-contains}
use Rattle.std.proofs.lemmas.Grind.{common_steps}
use Rattle.model.specs.rules.Meaning.{Content}
use Rattle.model.specs.rules.Outcome.{then_option}
use Rattle.model.specs.rules.Picks.{Pick, site_content, site_values}
use Rattle.model.specs.sites.Sites.{Site, bool_site, int_site, prim_site, argument_site, extractor_site, constructor_site, iterator_site, make_variant_site, match_variant_site, make_struct_site, extract_struct_site, make_some_site, match_some_site, match_tuple_site, sources_of, sources_at, each_term, layer, unfold_site}
use Rattle.model.specs.trees.Places.{is_in, is_in_place, below, all_below, each_after, listed_below}
use Rattle.model.specs.trees.Run.{World, Env, as_value}
use Rattle.model.specs.trees.Collects.{content_at, IsPureAt}
use Rattle.model.proofs.Members.{nothing_in, in_head, in_tail, in_cases, in_alone, each_passes, all_pass, in_flat_map, from_flat_map, member_found, member_is_in, in_filter, from_filter}
use Rattle.laws_trees.proofs.runs.Below.{below_itself, below_source, below_enough}
use Rattle.laws_trees.proofs.runs.Binding.{content_of, Held, held_as, keeps_bound, keeps_in_place}
use Rattle.laws_trees.proofs.runs.Contents.{SourcesBefore, sources_in, content_layer}
use Rattle.laws_trees.proofs.taking.PureSites.{calls_nothing, pure_site, nothing_called}
use Rattle.laws_trees.proofs.taking.Taking.{ReachedPlace}

-- 1. whether a site is settled
abbrev pub fixed : World → ℕ → Bool
fixed w s = calls_nothing (slice_get w.sites s) && is_some (content_at w [] s)

abbrev pub settled : World → ℕ → Bool
settled w s = list_all (fixed w) (below (suc s) w.sites s)

-- whether it has to be bound anew
abbrev pub critical : World → ℕ → Bool
critical w s = not (settled w s)

-- an environment where all settled sites are bound, and nothing else: every place is compared with it
pub record Stock (w : World) : Type 0 where
  pub env : Env
  pub held : Held w [] env (λ t. settled w t ≡ true)

-- a content is made of the contents of the sources
first_there : {X Y : Type 0} → (o : Option X) (f : X → Option Y) → IsTrue (is_some (then_option o f)) → IsTrue (is_some o)
first_there o f h = grind (arith, common_steps)

pub values_there : (w : World) (pick : Pick) (ss : List ℕ) → IsTrue (is_some (site_values w.meaning w.args pick (each_term (unfold_site w.sites) ss))) → (u : ℕ) → Contains ss u → IsTrue (is_some (content_at w pick u))
values_there w pick [] h u c = absurd (nothing_in u c)
values_there w pick (s ∷ ss) h u c = grind (arith, common_steps, values_there w pick ss, in_cases s u ss c, first_there (content_at w pick s) as_value)

source_there : (w : World) (pick : Pick) (ss : ℕ) (u : ℕ) → IsTrue (is_some (content_at w pick ss)) → Contains (ss ∷ []) u → IsTrue (is_some (content_at w pick u))
source_there w pick s u h c = subst (λ x. IsTrue (is_some (content_at w pick x))) (in_alone s u c) h

module _ (w : World) (pick : Pick) (before : SourcesBefore w.sites) where
  pub sources_there : (s : ℕ) (b : Site) → slice_get w.sites s ≡ Some b → IsTrue (is_some (content_at w pick s)) → (u : ℕ) → Contains (sources_of b) u → IsTrue (is_some (content_at w pick u))
  sources_there s b at h = from b (subst (λ o. IsTrue (is_some o)) (content_layer w pick before s b at) h)
    where
      from : (b : Site) → IsTrue (is_some (site_content w.meaning w.args pick (layer (unfold_site w.sites) b))) → (u : ℕ) → Contains (sources_of b) u → IsTrue (is_some (content_at w pick u))
      from (bool_site x ty) h u c = absurd (nothing_in u c)
      from (int_site z ty) h u c = absurd (nothing_in u c)
      from (prim_site name) h u c = absurd (nothing_in u c)
      from (argument_site i) h u c = absurd (nothing_in u c)
      from (extractor_site term source) h u c = source_there w pick source u (first_there (content_at w pick source) as_value (first_there _ _ h)) c
      from (constructor_site term sources instance) h u c = values_there w pick sources (first_there _ _ h) u c
      from (iterator_site source) h u c = source_there w pick source u (first_there _ _ h) c
      from (make_variant_site ty variant fields) h u c = values_there w pick fields (first_there _ _ h) u c
      from (match_variant_site source variant field) h u c = source_there w pick source u (first_there (content_at w pick source) as_value (first_there _ _ h)) c
      from (make_struct_site ty fields) h u c = values_there w pick fields (first_there _ _ h) u c
      from (extract_struct_site source field) h u c = source_there w pick source u (first_there (content_at w pick source) as_value (first_there _ _ h)) c
      from (make_some_site source) h u c = source_there w pick source u (first_there _ _ h) c
      from (match_some_site source) h u c = source_there w pick source u (first_there _ _ h) c
      from (match_tuple_site source field) h u c = source_there w pick source u (first_there _ _ h) c

  pub below_there : (n s u : ℕ) → IsTrue (is_some (content_at w pick s)) → Contains (below n w.sites s) u → IsTrue (is_some (content_at w pick u))
  below_there zero s u h c = absurd (nothing_in u c)
  below_there (suc n) s u h c =
      elim (in_cases s u (flat_map (below n w.sites) (sources_at w.sites s)) c) [
        | inl e ↦ subst (λ x. IsTrue (is_some (content_at w pick x))) e h
        | inr d ↦
            let r = from_flat_map (below n w.sites) (sources_at w.sites s) u d in
            below_there n r.0 u (by (slice_get w.sites s) refl r.0 r.1) r.2
      ]
    where
      by : (o : Option Site) → slice_get w.sites s ≡ o → (x : ℕ) → Contains (sources_in o) x → IsTrue (is_some (content_at w pick x))
      by None at x k = absurd (nothing_in x k)
      by (Some b) at x k = sources_there s b at h x k

module _ (w : World) (before : SourcesBefore w.sites) where
  -- 2. what settled sites are
  fixed_here : (s : ℕ) → settled w s ≡ true → fixed w s ≡ true
  fixed_here s h = each_passes (fixed w) (below (suc s) w.sites s) h s (below_itself w.sites s)

  pub settled_content : (s : ℕ) → settled w s ≡ true → (c : Content) × (content_at w [] s ≡ Some c)
  settled_content s h = content_of (content_at w [] s) (and_parts (calls_nothing (slice_get w.sites s)) (is_some (content_at w [] s)) (fixed_here s h)).1

  pub settled_pure : (s : ℕ) → settled w s ≡ true → IsPureAt w.sites s
  settled_pure s h = grind (arith, common_steps, calls_nothing, and_parts, fixed_here, pure_site)

  pub settled_source : (s a : ℕ) → settled w s ≡ true → Contains (sources_at w.sites s) a → settled w a ≡ true
  settled_source s a h c =
      all_pass (fixed w) (below (suc a) w.sites a)
      (λ u k. each_passes (fixed w) (below (suc s) w.sites s) h u (below_source w.sites s s a u c (subst (λ l. Contains l u) (sym (below_enough w.sites before s a (before s a c))) k)))

  pub emitted_settled : (place : ReachedPlace w []) (s : ℕ) → is_in s place.around.emitted ≡ true → settled w s ≡ true
  emitted_settled place s i =
      all_pass (fixed w) (below (suc s) w.sites s)
      (λ u k.
      let p = All-contains (IsPureAt w.sites) (all_below w.sites (s ∷ [])) u (place.reached.pure s i) (in_flat_map (λ x. below (suc x) w.sites x) (s ∷ []) s u (in_head s []) k) in
      and_from (calls_nothing (slice_get w.sites u)) (is_some (content_at w [] u)) (ap calls_nothing p.1 ∙ nothing_called p.0 p.2) (below_there w [] before (suc s) s u (place.reached.emitted s i).0 k))

  -- 3. all of them bound
  stocked : (n : ℕ) → (env : Env) × Held w [] env (λ t. (t < n) × (settled w t ≡ true))
  stocked zero = grind (arith, common_steps, none-some)
  stocked (suc n) =
      let rest = stocked n in
      elim (cases_Bool (settled w n)) [
        | inl h ↦
            let c = settled_content n h in
            let sources : (u : ℕ) → Contains (sources_at w.sites n) u → (u < n) × (settled w u ≡ true) = λ u k. (before n u k, settled_source n u h k) in
            elim (cases_Bool (is_in_place (slice_get w.sites n))) [
              | inl p ↦ (rest.0, held_as w [] rest.0 (λ t. ((t < n) × (settled w t ≡ true)) ⊎ (n ≡ t)) (λ t. (t < suc n) × (settled w t ≡ true)) (λ t k. one_more t h k) (λ t k. of_more t k) (keeps_in_place w [] before rest.0 (λ t. (t < n) × (settled w t ≡ true)) rest.1 n c.0 c.1 p sources))
              | inr p ↦ ((n, c.0) ∷ rest.0, held_as w [] ((n, c.0) ∷ rest.0) (λ t. ((t < n) × (settled w t ≡ true)) ⊎ (n ≡ t)) (λ t. (t < suc n) × (settled w t ≡ true)) (λ t k. one_more t h k) (λ t k. of_more t k) (keeps_bound w [] before rest.0 (λ t. (t < n) × (settled w t ≡ true)) rest.1 n c.0 c.1 sources))
            ]
        | inr h ↦ (rest.0, held_as w [] rest.0 (λ t. (t < n) × (settled w t ≡ true)) (λ t. (t < suc n) × (settled w t ≡ true)) (λ t k. let l = k.0 in (omega (arith, l), k.1)) (λ t k. not_last t h k) rest.1)
      ]
    where
      one_more : (t : ℕ) → settled w n ≡ true → ((t < n) × (settled w t ≡ true)) ⊎ (n ≡ t) → (t < suc n) × (settled w t ≡ true)
      one_more t h (inl k) = (let l = k.0 in (omega (arith, l), k.1))
      one_more t h (inr e) = (omega (arith, e), ap (settled w) (sym e) ∙ h)

      of_more : (t : ℕ) → (t < suc n) × (settled w t ≡ true) → ((t < n) × (settled w t ≡ true)) ⊎ (n ≡ t)
      of_more t k = elim (cases_lt t n) [ inl l ↦ inl (l, k.1) | inr m ↦ let l = k.0 in inr (omega (arith, l, m)) ]

      not_last : (t : ℕ) → settled w n ≡ false → (t < suc n) × (settled w t ≡ true) → (t < n) × (settled w t ≡ true)
      not_last t h k = elim (of_more t k) [ inl r ↦ r | inr e ↦ absurd (false≢true (sym h ∙ ap (settled w) e ∙ k.1)) ]

  pub settled_stock : Stock w
  settled_stock =
      let s = stocked (length w.sites) in
      record {
        env = s.0;
        held = held_as w [] s.0 (λ t. (t < length w.sites) × (settled w t ≡ true)) (λ t. settled w t ≡ true) (λ t k. k.1) (λ t h. let p = settled_pure t h in (slice_get_within w.sites t p.0 p.1, h)) s.1;
      }

  -- 4. what a bind order has of critical sites is the same at every place
  abbrev pub critical_below : ℕ → List ℕ → ℕ → List ℕ
  critical_below zero done s = done
  critical_below (suc n) done s = if settled w s || is_in s done then done else each_after (critical_below n) done (sources_at w.sites s) ++ s ∷ []

  each_adds_none : (f : List ℕ → ℕ → List ℕ) (ss : List ℕ) → ((u : ℕ) → Contains ss u → (done : List ℕ) → filter (critical w) (f done u) ≡ filter (critical w) done)
      → (done : List ℕ) → filter (critical w) (each_after f done ss) ≡ filter (critical w) done
  each_adds_none f [] h done = refl
  each_adds_none f (s ∷ ss) h done = each_adds_none f ss (λ u c. h u (in_tail s u ss c)) (f done s) ∙ h s (in_head s ss) done

  each_filtered : (f g : List ℕ → ℕ → List ℕ) (ss : List ℕ) → ((u : ℕ) → Contains ss u → (done : List ℕ) → filter (critical w) (f done u) ≡ g (filter (critical w) done) u)
      → (done : List ℕ) → filter (critical w) (each_after f done ss) ≡ each_after g (filter (critical w) done) ss
  each_filtered f g [] h done = refl
  each_filtered f g (s ∷ ss) h done = each_filtered f g ss (λ u c. h u (in_tail s u ss c)) (f done s) ∙ ap (λ d. each_after g d ss) (h s (in_head s ss) done)

  module _ (emitted : List ℕ) (fixed_there : (s : ℕ) → is_in s emitted ≡ true → settled w s ≡ true) where
    settled_adds_none : (n s : ℕ) → settled w s ≡ true → (done : List ℕ) → filter (critical w) (listed_below n w.sites emitted done s) ≡ filter (critical w) done
    settled_adds_none zero s h done = refl
    settled_adds_none (suc n) s h done =
        let rest = each_after (listed_below n w.sites emitted) done (sources_at w.sites s) in
        elim (cases_Bool (is_in s emitted || is_in s done)) [
          | inl t ↦ ap (filter (critical w)) (cond-true (is_in s emitted || is_in s done) done (rest ++ s ∷ []) t)
          | inr f ↦
              ap (filter (critical w)) (cond-false (is_in s emitted || is_in s done) done (rest ++ s ∷ []) f)
              ∙ filter-append (critical w) rest (s ∷ [])
              ∙ ap (λ b. filter (critical w) rest ++ cond (not b) (s ∷ []) []) h
              ∙ append-nil (filter (critical w) rest)
              ∙ each_adds_none (listed_below n w.sites emitted) (sources_at w.sites s) (λ u c d. settled_adds_none n u (settled_source s u h c) d) done
        ]

    in_critical : (s : ℕ) → settled w s ≡ false → (done : List ℕ) → is_in s (filter (critical w) done) ≡ is_in s done
    in_critical s h done =
        elim (cases_Bool (is_in s done)) [
          | inl t ↦ member_is_in s (filter (critical w) done) (in_filter (critical w) done s (member_found s done t) (ap not h)) ∙ sym t
          | inr f ↦ by (cases_Bool (is_in s (filter (critical w) done))) f
        ]
      where
        by : (is_in s (filter (critical w) done) ≡ true) ⊎ (is_in s (filter (critical w) done) ≡ false) → is_in s done ≡ false → is_in s (filter (critical w) done) ≡ is_in s done
        by (inl t) f = absurd (false≢true (sym f ∙ member_is_in s done (from_filter (critical w) done s (member_found s (filter (critical w) done) t)).0))
        by (inr g) f = g ∙ sym f

    pub critical_listed : (n s : ℕ) (done : List ℕ) → filter (critical w) (listed_below n w.sites emitted done s) ≡ critical_below n (filter (critical w) done) s
    critical_listed zero s done = refl
    critical_listed (suc n) s done =
        let rest = each_after (listed_below n w.sites emitted) done (sources_at w.sites s) in
        let rest' = each_after (critical_below n) (filter (critical w) done) (sources_at w.sites s) in
        elim (cases_Bool (settled w s)) [
          | inl h ↦ settled_adds_none (suc n) s h done ∙ sym (cond-true (settled w s || is_in s (filter (critical w) done)) (filter (critical w) done) (rest' ++ s ∷ []) (or_left (settled w s) (is_in s (filter (critical w) done)) h))
          | inr h ↦
              let not_there : is_in s emitted ≡ false = false_from_ne_true (is_in s emitted) (λ t. false≢true (sym h ∙ fixed_there s t)) in
              let same = in_critical s h done in
              elim (cases_Bool (is_in s done)) [
                | inl t ↦
                    ap (filter (critical w)) (cond-true (is_in s emitted || is_in s done) done (rest ++ s ∷ []) (or_right (is_in s emitted) (is_in s done) t))
                    ∙ sym (cond-true (settled w s || is_in s (filter (critical w) done)) (filter (critical w) done) (rest' ++ s ∷ []) (or_right (settled w s) (is_in s (filter (critical w) done)) (same ∙ t)))
                | inr f ↦
                    ap (filter (critical w)) (cond-false (is_in s emitted || is_in s done) done (rest ++ s ∷ []) (or_from (is_in s emitted) (is_in s done) not_there f))
                    ∙ filter-append (critical w) rest (s ∷ [])
                    ∙ ap (λ b. filter (critical w) rest ++ cond (not b) (s ∷ []) []) h
                    ∙ ap (λ l. l ++ s ∷ []) (each_filtered (listed_below n w.sites emitted) (critical_below n) (sources_at w.sites s) (λ u c d. critical_listed n u d) done)
                    ∙ sym (cond-false (settled w s || is_in s (filter (critical w) done)) (filter (critical w) done) (rest' ++ s ∷ []) (or_from (settled w s) (is_in s (filter (critical w) done)) h (same ∙ f)))
              ]
        ]

    pub critical_order : (ss : List ℕ)
        → filter (critical w) (each_after (λ done s. listed_below (suc s) w.sites emitted done s) [] ss) ≡ each_after (λ done s. critical_below (suc s) done s) [] ss
    critical_order ss = each_filtered (λ done s. listed_below (suc s) w.sites emitted done s) (λ done s. critical_below (suc s) done s) ss (λ u c done. critical_listed (suc u) u done) []
