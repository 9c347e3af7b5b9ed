-- What is marked in the end stands at or below what was marked, and all of that is marked.
use Rattle.std.proofs.Common.{◌≡◌, ◌⊎◌, ◌<◌, ◌≤◌, ℕ, zero, suc, Bool, true, ◌&&◌, ◌||◌, List, length, flat_map, Contains, sym, ap, ap₂, subst, ◌∙◌, inl, inr, arith}
use Rattle.std.proofs.lemmas.Bool.{cases_lt, and_parts, and_from, false≢true}
use Rattle.std.proofs.lemmas.Option.{slice_get_cases}
use Rattle.model.specs.sites.Sites.{Site, sources_at}
use Rattle.model.specs.trees.Places.{is_in, below, all_below}
use Rattle.model.proofs.Elements.{or_split, or_left, or_right}
use Rattle.model.proofs.Members.{nothing_in, in_cases, in_flat_map, from_flat_map, member_found, member_is_in}
use Rattle.laws_trees.proofs.runs.Below.{below_itself, below_source, below_enough}
use Rattle.spec_steps.specs.Demands.{is_marked}
use Rattle.spec_asked.specs.Demanded.{SourcesFirst}
use Rattle.spec_asked.specs.Marks.{marks, marked_below, spread}
use Rattle.spec_asked.proofs.SitesApart.{same_truth, sources_or}

-- 1. marks beyond a list
pub mark_within : (made : List Bool) (n : ℕ) → marks made n ≡ true → n < length made
mark_within made n h =
    elim (slice_get_cases made n).1 [
      | inl s ↦ s.1
      | inr s ↦ absurd (false≢true (sym (ap is_marked s.1) ∙ h))
    ]

module _ (sites : List Site) where
  -- 2. the same of marks that are the same
  pub spread_alike : (m count : ℕ) (f g : ℕ → Bool) → m ≤ count → ((k : ℕ) → k < count → f k ≡ g k) → (n : ℕ) → n < count → spread sites m f n ≡ spread sites m g n
  spread_alike zero count f g l h n b = h n b
  spread_alike (suc m) count f g l h n b =
      let here = h m (omega (arith, l)) in
      spread_alike m count (marked_below sites m f) (marked_below sites m g) (omega (arith, l))
      (λ k d. ap₂ (λ x y. x || (y && is_in k (sources_at sites m))) (h k d) here) n b

  -- a step down
  pub spread_step : (p m count : ℕ) (f g : ℕ → Bool) → suc p ≡ m → m ≤ count → ((k : ℕ) → k < count → f k ≡ marked_below sites p g k)
      → (n : ℕ) → n < count → spread sites p f n ≡ spread sites m g n
  spread_step p m count f g e l h n b = spread_alike p count f (marked_below sites p g) (omega (arith, e, l)) h n b ∙ ap (λ k. spread sites k g n) e

  has_sources : (s a : ℕ) → Contains (sources_at sites s) a → s < length sites
  has_sources s a c =
      elim (slice_get_cases sites s).1 [
        | inl h ↦ h.1
        | inr h ↦ absurd (nothing_in a (subst (λ o. Contains (sources_or o) a) h.1 c))
      ]

  module _ (first : SourcesFirst sites) where
    abbrev IsBelow : ℕ → ℕ → Type 0
    IsBelow s n = Contains (below (suc s) sites s) n

    -- 3. what is below a source is below the site, and is that or the site
    source_below : (s a n : ℕ) → Contains (sources_at sites s) a → IsBelow a n → IsBelow s n
    source_below s a n c b = below_source sites s s a n c (subst (λ xs. Contains xs n) (sym (below_enough sites first s a (first s a c))) b)

    below_cases : (s n : ℕ) → IsBelow s n → (s ≡ n) ⊎ ((a : ℕ) × Contains (sources_at sites s) a × IsBelow a n)
    below_cases s n b =
        elim (in_cases s n (flat_map (below s sites) (sources_at sites s)) b) [
          | inl e ↦ inl e
          | inr d ↦
              let r = from_flat_map (below s sites) (sources_at sites s) n d in
              inr (r.0, r.1, subst (λ xs. Contains xs n) (below_enough sites first s r.0 (first s r.0 r.1)) r.2)
        ]

    -- 4. what is marked is below what was
    from_spread : (m : ℕ) (f : ℕ → Bool) (n : ℕ) → spread sites m f n ≡ true → (s : ℕ) × (f s ≡ true) × IsBelow s n
    from_spread zero f n h = (n, h, below_itself sites n)
    from_spread (suc m) f n h =
        let r = from_spread m (marked_below sites m f) n h in
        elim (or_split (f r.0) (f m && is_in r.0 (sources_at sites m)) r.1) [
          | inl e ↦ (r.0, e, r.2)
          | inr e ↦ let k = and_parts (f m) (is_in r.0 (sources_at sites m)) e in (m, k.0, source_below m r.0 n (member_found r.0 (sources_at sites m) k.1) r.2)
        ]

    -- 5. what is below marks is marked
    to_spread : (m : ℕ) (f : ℕ → Bool) (s n : ℕ) → f s ≡ true → (s ≡ n) ⊎ (s < m) → IsBelow s n → spread sites m f n ≡ true
    to_spread zero f s n h (inl e) b = subst (λ k. f k ≡ true) e h
    to_spread zero f s n h (inr l) b = absurd (omega (arith, l))
    to_spread (suc m) f s n h (inl e) b = to_spread m (marked_below sites m f) s n (or_left (f s) (f m && is_in s (sources_at sites m)) h) (inl e) b
    to_spread (suc m) f s n h (inr l) b =
        let kept : marked_below sites m f s ≡ true = or_left (f s) (f m && is_in s (sources_at sites m)) h in
        elim (cases_lt s m) [
          | inl k ↦ to_spread m (marked_below sites m f) s n kept (inr k) b
          | inr k ↦
              let e : s ≡ m = omega (arith, k, l) in
              elim (below_cases s n b) [
                | inl same ↦ to_spread m (marked_below sites m f) s n kept (inl same) b
                | inr r ↦
                    let below_it = first s r.0 r.1 in
                    let source : marked_below sites m f r.0 ≡ true =
                    or_right (f r.0) (f m && is_in r.0 (sources_at sites m))
                    (and_from (f m) (is_in r.0 (sources_at sites m)) (subst (λ k. f k ≡ true) e h) (member_is_in r.0 (sources_at sites m) (subst (λ k. Contains (sources_at sites k) r.0) e r.1))) in
                    to_spread m (marked_below sites m f) r.0 n source (inr (omega (arith, below_it, e))) r.2
              ]
        ]

    -- 6. so of roots
    pub spread_all : (f : ℕ → Bool) (roots : List ℕ) → ((k : ℕ) → k < length sites → f k ≡ is_in k roots) → ((k : ℕ) → f k ≡ true → k < length sites)
        → (n : ℕ) → n < length sites → spread sites (length sites) f n ≡ is_in n (all_below sites roots)
    spread_all f roots are known n l =
        same_truth (spread sites (length sites) f n) (is_in n (all_below sites roots))
        (λ h.
        let r = from_spread (length sites) f n h in
        member_is_in n (all_below sites roots)
        (in_flat_map (λ s. below (suc s) sites s) roots r.0 n (member_found r.0 roots (sym (are r.0 (known r.0 r.1)) ∙ r.1)) r.2))
        (λ h.
        let r = from_flat_map (λ s. below (suc s) sites s) roots n (member_found n (all_below sites roots) h) in
        let is_site : r.0 < length sites = elim (below_cases r.0 n r.2) [
          | inl e ↦ omega (arith, e, l)
          | inr k ↦ has_sources r.0 k.0 k.1
        ] in
        to_spread (length sites) f r.0 n (are r.0 is_site ∙ member_is_in r.0 roots r.1) (inr is_site) r.2)
