-- The impure calls that stand in sites: in trees, and by the numbers of sites.
use Rattle.std.proofs.Common.{◌≡◌, ◌⊎◌, ℕ, zero, suc, List, [], ◌∷◌, ◌++◌, length, Option, Some, None, slice_get, Contains, flat_map, refl, sym, ◌∙◌, subst, inl, inr, arith}
use Rattle.std.proofs.lemmas.Grind.{common_steps}
use Rattle.model.specs.sites.Sites.{Site, bool_site, int_site, prim_site, argument_site, extractor_site, constructor_site, iterator_site, make_variant_site, match_variant_site, make_struct_site, extract_struct_site, make_some_site, match_some_site, match_tuple_site, SiteTerm, bool_term, int_term, prim_term, argument, extractor_call, constructor_call, pick_of, variant_made, variant_field, struct_made, struct_field, some_made, some_part, tuple_part, no_site, SiteTerms, no_site_term, site_term_and, each_term, layer, unfold_site, sources_of, sources_at}
use Rattle.model.specs.trees.Places.{below}
use Rattle.model.proofs.Elements.{In, in_left, in_right}
use Rattle.model.proofs.Members.{nothing_in, in_cases, in_alone, from_flat_map}
use Rattle.laws_trees.proofs.runs.Contents.{SourcesBefore, sources_in, unfolded_layer}
use Rattle.laws_trees.proofs.taking.FollowedCalls.{answered_call}

-- what is said of impure calls: pure ones have the number 0
abbrev pub WhereImpure : ℕ → Type 0 → Type 0
WhereImpure zero P = Unit {0}
WhereImpure (suc n) P = P

-- each impure call at or in a site is such
abbrev mutual
  pub CallsOnly : (SiteTerm → Type 0) → SiteTerm → Type 0
  CallsOnly P (bool_term b ty) = Unit {0}
  CallsOnly P (int_term z ty) = Unit {0}
  CallsOnly P (prim_term name) = Unit {0}
  CallsOnly P (argument i) = Unit {0}
  CallsOnly P (extractor_call t a) = CallsOnly P a
  CallsOnly P (constructor_call t args i) = WhereImpure i (P (constructor_call t args i)) × CallOnly P args
  CallsOnly P (pick_of a) = CallsOnly P a
  CallsOnly P (variant_made ty variant fields) = CallOnly P fields
  CallsOnly P (variant_field a variant f) = CallsOnly P a
  CallsOnly P (struct_made ty fields) = CallOnly P fields
  CallsOnly P (struct_field a f) = CallsOnly P a
  CallsOnly P (some_made a) = CallsOnly P a
  CallsOnly P (some_part a) = CallsOnly P a
  CallsOnly P (tuple_part a f) = CallsOnly P a
  CallsOnly P no_site = Unit {0}

  pub CallOnly : (SiteTerm → Type 0) → SiteTerms → Type 0
  CallOnly P no_site_term = Unit {0}
  CallOnly P (site_term_and a rest) = CallsOnly P a × CallOnly P rest

where_more : (n : ℕ) (P Q : Type 0) → (P → Q) → WhereImpure n P → WhereImpure n Q
where_more n P Q f h = grind (arith, common_steps)

module _ (P Q : SiteTerm → Type 0) (f : (u : SiteTerm) → P u → Q u) where
  mutual
    pub calls_more : (s : SiteTerm) → CallsOnly P s → CallsOnly Q s
    calls_more (bool_term b ty) h = tt
    calls_more (int_term z ty) h = tt
    calls_more (prim_term name) h = tt
    calls_more (argument i) h = tt
    calls_more (extractor_call t a) h = calls_more a h
    calls_more (constructor_call t args i) h = (where_more i (P (constructor_call t args i)) (Q (constructor_call t args i)) (f (constructor_call t args i)) h.0, call_more args h.1)
    calls_more (pick_of a) h = calls_more a h
    calls_more (variant_made ty variant fields) h = call_more fields h
    calls_more (variant_field a variant i) h = calls_more a h
    calls_more (struct_made ty fields) h = call_more fields h
    calls_more (struct_field a i) h = calls_more a h
    calls_more (some_made a) h = calls_more a h
    calls_more (some_part a) h = calls_more a h
    calls_more (tuple_part a i) h = calls_more a h
    calls_more no_site h = tt

    pub call_more : (ss : SiteTerms) → CallOnly P ss → CallOnly Q ss
    call_more no_site_term h = tt
    call_more (site_term_and a rest) h = (calls_more a h.0, call_more rest h.1)

-- a call whose answer stands in a list, unwrapped or not
abbrev pub Known : List SiteTerm → SiteTerm → Type 0
Known us c = In us c ⊎ In us (some_part c)

pub known_more : (us vs : List SiteTerm) (c : SiteTerm) → Known us c → Known (us ++ vs) c
known_more us vs c h = grind (arith, common_steps, in_left)

-- an impure call's answer that comes after these: the call's number is its place, from 1, and the impure calls in its
-- arguments are among those before. It is one of the sites made
pub record IsNext (made before : List SiteTerm) (u : SiteTerm) : Type 0 where
  pub term : ℕ
  pub args : SiteTerms
  pub call : answered_call u ≡ constructor_call term args (suc (length before))
  pub answer : (u ≡ answered_call u) ⊎ (u ≡ some_part (answered_call u))
  pub earlier : CallOnly (Known before) args
  pub listed : In made (answered_call u)

-- so do all of a list, in order
abbrev pub InOrder : List SiteTerm → List SiteTerm → List SiteTerm → Type 0
InOrder made before [] = Unit {0}
InOrder made before (u ∷ us) = IsNext made before u × InOrder made (before ++ u ∷ []) us

-- each of them is one of the sites made, and the impure calls at or in it are among all
pub order_listed : (made before us : List SiteTerm) → InOrder made before us → (u : SiteTerm) → In us u → In made (answered_call u) × CallsOnly (Known (before ++ us)) u
order_listed made before [] h u i = absurd i
order_listed made before (x ∷ us) h u (inl e) = grind (arith, common_steps, answered_call, in_right, call_more, known_more)
order_listed made before (x ∷ us) h u (inr i) = grind (arith, common_steps, order_listed made (before ++ x ∷ []) us h.1 u i)

pub known_made : (made us : List SiteTerm) → InOrder made [] us → (t : ℕ) (args : SiteTerms) (n : ℕ) → Known us (constructor_call t args n) → In made (constructor_call t args n)
known_made made us h t args n k = grind (arith, common_steps, order_listed)

module _ (sites : List Site) (sources_before : SourcesBefore sites) where
  abbrev U : ℕ → SiteTerm
  U = unfold_site sites

  pub each_only : (P : SiteTerm → Type 0) (ss : List ℕ) → CallOnly P (each_term U ss) → (a : ℕ) → Contains ss a → CallsOnly P (U a)
  each_only P [] h a c = absurd (nothing_in a c)
  each_only P (s ∷ ss) h a c = elim (in_cases s a ss c) [ inl e ↦ subst (λ x. CallsOnly P (U x)) e h.0 | inr d ↦ each_only P ss h.1 a d ]

  one_only : (P : SiteTerm → Type 0) (s : ℕ) → CallsOnly P (U s) → (a : ℕ) → Contains (s ∷ []) a → CallsOnly P (U a)
  one_only P s h a c = subst (λ x. CallsOnly P (U x)) (in_alone s a c) h

  source_only : (P : SiteTerm → Type 0) (b : Site) → CallsOnly P (layer U b) → (a : ℕ) → Contains (sources_of b) a → CallsOnly P (U a)
  source_only P (bool_site x ty) h a c = absurd (nothing_in a c)
  source_only P (int_site z ty) h a c = absurd (nothing_in a c)
  source_only P (prim_site name) h a c = absurd (nothing_in a c)
  source_only P (argument_site i) h a c = absurd (nothing_in a c)
  source_only P (extractor_site term source) h a c = one_only P source h a c
  source_only P (constructor_site term sources instance) h a c = each_only P sources h.1 a c
  source_only P (iterator_site source) h a c = one_only P source h a c
  source_only P (make_variant_site ty variant fields) h a c = each_only P fields h a c
  source_only P (match_variant_site source variant field) h a c = one_only P source h a c
  source_only P (make_struct_site ty fields) h a c = each_only P fields h a c
  source_only P (extract_struct_site source field) h a c = one_only P source h a c
  source_only P (make_some_site source) h a c = one_only P source h a c
  source_only P (match_some_site source) h a c = one_only P source h a c
  source_only P (match_tuple_site source field) h a c = one_only P source h a c

  -- so are those below it
  pub below_calls : (P : SiteTerm → Type 0) (n s : ℕ) → CallsOnly P (U s) → (u : ℕ) → Contains (below n sites s) u → CallsOnly P (U u)
  below_calls P zero s h u c = absurd (nothing_in u c)
  below_calls P (suc n) s h u c =
      elim (in_cases s u (flat_map (below n sites) (sources_at sites s)) c) [
        | inl e ↦ subst (λ x. CallsOnly P (U x)) e h
        | inr d ↦
            let r = from_flat_map (below n sites) (sources_at sites s) u d in
            below_calls P n r.0 (deeper (slice_get sites s) refl r.0 r.1) u r.2
      ]
    where
      deeper : (o : Option Site) → slice_get sites s ≡ o → (a : ℕ) → Contains (sources_in o) a → CallsOnly P (U a)
      deeper None at a k = absurd (nothing_in a k)
      deeper (Some b) at a k = source_only P b (subst (CallsOnly P) (unfolded_layer sites sources_before s b at) h) a k

  -- an impure call's site by its number
  abbrev pub IsImpureAt : ℕ → Type 0
  IsImpureAt s = (t : ℕ) × (ss : List ℕ) × (n : ℕ) × (slice_get sites s ≡ Some (constructor_site t ss (suc n)))

  pub below_only : (P : SiteTerm → Type 0) (n s : ℕ) → CallsOnly P (U s) → (u : ℕ) → Contains (below n sites s) u → IsImpureAt u → P (U u)
  below_only P n s h u c i =
      let l = unfolded_layer sites sources_before u (constructor_site i.0 i.1 (suc i.2)) i.3 in
      subst P (sym l) (subst (CallsOnly P) l (below_calls P n s h u c)).0

  -- a number that stands for an impure call is one of such a site, and one that stands for an unwrap is one of an unwrap
  pub call_number : (s t : ℕ) (args : SiteTerms) (n : ℕ) (b : Site) → slice_get sites s ≡ Some b → U s ≡ constructor_call t args (suc n)
      → (ss : List ℕ) × (slice_get sites s ≡ Some (constructor_site t ss (suc n))) × (each_term U ss ≡ args)
  call_number s t args n b at e = by b at (sym (unfolded_layer sites sources_before s b at) ∙ e)
    where
      by : (b : Site) → slice_get sites s ≡ Some b → layer U b ≡ constructor_call t args (suc n) → (ss : List ℕ) × (slice_get sites s ≡ Some (constructor_site t ss (suc n))) × (each_term U ss ≡ args)
      by (constructor_site term sources i) at q = (let x : term ≡ t = cc in let y : i ≡ suc n = cc in let z : each_term U sources ≡ args = cc in (sources, at ∙ (λ j. Some (constructor_site (x j) sources (y j))), z))
      by _ at q = absurd (cc)

  pub unwrap_number : (s : ℕ) (a : SiteTerm) (b : Site) → slice_get sites s ≡ Some b → U s ≡ some_part a → (x : ℕ) × (slice_get sites s ≡ Some (match_some_site x)) × (U x ≡ a)
  unwrap_number s a b at e = by b at (sym (unfolded_layer sites sources_before s b at) ∙ e)
    where
      by : (b : Site) → slice_get sites s ≡ Some b → layer U b ≡ some_part a → (x : ℕ) × (slice_get sites s ≡ Some (match_some_site x)) × (U x ≡ a)
      by (match_some_site x) at q = (x, at, cc)
      by _ at q = absurd (cc)
