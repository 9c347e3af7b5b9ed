-- A bind order binds each site after what it is made of, and none twice.
use Rattle.std.proofs.Common.{◌≡◌, ◌⊎◌, ℕ, zero, suc, Bool, true, false, not, ◌&&◌, ◌||◌, List, [], ◌∷◌, ◌++◌, slice_get, Contains, flat_map, refl, sym, ap, ◌∙◌, subst, inl, inr, arith}
use Rattle.std.specs.List.{list_all}
use Rattle.std.proofs.lemmas.Bool.{cases_Bool, and_parts, and_from, or_left, or_right, or_parts, false≢true}
use Rattle.std.proofs.lemmas.List.{append-nil}
use Rattle.std.proofs.lemmas.List.Elements.{Contains-append_left, Contains-append_right, filter-append}
use Rattle.std.proofs.lemmas.Grind.{common_steps}
use Rattle.model.specs.sites.Sites.{Site, sources_at}
use Rattle.model.specs.trees.Places.{Around, is_in, waits, is_available, available, is_in_place, below, all_below, each_after, listed_below, bind_order}
use Rattle.model.specs.claims.Layers.{can_be_used, binds_once}
use Rattle.model.proofs.Members.{nothing_in, in_head, in_tail, in_cases, all_pass, in_filter, from_filter, from_flat_map, member_found, member_is_in}
use Rattle.laws_trees.proofs.runs.Below.{below_itself, below_deeper, source_below, all_below_itself, all_below_source}
use Rattle.laws_trees.proofs.runs.BindOrders.{to_bind, opened}
use Rattle.laws_trees.proofs.runs.Listing.{listed_last, NextSite, AreClosed, closed_next, Walk, WalkedTo, order_listed}
use Rattle.laws_trees.proofs.binding.Scope.{BindableSet, ScopeAt}

-- 1. scopes
abbrev after_binds : List ℕ → List ℕ → List ℕ
after_binds scope [] = scope
after_binds scope (x ∷ xs) = after_binds (x ∷ scope) xs

after_old : (scope xs : List ℕ) (y : ℕ) → Contains (after_binds scope xs) y → Contains xs y ⊎ Contains scope y
after_old scope [] y c = inr c
after_old scope (x ∷ xs) y c =
    elim (after_old (x ∷ scope) xs y c) [
      | inl d ↦ inl (in_tail x y xs d)
      | inr d ↦ elim (in_cases x y scope d) [ inl e ↦ inl (subst (Contains (x ∷ xs)) e (in_head x xs)) | inr k ↦ inr k ]
    ]

after_new : (scope xs : List ℕ) (y : ℕ) → Contains xs y ⊎ Contains scope y → Contains (after_binds scope xs) y
after_new scope [] y (inl c) = absurd (nothing_in y c)
after_new scope [] y (inr c) = c
after_new scope (x ∷ xs) y (inl c) = after_new (x ∷ scope) xs y (elim (in_cases x y xs c) [ inl e ↦ inr (subst (Contains (x ∷ scope)) e (in_head x scope)) | inr d ↦ inl d ])
after_new scope (x ∷ xs) y (inr c) = after_new (x ∷ scope) xs y (inr (in_tail x y scope c))

module _ (sites : List Site) (again : List ℕ) where
  abbrev can_bind : List ℕ → ℕ → Bool
  can_bind scope s = (not (is_in s scope) || is_in s again) && list_all (can_be_used sites scope) (sources_at sites s)

  binds_last : (scope xs : List ℕ) (s : ℕ) → binds_once sites again scope xs ≡ true → can_bind (after_binds scope xs) s ≡ true → binds_once sites again scope (xs ++ s ∷ []) ≡ true
  binds_last scope [] s h k = and_from (can_bind scope s) true k refl
  binds_last scope (x ∷ xs) s h k = grind (arith, common_steps, binds_last (x ∷ scope) xs s, and_parts, and_from)

-- 2. what is listed
module _ (b : BindableSet) (ar : Around) (scope : ScopeAt b ar) (ss : List ℕ) where
  abbrev sites : List Site
  sites = b.set.sites

  abbrev Reach : ℕ → Type 0
  Reach u = (s : ℕ) × Contains ar.emitted s × Contains (below (suc s) sites s) u

  -- at or below what is emitted, or listed
  abbrev Ready : List ℕ → ℕ → Type 0
  Ready done u = Reach u ⊎ Contains done u

  record BoundOnce (done : List ℕ) : Type 0 where
    binds : binds_once sites scope.again scope.sites (to_bind sites done) ≡ true
    sources : AreClosed sites Reach done
    fine : (s : ℕ) → Contains done s → Contains (all_below sites ss) s

  reach_source : (u a : ℕ) → Reach u → Contains (sources_at sites u) a → Reach a
  reach_source u a (s, e, k) c = (s, e, below_deeper sites b.before (suc s) s u a (omega arith) k (source_below sites b.before u a c))

  ready_source : (done : List ℕ) → BoundOnce done → (u a : ℕ) → Ready done u → Contains (sources_at sites u) a → Ready done a
  ready_source done l u a (inl r) c = inl (reach_source u a r c)
  ready_source done l u a (inr d) c = l.sources u a d c

  ready_below : (done : List ℕ) → BoundOnce done → (n s u : ℕ) → Ready done s → Contains (below n sites s) u → Ready done u
  ready_below done l zero s u r c = absurd (nothing_in u c)
  ready_below done l (suc n) s u r c =
      elim (in_cases s u (flat_map (below n sites) (sources_at sites s)) c) [
        | inl e ↦ subst (Ready done) e r
        | inr d ↦ let x = from_flat_map (below n sites) (sources_at sites s) u d in ready_below done l n x.0 u (ready_source done l s x.0 r x.1) x.2
      ]

  ready_bound : (done : List ℕ) (u : ℕ) → Ready done u → is_in_place (slice_get sites u) ≡ false → Contains (to_bind sites done) u ⊎ Contains scope.sites u
  ready_bound done u (inl r) n = inr (scope.scoped.bound r.0 u r.1 r.2 n)
  ready_bound done u (inr c) n = inl (in_filter (λ s. not (is_in_place (slice_get sites s))) done u c (ap not n))

  usable : (done : List ℕ) → BoundOnce done → (wide : List ℕ) → ((x : ℕ) → Contains (to_bind sites done) x ⊎ Contains scope.sites x → Contains wide x) → (u : ℕ) → Ready done u → can_be_used sites wide u ≡ true
  usable done l wide all u r =
      elim (cases_Bool (is_in_place (slice_get sites u))) [
        | inr n ↦ or_left (is_in u wide) (is_in_place (slice_get sites u) && list_all (λ a. is_in a wide) (sources_at sites u)) (member_is_in u wide (all u (ready_bound done u r n)))
        | inl t ↦
            or_right (is_in u wide) (is_in_place (slice_get sites u) && list_all (λ a. is_in a wide) (sources_at sites u))
            (and_from (is_in_place (slice_get sites u)) (list_all (λ a. is_in a wide) (sources_at sites u)) t
            (all_pass (λ a. is_in a wide) (sources_at sites u) (λ a c. member_is_in a wide (all a (ready_bound done a (ready_source done l u a r c) (b.apart u a t c))))))
      ]

  -- one more
  may_bind : (done : List ℕ) → BoundOnce done → (s : ℕ) → (is_in s ar.emitted || is_in s done) ≡ false → ((a : ℕ) → Contains (sources_at sites s) a → Ready done a)
      → can_bind sites scope.again (after_binds scope.sites (to_bind sites done)) s ≡ true
  may_bind done l s f r =
      let wide = after_binds scope.sites (to_bind sites done) in
      let no = or_parts (is_in s ar.emitted) (is_in s done) f in
      and_from (not (is_in s wide) || is_in s scope.again) (list_all (can_be_used sites wide) (sources_at sites s))
      (elim (cases_Bool (is_in s wide)) [
        | inr n ↦ or_left (not (is_in s wide)) (is_in s scope.again) (ap not n)
        | inl t ↦
            elim (after_old scope.sites (to_bind sites done) s (member_found s wide t)) [
              | inl d ↦ absurd (false≢true (sym no.1 ∙ member_is_in s done (from_filter (λ x. not (is_in_place (slice_get sites x))) done s d).0))
              | inr d ↦
                  elim (scope.scoped.only s d) [
                    | inl e ↦ absurd (false≢true (sym no.0 ∙ member_is_in s ar.emitted e))
                    | inr e ↦ or_right (not (is_in s wide)) (is_in s scope.again) (member_is_in s scope.again e)
                  ]
            ]
      ])
      (all_pass (can_be_used sites wide) (sources_at sites s) (λ a c. usable done l wide (λ x k. after_new scope.sites (to_bind sites done) x k) a (r a c)))

  put_binds : (done : List ℕ) → BoundOnce done → (s : ℕ) → (is_in s ar.emitted || is_in s done) ≡ false → ((a : ℕ) → Contains (sources_at sites s) a → Ready done a)
      → binds_once sites scope.again scope.sites (to_bind sites (done ++ s ∷ [])) ≡ true
  put_binds done l s f r = grind (arith, common_steps, filter-append, to_bind, append-nil, binds_last, may_bind)

  put : (done : List ℕ) → BoundOnce done → (n : NextSite sites ar.emitted Reach done) → Contains (all_below sites ss) n.site → BoundOnce (done ++ n.site ∷ [])
  put done l n fine = record {
    binds = put_binds done l n.site n.unlisted n.sources;
    sources = closed_next sites ar.emitted Reach done l.sources n;
    fine = λ u c. elim (listed_last done n.site u c) [ inl d ↦ l.fine u d | inr e ↦ subst (Contains (all_below sites ss)) e fine ];
  }

  abbrev walk : Walk
  walk = record {
    sites = sites;
    before = b.before;
    emitted = ar.emitted;
    Base = Reach;
    base = λ t i. (t, member_found t ar.emitted i, below_itself sites t);
    MayList = Contains (all_below sites ss);
    deeper = λ s a may out c. all_below_source sites b.before ss s a may c;
    Invariant = BoundOnce;
    next = put;
  }

  abbrev listed_all : List ℕ
  listed_all = each_after (λ done s. listed_below (suc s) sites ar.emitted done s) [] ss

  all_listed : WalkedTo walk [] listed_all (Contains ss)
  all_listed = order_listed walk ss (λ s c. all_below_itself sites ss s c) (record { binds = refl; sources = λ s a c k. absurd (nothing_in s c); fine = λ s c. absurd (nothing_in s c) })

  abbrev pub binds_of : List ℕ
  binds_of = to_bind sites listed_all

  joined_scope : (x : ℕ) → Contains binds_of x ⊎ Contains scope.sites x → Contains (binds_of ++ scope.sites) x
  joined_scope x (inl c) = Contains-append_left binds_of scope.sites x c
  joined_scope x (inr c) = Contains-append_right binds_of scope.sites x c

  -- a bind order binds once, after it what is used can be used, and all below it is bound
  pub binds_are_once : binds_once sites scope.again scope.sites binds_of ≡ true
  binds_are_once = all_listed.holds.binds

  pub uses_are_bound : (u : ℕ) → Contains ss u → can_be_used sites (binds_of ++ scope.sites) u ≡ true
  uses_are_bound u c = usable listed_all all_listed.holds (binds_of ++ scope.sites) joined_scope u (all_listed.now u c)

  pub below_is_bound : (u : ℕ) → Contains (all_below sites ss) u → is_in_place (slice_get sites u) ≡ false → Contains (binds_of ++ scope.sites) u
  below_is_bound u c n =
      let x = from_flat_map (λ s. below (suc s) sites s) ss u c in
      joined_scope u (ready_bound listed_all u (ready_below listed_all all_listed.holds (suc x.0) x.0 u (all_listed.now x.0 x.1) x.2) n)

  pub binds_within : (u : ℕ) → Contains binds_of u → Contains (all_below sites ss) u
  binds_within u c = all_listed.holds.fine u (from_filter (λ s. not (is_in_place (slice_get sites s))) listed_all u c).0

-- 3. of available sites, none is bound that waits
module _ (b : BindableSet) (ar : Around) (more : (x : ℕ) → Contains ar.brought x → Contains ar.emitted x) where
  abbrev NoneWaits : List ℕ → Type 0
  NoneWaits done = (x : ℕ) → Contains done x → waits (slice_get b.set.sites x) ≡ false

  open_now : (n s : ℕ) → is_available n b.set.sites ar.brought s ≡ true → is_in s ar.emitted ≡ false
      → (waits (slice_get b.set.sites s) ≡ false) × ((a : ℕ) → Contains (sources_at b.set.sites s) a → (m : ℕ) × (is_available m b.set.sites ar.brought a ≡ true))
  open_now = opened b.set.sites ar (λ s i. member_is_in s ar.emitted (more s (member_found s ar.brought i)))

  abbrev waiting_walk : Walk
  waiting_walk = record {
    sites = b.set.sites;
    before = b.before;
    emitted = ar.emitted;
    Base = λ t. is_in t ar.emitted ≡ true;
    base = λ t i. i;
    MayList = λ s. (n : ℕ) × (is_available n b.set.sites ar.brought s ≡ true);
    deeper = λ s a may out c. (open_now may.0 s may.1 out).1 a c;
    Invariant = NoneWaits;
    next = λ done h n may x c. elim (listed_last done n.site x c) [
      | inl d ↦ h x d
      | inr e ↦ subst (λ y. waits (slice_get b.set.sites y) ≡ false) e (open_now may.0 n.site may.1 (or_parts (is_in n.site ar.emitted) (is_in n.site done) n.unlisted).0).0
    ];
  }

  pub none_waits : (ss : List ℕ) → ((s : ℕ) → Contains ss s → available b.set.sites ar s ≡ true) → (x : ℕ) → Contains (bind_order b.set.sites ar ss) x → waits (slice_get b.set.sites x) ≡ false
  none_waits ss avail x c =
      (order_listed waiting_walk ss (λ s k. (suc s, avail s k)) (λ y k. absurd (nothing_in y k))).holds x
      (from_filter (λ s. not (is_in_place (slice_get b.set.sites s))) (each_after (λ done s. listed_below (suc s) b.set.sites ar.emitted done s) [] ss) x c).0
