-- What stands below sites: themselves, their sources, and all below those; and what stands below calls without the calls.
use Rattle.std.proofs.Common.{◌≡◌, ◌⊎◌, ℕ, zero, suc, ◌<◌, ◌≤◌, List, [], ◌∷◌, All, Contains, flat_map, sym, ap, subst, inl, inr, arith}
use Rattle.std.proofs.lemmas.Bool.{cases_lt}
use Rattle.std.proofs.lemmas.Grind.{common_steps}
use Rattle.model.specs.sites.Sites.{Site, sources_at}
use Rattle.model.specs.trees.Places.{below, all_below}
use Rattle.model.specs.trees.Collects.{IsPureAt}
use Rattle.model.proofs.Members.{nothing_in, in_head, in_tail, in_cases, in_alone, all_members, in_flat_map, from_flat_map}
use Rattle.model.proofs.Bags.{flat_map_same}
use Rattle.laws_trees.proofs.runs.Contents.{SourcesBefore}

-- what is below calls that a loop goes over, without the calls
abbrev pub under : List Site → List ℕ → List ℕ
under sites calls = flat_map (λ s. all_below sites (sources_at sites s)) calls

-- a site and all below it make no impure call
abbrev pub IsPureBelow : List Site → ℕ → Type 0
IsPureBelow sites s = (u : ℕ) → Contains (below (suc s) sites s) u → IsPureAt sites u

module _ (sites : List Site) where
  pub below_itself : (s : ℕ) → Contains (below (suc s) sites s) s
  below_itself s = in_head s (flat_map (below s sites) (sources_at sites s))

  pub below_source : (n s x u : ℕ) → Contains (sources_at sites s) x → Contains (below n sites x) u → Contains (below (suc n) sites s) u
  below_source n s x u c k = in_tail s u (flat_map (below n sites) (sources_at sites s)) (in_flat_map (below n sites) (sources_at sites s) x u c k)

  -- these are below themselves, and pure where all below each of them is
  pub all_below_itself : (ss : List ℕ) (s : ℕ) → Contains ss s → Contains (all_below sites ss) s
  all_below_itself ss s c = in_flat_map (λ x. below (suc x) sites x) ss s s c (below_itself s)

  pub all_below_pure : (ss : List ℕ) → ((s : ℕ) → Contains ss s → IsPureBelow sites s) → (u : ℕ) → Contains (all_below sites ss) u → IsPureAt sites u
  all_below_pure ss pure u c = (let r = from_flat_map (λ x. below (suc x) sites x) ss u c in pure r.0 r.1 u r.2)

  -- so is all at and below a single one
  pub pure_alone : (s : ℕ) → IsPureBelow sites s → All (IsPureAt sites) (all_below sites (s ∷ []))
  pure_alone s pure = all_members (IsPureAt sites) (all_below sites (s ∷ [])) (all_below_pure (s ∷ []) (λ x c. subst (IsPureBelow sites) (in_alone s x c) pure))

module _ (sites : List Site) (before : SourcesBefore sites) where
  below_more : (n u : ℕ) → u < n → below (suc n) sites u ≡ below n sites u
  below_more zero u l = absurd (omega arith)
  below_more (suc n) u l = ap (λ xs. u ∷ xs) (flat_map_same (below (suc n) sites) (below n sites) (sources_at sites u) (λ x c. let m = before u x c in below_more n x (omega arith)))

  pub below_enough : (n u : ℕ) → u < n → below n sites u ≡ below (suc u) sites u
  below_enough zero u l = absurd (omega arith)
  below_enough (suc n) u l = grind (arith, common_steps, below_enough n u, cases_lt, below_more)

  pub below_within : (n s u : ℕ) → Contains (below n sites s) u → u ≤ s
  below_within zero s u c = absurd (nothing_in u c)
  below_within (suc n) s u c =
      elim (in_cases s u (flat_map (below n sites) (sources_at sites s)) c) [
        | inl e ↦ omega (arith, e)
        | inr d ↦
            let r = from_flat_map (below n sites) (sources_at sites s) u d in
            let l = before s r.0 r.1 in
            let m = below_within n r.0 u r.2 in
            omega (arith, l, m)
      ]

  -- what is below something that is below a site is below the site
  pub below_deeper : (n s u t : ℕ) → s < n → Contains (below n sites s) u → Contains (below (suc u) sites u) t → Contains (below n sites s) t
  below_deeper zero s u t l c k = absurd (nothing_in u c)
  below_deeper (suc n) s u t l c k =
      elim (in_cases s u (flat_map (below n sites) (sources_at sites s)) c) [
        | inl e ↦ subst (λ xs. Contains xs t) (sym (below_enough (suc n) s l)) (subst (λ x. Contains (below (suc x) sites x) t) (sym e) k)
        | inr d ↦
            let r = from_flat_map (below n sites) (sources_at sites s) u d in
            let m = before s r.0 r.1 in
            below_source sites n s r.0 t r.1 (below_deeper n r.0 u t (omega (arith, l, m)) r.2 k)
      ]

  -- so it is with what is below these
  pub all_below_deeper : (ss : List ℕ) (s u : ℕ) → Contains (all_below sites ss) s → Contains (below (suc s) sites s) u → Contains (all_below sites ss) u
  all_below_deeper ss s u c k =
      let a = from_flat_map (λ x. below (suc x) sites x) ss s c in
      in_flat_map (λ x. below (suc x) sites x) ss a.0 u a.1 (below_deeper (suc a.0) a.0 s u (omega arith) a.2 k)

  pub source_below : (s x : ℕ) → Contains (sources_at sites s) x → Contains (below (suc s) sites s) x
  source_below s x c = below_source sites s s x x c (subst (λ xs. Contains xs x) (sym (below_enough s x (before s x c))) (below_itself sites x))

  pub all_below_source : (ss : List ℕ) (s x : ℕ) → Contains (all_below sites ss) s → Contains (sources_at sites s) x → Contains (all_below sites ss) x
  all_below_source ss s x c k = all_below_deeper ss s x c (source_below s x k)

  -- so all that is below pure sites has only pure ones below it
  pub pure_deeper : (ss : List ℕ) → ((u : ℕ) → Contains (all_below sites ss) u → IsPureAt sites u) → (s : ℕ) → Contains (all_below sites ss) s → IsPureBelow sites s
  pure_deeper ss pure s c u k = pure u (all_below_deeper ss s u c k)

  pub pure_sources : (s x : ℕ) → Contains (sources_at sites s) x → IsPureBelow sites s → IsPureBelow sites x
  pure_sources s x c pure u k =
      let l = before s x c in
      pure u (below_source sites s s x u c (subst (λ xs. Contains xs u) (sym (below_enough s x l)) k))

  -- below a call stands the call, and what is under it
  pub call_or_under : (source t : ℕ) → Contains (all_below sites (source ∷ [])) t → (source ≡ t) ⊎ Contains (under sites (source ∷ [])) t
  call_or_under source t c =
      let a = from_flat_map (λ s. below (suc s) sites s) (source ∷ []) t c in
      let k : Contains (below (suc source) sites source) t = subst (λ s. Contains (below (suc s) sites s) t) (sym (in_alone source a.0 a.1)) a.2 in
      elim (in_cases source t (flat_map (below source sites) (sources_at sites source)) k) [
        | inl e ↦ inl e
        | inr r ↦
            let u = from_flat_map (below source sites) (sources_at sites source) t r in
            let l = before source u.0 u.1 in
            inr (in_flat_map (λ s. all_below sites (sources_at sites s)) (source ∷ []) source t (in_head source [])
            (in_flat_map (λ x. below (suc x) sites x) (sources_at sites source) u.0 t u.1 (subst (λ xs. Contains xs t) (below_enough source u.0 l) u.2)))
      ]

  pub under_below : (source t : ℕ) → Contains (under sites (source ∷ [])) t → Contains (all_below sites (source ∷ [])) t
  under_below source t c =
      let a = from_flat_map (λ s. all_below sites (sources_at sites s)) (source ∷ []) t c in
      let b = from_flat_map (λ u. below (suc u) sites u) (sources_at sites a.0) t a.2 in
      let e = in_alone source a.0 a.1 in
      let k : Contains (sources_at sites source) b.0 = subst (λ s. Contains (sources_at sites s) b.0) (sym e) b.1 in
      let l = before source b.0 k in
      in_flat_map (λ s. below (suc s) sites s) (source ∷ []) source t (in_head source [])
      (below_source sites source source b.0 t k (subst (λ xs. Contains xs t) (sym (below_enough source b.0 l)) b.2))
