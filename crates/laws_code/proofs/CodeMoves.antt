-- A call that a loop goes over is emitted only around that loop's body, so bind orders list it before each loop.
use Rattle.std.proofs.Common.{◌≡◌, ◌⊎◌, inl, inr, ℕ, zero, suc, ◌<◌, ◌&&◌, ◌||◌, Bool, true, false, not, if◌then◌else◌, List, [], ◌∷◌, ◌++◌, length, Option, Some, None, slice_get, Contains, flat_map, refl, sym, ap, subst, ◌∙◌, ltb-true, arith}
use Rattle.std.proofs.lemmas.Grind.{common_steps}
use Rattle.std.specs.List.{list_all}
use Rattle.std.proofs.lemmas.Bool.{cases_Bool, and_parts, and_from, false≢true, true≢false}
use Rattle.std.proofs.lemmas.List.Elements.{Contains-append_left, Contains-append_right, Contains-append_cases}
use Rattle.model.specs.sites.Sites.{Site, bool_site, extractor_site, constructor_site, iterator_site, make_variant_site, match_variant_site, make_struct_site, extract_struct_site, make_some_site, match_some_site, match_tuple_site, Constraint, SetRule, SiteSet, sources_of, sources_at}
use Rattle.model.specs.trees.Trees.{Marked, m_no_step, m_step, MarkedCheck, m_match, m_equal, m_loop, m_return, MarkedArms, m_no_arm, m_arm, plain, plain_check, plain_arms, return_of, marks, marks_arms}
use Rattle.model.specs.trees.Places.{Around, nothing_around, is_in, is_in_place, waits, is_available, available, below, all_below, each_after, listed_below, bind_order, field_sites, constraint_at, in_arm, in_equal, in_loop, after_step}
use Rattle.model.specs.trees.Tests.{Test, match_test, equal_test, needs, is_needed, needs_at, is_lower, is_covered, IsOpen, sources_around, is_at_hand}
use Rattle.model.specs.trees.Best.{IsMade, BestSteps, BestArms}
use Rattle.model.proofs.Elements.{or_split}
use Rattle.model.proofs.Members.{nothing_in, in_head, in_tail, in_cases, in_alone, some_member, member_from_get, get_from_member, get_within, each_passes, one_passes, passes_any, in_filter, from_filter, in_flat_map, from_flat_map, member_found, member_is_in, constraint_in}
use Rattle.model.proofs.Options.{is_there}
use Rattle.model.proofs.SameSites.{number_same}
use Rattle.model.specs.claims.Layers.{own_program}
use Rattle.laws_typing.proofs.WellTypedRules.{read_programs_are_well_typed}
use Rattle.laws_trees.proofs.JudgeExactness.{not_exact}
use Rattle.laws_code.proofs.BroughtSites.{IsBrought, is_brought, brought_waits, brought_source}
use Rattle.model_code.specs.Code.{Block, statement}
use Rattle.model_code.specs.TreeCode.{Passes, place_of, arguments_from, fields_of, bind_code, binds_code, loop_code, tree_code, check_code, arms_code}
use Rattle.model_code.specs.Scopes.{LoopsAreOverBound}
use Rattle.model_code.specs.Moves.{other, others, fresh_after, block_takes, statement_takes, arms_take, goes_over, is_called}
use Rattle.model_code.proofs.FlatMoves.{flat_keeps_moves_lem}
use Rattle.model_code.proofs.PrintedCode.{tree_unlabelled}
use Rattle.model_code.proofs.TreeScopes.{ended_or}
use Rattle.laws_code.specs.CodeMoves.{HasLoopOver, CallsAreGoneOver, CallsAreGoneOverInBuiltSets, LoopsTakeOnce, CodeOfAcceptedTakesOnce}
use Rattle.laws_code.specs.CodeScopes.{BuiltSetsLoopOverBound}

abbrev made_of : Option Site → List ℕ
made_of o = elim o as (λ _. List ℕ) [ None ↦ [] | Some b ↦ sources_of b ]

abbrev picks : Option Site → Bool
picks (Some (iterator_site source)) = true
picks _ = false

-- 1. the calls of a set
called_is : (sites : List Site) (c : ℕ) → HasLoopOver sites c → is_called sites c ≡ true
called_is sites c k = passes_any (goes_over c) sites (iterator_site c) (member_from_get sites k.0 (iterator_site c) k.1) (number_same c)

free_is : (sites : List Site) (c : ℕ) → (HasLoopOver sites c → ⊥) → is_called sites c ≡ false
free_is sites c n = elim (cases_Bool (is_called sites c)) [ inl t ↦ absurd (n (grind (arith, one_passes, get_from_member))) | inr f ↦ f ]

not_false : (b : Bool) → b ≡ false → not b ≡ true
not_false b h = grind (arith, common_steps)

-- 2. a made test is needed by a rule
needed_by : (rules : List SetRule) (t : Test) (i : ℕ) (o : Option SetRule) → slice_get rules i ≡ o → is_needed t o ≡ true → (r : SetRule) × Contains rules r × (needs t r ≡ true)
needed_by rules t i o at h = grind (arith, common_steps, member_from_get)

made_is_needed : (set : SiteSet) (ar : Around) (held later : List ℕ) (t : Test) → IsMade set ar held later t → (r : SetRule) × Contains set.rules r × (needs t r ≡ true)
made_is_needed set ar held later t made =
    let i = some_member held made.some_rule in
    let c = from_filter (is_covered set.rules (held ++ later) t) (held ++ later) i.0 (subst (λ l. Contains l i.0) (sym made.rules) i.1) in
    needed_by set.rules t i.0 (slice_get set.rules i.0) refl (and_parts (needs_at set.rules t i.0) (list_all (λ j. needs_at set.rules t j || not (is_lower set.rules i.0 j)) (held ++ later)) c.1).0

module _ (set : SiteSet) (p : Passes) (calls : CallsAreGoneOver set) (over : LoopsAreOverBound set.sites) where
  abbrev sites : List Site
  sites = set.sites

  abbrev taken : ℕ → Bool
  taken = is_called sites

  -- 3. what is emitted of calls
  pub record Looped (ar : Around) : Type 0 where
    pub emitted : (c : ℕ) → HasLoopOver sites c → Contains ar.emitted c → Contains ar.looped c
    pub brought : (c s m : ℕ) → HasLoopOver sites c → Contains ar.brought s → Contains (below m sites s) c → Contains ar.looped c

  waiting_free : (s : ℕ) → waits (slice_get sites s) ≡ true → HasLoopOver sites s → ⊥
  waiting_free s w k = true≢false (sym w ∙ calls.waits_not s k)

  module _ (ar : Around) (inv : Looped ar) where
    abbrev Down : ℕ → Type 0
    Down m = (n s c : ℕ) → is_available n sites ar.brought s ≡ true → (HasLoopOver sites s → ⊥) → HasLoopOver sites c → Contains (below m sites s) c → Contains ar.looped c

    beneath : (m : ℕ) → Down m → (n s u c : ℕ) → is_available n sites ar.brought s ≡ true → Contains (sources_at sites s) u → HasLoopOver sites c → Contains (below m sites u) c → Contains ar.looped c
    beneath m down zero s u c a source k i = absurd (false≢true a)
    beneath m down (suc n) s u c a source k i =
        elim (or_split (is_in s ar.brought) (not (waits (slice_get sites s)) && list_all (is_available n sites ar.brought) (sources_at sites s)) a) [
          | inl b ↦ inv.brought c s (suc m) k (member_found s ar.brought b) (in_tail s c (flat_map (below m sites) (sources_at sites s)) (in_flat_map (below m sites) (sources_at sites s) u c source i))
          | inr b ↦
              let hs = and_parts (not (waits (slice_get sites s))) (list_all (is_available n sites ar.brought) (sources_at sites s)) b in
              down n u c (each_passes (is_available n sites ar.brought) (sources_at sites s) hs.1 u source)
              (λ q. false≢true (sym ((not_exact (waits (slice_get sites s))).0 hs.0) ∙ (ap waits (calls.made u s q source)))) k i
        ]

    -- a call below what is available, and isn't it, is gone over around
    deep : (m : ℕ) → Down m
    deep zero n s c a free k i = absurd (nothing_in c i)
    deep (suc m) n s c a free k i =
        elim (in_cases s c (flat_map (below m sites) (sources_at sites s)) i) [
          | inl e ↦ absurd (free (subst (HasLoopOver sites) (sym e) k))
          | inr d ↦ let u = from_flat_map (below m sites) (sources_at sites s) c d in beneath m (deep m) n s u.0 c a u.1 k u.2
        ]

    -- what a test emits
    all_deep : (ss : List ℕ) (c : ℕ) → ((s : ℕ) → Contains ss s → (available sites ar s ≡ true) × (HasLoopOver sites s → ⊥)) → HasLoopOver sites c → Contains (all_below sites ss) c → Contains ar.looped c
    all_deep ss c h k i =
        let s = from_flat_map (λ y. below (suc y) sites y) ss c i in
        let a = h s.0 s.1 in
        deep (suc s.0) (suc s.0) s.0 c a.0 a.1 k s.2

    after_emitted : (ss : List ℕ) → ((s : ℕ) → Contains ss s → (available sites ar s ≡ true) × (HasLoopOver sites s → ⊥)) → (c : ℕ) → HasLoopOver sites c → Contains (all_below sites ss ++ ar.emitted) c → Contains ar.looped c
    after_emitted ss h c k i = elim (Contains-append_cases (all_below sites ss) ar.emitted c i) [ inl d ↦ all_deep ss c h k d | inr d ↦ inv.emitted c k d ]

    -- in an arm
    arm_looped : (source : ℕ) (constraint : Constraint) (fields : List (Option ℕ)) → fields ≡ Rattle.model.specs.trees.Places.fields_of sites source constraint
        → available sites ar source ≡ true → (HasLoopOver sites source → ⊥) → Looped (in_arm set ar source constraint fields)
    arm_looped source constraint fields exact a free = record {
      emitted = λ c k i. elim (Contains-append_cases (field_sites fields ++ all_below sites (source ∷ [])) ar.emitted c (arm_split c i)) [
        | inr d ↦ inv.emitted c k d
        | inl d ↦ elim (Contains-append_cases (field_sites fields) (all_below sites (source ∷ [])) c d) [
          | inl f ↦ absurd (waiting_free c (field_waits c f) k)
          | inr f ↦ all_deep (source ∷ []) c alone k f
        ]
      ];
      brought = λ c s m k b i. elim (Contains-append_cases (field_sites fields) ar.brought s b) [
        | inr d ↦ inv.brought c s m k d i
        | inl d ↦ of_brought c s m k d i
      ];
    }
      where
        of_field : (x : ℕ) → Contains (field_sites fields) x → IsBrought sites source constraint x
        of_field x c = is_brought sites source constraint x (subst (λ l. Contains (field_sites l) x) exact c)

        field_waits : (x : ℕ) → Contains (field_sites fields) x → waits (slice_get sites x) ≡ true
        field_waits x c = brought_waits sites source constraint x (of_field x c)

        field_source : (x : ℕ) → Contains (field_sites fields) x → sources_at sites x ≡ source ∷ []
        field_source x c = brought_source sites source constraint x (of_field x c)

        alone : (s : ℕ) → Contains (source ∷ []) s → (available sites ar s ≡ true) × (HasLoopOver sites s → ⊥)
        alone s c = let e = in_alone source s c in (subst (λ y. available sites ar y ≡ true) e a, λ q. free (subst (HasLoopOver sites) (sym e) q))

        arm_split : (c : ℕ) → Contains (in_arm set ar source constraint fields).emitted c → Contains ((field_sites fields ++ all_below sites (source ∷ [])) ++ ar.emitted) c
        arm_split c i = i

        of_brought : (c s m : ℕ) → HasLoopOver sites c → Contains (field_sites fields) s → Contains (below m sites s) c → Contains ar.looped c
        of_brought c s zero k f i = absurd (nothing_in c i)
        of_brought c s (suc m) k f i =
            elim (in_cases s c (flat_map (below m sites) (sources_at sites s)) i) [
              | inl e ↦ absurd (waiting_free c (subst (λ y. waits (slice_get sites y) ≡ true) e (field_waits s f)) k)
              | inr d ↦
                  let u = from_flat_map (below m sites) (sources_at sites s) c d in
                  let same = in_alone source u.0 (subst (λ l. Contains l u.0) (field_source s f) u.1) in
                  deep m (suc source) source c a free k (subst (λ y. Contains (below m sites y) c) (sym same) u.2)
            ]

    -- in a loop, and after it
    module _ (result source : ℕ) (at : slice_get sites result ≡ Some (iterator_site source)) (a : available sites ar source ≡ true) where
      one : sources_at sites result ≡ source ∷ []
      one = ap made_of at

      is_source : (x : ℕ) → Contains (sources_at sites result) x → source ≡ x
      is_source x c = in_alone source x (subst (λ l. Contains l x) one c)

      -- what is below the sources of the call
      lower : (c : ℕ) → HasLoopOver sites c → Contains (flat_map (λ s. all_below sites (sources_at sites s)) (sources_at sites result)) c → Contains ar.looped c
      lower c k i =
          let x = from_flat_map (λ s. all_below sites (sources_at sites s)) (sources_at sites result) c i in
          let u = from_flat_map (λ y. below (suc y) sites y) (sources_at sites x.0) c x.2 in
          (beneath (suc u.0) (deep (suc u.0))) (suc source) source u.0 c a (subst (λ y. Contains (sources_at sites y) u.0) (sym (is_source x.0 x.1)) u.1) k u.2

      after_loop : (c : ℕ) → HasLoopOver sites c → Contains (flat_map (λ s. all_below sites (sources_at sites s)) (sources_at sites result) ++ ar.emitted) c → Contains ar.looped c
      after_loop c k i = elim (Contains-append_cases (flat_map (λ s. all_below sites (sources_at sites s)) (sources_at sites result)) ar.emitted c i) [ inl d ↦ lower c k d | inr d ↦ inv.emitted c k d ]

      within : (c : ℕ) → Contains ar.looped c → Contains (in_loop set ar result).looped c
      within c i = Contains-append_right (sources_at sites result) ar.looped c i

      below_call : (c m : ℕ) → HasLoopOver sites c → Contains (below m sites source) c → Contains (in_loop set ar result).looped c
      below_call c zero k i = absurd (nothing_in c i)
      below_call c (suc m) k i =
          elim (in_cases source c (flat_map (below m sites) (sources_at sites source)) i) [
            | inl e ↦ Contains-append_left (sources_at sites result) ar.looped c (subst (λ l. Contains l c) (sym one) (subst (Contains (source ∷ [])) e (in_head source [])))
            | inr d ↦ let u = from_flat_map (below m sites) (sources_at sites source) c d in within c ((beneath m (deep m)) (suc source) source u.0 c a u.1 k u.2)
          ]

      below_pick : (c m : ℕ) → HasLoopOver sites c → Contains (below m sites result) c → Contains (in_loop set ar result).looped c
      below_pick c zero k i = absurd (nothing_in c i)
      below_pick c (suc m) k i =
          elim (in_cases result c (flat_map (below m sites) (sources_at sites result)) i) [
            | inl e ↦ absurd (waiting_free c (subst (λ y. waits (slice_get sites y) ≡ true) e (ap waits at)) k)
            | inr d ↦ let u = from_flat_map (below m sites) (sources_at sites result) c d in below_call c m k (subst (λ y. Contains (below m sites y) c) (sym (is_source u.0 u.1)) u.2)
          ]

      loop_looped : Looped (in_loop set ar result)
      loop_looped = record {
        emitted = λ c k i. elim (in_cases result c (flat_map (λ s. all_below sites (sources_at sites s)) (sources_at sites result) ++ ar.emitted) i) [
          | inl e ↦ absurd (waiting_free c (subst (λ y. waits (slice_get sites y) ≡ true) e (ap waits at)) k)
          | inr d ↦ within c (after_loop c k d)
        ];
        brought = λ c s m k b i. elim (in_cases result s ar.brought b) [
          | inl e ↦ below_pick c m k (subst (λ y. Contains (below m sites y) c) (sym e) i)
          | inr d ↦ within c (inv.brought c s m k d i)
        ];
      }

      -- the call is bound right before the loop
      bound_before : is_in source (sources_around ar) ≡ false → Contains (bind_order sites ar (sources_at sites result)) source
      bound_before free = subst (λ l. Contains (bind_order sites ar l) source) (sym one)
          (in_filter (λ s. not (is_in_place (slice_get sites s))) (listed_below (suc source) sites ar.emitted [] source) source listed (not_false (is_in_place (slice_get sites source)) (over result source at)))
        where
          not_emitted : is_in source ar.emitted ≡ false
          not_emitted = grind (arith, common_steps, member_is_in source (sources_around ar), member_found source ar.emitted, inv.emitted source ((result, at)))

          listed : Contains (listed_below (suc source) sites ar.emitted [] source) source
          listed = list_it (is_in source ar.emitted) not_emitted
            where
              list_it : (b : Bool) → b ≡ false → Contains (if b || false then [] else each_after (listed_below source sites ar.emitted) [] (sources_at sites source) ++ source ∷ []) source
              list_it true e = absurd (true≢false e)
              list_it false e = Contains-append_right (each_after (listed_below source sites ar.emitted) [] (sources_at sites source)) (source ∷ []) source (in_head source [])

  -- 4. what is read
  open_site : (ar : Around) (s : ℕ) → IsOpen set ar (match_test s) → (available sites ar s ≡ true) × (is_in s (sources_around ar) ≡ false)
  open_site ar s h = grind (arith, common_steps, and_parts (is_at_hand set ar s) (not (is_in s (sources_around ar))) h, not_exact (is_in s (sources_around ar)), and_parts, not_exact)

  -- what another site than a pick is made of isn't taken
  free_source : (t c : ℕ) (o : Option Site) → slice_get sites t ≡ o → picks o ≡ false → Contains (made_of o) c → taken c ≡ false
  free_source t c o at n i = free_is sites c (λ k. false≢true (sym n ∙ ap picks (sym at ∙ calls.made c t k (subst (λ q. Contains (made_of q) c) (sym at) i))))

  other_at : (s : ℕ) (o : Option Site) → slice_get sites s ≡ o → taken s ≡ false → other taken (place_of o s) ≡ true
  other_at s None at f = not_false (taken s) f
  other_at s (Some (bool_site b ty)) at f = not_false (taken s) f
  other_at s (Some (extractor_site term source)) at f = not_false (taken s) f
  other_at s (Some (constructor_site term sources instance)) at f = not_false (taken s) f
  other_at s (Some (iterator_site source)) at f = not_false (taken s) f
  other_at s (Some (make_variant_site ty variant (x ∷ xs))) at f = not_false (taken s) f
  other_at s (Some (match_variant_site source variant field)) at f = not_false (taken s) f
  other_at s (Some (make_struct_site ty (x ∷ xs))) at f = not_false (taken s) f
  other_at s (Some (extract_struct_site source field)) at f = not_false (taken s) f
  other_at s (Some (make_some_site source)) at f = not_false (taken s) f
  other_at s (Some (match_some_site source)) at f = not_false (taken s) f
  other_at s (Some (match_tuple_site source field)) at f = not_false (taken source) (free_source s source (Some (match_tuple_site source field)) at refl (in_head source []))
  other_at s o at f = refl

  other_is : (s : ℕ) → taken s ≡ false → other taken (place_of (slice_get sites s) s) ≡ true
  other_is s f = other_at s (slice_get sites s) refl f

  abbrev AllFree : List ℕ → Type 0
  AllFree ss = (x : ℕ) → Contains ss x → taken x ≡ false

  arguments_other : (term i : ℕ) (ss : List ℕ) → AllFree ss → others taken (arguments_from sites p term i ss) ≡ true
  arguments_other term i [] h = refl
  arguments_other term i (s ∷ ss) h = and_from _ _ (other_is s (h s (in_head s ss))) (arguments_other term (suc i) ss (λ x c. h x (in_tail s x ss c)))

  fields_other : (ss : List ℕ) → AllFree ss → others taken (fields_of sites p ss) ≡ true
  fields_other [] h = refl
  fields_other (s ∷ ss) h = and_from _ _ (other_is s (h s (in_head s ss))) (fields_other ss (λ x c. h x (in_tail s x ss c)))

  bind_takes : (s : ℕ) (o : Option Site) (rest : Block) (fresh : List ℕ) → slice_get sites s ≡ o → block_takes taken (s ∷ fresh) rest ≡ true → block_takes taken fresh (statement (bind_code sites p s o) rest) ≡ true
  bind_takes s (Some (bool_site b ty)) rest fresh at h = h
  bind_takes s (Some (extractor_site term source)) rest fresh at h = and_from _ _ (other_is source (free_source s source (Some (extractor_site term source)) at refl (in_head source []))) h
  bind_takes s (Some (constructor_site term sources instance)) rest fresh at h =
      and_from _ _ (arguments_other term 0 sources (λ x c. free_source s x (Some (constructor_site term sources instance)) at refl c)) h
  bind_takes s (Some (make_variant_site ty variant fields)) rest fresh at h = and_from _ _ (fields_other fields (λ x c. free_source s x (Some (make_variant_site ty variant fields)) at refl c)) h
  bind_takes s (Some (make_struct_site ty fields)) rest fresh at h = and_from _ _ (fields_other fields (λ x c. free_source s x (Some (make_struct_site ty fields)) at refl c)) h
  bind_takes s (Some (make_some_site source)) rest fresh at h = and_from _ _ (other_is source (free_source s source (Some (make_some_site source)) at refl (in_head source []))) h
  bind_takes s (Some (match_some_site source)) rest fresh at h = and_from _ _ (other_is source (free_source s source (Some (match_some_site source)) at refl (in_head source []))) h
  bind_takes s o rest fresh at h = refl

  binds_take : (ss done : List ℕ) (rest : Block) (fresh : List ℕ) → ((x : ℕ) → Contains done x → Contains fresh x)
      → ((fresh' : List ℕ) → ((x : ℕ) → Contains ss x ⊎ Contains done x → Contains fresh' x) → block_takes taken fresh' rest ≡ true)
      → block_takes taken fresh (binds_code sites p ss rest) ≡ true
  binds_take [] done rest fresh have next = next fresh (λ x c. elim c [ inl n ↦ absurd (nothing_in x n) | inr d ↦ have x d ])
  binds_take (s ∷ ss) done rest fresh have next =
      bind_takes s (slice_get sites s) (binds_code sites p ss rest) fresh refl
      (binds_take ss (s ∷ done) rest (s ∷ fresh)
      (λ x c. elim (in_cases s x done c) [ inl e ↦ subst (Contains (s ∷ fresh)) e (in_head s fresh) | inr d ↦ in_tail s x fresh (have x d) ])
      (λ fresh' g. next fresh' (λ x c. grind (arith, common_steps, in_tail s x done, in_cases s x ss, in_head s done))))

  loop_takes : (result source : ℕ) (o : Option Site) (body : Block) (fresh : List ℕ) → o ≡ Some (iterator_site source) → taken source ≡ true → Contains fresh source → block_takes taken [] body ≡ true
      → statement_takes taken fresh (loop_code o result body) ≡ true
  loop_takes result source o body fresh at t i h = grind (arith, common_steps, member_is_in source fresh i, and_from, member_is_in)

  return_takes : (o : Option SetRule) (r : SetRule) (fresh : List ℕ) → o ≡ Some r → taken r.result ≡ false → statement_takes taken fresh (check_code (return_of o) sites p) ≡ true
  return_takes o r fresh e f = subst (λ q. statement_takes taken fresh (check_code (return_of q) sites p) ≡ true) (sym e) (other_is r.result f)

  check_fresh : (check : MarkedCheck) (fresh : List ℕ) → fresh_after fresh (check_code (plain_check set.rules check) sites p) ≡ []
  check_fresh (m_match source arms) fresh = refl
  check_fresh check fresh = grind (arith, common_steps)

  -- 5. by induction on the marked tree
  abbrev AreOfRules : List ℕ → Type 0
  AreOfRules ms = (i : ℕ) → Contains ms i → i < length set.rules

  step_takes : (binds : List ℕ) (check : MarkedCheck) (rest : Marked) (fresh : List ℕ)
      → ((fresh' : List ℕ) → ((x : ℕ) → Contains binds x → Contains fresh' x) → statement_takes taken fresh' (check_code (plain_check set.rules check) sites p) ≡ true)
      → block_takes taken [] (tree_code (plain set.rules rest) sites p) ≡ true
      → block_takes taken fresh (tree_code (plain set.rules (m_step binds check rest)) sites p) ≡ true
  step_takes binds check rest fresh here after =
      binds_take binds [] (statement (check_code (plain_check set.rules check) sites p) (tree_code (plain set.rules rest) sites p)) fresh (λ x c. absurd (nothing_in x c))
      (λ fresh' g. grind (arith, and_from, ended_or, check_fresh, here fresh' (λ x c. g x (inl c))))

  constrained_free : (r : SetRule) (s : ℕ) → Contains set.rules r → needs (match_test s) r ≡ true → HasLoopOver sites s → ⊥
  constrained_free r s c h k = let d = is_there (constraint_at r.constraints s) h in calls.constrained r s d.0 c (constraint_in r.constraints s d.0 d.1) k

  alone_there : (ar : Around) (s : ℕ) → available sites ar s ≡ true → (HasLoopOver sites s → ⊥) → (x : ℕ) → Contains (s ∷ []) x → (available sites ar x ≡ true) × (HasLoopOver sites x → ⊥)
  alone_there ar s a n x c = let e = in_alone s x c in (subst (λ y. available sites ar y ≡ true) e a, λ q. n (subst (HasLoopOver sites) (sym e) q))

  mutual
    steps_take : (m : Marked) (ar : Around) (closing : Bool) (fresh : List ℕ) → (closing ≡ false → Looped ar) → BestSteps set ar closing m → AreOfRules (marks m)
        → block_takes taken fresh (tree_code (plain set.rules m) sites p) ≡ true
    steps_take m_no_step ar closing fresh inv best ks = refl
    steps_take (m_step binds (m_match source arms) rest) ar closing fresh inv best ks =
        let check = best.1 in
        let w = inv check.0 in
        let open_at = open_site ar source check.1.test.open_here in
        let need = made_is_needed set ar _ _ (match_test source) check.1 in
        let free = constrained_free need.0 source need.1 need.2 in
        step_takes binds (m_match source arms) rest fresh
        (λ fresh' g. and_from _ _ (other_is source (free_is sites source free)) (arms_take_once arms ar source None w open_at.0 free check.2 (λ i c. ks i (Contains-append_left (marks_arms arms) (marks rest) i c))))
        (steps_take rest (after_step set ar (m_match source arms)) false [] (λ q. record { emitted = after_emitted ar w (source ∷ []) (alone_there ar source open_at.0 free); brought = w.brought }) best.2
        (λ i c. ks i (Contains-append_right (marks_arms arms) (marks rest) i c)))
    steps_take (m_step binds (m_equal a b body) rest) ar closing fresh inv best ks =
        let check = best.1 in
        let w = inv check.0 in
        let pair = and_parts _ _ check.1.test.open_here in
        let second = and_parts _ (is_at_hand set ar b) pair.0 in
        let first = and_parts _ (is_at_hand set ar a) second.0 in
        let need = made_is_needed set ar _ _ (equal_test a b) check.1 in
        let free = calls.equated need.0 a b need.1 (ltb-true a b first.0) need.2 in
        let both : (s : ℕ) → Contains (a ∷ (b ∷ [])) s → (available sites ar s ≡ true) × (HasLoopOver sites s → ⊥) = λ s c. elim (in_cases a s (b ∷ []) c) [
          | inl e ↦ alone_there ar a (and_parts _ (available sites ar a) first.1).1 free.0 s (subst (Contains (a ∷ [])) e (in_head a []))
          | inr d ↦ alone_there ar b (and_parts _ (available sites ar b) second.1).1 free.1 s d
        ] in
        let emitted = after_emitted ar w (a ∷ (b ∷ [])) both in
        step_takes binds (m_equal a b body) rest fresh
        (λ fresh' g. and_from _ _ (and_from _ _ (other_is a (free_is sites a free.0)) (other_is b (free_is sites b free.1)))
        (steps_take body (in_equal set ar a b) false [] (λ q. record { emitted = emitted; brought = w.brought }) check.2 (λ i c. ks i (Contains-append_left (marks body) (marks rest) i c))))
        (steps_take rest (after_step set ar (m_equal a b body)) false [] (λ q. record { emitted = emitted; brought = w.brought }) best.2 (λ i c. ks i (Contains-append_right (marks body) (marks rest) i c)))
    steps_take (m_step binds (m_loop result body) rest) ar closing fresh inv best ks =
        let check = best.1 in
        let w = inv check.0 in
        let source = check.1.0 in
        let at = check.1.1 in
        let open_at = open_site ar source check.1.2.test.open_here in
        step_takes binds (m_loop result body) rest fresh
        (λ fresh' g. loop_takes result source (slice_get sites result) (tree_code (plain set.rules body) sites p) fresh' at (called_is sites source (result, at))
        (g source (subst (λ l. Contains l source) (sym best.0) (bound_before ar w result source at open_at.0 open_at.1)))
        (steps_take body (in_loop set ar result) false [] (λ q. loop_looped ar w result source at open_at.0) check.2 (λ i c. ks i (Contains-append_left (marks body) (marks rest) i c))))
        (steps_take rest (after_step set ar (m_loop result body)) false [] (λ q. record { emitted = after_loop ar w result source at open_at.0; brought = w.brought }) best.2
        (λ i c. ks i (Contains-append_right (marks body) (marks rest) i c)))
    steps_take (m_step binds (m_return rule) rest) ar closing fresh inv best ks =
        let r = get_within set.rules rule (ks rule (in_head rule (marks rest))) in
        step_takes binds (m_return rule) rest fresh
        (λ fresh' g. return_takes (slice_get set.rules rule) r.0 fresh' r.1 (free_is sites r.0.result (calls.returned r.0 (member_from_get set.rules rule r.0 r.1))))
        (steps_take rest (after_step set ar (m_return rule)) true [] (λ q. absurd (true≢false q)) best.2 (λ i c. ks i (in_tail rule i (marks rest) c)))

    arms_take_once : (arms : MarkedArms) (ar : Around) (source : ℕ) (prior : Option Constraint) → Looped ar → available sites ar source ≡ true → (HasLoopOver sites source → ⊥) → BestArms set ar source prior arms → AreOfRules (marks_arms arms)
        → arms_take taken (arms_code (plain_arms set.rules arms) sites p) ≡ true
    arms_take_once m_no_arm ar source prior w a free best ks = refl
    arms_take_once (m_arm constraint fields body rest) ar source prior w a free best ks =
        and_from _ _
        (steps_take body (in_arm set ar source constraint fields) false [] (λ q. arm_looped ar w source constraint fields best.3 a free) best.4 (λ i c. ks i (Contains-append_left (marks body) (marks_arms rest) i c)))
        (arms_take_once rest ar source (Some constraint) w a free best.5 (λ i c. ks i (Contains-append_right (marks body) (marks_arms rest) i c)))

pub loops_take_once_lem : LoopsTakeOnce
loops_take_once_lem set tree p deep n best calls over = (
  is_called set.sites,
  flat_keeps_moves_lem (is_called set.sites) (tree_code tree set.sites p) deep n (tree_unlabelled set.sites p tree)
      (grind (arith, common_steps, steps_take set p calls over best.marked nothing_around false [], nothing_in)),
)

pub code_of_accepted_takes_once_lem : LoopsTakeOnce → CallsAreGoneOverInBuiltSets → BuiltSetsLoopOverBound → CodeOfAcceptedTakesOnce
code_of_accepted_takes_once_lem take calls over defs expand rules l accepted built best passes deep n =
    let h = read_programs_are_well_typed accepted.read in
    take l.set l.tree passes deep n best (calls (own_program defs rules) l.term l.set h built) (over (own_program defs rules) l.term l.set h built)
