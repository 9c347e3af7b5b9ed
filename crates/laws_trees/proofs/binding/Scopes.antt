-- The scopes of best trees: what they hold after a step, in an arm and in a loop.
use Rattle.std.proofs.Common.{◌≡◌, ℕ, suc, true, false, not, List, [], ◌∷◌, ◌++◌, map, slice_get, Contains, refl, sym, ap, ◌∙◌, subst, inl, inr, arith}
use Rattle.std.proofs.lemmas.Bool.{and_from, false≢true}
use Rattle.std.specs.List.{list_all}
use Rattle.std.proofs.lemmas.List.{append_assoc}
use Rattle.std.proofs.lemmas.List.Elements.{Contains-append_left, Contains-append_right, Contains-append_cases}
use Rattle.std.proofs.lemmas.Grind.{common_steps}
use Rattle.model.specs.sites.Sites.{Site, Constraint, sources_at}
use Rattle.model.specs.trees.Places.{Around, is_in, waits, available, is_in_place, below, all_below, bind_order, field_sites, in_arm, in_loop}
use Rattle.model.specs.trees.Tests.{sources_around}
use Rattle.model.specs.trees.Best.{are_distinct}
use Rattle.model.specs.claims.Layers.{brings_new}
use Rattle.model.proofs.Members.{in_head, in_tail, in_cases, in_alone, all_pass, in_flat_map, from_flat_map, member_found, member_is_in}
use Rattle.laws_trees.proofs.runs.Below.{under, below_enough, below_deeper, call_or_under, under_below}
use Rattle.laws_trees.proofs.binding.ScopedOrders.{below_is_bound, binds_within, none_waits}
use Rattle.laws_trees.proofs.binding.Scope.{Scoped, BindableSet, ScopeAt, ArmFields, LoopCall}
use Rattle.laws_trees.proofs.binding.BroughtSites.{IsFieldOf, brought_is_field, brought_distinct}
use Rattle.laws_trees.proofs.Passing.{sources_there}

-- what is brought is emitted, and what waits and is bound stands on what was tested
pub record Waiting (sites : List Site) (ar : Around) (scope : List ℕ) : Type 0 where
  pub brought : (x : ℕ) → Contains ar.brought x → Contains ar.emitted x
  pub sources : (x a : ℕ) → Contains scope x → waits (slice_get sites x) ≡ true → Contains (sources_at sites x) a → Contains (sources_around ar) a

module _ (b : BindableSet) (ar : Around) (scope : ScopeAt b ar) (ss : List ℕ) where
  abbrev sites : List Site
  sites = b.set.sites

  abbrev binds : List ℕ
  binds = bind_order sites ar ss

  abbrev inner : List ℕ
  inner = binds ++ scope.sites

  -- 1. after a step
  deep_bound : (s u : ℕ) → Contains (all_below sites ss) s → Contains (below (suc s) sites s) u → is_in_place (slice_get sites u) ≡ false → Contains inner u
  deep_bound s u c k n =
      let x = from_flat_map (λ y. below (suc y) sites y) ss s c in
      below_is_bound b ar scope ss u
      (in_flat_map (λ y. below (suc y) sites y) ss x.0 u x.1 (below_deeper sites b.before (suc x.0) x.0 s u (omega arith) x.2 k)) n

  old_bound : (s u : ℕ) → Contains ar.emitted s → Contains (below (suc s) sites s) u → is_in_place (slice_get sites u) ≡ false → Contains inner u
  old_bound s u c k n = Contains-append_right binds scope.sites u (scope.scoped.bound s u c k n)

  bound_within : (u : ℕ) → Contains binds u → Contains (all_below sites ss) u
  bound_within u c = binds_within b ar scope ss u c

  pub scoped_after : Scoped sites (all_below sites ss ++ ar.emitted) scope.again inner
  scoped_after = record {
    bound = λ s u c k n. elim (Contains-append_cases (all_below sites ss) ar.emitted s c) [ inl d ↦ deep_bound s u d k n | inr d ↦ old_bound s u d k n ];
    only = λ s c. elim (Contains-append_cases binds scope.sites s c) [
      | inl d ↦ inl (Contains-append_left (all_below sites ss) ar.emitted s (bound_within s d))
      | inr d ↦ elim (scope.scoped.only s d) [ inl k ↦ inl (Contains-append_right (all_below sites ss) ar.emitted s k) | inr k ↦ inr k ]
    ];
  }

  -- what waits, where the sites used are available
  module _ (wait : Waiting sites ar scope.sites) (avail : (s : ℕ) → Contains ss s → available sites ar s ≡ true) where
    pub waiting_inner : (x a : ℕ) → Contains inner x → waits (slice_get sites x) ≡ true → Contains (sources_at sites x) a → Contains (sources_around ar) a
    waiting_inner x a c w k =
        elim (Contains-append_cases binds scope.sites x c) [
          | inl d ↦ absurd (false≢true (sym (none_waits b ar wait.brought ss avail x d) ∙ w))
          | inr d ↦ wait.sources x a d w k
        ]

    pub waiting_after : Waiting sites (record ar { emitted = all_below sites ss ++ ar.emitted }) inner
    waiting_after = record { brought = λ x c. Contains-append_right (all_below sites ss) ar.emitted x (wait.brought x c); sources = waiting_inner }

    -- nothing that stands on an open site was bound before
    pub not_bound : (s x : ℕ) → is_in s (sources_around ar) ≡ false → waits (slice_get sites x) ≡ true → Contains (sources_at sites x) s → not (is_in x inner) ≡ true
    not_bound s x free w k = grind (arith, common_steps, member_is_in s (sources_around ar), waiting_inner x s, member_found x inner)

-- 2. in an arm
module _ (b : BindableSet) (ar : Around) (scope : ScopeAt b ar) (arm : ArmFields b.set.sites) where
  abbrev arm_scope : List ℕ
  arm_scope = bind_order b.set.sites ar (arm.source ∷ []) ++ scope.sites

  arm_field : (x : ℕ) → Contains (field_sites arm.fields) x → IsFieldOf b.set.sites arm.source x
  arm_field x c = brought_is_field b.set.sites arm.source arm.constraint x (subst (λ l. Contains (field_sites l) x) arm.exact c)

  field_bound : (s u : ℕ) → Contains (field_sites arm.fields) s → Contains (below (suc s) b.set.sites s) u → is_in_place (slice_get b.set.sites u) ≡ false → Contains (field_sites arm.fields ++ arm_scope) u
  field_bound s u c k n =
      elim (in_cases s u _ k) [
        | inl e ↦ Contains-append_left (field_sites arm.fields) arm_scope u (subst (Contains (field_sites arm.fields)) e c)
        | inr d ↦
            let x = from_flat_map (below s b.set.sites) (sources_at b.set.sites s) u d in
            let same : arm.source ≡ x.0 = in_alone arm.source x.0 (subst (λ l. Contains l x.0) (arm_field s c).source x.1) in
            let less = b.before s x.0 x.1 in
            let here : Contains (below (suc arm.source) b.set.sites arm.source) u = subst (λ y. Contains (below (suc y) b.set.sites y) u) (sym same) (subst (λ l. Contains l u) (below_enough b.set.sites b.before s x.0 less) x.2) in
            Contains-append_right (field_sites arm.fields) arm_scope u
            (below_is_bound b ar scope (arm.source ∷ []) u (in_flat_map (λ y. below (suc y) b.set.sites y) (arm.source ∷ []) arm.source u (in_head arm.source []) here) n)
      ]

  abbrev below_source_and : List ℕ
  below_source_and = all_below b.set.sites (arm.source ∷ []) ++ ar.emitted

  abbrev arm_emitted : List ℕ
  arm_emitted = (in_arm b.set ar arm.source arm.constraint arm.fields).emitted

  split_up : (s : ℕ) → Contains arm_emitted s → Contains (field_sites arm.fields ++ below_source_and) s
  split_up s c = subst (λ l. Contains l s) (append_assoc (field_sites arm.fields) (all_below b.set.sites (arm.source ∷ [])) ar.emitted) c

  put_back : (s : ℕ) → Contains (field_sites arm.fields ++ below_source_and) s → Contains arm_emitted s
  put_back s c = subst (λ l. Contains l s) (sym (append_assoc (field_sites arm.fields) (all_below b.set.sites (arm.source ∷ [])) ar.emitted)) c

  pub scoped_arm : Scoped b.set.sites (in_arm b.set ar arm.source arm.constraint arm.fields).emitted scope.again (field_sites arm.fields ++ arm_scope)
  scoped_arm =
      let after = scoped_after b ar scope (arm.source ∷ []) in
      record {
        bound = λ s u c k n. elim (Contains-append_cases (field_sites arm.fields) below_source_and s (split_up s c)) [
          | inl d ↦ field_bound s u d k n
          | inr d ↦ Contains-append_right (field_sites arm.fields) arm_scope u (after.bound s u d k n)
        ];
        only = λ s c. elim (Contains-append_cases (field_sites arm.fields) arm_scope s c) [
          | inl d ↦ inl (put_back s (Contains-append_left (field_sites arm.fields) below_source_and s d))
          | inr d ↦ elim (after.only s d) [ inl k ↦ inl (put_back s (Contains-append_right (field_sites arm.fields) below_source_and s k)) | inr k ↦ inr k ]
        ];
      }

  module _ (wait : Waiting b.set.sites ar scope.sites) (avail : (s : ℕ) → Contains (arm.source ∷ []) s → available b.set.sites ar s ≡ true) where
    pub waiting_arm : Waiting b.set.sites (in_arm b.set ar arm.source arm.constraint arm.fields) (field_sites arm.fields ++ arm_scope)
    waiting_arm = record {
      brought = λ x c. elim (Contains-append_cases (field_sites arm.fields) ar.brought x c) [
        | inl d ↦ put_back x (Contains-append_left (field_sites arm.fields) below_source_and x d)
        | inr d ↦ put_back x (Contains-append_right (field_sites arm.fields) below_source_and x (Contains-append_right (all_below b.set.sites (arm.source ∷ [])) ar.emitted x (wait.brought x d)))
      ];
      sources = λ x a c w k. elim (Contains-append_cases (field_sites arm.fields) arm_scope x c) [
        | inl d ↦ subst (Contains (arm.source ∷ sources_around ar)) (in_alone arm.source a (subst (λ l. Contains l a) (arm_field x d).source k)) (in_head arm.source (sources_around ar))
        | inr d ↦ in_tail arm.source a (sources_around ar) (waiting_inner b ar scope (arm.source ∷ []) wait avail x a d w k)
      ];
    }

    pub brings_new_fields : is_in arm.source (sources_around ar) ≡ false → brings_new arm_scope (field_sites arm.fields) ≡ true
    brings_new_fields free =
        and_from (are_distinct (field_sites arm.fields)) (list_all (λ s. not (is_in s arm_scope)) (field_sites arm.fields))
        (ap (λ l. are_distinct (field_sites l)) arm.exact ∙ brought_distinct b.set.sites arm.source arm.constraint)
        (all_pass (λ s. not (is_in s arm_scope)) (field_sites arm.fields)
        (λ x c. let f = arm_field x c in not_bound b ar scope (arm.source ∷ []) wait avail arm.source x free f.waiting (subst (λ l. Contains l arm.source) (sym f.source) (in_head arm.source []))))

-- 3. in a loop
module _ (b : BindableSet) (ar : Around) (scope : ScopeAt b ar) (loop : LoopCall b.set.sites) where
  abbrev loop_scope : List ℕ
  loop_scope = bind_order b.set.sites ar (loop.source ∷ []) ++ scope.sites

  abbrev loop_emitted : List ℕ
  loop_emitted = under b.set.sites (loop.source ∷ []) ++ ar.emitted

  after : Scoped b.set.sites (all_below b.set.sites (loop.source ∷ []) ++ ar.emitted) scope.again loop_scope
  after = scoped_after b ar scope (loop.source ∷ [])

  -- the call itself may be bound again
  pub scoped_after_loop : Scoped b.set.sites loop_emitted (loop.source ∷ scope.again) loop_scope
  scoped_after_loop = record {
    bound = λ s u c k n. elim (Contains-append_cases (under b.set.sites (loop.source ∷ [])) ar.emitted s c) [
      | inl d ↦ after.bound s u (Contains-append_left (all_below b.set.sites (loop.source ∷ [])) ar.emitted s (under_below b.set.sites b.before loop.source s d)) k n
      | inr d ↦ after.bound s u (Contains-append_right (all_below b.set.sites (loop.source ∷ [])) ar.emitted s d) k n
    ];
    only = λ s c. elim (after.only s c) [
      | inr k ↦ inr (in_tail loop.source s scope.again k)
      | inl d ↦ elim (Contains-append_cases (all_below b.set.sites (loop.source ∷ [])) ar.emitted s d) [
        | inr k ↦ inl (Contains-append_right (under b.set.sites (loop.source ∷ [])) ar.emitted s k)
        | inl k ↦ elim (call_or_under b.set.sites b.before loop.source s k) [
          | inl same ↦ inr (subst (Contains (loop.source ∷ scope.again)) same (in_head loop.source scope.again))
          | inr u ↦ inl (Contains-append_left (under b.set.sites (loop.source ∷ [])) ar.emitted s u)
        ]
      ]
    ];
  }

  result_bound : (u : ℕ) → Contains (below (suc loop.result) b.set.sites loop.result) u → is_in_place (slice_get b.set.sites u) ≡ false → Contains (loop.result ∷ loop_scope) u
  result_bound u k n =
      elim (in_cases loop.result u _ k) [
        | inl e ↦ subst (Contains (loop.result ∷ loop_scope)) e (in_head loop.result loop_scope)
        | inr d ↦
            let x = from_flat_map (below loop.result b.set.sites) (sources_at b.set.sites loop.result) u d in
            let same : loop.source ≡ x.0 = in_alone loop.source x.0 (subst (λ l. Contains l x.0) (sources_there b.set loop.result loop.source loop.at) x.1) in
            let less = b.before loop.result x.0 x.1 in
            let here : Contains (below (suc loop.source) b.set.sites loop.source) u = subst (λ y. Contains (below (suc y) b.set.sites y) u) (sym same) (subst (λ l. Contains l u) (below_enough b.set.sites b.before loop.result x.0 less) x.2) in
            in_tail loop.result u loop_scope
            (below_is_bound b ar scope (loop.source ∷ []) u (in_flat_map (λ y. below (suc y) b.set.sites y) (loop.source ∷ []) loop.source u (in_head loop.source []) here) n)
      ]

  pub scoped_loop : Scoped b.set.sites (loop.result ∷ loop_emitted) (loop.source ∷ scope.again) (loop.result ∷ loop_scope)
  scoped_loop = record {
    bound = λ s u c k n. elim (in_cases loop.result s loop_emitted c) [
      | inl e ↦ result_bound u (subst (λ y. Contains (below (suc y) b.set.sites y) u) (sym e) k) n
      | inr d ↦ in_tail loop.result u loop_scope (scoped_after_loop.bound s u d k n)
    ];
    only = λ s c. elim (in_cases loop.result s loop_scope c) [
      | inl e ↦ inl (subst (Contains (loop.result ∷ loop_emitted)) e (in_head loop.result loop_emitted))
      | inr d ↦ elim (scoped_after_loop.only s d) [ inl k ↦ inl (in_tail loop.result s loop_emitted k) | inr k ↦ inr k ]
    ];
  }

  module _ (wait : Waiting b.set.sites ar scope.sites) (avail : (s : ℕ) → Contains (loop.source ∷ []) s → available b.set.sites ar s ≡ true) where
    abbrev calls : List ℕ
    calls = sources_at b.set.sites loop.result

    inner_waits : (x a : ℕ) → Contains loop_scope x → waits (slice_get b.set.sites x) ≡ true → Contains (sources_at b.set.sites x) a → Contains (sources_around ar) a
    inner_waits = waiting_inner b ar scope (loop.source ∷ []) wait avail

    pub waiting_loop : Waiting b.set.sites (in_loop b.set ar loop.result) (loop.result ∷ loop_scope)
    waiting_loop = record {
      brought = λ x c. elim (in_cases loop.result x ar.brought c) [
        | inl e ↦ subst (Contains (loop.result ∷ (under b.set.sites calls ++ ar.emitted))) e (in_head loop.result (under b.set.sites calls ++ ar.emitted))
        | inr d ↦ in_tail loop.result x (under b.set.sites calls ++ ar.emitted) (Contains-append_right (under b.set.sites calls) ar.emitted x (wait.brought x d))
      ];
      sources = λ x a c w k. elim (in_cases loop.result x loop_scope c) [
        | inl e ↦ Contains-append_right (map (λ (d : ℕ × Constraint). d.0) ar.tested) (calls ++ ar.looped) a (Contains-append_left calls ar.looped a (subst (λ y. Contains (sources_at b.set.sites y) a) (sym e) k))
        | inr d ↦ elim (Contains-append_cases (map (λ (d : ℕ × Constraint). d.0) ar.tested) ar.looped a (inner_waits x a d w k)) [
          | inl i ↦ Contains-append_left (map (λ (d : ℕ × Constraint). d.0) ar.tested) (calls ++ ar.looped) a i
          | inr i ↦ Contains-append_right (map (λ (d : ℕ × Constraint). d.0) ar.tested) (calls ++ ar.looped) a (Contains-append_right calls ar.looped a i)
        ]
      ];
    }

    pub waiting_after_loop : Waiting b.set.sites (record ar { emitted = under b.set.sites calls ++ ar.emitted }) loop_scope
    waiting_after_loop = record { brought = λ x c. Contains-append_right (under b.set.sites calls) ar.emitted x (wait.brought x c); sources = inner_waits }

    pub brings_new_result : is_in loop.source (sources_around ar) ≡ false → brings_new loop_scope (loop.result ∷ []) ≡ true
    brings_new_result free =
        and_from (not (is_in loop.result loop_scope)) true
        (not_bound b ar scope (loop.source ∷ []) wait avail loop.source loop.result free (ap waits loop.at) (subst (λ l. Contains l loop.source) (sym (sources_there b.set loop.result loop.source loop.at)) (in_head loop.source []))) refl
