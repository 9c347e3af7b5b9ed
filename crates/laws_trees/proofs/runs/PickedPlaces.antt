-- Where a run of a sound tree stands under a pick: a rule's demands hold where all of them were tested, and what it keeps in the
-- body of an equality and of an arm.
use Rattle.std.proofs.Common.{◌≡◌, ◌⊎◌, ℕ, zero, suc, ◌<◌, true, not, ◌&&◌, List, [], ◌∷◌, ◌++◌, Option, Some, slice_get, Contains, IsTrue, flat_map, sym, ap, ◌∙◌, subst, inl, inr, arith, append_assoc}
use Rattle.std.specs.List.{list_all}
use Rattle.std.proofs.lemmas.Bool.{cases_Bool, or_left, or_right, and_from}
use Rattle.std.proofs.lemmas.List.Elements.{Contains-append_left, Contains-append_right}
use Rattle.std.proofs.lemmas.Grind.{common_steps}
use Rattle.model.specs.rules.Meaning.{Content}
use Rattle.model.specs.sites.Sites.{Site, Constraint, SetRule, sources_at}
use Rattle.model.specs.sites.Gates.{gate_demanded}
use Rattle.model.specs.trees.Places.{Around, is_in, waits, is_available, below, all_below, fields_of, field_sites, in_arm, in_equal}
use Rattle.model.specs.trees.Run.{Env}
use Rattle.model.specs.trees.Sound.{IsTested}
use Rattle.model.specs.rules.Picks.{Pick}
use Rattle.model.specs.trees.Collects.{content_at, meets, demands_hold, IsPureAt}
use Rattle.model.proofs.Members.{in_head, in_cases, all_pass, member_is_in}
use Rattle.model.proofs.Numbers.{in_either, in_first, in_second}
use Rattle.laws_trees.proofs.runs.Classes.{joined_same}
use Rattle.laws_trees.proofs.runs.Below.{below_itself, below_source}
use Rattle.laws_trees.proofs.runs.Binding.{Held, held_as}
use Rattle.laws_trees.proofs.runs.FieldSites.{gate_brought}
use Rattle.laws_trees.proofs.runs.RuleDemands.{demands_from}
use Rattle.laws_trees.proofs.runs.RunPlaces.{IsClear, ClearWorld, Kept, joined_at, At, Place, IsReady, set_in, wider, class_tested}
use Rattle.laws_trees.proofs.runs.AvailableSites.{found_at}

module _ (clear : ClearWorld) (place : Place clear) where
  -- 1. where all that a rule demands was tested
  module _ (r : SetRule) (known : Contains clear.rules r) (all : IsTested place.around r) where
    pub gate_kept : (s : ℕ) (b : Site) → slice_get clear.world.sites s ≡ Some b → waits (Some b) ≡ true → IsTrue (gate_demanded r (Some b)) → is_in s place.around.brought ≡ true
    gate_kept s b e n g =
        elim (gate_brought clear.world.sites clear.once r s b e n g) [
          | inl d ↦ member_is_in s place.around.brought (place.at.brings d.0 d.1 s (all.constraints d.0 d.1 d.2) d.3)
          | inr i ↦ member_is_in s place.around.brought (place.at.loops i.0 s (all.iterators i.0 i.2) (e ∙ ap Some i.1))
        ]

    available_here : (n s : ℕ) → s < n → ((u : ℕ) → Contains (below n clear.world.sites s) u → IsPureAt clear.world.sites u × IsTrue (gate_demanded r (slice_get clear.world.sites u)))
        → is_available n clear.world.sites place.around.brought s ≡ true
    available_here zero s l fine = absurd (omega arith)
    available_here (suc n) s l fine =
        let rest = not (waits (slice_get clear.world.sites s)) && list_all (is_available n clear.world.sites place.around.brought) (sources_at clear.world.sites s) in
        let h = fine s (in_head s (flat_map (below n clear.world.sites) (sources_at clear.world.sites s))) in
        elim (cases_Bool (waits (slice_get clear.world.sites s))) [
          | inl t ↦ or_left (is_in s place.around.brought) rest (gate_kept s h.0.0 h.0.1 (sym (ap waits h.0.1) ∙ t) (sym (ap (gate_demanded r) h.0.1) ∙ h.1))
          | inr f ↦
              or_right (is_in s place.around.brought) rest
              (and_from (not (waits (slice_get clear.world.sites s))) (list_all (is_available n clear.world.sites place.around.brought) (sources_at clear.world.sites s)) (ap not f)
              (all_pass (is_available n clear.world.sites place.around.brought) (sources_at clear.world.sites s)
              (λ x c. let m = clear.sources s x c in available_here n x (omega (arith, l, m)) (λ u k. fine u (below_source clear.world.sites n s x u c k)))))
        ]

    pub ready_here : (s : ℕ) → IsClear clear.world.sites r s → IsReady clear.world.sites place.around s
    ready_here s c = record { available = available_here (suc s) s (omega arith) (λ u k. (c.pure u k, c.gates u k)); pure = c.pure }

    pub holds_here : demands_hold clear.world place.pick r ≡ true
    holds_here =
        demands_from clear.world place.pick r (λ s c k. place.at.tested s c (all.constraints s c k))
        (λ a b j.
        let c = found_at clear place a (ready_here a (clear.tested r known a (class_tested r a b j))) in
        let v = place.at.picked.served.values r a b c.0 known j c.1 in
        let here = c.1 ∙ ap Some v.1 in
        (v.0, here, sym (joined_same (content_at clear.world place.pick) place.around.joined (joined_at clear.world place.pick place.around.joined place.at.joined) a b (all.equalities a b j)) ∙ here))

module _ (clear : ClearWorld) where
  -- 2. in the body of an equality, and in that of an arm
  pub at_equal : (ar : Around) (a b : ℕ) (pick : Pick) (env : Env) (c : Content) → At clear (wider clear.world.sites ar (a ∷ (b ∷ []))) pick env → content_at clear.world pick a ≡ Some c
      → content_at clear.world pick b ≡ Some c → At clear (in_equal (set_in clear) ar a b) pick env
  at_equal ar a b pick env c at x y = grind (arith, common_steps)

  pub at_arm : (ar : Around) (s : ℕ) (c : Constraint) (fields : List (Option ℕ)) (pick : Pick) (env env' : Env) → (at : At clear (wider clear.world.sites ar (s ∷ [])) pick env) → fields ≡ fields_of clear.world.sites s c
      → meets clear.world.meaning c (content_at clear.world pick s) ≡ true → ((t : ℕ) → Contains (field_sites fields) t → IsPureAt clear.world.sites t)
      → Held clear.world pick env' (λ t. Kept (wider clear.world.sites ar (s ∷ [])) at.calls t ⊎ Contains (field_sites fields) t) → At clear (in_arm (set_in clear) ar s c fields) pick env'
  at_arm ar s c fields pick env env' at same met fine held = record {
    calls = at.calls;
    picked = at.picked;
    held = held_as clear.world pick env' (λ t. Kept (wider clear.world.sites ar (s ∷ [])) at.calls t ⊎ Contains (field_sites fields) t) (Kept (in_arm (set_in clear) ar s c fields) at.calls) to from held;
    pure = λ t i. elim (from t (inl i)) [ inl (inl a) ↦ at.pure t a | inl (inr l) ↦ pure_call t l | inr k ↦ fine t k ];
    brought = λ t i. elim (in_either t (field_sites fields) ar.brought i) [ inl a ↦ emit t (inr a) | inr b ↦ emit t (inl (at.brought t b)) ];
    brings = λ t d x k m. elim (in_cases (s, c) (t, d) ar.tested k) [
      | inl e ↦ Contains-append_left (field_sites fields) ar.brought x (subst (λ l. Contains (field_sites l) x) (sym same) (subst (λ (y : ℕ × Constraint). Contains (field_sites (fields_of clear.world.sites y.0 y.1)) x) (sym e) m))
      | inr l ↦ Contains-append_right (field_sites fields) ar.brought x (at.brings t d x l m)
    ];
    loops = λ source x k e. Contains-append_right (field_sites fields) ar.brought x (at.loops source x k e);
    tested = λ t d k. elim (in_cases (s, c) (t, d) ar.tested k) [
      | inl e ↦ subst (λ (y : ℕ × Constraint). meets clear.world.meaning y.1 (content_at clear.world pick y.0) ≡ true) e met
      | inr l ↦ at.tested t d l
    ];
    joined = at.joined;
  }
    where
      pure_call : (t : ℕ) → Contains at.calls t → IsPureAt clear.world.sites t
      pure_call t l = (let g = at.picked.over t l in (clear.gone_over g.0 g.1 t g.2).pure t (below_itself clear.world.sites t))

      three : (t : ℕ) → is_in t (field_sites fields ++ all_below clear.world.sites (s ∷ []) ++ ar.emitted) ≡ is_in t (field_sites fields ++ (all_below clear.world.sites (s ∷ []) ++ ar.emitted))
      three t = ap (is_in t) (append_assoc (field_sites fields) (all_below clear.world.sites (s ∷ [])) ar.emitted)

      emit : (t : ℕ) → IsTrue (is_in t (all_below clear.world.sites (s ∷ []) ++ ar.emitted)) ⊎ Contains (field_sites fields) t → IsTrue (is_in t (field_sites fields ++ all_below clear.world.sites (s ∷ []) ++ ar.emitted))
      emit t (inl a) = three t ∙ in_second t (field_sites fields) (all_below clear.world.sites (s ∷ []) ++ ar.emitted) a
      emit t (inr c) = three t ∙ in_first t (field_sites fields) (all_below clear.world.sites (s ∷ []) ++ ar.emitted) c

      to : (t : ℕ) → Kept (wider clear.world.sites ar (s ∷ [])) at.calls t ⊎ Contains (field_sites fields) t → Kept (in_arm (set_in clear) ar s c fields) at.calls t
      to t (inl (inl a)) = inl (emit t (inl a))
      to t (inl (inr l)) = inr l
      to t (inr c) = inl (emit t (inr c))

      from : (t : ℕ) → Kept (in_arm (set_in clear) ar s c fields) at.calls t → Kept (wider clear.world.sites ar (s ∷ [])) at.calls t ⊎ Contains (field_sites fields) t
      from t (inl i) = elim (in_either t (field_sites fields) (all_below clear.world.sites (s ∷ []) ++ ar.emitted) (sym (three t) ∙ i)) [ inl a ↦ inr a | inr b ↦ inl (inl b) ]
      from t (inr l) = inl (inr l)
