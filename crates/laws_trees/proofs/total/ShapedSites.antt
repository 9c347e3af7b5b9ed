-- Each site that a rule makes, and each constant that its patterns name, has a shape, where the rule hangs together; what it
-- equates is of one type.
use Rattle.std.proofs.Common.{length, ◌≡◌, ◌==◌, ◌+◌, ℕ, suc, Bool, true, false, not, List, [], ◌∷◌, ◌++◌, Some, None, slice_get, Contains, refl, sym, ap, ◌∙◌, subst, inl, inr, arith, eqb-true}
use Rattle.std.proofs.lemmas.Grind.{common_steps}
use Rattle.model.specs.lists.Tables.{Flags, TermEntry}
use Rattle.model.specs.rules.Values.{is_truth_type}
use Rattle.model.specs.rules.Program.{Program, Kind, a_variant, a_struct, a_call, unknown, kind, kind_of, flags_of, arg_types}
use Rattle.model.specs.rules.Typed.{TypedPatterns, TypedRule}
use Rattle.model.specs.sites.Sites.{Constraint, is_variant, is_struct, is_bool, is_int, is_prim, is_present, SiteTerm, bool_term, int_term, prim_term, argument, extractor_call, constructor_call, pick_of, variant_made, variant_field, struct_made, struct_field, some_made, some_part, SiteTerms, no_site_term, site_term_and, fields_from}
use Rattle.model.specs.visits.Demands.{Demands, demands_of, Visit, making, asking, iterating, pattern_count, Opened, output_sites, part_sites, open_call, open_term, valued, ValuedAll, call_result, call_sites, where_multi, visit_call, visit_term, asking_all}
use Rattle.model.specs.sites.Serves.{constant_site}
use Rattle.model.specs.lists.Setting.{bool_type, has_constructor, has_extractor}
use Rattle.model.specs.lists.Formed.{is_formed_rule}
use Rattle.model.proofs.Elements.{In, in_either, in_from_contains, contains_from_in, in_left, in_right}
use Rattle.laws_sites.proofs.Patterns.{its_kind, term_known}
use Rattle.laws_sites.proofs.RuleParts.{rule_parts}
use Rattle.laws_sites.proofs.AskedSites.{equated}
use Rattle.laws_sites.proofs.WithSites.{by_equating}
use Rattle.laws_sites.proofs.WithTypes.{Facts, AtEachTyped, ValuesAtEach, IsGiven, KeptWithTypes, all_fields_each, outputs_each, rule_kept_typed}
use Rattle.laws_sites.proofs.PatternParts.{AsMany}
use Rattle.laws_typing.specs.WellTypedPrograms.{IsWellTypedProgram}
use Rattle.laws_typing.proofs.WellTypedPrograms.{variant_takes, struct_takes}
use Rattle.laws_trees.specs.TotalLaws.{can_be_matched, can_be_called}
use Rattle.laws_sites.specs.RuleUses.{Use, a_term, a_constant, matched_in, called_in}
use Rattle.laws_trees.proofs.total.Shaped.{Uses, Shaped, shaped_bool, shaped_int, shaped_prim, shaped_argument, shaped_extractor, shaped_pure, shaped_impure, shaped_pick, shaped_variant, shaped_variant_field, shaped_struct, shaped_struct_field, shaped_some, shaped_part, shaped_tuple, ShapedAll, shaped_none, shaped_and, HasShape}

-- a declared term with an extractor, or a constructor
call_matched : (e : TermEntry) (flags : Flags) (infallible : Bool) → kind_of e ≡ a_call flags infallible → has_extractor e.kind ≡ true → can_be_matched e.kind ≡ true
call_matched e flags infallible q h = grind (arith, common_steps)

call_called : (e : TermEntry) (flags : Flags) (infallible : Bool) → kind_of e ≡ a_call flags infallible → has_constructor e.kind ≡ true → can_be_called e.kind ≡ true
call_called e flags infallible q h = grind (arith, common_steps)

module _ (p : Program) (uses : Uses) where
  -- a site of one value
  abbrev pub IsOf : SiteTerm → ℕ → Type 0
  IsOf s ty = Shaped p uses s false false (ty ∷ [])

  abbrev pub AllShaped : List SiteTerm → Type 0
  AllShaped ss = (u : SiteTerm) → In ss u → HasShape p uses u

  -- the sites that are made, the constants that are asked for, and what is equated: two of one type
  abbrev pub AreShaped : Demands → Type 0
  AreShaped d = AllShaped d.made × ((x : SiteTerm × Constraint) → In d.constraints x → AllShaped (constant_site x.1)) × ((e : SiteTerm × SiteTerm) → In d.equalities e → (ty : ℕ) × IsOf e.0 ty × IsOf e.1 ty)

  -- with sites of types, and what may be used
  abbrev shapes : Facts
  shapes = record { demands = AreShaped; site = IsOf; matched = λ u. Contains uses.matched u; called = λ u. Contains uses.called u }

  has : (s : SiteTerm) (multi optional : Bool) (tys : List ℕ) → Shaped p uses s multi optional tys → HasShape p uses s
  has s multi optional tys h = record { multi = multi; optional = optional; tys = tys; shaped = h }

  one_has : (s : SiteTerm) (ty : ℕ) → IsOf s ty → HasShape p uses s
  one_has s ty h = has s false false (ty ∷ []) h

  none_shaped : AllShaped []
  none_shaped u i = absurd i

  and_shaped : (s : SiteTerm) (ss : List SiteTerm) → HasShape p uses s → AllShaped ss → AllShaped (s ∷ ss)
  and_shaped s ss h hs u k = grind (arith, common_steps)

  each_shaped : (ss : List SiteTerm) (tys : List ℕ) → AtEachTyped shapes ss tys → AllShaped ss
  each_shaped [] tys h = none_shaped
  each_shaped (s ∷ ss) [] h = absurd h
  each_shaped (s ∷ ss) (ty ∷ tys) h = and_shaped s ss (one_has s ty h.0) (each_shaped ss tys h.1)

  -- 1. one step of a visit
  made_shaped : (ts : List SiteTerm) (v : Visit) → AllShaped ts → AreShaped v.demands → AreShaped (making ts v).demands
  made_shaped ts v t h = ((λ u i. elim (in_either v.demands.made ts u i) [ inl j ↦ h.0 u j | inr j ↦ t u j ]), h.1, h.2)

  asked_shaped : (s : SiteTerm) (c : Constraint) (v : Visit) → AllShaped (constant_site c) → AreShaped v.demands → AreShaped (asking s c v).demands
  asked_shaped s c v t h = grind (arith, common_steps, in_either)

  all_asked_shaped : (ss : List SiteTerm) (v : Visit) → AreShaped v.demands → AreShaped (asking_all ss v).demands
  all_asked_shaped [] v h = h
  all_asked_shaped (s ∷ ss) v h = all_asked_shaped ss (asking s is_present v) (asked_shaped s is_present v none_shaped h)

  equated_shaped : (a b : SiteTerm) (ty : ℕ) (v : Visit) → IsOf a ty → IsOf b ty → AreShaped v.demands → AreShaped (equated a b v).demands
  equated_shaped a b ty v m n h = grind (arith, common_steps, in_either)

  -- one site more
  one_made : (s : SiteTerm) (ty : ℕ) (v : Visit) → IsOf s ty → AreShaped v.demands → IsGiven shapes (valued s (making (s ∷ []) v)) ty
  one_made s ty v h g = (h, made_shaped (s ∷ []) v (and_shaped s [] (one_has s ty h) none_shaped) g)

  -- 2. the parts of a term's pattern
  outputs_shaped : (s : SiteTerm) (qs : TypedPatterns) (tys : List ℕ) → AsMany qs tys → Shaped p uses s false false tys → AtEachTyped shapes (output_sites s qs) tys
  outputs_shaped s qs tys n h = outputs_each shapes s qs tys n (λ ty e. subst (Shaped p uses s false false) e h) (λ a b rest e j ty x. shaped_tuple (length rest) (ap length e) h x)

  parts_shaped : (s : SiteTerm) (qs : TypedPatterns) (tys : List ℕ) → AsMany qs tys → Shaped p uses s false false tys → AllShaped (part_sites s qs)
  parts_shaped s qs tys n h = grind (arith, common_steps, none_shaped, each_shaped, outputs_shaped)

  -- what opens is shaped, and its parts are of these types
  abbrev Opens : Opened → List ℕ → Type 0
  Opens o tys = AreShaped o.visit.demands × AtEachTyped shapes o.inputs tys

  call_opens : (pure multi partial rec infallible : Bool) (call : SiteTerm) (args : TypedPatterns) (tys : List ℕ) (v : Visit) → AsMany args tys → Shaped p uses call multi (not infallible) tys → AreShaped v.demands
      → Opens (open_call (record { pure = pure; multi = multi; partial = partial; rec = rec }) infallible call args v) tys
  call_opens pure true partial rec infallible call args tys v n h g =
      let one = shaped_pick h in (
        made_shaped (part_sites (pick_of call) args) (iterating call (making (call ∷ (pick_of call ∷ [])) v)) (parts_shaped (pick_of call) args tys n one)
            (made_shaped (call ∷ (pick_of call ∷ [])) v
            (and_shaped call (pick_of call ∷ []) (has call true (not infallible) tys h) (and_shaped (pick_of call) [] (has (pick_of call) false false tys one) none_shaped)) g),
        outputs_shaped (pick_of call) args tys n one,
      )
  call_opens pure false partial rec true call args tys v n h g = (
    made_shaped (part_sites call args) (making (call ∷ []) v) (parts_shaped call args tys n h) (made_shaped (call ∷ []) v (and_shaped call [] (has call false false tys h) none_shaped) g),
    outputs_shaped call args tys n h,
  )
  call_opens pure false partial rec false call args tys v n h g =
      let one = shaped_part h in
      let made = making (call ∷ (some_part call ∷ [])) v in (
        made_shaped (part_sites (some_part call) args) (asking call is_present made) (parts_shaped (some_part call) args tys n one)
            (asked_shaped call is_present made none_shaped
            (made_shaped (call ∷ (some_part call ∷ [])) v (and_shaped call (some_part call ∷ []) (has call false true tys h) (and_shaped (some_part call) [] (has (some_part call) false false tys one) none_shaped)) g)),
        outputs_shaped (some_part call) args tys n one,
      )

  -- values are shaped, place by place
  values_shaped : (ss : SiteTerms) (tys : List ℕ) → ValuesAtEach shapes ss tys → ShapedAll p uses ss tys
  values_shaped no_site_term [] h = shaped_none
  values_shaped no_site_term (ty ∷ tys) h = absurd h
  values_shaped (site_term_and s ss) [] h = absurd h
  values_shaped (site_term_and s ss) (ty ∷ tys) h = shaped_and h.0 (values_shaped ss tys h.1)

  module _ (well : IsWellTypedProgram p) where
    term_opens : (t : ℕ) (e : TermEntry) → Contains uses.matched (a_term t) → slice_get p.terms t ≡ Some e → has_extractor e.kind ≡ true → (k : Kind) → kind p t ≡ k → kind_of e ≡ k → (s : SiteTerm) → IsOf s e.ret_ty → (args : TypedPatterns) → AsMany args e.arg_tys
        → (v : Visit) → AreShaped v.demands → Opens (open_term k t s args v) e.arg_tys
    term_opens t e used there x (a_variant ty i) q w s h args n v g =
        let a = variant_takes p well.parts t e there ty i w in
        let fields = fields_from (variant_field s i) 0 (pattern_count args) in
        let each = all_fields_each shapes (variant_field s i) args e.arg_tys n (λ j u r. shaped_variant_field (subst (IsOf s) a.0 h) a.1 r) in
        (asked_shaped s (is_variant ty i (pattern_count args)) (making fields v) none_shaped (made_shaped fields v (each_shaped fields e.arg_tys each) g), each)
    term_opens t e used there x (a_struct ty) q w s h args n v g =
        let a = struct_takes p well.parts t e there ty w in
        let fields = fields_from (struct_field s) 0 (pattern_count args) in
        let each = all_fields_each shapes (struct_field s) args e.arg_tys n (λ j u r. shaped_struct_field (subst (IsOf s) a.0 h) a.1 r) in
        (asked_shaped s (is_struct ty (pattern_count args)) (making fields v) none_shaped (made_shaped fields v (each_shaped fields e.arg_tys each) g), each)
    term_opens t e used there x (a_call flags infallible) q w s h args n v g =
        call_opens flags.pure flags.multi flags.partial flags.rec infallible (extractor_call t s) args e.arg_tys v n (shaped_extractor e flags infallible used there (call_matched e flags infallible w x) q h) g
    term_opens t e used there x unknown q w s h args n v g = absurd (term_known p t e there q)

    truth_is : (ty : ℕ) → (ty == bool_type) ≡ true → is_truth_type (slice_get p.types ty) ≡ true
    truth_is ty h = ap (λ n. is_truth_type (slice_get p.types n)) (eqb-true ty bool_type h) ∙ ap is_truth_type well.types.first

    -- 3. expressions
    called : (pure multi partial rec : Bool) (call : SiteTerm) (ty : ℕ) (v : Visit) → (multi ≡ true → partial ≡ true → ⊥) → Shaped p uses call multi partial (ty ∷ []) → AreShaped v.demands
        → IsOf (call_result (record { pure = pure; multi = multi; partial = partial; rec = rec }) call) ty
        × AreShaped (where_multi (record { pure = pure; multi = multi; partial = partial; rec = rec }) call (making (call_sites (record { pure = pure; multi = multi; partial = partial; rec = rec }) call) v)).demands
    called pure true true rec call ty v n h g = absurd (n refl refl)
    called pure true false rec call ty v n h g =
        let one = shaped_pick h in
        (one, made_shaped (call ∷ (pick_of call ∷ [])) v (and_shaped call (pick_of call ∷ []) (has call true false (ty ∷ []) h) (and_shaped (pick_of call) [] (one_has (pick_of call) ty one) none_shaped)) g)
    called pure false true rec call ty v n h g =
        let one = shaped_part h in
        (one, made_shaped (call ∷ (some_part call ∷ [])) v (and_shaped call (some_part call ∷ []) (has call false true (ty ∷ []) h) (and_shaped (some_part call) [] (one_has (some_part call) ty one) none_shaped)) g)
    called pure false false rec call ty v n h g = one_made call ty v h g

    call_valued : (t : ℕ) (e : TermEntry) → Contains uses.called (a_term t) → slice_get p.terms t ≡ Some e → can_be_called e.kind ≡ true → (pure multi partial rec infallible : Bool) → kind p t ≡ a_call (record { pure = pure; multi = multi; partial = partial; rec = rec }) infallible
        → (ss : SiteTerms) (v : Visit) → ShapedAll p uses ss e.arg_tys → AreShaped v.demands → IsGiven shapes (visit_call (record { pure = pure; multi = multi; partial = partial; rec = rec }) t ss v) e.ret_ty
    call_valued t e used there c true multi partial rec infallible q ss v h g =
        called true multi partial rec (constructor_call t ss 0) e.ret_ty v
        (λ x y. well.not_both t (ap (λ k. (flags_of k).multi) q ∙ x) (ap (λ k. (flags_of k).partial) q ∙ y))
        (shaped_pure e (record { pure = true; multi = multi; partial = partial; rec = rec }) infallible used there c q refl h) g
    call_valued t e used there c false multi partial rec infallible q ss v h g =
        called false multi partial rec (constructor_call t ss (suc v.impure_calls)) e.ret_ty v
        (λ x y. well.not_both t (ap (λ k. (flags_of k).multi) q ∙ x) (ap (λ k. (flags_of k).partial) q ∙ y))
        (shaped_impure e (record { pure = false; multi = multi; partial = partial; rec = rec }) infallible used there c q refl h) g

    term_valued : (t : ℕ) (e : TermEntry) → Contains uses.called (a_term t) → slice_get p.terms t ≡ Some e → has_constructor e.kind ≡ true → (k : Kind) → kind p t ≡ k → kind_of e ≡ k → (a : ValuedAll) → ShapedAll p uses a.sites e.arg_tys → AreShaped a.visit.demands
        → IsGiven shapes (visit_term k t a) e.ret_ty
    term_valued t e used there c (a_variant ty i) q w a h g =
        let x = variant_takes p well.parts t e there ty i w in
        let s = variant_made ty i a.sites in
        let one : IsOf s e.ret_ty = subst (IsOf s) (sym x.0) (shaped_variant x.1 h) in
        one_made s e.ret_ty a.visit one g
    term_valued t e used there c (a_struct ty) q w a h g =
        let x = struct_takes p well.parts t e there ty w in
        let s = struct_made ty a.sites in
        let one : IsOf s e.ret_ty = subst (IsOf s) (sym x.0) (shaped_struct x.1 h) in
        one_made s e.ret_ty a.visit one g
    term_valued t e used there c (a_call flags infallible) q w a h g =
        call_valued t e used there (call_called e flags infallible w c) flags.pure flags.multi flags.partial flags.rec infallible q a.sites a.visit h g
    term_valued t e used there c unknown q w a h g = absurd (term_known p t e there q)

    -- 4. rules
    matched_used : (name : ℕ) → Contains uses.matched (a_constant name) → Contains (uses.matched ++ uses.called) (a_constant name)
    matched_used name u = contains_from_in (uses.matched ++ uses.called) (a_constant name) (in_left uses.matched uses.called (a_constant name) (in_from_contains uses.matched (a_constant name) u))

    called_used : (name : ℕ) → Contains uses.called (a_constant name) → Contains (uses.matched ++ uses.called) (a_constant name)
    called_used name u = contains_from_in (uses.matched ++ uses.called) (a_constant name) (in_right uses.matched uses.called (a_constant name) (in_from_contains uses.called (a_constant name) u))

    shapes_kept : KeptWithTypes shapes p
    shapes_kept = record {
      equates = λ a b ty v m n g. by_equating (λ w. AreShaped w.demands) a b v g (equated_shaped a b ty v m n g);
      asks_bool = λ s b ty v e g. asked_shaped s (is_bool b ty) v (and_shaped (bool_term b ty) [] (one_has (bool_term b ty) ty (shaped_bool (truth_is ty e))) none_shaped) g;
      asks_int = λ s z ty v e g. asked_shaped s (is_int z ty) v (and_shaped (int_term z ty) [] (one_has (int_term z ty) ty (shaped_int e)) none_shaped) g;
      asks_prim = λ s name ty v e u g. asked_shaped s (is_prim name) v (and_shaped (prim_term name) [] (one_has (prim_term name) ty (shaped_prim (matched_used name u) e)) none_shaped) g;
      opens = λ t e there x m s h args n v g. term_opens t e m there x (kind p t) refl (its_kind p t e there) s h args n v g;
      makes_bool = λ b ty v e g. one_made (bool_term b ty) ty v (shaped_bool (truth_is ty e)) g;
      makes_int = λ z ty v e g. one_made (int_term z ty) ty v (shaped_int e) g;
      makes_prim = λ name ty v e u g. one_made (prim_term name) ty v (shaped_prim (called_used name u) e) g;
      values = λ t e there c m a h g. term_valued t e m there c (kind p t) refl (its_kind p t e there) a (values_shaped a.sites e.arg_tys h) g;
      asks_all = all_asked_shaped;
      result = λ s ty v h g. made_shaped (some_made s ∷ []) v (and_shaped (some_made s) [] (has (some_made s) false true (ty ∷ []) (shaped_some h)) none_shaped) g;
    }

    pub rule_shaped : (r : TypedRule) → is_formed_rule p r ≡ true → ((u : Use) → In (matched_in r) u → Contains uses.matched u) → ((u : Use) → In (called_in r) u → Contains uses.called u) → arg_types p r.root_term ≡ uses.args → AreShaped (demands_of p r)
    rule_shaped r f m k e =
        let a = rule_parts p r f in
        let own : a.entry.arg_tys ≡ uses.args = sym (ap (λ o. elim o as (λ _. List ℕ) [ None ↦ [] | Some x ↦ x.arg_tys ]) a.there) ∙ e in
        rule_kept_typed p shapes shapes_kept r a m k
        (λ j ty v i g. let same : 0 + j ≡ j = omega arith in one_made (argument (0 + j)) ty v (shaped_argument (subst (λ n. slice_get uses.args n ≡ Some ty) (sym same) (subst (λ l. slice_get l j ≡ Some ty) own i))) g)
        ((λ s i. absurd i), (λ x i. absurd i), (λ x i. absurd i))
