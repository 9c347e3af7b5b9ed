-- A rule that hangs together constrains sites by their types: to variants and structs of the site's type, and to constants of it. So
-- built sets do.
use Rattle.std.proofs.Common.{◌≡◌, ℕ, suc, ◌+◌, ◌==◌, true, false, List, [], ◌∷◌, Some, None, is_some, slice_get, Contains, refl, sym, ap, subst, ◌∙◌, eqb-true, arith}
use Rattle.std.proofs.lemmas.Grind.{common_steps}
use Rattle.std.proofs.lemmas.Bool.{and_parts}
use Rattle.model.specs.lists.Tables.{TermEntry}
use Rattle.model.specs.lists.Ranges.{is_literal_of}
use Rattle.model.specs.lists.Setting.{bool_type, expr_type}
use Rattle.model.specs.lists.Formed.{pattern_type, var_type, is_type, formed_pattern, formed_parts, formed_each, is_formed_expr, formed_lets, formed_list, formed_iflets, is_formed_rule}
use Rattle.model.specs.rules.Program.{Program, Kind, a_variant, a_struct, a_call, unknown, kind, kind_of, arg_types, rules_of}
use Rattle.model.specs.rules.Typed.{TypedPattern, match_bind, match_var, match_bool, match_int, match_prim, match_term, match_any, match_and, TypedPatterns, no_typed_pattern, typed_pattern_and, TypedExpr, make_let, TypedLets, no_typed_let, typed_let_and, TypedIfLet, TypedRule}
use Rattle.model.specs.rules.Values.{is_composed_type, variant_types, struct_types}
use Rattle.model.specs.sites.Closure.{Joined, given, itself, turned, chained, at_field}
use Rattle.model.specs.sites.Serves.{constant_type}
use Rattle.model.specs.sites.Sites.{Constraint, is_variant, is_struct, is_bool, is_int, is_prim, is_present, SiteTerm, argument, variant_field, struct_field, fields_from, unfold_site}
use Rattle.model.specs.sites.Overlap.{BuiltRule, built_rule}
use Rattle.model.specs.sites.RuleSets.{IsRuleOf}
use Rattle.model.specs.visits.Demands.{Demands, demands_of, Visit, visit_start, asking, equating, binding, var_site, pattern_count, open_term, visit_pattern, visit_each, visit_all, visit_expr, visit_lets, unwraps, asking_all, taking_argument, visit_args, visit_iflets}
use Rattle.model.proofs.Elements.{In, in_either, in_from_contains, contains_from_in, some_is, none_some}
use Rattle.laws_typing.specs.WellTypedPrograms.{IsWellTypedProgram}
use Rattle.laws_typing.proofs.FormedParts.{from_if, type_is}
use Rattle.laws_typing.proofs.WellTypedPrograms.{variant_takes, struct_takes}
use Rattle.laws_sites.proofs.AskedSites.{Same, same_binding, equating_binds, asked_binds}
use Rattle.laws_sites.proofs.GrowingVisits.{expr_adds, rule_adds}
use Rattle.laws_sites.proofs.Patterns.{its_kind, term_known}
use Rattle.laws_sites.proofs.PatternParts.{AsMany, pattern_parts, from_part, from_bind, pattern_within, parts_within, each_within, as_many, outside}
use Rattle.laws_sites.proofs.RuleParts.{iflet_parts, rule_parts}
use Rattle.laws_sites.proofs.SameExprs.{AreWithin, from_let, from_term, from_body, expr_keeps}
use Rattle.laws_sites.proofs.WithSites.{by_equating, open_binds}
use Rattle.laws_sites.proofs.WithTypes.{Facts, AtEachTyped, all_fields_each, outputs_each}
use Rattle.laws_sites.proofs.Closing.{closing_is_sound_lem}
use Rattle.laws_sites.proofs.built.BuiltGates.{set_rule, WasBuilt, was_built}
use Rattle.laws_sites.proofs.built.BuiltSets.{BuiltSet, RuleOfSet, of_term}
use Rattle.model_code.specs.Modes.{pattern_typed}
use Rattle.model_code.specs.SiteTypes.{one_type, types_at, is_composed, are_copied}
use Rattle.laws_code.specs.TypedTrees.{ConstrainsByTypes, BuiltSetsConstrainByTypes}
use Rattle.laws_code.proofs.TypedSets.{field_of_type, shaped_types, uses_of, demands_shaped}

-- 1. enums and structs
module _ (p : Program) (args : List ℕ) (well : IsWellTypedProgram p) where
  abbrev T : SiteTerm → List ℕ
  T s = types_at p args s

  -- a site of one value
  abbrev OfType : SiteTerm → ℕ → Type 0
  OfType s ty = T s ≡ ty ∷ []

  -- a constraint of the site's type
  abbrev Fits : SiteTerm → Constraint → Type 0
  Fits s (is_variant ty i n) = OfType s ty × (is_composed p ty ≡ true)
  Fits s (is_struct ty n) = OfType s ty × (is_composed p ty ≡ true)
  Fits s (is_bool b ty) = OfType s ty × (is_composed p ty ≡ false)
  Fits s (is_int z ty) = OfType s ty × (is_composed p ty ≡ false)
  Fits s (is_prim name) = (ty : ℕ) × OfType s ty × (constant_type p name ≡ Some ty)
  Fits s is_present = Unit {0}

  abbrev Fit : Demands → Type 0
  Fit d = (x : SiteTerm × Constraint) → In d.constraints x → Fits x.0 x.1

  abbrev by_type : Facts
  by_type = record { demands = Fit; site = OfType; matched = λ u. Unit {0}; called = λ u. Unit {0} }

  of_same : (s : SiteTerm) (a b : ℕ) → a ≡ b → OfType s a → OfType s b
  of_same s a b e h = h ∙ ap (λ ty. ty ∷ []) e

  asked_fits : (s : SiteTerm) (c : Constraint) (v : Visit) → Fits s c → Fit v.demands → Fit (asking s c v).demands
  asked_fits s c v f g x i = grind (arith, common_steps, in_either v.demands.constraints ((s, c) ∷ []) x i, in_either)

  all_asked_fit : (ss : List SiteTerm) (v : Visit) → Fit v.demands → Fit (asking_all ss v).demands
  all_asked_fit [] v g = g
  all_asked_fit (s ∷ ss) v g = all_asked_fit ss (asking s is_present v) (asked_fits s is_present v tt g)

  -- 2. the parts of a term's pattern
  abbrev Opens : TermEntry → Kind → ℕ → SiteTerm → TypedPatterns → Visit → Type 0
  Opens e k t s qs v = Fit (open_term k t s qs v).visit.demands × AtEachTyped by_type (open_term k t s qs v).inputs e.arg_tys

  term_typed_parts : (t : ℕ) (e : TermEntry) → slice_get p.terms t ≡ Some e → (k : Kind) → kind p t ≡ k → kind_of e ≡ k → (s : SiteTerm) → OfType s e.ret_ty → (qs : TypedPatterns) → AsMany qs e.arg_tys
      → (v : Visit) → Fit v.demands → Opens e k t s qs v
  term_typed_parts t e there (a_variant ty i) w q s h qs n v g =
      let a = variant_takes p well.parts t e there ty i q in
      let own = of_same s e.ret_ty ty a.0 h in (
        asked_fits s (is_variant ty i (pattern_count qs)) v (own, (grind (arith, common_steps, none_some))) g,
        all_fields_each by_type (variant_field s i) qs e.arg_tys n (λ j u x. field_of_type (λ y. variant_types (slice_get p.types y) i) (T s) ty j u e.arg_tys own a.1 x),
      )
  term_typed_parts t e there (a_struct ty) w q s h qs n v g =
      let a = struct_takes p well.parts t e there ty q in
      let own = of_same s e.ret_ty ty a.0 h in (
        asked_fits s (is_struct ty (pattern_count qs)) v (own, (grind (arith, common_steps, none_some))) g,
        all_fields_each by_type (struct_field s) qs e.arg_tys n (λ j u x. field_of_type (λ y. struct_types (slice_get p.types y)) (T s) ty j u e.arg_tys own a.1 x),
      )
  term_typed_parts t e there (a_call flags infallible) w q s h qs n v g =
      grind (arith, common_steps, asked_fits, outputs_each)
  term_typed_parts t e there unknown w q s h qs n v g = absurd (term_known p t e there w)

  -- 3. variables that can be used stand for sites of their types
  abbrev OfTypes : List (ℕ × ℕ) → Visit → Type 0
  OfTypes vars v = (x ty : ℕ) → var_type vars x ≡ Some ty → OfType (var_site v x) ty

  alike_types : (vars : List (ℕ × ℕ)) (v w : Visit) → Same vars v w → OfTypes vars v → OfTypes vars w
  alike_types vars v w s d x ty i = subst (λ u. OfType u ty) (sym (s x (ap is_some i))) (d x ty i)

  one_more : (x ty : ℕ) (vars : List (ℕ × ℕ)) (v : Visit) → OfType (var_site v x) ty → OfTypes vars v → OfTypes ((x, ty) ∷ vars) v
  one_more x ty vars v h d y t i = grind (arith, common_steps, eqb-true x y, of_same (var_site v x) ty t, some_is ty t, eqb-true, of_same, some_is)

  -- after a pattern; what a variable stands for that can't be used yet is of the types as before
  record After (more : List (ℕ × ℕ)) (v w : Visit) : Type 0 where
    fit : Fit w.demands
    vars : OfTypes more w
    kept : (x : ℕ) → is_some (var_type more x) ≡ false → T (var_site w x) ≡ T (var_site v x)

  then_later : (mid more : List (ℕ × ℕ)) (u v w : Visit) → AreWithin mid more → After mid u v → After more v w → After more u w
  then_later mid more u v w within a b = record { fit = b.fit; vars = b.vars; kept = λ x n. b.kept x n ∙ a.kept x (outside mid more within x n) }

  no_new_variable : (v w : Visit) (vars more : List (ℕ × ℕ)) → Some vars ≡ Some more → w.vars ≡ v.vars → Fit w.demands → OfTypes vars v → After more v w
  no_new_variable v w vars more e same g d = grind (arith, common_steps, some_is, alike_types)

  after_binding : (x ty : ℕ) (s : SiteTerm) (mid : List (ℕ × ℕ)) (v w : Visit) → is_some (var_type mid x) ≡ false → OfType s ty → After mid (binding x s v) w → After ((x, ty) ∷ mid) v w
  after_binding x ty s mid v w new h b = grind (arith, common_steps, one_more)

  -- 4. patterns
  bool_plain : (ty : ℕ) → (ty == bool_type) ≡ true → is_composed p ty ≡ false
  bool_plain ty h = ap (is_composed p) (eqb-true ty bool_type h) ∙ ap is_composed_type well.types.first

  mutual
    pattern_after : (q : TypedPattern) (s : SiteTerm) (v : Visit) (vars more : List (ℕ × ℕ)) → formed_pattern p q vars ≡ Some more → OfType s (pattern_type q) → Fit v.demands → OfTypes vars v
        → After more v (visit_pattern p q s v)
    pattern_after (match_bind ty x sub) s v vars more e h g d =
        let a = from_bind p ty x sub vars more e in
        let u = binding x s v in
        let w = visit_pattern p sub s u in
        let new : is_some (var_type vars x) ≡ false = outside vars a.0 (pattern_within p sub vars a.0 a.2) x a.3 in
        subst (λ vs. After vs v w) a.4
        (after_binding x ty s a.0 v w a.3 h (pattern_after sub s u vars a.0 a.2 (of_same s ty (pattern_type sub) (sym a.1) h) g (alike_types vars v u (same_binding vars x s v new) d)))
    pattern_after (match_var ty x) s v vars more e h g d =
        let a = from_if (is_type (var_type vars x) ty) (Some vars) more e in
        no_new_variable v (equating s (var_site v x) v) vars more a.1 (equating_binds s (var_site v x) v) (by_equating (λ w. Fit w.demands) s (var_site v x) v g g) d
    pattern_after (match_bool ty b) s v vars more e h g d =
        let a = from_if (ty == bool_type) (Some vars) more e in no_new_variable v (asking s (is_bool b ty) v) vars more a.1 refl (asked_fits s (is_bool b ty) v (h, bool_plain ty a.0) g) d
    pattern_after (match_int ty z) s v vars more e h g d =
        let a = from_if (is_literal_of (slice_get p.types ty) z) (Some vars) more e in
        no_new_variable v (asking s (is_int z ty) v) vars more a.1 refl (asked_fits s (is_int z ty) v (h, (grind (arith, and_parts))) g) d
    pattern_after (match_prim ty name) s v vars more e h g d =
        let a = from_if (is_type (constant_type p name) ty) (Some vars) more e in
        no_new_variable v (asking s (is_prim name) v) vars more a.1 refl (asked_fits s (is_prim name) v (ty, h, type_is (constant_type p name) ty a.0) g) d
    pattern_after (match_term ty t qs) s v vars more e h g d =
        let a = pattern_parts p ty t qs vars more e in
        let o = open_term (kind p t) t s qs v in
        let same = open_binds (kind p t) t s qs v in
        let u = term_typed_parts t a.entry a.there (kind p t) refl (its_kind p t a.entry a.there) s (of_same s ty a.entry.ret_ty (sym a.ret) h) qs (as_many p qs a.entry.arg_tys vars more a.formed) v g in
        then_later vars more v o.visit (visit_each p qs o.inputs o.visit) (parts_within p qs a.entry.arg_tys vars more a.formed) (no_new_variable v o.visit vars vars refl same u.0 d)
        (each_after qs o.inputs a.entry.arg_tys o.visit vars more a.formed u.1 u.0 (no_new_variable v o.visit vars vars refl same u.0 d).vars)
    pattern_after (match_any ty) s v vars more e h g d = no_new_variable v v vars more e refl g d
    pattern_after (match_and ty subs) s v vars more e h g d = all_after subs s ty v vars more e h g d

    each_after : (qs : TypedPatterns) (ss : List SiteTerm) (tys : List ℕ) (v : Visit) (vars more : List (ℕ × ℕ)) → formed_parts p qs tys vars ≡ Some more → AtEachTyped by_type ss tys → Fit v.demands → OfTypes vars v
        → After more v (visit_each p qs ss v)
    each_after (typed_pattern_and q qs) (s ∷ ss) (ty ∷ tys) v vars more e h g d =
        let a = from_part p q ty vars more (λ mid. formed_parts p qs tys mid) e in
        let u = visit_pattern p q s v in
        let r = pattern_after q s v vars a.0 a.2 (of_same s ty (pattern_type q) (sym a.1) h.0) g d in
        then_later a.0 more v u (visit_each p qs ss u) (parts_within p qs tys a.0 more a.3) r (each_after qs ss tys u a.0 more a.3 h.1 r.fit r.vars)
    each_after qs ss tys v vars more e h g d = grind (arith, common_steps, no_new_variable, none_some)

    all_after : (qs : TypedPatterns) (s : SiteTerm) (ty : ℕ) (v : Visit) (vars more : List (ℕ × ℕ)) → formed_each p qs ty vars ≡ Some more → OfType s ty → Fit v.demands → OfTypes vars v
        → After more v (visit_all p qs s v)
    all_after no_typed_pattern s ty v vars more e h g d = no_new_variable v v vars more e refl g d
    all_after (typed_pattern_and q qs) s ty v vars more e h g d =
        let a = from_part p q ty vars more (λ mid. formed_each p qs ty mid) e in
        let u = visit_pattern p q s v in
        let r = pattern_after q s v vars a.0 a.2 (of_same s ty (pattern_type q) (sym a.1) h) g d in
        then_later a.0 more v u (visit_all p qs s u) (each_within p qs ty a.0 more a.3) r (all_after qs s ty u a.0 more a.3 h r.fit r.vars)

  -- 5. expressions: what a call's result is made of says its type
  mutual
    expr_typed : (x : TypedExpr) (v : Visit) (vars : List (ℕ × ℕ)) → is_formed_expr p x vars ≡ true → OfTypes vars v → OfType (visit_expr p x v).site (expr_type x)
    expr_typed (make_let ty ds body) v vars e d = grind (arith, common_steps, expr_typed body (visit_lets p ds v), lets_typed ds v vars, from_body, of_same)
    expr_typed x v h e d = grind (arith, common_steps, from_term, of_same, its_kind, type_is)

    lets_typed : (ds : TypedLets) (v : Visit) (vars more : List (ℕ × ℕ)) → formed_lets p ds vars ≡ Some more → OfTypes vars v → OfTypes more (visit_lets p ds v)
    lets_typed no_typed_let v vars more e d = subst (λ vs. OfTypes vs v) (some_is vars more e) d
    lets_typed (typed_let_and x ty value rest) v vars more e d =
        let a = from_let p x ty value rest vars more e in
        let b = visit_expr p value v in
        let w = binding x b.site b.visit in
        let here : OfType (var_site w x) ty = grind (arith, common_steps, of_same b.site (expr_type value) ty a.0 (expr_typed value v vars a.1 d)) in
        lets_typed rest w ((x, ty) ∷ vars) more a.3
        (one_more x ty vars w here (alike_types vars b.visit w (same_binding vars x b.site b.visit a.2) (alike_types vars v b.visit (expr_keeps p value v vars a.1) d)))

  -- 6. rules
  args_after : (i : ℕ) (qs : List TypedPattern) (tys : List ℕ) (v : Visit) (vars more : List (ℕ × ℕ)) → formed_list p qs tys vars ≡ Some more → ((j ty : ℕ) → slice_get tys j ≡ Some ty → OfType (argument (i + j)) ty)
      → Fit v.demands → OfTypes vars v → Fit (visit_args p i qs v).demands × OfTypes more (visit_args p i qs v)
  args_after i (q ∷ qs) (ty ∷ tys) v vars more e c g d =
      let a = from_part p q ty vars more (λ mid. formed_list p qs tys mid) e in
      let same : i + 0 ≡ i = omega arith in
      let own : OfType (argument i) ty = subst (λ n. OfType (argument n) ty) same (c 0 ty refl) in
      let r = pattern_after q (argument i) (taking_argument i v) vars a.0 a.2 (of_same (argument i) ty (pattern_type q) (sym a.1) own) g d in
      args_after (suc i) qs tys (visit_pattern p q (argument i) (taking_argument i v)) a.0 more a.3
      (λ j u l. let next : i + suc j ≡ suc i + j = omega arith in subst (λ n. OfType (argument n) u) next (c (suc j) u l)) r.fit r.vars
  args_after i qs tys v h more e c g d = grind (arith, common_steps, some_is, none_some)

  iflets_after : (is : List TypedIfLet) (v : Visit) (vars more : List (ℕ × ℕ)) → formed_iflets p is vars ≡ Some more → Fit v.demands → OfTypes vars v → Fit (visit_iflets p is v).demands
  iflets_after [] v vars more e g d = g
  iflets_after (i ∷ is) v vars more e g d =
      let a = iflet_parts p i is vars more e in
      let b = visit_expr p i.rhs v in
      let u = asking_all (unwraps b.site) b.visit in
      let own = of_same b.site (expr_type i.rhs) (pattern_type i.lhs) (sym (eqb-true (pattern_type i.lhs) (expr_type i.rhs) a.typed)) (expr_typed i.rhs v vars a.value d) in
      let asked : Fit b.visit.demands = λ x j. g x (subst (λ l. In l x) (expr_adds p i.rhs v).constraints j) in
      let known = alike_types vars v b.visit (expr_keeps p i.rhs v vars a.value) d in
      let r = pattern_after i.lhs b.site u vars a.mid a.pattern own (all_asked_fit (unwraps b.site) b.visit asked)
      (no_new_variable b.visit u vars vars refl (asked_binds (unwraps b.site) b.visit) (all_asked_fit (unwraps b.site) b.visit asked) known).vars in
      iflets_after is (visit_pattern p i.lhs b.site u) a.mid more a.rest r.fit r.vars

  rule_fits : (r : TypedRule) → is_formed_rule p r ≡ true → arg_types p r.root_term ≡ args → Fit (demands_of p r)
  rule_fits r f e =
      let a = rule_parts p r f in
      let own : a.entry.arg_tys ≡ args = sym (ap (λ o. elim o as (λ _. List ℕ) [ None ↦ [] | Some x ↦ x.arg_tys ]) a.there) ∙ e in
      let u = visit_args p 0 r.args visit_start in
      let w = visit_iflets p r.iflets u in
      let b = args_after 0 r.args a.entry.arg_tys visit_start [] a.mid a.args
      (λ j ty i. let same : 0 + j ≡ j = omega arith in subst (λ n. OfType (argument n) ty) (sym same) (ap one_type (subst (λ l. slice_get l j ≡ Some ty) own i))) (λ x i. absurd i) (λ x ty i. absurd (none_some ty i)) in
      let g = iflets_after r.iflets u a.mid a.vars a.iflets b.0 b.1 in
      λ x i. g x (subst (λ l. In l x) (rule_adds p r w).constraints i)

  -- 7. sites that must be equal are of the same types, where equated ones are
  fields_alike : (f g : ℕ → SiteTerm) → ((j : ℕ) → T (f j) ≡ T (g j)) → (j n i : ℕ) (x y : SiteTerm) → slice_get (fields_from f j n) i ≡ Some x → slice_get (fields_from g j n) i ≡ Some y → T x ≡ T y
  fields_alike f g h j (suc n) (suc i) x y a b = fields_alike f g h (suc j) n i x y a b
  fields_alike f g h j n i x y a b = grind (arith, common_steps, none_some, some_is)

  joined_alike : (d : Demands) → ((x : SiteTerm × SiteTerm) → In d.equalities x → T x.0 ≡ T x.1) → {a b : SiteTerm} → Joined d a b → T a ≡ T b
  joined_alike d h (given {a = a} {b = b} i) = h (a, b) (in_from_contains d.equalities (a, b) i)
  joined_alike d h itself = refl
  joined_alike d h (turned j) = sym (joined_alike d h j)
  joined_alike d h (chained j k) = joined_alike d h j ∙ joined_alike d h k
  joined_alike d h (at_field {a = a} {b = b} {x = x} {y = y} {k = k} i j l n e f) = grind (arith, joined_alike d h j, fields_alike, none_some)
  -- 8. so a constraint that fits is one by types

-- 9. sets
module _ (b : BuiltSet) (h : IsWellTypedProgram b.program) where
  abbrev q : Program
  q = b.program

  abbrev own_args : List ℕ
  own_args = arg_types q b.term

  abbrev U : ℕ → SiteTerm
  U s = unfold_site b.set.sites s

  abbrev types_of_site : SiteTerm → List ℕ
  types_of_site u = types_at q own_args u

  constrained_by_type : ConstrainsByTypes q b.term b.set
  constrained_by_type r s c i j =
      let d = demands_of q w.rule in
      let x = (closing_is_sound_lem w.before d).constraints (U s) c (stands.constraints.asked s c j).1 in
      let fit = rule_fits q own_args h w.rule (h.rules w.rule of.0).formed (ap (arg_types q) of.1) (x.source, c) (in_from_contains d.constraints (x.source, c) x.asked) in
      let same = joined_alike q own_args h d equal_types x.joined in
      ap (λ l. pattern_typed c (are_copied q l)) (sym same)
      ∙ (grind (arith, common_steps))
    where
      here : RuleOfSet b
      here = set_rule b r (in_from_contains b.set.rules r i)

      w : WasBuilt q (rules_of q b.term) here.typed
      w = was_built q [] (rules_of q b.term) here.typed here.listed

      stands : IsRuleOf q b.set.sites (built_rule q w.before w.rule) r
      stands = subst (λ (y : BuiltRule). IsRuleOf q b.set.sites y r) (sym w.same) here.is

      listed : Contains (rules_of q b.term) w.rule
      listed = contains_from_in (rules_of q b.term) w.rule w.listed

      of : Contains q.rules w.rule × (w.rule.root_term ≡ b.term)
      of = of_term q b.term w.rule listed

      equal_types : (x : SiteTerm × SiteTerm) → In (demands_of q w.rule).equalities x → types_of_site x.0 ≡ types_of_site x.1
      equal_types x k =
          let uses = uses_of q b.term w.rule in
          let e = (demands_shaped q h b.term w.rule listed).2 x k in
          shaped_types q uses x.0 e.1 ∙ sym (shaped_types q uses x.1 e.2)

pub built_sets_constrain_by_types_lem : BuiltSetsConstrainByTypes
built_sets_constrain_by_types_lem p t set h built = constrained_by_type (record { program = p; term = t; set = set; built = built }) h
