-- What each step of a visit keeps of its demands, and of the sites that it stands at, binds and values with their types,
-- the visit of a rule that hangs together keeps.
use Rattle.std.proofs.Common.{◌≡◌, ℕ, ℤ, suc, ◌+◌, ◌==◌, Bool, true, false, List, [], ◌∷◌, Some, is_some, slice_get, flat_map, refl, sym, ap, subst, ◌∙◌, inl, inr, eqb-true, arith}
use Rattle.std.proofs.lemmas.Grind.{common_steps}
use Rattle.model.specs.lists.Tables.{TermEntry}
use Rattle.model.specs.lists.Ranges.{is_literal_of}
use Rattle.model.specs.rules.Meaning.{look}
use Rattle.model.specs.rules.Program.{Program, kind, is_partial}
use Rattle.model.specs.rules.Typed.{TypedPattern, match_bind, match_var, match_bool, match_int, match_prim, match_term, match_any, match_and, TypedPatterns, no_typed_pattern, typed_pattern_and, TypedExpr, make_term, make_var, make_bool, make_int, make_prim, make_let, TypedExprs, typed_expr_and, TypedLets, no_typed_let, typed_let_and, TypedIfLet, TypedRule}
use Rattle.model.specs.sites.Sites.{is_bool, is_int, is_prim, SiteTerm, bool_term, int_term, prim_term, argument, some_made, tuple_part, SiteTerms, no_site_term, site_term_and, fields_from}
use Rattle.model.specs.visits.Demands.{Demands, Visit, visit_start, making, asking, equating, binding, or_no_site, var_site, pattern_count, output_sites, open_term, visit_pattern, visit_each, visit_all, Valued, ValuedAll, visit_term, visit_expr, visit_exprs, visit_lets, unwraps, asking_all, visit_args, visit_iflets, finished, visit_rule, taking_argument}
use Rattle.model.specs.sites.Serves.{constant_type}
use Rattle.model.specs.lists.Setting.{bool_type, expr_type, has_constructor, has_extractor}
use Rattle.model.specs.lists.Formed.{pattern_type, var_type, formed_pattern, formed_parts, formed_each, is_formed_expr, are_formed_args, formed_lets, formed_list, formed_iflets}
use Rattle.model.proofs.Elements.{In, in_left, in_right, some_is, none_some}
use Rattle.laws_typing.proofs.FormedParts.{from_if, type_is}
use Rattle.laws_sites.specs.RuleUses.{Use, a_term, a_constant, pattern_uses, patterns_uses, expr_uses, exprs_uses, lets_uses, matched_in, called_in}
use Rattle.laws_sites.proofs.PatternParts.{AsMany, pattern_parts, from_part, from_bind, pattern_within, parts_within, each_within, as_many, outside}
use Rattle.laws_sites.proofs.RuleParts.{iflet_parts, RuleParts}
use Rattle.laws_sites.proofs.SameExprs.{AreWithin, from_let, from_term, from_args, from_body, expr_keeps}
use Rattle.laws_sites.proofs.AskedSites.{Same, same_binding, equating_binds, asked_binds}
use Rattle.laws_sites.proofs.WithSites.{open_binds}

-- a fact of demands, one of a site of a type, and what patterns and expressions may use
pub record Facts : Type 1 where
  pub demands : Demands → Type 0
  pub site : SiteTerm → ℕ → Type 0
  pub matched : Use → Type 0
  pub called : Use → Type 0

module _ (f : Facts) where
  -- sites, each of its type
  abbrev pub AtEachTyped : List SiteTerm → List ℕ → Type 0
  AtEachTyped [] [] = Unit {0}
  AtEachTyped (s ∷ ss) (ty ∷ tys) = f.site s ty × AtEachTyped ss tys
  AtEachTyped _ _ = ⊥

  abbrev pub ValuesAtEach : SiteTerms → List ℕ → Type 0
  ValuesAtEach no_site_term [] = Unit {0}
  ValuesAtEach (site_term_and s ss) (ty ∷ tys) = f.site s ty × ValuesAtEach ss tys
  ValuesAtEach _ _ = ⊥

  -- a value of a type, and demands after it
  abbrev pub IsGiven : Valued → ℕ → Type 0
  IsGiven a ty = f.site a.site ty × f.demands a.visit.demands

  -- each step of a rule that hangs together keeps the facts
  pub record KeptWithTypes (p : Program) : Type 0 where
    pub equates : (a b : SiteTerm) (ty : ℕ) (v : Visit) → f.site a ty → f.site b ty → f.demands v.demands → f.demands (equating a b v).demands
    pub asks_bool : (s : SiteTerm) (b : Bool) (ty : ℕ) (v : Visit) → (ty == bool_type) ≡ true → f.demands v.demands → f.demands (asking s (is_bool b ty) v).demands
    pub asks_int : (s : SiteTerm) (z : ℤ) (ty : ℕ) (v : Visit) → is_literal_of (slice_get p.types ty) z ≡ true → f.demands v.demands → f.demands (asking s (is_int z ty) v).demands
    pub asks_prim : (s : SiteTerm) (name ty : ℕ) (v : Visit) → constant_type p name ≡ Some ty → f.matched (a_constant name) → f.demands v.demands → f.demands (asking s (is_prim name) v).demands
    pub opens : (t : ℕ) (e : TermEntry) → slice_get p.terms t ≡ Some e → has_extractor e.kind ≡ true → f.matched (a_term t) → (s : SiteTerm) → f.site s e.ret_ty → (args : TypedPatterns) → AsMany args e.arg_tys → (v : Visit) → f.demands v.demands
        → f.demands (open_term (kind p t) t s args v).visit.demands × AtEachTyped (open_term (kind p t) t s args v).inputs e.arg_tys
    pub makes_bool : (b : Bool) (ty : ℕ) (v : Visit) → (ty == bool_type) ≡ true → f.demands v.demands → f.site (bool_term b ty) ty × f.demands (making (bool_term b ty ∷ []) v).demands
    pub makes_int : (z : ℤ) (ty : ℕ) (v : Visit) → is_literal_of (slice_get p.types ty) z ≡ true → f.demands v.demands → f.site (int_term z ty) ty × f.demands (making (int_term z ty ∷ []) v).demands
    pub makes_prim : (name ty : ℕ) (v : Visit) → constant_type p name ≡ Some ty → f.called (a_constant name) → f.demands v.demands → f.site (prim_term name) ty × f.demands (making (prim_term name ∷ []) v).demands
    pub values : (t : ℕ) (e : TermEntry) → slice_get p.terms t ≡ Some e → has_constructor e.kind ≡ true → f.called (a_term t) → (a : ValuedAll) → ValuesAtEach a.sites e.arg_tys → f.demands a.visit.demands → IsGiven (visit_term (kind p t) t a) e.ret_ty
    pub asks_all : (ss : List SiteTerm) (v : Visit) → f.demands v.demands → f.demands (asking_all ss v).demands
    pub result : (s : SiteTerm) (ty : ℕ) (v : Visit) → f.site s ty → f.demands v.demands → f.demands (making (some_made s ∷ []) v).demands

-- 1. parts of terms, and variables
module _ (f : Facts) where
  -- fields from i on
  pub fields_each : (g : ℕ → SiteTerm) (i : ℕ) (qs : TypedPatterns) (tys : List ℕ) → AsMany qs tys → ((j ty : ℕ) → slice_get tys j ≡ Some ty → f.site (g (i + j)) ty) → AtEachTyped f (fields_from g i (pattern_count qs)) tys
  fields_each g i (typed_pattern_and q qs) (ty ∷ tys) n h =
      let same : i + 0 ≡ i = omega arith in (
        subst (λ j. f.site (g j) ty) same (h 0 ty refl),
        fields_each g (suc i) qs tys n (λ j u e. let next : i + suc j ≡ suc i + j = omega arith in subst (λ l. f.site (g l) u) next (h (suc j) u e)),
      )
  fields_each g i k m n h = grind (arith, common_steps)

  pub all_fields_each : (g : ℕ → SiteTerm) (qs : TypedPatterns) (tys : List ℕ) → AsMany qs tys → ((j ty : ℕ) → slice_get tys j ≡ Some ty → f.site (g j) ty) → AtEachTyped f (fields_from g 0 (pattern_count qs)) tys
  all_fields_each g qs tys n h = fields_each g 0 qs tys n (λ j ty e. let same : 0 + j ≡ j = omega arith in subst (λ l. f.site (g l) ty) (sym same) (h j ty e))

  -- the outputs of a call: one, or the parts of several
  pub outputs_each : (s : SiteTerm) (qs : TypedPatterns) (tys : List ℕ) → AsMany qs tys → ((ty : ℕ) → tys ≡ ty ∷ [] → f.site s ty)
      → ((a b : ℕ) (rest : List ℕ) → tys ≡ a ∷ (b ∷ rest) → (j ty : ℕ) → slice_get tys j ≡ Some ty → f.site (tuple_part s j) ty) → AtEachTyped f (output_sites s qs) tys
  outputs_each s no_typed_pattern [] n one several = tt
  outputs_each s (typed_pattern_and q no_typed_pattern) (ty ∷ []) n one several = (one ty refl, tt)
  outputs_each s (typed_pattern_and q (typed_pattern_and r rs)) (ty ∷ (u ∷ tys)) n one several = all_fields_each (tuple_part s) (typed_pattern_and q (typed_pattern_and r rs)) (ty ∷ (u ∷ tys)) n (several ty u tys refl)
  outputs_each s _ _ n one several = absurd n

  -- variables that can be used stand for sites of their types
  abbrev AreOf : List (ℕ × ℕ) → Visit → Type 0
  AreOf vars v = (x ty : ℕ) → var_type vars x ≡ Some ty → f.site (var_site v x) ty

  moved : (vars : List (ℕ × ℕ)) (v w : Visit) → Same vars v w → AreOf vars v → AreOf vars w
  moved vars v w s d x ty i = subst (λ u. f.site u ty) (sym (s x (ap is_some i))) (d x ty i)

  -- after a visit; a variable that can't be used yet stands for what it stood for
  record PastTyped (more : List (ℕ × ℕ)) (v w : Visit) : Type 0 where
    demands : f.demands w.demands
    vars : AreOf more w
    kept : (x : ℕ) → is_some (var_type more x) ≡ false → var_site w x ≡ var_site v x

  then_past_typed : (mid more : List (ℕ × ℕ)) (u v w : Visit) → AreWithin mid more → PastTyped mid u v → PastTyped more v w → PastTyped more u w
  then_past_typed mid more u v w within a b = record { demands = b.demands; vars = b.vars; kept = λ x n. b.kept x n ∙ a.kept x (outside mid more within x n) }

  same_past : (v w : Visit) (vars more : List (ℕ × ℕ)) → Some vars ≡ Some more → w.vars ≡ v.vars → f.demands w.demands → AreOf vars v → PastTyped more v w
  same_past v w vars more e same h d = grind (arith, common_steps, some_is)

  -- a binding, before what is bound in its pattern
  bind_past : (x ty : ℕ) (s : SiteTerm) (mid : List (ℕ × ℕ)) (v w : Visit) → is_some (var_type mid x) ≡ false → f.site s ty → PastTyped mid (binding x s v) w → PastTyped ((x, ty) ∷ mid) v w
  bind_past x ty s mid v w new h b = grind (arith, common_steps)

module _ (p : Program) (f : Facts) (k : KeptWithTypes f p) where
  abbrev AllMatched : List Use → Type 0
  AllMatched us = (u : Use) → In us u → f.matched u

  abbrev AllCalled : List Use → Type 0
  AllCalled us = (u : Use) → In us u → f.called u

  -- 2. patterns
  mutual
    pattern_past : (q : TypedPattern) (s : SiteTerm) (v : Visit) (vars more : List (ℕ × ℕ)) → formed_pattern p q vars ≡ Some more → AllMatched (pattern_uses q) → f.site s (pattern_type q) → f.demands v.demands → AreOf f vars v
        → PastTyped f more v (visit_pattern p q s v)
    pattern_past (match_bind ty x sub) s v vars more e m h g d =
        let a = from_bind p ty x sub vars more e in
        let u = binding x s v in
        let w = visit_pattern p sub s u in
        let new : is_some (var_type vars x) ≡ false = outside vars a.0 (pattern_within p sub vars a.0 a.2) x a.3 in
        subst (λ vs. PastTyped f vs v w) a.4
        (bind_past f x ty s a.0 v w a.3 h (pattern_past sub s u vars a.0 a.2 m (subst (f.site s) (sym a.1) h) g (moved f vars v u (same_binding vars x s v new) d)))
    pattern_past (match_var ty x) s v vars more e m h g d = grind (arith, common_steps, from_if, same_past, equating_binds, type_is)
    pattern_past (match_bool ty b) s v vars more e m h g d = grind (arith, common_steps, from_if, same_past)
    pattern_past (match_int ty z) s v vars more e m h g d = grind (arith, from_if, same_past)
    pattern_past (match_prim ty name) s v vars more e m h g d = grind (arith, common_steps, from_if, same_past, type_is)
    pattern_past (match_term ty t args) s v vars more e m h g d =
        let a = pattern_parts p ty t args vars more e in
        let o = open_term (kind p t) t s args v in
        let same = open_binds (kind p t) t s args v in
        let u = k.opens t a.entry a.there a.matched (m (a_term t) (inl refl)) s (subst (f.site s) (sym a.ret) h) args (as_many p args a.entry.arg_tys vars more a.formed) v g in
        let r = each_past args o.inputs a.entry.arg_tys o.visit vars more a.formed (λ x i. m x (inr i)) u.1 u.0 (grind (arith, common_steps, moved)) in
        record { demands = r.demands; vars = r.vars; kept = λ x n. r.kept x n ∙ ap (λ vs. or_no_site (look (λ y. y == x) vs)) same }
    pattern_past (match_any ty) s v vars more e m h g d = same_past f v v vars more e refl g d
    pattern_past (match_and ty subs) s v vars more e m h g d = all_past subs s ty v vars more e m h g d

    each_past : (qs : TypedPatterns) (ss : List SiteTerm) (tys : List ℕ) (v : Visit) (vars more : List (ℕ × ℕ)) → formed_parts p qs tys vars ≡ Some more → AllMatched (patterns_uses qs) → AtEachTyped f ss tys → f.demands v.demands → AreOf f vars v
        → PastTyped f more v (visit_each p qs ss v)
    each_past (typed_pattern_and q qs) (s ∷ ss) (ty ∷ tys) v vars more e m h g d =
        let a = from_part p q ty vars more (λ mid. formed_parts p qs tys mid) e in
        let u = visit_pattern p q s v in
        let r = pattern_past q s v vars a.0 a.2 (λ x i. m x (in_left (pattern_uses q) (patterns_uses qs) x i)) (subst (f.site s) (sym a.1) h.0) g d in
        then_past_typed f a.0 more v u (visit_each p qs ss u) (parts_within p qs tys a.0 more a.3) r
        (each_past qs ss tys u a.0 more a.3 (λ x i. m x (in_right (pattern_uses q) (patterns_uses qs) x i)) h.1 r.demands r.vars)
    each_past k ss j v vars more e m h g d = grind (arith, common_steps, same_past, none_some)

    all_past : (qs : TypedPatterns) (s : SiteTerm) (ty : ℕ) (v : Visit) (vars more : List (ℕ × ℕ)) → formed_each p qs ty vars ≡ Some more → AllMatched (patterns_uses qs) → f.site s ty → f.demands v.demands → AreOf f vars v
        → PastTyped f more v (visit_all p qs s v)
    all_past no_typed_pattern s ty v vars more e m h g d = same_past f v v vars more e refl g d
    all_past (typed_pattern_and q qs) s ty v vars more e m h g d =
        let a = from_part p q ty vars more (λ mid. formed_each p qs ty mid) e in
        let u = visit_pattern p q s v in
        let r = pattern_past q s v vars a.0 a.2 (λ x i. m x (in_left (pattern_uses q) (patterns_uses qs) x i)) (subst (f.site s) (sym a.1) h) g d in
        then_past_typed f a.0 more v u (visit_all p qs s u) (each_within p qs ty a.0 more a.3) r
        (all_past qs s ty u a.0 more a.3 (λ x i. m x (in_right (pattern_uses q) (patterns_uses qs) x i)) h r.demands r.vars)

  -- 3. expressions
  mutual
    expr_given : (x : TypedExpr) (v : Visit) (vars : List (ℕ × ℕ)) → is_formed_expr p x vars ≡ true → AllCalled (expr_uses x) → f.demands v.demands → AreOf f vars v → IsGiven f (visit_expr p x v) (expr_type x)
    expr_given (make_term ty t args) v vars e m g d = grind (arith, exprs_given args v, from_term p ty t args vars e, k.values t, m (a_term t) (inl refl))
    expr_given (make_var ty x) v vars e m g d = (d x ty (type_is (var_type vars x) ty e), g)
    expr_given (make_bool ty b) v vars e m g d = k.makes_bool b ty v e g
    expr_given (make_int ty z) v vars e m g d = k.makes_int z ty v e g
    expr_given (make_prim ty name) v vars e m g d = k.makes_prim name ty v (type_is (constant_type p name) ty e) (m (a_constant name) (inl refl)) g
    expr_given (make_let ty ds body) v vars e m g d = grind (arith, common_steps, lets_past ds v vars, expr_given body (visit_lets p ds v), from_body, in_left, in_right)

    exprs_given : (xs : TypedExprs) (v : Visit) (tys : List ℕ) (vars : List (ℕ × ℕ)) → are_formed_args p xs tys vars ≡ true → AllCalled (exprs_uses xs) → f.demands v.demands → AreOf f vars v
        → ValuesAtEach f (visit_exprs p xs v).sites tys × f.demands (visit_exprs p xs v).visit.demands
    exprs_given (typed_expr_and x xs) v (ty ∷ tys) vars e m g d =
        let a = from_args p x xs ty tys vars e in
        let u = (visit_expr p x v).visit in
        let r = expr_given x v vars a.1 (λ y i. m y (in_left (expr_uses x) (exprs_uses xs) y i)) g d in
        let rs = exprs_given xs u tys vars a.2 (λ y i. m y (in_right (expr_uses x) (exprs_uses xs) y i)) r.1 (moved f vars v u (expr_keeps p x v vars a.1) d) in
        ((subst (f.site (visit_expr p x v).site) a.0 r.0, rs.0), rs.1)
    exprs_given h v k vars e m g d = grind (arith, common_steps)

    lets_past : (ds : TypedLets) (v : Visit) (vars more : List (ℕ × ℕ)) → formed_lets p ds vars ≡ Some more → AllCalled (lets_uses ds) → f.demands v.demands → AreOf f vars v → f.demands (visit_lets p ds v).demands × AreOf f more (visit_lets p ds v)
    lets_past no_typed_let v vars more e m g d = (g, subst (λ vs. AreOf f vs v) (some_is vars more e) d)
    lets_past (typed_let_and x ty value rest) v vars more e m g d =
        let a = from_let p x ty value rest vars more e in
        let b = visit_expr p value v in
        let w = binding x b.site b.visit in
        let r = expr_given value v vars a.1 (λ y i. m y (in_left (expr_uses value) (lets_uses rest) y i)) g d in
        let here : f.site (var_site w x) ty = subst (λ u. f.site u ty) (sym (grind (arith, common_steps))) (subst (f.site b.site) a.0 r.0) in
        let others = moved f vars b.visit w (same_binding vars x b.site b.visit a.2) (moved f vars v b.visit (expr_keeps p value v vars a.1) d) in
        lets_past rest w ((x, ty) ∷ vars) more a.3 (λ y i. m y (in_right (expr_uses value) (lets_uses rest) y i)) r.1 (grind (arith, some_is))

  -- 4. rules
  -- arguments from i on, at their types
  abbrev ArgsMade : ℕ → List ℕ → Type 0
  ArgsMade i tys = (j ty : ℕ) (v : Visit) → slice_get tys j ≡ Some ty → f.demands v.demands → f.site (argument (i + j)) ty × f.demands (taking_argument (i + j) v).demands

  args_past : (i : ℕ) (qs : List TypedPattern) (tys : List ℕ) (v : Visit) (vars more : List (ℕ × ℕ)) → formed_list p qs tys vars ≡ Some more → AllMatched (flat_map pattern_uses qs) → ArgsMade i tys
      → f.demands v.demands → AreOf f vars v → f.demands (visit_args p i qs v).demands × AreOf f more (visit_args p i qs v)
  args_past i [] [] v vars more e m c g d = (g, subst (λ vs. AreOf f vs v) (some_is vars more e) d)
  args_past i (q ∷ qs) (ty ∷ tys) v vars more e m c g d =
      let a = from_part p q ty vars more (λ mid. formed_list p qs tys mid) e in
      let same : i + 0 ≡ i = omega arith in
      let one = subst (λ n. f.site (argument n) ty × f.demands (taking_argument n v).demands) same (c 0 ty v refl g) in
      let u = taking_argument i v in
      let r = pattern_past q (argument i) u vars a.0 a.2 (λ x j. m x (in_left (pattern_uses q) (flat_map pattern_uses qs) x j)) (subst (f.site (argument i)) (sym a.1) one.0) one.1 d in
      args_past (suc i) qs tys (visit_pattern p q (argument i) u) a.0 more a.3 (λ x j. m x (in_right (pattern_uses q) (flat_map pattern_uses qs) x j))
      (λ j w z l h. let next : i + suc j ≡ suc i + j = omega arith in subst (λ n. f.site (argument n) w × f.demands (taking_argument n z).demands) next (c (suc j) w z l h)) r.demands r.vars
  args_past i _ _ v vars more e m c g d = absurd (none_some more e)

  iflets_past_typed : (is : List TypedIfLet) (v : Visit) (vars more : List (ℕ × ℕ)) → formed_iflets p is vars ≡ Some more → AllMatched (flat_map (λ (i : TypedIfLet). pattern_uses i.lhs) is)
      → AllCalled (flat_map (λ (i : TypedIfLet). expr_uses i.rhs) is) → f.demands v.demands → AreOf f vars v → f.demands (visit_iflets p is v).demands × AreOf f more (visit_iflets p is v)
  iflets_past_typed [] v vars more e m c g d = (g, subst (λ vs. AreOf f vs v) (some_is vars more e) d)
  iflets_past_typed (i ∷ is) v vars more e m c g d =
      let a = iflet_parts p i is vars more e in
      let b = visit_expr p i.rhs v in
      let u = asking_all (unwraps b.site) b.visit in
      let matched = flat_map (λ (y : TypedIfLet). pattern_uses y.lhs) is in
      let called = flat_map (λ (y : TypedIfLet). expr_uses y.rhs) is in
      let r = expr_given i.rhs v vars a.value (λ x j. c x (in_left (expr_uses i.rhs) called x j)) g d in
      let s = pattern_past i.lhs b.site u vars a.mid a.pattern (λ x j. m x (in_left (pattern_uses i.lhs) matched x j))
      (subst (f.site b.site) (sym (eqb-true (pattern_type i.lhs) (expr_type i.rhs) a.typed)) r.0) (k.asks_all (unwraps b.site) b.visit r.1)
      (grind (arith, common_steps, moved, asked_binds (unwraps b.site) b.visit, moved f vars v b.visit (expr_keeps p i.rhs v vars a.value) d, b.visit)) in
      iflets_past_typed is (visit_pattern p i.lhs b.site u) a.mid more a.rest (λ x j. m x (in_right (pattern_uses i.lhs) matched x j)) (λ x j. c x (in_right (expr_uses i.rhs) called x j)) s.demands s.vars

  finished_keeps : (b : Bool) (a : Valued) (ty : ℕ) → IsGiven f a ty → f.demands (finished b a).visit.demands
  finished_keeps b a ty h = grind (arith, common_steps)

  -- so the whole visit keeps them, where arguments are of their types
  pub rule_kept_typed : (r : TypedRule) (a : RuleParts p r) → AllMatched (matched_in r) → AllCalled (called_in r) → ArgsMade 0 a.entry.arg_tys → f.demands visit_start.demands → f.demands (visit_rule p r).visit.demands
  rule_kept_typed r a m c args start =
      let u = visit_args p 0 r.args visit_start in
      let w = visit_iflets p r.iflets u in
      let matched = flat_map (λ (y : TypedIfLet). pattern_uses y.lhs) r.iflets in
      let called = flat_map (λ (y : TypedIfLet). expr_uses y.rhs) r.iflets in
      let b = args_past 0 r.args a.entry.arg_tys visit_start [] a.mid a.args (λ x i. m x (in_left (flat_map pattern_uses r.args) matched x i)) args start (λ x ty i. absurd (none_some ty i)) in
      let d = iflets_past_typed r.iflets u a.mid a.vars a.iflets (λ x i. m x (in_right (flat_map pattern_uses r.args) matched x i)) (λ x i. c x (in_left called (expr_uses r.rhs) x i)) b.0 b.1 in
      finished_keeps (is_partial p r.root_term) (visit_expr p r.rhs w) (expr_type r.rhs) (expr_given r.rhs w a.vars a.right (λ x i. c x (in_right called (expr_uses r.rhs) x i)) d.0 d.1)
