-- Each rule that hangs together has a run of the visitor of sites.
use Rattle.std.proofs.Common.{◌≡◌, ℕ, suc, ◌==◌, ◌&&◌, true, not, if◌then◌else◌, List, [], ◌∷◌, length, Option, Some, None, is_some, slice_get, Ok, refl, sym, ◌∙◌, subst, inl, inr, eq-eqb, arith}
use Rattle.std.proofs.lemmas.Bool.{and_parts, cond-true, false≢true}
use Rattle.std.proofs.lemmas.Grind.{common_steps}
use Rattle.model.specs.lists.Formed.{pattern_type, var_type, with_new, is_type, formed_pattern, formed_parts, formed_each, is_formed_expr, are_formed_args, formed_lets, formed_list, formed_iflets}
use Rattle.model.specs.lists.Setting.{expr_type, has_constructor, has_extractor}
use Rattle.model.specs.lists.Tables.{TermKindEntry, variant_term, struct_term, declared_term, TermEntry}
use Rattle.model.specs.rules.Outcome.{then_option}
use Rattle.model.specs.rules.Program.{Program, always_answers}
use Rattle.model.specs.rules.Typed.{TypedPattern, match_bind, match_var, match_bool, match_int, match_prim, match_term, match_any, match_and, TypedPatterns, no_typed_pattern, typed_pattern_and, TypedExpr, make_term, make_var, make_bool, make_int, make_prim, make_let, TypedExprs, no_typed_expr, typed_expr_and, TypedLets, no_typed_let, typed_let_and, TypedIfLet}
use Rattle.model.specs.sites.Sites.{is_bool, is_int, is_prim, is_struct, is_variant, SiteTerm, argument, bool_term, extractor_call, int_term, prim_term, struct_field, struct_made, variant_field, variant_made, fields_from}
use Rattle.model.specs.visits.Demands.{Visit, visit_start, asking, asking_all, equating, pattern_count, Opened, taking_argument, unwraps, visit_call, fields_opened, value_made}
use Rattle.model.specs.visits.Runs.{BoundIds, bound_at, with_bound}
use Rattle.model.specs.visits.SiteVisitor.{any_parts, extractor_opened, sites_of_inputs, site_patterns, site_exprs, site_rules}
use Rattle.model.specs.visits.PatternRuns.{part_types, OpensKind, Opens, PatternRun, PartsRun, EachRun}
use Rattle.model.specs.visits.ExprRuns.{entry_arg_types, MakesKind, Makes, ExprRun, InputsRun, LetsRun}
use Rattle.model.specs.visits.RuleRuns.{ExchangeRun, PatternCall, ValueRun, ArgsRun, IfLetsRun}
use Rattle.model.proofs.Elements.{none_some, some_is}
use Rattle.model.proofs.Options.{then_some}
use Rattle.laws_sites.proofs.SameExprs.{from_let, from_args, from_body}
use Rattle.laws_sites.proofs.Patterns.{AsManySites, as_many_sites, from_new, output_count}
use Rattle.laws_sites.proofs.RuleParts.{rule_parts, iflet_parts}
use Rattle.laws_typing.proofs.FormedParts.{from_entry, from_if, has_type}
use Rattle.laws_sites.specs.Followers.{SiteRunsExist}
use Rattle.laws_sites.proofs.FittingPatterns.{parts_fit}
use Rattle.laws_sites.proofs.FollowedPatterns.{any_count, call_alike, types_count}
use Rattle.laws_sites.proofs.KnownVars.{bound_once}

-- 1. variables
abbrev Bound : Type 0
Bound = BoundIds SiteTerm

abbrev IsBound : Bound → ℕ → Type 0
IsBound vs x = (s : SiteTerm) × (bound_at vs x ≡ Some s)

-- each that can be used is bound
abbrev AreBound : Bound → List (ℕ × ℕ) → Type 0
AreBound vs vars = (x : ℕ) → is_some (var_type vars x) ≡ true → IsBound vs x

bound_now : (vs : Bound) (x : ℕ) (s : SiteTerm) (y : ℕ) → (x == y) ≡ true → IsBound (with_bound vs x s) y
bound_now vs x s y t = (s, bound_once vs x s y ∙ cond-true (x == y) (Some s) (bound_at vs y) t)

stays_bound : (vs : Bound) (x : ℕ) (s : SiteTerm) (y : ℕ) → IsBound vs y → IsBound (with_bound vs x s) y
stays_bound vs x s y h = grind (arith, common_steps, bound_now vs x s y, bound_once vs x s y)

-- one that is bound can be used too
new_bound : (vs : Bound) (vars : List (ℕ × ℕ)) (x ty : ℕ) → IsBound vs x → AreBound vs vars → AreBound vs ((x, ty) ∷ vars)
new_bound vs vars x ty new bound y h = grind (arith, common_steps)

-- 2. patterns
abbrev VisitState : Type 0
VisitState = Visit × Bound

-- a run that ends with these variables bound, and with those that were
record EndsBound (R : VisitState → Type 0) (vs : Bound) (more : List (ℕ × ℕ)) : Type 0 where
  last : VisitState
  run : R last
  bound : AreBound last.1 more
  kept : (y : ℕ) → IsBound vs y → IsBound last.1 y

-- one that leaves them
ends_here : (R : VisitState → Type 0) (v : Visit) (vs : Bound) (vars more : List (ℕ × ℕ)) → vars ≡ more → R (v, vs) → AreBound vs vars → EndsBound R vs more
ends_here R v vs vars more e run bound = record { last = (v, vs); run = run; bound = subst (AreBound vs) e bound; kept = λ y h. h }

module _ (ty term : ℕ) (args : TypedPatterns) (u : SiteTerm) where
  -- a term's pattern is opened
  abbrev IsOpenedBy : (Visit → List SiteTerm → Type 0) → Type 0
  IsOpenedBy R = (ids : List SiteTerm) × (m : Visit) × R m ids × AsManySites ids args

  kind_opened : (w : Visit) (e : TermEntry) (k : TermKindEntry) → has_extractor k ≡ true → length e.arg_tys ≡ pattern_count args
      → IsOpenedBy (λ m ids. OpensKind None site_patterns e ty term (part_types args) u k w (Ok ids) m)
  kind_opened w e (variant_term variant) h count =
      let n = length e.arg_tys in
      let a = fields_opened (is_variant ty variant n) n u w in
      (a.inputs, a.visit, (refl, refl), (subst (λ m. AsManySites (fields_from (variant_field u variant) 0 m) args) (sym count) (as_many_sites (variant_field u variant) 0 args)))
  kind_opened w e struct_term h count =
      let n = length e.arg_tys in
      let a = fields_opened (is_struct ty n) n u w in
      (a.inputs, a.visit, (refl, refl), (subst (λ m. AsManySites (fields_from (struct_field u) 0 m) args) (sym count) (as_many_sites (struct_field u) 0 args)))
  kind_opened w e (declared_term flags c None) h count = absurd (false≢true h)
  kind_opened w e (declared_term flags c (Some x)) h count =
      let n = length (part_types args) in
      let always = always_answers flags (Some x) in
      let call = extractor_call term u in
      let a = extractor_opened term n always flags.multi u w in
      let same = call_alike (any_parts n) args (any_count n ∙ types_count args) flags.multi flags.partial flags.rec flags.pure always call w in
      (a.inputs, a.visit, inr (refl, refl), subst (λ (b : Opened). AsManySites b.inputs args) (sym same) (grind (arith, common_steps, output_count)))

  term_opened : (w : Visit) (o : Option TermEntry) (e : TermEntry) → o ≡ Some e → has_extractor e.kind ≡ true → length e.arg_tys ≡ pattern_count args
      → IsOpenedBy (λ m ids. Opens None site_patterns ty term (part_types args) u o w (Ok ids) m)
  term_opened w o e there h count = grind (arith, common_steps, kind_opened w e e.kind h count)

module _ (p : Program) where
  mutual
    pattern_made : (q : TypedPattern) (n : SiteTerm) (s : VisitState) (vars more : List (ℕ × ℕ)) → formed_pattern p q vars ≡ Some more → AreBound s.1 vars
        → EndsBound (λ t. PatternRun None site_patterns p.terms q n s (Ok tt) t) s.1 more
    pattern_made (match_bind ty x of) n s vars more f bound =
        let a = from_if (pattern_type of == ty) (then_option (formed_pattern p of vars) (with_new x ty)) more f in
        let b = then_some (formed_pattern p of vars) (with_new x ty) more a.1 in
        let now = with_bound s.1 x n in
        let r = pattern_made of n (s.0, now) vars b.0 b.1 (λ y h. stays_bound s.1 x n y (bound y h)) in
        record {
          last = r.last;
          run = inl (tt, (s.0, now), (inl (refl, refl), refl), r.run);
          bound = subst (AreBound r.last.1) (from_new x ty b.0 more b.2).1 (new_bound r.last.1 b.0 x ty (r.kept x (bound_now s.1 x n x (eq-eqb x x refl))) r.bound);
          kept = λ y h. r.kept y (stays_bound s.1 x n y h);
        }
    pattern_made (match_var ty x) n s vars more f bound =
        let a = from_if (is_type (var_type vars x) ty) (Some vars) more f in
        let k = bound x (has_type (var_type vars x) ty a.0) in
        ends_here (λ t. PatternRun None site_patterns p.terms (match_var ty x) n s (Ok tt) t) (equating n k.0 s.0) s.1 vars more (some_is vars more a.1)
        (inl (k.0, s, ((k.0, k.1, (refl, refl)), refl), ((refl, refl), refl))) bound
    pattern_made (match_bool ty b) n s vars more f bound =
        ends_here (λ t. PatternRun None site_patterns p.terms (match_bool ty b) n s (Ok tt) t) (asking n (is_bool b ty) s.0) s.1 vars more (some_is vars more (from_if _ (Some vars) more f).1) ((refl, refl), refl) bound
    pattern_made (match_int ty z) n s vars more f bound =
        ends_here (λ t. PatternRun None site_patterns p.terms (match_int ty z) n s (Ok tt) t) (asking n (is_int z ty) s.0) s.1 vars more (some_is vars more (from_if _ (Some vars) more f).1) ((refl, refl), refl) bound
    pattern_made (match_prim ty name) n s vars more f bound =
        ends_here (λ t. PatternRun None site_patterns p.terms (match_prim ty name) n s (Ok tt) t) (asking n (is_prim name) s.0) s.1 vars more (some_is vars more (from_if _ (Some vars) more f).1) ((refl, refl), refl) bound
    pattern_made (match_term ty term args) n s vars more f bound =
        let a = then_some (slice_get p.terms term) (λ (e : TermEntry). if (e.ret_ty == ty) && has_extractor e.kind then formed_parts p args e.arg_tys vars else None) more f in
        let b = from_if ((a.0.ret_ty == ty) && has_extractor a.0.kind) (formed_parts p args a.0.arg_tys vars) more a.2 in
        let o = term_opened ty term args n s.0 (slice_get p.terms term) a.0 a.1 (and_parts (a.0.ret_ty == ty) (has_extractor a.0.kind) b.0).1 (parts_fit p args a.0.arg_tys vars more b.1).0 in
        let r = parts_made args o.0 (o.1, s.1) a.0.arg_tys vars more b.1 o.3 bound in
        record { last = r.last; run = inl (o.0, (o.1, s.1), (o.2, refl), r.run); bound = r.bound; kept = r.kept }
    pattern_made (match_any ty) n s vars more f bound = grind (arith, common_steps, ends_here, some_is)
    pattern_made (match_and ty parts) n s vars more f bound = grind (arith, common_steps, each_made parts n s ty vars more f bound)

    parts_made : (qs : TypedPatterns) (ids : List SiteTerm) (s : VisitState) (tys : List ℕ) (vars more : List (ℕ × ℕ)) → formed_parts p qs tys vars ≡ Some more → AsManySites ids qs → AreBound s.1 vars
        → EndsBound (λ t. PartsRun None site_patterns p.terms qs ids s (Ok tt) t) s.1 more
    parts_made no_typed_pattern [] s [] vars more f many bound =
        ends_here (λ t. PartsRun None site_patterns p.terms no_typed_pattern [] s (Ok tt) t) s.0 s.1 vars more (some_is vars more f) (refl, refl) bound
    parts_made no_typed_pattern (id ∷ ids) s [] vars more f many bound = absurd many
    parts_made (typed_pattern_and q rest) [] s (ty ∷ tys) vars more f many bound = absurd many
    parts_made (typed_pattern_and q rest) (id ∷ ids) s (ty ∷ tys) vars more f many bound =
        let a = from_if (pattern_type q == ty) (then_option (formed_pattern p q vars) (λ ws. formed_parts p rest tys ws)) more f in
        let b = then_some (formed_pattern p q vars) (λ ws. formed_parts p rest tys ws) more a.1 in
        let first = pattern_made q id s vars b.0 b.1 bound in
        let r = parts_made rest ids first.last tys b.0 more b.2 many first.bound in
        record { last = r.last; run = inl (tt, first.last, first.run, r.run); bound = r.bound; kept = λ y h. r.kept y (first.kept y h) }
    parts_made _ ids s _ vars more f many bound = absurd (none_some more f)

    each_made : (qs : TypedPatterns) (n : SiteTerm) (s : VisitState) (ty : ℕ) (vars more : List (ℕ × ℕ)) → formed_each p qs ty vars ≡ Some more → AreBound s.1 vars
        → EndsBound (λ t. EachRun None site_patterns p.terms qs n s (Ok tt) t) s.1 more
    each_made no_typed_pattern n s ty vars more f bound = grind (arith, common_steps, ends_here, some_is)
    each_made (typed_pattern_and q rest) n s ty vars more f bound =
        let a = from_if (pattern_type q == ty) (then_option (formed_pattern p q vars) (λ ws. formed_each p rest ty ws)) more f in
        let b = then_some (formed_pattern p q vars) (λ ws. formed_each p rest ty ws) more a.1 in
        let first = pattern_made q n s vars b.0 b.1 bound in
        let r = each_made rest n first.last ty b.0 more b.2 first.bound in
        record { last = r.last; run = inl (tt, first.last, first.run, r.run); bound = r.bound; kept = λ y h. r.kept y (first.kept y h) }

  -- 3. expressions
  kind_made : (ty term : ℕ) (inputs : List (SiteTerm × ℕ)) (s : Visit) (k : TermKindEntry) → has_constructor k ≡ true → (n : SiteTerm) × (t : Visit) × MakesKind site_exprs ty term inputs k s (Ok n) t
  kind_made ty term inputs s (variant_term variant) h = let a = value_made (variant_made ty variant (sites_of_inputs inputs)) s in (a.site, a.visit, (refl, refl))
  kind_made ty term inputs s struct_term h = let a = value_made (struct_made ty (sites_of_inputs inputs)) s in (a.site, a.visit, (refl, refl))
  kind_made ty term inputs s (declared_term flags None x) h = absurd (false≢true h)
  kind_made ty term inputs s (declared_term flags (Some c) x) h =
      let a = visit_call (record { pure = flags.pure; multi = flags.multi; partial = not (not flags.partial); rec = flags.rec }) term (sites_of_inputs inputs) s in (a.site, a.visit, (refl, refl))

  mutual
    expr_made : (x : TypedExpr) (vs : Bound) (vars : List (ℕ × ℕ)) (s : Visit) → is_formed_expr p x vars ≡ true → AreBound vs vars → (n : SiteTerm) × (t : Visit) × ExprRun None site_exprs p.terms x vs s (Ok n) t
    expr_made (make_term ty term args) vs vars s f bound =
        let a = from_entry (slice_get p.terms term) (λ (e : TermEntry). (e.ret_ty == ty) && (has_constructor e.kind && are_formed_args p args e.arg_tys vars)) f in
        let b = and_parts (a.0.ret_ty == ty) (has_constructor a.0.kind && are_formed_args p args a.0.arg_tys vars) a.2 in
        let c = and_parts (has_constructor a.0.kind) (are_formed_args p args a.0.arg_tys vars) b.1 in
        let i = inputs_made args a.0.arg_tys vs vars s c.1 bound in
        let k = kind_made ty term i.0 i.1 a.0.kind c.0 in
        let inputs = subst (λ o. InputsRun None site_exprs p.terms args (entry_arg_types o) vs s (Ok i.0) i.1) (sym a.1) i.2 in
        let made = subst (λ o. Makes site_exprs ty term i.0 o i.1 (Ok k.0) k.1) (sym a.1) k.2 in
        (k.0, k.1, inl (i.0, i.1, inputs, made))
    expr_made (make_var ty x) vs vars s f bound = let k = bound x (has_type (var_type vars x) ty f) in (k.0, s, ((k.0, k.1, (refl, refl)), refl))
    expr_made (make_bool ty b) vs vars s f bound = let a = value_made (bool_term b ty) s in (a.site, a.visit, (refl, refl))
    expr_made (make_int ty z) vs vars s f bound = let a = value_made (int_term z ty) s in (a.site, a.visit, (refl, refl))
    expr_made (make_prim ty name) vs vars s f bound = let a = value_made (prim_term name) s in (a.site, a.visit, (refl, refl))
    expr_made (make_let ty defs body) vs vars s f bound =
        let g = from_body p ty defs body vars f in
        let l = lets_made defs vs vars g.0 s g.1 bound in
        let r = expr_made body l.0 g.0 l.1 g.3 l.3 in
        (r.0, r.1, inr (inl (l.0, l.1, l.2, r.2)))

    inputs_made : (xs : TypedExprs) (tys : List ℕ) (vs : Bound) (vars : List (ℕ × ℕ)) (s : Visit) → are_formed_args p xs tys vars ≡ true → AreBound vs vars
        → (inputs : List (SiteTerm × ℕ)) × (t : Visit) × InputsRun None site_exprs p.terms xs tys vs s (Ok inputs) t
    inputs_made no_typed_expr [] vs vars s f bound = ([], s, (refl, refl))
    inputs_made (typed_expr_and x xs) (ty ∷ tys) vs vars s f bound =
        let g = from_args p x xs ty tys vars f in
        let a = expr_made x vs vars s g.1 bound in
        let r = inputs_made xs tys vs vars a.1 g.2 bound in
        ((a.0, ty) ∷ r.0, r.1, inl (a.0, a.1, a.2, inr (inl (r.0, r.1, r.2, (refl, refl)))))
    inputs_made _ _ vs vars s f bound = absurd (false≢true f)

    lets_made : (ds : TypedLets) (vs : Bound) (vars more : List (ℕ × ℕ)) (s : Visit) → formed_lets p ds vars ≡ Some more → AreBound vs vars
        → (ws : Bound) × (t : Visit) × LetsRun None site_exprs p.terms ds vs s (Ok ws) t × AreBound ws more
    lets_made no_typed_let vs vars more s f bound = (vs, s, (refl, refl), subst (AreBound vs) (some_is vars more f) bound)
    lets_made (typed_let_and x ty value rest) vs vars more s f bound =
        let g = from_let p x ty value rest vars more f in
        let a = expr_made value vs vars s g.1 bound in
        let r = lets_made rest (with_bound vs x a.0) ((x, ty) ∷ vars) more a.1 g.3 (grind (arith, common_steps, bound_now, stays_bound)) in
        (r.0, r.1, inl (a.0, a.1, a.2, inr r.2), r.3)

  -- 4. rules
  exchange_made : (vs : Bound) (s : Visit) → ExchangeRun None site_rules vs s (Ok vs) s
  exchange_made [] s = (refl, refl)
  exchange_made (b ∷ rest) s = inl (b.1, s, (refl, refl), inr (inl (rest, s, exchange_made rest s, (refl, refl))))

  -- a run with these variables bound at its end
  abbrev Leads : (Bound → Visit → Type 0) → List (ℕ × ℕ) → Type 0
  Leads R more = (ws : Bound) × (t : Visit) × R ws t × AreBound ws more

  pattern_call_made : (q : TypedPattern) (n : SiteTerm) (vs : Bound) (vars more : List (ℕ × ℕ)) (s : Visit) → formed_pattern p q vars ≡ Some more → AreBound vs vars
      → Leads (λ ws t. PatternCall None site_rules site_patterns site_exprs p.terms q n vs s (Ok ws) t) more
  pattern_call_made q n vs vars more s f bound =
      let r = pattern_made q n (s, vs) vars more f bound in
      (r.last.1, r.last.0, inr (s, s, Ok r.last.1, r.last.0, (refl, refl), r.run, (Ok tt, (refl, refl), refl)), r.bound)

  value_call_made : (x : TypedExpr) (vs : Bound) (vars : List (ℕ × ℕ)) (s : Visit) → is_formed_expr p x vars ≡ true → AreBound vs vars
      → (n : SiteTerm) × (t : Visit) × ValueRun None site_rules site_patterns site_exprs p.terms x vs s (Ok n) t
  value_call_made x vs vars s f bound =
      let r = expr_made x vs vars s f bound in
      (r.0, r.1, inl (vs, s, exchange_made vs s, inr (s, s, Ok (expr_type x, r.0), r.1, (refl, refl), (refl, r.2), (refl, refl))))

  args_made : (qs : List TypedPattern) (tys : List ℕ) (i : ℕ) (vs : Bound) (vars more : List (ℕ × ℕ)) (s : Visit) → formed_list p qs tys vars ≡ Some more → AreBound vs vars
      → Leads (λ ws t. ArgsRun None site_rules site_patterns site_exprs p.terms qs tys i vs s (Ok ws) t) more
  args_made [] [] i vs vars more s f bound = (vs, s, (refl, refl), subst (AreBound vs) (some_is vars more f) bound)
  args_made (q ∷ qs) (ty ∷ tys) i vs vars more s f bound =
      let a = from_if (pattern_type q == ty) (then_option (formed_pattern p q vars) (λ mid. formed_list p qs tys mid)) more f in
      let b = then_some (formed_pattern p q vars) (λ mid. formed_list p qs tys mid) more a.1 in
      let u = taking_argument i s in
      let k = pattern_call_made q (argument i) vs vars b.0 u b.1 bound in
      let r = args_made qs tys (suc i) k.0 b.0 more k.1 b.2 k.3 in
      (r.0, r.1, inl (argument i, u, (refl, refl), inl (k.0, k.1, k.2, r.2)), r.3)
  args_made _ _ i vs vars more s f bound = absurd (none_some more f)

  iflets_made : (is : List TypedIfLet) (vs : Bound) (vars more : List (ℕ × ℕ)) (s : Visit) → formed_iflets p is vars ≡ Some more → AreBound vs vars
      → Leads (λ ws t. IfLetsRun None site_rules site_patterns site_exprs p.terms is vs s (Ok ws) t) more
  iflets_made [] vs vars more s f bound = (vs, s, (refl, refl), subst (AreBound vs) (some_is vars more f) bound)
  iflets_made (i ∷ is) vs vars more s f bound =
      let g = iflet_parts p i is vars more f in
      let a = value_call_made i.rhs vs vars s g.value bound in
      let u = asking_all (unwraps a.0) a.1 in
      let k = pattern_call_made i.lhs a.0 vs vars g.mid u g.pattern bound in
      let r = iflets_made is k.0 g.mid more k.1 g.rest k.3 in
      (r.0, r.1, inl (a.0, a.1, a.2, inl (a.0, u, (refl, refl), inl (k.0, k.1, k.2, r.2))), r.3)

pub site_runs_exist_lem : SiteRunsExist
site_runs_exist_lem p r formed =
    let g = rule_parts p r formed in
    let a = args_made p r.args g.entry.arg_tys 0 [] [] g.mid visit_start g.args (λ x h. absurd (false≢true h)) in
    let b = iflets_made p r.iflets a.0 g.mid g.vars a.1 g.iflets a.3 in
    let c = value_call_made p r.rhs b.0 g.vars b.1 g.right b.3 in
    let args = subst (λ o. ArgsRun None site_rules site_patterns site_exprs p.terms r.args (entry_arg_types o) 0 [] visit_start (Ok a.0) a.1) (sym g.there) a.2 in
    (c.0, c.1, inl (a.0, a.1, args, inl (b.0, b.1, b.2, c.2)))
