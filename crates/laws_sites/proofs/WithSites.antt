-- What each step of a visit keeps of its demands, and of the sites that it stands at, binds and values, the visits of
-- patterns, expressions and rules keep.
use Rattle.std.proofs.Common.{◌≡◌, ℕ, ℤ, suc, Contains, ◌==◌, Bool, true, false, List, [], ◌∷◌, refl, subst, inl, inr, arith}
use Rattle.std.proofs.lemmas.Grind.{common_steps}
use Rattle.model.specs.lists.Tables.{Flags}
use Rattle.model.specs.rules.Meaning.{look}
use Rattle.model.specs.rules.Program.{Program, Kind, a_variant, a_struct, a_call, unknown, kind}
use Rattle.model.specs.rules.Typed.{TypedPattern, match_bind, match_var, match_bool, match_int, match_prim, match_term, match_any, match_and, TypedPatterns, no_typed_pattern, typed_pattern_and, TypedExpr, make_term, make_var, make_bool, make_int, make_prim, make_let, TypedExprs, no_typed_expr, typed_expr_and, TypedLets, no_typed_let, typed_let_and, TypedIfLet, TypedRule}
use Rattle.model.specs.sites.Sites.{Constraint, is_variant, is_struct, is_bool, is_int, is_prim, is_present, SiteTerm, bool_term, int_term, prim_term, argument, extractor_call, constructor_call, pick_of, variant_made, struct_made, some_made, some_part, tuple_part, no_site, SiteTerms, no_site_term, site_term_and, field_terms}
use Rattle.model.specs.visits.Demands.{fields_opened, Count, fields_matched, outputs_taken, argument_taken, counting, Demands, Visit, visit_start, making, asking, equating, iterating, calling, binding, pattern_count, output_sites, part_sites, call_result, call_sites, where_multi, unwraps_all, or_no_site, var_site, Opened, open_call, open_term, visit_pattern, visit_each, visit_all, Valued, ValuedAll, valued, visit_term, visit_expr, visit_exprs, visit_lets, unwraps, asking_all, visit_args, visit_iflets, visit_rule, taking_argument, outputs_opened}
use Rattle.model.proofs.Elements.{In, in_right, in_either}
use Rattle.laws_sites.proofs.Patterns.{in_fields}
use Rattle.laws_sites.proofs.AskedSites.{equated, equating_binds, asked_binds, at_right}

-- 1. steps
-- an argument, or a constant that an expression makes
abbrev pub IsLeaf : SiteTerm → Type 0
IsLeaf (argument i) = Unit {0}
IsLeaf (bool_term b ty) = Unit {0}
IsLeaf (int_term z ty) = Unit {0}
IsLeaf (prim_term name) = Unit {0}
IsLeaf _ = ⊥

pub by_leaf : (P : SiteTerm → Type 0) → ((i : ℕ) → P (argument i)) → ((b : Bool) (ty : ℕ) → P (bool_term b ty)) → ((z : ℤ) (ty : ℕ) → P (int_term z ty)) → ((name : ℕ) → P (prim_term name))
    → (s : SiteTerm) → IsLeaf s → P s
by_leaf P a b c d s l = grind (arith, common_steps)

-- what holds with an equality more, or as it was
pub by_equating : (P : Visit → Type 0) (a b : SiteTerm) (v : Visit) → P v → P (equated a b v) → P (equating a b v)
by_equating P a b v h k = grind (arith, common_steps, equated)

-- a fact of demands, and one of sites where demands stand
module _ (R : Demands → Type 0) (Q : Demands → SiteTerm → Type 0) where
  -- later demands: their fact holds, and what held of sites still does
  pub record Onward (d e : Demands) : Type 0 where
    pub holds : R e
    pub stays : (s : SiteTerm) → Q d s → Q e s

  -- a term's pattern, opened
  pub record IsOpened (d : Demands) (o : Opened) : Type 0 where
    pub onward : Onward d o.visit.demands
    pub inputs : (u : SiteTerm) → In o.inputs u → Q o.visit.demands u

  -- an expression's value
  pub record IsValued (d : Demands) (a : Valued) : Type 0 where
    pub onward : Onward d a.visit.demands
    pub site : Q a.visit.demands a.site

  -- the values of several
  abbrev pub AtEach : Demands → SiteTerms → Type 0
  AtEach d no_site_term = Unit {0}
  AtEach d (site_term_and s ss) = Q d s × AtEach d ss

  -- what is made of sites keeps both facts: of a site once it is made, of demands with each step
  pub record KeptWithSites (p : Program) : Type 0 where
    pub unbound : (d : Demands) → Q d no_site
    pub leaf : (d : Demands) (s : SiteTerm) → IsLeaf s → In d.made s → Q d s
    pub variant : (d : Demands) (ty variant : ℕ) (ss : SiteTerms) → In d.made (variant_made ty variant ss) → AtEach d ss → Q d (variant_made ty variant ss)
    pub struct : (d : Demands) (ty : ℕ) (ss : SiteTerms) → In d.made (struct_made ty ss) → AtEach d ss → Q d (struct_made ty ss)
    pub result : (d : Demands) (s : SiteTerm) → In d.made (some_made s) → Q d s → Q d (some_made s)
    pub tuple : (d : Demands) (s : SiteTerm) (i : ℕ) → In d.made (tuple_part s i) → Q d s → Q d (tuple_part s i)
    pub field : (d : Demands) (c : Constraint) (s x : SiteTerm) → In d.made x → Contains d.constraints (s, c) → In (field_terms c s) x → Q d s → Q d x
    -- an extractor's call that always answers one value
    pub extracted : (d : Demands) (t : ℕ) (s : SiteTerm) (flags : Flags) → kind p t ≡ a_call flags true → flags.multi ≡ false → In d.made (extractor_call t s) → Q d s → Q d (extractor_call t s)
    -- what a constructor's call gives: a partial one its answer, a multi one each answer, another one itself
    pub answer : (d : Demands) (t i : ℕ) (ss : SiteTerms) (flags : Flags) (infallible : Bool) → kind p t ≡ a_call flags infallible → flags.partial ≡ true
        → In d.made (constructor_call t ss i) → In d.made (some_part (constructor_call t ss i)) → AtEach d ss → Q d (some_part (constructor_call t ss i))
    pub pick : (d : Demands) (t i : ℕ) (ss : SiteTerms) → In d.made (constructor_call t ss i) → In d.made (pick_of (constructor_call t ss i)) → AtEach d ss → Q d (pick_of (constructor_call t ss i))
    pub call : (d : Demands) (t i : ℕ) (ss : SiteTerms) (flags : Flags) (infallible : Bool) → kind p t ≡ a_call flags infallible → flags.partial ≡ false → flags.multi ≡ false
        → In d.made (constructor_call t ss i) → AtEach d ss → Q d (constructor_call t ss i)
    pub counts : (c : Count) (v : Visit) → R v.demands → Onward v.demands (counting c v).demands
    pub makes : (ts : List SiteTerm) (v : Visit) → R v.demands → Onward v.demands (making ts v).demands
    pub calls : (s : SiteTerm) (v : Visit) → R v.demands → Q v.demands s → Onward v.demands (calling s v).demands
    pub equates : (a b : SiteTerm) (v : Visit) → R v.demands → Q v.demands a → Q v.demands b → Onward v.demands (equating a b v).demands
    -- fields are made before a site is asked to have them
    pub asks : (s : SiteTerm) (c : Constraint) (v : Visit) → ((x : SiteTerm) → In (field_terms c s) x → In v.demands.made x) → R v.demands → Q v.demands s → Onward v.demands (asking s c v).demands
    pub asks_all : (s : SiteTerm) (v : Visit) → R v.demands → Q v.demands s → Onward v.demands (asking_all (unwraps s) v).demands
    -- an extractor's call that may answer nothing, and one that is gone over
    pub asks_call : (t : ℕ) (s : SiteTerm) (v : Visit) (flags : Flags) → kind p t ≡ a_call flags false → flags.multi ≡ false → In v.demands.made (extractor_call t s) → In v.demands.made (some_part (extractor_call t s)) → R v.demands → Q v.demands s
        → IsValued v.demands (valued (some_part (extractor_call t s)) (asking (extractor_call t s) is_present v))
    pub iterates_extractor : (t : ℕ) (s : SiteTerm) (v : Visit) (flags : Flags) (infallible : Bool) → kind p t ≡ a_call flags infallible → flags.multi ≡ true → In v.demands.made (extractor_call t s) → In v.demands.made (pick_of (extractor_call t s)) → R v.demands → Q v.demands s
        → IsValued v.demands (valued (pick_of (extractor_call t s)) (iterating (extractor_call t s) v))
    pub iterates_constructor : (t i : ℕ) (ss : SiteTerms) (v : Visit) (flags : Flags) (infallible : Bool) → kind p t ≡ a_call flags infallible → flags.multi ≡ true
        → In v.demands.made (constructor_call t ss i) → AtEach v.demands ss → R v.demands
        → Onward v.demands (iterating (constructor_call t ss i) v).demands

  pub no_step : (d : Demands) → R d → Onward d d
  no_step d h = record { holds = h; stays = λ s m. m }

  pub then_onward : (c d e : Demands) → Onward c d → Onward d e → Onward c e
  then_onward c d e a b = record { holds = b.holds; stays = λ s m. b.stays s (a.stays s m) }

  -- both hold where a visit stands, the one of sites of what its variables are
  pub record IsAt (v : Visit) : Type 0 where
    pub holds : R v.demands
    pub vars : (e : ℕ × SiteTerm) → In v.vars e → Q v.demands e.1

  -- and later
  pub record Past (v w : Visit) : Type 0 where
    pub at : IsAt w
    pub stays : (s : SiteTerm) → Q v.demands s → Q w.demands s

  -- with the site of an expression's value
  pub record Given (v : Visit) (a : Valued) : Type 0 where
    pub past : Past v a.visit
    pub site : Q a.visit.demands a.site

  pub still_at : (v : Visit) → IsAt v → Past v v
  still_at v h = record { at = h; stays = λ s m. m }

  pub then_past : (u v w : Visit) → Past u v → Past v w → Past u w
  then_past u v w a b = record { at = b.at; stays = λ s m. b.stays s (a.stays s m) }

  -- a step that binds nothing
  pub step_past : (v w : Visit) → w.vars ≡ v.vars → IsAt v → Onward v.demands w.demands → Past v w
  step_past v w e h o = record { at = record { holds = o.holds; vars = λ x i. o.stays x.1 (h.vars x (subst (λ l. In l x) e i)) }; stays = o.stays }

  binding_past : (x : ℕ) (s : SiteTerm) (v : Visit) → IsAt v → Q v.demands s → Past v (binding x s v)
  binding_past x s v h m = grind (arith, common_steps)

  each_stays : (d e : Demands) → ((s : SiteTerm) → Q d s → Q e s) → (ss : SiteTerms) → AtEach d ss → AtEach e ss
  each_stays d e f no_site_term h = tt
  each_stays d e f (site_term_and s ss) h = (f s h.0, each_stays d e f ss h.1)

  -- what the sites unwrap
  pub unwrapped_at_each : (U : SiteTerm → Type 0) (d : Demands) → ((s : SiteTerm) → Q d s → (u : SiteTerm) → In (unwraps s) u → U u) → (ss : SiteTerms) → AtEach d ss → (u : SiteTerm) → In (unwraps_all ss) u → U u
  unwrapped_at_each U d f no_site_term h u i = absurd i
  unwrapped_at_each U d f (site_term_and s ss) h u i = grind (arith, common_steps, unwrapped_at_each U d f ss h.1 u, in_either)

-- 2. terms bind nothing
pub open_binds : (k : Kind) (t : ℕ) (s : SiteTerm) (args : TypedPatterns) (v : Visit) → (open_term k t s args v).visit.vars ≡ v.vars
open_binds k t s args v = grind (arith, common_steps)

pub term_binds : (k : Kind) (t : ℕ) (a : ValuedAll) → (visit_term k t a).visit.vars ≡ a.visit.vars
term_binds k t a = grind (arith, common_steps)

-- 3. terms
module _ (p : Program) (R : Demands → Type 0) (Q : Demands → SiteTerm → Type 0) (k : KeptWithSites R Q p) where
  outputs_at : (w : Visit) (s : SiteTerm) (args : TypedPatterns) → Onward R Q w.demands (making (part_sites s args) w).demands → Q w.demands s → (u : SiteTerm) → In (output_sites s args) u → Q (making (part_sites s args) w).demands u
  outputs_at w s no_typed_pattern o m u i = absurd i
  outputs_at w s (typed_pattern_and q no_typed_pattern) o m u i = elim i [ inl e ↦ o.stays u (subst (Q w.demands) e m) | inr n ↦ absurd n ]
  outputs_at w s (typed_pattern_and q (typed_pattern_and r rs)) o m u i = grind (arith, common_steps, in_fields, in_right)

  with_parts : (d : Demands) (w : Visit) (s : SiteTerm) (args : TypedPatterns) → Onward R Q d w.demands → Q w.demands s → IsOpened R Q d (outputs_opened s args w)
  with_parts d w s args a m =
      let u = counting (outputs_taken (pattern_count args)) w in
      let c = k.counts (outputs_taken (pattern_count args)) w a.holds in
      let b = k.makes (part_sites s args) u c.holds in
      record { onward = then_onward R Q d w.demands (outputs_opened s args w).visit.demands a (then_onward R Q w.demands u.demands (outputs_opened s args w).visit.demands c b); inputs = outputs_at u s args b (c.stays s m) }

  call_opened : (pure multi partial rec infallible : Bool) (t : ℕ) (s : SiteTerm) (args : TypedPatterns) (v : Visit) → kind p t ≡ a_call (record { pure = pure; multi = multi; partial = partial; rec = rec }) infallible → R v.demands → Q v.demands s
      → IsOpened R Q v.demands (open_call (record { pure = pure; multi = multi; partial = partial; rec = rec }) infallible (extractor_call t s) args v)
  call_opened pure true partial rec infallible t s args v e h m =
      let call = extractor_call t s in
      let sites = call ∷ (pick_of call ∷ []) in
      let w = making sites v in
      let a = k.makes sites v h in
      let b = k.iterates_extractor t s w (record { pure = pure; multi = true; partial = partial; rec = rec }) infallible e refl (in_right v.demands.made sites call (inl refl)) (in_right v.demands.made sites (pick_of call) (inr (inl refl))) a.holds (a.stays s m) in
      with_parts v.demands (iterating call w) (pick_of call) args (then_onward R Q v.demands w.demands (iterating call w).demands a b.onward) b.site
  call_opened pure false partial rec true t s args v e h m =
      let call = extractor_call t s in
      let w = making (call ∷ []) v in
      let a = k.makes (call ∷ []) v h in
      with_parts v.demands w call args a (k.extracted w.demands t s (record { pure = pure; multi = false; partial = partial; rec = rec }) e refl (in_right v.demands.made (call ∷ []) call (inl refl)) (a.stays s m))
  call_opened pure false partial rec false t s args v e h m =
      let call = extractor_call t s in
      let sites = call ∷ (some_part call ∷ []) in
      let w = making sites v in
      let a = k.makes sites v h in
      let b = k.asks_call t s w (record { pure = pure; multi = false; partial = partial; rec = rec }) e refl (in_right v.demands.made sites call (inl refl)) (in_right v.demands.made sites (some_part call) (inr (inl refl))) a.holds (a.stays s m) in
      with_parts v.demands (asking call is_present w) (some_part call) args (then_onward R Q v.demands w.demands (asking call is_present w).demands a b.onward) b.site

  -- a site that is asked for fields, which are counted and made first
  fields_open : (c : Constraint) (n : ℕ) (s : SiteTerm) (v : Visit) → R v.demands → Q v.demands s → IsOpened R Q v.demands (fields_opened c n s v)
  fields_open c n s v h m =
      let fields = field_terms c s in
      let u = counting (fields_matched n) v in
      let w = making fields u in
      let z = asking s c w in
      let a = k.counts (fields_matched n) v h in
      let b = k.makes fields u a.holds in
      let d = k.asks s c w (λ x i. in_right v.demands.made fields x i) b.holds (b.stays s (a.stays s m)) in
      let o = then_onward R Q v.demands u.demands z.demands a (then_onward R Q u.demands w.demands z.demands b d) in
      record {
        onward = o;
        inputs = λ x i. k.field z.demands c s x (in_right v.demands.made fields x i) (at_right v.demands.constraints (s, c)) i (o.stays s m);
      }

  term_opened : (n : Kind) (t : ℕ) (s : SiteTerm) (args : TypedPatterns) (v : Visit) → kind p t ≡ n → R v.demands → Q v.demands s → IsOpened R Q v.demands (open_term n t s args v)
  term_opened (a_variant ty variant) t s args v e h m = fields_open (is_variant ty variant (pattern_count args)) (pattern_count args) s v h m
  term_opened (a_struct ty) t s args v e h m = fields_open (is_struct ty (pattern_count args)) (pattern_count args) s v h m
  term_opened (a_call flags infallible) t s args v e h m = call_opened flags.pure flags.multi flags.partial flags.rec infallible t s args v e h m
  term_opened unknown t s args v e h m = record { onward = no_step R Q v.demands h; inputs = λ u i. absurd i }

  call_given : (pure multi partial rec infallible : Bool) (t i : ℕ) (ss : SiteTerms) (v : Visit) → kind p t ≡ a_call (record { pure = pure; multi = multi; partial = partial; rec = rec }) infallible → R v.demands → AtEach R Q v.demands ss
      → IsValued R Q v.demands (valued (call_result (record { pure = pure; multi = multi; partial = partial; rec = rec }) (constructor_call t ss i))
      (where_multi (record { pure = pure; multi = multi; partial = partial; rec = rec }) (constructor_call t ss i) (making (call_sites (record { pure = pure; multi = multi; partial = partial; rec = rec }) (constructor_call t ss i)) v)))
  call_given pure multi partial rec infallible t i ss v e h m = by multi partial e
    where
      c : SiteTerm
      c = constructor_call t ss i

      flags : Bool → Bool → Flags
      flags y z = record { pure = pure; multi = y; partial = z; rec = rec }

      part : List SiteTerm
      part = c ∷ (some_part c ∷ [])

      picks : List SiteTerm
      picks = c ∷ (pick_of c ∷ [])

      by : (y z : Bool) → kind p t ≡ a_call (flags y z) infallible → IsValued R Q v.demands (valued (call_result (flags y z) c) (where_multi (flags y z) c (making (call_sites (flags y z) c) v)))
      by true true f =
          let w = making part v in
          let a = k.makes part v h in
          let b = k.iterates_constructor t i ss w (flags true true) infallible f refl (in_right v.demands.made part c (inl refl)) (each_stays R Q v.demands w.demands a.stays ss m) a.holds in
          record {
            onward = then_onward R Q v.demands w.demands (iterating c w).demands a b;
            site = b.stays (some_part c) (k.answer w.demands t i ss (flags true true) infallible f refl (in_right v.demands.made part c (inl refl)) (in_right v.demands.made part (some_part c) (inr (inl refl))) (each_stays R Q v.demands w.demands a.stays ss m));
          }
      by false true f =
          let w = making part v in
          let a = k.makes part v h in
          record {
            onward = a;
            site = k.answer w.demands t i ss (flags false true) infallible f refl (in_right v.demands.made part c (inl refl)) (in_right v.demands.made part (some_part c) (inr (inl refl))) (each_stays R Q v.demands w.demands a.stays ss m);
          }
      by true false f =
          let w = making picks v in
          let a = k.makes picks v h in
          let b = k.iterates_constructor t i ss w (flags true false) infallible f refl (in_right v.demands.made picks c (inl refl)) (each_stays R Q v.demands w.demands a.stays ss m) a.holds in
          record {
            onward = then_onward R Q v.demands w.demands (iterating c w).demands a b;
            site = b.stays (pick_of c) (k.pick w.demands t i ss (in_right v.demands.made picks c (inl refl)) (in_right v.demands.made picks (pick_of c) (inr (inl refl))) (each_stays R Q v.demands w.demands a.stays ss m));
          }
      by false false f =
          let w = making (c ∷ []) v in
          let a = k.makes (c ∷ []) v h in
          record {
            onward = a;
            site = k.call w.demands t i ss (flags false false) infallible f refl refl (in_right v.demands.made (c ∷ []) c (inl refl)) (each_stays R Q v.demands w.demands a.stays ss m);
          }

  term_valued : (n : Kind) (t : ℕ) (a : ValuedAll) → kind p t ≡ n → R a.visit.demands → AtEach R Q a.visit.demands a.sites → IsValued R Q a.visit.demands (visit_term n t a)
  term_valued (a_variant ty variant) t a e h m = grind (arith, common_steps, in_right a.visit.demands.made, each_stays R Q a.visit.demands)
  term_valued (a_struct ty) t a e h m = grind (arith, common_steps, in_right a.visit.demands.made, each_stays R Q a.visit.demands)
  term_valued (a_call flags infallible) t a e h m = grind (arith, common_steps, call_given, then_onward)
  term_valued unknown t a e h m = record { onward = no_step R Q a.visit.demands h; site = k.unbound a.visit.demands }

-- 4. visits
module _ (p : Program) (R : Demands → Type 0) (Q : Demands → SiteTerm → Type 0) (k : KeptWithSites R Q p) where
  pub var_at : (v : Visit) → IsAt R Q v → (x : ℕ) → Q v.demands (var_site v x)
  var_at v h x = in_vars v.vars h.vars
    where
      in_vars : (es : List (ℕ × SiteTerm)) → ((e : ℕ × SiteTerm) → In es e → Q v.demands e.1) → Q v.demands (or_no_site (look (λ y. y == x) es))
      in_vars [] f = k.unbound v.demands
      in_vars (e ∷ es) f = grind (arith, common_steps, in_vars es (λ d i. f d (inr i)))

  mutual
    pub pattern_past : (q : TypedPattern) (s : SiteTerm) (v : Visit) → IsAt R Q v → Q v.demands s → Past R Q v (visit_pattern p q s v)
    pattern_past (match_bind ty x sub) s v h m =
        let b = binding_past R Q x s v h m in then_past R Q v (binding x s v) (visit_pattern p sub s (binding x s v)) b (pattern_past sub s (binding x s v) b.at m)
    pattern_past (match_var ty x) s v h m = step_past R Q v (equating s (var_site v x) v) (equating_binds s (var_site v x) v) h (k.equates s (var_site v x) v h.holds m (var_at v h x))
    pattern_past (match_bool ty b) s v h m = step_past R Q v (asking s (is_bool b ty) v) refl h (k.asks s (is_bool b ty) v (λ x i. absurd i) h.holds m)
    pattern_past (match_int ty z) s v h m = step_past R Q v (asking s (is_int z ty) v) refl h (k.asks s (is_int z ty) v (λ x i. absurd i) h.holds m)
    pattern_past (match_prim ty name) s v h m = step_past R Q v (asking s (is_prim name) v) refl h (k.asks s (is_prim name) v (λ x i. absurd i) h.holds m)
    pattern_past (match_term ty t args) s v h m =
        let o = open_term (kind p t) t s args v in
        let a = term_opened p R Q k (kind p t) t s args v refl h.holds m in
        let b = step_past R Q v o.visit (open_binds (kind p t) t s args v) h a.onward in
        then_past R Q v o.visit (visit_each p args o.inputs o.visit) b (each_past args o.inputs o.visit b.at a.inputs)
    pattern_past (match_any ty) s v h m = still_at R Q v h
    pattern_past (match_and ty subs) s v h m = all_past subs s v h m

    each_past : (qs : TypedPatterns) (ss : List SiteTerm) (v : Visit) → IsAt R Q v → ((u : SiteTerm) → In ss u → Q v.demands u) → Past R Q v (visit_each p qs ss v)
    each_past no_typed_pattern ss v h f = still_at R Q v h
    each_past (typed_pattern_and q qs) [] v h f = still_at R Q v h
    each_past (typed_pattern_and q qs) (s ∷ ss) v h f =
        let w = visit_pattern p q s v in
        let a = pattern_past q s v h (f s (inl refl)) in
        then_past R Q v w (visit_each p qs ss w) a (each_past qs ss w a.at (λ u i. a.stays u (f u (inr i))))

    all_past : (qs : TypedPatterns) (s : SiteTerm) (v : Visit) → IsAt R Q v → Q v.demands s → Past R Q v (visit_all p qs s v)
    all_past no_typed_pattern s v h m = still_at R Q v h
    all_past (typed_pattern_and q qs) s v h m =
        let w = visit_pattern p q s v in
        let a = pattern_past q s v h m in
        then_past R Q v w (visit_all p qs s w) a (all_past qs s w a.at (a.stays s m))

  -- a leaf that is made where a visit stands
  leaf_given : (s : SiteTerm) (v : Visit) → IsLeaf s → IsAt R Q v → Given R Q v (valued s (making (s ∷ []) v))
  leaf_given s v l h = grind (arith, common_steps, step_past, in_right)

  mutual
    pub expr_given : (x : TypedExpr) (v : Visit) → IsAt R Q v → Given R Q v (visit_expr p x v)
    expr_given (make_term ty t args) v h =
        let a = visit_exprs p args v in
        let b = exprs_given args v h in
        let c = term_valued p R Q k (kind p t) t a refl b.0.at.holds b.1 in
        let w = (visit_term (kind p t) t a).visit in
        record { past = then_past R Q v a.visit w b.0 (step_past R Q a.visit w (term_binds (kind p t) t a) b.0.at c.onward); site = c.site }
    expr_given (make_var ty x) v h = record { past = still_at R Q v h; site = var_at v h x }
    expr_given (make_bool ty b) v h = leaf_given (bool_term b ty) v tt h
    expr_given (make_int ty z) v h = leaf_given (int_term z ty) v tt h
    expr_given (make_prim ty name) v h = leaf_given (prim_term name) v tt h
    expr_given (make_let ty ds body) v h =
        let w = visit_lets p ds v in
        let a = lets_past ds v h in
        let b = expr_given body w a.at in
        record { past = then_past R Q v w (visit_expr p body w).visit a b.past; site = b.site }

    exprs_given : (xs : TypedExprs) (v : Visit) → IsAt R Q v → Past R Q v (visit_exprs p xs v).visit × AtEach R Q (visit_exprs p xs v).visit.demands (visit_exprs p xs v).sites
    exprs_given no_typed_expr v h = (still_at R Q v h, tt)
    exprs_given (typed_expr_and x xs) v h =
        let a = expr_given x v h in
        let w = (visit_expr p x v).visit in
        let b = exprs_given xs w a.past.at in
        (then_past R Q v w (visit_exprs p xs w).visit a.past b.0, (b.0.stays (visit_expr p x v).site a.site, b.1))

    lets_past : (ds : TypedLets) (v : Visit) → IsAt R Q v → Past R Q v (visit_lets p ds v)
    lets_past no_typed_let v h = still_at R Q v h
    lets_past (typed_let_and x ty value rest) v h =
        let a = expr_given value v h in
        let s = (visit_expr p value v).site in
        let u = (visit_expr p value v).visit in
        let b = binding_past R Q x s u a.past.at a.site in
        then_past R Q v u (visit_lets p rest (binding x s u)) a.past
        (then_past R Q u (binding x s u) (visit_lets p rest (binding x s u)) b (lets_past rest (binding x s u) b.at))

  pub answers_past : (s : SiteTerm) (v : Visit) → IsAt R Q v → Q v.demands s → Past R Q v (asking_all (unwraps s) v)
  answers_past s v h m = step_past R Q v (asking_all (unwraps s) v) (asked_binds (unwraps s) v) h (k.asks_all s v h.holds m)

  -- an argument is counted, and made
  pub argument_given : (i : ℕ) (v : Visit) → IsAt R Q v → Given R Q v (valued (argument i) (taking_argument i v))
  argument_given i v h =
      let x = counting (argument_taken i) v in
      let n = step_past R Q v x refl h (k.counts (argument_taken i) v h.holds) in
      let a = leaf_given (argument i) x tt n.at in
      record { past = then_past R Q v x (taking_argument i v) n a.past; site = a.site }

  pub args_past : (i : ℕ) (qs : List TypedPattern) (v : Visit) → IsAt R Q v → Past R Q v (visit_args p i qs v)
  args_past i [] v h = still_at R Q v h
  args_past i (q ∷ qs) v h = grind (arith, common_steps, args_past (suc i) qs, argument_given i v h, pattern_past q (argument i), then_past R Q v)

  pub iflets_past : (is : List TypedIfLet) (v : Visit) → IsAt R Q v → Past R Q v (visit_iflets p is v)
  iflets_past [] v h = still_at R Q v h
  iflets_past (i ∷ is) v h =
      let s = (visit_expr p i.rhs v).site in
      let u = (visit_expr p i.rhs v).visit in
      let w = asking_all (unwraps s) u in
      let z = visit_pattern p i.lhs s w in
      let a = expr_given i.rhs v h in
      let b = answers_past s u a.past.at a.site in
      let c = pattern_past i.lhs s w b.at (b.stays s a.site) in
      then_past R Q v u (visit_iflets p is z) a.past
      (then_past R Q u w (visit_iflets p is z) b (then_past R Q w z (visit_iflets p is z) c (iflets_past is z c.at)))

  -- so a rule's whole visit keeps both, and the fact of sites holds of the result
  pub rule_given : (r : TypedRule) → R visit_start.demands → R (visit_rule p r).visit.demands × Q (visit_rule p r).visit.demands (visit_rule p r).site
  rule_given r start = grind (arith, common_steps, args_past, iflets_past, expr_given, no_step, in_right)
