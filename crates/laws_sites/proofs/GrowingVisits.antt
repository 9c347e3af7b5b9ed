-- Visits only add: what is made, gone over, asked and equated stays, and expressions ask and equate nothing.
use Rattle.std.proofs.Common.{◌≡◌, ℕ, suc, Bool, true, false, List, [], ◌∷◌, ◌++◌, refl, ◌∙◌, arith}
use Rattle.std.proofs.lemmas.Grind.{common_steps}
use Rattle.model.specs.lists.Tables.{Flags}
use Rattle.model.specs.rules.Program.{Program, Kind, a_variant, a_struct, a_call, unknown, kind, is_partial}
use Rattle.model.specs.sites.Sites.{Constraint, is_variant, is_struct, is_present, SiteTerm, extractor_call, constructor_call, pick_of, variant_made, struct_made, some_made, some_part, SiteTerms, field_terms}
use Rattle.model.specs.rules.Typed.{TypedPattern, TypedPatterns, TypedExpr, TypedExprs, TypedLets, TypedIfLet, TypedRule}
use Rattle.model.specs.visits.Demands.{fields_opened, Count, fields_matched, Visit, counting, outputs_opened, site_term_eq, making, asking, equating, iterating, calling, binding, pattern_count, part_sites, open_call, open_term, visit_pattern, visit_each, visit_all, Valued, ValuedAll, call_result, call_sites, where_multi, visit_call, visit_term, visit_expr, visit_exprs, visit_lets, asking_all, visit_args, visit_iflets, finished}
use Rattle.model.proofs.Elements.{In, in_left}
use Rattle.model.proofs.Either.{either}
use Rattle.laws_sites.proofs.VisitInvariants.{KeptByTests, KeptByValues, pattern_kept, each_kept, all_kept, expr_kept, exprs_kept, lets_kept, iflets_kept, args_kept}

-- a later visit
pub record Grown (v w : Visit) : Type 0 where
  pub made : (u : SiteTerm) → In v.demands.made u → In w.demands.made u
  pub calls : (u : SiteTerm) → In v.demands.iterators u → In w.demands.iterators u
  pub asked : (x : SiteTerm × Constraint) → In v.demands.constraints x → In w.demands.constraints x
  pub equal : (x : SiteTerm × SiteTerm) → In v.demands.equalities x → In w.demands.equalities x

pub grown_by_none : (v : Visit) → Grown v v
grown_by_none v = record { made = λ u i. i; calls = λ u i. i; asked = λ x i. i; equal = λ x i. i }

pub then_grown : (u v w : Visit) → Grown u v → Grown v w → Grown u w
then_grown u v w a b = grind (arith, common_steps)

pub grown_making : (ts : List SiteTerm) (v : Visit) → Grown v (making ts v)
grown_making ts v = record { made = λ u i. in_left v.demands.made ts u i; calls = λ u i. i; asked = λ x i. i; equal = λ x i. i }

pub grown_asking : (s : SiteTerm) (c : Constraint) (v : Visit) → Grown v (asking s c v)
grown_asking s c v = record { made = λ u i. i; calls = λ u i. i; asked = λ x i. in_left v.demands.constraints ((s, c) ∷ []) x i; equal = λ x i. i }

pub grown_counting : (c : Count) (v : Visit) → Grown v (counting c v)
grown_counting c v = record { made = λ u i. i; calls = λ u i. i; asked = λ x i. i; equal = λ x i. i }

pub grown_iterating : (s : SiteTerm) (v : Visit) → Grown v (iterating s v)
grown_iterating s v = record { made = λ u i. i; calls = λ u i. in_left v.demands.iterators (s ∷ []) u i; asked = λ x i. i; equal = λ x i. i }

pub grown_calling : (s : SiteTerm) (v : Visit) → Grown v (calling s v)
grown_calling s v = record { made = λ u i. i; calls = λ u i. i; asked = λ x i. i; equal = λ x i. i }

pub grown_binding : (x : ℕ) (s : SiteTerm) (v : Visit) → Grown v (binding x s v)
grown_binding x s v = record { made = λ u i. i; calls = λ u i. i; asked = λ x i. i; equal = λ x i. i }

-- the visit after two sites that are two were equated
unfoldable pub equated : SiteTerm → SiteTerm → Visit → Visit
equated a b v = record { vars = v.vars; impure_calls = v.impure_calls; demands = record { constraints = v.demands.constraints; equalities = v.demands.equalities ++ (a, b) ∷ []; iterators = v.demands.iterators; impure = v.demands.impure; made = v.demands.made; counted = v.demands.counted } }

grown_equated : (a b : SiteTerm) (v : Visit) → Grown v (equated a b v)
unfolding equated
grown_equated a b v = record { made = λ u i. i; calls = λ u i. i; asked = λ x i. i; equal = λ x i. in_left v.demands.equalities ((a, b) ∷ []) x i }

pub grown_equating : (a b : SiteTerm) (v : Visit) → Grown v (equating a b v)
unfolding equated
grown_equating a b v = either (Grown v) (site_term_eq a b) v (equated a b v) (grown_by_none v) (grown_equated a b v)

pub grown_all : (ss : List SiteTerm) (v : Visit) → Grown v (asking_all ss v)
grown_all [] v = grown_by_none v
grown_all (s ∷ ss) v = then_grown v (asking s is_present v) (asking_all ss (asking s is_present v)) (grown_asking s is_present v) (grown_all ss (asking s is_present v))

-- 1. patterns
pub outputs_grown : (u v : Visit) (s : SiteTerm) (args : TypedPatterns) → Grown u v → Grown u (outputs_opened s args v).visit
outputs_grown u v s args g = grind (arith, common_steps, then_grown u v, then_grown v, grown_counting, grown_making (part_sites s args))

call_grown : (pure multi partial rec infallible : Bool) (call : SiteTerm) (args : TypedPatterns) (v : Visit)
    → Grown v (open_call (record { pure = pure; multi = multi; partial = partial; rec = rec }) infallible call args v).visit
call_grown pure true partial rec infallible call args v =
    let a = making (call ∷ (pick_of call ∷ [])) v in
    let b = iterating call a in
    outputs_grown v b (pick_of call) args (then_grown v a b (grown_making (call ∷ (pick_of call ∷ [])) v) (grown_iterating call a))
call_grown pure false partial rec true call args v = outputs_grown v (making (call ∷ []) v) call args (grown_making (call ∷ []) v)
call_grown pure false partial rec false call args v =
    let a = making (call ∷ (some_part call ∷ [])) v in
    let b = asking call is_present a in
    outputs_grown v b (some_part call) args (then_grown v a b (grown_making (call ∷ (some_part call ∷ [])) v) (grown_asking call is_present a))

fields_grown : (c : Constraint) (n : ℕ) (s : SiteTerm) (v : Visit) → Grown v (fields_opened c n s v).visit
fields_grown c n s v = grind (arith, common_steps, then_grown v, grown_counting (fields_matched n) v, grown_making (field_terms c s), grown_asking s c)

pub term_grown : (k : Kind) (t : ℕ) (s : SiteTerm) (args : TypedPatterns) (v : Visit) → Grown v (open_term k t s args v).visit
term_grown (a_variant ty variant) t s args v = fields_grown (is_variant ty variant (pattern_count args)) (pattern_count args) s v
term_grown (a_struct ty) t s args v = fields_grown (is_struct ty (pattern_count args)) (pattern_count args) s v
term_grown (a_call flags infallible) t s args v = call_grown flags.pure flags.multi flags.partial flags.rec infallible (extractor_call t s) args v
term_grown unknown t s args v = grown_by_none v

tests_grow : (p : Program) (v : Visit) → KeptByTests p (Grown v)
tests_grow p v = record {
  bound = λ x s w g. then_grown v w (binding x s w) g (grown_binding x s w);
  equal = λ a b w g. then_grown v w (equating a b w) g (grown_equating a b w);
  asked = λ s c w g. then_grown v w (asking s c w) g (grown_asking s c w);
  counted = λ c w g. then_grown v w (counting c w) g (grown_counting c w);
  opened = λ t s args w g. then_grown v w (open_term (kind p t) t s args w).visit g (term_grown (kind p t) t s args w);
}

pub pattern_grown : (p : Program) (q : TypedPattern) (s : SiteTerm) (v : Visit) → Grown v (visit_pattern p q s v)
pattern_grown p q s v = pattern_kept p (Grown v) (tests_grow p v) q s v (grown_by_none v)

pub each_grown : (p : Program) (qs : TypedPatterns) (ss : List SiteTerm) (v : Visit) → Grown v (visit_each p qs ss v)
each_grown p qs ss v = each_kept p (Grown v) (tests_grow p v) qs ss v (grown_by_none v)

pub all_grown : (p : Program) (qs : TypedPatterns) (s : SiteTerm) (v : Visit) → Grown v (visit_all p qs s v)
all_grown p qs s v = all_kept p (Grown v) (tests_grow p v) qs s v (grown_by_none v)

-- 2. expressions: they ask and equate nothing
pub record Adds (v w : Visit) : Type 0 where
  pub grown : Grown v w
  pub constraints : w.demands.constraints ≡ v.demands.constraints
  pub equalities : w.demands.equalities ≡ v.demands.equalities

pub then_adds : (u v w : Visit) → Adds u v → Adds v w → Adds u w
then_adds u v w a b = record { grown = then_grown u v w a.grown b.grown; constraints = b.constraints ∙ a.constraints; equalities = b.equalities ∙ a.equalities }

adds_making : (ts : List SiteTerm) (v : Visit) → Adds v (making ts v)
adds_making ts v = record { grown = grown_making ts v; constraints = refl; equalities = refl }

adds_iterating : (s : SiteTerm) (v : Visit) → Adds v (iterating s v)
adds_iterating s v = record { grown = grown_iterating s v; constraints = refl; equalities = refl }

adds_call : (flags : Flags) (call : SiteTerm) (v : Visit) → Adds v (where_multi flags call (making (call_sites flags call) v))
adds_call flags call v = grind (arith, common_steps, then_adds v, adds_making (call_sites flags call) v, either, adds_iterating call)

call_adds : (pure multi partial rec : Bool) (t : ℕ) (args : SiteTerms) (v : Visit)
    → Adds v (visit_call (record { pure = pure; multi = multi; partial = partial; rec = rec }) t args v).visit
call_adds true multi partial rec t args v = adds_call (record { pure = true; multi = multi; partial = partial; rec = rec }) (constructor_call t args 0) v
call_adds false multi partial rec t args v =
    let flags : Flags = record { pure = false; multi = multi; partial = partial; rec = rec } in
    let call = constructor_call t args (suc v.impure_calls) in
    let w = where_multi flags call (making (call_sites flags call) v) in
    then_adds v w (calling (call_result flags call) w) (adds_call flags call v) (grind (arith, grown_calling))

pub term_adds : (k : Kind) (t : ℕ) (a : ValuedAll) → Adds a.visit (visit_term k t a).visit
term_adds (a_variant ty variant) t a = adds_making (variant_made ty variant a.sites ∷ []) a.visit
term_adds (a_struct ty) t a = adds_making (struct_made ty a.sites ∷ []) a.visit
term_adds (a_call flags infallible) t a = call_adds flags.pure flags.multi flags.partial flags.rec t a.sites a.visit
term_adds unknown t a = grind (arith, common_steps, grown_by_none)

pub expr_adds : (p : Program) (x : TypedExpr) (v : Visit) → Adds v (visit_expr p x v).visit
expr_adds p x v = expr_kept p (Adds v) (grind (arith, then_adds, adds_making, term_adds)) x v (grind (arith, grown_by_none))

pub exprs_add : (p : Program) (xs : TypedExprs) (v : Visit) → Adds v (visit_exprs p xs v).visit
exprs_add p xs v = exprs_kept p (Adds v) (grind (arith, then_adds, adds_making, term_adds)) xs v (grind (arith, grown_by_none))

pub lets_add : (p : Program) (ds : TypedLets) (v : Visit) → Adds v (visit_lets p ds v)
lets_add p ds v = lets_kept p (Adds v) (grind (arith, then_adds, adds_making, term_adds)) ds v (grind (arith, grown_by_none))

-- 3. if-lets, and the right side
values_grow : (p : Program) (v : Visit) → KeptByValues p (Grown v)
values_grow p v = grind (arith, common_steps, tests_grow, then_grown, grown_making, term_adds)

pub iflets_grown : (p : Program) (is : List TypedIfLet) (v : Visit) → Grown v (visit_iflets p is v)
iflets_grown p is v = iflets_kept p (Grown v) (tests_grow p v) (values_grow p v) is v (grown_by_none v)

pub args_grown : (p : Program) (i : ℕ) (qs : List TypedPattern) (v : Visit) → Grown v (visit_args p i qs v)
args_grown p i qs v = args_kept p (Grown v) (tests_grow p v) (values_grow p v).made i qs v (grown_by_none v)

pub finished_adds : (b : Bool) (a : Valued) → Adds a.visit (finished b a).visit
finished_adds false a = grind (arith, common_steps, grown_by_none)
finished_adds true a = adds_making (some_made a.site ∷ []) a.visit

-- what a rule's right side adds
pub rule_adds : (p : Program) (r : TypedRule) (w : Visit) → Adds w (finished (is_partial p r.root_term) (visit_expr p r.rhs w)).visit
rule_adds p r w = grind (arith, common_steps, then_adds w, expr_adds p r.rhs w, finished_adds (is_partial p r.root_term))
