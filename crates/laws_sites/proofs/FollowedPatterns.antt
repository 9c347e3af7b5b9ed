-- A visitor that follows the visitor of sites follows it through a pattern whose terms are there.
use Rattle.std.proofs.Common.{◌≡◌, ℕ, zero, suc, Bool, true, false, not, List, [], ◌∷◌, length, Option, Some, None, slice_get, Result, Ok, Err, refl, sym, ap, ◌∙◌, subst, ⊎_elim, arith}
use Rattle.std.specs.Prelude.{MatchResult}
use Rattle.std.specs.List.{AllZip}
use Rattle.std.proofs.lemmas.Grind.{common_steps}
use Rattle.model.specs.lists.Tables.{TermKindEntry, variant_term, struct_term, declared_term, TermEntry}
use Rattle.model.specs.rules.Program.{Program, Kind, unknown, always_answers, kind, kind_of}
use Rattle.model.specs.rules.Typed.{TypedPattern, match_bind, match_var, match_bool, match_int, match_prim, match_term, match_any, match_and, TypedPatterns, no_typed_pattern, typed_pattern_and}
use Rattle.model.specs.sites.Sites.{is_bool, is_int, is_prim, SiteTerm, extractor_call, tuple_part, fields_from}
use Rattle.model.specs.visits.Demands.{Visit, asking, equating, binding, var_site, pattern_count, outputs_opened, open_call, open_term, visit_pattern, visit_each, visit_all}
use Rattle.model.specs.visits.Runs.{BoundIds, with_bound, binds, finds, calls_visitor, on_variables}
use Rattle.model.specs.visits.Visitors.{PatternSteps}
use Rattle.model.specs.visits.SiteVisitor.{any_parts}
use Rattle.model.specs.visits.PatternRuns.{part_types, OpensKind, Opens, PatternRun, PartsRun, EachRun}
use Rattle.laws_sites.specs.VisitLaws.{Continues}
use Rattle.laws_sites.proofs.Continued.{continues_now, tests_continue}
use Rattle.laws_sites.proofs.VisitInvariants.{each_kept, all_kept}
use Rattle.laws_sites.proofs.AskedSites.{equating_binds}
use Rattle.laws_sites.specs.Followers.{Follower, Goes, GoesOn, GivesParts, FollowsPatterns, EndsOnTheWay}
use Rattle.laws_sites.proofs.FittingPatterns.{FitsTerm, Fits, FitAll}
use Rattle.laws_sites.proofs.KnownVars.{KnowsVars, by_and_then, goes_further, goes_nowhere, knows_more, knows_stay, no_fault, one_answer, refusal, refused_ends}

-- 1. a term's pattern is opened by the number of its parts alone
pub any_count : (n : ℕ) → pattern_count (any_parts n) ≡ n
any_count zero = refl
any_count (suc n) = ap suc (any_count n)

pub types_count : (args : TypedPatterns) → length (part_types args) ≡ pattern_count args
types_count no_typed_pattern = refl
types_count (typed_pattern_and q rest) = ap suc (types_count rest)

abbrev outputs_by : SiteTerm → ℕ → List SiteTerm
outputs_by s zero = []
outputs_by s (suc zero) = s ∷ []
outputs_by s (suc (suc n)) = fields_from (tuple_part s) 0 (suc (suc n))

abbrev parts_by : SiteTerm → ℕ → List SiteTerm
parts_by s zero = []
parts_by s (suc zero) = []
parts_by s (suc (suc n)) = fields_from (tuple_part s) 0 (suc (suc n))

module _ (args parts : TypedPatterns) (same : pattern_count args ≡ pattern_count parts) where
  outputs_alike : (s : SiteTerm) (v : Visit) → outputs_opened s args v ≡ outputs_opened s parts v
  outputs_alike s v = grind (arith, common_steps)

  pub call_alike : (multi partial rec pure infallible : Bool) (call : SiteTerm) (v : Visit)
      → open_call (record { pure = true; multi = multi; partial = not infallible; rec = false }) infallible call args v ≡ open_call (record { pure = pure; multi = multi; partial = partial; rec = rec }) infallible call parts v
  call_alike multi partial rec pure infallible call v = grind (arith, common_steps, outputs_alike)

module _ {F S N : Type 0} (o : Follower F S N) (want : Option F) (ends : EndsOnTheWay o want) where
  -- 2. where a visitor goes, with its variables
  abbrev pub State : Type 0
  State = S × BoundIds N

  pub record Reaches (s : S) (t : State) (w : Visit) : Type 0 where
    pub goes : Goes o s t.0 w
    pub knows : KnowsVars o t.0 t.1 w

  -- or it ends on the way
  abbrev pub ReachesOr : S → Result (Unit {0}) F → State → Visit → Type 0
  ReachesOr s r t w = MatchResult r (λ a. Reaches s t w) (λ e. o.Ends t.0 w e)

  further : (s m : S) (r : Result (Unit {0}) F) (t : State) (v w : Visit) → Goes o s m v → ReachesOr m r t w → ReachesOr s r t w
  further s m r t v w g h = grind (arith, common_steps, goes_further)

  called : (s t : State) (v w : Visit) (r : Result (Unit {0}) F) → w.vars ≡ v.vars → t.1 ≡ s.1 → KnowsVars o s.0 s.1 v → GoesOn o s.0 r t.0 w → ReachesOr s.0 r t w
  called s t v w r same stay knows g = grind (arith, common_steps)

  pub names_stay : (s t : S) (v : Visit) (us : List SiteTerm) (ids : List N) → Goes o s t v → AllZip (o.Names s) us ids → AllZip (o.Names t) us ids
  names_stay s t v (u ∷ us) (n ∷ ids) g h = (g.kept u n h.0, names_stay s t v us ids g h.1)
  names_stay s t v k i g h = grind (arith, common_steps)

  module _ (v : PatternSteps F S N) (f : FollowsPatterns o v) (p : Program) where
    -- 3. a term's pattern
    module _ (s t : S) (r : Result (List N) F) (w : Visit) where
      kind_opened : (u : SiteTerm) (n : N) (term : ℕ) (args : TypedPatterns) (e : TermEntry) (ty : ℕ) (k : TermKindEntry) → o.Stands s w → o.Names s u n → e.ret_ty ≡ ty → length e.arg_tys ≡ pattern_count args
          → OpensKind want v e ty term (part_types args) n k s r t → GivesParts o s r t (open_term (kind_of (record e { kind = k })) term u args w)
      kind_opened u n term args e ty (variant_term variant) h named ret count run = grind (arith, common_steps)
      kind_opened u n term args e ty struct_term h named ret count run = grind (arith, common_steps)
      kind_opened u n term args e ty (declared_term flags c None) h named ret count run = absurd run
      kind_opened u n term args e ty (declared_term flags c (Some x)) h named ret count run =
          let tys = part_types args in
          let always = always_answers flags (Some x) in
          let same = any_count (length tys) ∙ types_count args in
          ⊎_elim (λ a. refused_ends o want ends _ s r t t _ a)
          (λ a.
          subst (GivesParts o s r t) (call_alike (any_parts (length tys)) args same flags.multi flags.partial flags.rec flags.pure always (extractor_call term u) w)
          (f.extractor s w u n e.ret_ty tys term always flags.multi r t h named a)) run

      term_opened : (u : SiteTerm) (n : N) (term : ℕ) (args : TypedPatterns) (ty : ℕ) (e : Option TermEntry) → o.Stands s w → o.Names s u n → FitsTerm ty (pattern_count args) e
          → Opens want v ty term (part_types args) n e s r t → GivesParts o s r t (open_term (elim e as (λ _. Kind) [ None ↦ unknown | Some x ↦ kind_of x ]) term u args w)
      term_opened u n term args ty None h named fits run = absurd fits
      term_opened u n term args ty (Some e) h named fits run = kind_opened u n term args e ty e.kind h named fits.0 fits.1 run

    -- 4. the visit
    mutual
      pub pattern_follows : (q : TypedPattern) (n : N) (s : State) (r : Result (Unit {0}) F) (t : State) (w : Visit) (u : SiteTerm) → Fits p q → PatternRun want v p.terms q n s r t
          → o.Stands s.0 w → KnowsVars o s.0 s.1 w → o.Names s.0 u n → ReachesOr s.0 r t (visit_pattern p q u w)
      pattern_follows (match_bind ty x of) n s r t w u fits run h knows named =
          let last = visit_pattern p of u (binding x u w) in
          by_and_then (on_variables (binds want x n)) (λ _. PatternRun want v p.terms of n) s r t (λ z. ReachesOr s.0 z t last)
          (λ a m first rest.
          let vars : m.1 ≡ with_bound s.1 x n = ⊎_elim (λ b. b.1) (λ b. let c = refusal want s.1 (Ok a) m.1 b in absurd (no_fault a c.0 c.2)) first.0 in
          let is : m ≡ (s.0, with_bound s.1 x n) = λ i. (first.1 i, vars i) in
          pattern_follows of n (s.0, with_bound s.1 x n) r t (binding x u w) u fits (subst (λ z. PatternRun want v p.terms of n z r t) is rest) (ends.bound s.0 w x u h)
          (knows_more o s.0 s.1 w x n u named knows) named)
          (λ e first. ⊎_elim (λ b. absurd (no_fault tt e (sym b.0))) (λ b. refused_ends o want ends (λ a. Reaches s.0 t last) s.1 (Err e) t.1 t.0 last b) first.0) run
      pattern_follows (match_var ty x) n s r t w u fits run h knows named =
          let last = equating u (var_site w x) w in
          by_and_then (on_variables (finds x)) (λ id. calls_visitor (λ a b c. v.match_equal_steps a n id ty b c)) s r t (λ z. ReachesOr s.0 z t last)
          (λ id m found step.
          let known = knows x id (found.0.1 ∙ ap Some (sym (one_answer id found.0.0 found.0.2.0))) in
          called s t w last r (equating_binds u (var_site w x) w) (step.1 ∙ found.0.2.1) knows
          (f.equal s.0 w u (var_site w x) n id ty r t.0 h named known (subst (λ z. v.match_equal_steps z n id ty r t.0) found.1 step.0)))
          (λ e found. absurd (no_fault found.0.0 e (sym found.0.2.0))) run
      pattern_follows (match_bool ty b) n s r t w u fits run h knows named = called s t w (asking u (is_bool b ty) w) r refl run.1 knows (f.bool s.0 w u n ty b r t.0 h named run.0)
      pattern_follows (match_int ty z) n s r t w u fits run h knows named = called s t w (asking u (is_int z ty) w) r refl run.1 knows (f.int s.0 w u n ty z r t.0 h named run.0)
      pattern_follows (match_prim ty name) n s r t w u fits run h knows named = called s t w (asking u (is_prim name) w) r refl run.1 knows (f.prim s.0 w u n ty name r t.0 h named run.0)
      pattern_follows (match_term ty term args) n s r t w u fits run h knows named =
          let a = open_term (kind p term) term u args w in
          let last = visit_each p args a.inputs a.visit in
          by_and_then (calls_visitor (Opens want v ty term (part_types args) n (slice_get p.terms term))) (λ ids. PartsRun want v p.terms args ids) s r t (λ z. ReachesOr s.0 z t last)
          (λ ids m step rest.
          let opens = term_opened s.0 m.0 (Ok ids) w u n term args ty (slice_get p.terms term) h named fits.0 step.0 in
          further s.0 m.0 r t a.visit last opens.0
          (parts_follow args ids m r t a.visit a.inputs fits.1 rest opens.0.stands (grind (arith, common_steps, knows_stay)) opens.1))
          (λ e step.
          ends.further t.0 a.visit last e (each_kept p (Continues a.visit) (tests_continue p a.visit) args a.inputs a.visit (continues_now a.visit))
          (term_opened s.0 t.0 (Err e) w u n term args ty (slice_get p.terms term) h named fits.0 step.0)) run
      pattern_follows (match_any ty) n s r t w u fits run h knows named = grind (arith, goes_nowhere)
      pattern_follows (match_and ty parts) n s r t w u fits run h knows named = each_follows parts n s r t w u fits run h knows named

      pub parts_follow : (qs : TypedPatterns) (ids : List N) (s : State) (r : Result (Unit {0}) F) (t : State) (w : Visit) (us : List SiteTerm) → FitAll p qs → PartsRun want v p.terms qs ids s r t
          → o.Stands s.0 w → KnowsVars o s.0 s.1 w → AllZip (o.Names s.0) us ids → ReachesOr s.0 r t (visit_each p qs us w)
      parts_follow no_typed_pattern [] s r t w us fits run h knows named = grind (arith, goes_nowhere)
      parts_follow (typed_pattern_and q rest) (id ∷ ids) s r t w [] fits run h knows named = absurd named
      parts_follow (typed_pattern_and q rest) (id ∷ ids) s r t w (u ∷ us) fits run h knows named =
          let mid = visit_pattern p q u w in
          let last = visit_each p rest us mid in
          by_and_then (PatternRun want v p.terms q id) (λ _. PartsRun want v p.terms rest ids) s r t (λ z. ReachesOr s.0 z t last)
          (λ a m step others.
          let first = pattern_follows q id s (Ok a) m w u fits.0 step h knows named.0 in
          further s.0 m.0 r t mid last first.goes (parts_follow rest ids m r t mid us fits.1 others first.goes.stands first.knows (names_stay s.0 m.0 mid us ids first.goes named.1)))
          (λ e step.
          ends.further t.0 mid last e (each_kept p (Continues mid) (tests_continue p mid) rest us mid (continues_now mid)) (pattern_follows q id s (Err e) t w u fits.0 step h knows named.0)) run
      parts_follow _ _ s r t w us fits run h knows named = absurd run

      pub each_follows : (qs : TypedPatterns) (n : N) (s : State) (r : Result (Unit {0}) F) (t : State) (w : Visit) (u : SiteTerm) → FitAll p qs → EachRun want v p.terms qs n s r t
          → o.Stands s.0 w → KnowsVars o s.0 s.1 w → o.Names s.0 u n → ReachesOr s.0 r t (visit_all p qs u w)
      each_follows no_typed_pattern n s r t w u fits run h knows named = grind (arith, goes_nowhere)
      each_follows (typed_pattern_and q rest) n s r t w u fits run h knows named =
          let mid = visit_pattern p q u w in
          let last = visit_all p rest u mid in
          by_and_then (PatternRun want v p.terms q n) (λ _. EachRun want v p.terms rest n) s r t (λ z. ReachesOr s.0 z t last)
          (λ a m step others.
          let first = pattern_follows q n s (Ok a) m w u fits.0 step h knows named in
          further s.0 m.0 r t mid last first.goes (each_follows rest n m r t mid u fits.1 others first.goes.stands first.knows (first.goes.kept u n named)))
          (λ e step.
          ends.further t.0 mid last e (all_kept p (Continues mid) (tests_continue p mid) rest u mid (continues_now mid)) (pattern_follows q n s (Err e) t w u fits.0 step h knows named)) run
