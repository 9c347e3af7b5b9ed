-- Each call that a rule of a built set goes over has a site for its answers: the visit that goes over it makes one, and no
-- site is lost.
use Rattle.std.proofs.Common.{◌≡◌, ◌≤◌, ◌<◌, ℕ, zero, suc, Bool, true, false, if◌then◌else◌, List, [], ◌∷◌, ◌++◌, length, take, flat_map, Option, Some, None, slice_get, Contains, refl, sym, ap, ◌∙◌, subst, inl, inr, arith}
use Rattle.std.proofs.lemmas.Option.{same_Some, slice_get_within}
use Rattle.std.proofs.lemmas.Grind.{common_steps}
use Rattle.model.specs.lists.Tables.{Flags}
use Rattle.model.specs.rules.Program.{Program, Kind, a_variant, a_struct, a_call, unknown, kind, flags_of, rules_of}
use Rattle.model.specs.rules.Typed.{TypedPatterns, TypedRule}
use Rattle.model.specs.sites.Sites.{Site, bool_site, int_site, prim_site, argument_site, extractor_site, constructor_site, iterator_site, make_variant_site, match_variant_site, make_struct_site, extract_struct_site, make_some_site, match_some_site, match_tuple_site, is_present, SetRule, SiteSet, sources_of, SiteTerm, extractor_call, pick_of, variant_made, struct_made, some_part, SiteTerms, layer_at, unfold_site, field_terms}
use Rattle.model.specs.visits.Demands.{pattern_count, outputs_taken, counting, demands_of, Visit, making, asking, iterating, equating, site_term_eq, has_site, with_sites, part_sites, open_call, open_term, ValuedAll, valued, call_sites, where_multi, visit_call, visit_term, visit_rule, outputs_opened}
use Rattle.model.specs.sites.DemandedGates.{HasNoPartialMulti}
use Rattle.model.specs.sites.Closure.{Closed, closed, before_closing, most_closing_steps, ascending, class_at}
use Rattle.model.specs.sites.Limits.{RuleLimit, most_sites, passed_in_visit, sites_after_rule, sites_after_rules, sites_reached, sites_until}
use Rattle.model.specs.sites.Closure.{is_unreachable}
use Rattle.model.specs.sites.Overlap.{BuiltRule, is_built, built_rule, built_from, built_rules}
use Rattle.model.specs.claims.Environments.{program_of}
use Rattle.model.specs.claims.Layers.{IsBuiltForSome}
use Rattle.model.proofs.Elements.{In, in_from_contains, in_left, in_right, in_either, slice_in}
use Rattle.model.proofs.Positions.{get_front}
use Rattle.laws_sites.proofs.Classes.{in_with_sites}
use Rattle.laws_sites.proofs.Closing.{closing_keeps}
use Rattle.laws_sites.proofs.BuiltWithinLimits.{reached_closed, few_made}
use Rattle.laws_sites.proofs.built.BuiltGates.{rule_at}
use Rattle.laws_typing.proofs.WellTypedRules.{elaborated_programs_are_well_typed_lem}
use Rattle.laws_sites.proofs.built.DistinctSites.{one_number}
use Rattle.laws_sites.proofs.built.Unfolding.{unfolds}
use Rattle.laws_sites.proofs.VisitInvariants.{rule_kept}

-- 1. the visit of a rule makes a pick of each call that it goes over
abbrev AllPicked : Visit → Type 0
AllPicked v = (call : SiteTerm) → In v.demands.iterators call → In v.demands.made (pick_of call)

more_made : (ts : List SiteTerm) (v : Visit) → AllPicked v → AllPicked (making ts v)
more_made ts v h call i = in_left v.demands.made ts (pick_of call) (h call i)

gone_over : (call : SiteTerm) (v : Visit) → AllPicked v → In v.demands.made (pick_of call) → AllPicked (iterating call v)
gone_over call v h m c i = grind (arith, common_steps, in_either)

-- a call, made with its pick and gone over
picked : (call : SiteTerm) (v : Visit) → AllPicked v → AllPicked (iterating call (making (call ∷ (pick_of call ∷ [])) v))
picked call v h =
    gone_over call (making (call ∷ (pick_of call ∷ [])) v) (more_made (call ∷ (pick_of call ∷ [])) v h)
    (in_right v.demands.made (call ∷ (pick_of call ∷ [])) (pick_of call) (inr (inl refl)))

equal_picked : (a b : SiteTerm) (v : Visit) → AllPicked v → AllPicked (equating a b v)
equal_picked a b v h = of (site_term_eq a b)
  where
    of : (q : Bool) → AllPicked (if q then v else (record { vars = v.vars; impure_calls = v.impure_calls; demands = record { constraints = v.demands.constraints; equalities = v.demands.equalities ++ (a, b) ∷ []; iterators = v.demands.iterators; impure = v.demands.impure; made = v.demands.made; counted = v.demands.counted } }))
    of true = h
    of false = h

call_opened : (flags : Flags) (infallible : Bool) (call : SiteTerm) (args : TypedPatterns) (v : Visit) → AllPicked v → AllPicked (open_call flags infallible call args v).visit
call_opened flags infallible call args v h = of flags.multi infallible
  where
    of : (multi certain : Bool) → AllPicked (if multi
        then outputs_opened (pick_of call) args (iterating call (making (call ∷ (pick_of call ∷ [])) v))
        else (if certain
        then outputs_opened call args (making (call ∷ []) v)
        else outputs_opened (some_part call) args (asking call is_present (making (call ∷ (some_part call ∷ [])) v)))).visit
    of true certain = more_made (part_sites (pick_of call) args) (counting (outputs_taken (pattern_count args)) (iterating call (making (call ∷ (pick_of call ∷ [])) v))) (picked call v h)
    of false true = more_made (part_sites call args) (counting (outputs_taken (pattern_count args)) (making (call ∷ []) v)) (more_made (call ∷ []) v h)
    of false false =
        more_made (part_sites (some_part call) args) (counting (outputs_taken (pattern_count args)) (asking call is_present (making (call ∷ (some_part call ∷ [])) v)))
        (more_made (call ∷ (some_part call ∷ [])) v h)

term_opened : (k : Kind) (t : ℕ) (s : SiteTerm) (args : TypedPatterns) (v : Visit) → AllPicked v → AllPicked (open_term k t s args v).visit
term_opened (a_variant ty variant) t s args v h = λ call i. in_left v.demands.made _ (pick_of call) (h call i)
term_opened (a_struct ty) t s args v h = λ call i. in_left v.demands.made _ (pick_of call) (h call i)
term_opened (a_call flags infallible) t s args v h = call_opened flags infallible (extractor_call t s) args v h
term_opened unknown t s args v h = h

-- a call of a constructor that isn't both multi and partial
call_picked : (flags : Flags) → (flags.multi ≡ true → flags.partial ≡ true → ⊥) → (call : SiteTerm) (v : Visit) → AllPicked v → AllPicked (where_multi flags call (making (call_sites flags call) v))
call_picked flags neither call v h = grind (arith, common_steps, picked, more_made)

visited_call : (flags : Flags) → (flags.multi ≡ true → flags.partial ≡ true → ⊥) → (t : ℕ) (args : SiteTerms) (v : Visit) → AllPicked v → AllPicked (visit_call flags t args v).visit
visited_call flags neither t args v h = grind (arith, common_steps, call_picked)

visited_term : (k : Kind) → ((flags_of k).multi ≡ true → (flags_of k).partial ≡ true → ⊥) → (t : ℕ) (a : ValuedAll) → AllPicked a.visit → AllPicked (visit_term k t a).visit
visited_term (a_variant ty variant) neither t a h = more_made (variant_made ty variant a.sites ∷ []) a.visit h
visited_term (a_struct ty) neither t a h = more_made (struct_made ty a.sites ∷ []) a.visit h
visited_term (a_call flags infallible) neither t a h = visited_call flags neither t a.sites a.visit h
visited_term unknown neither t a h = h

rule_picked : (p : Program) → HasNoPartialMulti p → (r : TypedRule) → AllPicked (visit_rule p r).visit
rule_picked p neither r =
    rule_kept p AllPicked
    (record { bound = λ x s v h. h; equal = equal_picked; asked = λ s c v h. h; counted = λ c v h. h; opened = λ t s args v h. term_opened (kind p t) t s args v h })
    (record { bound = λ x s v h. h; made = more_made; valued = λ t a h. visited_term (kind p t) (neither t) t a h })
    r (λ call i. absurd i)

-- 2. no site that is made is lost
abbrev Keeps : List SiteTerm → List SiteTerm → Type 0
Keeps ts us = (k : ℕ) (u : SiteTerm) → slice_get ts k ≡ Some u → slice_get us k ≡ Some u

with_keeps : (ts xs : List SiteTerm) → Keeps ts (with_sites ts xs)
with_keeps ts [] k u e = e
with_keeps ts (x ∷ xs) k u e = grind (arith, common_steps, with_keeps (if has_site ts x then ts else ts ++ x ∷ []) xs k u, get_front)

closing_keeps_made : (before : List SiteTerm) (r : Program) (q : TypedRule) → Keeps (with_sites before (demands_of r q).made) (closed before (demands_of r q)).made
closing_keeps_made before r q k u e =
    closing_keeps (λ (c : Closed). slice_get c.made k ≡ Some u)
    (λ c h d n. with_keeps c.made (flat_map (field_terms d.1) (ascending c.made (class_at c.classes d.0))) k u h) most_closing_steps (before_closing before (demands_of r q)) e

taken_keeps : (n : ℕ) (ts : List SiteTerm) (k : ℕ) (u : SiteTerm) → k < n → slice_get ts k ≡ Some u → slice_get (take n ts) k ≡ Some u
taken_keeps zero ts k u l e = absurd (omega arith)
taken_keeps (suc n) [] k u l e = e
taken_keeps (suc n) (t ∷ ts) zero u l e = e
taken_keeps (suc n) (t ∷ ts) (suc k) u l e = taken_keeps n ts k u (omega arith) e

few_taken : (n : ℕ) (ts : List SiteTerm) → length (take n ts) ≤ n
few_taken zero ts = omega arith
few_taken (suc n) [] = omega arith
few_taken (suc n) (t ∷ ts) = let l = few_taken n ts in omega arith

module _ (p : Program) where
  reached_keeps : (before : List SiteTerm) (r : TypedRule) → Keeps before (sites_reached p before r)
  reached_keeps before r k u e = of (passed_in_visit p r)
    where
      wanted : (q : Bool) → slice_get (if q then with_sites before (demands_of p r).made else (closed before (demands_of p r)).made) k ≡ Some u
      wanted true = with_keeps before (demands_of p r).made k u e
      wanted false = closing_keeps_made before p r k u (with_keeps before (demands_of p r).made k u e)

      of : (o : Option (RuleLimit × ℕ)) → slice_get (sites_until p before r o) k ≡ Some u
      of (Some passed) = with_keeps before (take passed.1 (demands_of p r).made) k u e
      of None = wanted (is_unreachable (demands_of p r))

  rule_keeps : (before : List SiteTerm) (r : TypedRule) → length before ≤ most_sites → Keeps before (sites_after_rule p before r)
  rule_keeps before r l k u e =
      let w = slice_get_within before k u e in
      taken_keeps most_sites (sites_reached p before r) k u (omega (arith, l, w)) (reached_keeps before r k u e)

  rules_keep : (before : List SiteTerm) (rs : List TypedRule) → length before ≤ most_sites → Keeps before (sites_after_rules p before rs)
  rules_keep before [] l k u e = e
  rules_keep before (r ∷ rs) l k u e = rules_keep (sites_after_rule p before r) rs (few_taken most_sites (sites_reached p before r)) k u (rule_keeps before r l k u e)

  -- what the visit of a built rule makes has a number
  made_numbered : (before : List SiteTerm) (r : TypedRule) → is_built p before r ≡ true → (u : SiteTerm) → In (demands_of p r).made u → (k : ℕ) × (slice_get (sites_after_rule p before r) k ≡ Some u)
  made_numbered before r b u i =
      let all = (closed before (demands_of p r)).made in
      let at = slice_in (with_sites before (demands_of p r).made) u (in_with_sites before (demands_of p r).made u (inr i)) in
      let e = closing_keeps_made before p r at.0 u at.1 in
      let l = few_made p before r b in
      let w = slice_get_within all at.0 u e in
      (at.0, taken_keeps most_sites (sites_reached p before r) at.0 u (omega (arith, l, w)) (ap (λ ts. slice_get ts at.0) (reached_closed p before r b) ∙ e))

  all_numbered : (before : List SiteTerm) (rs : List TypedRule) (b : BuiltRule) → In (built_from p before rs) b → (u : SiteTerm) → In (demands_of p b.rule).made u → (k : ℕ) × (slice_get (sites_after_rules p before rs) k ≡ Some u)
  all_numbered before [] b i u m = absurd i
  all_numbered before (r ∷ rs) b i u m =
      elim (in_either (if is_built p before r then built_rule p before r ∷ [] else []) (built_from p (sites_after_rule p before r) rs) b i) [
        | inl j ↦ here (is_built p before r) refl j
        | inr j ↦ all_numbered (sites_after_rule p before r) rs b j u m
      ]
    where
      here : (q : Bool) → is_built p before r ≡ q → In (if q then built_rule p before r ∷ [] else []) b → (k : ℕ) × (slice_get (sites_after_rules p (sites_after_rule p before r) rs) k ≡ Some u)
      here true e (inl s) =
          let n = made_numbered before r e u (subst (λ (x : BuiltRule). In (demands_of p x.rule).made u) (sym s) m) in
          (n.0, rules_keep (sites_after_rule p before r) rs (few_taken most_sites (sites_reached p before r)) n.0 u n.1)
      here true e (inr n) = absurd n
      here false e j = absurd j

-- 3. in a set
abbrev Picks : Option Site → ℕ → Type 0
Picks o s = o ≡ Some (iterator_site s)

module _ (set : SiteSet) (built : IsBuiltForSome set) where
  abbrev program : Program
  program = program_of built.types built.defs built.rules.rules

  -- a site that stands for a pick of a call's answers is an iterator of it
  is_pick : (s k : ℕ) → s < length set.sites → unfold_site set.sites k ≡ pick_of (unfold_site set.sites s) → slice_get set.sites k ≡ Some (iterator_site s)
  is_pick s k l e = of (slice_get set.sites k) refl (sym (unfolds set.sites built.built.sources k) ∙ e)
    where
      of : (o : Option Site) → slice_get set.sites k ≡ o → layer_at (unfold_site set.sites) o ≡ pick_of (unfold_site set.sites s) → slice_get set.sites k ≡ Some (iterator_site s)
      of None q h = absurd cc
      of (Some (iterator_site a)) q h =
          let under : a < k = built.built.sources k a (subst (λ o. Contains (elim o as (λ _. List ℕ) [ None ↦ [] | Some b ↦ sources_of b ]) a) (sym q) (0, omega arith, refl)) in
          let within = slice_get_within set.sites k (iterator_site a) q in
          let same : unfold_site set.sites a ≡ unfold_site set.sites s = cc in
          q ∙ ap (λ x. Some (iterator_site x)) (one_number program built.term set built.built a s (omega (arith, under, within)) l same)
      of (Some (bool_site b ty)) q h = absurd cc
      of (Some (int_site z ty)) q h = absurd cc
      of (Some (prim_site name)) q h = absurd cc
      of (Some (argument_site i)) q h = absurd cc
      of (Some (extractor_site term source)) q h = absurd cc
      of (Some (constructor_site term sources instance)) q h = absurd cc
      of (Some (make_variant_site ty variant fields)) q h = absurd cc
      of (Some (match_variant_site source variant field)) q h = absurd cc
      of (Some (make_struct_site ty fields)) q h = absurd cc
      of (Some (extract_struct_site source field)) q h = absurd cc
      of (Some (make_some_site source)) q h = absurd cc
      of (Some (match_some_site source)) q h = absurd cc
      of (Some (match_tuple_site source field)) q h = absurd cc

  pub picks_are_made : (r : SetRule) (s : ℕ) → Contains set.rules r → Contains r.iterators s → (k : ℕ) × (slice_get set.sites k ≡ Some (iterator_site s))
  picks_are_made r s c g =
      let a = rule_at program set.sites (built_rules program built.term) set.rules built.built.rules r (in_from_contains set.rules r c) in
      let call = a.2.iterators.gone_over s g in
      let made = rule_picked program ((elaborated_programs_are_well_typed_lem built.types built.defs built.expand built.rules built.elaborated).not_both) a.0.rule (unfold_site set.sites s) (in_from_contains (demands_of program a.0.rule).iterators (unfold_site set.sites s) call.1) in
      let n = all_numbered program [] (rules_of program built.term) a.0 a.1 (pick_of (unfold_site set.sites s)) made in
      let within = slice_get_within (sites_after_rules program [] (rules_of program built.term)) n.0 (pick_of (unfold_site set.sites s)) n.1 in
      let count = built.built.sites.count in
      let l : n.0 < length set.sites = omega (arith, within, count) in
      let exact = built.built.sites.exact n.0 l in
      (n.0, is_pick s n.0 call.0 (same_Some (unfold_site set.sites n.0) (pick_of (unfold_site set.sites s)) (sym exact ∙ n.1)))
