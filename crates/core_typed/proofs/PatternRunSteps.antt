-- A pattern's run: what is bound after it, and how it is made of the runs of its parts.
use Rattle.std.proofs.Common.{◌≡◌, true≢false, ℕ, suc, ◌+◌, ◌<◌, IsTrue, length, get_or, drop, inl, inr, ⊎_elim, List, [], ◌∷◌, Result, Ok, Err, is_ok, refl, sym, ap, ◌∙◌, arith}
use Rattle.std.specs.Result.{IsErr, IsErrAnd}
use Rattle.std.proofs.lemmas.Bool.{and_parts}
use Rattle.std.proofs.lemmas.List.{drop_more, length-map}
use Rattle.std.proofs.lemmas.Grind.{common_steps}
use Rattle.core_types.specs.declared.ids.TypeId.{TypeId}
use Rattle.model.specs.lists.Tables.{TermEntry}
use Rattle.model.specs.rules.Typed.{TypedPattern, match_bind, match_var, match_bool, match_int, match_prim, match_term, match_any, match_and, TypedPatterns, no_typed_pattern, typed_pattern_and}
use Rattle.model.specs.trees.Places.{is_in}
use Rattle.core_typed.specs.declared.patterns.Pattern.{Pattern}
use Rattle.core_syntax.specs.declared.visit_fault.VisitFault.{VisitFault}
use Rattle.model.specs.visits.Visitors.{PatternSteps}
use Rattle.core_typed.specs.PatternViews.{pattern_view, pattern_views, pattern_parts}
use Rattle.model.specs.visits.PatternRuns.{part_types, PatternRun, PartsRun, EachRun}
use Rattle.core_typed.specs.VisitAnswers.{type_numbers}
use Rattle.model.specs.lists.Visitable.{bound_after, bound_after_parts, is_visitable_pattern, are_visitable_parts}
use Rattle.model.specs.visits.Runs.{BoundIds, bound_vars}
use Rattle.core_typed.specs.VisitorSteps.{no_memory}
use Rattle.core_typed.proofs.BoundVars.{SameVars, bound_with, after_same, parts_after_same, parts_same}

-- what `?` hands on
pub err_is : {A : Type 0} (r : Result A VisitFault) (e : VisitFault) → IsErr r × IsErrAnd r (λ y. y ≡ e) → r ≡ Err e
err_is r e h = grind (arith, common_steps)

module _ {S P : Type 0} (v : PatternSteps VisitFault S P) (terms : List TermEntry) where
  kept : (t s : S × BoundIds P) → t.1 ≡ s.1 → SameVars (bound_vars t.1) (bound_vars s.1)
  kept t s h = λ y. ap (λ vs. is_in y (bound_vars vs)) h

  mutual
    -- the variables that are bound after the visit of a pattern
    pub run_binds : (q : TypedPattern) (input : P) (s : S × BoundIds P) (a : Unit {0}) (t : S × BoundIds P) → PatternRun no_memory v terms q input s (Ok a) t → SameVars (bound_vars t.1) (bound_after q (bound_vars s.1))
    run_binds (match_bind ty x of) input s a t h =
        ⊎_elim
        (λ p. grind (arith, common_steps, run_binds of input p.1 a t p.3, after_same, bound_with))
        (λ e. absurd (true≢false (ap is_ok e.2)))
        h
    run_binds (match_var ty x) input s a t h = ⊎_elim (λ p. kept t s (p.3.1 ∙ p.2.0.2.1)) (λ e. absurd (true≢false (ap is_ok e.2))) h
    run_binds (match_bool ty b) input s a t h = kept t s h.1
    run_binds (match_int ty z) input s a t h = kept t s h.1
    run_binds (match_prim ty name) input s a t h = kept t s h.1
    run_binds (match_term ty term args) input s a t h = grind (arith, common_steps, parts_bind args)
    run_binds (match_any ty) input s a t h = kept t s (ap (λ (z : S × BoundIds P). z.1) h.1)
    run_binds (match_and ty parts) input s a t h = each_bind parts input s a t h

    pub parts_bind : (qs : TypedPatterns) (ids : List P) (s : S × BoundIds P) (a : Unit {0}) (t : S × BoundIds P) → PartsRun no_memory v terms qs ids s (Ok a) t → SameVars (bound_vars t.1) (bound_after_parts qs (bound_vars s.1))
    parts_bind no_typed_pattern [] s a t h = kept t s (ap (λ (z : S × BoundIds P). z.1) h.1)
    parts_bind (typed_pattern_and q rest) (id ∷ ids) s a t h =
        ⊎_elim (λ p. λ y. parts_bind rest ids p.1 a t p.3 y ∙ parts_after_same rest (bound_vars p.1.1) (bound_after q (bound_vars s.1)) (run_binds q id s p.0 p.1 p.2) y) (λ e. absurd (true≢false (ap is_ok e.2))) h
    parts_bind _ _ s a t h = absurd h

    pub each_bind : (qs : TypedPatterns) (input : P) (s : S × BoundIds P) (a : Unit {0}) (t : S × BoundIds P) → EachRun no_memory v terms qs input s (Ok a) t → SameVars (bound_vars t.1) (bound_after_parts qs (bound_vars s.1))
    each_bind no_typed_pattern input s a t h = kept t s (ap (λ (z : S × BoundIds P). z.1) h.1)
    each_bind (typed_pattern_and q rest) input s a t h =
        ⊎_elim (λ p. λ y. each_bind rest input p.1 a t p.3 y ∙ parts_after_same rest (bound_vars p.1.1) (bound_after q (bound_vars s.1)) (run_binds q input s p.0 p.1 p.2) y) (λ e. absurd (true≢false (ap is_ok e.2))) h

  -- one part of several, and the rest
  pub parts_step : (ps : List Pattern) (ids : List P) (i : ℕ) (d : Pattern) (y : P) (s u : S × BoundIds P) (r : Result (Unit {0}) VisitFault) (t : S × BoundIds P) →
      i < length ps → i < length ids → PatternRun no_memory v terms (pattern_view (get_or ps i d)) (get_or ids i y) s (Ok tt) u →
      PartsRun no_memory v terms (pattern_parts (pattern_views (drop (i + 1) ps))) (drop (i + 1) ids) u r t → PartsRun no_memory v terms (pattern_parts (pattern_views (drop i ps))) (drop i ids) s r t
  parts_step ps ids i d y s u r t lt lt' first rest =
      rw (drop_more ps i d lt, drop_more ids i y lt') (inl (tt, u, first, rest))

  pub parts_stop : (ps : List Pattern) (ids : List P) (i : ℕ) (d : Pattern) (y : P) (s : S × BoundIds P) (e : VisitFault) (t : S × BoundIds P) →
      i < length ps → i < length ids → PatternRun no_memory v terms (pattern_view (get_or ps i d)) (get_or ids i y) s (Err e) t →
      PartsRun no_memory v terms (pattern_parts (pattern_views (drop i ps))) (drop i ids) s (Err e) t
  parts_stop ps ids i d y s e t lt lt' first = rw (drop_more ps i d lt, drop_more ids i y lt') (inr (e, first, refl))

  pub each_step : (ps : List Pattern) (i : ℕ) (d : Pattern) (x : P) (s u : S × BoundIds P) (r : Result (Unit {0}) VisitFault) (t : S × BoundIds P) →
      i < length ps → PatternRun no_memory v terms (pattern_view (get_or ps i d)) x s (Ok tt) u → EachRun no_memory v terms (pattern_parts (pattern_views (drop (i + 1) ps))) x u r t →
      EachRun no_memory v terms (pattern_parts (pattern_views (drop i ps))) x s r t
  each_step ps i d x s u r t lt first rest =
      rw (drop_more ps i d lt) (inl (tt, u, first, rest))

  pub each_stop : (ps : List Pattern) (i : ℕ) (d : Pattern) (x : P) (s : S × BoundIds P) (e : VisitFault) (t : S × BoundIds P) →
      i < length ps → PatternRun no_memory v terms (pattern_view (get_or ps i d)) x s (Err e) t → EachRun no_memory v terms (pattern_parts (pattern_views (drop i ps))) x s (Err e) t
  each_stop ps i d x s e t lt first = rw (drop_more ps i d lt) (inr (e, first, refl))

-- the next of several patterns can be visited
pub next_visitable : (terms : List TermEntry) (ps : List Pattern) (i : ℕ) (d : Pattern) (ks : List ℕ) → i < length ps →
    IsTrue (are_visitable_parts terms (pattern_parts (pattern_views (drop i ps))) ks) → IsTrue (is_visitable_pattern terms (pattern_view (get_or ps i d)) ks)
next_visitable terms ps i d ks lt h = grind (arith, common_steps, and_parts, drop_more)

-- and after it those that follow
pub rest_visitable : (terms : List TermEntry) (ps : List Pattern) (i : ℕ) (d : Pattern) (ks ls : List ℕ) → i < length ps →
    IsTrue (are_visitable_parts terms (pattern_parts (pattern_views (drop i ps))) ks) → SameVars ls (bound_after (pattern_view (get_or ps i d)) ks) →
    IsTrue (are_visitable_parts terms (pattern_parts (pattern_views (drop (i + 1) ps))) ls)
rest_visitable terms ps i d ks ls lt h same = grind (arith, common_steps, and_parts, drop_more, parts_same)

pub types_count : (tys : List TypeId) (ps : List Pattern) → type_numbers tys ≡ part_types (pattern_parts (pattern_views ps)) → length tys ≡ length ps
types_count tys ps h = sym (length-map tys (λ (ty : TypeId). ty.0)) ∙ ap length h ∙ count ps
  where
    count : (qs : List Pattern) → length (part_types (pattern_parts (pattern_views qs))) ≡ length qs
    count [] = refl
    count (q ∷ qs) = ap suc (count qs)
