-- The visits of the forms of patterns that have parts, from the forms as the code has them: what is asked of the parts, and
-- how the whole run is made.
use Rattle.std.proofs.Common.{◌≡◌, ℕ, suc, IsTrue, length, inl, inr, List, [], ◌∷◌, Some, Result, Ok, Err, Vec, Box, slice_get, refl, sym, ap, ◌∙◌, subst, arith}
use Rattle.std.specs.declared.alloc.Global.{Global}
use Rattle.std.proofs.lemmas.Bool.{and_parts}
use Rattle.std.proofs.lemmas.Grind.{common_steps}
use Rattle.core_types.specs.declared.ids.TypeId.{TypeId}
use Rattle.core_types.specs.declared.ids.TermId.{TermId}
use Rattle.core_types.specs.declared.ids.VarId.{VarId}
use Rattle.model.specs.lists.Tables.{TermEntry}
use Rattle.model.specs.rules.Typed.{match_bind, match_term, match_and}
use Rattle.model.specs.visits.Demands.{pattern_count}
use Rattle.core_typed.specs.declared.patterns.Pattern.{Pattern, BindPattern, Var, Term, And}
use Rattle.core_syntax.specs.declared.visit_fault.VisitFault.{VisitFault}
use Rattle.model.specs.visits.Visitors.{PatternSteps}
use Rattle.core_typed.specs.PatternViews.{pattern_view, pattern_views, pattern_parts}
use Rattle.model.specs.visits.PatternRuns.{part_types, Opens, PatternRun, PartsRun, EachRun}
use Rattle.model.specs.lists.Visitable.{is_visitable_pattern, are_visitable_parts, opens_into}
use Rattle.model.specs.visits.Runs.{BoundIds, binds, bound_at, bound_vars}
use Rattle.core_typed.specs.VisitorSteps.{no_memory}
use Rattle.core_typed.proofs.BoundVars.{bound_with, pattern_same}
use Rattle.core_typed.proofs.PatternBridges.{view-Term, view-And}

-- the form of a term, of several patterns, of a pattern beneath a variable
pub seen_term : (q : Pattern) (ty : TypeId) (term : TermId) (parts : Vec Pattern Global) (ps : List Pattern) → q ≡ Term ty term parts → ps ≡ parts.items → pattern_view q ≡ match_term ty.0 term.0 (pattern_parts (pattern_views ps))
seen_term q ty term parts ps e f = ap pattern_view e ∙ view-Term ty term parts ∙ ap (λ zs. match_term ty.0 term.0 (pattern_parts (pattern_views zs))) (sym f)

pub seen_and : (q : Pattern) (ty : TypeId) (parts : Vec Pattern Global) (ps : List Pattern) → q ≡ And ty parts → ps ≡ parts.items → pattern_view q ≡ match_and ty.0 (pattern_parts (pattern_views ps))
seen_and q ty parts ps e f = ap pattern_view e ∙ view-And ty parts ∙ ap (λ zs. match_and ty.0 (pattern_parts (pattern_views zs))) (sym f)

pub seen_bind : (q : Pattern) (ty : TypeId) (x : VarId) (of : Box Pattern Global) (sub : Pattern) → q ≡ BindPattern ty x of → sub ≡ of.value → pattern_view q ≡ match_bind ty.0 x.0 (pattern_view sub)
seen_bind q ty x of sub e f = ap pattern_view e ∙ ap (λ z. match_bind ty.0 x.0 (pattern_view z)) (sym f)

part_count : (ps : List Pattern) → pattern_count (pattern_parts (pattern_views ps)) ≡ length ps
part_count [] = refl
part_count (p ∷ ps) = ap suc (part_count ps)

module _ (terms : List TermEntry) where
  both_asked : (q : Pattern) (ty : TypeId) (term : TermId) (parts : Vec Pattern Global) (ps : List Pattern) (ks : List ℕ) → q ≡ Term ty term parts → ps ≡ parts.items →
      IsTrue (is_visitable_pattern terms (pattern_view q) ks) → IsTrue (opens_into terms term.0 (pattern_count (pattern_parts (pattern_views ps)))) × IsTrue (are_visitable_parts terms (pattern_parts (pattern_views ps)) ks)
  both_asked q ty term parts ps ks e f h = and_parts _ _ (subst (λ z. IsTrue (is_visitable_pattern terms z ks)) (seen_term q ty term parts ps e f) h)

  pub opens_term : (q : Pattern) (ty : TypeId) (term : TermId) (parts : Vec Pattern Global) (ps : List Pattern) (ks : List ℕ) → q ≡ Term ty term parts → ps ≡ parts.items →
      IsTrue (is_visitable_pattern terms (pattern_view q) ks) → IsTrue (opens_into terms term.0 (length ps))
  opens_term q ty term parts ps ks e f h = subst (λ n. IsTrue (opens_into terms term.0 n)) (part_count ps) (both_asked q ty term parts ps ks e f h).0

  pub asks_term : (q : Pattern) (ty : TypeId) (term : TermId) (parts : Vec Pattern Global) (ps : List Pattern) (ks : List ℕ) → q ≡ Term ty term parts → ps ≡ parts.items →
      IsTrue (is_visitable_pattern terms (pattern_view q) ks) → IsTrue (are_visitable_parts terms (pattern_parts (pattern_views ps)) ks)
  asks_term q ty term parts ps ks e f h = (both_asked q ty term parts ps ks e f h).1

  pub asks_and : (q : Pattern) (ty : TypeId) (parts : Vec Pattern Global) (ps : List Pattern) (ks : List ℕ) → q ≡ And ty parts → ps ≡ parts.items →
      IsTrue (is_visitable_pattern terms (pattern_view q) ks) → IsTrue (are_visitable_parts terms (pattern_parts (pattern_views ps)) ks)
  asks_and q ty parts ps ks e f h = subst (λ z. IsTrue (is_visitable_pattern terms z ks)) (seen_and q ty parts ps e f) h

  pub asks_bind : {P : Type 0} (q : Pattern) (ty : TypeId) (x : VarId) (of : Box Pattern Global) (sub : Pattern) (vs ws : BoundIds P) (input : P) (a : Unit {0}) → q ≡ BindPattern ty x of → sub ≡ of.value →
      binds no_memory x.0 input vs (Ok a) ws → IsTrue (is_visitable_pattern terms (pattern_view q) (bound_vars vs)) → IsTrue (is_visitable_pattern terms (pattern_view sub) (bound_vars ws))
  asks_bind q ty x of sub vs ws input a e f b h = grind (arith, common_steps, and_parts, seen_bind, pattern_same, bound_with)

module _ {S P : Type 0} (v : PatternSteps VisitFault S P) (terms : List TermEntry) where
  pub runs_term : (q : Pattern) (ty : TypeId) (term : TermId) (parts : Vec Pattern Global) (ps : List Pattern) (input : P) (ids : List P) (s u : S) (vs : BoundIds P) (r : Result (Unit {0}) VisitFault) (t : S × BoundIds P) →
      q ≡ Term ty term parts → ps ≡ parts.items → Opens no_memory v ty.0 term.0 (part_types (pattern_parts (pattern_views ps))) input (slice_get terms term.0) s (Ok ids) u →
      PartsRun no_memory v terms (pattern_parts (pattern_views ps)) ids (u, vs) r t → PatternRun no_memory v terms (pattern_view q) input (s, vs) r t
  runs_term q ty term parts ps input ids s u vs r t e f first rest = rw (seen_term q ty term parts ps e f) (inl (ids, (u, vs), (first, refl), rest))

  pub stops_term : (q : Pattern) (ty : TypeId) (term : TermId) (parts : Vec Pattern Global) (ps : List Pattern) (input : P) (s u : S) (vs : BoundIds P) (fault : VisitFault) →
      q ≡ Term ty term parts → ps ≡ parts.items → Opens no_memory v ty.0 term.0 (part_types (pattern_parts (pattern_views ps))) input (slice_get terms term.0) s (Err fault) u →
      PatternRun no_memory v terms (pattern_view q) input (s, vs) (Err fault) (u, vs)
  stops_term q ty term parts ps input s u vs fault e f first = rw (seen_term q ty term parts ps e f) (inr (fault, (first, refl), refl))

  pub runs_and : (q : Pattern) (ty : TypeId) (parts : Vec Pattern Global) (ps : List Pattern) (input : P) (s : S × BoundIds P) (r : Result (Unit {0}) VisitFault) (t : S × BoundIds P) →
      q ≡ And ty parts → ps ≡ parts.items → EachRun no_memory v terms (pattern_parts (pattern_views ps)) input s r t → PatternRun no_memory v terms (pattern_view q) input s r t
  runs_and q ty parts ps input s r t e f h = rw (seen_and q ty parts ps e f) h

  pub runs_bind : (q : Pattern) (ty : TypeId) (x : VarId) (of : Box Pattern Global) (sub : Pattern) (input : P) (s : S) (vs ws : BoundIds P) (a : Unit {0}) (r : Result (Unit {0}) VisitFault) (t : S × BoundIds P) →
      q ≡ BindPattern ty x of → sub ≡ of.value → binds no_memory x.0 input vs (Ok a) ws → PatternRun no_memory v terms (pattern_view sub) input (s, ws) r t → PatternRun no_memory v terms (pattern_view q) input (s, vs) r t
  runs_bind q ty x of sub input s vs ws a r t e f b h = rw (seen_bind q ty x of sub e f) (inl (a, (s, ws), (b, refl), h))

  pub runs_var : (q : Pattern) (ty : TypeId) (x : VarId) (input id : P) (s t : S) (vs : BoundIds P) (r : Result (Unit {0}) VisitFault) →
      q ≡ Var ty x → bound_at vs x.0 ≡ Some id → v.match_equal_steps s input id ty.0 r t → PatternRun no_memory v terms (pattern_view q) input (s, vs) r (t, vs)
  runs_var q ty x input id s t vs r e at h = rw e (inl (id, (s, vs), ((id, at, (refl, refl)), refl), (h, refl)))
