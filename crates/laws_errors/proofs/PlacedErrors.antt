-- Where what is wrong stands, by what a step is made of.
use Rattle.std.proofs.Common.{◌≡◌, ℕ, zero, suc, ◌+◌, Bool, true, false, cond, eqb, nat_le, List, [], ◌∷◌, ◌++◌, Option, Some, None, option_map, slice_get, subst, refl, arith}
use Rattle.std.proofs.lemmas.Grind.{common_steps}
use Rattle.std.specs.Prelude.{Contains}
use Rattle.std.proofs.lemmas.Option.{same_Some}
use Rattle.model.specs.lists.Syntax.{Position, Name, PatternTree, bind_pattern, term_pattern, and_pattern, PatternTrees, no_pattern, pattern_and, pattern_list}
use Rattle.model.specs.rules.Typed.{TypedPattern, match_and}
use Rattle.model.specs.lists.Tables.{TermEntry}
use Rattle.model.specs.lists.Setting.{Setting, Scope, term_of, template_in, pattern_converter}
use Rattle.model.specs.lists.Expansions.{with_pattern, substituted, all_substituted, wrapped_pattern}
use Rattle.model.specs.lists.Elaborated.{most_expansions}
use Rattle.model.specs.claims.Refusals.{of_expansions}
use Rattle.laws_errors.specs.Steps.{Why, extractor_type, Mistake, Step, stopped, unless, noting, made_step, counted_step, joined_step, then_step}
use Rattle.laws_errors.specs.PatternSteps.{bind_step, with_part, template_step, use_step, converted_step, found_step, pattern_step, parts_step, each_step, deeper_step}
use Rattle.laws_errors.specs.PlaceLaws.{StandsAt, StandAt, AreAt, wrong_of, TemplatesStandAt, PatternErrorsArePlaced}

module _ (P : Position → Type 0) where
  pub both_at : (ws es : List Mistake) → AreAt P ws → AreAt P es → AreAt P (ws ++ es)
  both_at [] es h k = k
  both_at (w ∷ ws) es h k = (h.0, both_at ws es h.1 k)

  pub checked_at : (b : Bool) (why : Why) (at : Position) → P at → AreAt P (unless b why at)
  checked_at b why at h = grind (arith, common_steps)

  pub noting_at : {X : Type 0} (ws : List Mistake) (t : Step X) → AreAt P ws → AreAt P (wrong_of t) → AreAt P (wrong_of (noting ws t))
  noting_at ws t h i = grind (arith, common_steps, both_at)

  pub checked_step_at : {X : Type 0} (b : Bool) (why : Why) (at : Position) (t : Step X) → P at → AreAt P (wrong_of t) → AreAt P (wrong_of (noting (unless b why at) t))
  checked_step_at b why at t h i = noting_at (unless b why at) t (checked_at b why at h) i

  pub made_at : {X Y : Type 0} (f : X → Y) (t : Step X) → AreAt P (wrong_of t) → AreAt P (wrong_of (made_step f t))
  made_at f t h = grind (arith, common_steps)

  pub counted_at : {X : Type 0} (t : Step X) → AreAt P (wrong_of t) → AreAt P (wrong_of (counted_step t))
  counted_at t h = grind (arith, common_steps)

  pub joined_at : {X Y Z : Type 0} (g : Option X → Y → Z) (m : Option X) (k : ℕ) (t : Step Y) → AreAt P (wrong_of t) → AreAt P (wrong_of (joined_step g m k t))
  joined_at g m k t h = grind (arith, common_steps)

  pub in_order_at : {X Y Z : Type 0} (g : Option X → Y → Z) (t : Step X) (next : Option X → Scope → ℕ → Step Y) → AreAt P (wrong_of t)
      → ((m : Option X) (s : Scope) (k : ℕ) → AreAt P (wrong_of (next m s k))) → AreAt P (wrong_of (then_step g t next))
  in_order_at g t next h r = grind (arith, common_steps, noting_at, joined_at)

  bind_at : (x : List ℕ) (at : Position) (t : Step TypedPattern) → P at → AreAt P (wrong_of t) → AreAt P (wrong_of (bind_step x at t))
  bind_at x at t h i = grind (arith, common_steps, both_at, checked_at)

  -- one of these patterns
  nth_at : (ps : PatternTrees) (i : ℕ) (p : PatternTree) → StandAt P ps → slice_get (pattern_list ps) i ≡ Some p → StandsAt P p
  nth_at (pattern_and q rest) (suc i) p h g = nth_at rest i p h.1 g
  nth_at ps i p h g = grind (arith, common_steps)

  -- a template with patterns in the place of its arguments
  module _ (args : PatternTrees) (given : StandAt P args) where
    both_stand : (o : Option PatternTree) (os : Option PatternTrees) (ps : PatternTrees)
        → ((p : PatternTree) → o ≡ Some p → StandsAt P p) → ((qs : PatternTrees) → os ≡ Some qs → StandAt P qs) → with_pattern o os ≡ Some ps → StandAt P ps
    both_stand o os ps h i g = grind (arith, common_steps)

    bound_under : (name : Name) (at : Position) → P at → (o : Option PatternTree) (p : PatternTree) → ((q : PatternTree) → o ≡ Some q → StandsAt P q) → option_map (λ q. bind_pattern name q at) o ≡ Some p → StandsAt P p
    bound_under name at h p q f g = grind (arith, common_steps)

    term_under : (name : Name) (at : Position) → P at → (o : Option PatternTrees) (p : PatternTree) → ((qs : PatternTrees) → o ≡ Some qs → StandAt P qs) → option_map (λ qs. term_pattern name qs at) o ≡ Some p → StandsAt P p
    term_under name at h p qs f g = grind (arith, common_steps)

    and_under : (at : Position) → P at → (o : Option PatternTrees) (p : PatternTree) → ((qs : PatternTrees) → o ≡ Some qs → StandAt P qs) → option_map (λ qs. and_pattern qs at) o ≡ Some p → StandsAt P p
    and_under at h p qs f g = grind (arith, common_steps)

    mutual
      put_at : (template p : PatternTree) → StandsAt P template → substituted (pattern_list args) template ≡ Some p → StandsAt P p
      put_at (bind_pattern name of at) p h g = grind (arith, common_steps, put_at of, bound_under)
      put_at (term_pattern name ps at) p h g = grind (arith, common_steps, all_put_at ps, term_under)
      put_at (and_pattern ps at) p h g = grind (arith, common_steps, all_put_at ps, and_under)
      put_at template p h g = grind (arith, common_steps, nth_at, same_Some)

      all_put_at : (templates ps : PatternTrees) → StandAt P templates → all_substituted (pattern_list args) templates ≡ Some ps → StandAt P ps
      all_put_at (pattern_and q rest) ps h g = grind (arith, common_steps, put_at q, all_put_at rest, both_stand)
      all_put_at no_pattern ps h g = subst (StandAt P) (same_Some _ _ g) h

  module _ (e : Setting) (multi : Bool) (templates : TemplatesStandAt e P) (d : ℕ)
      (deeper : (p : PatternTree) (ty n : ℕ) (s : Scope) → StandsAt P p → AreAt P (wrong_of (deeper_step e multi d p ty n s))) where
    -- the arguments of a term, at any types
    abbrev ArePartsAt : PatternTrees → ℕ → Scope → Type 0
    ArePartsAt args n s = (tys : List ℕ) → AreAt P (wrong_of (parts_step e multi (deeper_step e multi d) args tys n s))

    template_at : (x : List ℕ) (args : PatternTrees) (at : Position) (ty n : ℕ) (s : Scope) (template : PatternTree) → P at → StandAt P args → StandsAt P template → (o : Option PatternTree)
        → substituted (pattern_list args) template ≡ o → AreAt P (wrong_of (template_step (deeper_step e multi d) ty n s o))
    template_at x args at ty n s template here given whole h i = grind (arith, common_steps, put_at)

    used_at : (name : Name) (args : PatternTrees) (at : Position) (ty n : ℕ) (s : Scope) (t : TermEntry) → P at → StandAt P args → ArePartsAt args n s → (o : Option PatternTree)
        → ((template : PatternTree) → o ≡ Some template → StandsAt P template)
        → AreAt P (wrong_of (use_step multi (deeper_step e multi d) name args at ty n s t (λ tys. parts_step e multi (deeper_step e multi d) args tys n s) o))
    used_at name args at ty n s t here given parts (Some template) whole = grind (arith, common_steps, checked_step_at, template_at, whole template refl)
    used_at name args at ty n s t here given parts None whole = grind (arith, common_steps, checked_step_at, made_at, parts t.arg_tys)

    found_at : (name : Name) (args : PatternTrees) (at : Position) (ty n : ℕ) (s : Scope) → P at → StandAt P args → ArePartsAt args n s → (o : Option TermEntry) → term_of e s name.text ≡ o
        → AreAt P (wrong_of (found_step e multi (deeper_step e multi d) name args at ty n s (λ tys. parts_step e multi (deeper_step e multi d) args tys n s) o))
    found_at name args at ty n s here given parts None h = (here, tt)
    found_at name args at ty n s here given parts (Some t) h = elim (eqb t.ret_ty ty) as (λ b. AreAt P (wrong_of
        (cond b (use_step multi (deeper_step e multi d) name args at ty n s t (λ tys. parts_step e multi (deeper_step e multi d) args tys n s) (template_in e t.kind))
        (converted_step e multi (deeper_step e multi d) name args at ty n s t (λ tys. parts_step e multi (deeper_step e multi d) args tys n s) (pattern_converter e t.ret_ty ty))))) [
          | true ↦ used_at name args at ty n s t here given parts (template_in e t.kind) (λ template k. templates s name.text t template h k)
          | false ↦ converted_at (pattern_converter e t.ret_ty ty)
        ]
      where
        converted_at : (o : Option TermEntry) → AreAt P (wrong_of (converted_step e multi (deeper_step e multi d) name args at ty n s t (λ tys. parts_step e multi (deeper_step e multi d) args tys n s) o))
        converted_at (Some c) = deeper (wrapped_pattern s c at (term_pattern name args at)) ty n s (here, ((here, given), tt))
        converted_at None = checked_step_at false (extractor_type name.text ty t.ret_ty) at
            (use_step multi (deeper_step e multi d) name args at ty n s t (λ tys. parts_step e multi (deeper_step e multi d) args tys n s) (template_in e t.kind)) here (used_at name args at ty n s t here given parts (template_in e t.kind) (λ template k. templates s name.text t template h k))

    mutual
      pub placed : (p : PatternTree) (ty n : ℕ) (s : Scope) → StandsAt P p → AreAt P (wrong_of (pattern_step e multi (deeper_step e multi d) p ty n s))
      placed (bind_pattern name of at) ty n s h = bind_at name.text at (pattern_step e multi (deeper_step e multi d) of ty n s) h.0 (placed of ty n s h.1)
      placed (term_pattern name args at) ty n s h = found_at name args at ty n s h.0 h.1 (λ tys. parts_placed args tys n s h.1) (term_of e s name.text) refl
      placed (and_pattern parts at) ty n s h = made_at (match_and ty) (each_step e multi (deeper_step e multi d) parts ty n s) (each_placed parts ty n s h.1)
      placed p ty n s h = grind (arith, common_steps)

      pub parts_placed : (args : PatternTrees) (tys : List ℕ) (n : ℕ) (s : Scope) → StandAt P args → AreAt P (wrong_of (parts_step e multi (deeper_step e multi d) args tys n s))
      parts_placed (pattern_and p rest) (ty ∷ tys) n s h = grind (arith, common_steps, placed p ty n s h.0, parts_placed rest tys, in_order_at)
      parts_placed args tys n s h = grind (arith, common_steps)

      each_placed : (ps : PatternTrees) (ty n : ℕ) (s : Scope) → StandAt P ps → AreAt P (wrong_of (each_step e multi (deeper_step e multi d) ps ty n s))
      each_placed no_pattern ty n s h = tt
      each_placed (pattern_and p rest) ty n s h = in_order_at with_part (pattern_step e multi (deeper_step e multi d) p ty n s) (λ m t k. each_step e multi (deeper_step e multi d) rest ty (n + k) t) (placed p ty n s h.0) (λ m t k. each_placed rest ty (n + k) t h.1)

  -- what expansions make
  pub deeper_placed : (e : Setting) (multi : Bool) (templates : TemplatesStandAt e P) (d : ℕ) (p : PatternTree) (ty n : ℕ) (s : Scope) → StandsAt P p → AreAt P (wrong_of (deeper_step e multi d p ty n s))
  deeper_placed e multi templates zero p ty n s h = tt
  deeper_placed e multi templates (suc d) p ty n s h = elim (nat_le most_expansions n) as (λ b. AreAt P (wrong_of
      (cond b (stopped of_expansions s []) (counted_step (pattern_step e multi (deeper_step e multi d) p ty (suc n) s))))) [
        | true ↦ tt
        | false ↦ counted_at (pattern_step e multi (deeper_step e multi d) p ty (suc n) s) (placed e multi templates d (deeper_placed e multi templates d) p ty (suc n) s h)
      ]

pub pattern_errors_are_placed_lem : PatternErrorsArePlaced
pattern_errors_are_placed_lem ps e multi templates d p ty n s h = placed (Contains ps) e multi templates d (deeper_placed (Contains ps) e multi templates d) p ty n s h
