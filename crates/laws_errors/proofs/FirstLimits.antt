-- Which limit stops a step first, by what it is made of.
use Rattle.std.proofs.Common.{◌≡◌, ℕ, zero, suc, ◌+◌, Bool, true, false, cond, eqb, nat_le, List, [], ◌∷◌, length, Option, Some, None, refl, ap, ◌∙◌, arith}
use Rattle.std.proofs.lemmas.Grind.{common_steps}
use Rattle.model.specs.lists.Syntax.{Position, Name, PatternTree, bind_pattern, term_pattern, and_pattern, PatternTrees, no_pattern, pattern_and, pattern_list}
use Rattle.model.specs.rules.Outcome.{then_option}
use Rattle.model.specs.rules.Typed.{TypedPattern, match_and}
use Rattle.model.specs.lists.Tables.{TermEntry}
use Rattle.model.specs.lists.Setting.{Setting, Scope, term_of, is_matchable, template_in, pattern_converter}
use Rattle.model.specs.lists.Typings.{Typing}
use Rattle.model.specs.lists.Expansions.{expanded, wrapped_pattern}
use Rattle.model.specs.lists.Elaborated.{or_expanded, pattern_with, deeper_pattern, most_expansions}
use Rattle.model.specs.claims.Refusals.{NamedLimit, of_expansions}
use Rattle.laws_errors.specs.Steps.{Why, Mistake, Step, went_on, stopped, unless, noting, made_step, counted_step, joined_step, then_step}
use Rattle.laws_errors.specs.PatternSteps.{bind_step, with_part, use_step, converted_step, found_step, pattern_step, parts_step, each_step, deeper_step}
use Rattle.laws_errors.specs.StepLaws.{TemplatesAreWhole, AgreesAtDepths}
use Rattle.laws_errors.specs.ReachedLimits.{or_after, where_counted, pattern_limit, parts_limit, each_limit, deeper_pattern_limit}
use Rattle.laws_errors.specs.LimitLaws.{first_limit, PatternLimitsAreFirst}
use Rattle.laws_errors.proofs.PatternDepths.{pattern_steps_agree_at_depths_lem}

pub first_noted : {X : Type 0} (w : Mistake) (ws : List Mistake) (t : Step X) → first_limit (noting (w ∷ ws) t) ≡ None
first_noted w ws t = grind (arith, common_steps)

pub first_none : {X : Type 0} (t : Step X) → first_limit (noting [] t) ≡ first_limit t
first_none t = grind (arith, common_steps)

pub first_made : {X Y : Type 0} (f : X → Y) (t : Step X) → first_limit (made_step f t) ≡ first_limit t
first_made f t = grind (arith, common_steps)

pub first_counted : {X : Type 0} (t : Step X) → first_limit (counted_step t) ≡ first_limit t
first_counted t = grind (arith, common_steps)

first_bound : (x : List ℕ) (at : Position) (t : Step TypedPattern) → first_limit (bind_step x at t) ≡ first_limit t
first_bound x at t = grind (arith, common_steps)

first_joined : {X Y Z : Type 0} (g : Option X → Y → Z) (m : Option X) (k : ℕ) (t : Step Y) → first_limit (joined_step g m k t) ≡ first_limit t
first_joined g m k t = grind (arith, common_steps)

-- one step, then the next, where the first agrees with the function of typing at all depths
pub first_at_depths : {X Y Z : Type 0} (n d : ℕ) (g : Option X → Y → Z) (t : Step X) (o : ℕ → Option (Typing X)) (next : Option X → Scope → ℕ → Step Y) (rest : Typing X → Option NamedLimit) → AgreesAtDepths n d o t
    → ((a : Typing X) → first_limit (next (Some a.made) a.scope a.expansions) ≡ rest a)
    → first_limit (then_step g t next) ≡ or_after (first_limit t) (o d) rest
first_at_depths n d g t o next rest h r = grind (arith, first_none, first_joined)

-- a test that holds either way, where nothing can stop
pub leaf_first : {X : Type 0} (b : Bool) (why : Why) (at : Position) (m : Option X) (s : Scope) (k : ℕ) (es : List Mistake) → first_limit (noting (unless b why at) (went_on m s k es)) ≡ None
leaf_first b why at m s k es = refl

module _ (e : Setting) (multi : Bool) (templates : TemplatesAreWhole e) (d : ℕ)
    (deeper : (p : PatternTree) (ty n : ℕ) (s : Scope) → first_limit (deeper_step e multi d p ty n s) ≡ deeper_pattern_limit e multi d p ty n s) where
  -- the arguments of a term, as many as its types
  abbrev ArePartsFirst : PatternTrees → ℕ → Scope → Type 0
  ArePartsFirst args n s = (tys : List ℕ) → length (pattern_list args) ≡ length tys
      → first_limit (parts_step e multi (deeper_step e multi d) args tys n s) ≡ parts_limit e multi (deeper_pattern e multi d) (deeper_pattern_limit e multi d) args tys n s

  used_first : (name : Name) (args : PatternTrees) (at : Position) (ty n : ℕ) (s : Scope) → ArePartsFirst args n s → (t : TermEntry) (o : Option PatternTree)
      → first_limit (use_step multi (deeper_step e multi d) name args at ty n s t (λ tys. parts_step e multi (deeper_step e multi d) args tys n s) o)
      ≡ or_expanded o (λ template. then_option (expanded t args template) (λ p. deeper_pattern_limit e multi d p ty n s))
      (cond (is_matchable multi t.kind) (where_counted (length (pattern_list args)) (length t.arg_tys) (parts_limit e multi (deeper_pattern e multi d) (deeper_pattern_limit e multi d) args t.arg_tys n s)) None)
  used_first name args at ty n s parts t h = grind (arith, common_steps)

  converted_first : (name : Name) (args : PatternTrees) (at : Position) (ty n : ℕ) (s : Scope) → ArePartsFirst args n s → (t : TermEntry) (o : Option TermEntry)
      → first_limit (converted_step e multi (deeper_step e multi d) name args at ty n s t (λ tys. parts_step e multi (deeper_step e multi d) args tys n s) o)
      ≡ then_option o (λ c. deeper_pattern_limit e multi d (wrapped_pattern s c at (term_pattern name args at)) ty n s)
  converted_first name args at ty n s parts t h = grind (arith, common_steps)

  found_first : (name : Name) (args : PatternTrees) (at : Position) (ty n : ℕ) (s : Scope) → ArePartsFirst args n s → (o : Option TermEntry)
      → first_limit (found_step e multi (deeper_step e multi d) name args at ty n s (λ tys. parts_step e multi (deeper_step e multi d) args tys n s) o)
      ≡ then_option o (λ t.
      cond (eqb t.ret_ty ty)
      (or_expanded (template_in e t.kind) (λ template. then_option (expanded t args template) (λ p. deeper_pattern_limit e multi d p ty n s))
      (cond (is_matchable multi t.kind) (where_counted (length (pattern_list args)) (length t.arg_tys) (parts_limit e multi (deeper_pattern e multi d) (deeper_pattern_limit e multi d) args t.arg_tys n s)) None))
      (then_option (pattern_converter e t.ret_ty ty) (λ c. deeper_pattern_limit e multi d (wrapped_pattern s c at (term_pattern name args at)) ty n s)))
  found_first name args at ty n s parts h = grind (arith, common_steps, used_first, converted_first)

  mutual
    pub first : (p : PatternTree) (ty n : ℕ) (s : Scope)
        → first_limit (pattern_step e multi (deeper_step e multi d) p ty n s) ≡ pattern_limit e multi (deeper_pattern e multi d) (deeper_pattern_limit e multi d) p ty n s
    first (bind_pattern name of at) ty n s = first_bound name.text at _ ∙ first of ty n s
    first (term_pattern name args at) ty n s = found_first name args at ty n s (λ tys h. first_parts args tys n s h) (term_of e s name.text)
    first (and_pattern parts at) ty n s = first_made (match_and ty) _ ∙ first_each parts ty n s
    first p ty n s = grind (arith, common_steps)

    pub first_parts : (args : PatternTrees) (tys : List ℕ) (n : ℕ) (s : Scope) → length (pattern_list args) ≡ length tys
        → first_limit (parts_step e multi (deeper_step e multi d) args tys n s) ≡ parts_limit e multi (deeper_pattern e multi d) (deeper_pattern_limit e multi d) args tys n s
    first_parts (pattern_and p rest) (ty ∷ tys) n s h =
        first_at_depths n d with_part _ (λ c. pattern_with e multi (deeper_pattern e multi c) p ty s) _ _ (pattern_steps_agree_at_depths_lem e multi templates d p ty n s) (λ a. first_parts rest tys (n + a.expansions) a.scope (omega (arith, h)))
        ∙ ap (λ l. or_after l (pattern_with e multi (deeper_pattern e multi d) p ty s) (λ a. parts_limit e multi (deeper_pattern e multi d) (deeper_pattern_limit e multi d) rest tys (n + a.expansions) a.scope)) (first p ty n s)
    first_parts args tys n s h = refl

    first_each : (ps : PatternTrees) (ty n : ℕ) (s : Scope)
        → first_limit (each_step e multi (deeper_step e multi d) ps ty n s) ≡ each_limit e multi (deeper_pattern e multi d) (deeper_pattern_limit e multi d) ps ty n s
    first_each no_pattern ty n s = refl
    first_each (pattern_and p rest) ty n s =
        first_at_depths n d with_part _ (λ c. pattern_with e multi (deeper_pattern e multi c) p ty s) _ _ (pattern_steps_agree_at_depths_lem e multi templates d p ty n s) (λ a. first_each rest ty (n + a.expansions) a.scope)
        ∙ ap (λ l. or_after l (pattern_with e multi (deeper_pattern e multi d) p ty s) (λ a. each_limit e multi (deeper_pattern e multi d) (deeper_pattern_limit e multi d) rest ty (n + a.expansions) a.scope)) (first p ty n s)

-- what expansions make
pub deeper_first : (e : Setting) (multi : Bool) (templates : TemplatesAreWhole e) (d : ℕ) (p : PatternTree) (ty n : ℕ) (s : Scope)
    → first_limit (deeper_step e multi d p ty n s) ≡ deeper_pattern_limit e multi d p ty n s
deeper_first e multi templates zero p ty n s = refl
deeper_first e multi templates (suc d) p ty n s = elim (nat_le most_expansions n) as (λ b. first_limit
    (cond b (stopped of_expansions s []) (counted_step (pattern_step e multi (deeper_step e multi d) p ty (suc n) s)))
    ≡ cond b (Some of_expansions) (pattern_limit e multi (deeper_pattern e multi d) (deeper_pattern_limit e multi d) p ty (suc n) s)) [
      | true ↦ refl
      | false ↦ first_counted _ ∙ first e multi templates d (deeper_first e multi templates d) p ty (suc n) s
    ]

pub pattern_limits_are_first_lem : PatternLimitsAreFirst
pattern_limits_are_first_lem e multi templates d p ty n s = first e multi templates d (deeper_first e multi templates d) p ty n s

-- patterns for arguments, as many as there are types
pub parts_limits_are_first_lem : (e : Setting) (multi : Bool) (templates : TemplatesAreWhole e) (d : ℕ) (args : PatternTrees) (tys : List ℕ) (n : ℕ) (s : Scope) → length (pattern_list args) ≡ length tys
    → first_limit (parts_step e multi (deeper_step e multi d) args tys n s) ≡ parts_limit e multi (deeper_pattern e multi d) (deeper_pattern_limit e multi d) args tys n s
parts_limits_are_first_lem e multi templates d args tys n s h = first_parts e multi templates d (deeper_first e multi templates d) args tys n s h
