-- Patterns: at all depths the function of typing makes what reading makes where nothing is wrong.
use Rattle.std.proofs.Common.{◌≡◌, ◌⊎◌, inl, inr, ℕ, zero, suc, ◌+◌, Bool, true, false, not, cond, eqb, nat_le, List, [], ◌∷◌, length, Option, Some, None, is_some, slice_get, subst, refl, ap, ◌∙◌, arith}
use Rattle.std.proofs.lemmas.Grind.{common_steps}
use Rattle.std.proofs.lemmas.Bool.{leb-true, leb-false}
use Rattle.std.proofs.lemmas.Bool.Decides.{Decides-eqb}
use Rattle.std.proofs.lemmas.Option.{same_Some}
use Rattle.model.specs.lists.Syntax.{Position, Name, PatternTree, var_pattern, bind_pattern, bool_pattern, int_pattern, prim_pattern, term_pattern, wildcard_pattern, and_pattern, macro_arg, PatternTrees, no_pattern, pattern_and, pattern_list}
use Rattle.model.specs.rules.Outcome.{then_option}
use Rattle.model.specs.rules.Typed.{TypedPattern, match_bind, match_var, match_prim, match_bool, match_and, match_term, TypedVar, typed_pattern_and}
use Rattle.model.specs.rules.Values.{is_atom_type}
use Rattle.model.specs.lists.Tables.{TermEntry}
use Rattle.model.specs.lists.Names.{number}
use Rattle.model.specs.lists.Setting.{Setting, Scope, bound, var_of, term_of, bool_type, type_of_constant, is_matchable, template_in, pattern_converter}
use Rattle.model.specs.lists.Typings.{Typing, plain, made_into, counted}
use Rattle.model.specs.lists.Expansions.{substituted, wrapped_pattern}
use Rattle.model.specs.lists.Formed.{pattern_type}
use Rattle.model.specs.lists.Elaborated.{var_pattern_at, bound_after, or_expanded, by_template, pattern_with, parts_with, each_with, deeper_pattern, elaborated_parts, most_expansions}
use Rattle.model.specs.claims.Refusals.{of_expansions}
use Rattle.laws_errors.specs.Steps.{Why, rebound, Step, went_on, stopped, unless, here, noting, made_step, counted_step}
use Rattle.laws_errors.specs.PatternSteps.{var_step, bind_step, constant_step, with_part, template_step, pattern_step, found_step, converted_step, use_step, term_step, parts_step, each_step, deeper_step}
use Rattle.laws_errors.specs.StepLaws.{TakesTooMany, AgreesAtDepths, only_read, never_read, too_deep, too_long, never_read_later, TemplatesAreWhole, PatternStepsAgreeAtDepths}
use Rattle.laws_errors.proofs.TypesMade.{types_made}
use Rattle.laws_errors.proofs.AgreeingDepths.{same_at_depths, at_once, noted, none_noted, checked, only_through, made, one_deeper, one_more, too_many, in_order, eqb-ne, neither, followed_none}

-- a use of a bound name
var_agrees : (n d ty : ℕ) (x : List ℕ) (at : Position) (s : Scope) (o : Option TypedVar) → AgreesAtDepths n d (λ c. var_pattern_at ty x s o) (var_step ty x at s o)
var_agrees n d ty x at s None = at_once n d _ _
var_agrees n d ty x at s (Some v) =
    checked n d (eqb v.ty ty) _ at _ _ (λ h. subst (λ t. AgreesAtDepths n d (λ c. Some (plain (match_var t v.id) s)) (here (match_var v.ty v.id) s)) ((Decides-eqb v.ty ty).0 h) (at_once n d _ _))

module _ (n d ty : ℕ) (x : List ℕ) (at : Position) where
  bound_none : (o : Option (Typing TypedPattern)) → o ≡ None → bound_after ty x o ≡ None
  bound_none o h = ap (bound_after ty x) h

  past_after : (o : Option (Typing TypedPattern)) → TakesTooMany n o → TakesTooMany n (bound_after ty x o)
  past_after o past = grind (arith, common_steps, same_Some)

  -- a name bound after a pattern of its type
  bind_agrees : (t : Step TypedPattern) (o : ℕ → Option (Typing TypedPattern))
      → ((a : Typing TypedPattern) → o d ≡ Some a → pattern_type a.made ≡ ty) → AgreesAtDepths n d o t → AgreesAtDepths n d (λ c. bound_after ty x (o c)) (bind_step x at t)
  bind_agrees _ o typed (only_read q s k fits only) = rw (typed _ only.here) (at_name (var_of s x) refl)
    where
      at_name : (v : Option TypedVar) → var_of s x ≡ v
          → AgreesAtDepths n d (λ c. bound_after ty x (o c)) (went_on (Some (match_bind ty (length s.vars) q)) (bound s x ty) k (unless (not (is_some v)) (rebound x) at))
      at_name None h = only_read _ _ k fits (only_through (bound_after ty x) d o _ _ refl (rw h refl) only)
      at_name (Some v) h = never_read _ _ k _ [] (λ c. either (o c) (only.elsewhere c))
        where
          either : (u : Option (Typing TypedPattern)) → (u ≡ None) ⊎ (u ≡ Some (record { made = q; scope = s; expansions = k })) → bound_after ty x u ≡ None
          either u (inl i) = bound_none u i
          either u (inr i) = ap (bound_after ty x) i ∙ rw h refl
  bind_agrees _ o typed (never_read None s k w ws none) = never_read None s k w ws (λ c. bound_none (o c) (none c))
  bind_agrees _ o typed (never_read (Some q) s k w ws none) = never_read _ _ k w _ (λ c. bound_none (o c) (none c))
  bind_agrees _ o typed (too_deep z none) = too_deep z (bound_none (o d) none)
  bind_agrees _ o typed (too_long z past) = too_long z (λ c. past_after (o c) (past c))
  bind_agrees _ o typed (never_read_later l z w ws none) = never_read_later l z w ws (λ c. bound_none (o c) (none c))

-- a constant
constant_agrees : (n d ty : ℕ) (x : List ℕ) (at : Position) (s : Scope) (o : Option ℕ)
    → AgreesAtDepths n d (λ c. then_option o (λ own. cond (eqb own ty) (Some (plain (match_prim ty (number s.names x)) s)) None)) (constant_step ty x at s o)
constant_agrees n d ty x at s None = never_read None _ 0 _ [] (λ c. refl)
constant_agrees n d ty x at s (Some own) =
    checked n d (eqb own ty) _ at _ _ (λ h. subst (λ t. AgreesAtDepths n d (λ c. Some (plain (match_prim t (number s.names x)) s)) (here (match_prim own (number s.names x)) s)) ((Decides-eqb own ty).0 h) (at_once n d _ _))

-- a truth, or an integer
truth_agrees : (n d ty : ℕ) (truth : Bool) (why : Why) (at : Position) (s : Scope)
    → AgreesAtDepths n d (λ c. cond (eqb ty bool_type) (Some (plain (match_bool ty truth) s)) None) (noting (unless (eqb ty bool_type) why at) (here (match_bool bool_type truth) s))
truth_agrees n d ty truth why at s =
    checked n d (eqb ty bool_type) why at _ _ (λ h. subst (λ t. AgreesAtDepths n d (λ c. Some (plain (match_bool ty truth) s)) (here (match_bool t truth) s)) ((Decides-eqb ty bool_type).0 h) (at_once n d _ _))

-- as many arguments as types, or nothing
pub parts_none : (e : Setting) (multi : Bool) (d : ℕ) (args : PatternTrees) (tys : List ℕ) (s : Scope) → (length (pattern_list args) ≡ length tys → ⊥) → parts_with e multi (deeper_pattern e multi d) args tys s ≡ None
parts_none e multi d (pattern_and p rest) (ty ∷ tys) s h = grind (arith, common_steps, parts_none e multi d rest tys, followed_none)
parts_none e multi d args tys s h = grind (arith, common_steps)

module _ (e : Setting) (multi : Bool) (templates : TemplatesAreWhole e) (d : ℕ)
    (deeper : (p : PatternTree) (ty n : ℕ) (s : Scope) → AgreesAtDepths n d (λ c. counted (deeper_pattern e multi c p ty s)) (deeper_step e multi d p ty n s)) where
  -- a template, where there are as many arguments as the term has
  template_agrees : (ty n : ℕ) (s : Scope) (why : Why) (at : Position) (b : Bool) (o : Option PatternTree) → (b ≡ true → is_some o ≡ true)
      → AgreesAtDepths n d (λ c. then_option (cond b o None) (λ p. counted (deeper_pattern e multi c p ty s))) (noting (unless b why at) (template_step (deeper_step e multi d) ty n s o))
  template_agrees ty n s why at true (Some p) whole = none_noted n d _ _ (deeper p ty n s)
  template_agrees ty n s why at true None whole = absurd (let h = whole refl in cc)
  template_agrees ty n s why at false o whole = noted n d _ [] _ _ (λ c. refl)

  -- the arguments of a term, as many as its types
  abbrev ArePartsAgreed : PatternTrees → ℕ → Scope → Type 0
  ArePartsAgreed args n s = (tys : List ℕ) → length (pattern_list args) ≡ length tys → AgreesAtDepths n d (λ c. parts_with e multi (deeper_pattern e multi c) args tys s) (parts_step e multi (deeper_step e multi d) args tys n s)

  -- the term itself
  term_agrees : (name : Name) (args : PatternTrees) (at : Position) (ty n : ℕ) (s : Scope) → ArePartsAgreed args n s → (t : TermEntry) → t.ret_ty ≡ ty
      → (why : Why) (b : Bool) → eqb (length (pattern_list args)) (length t.arg_tys) ≡ b
      → AgreesAtDepths n d (λ c. cond (is_matchable multi t.kind) (made_into (match_term ty t.id) (parts_with e multi (deeper_pattern e multi c) args t.arg_tys s)) None)
      (noting (unless b why at) (term_step multi (deeper_step e multi d) name args at ty n s t (λ tys. parts_step e multi (deeper_step e multi d) args tys n s) None))
  term_agrees name args at ty n s parts t same why true h = none_noted n d _ _ (checked n d (is_matchable multi t.kind) _ at _ _ (λ k. subst
      (λ u. AgreesAtDepths n d (λ c. made_into (match_term u t.id) (parts_with e multi (deeper_pattern e multi c) args t.arg_tys s)) (made_step (match_term t.ret_ty t.id) (parts_step e multi (deeper_step e multi d) args t.arg_tys n s)))
      same
      (made n d (match_term t.ret_ty t.id) _ _ (parts t.arg_tys ((Decides-eqb (length (pattern_list args)) (length t.arg_tys)).0 h)))))
  term_agrees name args at ty n s parts t same why false h =
      noted n d _ [] _ _ (λ c. neither (is_matchable multi t.kind) _ (ap (made_into (match_term ty t.id)) (parts_none e multi c args t.arg_tys s (eqb-ne _ _ h))))

  used_agrees : (name : Name) (args : PatternTrees) (at : Position) (ty n : ℕ) (s : Scope) → ArePartsAgreed args n s → (t : TermEntry) → t.ret_ty ≡ ty → (o : Option PatternTree)
      → ((template : PatternTree) (given : List PatternTree) → o ≡ Some template → length given ≡ length t.arg_tys → is_some (substituted given template) ≡ true)
      → AgreesAtDepths n d (λ c. or_expanded o (by_template (deeper_pattern e multi c) t args ty s) (cond (is_matchable multi t.kind) (made_into (match_term ty t.id) (parts_with e multi (deeper_pattern e multi c) args t.arg_tys s)) None))
      (use_step multi (deeper_step e multi d) name args at ty n s t (λ tys. parts_step e multi (deeper_step e multi d) args tys n s) o)
  used_agrees name args at ty n s parts t same (Some template) whole =
      template_agrees ty n s _ at (eqb (length (pattern_list args)) (length t.arg_tys)) (substituted (pattern_list args) template) (λ k. whole template (pattern_list args) refl ((Decides-eqb (length (pattern_list args)) (length t.arg_tys)).0 k))
  used_agrees name args at ty n s parts t same None whole = term_agrees name args at ty n s parts t same _ (eqb (length (pattern_list args)) (length t.arg_tys)) refl

  converted_agrees : (name : Name) (args : PatternTrees) (at : Position) (ty n : ℕ) (s : Scope) (t : TermEntry) (o : Option TermEntry)
      → AgreesAtDepths n d (λ c. then_option o (λ by. counted (deeper_pattern e multi c (wrapped_pattern s by at (term_pattern name args at)) ty s)))
      (converted_step e multi (deeper_step e multi d) name args at ty n s t (λ tys. parts_step e multi (deeper_step e multi d) args tys n s) o)
  converted_agrees name args at ty n s t (Some by) = deeper (wrapped_pattern s by at (term_pattern name args at)) ty n s
  converted_agrees name args at ty n s t None = noted n d _ [] _ _ (λ c. refl)

  found_agrees : (name : Name) (args : PatternTrees) (at : Position) (ty n : ℕ) (s : Scope) → ArePartsAgreed args n s → (o : Option TermEntry) → term_of e s name.text ≡ o
      → AgreesAtDepths n d (λ c. then_option o (λ t.
      cond (eqb t.ret_ty ty)
      (or_expanded (template_in e t.kind) (by_template (deeper_pattern e multi c) t args ty s) (cond (is_matchable multi t.kind) (made_into (match_term ty t.id) (parts_with e multi (deeper_pattern e multi c) args t.arg_tys s)) None))
      (then_option (pattern_converter e t.ret_ty ty) (λ by. counted (deeper_pattern e multi c (wrapped_pattern s by at (term_pattern name args at)) ty s)))))
      (found_step e multi (deeper_step e multi d) name args at ty n s (λ tys. parts_step e multi (deeper_step e multi d) args tys n s) o)
  found_agrees name args at ty n s parts None found = never_read None s 0 _ [] (λ c. refl)
  found_agrees name args at ty n s parts (Some t) found = elim (eqb t.ret_ty ty) as (λ b. eqb t.ret_ty ty ≡ b → AgreesAtDepths n d (λ c. cond b
      (or_expanded (template_in e t.kind) (by_template (deeper_pattern e multi c) t args ty s) (cond (is_matchable multi t.kind) (made_into (match_term ty t.id) (parts_with e multi (deeper_pattern e multi c) args t.arg_tys s)) None))
      (then_option (pattern_converter e t.ret_ty ty) (λ by. counted (deeper_pattern e multi c (wrapped_pattern s by at (term_pattern name args at)) ty s))))
      (cond b (use_step multi (deeper_step e multi d) name args at ty n s t (λ tys. parts_step e multi (deeper_step e multi d) args tys n s) (template_in e t.kind))
      (converted_step e multi (deeper_step e multi d) name args at ty n s t (λ tys. parts_step e multi (deeper_step e multi d) args tys n s) (pattern_converter e t.ret_ty ty)))) [
        | true ↦ λ h. used_agrees name args at ty n s parts t ((Decides-eqb t.ret_ty ty).0 h) (template_in e t.kind) (λ template given i k. templates s name.text t template given found i k)
        | false ↦ λ h. converted_agrees name args at ty n s t (pattern_converter e t.ret_ty ty)
      ] refl

  mutual
    agrees : (p : PatternTree) (ty n : ℕ) (s : Scope) → AgreesAtDepths n d (λ c. pattern_with e multi (deeper_pattern e multi c) p ty s) (pattern_step e multi (deeper_step e multi d) p ty n s)
    agrees (var_pattern name at) ty n s = var_agrees n d ty name.text at s (var_of s name.text)
    agrees (bind_pattern name of at) ty n s = bind_agrees n d ty name.text at _ _ (types_made e multi d of ty s) (agrees of ty n s)
    agrees (bool_pattern b at) ty n s = truth_agrees n d ty b _ at s
    agrees (int_pattern z at) ty n s = checked n d (is_atom_type (slice_get e.types ty)) _ at _ _ (λ h. at_once n d _ _)
    agrees (prim_pattern name at) ty n s = constant_agrees n d ty name.text at s (type_of_constant e s name.text)
    agrees (term_pattern name args at) ty n s = found_agrees name args at ty n s (λ tys h. parts_agree args tys n s h) (term_of e s name.text) refl
    agrees (wildcard_pattern at) ty n s = at_once n d _ _
    agrees (and_pattern parts at) ty n s = made n d (match_and ty) _ _ (each_agrees parts ty n s)
    agrees (macro_arg i at) ty n s = never_read None s 0 _ [] (λ c. refl)

    parts_agree : (args : PatternTrees) (tys : List ℕ) (n : ℕ) (s : Scope) → length (pattern_list args) ≡ length tys
        → AgreesAtDepths n d (λ c. parts_with e multi (deeper_pattern e multi c) args tys s) (parts_step e multi (deeper_step e multi d) args tys n s)
    parts_agree no_pattern [] n s h = at_once n d _ _
    parts_agree no_pattern (ty ∷ tys) n s h = absurd (cc)
    parts_agree (pattern_and p rest) [] n s h = absurd (cc)
    parts_agree (pattern_and p rest) (ty ∷ tys) n s h =
        in_order n d typed_pattern_and with_part (λ x y. refl) _ _ _ (λ c a. parts_with e multi (deeper_pattern e multi c) rest tys a.scope) (agrees p ty n s) (λ a i. parts_agree rest tys (n + a.expansions) a.scope (omega (arith, h)))

    each_agrees : (ps : PatternTrees) (ty n : ℕ) (s : Scope)
        → AgreesAtDepths n d (λ c. each_with e multi (deeper_pattern e multi c) ps ty s) (each_step e multi (deeper_step e multi d) ps ty n s)
    each_agrees no_pattern ty n s = at_once n d _ _
    each_agrees (pattern_and p rest) ty n s =
        in_order n d typed_pattern_and with_part (λ x y. refl) _ _ _ (λ c a. each_with e multi (deeper_pattern e multi c) rest ty a.scope) (agrees p ty n s) (λ a i. each_agrees rest ty (n + a.expansions) a.scope)

-- one more expansion at each depth
deeper_same : (e : Setting) (multi : Bool) (p : PatternTree) (ty : ℕ) (s : Scope) (c : ℕ) → one_deeper (λ c. pattern_with e multi (deeper_pattern e multi c) p ty s) c ≡ counted (deeper_pattern e multi c p ty s)
deeper_same e multi p ty s c = grind (arith, common_steps)

-- what expansions make
deeper_agrees : (e : Setting) (multi : Bool) (templates : TemplatesAreWhole e) (d : ℕ) (p : PatternTree) (ty n : ℕ) (s : Scope) → AgreesAtDepths n d (λ c. counted (deeper_pattern e multi c p ty s)) (deeper_step e multi d p ty n s)
deeper_agrees e multi templates zero p ty n s = too_deep s refl
deeper_agrees e multi templates (suc d) p ty n s = same_at_depths n (suc d) (one_deeper (λ c. pattern_with e multi (deeper_pattern e multi c) p ty s)) _ _ (deeper_same e multi p ty s) (elim (nat_le most_expansions n)
    as (λ b. nat_le most_expansions n ≡ b → AgreesAtDepths n (suc d) (one_deeper (λ c. pattern_with e multi (deeper_pattern e multi c) p ty s))
    (cond b (stopped of_expansions s []) (counted_step (pattern_step e multi (deeper_step e multi d) p ty (suc n) s)))) [
      | true ↦ λ h. too_many n (suc d) s _ (leb-true most_expansions n h)
      | false ↦ λ h. one_more n d _ _ (leb-false most_expansions n h) (agrees e multi templates d (deeper_agrees e multi templates d) p ty (suc n) s)
    ] refl)

pub pattern_steps_agree_at_depths_lem : PatternStepsAgreeAtDepths
pattern_steps_agree_at_depths_lem e multi templates d p ty n s = agrees e multi templates d (deeper_agrees e multi templates d) p ty n s

-- patterns for arguments, as many as there are types
pub parts_agree_at_depths_lem : (e : Setting) (multi : Bool) (templates : TemplatesAreWhole e) (d : ℕ) (args : PatternTrees) (tys : List ℕ) (n : ℕ) (s : Scope) → length (pattern_list args) ≡ length tys
    → AgreesAtDepths n d (λ c. elaborated_parts e multi c args tys s) (parts_step e multi (deeper_step e multi d) args tys n s)
parts_agree_at_depths_lem e multi templates d args tys n s h = parts_agree e multi templates d (deeper_agrees e multi templates d) args tys n s h
