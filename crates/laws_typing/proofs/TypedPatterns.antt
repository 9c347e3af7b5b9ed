-- Patterns: the rules of typing and the function say the same.
use Rattle.std.proofs.Common.{◌≡◌, ℕ, zero, suc, ◌+◌, Bool, cond, eqb, List, [], ◌∷◌, length, Some, None, is_some, subst, ⊎_elim, refl, sym, ap, ◌∙◌, arith}
use Rattle.std.proofs.lemmas.Bool.{eq-eqb}
use Rattle.std.proofs.lemmas.Bool.Decides.{Decides-eqb}
use Rattle.std.proofs.lemmas.Option.{same_Some}
use Rattle.model.specs.lists.Syntax.{PatternTree, var_pattern, bind_pattern, bool_pattern, int_pattern, prim_pattern, term_pattern, wildcard_pattern, and_pattern, macro_arg, PatternTrees, no_pattern, pattern_and}
use Rattle.model.specs.rules.Typed.{TypedPattern, match_bind, TypedPatterns}
use Rattle.model.specs.lists.Setting.{Setting, Scope, bound, var_of, term_of, type_of_constant, is_matchable, template_in, pattern_converter}
use Rattle.model.specs.lists.Expansions.{expanded, wrapped_pattern}
use Rattle.laws_typing.specs.TypingLaws.{typing}
use Rattle.laws_typing.proofs.Typings.{ne-eqb, eqb-ne, then_gives, made_gives, counted_gives, followed_gives, cond_gives, if_gives, template_gives}
use Rattle.model.specs.lists.Typings.{Typing}
use Rattle.model.specs.lists.Elaborated.{var_pattern_at, bound_after, by_template, elaborated_pattern, elaborated_parts, each_with, deeper_pattern}
use Rattle.model.specs.lists.Elaborates.{ElaboratesPattern, ElaboratesParts, ElaboratesEach, new_name, bound_name, binding, a_truth, an_integer, a_constant, a_term, a_template, a_conversion, anything, all_of, no_part, part, no_more, one_more}

module _ (e : Setting) (multi : Bool) where
  mutual
    pub complete : {d ty n : ℕ} {p : PatternTree} {s t : Scope} {q : TypedPattern} → ElaboratesPattern e multi d p ty s q t n → elaborated_pattern e multi d p ty s ≡ Some (typing q t n)
    complete (new_name h) = rw h refl
    complete (bound_name {ty = ty} {v = v} h k) = rw (h, eq-eqb v.ty ty k) refl
    complete (binding g h) = rw (complete g, h) refl
    complete (a_truth {ty = ty} h) = rw (eq-eqb ty 0 h) refl
    complete (an_integer h) = rw h refl
    complete (a_constant {ty = ty} h) = rw (h, eq-eqb ty ty refl) refl
    complete (a_term {ty = ty} {entry = entry} h i j k g) = rw (h, eq-eqb entry.ret_ty ty i, j, k, complete_parts g) refl
    complete (a_template {ty = ty} {entry = entry} h i j k g) = rw (h, eq-eqb entry.ret_ty ty i, j, k, complete g) refl
    complete (a_conversion {ty = ty} {entry = entry} h i j g) = rw (h, ne-eqb entry.ret_ty ty i, j, complete g) refl
    complete anything = refl
    complete (all_of g) = rw (complete_each g) refl

    pub complete_parts : {d n : ℕ} {tys : List ℕ} {ps : PatternTrees} {s t : Scope} {qs : TypedPatterns} → ElaboratesParts e multi d ps tys s qs t n → elaborated_parts e multi d ps tys s ≡ Some (typing qs t n)
    complete_parts no_part = refl
    complete_parts (part g h) = rw (complete g, complete_parts h) refl

    complete_each : {d ty n : ℕ} {ps : PatternTrees} {s t : Scope} {qs : TypedPatterns} → ElaboratesEach e multi d ps ty s qs t n → each_with e multi (deeper_pattern e multi d) ps ty s ≡ Some (typing qs t n)
    complete_each no_more = refl
    complete_each (one_more g h) = rw (complete g, complete_each h) refl

  -- what the function gives within fewer nested expansions has a derivation
  abbrev pub IsDeeper : ℕ → Type 0
  IsDeeper d = (p : PatternTree) (ty : ℕ) (s : Scope) (r : Typing TypedPattern) → deeper_pattern e multi d p ty s ≡ Some r → (c : ℕ) × (suc c ≡ d) × ElaboratesPattern e multi c p ty s r.made r.scope r.expansions

  module _ (d : ℕ) (deeper : IsDeeper d) where
    mutual
      sound_with : (p : PatternTree) (ty : ℕ) (s : Scope) (r : Typing TypedPattern) → elaborated_pattern e multi d p ty s ≡ Some r → ElaboratesPattern e multi d p ty s r.made r.scope r.expansions
      sound_with (var_pattern name at) ty s r h =
          elim (var_of s name.text) as (λ o. var_of s name.text ≡ o → var_pattern_at ty name.text s o ≡ Some r → ElaboratesPattern e multi d (var_pattern name at) ty s r.made r.scope r.expansions) [
            | None ↦ λ i j. subst (λ (v : Typing TypedPattern). ElaboratesPattern e multi d (var_pattern name at) ty s v.made v.scope v.expansions) (same_Some _ _ j) (new_name i)
            | Some v ↦ λ i j. let c = if_gives (eqb v.ty ty) _ j in subst (λ (v : Typing TypedPattern). ElaboratesPattern e multi d (var_pattern name at) ty s v.made v.scope v.expansions) (same_Some _ _ c.1) (bound_name i ((Decides-eqb v.ty ty).0 c.0))
          ] refl h
      sound_with (bind_pattern name of at) ty s r h =
          elim (elaborated_pattern e multi d of ty s) as (λ o. elaborated_pattern e multi d of ty s ≡ o → bound_after ty name.text o ≡ Some r → ElaboratesPattern e multi d (bind_pattern name of at) ty s r.made r.scope r.expansions) [
            | None ↦ λ i j. absurd (cc)
            | Some a ↦ λ i j. let g = sound_with of ty s a i in
                elim (var_of a.scope name.text) as (λ o. var_of a.scope name.text ≡ o → cond (is_some o) None (Some (typing (match_bind ty (length a.scope.vars) a.made) (bound a.scope name.text ty) a.expansions)) ≡ Some r → ElaboratesPattern e multi d (bind_pattern name of at) ty s r.made r.scope r.expansions) [
                  | None ↦ λ k l. subst (λ (v : Typing TypedPattern). ElaboratesPattern e multi d (bind_pattern name of at) ty s v.made v.scope v.expansions) (same_Some _ _ l) (binding g k)
                  | Some v ↦ λ k l. absurd (cc)
                ] refl j
          ] refl h
      sound_with (bool_pattern b at) ty s r h =
          let c = if_gives (eqb ty 0) _ h in
          subst (λ (v : Typing TypedPattern). ElaboratesPattern e multi d (bool_pattern b at) ty s v.made v.scope v.expansions) (same_Some _ _ c.1) (a_truth ((Decides-eqb ty 0).0 c.0))
      sound_with (int_pattern z at) ty s r h =
          let c = if_gives _ _ h in
          subst (λ (v : Typing TypedPattern). ElaboratesPattern e multi d (int_pattern z at) ty s v.made v.scope v.expansions) (same_Some _ _ c.1) (an_integer c.0)
      sound_with (prim_pattern name at) ty s r h =
          let m = then_gives (type_of_constant e s name.text) _ h in
          let c = if_gives (eqb m.0 ty) _ m.2 in
          subst (λ (v : Typing TypedPattern). ElaboratesPattern e multi d (prim_pattern name at) ty s v.made v.scope v.expansions) (same_Some _ _ c.1) (a_constant (m.1 ∙ ap Some ((Decides-eqb m.0 ty).0 c.0)))
      sound_with (term_pattern name args at) ty s r h =
          let m = then_gives (term_of e s name.text) _ h in
          ⊎_elim
          (λ c. ⊎_elim
          (λ k.
          let u = if_gives (is_matchable multi m.0.kind) _ k.1 in
          let v = made_gives _ (elaborated_parts e multi d args m.0.arg_tys s) u.1 in
          subst (λ (v : Typing TypedPattern). ElaboratesPattern e multi d (term_pattern name args at) ty s v.made v.scope v.expansions) v.2
          (a_term m.1 ((Decides-eqb m.0.ret_ty ty).0 c.0) k.0 u.0 (sound_parts args m.0.arg_tys s v.0 v.1)))
          (λ k.
          let u = then_gives (expanded m.0 args k.0) _ k.2 in
          let v = counted_gives (deeper_pattern e multi d u.0 ty s) u.2 in
          let w = deeper u.0 ty s v.0 v.1 in
          subst (λ (v : Typing TypedPattern). ElaboratesPattern e multi d (term_pattern name args at) ty s v.made v.scope v.expansions) v.2
          (subst (λ c. ElaboratesPattern e multi c (term_pattern name args at) ty s v.0.made v.0.scope (suc v.0.expansions)) w.1
          (a_template m.1 ((Decides-eqb m.0.ret_ty ty).0 c.0) k.1 u.1 w.2)))
          (template_gives (template_in e m.0.kind) (by_template (deeper_pattern e multi d) m.0 args ty s) _ c.1))
          (λ c.
          let u = then_gives (pattern_converter e m.0.ret_ty ty) _ c.1 in
          let v = counted_gives (deeper_pattern e multi d (wrapped_pattern s u.0 at (term_pattern name args at)) ty s) u.2 in
          let w = deeper (wrapped_pattern s u.0 at (term_pattern name args at)) ty s v.0 v.1 in
          subst (λ (v : Typing TypedPattern). ElaboratesPattern e multi d (term_pattern name args at) ty s v.made v.scope v.expansions) v.2
          (subst (λ c. ElaboratesPattern e multi c (term_pattern name args at) ty s v.0.made v.0.scope (suc v.0.expansions)) w.1
          (a_conversion m.1 (eqb-ne m.0.ret_ty ty c.0) u.1 w.2)))
          (cond_gives (eqb m.0.ret_ty ty) _ _ m.2)
      sound_with (wildcard_pattern at) ty s r h =
          subst (λ (v : Typing TypedPattern). ElaboratesPattern e multi d (wildcard_pattern at) ty s v.made v.scope v.expansions) (same_Some _ _ h) anything
      sound_with (and_pattern parts at) ty s r h =
          let m = made_gives _ (each_with e multi (deeper_pattern e multi d) parts ty s) h in
          subst (λ (v : Typing TypedPattern). ElaboratesPattern e multi d (and_pattern parts at) ty s v.made v.scope v.expansions) m.2 (all_of (sound_each parts ty s m.0 m.1))
      sound_with (macro_arg i at) ty s r h = absurd (cc)

      sound_parts : (ps : PatternTrees) (tys : List ℕ) (s : Scope) (r : Typing TypedPatterns) → elaborated_parts e multi d ps tys s ≡ Some r → ElaboratesParts e multi d ps tys s r.made r.scope r.expansions
      sound_parts no_pattern [] s r h = subst (λ (v : Typing TypedPatterns). ElaboratesParts e multi d no_pattern [] s v.made v.scope v.expansions) (same_Some _ _ h) no_part
      sound_parts (pattern_and p rest) (ty ∷ tys) s r h =
          let m = followed_gives _ (elaborated_pattern e multi d p ty s) (λ a. elaborated_parts e multi d rest tys a.scope) h in
          subst (λ (v : Typing TypedPatterns). ElaboratesParts e multi d (pattern_and p rest) (ty ∷ tys) s v.made v.scope v.expansions) m.4
          (part (sound_with p ty s m.0 m.2) (sound_parts rest tys m.0.scope m.1 m.3))
      sound_parts _ _ s r h = absurd (cc)

      sound_each : (ps : PatternTrees) (ty : ℕ) (s : Scope) (r : Typing TypedPatterns) → each_with e multi (deeper_pattern e multi d) ps ty s ≡ Some r → ElaboratesEach e multi d ps ty s r.made r.scope r.expansions
      sound_each no_pattern ty s r h = subst (λ (v : Typing TypedPatterns). ElaboratesEach e multi d no_pattern ty s v.made v.scope v.expansions) (same_Some _ _ h) no_more
      sound_each (pattern_and p rest) ty s r h =
          let m = followed_gives _ (elaborated_pattern e multi d p ty s) (λ a. each_with e multi (deeper_pattern e multi d) rest ty a.scope) h in
          subst (λ (v : Typing TypedPatterns). ElaboratesEach e multi d (pattern_and p rest) ty s v.made v.scope v.expansions) m.4
          (one_more (sound_with p ty s m.0 m.2) (sound_each rest ty m.0.scope m.1 m.3))

  is_deeper : (d : ℕ) → IsDeeper d
  is_deeper zero p ty s r h = absurd (cc)
  is_deeper (suc d) p ty s r h = (d, refl, sound_with d (is_deeper d) p ty s r h)

  pub sound : (d : ℕ) (p : PatternTree) (ty : ℕ) (s : Scope) (r : Typing TypedPattern) → elaborated_pattern e multi d p ty s ≡ Some r → ElaboratesPattern e multi d p ty s r.made r.scope r.expansions
  sound d = sound_with d (is_deeper d)

  pub parts_sound : (d : ℕ) (ps : PatternTrees) (tys : List ℕ) (s : Scope) (r : Typing TypedPatterns) → elaborated_parts e multi d ps tys s ≡ Some r → ElaboratesParts e multi d ps tys s r.made r.scope r.expansions
  parts_sound d = sound_parts d (is_deeper d)

  -- what elaborates within some nested expansions does so within more
  mutual
    pub deepen : {d ty n : ℕ} {p : PatternTree} {s t : Scope} {q : TypedPattern} → ElaboratesPattern e multi d p ty s q t n → ElaboratesPattern e multi (suc d) p ty s q t n
    deepen (new_name h) = new_name h
    deepen (bound_name h i) = bound_name h i
    deepen (binding g h) = binding (deepen g) h
    deepen (a_truth h) = a_truth h
    deepen (an_integer h) = an_integer h
    deepen (a_constant h) = a_constant h
    deepen (a_term h i j l g) = a_term h i j l (deepen_parts g)
    deepen (a_template h i j l g) = a_template h i j l (deepen g)
    deepen (a_conversion h i j g) = a_conversion h i j (deepen g)
    deepen anything = anything
    deepen (all_of g) = all_of (deepen_each g)

    pub deepen_parts : {d n : ℕ} {tys : List ℕ} {ps : PatternTrees} {s t : Scope} {qs : TypedPatterns} → ElaboratesParts e multi d ps tys s qs t n → ElaboratesParts e multi (suc d) ps tys s qs t n
    deepen_parts no_part = no_part
    deepen_parts (part g h) = part (deepen g) (deepen_parts h)

    deepen_each : {d ty n : ℕ} {ps : PatternTrees} {s t : Scope} {qs : TypedPatterns} → ElaboratesEach e multi d ps ty s qs t n → ElaboratesEach e multi (suc d) ps ty s qs t n
    deepen_each no_more = no_more
    deepen_each (one_more g h) = one_more (deepen g) (deepen_each h)

  pub raised : (k : ℕ) {d c ty n : ℕ} {p : PatternTree} {s t : Scope} {q : TypedPattern} → k + d ≡ c → ElaboratesPattern e multi d p ty s q t n → ElaboratesPattern e multi c p ty s q t n
  raised zero {d} {c} {ty = ty} {n = n} {p = p} {s = s} {t = t} {q = q} h g = let i : d ≡ c = omega arith in subst (λ m. ElaboratesPattern e multi m p ty s q t n) i g
  raised (suc k) {d} {c} {ty = ty} {n = n} {p = p} {s = s} {t = t} {q = q} h g = let i : suc (k + d) ≡ c = omega arith in subst (λ m. ElaboratesPattern e multi m p ty s q t n) i (deepen (raised k refl g))

  -- two derivations of one pattern agree
  pub one_way : {d c ty n m : ℕ} {p : PatternTree} {s t u : Scope} {q r : TypedPattern}
      → ElaboratesPattern e multi d p ty s q t n → ElaboratesPattern e multi c p ty s r u m → (q ≡ r) × (t ≡ u) × (n ≡ m)
  one_way {d} {c} g h =
      let i : d + c ≡ c + d = omega arith in
      let same = same_Some _ _ (sym (complete (raised c refl g)) ∙ complete (raised d i h)) in
      (ap (λ (v : Typing TypedPattern). v.made) same, ap (λ (v : Typing TypedPattern). v.scope) same, ap (λ (v : Typing TypedPattern). v.expansions) same)
