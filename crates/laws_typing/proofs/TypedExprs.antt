-- Expressions: the rules of typing and the function say the same.
use Rattle.std.proofs.Common.{◌≡◌, ℕ, zero, suc, ◌+◌, List, [], ◌∷◌, length, Option, Some, None, subst, ⊎_elim, refl, sym, ap, ◌∙◌, arith}
use Rattle.std.proofs.lemmas.Grind.{common_steps}
use Rattle.std.proofs.lemmas.Option.{same_Some}
use Rattle.model.specs.lists.Syntax.{Position, Name, ExprTree, term_expr, var_expr, bool_expr, int_expr, prim_expr, let_expr, ExprTrees, no_expr, expr_and, LetTrees, no_let, let_and}
use Rattle.model.specs.lists.Tables.{Flags}
use Rattle.model.specs.rules.Typed.{TypedExpr, make_var, TypedExprs, TypedLets, typed_let_and}
use Rattle.model.specs.lists.Setting.{Setting, Scope, met, bound, after_let, var_of, term_of, type_of_name, type_of_constant, bool_type, is_expected, is_callable}
use Rattle.model.specs.lists.Expansions.{wrapped_expr}
use Rattle.model.specs.lists.Typings.{Typing, plain, followed, counted}
use Rattle.model.specs.lists.Elaborated.{before_rest, typed_let, bound_let, elaborated_expr, args_with, lets_with, deeper_expr}
use Rattle.model.specs.lists.Elaborates.{ElaboratesExpr, ElaboratesArgs, ElaboratesLets, a_call, converted_call, a_variable, converted_variable, truth_expr, integer_expr, constant_expr, let_in, no_arg, an_arg, no_def, a_def}
use Rattle.laws_typing.specs.TypingLaws.{typing}
use Rattle.laws_typing.proofs.Typings.{ne-eqb, then_gives, made_gives, scoped_gives, counted_gives, followed_gives, if_gives, expected_itself, expected_gives}

bound_gives : (x : List ℕ) (ty : ℕ) (o : Option (Typing TypedExpr)) {r : Typing (TypedLets → TypedLets)}
    → bound_let x ty o ≡ Some r → (a : Typing TypedExpr) × (o ≡ Some a) × (typing (typed_let_and (length a.scope.vars) ty a.made) (bound a.scope x ty) a.expansions ≡ r)
bound_gives x ty o h = grind (arith, common_steps, same_Some)

module _ (e : Setting) (flags : Flags) where
  mutual
    pub complete : {d n : ℕ} {ty : Option ℕ} {x : ExprTree} {s t : Scope} {q : TypedExpr} → ElaboratesExpr e flags d x ty s q t n → elaborated_expr e flags d x ty s ≡ Some (typing q t n)
    complete (a_call {ty = ty} {entry = entry} h i j g) = rw h (expected_itself e entry.ret_ty ty _ _ i ∙ rw (j, complete_args g) refl)
    complete (converted_call {ty = ty} {entry = entry} h i j g) = rw (h, ne-eqb entry.ret_ty ty i, j, complete g) refl
    complete (a_variable {ty = ty} {v = v} h i) = rw h (expected_itself e v.ty ty _ _ i)
    complete (converted_variable {ty = ty} {v = v} h i j g) = rw (h, ne-eqb v.ty ty i, j, complete g) refl
    complete (truth_expr h) = rw h refl
    complete (integer_expr h) = rw h refl
    complete (constant_expr h i) = rw (h, i) refl
    complete (let_in g h) = rw (complete_lets g, complete h) refl

    pub complete_args : {d n : ℕ} {tys : List ℕ} {xs : ExprTrees} {s t : Scope} {qs : TypedExprs} → ElaboratesArgs e flags d xs tys s qs t n → args_with e flags (deeper_expr e flags d) xs tys s ≡ Some (typing qs t n)
    complete_args no_arg = refl
    complete_args (an_arg g h) = rw (complete g, complete_args h) refl

    complete_lets : {d n : ℕ} {ls : LetTrees} {s t : Scope} {ds : TypedLets} → ElaboratesLets e flags d ls s ds t n → lets_with e flags (deeper_expr e flags d) ls s ≡ Some (typing ds t n)
    complete_lets no_def = refl
    complete_lets (a_def h g i) = rw (h, complete g, complete_lets i) refl

  abbrev pub IsDeeper : ℕ → Type 0
  IsDeeper d = (x : ExprTree) (ty : Option ℕ) (s : Scope) (r : Typing TypedExpr) → deeper_expr e flags d x ty s ≡ Some r → (c : ℕ) × (suc c ≡ d) × ElaboratesExpr e flags c x ty s r.made r.scope r.expansions

  module _ (d : ℕ) (deeper : IsDeeper d) where
    -- a definition of a let, then the others
    def_before : (name ty : Name) (value : ExprTree) (at : Position) (rest : LetTrees) (s : Scope) (own : ℕ) → type_of_name e s ty.text ≡ Some own
        → (a : Typing TypedExpr) (b : Typing (TypedLets → TypedLets)) (c r : Typing TypedLets)
        → typing (typed_let_and (length a.scope.vars) own a.made) (bound a.scope name.text own) a.expansions ≡ b
        → typing (before_rest b.made c.made) c.scope (b.expansions + c.expansions) ≡ r
        → ElaboratesExpr e flags d value (Some own) (met s name.text) a.made a.scope a.expansions
        → ElaboratesLets e flags d rest b.scope c.made c.scope c.expansions
        → ElaboratesLets e flags d (let_and name ty value at rest) s r.made r.scope r.expansions
    def_before name ty value at rest s own h a b c r i j g l =
        subst (λ (v : Typing TypedLets). ElaboratesLets e flags d (let_and name ty value at rest) s v.made v.scope v.expansions) j
        (subst (λ (v : Typing (TypedLets → TypedLets)). ElaboratesLets e flags d (let_and name ty value at rest) s (v.made c.made) c.scope (v.expansions + c.expansions)) i
        (a_def h g (subst (λ (v : Typing (TypedLets → TypedLets)). ElaboratesLets e flags d rest v.scope c.made c.scope c.expansions) (sym i) l)))

    mutual
      sound_with : (x : ExprTree) (ty : Option ℕ) (s : Scope) (r : Typing TypedExpr) → elaborated_expr e flags d x ty s ≡ Some r → ElaboratesExpr e flags d x ty s r.made r.scope r.expansions
      sound_with (term_expr name args at) ty s r h =
          let m = then_gives (term_of e s name.text) _ h in
          ⊎_elim
          (λ c.
          let u = if_gives (is_callable flags m.0.kind) _ c.1 in
          let v = made_gives _ (args_with e flags (deeper_expr e flags d) args m.0.arg_tys s) u.1 in
          subst (λ (v : Typing TypedExpr). ElaboratesExpr e flags d (term_expr name args at) ty s v.made v.scope v.expansions) v.2
          (a_call m.1 c.0 u.0 (sound_args args m.0.arg_tys s v.0 v.1)))
          (λ c.
          let v = counted_gives (deeper_expr e flags d (wrapped_expr s c.1 at (term_expr name args at)) ty s) c.5 in
          let w = deeper (wrapped_expr s c.1 at (term_expr name args at)) ty s v.0 v.1 in
          subst (λ (v : Typing TypedExpr). ElaboratesExpr e flags d (term_expr name args at) ty s v.made v.scope v.expansions) v.2
          (subst (λ k. ElaboratesExpr e flags k (term_expr name args at) ty s v.0.made v.0.scope (suc v.0.expansions)) w.1
          (subst (λ k. ElaboratesExpr e flags (suc w.0) (term_expr name args at) k s v.0.made v.0.scope (suc v.0.expansions)) (sym c.2)
          (converted_call m.1 c.3 c.4 (subst (λ k. ElaboratesExpr e flags w.0 (wrapped_expr s c.1 at (term_expr name args at)) k s v.0.made v.0.scope v.0.expansions) c.2 w.2)))))
          (expected_gives e m.0.ret_ty ty _ (λ by. counted (deeper_expr e flags d (wrapped_expr s by at (term_expr name args at)) ty s)) m.2)
      sound_with (var_expr name at) ty s r h =
          let m = then_gives (var_of s name.text) _ h in
          ⊎_elim
          (λ c. subst (λ (v : Typing TypedExpr). ElaboratesExpr e flags d (var_expr name at) ty s v.made v.scope v.expansions) (same_Some _ _ c.1) (a_variable m.1 c.0))
          (λ c.
          let v = counted_gives (deeper_expr e flags d (wrapped_expr s c.1 at (var_expr name at)) ty s) c.5 in
          let w = deeper (wrapped_expr s c.1 at (var_expr name at)) ty s v.0 v.1 in
          subst (λ (v : Typing TypedExpr). ElaboratesExpr e flags d (var_expr name at) ty s v.made v.scope v.expansions) v.2
          (subst (λ k. ElaboratesExpr e flags k (var_expr name at) ty s v.0.made v.0.scope (suc v.0.expansions)) w.1
          (subst (λ k. ElaboratesExpr e flags (suc w.0) (var_expr name at) k s v.0.made v.0.scope (suc v.0.expansions)) (sym c.2)
          (converted_variable m.1 c.3 c.4 (subst (λ k. ElaboratesExpr e flags w.0 (wrapped_expr s c.1 at (var_expr name at)) k s v.0.made v.0.scope v.0.expansions) c.2 w.2)))))
          (expected_gives e m.0.ty ty (Some (plain (make_var m.0.ty m.0.id) s)) (λ by. counted (deeper_expr e flags d (wrapped_expr s by at (var_expr name at)) ty s)) m.2)
      sound_with (bool_expr b at) ty s r h =
          let c = if_gives (is_expected ty bool_type) _ h in
          subst (λ (v : Typing TypedExpr). ElaboratesExpr e flags d (bool_expr b at) ty s v.made v.scope v.expansions) (same_Some _ _ c.1) (truth_expr c.0)
      sound_with (int_expr z at) None s r h = absurd (cc)
      sound_with (int_expr z at) (Some own) s r h =
          let c = if_gives _ _ h in
          subst (λ (v : Typing TypedExpr). ElaboratesExpr e flags d (int_expr z at) (Some own) s v.made v.scope v.expansions) (same_Some _ _ c.1) (integer_expr c.0)
      sound_with (prim_expr name at) ty s r h =
          let m = then_gives (type_of_constant e s name.text) _ h in
          let c = if_gives (is_expected ty m.0) _ m.2 in
          subst (λ (v : Typing TypedExpr). ElaboratesExpr e flags d (prim_expr name at) ty s v.made v.scope v.expansions) (same_Some _ _ c.1) (constant_expr m.1 c.0)
      sound_with (let_expr defs body at) ty s r h =
          let m = scoped_gives (after_let s) (followed typed_let (lets_with e flags (deeper_expr e flags d) defs s) (λ a. elaborated_expr e flags d body ty a.scope)) h in
          let f = followed_gives _ (lets_with e flags (deeper_expr e flags d) defs s) (λ a. elaborated_expr e flags d body ty a.scope) m.1 in
          subst (λ (v : Typing TypedExpr). ElaboratesExpr e flags d (let_expr defs body at) ty s v.made v.scope v.expansions) m.2
          (subst (λ (v : Typing TypedExpr). ElaboratesExpr e flags d (let_expr defs body at) ty s v.made (after_let s v.scope) v.expansions) f.4
          (let_in (sound_lets defs s f.0 f.2) (sound_with body ty f.0.scope f.1 f.3)))

      sound_args : (xs : ExprTrees) (tys : List ℕ) (s : Scope) (r : Typing TypedExprs) → args_with e flags (deeper_expr e flags d) xs tys s ≡ Some r → ElaboratesArgs e flags d xs tys s r.made r.scope r.expansions
      sound_args no_expr [] s r h = subst (λ (v : Typing TypedExprs). ElaboratesArgs e flags d no_expr [] s v.made v.scope v.expansions) (same_Some _ _ h) no_arg
      sound_args (expr_and x rest) (ty ∷ tys) s r h =
          let m = followed_gives _ (elaborated_expr e flags d x (Some ty) s) (λ a. args_with e flags (deeper_expr e flags d) rest tys a.scope) h in
          subst (λ (v : Typing TypedExprs). ElaboratesArgs e flags d (expr_and x rest) (ty ∷ tys) s v.made v.scope v.expansions) m.4
          (an_arg (sound_with x (Some ty) s m.0 m.2) (sound_args rest tys m.0.scope m.1 m.3))
      sound_args _ _ s r h = absurd (cc)

      sound_lets : (ls : LetTrees) (s : Scope) (r : Typing TypedLets) → lets_with e flags (deeper_expr e flags d) ls s ≡ Some r → ElaboratesLets e flags d ls s r.made r.scope r.expansions
      sound_lets (let_and name ty value at rest) s r h = grind (arith, common_steps, sound_with value, sound_lets rest, then_gives, followed_gives, bound_gives, def_before)
      sound_lets no_let s r h = subst (λ (v : Typing TypedLets). ElaboratesLets e flags d no_let s v.made v.scope v.expansions) (same_Some _ _ h) no_def

  is_deeper : (d : ℕ) → IsDeeper d
  is_deeper zero x ty s r h = absurd (cc)
  is_deeper (suc d) x ty s r h = (d, refl, sound_with d (is_deeper d) x ty s r h)

  pub sound : (d : ℕ) (x : ExprTree) (ty : Option ℕ) (s : Scope) (r : Typing TypedExpr) → elaborated_expr e flags d x ty s ≡ Some r → ElaboratesExpr e flags d x ty s r.made r.scope r.expansions
  sound d = sound_with d (is_deeper d)

  mutual
    pub deepen : {d n : ℕ} {ty : Option ℕ} {x : ExprTree} {s t : Scope} {q : TypedExpr} → ElaboratesExpr e flags d x ty s q t n → ElaboratesExpr e flags (suc d) x ty s q t n
    deepen (a_call h i j g) = a_call h i j (deepen_args g)
    deepen (converted_call h i j g) = converted_call h i j (deepen g)
    deepen (a_variable h i) = a_variable h i
    deepen (converted_variable h i j g) = converted_variable h i j (deepen g)
    deepen (truth_expr h) = truth_expr h
    deepen (integer_expr h) = integer_expr h
    deepen (constant_expr h i) = constant_expr h i
    deepen (let_in g h) = let_in (deepen_lets g) (deepen h)

    deepen_args : {d n : ℕ} {tys : List ℕ} {xs : ExprTrees} {s t : Scope} {qs : TypedExprs} → ElaboratesArgs e flags d xs tys s qs t n → ElaboratesArgs e flags (suc d) xs tys s qs t n
    deepen_args no_arg = no_arg
    deepen_args (an_arg g h) = an_arg (deepen g) (deepen_args h)

    deepen_lets : {d n : ℕ} {ls : LetTrees} {s t : Scope} {ds : TypedLets} → ElaboratesLets e flags d ls s ds t n → ElaboratesLets e flags (suc d) ls s ds t n
    deepen_lets no_def = no_def
    deepen_lets (a_def h g i) = a_def h (deepen g) (deepen_lets i)

  pub raised : (k : ℕ) {d c n : ℕ} {ty : Option ℕ} {x : ExprTree} {s t : Scope} {q : TypedExpr} → k + d ≡ c → ElaboratesExpr e flags d x ty s q t n → ElaboratesExpr e flags c x ty s q t n
  raised zero {d} {c} {n = n} {ty = ty} {x = x} {s = s} {t = t} {q = q} h g = let i : d ≡ c = omega arith in subst (λ m. ElaboratesExpr e flags m x ty s q t n) i g
  raised (suc k) {d} {c} {n = n} {ty = ty} {x = x} {s = s} {t = t} {q = q} h g = let i : suc (k + d) ≡ c = omega arith in subst (λ m. ElaboratesExpr e flags m x ty s q t n) i (deepen (raised k refl g))

  -- two derivations of one expression agree
  pub one_way : {d c n m : ℕ} {ty : Option ℕ} {x : ExprTree} {s t u : Scope} {q r : TypedExpr}
      → ElaboratesExpr e flags d x ty s q t n → ElaboratesExpr e flags c x ty s r u m → (q ≡ r) × (t ≡ u) × (n ≡ m)
  one_way {d} {c} g h =
      let i : d + c ≡ c + d = omega arith in
      let same = same_Some _ _ (sym (complete (raised c refl g)) ∙ complete (raised d i h)) in
      (ap (λ (v : Typing TypedExpr). v.made) same, ap (λ (v : Typing TypedExpr). v.scope) same, ap (λ (v : Typing TypedExpr). v.expansions) same)
