-- Rules that elaborate hang together.
use Rattle.std.proofs.Common.{◌≡◌, ℕ, zero, suc, ◌+◌, ◌<◌, ◌≤◌, Bool, true, false, cond, eqb, List, [], ◌∷◌, ◌++◌, length, map, Option, Some, None, slice_get, refl, sym, subst, ◌∙◌, arith}
use Rattle.std.proofs.lemmas.Grind.{common_steps}
use Rattle.std.proofs.lemmas.Bool.{and_parts, eq-eqb}
use Rattle.std.proofs.lemmas.List.{length_push}
use Rattle.std.proofs.lemmas.Option.{same_Some, none-some}
use Rattle.model.specs.lists.Syntax.{PatternTree, PatternTrees, ExprTree, ExprTrees, LetTrees, IfLetTree}
use Rattle.model.specs.lists.Tables.{Flags, TermEntry, TermKindEntry}
use Rattle.model.specs.rules.Program.{Program}
use Rattle.model.specs.rules.Typed.{TypedPattern, TypedPatterns, typed_pattern_and, TypedExpr, TypedExprs, TypedLets, TypedVar, TypedIfLet, TypedRule}
use Rattle.model.specs.lists.Setting.{new_var, var_named, Setting, Scope, bound, entry_named, bool_type, expr_type, has_constructor, is_callable, on_lhs}
use Rattle.model.specs.lists.Names.{number, with_name}
use Rattle.model.specs.lists.Elaborated.{typed_list}
use Rattle.model.specs.lists.Elaborates.{ElaboratesPattern, ElaboratesParts, ElaboratesEach, new_name, bound_name, binding, a_truth, an_integer, a_constant, a_term, a_template, a_conversion, anything, all_of, no_part, part, no_more, one_more, ElaboratesExpr, ElaboratesArgs, ElaboratesLets, a_call, converted_call, a_variable, converted_variable, truth_expr, integer_expr, constant_expr, let_in, no_arg, an_arg, no_def, a_def, ElaboratesIfLets, no_iflet, an_iflet, a_rule}
use Rattle.model.specs.lists.Formed.{pattern_type, var_type, formed_pattern, formed_parts, formed_each, is_formed_expr, are_formed_args, formed_lets, formed_list, formed_iflets, program_in, RulesAreFormed}
use Rattle.laws_typing.proofs.Ranges.{reduced_is_literal}
use Rattle.laws_typing.proofs.Typings.{ne-eqb}
use Rattle.laws_typing.proofs.TypedResults.{pattern_at_type, expr_at_type}

-- the numbers of variables descend
abbrev Descends : ℕ → List TypedVar → Type 0
Descends n [] = Unit {0}
Descends n (v ∷ vs) = (v.id < n) × Descends v.id vs

abbrev InOrder : Scope → Type 0
InOrder s = Descends (length s.vars) s.visible

descends_more : (n m : ℕ) (vs : List TypedVar) → n ≤ m → Descends n vs → Descends m vs
descends_more n m [] le d = tt
descends_more n m (v ∷ vs) le d = (let l = d.0 in omega (arith, l, le), d.1)

abbrev number_and_type : TypedVar → ℕ × ℕ
number_and_type v = (v.id, v.ty)

abbrev usable : List TypedVar → List (ℕ × ℕ)
usable vs = map number_and_type vs

is_new : (n m : ℕ) (vs : List TypedVar) → n ≤ m → Descends n vs → var_type (usable vs) m ≡ None
is_new n m (v ∷ vs) le d = grind (arith, common_steps, is_new v.id m vs, ne-eqb v.id m, ne-eqb)
is_new n m [] le d = refl

below : (n name : ℕ) (vs : List TypedVar) (v : TypedVar) → Descends n vs → var_named name vs ≡ Some v → v.id < n
below n name (w ∷ ws) v d h = grind (arith, common_steps, below w.id name ws v d.1, same_Some)
below n name [] v d h = absurd (none-some v h)

has_its_type : (n name : ℕ) (vs : List TypedVar) (v : TypedVar) → Descends n vs → var_named name vs ≡ Some v → var_type (usable vs) v.id ≡ Some v.ty
has_its_type n name (w ∷ ws) v d h = grind (arith, common_steps, has_its_type w.id name ws v d.1, same_Some, eq-eqb, below, ne-eqb)
has_its_type n name [] v d h = absurd (none-some v h)

pub constructs : (flags : Flags) (k : TermKindEntry) → is_callable flags k ≡ true → has_constructor k ≡ true
constructs flags k h = grind (arith, common_steps, and_parts)

pub named_at : (name : ℕ) (ts : List TermEntry) (t : TermEntry) → entry_named name ts ≡ Some t → (k : ℕ) × (slice_get ts k ≡ Some t)
named_at name [] t h = absurd (none-some t h)
named_at name (u ∷ us) t h =
    elim (eqb u.name name) as (λ b. cond b (Some u) (entry_named name us) ≡ Some t → (k : ℕ) × (slice_get (u ∷ us) k ≡ Some t)) [
      | true ↦ λ i. (zero, i)
      | false ↦ λ i. let r = named_at name us t i in (suc r.0, r.1)
    ] h

kept : (s t : Scope) → InOrder s → t.visible ≡ s.visible → length s.vars ≤ length t.vars → InOrder t
kept s t o same le = subst (λ vs. Descends (length t.vars) vs) (sym same) (descends_more (length s.vars) (length t.vars) s.visible le o)

pushed : (s : Scope) (x : List ℕ) (ty : ℕ) → InOrder s → InOrder (bound s x ty)
pushed s x ty d = (let m = length_push s.vars (new_var s.vars (number (with_name s.names x) x) ty) in omega (arith, m), d)

-- each term stands at its id
abbrev pub TermsAtIds : List TermEntry → Type 0
TermsAtIds terms = (t : ℕ) (e : TermEntry) → slice_get terms t ≡ Some e → e.id ≡ t

module _ (e : Setting) (rules : List TypedRule) (at_ids : TermsAtIds e.terms) where
  abbrev p : Program
  p = program_in e rules

  pub at_id : (name : ℕ) (t : TermEntry) → entry_named name e.terms ≡ Some t → slice_get e.terms t.id ≡ Some t
  at_id name t h = let r = named_at name e.terms t h in subst (λ k. slice_get e.terms k ≡ Some t) (sym (at_ids r.0 t r.1)) r.1

  module _ (multi : Bool) where
    mutual
      pattern_formed : {d ty n : ℕ} {x : PatternTree} {s t : Scope} {q : TypedPattern} → ElaboratesPattern e multi d x ty s q t n → InOrder s → (formed_pattern p q (usable s.visible) ≡ Some (usable t.visible)) × InOrder t
      pattern_formed (new_name {ty = ty} {name = name} {s = s} h) o = (rw (eq-eqb ty ty refl, is_new (length s.vars) (length s.vars) s.visible (omega arith) o) refl, pushed s name.text ty o)
      pattern_formed (bound_name {ty = ty} {s = s} {v = v} h i) o = (rw (has_its_type (length s.vars) _ s.visible v o h, eq-eqb v.ty ty i) refl, o)
      pattern_formed (binding {ty = ty} {name = name} {t = t} {q = q} g h) o =
          let r = pattern_formed g o in
          (rw (eq-eqb (pattern_type q) ty (pattern_at_type e multi g), r.0, is_new (length t.vars) (length t.vars) t.visible (omega arith) r.1) refl, pushed t name.text ty r.1)
      pattern_formed (a_truth {ty = ty} h) o = (rw (eq-eqb ty bool_type h) refl, o)
      pattern_formed (an_integer {ty = ty} {z = z} h) o = (rw (reduced_is_literal (slice_get e.types ty) z h) refl, o)
      pattern_formed (a_constant {ty = ty} h) o = (rw (h, eq-eqb ty ty refl) refl, o)
      pattern_formed (a_term {ty = ty} {entry = entry} h i j k g) o = grind (arith, common_steps, parts_formed g o, at_id, eq-eqb)
      pattern_formed (a_template h i j k g) o = pattern_formed g o
      pattern_formed (a_conversion h i j g) o = pattern_formed g o
      pattern_formed anything o = (refl, o)
      pattern_formed (all_of g) o = each_formed g o

      parts_formed : {d n : ℕ} {tys : List ℕ} {xs : PatternTrees} {s t : Scope} {qs : TypedPatterns} → ElaboratesParts e multi d xs tys s qs t n → InOrder s → (formed_parts p qs tys (usable s.visible) ≡ Some (usable t.visible)) × InOrder t
      parts_formed (part {ty = ty} {q = q} g h) o = grind (arith, common_steps, pattern_formed g o, parts_formed h, eq-eqb, pattern_at_type)
      parts_formed no_part o = (refl, o)

      each_formed : {d ty n : ℕ} {xs : PatternTrees} {s t : Scope} {qs : TypedPatterns} → ElaboratesEach e multi d xs ty s qs t n → InOrder s → (formed_each p qs ty (usable s.visible) ≡ Some (usable t.visible)) × InOrder t
      each_formed (one_more {ty = ty} {q = q} g h) o = grind (arith, common_steps, pattern_formed g o, each_formed h, eq-eqb, pattern_at_type)
      each_formed no_more o = (refl, o)

  -- an expression leaves what can be used, and variables are only added
  module _ (flags : Flags) where
    mutual
      expr_formed : {d n : ℕ} {ty : Option ℕ} {x : ExprTree} {s t : Scope} {q : TypedExpr} → ElaboratesExpr e flags d x ty s q t n → InOrder s
          → (is_formed_expr p q (usable s.visible) ≡ true) × (t.visible ≡ s.visible) × (length s.vars ≤ length t.vars)
      expr_formed (a_call {s = s} {entry = entry} h i j g) o = grind (arith, common_steps, args_formed g o, at_id, eq-eqb, constructs)
      expr_formed (converted_call h i j g) o = expr_formed g o
      expr_formed (a_variable {s = s} {v = v} h i) o = (rw (has_its_type (length s.vars) _ s.visible v o h, eq-eqb v.ty v.ty refl) refl, refl, omega arith)
      expr_formed (converted_variable h i j g) o = expr_formed g o
      expr_formed (truth_expr h) o = (refl, refl, omega arith)
      expr_formed (integer_expr {ty = ty} {z = z} h) o = (reduced_is_literal (slice_get e.types ty) z h, refl, omega arith)
      expr_formed (constant_expr {own = own} h i) o = (rw (h, eq-eqb own own refl) refl, refl, omega arith)
      expr_formed (let_in {s = s} {t = t} {u = u} {q = q} g h) o = grind (arith, common_steps, lets_formed g o, expr_formed h, eq-eqb)

      args_formed : {d n : ℕ} {tys : List ℕ} {xs : ExprTrees} {s t : Scope} {qs : TypedExprs} → ElaboratesArgs e flags d xs tys s qs t n → InOrder s
          → (are_formed_args p qs tys (usable s.visible) ≡ true) × (t.visible ≡ s.visible) × (length s.vars ≤ length t.vars)
      args_formed no_arg o = (refl, refl, omega arith)
      args_formed (an_arg {ty = ty} {tys = tys} {s = s} {t = t} {q = q} {qs = qs} g h) o =
          let r = expr_formed g o in
          let between : InOrder t = kept s t o r.1 r.2 in
          let u = args_formed h between in
          let m = r.2 in
          let k = u.2 in
          let rest : are_formed_args p qs tys (usable s.visible) ≡ true = subst (λ vs. are_formed_args p qs tys (usable vs) ≡ true) r.1 u.0 in
          (rw (eq-eqb (expr_type q) ty (expr_at_type e flags refl g), r.0, rest) refl, u.1 ∙ r.1, omega (arith, m, k))

      lets_formed : {d n : ℕ} {ls : LetTrees} {s t : Scope} {ds : TypedLets} → ElaboratesLets e flags d ls s ds t n → InOrder s
          → (formed_lets p ds (usable s.visible) ≡ Some (usable t.visible)) × InOrder t × (length s.vars ≤ length t.vars)
      lets_formed no_def o = (refl, o, omega arith)
      lets_formed (a_def {own = own} {name = name} {s = s} {t = t} {u = u} {q = q} {ds = ds} h g i) o =
          let r = expr_formed g o in
          let between : InOrder t = kept s t o r.1 r.2 in
          let l = lets_formed i (pushed t name.text own between) in
          let m = r.2 in
          let k = l.2 in
          let c : length (t.vars ++ new_var t.vars (number (with_name t.names name.text) name.text) own ∷ []) ≡ length t.vars + 1 = length_push t.vars (new_var t.vars (number (with_name t.names name.text) name.text) own) in
          let rest : formed_lets p ds ((length t.vars, own) ∷ usable s.visible) ≡ Some (usable u.visible) =
          subst (λ vs. formed_lets p ds ((length t.vars, own) ∷ usable vs) ≡ Some (usable u.visible)) r.1 l.0 in
          (rw (eq-eqb (expr_type q) own (expr_at_type e flags refl g), r.0, is_new (length s.vars) (length t.vars) s.visible r.2 o, rest) refl, l.1, omega (arith, m, k, c))

  iflets_formed : (flags : Flags) {d n : ℕ} {is : List IfLetTree} {s t : Scope} {qs : List TypedIfLet} → ElaboratesIfLets e flags d is s qs t n → InOrder s → (formed_iflets p qs (usable s.visible) ≡ Some (usable t.visible)) × InOrder t
  iflets_formed flags no_iflet o = (refl, o)
  iflets_formed flags (an_iflet {s = s} {t = t} {u = u} {x = x} {q = q} g h i) o =
      let r = expr_formed (on_lhs flags) g o in
      let between : InOrder t = kept s t o r.1 r.2 in
      let b = pattern_formed flags.multi h between in
      let l = iflets_formed flags i b.1 in
      let here : formed_pattern p q (usable s.visible) ≡ Some (usable u.visible) = subst (λ vs. formed_pattern p q (usable vs) ≡ Some (usable u.visible)) r.1 b.0 in
      (rw (r.0, eq-eqb (pattern_type q) (expr_type x) (pattern_at_type e flags.multi h), here, l.0) refl, l.1)

  list_formed : (qs : TypedPatterns) (tys : List ℕ) (vars : List (ℕ × ℕ)) → formed_list p (typed_list qs) tys vars ≡ formed_parts p qs tys vars
  list_formed (typed_pattern_and q rest) (ty ∷ tys) vars = grind (arith, common_steps, list_formed rest tys)
  list_formed qs tys vars = grind (arith, common_steps)

pub rules_are_formed : RulesAreFormed
rules_are_formed e rules at_ids d id r names q t n (a_rule {entry = entry} {flags = flags} {s = s} {t = after} {u = u} {args = args} {iflets = iflets} {rhs = rhs} h i j k f g x) =
    let a = parts_formed e rules at_ids flags.multi f tt in
    let b = iflets_formed e rules at_ids flags g a.1 in
    let c = expr_formed e rules at_ids flags x b.1 in
    rw (at_id e rules at_ids _ entry i, list_formed e rules at_ids args entry.arg_tys [], a.0, b.0, eq-eqb (expr_type rhs) entry.ret_ty (expr_at_type e flags refl x), c.0) refl
