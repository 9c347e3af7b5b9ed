-- Where each term that expressions name has a constructor they are typed as if every term had one; else they aren't typed.
use Rattle.std.proofs.Common.{◌≡◌, ℕ, suc, ◌<◌, true, IsTrue, All, List, [], ◌∷◌, ◌++◌, length, Option, Some, None, option_map, slice_get, unwrap_or, refl, sym, ap, subst, ◌∙◌, inl, inr, arith}
use Rattle.std.specs.List.{flat_map}
use Rattle.std.proofs.lemmas.Bool.{cases_Bool}
use Rattle.std.proofs.lemmas.List.Elements.{All-nil, All-cons, All-head, All-tail, All-append}
use Rattle.std.proofs.lemmas.Option.{none-some, same_Some}
use Rattle.std.proofs.lemmas.Grind.{common_steps}
use Rattle.core_syntax.specs.Expressions.{terms_of_expr, terms_of_exprs, terms_of_lets}
use Rattle.model.proofs.Options.{options_one}
use Rattle.laws_typing.proofs.TwoTables.{that_passes}
use Rattle.model.specs.lists.Syntax.{Position, Name, ExprTree, term_expr, var_expr, ExprTrees, LetTrees, IfLetTree, RuleTree}
use Rattle.model.specs.lists.Names.{number, has_name}
use Rattle.model.specs.lists.Tables.{Flags, TermKindEntry, TermEntry}
use Rattle.model.specs.lists.TermTable.{root_name}
use Rattle.model.specs.rules.Outcome.{then_option}
use Rattle.model.specs.rules.Typed.{TypedExpr, make_term, TypedExprs, TypedLets, TypedIfLet, TypedRule}
use Rattle.model.specs.lists.Setting.{Setting, Scope, new_scope, entry_named, term_of, has_constructor, is_expected, is_callable, expr_converter, expr_type, on_lhs, declared_flags}
use Rattle.model.specs.lists.Typings.{Typing, followed}
use Rattle.model.specs.lists.Expansions.{term_name_at, wrapped_expr}
use Rattle.model.specs.lists.Elaborated.{elaborated_pattern, elaborated_parts, elaborated_expr, elaborated_iflet, elaborated_iflets, elaborated_sides, elaborated_rule, typed_iflet, root_parts, sides_of, last_sides, few_enough, most_nested, typed_rule, typed_rules, TypedRules, with_typed, with_own_name}
use Rattle.model.specs.lists.Elaborates.{ElaboratesExpr, ElaboratesArgs, ElaboratesLets, a_call, converted_call, a_variable, converted_variable, truth_expr, integer_expr, constant_expr, let_in, no_arg, an_arg, no_def, a_def, ElaboratesIfLets, no_iflet, an_iflet, ElaboratesRule, a_rule}
use Rattle.model.proofs.Members.{get_within}
use Rattle.model.proofs.Names.{found, absent, last, has_at, at_number}
use Rattle.laws_typing.proofs.FormedRules.{named_at, constructs}
use Rattle.laws_typing.proofs.Typings.{then_gives, followed_gives}
use Rattle.laws_typing.proofs.TypedRules.{rules_agree, typed_within_limits}
use Rattle.laws_typing.proofs.TypedPatterns as patterns
use Rattle.laws_typing.proofs.TypedExprs as exprs
use Rattle.core_types.proofs.RightTypes.{all_left, all_right}
use Rattle.core_rules.specs.Constructors.{has_constructor_if_there, AreMadeUses, uses_of_rule, AreTermsNamed}
use Rattle.laws_errors.specs.AllMade.{made_kind, made_entry, all_made}
use Rattle.core_rules.specs.RuleLists.{rules_within}
use Rattle.core_rules.specs.RuleReadings.{iflets_reading, ends_reading, sides_reading, rule_reading}
use Rattle.core_rules.proofs.MadeSettings.{term_made, converter_made}
use Rattle.core_rules.proofs.NamesKept.{Kept, kept_here, kept_on, kept_with, pattern_keeps, parts_keep, expr_keeps, lets_keep}

-- 1. lists and options
pub with_some : (q : TypedRule) (o : Option TypedRules) (l : TypedRules) → with_typed q o ≡ Some l → (m : TypedRules) × (o ≡ Some m) × (l ≡ record { rules = q ∷ m.rules; names = m.names })
with_some q o l h = grind (arith, common_steps, none-some, same_Some)

then_same : {X Y : Type 0} (o : Option X) (f g : X → Option Y) → ((x : X) → o ≡ Some x → f x ≡ g x) → then_option o f ≡ then_option o g
then_same o f g h = grind (arith, common_steps)

next_same : {X Y Z : Type 0} (f : X → Y → Z) (o : Option (Typing X)) (next more : Typing X → Option (Typing Y)) → ((a : Typing X) → o ≡ Some a → next a ≡ more a) → followed f o next ≡ followed f o more
next_same f o next more h = grind (arith, common_steps)

none_of : (o : Option TermEntry) → ((t : TermEntry) → o ≡ Some t → ⊥) → o ≡ None
none_of o h = grind (arith, common_steps)

pub mapped : (o : Option TermEntry) (r : TermEntry) → option_map made_entry o ≡ Some r → (x : TermEntry) × (o ≡ Some x) × (made_entry x ≡ r)
mapped o r h = grind (arith, common_steps, none-some, same_Some)

-- 2. constructors
callable_then : (flags : Flags) (k : TermKindEntry) → is_callable flags k ≡ true → is_callable flags (made_kind k) ≡ true
callable_then flags k h = grind arith

callable_before : (flags : Flags) (k : TermKindEntry) → is_callable flags (made_kind k) ≡ true → has_constructor k ≡ true → is_callable flags k ≡ true
callable_before flags k h c = grind arith

-- a converter of expressions is one of the terms, and has a constructor
converter_is : (e : Setting) (i o : ℕ) (t : TermEntry) → expr_converter e i o ≡ Some t → (k : ℕ) × (slice_get e.terms k ≡ Some t) × (has_constructor t.kind ≡ true)
converter_is e i o t h = grind (arith, common_steps, that_passes, then_gives)

pub named_is : (name : ℕ) (ts : List TermEntry) (t : TermEntry) → entry_named name ts ≡ Some t → t.name ≡ name
named_is name [] t h = absurd (none-some t h)
named_is name (u ∷ us) t h = grind (arith, common_steps, named_is name us t, same_Some)

-- 3. what is typed is typed where each term has a constructor
module _ (e : Setting) (flags : Flags) where
  mutual
    expr_made : {d n : ℕ} {ty : Option ℕ} {x : ExprTree} {s t : Scope} {q : TypedExpr} → ElaboratesExpr e flags d x ty s q t n → ElaboratesExpr (all_made e) flags d x ty s q t n
    expr_made (a_call {name = name} {s = s} {entry = entry} h i j g) = a_call {entry = made_entry entry} (term_made e s name.text (Some entry) h) i (callable_then flags entry.kind j) (args_made g)
    expr_made (converted_call {ty = ty} {name = name} {s = s} {entry = entry} {by = by} h i j g) =
        converted_call {entry = made_entry entry} {by = made_entry by} (term_made e s name.text (Some entry) h) i (converter_made e entry.ret_ty ty (Some by) j) (expr_made g)
    expr_made (a_variable h i) = a_variable h i
    expr_made (converted_variable {ty = ty} {v = v} {by = by} h i j g) = converted_variable {by = made_entry by} h i (converter_made e v.ty ty (Some by) j) (expr_made g)
    expr_made (truth_expr h) = truth_expr h
    expr_made (integer_expr h) = integer_expr h
    expr_made (constant_expr h i) = constant_expr h i
    expr_made (let_in g h) = let_in (lets_made g) (expr_made h)

    args_made : {d n : ℕ} {xs : ExprTrees} {tys : List ℕ} {s t : Scope} {qs : TypedExprs} → ElaboratesArgs e flags d xs tys s qs t n → ElaboratesArgs (all_made e) flags d xs tys s qs t n
    args_made no_arg = no_arg
    args_made (an_arg g h) = an_arg (expr_made g) (args_made h)

    lets_made : {d n : ℕ} {defs : LetTrees} {s t : Scope} {qs : TypedLets} → ElaboratesLets e flags d defs s qs t n → ElaboratesLets (all_made e) flags d defs s qs t n
    lets_made no_def = no_def
    lets_made (a_def h g i) = a_def h (expr_made g) (lets_made i)

module _ (e : Setting) (names : List (List ℕ)) (k : AreTermsNamed e names) where
  abbrev P : Position × Name → Type 0
  P u = IsTrue (has_constructor_if_there (entry_named (number names u.1.text) e.terms))

  -- 4. terms by their names
  term_below : (n : ℕ) (t : TermEntry) → entry_named n e.terms ≡ Some t → n < length names
  term_below n t h = let a = named_at n e.terms t h in subst (λ (j : ℕ). j < length names) (named_is n e.terms t h) (k.met a.0 t a.1)

  -- a text is that of the same term wherever the names are kept
  pub same_entry : (ms : List (List ℕ)) → Kept names ms → (x : List ℕ) → entry_named (number ms x) e.terms ≡ entry_named (number names x) e.terms
  same_entry ms w x = elim (cases_Bool (has_name names x)) [
    | inl there ↦ grind (arith, common_steps, found names x there, found ms x, has_at ms (number names x) x)
    | inr none ↦
        none_of (entry_named (number ms x) e.terms) (λ t h.
        let y = get_within names (number ms x) (term_below (number ms x) t h) in
        absent names x none (number ms x) (y.1 ∙ ap (λ (z : List ℕ). Some z) (at_number ms x y.0 (w.at (number ms x) y.0 y.1))))
        ∙ sym (none_of (entry_named (number names x) e.terms) (λ t h. let l = term_below (number names x) t h in let m = last names x none in omega (arith, l, m)))
  ]

  -- the text of a term's name is that of the term
  same_term : (ms : List (List ℕ)) → Kept names ms → (i : ℕ) (t : TermEntry) → slice_get e.terms i ≡ Some t → entry_named (number names (unwrap_or (slice_get ms t.name) [])) e.terms ≡ Some t
  same_term ms w i t h = grind (arith, common_steps, get_within names t.name (k.met i t h), found names, has_at names t.name)

  -- 5. what is typed names terms with constructors
  module _ (flags : Flags) where
    mutual
      expr_uses : {d n : ℕ} {ty : Option ℕ} {x : ExprTree} {s t : Scope} {q : TypedExpr} → ElaboratesExpr e flags d x ty s q t n → Kept names s.names → AreMadeUses e names (terms_of_expr x)
      expr_uses (a_call {name = name} {args = args} {at = at} {s = s} {entry = entry} h i j g) w =
          All-cons P (at, name) (terms_of_exprs args) (ap has_constructor_if_there (sym (same_entry s.names w name.text) ∙ h) ∙ constructs flags entry.kind j) (args_uses g w)
      expr_uses (converted_call {name = name} {args = args} {at = at} {s = s} {by = by} h i j g) w =
          all_left P (terms_of_expr (term_expr name args at)) [] (All-tail P (at, term_name_at s by at) (terms_of_expr (term_expr name args at) ++ []) (expr_uses g w))
      expr_uses (let_in {defs = defs} {body = body} g h) w = All-append P (terms_of_lets defs) (terms_of_expr body) (lets_uses g w) (expr_uses h (kept_on w (lets_keep e flags g)))
      expr_uses _ w = All-nil P

      args_uses : {d n : ℕ} {xs : ExprTrees} {tys : List ℕ} {s t : Scope} {qs : TypedExprs} → ElaboratesArgs e flags d xs tys s qs t n → Kept names s.names → AreMadeUses e names (terms_of_exprs xs)
      args_uses no_arg w = All-nil P
      args_uses (an_arg {x = x} {rest = rest} g h) w = All-append P (terms_of_expr x) (terms_of_exprs rest) (expr_uses g w) (args_uses h (kept_on w (expr_keeps e flags g)))

      lets_uses : {d n : ℕ} {defs : LetTrees} {s t : Scope} {qs : TypedLets} → ElaboratesLets e flags d defs s qs t n → Kept names s.names → AreMadeUses e names (terms_of_lets defs)
      lets_uses no_def w = All-nil P
      lets_uses (a_def {name = name} {value = value} {rest = rest} {s = s} {t = t} h g i) w =
          let v = kept_on w (kept_with s.names name.text) in
          All-append P (terms_of_expr value) (terms_of_lets rest) (expr_uses g v) (lets_uses i (kept_on v (kept_on (expr_keeps e flags g) (kept_with t.names name.text))))

    -- 6. and back
    -- a converter's use names a term with a constructor
    converter_head : (s : Scope) → Kept names s.names → (i o : ℕ) (by own : TermEntry) → made_entry own ≡ by → expr_converter e i o ≡ Some own → IsTrue (has_constructor_if_there (entry_named (number names (unwrap_or (slice_get s.names by.name) [])) e.terms))
    converter_head s w i o by own same h = grind (arith, common_steps, converter_is, same_term)

    call_back : {d n : ℕ} {ty : Option ℕ} {name : Name} {args : ExprTrees} {at : Position} {s t : Scope} {qs : TypedExprs} (own entry : TermEntry) → made_entry own ≡ entry → term_of e s name.text ≡ Some own → has_constructor own.kind ≡ true
        → is_expected ty entry.ret_ty ≡ true → is_callable flags entry.kind ≡ true → ElaboratesArgs e flags d args entry.arg_tys s qs t n
        → ElaboratesExpr e flags d (term_expr name args at) ty s (make_term entry.ret_ty entry.id qs) t n
    call_back {d} {n} {ty} {name} {args} {at} {s} {t} {qs} own entry same h c =
        subst (λ (v : TermEntry). is_expected ty v.ret_ty ≡ true → is_callable flags v.kind ≡ true → ElaboratesArgs e flags d args v.arg_tys s qs t n → ElaboratesExpr e flags d (term_expr name args at) ty s (make_term v.ret_ty v.id qs) t n) same
        (λ i j g. a_call {entry = own} h i (callable_before flags own.kind j c) g)

    mutual
      expr_back : {d n : ℕ} {ty : Option ℕ} {x : ExprTree} {s t : Scope} {q : TypedExpr} → ElaboratesExpr (all_made e) flags d x ty s q t n → Kept names s.names → AreMadeUses e names (terms_of_expr x) → ElaboratesExpr e flags d x ty s q t n
      expr_back (a_call {name = name} {args = args} {at = at} {s = s} {entry = entry} h i j g) w m =
          let f = mapped (term_of e s name.text) entry (sym (term_made e s name.text (term_of e s name.text) refl) ∙ h) in
          let c = sym (ap has_constructor_if_there (sym (same_entry s.names w name.text) ∙ f.1)) ∙ All-head P (at, name) (terms_of_exprs args) m in
          call_back f.0 entry f.2 f.1 c i j (args_back g w (All-tail P (at, name) (terms_of_exprs args) m))
      expr_back (converted_call {d = d} {ty = ty} {n = n} {name = name} {args = args} {at = at} {s = s} {t = t} {entry = entry} {by = by} {q = q} h i j g) w m =
          let f = mapped (term_of e s name.text) entry (sym (term_made e s name.text (term_of e s name.text) refl) ∙ h) in
          let b = mapped (expr_converter e entry.ret_ty ty) by (sym (converter_made e entry.ret_ty ty (expr_converter e entry.ret_ty ty) refl) ∙ j) in
          let r : f.0.ret_ty ≡ entry.ret_ty = ap (λ (v : TermEntry). v.ret_ty) f.2 in
          let whole = term_expr name args at in
          let inner = expr_back g w (All-cons P (at, term_name_at s by at) (terms_of_expr whole ++ []) (converter_head s w entry.ret_ty ty by b.0 b.2 b.1) (All-append P (terms_of_expr whole) [] m (All-nil P))) in
          converted_call {entry = f.0} {by = b.0} f.1 (λ y. i (sym r ∙ y)) (ap (λ z. expr_converter e z ty) r ∙ b.1)
          (subst (λ (v : TermEntry). ElaboratesExpr e flags d (wrapped_expr s v at whole) (Some ty) s q t n) (sym b.2) inner)
      expr_back (a_variable h i) w m = a_variable h i
      expr_back (converted_variable {d = d} {ty = ty} {n = n} {name = name} {at = at} {s = s} {t = t} {v = v} {by = by} {q = q} h i j g) w m =
          let b = mapped (expr_converter e v.ty ty) by (sym (converter_made e v.ty ty (expr_converter e v.ty ty) refl) ∙ j) in
          let inner = expr_back g w (All-cons P (at, term_name_at s by at) [] (converter_head s w v.ty ty by b.0 b.2 b.1) (All-nil P)) in
          converted_variable {by = b.0} h i b.1 (subst (λ (u : TermEntry). ElaboratesExpr e flags d (wrapped_expr s u at (var_expr name at)) (Some ty) s q t n) (sym b.2) inner)
      expr_back (truth_expr h) w m = truth_expr h
      expr_back (integer_expr h) w m = integer_expr h
      expr_back (constant_expr h i) w m = constant_expr h i
      expr_back (let_in {defs = defs} {body = body} g h) w m =
          let_in (lets_back g w (all_left P (terms_of_lets defs) (terms_of_expr body) m)) (expr_back h (kept_on w (lets_keep (all_made e) flags g)) (all_right P (terms_of_lets defs) (terms_of_expr body) m))

      args_back : {d n : ℕ} {xs : ExprTrees} {tys : List ℕ} {s t : Scope} {qs : TypedExprs} → ElaboratesArgs (all_made e) flags d xs tys s qs t n → Kept names s.names → AreMadeUses e names (terms_of_exprs xs) → ElaboratesArgs e flags d xs tys s qs t n
      args_back no_arg w m = no_arg
      args_back (an_arg {x = x} {rest = rest} g h) w m =
          an_arg (expr_back g w (all_left P (terms_of_expr x) (terms_of_exprs rest) m)) (args_back h (kept_on w (expr_keeps (all_made e) flags g)) (all_right P (terms_of_expr x) (terms_of_exprs rest) m))

      lets_back : {d n : ℕ} {defs : LetTrees} {s t : Scope} {qs : TypedLets} → ElaboratesLets (all_made e) flags d defs s qs t n → Kept names s.names → AreMadeUses e names (terms_of_lets defs) → ElaboratesLets e flags d defs s qs t n
      lets_back no_def w m = no_def
      lets_back (a_def {name = name} {value = value} {rest = rest} {s = s} {t = t} h g i) w m =
          let v = kept_on w (kept_with s.names name.text) in
          a_def h (expr_back g v (all_left P (terms_of_expr value) (terms_of_lets rest) m))
          (lets_back i (kept_on v (kept_on (expr_keeps (all_made e) flags g) (kept_with t.names name.text))) (all_right P (terms_of_expr value) (terms_of_lets rest) m))

    pub expr_same : (d : ℕ) (x : ExprTree) (ty : Option ℕ) (s : Scope) → Kept names s.names → AreMadeUses e names (terms_of_expr x) → elaborated_expr (all_made e) flags d x ty s ≡ elaborated_expr e flags d x ty s
    expr_same d x ty s w m =
        options_one (elaborated_expr (all_made e) flags d x ty s) (elaborated_expr e flags d x ty s)
        (λ a h. exprs.complete e flags (expr_back (exprs.sound (all_made e) flags d x ty s a h) w m))
        (λ a h. exprs.complete (all_made e) flags (expr_made e flags (exprs.sound e flags d x ty s a h)))

  -- 7. rules
  module _ (flags : Flags) (d : ℕ) where
    abbrev iflet_uses : List IfLetTree → List (Position × Name)
    iflet_uses is = flat_map (λ i. terms_of_expr i.expr) is

    iflet_keeps : (i : IfLetTree) (s : Scope) (a : Typing TypedIfLet) → elaborated_iflet e flags d i s ≡ Some a → Kept s.names a.scope.names
    iflet_keeps i s a h =
        let f = followed_gives typed_iflet (elaborated_expr e (on_lhs flags) d i.expr None s) (λ b. elaborated_pattern e flags.multi d i.pattern (expr_type b.made) b.scope) h in
        kept_on (expr_keeps e (on_lhs flags) (exprs.sound e (on_lhs flags) d i.expr None s f.0 f.2))
        (subst (λ (v : Typing TypedIfLet). Kept f.0.scope.names v.scope.names) f.4 (pattern_keeps e flags.multi (patterns.sound e flags.multi d i.pattern (expr_type f.0.made) f.0.scope f.1 f.3)))

    iflets_keep : (is : List IfLetTree) (s : Scope) (a : Typing (List TypedIfLet)) → elaborated_iflets e flags d is s ≡ Some a → Kept s.names a.scope.names
    iflets_keep [] s a h = subst (λ (v : Typing (List TypedIfLet)). Kept s.names v.scope.names) (same_Some _ _ h) kept_here
    iflets_keep (i ∷ is) s a h =
        let f = followed_gives _ (elaborated_iflet e flags d i s) (λ b. elaborated_iflets e flags d is b.scope) h in
        kept_on (iflet_keeps i s f.0 f.2) (subst (λ (v : Typing (List TypedIfLet)). Kept f.0.scope.names v.scope.names) f.4 (iflets_keep is f.0.scope f.1 f.3))

    iflets_same : (is : List IfLetTree) (s : Scope) → Kept names s.names → AreMadeUses e names (iflet_uses is) → iflets_reading is flags e d s ≡ elaborated_iflets e flags d is s
    iflets_same [] s w m = refl
    iflets_same (i ∷ is) s w m =
        ap (λ o. followed ◌∷◌ (followed typed_iflet o (λ a. elaborated_pattern e flags.multi d i.pattern (expr_type a.made) a.scope)) (λ a. iflets_reading is flags e d a.scope))
        (expr_same (on_lhs flags) d i.expr None s w (all_left P (terms_of_expr i.expr) (iflet_uses is) m))
        ∙ next_same ◌∷◌ (elaborated_iflet e flags d i s) (λ a. iflets_reading is flags e d a.scope) (λ a. elaborated_iflets e flags d is a.scope)
        (λ a h. iflets_same is a.scope (kept_on w (iflet_keeps i s a h)) (all_right P (terms_of_expr i.expr) (iflet_uses is) m))

    module _ (r : RuleTree) (t : TermEntry) (m : AreMadeUses e names (uses_of_rule r)) where
      ends_same : (s : Scope) → Kept names s.names → ends_reading r flags t e d s ≡ followed last_sides (elaborated_iflets e flags d r.iflets s) (λ b. elaborated_expr e flags d r.expr (Some t.ret_ty) b.scope)
      ends_same s w =
          ap (λ o. followed last_sides o (λ b. elaborated_expr (all_made e) flags d r.expr (Some t.ret_ty) b.scope)) (iflets_same r.iflets s w (all_left P (iflet_uses r.iflets) (terms_of_expr r.expr) m))
          ∙ next_same last_sides (elaborated_iflets e flags d r.iflets s) (λ b. elaborated_expr (all_made e) flags d r.expr (Some t.ret_ty) b.scope) (λ b. elaborated_expr e flags d r.expr (Some t.ret_ty) b.scope)
          (λ b h. expr_same flags d r.expr (Some t.ret_ty) b.scope (kept_on w (iflets_keep r.iflets s b h)) (all_right P (iflet_uses r.iflets) (terms_of_expr r.expr) m))

      sides_same : (s : Scope) → Kept names s.names → sides_reading r flags t e d s ≡ elaborated_sides e flags d r t s
      sides_same s w =
          next_same sides_of (elaborated_parts e flags.multi d (root_parts r.pattern) t.arg_tys s) (λ a. ends_reading r flags t e d a.scope)
          (λ a. followed last_sides (elaborated_iflets e flags d r.iflets a.scope) (λ b. elaborated_expr e flags d r.expr (Some t.ret_ty) b.scope))
          (λ a h. ends_same a.scope (kept_on w (parts_keep e flags.multi (patterns.parts_sound e flags.multi d (root_parts r.pattern) t.arg_tys s a h))))

  module _ (flags : Flags) where
    derived_keep : {d n : ℕ} {is : List IfLetTree} {s t : Scope} {qs : List TypedIfLet} → ElaboratesIfLets e flags d is s qs t n → Kept s.names t.names
    derived_keep no_iflet = kept_here
    derived_keep (an_iflet g h i) = kept_on (expr_keeps e (on_lhs flags) g) (kept_on (pattern_keeps e flags.multi h) (derived_keep i))

    derived_uses : {d n : ℕ} {is : List IfLetTree} {s t : Scope} {qs : List TypedIfLet} → ElaboratesIfLets e flags d is s qs t n → Kept names s.names → AreMadeUses e names (flat_map (λ i. terms_of_expr i.expr) is)
    derived_uses no_iflet w = All-nil P
    derived_uses (an_iflet {i = i} {rest = rest} g h x) w =
        All-append P (terms_of_expr i.expr) (flat_map (λ i. terms_of_expr i.expr) rest) (expr_uses (on_lhs flags) g w) (derived_uses x (kept_on w (kept_on (expr_keeps e (on_lhs flags) g) (pattern_keeps e flags.multi h))))

  pub own_kept : (name : Option Name) (s : Scope) → Kept s.names (with_own_name name s).names
  own_kept None s = kept_here
  own_kept (Some n) s = kept_with s.names n.text

  rule_keeps : {d id n : ℕ} {r : RuleTree} {ms : List (List ℕ)} {q : TypedRule} {t : Scope} → ElaboratesRule e d id r ms q t n → Kept ms t.names
  rule_keeps {r = r} (a_rule {flags = flags} {u = u} h i j o f g x) = kept_on (parts_keep e flags.multi f) (kept_on (derived_keep flags g) (kept_on (expr_keeps e flags x) (own_kept r.name u)))

  derived_rule_uses : {d id n : ℕ} {r : RuleTree} {ms : List (List ℕ)} {q : TypedRule} {t : Scope} → ElaboratesRule e d id r ms q t n → Kept names ms → AreMadeUses e names (uses_of_rule r)
  derived_rule_uses {r = r} (a_rule {flags = flags} h i j o f g x) w =
      let v = kept_on w (parts_keep e flags.multi f) in
      All-append P (flat_map (λ i. terms_of_expr i.expr) r.iflets) (terms_of_expr r.expr) (derived_uses flags g v) (expr_uses flags x (kept_on v (derived_keep flags g)))

  -- a rule whose terms have constructors is read as if each had one
  pub rule_same : (id d : ℕ) (r : RuleTree) (ms : List (List ℕ)) → Kept names ms → AreMadeUses e names (uses_of_rule r) → rule_reading r id e d (new_scope ms) ≡ elaborated_rule e d id r ms
  rule_same id d r ms w m =
      then_same (root_name r.pattern) _ _ (λ n _.
      then_same (term_of e (new_scope ms) n.text) _ _ (λ t _.
      then_same (declared_flags t.kind) _ _ (λ flags _. grind (arith, common_steps, sides_same flags d r))))

  -- one that has a typed rule has terms with constructors
  pub rule_uses : (id d : ℕ) (r : RuleTree) (ms : List (List ℕ)) (a : Typing TypedRule) → Kept names ms → elaborated_rule e d id r ms ≡ Some a → AreMadeUses e names (uses_of_rule r)
  rule_uses id d r ms a w h = derived_rule_uses ((rules_agree e d id r ms a.made a.scope a.expansions).1 h) w

  -- 8. lists of rules
  abbrev AreMadeRules : List RuleTree → Type 0
  AreMadeRules rs = All (λ r. AreMadeUses e names (uses_of_rule r)) rs

  rule_derived : (id : ℕ) (r : RuleTree) (ms : List (List ℕ)) (a : Typing TypedRule) → typed_rule e id r ms ≡ Some a → ElaboratesRule e most_nested id r ms a.made a.scope a.expansions
  rule_derived id r ms a h = ((typed_within_limits e id r ms a.made a.scope a.expansions).1 h).0

  pub rules_same : (id : ℕ) (rs : List RuleTree) (ms : List (List ℕ)) → Kept names ms → AreMadeRules rs → rules_within e id rs ms ≡ typed_rules e id rs ms
  rules_same id [] ms w m = refl
  rules_same id (r ∷ rs) ms w m =
      ap (λ o. then_option (few_enough o) (λ a. with_typed a.made (rules_within e (suc id) rs a.scope.names))) (rule_same id most_nested r ms w (All-head (λ r. AreMadeUses e names (uses_of_rule r)) r rs m))
      ∙ then_same (typed_rule e id r ms) _ _ (λ a h.
      ap (with_typed a.made) (rules_same (suc id) rs a.scope.names (kept_on w (rule_keeps (rule_derived id r ms a h))) (All-tail (λ r. AreMadeUses e names (uses_of_rule r)) r rs m)))

  pub rules_uses : (id : ℕ) (rs : List RuleTree) (ms : List (List ℕ)) (l : TypedRules) → Kept names ms → typed_rules e id rs ms ≡ Some l → AreMadeRules rs
  rules_uses id [] ms l w h = All-nil (λ r. AreMadeUses e names (uses_of_rule r))
  rules_uses id (r ∷ rs) ms l w h =
      let a = then_gives (typed_rule e id r ms) (λ a. with_typed a.made (typed_rules e (suc id) rs a.scope.names)) h in
      let g = rule_derived id r ms a.0 a.1 in
      let rest = with_some a.0.made (typed_rules e (suc id) rs a.0.scope.names) l a.2 in
      All-cons (λ r. AreMadeUses e names (uses_of_rule r)) r rs (derived_rule_uses g w) (rules_uses (suc id) rs a.0.scope.names rest.0 (kept_on w (rule_keeps g)) rest.1)
