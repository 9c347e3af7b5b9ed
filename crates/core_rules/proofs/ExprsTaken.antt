-- What expressions without parts do as their steps say, and what the use of a name in an expression leads to.
use Rattle.std.proofs.Common.{◌≡◌, ℕ, ℤ, suc, Bool, true, false, cond, eqb, List, [], ◌∷◌, ◌++◌, length, Option, Some, None, is_some, option_and_then, slice_get, Ok, Err, refl, sym, ap, subst, ◌∙◌, inl, arith}
use Rattle.std.proofs.lemmas.List.{map-append}
use Rattle.std.proofs.lemmas.Option.{none-some}
use Rattle.std.proofs.lemmas.Grind.{common_steps}
use Rattle.model.specs.lists.Syntax.{Position, Name, ExprTree, ExprTrees, term_expr, var_expr, bool_expr, int_expr, prim_expr}
use Rattle.model.specs.lists.Names.{number, with_name}
use Rattle.model.specs.lists.Ranges.{reduced}
use Rattle.model.specs.lists.Tables.{Flags, TermKindEntry, TermEntry}
use Rattle.model.specs.lists.Expansions.{term_name_at, wrapped_expr}
use Rattle.model.specs.lists.Setting.{Setting, Scope, met, var_of, that, has_constructor, is_expected, converter, expr_converter}
use Rattle.model.specs.rules.Values.{is_atom_type}
use Rattle.model.specs.rules.Typed.{TypedExpr, TypedExprs, TypedVar, make_term, make_var, make_bool, make_int, make_prim}
use Rattle.model.proofs.Names.{known_name}
use Rattle.laws_errors.specs.Steps.{unknown_constructor, unknown_variable, unknown_constant, variable_type, constructor_type, constant_type, no_truth, untyped_integer, argument_count, no_constructor, Why, Mistake, Step, unless, here, nothing, noting, made_step}
use Rattle.laws_errors.specs.ExprSteps.{expr_list, converted_or, expected_step, forbidden, called_step, used_step, made_constant_step, deeper_expr_step}
use Rattle.core_syntax.specs.declared.syntax.Error.{Error}
use Rattle.core_syntax.specs.declared.syntax.Expr.{Expr}
use Rattle.core_syntax.specs.SyntaxViews.{expr_views}
use Rattle.core_types.specs.Envs.{names_of, symbol_of, constant_at, IsInterned}
use Rattle.core_types.specs.TypeViews.{type_views}
use Rattle.core_terms.specs.Terms.{has_constructor_kind}
use Rattle.core_typed.specs.Elaborating.{place_unless, NotesEachAt}
use Rattle.core_typed.proofs.NotedErrors.{none_at, both_at, may_note}
use Rattle.core_rules.specs.declared.term_env.TermEnv.{TermEnv}
use Rattle.core_rules.specs.declared.typing.progress.Stop.{Stop}
use Rattle.core_rules.specs.ExprTaking.{expr_steps, args_steps}
use Rattle.core_rules.specs.ExprUses.{found_expr_converter, declared_converter, inside_call}
use Rattle.core_rules.specs.PatternTaking.{made_end}
use Rattle.core_rules.specs.PatternUses.{found_term, found_converter}
use Rattle.core_rules.specs.Progress.{newest, Remains, CountsOne, Counts}
use Rattle.core_rules.specs.Taking.{places_of, Took, took, EndsAs, StopsBy, LeadsOn}
use Rattle.core_rules.specs.ShownSettings.{Standing, IsSettingOf, Shows, Wherever}
use Rattle.core_rules.proofs.ExpansionsTaken.{counted_shows, Nested, expansion, went_deeper, expansion_stops}
use Rattle.core_rules.proofs.ExprUsing.{var_found}
use Rattle.core_rules.proofs.PatternLeaves.{constant_is}
use Rattle.core_rules.proofs.PatternUsing.{found_so, that_same}
use Rattle.core_rules.proofs.Scopes.{is_met, still, met_shows}
use Rattle.core_rules.proofs.Taken.{taken_as, noted, tested, made}

-- 1. expressions without parts
module _ (env : TermEnv) (old new : Standing) (at : Position) (flags : Flags) (ty : Option ℕ) (d : ℕ) (r : Remains old.work new.work) where
  module _ (same : names_of new.tyenv ≡ names_of old.tyenv) where
    pub truth_made : (b : Bool) → NotesEachAt (place_unless (is_expected ty 0) at) old.work.errors.items new.work.errors.items → EndsAs env old new (expr_steps (bool_expr b at) flags ty d) (Ok (Some (make_bool 0 b)))
    truth_made b n = (may_note n, λ e s is sh. tested old new (is_expected ty 0) (no_truth ty b) at (make_bool 0 b) (make_bool 0 b) s refl n (still old new s same r sh) r.expansions)

    -- an integer where any type may be
    pub untyped_made : (z : ℤ) → ty ≡ None → NotesEachAt (at ∷ []) old.work.errors.items new.work.errors.items → EndsAs env old new (expr_steps (int_expr z at) flags ty d) (Ok None)
    untyped_made z none n = (
      may_note n,
      λ e s is sh.
          subst (λ (o : Option ℕ). Took old new (expr_steps (int_expr z at) flags o d e old.work.expansions s) (Ok None)) (sym none)
          (took None s 0 (record { why = untyped_integer; at = at } ∷ []) n (still old new s same r sh) (let k = r.expansions in omega (arith, k))),
    )

    pub integer_made : (z n : ℤ) (own : ℕ) → ty ≡ Some own → n ≡ reduced (slice_get (type_views old.tyenv.types.items) own) z
        → NotesEachAt (place_unless (is_atom_type (slice_get (type_views old.tyenv.types.items) own)) at) old.work.errors.items new.work.errors.items
        → EndsAs env old new (expr_steps (int_expr z at) flags ty d) (Ok (Some (make_int own n)))
    integer_made z n own typed stands notes = (
      may_note notes,
      λ e s is sh.
          subst (λ (o : Option ℕ). Took old new (expr_steps (int_expr z at) flags o d e old.work.expansions s) (Ok (Some (make_int own n)))) (sym typed)
          (grind (arith, common_steps, tested, still)),
    )

  -- a named constant
  module _ (x : Name) (names : names_of new.tyenv ≡ with_name (names_of old.tyenv) x.text) where
    pub unknown_made : None ≡ constant_at old.tyenv (number (names_of old.tyenv) x.text) → NotesEachAt (at ∷ []) old.work.errors.items new.work.errors.items
        → EndsAs env old new (expr_steps (prim_expr x at) flags ty d) (Ok None)
    unknown_made none n = (
      may_note n,
      λ e s is sh.
          subst (λ o. Took old new (made_constant_step ty x.text at s o) (Ok None)) (sym (constant_is env old x e s is sh None none))
          (took None (met s x.text) 0 (record { why = unknown_constant x.text; at = at } ∷ []) n (met_shows old new s x.text names r sh) (let k = r.expansions in omega (arith, k))),
    )

    module _ (own name : ℕ) (there : Some own ≡ constant_at old.tyenv (number (names_of old.tyenv) x.text)) (named : name ≡ number (names_of old.tyenv) x.text) where
      shown : (e : Setting) (s : Scope) → IsSettingOf old.tyenv env e → Shows old s → Shows new s
      shown e s is sh = grind (arith, common_steps, still, known_name, is_met)

      pub constant_made : is_expected ty own ≡ true → new.work.errors.items ≡ old.work.errors.items → EndsAs env old new (expr_steps (prim_expr x at) flags ty d) (Ok (Some (make_prim own name)))
      constant_made right errors = (
        inl errors,
        λ e s is sh.
            subst (λ o. Took old new (made_constant_step ty x.text at s o) (Ok (Some (make_prim own name)))) (sym (constant_is env old x e s is sh (Some own) there))
            (subst (λ b. Took old new (cond b (here (make_prim own (number s.names x.text)) s) (nothing s (constant_type x.text ty own) at)) (Ok (Some (make_prim own name)))) (sym right)
            (taken_as old new (Some (make_prim own (number s.names x.text))) (Some (make_prim own name)) s 0 []
            (ap (λ (k : ℕ). Some (make_prim own k)) (sym (named ∙ ap (λ ns. number ns x.text) sh.names)))
            (none_at old.work.errors.items new.work.errors.items errors) (shown e s is sh) (let k = r.expansions in omega (arith, k)))),
      )

      pub constant_refused : is_expected ty own ≡ false → NotesEachAt (at ∷ []) old.work.errors.items new.work.errors.items → EndsAs env old new (expr_steps (prim_expr x at) flags ty d) (Ok None)
      constant_refused wrong n = (
        may_note n,
        λ e s is sh.
            subst (λ o. Took old new (made_constant_step ty x.text at s o) (Ok None)) (sym (constant_is env old x e s is sh (Some own) there))
            (subst (λ b. Took old new (cond b (here (make_prim own (number s.names x.text)) s) (nothing s (constant_type x.text ty own) at)) (Ok None)) (sym wrong)
            (took None s 0 (record { why = constant_type x.text ty own; at = at } ∷ []) n (shown e s is sh) (let k = r.expansions in omega (arith, k)))),
      )

-- 2. the type that is expected
that_true : (o : Option TermEntry) → that (λ t. true) o ≡ o
that_true o = grind (arith, common_steps)

same_constructor : (k : TermKindEntry) → has_constructor k ≡ has_constructor_kind k
same_constructor _ = refl

module _ (env : TermEnv) (old : Standing) (e : Setting) (is : IsSettingOf old.tyenv env e) (own : ℕ) where
  converter_is : (want : ℕ) → eqb own want ≡ false → expr_converter e own want ≡ found_converter env has_constructor_kind own want
  converter_is want ne = grind (arith, common_steps, that_same, same_constructor)

  declared_is : (want : ℕ) → eqb own want ≡ false → converter e own want ≡ found_converter env (λ k. true) own want
  declared_is want ne = grind (arith, common_steps, that_true)

  module _ (at : Position) (s : Scope) (itself : Step TypedExpr) (convert : TermEntry → Step TypedExpr) where
    by_converters : (want : ℕ) (o p : Option TermEntry) → eqb own want ≡ false → o ≡ found_converter env has_constructor_kind own want → p ≡ found_converter env (λ k. true) own want
        → expected_step e own (Some want) at s itself convert ≡ converted_or at s itself convert o p
    by_converters want o p ne h k = grind (arith, common_steps, converter_is, declared_is)

    stays_itself : (ty : Option ℕ) → None ≡ found_expr_converter env own ty → None ≡ declared_converter env own ty → expected_step e own ty at s itself convert ≡ itself
    stays_itself ty h k = grind (arith, common_steps, by_converters)

    -- a converter between a type and itself isn't looked for
    none_between : (p : TermEntry → Bool) (want : ℕ) (o : Option TermEntry) (by : TermEntry) → eqb own want ≡ true → Some by ≡ cond (eqb own want) None o → ⊥
    none_between p want o by same h = none-some by (sym (h ∙ ap (λ b. cond b None o) same))

    is_converted : (ty : Option ℕ) (by : TermEntry) → Some by ≡ found_expr_converter env own ty → expected_step e own ty at s itself convert ≡ convert by
    is_converted ty by h = grind (arith, common_steps, none-some, none_between, by_converters)

    has_no_value : (ty : Option ℕ) (by : TermEntry) → None ≡ found_expr_converter env own ty → Some by ≡ declared_converter env own ty → expected_step e own ty at s itself convert ≡ nothing s (no_constructor (term_name_at s by at).text) at
    has_no_value ty by h k = grind (arith, common_steps, none-some, none_between, by_converters)

-- 3. conversions
abbrev expr_nested : ExprTree → Flags → Option ℕ → Nested TypedExpr
expr_nested x flags ty d = expr_steps x flags ty d

expr_expansion : (x : ExprTree) (flags : Flags) (ty : Option ℕ) (d : ℕ) (e : Setting) (n : ℕ) (s : Scope) → deeper_expr_step e flags d x ty n s ≡ expansion (expr_nested x flags ty) d e n s
expr_expansion x flags ty d e n s = grind (arith, common_steps)

module _ (env : TermEnv) (old : Standing) (whole : ExprTree) (at : Position) (flags : Flags) (ty : Option ℕ) (d : ℕ) (by : TermEntry)
    (law : Wherever env old (λ e s. expr_steps whole flags ty d e old.work.expansions s ≡ deeper_expr_step e flags d (wrapped_expr s by at whole) ty old.work.expansions s)) where
  abbrev inside : ExprTree
  inside = inside_call old.tyenv by at whole

  conversion : Wherever env old (λ e s. expr_steps whole flags ty d e old.work.expansions s ≡ expansion (expr_nested inside flags ty) d e old.work.expansions s)
  conversion e s is sh = grind (arith, common_steps, expr_expansion inside flags ty d e old.work.expansions s)

  pub conversion_leads : (new : Standing) (left : ℕ) → names_of new.tyenv ≡ names_of old.tyenv → suc left ≡ d → CountsOne old.work new.work → LeadsOn env old new (expr_steps whole flags ty d) (expr_steps inside flags ty left) (λ r. r)
  conversion_leads new left same nests one = (
    inl one.errors,
    λ e s is sh after r rest.
        subst (λ t. Took old after t r) (sym (conversion e s is sh))
        (went_deeper (expr_nested inside flags ty) e s old new after d left old.work.expansions nests refl one.expansions one.errors r (rest s (counted_shows old new s same one sh))),
  )

  pub conversion_stops : (new : Standing) → new.tyenv ≡ old.tyenv → (stop : Stop) → Counts d old.work new.work (Err stop) → StopsBy env old new (expr_steps whole flags ty d) stop
  conversion_stops new same stop x =
      expansion_stops env old old new (expr_nested inside flags ty) d (expr_steps whole flags ty d) same refl refl (inl refl)
      (λ e s is sh r h. subst (λ t. Took old old t r) (sym (conversion e s is sh)) h) stop x

-- 4. the use of a variable
module _ (env : TermEnv) (old : Standing) (inv : IsInterned old.tyenv) (name : Name) (at : Position) (flags : Flags) (ty : Option ℕ) (d : ℕ) where
  seen_var : (o : Option TypedVar) → o ≡ option_and_then (newest old.work) (symbol_of old.tyenv name.text) → (e : Setting) (s : Scope) → Shows old s
      → expr_steps (var_expr name at) flags ty d e old.work.expansions s ≡ used_step e (deeper_expr_step e flags d) name at ty old.work.expansions s o
  seen_var o h e s sh = ap (used_step e (deeper_expr_step e flags d) name at ty old.work.expansions s) (var_found env old inv name at flags ty o h s sh)

  pub no_variable : (new : Standing) → None ≡ option_and_then (newest old.work) (symbol_of old.tyenv name.text) → names_of new.tyenv ≡ names_of old.tyenv → Remains old.work new.work
      → NotesEachAt (at ∷ []) old.work.errors.items new.work.errors.items → EndsAs env old new (expr_steps (var_expr name at) flags ty d) (Ok None)
  no_variable new none same r n = (
    may_note n,
    λ e s is sh.
        subst (λ t. Took old new t (Ok None)) (sym (seen_var None none e s sh))
        (took None s 0 (record { why = unknown_variable name.text; at = at } ∷ []) n (still old new s same r sh) (let k = r.expansions in omega (arith, k))),
  )

  module _ (v : TypedVar) (known : Some v ≡ option_and_then (newest old.work) (symbol_of old.tyenv name.text)) where
    pub converted_variable : (by : TermEntry) → Some by ≡ found_expr_converter env v.ty ty
        → Wherever env old (λ e s. expr_steps (var_expr name at) flags ty d e old.work.expansions s ≡ deeper_expr_step e flags d (wrapped_expr s by at (var_expr name at)) ty old.work.expansions s)
    converted_variable by h e s is sh = seen_var (Some v) known e s sh ∙ is_converted env old e is v.ty at s _ _ ty by h

    module _ (new : Standing) (same : names_of new.tyenv ≡ names_of old.tyenv) (r : Remains old.work new.work) (none : None ≡ found_expr_converter env v.ty ty) where
      pub variable_unconverted : (by : TermEntry) → Some by ≡ declared_converter env v.ty ty → NotesEachAt (at ∷ []) old.work.errors.items new.work.errors.items → EndsAs env old new (expr_steps (var_expr name at) flags ty d) (Ok None)
      variable_unconverted by h n = (
        may_note n,
        λ e s is sh.
            subst (λ t. Took old new t (Ok None)) (sym (seen_var (Some v) known e s sh ∙ has_no_value env old e is v.ty at s _ _ ty by none h))
            (took None s 0 (record { why = no_constructor (term_name_at s by at).text; at = at } ∷ []) n (still old new s same r sh) (let k = r.expansions in omega (arith, k))),
      )

      pub variable_used : None ≡ declared_converter env v.ty ty → NotesEachAt (place_unless (is_expected ty v.ty) at) old.work.errors.items new.work.errors.items
          → EndsAs env old new (expr_steps (var_expr name at) flags ty d) (Ok (Some (make_var v.ty v.id)))
      variable_used h n = (
        may_note n,
        λ e s is sh.
            subst (λ t. Took old new t (Ok (Some (make_var v.ty v.id)))) (sym (seen_var (Some v) known e s sh ∙ stays_itself env old e is v.ty at s _ _ ty none h))
            (tested old new (is_expected ty v.ty) (variable_type name.text ty v.ty) at (make_var v.ty v.id) (make_var v.ty v.id) s refl n (still old new s same r sh) r.expansions),
      )

-- 5. the use of a term
pub list_length : (xs : List Expr) → length (expr_list (expr_views xs)) ≡ length xs
list_length [] = refl
list_length (x ∷ xs) = ap suc (list_length xs)

-- what is wrong by several checks
noted_in_order : {Q : Type 0} (ws vs : List Mistake) (t : Step Q) → noting (ws ++ vs) t ≡ noting ws (noting vs t)
noted_in_order ws vs t = grind (arith, common_steps)

places_unless : (b : Bool) (w : Why) (at : Position) → places_of (unless b w at) ≡ place_unless b at
places_unless b w at = grind (arith, common_steps)

three_places : (a b : Bool) (w u : Why) (at : Position) (vs : List Mistake) → places_of (unless a w at ++ (vs ++ unless b u at)) ≡ place_unless a at ++ (places_of vs ++ place_unless b at)
three_places a b w u at vs = grind (arith, common_steps, map-append, places_unless)

-- each of three flags may forbid a call
pub forbidden_at : (a b c : Bool) (u v w : Why) (at : Position) (old one two new : List Error) → NotesEachAt (place_unless a at) old one → NotesEachAt (place_unless b at) one two → NotesEachAt (place_unless c at) two new
    → NotesEachAt (places_of (unless a u at ++ (unless b v at ++ unless c w at))) old new
forbidden_at a b c u v w at old one two new x y z = grind (arith, common_steps, three_places, places_unless, both_at)

module _ (env : TermEnv) (old : Standing) (inv : IsInterned old.tyenv) (name : Name) (args : ExprTrees) (at : Position) (flags : Flags) (ty : Option ℕ) (d : ℕ) where
  abbrev whole : ExprTree
  whole = term_expr name args at

  abbrev parts : Setting → ℕ → Scope → List ℕ → Step TypedExprs
  parts e n s tys = args_steps args flags tys d e n s

  seen_term : (o : Option TermEntry) → o ≡ found_term env old.tyenv name.text → (e : Setting) (s : Scope) → IsSettingOf old.tyenv env e → Shows old s
      → expr_steps whole flags ty d e old.work.expansions s ≡ called_step e flags (deeper_expr_step e flags d) name args at ty old.work.expansions s (parts e old.work.expansions s) o
  seen_term o h e s is sh = ap (called_step e flags (deeper_expr_step e flags d) name args at ty old.work.expansions s (parts e old.work.expansions s)) (found_so env old inv name.text o h e s is sh)

  pub no_term : (new : Standing) → None ≡ found_term env old.tyenv name.text → names_of new.tyenv ≡ names_of old.tyenv → Remains old.work new.work
      → NotesEachAt (at ∷ []) old.work.errors.items new.work.errors.items → EndsAs env old new (expr_steps whole flags ty d) (Ok None)
  no_term new none same r n = (
    may_note n,
    λ e s is sh.
        subst (λ t. Took old new t (Ok None)) (sym (seen_term None none e s is sh))
        (took None s 0 (record { why = unknown_constructor name.text (is_some (var_of s name.text)); at = at } ∷ []) n (still old new s same r sh) (let k = r.expansions in omega (arith, k))),
  )

  module _ (t : TermEntry) (known : Some t ≡ found_term env old.tyenv name.text) where
    pub converted_call : (by : TermEntry) → Some by ≡ found_expr_converter env t.ret_ty ty
        → Wherever env old (λ e s. expr_steps whole flags ty d e old.work.expansions s ≡ deeper_expr_step e flags d (wrapped_expr s by at whole) ty old.work.expansions s)
    converted_call by h e s is sh = seen_term (Some t) known e s is sh ∙ is_converted env old e is t.ret_ty at s _ _ ty by h

    module _ (new : Standing) (same : names_of new.tyenv ≡ names_of old.tyenv) (r : Remains old.work new.work) (none : None ≡ found_expr_converter env t.ret_ty ty) where
      pub call_unconverted : (by : TermEntry) → Some by ≡ declared_converter env t.ret_ty ty → NotesEachAt (at ∷ []) old.work.errors.items new.work.errors.items → EndsAs env old new (expr_steps whole flags ty d) (Ok None)
      call_unconverted by h n = (
        may_note n,
        λ e s is sh.
            subst (λ z. Took old new z (Ok None)) (sym (seen_term (Some t) known e s is sh ∙ has_no_value env old e is t.ret_ty at s _ _ ty by none h))
            (took None s 0 (record { why = no_constructor (term_name_at s by at).text; at = at } ∷ []) n (still old new s same r sh) (let k = r.expansions in omega (arith, k))),
      )

      pub parts_lead : None ≡ declared_converter env t.ret_ty ty → (count : ℕ) → count ≡ length (expr_list args)
          → NotesEachAt (place_unless (is_expected ty t.ret_ty) at ++ (places_of (forbidden flags name.text at t.kind) ++ place_unless (eqb count (length t.arg_tys)) at)) old.work.errors.items new.work.errors.items
          → LeadsOn env old new (expr_steps whole flags ty d) (args_steps args flags t.arg_tys d) (made_end (make_term t.ret_ty t.id))
      parts_lead h count as_many checks = (
        may_note checks,
        λ e s is sh after z rest.
            let first : List Mistake = unless (is_expected ty t.ret_ty) (constructor_type name.text ty t.ret_ty) at in
            let last : List Mistake = unless (eqb (length (expr_list args)) (length t.arg_tys)) (argument_count name.text (length (expr_list args)) (length t.arg_tys)) at in
            let rest_steps : Step TypedExpr = made_step (make_term t.ret_ty t.id) (parts e old.work.expansions s t.arg_tys) in
            let counted : NotesEachAt (place_unless (is_expected ty t.ret_ty) at ++ (places_of (forbidden flags name.text at t.kind) ++ place_unless (eqb (length (expr_list args)) (length t.arg_tys)) at)) old.work.errors.items new.work.errors.items =
            subst (λ (k : ℕ). NotesEachAt (place_unless (is_expected ty t.ret_ty) at ++ (places_of (forbidden flags name.text at t.kind) ++ place_unless (eqb k (length t.arg_tys)) at)) old.work.errors.items new.work.errors.items) as_many checks in
            let steps = noted_in_order first (forbidden flags name.text at t.kind ++ last) rest_steps ∙ ap (noting first) (noted_in_order (forbidden flags name.text at t.kind) last rest_steps) in
            subst (λ u. Took old after u (made_end (make_term t.ret_ty t.id) z)) (sym (seen_term (Some t) known e s is sh ∙ stays_itself env old e is t.ret_ty at s _ _ ty none h ∙ sym steps))
            (noted old new after (first ++ (forbidden flags name.text at t.kind ++ last))
            (grind (arith, common_steps, three_places))
            r.expansions rest_steps (made_end (make_term t.ret_ty t.id) z)
            (grind (arith, common_steps, made, still))),
      )
