-- Expressions: at all depths the function of typing makes what reading makes where nothing is wrong.
use Rattle.std.proofs.Common.{◌≡◌, ℕ, zero, suc, ◌+◌, Bool, true, false, not, ◌&&◌, ◌||◌, cond, eqb, nat_le, List, [], ◌∷◌, ◌++◌, length, Option, Some, None, option_map, slice_get, refl, sym, ap, arith}
use Rattle.std.proofs.lemmas.Grind.{common_steps}
use Rattle.std.proofs.lemmas.Bool.{leb-true, leb-false}
use Rattle.std.proofs.lemmas.Option.{same_Some}
use Rattle.std.proofs.lemmas.Bool.Decides.{Decides-eqb}
use Rattle.model.specs.lists.Syntax.{Position, Name, ExprTree, term_expr, var_expr, bool_expr, int_expr, prim_expr, let_expr, ExprTrees, no_expr, expr_and, LetTrees, no_let, let_and}
use Rattle.model.specs.rules.Outcome.{then_option}
use Rattle.model.specs.rules.Typed.{TypedExpr, make_term, make_var, make_int, make_prim, typed_expr_and, TypedLets, TypedVar}
use Rattle.model.specs.lists.Tables.{Flags, TermKindEntry, declared_term, TermEntry}
use Rattle.model.specs.lists.Names.{number}
use Rattle.model.specs.lists.Ranges.{reduced}
use Rattle.model.specs.rules.Values.{is_atom_type}
use Rattle.model.specs.lists.Setting.{Setting, Scope, met, after_let, var_of, term_of, type_of_name, type_of_constant, bool_type, is_expected, is_callable, converter, expr_converter}
use Rattle.model.specs.lists.Typings.{Typing, plain, made_into, scoped, followed, counted}
use Rattle.model.specs.lists.Expansions.{wrapped_expr}
use Rattle.model.specs.lists.Elaborated.{as_expected, expr_with, args_with, lets_with, bound_let, before_rest, typed_let, deeper_expr, most_expansions}
use Rattle.model.specs.claims.Refusals.{of_expansions}
use Rattle.laws_errors.specs.AllMade.{made_kind, made_entry, all_made}
use Rattle.laws_errors.specs.Steps.{Why, constant_type, no_integer, impure_constructor, multi_constructor, partial_constructor, Step, stopped, unless, here, nothing, noting, made_step, counted_step}
use Rattle.laws_errors.specs.ExprSteps.{expr_list, converted_or, expected_step, forbidden, called_step, used_step, made_constant_step, with_arg, with_def, def_step, let_step, closed, ended_step, expr_step, args_step, lets_step, deeper_expr_step}
use Rattle.laws_errors.specs.StepLaws.{TakesTooMany, AgreesAtDepths, only_read, never_read, too_deep, too_long, never_read_later, ExprStepsAgreeAtDepths}
use Rattle.laws_errors.proofs.MadeSettings.{term_made, converter_made}
use Rattle.laws_errors.proofs.ClosedLets.{usable, lets_closed}
use Rattle.laws_errors.proofs.AgreeingDepths.{same_at_depths, at_once, noted, none_noted, checked, only_through, made, one_deeper, one_more, too_many, in_order, later_made, eqb-ne, followed_none, scoped_within}

-- each flag that forbids a call
three_checked : {X : Type 0} (n d : ℕ) (a b c : Bool) (v w x : Why) (at : Position) (t : Step X) (o : ℕ → Option (Typing X)) → AgreesAtDepths n d o t
    → AgreesAtDepths n d (λ i. cond (a && (b && c)) (o i) None) (noting (unless a v at ++ (unless b w at ++ unless c x at)) t)
three_checked n d true true true v w x at t o h = none_noted n d t o h
three_checked n d true true false v w x at t o h = noted n d _ [] t _ (λ i. refl)
three_checked n d _ _ c v w x at t o h = noted n d _ _ t _ (λ i. refl)

allowed_agrees : {X : Type 0} (n d : ℕ) (flags : Flags) (name : List ℕ) (at : Position) (kind : TermKindEntry) (t : Step X) (o : ℕ → Option (Typing X)) → AgreesAtDepths n d o t
    → AgreesAtDepths n d (λ c. cond (is_callable flags (made_kind kind)) (o c) None) (noting (forbidden flags name at kind) t)
allowed_agrees n d flags name at (declared_term own constructor_kind extractor_kind) t o h =
    three_checked n d (not flags.pure || own.pure) (flags.multi || not own.multi) (flags.partial || not own.partial) (impure_constructor name) (multi_constructor name) (partial_constructor name) at t o h
allowed_agrees n d flags name at _ t o h = none_noted n d t o h

-- something of a type where a type, or any type, is expected
expected_agrees : (e : Setting) (n d own : ℕ) (ty : Option ℕ) (at : Position) (s : Scope) (why : Why) (t : Step TypedExpr) (o : ℕ → Option (Typing TypedExpr)) (convert : TermEntry → Step TypedExpr)
    (conversion : ℕ → TermEntry → Option (Typing TypedExpr)) → AgreesAtDepths n d o t → ((k : TermEntry) → AgreesAtDepths n d (λ c. conversion c (made_entry k)) (convert k))
    → AgreesAtDepths n d (λ c. as_expected (all_made e) own ty (o c) (conversion c)) (expected_step e own ty at s (noting (unless (is_expected ty own) why at) t) convert)
expected_agrees e n d own None at s why t o convert conversion h i = none_noted n d t o h
expected_agrees e n d own (Some ty) at s why t o convert conversion h i = elim (eqb own ty) as (λ b. AgreesAtDepths n d
    (λ c. cond b (o c) (then_option (expr_converter (all_made e) own ty) (conversion c)))
    (cond b (noting (unless b why at) t) (converted_or at s (noting (unless b why at) t) convert (expr_converter e own ty) (converter e own ty)))) [
      | true ↦ none_noted n d t o h
      | false ↦ rw (converter_made e own ty (expr_converter e own ty) refl) (either (expr_converter e own ty) (converter e own ty))
    ]
  where
    either : (by declared : Option TermEntry)
        → AgreesAtDepths n d (λ c. then_option (option_map made_entry by) (conversion c)) (converted_or at s (noting (unless false why at) t) convert by declared)
    either (Some k) declared = i k
    either None (Some k) = never_read None s 0 _ [] (λ c. refl)
    either None None = noted n d _ [] t _ (λ c. refl)

constant_agrees : (n d : ℕ) (ty : Option ℕ) (x : List ℕ) (at : Position) (s : Scope) (o : Option ℕ)
    → AgreesAtDepths n d (λ c. then_option o (λ own. cond (is_expected ty own) (Some (plain (make_prim own (number s.names x)) s)) None)) (made_constant_step ty x at s o)
constant_agrees n d ty x at s None = never_read None _ 0 _ [] (λ c. refl)
constant_agrees n d ty x at s (Some own) = elim (is_expected ty own) as (λ b. AgreesAtDepths n d
    (λ c. cond b (Some (plain (make_prim own (number s.names x)) s)) None) (cond b (here (make_prim own (number s.names x)) s) (nothing s (constant_type x ty own) at))) [
      | true ↦ at_once n d _ _
      | false ↦ never_read None s 0 _ [] (λ c. refl)
    ]

-- a definition of a let
past_bound : (n own : ℕ) (x : List ℕ) (o : Option (Typing TypedExpr)) → TakesTooMany n o → TakesTooMany n (bound_let x own o)
past_bound n own x o past = grind (arith, common_steps, same_Some)

def_agrees : (n d own : ℕ) (x : List ℕ) (t : Step TypedExpr) (o : ℕ → Option (Typing TypedExpr)) → AgreesAtDepths n d o t → AgreesAtDepths n d (λ c. bound_let x own (o c)) (def_step x own t)
def_agrees n d own x _ o (only_read v s k fits only) = only_read _ _ k fits (only_through (bound_let x own) d o _ _ refl refl only)
def_agrees n d own x _ o (never_read None s k w ws none) = never_read None s k w ws (λ c. ap (bound_let x own) (none c))
def_agrees n d own x _ o (never_read (Some v) s k w ws none) = never_read _ _ k w ws (λ c. ap (bound_let x own) (none c))
def_agrees n d own x _ o (too_deep z none) = too_deep z (ap (bound_let x own) none)
def_agrees n d own x _ o (too_long z past) = too_long z (λ c. past_bound n own x (o c) (past c))
def_agrees n d own x _ o (never_read_later l z w ws none) = never_read_later l z w ws (λ c. ap (bound_let x own) (none c))

-- a definition at a type that is known, or at none
pub let_agrees : (n d : ℕ) (x ty : List ℕ) (at : Position) (s : Scope) (value : ℕ → Step TypedExpr) (reading : ℕ → ℕ → Option (Typing TypedExpr)) (o : Option ℕ)
    → ((own : ℕ) → AgreesAtDepths n d (λ c. reading c own) (value own)) → AgreesAtDepths n d (λ c. then_option o (λ own. bound_let x own (reading c own))) (let_step x ty at s value o)
let_agrees n d x ty at s value reading None h = never_read None _ 0 _ [] (λ c. refl)
let_agrees n d x ty at s value reading (Some own) h = def_agrees n d own x _ _ (h own)

-- the end of a let whose names are put back
past_ended : (n : ℕ) (f : Scope → Scope) (defs : TypedLets) (o : Option (Typing TypedExpr)) → TakesTooMany n o → TakesTooMany n (made_into (typed_let defs) (scoped f o))
past_ended n f defs o past = grind (arith, common_steps, same_Some)

ended_agrees : (n d : ℕ) (f : Scope → Scope) (defs : TypedLets) (t : Step TypedExpr) (o : ℕ → Option (Typing TypedExpr)) → ((a : Typing TypedExpr) → o d ≡ Some a → closed defs a.scope ≡ f a.scope)
    → AgreesAtDepths n d o t → AgreesAtDepths n d (λ c. made_into (typed_let defs) (scoped f (o c))) (ended_step defs t)
ended_agrees n d f defs _ o back (only_read x s k fits only) = rw (back _ only.here) (only_read _ _ k fits (only_through (λ v. made_into (typed_let defs) (scoped f v)) d o _ _ refl refl only))
ended_agrees n d f defs _ o back (never_read None s k w ws none) = never_read None s k w ws (λ c. ap (λ v. made_into (typed_let defs) (scoped f v)) (none c))
ended_agrees n d f defs _ o back (never_read (Some v) s k w ws none) = never_read _ _ k w ws (λ c. ap (λ v. made_into (typed_let defs) (scoped f v)) (none c))
ended_agrees n d f defs _ o back (too_deep z none) = too_deep z (ap (λ v. made_into (typed_let defs) (scoped f v)) none)
ended_agrees n d f defs _ o back (too_long z past) = too_long z (λ c. past_ended n f defs (o c) (past c))
ended_agrees n d f defs _ o back (never_read_later l z w ws none) = never_read_later l z w ws (λ c. ap (λ v. made_into (typed_let defs) (scoped f v)) (none c))

-- as many arguments as types, or nothing
args_none : (e : Setting) (flags : Flags) (d : ℕ) (args : ExprTrees) (tys : List ℕ) (s : Scope) → (length (expr_list args) ≡ length tys → ⊥) → args_with (all_made e) flags (deeper_expr (all_made e) flags d) args tys s ≡ None
args_none e flags d (expr_and x rest) (ty ∷ tys) s h = followed_none _ _ _ (λ a. args_none e flags d rest tys a.scope (λ k. h (ap suc k)))
args_none e flags d args tys s h = grind (arith, common_steps)

-- an unknown type, then the rest
then_followed : {X Y Z : Type 0} (f : X → Y → Z) (o : Option ℕ) (g : ℕ → Option (Typing X)) (rest : Typing X → Option (Typing Y)) → followed f (then_option o g) rest ≡ then_option o (λ own. followed f (g own) rest)
then_followed f o g rest = grind (arith, common_steps)

module _ (e : Setting) (flags : Flags) (d : ℕ)
    (deeper : (x : ExprTree) (ty : Option ℕ) (n : ℕ) (s : Scope) → AgreesAtDepths n d (λ c. counted (deeper_expr (all_made e) flags c x ty s)) (deeper_expr_step e flags d x ty n s)) where
  abbrev AreArgsAgreed : ExprTrees → ℕ → Scope → Type 0
  AreArgsAgreed args n s = (tys : List ℕ) → length (expr_list args) ≡ length tys
      → AgreesAtDepths n d (λ c. args_with (all_made e) flags (deeper_expr (all_made e) flags c) args tys s) (args_step e flags (deeper_expr_step e flags d) args tys n s)

  counted_agrees : (args : ExprTrees) (at : Position) (n : ℕ) (s : Scope) (t : TermEntry) (why : Why) → AreArgsAgreed args n s → (b : Bool) → eqb (length (expr_list args)) (length t.arg_tys) ≡ b
      → AgreesAtDepths n d (λ c. made_into (make_term t.ret_ty t.id) (args_with (all_made e) flags (deeper_expr (all_made e) flags c) args t.arg_tys s))
      (noting (unless b why at) (made_step (make_term t.ret_ty t.id) (args_step e flags (deeper_expr_step e flags d) args t.arg_tys n s)))
  counted_agrees args at n s t why parts true h = none_noted n d _ _ (made n d (make_term t.ret_ty t.id) _ _ (parts t.arg_tys ((Decides-eqb (length (expr_list args)) (length t.arg_tys)).0 h)))
  counted_agrees args at n s t why parts false h =
      noted n d _ [] _ _ (λ c. ap (made_into (make_term t.ret_ty t.id)) (args_none e flags c args t.arg_tys s (eqb-ne _ _ h)))

  called_agrees : (name : Name) (args : ExprTrees) (at : Position) (ty : Option ℕ) (n : ℕ) (s : Scope) → AreArgsAgreed args n s → (o : Option TermEntry)
      → AgreesAtDepths n d (λ c. then_option (option_map made_entry o) (λ t. as_expected (all_made e) t.ret_ty ty
      (cond (is_callable flags t.kind) (made_into (make_term t.ret_ty t.id) (args_with (all_made e) flags (deeper_expr (all_made e) flags c) args t.arg_tys s)) None)
      (λ k. counted (deeper_expr (all_made e) flags c (wrapped_expr s k at (term_expr name args at)) ty s))))
      (called_step e flags (deeper_expr_step e flags d) name args at ty n s (λ tys. args_step e flags (deeper_expr_step e flags d) args tys n s) o)
  called_agrees name args at ty n s parts None = never_read None s 0 _ [] (λ c. refl)
  called_agrees name args at ty n s parts (Some t) =
      expected_agrees e n d t.ret_ty ty at s _ _ _ _ (λ c k. counted (deeper_expr (all_made e) flags c (wrapped_expr s k at (term_expr name args at)) ty s))
      (allowed_agrees n d flags name.text at t.kind _ _ (counted_agrees args at n s t _ parts (eqb (length (expr_list args)) (length t.arg_tys)) refl))
      (λ k. deeper (wrapped_expr s k at (term_expr name args at)) ty n s)

  used_agrees : (name : Name) (at : Position) (ty : Option ℕ) (n : ℕ) (s : Scope) (o : Option TypedVar)
      → AgreesAtDepths n d (λ c. then_option o (λ v. as_expected (all_made e) v.ty ty (Some (plain (make_var v.ty v.id) s)) (λ k. counted (deeper_expr (all_made e) flags c (wrapped_expr s k at (var_expr name at)) ty s))))
      (used_step e (deeper_expr_step e flags d) name at ty n s o)
  used_agrees name at ty n s None = never_read None s 0 _ [] (λ c. refl)
  used_agrees name at ty n s (Some v) = expected_agrees e n d v.ty ty at s _ _ _ _ (λ c k. counted (deeper_expr (all_made e) flags c (wrapped_expr s k at (var_expr name at)) ty s)) (at_once n d _ s) (λ k. deeper (wrapped_expr s k at (var_expr name at)) ty n s)

  mutual
    agrees : (x : ExprTree) (ty : Option ℕ) (n : ℕ) (s : Scope) → AgreesAtDepths n d (λ c. expr_with (all_made e) flags (deeper_expr (all_made e) flags c) x ty s) (expr_step e flags (deeper_expr_step e flags d) x ty n s)
    agrees (term_expr name args at) ty n s = rw (term_made e s name.text (term_of e s name.text) refl) (called_agrees name args at ty n s (λ tys h. args_agree args tys n s h) (term_of e s name.text))
    agrees (var_expr name at) ty n s = used_agrees name at ty n s (var_of s name.text)
    agrees (bool_expr b at) ty n s = checked n d (is_expected ty bool_type) _ at _ _ (λ h. at_once n d _ s)
    agrees (int_expr z at) None n s = never_read None s 0 _ [] (λ c. refl)
    agrees (int_expr z at) (Some own) n s = checked n d (is_atom_type (slice_get e.types own)) (no_integer own z) at _ _ (λ h. at_once n d (make_int own (reduced (slice_get e.types own) z)) s)
    agrees (prim_expr name at) ty n s = constant_agrees n d ty name.text at s (type_of_constant e s name.text)
    agrees (let_expr defs body at) ty n s = same_at_depths n d _ _ _
        (λ c. sym (scoped_within typed_let (after_let s) (lets_with (all_made e) flags (deeper_expr (all_made e) flags c) defs s) (λ a. expr_with (all_made e) flags (deeper_expr (all_made e) flags c) body ty a.scope)))
        (later_made n d _ _ _ (λ c a. made_into (typed_let a.made) (scoped (after_let s) (expr_with (all_made e) flags (deeper_expr (all_made e) flags c) body ty a.scope))) (lets_agree defs at n s)
        (λ a h. ended_agrees (n + a.expansions) d (after_let s) a.made _ (λ c. expr_with (all_made e) flags (deeper_expr (all_made e) flags c) body ty a.scope)
        (λ b g. lets_closed (all_made e) flags d defs s a h b.scope (usable (all_made e) flags d body ty a.scope b g))
        (agrees body ty (n + a.expansions) a.scope)))

    args_agree : (args : ExprTrees) (tys : List ℕ) (n : ℕ) (s : Scope) → length (expr_list args) ≡ length tys
        → AgreesAtDepths n d (λ c. args_with (all_made e) flags (deeper_expr (all_made e) flags c) args tys s) (args_step e flags (deeper_expr_step e flags d) args tys n s)
    args_agree no_expr [] n s h = at_once n d _ _
    args_agree no_expr (ty ∷ tys) n s h = absurd (cc)
    args_agree (expr_and x rest) [] n s h = absurd (cc)
    args_agree (expr_and x rest) (ty ∷ tys) n s h =
        in_order n d typed_expr_and with_arg (λ x y. refl) _ _ _ (λ c a. args_with (all_made e) flags (deeper_expr (all_made e) flags c) rest tys a.scope) (agrees x (Some ty) n s) (λ a i. args_agree rest tys (n + a.expansions) a.scope (omega (arith, h)))

    lets_agree : (defs : LetTrees) (at : Position) (n : ℕ) (s : Scope)
        → AgreesAtDepths n d (λ c. lets_with (all_made e) flags (deeper_expr (all_made e) flags c) defs s) (lets_step e flags (deeper_expr_step e flags d) defs at n s)
    lets_agree no_let at n s = at_once n d _ _
    lets_agree (let_and name ty value own_at rest) at n s = same_at_depths n d _ _ _
        (λ c. then_followed before_rest (type_of_name e s ty.text) (λ own. bound_let name.text own (expr_with (all_made e) flags (deeper_expr (all_made e) flags c) value (Some own) (met s name.text))) (λ a. lets_with (all_made e) flags (deeper_expr (all_made e) flags c) rest a.scope))
        (in_order n d before_rest with_def (λ x y. refl) _ _ _ (λ c a. lets_with (all_made e) flags (deeper_expr (all_made e) flags c) rest a.scope)
        (let_agrees n d name.text ty.text at s _ (λ c own. expr_with (all_made e) flags (deeper_expr (all_made e) flags c) value (Some own) (met s name.text)) (type_of_name e s ty.text) (λ own. agrees value (Some own) n (met s name.text)))
        (λ a i. lets_agree rest at (n + a.expansions) a.scope))

-- one more expansion at each depth
deeper_same : (e : Setting) (flags : Flags) (x : ExprTree) (ty : Option ℕ) (s : Scope) (c : ℕ) → one_deeper (λ c. expr_with (all_made e) flags (deeper_expr (all_made e) flags c) x ty s) c ≡ counted (deeper_expr (all_made e) flags c x ty s)
deeper_same e flags x ty s c = grind (arith, common_steps)

-- what expansions make
deeper_agrees : (e : Setting) (flags : Flags) (d : ℕ) (x : ExprTree) (ty : Option ℕ) (n : ℕ) (s : Scope) → AgreesAtDepths n d (λ c. counted (deeper_expr (all_made e) flags c x ty s)) (deeper_expr_step e flags d x ty n s)
deeper_agrees e flags zero x ty n s = too_deep s refl
deeper_agrees e flags (suc d) x ty n s = same_at_depths n (suc d) (one_deeper (λ c. expr_with (all_made e) flags (deeper_expr (all_made e) flags c) x ty s)) _ _ (deeper_same e flags x ty s) (elim (nat_le most_expansions n)
    as (λ b. nat_le most_expansions n ≡ b → AgreesAtDepths n (suc d) (one_deeper (λ c. expr_with (all_made e) flags (deeper_expr (all_made e) flags c) x ty s))
    (cond b (stopped of_expansions s []) (counted_step (expr_step e flags (deeper_expr_step e flags d) x ty (suc n) s)))) [
      | true ↦ λ h. too_many n (suc d) s _ (leb-true most_expansions n h)
      | false ↦ λ h. one_more n d _ _ (leb-false most_expansions n h) (agrees e flags d (deeper_agrees e flags d) x ty (suc n) s)
    ] refl)

pub expr_steps_agree_at_depths_lem : ExprStepsAgreeAtDepths
expr_steps_agree_at_depths_lem e flags d x ty n s = agrees e flags d (deeper_agrees e flags d) x ty n s

-- the definitions of a let
pub lets_agree_at_depths_lem : (e : Setting) (flags : Flags) (d : ℕ) (defs : LetTrees) (at : Position) (n : ℕ) (s : Scope)
    → AgreesAtDepths n d (λ c. lets_with (all_made e) flags (deeper_expr (all_made e) flags c) defs s) (lets_step e flags (deeper_expr_step e flags d) defs at n s)
lets_agree_at_depths_lem e flags d defs at n s = lets_agree e flags d (deeper_agrees e flags d) defs at n s
