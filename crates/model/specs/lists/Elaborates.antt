-- The rules of typing: when a tree becomes a typed pattern, expression or rule. One case for each form, and one for each
-- kind of expansion.
use Rattle.std.specs.Prelude.{◌≡◌, ℕ, suc, ◌+◌, ◌≤◌, ℤ, Bool, true, List, [], ◌∷◌, length, Option, Some, None, slice_get}
use Rattle.model.specs.lists.Syntax.{Position, Name, PatternTree, var_pattern, bind_pattern, bool_pattern, int_pattern, prim_pattern, term_pattern, wildcard_pattern, and_pattern, PatternTrees, no_pattern, pattern_and, ExprTree, term_expr, var_expr, bool_expr, int_expr, prim_expr, let_expr, ExprTrees, no_expr, expr_and, LetTrees, no_let, let_and, IfLetTree, RuleTree}
use Rattle.model.specs.lists.Names.{number}
use Rattle.model.specs.lists.Ranges.{reduced}
use Rattle.model.specs.lists.Tables.{Flags, TermEntry}
use Rattle.model.specs.rules.Values.{is_atom_type}
use Rattle.model.specs.rules.Typed.{TypedPattern, match_bind, match_var, match_bool, match_int, match_prim, match_term, match_any, match_and, TypedPatterns, no_typed_pattern, typed_pattern_and, TypedExpr, make_term, make_var, make_bool, make_int, make_prim, TypedExprs, no_typed_expr, typed_expr_and, TypedLets, no_typed_let, typed_let_and, TypedVar, TypedIfLet, TypedRule}
use Rattle.model.specs.lists.TermTable.{root_name}
use Rattle.model.specs.lists.Setting.{Setting, Scope, new_scope, met, bound, after_let, var_of, term_of, type_of_name, type_of_constant, bool_type, expr_type, is_expected, declared_flags, on_lhs, is_callable, is_matchable, template_in, pattern_converter, expr_converter}
use Rattle.model.specs.lists.Expansions.{expanded, wrapped_pattern, wrapped_expr}
use Rattle.model.specs.lists.Elaborated.{typed_let, root_parts, with_own_name, rule_of_sides, may_have_priority, most_nested, most_expansions}

-- by the tables, in a rule whose term is multi or not, and within d expansions nested in one another: pattern p at type
-- ty in scope s becomes typed pattern q with scope t, by n expansions
mutual
  pub data ElaboratesPattern (e : Setting) (multi : Bool) : ℕ → PatternTree → ℕ → Scope → TypedPattern → Scope → ℕ → Type 0 where
    -- a name that is not bound is bound
    new_name : {d ty : ℕ} {name : Name} {at : Position} {s : Scope}
        → var_of s name.text ≡ None
        → ElaboratesPattern e multi d (var_pattern name at) ty s (match_bind ty (length s.vars) (match_any ty)) (bound s name.text ty) 0
    -- one that is bound is a use of it, at its own type
    bound_name : {d ty : ℕ} {name : Name} {at : Position} {s : Scope} {v : TypedVar}
        → var_of s name.text ≡ Some v → v.ty ≡ ty
        → ElaboratesPattern e multi d (var_pattern name at) ty s (match_var ty v.id) s 0
    -- the name of an `@` is bound after its pattern, and not before
    binding : {d ty n : ℕ} {name : Name} {p : PatternTree} {at : Position} {s t : Scope} {q : TypedPattern}
        → ElaboratesPattern e multi d p ty s q t n → var_of t name.text ≡ None
        → ElaboratesPattern e multi d (bind_pattern name p at) ty s (match_bind ty (length t.vars) q) (bound t name.text ty) n
    a_truth : {d ty : ℕ} {b : Bool} {at : Position} {s : Scope}
        → ty ≡ bool_type
        → ElaboratesPattern e multi d (bool_pattern b at) ty s (match_bool ty b) s 0
    -- an integer literal has any built-in integer type, in whose range it then lies, and any primitive one
    an_integer : {d ty : ℕ} {z : ℤ} {at : Position} {s : Scope}
        → is_atom_type (slice_get e.types ty) ≡ true
        → ElaboratesPattern e multi d (int_pattern z at) ty s (match_int ty (reduced (slice_get e.types ty) z)) s 0
    a_constant : {d ty : ℕ} {name : Name} {at : Position} {s : Scope}
        → type_of_constant e s name.text ≡ Some ty
        → ElaboratesPattern e multi d (prim_pattern name at) ty s (match_prim ty (number s.names name.text)) s 0
    -- a term that isn't expanded: a variant, a struct, or a call of an extractor
    a_term : {d ty n : ℕ} {name : Name} {args : PatternTrees} {at : Position} {s t : Scope} {entry : TermEntry} {qs : TypedPatterns}
        → term_of e s name.text ≡ Some entry → entry.ret_ty ≡ ty → template_in e entry.kind ≡ None → is_matchable multi entry.kind ≡ true
        → ElaboratesParts e multi d args entry.arg_tys s qs t n
        → ElaboratesPattern e multi d (term_pattern name args at) ty s (match_term ty entry.id qs) t n
    -- a template's use becomes what the template with its arguments becomes
    a_template : {d ty n : ℕ} {name : Name} {args : PatternTrees} {at : Position} {s t : Scope} {entry : TermEntry} {template p : PatternTree} {q : TypedPattern}
        → term_of e s name.text ≡ Some entry → entry.ret_ty ≡ ty → template_in e entry.kind ≡ Some template → expanded entry args template ≡ Some p
        → ElaboratesPattern e multi d p ty s q t n
        → ElaboratesPattern e multi (suc d) (term_pattern name args at) ty s q t (suc n)
    -- a term of another type becomes what it becomes inside a use of the converter
    a_conversion : {d ty n : ℕ} {name : Name} {args : PatternTrees} {at : Position} {s t : Scope} {entry by : TermEntry} {q : TypedPattern}
        → term_of e s name.text ≡ Some entry → (entry.ret_ty ≡ ty → ⊥) → pattern_converter e entry.ret_ty ty ≡ Some by
        → ElaboratesPattern e multi d (wrapped_pattern s by at (term_pattern name args at)) ty s q t n
        → ElaboratesPattern e multi (suc d) (term_pattern name args at) ty s q t (suc n)
    anything : {d ty : ℕ} {at : Position} {s : Scope}
        → ElaboratesPattern e multi d (wildcard_pattern at) ty s (match_any ty) s 0
    all_of : {d ty n : ℕ} {parts : PatternTrees} {at : Position} {s t : Scope} {qs : TypedPatterns}
        → ElaboratesEach e multi d parts ty s qs t n
        → ElaboratesPattern e multi d (and_pattern parts at) ty s (match_and ty qs) t n

  -- as many patterns as types, each at its own, in order
  pub data ElaboratesParts (e : Setting) (multi : Bool) : ℕ → PatternTrees → List ℕ → Scope → TypedPatterns → Scope → ℕ → Type 0 where
    no_part : {d : ℕ} {s : Scope} → ElaboratesParts e multi d no_pattern [] s no_typed_pattern s 0
    part : {d ty n m : ℕ} {tys : List ℕ} {p : PatternTree} {rest : PatternTrees} {s t u : Scope} {q : TypedPattern} {qs : TypedPatterns}
        → ElaboratesPattern e multi d p ty s q t n → ElaboratesParts e multi d rest tys t qs u m
        → ElaboratesParts e multi d (pattern_and p rest) (ty ∷ tys) s (typed_pattern_and q qs) u (n + m)

  -- all at one type, in order
  pub data ElaboratesEach (e : Setting) (multi : Bool) : ℕ → PatternTrees → ℕ → Scope → TypedPatterns → Scope → ℕ → Type 0 where
    no_more : {d ty : ℕ} {s : Scope} → ElaboratesEach e multi d no_pattern ty s no_typed_pattern s 0
    one_more : {d ty n m : ℕ} {p : PatternTree} {rest : PatternTrees} {s t u : Scope} {q : TypedPattern} {qs : TypedPatterns}
        → ElaboratesPattern e multi d p ty s q t n → ElaboratesEach e multi d rest ty t qs u m
        → ElaboratesEach e multi d (pattern_and p rest) ty s (typed_pattern_and q qs) u (n + m)

-- likewise an expression, under the flags in force, where a type, or any type, is expected
mutual
  pub data ElaboratesExpr (e : Setting) (flags : Flags) : ℕ → ExprTree → Option ℕ → Scope → TypedExpr → Scope → ℕ → Type 0 where
    -- a call, a variant or a struct, of the type expected
    a_call : {d n : ℕ} {ty : Option ℕ} {name : Name} {args : ExprTrees} {at : Position} {s t : Scope} {entry : TermEntry} {qs : TypedExprs}
        → term_of e s name.text ≡ Some entry → is_expected ty entry.ret_ty ≡ true → is_callable flags entry.kind ≡ true
        → ElaboratesArgs e flags d args entry.arg_tys s qs t n
        → ElaboratesExpr e flags d (term_expr name args at) ty s (make_term entry.ret_ty entry.id qs) t n
    -- of another type: inside a use of the converter
    converted_call : {d ty n : ℕ} {name : Name} {args : ExprTrees} {at : Position} {s t : Scope} {entry by : TermEntry} {q : TypedExpr}
        → term_of e s name.text ≡ Some entry → (entry.ret_ty ≡ ty → ⊥) → expr_converter e entry.ret_ty ty ≡ Some by
        → ElaboratesExpr e flags d (wrapped_expr s by at (term_expr name args at)) (Some ty) s q t n
        → ElaboratesExpr e flags (suc d) (term_expr name args at) (Some ty) s q t (suc n)
    a_variable : {d : ℕ} {ty : Option ℕ} {name : Name} {at : Position} {s : Scope} {v : TypedVar}
        → var_of s name.text ≡ Some v → is_expected ty v.ty ≡ true
        → ElaboratesExpr e flags d (var_expr name at) ty s (make_var v.ty v.id) s 0
    converted_variable : {d ty n : ℕ} {name : Name} {at : Position} {s t : Scope} {v : TypedVar} {by : TermEntry} {q : TypedExpr}
        → var_of s name.text ≡ Some v → (v.ty ≡ ty → ⊥) → expr_converter e v.ty ty ≡ Some by
        → ElaboratesExpr e flags d (wrapped_expr s by at (var_expr name at)) (Some ty) s q t n
        → ElaboratesExpr e flags (suc d) (var_expr name at) (Some ty) s q t (suc n)
    truth_expr : {d : ℕ} {ty : Option ℕ} {b : Bool} {at : Position} {s : Scope}
        → is_expected ty bool_type ≡ true
        → ElaboratesExpr e flags d (bool_expr b at) ty s (make_bool bool_type b) s 0
    -- an integer literal needs a type that is expected
    integer_expr : {d ty : ℕ} {z : ℤ} {at : Position} {s : Scope}
        → is_atom_type (slice_get e.types ty) ≡ true
        → ElaboratesExpr e flags d (int_expr z at) (Some ty) s (make_int ty (reduced (slice_get e.types ty) z)) s 0
    constant_expr : {d own : ℕ} {ty : Option ℕ} {name : Name} {at : Position} {s : Scope}
        → type_of_constant e s name.text ≡ Some own → is_expected ty own ≡ true
        → ElaboratesExpr e flags d (prim_expr name at) ty s (make_prim own (number s.names name.text)) s 0
    -- a let's variables can be used in the later definitions and in the body, and not after it
    let_in : {d n m : ℕ} {ty : Option ℕ} {defs : LetTrees} {body : ExprTree} {at : Position} {s t u : Scope} {ds : TypedLets} {q : TypedExpr}
        → ElaboratesLets e flags d defs s ds t n → ElaboratesExpr e flags d body ty t q u m
        → ElaboratesExpr e flags d (let_expr defs body at) ty s (typed_let ds q) (after_let s u) (n + m)

  -- as many expressions as types, each at its own, in order
  pub data ElaboratesArgs (e : Setting) (flags : Flags) : ℕ → ExprTrees → List ℕ → Scope → TypedExprs → Scope → ℕ → Type 0 where
    no_arg : {d : ℕ} {s : Scope} → ElaboratesArgs e flags d no_expr [] s no_typed_expr s 0
    an_arg : {d ty n m : ℕ} {tys : List ℕ} {x : ExprTree} {rest : ExprTrees} {s t u : Scope} {q : TypedExpr} {qs : TypedExprs}
        → ElaboratesExpr e flags d x (Some ty) s q t n → ElaboratesArgs e flags d rest tys t qs u m
        → ElaboratesArgs e flags d (expr_and x rest) (ty ∷ tys) s (typed_expr_and q qs) u (n + m)

  -- a let's name is met before its value, and bound after it
  pub data ElaboratesLets (e : Setting) (flags : Flags) : ℕ → LetTrees → Scope → TypedLets → Scope → ℕ → Type 0 where
    no_def : {d : ℕ} {s : Scope} → ElaboratesLets e flags d no_let s no_typed_let s 0
    a_def : {d own n m : ℕ} {name ty : Name} {value : ExprTree} {at : Position} {rest : LetTrees} {s t u : Scope} {q : TypedExpr} {ds : TypedLets}
        → type_of_name e s ty.text ≡ Some own
        → ElaboratesExpr e flags d value (Some own) (met s name.text) q t n
        → ElaboratesLets e flags d rest (bound t name.text own) ds u m
        → ElaboratesLets e flags d (let_and name ty value at rest) s (typed_let_and (length t.vars) own q ds) u (n + m)

-- if-lets in order: the expression, at any type, under the flags of left sides, then the pattern at its type
pub data ElaboratesIfLets (e : Setting) (flags : Flags) (d : ℕ) : List IfLetTree → Scope → List TypedIfLet → Scope → ℕ → Type 0 where
  no_iflet : {s : Scope} → ElaboratesIfLets e flags d [] s [] s 0
  an_iflet : {n m k : ℕ} {i : IfLetTree} {rest : List IfLetTree} {s t u w : Scope} {x : TypedExpr} {q : TypedPattern} {qs : List TypedIfLet}
      → ElaboratesExpr e (on_lhs flags) d i.expr None s x t n
      → ElaboratesPattern e flags.multi d i.pattern (expr_type x) t q u m
      → ElaboratesIfLets e flags d rest u qs w k
      → ElaboratesIfLets e flags d (i ∷ rest) s (record { lhs = q; rhs = x } ∷ qs) w (n + m + k)

-- a rule of a declared term, from the names met before it: its arguments at the types of the term, its if-lets, and its
-- right side at the term's result type; it has no priority where the term is multi
pub data ElaboratesRule (e : Setting) (d id : ℕ) (r : RuleTree) (names : List (List ℕ)) : TypedRule → Scope → ℕ → Type 0 where
  a_rule : {n m k : ℕ} {name : Name} {entry : TermEntry} {flags : Flags} {s t u : Scope} {args : TypedPatterns} {iflets : List TypedIfLet} {rhs : TypedExpr}
      → root_name r.pattern ≡ Some name → term_of e (new_scope names) name.text ≡ Some entry
      → declared_flags entry.kind ≡ Some flags → may_have_priority flags r ≡ true
      → ElaboratesParts e flags.multi d (root_parts r.pattern) entry.arg_tys (new_scope names) args s n
      → ElaboratesIfLets e flags d r.iflets s iflets t m
      → ElaboratesExpr e flags d r.expr (Some entry.ret_ty) t rhs u k
      → ElaboratesRule e d id r names (rule_of_sides id r entry (args, (iflets, rhs)) u) (with_own_name r.name u) (n + (m + k))

-- the rules of a list in order, each within the limits and from the names met before it
pub data ElaboratesRules (e : Setting) : ℕ → List RuleTree → List (List ℕ) → List TypedRule → List (List ℕ) → Type 0 where
  no_rule : {id : ℕ} {names : List (List ℕ)} → ElaboratesRules e id [] names [] names
  one_rule : {id n : ℕ} {r : RuleTree} {rest : List RuleTree} {names after : List (List ℕ)} {q : TypedRule} {qs : List TypedRule} {t : Scope}
      → ElaboratesRule e most_nested id r names q t n → n ≤ most_expansions → ElaboratesRules e (suc id) rest t.names qs after
      → ElaboratesRules e id (r ∷ rest) names (q ∷ qs) after
