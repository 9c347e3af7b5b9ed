-- What a rule's tree becomes: typed patterns, expressions and rules, by recursion on the tree, and on how deep
-- expansions may still nest.
use Rattle.std.specs.Prelude.{◌≡◌, ℕ, zero, suc, pos, Bool, not, ◌&&◌, List, [], ◌∷◌, length, Option, Some, None, option_map, is_some, unwrap_or, slice_get, nat_le, if◌then◌else◌, false, map, count_by}
use Rattle.std.specs.Bool.{◌==◌}
use Rattle.model.specs.lists.Syntax.{Name, PatternTree, var_pattern, bind_pattern, bool_pattern, int_pattern, prim_pattern, term_pattern, wildcard_pattern, and_pattern, macro_arg, PatternTrees, no_pattern, pattern_and, ExprTree, term_expr, var_expr, bool_expr, int_expr, prim_expr, let_expr, ExprTrees, no_expr, expr_and, LetTrees, no_let, let_and, IfLetTree, RuleTree}
use Rattle.model.specs.lists.Names.{number, IsDistinct}
use Rattle.model.specs.lists.Ranges.{reduced}
use Rattle.model.specs.rules.Outcome.{then_option}
use Rattle.model.specs.lists.Tables.{Flags, TermEntry}
use Rattle.model.specs.rules.Values.{is_atom_type}
use Rattle.model.specs.rules.Typed.{TypedPattern, match_bind, match_var, match_bool, match_int, match_prim, match_term, match_any, match_and, TypedPatterns, no_typed_pattern, typed_pattern_and, TypedExpr, make_term, make_var, make_bool, make_int, make_prim, make_let, TypedExprs, no_typed_expr, typed_expr_and, TypedLets, no_typed_let, typed_let_and, TypedVar, TypedIfLet, TypedRule}
use Rattle.model.specs.lists.TermTable.{root_name}
use Rattle.model.specs.lists.Setting.{Setting, Scope, new_scope, met, bound, after_let, var_of, term_of, type_of_name, type_of_constant, bool_type, expr_type, is_expected, declared_flags, on_lhs, is_callable, is_matchable, template_in, pattern_converter, expr_converter}
use Rattle.model.specs.lists.Expansions.{expanded, wrapped_pattern, wrapped_expr}
use Rattle.model.specs.lists.Typings.{Typing, plain, made_into, scoped, followed, counted}
use Rattle.std.specs.List.{filter_map}

-- an unnamed rule that is the only one of its term has the term's name
abbrev pub term_name : List TermEntry → ℕ → Option ℕ
term_name terms t = option_map (λ e. e.name) (slice_get terms t)

abbrev pub named_rule : List TermEntry → List TypedRule → TypedRule → TypedRule
named_rule terms rules r = record r { name = (if not (is_some r.name) && (count_by (λ q. q.root_term == r.root_term) rules == 1) then term_name terms r.root_term else r.name) }

abbrev pub named_rules : List TermEntry → List TypedRule → List TypedRule
named_rules terms rules = map (named_rule terms rules) rules

abbrev pub rule_names : List TypedRule → List ℕ
rule_names rules = filter_map (λ r. r.name) rules

-- the rule that has a name
abbrev pub rule_named : List TypedRule → ℕ → Option ℕ
rule_named [] name = None
rule_named (r ∷ rs) name = if unwrap_or (option_map (λ k. k == name) r.name) false then Some r.id else rule_named rs name

-- how a pattern is translated at a type
abbrev pub PatternReading : Type 0
PatternReading = PatternTree → ℕ → Scope → Option (Typing TypedPattern)

-- how an expression is translated where a type, or any type, is expected
abbrev pub ExprReading : Type 0
ExprReading = ExprTree → Option ℕ → Scope → Option (Typing TypedExpr)

-- a name that is new is bound, one that is bound already is a use of it, at its type
abbrev pub var_pattern_at : ℕ → List ℕ → Scope → Option TypedVar → Option (Typing TypedPattern)
var_pattern_at ty x s None = Some (plain (match_bind ty (length s.vars) (match_any ty)) (bound s x ty))
var_pattern_at ty x s (Some v) = if v.ty == ty then Some (plain (match_var ty v.id) s) else None

-- a name is bound after its pattern, and is new
abbrev pub bound_after : ℕ → List ℕ → Option (Typing TypedPattern) → Option (Typing TypedPattern)
bound_after ty x None = None
bound_after ty x (Some a) = if is_some (var_of a.scope x) then None else Some (record { made = match_bind ty (length a.scope.vars) a.made; scope = bound a.scope x ty; expansions = a.expansions })

-- a template's use, where a term has a template, else the term itself
abbrev pub or_expanded : {X : Type 0} → Option PatternTree → (PatternTree → Option X) → Option X → Option X
or_expanded None expand itself = itself
or_expanded (Some template) expand itself = expand template

-- what an expression of a type gives where a type is expected: itself, or a conversion of it
abbrev pub as_expected : {X : Type 0} → Setting → ℕ → Option ℕ → Option X → (TermEntry → Option X) → Option X
as_expected e own None itself convert = itself
as_expected e own (Some ty) itself convert = if own == ty then itself else then_option (expr_converter e own ty) convert

-- a use of a template, and a conversion, are translated by what may still be expanded
abbrev pub by_template : PatternReading → TermEntry → PatternTrees → ℕ → Scope → PatternTree → Option (Typing TypedPattern)
by_template deeper t args ty s template = then_option (expanded t args template) (λ p. counted (deeper p ty s))

abbrev mutual
  -- a pattern at a type, where `deeper` translates what an expansion makes; the flag says whether the rule's term is multi
  pub pattern_with : Setting → Bool → PatternReading → PatternReading
  pattern_with e multi deeper (var_pattern name at) ty s = var_pattern_at ty name.text s (var_of s name.text)
  pattern_with e multi deeper (bind_pattern name of at) ty s = bound_after ty name.text (pattern_with e multi deeper of ty s)
  pattern_with e multi deeper (bool_pattern b at) ty s = if ty == bool_type then Some (plain (match_bool ty b) s) else None
  pattern_with e multi deeper (int_pattern z at) ty s = if is_atom_type (slice_get e.types ty) then Some (plain (match_int ty (reduced (slice_get e.types ty) z)) s) else None
  pattern_with e multi deeper (prim_pattern name at) ty s =
      then_option (type_of_constant e s name.text) (λ own. if own == ty then Some (plain (match_prim ty (number s.names name.text)) s) else None)
  pattern_with e multi deeper (term_pattern name args at) ty s =
      then_option (term_of e s name.text) (λ t.
      if t.ret_ty == ty
      then or_expanded (template_in e t.kind) (by_template deeper t args ty s)
      (if is_matchable multi t.kind then made_into (match_term ty t.id) (parts_with e multi deeper args t.arg_tys s) else None)
      else then_option (pattern_converter e t.ret_ty ty) (λ c. counted (deeper (wrapped_pattern s c at (term_pattern name args at)) ty s)))
  pattern_with e multi deeper (wildcard_pattern at) ty s = Some (plain (match_any ty) s)
  pattern_with e multi deeper (and_pattern parts at) ty s = made_into (match_and ty) (each_with e multi deeper parts ty s)
  pattern_with e multi deeper (macro_arg i at) ty s = None

  -- as many patterns as types, each at its own
  pub parts_with : Setting → Bool → PatternReading → PatternTrees → List ℕ → Scope → Option (Typing TypedPatterns)
  parts_with e multi deeper no_pattern [] s = Some (plain no_typed_pattern s)
  parts_with e multi deeper no_pattern (ty ∷ tys) s = None
  parts_with e multi deeper (pattern_and p rest) [] s = None
  parts_with e multi deeper (pattern_and p rest) (ty ∷ tys) s = followed typed_pattern_and (pattern_with e multi deeper p ty s) (λ a. parts_with e multi deeper rest tys a.scope)

  -- patterns of one value
  pub each_with : Setting → Bool → PatternReading → PatternTrees → ℕ → Scope → Option (Typing TypedPatterns)
  each_with e multi deeper no_pattern ty s = Some (plain no_typed_pattern s)
  each_with e multi deeper (pattern_and p rest) ty s = followed typed_pattern_and (pattern_with e multi deeper p ty s) (λ a. each_with e multi deeper rest ty a.scope)

-- what expansions make, where so many may nest
abbrev pub deeper_pattern : Setting → Bool → ℕ → PatternReading
deeper_pattern e multi zero p ty s = None
deeper_pattern e multi (suc d) p ty s = pattern_with e multi (deeper_pattern e multi d) p ty s

-- a pattern, and patterns for arguments, where so many expansions may nest
abbrev pub elaborated_pattern : Setting → Bool → ℕ → PatternReading
elaborated_pattern e multi d = pattern_with e multi (deeper_pattern e multi d)

-- patterns for arguments, likewise
abbrev pub elaborated_parts : Setting → Bool → ℕ → PatternTrees → List ℕ → Scope → Option (Typing TypedPatterns)
elaborated_parts e multi d = parts_with e multi (deeper_pattern e multi d)

-- a let has its body's type
abbrev pub typed_let : TypedLets → TypedExpr → TypedExpr
typed_let defs body = make_let (expr_type body) defs body

-- a definition of a let binds its name after its value
abbrev pub bound_let : List ℕ → ℕ → Option (Typing TypedExpr) → Option (Typing (TypedLets → TypedLets))
bound_let x ty None = None
bound_let x ty (Some a) = Some (record { made = typed_let_and (length a.scope.vars) ty a.made; scope = bound a.scope x ty; expansions = a.expansions })

-- a definition before the others
abbrev pub before_rest : (TypedLets → TypedLets) → TypedLets → TypedLets
before_rest def rest = def rest

abbrev mutual
  -- an expression, under the flags in force
  pub expr_with : Setting → Flags → ExprReading → ExprReading
  expr_with e flags deeper (term_expr name args at) ty s =
      then_option (term_of e s name.text) (λ t. as_expected e t.ret_ty ty
      (if is_callable flags t.kind then made_into (make_term t.ret_ty t.id) (args_with e flags deeper args t.arg_tys s) else None)
      (λ c. counted (deeper (wrapped_expr s c at (term_expr name args at)) ty s)))
  expr_with e flags deeper (var_expr name at) ty s =
      then_option (var_of s name.text) (λ v. as_expected e v.ty ty (Some (plain (make_var v.ty v.id) s))
      (λ c. counted (deeper (wrapped_expr s c at (var_expr name at)) ty s)))
  expr_with e flags deeper (bool_expr b at) ty s = if is_expected ty bool_type then Some (plain (make_bool bool_type b) s) else None
  expr_with e flags deeper (int_expr z at) ty s = then_option ty (λ own. if is_atom_type (slice_get e.types own) then Some (plain (make_int own (reduced (slice_get e.types own) z)) s) else None)
  expr_with e flags deeper (prim_expr name at) ty s =
      then_option (type_of_constant e s name.text) (λ own. if is_expected ty own then Some (plain (make_prim own (number s.names name.text)) s) else None)
  expr_with e flags deeper (let_expr defs body at) ty s =
      scoped (after_let s) (followed typed_let (lets_with e flags deeper defs s) (λ a. expr_with e flags deeper body ty a.scope))

  -- as many expressions as types, each at its own
  pub args_with : Setting → Flags → ExprReading → ExprTrees → List ℕ → Scope → Option (Typing TypedExprs)
  args_with e flags deeper no_expr [] s = Some (plain no_typed_expr s)
  args_with e flags deeper no_expr (ty ∷ tys) s = None
  args_with e flags deeper (expr_and x rest) [] s = None
  args_with e flags deeper (expr_and x rest) (ty ∷ tys) s = followed typed_expr_and (expr_with e flags deeper x (Some ty) s) (λ a. args_with e flags deeper rest tys a.scope)

  -- each value at its name's type, where the earlier names are bound
  pub lets_with : Setting → Flags → ExprReading → LetTrees → Scope → Option (Typing TypedLets)
  lets_with e flags deeper no_let s = Some (plain no_typed_let s)
  lets_with e flags deeper (let_and name ty value at rest) s =
      then_option (type_of_name e s ty.text) (λ own.
      followed before_rest (bound_let name.text own (expr_with e flags deeper value (Some own) (met s name.text))) (λ a. lets_with e flags deeper rest a.scope))

-- what expansions of expressions make, where so many may nest
abbrev pub deeper_expr : Setting → Flags → ℕ → ExprReading
deeper_expr e flags zero x ty s = None
deeper_expr e flags (suc d) x ty s = expr_with e flags (deeper_expr e flags d) x ty s

-- an expression, where so many expansions may nest
abbrev pub elaborated_expr : Setting → Flags → ℕ → ExprReading
elaborated_expr e flags d = expr_with e flags (deeper_expr e flags d)

-- the typed if-let of an expression and a pattern
abbrev pub typed_iflet : TypedExpr → TypedPattern → TypedIfLet
typed_iflet x q = record { lhs = q; rhs = x }

-- the expression of an if-let, at any type, then its pattern at that type
abbrev pub elaborated_iflet : Setting → Flags → ℕ → IfLetTree → Scope → Option (Typing TypedIfLet)
elaborated_iflet e flags d i s =
    followed typed_iflet (elaborated_expr e (on_lhs flags) d i.expr None s) (λ a. elaborated_pattern e flags.multi d i.pattern (expr_type a.made) a.scope)

-- if-lets in order
abbrev pub elaborated_iflets : Setting → Flags → ℕ → List IfLetTree → Scope → Option (Typing (List TypedIfLet))
elaborated_iflets e flags d [] s = Some (plain [] s)
elaborated_iflets e flags d (i ∷ is) s = followed ◌∷◌ (elaborated_iflet e flags d i s) (λ a. elaborated_iflets e flags d is a.scope)

-- a rule's arguments, its if-lets and its right side
abbrev pub Sides : Type 0
Sides = TypedPatterns × (List TypedIfLet × TypedExpr)

-- arguments before the rest
abbrev pub sides_of : TypedPatterns → List TypedIfLet × TypedExpr → Sides
sides_of args rest = (args, rest)

-- if-lets before the right side
abbrev pub last_sides : List TypedIfLet → TypedExpr → List TypedIfLet × TypedExpr
last_sides iflets rhs = (iflets, rhs)

-- the patterns of a rule's arguments
abbrev pub root_parts : PatternTree → PatternTrees
root_parts (term_pattern name args at) = args
root_parts _ = no_pattern

-- arguments at the types of the rule's term, if-lets in order, the right side at the term's result type
abbrev pub elaborated_sides : Setting → Flags → ℕ → RuleTree → TermEntry → Scope → Option (Typing Sides)
elaborated_sides e flags d r t s =
    followed sides_of (elaborated_parts e flags.multi d (root_parts r.pattern) t.arg_tys s) (λ a.
    followed last_sides (elaborated_iflets e flags d r.iflets a.scope) (λ b.
    elaborated_expr e flags d r.expr (Some t.ret_ty) b.scope))

-- the patterns, as a list
abbrev pub typed_list : TypedPatterns → List TypedPattern
typed_list no_typed_pattern = []
typed_list (typed_pattern_and q rest) = q ∷ typed_list rest

-- a rule's own name is met last
abbrev pub with_own_name : Option Name → Scope → Scope
with_own_name None s = s
with_own_name (Some n) s = met s n.text

-- the number of the own name, where there is one
abbrev pub own_number : Scope → Option Name → Option ℕ
own_number s name = option_map (λ n. number (with_own_name name s).names n.text) name

-- the typed rule with these sides, whose variables are those of the scope
abbrev pub rule_of_sides : ℕ → RuleTree → TermEntry → Sides → Scope → TypedRule
rule_of_sides id r t sides s = record {
  id = id;
  root_term = t.id;
  args = typed_list sides.0;
  iflets = sides.1.0;
  rhs = sides.1.1;
  vars = s.vars;
  prio = unwrap_or r.prio (pos 0);
  at = r.at;
  name = own_number s r.name;
}

-- the typed rule of the sides, where they have been made
abbrev pub finished_rule : ℕ → RuleTree → TermEntry → Option (Typing Sides) → Option (Typing TypedRule)
finished_rule id r t None = None
finished_rule id r t (Some a) = Some (record { made = rule_of_sides id r t a.made a.scope; scope = with_own_name r.name a.scope; expansions = a.expansions })

-- a rule of a multi term has no priority
abbrev pub may_have_priority : Flags → RuleTree → Bool
may_have_priority flags r = not (flags.multi && is_some r.prio)

-- a rule of an entry of the term table, under that term's flags
abbrev pub rule_of_term : Setting → ℕ → ℕ → RuleTree → Scope → TermEntry → Option (Typing TypedRule)
rule_of_term e d id r s t =
    then_option (declared_flags t.kind) (λ flags. if may_have_priority flags r then finished_rule id r t (elaborated_sides e flags d r t s) else None)

-- a rule of a declared term, from the names met before it, where so many expansions may nest
abbrev pub elaborated_rule : Setting → ℕ → ℕ → RuleTree → List (List ℕ) → Option (Typing TypedRule)
elaborated_rule e d id r names =
    then_option (root_name r.pattern) (λ n. then_option (term_of e (new_scope names) n.text) (λ t. rule_of_term e d id r (new_scope names) t))

-- how many expansions may nest in one another
abbrev pub most_nested : ℕ
most_nested = 256

-- how many expansions one rule may take
abbrev pub most_expansions : ℕ
most_expansions = 65536

-- what took no more expansions than that
abbrev pub few_enough : {X : Type 0} → Option (Typing X) → Option (Typing X)
few_enough None = None
few_enough (Some a) = if nat_le a.expansions most_expansions then Some a else None

-- a rule within the limits on expansions
abbrev pub typed_rule : Setting → ℕ → RuleTree → List (List ℕ) → Option (Typing TypedRule)
typed_rule e id r names = few_enough (elaborated_rule e most_nested id r names)

-- the typed rules of a list, each from the names met before it, and the names met after all
pub record TypedRules : Type 0 where
  pub rules : List TypedRule
  pub names : List (List ℕ)

-- a typed rule before the others
abbrev pub with_typed : TypedRule → Option TypedRules → Option TypedRules
with_typed q None = None
with_typed q (Some l) = Some (record { rules = q ∷ l.rules; names = l.names })

-- the rules of a list in order, the first of which has this id
abbrev pub typed_rules : Setting → ℕ → List RuleTree → List (List ℕ) → Option TypedRules
typed_rules e id [] names = Some (record { rules = []; names = names })
typed_rules e id (r ∷ rs) names = then_option (typed_rule e id r names) (λ a. with_typed a.made (typed_rules e (suc id) rs a.scope.names))

-- an unnamed rule that is the only one of its term has the term's name
abbrev pub named : Setting → TypedRules → TypedRules
named e l = record { rules = named_rules e.terms l.rules; names = l.names }

-- the typed rules of a list, with those names
abbrev pub elaborated_rules : Setting → List RuleTree → List (List ℕ) → Option TypedRules
elaborated_rules e trees names = option_map (named e) (typed_rules e 0 trees names)

-- all rules of a list have typed rules, and no two of these have one name
pub record RulesElaborate (e : Setting) (trees : List RuleTree) (before : List (List ℕ)) (l : TypedRules) : Type 0 where
  pub typed : elaborated_rules e trees before ≡ Some l
  pub distinct : IsDistinct (rule_names l.rules)
