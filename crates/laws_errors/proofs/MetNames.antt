-- The names after a step go on from those before it, and where a limit stops it this is one on expansions.
use Rattle.std.proofs.Common.{◌≡◌, ℕ, zero, suc, ◌+◌, Bool, true, false, cond, nat_le, List, [], ◌∷◌, ◌++◌, map, Option, Some, None, append_assoc, append-nil, refl, sym, ap, ◌∙◌, arith}
use Rattle.std.proofs.lemmas.Grind.{common_steps}
use Rattle.model.specs.lists.Syntax.{Position, Name, PatternTree, var_pattern, bind_pattern, prim_pattern, term_pattern, and_pattern, PatternTrees, no_pattern, pattern_and, pattern_list, ExprTree, term_expr, var_expr, bool_expr, int_expr, prim_expr, let_expr, ExprTrees, no_expr, expr_and, LetTrees, no_let, let_and, IfLetTree, RuleTree}
use Rattle.model.specs.lists.Names.{has_name, with_name}
use Rattle.model.specs.lists.Tables.{Flags, TermEntry}
use Rattle.model.specs.lists.TermTable.{root_name}
use Rattle.model.specs.lists.Setting.{Setting, Scope, met, var_of, term_of, type_of_constant, on_lhs, expr_type, declared_flags, new_scope}
use Rattle.model.specs.lists.Expansions.{substituted}
use Rattle.model.specs.lists.Elaborated.{most_expansions, typed_iflet, root_parts, Sides, with_own_name, most_nested}
use Rattle.model.specs.rules.Typed.{TypedPattern, TypedExpr, match_and, TypedLets, no_typed_let, typed_let_and, TypedVar, TypedRule}
use Rattle.model.specs.claims.Refusals.{of_expansions}
use Rattle.model.proofs.Names.{distinct_names}
use Rattle.laws_errors.specs.Steps.{Mistake, Step, went_on, stopped, noting, made_step, counted_step, joined_step, then_step, then_made}
use Rattle.laws_errors.specs.PatternSteps.{var_step, bind_step, constant_step, template_step, use_step, converted_step, found_step, pattern_step, parts_step, each_step, deeper_step}
use Rattle.laws_errors.specs.ExprSteps.{converted_or, expected_step, called_step, used_step, made_constant_step, def_step, let_step, closed, ended_step, expr_step, args_step, lets_step, deeper_expr_step}
use Rattle.laws_errors.specs.RuleSteps.{is_wrong, passes, errors_of, rule_step, iflet_step, with_iflet, iflets_step, root_step, sides_step, finished_step, declared_step, of_term_step, rooted_step, step_of_rule, then_rules, rules_step}
use Rattle.laws_errors.specs.NameLaws.{names_in, GoOn, NamesGoOn, IsOfExpansions, StopsOfExpansions, StepsStopOfExpansions, AreInOrder, no_rule, rule_first, RulesAreInOrder}

-- 1. names
same_on : (names : List (List ℕ)) → GoOn names names
same_on names = (([], sym (append-nil names)), λ d. d)

both_on : (names mid after : List (List ℕ)) → GoOn names mid → GoOn mid after → GoOn names after
both_on names mid after a b = ((a.0.0 ++ b.0.0, b.0.1 ∙ ap (λ l. l ++ b.0.0) a.0.1 ∙ append_assoc names a.0.0 b.0.0), λ d. b.1 (a.1 d))

met_on : (names : List (List ℕ)) (x : List ℕ) → GoOn names (with_name names x)
met_on names x = (
  elim (has_name names x) as (λ b. (more : List (List ℕ)) × (cond b names (names ++ x ∷ []) ≡ names ++ more)) [ true ↦ ([], sym (append-nil names)) | false ↦ (x ∷ [], refl) ],
  distinct_names names (x ∷ []),
)

-- 2. steps
module _ {X : Type 0} where
  abbrev StepOn : Scope → Step X → Type 0
  StepOn s (went_on m t k es) = GoOn s.names t.names
  StepOn s (stopped l t es) = GoOn s.names t.names × IsOfExpansions l

  step_goes_on : (s : Scope) (t : Step X) → StepOn s t → GoOn s.names (names_in t)
  step_goes_on s t h = grind (arith, common_steps)

  step_stops : (s : Scope) (t : Step X) → StepOn s t → StopsOfExpansions t
  step_stops s t h = grind (arith, common_steps)

  later_on : (s u : Scope) (t : Step X) → GoOn s.names u.names → StepOn u t → StepOn s t
  later_on s u (went_on m t k es) a h = both_on s.names u.names t.names a h
  later_on s u (stopped l t es) a h = (both_on s.names u.names t.names a h.0, h.1)

  noting_on : (s : Scope) (ws : List Mistake) (t : Step X) → StepOn s t → StepOn s (noting ws t)
  noting_on s ws t h = grind (arith, common_steps)

  counted_on : (s : Scope) (t : Step X) → StepOn s t → StepOn s (counted_step t)
  counted_on s t h = grind (arith, common_steps)

made_on : {X Y : Type 0} (f : X → Y) (s : Scope) (t : Step X) → StepOn s t → StepOn s (made_step f t)
made_on f s t h = grind (arith, common_steps)

module _ {X Y Z : Type 0} (g : Option X → Y → Z) where
  joined_on : (s : Scope) (m : Option X) (k : ℕ) (t : Step Y) → StepOn s t → StepOn s (joined_step g m k t)
  joined_on s m k t h = grind (arith, common_steps)

  in_order_on : (s : Scope) (t : Step X) (next : Option X → Scope → ℕ → Step Y) → StepOn s t → ((m : Option X) (u : Scope) (k : ℕ) → StepOn u (next m u k)) → StepOn s (then_step g t next)
  in_order_on s t next h r = grind (arith, common_steps, noting_on, joined_on, later_on)

then_made_on : {X Y : Type 0} (s : Scope) (t : Step X) (next : X → Scope → ℕ → Step Y) → StepOn s t → ((x : X) (u : Scope) (k : ℕ) → StepOn u (next x u k)) → StepOn s (then_made t next)
then_made_on {X} {Y} s t next h r = grind (arith, common_steps, in_order_on, same_on)

-- 3. patterns
bind_on : (x : List ℕ) (at : Position) (s : Scope) (t : Step TypedPattern) → StepOn s t → StepOn s (bind_step x at t)
bind_on x at s (went_on (Some q) u k es) h = both_on s.names u.names (with_name u.names x) h (met_on u.names x)
bind_on x at s _ h = h

var_on : (ty : ℕ) (x : List ℕ) (at : Position) (s : Scope) (o : Option TypedVar) → StepOn s (var_step ty x at s o)
var_on ty x at s None = met_on s.names x
var_on ty x at s (Some v) = same_on s.names

matched_on : (ty : ℕ) (x : List ℕ) (at : Position) (s : Scope) (o : Option ℕ) → StepOn s (constant_step ty x at s o)
matched_on ty x at s None = met_on s.names x
matched_on ty x at s (Some own) = same_on s.names

module _ (e : Setting) (multi : Bool) (d : ℕ) (deeper : (p : PatternTree) (ty n : ℕ) (s : Scope) → StepOn s (deeper_step e multi d p ty n s)) where
  template_on : (ty n : ℕ) (s : Scope) (o : Option PatternTree) → StepOn s (template_step (deeper_step e multi d) ty n s o)
  template_on ty n s o = grind (arith, common_steps, same_on)

  module _ (name : Name) (args : PatternTrees) (at : Position) (ty n : ℕ) (s : Scope) (parts : (tys : List ℕ) → StepOn s (parts_step e multi (deeper_step e multi d) args tys n s)) where
    use_on : (t : TermEntry) (o : Option PatternTree) → StepOn s (use_step multi (deeper_step e multi d) name args at ty n s t (λ tys. parts_step e multi (deeper_step e multi d) args tys n s) o)
    use_on t (Some template) = noting_on s _ (template_step (deeper_step e multi d) ty n s (substituted (pattern_list args) template)) (template_on ty n s (substituted (pattern_list args) template))
    use_on t None = grind (arith, common_steps, noting_on, made_on, parts t.arg_tys)

    converted_on : (t : TermEntry) (o : Option TermEntry) → StepOn s (converted_step e multi (deeper_step e multi d) name args at ty n s t (λ tys. parts_step e multi (deeper_step e multi d) args tys n s) o)
    converted_on t o = grind (arith, common_steps, use_on)

    found_on : (o : Option TermEntry) → StepOn s (found_step e multi (deeper_step e multi d) name args at ty n s (λ tys. parts_step e multi (deeper_step e multi d) args tys n s) o)
    found_on o = grind (arith, common_steps, same_on, use_on, converted_on)

  mutual
    pattern_on : (p : PatternTree) (ty n : ℕ) (s : Scope) → StepOn s (pattern_step e multi (deeper_step e multi d) p ty n s)
    pattern_on (var_pattern name at) ty n s = var_on ty name.text at s (var_of s name.text)
    pattern_on (bind_pattern name of at) ty n s = bind_on name.text at s (pattern_step e multi (deeper_step e multi d) of ty n s) (pattern_on of ty n s)
    pattern_on (prim_pattern name at) ty n s = matched_on ty name.text at s (type_of_constant e s name.text)
    pattern_on (term_pattern name args at) ty n s = found_on name args at ty n s (λ tys. parts_on args tys n s) (term_of e s name.text)
    pattern_on (and_pattern parts at) ty n s = made_on (match_and ty) s (each_step e multi (deeper_step e multi d) parts ty n s) (each_on parts ty n s)
    pattern_on _ ty n s = same_on s.names

    parts_on : (args : PatternTrees) (tys : List ℕ) (n : ℕ) (s : Scope) → StepOn s (parts_step e multi (deeper_step e multi d) args tys n s)
    parts_on no_pattern tys n s = same_on s.names
    parts_on (pattern_and p rest) [] n s = same_on s.names
    parts_on (pattern_and p rest) (ty ∷ tys) n s = grind (arith, common_steps, pattern_on p ty n s, parts_on rest tys, in_order_on)

    each_on : (ps : PatternTrees) (ty n : ℕ) (s : Scope) → StepOn s (each_step e multi (deeper_step e multi d) ps ty n s)
    each_on no_pattern ty n s = same_on s.names
    each_on (pattern_and p rest) ty n s = grind (arith, common_steps, pattern_on p ty n s, each_on rest ty, in_order_on)

-- what expansions make
deeper_on : (e : Setting) (multi : Bool) (d : ℕ) (p : PatternTree) (ty n : ℕ) (s : Scope) → StepOn s (deeper_step e multi d p ty n s)
deeper_on e multi zero p ty n s = (same_on s.names, tt)
deeper_on e multi (suc d) p ty n s = elim (nat_le most_expansions n) as (λ b. StepOn s (cond b (stopped of_expansions s []) (counted_step (pattern_step e multi (deeper_step e multi d) p ty (suc n) s)))) [
  | true ↦ (same_on s.names, tt)
  | false ↦ counted_on s (pattern_step e multi (deeper_step e multi d) p ty (suc n) s) (pattern_on e multi d (deeper_on e multi d) p ty (suc n) s)
]

-- 4. expressions
module _ (e : Setting) (at : Position) (s : Scope) (itself : Step TypedExpr) (convert : TermEntry → Step TypedExpr) (h : StepOn s itself) (i : (c : TermEntry) → StepOn s (convert c)) where
  converts_on : (o p : Option TermEntry) → StepOn s (converted_or at s itself convert o p)
  converts_on o p = grind (arith, common_steps)

  expected_on : (own : ℕ) (ty : Option ℕ) → StepOn s (expected_step e own ty at s itself convert)
  expected_on own ty = grind (arith, common_steps, converts_on)

closed_names : (ds : TypedLets) (s : Scope) → (closed ds s).names ≡ s.names
closed_names no_typed_let s = refl
closed_names (typed_let_and x ty value rest) s = closed_names rest s

ended_on : (ds : TypedLets) (s : Scope) (t : Step TypedExpr) → StepOn s t → StepOn s (ended_step ds t)
ended_on ds s t h = grind (arith, closed_names)

def_on : (x : List ℕ) (ty : ℕ) (s : Scope) (t : Step TypedExpr) → StepOn s t → StepOn s (def_step x ty t)
def_on x ty s (went_on (Some v) u k es) h = both_on s.names u.names (with_name u.names x) h (met_on u.names x)
def_on x ty s _ h = h

let_on : (x ty : List ℕ) (at : Position) (s : Scope) (value : ℕ → Step TypedExpr) (o : Option ℕ) → ((own : ℕ) → StepOn (met s x) (value own)) → StepOn s (let_step x ty at s value o)
let_on x ty at s value None h = met_on s.names x
let_on x ty at s value (Some own) h = def_on x own s (value own) (later_on s (met s x) (value own) (met_on s.names x) (h own))

constant_on : (ty : Option ℕ) (x : List ℕ) (at : Position) (s : Scope) (o : Option ℕ) → StepOn s (made_constant_step ty x at s o)
constant_on ty x at s o = grind (arith, common_steps, met_on s.names x, same_on s.names)

module _ (e : Setting) (flags : Flags) (d : ℕ) (deeper : (x : ExprTree) (ty : Option ℕ) (n : ℕ) (s : Scope) → StepOn s (deeper_expr_step e flags d x ty n s)) where
  called_on : (name : Name) (args : ExprTrees) (at : Position) (ty : Option ℕ) (n : ℕ) (s : Scope) → ((tys : List ℕ) → StepOn s (args_step e flags (deeper_expr_step e flags d) args tys n s)) → (o : Option TermEntry)
      → StepOn s (called_step e flags (deeper_expr_step e flags d) name args at ty n s (λ tys. args_step e flags (deeper_expr_step e flags d) args tys n s) o)
  called_on name args at ty n s parts None = same_on s.names
  called_on name args at ty n s parts (Some t) = grind (arith, common_steps, expected_on, noting_on, made_on, parts t.arg_tys)

  used_on : (name : Name) (at : Position) (ty : Option ℕ) (n : ℕ) (s : Scope) (o : Option TypedVar) → StepOn s (used_step e (deeper_expr_step e flags d) name at ty n s o)
  used_on name at ty n s o = grind (arith, common_steps, same_on)

  mutual
    expr_on : (x : ExprTree) (ty : Option ℕ) (n : ℕ) (s : Scope) → StepOn s (expr_step e flags (deeper_expr_step e flags d) x ty n s)
    expr_on (term_expr name args at) ty n s = called_on name args at ty n s (λ tys. args_on args tys n s) (term_of e s name.text)
    expr_on (var_expr name at) ty n s = used_on name at ty n s (var_of s name.text)
    expr_on (bool_expr b at) ty n s = same_on s.names
    expr_on (int_expr z at) None n s = same_on s.names
    expr_on (int_expr z at) (Some own) n s = same_on s.names
    expr_on (prim_expr name at) ty n s = constant_on ty name.text at s (type_of_constant e s name.text)
    expr_on (let_expr defs body at) ty n s =
        then_made_on s (lets_step e flags (deeper_expr_step e flags d) defs at n s) (λ ds t k. ended_step ds (expr_step e flags (deeper_expr_step e flags d) body ty (n + k) t)) (lets_on defs at n s)
        (λ ds u k. ended_on ds u (expr_step e flags (deeper_expr_step e flags d) body ty (n + k) u) (expr_on body ty (n + k) u))

    args_on : (args : ExprTrees) (tys : List ℕ) (n : ℕ) (s : Scope) → StepOn s (args_step e flags (deeper_expr_step e flags d) args tys n s)
    args_on no_expr tys n s = same_on s.names
    args_on (expr_and x rest) [] n s = same_on s.names
    args_on (expr_and x rest) (ty ∷ tys) n s = grind (arith, common_steps, expr_on x (Some ty) n s, args_on rest tys, in_order_on)

    lets_on : (defs : LetTrees) (at : Position) (n : ℕ) (s : Scope) → StepOn s (lets_step e flags (deeper_expr_step e flags d) defs at n s)
    lets_on no_let at n s = same_on s.names
    lets_on (let_and name ty value own_at rest) at n s = grind (arith, common_steps, expr_on value, lets_on rest at, in_order_on, let_on)

deeper_expr_on : (e : Setting) (flags : Flags) (d : ℕ) (x : ExprTree) (ty : Option ℕ) (n : ℕ) (s : Scope) → StepOn s (deeper_expr_step e flags d x ty n s)
deeper_expr_on e flags zero x ty n s = (same_on s.names, tt)
deeper_expr_on e flags (suc d) x ty n s = elim (nat_le most_expansions n) as (λ b. StepOn s (cond b (stopped of_expansions s []) (counted_step (expr_step e flags (deeper_expr_step e flags d) x ty (suc n) s)))) [
  | true ↦ (same_on s.names, tt)
  | false ↦ counted_on s (expr_step e flags (deeper_expr_step e flags d) x ty (suc n) s) (expr_on e flags d (deeper_expr_on e flags d) x ty (suc n) s)
]

-- 5. rules
module _ (e : Setting) (flags : Flags) (d : ℕ) where
  iflet_on : (i : IfLetTree) (n : ℕ) (s : Scope) → StepOn s (iflet_step e flags d i n s)
  iflet_on i n s =
      then_made_on s (expr_step e (on_lhs flags) (deeper_expr_step e (on_lhs flags) d) i.expr None n s)
      (λ x t k. made_step (typed_iflet x) (pattern_step e flags.multi (deeper_step e flags.multi d) i.pattern (expr_type x) (n + k) t))
      (expr_on e (on_lhs flags) d (deeper_expr_on e (on_lhs flags) d) i.expr None n s)
      (λ x u k. made_on (typed_iflet x) u (pattern_step e flags.multi (deeper_step e flags.multi d) i.pattern (expr_type x) (n + k) u) (pattern_on e flags.multi d (deeper_on e flags.multi d) i.pattern (expr_type x) (n + k) u))

  iflets_on : (is : List IfLetTree) (n : ℕ) (s : Scope) → StepOn s (iflets_step e flags d is n s)
  iflets_on [] n s = same_on s.names
  iflets_on (i ∷ is) n s = in_order_on with_iflet s (iflet_step e flags d i n s) (λ m t k. iflets_step e flags d is (n + k) t) (iflet_on i n s) (λ m u k. iflets_on is (n + k) u)

  root_on : (r : RuleTree) (x : Name) (t : TermEntry) (n : ℕ) (s : Scope) → StepOn s (root_step e flags d r x t n s)
  root_on r x t n s =
      noting_on s _ (parts_step e flags.multi (deeper_step e flags.multi d) (root_parts r.pattern) t.arg_tys n s) (parts_on e flags.multi d (deeper_on e flags.multi d) (root_parts r.pattern) t.arg_tys n s)

  sides_on : (r : RuleTree) (x : Name) (t : TermEntry) (n : ℕ) (s : Scope) → StepOn s (sides_step e flags d r x t n s)
  sides_on r x t n s =
      then_made_on s (root_step e flags d r x t n s)
      (λ args u k. then_made (iflets_step e flags d r.iflets (n + k) u) (λ iflets v j. made_step (λ rhs. (args, (iflets, rhs))) (expr_step e flags (deeper_expr_step e flags d) r.expr (Some t.ret_ty) ((n + k) + j) v)))
      (root_on r x t n s)
      (λ args u k. then_made_on u (iflets_step e flags d r.iflets (n + k) u) (λ iflets v j. made_step (λ rhs. (args, (iflets, rhs))) (expr_step e flags (deeper_expr_step e flags d) r.expr (Some t.ret_ty) ((n + k) + j) v))
      (iflets_on r.iflets (n + k) u)
      (λ iflets v j. grind (arith, common_steps, made_on, expr_on e flags d (deeper_expr_on e flags d) r.expr (Some t.ret_ty), deeper_expr_on e flags d)))

own_on : (name : Option Name) (s u : Scope) → GoOn s.names u.names → GoOn s.names (with_own_name name u).names
own_on None s u h = h
own_on (Some x) s u h = both_on s.names u.names (with_name u.names x.text) h (met_on u.names x.text)

finished_on : (id : ℕ) (r : RuleTree) (t : TermEntry) (flags : Flags) (s : Scope) (x : Step Sides) → StepOn s x → StepOn s (finished_step id r t flags x)
finished_on id r t flags s (went_on (Some q) u k es) h = own_on r.name s u h
finished_on id r t flags s _ h = h

module _ (e : Setting) (d id : ℕ) (r : RuleTree) (n : ℕ) (s : Scope) where
  of_flags : (x : Name) (t : TermEntry) (o : Option Flags) → StepOn s (declared_step e d id r x t n s o)
  of_flags x t None = same_on s.names
  of_flags x t (Some flags) = finished_on id r t flags s (sides_step e flags d r x t n s) (sides_on e flags d r x t n s)

  of_terms : (x : Name) (o : Option TermEntry) → StepOn s (of_term_step e d id r x n s o)
  of_terms x None = same_on s.names
  of_terms x (Some t) = of_flags x t (declared_flags t.kind)

  of_roots : (o : Option Name) → StepOn s (rooted_step e d id r n s o)
  of_roots None = same_on s.names
  of_roots (Some x) = of_terms x (term_of e s x.text)

pub names_go_on_lem : NamesGoOn
names_go_on_lem e d id r n s = step_goes_on s (rule_step e d id r n s) (of_roots e d id r n s (root_name r.pattern))

pub steps_stop_of_expansions_lem : StepsStopOfExpansions
steps_stop_of_expansions_lem e d id r n s = step_stops s (rule_step e d id r n s) (of_roots e d id r n s (root_name r.pattern))

-- 6. rules in order
next_in_order : (e : Setting) (id : ℕ) (r : RuleTree) (rs : List RuleTree) (names : List (List ℕ)) (t : Step TypedRule) → step_of_rule e id r names ≡ t → GoOn names (names_in t)
    → ((j : ℕ) (ns : List (List ℕ)) → AreInOrder e rs ns (rules_step e rs j ns).names (rules_step e rs j ns).errors)
    → AreInOrder e (r ∷ rs) names (then_rules r.at id t (rules_step e rs)).names (then_rules r.at id t (rules_step e rs)).errors
next_in_order e id r rs names t is on rest = elim t as (λ u. step_of_rule e id r names ≡ u → GoOn names (names_in u) → AreInOrder e (r ∷ rs) names (then_rules r.at id u (rules_step e rs)).names (then_rules r.at id u (rules_step e rs)).errors) [
  | went_on None s k es ↦ λ h g. rule_first id r rs names s.names _ (map is_wrong es) _ (ap names_in h) (ap (errors_of r.at) h) g (rest id s.names)
  | went_on (Some q) s k es ↦ λ h g. rule_first id r rs names s.names _ (map is_wrong es) _ (ap names_in h) (ap (errors_of r.at) h) g (rest (suc id) s.names)
  | stopped l s es ↦ λ h g. rule_first id r rs names s.names _ (map is_wrong es ++ passes l r.at ∷ []) _ (ap names_in h) (ap (errors_of r.at) h) g (rest id s.names)
] is on

pub rules_are_in_order_lem : RulesAreInOrder
rules_are_in_order_lem e [] id names = no_rule names
rules_are_in_order_lem e (r ∷ rs) id names =
    next_in_order e id r rs names (step_of_rule e id r names) refl (names_go_on_lem e most_nested id r 0 (new_scope names)) (λ j ns. rules_are_in_order_lem e rs j ns)
