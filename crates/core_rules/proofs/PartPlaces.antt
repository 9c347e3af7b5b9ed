-- The positions of the parts of what is read are among those of the whole.
use Rattle.std.proofs.Common.{◌≡◌, ℕ, zero, suc, ◌<◌, List, [], ◌∷◌, ◌++◌, length, get_or, map, Contains, refl, sym, ap, subst, ◌∙◌, arith}
use Rattle.std.specs.List.{flat_map}
use Rattle.std.proofs.lemmas.Grind.{common_steps}
use Rattle.core_syntax.specs.declared.syntax.Pattern as P
use Rattle.core_syntax.specs.declared.syntax.Expr as E
use Rattle.core_syntax.specs.declared.syntax.LetDef.{LetDef}
use Rattle.core_syntax.specs.SyntaxViews as S
use Rattle.model.specs.lists.Syntax.{Position, Name, PatternTree, var_pattern, bind_pattern, bool_pattern, int_pattern, prim_pattern, term_pattern, wildcard_pattern, and_pattern, macro_arg, PatternTrees, ExprTree, term_expr, var_expr, bool_expr, int_expr, prim_expr, let_expr, ExprTrees, no_expr, expr_and, LetTrees, no_let, let_and, IfLetTree, RuleTree}
use Rattle.model.specs.lists.Tables.{TermEntry}
use Rattle.model.specs.rules.Typed.{TypedRule}
use Rattle.model.specs.lists.Elaborated.{root_parts, named_rule, named_rules}
use Rattle.model.proofs.Members.{in_head, in_map}
use Rattle.core_syntax.specs.Expressions.{terms_of_expr, terms_of_exprs, terms_of_lets}
use Rattle.core_syntax.specs.Positions.{OccurAmong, pattern_positions, patterns_positions, expr_positions, exprs_positions, lets_positions, iflet_positions, rule_name_positions, rule_positions}
use Rattle.core_syntax.proofs.Positioned.{among_both, among_left, among_right, among_rest, among_first, among_one, among_each, among_none, among_join, among_next, among_under}
use Rattle.core_typed.specs.declared.rules.Rule.{Rule}
use Rattle.core_typed.specs.RuleViews.{rule_views}
use Rattle.core_typed.specs.RuleNaming.{rules_at, terms_at}
use Rattle.core_terms.specs.TermPositions.{kind_positions, entry_positions, terms_positions}
use Rattle.core_rules.specs.Lets.{with_let}

among_past : (x y : Position) (ps : List Position) → OccurAmong ps (x ∷ y ∷ ps)
among_past x y ps = among_both ps (y ∷ ps) (x ∷ y ∷ ps) (among_rest y ps) (among_rest x (y ∷ ps))

-- patterns
pub bind_inside : (name : Name) (of : PatternTree) (at : Position) → OccurAmong (pattern_positions of) (pattern_positions (bind_pattern name of at))
bind_inside name of at = among_past at name.at (pattern_positions of)

pub term_inside : (name : Name) (args : PatternTrees) (at : Position) → OccurAmong (patterns_positions args) (pattern_positions (term_pattern name args at))
term_inside name args at = among_past at name.at (patterns_positions args)

pub and_inside : (parts : PatternTrees) (at : Position) → OccurAmong (patterns_positions parts) (pattern_positions (and_pattern parts at))
and_inside parts at = among_rest at (patterns_positions parts)

pub part_inside : (ps : List P.Pattern) (i : ℕ) (p : P.Pattern) → i < length ps → p ≡ get_or ps i p → OccurAmong (pattern_positions (S.pattern_view p)) (patterns_positions (S.pattern_views ps))
part_inside [] i p lt is = absurd (omega arith)
part_inside (q ∷ ps) zero p lt is = grind (arith, common_steps, among_left)
part_inside (q ∷ ps) (suc i) p lt is = grind (arith, common_steps, part_inside ps i p, among_both, among_right)

-- the arguments of a rule's root
pub root_inside : (p : PatternTree) → OccurAmong (patterns_positions (root_parts p)) (pattern_positions p)
root_inside (term_pattern name args at) = term_inside name args at
root_inside (var_pattern name at) = among_none (pattern_positions (var_pattern name at))
root_inside (bind_pattern name of at) = among_none (pattern_positions (bind_pattern name of at))
root_inside (bool_pattern b at) = among_none (pattern_positions (bool_pattern b at))
root_inside (int_pattern z at) = among_none (pattern_positions (int_pattern z at))
root_inside (prim_pattern name at) = among_none (pattern_positions (prim_pattern name at))
root_inside (wildcard_pattern at) = among_none (pattern_positions (wildcard_pattern at))
root_inside (and_pattern parts at) = among_none (pattern_positions (and_pattern parts at))
root_inside (macro_arg i at) = among_none (pattern_positions (macro_arg i at))

-- expressions
pub call_inside : (name : Name) (args : ExprTrees) (at : Position) → OccurAmong (exprs_positions args) (expr_positions (term_expr name args at))
call_inside name args at = among_past at name.at (exprs_positions args)

pub defs_inside : (defs : LetTrees) (body : ExprTree) (at : Position) → OccurAmong (at ∷ lets_positions defs) (expr_positions (let_expr defs body at))
defs_inside defs body at = among_left (at ∷ lets_positions defs) (expr_positions body)

pub body_inside : (defs : LetTrees) (body : ExprTree) (at : Position) → OccurAmong (expr_positions body) (expr_positions (let_expr defs body at))
body_inside defs body at = among_right (at ∷ lets_positions defs) (expr_positions body)

pub arg_inside : (xs : List E.Expr) (i : ℕ) (x : E.Expr) → i < length xs → x ≡ get_or xs i x → OccurAmong (expr_positions (S.expr_view x)) (exprs_positions (S.expr_views xs))
arg_inside [] i x lt is = absurd (omega arith)
arg_inside (y ∷ xs) zero x lt is = grind (arith, common_steps, among_left)
arg_inside (y ∷ xs) (suc i) x lt is = grind (arith, common_steps, arg_inside xs i x, among_both, among_right)

-- those of a definition of a let
abbrev own_positions : LetDef → List Position
own_positions d = S.position d.pos ∷ (S.name_view d.var).at ∷ (S.name_view d.ty).at ∷ expr_positions (S.expr_view d.val.value)

own_first : (d : LetDef) (rest : List Position) → OccurAmong (lets_positions (with_let d no_let)) (own_positions d ++ rest)
own_first d rest = among_join (own_positions d) [] (own_positions d ++ rest) (among_left (own_positions d) rest) (among_none (own_positions d ++ rest))

pub def_inside : (ds : List LetDef) (i : ℕ) (d : LetDef) → i < length ds → d ≡ get_or ds i d → OccurAmong (lets_positions (with_let d no_let)) (lets_positions (S.let_views ds))
def_inside [] i d lt is = absurd (omega arith)
def_inside (e ∷ ds) zero d lt is = subst (λ x. OccurAmong (lets_positions (with_let x no_let)) (own_positions e ++ lets_positions (S.let_views ds))) (sym is) (own_first e (lets_positions (S.let_views ds)))
def_inside (e ∷ ds) (suc i) d lt is =
    among_both (lets_positions (with_let d no_let)) (lets_positions (S.let_views ds)) (own_positions e ++ lets_positions (S.let_views ds)) (def_inside ds i d (omega arith) is) (among_right (own_positions e) (lets_positions (S.let_views ds)))

pub value_inside : (at : Position) (d : LetDef) → OccurAmong (expr_positions (S.expr_view d.val.value)) (at ∷ lets_positions (with_let d no_let))
value_inside at d =
    let value = expr_positions (S.expr_view d.val.value) in
    let inside = lets_positions (with_let d no_let) in
    among_both value inside (at ∷ inside)
    (among_both value (own_positions d) inside
    (among_both value ((S.name_view d.ty).at ∷ value) (own_positions d) (among_rest (S.name_view d.ty).at value) (among_past (S.position d.pos) (S.name_view d.var).at ((S.name_view d.ty).at ∷ value)))
    (among_left (own_positions d) []))
    (among_rest at inside)

-- if-lets and rules
pub taken_inside : (l : IfLetTree) → OccurAmong (pattern_positions l.pattern) (iflet_positions l)
taken_inside l = grind (arith, common_steps, among_both, among_left, among_rest)

pub given_inside : (l : IfLetTree) → OccurAmong (expr_positions l.expr) (iflet_positions l)
given_inside l = grind (arith, common_steps, among_both, among_right, among_rest)

-- an element of a list
pub each_inside : {X Y : Type 0} (f : Y → List Position) (view : X → Y) (xs : List X) (i : ℕ) (x : X) → i < length xs → x ≡ get_or xs i x → OccurAmong (f (view x)) (flat_map f (map view xs))
each_inside f view xs i x lt is = let here : Contains xs x = (i, lt, sym is) in among_each f (map view xs) (view x) (in_map view xs x here)

module _ (r : RuleTree) where
  abbrev before : List Position
  before = rule_name_positions r.name ++ pattern_positions r.pattern

  abbrev iflets : List Position
  iflets = flat_map iflet_positions r.iflets

  abbrev inside : List Position
  inside = before ++ iflets ++ expr_positions r.expr

  behind : (ps : List Position) → OccurAmong ps inside → OccurAmong ps (rule_positions r)
  behind ps a = among_both ps inside (rule_positions r) a (among_rest r.at inside)

  pub rule_at : OccurAmong (r.at ∷ []) (rule_positions r)
  rule_at = among_first r.at inside

  pub rule_root : (args : PatternTrees) → root_parts r.pattern ≡ args → OccurAmong (r.at ∷ patterns_positions args) (rule_positions r)
  rule_root args is =
      among_next r.at (patterns_positions args) (rule_positions r) (in_head r.at inside)
      (behind (patterns_positions args)
      (among_both (patterns_positions args) (pattern_positions r.pattern) inside (subst (λ ps. OccurAmong (patterns_positions ps) (pattern_positions r.pattern)) is (root_inside r.pattern))
      (among_both (pattern_positions r.pattern) before inside (among_right (rule_name_positions r.name) (pattern_positions r.pattern)) (among_both before (before ++ iflets) inside (among_left before iflets) (among_left (before ++ iflets) (expr_positions r.expr))))))

  pub rule_iflets : OccurAmong (flat_map iflet_positions r.iflets) (rule_positions r)
  rule_iflets = behind iflets (among_both iflets (before ++ iflets) inside (among_right before iflets) (among_left (before ++ iflets) (expr_positions r.expr)))

  pub rule_value : OccurAmong (expr_positions r.expr) (rule_positions r)
  rule_value = behind (expr_positions r.expr) (among_right (before ++ iflets) (expr_positions r.expr))

-- terms that expressions use stand at positions of these
two_placed : (xs ys : List (Position × Name)) (all : List Position) → OccurAmong (map (λ u. u.0) xs) all → OccurAmong (map (λ u. u.0) ys) all → OccurAmong (map (λ u. u.0) (xs ++ ys)) all
two_placed [] ys all a b = b
two_placed (x ∷ xs) ys all a b =
    among_next x.0 (map (λ u. u.0) (xs ++ ys)) all (a x.0 (in_head x.0 (map (λ u. u.0) xs)))
    (two_placed xs ys all (among_both (map (λ u. u.0) xs) (x.0 ∷ map (λ u. u.0) xs) all (among_rest x.0 (map (λ u. u.0) xs)) a) b)

mutual
  uses_placed : (x : ExprTree) → OccurAmong (map (λ u. u.0) (terms_of_expr x)) (expr_positions x)
  uses_placed (term_expr name args at) = grind (arith, common_steps, all_placed args, among_next, in_head, among_both, call_inside)
  uses_placed (let_expr defs body at) =
      two_placed (terms_of_lets defs) (terms_of_expr body) (expr_positions (let_expr defs body at))
      (among_both (map (λ u. u.0) (terms_of_lets defs)) (at ∷ lets_positions defs) (expr_positions (let_expr defs body at))
      (among_both (map (λ u. u.0) (terms_of_lets defs)) (lets_positions defs) (at ∷ lets_positions defs) (lets_placed defs) (among_rest at (lets_positions defs))) (defs_inside defs body at))
      (among_both (map (λ u. u.0) (terms_of_expr body)) (expr_positions body) (expr_positions (let_expr defs body at)) (uses_placed body) (body_inside defs body at))
  uses_placed (var_expr name at) = among_none (expr_positions (var_expr name at))
  uses_placed (bool_expr b at) = among_none (expr_positions (bool_expr b at))
  uses_placed (int_expr z at) = among_none (expr_positions (int_expr z at))
  uses_placed (prim_expr name at) = among_none (expr_positions (prim_expr name at))

  all_placed : (xs : ExprTrees) → OccurAmong (map (λ u. u.0) (terms_of_exprs xs)) (exprs_positions xs)
  all_placed no_expr = among_none []
  all_placed (expr_and x xs) =
      two_placed (terms_of_expr x) (terms_of_exprs xs) (expr_positions x ++ exprs_positions xs)
      (among_both (map (λ u. u.0) (terms_of_expr x)) (expr_positions x) (expr_positions x ++ exprs_positions xs) (uses_placed x) (among_left (expr_positions x) (exprs_positions xs)))
      (among_both (map (λ u. u.0) (terms_of_exprs xs)) (exprs_positions xs) (expr_positions x ++ exprs_positions xs) (all_placed xs) (among_right (expr_positions x) (exprs_positions xs)))

  lets_placed : (ds : LetTrees) → OccurAmong (map (λ u. u.0) (terms_of_lets ds)) (lets_positions ds)
  lets_placed no_let = among_none []
  lets_placed (let_and name ty value at ds) =
      let own : List Position = at ∷ name.at ∷ ty.at ∷ expr_positions value in
      two_placed (terms_of_expr value) (terms_of_lets ds) (own ++ lets_positions ds)
      (among_both (map (λ u. u.0) (terms_of_expr value)) (expr_positions value) (own ++ lets_positions ds) (uses_placed value)
      (among_both (expr_positions value) own (own ++ lets_positions ds)
      (among_both (expr_positions value) (ty.at ∷ expr_positions value) own (among_rest ty.at (expr_positions value)) (among_past at name.at (ty.at ∷ expr_positions value))) (among_left own (lets_positions ds))))
      (among_both (map (λ u. u.0) (terms_of_lets ds)) (lets_positions ds) (own ++ lets_positions ds) (lets_placed ds) (among_right own (lets_positions ds)))

-- the same of uses as the code has them
pub found_placed : {X : Type 0} (view : X → Position × Name) (xs : List X) (x : ExprTree) → map view xs ≡ terms_of_expr x → OccurAmong (map (λ u. (view u).0) xs) (expr_positions x)
found_placed view xs x is = subst (λ ps. OccurAmong ps (expr_positions x)) (ap (map (λ u. u.0)) (sym is) ∙ sym (mapped view xs)) (uses_placed x)
  where
    mapped : {X : Type 0} (view : X → Position × Name) (xs : List X) → map (λ u. (view u).0) xs ≡ map (λ u. u.0) (map view xs)
    mapped view [] = refl
    mapped view (y ∷ xs) = ap (λ ps. (view y).0 ∷ ps) (mapped view xs)

-- one place of a list
pub one_inside : {X : Type 0} (f : X → Position) (xs : List X) (i : ℕ) (x : X) → i < length xs → x ≡ get_or xs i x → OccurAmong (f x ∷ []) (map f xs)
one_inside f xs i x lt is = let here : Contains xs x = (i, lt, sym is) in among_one (f x) (map f xs) (in_map f xs x here)

-- where typed rules stand
pub added_rule : (rs : List Rule) (made : Rule) (r : RuleTree) → S.position made.pos ≡ r.at → OccurAmong (rules_at (rule_views (rs ++ made ∷ []))) (rules_at (rule_views rs) ++ rule_positions r)
added_rule [] made r is = subst (λ (p : Position). OccurAmong (p ∷ []) (rule_positions r)) (sym is) (rule_at r)
added_rule (q ∷ rs) made r is = among_under (S.position q.pos) (rules_at (rule_views (rs ++ made ∷ []))) (rules_at (rule_views rs) ++ rule_positions r) (added_rule rs made r is)

same_places : (terms : List TermEntry) (all rs : List TypedRule) → rules_at (map (named_rule terms all) rs) ≡ rules_at rs
same_places terms all [] = refl
same_places terms all (r ∷ rs) = ap (λ ps. r.at ∷ ps) (same_places terms all rs)

pub named_places : (terms : List TermEntry) (rs : List TypedRule) → rules_at (named_rules terms rs) ≡ rules_at rs
named_places terms rs = same_places terms rs rs

-- where terms were declared
pub declared_inside : (ts : List TermEntry) → OccurAmong (terms_at ts) (terms_positions ts)
declared_inside [] = among_none []
declared_inside (t ∷ ts) =
    among_next t.at (terms_at ts) (entry_positions t ++ terms_positions ts) (in_head t.at (kind_positions t.kind ++ terms_positions ts))
    (among_both (terms_at ts) (terms_positions ts) (entry_positions t ++ terms_positions ts) (declared_inside ts) (among_right (entry_positions t) (terms_positions ts)))
