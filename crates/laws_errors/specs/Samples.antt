-- Rules with two or three mistakes each, and the errors that are said of them: what is wrong behind the first mistake, at which of the
-- places of a part it is said, and in which order, the other laws leave open.
use Rattle.std.specs.Prelude.{◌≡◌, ℕ, ℤ, pos, Bool, true, false, List, [], ◌∷◌, ◌++◌, map, Option, Some, None}
use Rattle.model.specs.lists.Syntax.{Position, Name, PatternTree, var_pattern, bind_pattern, bool_pattern, prim_pattern, term_pattern, wildcard_pattern, and_pattern, macro_arg, PatternTrees, no_pattern, pattern_and, ExprTree, term_expr, var_expr, bool_expr, int_expr, prim_expr, let_expr, ExprTrees, no_expr, expr_and, no_let, let_and, IfLetTree, RuleTree}
use Rattle.model.specs.lists.Tables.{builtin_type, primitive_type, enum_type, Flags, internal_constructor, external_constructor, internal_extractor, external_extractor, TermKindEntry, variant_term, declared_term, TermEntry}
use Rattle.model.specs.lists.Setting.{Setting, new_scope}
use Rattle.model.specs.claims.Refusals.{of_nesting}
use Rattle.laws_errors.specs.Steps.{Why, unknown_extractor, unknown_constructor, unknown_variable, unknown_constant, unknown_let_type, rebound, bound_type, extractor_type, matched_constant_type, variable_type, constructor_type, constant_type, no_integer, no_truth, untyped_integer, argument_count, no_extractor, multi_extractor, no_constructor, impure_constructor, multi_constructor, partial_constructor, macro_argument, no_root, unknown_root, undeclared_root, priority}
use Rattle.laws_errors.specs.RuleSteps.{RuleError, is_wrong, passes, errors_of, rule_step, rules_step}

abbrev pub at : ℕ → Position
at n = record { file = 0; offset = n }

-- names are of one byte. Those below 14 were met: bool, the types T, U and V; constants K of T and L of V; terms
abbrev pub bool_name : List ℕ
bool_name = 0 ∷ []

abbrev pub t_name : List ℕ
t_name = 1 ∷ []

abbrev pub u_name : List ℕ
u_name = 2 ∷ []

abbrev pub v_name : List ℕ
v_name = 3 ∷ []

abbrev pub k : List ℕ
k = 4 ∷ []

abbrev pub l : List ℕ
l = 5 ∷ []

abbrev pub f : List ℕ
f = 6 ∷ []

abbrev pub g : List ℕ
g = 7 ∷ []

abbrev pub h : List ℕ
h = 8 ∷ []

abbrev pub twice : List ℕ
twice = 9 ∷ []

abbrev pub to_t : List ℕ
to_t = 10 ∷ []

abbrev pub to_u : List ℕ
to_u = 11 ∷ []

abbrev pub variant : List ℕ
variant = 12 ∷ []

abbrev pub p : List ℕ
p = 13 ∷ []

abbrev pub met_names : List (List ℕ)
met_names = bool_name ∷ t_name ∷ u_name ∷ v_name ∷ k ∷ l ∷ f ∷ g ∷ h ∷ twice ∷ to_t ∷ to_u ∷ variant ∷ p ∷ []

-- variables, and what nothing has the name of
abbrev pub x : List ℕ
x = 20 ∷ []

abbrev pub y : List ℕ
y = 21 ∷ []

abbrev pub z : List ℕ
z = 22 ∷ []

abbrev pub nope : List ℕ
nope = 50 ∷ []

abbrev pub lost : List ℕ
lost = 51 ∷ []

abbrev pub named : List ℕ → Name
named text = record { text = text; at = at 0 }

abbrev pub flags : Bool → Bool → Bool → Flags
flags pure multi partial = record { pure = pure; multi = multi; partial = partial; rec = false }

abbrev pub entry : ℕ → ℕ → List ℕ → ℕ → TermKindEntry → TermEntry
entry id name arg_tys ret_ty kind = record { id = id; at = at 0; name = name; arg_tys = arg_tys; ret_ty = ret_ty; kind = kind }

-- f (T T) T, pure, with rules; g (T T) T, both ways; h (T) V, both ways, multi; p (T) V, partial; twice (T) T, the template (g 0 0);
-- to_t (U) T, both ways, and to_u (T) U, that only says it converts; a variant of U. g is said to convert
-- to V, and doesn't: conversions by it never end
abbrev pub sample_setting : Setting
sample_setting = record {
  types = builtin_type 0 ∷ primitive_type 1 1 (at 0) ∷ enum_type 2 2 false false [] (at 0) ∷ primitive_type 3 3 (at 0) ∷ [];
  type_names = 0 ∷ 1 ∷ 2 ∷ 3 ∷ [];
  constants = (4, 1) ∷ (5, 3) ∷ [];
  terms = entry 0 6 (1 ∷ 1 ∷ []) 1 (declared_term (flags true false false) (Some internal_constructor) None)
      ∷ entry 1 7 (1 ∷ 1 ∷ []) 1 (declared_term (flags true false false) (Some (external_constructor 7)) (Some (external_extractor 7 true (at 0))))
      ∷ entry 2 8 (1 ∷ []) 3 (declared_term (flags false true false) (Some internal_constructor) (Some (external_extractor 8 false (at 0))))
      ∷ entry 3 9 (1 ∷ []) 1 (declared_term (flags true false false) None (Some (internal_extractor (term_pattern (named g) (pattern_and (macro_arg 0 (at 90)) (pattern_and (macro_arg 0 (at 91)) no_pattern)) (at 92)))))
      ∷ entry 4 10 (2 ∷ []) 1 (declared_term (flags true false false) (Some (external_constructor 10)) (Some (external_extractor 10 true (at 0))))
      ∷ entry 5 11 (1 ∷ []) 2 (declared_term (flags true false false) None None)
      ∷ entry 6 12 [] 2 (variant_term 0)
      ∷ entry 7 13 (1 ∷ []) 3 (declared_term (flags false false true) (Some (external_constructor 13)) None)
      ∷ [];
  converters = ((2, 1), 4) ∷ ((1, 2), 5) ∷ ((1, 3), 1) ∷ [];
  expand = true;
}

-- patterns
abbrev pub any : PatternTree
any = wildcard_pattern (at 0)

abbrev pub one_of : PatternTree → PatternTrees
one_of p = pattern_and p no_pattern

abbrev pub two_of : PatternTree → PatternTree → PatternTrees
two_of p q = pattern_and p (pattern_and q no_pattern)

abbrev pub three_of : PatternTree → PatternTree → PatternTree → PatternTrees
three_of p q r = pattern_and p (pattern_and q (pattern_and r no_pattern))

-- expressions
abbrev pub arg : ExprTree → ExprTrees
arg a = expr_and a no_expr

abbrev pub args : ExprTree → ExprTree → ExprTrees
args a b = expr_and a (expr_and b no_expr)

abbrev pub call : List ℕ → ExprTrees → ℕ → ExprTree
call name xs n = term_expr (named name) xs (at n)

abbrev pub var : List ℕ → ℕ → ExprTree
var name n = var_expr (named name) (at n)

abbrev pub one : ℕ → ExprTree
one n = int_expr (pos 1) (at n)

-- a let of one definition, which stands at a place of its own
abbrev pub let_of : List ℕ → List ℕ → ExprTree → ExprTree → ℕ → ExprTree
let_of name ty value body n = let_expr (let_and (named name) (named ty) value (at 80) no_let) body (at n)

-- rules at 100, whose roots stand at 1
abbrev pub rule_of : PatternTree → List IfLetTree → ExprTree → Option ℤ → RuleTree
rule_of p iflets e prio = record { pattern = p; iflets = iflets; expr = e; at = at 100; prio = prio; name = None }

abbrev pub f_rule : PatternTrees → List IfLetTree → ExprTree → RuleTree
f_rule ps iflets e = rule_of (term_pattern (named f) ps (at 1)) iflets e None

abbrev pub f_of : ExprTree → RuleTree
f_of e = f_rule (two_of any any) [] e

abbrev pub iflet : PatternTree → ExprTree → IfLetTree
iflet p e = record { pattern = p; expr = e; at = at 81 }

abbrev pub wrong : Why → ℕ → RuleError
wrong why n = is_wrong (record { why = why; at = at n })

-- what is said of a rule, where so many expansions may nest
abbrev pub said_within : ℕ → RuleTree → List RuleError
said_within d r = errors_of r.at (rule_step sample_setting d 0 r 0 (new_scope met_names))

abbrev pub said : RuleTree → List RuleError
said r = said_within 4 r

-- an unknown constant is left out, and a name that is bound twice is bound; all parts of too many are read for which there are types
abbrev pub patterns_wrong : RuleTree
patterns_wrong = f_rule (two_of
    (and_pattern (three_of (var_pattern (named x) (at 2)) (prim_pattern (named nope) (at 3)) (bind_pattern (named x) any (at 4))) (at 5))
    (term_pattern (named g) (three_of (bool_pattern true (at 7)) any (macro_arg 0 (at 8))) (at 6))) [] (var x 9)

-- both types and uses of terms are wrong, and their parts are read all the same: y is bound
abbrev pub uses_wrong : RuleTree
uses_wrong = f_rule (two_of (term_pattern (named f) (two_of any (macro_arg 3 (at 3))) (at 2)) (term_pattern (named h) (one_of (var_pattern (named y) (at 5))) (at 4))) [] (var y 9)

-- of a wrong template's use only the number of arguments is said; so it is of a converter's where that is well
abbrev pub templates_wrong : RuleTree
templates_wrong = f_rule (two_of (term_pattern (named twice) no_pattern (at 2)) (term_pattern (named twice) (one_of (term_pattern (named nope) no_pattern (at 4))) (at 3))) [] (one 9)

-- a call of another type that two flags forbid, with too many arguments, the second of which isn't read; and by the third flag
abbrev pub calls_wrong : RuleTree
calls_wrong = f_of (call h (args (bool_expr true (at 11)) (var lost 12)) 10)

abbrev pub partial_call : RuleTree
partial_call = f_of (call p no_expr 10)

-- a let for whose body nothing is made leaves its scope open: x can be used
abbrev pub open_let : RuleTree
open_let = f_of (call g (args (let_of x t_name (one 11) (call nope no_expr 12) 13) (var x 14)) 10)

-- so does one whose body is a constant of another type, which isn't made
abbrev pub constant_in_let : RuleTree
constant_in_let = f_of (call g (args (let_of x t_name (one 11) (prim_expr (named l) (at 12)) 13) (var x 14)) 10)

-- a let around one whose body is made puts back its own name alone: y can be used, x can't
abbrev pub let_around : RuleTree
let_around = f_of (call g (args (let_of x t_name (one 11) (call g (args (let_of y t_name (one 12) (call nope no_expr 13) 14) (var x 15)) 16) 17) (call g (args (var y 18) (var x 19)) 20)) 10)

-- the name of an open let inside is put back where it is the outer's too
abbrev pub same_around : RuleTree
same_around = f_of (call g (args (let_of x t_name (one 11) (call g (args (let_of x t_name (one 12) (call nope no_expr 13) 14) (var x 15)) 16) 17) (var x 18)) 10)

-- an unknown type is said where the let stands; the value isn't read, and the name isn't bound. Nor is it where there is no value
abbrev pub let_types : RuleTree
let_types = f_of (call g (args (let_of y nope (var lost 11) (var y 12) 13) (let_of z t_name (call nope no_expr 14) (var z 15) 16)) 10)

-- variables, constants and literals of other types; a constant isn't made, and a variable is
abbrev pub others_wrong : RuleTree
others_wrong = f_rule (two_of any any) (iflet (var_pattern (named z) (at 2)) (prim_expr (named l) (at 3)) ∷ []) (call g (args (var z 11) (prim_expr (named l) (at 12))) 10)

-- what is declared to convert makes no value; an integer of an enum
abbrev pub conversions_wrong : RuleTree
conversions_wrong = f_rule (two_of (var_pattern (named x) (at 2)) any) [] (call g (args (call to_t (arg (var x 12)) 11) (call to_t (arg (one 14)) 13)) 10)

-- an integer without a type: the pattern isn't read. A name that is bound is used at its own type. A variable in parentheses
abbrev pub iflets_wrong : RuleTree
iflets_wrong = f_rule (two_of (var_pattern (named x) (at 2)) any)
    (iflet (macro_arg 0 (at 3)) (one 4) ∷ iflet (and_pattern (two_of (var_pattern (named x) (at 5)) (prim_pattern (named k) (at 6))) (at 7)) (prim_expr (named l) (at 8)) ∷ []) (call x no_expr 9)

-- a name around a wrong one is bound at its type: z can be used as a T
abbrev pub bound_around : RuleTree
bound_around = f_rule (two_of (var_pattern (named x) (at 2)) any) (iflet (bind_pattern (named z) (var_pattern (named x) (at 5)) (at 4)) (prim_expr (named l) (at 8)) ∷ []) (var z 9)

-- the number of arguments of a root is said where the rule stands
abbrev pub root_wrong : RuleTree
root_wrong = f_rule (one_of (term_pattern (named nope) no_pattern (at 2))) [] (var lost 9)

-- a priority is looked at where the right side is made, behind all else
abbrev pub priority_wrong : RuleTree
priority_wrong = rule_of (term_pattern (named h) (one_of (macro_arg 0 (at 2))) (at 1)) [] (prim_expr (named l) (at 9)) (Some (pos 1))

abbrev pub no_priority : RuleTree
no_priority = rule_of (term_pattern (named h) (one_of (macro_arg 0 (at 2))) (at 1)) [] (var lost 9) (Some (pos 1))

-- a limit stops all behind it, and comes last
abbrev pub limit_passed : RuleTree
limit_passed = f_rule (two_of (term_pattern (named nope) no_pattern (at 2)) (term_pattern (named twice) (one_of any) (at 3))) [] (var lost 9)

-- conversions that don't end, behind a variable
abbrev pub never_ending : RuleTree
never_ending = f_rule (two_of (var_pattern (named x) (at 2)) any) (iflet (term_pattern (named g) (two_of any any) (at 3)) (prim_expr (named l) (at 4)) ∷ []) (var lost 9)

abbrev pub PatternsAreTold : Type 0
PatternsAreTold =
    (said patterns_wrong ≡ wrong (unknown_constant nope) 3 ∷ wrong (rebound x) 4 ∷ wrong (argument_count g 3 2) 6 ∷ wrong (no_truth (Some 1) true) 7 ∷ [])
    × (said uses_wrong ≡ wrong (no_extractor f) 2 ∷ wrong (macro_argument 3) 3 ∷ wrong (extractor_type h 1 3) 4 ∷ wrong (multi_extractor h) 4 ∷ [])
    × (said templates_wrong ≡ wrong (argument_count twice 0 1) 2 ∷ wrong (unknown_extractor nope) 4 ∷ wrong (unknown_extractor nope) 4 ∷ [])

abbrev pub ExprsAreTold : Type 0
ExprsAreTold =
    (said calls_wrong
    ≡ wrong (constructor_type h (Some 1) 3) 10 ∷ wrong (impure_constructor h) 10 ∷ wrong (multi_constructor h) 10 ∷ wrong (argument_count h 2 1) 10 ∷ wrong (no_truth (Some 1) true) 11 ∷ [])
    × (said partial_call ≡ wrong (constructor_type p (Some 1) 3) 10 ∷ wrong (impure_constructor p) 10 ∷ wrong (partial_constructor p) 10 ∷ wrong (argument_count p 0 1) 10 ∷ [])
    × (said open_let ≡ wrong (unknown_constructor nope false) 12 ∷ [])
    × (said constant_in_let ≡ wrong (constant_type l (Some 1) 3) 12 ∷ [])
    × (said let_around ≡ wrong (unknown_constructor nope false) 13 ∷ wrong (unknown_variable x) 19 ∷ [])
    × (said same_around ≡ wrong (unknown_constructor nope false) 13 ∷ wrong (unknown_variable x) 18 ∷ [])
    × (said let_types ≡ wrong (unknown_let_type nope y) 13 ∷ wrong (unknown_variable y) 12 ∷ wrong (unknown_constructor nope false) 14 ∷ wrong (unknown_variable z) 15 ∷ [])
    × (said others_wrong ≡ wrong (variable_type z (Some 1) 3) 11 ∷ wrong (constant_type l (Some 1) 3) 12 ∷ [])
    × (said conversions_wrong ≡ wrong (no_constructor to_u) 12 ∷ wrong (no_integer 2 (pos 1)) 14 ∷ [])

abbrev pub RulesAreTold : Type 0
RulesAreTold =
    (said iflets_wrong ≡ wrong untyped_integer 4 ∷ wrong (bound_type x 3 1) 5 ∷ wrong (matched_constant_type k 3 1) 6 ∷ wrong (unknown_constructor x true) 9 ∷ [])
    × (said bound_around ≡ wrong (bound_type x 3 1) 5 ∷ [])
    × (said root_wrong ≡ wrong (argument_count f 1 2) 100 ∷ wrong (unknown_extractor nope) 2 ∷ wrong (unknown_variable lost) 9 ∷ [])
    × (said priority_wrong ≡ wrong (macro_argument 0) 2 ∷ wrong priority 100 ∷ [])
    × (said no_priority ≡ wrong (macro_argument 0) 2 ∷ wrong (unknown_variable lost) 9 ∷ [])
    × (said (rule_of any [] (var lost 9) None) ≡ wrong no_root 100 ∷ [])
    × (said (rule_of (term_pattern (named nope) no_pattern (at 1)) [] (var lost 9) None) ≡ wrong (unknown_root nope) 100 ∷ [])
    × (said (rule_of (term_pattern (named variant) no_pattern (at 1)) [] (var lost 9) None) ≡ wrong (undeclared_root variant) 100 ∷ [])
    × (said_within 0 limit_passed ≡ wrong (unknown_extractor nope) 2 ∷ passes of_nesting (at 100) ∷ [])

-- a rule of which nothing is made takes no id, one that is made with something wrong does; the errors of each come in order. Names are
-- met in wrong rules too: those of unknown constants, of lets of unknown types, and those before a limit, behind which the list goes on
abbrev pub ListsAreTold : Type 0
ListsAreTold =
    ((rules_step sample_setting (no_priority ∷ priority_wrong ∷ f_of (one 9) ∷ root_wrong ∷ []) 0 met_names).errors
    ≡ wrong (macro_argument 0) 2 ∷ wrong (unknown_variable lost) 9 ∷ wrong (macro_argument 0) 2 ∷ wrong priority 100 ∷ wrong (argument_count f 1 2) 100 ∷ wrong (unknown_extractor nope) 2 ∷ wrong (unknown_variable lost) 9 ∷ [])
    × (map {B = ℕ × ℕ} (λ q. (q.id, q.root_term)) (rules_step sample_setting (no_priority ∷ priority_wrong ∷ f_of (one 9) ∷ root_wrong ∷ []) 0 met_names).rules ≡ (0, 2) ∷ (1, 0) ∷ [])
    × ((rules_step sample_setting (patterns_wrong ∷ let_types ∷ []) 0 met_names).names ≡ met_names ++ x ∷ nope ∷ y ∷ z ∷ [])
    × ((rules_step sample_setting (never_ending ∷ f_of (var lost 9) ∷ []) 0 met_names).errors ≡ passes of_nesting (at 100) ∷ wrong (unknown_variable lost) 9 ∷ [])
    × ((rules_step sample_setting (never_ending ∷ f_of (var lost 9) ∷ []) 0 met_names).names ≡ met_names ++ x ∷ [])
