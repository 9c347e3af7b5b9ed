-- Examples, and near misses that are refused: what specs say, and conditions of rules over words of eight bits.
use Rattle.std.specs.Prelude.{◌≡◌, ℕ, pos, negsuc, true, false, List, [], ◌∷◌, Some, None}
use Rattle.model.specs.lists.Tables.{builtin_type, TermEntry, declared_term, external_constructor}
use Rattle.model.specs.rules.Program.{Program}
use Rattle.model.specs.rules.Typed.{match_bind, match_any, TypedExpr, make_term, make_var, no_typed_expr, typed_expr_and, TypedRule}
use Rattle.laws_specs.specs.Words.{Denoted, a_truth, a_word, DenotedList, no_denoted, denoted_and, is_formed, equals, word_plus, word_less}
use Rattle.laws_specs.specs.WordOperators.{word_of}
use Rattle.laws_specs.specs.Specs.{words, SpecExpr, its_argument, its_result, the_same, operation, SpecExprs, no_spec_expr, spec_expr_and, says, Spec, Specs, no_unknown}
use Rattle.laws_specs.specs.Conditions.{condition, IsValid}

abbrev pub of_two : SpecExpr → SpecExpr → SpecExprs
of_two a b = spec_expr_and a (spec_expr_and b no_spec_expr)

-- (= result (bvadd a b))
abbrev pub is_sum : SpecExpr → SpecExpr → SpecExpr
is_sum a b = operation equals (of_two its_result (operation word_plus (of_two a b)))

abbrev pub two : Denoted → Denoted → DenotedList
two a b = denoted_and a (denoted_and b no_denoted)

abbrev pub byte : ℕ → Denoted
byte n = a_word 8 n

-- 200 and 100 are 44 in eight bits, and not 45; of words of other widths nothing is said, nor of a result that isn't there
abbrev pub SumsAreSaid : Type 0
SumsAreSaid =
    (says no_unknown (two (byte 200) (byte 100)) (Some (byte 44)) (is_sum (its_argument 0) (its_argument 1)) [] ≡ Some (a_truth true))
    × (says no_unknown (two (byte 200) (byte 100)) (Some (byte 45)) (is_sum (its_argument 0) (its_argument 1)) [] ≡ Some (a_truth false))
    × (says no_unknown (two (byte 200) (byte 100)) (Some (a_word 16 44)) (is_sum (its_argument 0) (its_argument 1)) [] ≡ None)
    × (says no_unknown (two (byte 200) (a_word 16 100)) (Some (byte 44)) (is_sum (its_argument 0) (its_argument 1)) [] ≡ None)
    × (says no_unknown (two (byte 200) (byte 100)) None (is_sum (its_argument 0) (its_argument 1)) [] ≡ None)
    × (says no_unknown (two (byte 200) (byte 100)) (Some (byte 44)) (is_sum (its_argument 0) (its_argument 2)) [] ≡ None)

-- 256 is no word of eight bits, 255 is one; numbers are read modulo 256
abbrev pub WordsAreFormed : Type 0
WordsAreFormed =
    (is_formed (byte 255) ≡ true) × (is_formed (byte 256) ≡ false)
    × (word_of 8 (pos 300) ≡ 44) × (word_of 8 (negsuc 0) ≡ 255) × (word_of 8 (negsuc 255) ≡ 0) × (word_of 8 (negsuc 256) ≡ 255)

-- types: bool, and bytes; terms: 0 `twice`, which has the rule; 1 `add`, pure and external; 2 `note`, external and impure
abbrev pub a_term : ℕ → List ℕ → TermEntry
a_term id tys = record {
  id = id;
  at = record { file = 0; offset = id };
  name = id;
  arg_tys = tys;
  ret_ty = 1;
  kind = declared_term (record { pure = true; multi = false; partial = false; rec = false }) (Some (external_constructor id)) None;
}

abbrev pub impurely : TermEntry → TermEntry
impurely t = record t { kind = declared_term (record { pure = false; multi = false; partial = false; rec = false }) (Some (external_constructor t.id)) None }

abbrev pub x : TypedExpr
x = make_var 1 0

abbrev pub adding : TypedExpr → TypedExpr → TypedExpr
adding a b = make_term 1 1 (typed_expr_and a (typed_expr_and b no_typed_expr))

abbrev pub noting : TypedExpr → TypedExpr
noting a = make_term 1 2 (typed_expr_and a no_typed_expr)

-- (rule (twice x) RHS)
abbrev pub rule_of : TypedExpr → TypedRule
rule_of rhs = record {
  id = 0;
  root_term = 0;
  args = match_bind 1 0 (match_any 1) ∷ [];
  iflets = [];
  rhs = rhs;
  vars = record { id = 0; name = 9; ty = 1 } ∷ [];
  prio = pos 0;
  at = record { file = 0; offset = 9 };
  name = None;
}

abbrev pub program_with : TypedExpr → Program
program_with rhs = record {
  types = builtin_type 0 ∷ (builtin_type 1 ∷ []);
  constants = [];
  terms = a_term 0 (1 ∷ []) ∷ (a_term 1 (1 ∷ (1 ∷ [])) ∷ (impurely (a_term 2 (1 ∷ [])) ∷ []));
  rules = rule_of rhs ∷ [];
}

abbrev pub providing : List SpecExpr → Spec
providing es = record { require = []; provide = es }

-- bytes; `twice` provides this; `add` adds, where its require holds; `note` requires this
abbrev pub specs_with : List SpecExpr → List SpecExpr → List SpecExpr → Specs
specs_with provided required noted = record {
  models = (1, words 8) ∷ [];
  constants = [];
  unknowns = no_unknown;
  unknown_sorts = [];
  terms = (0, providing provided) ∷ ((1, record { require = required; provide = is_sum (its_argument 0) (its_argument 1) ∷ [] }) ∷ ((2, record { require = noted; provide = [] }) ∷ []));
}

-- the condition of (rule (twice x) RHS)
abbrev pub IsRight : List SpecExpr → List SpecExpr → List SpecExpr → TypedExpr → Type 0
IsRight provided required noted rhs = IsValid (program_with rhs) (specs_with provided required noted) (condition (program_with rhs) (rule_of rhs))

abbrev pub doubled : SpecExpr
doubled = is_sum (its_argument 0) (its_argument 0)

-- the argument is below itself, which never holds; and below 300, which doesn't fit eight bits
abbrev pub below_itself : SpecExpr
below_itself = operation word_less (of_two (its_argument 0) (its_argument 0))

-- (add x x) is twice x; x alone isn't; and where the require of `add` fails nothing is known of its answer
abbrev pub SumsAreRight : Type 0
SumsAreRight =
    IsRight (doubled ∷ []) [] [] (adding x x)
    × (IsRight (doubled ∷ []) [] [] x → ⊥)
    × (IsRight (doubled ∷ []) (below_itself ∷ []) [] (adding x x) → ⊥)

-- the require of an impure call is to be shown, also where no term provides anything; what is provided is to be shown where
-- operands don't fit
abbrev pub CallsAreRequired : Type 0
CallsAreRequired =
    IsRight [] [] [] (noting x)
    × (IsRight [] [] (below_itself ∷ []) (noting x) → ⊥)
    × (IsRight (operation equals (of_two its_result (the_same (a_word 16 1))) ∷ []) [] [] x → ⊥)
