-- An example in which a rule is right only where the one above it doesn't match.
use Rattle.std.specs.Prelude.{ℕ, ℤ, pos, true, false, [], ◌∷◌, Some, None}
use Rattle.model.specs.lists.Tables.{VariantEntry, unit_entries, builtin_type, enum_type, TermEntry, variant_term, declared_term, internal_constructor}
use Rattle.model.specs.rules.Program.{Program}
use Rattle.model.specs.rules.Typed.{TypedPattern, match_term, match_any, no_typed_pattern, make_int, TypedRule}
use Rattle.laws_specs.specs.Words.{Denoted, variant_of, no_denoted, equals}
use Rattle.laws_specs.specs.Specs.{truths, words, words_among, SpecExpr, its_argument, its_result, the_same, operation, if_else, Specs, no_unknown}
use Rattle.laws_specs.specs.Conditions.{condition, IsValid, IsValidBelow}
use Rattle.laws_specs.specs.Samples.{of_two, byte, providing}

-- (type Letter (enum A B)), the third type after bool and bytes
abbrev pub a_variant_entry : ℕ → VariantEntry
a_variant_entry i = record { name = i; full_name = i; id = i; fields = unit_entries; at = record { file = 0; offset = i } }

abbrev pub a_variant_term : ℕ → TermEntry
a_variant_term i = record { id = i; at = record { file = 0; offset = i }; name = i; arg_tys = []; ret_ty = 2; kind = variant_term i }

-- (decl code (Letter) u8)
abbrev pub code : TermEntry
code = record {
  id = 2;
  at = record { file = 0; offset = 2 };
  name = 2;
  arg_tys = 2 ∷ [];
  ret_ty = 1;
  kind = declared_term (record { pure = true; multi = false; partial = false; rec = false }) (Some internal_constructor) None;
}

abbrev pub code_rule : ℕ → ℤ → TypedPattern → ℤ → TypedRule
code_rule id prio pattern result = record {
  id = id;
  root_term = 2;
  args = pattern ∷ [];
  iflets = [];
  rhs = make_int 1 result;
  vars = [];
  prio = prio;
  at = record { file = 0; offset = id };
  name = None;
}

-- (rule 1 (code (Letter.A)) 10), (rule 0 (code _) 20)
abbrev pub for_a : TypedRule
for_a = code_rule 0 (pos 1) (match_term 2 0 no_typed_pattern) (pos 10)

abbrev pub for_others : TypedRule
for_others = code_rule 1 (pos 0) (match_any 2) (pos 20)

abbrev pub codes : Program
codes = record {
  types = builtin_type 0 ∷ (builtin_type 1 ∷ (enum_type 9 2 false false (a_variant_entry 0 ∷ (a_variant_entry 1 ∷ [])) (record { file = 0; offset = 9 }) ∷ []));
  constants = [];
  terms = a_variant_term 0 ∷ (a_variant_term 1 ∷ (code ∷ []));
  rules = for_a ∷ (for_others ∷ []);
}

abbrev pub letter : ℕ → Denoted
letter i = variant_of 2 i no_denoted

-- (= result (if (= a WHAT) 10 20))
abbrev pub ten_where : Denoted → SpecExpr
ten_where what = operation equals (of_two its_result (if_else (operation equals (of_two (its_argument 0) (the_same what))) (the_same (byte 10)) (the_same (byte 20))))

abbrev pub its_code : SpecExpr
its_code = ten_where (letter 0)

-- booleans are truths, bytes words, and letters have no values but their variants
abbrev pub code_specs : Specs
code_specs = record { models = (0, truths) ∷ ((1, words 8) ∷ ((2, words_among []) ∷ [])); constants = []; unknowns = no_unknown; unknown_sorts = []; terms = (2, providing (its_code ∷ [])) ∷ [] }

-- the lower rule alone is wrong of A; below the other one it is right, and so is that one
abbrev pub PrioritiesCount : Type 0
PrioritiesCount =
    (IsValid codes code_specs (condition codes for_others) → ⊥)
    × IsValidBelow codes code_specs for_others
    × IsValidBelow codes code_specs for_a
