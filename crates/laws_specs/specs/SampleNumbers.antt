-- A near miss: a rule that is wrong of one number is wrong below the rule that names this number, since another value may stand for
-- it.
use Rattle.std.specs.Prelude.{ℕ, ℤ, pos, true, false, [], ◌∷◌, Some, None}
use Rattle.model.specs.lists.Tables.{builtin_type, declared_term, internal_constructor}
use Rattle.model.specs.rules.Program.{Program}
use Rattle.model.specs.rules.Typed.{TypedPattern, match_int, match_any, make_int, TypedRule}
use Rattle.laws_specs.specs.Specs.{words, Specs, no_unknown}
use Rattle.laws_specs.specs.Conditions.{IsValidBelow}
use Rattle.laws_specs.specs.Samples.{byte, providing}
use Rattle.laws_specs.specs.SamplePriorities.{ten_where}

-- (decl code (u8) u8); (rule 1 (code 5) 10), (rule 0 (code _) 20)
abbrev pub number_rule : ℕ → ℤ → TypedPattern → ℤ → TypedRule
number_rule id prio pattern result = record {
  id = id;
  root_term = 0;
  args = pattern ∷ [];
  iflets = [];
  rhs = make_int 1 result;
  vars = [];
  prio = prio;
  at = record { file = 0; offset = id };
  name = None;
}

abbrev pub for_five : TypedRule
for_five = number_rule 0 (pos 1) (match_int 1 (pos 5)) (pos 10)

abbrev pub for_rest : TypedRule
for_rest = number_rule 1 (pos 0) (match_any 1) (pos 20)

abbrev pub numbers : Program
numbers = record {
  types = builtin_type 0 ∷ (builtin_type 1 ∷ []);
  constants = [];
  terms =
      record {
        id = 0;
        at = record { file = 0; offset = 0 };
        name = 0;
        arg_tys = 1 ∷ [];
        ret_ty = 1;
        kind = declared_term (record { pure = true; multi = false; partial = false; rec = false }) (Some internal_constructor) None;
      }
      ∷ [];
  rules = for_five ∷ (for_rest ∷ []);
}

abbrev pub number_specs : Specs
number_specs = record { models = (1, words 8) ∷ []; constants = []; unknowns = no_unknown; unknown_sorts = []; terms = (0, providing (ten_where (byte 5) ∷ [])) ∷ [] }

-- the rule above is right; the lower one isn't, also where that one doesn't match: of 261, which stands for 5 too, it gives 20
abbrev pub NumbersExcludeNothing : Type 0
NumbersExcludeNothing =
    IsValidBelow numbers number_specs for_five
    × (IsValidBelow numbers number_specs for_rest → ⊥)
