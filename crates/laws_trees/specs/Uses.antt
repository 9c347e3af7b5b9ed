-- Uses of the laws: what they come to for two rules.
--   (decl f (u8) u8)
--   (rule 1 (f 1) 10)
--   (rule (f x) x)
use Rattle.std.specs.Prelude.{◌≡◌, ◌∷◌, [], ℕ, pos, List, None}
use Rattle.model.specs.lists.TypeTable.{builtin_names, builtin_from}
use Rattle.model.specs.rules.Meaning.{Meaning, int_literal}
use Rattle.model.specs.rules.Program.{Program}
use Rattle.model.specs.rules.Typed.{TypedRule, match_bind, match_any, match_int, make_int, make_var}
use Rattle.laws_trees.specs.PatternConstants.{a_literal, rules_constants, TellsPatternsApart}

-- the id of the type u8
abbrev pub byte : ℕ
byte = 1

-- the typed rules
abbrev pub for_one : TypedRule
for_one = record { id = 0; root_term = 0; args = match_int byte (pos 1) ∷ []; iflets = []; rhs = make_int byte (pos 10); vars = []; prio = pos 1; at = record { file = 0; offset = 1 }; name = None }

abbrev pub for_any : TypedRule
for_any = record {
  id = 1;
  root_term = 0;
  args = match_bind byte 0 (match_any byte) ∷ [];
  iflets = [];
  rhs = make_var byte 0;
  vars = record { id = 0; name = 14; ty = byte } ∷ [];
  prio = pos 0;
  at = record { file = 0; offset = 2 };
  name = None;
}

abbrev pub two_rules : List TypedRule
two_rules = for_one ∷ for_any ∷ []

-- only the types of it are asked for
abbrev pub program_of_bytes : Program
program_of_bytes = record { types = builtin_from 0 builtin_names; constants = []; terms = []; rules = two_rules }

-- their patterns name the number 1 alone, so every meaning tells their constants apart
abbrev pub BytesAreToldApart : Type 0
BytesAreToldApart = (rules_constants two_rules ≡ a_literal (int_literal (pos 1) byte) ∷ []) × ((m : Meaning) → TellsPatternsApart program_of_bytes m two_rules)
