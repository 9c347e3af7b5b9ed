-- Look-ups by the numbers of names and by pairs of types: what answers by a list, and environments that aren't read as its
-- types and rules.
use Rattle.std.specs.Prelude.{◌≡◌, ◌∷◌, [], ◌++◌, ℕ, true, false, List, Option, Some, None, codes}
use Rattle.model.specs.claims.Environments.{AreRulesOf, ConvertsBy, IsReadAs, TypeEnvironment, TypesRead, environment_of, shown_terms, term_environment_of, types_read}
use Rattle.model.specs.lists.KnownTypes.{types_of}
use Rattle.model.specs.lists.Syntax.{Definition, type_definition}
use Rattle.model.specs.lists.Tables.{primitive_type}
use Rattle.model.specs.lists.TermTable.{converters}
use Rattle.model.specs.lists.TypeTable.{builtin_from, builtin_names}
use Rattle.laws_typing.specs.FurtherNames.{SpeaksOfNames}
use Rattle.laws_examples.specs.Fall.{fall_defs, fall_rules}
use Rattle.laws_examples.specs.OtherTypes.{one_type}
use Rattle.laws_examples.specs.Stages.{own_setting}
use Rattle.laws_examples.specs.TypedForms.{own, u8}
use Rattle.laws_examples.specs.Written.{at, constructor_by, conversion, declared, primitive}

-- (type V (primitive V)), (decl w (u16) V) and (decl wide (u8) u16), each with an external constructor, (convert u8 V w),
-- (convert u8 u16 wide)
abbrev pub two_conversions : List Definition
two_conversions =
    type_definition (primitive 0 (codes "V") (codes "V"))
    ∷ declared 1 (codes "w") (codes "u16" ∷ []) (codes "V") ∷ constructor_by 2 (codes "w") (codes "w_fn")
    ∷ declared 3 (codes "wide") (codes "u8" ∷ []) (codes "u16") ∷ constructor_by 4 (codes "wide") (codes "wide_fn")
    ∷ conversion 5 (codes "u8") (codes "V") (codes "w") ∷ conversion 6 (codes "u8") (codes "u16") (codes "wide") ∷ []

-- the look-up of their terms
abbrev pub converter_looked_up : ℕ → ℕ → Option ℕ
converter_looked_up = (shown_terms (types_read two_conversions) two_conversions).converter_of

-- w and wide are looked up by the inner and the outer type, in this order and in no other
abbrev pub ConvertersAreLookedUp : Type 0
ConvertersAreLookedUp =
    (converters (types_of two_conversions) two_conversions ≡ ((u8, own), 0) ∷ ((u8, 2), 1) ∷ [])
    × ConvertsBy converter_looked_up (((u8, own), 0) ∷ ((u8, 2), 1) ∷ [])
    × (ConvertsBy (λ i o. converter_looked_up o i) (((u8, own), 0) ∷ ((u8, 2), 1) ∷ []) → ⊥)

-- the type P, and an environment that shows it
abbrev pub types_with_p : TypesRead
types_with_p = types_read one_type

abbrev pub env_with_p : TypeEnvironment
env_with_p = environment_of types_with_p

-- it is read as these types. Not so where a type has another name; where an error is kept; where no name is found; where
-- the type of no name is; where a constant has a type though there is none
pub record NearEnvironments : Type 0 where
  pub read : IsReadAs env_with_p types_with_p
  pub other_type : IsReadAs (record env_with_p { types = builtin_from 0 builtin_names ++ primitive_type 13 12 (at 0) ∷ [] }) types_with_p → ⊥
  pub error_kept : IsReadAs (record env_with_p { errors = 1 }) types_with_p → ⊥
  pub no_name_found : IsReadAs (record env_with_p { number_of = λ name. None }) types_with_p → ⊥
  pub no_type_found : IsReadAs (record env_with_p { type_of = λ k. None }) types_with_p → ⊥
  pub constant_found : IsReadAs (record env_with_p { constant_type_of = λ k. Some 0 }) types_with_p → ⊥

-- rules that are read where templates are expanded aren't answered as those where they aren't
abbrev pub FlagIsKept : Type 0
FlagIsKept =
    (env : TypeEnvironment) → AreRulesOf (types_read fall_defs) fall_defs true fall_rules (term_environment_of (types_read fall_defs) fall_defs false fall_rules.rules) env → ⊥

-- the tables of `fall` speak of 14 names, the last of which is f's, and not of 13 alone
abbrev pub FallSpeaksOfNames : Type 0
FallSpeaksOfNames = SpeaksOfNames (own_setting fall_defs true) 14 × (SpeaksOfNames (own_setting fall_defs true) 13 → ⊥)
