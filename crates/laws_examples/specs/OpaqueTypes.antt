-- Samples: extern enums, whose values needn't be of the variants that they declare. One without variants:
--   (type O extern (enum))
--   (decl put (u8) O)
--   (extern constructor put put)
--   (decl use (O) u8)
--   (extern constructor use use)
--   (decl low (u8) u8)
--   (rule (low x) (use (put x)))
-- one with a variant:
--   (type O extern (enum A))
--   (decl f (O) u8)
--   (rule 1 (f (O.A)) 1)
--   (rule (f _) 2)
-- and constants of one without variants, in patterns:
--   (type O extern (enum))
--   (extern const $K O)
--   (extern const $L O)
--   (decl f (O) u8)
--   (rule 2 (f $K) 1)
--   (rule 1 (f $L) 2)
--   (rule (f _) 3)
use Rattle.std.specs.Prelude.{◌≡◌, ◌+◌, ◌++◌, ◌∷◌, [], ℕ, ℤ, pos, Bool, true, false, List, Some, None, codes, IsTrue}
use Rattle.model.specs.claims.Headline.{RunsAsChosen}
use Rattle.model.specs.claims.Layers.{own_program}
use Rattle.model.specs.lists.Elaborated.{TypedRules}
use Rattle.model.specs.lists.Syntax.{Definition, TypeTree, VariantTree, prim_pattern, type_definition}
use Rattle.model.specs.lists.Tables.{TypeEntry, VariantEntry, enum_type, unit_entries}
use Rattle.model.specs.rules.Choice.{MatchesOnce}
use Rattle.model.specs.rules.Meaning.{Meaning, finite, one}
use Rattle.model.specs.rules.Outcome.{Call, Outcome, ended}
use Rattle.model.specs.rules.Program.{Program, arg_types, rules_of}
use Rattle.model.specs.rules.Typed.{TypedPattern, TypedRule, make_int, make_term, make_var, match_any, match_prim, match_term, no_typed_pattern}
use Rattle.model.specs.rules.Values.{Value, args_well_typed, atom, no_value, of_variant, value_and, well_typed}
use Rattle.model.specs.sites.Serves.{Serves, TellsConstantsApart}
use Rattle.model.specs.sites.Sites.{Constraint, SiteSet, argument_site, constructor_site, is_prim, is_variant}
use Rattle.model.specs.trees.Trees.{Tree, arm, match_at, no_step, step}
use Rattle.laws_examples.specs.MeaningForms.{alone, answers, given, literal, mute, no_entries, of_literals, v}
use Rattle.laws_examples.specs.SetForms.{a_rule, byte, one_arm, returning}
use Rattle.laws_examples.specs.Stages.{HasOutcome, Sample}
use Rattle.laws_examples.specs.TypedForms.{bind_any, builtins, e_list, own, rules_and_names, typed, typed_var, u8, variant_entry}
use Rattle.laws_examples.specs.Written.{any, at, call, constant, constructor_by, declared, enum, f_of_bytes, name, number, of_f, rule_first, rule_to, term, var, variable, variant}

-- 1. an extern enum without variants
abbrev pub extern_enum : ℕ → List ℕ → List VariantTree → Definition
extern_enum n t variants = type_definition (record (enum n t variants) { is_extern = true })

abbrev pub opaque_defs : List Definition
opaque_defs =
    extern_enum 0 (codes "O") []
    ∷ declared 1 (codes "put") (codes "u8" ∷ []) (codes "O") ∷ constructor_by 2 (codes "put") (codes "put")
    ∷ declared 3 (codes "use") (codes "O" ∷ []) (codes "u8") ∷ constructor_by 4 (codes "use") (codes "use")
    ∷ declared 5 (codes "low") (codes "u8" ∷ []) (codes "u8")
    ∷ rule_to 6 (term 6 (codes "low") (var 6 (codes "x") ∷ [])) (call 6 (codes "use") (call 6 (codes "put") (variable 6 (codes "x") ∷ []) ∷ [])) ∷ []

abbrev pub opaque_rule : TypedRule
opaque_rule =
    typed 0 6 2 (pos 0) (Some 16) (typed_var 0 17 u8 ∷ []) (bind_any u8 0 ∷ [])
    (make_term u8 1 (e_list (make_term own 0 (e_list (make_var u8 0 ∷ [])) ∷ [])))

abbrev pub opaque_rules : TypedRules
opaque_rules = rules_and_names (opaque_rule ∷ []) (codes "O" ∷ codes "put" ∷ codes "use" ∷ codes "low" ∷ codes "x" ∷ [])

abbrev pub opaque_program : Program
opaque_program = own_program opaque_defs opaque_rules

abbrev pub opaque_set : SiteSet
opaque_set = record {
  rules = record (a_rule 0 6 (pos 0) [] [] 2) { name = Some 16; impure = 1 ∷ 2 ∷ [] } ∷ [];
  sites = argument_site 0 ∷ constructor_site 0 (0 ∷ []) 1 ∷ constructor_site 1 (1 ∷ []) 2 ∷ [];
}

abbrev pub opaque_tree : Tree
opaque_tree = returning (1 ∷ 2 ∷ []) 6 2 no_step

-- a tree that is no best one: the call on the other's answer is bound first
abbrev pub opaque_near_trees : List Tree
opaque_near_trees = returning (2 ∷ 1 ∷ []) 6 2 no_step ∷ []

abbrev pub opaque_sample : Sample
opaque_sample = record { defs = opaque_defs; rules = opaque_rules; term = 2; multi = false; set = opaque_set; tree = opaque_tree; near_trees = opaque_near_trees }

-- a value of the type
abbrev pub o : ℤ → Value
o z = atom own z

-- `put` makes 7 of it, and `use` makes 9
abbrev pub opaque_meaning : Meaning
opaque_meaning = finite (record no_entries { impure_calls = ((0, 0), one (o (pos 7))) ∷ ((1, 1), one (v (pos 9))) ∷ [] })

abbrev pub both_calls : List Call
both_calls = record { term = 0; args = alone (pos 3) } ∷ record { term = 1; args = value_and (o (pos 7)) no_value } ∷ []

abbrev pub nine_after_both : Outcome
nine_after_both = record { calls = both_calls; results = one (v (pos 9)) ∷ []; ending = ended }

-- 3 is of the argument's type, and the meaning has what the rule asks; so the headline speaks of the tree, which runs as the choice
abbrev pub OpaqueIsServed : Type 0
OpaqueIsServed =
    IsTrue (args_well_typed opaque_program.types (arg_types opaque_program 2) (given (pos 3)))
    × Serves opaque_program opaque_meaning (given (pos 3)) (rules_of opaque_program 2)
    × TellsConstantsApart opaque_program opaque_meaning (rules_of opaque_program 2)

abbrev pub OpaqueIsChosen : Type 0
OpaqueIsChosen =
    RunsAsChosen opaque_program 2 opaque_set.sites opaque_tree
    × MatchesOnce opaque_program opaque_meaning (rules_of opaque_program 2) (given (pos 3))

-- its values can be given to `use`
abbrev pub OpaqueIsTaken : Type 0
OpaqueIsTaken = (z : ℤ) → IsTrue (args_well_typed opaque_program.types (arg_types opaque_program 1) (o z ∷ []))

-- 2. an extern enum with a variant
abbrev pub open_defs : List Definition
open_defs =
    extern_enum 0 (codes "O") (variant 0 (codes "A") [] ∷ [])
    ∷ declared 1 (codes "f") (codes "O" ∷ []) (codes "u8")
    ∷ rule_first 2 (pos 1) (of_f 2 (term 2 (codes "O.A") [] ∷ [])) (number 2 (pos 1))
    ∷ rule_to 3 (of_f 3 (any 3 ∷ [])) (number 3 (pos 2)) ∷ []

abbrev pub open_rules : TypedRules
open_rules =
    rules_and_names
    (typed 0 2 0 (pos 1) None [] (match_term own 1 no_typed_pattern ∷ []) (make_int u8 (pos 1))
    ∷ typed 1 3 0 (pos 0) None [] (match_any own ∷ []) (make_int u8 (pos 2)) ∷ [])
    (codes "O" ∷ codes "O.A" ∷ codes "A" ∷ codes "f" ∷ [])

abbrev pub open_program : Program
open_program = own_program open_defs open_rules

abbrev pub is_o_a : Constraint
is_o_a = is_variant own 0 0

abbrev pub open_set : SiteSet
open_set = record { rules = a_rule 0 2 (pos 1) ((0, is_o_a) ∷ []) [] 1 ∷ a_rule 1 3 (pos 0) [] [] 2 ∷ []; sites = argument_site 0 ∷ byte 1 ∷ byte 2 ∷ [] }

abbrev pub open_tree : Tree
open_tree = step [] (match_at 0 (one_arm is_o_a [] (returning [] 2 1 no_step))) (returning [] 3 2 no_step)

-- the near tree, which is no best one, is without the second rule
abbrev pub open_sample : Sample
open_sample = record {
  defs = open_defs;
  rules = open_rules;
  term = 0;
  multi = false;
  set = open_set;
  tree = open_tree;
  near_trees = step [] (match_at 0 (one_arm is_o_a [] (returning [] 2 1 no_step))) no_step ∷ [];
}

abbrev pub open_meaning : Meaning
open_meaning = mute (literal (pos 1) ∷ literal (pos 2) ∷ [])

abbrev pub of_a : Value
of_a = of_variant own 0 no_value

-- both the variant and each value of none are of the argument's type, and on them the meaning has what the rules ask
abbrev pub IsServedOn : Value → Type 0
IsServedOn x =
    IsTrue (args_well_typed open_program.types (arg_types open_program 0) (x ∷ []))
    × Serves open_program open_meaning (x ∷ []) (rules_of open_program 0)
    × TellsConstantsApart open_program open_meaning (rules_of open_program 0)

abbrev pub OpenIsServed : Type 0
OpenIsServed = IsServedOn of_a × ((z : ℤ) → IsServedOn (o z))

-- on the variant the rule for it gives 1; a value of none falls through to the other rule
pub record OpenEnds : Type 0 where
  pub of_the_variant : HasOutcome open_sample open_meaning (of_a ∷ []) (answers (pos 1))
  pub of_no_variant : (z : ℤ) → HasOutcome open_sample open_meaning (o z ∷ []) (answers (pos 2))

-- 3. constants of an extern enum without variants
abbrev pub named_defs : List Definition
named_defs =
    extern_enum 0 (codes "O") [] ∷ constant 1 (codes "K") (codes "O") ∷ constant 2 (codes "L") (codes "O")
    ∷ declared 3 (codes "f") (codes "O" ∷ []) (codes "u8")
    ∷ rule_first 4 (pos 2) (of_f 4 (prim_pattern (name 4 (codes "K")) (at 4) ∷ [])) (number 4 (pos 1))
    ∷ rule_first 5 (pos 1) (of_f 5 (prim_pattern (name 5 (codes "L")) (at 5) ∷ [])) (number 5 (pos 2))
    ∷ rule_to 6 (of_f 6 (any 6 ∷ [])) (number 6 (pos 3)) ∷ []

abbrev pub for_pattern : (id d : ℕ) → ℤ → TypedPattern → TypedRule
for_pattern id d prio q = typed id d 0 prio None [] (q ∷ []) (make_int u8 (pos (id + 1)))

abbrev pub named_rules : TypedRules
named_rules =
    rules_and_names (for_pattern 0 4 (pos 2) (match_prim own 14) ∷ for_pattern 1 5 (pos 1) (match_prim own 15) ∷ for_pattern 2 6 (pos 0) (match_any own) ∷ [])
    (codes "O" ∷ codes "K" ∷ codes "L" ∷ codes "f" ∷ [])

abbrev pub named_program : Program
named_program = own_program named_defs named_rules

abbrev pub named_set : SiteSet
named_set = record {
  rules = a_rule 0 4 (pos 2) ((0, is_prim 14) ∷ []) [] 1 ∷ a_rule 1 5 (pos 1) ((0, is_prim 15) ∷ []) [] 2 ∷ a_rule 2 6 (pos 0) [] [] 3 ∷ [];
  sites = argument_site 0 ∷ byte 1 ∷ byte 2 ∷ byte 3 ∷ [];
}

abbrev pub named_tree : Tree
named_tree = step [] (match_at 0 (arm (is_prim 14) [] (returning [] 4 1 no_step) (one_arm (is_prim 15) [] (returning [] 5 2 no_step)))) (returning [] 6 3 no_step)

abbrev pub named_sample : Sample
named_sample = record { defs = named_defs; rules = named_rules; term = 0; multi = false; set = named_set; tree = named_tree; near_trees = [] }

-- $K is 10, and $L is 11
abbrev pub named_meaning : Meaning
named_meaning =
    finite (record (of_literals (literal (pos 1) ∷ literal (pos 2) ∷ literal (pos 3) ∷ [])) { constants = (14, o (pos 10)) ∷ (15, o (pos 11)) ∷ [] })

-- each value is of the argument's type; on it the meaning has what the rules ask, and tells the constants apart
abbrev pub NamedIsServed : Type 0
NamedIsServed =
    ((z : ℤ) → IsTrue (args_well_typed named_program.types (arg_types named_program 0) (o z ∷ [])))
    × ((z : ℤ) → Serves named_program named_meaning (o z ∷ []) (rules_of named_program 0))
    × TellsConstantsApart named_program named_meaning (rules_of named_program 0)

-- a constant is equal to itself alone
pub record NamedEnds : Type 0 where
  pub of_k : HasOutcome named_sample named_meaning (o (pos 10) ∷ []) (answers (pos 1))
  pub of_l : HasOutcome named_sample named_meaning (o (pos 11) ∷ []) (answers (pos 2))
  pub of_another : HasOutcome named_sample named_meaning (o (pos 12) ∷ []) (answers (pos 3))

-- 4. enums that are declared here
abbrev pub with_enum : Bool → List VariantEntry → List TypeEntry
with_enum is_extern variants = builtins ++ enum_type 13 own is_extern false variants (at 0) ∷ []

abbrev pub one_variant : List VariantEntry
one_variant = variant_entry 15 14 0 unit_entries 0 ∷ []

-- without variants one has no value; with variants it has those of them alone
pub record ClosedEnums : Type 0 where
  pub no_value_of_none : (x : Value) → well_typed (with_enum false []) own x ≡ false
  pub of_a_variant : well_typed (with_enum false one_variant) own of_a ≡ true
  pub of_no_variant : (z : ℤ) → well_typed (with_enum false one_variant) own (o z) ≡ false
  -- and a variant that isn't declared gives no value, also of an extern enum; nor does a declared one with a field that it hasn't
  pub of_no_such_variant : well_typed (with_enum true []) own of_a ≡ false
  pub of_other_fields : well_typed (with_enum true one_variant) own (of_variant own 0 (value_and (o (pos 5)) no_value)) ≡ false
