-- The laws of choice on the sample with an extractor: their premises hold together, where the call answers 1 on 7.
use Rattle.std.specs.Prelude.{◌≡◌, [], false, pos, Contains, IsTrue}
use Rattle.model.specs.claims.Headline.{RunsAsChosen}
use Rattle.model.specs.rules.Choice.{MatchesOnce}
use Rattle.model.specs.rules.Program.{arg_types, is_multi, rules_of}
use Rattle.model.specs.rules.Typed.{TypedRule}
use Rattle.model.specs.rules.Values.{args_well_typed}
use Rattle.model.specs.visits.Demands.{demands_of}
use Rattle.laws_examples.specs.Extract.{extract_meaning, extract_program, extract_set, extract_tree}
use Rattle.laws_examples.specs.MeaningForms.{given, just_number}

-- the term isn't multi, and 7 is of its argument's type
abbrev pub ExtractIsWithoutMulti : Type 0
ExtractIsWithoutMulti = (is_multi extract_program 1 ≡ false) × IsTrue (args_well_typed extract_program.types (arg_types extract_program 1) (given (pos 7)))

-- so no rule goes over calls, the tree runs as the choice, and no two rules of one priority match 7
abbrev pub ExtractIsChosen : Type 0
ExtractIsChosen =
    ((r : TypedRule) → Contains (rules_of extract_program 1) r → (demands_of extract_program r).iterators ≡ [])
    × RunsAsChosen extract_program 1 extract_set.sites extract_tree
    × MatchesOnce extract_program (extract_meaning (just_number (pos 1))) (rules_of extract_program 1) (given (pos 7))
