-- What the stages of reading a list of definitions speak of.
use Rattle.std.specs.Prelude.{◌≡◌, ℕ, false, List, Option, Some, None, slice_get, if◌then◌else◌}
use Rattle.std.specs.List.{list_any}
use Rattle.model.specs.lists.Syntax.{RuleTree}
use Rattle.model.specs.lists.Names.{has_name}
use Rattle.model.specs.rules.Outcome.{then_option}
use Rattle.model.specs.lists.Tables.{ConstructorEntry, internal_constructor}
use Rattle.model.specs.lists.TypeTable.{place_from}
use Rattle.model.specs.lists.TermTable.{is_rule_of}
use Rattle.core_syntax.specs.Stable.{look_up}
use Rattle.core_types.specs.declared.ids.TypeId.{TypeId}
use Rattle.core_terms.specs.declared.term_table.TermTable.{TermTable}
use Rattle.core_terms.specs.TermTables.{same_types}

-- what is found at the number of each name is what the name has, and other texts have nothing
pub record Finds (names : List (List ℕ)) (at : ℕ → Option ℕ) (has : List ℕ → Option ℕ) : Type 0 where
  pub ids : (k : ℕ) → at k ≡ then_option (slice_get names k) has
  pub known : (x : List ℕ) → has_name names x ≡ false → has x ≡ None

-- the place among names, from 0
abbrev pub place_among : List (List ℕ) → List ℕ → Option ℕ
place_among names x = place_from 0 x names

-- what makes a term of a name, when these rules are read
abbrev pub constructor_after : List RuleTree → List ℕ → Option ConstructorEntry
constructor_after rules x = if list_any (is_rule_of x) rules then Some internal_constructor else None

abbrev pub HasNoConverter : TermTable → Type 0
HasNoConverter table = (c : TypeId × TypeId) → look_up same_types table.converters c ≡ None
