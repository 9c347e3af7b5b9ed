-- That having a typed rule doesn't depend on further names: they change the numbers of later names, and nothing else.
use Rattle.std.specs.Prelude.{◌≡◌, ℕ, ◌<◌, List, ◌++◌, length, Option, Some, None, slice_get, Bool}
use Rattle.model.specs.lists.Syntax.{RuleTree, Definition}
use Rattle.model.specs.lists.Names.{IsDistinct}
use Rattle.model.specs.lists.Tables.{TermEntry}
use Rattle.model.specs.lists.Setting.{Setting}
use Rattle.model.specs.lists.Typings.{Typing}
use Rattle.model.specs.lists.Elaborated.{elaborated_rule, few_enough}
use Rattle.model.specs.lists.TermTable.{term_names_met}
use Rattle.model.specs.claims.Environments.{TypesRead, AreReadable, setting_of}

-- tables speak of the first names alone, so many
pub record SpeaksOfNames (e : Setting) (n : ℕ) : Type 0 where
  pub terms : (i : ℕ) (t : TermEntry) → slice_get e.terms i ≡ Some t → t.name < n
  pub type_names : (i k : ℕ) → slice_get e.type_names i ≡ Some k → k < n
  pub constants : (i : ℕ) (c : ℕ × ℕ) → slice_get e.constants i ≡ Some c → c.0 < n

-- neither is there, or both are and take as many expansions
abbrev pub AreThereAlike : {X : Type 0} → Option (Typing X) → Option (Typing X) → Type 0
AreThereAlike None None = Unit {0}
AreThereAlike (Some a) (Some b) = a.expansions ≡ b.expansions
AreThereAlike _ _ = ⊥

-- a rule has a typed rule from names that the tables speak of exactly where it has one from further names too, however many
-- expansions may nest, and within the limit on their number
abbrev pub FurtherNamesDontMatter : Type 0
FurtherNamesDontMatter =
    (e : Setting) (d id : ℕ) (r : RuleTree) (names more : List (List ℕ)) → SpeaksOfNames e (length names) → IsDistinct (names ++ more)
    → AreThereAlike (elaborated_rule e d id r names) (elaborated_rule e d id r (names ++ more))
    × AreThereAlike (few_enough (elaborated_rule e d id r names)) (few_enough (elaborated_rule e d id r (names ++ more)))

-- so the rules of a list are read from the names of its terms, whatever names the rules before them met
abbrev pub NamesOfRulesDontMatter : Type 0
NamesOfRulesDontMatter =
    (e : TypesRead) (defs : List Definition) (expand : Bool) (d id : ℕ) (r : RuleTree) (more : List (List ℕ))
    → AreReadable e → IsDistinct (term_names_met e.known defs ++ more)
    → AreThereAlike (elaborated_rule (setting_of e defs expand) d id r (term_names_met e.known defs)) (elaborated_rule (setting_of e defs expand) d id r (term_names_met e.known defs ++ more))
    × AreThereAlike (few_enough (elaborated_rule (setting_of e defs expand) d id r (term_names_met e.known defs))) (few_enough (elaborated_rule (setting_of e defs expand) d id r (term_names_met e.known defs ++ more)))
