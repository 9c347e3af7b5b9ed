-- Which rules are asked about, and that each of them is told of: in a question, or among those that have none.
use Rattle.std.specs.Prelude.{ℕ, Bool, true, false, ◌==◌, ◌&&◌, ◌||◌, List, Option, None, Some, IsTrue, slice_get, option_map, is_some, length, nat_lt}
use Rattle.std.specs.List.{All, list_any}
use Rattle.core_syntax.specs.declared.syntax.Pos.{Pos}
use Rattle.core_rule_sets.specs.declared.trie_again.Rule.{Rule}
use Rattle.cranelift_isle.specs.declared.lower.LoweredTerm.{LoweredTerm}
use Rattle.spec_tables.specs.declared.specs.TermSpec.{TermSpec}
use Rattle.spec_questions.specs.declared.questions.RuleQuestions.{RuleQuestions}
use Rattle.spec_questions.specs.declared.questions.Questions.{Questions}
use Rattle.spec_questions.specs.declared.questions.Wanted.{Wanted}
use Rattle.spec_questions.specs.declared.questions.Without.{Without}

-- whether two places are one
abbrev pub is_place : Pos → Pos → Bool
is_place at other = (other.file == at.file) && (other.offset == at.offset)

abbrev pub or_true : Option Bool → Bool
or_true None = true
or_true (Some b) = b

-- whether the rule at a place is asked about
abbrev pub is_wanted_at : Wanted → Pos → Bool
is_wanted_at wanted at = or_true (option_map (λ places. list_any (is_place at) places.now) wanted.only)

abbrev pub says_something : Option TermSpec → Bool
says_something None = false
says_something (Some said) = is_some said.spec

-- whether a term has a spec
abbrev pub has_spec : List TermSpec → ℕ → Bool
has_spec said term = says_something (slice_get said term)

-- whether these are questions about this rule of this term, of which there is one at least
abbrev pub is_about : ℕ → ℕ → RuleQuestions → Bool
is_about term rule q = (q.term.0 == term) && (q.rule.0 == rule) && nat_lt 0 (length q.questions.items)

-- whether this rule of this term is one without a question
abbrev pub is_without : ℕ → ℕ → Without → Bool
is_without term rule w = (w.term.0 == term) && (w.rule.0 == rule)

-- whether a rule of a term has a question, or a reason why it has none
abbrev pub is_told : Questions → ℕ → ℕ → Bool
is_told found term rule =
    list_any (is_about term rule) found.rules.items || list_any (is_without term rule) found.without.items

-- each rule that is asked about is told of
abbrev pub AreTold : Wanted → Questions → ℕ → List Rule → Type 0
AreTold wanted found term rules = All (λ r. IsTrue (is_wanted_at wanted r.pos) → IsTrue (is_told found term r.id.0)) rules

-- each rule that is asked about is told of, of all terms with specs
abbrev pub AreAllTold : Wanted → List TermSpec → Questions → List LoweredTerm → Type 0
AreAllTold wanted said found terms =
    All (λ t. IsTrue (has_spec said t.id.0) → AreTold wanted found t.id.0 t.rules.rules.items) terms

-- what is told of stays so
abbrev pub KeepsTold : Questions → Questions → Type 0
KeepsTold before after = (term rule : ℕ) → IsTrue (is_told before term rule) → IsTrue (is_told after term rule)
