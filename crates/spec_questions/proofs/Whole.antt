-- What is asked of rules is whole, rule by rule.
use Rattle.std.proofs.Common.{◌≡◌, ℕ, ◌<◌, List, [], ◌∷◌, ◌++◌, length, get_or, Some, slice_get, ap, sym, ◌∙◌}
use Rattle.std.specs.Prelude.{IsTrue}
use Rattle.std.specs.List.{list_all}
use Rattle.std.proofs.lemmas.List.Elements.{All-push}
use Rattle.std.proofs.lemmas.Option.{slice_get-get_or}
use Rattle.core_rule_sets.specs.declared.trie_again.Rule.{Rule}
use Rattle.cranelift_isle.specs.declared.lower.Lowered.{Lowered}
use Rattle.cranelift_isle.specs.declared.lower.LoweredTerm.{LoweredTerm}
use Rattle.spec_steps.specs.declared.demands.Signature.{Signature}
use Rattle.spec_asked.specs.declared.tables.SpecTables.{SpecTables}
use Rattle.spec_questions.specs.declared.questions.RuleQuestions.{RuleQuestions}
use Rattle.spec_questions.specs.Right.{facts_in, is_asked_or_plain, AreAskedWhole, AsksFacts, IsAskedOf}

module _ (lowered : Lowered) (signatures : List Signature) (specs : SpecTables) where
  -- one more rule
  pub whole_pushed : (qs : List RuleQuestions) (q : RuleQuestions) (term : LoweredTerm) (rule : Rule) (at place : ℕ)
      → slice_get term.rules.rules.items at ≡ Some rule → slice_get lowered.terms.items place ≡ Some term → q.term.0 ≡ term.id.0 → q.rule.0 ≡ rule.id.0
      → (IsTrue q.is_own → AsksFacts lowered signatures specs term q.formulas rule (facts_in q.questions.items) q.excluded.items) → IsTrue (list_all is_asked_or_plain q.questions.items)
      → AreAskedWhole lowered signatures specs qs → AreAskedWhole lowered signatures specs (qs ++ q ∷ [])
  whole_pushed qs q term rule at place of there same_term same_rule asks plain all =
      All-push (λ (x : RuleQuestions). IsTrue x.is_own → (t : LoweredTerm) × IsAskedOf lowered signatures specs t x) qs q all (λ own. (
        term,
        record {
          place = place;
          there = there;
          rule = rule;
          at = at;
          of = of;
          same_term = same_term;
          same_rule = same_rule;
          whole = record { asks = asks own; plain = plain };
        },
      ))

-- the element of a place is there
pub element_there : {X : Type 0} (xs all : List X) (i : ℕ) (x : X) → i < length xs → x ≡ get_or xs i x → xs ≡ all → slice_get all i ≡ Some x
element_there xs all i x l e so = ap (λ ys. slice_get ys i) (sym so) ∙ slice_get-get_or xs i x l ∙ ap Some (sym e)
