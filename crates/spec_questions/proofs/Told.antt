-- What is told of stays so, and grows rule by rule.
use Rattle.std.proofs.Common.{◌≡◌, ◌≤◌, ℕ, ◌<◌, ◌+◌, List, length, get_or, take, subst, ◌∙◌}
use Rattle.std.specs.Prelude.{IsTrue}
use Rattle.std.proofs.lemmas.List.{take_all}
use Rattle.std.proofs.lemmas.List.Elements.{All-more}
use Rattle.core_rule_sets.specs.declared.trie_again.Rule.{Rule}
use Rattle.cranelift_isle.specs.declared.lower.LoweredTerm.{LoweredTerm}
use Rattle.spec_tables.specs.declared.specs.TermSpec.{TermSpec}
use Rattle.spec_questions.specs.declared.questions.Questions.{Questions}
use Rattle.spec_questions.specs.declared.questions.Wanted.{Wanted}
use Rattle.spec_questions.specs.Telling.{AreTold, AreAllTold, KeepsTold, has_spec, is_told, is_wanted_at}

pub kept_step : (a b c : Questions) → KeepsTold a b → KeepsTold b c → KeepsTold a c
kept_step a b c f g = λ term rule h. g term rule (f term rule h)

-- rules that are told of stay so
pub are_told_kept : (w : Wanted) (a b : Questions) (term : ℕ) (rs : List Rule) → KeepsTold a b → AreTold w a term rs → AreTold w b term rs
are_told_kept w a b term rs keep all = λ k d l wanted. keep term _ (all k d l wanted)

-- one more rule
pub told_step : (w : Wanted) (a b : Questions) (term : ℕ) (rs : List Rule) (i : ℕ) (r : Rule) → i < length rs → r ≡ get_or rs i r → KeepsTold a b → AreTold w a term (take i rs) → (IsTrue (is_wanted_at w r.pos) → IsTrue (is_told b term r.id.0)) → AreTold w b term (take (i + 1) rs)
told_step w a b term rs i r l e keep all one =
    All-more (λ x. IsTrue (is_wanted_at w x.pos) → IsTrue (is_told b term x.id.0)) rs i r l (are_told_kept w a b term (take i rs) keep all) (subst (λ (x : Rule). IsTrue (is_wanted_at w x.pos) → IsTrue (is_told b term x.id.0)) e one)

-- all rules
pub told_end : (w : Wanted) (a : Questions) (term : ℕ) (rs all : List Rule) (i : ℕ) → length rs ≤ i → rs ≡ all → AreTold w a term (take i rs) → AreTold w a term all
told_end w a term rs all i l e so = subst (λ (xs : List Rule). AreTold w a term xs) (take_all i rs l ∙ e) so

-- one more term
pub all_told_step : (w : Wanted) (said : List TermSpec) (a b : Questions) (ts : List LoweredTerm) (i : ℕ) (t : LoweredTerm) → i < length ts → t ≡ get_or ts i t → KeepsTold a b → AreAllTold w said a (take i ts) → (IsTrue (has_spec said t.id.0) → AreTold w b t.id.0 t.rules.rules.items) → AreAllTold w said b (take (i + 1) ts)
all_told_step w said a b ts i t l e keep all one =
    All-more (λ x. IsTrue (has_spec said x.id.0) → AreTold w b x.id.0 x.rules.rules.items) ts i t l (λ k d lt said_of. are_told_kept w a b _ _ keep (all k d lt said_of)) (subst (λ (x : LoweredTerm). IsTrue (has_spec said x.id.0) → AreTold w b x.id.0 x.rules.rules.items) e one)

-- all terms
pub all_told_end : (w : Wanted) (said : List TermSpec) (a : Questions) (ts all : List LoweredTerm) (i : ℕ) → length ts ≤ i → ts ≡ all → AreAllTold w said a (take i ts) → AreAllTold w said a all
all_told_end w said a ts all i l e so = subst (λ (xs : List LoweredTerm). AreAllTold w said a xs) (take_all i ts l ∙ e) so
