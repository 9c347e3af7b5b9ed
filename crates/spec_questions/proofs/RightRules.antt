-- Questions that are refuted, or known to be, can't be satisfied.
use Rattle.std.proofs.Common.{◌≡◌, Bool, true, false, List, [], ◌∷◌, ◌++◌, ◌&&◌, ◌||◌, Option, Some, None, String, map, reverse, is_some, refl, sym, ap, ◌∙◌, subst, arith}
use Rattle.std.specs.Prelude.{IsTrue}
use Rattle.std.specs.List.{list_all, list_any}
use Rattle.std.proofs.lemmas.Bool.{and_parts, false≢true}
use Rattle.std.proofs.lemmas.Grind.{common_steps}
use Rattle.std.proofs.lemmas.List.{reverse-append}
use Rattle.std.specs.declared.alloc.Global.{Global}
use Rattle.laws_specs.specs.Specs.{Specs}
use Rattle.model_questions.specs.Formulas.{Model, is_so, are_so}
use Rattle.model_questions.specs.Formulas as M
use Rattle.model_questions.specs.Questions.{IsUnsatisfiable}
use Rattle.core_rule_sets.specs.declared.trie_again.Rule.{Rule}
use Rattle.core_rule_sets.specs.SiteViews.{set_rule_view, set_view}
use Rattle.cranelift_isle.specs.declared.lower.Lowered.{Lowered}
use Rattle.cranelift_isle.specs.declared.lower.LoweredTerm.{LoweredTerm}
use Rattle.spec_cases.specs.declared.formulas.Fact.{Fact}
use Rattle.spec_cases.specs.declared.formulas.Node.{Node}
use Rattle.spec_steps.specs.declared.demands.Signature.{Signature}
use Rattle.spec_steps.specs.Roots.{plan}
use Rattle.spec_asked.specs.declared.asking.Asked.{Asked}
use Rattle.spec_asked.specs.declared.tables.SpecTables.{SpecTables}
use Rattle.spec_asked.specs.Asked.{AreQuestionsOf}
use Rattle.spec_asked.specs.Asking.{facts_of}
use Rattle.spec_asked.specs.Lowered.{program_in, specs_in, AsksLowered}
use Rattle.spec_cases.specs.declared.formulas.Fact.TheVariants as F
use Rattle.spec_cases.specs.Namings.{Naming, fact_of}
use Rattle.spec_questions.specs.declared.answers.Answer.{Answer}
use Rattle.spec_questions.specs.declared.questions.Question.{Question}
use Rattle.spec_questions.specs.declared.verdicts.Verdict.TheVariants as V
use Rattle.spec_questions.specs.Refuting.{is_refuted_by, is_right_by, is_shown, is_so_by}
use Rattle.spec_questions.specs.Right.{asked_facts, is_known_false, turned, AsksFacts}

both_turned : (a b : Bool) → (a && (b && true)) ≡ (b && a)
both_turned true true = refl
both_turned true false = refl
both_turned false true = refl
both_turned false false = refl

assoc_and : (a b c : Bool) → (a && (b && c)) ≡ ((a && b) && c)
assoc_and true b c = refl
assoc_and false b c = refl

so_appended : (m : Model) (xs ys : List M.Fact) → are_so m (xs ++ ys) ≡ (are_so m xs && are_so m ys)
so_appended m [] ys = refl
so_appended m (x ∷ xs) ys = ap (λ b. is_so m x && b) (so_appended m xs ys) ∙ assoc_and (is_so m x) (are_so m xs) (are_so m ys)

so_reversed : (m : Model) (xs : List M.Fact) → are_so m (reverse xs) ≡ are_so m xs
so_reversed m [] = refl
so_reversed m (x ∷ xs) =
    ap (are_so m) (reverse-append (x ∷ []) xs) ∙ so_appended m (reverse xs) (x ∷ []) ∙ both_turned (are_so m (reverse xs)) (is_so m x) ∙ ap (λ b. is_so m x && b) (so_reversed m xs)

-- where one of them is known not to be so, no model makes all so
plain_never : (v : Naming) (m : Model) (fs : List Fact) → list_any is_known_false fs ≡ true → are_so m (map (fact_of v) fs) ≡ true → ⊥
plain_never v m [] any all = false≢true any
plain_never v m (F.Known true ∷ fs) any all = plain_never v m fs any all
plain_never v m (F.Known false ∷ fs) any all = false≢true all
plain_never v m (F.At place ∷ fs) any all = plain_never v m fs any (and_parts _ _ all).1
plain_never v m (F.AsWide place width ∷ fs) any all = plain_never v m fs any (and_parts _ _ all).1
plain_never v m (F.IsKind place variant ∷ fs) any all = plain_never v m fs any (and_parts _ _ all).1
plain_never v m (F.Made node ∷ fs) any all = plain_never v m fs any (and_parts _ _ all).1

plain_unsatisfiable : (specs : Specs) (v : Naming) (fs : List Fact) → list_any is_known_false fs ≡ true → IsUnsatisfiable specs (turned v fs)
plain_unsatisfiable specs v fs any = λ m of all. plain_never v m fs any (sym (so_reversed m (map (fact_of v) fs)) ∙ all)

-- where some facts can't all be so, more can't
more_unsatisfiable : (specs : Specs) (fs es : List M.Fact) → IsUnsatisfiable specs fs → IsUnsatisfiable specs (fs ++ es)
more_unsatisfiable specs fs es none = λ m of all. none m of (and_parts (are_so m fs) (are_so m es) (sym (so_appended m fs es) ∙ all)).0

pub alone_unsatisfiable : (specs : Specs) (fs : List M.Fact) → IsUnsatisfiable specs (fs ++ []) → IsUnsatisfiable specs fs
alone_unsatisfiable specs fs none = λ m of all. none m of (so_appended m fs [] ∙ ap (λ b. b && true) all)

-- a question that a solver refutes, or that is known to be refuted, beside facts that exclude rules
pub so_unsatisfiable : (specs : Specs) (v : Naming) (answers : List Answer) (q : Question) (es : List M.Fact) (wrong : Option (String Global)) → q.wrong ≡ wrong
    → is_so_by answers wrong ≡ true → (is_some wrong || list_any is_known_false q.facts.items) ≡ true
    → ((text : String Global) → q.wrong ≡ Some text → IsTrue (is_refuted_by answers text.bytes.items) → IsUnsatisfiable specs (turned v q.facts.items ++ es))
    → IsUnsatisfiable specs (turned v q.facts.items ++ es)
so_unsatisfiable specs v answers q es None e so plain trust = more_unsatisfiable specs (turned v q.facts.items) es (plain_unsatisfiable specs v q.facts.items plain)
so_unsatisfiable specs v answers q es (Some text) e so plain trust = trust text e (search so)

-- of a rule that is told right each question is refuted
pub all_right : (answers : List Answer) (qs : List Question) (followed : Bool) → IsTrue (is_shown answers qs followed V.Right) → list_all (is_right_by answers) qs ≡ true
all_right answers qs followed shown = grind (arith, common_steps)

asked_turned : (v : Naming) (qs : List Asked) → map (facts_of v) qs ≡ map (turned v) (asked_facts qs)
asked_turned v [] = refl
asked_turned v (q ∷ qs) = ap (λ l. turned v q.facts.items ∷ l) (asked_turned v qs)

-- all questions, by their facts
pub asks_facts : (lowered : Lowered) (signatures : List Signature) (specs : SpecTables) (term : LoweredTerm) (nodes : List Node) (rule : Rule) (qs : List Asked) (es : List Fact)
    → AsksLowered lowered signatures specs term nodes rule true qs es → AsksFacts lowered signatures specs term nodes rule (asked_facts qs) es
asks_facts lowered signatures specs term nodes rule qs es asks = λ s n.
    subst (λ ls. AreQuestionsOf (program_in lowered signatures specs term s) (specs_in lowered signatures specs term s) term.id.0 (set_view term.rules) (set_rule_view rule) (plan true) ls (map (fact_of n.naming) es)) (asked_turned n.naming qs) (asks s n)

-- the same, by other lists of the same facts
pub asks_same : (lowered : Lowered) (signatures : List Signature) (specs : SpecTables) (term : LoweredTerm) (nodes : List Node) (rule : Rule) (ls ks : List (List Fact)) (es : List Fact)
    → ks ≡ ls → AsksFacts lowered signatures specs term nodes rule ls es → AsksFacts lowered signatures specs term nodes rule ks es
asks_same lowered signatures specs term nodes rule ls ks es e asks = subst (λ l. AsksFacts lowered signatures specs term nodes rule l es) (sym e) asks
