-- Text that is added in several steps.
use Rattle.std.proofs.Common.{◌≡◌, ℕ, sym, ap, ◌∙◌, List, [], ◌∷◌, ◌++◌, append_assoc, append-nil, arith}
use Rattle.std.specs.Prelude.{Result, OnOk, is_ok, codes, if◌then◌else◌}
use Rattle.std.proofs.lemmas.Grind.{common_steps}
use Rattle.model.specs.lists.Syntax.{TypeTree, DeclTree, RuleTree}
use Rattle.text_reader.specs.FormTrees.{FormTree, FormTrees, no_form, form_and}
use Rattle.text_writer.specs.Forms.{list_form, headed_form, pattern_form, expr_form, value_form, type_form, type_words_before, decl_form, signature, flags_before, if_lets_before, rule_form, rule_body, rule_words_before}
use Rattle.text_writer.specs.Texts.{written, spaced}
use Rattle.text_writer.proofs.Spaces.{spaced-flags, spaced-type_words, spaced-rule_words, spaced-if_lets}

-- where the last step succeeds
pub when : {T E P Q : Type 0} (r : Result T E) → (P → Q) → OnOk r P → OnOk r Q
when r f h = grind (arith, common_steps)

pub at_last : {T E Q : Type 0} (r : Result T E) (old new t : List ℕ) → new ≡ (if is_ok r then old ++ t else old) → (new ≡ old ++ t → Q) → OnOk r Q
at_last r old new t e f = grind (arith, common_steps)

pub three : (s a b c : List ℕ) → ((s ++ a) ++ b) ++ c ≡ s ++ (a ++ (b ++ c))
three s a b c = append_assoc (s ++ a) b c ∙ append_assoc s a (b ++ c)

pub decl_told : (d : DeclTree) (s s1 s2 s3 s4 : List ℕ) → s1 ≡ s ++ codes "(decl" → s2 ≡ s1 ++ spaced (flags_before d no_form) → s3 ≡ s2 ++ spaced (signature d)
    → s4 ≡ s3 ++ codes ")" → s4 ≡ s ++ written (decl_form d)
decl_told d s s1 s2 s3 s4 e1 e2 e3 e4 = grind (arith, common_steps, spaced-flags)

pub type_told : (t : TypeTree) (s s1 s2 s3 s4 : List ℕ) → s1 ≡ s ++ codes "(type" → s2 ≡ s1 ++ spaced (type_words_before t no_form) → s3 ≡ s2 ++ 32 ∷ written (value_form t.value)
    → s4 ≡ s3 ++ codes ")" → s4 ≡ s ++ written (type_form t)
type_told t s s1 s2 s3 s4 e1 e2 e3 e4 = grind (arith, common_steps, spaced-type_words)

pub rule_told : (r : RuleTree) (s s1 s2 s3 : List ℕ) → s1 ≡ s ++ codes "(rule" → s2 ≡ s1 ++ spaced (rule_words_before r no_form) → s3 ≡ s2 ++ (spaced (rule_body r) ++ 41 ∷ [])
    → s3 ≡ s ++ written (rule_form r)
rule_told r s s1 s2 s3 e1 e2 e3 = grind (arith, common_steps, spaced-rule_words)

-- an expression that ends a list
pub ended : (w e : List ℕ) → w ++ 32 ∷ (e ++ 41 ∷ []) ≡ (w ++ 32 ∷ (e ++ [])) ++ 41 ∷ []
ended w e = sym (append_assoc w (32 ∷ (e ++ [])) (41 ∷ []) ∙ ap (λ u. w ++ 32 ∷ (u ++ 41 ∷ [])) (append-nil e))

pub body_told : (r : RuleTree) (s s1 s2 s3 s4 : List ℕ) → s1 ≡ s ++ codes " " → s2 ≡ s1 ++ written (pattern_form r.pattern) → s3 ≡ s2 ++ spaced (if_lets_before r.iflets no_form)
    → s4 ≡ s3 ++ 32 ∷ (written (expr_form r.expr) ++ 41 ∷ []) → s4 ≡ s ++ (spaced (rule_body r) ++ 41 ∷ [])
body_told r s s1 s2 s3 s4 e1 e2 e3 e4 = grind (arith, common_steps, three, ended, spaced-if_lets)

pub let_told : (ds : FormTrees) (b : FormTree) (s s1 s2 s3 : List ℕ) → s1 ≡ s ++ codes "(let " → s2 ≡ s1 ++ written (list_form ds) → s3 ≡ s2 ++ 32 ∷ (written b ++ 41 ∷ [])
    → s3 ≡ s ++ written (headed_form (codes "let") (form_and (list_form ds) (form_and b no_form)))
let_told ds b s s1 s2 s3 e1 e2 e3 = grind (arith, common_steps, three, ended)
