-- The texts of terms, one by one.
use Rattle.std.proofs.Common.{Bor, ◌≡◌, ℕ, ◌+◌, ◌<◌, List, ◌++◌, length, get_or, drop, map, sym, ap, ◌∙◌, append_assoc}
use Rattle.std.proofs.lemmas.List.{at_drop_more}
use Rattle.report_queries.specs.TermTexts.{term_text, terms_text}
use Rattle.core_syntax.specs.declared.syntax.Files.{Files}
use Rattle.cranelift_isle.specs.declared.lower.Lowered.{Lowered}
use Rattle.cranelift_isle.specs.declared.lower.LoweredTerm.{LoweredTerm}

-- one text more is written, by lines of the files
pub one_text_more : (files : Files) (l : Lowered) (terms : List (Bor LoweredTerm)) (i : ℕ) (other : Bor LoweredTerm) (of : Files) (before after whole : List ℕ)
    → i < length terms → of ≡ files → after ≡ before ++ term_text of l (get_or terms i other).now
    → before ++ terms_text files l (map (λ t. t.now) (drop i terms)) ≡ whole → after ++ terms_text files l (map (λ t. t.now) (drop (i + 1) terms)) ≡ whole
one_text_more files l terms i other of before after whole h same written inv =
    let rest = terms_text files l (map (λ t. t.now) (drop (i + 1) terms)) in
    ap (λ bytes. bytes ++ rest) (written ∙ ap (λ f. before ++ term_text f l (get_or terms i other).now) same)
    ∙ append_assoc before (term_text files l (get_or terms i other).now) rest
    ∙ sym (at_drop_more (λ ts. before ++ terms_text files l (map (λ t. t.now) ts)) terms i other h) ∙ inv
