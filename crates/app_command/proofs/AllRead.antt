-- What texts are read as depends on a request only by which of them have no definitions.
use Rattle.std.proofs.Common.{◌≡◌, ℕ, ◌+◌, ◌++◌, ◌==◌, Bool, false, List, [], ◌∷◌, Option, Some, None, refl, ap, ◌∙◌, subst, ◌&&◌, ◌||◌, is_some, length, Result, Ok, Err, IfOk}
use Rattle.std.specs.declared.alloc.AllocError.{AllocError}
use Rattle.cranelift_isle.specs.Syntax.{Definition}
use Rattle.app_command.specs.declared.reading.Reading.{Reading}
use Rattle.app_command.specs.declared.reading.Reading.TheVariants.{Defs, Unread}
use Rattle.app_words.specs.declared.request.Request.{Request}
use Rattle.app_command.specs.Readings.{has_no_definitions, is_comparison, mistake_of_text, mistakes_of_texts, none_without, AreOfText, AreOfTexts, IsReadingOf}

each_has : (request : Request) → is_comparison request.task ≡ false → is_some request.answers ≡ false → (number : ℕ) → has_no_definitions request number ≡ false
each_has request task answers number =
    ap (λ b. (b || is_some request.answers) && (number + 1 == length request.files.items)) task
    ∙ ap (λ b. b && (number + 1 == length request.files.items)) answers

same_definitions : (v w : ℕ → Bool) → ((number : ℕ) → v number ≡ w number) → (texts : List (List ℕ)) (number : ℕ) (defs : List Definition)
    → AreOfTexts v number texts defs → AreOfTexts w number texts defs
same_definitions v w same [] number defs are = are
same_definitions v w same (text ∷ texts) number defs are =
    (are.0, are.1, are.2, subst (λ b. AreOfText b number text are.0) (same number) are.3, same_definitions v w same texts (number + 1) are.1 are.4)

same_mistakes : (v w : ℕ → Bool) → ((number : ℕ) → v number ≡ w number) → (texts : List (List ℕ)) (number : ℕ)
    → mistakes_of_texts v number texts ≡ mistakes_of_texts w number texts
same_mistakes v w same [] number = refl
same_mistakes v w same (text ∷ texts) number =
    ap (λ b. mistake_of_text b number text ++ mistakes_of_texts v (number + 1) texts) (same number)
    ∙ ap (λ ms. mistake_of_text (w number) number text ++ ms) (same_mistakes v w same texts (number + 1))

same_reading : (v w : ℕ → Bool) → ((number : ℕ) → v number ≡ w number) → (texts : List (List ℕ)) (reading : Reading) → IsReadingOf v texts reading → IsReadingOf w texts reading
same_reading v w same texts (Defs defs) is = (same_definitions v w same texts 0 _ is.0, is.1)
same_reading v w same texts (Unread mistakes) is = (is.0, is.1 ∙ same_mistakes v w same texts 0, is.2)

-- where nothing is compared and nothing answers from a file, each text has definitions
pub all_read : (request : Request) (texts : List (List ℕ)) (reading : Result Reading AllocError) → is_comparison request.task ≡ false → is_some request.answers ≡ false
    → IfOk reading (IsReadingOf (has_no_definitions request) texts) → IfOk reading (IsReadingOf none_without texts)
all_read request texts (Ok reading) task answers is = same_reading (has_no_definitions request) none_without (each_has request task answers) texts reading is
all_read request texts (Err e) task answers is = tt
