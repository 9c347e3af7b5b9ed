-- What is recovered of one text more, and that texts of which all is recovered have no mistake.
use Rattle.std.proofs.Common.{◌≡◌, ◌≢◌, ℕ, ◌+◌, ◌≤◌, Bool, List, [], ◌∷◌, ◌++◌, Some, true, false, length, map, drop, slice_get, string_bytes, String, Global, IsUtf8, Ok, refl, sym, ap, ◌∙◌, subst, append-nil}
use Rattle.std.proofs.lemmas.List.{append_assoc, map-append}
use Rattle.std.proofs.lemmas.Str.{IsUtf8-string_bytes}
use Rattle.std.proofs.Math.ListN.{drop_of_length-le}
use Rattle.cranelift_isle.specs.Syntax.{Definition}
use Rattle.cranelift_isle.specs.SyntaxViews.{definition_view, definition_views}
use Rattle.core_syntax.specs.declared.syntax.Def.{Def}
use Rattle.text_reader.specs.declared.errors.TextError.{TextError}
use Rattle.text_reader.specs.Definitions.{reading}
use Rattle.text_reader.specs.Lexemes.{Wrong}
use Rattle.text_reader.specs.Recovering.{Recovery, beside, nothing, recovering}
use Rattle.text_reader.specs.RecoveryViews.{wrong_view}
use Rattle.app_command.specs.Readings.{error_view, mistake_in, mistake_of_text, mistakes_of_texts, recovered_text, recovered_texts}
use Rattle.app_command.proofs.TextsRead.{dropped}

both_same : (ds es : List Definition) (vs ws : List Wrong) → ds ≡ es → vs ≡ ws → (let r : Recovery = record { definitions = ds; mistakes = vs } in let s : Recovery = record { definitions = es; mistakes = ws } in r ≡ s)
both_same ds es vs ws a b = ap (λ x. record { definitions = x; mistakes = vs }) a ∙ ap (λ x. record { definitions = es; mistakes = x }) b

beside_assoc : (r s t : Recovery) → beside (beside r s) t ≡ beside r (beside s t)
beside_assoc r s t = both_same _ _ _ _ (append_assoc r.definitions s.definitions t.definitions) (append_assoc r.mistakes s.mistakes t.mistakes)

beside_nothing : (r : Recovery) → beside r nothing ≡ r
beside_nothing r = both_same _ _ _ _ (append-nil r.definitions) (append-nil r.mistakes)

abbrev held : List Def → List TextError → Recovery
held ds es = record { definitions = definition_views ds; mistakes = map wrong_view es }

-- both lists are made longer
pub added : (ds new_ds more_ds : List Def) (es new_es more_es : List TextError) (whole : Recovery) → new_ds ≡ ds ++ more_ds → new_es ≡ es ++ more_es → held more_ds more_es ≡ whole
    → held new_ds new_es ≡ beside (held ds es) whole
added ds new_ds more_ds es new_es more_es whole d e h =
    both_same _ _ _ _ (ap definition_views d ∙ map-append definition_view ds more_ds) (ap (map wrong_view) e ∙ map-append wrong_view es more_es)
    ∙ ap (beside (held ds es)) h

-- what is recovered of the texts before a number: with what the others give, it is what all give
abbrev pub IsRecoveredBefore : (has_none : ℕ → Bool) (texts : List (List ℕ)) (number : ℕ) → Recovery → Type 0
IsRecoveredBefore has_none texts number before =
    beside before (recovered_texts has_none number (drop number texts)) ≡ recovered_texts has_none 0 texts

one_more : (has_none : ℕ → Bool) (texts : List (List ℕ)) (number : ℕ) (text : List ℕ) (before after : Recovery)
    → slice_get texts number ≡ Some text → after ≡ beside before (recovered_text (has_none number) number text)
    → IsRecoveredBefore has_none texts number before → IsRecoveredBefore has_none texts (number + 1) after
one_more has_none texts number text before after at e old =
    let rest = recovered_texts has_none (number + 1) (drop (number + 1) texts) in
    ap (λ r. beside r rest) e
    ∙ beside_assoc before (recovered_text (has_none number) number text) rest
    ∙ sym (ap (λ ts. beside before (recovered_texts has_none number ts)) (dropped texts number text at)) ∙ old

pub recovered_before : (has_none : ℕ → Bool) (texts : List (List ℕ)) (number : ℕ) (text : List ℕ) (before after : Recovery)
    → slice_get texts number ≡ Some text → has_none number ≡ false → after ≡ beside before (recovering number text)
    → IsRecoveredBefore has_none texts number before → IsRecoveredBefore has_none texts (number + 1) after
recovered_before has_none texts number text before after at has e =
    one_more has_none texts number text before after at (e ∙ ap (λ b. beside before (recovered_text b number text)) (sym has))

pub none_before : (has_none : ℕ → Bool) (texts : List (List ℕ)) (number : ℕ) (text : List ℕ) (before : Recovery)
    → slice_get texts number ≡ Some text → has_none number ≡ true
    → IsRecoveredBefore has_none texts number before → IsRecoveredBefore has_none texts (number + 1) before
none_before has_none texts number text before at has =
    one_more has_none texts number text before before at (sym (beside_nothing before) ∙ ap (λ b. beside before (recovered_text b number text)) (sym has))

pub all_recovered : (has_none : ℕ → Bool) (texts : List (List ℕ)) (number : ℕ) (found : Recovery) → length texts ≤ number
    → IsRecoveredBefore has_none texts number found → found ≡ recovered_texts has_none 0 texts
all_recovered has_none texts number found over before =
    sym (beside_nothing found)
    ∙ ap (λ ts. beside found (recovered_texts has_none number ts)) (sym (drop_of_length-le texts over)) ∙ before

-- ---- mistakes

-- where a text of which nothing is wrong is read, texts have mistakes only where something is wrong
abbrev pub FineAreRead : Type 0
FineAreRead = (file : ℕ) (text : List ℕ) → IsUtf8 text → (recovering file text).mistakes ≡ [] → reading file text ≡ Ok (recovering file text).definitions

pub none_viewed : (ms : List TextError) → map error_view ms ≡ [] → ms ≡ []
none_viewed [] e = refl
none_viewed (m ∷ ms) e = absurd (cc e)

none_of_both : (xs ys : List Wrong) → xs ++ ys ≡ [] → (xs ≡ []) × (ys ≡ [])
none_of_both [] ys e = (refl, e)
none_of_both (x ∷ xs) ys e = absurd (cc e)

one_fine : FineAreRead → (has_none : Bool) (number : ℕ) (text : List ℕ) → IsUtf8 text → (recovered_text has_none number text).mistakes ≡ [] → mistake_of_text has_none number text ≡ []
one_fine fine true number text u e = refl
one_fine fine false number text u e = ap mistake_in (fine number text u e)

pub all_fine : FineAreRead → (has_none : ℕ → Bool) (number : ℕ) (texts : List (String Global)) → (recovered_texts has_none number (map string_bytes texts)).mistakes ≡ []
    → mistakes_of_texts has_none number (map string_bytes texts) ≡ []
all_fine fine has_none number [] e = refl
all_fine fine has_none number (text ∷ texts) e =
    let both = none_of_both (recovered_text (has_none number) number (string_bytes text)).mistakes (recovered_texts has_none (number + 1) (map string_bytes texts)).mistakes e in
    ap (λ ms. ms ++ mistakes_of_texts has_none (number + 1) (map string_bytes texts)) (one_fine fine (has_none number) number (string_bytes text) (IsUtf8-string_bytes text) both.0)
    ∙ all_fine fine has_none (number + 1) texts both.1

-- what is longer than something isn't empty
pub some_longer : {T : Type 0} (xs ys : List T) → xs ≢ [] → xs ++ ys ≢ []
some_longer [] ys some = absurd (some refl)
some_longer (x ∷ xs) ys some = λ e. absurd (cc e)
