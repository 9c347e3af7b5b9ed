-- What is read of one text more.
use Rattle.std.proofs.Common.{◌≡◌, ℕ, ◌+◌, Bool, List, [], ◌∷◌, ◌++◌, ◌≤◌, All, Some, true, false, length, map, drop, slice_get, Ok, refl, sym, ap, ◌∙◌, subst, append-nil}
use Rattle.std.proofs.lemmas.List.{append_assoc, drop_more, map-append}
use Rattle.std.proofs.Math.ListN.{drop_of_length-le}
use Rattle.std.proofs.lemmas.Option.{slice_get_within, get_or_from_slice_get}
use Rattle.std.proofs.lemmas.List.Elements.{All-append, All-weaker}
use Rattle.cranelift_isle.specs.Syntax.{Definition}
use Rattle.text_reader.specs.Definitions.{Spells, reading}
use Rattle.text_reader.specs.Lexemes.{Wrong}
use Rattle.text_reader.specs.declared.errors.TextError.{TextError}
use Rattle.text_reader.specs.Within.{DefinitionsAreWithin, DefinitionIsWithin}
use Rattle.app_command.specs.Readings.{error_view, mistake_in, mistake_of_text, mistakes_of_texts, AreOfText, AreOfTexts, LiesInSome, StandsIn, StandsInSome}

-- definitions that lie in one text lie in some
pub lie_in_some : (texts : List (List ℕ)) (number : ℕ) (text : List ℕ) (added : List Definition)
    → slice_get texts number ≡ Some text → DefinitionsAreWithin number (length text) added → All (LiesInSome texts) added
lie_in_some texts number text added at within =
    All-weaker (DefinitionIsWithin number (length text)) (LiesInSome texts) (λ d h. (number, text, at, h)) added within

-- and those before them too
pub all_lie_in_some : (texts : List (List ℕ)) (number : ℕ) (text : List ℕ) (before after added : List Definition)
    → slice_get texts number ≡ Some text → after ≡ before ++ added → All (LiesInSome texts) before
    → DefinitionsAreWithin number (length text) added → All (LiesInSome texts) after
all_lie_in_some texts number text before after added at e old within =
    subst (All (LiesInSome texts)) (sym e) (All-append (LiesInSome texts) before added old (lie_in_some texts number text added at within))

-- mistakes that stand in one text stand in some, and those before them too
pub all_stand_in_some : (texts : List (List ℕ)) (number : ℕ) (text : List ℕ) (before after added : List TextError)
    → slice_get texts number ≡ Some text → after ≡ before ++ added → All (StandsInSome texts) before
    → All (StandsIn number text) added → All (StandsInSome texts) after
all_stand_in_some texts number text before after added at e old here =
    subst (All (StandsInSome texts)) (sym e) (All-append (StandsInSome texts) before added old
    (All-weaker (StandsIn number text) (StandsInSome texts) (λ m h. (number, text, at, h)) added here))

-- what was read of the texts before a number: with what the others give, it is what all give
abbrev pub AreBefore : (has_none : ℕ → Bool) (texts : List (List ℕ)) (number : ℕ) → List Definition → Type 0
AreBefore has_none texts number before =
    (others : List Definition) → AreOfTexts has_none number (drop number texts) others → AreOfTexts has_none 0 texts (before ++ others)

pub dropped : (texts : List (List ℕ)) (number : ℕ) (text : List ℕ) → slice_get texts number ≡ Some text → drop number texts ≡ text ∷ drop (number + 1) texts
dropped texts number text at =
    drop_more texts number text (slice_get_within texts number text at) ∙ ap (λ t. t ∷ drop (number + 1) texts) (get_or_from_slice_get texts number text text at)

are_before : (has_none : ℕ → Bool) (texts : List (List ℕ)) (number : ℕ) (text : List ℕ) (before after added : List Definition)
    → slice_get texts number ≡ Some text → after ≡ before ++ added → AreBefore has_none texts number before
    → AreOfText (has_none number) number text added → AreBefore has_none texts (number + 1) after
are_before has_none texts number text before after added at e old here = λ others more.
    subst (AreOfTexts has_none 0 texts) (sym (append_assoc before added others) ∙ ap (λ ds. ds ++ others) (sym e))
    (old (added ++ others) (subst (λ ts. AreOfTexts has_none number ts (added ++ others)) (sym (dropped texts number text at)) (added, others, refl, here, more)))

-- and of one text more that is read
pub read_before : (has_none : ℕ → Bool) (texts : List (List ℕ)) (number : ℕ) (text : List ℕ) (before after added : List Definition) (Old New : Type 0)
    → slice_get texts number ≡ Some text → has_none number ≡ false → after ≡ before ++ added → (Old → AreBefore has_none texts number before)
    → (New → Old × Spells number text added) → New → AreBefore has_none texts (number + 1) after
read_before has_none texts number text before after added Old New at has e old here = λ new.
    are_before has_none texts number text before after added at e (old (here new).0) (subst (λ b. AreOfText b number text added) (sym has) (here new).1)

-- and of one more that has no definitions
pub passed_before : (has_none : ℕ → Bool) (texts : List (List ℕ)) (number : ℕ) (text : List ℕ) (before : List Definition)
    → slice_get texts number ≡ Some text → has_none number ≡ true → AreBefore has_none texts number before → AreBefore has_none texts (number + 1) before
passed_before has_none texts number text before at has old =
    are_before has_none texts number text before before [] at (sym (append-nil before)) old (subst (λ b. AreOfText b number text []) (sym has) refl)

-- and of all
pub all_are : (has_none : ℕ → Bool) (texts : List (List ℕ)) (number : ℕ) (defs : List Definition) → length texts ≤ number
    → AreBefore has_none texts number defs → AreOfTexts has_none 0 texts defs
all_are has_none texts number defs over before =
    subst (AreOfTexts has_none 0 texts) (append-nil defs) (before [] (subst (λ ts. AreOfTexts has_none number ts []) (sym (drop_of_length-le texts over)) refl))

-- the mistakes of the texts before a number, with those of the others, are those of all
abbrev pub AreMistakesBefore : (has_none : ℕ → Bool) (texts : List (List ℕ)) (number : ℕ) → List Wrong → Type 0
AreMistakesBefore has_none texts number before =
    before ++ mistakes_of_texts has_none number (drop number texts) ≡ mistakes_of_texts has_none 0 texts

are_mistakes_before : (has_none : ℕ → Bool) (texts : List (List ℕ)) (number : ℕ) (text : List ℕ) (before after : List Wrong)
    → slice_get texts number ≡ Some text → after ≡ before ++ mistake_of_text (has_none number) number text
    → AreMistakesBefore has_none texts number before → AreMistakesBefore has_none texts (number + 1) after
are_mistakes_before has_none texts number text before after at e old =
    ap (λ ms. ms ++ mistakes_of_texts has_none (number + 1) (drop (number + 1) texts)) e
    ∙ append_assoc before (mistake_of_text (has_none number) number text) (mistakes_of_texts has_none (number + 1) (drop (number + 1) texts))
    ∙ sym (ap (λ ts. before ++ mistakes_of_texts has_none number ts) (dropped texts number text at)) ∙ old

-- and of one text more that is read, or has a mistake
pub mistaken_before : (has_none : ℕ → Bool) (texts : List (List ℕ)) (number : ℕ) (text : List ℕ) (before after added : List TextError)
    → slice_get texts number ≡ Some text → has_none number ≡ false → after ≡ before ++ added
    → map error_view added ≡ mistake_in (reading number text)
    → AreMistakesBefore has_none texts number (map error_view before) → AreMistakesBefore has_none texts (number + 1) (map error_view after)
mistaken_before has_none texts number text before after added at has e exact =
    are_mistakes_before has_none texts number text (map error_view before) (map error_view after) at
    (ap (map error_view) e ∙ map-append error_view before added
    ∙ ap (λ ms. map error_view before ++ ms) (exact ∙ sym (ap (λ b. mistake_of_text b number text) has)))

-- and of one more that has no definitions
pub no_mistake_before : (has_none : ℕ → Bool) (texts : List (List ℕ)) (number : ℕ) (text : List ℕ) (before : List Wrong)
    → slice_get texts number ≡ Some text → has_none number ≡ true
    → AreMistakesBefore has_none texts number before → AreMistakesBefore has_none texts (number + 1) before
no_mistake_before has_none texts number text before at has =
    are_mistakes_before has_none texts number text before before at
    (sym (append-nil before) ∙ ap (λ ms. before ++ ms) (sym (ap (λ b. mistake_of_text b number text) has)))

-- and of all
pub all_mistakes : (has_none : ℕ → Bool) (texts : List (List ℕ)) (number : ℕ) (mistakes : List Wrong) → length texts ≤ number
    → AreMistakesBefore has_none texts number mistakes → mistakes ≡ mistakes_of_texts has_none 0 texts
all_mistakes has_none texts number mistakes over before =
    sym (append-nil mistakes)
    ∙ ap (λ ts. mistakes ++ mistakes_of_texts has_none number ts) (sym (drop_of_length-le texts over)) ∙ before

-- where texts that spell definitions are read, those that spell some have no mistake
abbrev pub AreRead : Type 0
AreRead = (file : ℕ) (text : List ℕ) (defs : List Definition) → Spells file text defs → reading file text ≡ Ok defs

no_mistake : AreRead → (has_none : Bool) (number : ℕ) (text : List ℕ) (defs : List Definition)
    → AreOfText has_none number text defs → mistake_of_text has_none number text ≡ []
no_mistake read true number text defs are = refl
no_mistake read false number text defs spells = ap mistake_in (read number text defs spells)

pub no_mistakes : AreRead → (has_none : ℕ → Bool) (number : ℕ) (texts : List (List ℕ)) (defs : List Definition)
    → AreOfTexts has_none number texts defs → mistakes_of_texts has_none number texts ≡ []
no_mistakes read has_none number [] defs are = refl
no_mistakes read has_none number (text ∷ texts) defs are =
    ap (λ ms. ms ++ mistakes_of_texts has_none (number + 1) texts) (no_mistake read (has_none number) number text are.0 are.3)
    ∙ no_mistakes read has_none (number + 1) texts are.1 are.4
