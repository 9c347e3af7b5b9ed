-- What tests of words say.
use Rattle.std.proofs.Common.{◌≡◌, refl, inl, inr, sym, ap, ◌∙◌, subst}
use Rattle.std.specs.Prelude.{ℕ, true, false, not, ◌||◌, List, codes}
use Rattle.std.proofs.lemmas.Bool.{cases_Bool}
use Rattle.model.proofs.Bytes.{same_bytes}
use Rattle.model.specs.lists.Syntax.{Name}
use Rattle.text_reader.specs.Grammar.{reads}
use Rattle.text_writer.specs.Spellable.{is_any_word, is_truth}
use Rattle.text_writer.specs.Forms.{the_word, word_form}
use Rattle.text_writer.proofs.WordParts.{three, four, unless, truth_parts}
use Rattle.text_writer.proofs.Fine.{is_plain, Fits, known}
use Rattle.text_reader.specs.SpecGrammar.{has_cases, has_mark, has_three}
use Rattle.text_writer.specs.SpellableTrees.{is_spec_variable, is_operator}

pub variable_parts : (n : Name) → is_spec_variable n ≡ true
    → (is_any_word n ≡ true) × (reads n (codes "true") ≡ false) × (reads n (codes "false") ≡ false) × (has_mark 120 n.text ≡ false) × (has_mark 98 n.text ≡ false)
unfolding is_spec_variable
variable_parts n h =
    let k = four (is_any_word n) (not (is_truth n)) (not (has_mark 120 n.text)) (not (has_mark 98 n.text)) h in
    let t = truth_parts n k.1 in
    (k.0, t.0, t.1, unless (has_mark 120 n.text) k.2, unless (has_mark 98 n.text) k.3)

pub operator_parts : (n : Name) → is_operator n ≡ true → (is_any_word n ≡ true) × (has_cases n ≡ false) × (has_three n ≡ false)
unfolding is_operator
operator_parts n h =
    let k = three (is_any_word n) (not (has_cases n)) (not (has_three n)) h in
    (k.0, unless (has_cases n) k.1, unless (has_three n) k.2)

-- a name that reads as a word of the notation fits as this word
reads_fits : (n : Name) (t : List ℕ) (room : ℕ) → is_plain t ≡ true → reads n t ≡ true → Fits true (word_form n) room
reads_fits n t room plain h = subst (λ u. Fits true (the_word u) room) (sym (same_bytes n.text t h)) (known t room plain)

pub cases_fit : (n : Name) (room : ℕ) → has_cases n ≡ true → Fits true (word_form n) room
unfolding is_plain
cases_fit n room h = elim (cases_Bool (reads n (codes "switch"))) [
  | inl d ↦ reads_fits n (codes "switch") room refl d
  | inr d ↦ reads_fits n (codes "match") room refl (sym (ap (λ b. b || reads n (codes "match")) d) ∙ h)
]
