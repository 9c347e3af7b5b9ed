-- The forms that a list ends with, and how many it has.
use Rattle.std.proofs.Common.{◌≡◌, ℕ, suc, ◌-◌, ◌<◌, ◌≤◌, List, [], ◌∷◌, ◌++◌, length, take, drop, get_or, refl, sym, ap, ◌∙◌, arith}
use Rattle.std.specs.Prelude.{Some, None, option_map, Ok}
use Rattle.std.proofs.lemmas.List.{take-append-drop}
use Rattle.std.proofs.Math.Seq.{drop-cons, drop-length}
use Rattle.std.proofs.lemmas.Grind.{common_steps}
use Rattle.model.specs.lists.Syntax.{Position}
use Rattle.text_reader.specs.declared.forms.TextForm.{TextForm}
use Rattle.text_reader.specs.Lexemes.{◌>>=◌}
use Rattle.text_reader.specs.FormTrees.{form_and}
use Rattle.text_reader.specs.FormViews.{form_view, all_view}
use Rattle.text_reader.specs.Grammar.{count}
use Rattle.text_reader.specs.TermGrammar.{last_three}
use Rattle.text_reader.specs.RuleGrammar.{parted_of}

pub counted : (fs : List TextForm) → count (all_view fs) ≡ length fs
counted [] = refl
counted (f ∷ fs) = ap suc (counted fs)

-- ---- a list that is cut before its last forms

from : (fs : List TextForm) (n : ℕ) (f : TextForm) → n < length fs → f ≡ get_or fs n f → drop n fs ≡ f ∷ drop (suc n) fs
from fs n f inside at = drop-cons fs n f inside ∙ ap (λ x. x ∷ drop (suc n) fs) (sym at)

from_last : (fs : List TextForm) (c : TextForm) → 1 ≤ length fs → c ≡ get_or fs (length fs - 1) c → drop (length fs - 1) fs ≡ c ∷ []
from_last fs c some at = grind (arith, common_steps, from, drop-length)

from_last_two : (fs : List TextForm) (b c : TextForm) → 2 ≤ length fs → b ≡ get_or fs (length fs - 2) b → c ≡ get_or fs (length fs - 1) c
    → drop (length fs - 2) fs ≡ b ∷ c ∷ []
from_last_two fs b c some b_at c_at = grind (arith, common_steps, from, from_last)

from_last_three : (fs : List TextForm) (a b c : TextForm) → 3 ≤ length fs
    → a ≡ get_or fs (length fs - 3) a → b ≡ get_or fs (length fs - 2) b → c ≡ get_or fs (length fs - 1) c
    → drop (length fs - 3) fs ≡ a ∷ b ∷ c ∷ []
from_last_three fs a b c some a_at b_at c_at = grind (arith, common_steps, from, from_last_two)

-- ---- the last form

behind : (ends : Position) (before : List TextForm) (a : TextForm) → parted_of ends (all_view (before ++ a ∷ [])) ≡ Ok (all_view before, form_view a)
behind ends (f ∷ g ∷ gs) a = ap (λ r. r >>= (λ s. Ok (form_and (form_view f) s.0, s.1))) (behind ends (g ∷ gs) a)
behind ends _ a = refl

pub one_last : (ends : Position) (fs : List TextForm) (a : TextForm) → 1 ≤ length fs → a ≡ get_or fs (length fs - 1) a
    → parted_of ends (all_view fs) ≡ Ok (all_view (take (length fs - 1) fs), form_view a)
one_last ends fs a some at = grind (arith, common_steps, take-append-drop, from_last, behind)

-- ---- the last three

three_behind : (before : List TextForm) (a b c : TextForm)
    → last_three (all_view (before ++ a ∷ b ∷ c ∷ [])) ≡ Some (all_view before, form_view a, form_view b, form_view c)
three_behind (f ∷ g ∷ h ∷ k ∷ ks) a b c =
    ap (option_map (λ s. (form_and (form_view f) s.0, s.1, s.2, s.3))) (three_behind (g ∷ h ∷ k ∷ ks) a b c)
three_behind _ a b c = refl

pub three_last : (fs : List TextForm) (a b c : TextForm) → 3 ≤ length fs
    → a ≡ get_or fs (length fs - 3) a → b ≡ get_or fs (length fs - 2) b → c ≡ get_or fs (length fs - 1) c
    → last_three (all_view fs) ≡ Some (all_view (take (length fs - 3) fs), form_view a, form_view b, form_view c)
three_last fs a b c some a_at b_at c_at = grind (arith, common_steps, take-append-drop, from_last_three, three_behind)

pub too_few : (fs : List TextForm) → length fs < 3 → last_three (all_view fs) ≡ None
too_few (f ∷ g ∷ h ∷ hs) few = absurd (omega arith)
too_few _ few = refl
