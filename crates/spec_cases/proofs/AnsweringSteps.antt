-- Words that are made of others are formed where their parts are, operands are as many as sorts, and the sort of a function is looked for.
use Rattle.std.proofs.Common.{◌≡◌, ◌≢◌, ℕ, ◌-◌, ◌<◌, ◌≤◌, Bool, true, false, ◌&&◌, List, [], ◌∷◌, drop, get_or, length, map, take, Some, if◌then◌else◌, refl, sym, ap, ◌∙◌, arith}
use Rattle.std.proofs.lemmas.Bool.{ne_eqb}
use Rattle.std.proofs.lemmas.List.{take_all}
use Rattle.std.specs.Bool.{◌==◌}
use Rattle.model.specs.rules.Meaning.{look}
use Rattle.model_questions.specs.Formulas as M
use Rattle.model_questions.specs.Evaluated as E
use Rattle.laws_specs.specs.Specs.{Sort}
use Rattle.laws_specs.specs.Words.{Operator}
use Rattle.spec_cases.specs.declared.sorts.FunctionSort.{FunctionSort}
use Rattle.spec_cases.specs.declared.sorts.Sort as Own
use Rattle.spec_cases.specs.Sorts.{function_sort, function_sorts, sort_view}
use Rattle.spec_cases.specs.declared.formulas.Operand.{Operand}
use Rattle.spec_cases.specs.declared.formulas.Operand.TheVariants as O
use Rattle.spec_cases.specs.Namings.{Naming, operands_of}

-- what a number stands for is formed as what was made
module _ (v : Naming) (w n : ℕ) where
  pub made_formed : (t : M.Word) (b : Bool) → v.word n ≡ t → b ≡ E.is_surely_formed w t → b ≡ E.is_surely_formed w (v.word n)
  made_formed t b is e = e ∙ ap (E.is_surely_formed w) (sym is)

pub ruleset made_steps = (made_formed)

-- an operator of another result
pub none_formed : (w : ℕ) (o : Operator) (of : M.Operands) (r : E.Result) → r ≡ E.result o of → false ≡ E.is_word_result w r → false ≡ E.is_surely_formed w (M.word_by o of)
none_formed w o of r e h = ap (λ c. c && E.are_surely_formed of) (h ∙ ap (E.is_word_result w) e)

pub all_formed : (w : ℕ) (o : Operator) (of : M.Operands) (r : E.Result) (b : Bool) → r ≡ E.result o of → true ≡ E.is_word_result w r → b ≡ E.are_surely_formed of → b ≡ E.is_surely_formed w (M.word_by o of)
all_formed w o of r b e h k = k ∙ ap (λ c. c && E.are_surely_formed of) (h ∙ ap (E.is_word_result w) e)

pub ruleset result_steps = (none_formed, all_formed)

module _ (v : Naming) where
  too_many : (l : List Operand) → 1 ≤ length l → E.are_operands_of [] (operands_of v l) ≡ false
  too_many [] h = absurd (omega arith)
  too_many (O.Fact f ∷ l) h = refl
  too_many (O.Integer z ∷ l) h = refl
  too_many (O.Word w t ∷ l) h = refl

  pub none_taken : (sorts : List Own.Sort) (l : List Operand) → length sorts < 1 → 1 ≤ length l → E.are_operands_of (map sort_view sorts) (operands_of v l) ≡ false
  none_taken [] l h k = too_many l k
  none_taken (s ∷ sorts) l h k = absurd (omega arith)

  pub too_few : (s : Sort) (sorts : List Sort) (l : List Operand) → length l < 1 → E.are_operands_of (s ∷ sorts) (operands_of v l) ≡ false
  too_few s sorts [] h = refl
  too_few s sorts (o ∷ l) h = absurd (omega arith)

pub ruleset operand_steps = (none_taken, too_few)

-- another function is passed over
pub sorted_later : (f : ℕ) (l : List FunctionSort) (x : FunctionSort) → 1 ≤ length l → x ≡ get_or l 0 x → x.function ≢ f
    → look (λ n. n == f) (function_sorts (take (length l - 1) (drop 1 l))) ≡ look (λ n. n == f) (function_sorts l)
sorted_later f [] x h at other = absurd (omega arith)
sorted_later f (y ∷ l) x h at other =
    ap (λ r. look (λ n. n == f) (function_sorts r)) (take_all (length (y ∷ l) - 1) l (omega arith))
    ∙ ap (λ b. if b then Some (function_sort y).1 else look (λ n. n == f) (function_sorts l)) (sym (ap (λ z. z.function == f) (sym at) ∙ ne_eqb x.function f other))
