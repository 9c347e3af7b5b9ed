-- What an expression comes to by formulas is what it says of values.
use Rattle.std.proofs.Common.{◌≡◌, ℕ, pos, suc, Bool, true, false, not, ◌&&◌, List, [], ◌∷◌, ◌++◌, Option, Some, None, if◌then◌else◌, cond, slice_get, refl, sym, subst, inl, inr, lt-ltb, arith}
use Rattle.std.proofs.lemmas.Grind.{common_steps}
use Rattle.std.specs.Bool.{◌==◌}
use Rattle.std.proofs.lemmas.Bool.Decides.{Decides-int_eq}
use Rattle.std.proofs.lemmas.Bool.{and_parts, and_from, false≢true, eqb-true}
use Rattle.model.specs.lists.Tables.{TypeEntry}
use Rattle.model.specs.rules.Meaning.{look}
use Rattle.model.specs.rules.Outcome.{then_option}
use Rattle.model.proofs.Elements.{In, or_split, some_is, none_some}
use Rattle.laws_specs.specs.Words.{Denoted, a_truth, an_integer, a_word, variant_of, struct_of, is_plain, DenotedList, no_denoted, denoted_and, denoted_list, same_sort, denoted_eq, is_formed, are_formed, Operator, equals, field, applied_to}
use Rattle.laws_specs.specs.Specs.{SpecExpr, operation, unknown, variant_said, struct_said, let_in, switch_on, match_on, SpecExprs, no_spec_expr, spec_expr_and, SpecCases, no_case, case_and, SpecArms, no_spec_arm, spec_arm_and, struct_arm, arm_else, Sort, truths, integers, words, is_of_sort, are_of_sorts, AreUnknownsSorted, Specs, Unknowns, says, says_each, says_case, says_arm}
use Rattle.model_questions.specs.Formulas.{Place, Word, word_by, either_word, number_of, Integer, written_integer, integer_of, Operands, no_operand, fact_and, integer_and, word_and, Model, number_in, integer_in, truth_in, is_so, operands_in, both_of}
use Rattle.model_questions.specs.Forms.{Form, a_fact, an_integer_by, a_word_by, variant_by, struct_by, Forms, no_form, form_and, form_list, form_of, Case, Cases, nothing_said, one_case, anything, without_rest, or_nothing, then_cases, truth_of, is_true, surely, possible_truth, may_be_true, perhaps}
use Rattle.model_questions.specs.Evaluated.{Known, Result, no_result, truth_result, integer_result, word_result, unknown_result, result, came_to, widths_of, is_size, each_size, by_size, followed, literals, literal_case, folded, operands, is_word_result, is_surely_formed, are_surely_formed, are_operands_of, answer_of_sort, answered_of, by_operands, fitted, by_fact, takes_others, has_variants, opened, matched, opened_each, evaluated, evaluated_each, evaluated_case, evaluated_arm}
use Rattle.model_questions.proofs.FactsSo.{one_so, both_from, both_parts, one_left, one_right}
use Rattle.model_questions.proofs.Described.{Describes, nothing_described, anything_described, one_described, then_described, choice_described}
use Rattle.model_questions.proofs.Formed.{applied_formed}
use Rattle.model_questions.proofs.Merging.{merged_described}
use Rattle.model_questions.proofs.Opening.{opened_described, IsApart, opened_apart, opened_each_described}
use Rattle.model_questions.proofs.Results.{ComesTo, result_comes, fact_from_so, integer_from_is, literals_are}
use Rattle.model_questions.proofs.Standing.{model_of, IsCoherent, AreKnown, stands, stand_each, written_stands, Fits, AllFit, written_fits, number_formed, AreDescribed, forms_described, more_described}

-- by a truth; of anything else nothing is said
abbrev on_truth : (Bool → Option Denoted) → Denoted → Option Denoted
on_truth q (a_truth b) = q b
on_truth q _ = None

chosen : (a b : Bool) (q : Bool → Option Denoted) → then_option (cond a (Some (a_truth b)) None) (on_truth q) ≡ cond a (cond b (q true) (q false)) None
chosen a b q = grind (arith, common_steps)

abbrev either_said : Option Denoted → Option Denoted → Bool → Option Denoted
either_said x y true = x
either_said x y false = y

module _ (types : List TypeEntry) (specs : Specs) (vs : Place → Denoted) (u : Unknowns) where
  abbrev m : Model
  m = model_of vs u

  abbrev pub Describe : Cases Form → Option Denoted → Type 0
  Describe cs o = Describes m Form Denoted (stands vs u) (Fits types specs vs) cs o

  abbrev DescribeEach : Cases Forms → Option DenotedList → Type 0
  DescribeEach cs o = Describes m Forms DenotedList (stand_each vs u) (AllFit types specs vs) cs o

  nothing_is : Describe nothing_said None
  nothing_is = nothing_described m Form Denoted (stands vs u) (Fits types specs vs)

  any_is : (o : Option Denoted) → Describe anything o
  any_is o = anything_described m Form Denoted (stands vs u) (Fits types specs vs) o

  written_is : (x : Denoted) → Describe (one_case (form_of x)) (Some x)
  written_is x = grind (arith, written_stands, written_fits, one_described, stands)

  -- 1. operators
  operands_stand : (fs : Forms) (of : Operands) → operands fs ≡ Some of → operands_in m of ≡ stand_each vs u fs
  operands_stand (form_and (a_fact f) rest) of e = grind (arith, common_steps, operands_stand rest, stands)
  operands_stand (form_and (an_integer_by z) rest) of e = grind (arith, common_steps, operands_stand rest, stands)
  operands_stand (form_and (a_word_by w t) rest) of e = grind (arith, common_steps, operands_stand rest, stands)
  operands_stand fs of e = grind (arith, common_steps, some_is, none_some)

  came_described : (o : Operator) (of : Operands) (r : Result) → ComesTo r (applied_to o (operands_in m of)) → Describe (came_to o of r) (applied_to o (operands_in m of))
  came_described o of r c = grind (arith, common_steps, nothing_is, fact_from_so, integer_from_is, any_is, one_described, stands)

  -- a width that isn't known is each of those that are listed
  sized_described : (ws : List ℕ) (o : Operator) (z : Integer) (rest : Operands) → Describe (each_size ws o z rest) (applied_to o (operands_in m (integer_and z rest)))
  sized_described [] o z rest = any_is (applied_to o (operands_in m (integer_and z rest)))
  sized_described (w ∷ ws) o z rest =
      choice_described m Form Denoted (stands vs u) (Fits types specs vs) (came_to o (integer_and (written_integer (pos w)) rest) (result o (integer_and (written_integer (pos w)) rest))) (each_size ws o z rest)
      (λ b. applied_to o (operands_in m (integer_and z rest))) (is_size z w)
      (λ e. subst (λ y. Describe (came_to o (integer_and (written_integer (pos w)) rest) (result o (integer_and (written_integer (pos w)) rest))) (applied_to o (denoted_and (an_integer y) (operands_in m rest))))
      (sym ((Decides-int_eq (integer_of m z) (pos w)).0 e))
      (came_described o (integer_and (written_integer (pos w)) rest) (result o (integer_and (written_integer (pos w)) rest)) (result_comes m o (integer_and (written_integer (pos w)) rest))))
      (λ e. sized_described ws o z rest)

  by_size_described : (o : Operator) (of : Operands) → Describe (by_size (widths_of specs) o of) (applied_to o (operands_in m of))
  by_size_described o of = grind (arith, common_steps, sized_described, any_is)

  followed_described : (o : Operator) (of : Operands) (r : Result) → result o of ≡ r → Describe (followed (widths_of specs) o of r) (applied_to o (operands_in m of))
  followed_described o of unknown_result e = by_size_described o of
  followed_described o of no_result e = came_described o of no_result (subst (λ r. ComesTo r (applied_to o (operands_in m of))) e (result_comes m o of))
  followed_described o of truth_result e = came_described o of truth_result (subst (λ r. ComesTo r (applied_to o (operands_in m of))) e (result_comes m o of))
  followed_described o of integer_result e = came_described o of integer_result (subst (λ r. ComesTo r (applied_to o (operands_in m of))) e (result_comes m o of))
  followed_described o of (word_result w) e = came_described o of (word_result w) (subst (λ r. ComesTo r (applied_to o (operands_in m of))) e (result_comes m o of))

  literal_described : (o : Option Denoted) → Describe (literal_case o) o
  literal_described o = grind (arith, common_steps, nothing_is, written_is)

  folded_described : (o : Operator) (of : Operands) (l : Option DenotedList) → literals of ≡ l → Describe (folded (widths_of specs) o of l) (applied_to o (operands_in m of))
  folded_described o of None e = followed_described o of (result o of) refl
  folded_described o of (Some xs) e = subst (λ ys. Describe (literal_case (applied_to o xs)) (applied_to o ys)) (sym (literals_are m of xs e)) (literal_described (applied_to o xs))

  operands_described : (o : Operator) (fs : Forms) (l : Option Operands) → operands fs ≡ l → Describe (by_operands (widths_of specs) o l) (applied_to o (stand_each vs u fs))
  operands_described o fs None e = any_is (applied_to o (stand_each vs u fs))
  operands_described o fs (Some of) e = subst (λ ys. Describe (folded (widths_of specs) o of (literals of)) (applied_to o ys)) (operands_stand fs of e) (folded_described o of (literals of) refl)

  got_described : (fs : List Form) (xs : List Denoted) → AreDescribed types specs vs u fs xs → (i : ℕ) → Describe (or_nothing (slice_get fs i)) (slice_get xs i)
  got_described (f ∷ fs) (x ∷ xs) d (suc i) = got_described fs xs d.2 i
  got_described fs xs d i = grind (arith, common_steps, nothing_is, one_described, stands)

  fitted_described : (o : Operator) (fs : Forms) → AllFit types specs vs fs → Describe (fitted (widths_of specs) o fs) (applied_to o (stand_each vs u fs))
  fitted_described (field i) (form_and (struct_by ty fields) no_form) fits = got_described (form_list fields) (denoted_list (stand_each vs u fields)) (forms_described types specs vs u fields fits.0) i
  fitted_described o fs fits = operands_described o fs (operands fs) refl

  -- 2. unknown functions
  truth_is : (x : Denoted) → is_of_sort truths x ≡ true → a_truth (truth_in (Some x)) ≡ x
  truth_is x e = grind (arith, common_steps)

  integer_is : (x : Denoted) → is_of_sort integers x ≡ true → an_integer (integer_in (Some x)) ≡ x
  integer_is x e = grind (arith, common_steps)

  word_is : (v : ℕ) (x : Denoted) → is_of_sort (words v) x ≡ true → a_word v (number_in (Some x)) ≡ x
  word_is v x e = grind (arith, common_steps, eqb-true)

  module _ (formed : (at : Place) → is_formed (vs at) ≡ true) (answers : AreUnknownsSorted (record specs { unknowns = u })) where
    word_came : (w : ℕ) (r : Result) (o : Option Denoted) → is_word_result w r ≡ true → ComesTo r o → o ≡ Some (a_word w (number_in o))
    word_came w (word_result v) o h c = subst (λ n. o ≡ Some (a_word n (number_in o))) (eqb-true v w h) c
    word_came w no_result o h c = absurd (false≢true h)
    word_came w truth_result o h c = absurd (false≢true h)
    word_came w integer_result o h c = absurd (false≢true h)
    word_came w unknown_result o h c = absurd (false≢true h)

    either_formed : (w x y : ℕ) (b : Bool) → is_formed (a_word w x) ≡ true → is_formed (a_word w y) ≡ true → is_formed (a_word w (if b then x else y)) ≡ true
    either_formed w x y true h k = h
    either_formed w x y false h k = k

    mutual
      word_formed : (w : ℕ) (t : Word) → is_surely_formed w t ≡ true → is_formed (a_word w (number_of m t)) ≡ true
      word_formed w (word_by o of) e =
          let parts = and_parts (is_word_result w (result o of)) (are_surely_formed of) e in
          applied_formed o (operands_in m of) (a_word w (number_in (applied_to o (operands_in m of)))) (words_formed of parts.1) (word_came w (result o of) (applied_to o (operands_in m of)) parts.0 (result_comes m o of))
      word_formed w (either_word f a b) e =
          let parts = and_parts (is_surely_formed w a) (is_surely_formed w b) e in
          either_formed w (number_of m a) (number_of m b) (is_so m f) (word_formed w a parts.0) (word_formed w b parts.1)
      word_formed w t e = grind (arith, common_steps, eqb-true, lt-ltb, number_formed)

      words_formed : (of : Operands) → are_surely_formed of ≡ true → are_formed (operands_in m of) ≡ true
      words_formed no_operand e = refl
      words_formed (fact_and f rest) e = words_formed rest e
      words_formed (integer_and z rest) e = words_formed rest e
      words_formed (word_and w t rest) e =
          let parts = and_parts (is_surely_formed w t) (are_surely_formed rest) e in
          and_from (is_formed (a_word w (number_of m t))) (are_formed (operands_in m rest)) (word_formed w t parts.0) (words_formed rest parts.1)

    operands_sorted : (sorts : List Sort) (of : Operands) → are_operands_of sorts of ≡ true → (are_of_sorts sorts (operands_in m of) ≡ true) × (are_formed (operands_in m of) ≡ true)
    operands_sorted (s ∷ sorts) (fact_and f rest) e = grind (arith, common_steps, operands_sorted sorts rest, and_parts, and_from)
    operands_sorted (s ∷ sorts) (integer_and z rest) e = grind (arith, common_steps, operands_sorted sorts rest, and_parts, and_from)
    operands_sorted (s ∷ sorts) (word_and w t rest) e = grind (arith, common_steps, operands_sorted sorts rest, and_parts, and_from, word_formed)
    operands_sorted sorts of e = grind (arith, common_steps)

    of_sort_described : (f : ℕ) (of : Operands) (s : Sort) → is_of_sort s (u f (operands_in m of)) ≡ true → Describe (answer_of_sort f of s) (Some (u f (operands_in m of)))
    of_sort_described f of s e = grind (arith, common_steps, truth_is, integer_is, word_is, any_is, one_described, stands)

    answered_described : (f : ℕ) (gs : Forms) (l : Option Operands) → operands gs ≡ l → Describe (answered_of f (look (λ n. n == f) specs.unknown_sorts) l) (Some (u f (stand_each vs u gs)))
    answered_described f gs None e = any_is (Some (u f (stand_each vs u gs)))
    answered_described f gs (Some of) e = grind (arith, common_steps, operands_stand gs of e, operands_stand, any_is, operands_sorted, of_sort_described)

  -- 3. a choice
  by_fact_described : (x y : Cases Form) (a b : Option Denoted) → Describe x a → Describe y b → (f : Form) → Describe (by_fact x y f) (on_truth (either_said a b) (stands vs u f))
  by_fact_described x y a b dx dy (a_fact f) = choice_described m Form Denoted (stands vs u) (Fits types specs vs) x y (either_said a b) f (λ e. dx) (λ e. dy)
  by_fact_described x y a b dx dy f = any_is (on_truth (either_said a b) (stands vs u f))

  bind : (cs : Cases Form) (o : Option Denoted) (k : Form → Cases Form) (h : Denoted → Option Denoted) → Describe cs o → ((f : Form) → Fits types specs vs f → Describe (k f) (h (stands vs u f)))
      → Describe (then_cases cs k) (then_option o h)
  bind cs o k h d dk = then_described m Form Denoted Form Denoted (stands vs u) (Fits types specs vs) (stands vs u) (Fits types specs vs) h k dk cs o d

  bind_each : (cs : Cases Forms) (o : Option DenotedList) (k : Forms → Cases Form) (h : DenotedList → Option Denoted) → DescribeEach cs o
      → ((fs : Forms) → AllFit types specs vs fs → Describe (k fs) (h (stand_each vs u fs))) → Describe (then_cases cs k) (then_option o h)
  bind_each cs o k h d dk = then_described m Forms DenotedList Form Denoted (stand_each vs u) (AllFit types specs vs) (stands vs u) (Fits types specs vs) h k dk cs o d

  -- 4. an expression
  abbrev pub stands_if : Option Form → Option Denoted
  stands_if None = None
  stands_if (Some f) = Some (stands vs u f)

  abbrev pub FitsIf : Option Form → Type 0
  FitsIf None = Unit {0}
  FitsIf (Some f) = Fits types specs vs f

  module _ (coherent : IsCoherent vs) (formed : (at : Place) → is_formed (vs at) ≡ true) (answers : AreUnknownsSorted (record specs { unknowns = u })) (k : Known) (told : AreKnown m k) (args : Forms) (result : Option Form) (fits : AllFit types specs vs args) (result_fits : FitsIf result) where
    abbrev of_expr : SpecExpr → List Form → Cases Form
    of_expr e bound = evaluated types specs k args result e bound

    abbrev said : SpecExpr → List Denoted → Option Denoted
    said e bound = says u (stand_each vs u args) (stands_if result) e bound

    result_described : (o : Option Form) → FitsIf o → Describe (or_nothing o) (stands_if o)
    result_described o f = grind (arith, common_steps, nothing_is, stands, one_described)

    struct_described : (t ty : ℕ) (cs : Cases Form) (o : Option Denoted) → Describe cs o → Describe (cond (t == ty) cs nothing_said) (cond (t == ty) o None)
    struct_described t ty cs o d = grind (arith, common_steps, nothing_is)

    variant_described : (t ty i variant : ℕ) (cs ds : Cases Form) (o q : Option Denoted) → Describe cs o → Describe ds q
        → Describe (cond (t == ty) (cond (i == variant) cs ds) nothing_said) (cond (t == ty) (cond (i == variant) o q) None)
    variant_described t ty i variant cs ds o q d e = grind (arith, common_steps)

    case_described : (y x : Form) → Fits types specs vs y → Fits types specs vs x → (cs ds : Cases Form) (a b : Option Denoted) → Describe cs a → Describe ds b
        → Describe (then_cases (then_cases (opened_each types specs k (form_and y (form_and x no_form))) (fitted (widths_of specs) equals)) (by_fact cs ds))
        (cond (same_sort (stands vs u y) (stands vs u x)) (cond (denoted_eq (stands vs u y) (stands vs u x)) a b) None)
    case_described y x fy fx cs ds a b da db =
        subst (Describe (then_cases (then_cases (opened_each types specs k (form_and y (form_and x no_form))) (fitted (widths_of specs) equals)) (by_fact cs ds)))
        (chosen (same_sort (stands vs u y) (stands vs u x)) (denoted_eq (stands vs u y) (stands vs u x)) (either_said a b))
        (bind (then_cases (opened_each types specs k (form_and y (form_and x no_form))) (fitted (widths_of specs) equals)) (applied_to equals (denoted_and (stands vs u y) (denoted_and (stands vs u x) no_denoted)))
        (by_fact cs ds) (on_truth (either_said a b))
        (bind_each (opened_each types specs k (form_and y (form_and x no_form))) (Some (denoted_and (stands vs u y) (denoted_and (stands vs u x) no_denoted))) (fitted (widths_of specs) equals) (applied_to equals)
        (opened_each_described types specs vs u coherent k told (form_and y (form_and x no_form)) (fy, (fx, tt))) (fitted_described equals))
        (λ f ff. by_fact_described cs ds a b da db f))

    -- an operator on forms that are opened
    pub opened_fitted_described : (o : Operator) (fs : Forms) → AllFit types specs vs fs → Describe (then_cases (opened_each types specs k fs) (fitted (widths_of specs) o)) (applied_to o (stand_each vs u fs))
    opened_fitted_described o fs ffs = bind_each (opened_each types specs k fs) (Some (stand_each vs u fs)) (fitted (widths_of specs) o) (applied_to o) (opened_each_described types specs vs u coherent k told fs ffs) (fitted_described o)

    -- what is said, opened
    abbrev said_here : SpecExpr → Option Denoted
    said_here e = says u (stand_each vs u args) (stands_if result) e []

    opened_said : (o : Option Denoted) (cs : Cases Form) → Describe cs o → Describe (then_cases cs (opened types specs k)) o
    opened_said o cs d = subst (Describe (then_cases cs (opened types specs k))) (same o) (bind cs o (opened types specs k) (λ x. Some x) d (λ f ff. opened_described types specs vs u coherent k told f ff))
      where
        same : (q : Option Denoted) → then_option q (λ x. Some x) ≡ q
        same q = grind (arith, common_steps)

    -- arms that look at a form
    plain_arms : (arms : SpecArms) (x : Denoted) (bx : List Denoted) → takes_others arms ≡ false → is_plain x ≡ true → says_arm u (stand_each vs u args) (stands_if result) arms x bx ≡ None
    plain_arms no_spec_arm x bx e q = refl
    plain_arms (spec_arm_and ty variant body rest) x bx e q = grind (arith, common_steps, plain_arms rest x bx)
    plain_arms (struct_arm ty body) x bx e q = grind (arith, common_steps)
    plain_arms (arm_else body) x bx e q = absurd (false≢true (sym e))

    matched_described : (arms : SpecArms) (bf : List Form) (bx : List Denoted)
        → ((g : Form) → Fits types specs vs g → Describe (evaluated_arm types specs k args result arms g bf) (says_arm u (stand_each vs u args) (stands_if result) arms (stands vs u g) bx))
        → (f : Form) → Fits types specs vs f → Describe (then_cases (matched types specs k arms f) (λ y. evaluated_arm types specs k args result arms y bf)) (says_arm u (stand_each vs u args) (stands_if result) arms (stands vs u f) bx)
    matched_described arms bf bx each f ff = by (has_variants types f && not (takes_others arms)) refl
      where
        go : Form → Cases Form
        go y = evaluated_arm types specs k args result arms y bf

        say : Denoted → Option Denoted
        say x = says_arm u (stand_each vs u args) (stands_if result) arms x bx

        apart : IsApart types specs vs u coherent k told (opened types specs k f) (stands vs u f) → takes_others arms ≡ false → Describe (then_cases (without_rest (opened types specs k f)) go) (say (stands vs u f))
        apart (o, d, inl e) n = subst (λ q. Describe (then_cases (without_rest (opened types specs k f)) go) (then_option q say)) e (bind (without_rest (opened types specs k f)) o go say d each)
        apart (o, d, inr e) n =
            subst (Describe (then_cases (without_rest (opened types specs k f)) go)) (sym (plain_arms arms (stands vs u f) bx n e.1))
            (subst (λ q. Describe (then_cases (without_rest (opened types specs k f)) go) (then_option q say)) e.0 (bind (without_rest (opened types specs k f)) o go say d each))

        by : (b : Bool) → (has_variants types f && not (takes_others arms)) ≡ b → Describe (then_cases (if b then without_rest (opened types specs k f) else opened types specs k f) go) (say (stands vs u f))
        by false e = bind (opened types specs k f) (Some (stands vs u f)) go say (opened_described types specs vs u coherent k told f ff) each
        by true e = let q = and_parts (has_variants types f) (not (takes_others arms)) e in apart (opened_apart types specs vs u coherent k told f ff q.0) (not_true (takes_others arms) q.1)
          where
            not_true : (b : Bool) → not b ≡ true → b ≡ false
            not_true b r = grind (arith, common_steps)

    mutual
      pub evaluated_described : (e : SpecExpr) (bf : List Form) (bx : List Denoted) → AreDescribed types specs vs u bf bx → Describe (of_expr e bf) (said e bx)
      evaluated_described (operation o of) bf bx d =
          bind_each (evaluated_each types specs k args result of bf) (says_each u (stand_each vs u args) (stands_if result) of bx) (λ fs. then_cases (opened_each types specs k fs) (fitted (widths_of specs) o)) (applied_to o)
          (each_described of bf bx d)
          (λ fs ffs. bind_each (opened_each types specs k fs) (Some (stand_each vs u fs)) (fitted (widths_of specs) o) (applied_to o) (opened_each_described types specs vs u coherent k told fs ffs) (fitted_described o))
      evaluated_described (unknown f of) bf bx d =
          bind_each (evaluated_each types specs k args result of bf) (says_each u (stand_each vs u args) (stands_if result) of bx)
          (λ fs. then_cases (opened_each types specs k fs) (λ gs. answered_of f (look (λ n. n == f) specs.unknown_sorts) (operands gs))) (λ xs. Some (u f xs)) (each_described of bf bx d)
          (λ fs ffs. bind_each (opened_each types specs k fs) (Some (stand_each vs u fs)) (λ gs. answered_of f (look (λ n. n == f) specs.unknown_sorts) (operands gs)) (λ xs. Some (u f xs))
          (opened_each_described types specs vs u coherent k told fs ffs) (λ gs fgs. answered_described formed answers f gs (operands gs) refl))
      evaluated_described (let_in e body) bf bx d = grind (arith, common_steps, evaluated_described e bf bx d, evaluated_described body, bind, stands)
      evaluated_described (switch_on e cases) bf bx d =
          bind (of_expr e bf) (said e bx) (λ x. evaluated_case types specs k args result cases x bf) (λ x. says_case u (stand_each vs u args) (stands_if result) cases x bx) (evaluated_described e bf bx d)
          (λ f ff. cases_described cases f ff bf bx d)
      evaluated_described (variant_said ty variant of) bf bx d =
          bind_each (evaluated_each types specs k args result of bf) (says_each u (stand_each vs u args) (stands_if result) of bx) (λ fs. one_case (variant_by ty variant fs)) (λ xs. Some (variant_of ty variant xs))
          (each_described of bf bx d) (λ fs ffs. one_described m Form Denoted (stands vs u) (Fits types specs vs) (variant_by ty variant fs) (variant_of ty variant (stand_each vs u fs)) refl ffs)
      evaluated_described (struct_said ty of) bf bx d =
          bind_each (evaluated_each types specs k args result of bf) (says_each u (stand_each vs u args) (stands_if result) of bx) (λ fs. one_case (struct_by ty fs)) (λ xs. Some (struct_of ty xs))
          (each_described of bf bx d) (λ fs ffs. one_described m Form Denoted (stands vs u) (Fits types specs vs) (struct_by ty fs) (struct_of ty (stand_each vs u fs)) refl ffs)
      evaluated_described (match_on e arms) bf bx d =
          bind (of_expr e bf) (said e bx) (λ x. then_cases (matched types specs k arms x) (λ y. evaluated_arm types specs k args result arms y bf)) (λ x. says_arm u (stand_each vs u args) (stands_if result) arms x bx)
          (evaluated_described e bf bx d) (λ f ff. matched_described arms bf bx (λ g fg. arms_described arms g fg bf bx d) f ff)
      evaluated_described e bf bx d = grind (arith, common_steps, got_described, stand_each, forms_described, result_described, written_is)

      each_described : (es : SpecExprs) (bf : List Form) (bx : List Denoted) → AreDescribed types specs vs u bf bx
          → DescribeEach (evaluated_each types specs k args result es bf) (says_each u (stand_each vs u args) (stands_if result) es bx)
      each_described no_spec_expr bf bx d = one_described m Forms DenotedList (stand_each vs u) (AllFit types specs vs) no_form no_denoted refl tt
      each_described (spec_expr_and e rest) bf bx d =
          then_described m Form Denoted Forms DenotedList (stands vs u) (Fits types specs vs) (stand_each vs u) (AllFit types specs vs)
          (λ x. then_option (says_each u (stand_each vs u args) (stands_if result) rest bx) (λ xs. Some (denoted_and x xs)))
          (λ x. then_cases (evaluated_each types specs k args result rest bf) (λ xs. one_case (form_and x xs)))
          (λ f ff. grind (arith, common_steps, each_described rest bf bx d, then_described, stand_each, stands, one_described))
          (of_expr e bf) (said e bx) (evaluated_described e bf bx d)

      cases_described : (cases : SpecCases) (x : Form) → Fits types specs vs x → (bf : List Form) (bx : List Denoted) → AreDescribed types specs vs u bf bx
          → Describe (evaluated_case types specs k args result cases x bf) (says_case u (stand_each vs u args) (stands_if result) cases (stands vs u x) bx)
      cases_described no_case x fx bf bx d = nothing_is
      cases_described (case_and key e rest) x fx bf bx d =
          bind (of_expr key bf) (said key bx) _
          (λ y. cond (same_sort y (stands vs u x)) (cond (denoted_eq y (stands vs u x)) (said e bx) (says_case u (stand_each vs u args) (stands_if result) rest (stands vs u x) bx)) None)
          (evaluated_described key bf bx d)
          (λ y fy. merged_described types specs vs u _ _
          (case_described y x fy fx (of_expr e bf) (evaluated_case types specs k args result rest x bf) (said e bx) (says_case u (stand_each vs u args) (stands_if result) rest (stands vs u x) bx)
          (evaluated_described e bf bx d) (cases_described rest x fx bf bx d)))

      arms_described : (arms : SpecArms) (x : Form) → Fits types specs vs x → (bf : List Form) (bx : List Denoted) → AreDescribed types specs vs u bf bx
          → Describe (evaluated_arm types specs k args result arms x bf) (says_arm u (stand_each vs u args) (stands_if result) arms (stands vs u x) bx)
      arms_described (arm_else body) x fx bf bx d = evaluated_described body (x ∷ bf) (stands vs u x ∷ bx) (refl, fx, d)
      arms_described (struct_arm ty body) (struct_by t fields) fx bf bx d =
          struct_described t ty (of_expr body (form_list fields ++ bf)) (said body (denoted_list (stand_each vs u fields) ++ bx))
          (evaluated_described body (form_list fields ++ bf) (denoted_list (stand_each vs u fields) ++ bx)
          (more_described types specs vs u (form_list fields) bf (denoted_list (stand_each vs u fields)) bx (forms_described types specs vs u fields fx) d))
      arms_described (spec_arm_and ty variant body rest) (variant_by t i fields) fx bf bx d =
          variant_described t ty i variant (of_expr body (form_list fields ++ bf)) (evaluated_arm types specs k args result rest (variant_by t i fields) bf)
          (said body (denoted_list (stand_each vs u fields) ++ bx)) (says_arm u (stand_each vs u args) (stands_if result) rest (variant_of t i (stand_each vs u fields)) bx)
          (evaluated_described body (form_list fields ++ bf) (denoted_list (stand_each vs u fields) ++ bx)
          (more_described types specs vs u (form_list fields) bf (denoted_list (stand_each vs u fields)) bx (forms_described types specs vs u fields fx) d))
          (arms_described rest (variant_by t i fields) fx bf bx d)
      arms_described arms x fx bf bx d = grind (arith, common_steps, nothing_is, any_is)

    pub come_described : (e : SpecExpr) → Describe (then_cases (evaluated types specs k args result e []) (opened types specs k)) (said_here e)
    come_described e = opened_said (said_here e) (evaluated types specs k args result e []) (evaluated_described e [] [] tt)

  -- 5. that something is true
  true_from : (cs : List (Case Form)) → is_so m (is_true cs) ≡ true → (c : Case Form) × In cs c × (is_so m c.guard ≡ true) × (is_so m (truth_of c.gives) ≡ true)
  true_from (c ∷ cs) e = grind (arith, common_steps, true_from cs, or_split, one_so, both_parts)
  true_from [] e = absurd (false≢true e)

  -- what is surely true is said to be
  pub surely_said : (cs : Cases Form) (o : Option Denoted) → Describe cs o → is_so m (surely cs) ≡ true → o ≡ Some (a_truth true)
  surely_said cs o d e = grind (arith, true_from)

  possible_in : (cs : List (Case Form)) (c : Case Form) → In cs c → is_so m c.guard ≡ true → is_so m (possible_truth c.gives) ≡ true → is_so m (may_be_true cs) ≡ true
  possible_in (d ∷ cs) c (inl q) g t = grind (arith, common_steps, one_left, both_from)
  possible_in (d ∷ cs) c (inr i) g t = one_right m (both_of d.guard (possible_truth d.gives)) (may_be_true cs) (possible_in cs c i g t)
  possible_in [] c i g t = absurd i

  -- what is said to be true perhaps is
  pub perhaps_so : (cs : Cases Form) (o : Option Denoted) → Describe cs o → o ≡ Some (a_truth true) → is_so m (perhaps cs) ≡ true
  perhaps_so cs o d e = grind (arith, common_steps, possible_in cs.cases, stands vs u, one_left, possible_in, some_is, stands, one_right)
