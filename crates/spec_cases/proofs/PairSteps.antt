-- Two cases are merged by their values, where these are of one sort.
use Rattle.std.proofs.Common.{◌≡◌, ℕ, Bool, true, false, List, [], ◌∷◌, ◌++◌, map, Option, Some, None, refl, sym, ap, ◌∙◌, if◌then◌else◌}
use Rattle.std.proofs.lemmas.List.{append_assoc, map-append}
use Rattle.std.specs.Option.{option_map}
use Rattle.std.specs.Bool.{◌==◌}
use Rattle.model_questions.specs.Formulas as M
use Rattle.model_questions.specs.Forms as MF
use Rattle.spec_cases.specs.declared.forms.Form.{Form}
use Rattle.spec_cases.specs.declared.forms.Form.TheVariants as Fo
use Rattle.spec_cases.specs.declared.formulas.Word.{Word}
use Rattle.spec_cases.specs.declared.merging.Pair.{Pair}
use Rattle.spec_cases.specs.declared.merging.Pair.TheVariants as Pairs
use Rattle.spec_cases.specs.Namings.{Naming, form_of, word_of}
use Rattle.spec_cases.specs.declared.cases.Case.{Case}
use Rattle.spec_cases.specs.CaseViews.{case_of, form_cases, guarded_case, guarded_each, with_value}
use Rattle.spec_cases.specs.Merging.{pair_of, choice_of}

module _ (v : Naming) (g h : M.Fact) where
  abbrev pub of_pair : Option Pair → Option (MF.Case MF.Form)
  of_pair None = None
  of_pair (Some p) = Some (record { guard = M.one_of g h; gives = choice_of v g p })

  words : (w : ℕ) (t u : Word) (b : Bool) → (if b then Some (record { guard = M.one_of g h; gives = MF.a_word_by w (M.either_word g (word_of v t) (word_of v u)) }) else None) ≡ of_pair (if b then Some (Pairs.Words w t u) else None)
  words w t u true = refl
  words w t u false = refl

  pub either_by_pair : (a b : Form) → MF.either_of g h (form_of v a) (form_of v b) ≡ of_pair (pair_of a b)
  either_by_pair (Fo.Fact f) (Fo.Fact k) = refl
  either_by_pair (Fo.Integer y) (Fo.Integer z) = refl
  either_by_pair (Fo.Word w t) (Fo.Word x u) = words w t u (w == x)
  either_by_pair _ _ = refl

module _ (v : Naming) where
  pub cases_pushed : (out : List (Case Form)) (c : Case Form) → form_cases v (out ++ c ∷ []) ≡ form_cases v out ++ (case_of v c ∷ [])
  cases_pushed out c = ap (map (with_value (form_of v))) (map-append (guarded_case v) out (c ∷ [])) ∙ map-append (with_value (form_of v)) (guarded_each v out) (guarded_case v c ∷ [])

  pub cases_added : (out more : List (Case Form)) → form_cases v (out ++ more) ≡ form_cases v out ++ form_cases v more
  cases_added out more = ap (map (with_value (form_of v))) (map-append (guarded_case v) out more) ∙ map-append (with_value (form_of v)) (guarded_each v out) (guarded_each v more)

  abbrev pub merged_to : Option (MF.Case MF.Form) → Case Form → Case Form → List (Case Form) → List (MF.Case MF.Form)
  merged_to o c d ds = MF.merged_or o (case_of v d) (form_cases v ds) (MF.merged_in (case_of v c) (form_cases v ds))

  -- by what the two come to
  pub merged_first : (c d : Case Form) (ds : List (Case Form)) (o : Option (Case Form))
      → option_map (case_of v) o ≡ MF.either_of (case_of v c).guard (case_of v d).guard (case_of v c).gives (case_of v d).gives
      → MF.merged_in (case_of v c) (form_cases v (d ∷ ds)) ≡ merged_to (option_map (case_of v) o) c d ds
  merged_first c d ds o e = ap (λ x. merged_to x c d ds) (sym e)

pub ruleset merge_steps = (cases_pushed, cases_added, merged_first, append_assoc)
