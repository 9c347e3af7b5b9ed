-- Where a key and a value are written, one side alone of the choice counts.
use Rattle.std.proofs.Common.{◌≡◌, ℕ, Bool, true, false, List, [], ◌∷◌, Option, Some, None, refl, sym, ap, ◌∙◌}
use Rattle.std.proofs.Math.Bool.{beq}
use Rattle.std.specs.Ordering.{int_eq}
use Rattle.std.proofs.lemmas.Option.{none-some}
use Rattle.model.proofs.Elements.{some_is}
use Rattle.laws_specs.specs.Specs.{Specs}
use Rattle.laws_specs.specs.Words.{equals}
use Rattle.model.specs.lists.Tables.{TypeEntry}
use Rattle.model_questions.specs.Formulas as M
use Rattle.model_questions.specs.Forms as MF
use Rattle.model_questions.specs.Evaluated as E
use Rattle.spec_cases.specs.declared.cases.Case.{Case}
use Rattle.spec_cases.specs.declared.forms.Form.{Form}
use Rattle.spec_cases.specs.declared.forms.Form.TheVariants as Fo
use Rattle.spec_cases.specs.declared.formulas.Fact.TheVariants as F
use Rattle.spec_cases.specs.declared.formulas.Integer.TheVariants as I
use Rattle.spec_cases.specs.CaseViews.{form_cases}
use Rattle.spec_cases.specs.Combining.{switch_case}
use Rattle.spec_cases.specs.Namings.{Naming, fact_of, form_of}
use Rattle.spec_cases.specs.Written.{is_same, only_key, unless_passed, unless_taken}

-- 1. under what is never so nothing is said
none_under : {X : Type 0} (cs : List (MF.Case X)) → MF.each_under (M.known false) cs ≡ []
none_under [] = refl
none_under (c ∷ cs) = none_under cs

never : {X : Type 0} (cs : MF.Cases X) → MF.under (M.known false) cs ≡ MF.nothing_said
never cs = ap (λ l. record { cases = l; rest = M.known false }) (none_under cs.cases)

chosen_once : (b : Bool) (x y : MF.Cases MF.Form) → E.by_fact (unless_passed (Some b) x) (unless_taken (Some b) y) (MF.a_fact (M.known b)) ≡ E.by_fact x y (MF.a_fact (M.known b))
chosen_once true x y = ap (MF.joined_cases (MF.under (M.known true) x)) (sym (never y))
chosen_once false x y = ap (λ c. MF.joined_cases c (MF.under (M.known true) y)) (sym (never x))

-- 2. whether a key is the value
module _ (types : List TypeEntry) (specs : Specs) (k : E.Known) (ws : List ℕ) (v : Naming) where
  abbrev tests : MF.Form → MF.Form → MF.Cases MF.Form
  tests y x = MF.then_cases (E.opened_each types specs k (MF.form_and y (MF.form_and x MF.no_form))) (E.fitted ws equals)

  is_tested : (y x : Form) (b : Bool) → is_same y x ≡ Some b → tests (form_of v y) (form_of v x) ≡ MF.one_case (MF.a_fact (M.known b))
  is_tested (Fo.Fact (F.Known a)) (Fo.Fact (F.Known c)) b h = ap (λ t. MF.one_case (MF.a_fact (M.known t))) (some_is (beq a c) b h)
  is_tested (Fo.Integer (I.Written a)) (Fo.Integer (I.Written c)) b h = ap (λ t. MF.one_case (MF.a_fact (M.known t))) (some_is (int_eq a c) b h)
  is_tested _ _ b h = absurd (none-some b h)

  module _ (x : Form) (f l : MF.Cases MF.Form) where
    abbrev come : Option Bool → MF.Form → MF.Cases MF.Form
    come d = switch_case types specs k ws (form_of v x) (unless_passed d f) (unless_taken d l)

    by_key : (y : Form) (b : Bool) → is_same y x ≡ Some b → come (Some b) (form_of v y) ≡ switch_case types specs k ws (form_of v x) f l (form_of v y)
    by_key y b h =
        let t = is_tested y x b h in
        ap (λ c. MF.merged (MF.then_cases c (E.by_fact (unless_passed (Some b) f) (unless_taken (Some b) l)))) t
        ∙ ap (λ c. MF.merged (MF.then_cases (MF.one_case (MF.a_fact (M.known b))) (λ y. c))) (chosen_once b f l)
        ∙ sym (ap (λ c. MF.merged (MF.then_cases c (E.by_fact f l))) t)

    pub unless_known : (d : Option Bool) (ks : List (Case Form)) (r : M.Fact) → d ≡ only_key ks x
        → MF.then_cases (record { cases = form_cases v ks; rest = r }) (come d) ≡ MF.then_cases (record { cases = form_cases v ks; rest = r }) (switch_case types specs k ws (form_of v x) f l)
    unless_known None ks r h = refl
    unless_known (Some b) [] r h = refl
    unless_known (Some b) (c ∷ []) r h = ap (λ s. MF.then_cases (record { cases = record { guard = fact_of v c.guard; gives = form_of v c.gives } ∷ []; rest = r }) (λ y. s)) (by_key c.gives b (sym h))
    unless_known (Some b) (c ∷ (e ∷ ks)) r h = absurd (none-some b (sym h))
