-- What expressions come to asks no more of specs than the sorts of types and of unknown functions.
use Rattle.std.proofs.Common.{◌≡◌, ℕ, zero, suc, Bool, not, ◌&&◌, List, [], ◌∷◌, ◌++◌, Option, Some, None, if◌then◌else◌, slice_get, refl, ap, ◌∙◌}
use Rattle.std.specs.Bool.{◌==◌}
use Rattle.std.specs.List.{flat_map}
use Rattle.model.specs.lists.Tables.{VariantEntry, TypeEntry, builtin_type, primitive_type, enum_type, struct_type}
use Rattle.model.specs.rules.Meaning.{look}
use Rattle.laws_specs.specs.Words.{Operator, equals}
use Rattle.laws_specs.specs.Specs as L
use Rattle.model_questions.specs.Formulas as M
use Rattle.model_questions.specs.Forms as MF
use Rattle.model_questions.specs.Evaluated as E

-- 1. what comes of cases, by what comes of each value
module _ {X Y : Type 0} where
  pub each_alike : (cs : List (MF.Case X)) (f g : X → MF.Cases Y) → ((x : X) → f x ≡ g x) → MF.from_each cs f ≡ MF.from_each cs g
  each_alike [] f g h = refl
  each_alike (c ∷ cs) f g h =
      ap (λ r. MF.joined_cases (MF.under c.guard r) (MF.from_each cs f)) (h c.gives) ∙ ap (λ r. MF.joined_cases (MF.under c.guard (g c.gives)) r) (each_alike cs f g h)

  pub then_alike : (cs ds : MF.Cases X) (f g : X → MF.Cases Y) → cs ≡ ds → ((x : X) → f x ≡ g x) → MF.then_cases cs f ≡ MF.then_cases ds g
  then_alike cs ds f g e h = ap (λ c. MF.then_cases c f) e ∙ ap (λ r. record { cases = r.cases; rest = M.one_of ds.rest r.rest }) (each_alike ds.cases f g h)

module _ (types : List TypeEntry) (a b : L.Specs) (models : a.models ≡ b.models) (unknowns : a.unknown_sorts ≡ b.unknown_sorts) (k : E.Known) where
  -- 2. what stands at a place
  sort_alike : (ty : ℕ) → L.sort_of a ty ≡ L.sort_of b ty
  sort_alike ty = ap (look (λ n. n == ty)) models

  pub widths_alike : E.widths_of a ≡ E.widths_of b
  widths_alike = ap (flat_map (λ n. E.widths_in_sort n.1)) models

  enum_alike : (x : Bool) (ty : ℕ) (at : M.Place) (vs : List VariantEntry) → E.at_enum a k x ty at vs ≡ E.at_enum b k x ty at vs
  enum_alike x ty at [] = ap (E.at_sort k at) (sort_alike ty)
  enum_alike x ty at (v ∷ vs) = ap (λ s. E.at_variants (x && not (L.is_closed s)) ty at (v ∷ vs) (E.found k.kinds at)) (sort_alike ty)

  type_alike : (ty : ℕ) (at : M.Place) (o : Option TypeEntry) → E.at_type a k ty at o ≡ E.at_type b k ty at o
  type_alike ty at None = refl
  type_alike ty at (Some (builtin_type zero)) = refl
  type_alike ty at (Some (builtin_type (suc n))) = ap (E.at_sort k at) (sort_alike ty)
  type_alike ty at (Some (primitive_type id name place)) = ap (E.at_sort k at) (sort_alike ty)
  type_alike ty at (Some (enum_type name id is_extern is_nodebug vs place)) = enum_alike is_extern ty at vs
  type_alike ty at (Some (struct_type name id is_extern is_nodebug fields place)) = refl

  pub opened_alike : (f : MF.Form) → E.opened types a k f ≡ E.opened types b k f
  opened_alike (MF.any_of ty at) = type_alike ty at (slice_get types ty)
  opened_alike (MF.some_at at) = refl
  opened_alike (MF.a_fact f) = refl
  opened_alike (MF.an_integer_by z) = refl
  opened_alike (MF.a_word_by w t) = refl
  opened_alike (MF.variant_by ty i fs) = refl
  opened_alike (MF.struct_by ty fs) = refl

  matched_alike : (arms : L.SpecArms) (f : MF.Form) → E.matched types a k arms f ≡ E.matched types b k arms f
  matched_alike arms f = ap (λ cs. if E.has_variants types f && not (E.takes_others arms) then MF.without_rest cs else cs) (opened_alike f)

  pub opened_each_alike : (fs : MF.Forms) → E.opened_each types a k fs ≡ E.opened_each types b k fs
  opened_each_alike MF.no_form = refl
  opened_each_alike (MF.form_and f rest) =
      then_alike (E.opened types a k f) (E.opened types b k f) (λ g. MF.then_cases (E.opened_each types a k rest) (λ gs. MF.one_case (MF.form_and g gs)))
      (λ g. MF.then_cases (E.opened_each types b k rest) (λ gs. MF.one_case (MF.form_and g gs))) (opened_alike f)
      (λ g. ap (λ l. MF.then_cases l (λ gs. MF.one_case (MF.form_and g gs))) (opened_each_alike rest))

  -- an operator on values, which are opened
  pub fitted_alike : (fs : MF.Forms) (o : Operator) → MF.then_cases (E.opened_each types a k fs) (E.fitted (E.widths_of a) o) ≡ MF.then_cases (E.opened_each types b k fs) (E.fitted (E.widths_of b) o)
  fitted_alike fs o =
      ap (λ l. MF.then_cases l (E.fitted (E.widths_of a) o)) (opened_each_alike fs) ∙ ap (λ ws. MF.then_cases (E.opened_each types b k fs) (E.fitted ws o)) widths_alike

  -- an unknown function on them
  asked_alike : (f : ℕ) (fs : MF.Forms)
      → MF.then_cases (E.opened_each types a k fs) (λ gs. E.answered_of f (look (λ n. n == f) a.unknown_sorts) (E.operands gs))
      ≡ MF.then_cases (E.opened_each types b k fs) (λ gs. E.answered_of f (look (λ n. n == f) b.unknown_sorts) (E.operands gs))
  asked_alike f fs =
      ap (λ l. MF.then_cases l (λ gs. E.answered_of f (look (λ n. n == f) a.unknown_sorts) (E.operands gs))) (opened_each_alike fs)
      ∙ ap (λ u. MF.then_cases (E.opened_each types b k fs) (λ gs. E.answered_of f (look (λ n. n == f) u) (E.operands gs))) unknowns

  -- 3. expressions
  module _ (args : MF.Forms) (result : Option MF.Form) where
    mutual
      pub evaluated_alike : (e : L.SpecExpr) (bound : List MF.Form) → E.evaluated types a k args result e bound ≡ E.evaluated types b k args result e bound
      evaluated_alike (L.its_argument i) bound = refl
      evaluated_alike L.its_result bound = refl
      evaluated_alike (L.variable i) bound = refl
      evaluated_alike (L.the_same x) bound = refl
      evaluated_alike (L.operation o of) bound =
          then_alike (E.evaluated_each types a k args result of bound) (E.evaluated_each types b k args result of bound)
          (λ fs. MF.then_cases (E.opened_each types a k fs) (E.fitted (E.widths_of a) o)) (λ fs. MF.then_cases (E.opened_each types b k fs) (E.fitted (E.widths_of b) o))
          (evaluated_each_alike of bound) (λ fs. fitted_alike fs o)
      evaluated_alike (L.unknown f of) bound =
          then_alike (E.evaluated_each types a k args result of bound) (E.evaluated_each types b k args result of bound)
          (λ fs. MF.then_cases (E.opened_each types a k fs) (λ gs. E.answered_of f (look (λ n. n == f) a.unknown_sorts) (E.operands gs)))
          (λ fs. MF.then_cases (E.opened_each types b k fs) (λ gs. E.answered_of f (look (λ n. n == f) b.unknown_sorts) (E.operands gs)))
          (evaluated_each_alike of bound) (asked_alike f)
      evaluated_alike (L.variant_said ty variant of) bound = ap (λ l. MF.then_cases l (λ fs. MF.one_case (MF.variant_by ty variant fs))) (evaluated_each_alike of bound)
      evaluated_alike (L.struct_said ty of) bound = ap (λ l. MF.then_cases l (λ fs. MF.one_case (MF.struct_by ty fs))) (evaluated_each_alike of bound)
      evaluated_alike (L.let_in e body) bound =
          then_alike (E.evaluated types a k args result e bound) (E.evaluated types b k args result e bound)
          (λ x. E.evaluated types a k args result body (x ∷ bound)) (λ x. E.evaluated types b k args result body (x ∷ bound))
          (evaluated_alike e bound) (λ x. evaluated_alike body (x ∷ bound))
      evaluated_alike (L.switch_on e cases) bound =
          then_alike (E.evaluated types a k args result e bound) (E.evaluated types b k args result e bound)
          (λ x. E.evaluated_case types a k args result cases x bound) (λ x. E.evaluated_case types b k args result cases x bound)
          (evaluated_alike e bound) (λ x. case_alike cases x bound)
      evaluated_alike (L.match_on e arms) bound =
          then_alike (E.evaluated types a k args result e bound) (E.evaluated types b k args result e bound)
          (λ x. MF.then_cases (E.matched types a k arms x) (λ y. E.evaluated_arm types a k args result arms y bound))
          (λ x. MF.then_cases (E.matched types b k arms x) (λ y. E.evaluated_arm types b k args result arms y bound))
          (evaluated_alike e bound)
          (λ x.
          then_alike (E.matched types a k arms x) (E.matched types b k arms x) (λ y. E.evaluated_arm types a k args result arms y bound)
          (λ y. E.evaluated_arm types b k args result arms y bound) (matched_alike arms x) (λ y. arm_alike arms y bound))

      evaluated_each_alike : (es : L.SpecExprs) (bound : List MF.Form) → E.evaluated_each types a k args result es bound ≡ E.evaluated_each types b k args result es bound
      evaluated_each_alike L.no_spec_expr bound = refl
      evaluated_each_alike (L.spec_expr_and e rest) bound =
          then_alike (E.evaluated types a k args result e bound) (E.evaluated types b k args result e bound)
          (λ x. MF.then_cases (E.evaluated_each types a k args result rest bound) (λ xs. MF.one_case (MF.form_and x xs)))
          (λ x. MF.then_cases (E.evaluated_each types b k args result rest bound) (λ xs. MF.one_case (MF.form_and x xs)))
          (evaluated_alike e bound) (λ x. ap (λ l. MF.then_cases l (λ xs. MF.one_case (MF.form_and x xs))) (evaluated_each_alike rest bound))

      case_alike : (cs : L.SpecCases) (x : MF.Form) (bound : List MF.Form) → E.evaluated_case types a k args result cs x bound ≡ E.evaluated_case types b k args result cs x bound
      case_alike L.no_case x bound = refl
      case_alike (L.case_and key e rest) x bound =
          then_alike (E.evaluated types a k args result key bound) (E.evaluated types b k args result key bound)
          (λ y. MF.merged (MF.then_cases (MF.then_cases (E.opened_each types a k (MF.form_and y (MF.form_and x MF.no_form))) (E.fitted (E.widths_of a) equals))
          (E.by_fact (E.evaluated types a k args result e bound) (E.evaluated_case types a k args result rest x bound))))
          (λ y. MF.merged (MF.then_cases (MF.then_cases (E.opened_each types b k (MF.form_and y (MF.form_and x MF.no_form))) (E.fitted (E.widths_of b) equals))
          (E.by_fact (E.evaluated types b k args result e bound) (E.evaluated_case types b k args result rest x bound))))
          (evaluated_alike key bound)
          (λ y.
          ap MF.merged
          (ap (λ l. MF.then_cases l (E.by_fact (E.evaluated types a k args result e bound) (E.evaluated_case types a k args result rest x bound)))
          (fitted_alike (MF.form_and y (MF.form_and x MF.no_form)) equals)
          ∙ ap (λ r. MF.then_cases (MF.then_cases (E.opened_each types b k (MF.form_and y (MF.form_and x MF.no_form))) (E.fitted (E.widths_of b) equals))
          (E.by_fact r (E.evaluated_case types a k args result rest x bound))) (evaluated_alike e bound)
          ∙ ap (λ r. MF.then_cases (MF.then_cases (E.opened_each types b k (MF.form_and y (MF.form_and x MF.no_form))) (E.fitted (E.widths_of b) equals))
          (E.by_fact (E.evaluated types b k args result e bound) r)) (case_alike rest x bound)))

      arm_alike : (arms : L.SpecArms) (x : MF.Form) (bound : List MF.Form) → E.evaluated_arm types a k args result arms x bound ≡ E.evaluated_arm types b k args result arms x bound
      arm_alike (L.arm_else body) x bound = evaluated_alike body (x ∷ bound)
      arm_alike L.no_spec_arm x bound = refl
      arm_alike (L.struct_arm ty body) (MF.struct_by t fields) bound =
          ap (λ r. if t == ty then r else MF.nothing_said) (evaluated_alike body (MF.form_list fields ++ bound))
      arm_alike (L.struct_arm ty body) (MF.a_fact f) bound = refl
      arm_alike (L.struct_arm ty body) (MF.an_integer_by z) bound = refl
      arm_alike (L.struct_arm ty body) (MF.a_word_by w t) bound = refl
      arm_alike (L.struct_arm ty body) (MF.variant_by t i fields) bound = refl
      arm_alike (L.struct_arm ty body) (MF.any_of t at) bound = refl
      arm_alike (L.struct_arm ty body) (MF.some_at at) bound = refl
      arm_alike (L.spec_arm_and ty variant body rest) (MF.variant_by t i fields) bound =
          ap (λ r. if t == ty then (if i == variant then r else E.evaluated_arm types a k args result rest (MF.variant_by t i fields) bound) else MF.nothing_said)
          (evaluated_alike body (MF.form_list fields ++ bound))
          ∙ ap (λ r. if t == ty then (if i == variant then E.evaluated types b k args result body (MF.form_list fields ++ bound) else r) else MF.nothing_said)
          (arm_alike rest (MF.variant_by t i fields) bound)
      arm_alike (L.spec_arm_and ty variant body rest) (MF.a_fact f) bound = refl
      arm_alike (L.spec_arm_and ty variant body rest) (MF.an_integer_by z) bound = refl
      arm_alike (L.spec_arm_and ty variant body rest) (MF.a_word_by w t) bound = refl
      arm_alike (L.spec_arm_and ty variant body rest) (MF.struct_by t fields) bound = refl
      arm_alike (L.spec_arm_and ty variant body rest) (MF.any_of t at) bound = refl
      arm_alike (L.spec_arm_and ty variant body rest) (MF.some_at at) bound = refl
