use Rattle.std.proofs.Common.{◌≢◌, ◌∙◌, ◌∷◌, map, slice_get, Some, sym, ap, subst, arith}
use Rattle.laws_specs.specs.Specs as L
use Rattle.model_questions.specs.Forms as MF
use Rattle.model_questions.specs.Evaluated as E
use Rattle.spec_cases.specs.CaseViews.{cases_of, form_cases, list_cases_of}
use Rattle.spec_cases.specs.Combining.{whole_of}
use Rattle.spec_cases.specs.Evaluating.{arm_in, case_in, evaluated_in, matched_in}
use Rattle.spec_cases.specs.Expressions.{IsSaid}
use Rattle.spec_cases.specs.Literals.{literal_view}
use Rattle.spec_cases.specs.Namings.{form_of, operator_view}
use Rattle.spec_cases.specs.Tables.{known_in, specs_in, types_in}
use Rattle.spec_cases.specs.Written.{only_key, unless_passed, unless_taken}
use Rattle.spec_cases.proofs.AppliedSteps.{one_seen, nothing_seen}
use Rattle.spec_cases.proofs.CombiningSteps.{each_first, then_seen}
use Rattle.spec_cases.proofs.EvaluatingSteps.{arms_said, asked_by, cases_said, each_more, expr_said, exprs_said, operated_by, struct_taken, switched_once, variant_passed, variant_taken}
use Rattle.spec_cases.proofs.FittingSteps.{fields_listed}
use Rattle.spec_cases.proofs.arena.Formulas.+evaluating.Goals as goal

-- expressions
pub evaluated-returns-in_ok-form_at-in-Argument : goal.evaluated-returns-in_ok-form_at-in-Argument
evaluated-returns-in_ok-form_at-in-Argument t c = λ v w names apart all.
    let m = c.in-Argument in (
      names,
      expr_said v c.args.said.now w c.args.expr.0 (map (form_of v) c.args.bound.now) (L.its_argument m.index) _ (subst (IsSaid w c.args.expr.0) m.is (c.in_ok-index.ensures.said w all))
          (c.in_ok-form_at-in-Argument.ensures v ∙ ap (λ l. MF.or_nothing (slice_get l m.index)) (sym (fields_listed v c.args.said.now.args.now))),
    )

pub evaluated-returns-in_ok-answer_said-in-Result : goal.evaluated-returns-in_ok-answer_said-in-Result
evaluated-returns-in_ok-answer_said-in-Result t c = λ v w names apart all.
    let m = c.in-Result in (
      names,
      expr_said v c.args.said.now w c.args.expr.0 (map (form_of v) c.args.bound.now) L.its_result _ (subst (IsSaid w c.args.expr.0) m.is (c.in_ok-index.ensures.said w all)) (c.in_ok-answer_said-in-Result.ensures v),
    )

pub evaluated-returns-in_ok-form_at-in-Variable : goal.evaluated-returns-in_ok-form_at-in-Variable
evaluated-returns-in_ok-form_at-in-Variable t c = λ v w names apart all.
    let m = c.in-Variable in (
      names,
      expr_said v c.args.said.now w c.args.expr.0 (map (form_of v) c.args.bound.now) (L.variable m.index) _ (subst (IsSaid w c.args.expr.0) m.is (c.in_ok-index.ensures.said w all)) (c.in_ok-form_at-in-Variable.ensures v),
    )

pub evaluated-returns-in_ok-one_case-in-Written : goal.evaluated-returns-in_ok-one_case-in-Written
evaluated-returns-in_ok-one_case-in-Written t c = λ v w names apart all.
    let m = c.in-Written in (
      names,
      expr_said v c.args.said.now w c.args.expr.0 (map (form_of v) c.args.bound.now) (L.the_same (literal_view m.value)) _ (subst (IsSaid w c.args.expr.0) m.is (c.in_ok-index.ensures.said w all))
          (one_seen v c.in_ok-one_case-in-Written.field-0 c.form.result (c.in_ok-one_case-in-Written.ensures v) ∙ ap MF.one_case (c.form.ensures v)),
    )

pub evaluated-returns-in_ok-operation-in-Operation : goal.evaluated-returns-in_ok-operation-in-Operation
evaluated-returns-in_ok-operation-in-Operation t c = λ v w names apart all.
    let m = c.in-Operation in
    let made = c.in_ok-operation-in-Operation.ensures v w names apart all in (
      made.0,
      expr_said v c.args.said.now w c.args.expr.0 (map (form_of v) c.args.bound.now) (L.operation (operator_view m.operator) (w.exprs m.of.0)) _ (subst (IsSaid w c.args.expr.0) m.is (c.in_ok-index.ensures.said w all)) made.1,
    )

pub evaluated-returns-in_ok-unknown-in-Unknown : goal.evaluated-returns-in_ok-unknown-in-Unknown
evaluated-returns-in_ok-unknown-in-Unknown t c = λ v w names apart all.
    let m = c.in-Unknown in
    let made = c.in_ok-unknown-in-Unknown.ensures v w names apart all in (
      made.0,
      expr_said v c.args.said.now w c.args.expr.0 (map (form_of v) c.args.bound.now) (L.unknown m.function (w.exprs m.of.0)) _ (subst (IsSaid w c.args.expr.0) m.is (c.in_ok-index.ensures.said w all)) made.1,
    )

pub evaluated-returns-in_ok-made-in-VariantSaid : goal.evaluated-returns-in_ok-made-in-VariantSaid
evaluated-returns-in_ok-made-in-VariantSaid t c = λ v w names apart all.
    let m = c.in-VariantSaid in
    let made = c.in_ok-made-in-VariantSaid.ensures v w names apart all in (
      made.0,
      expr_said v c.args.said.now w c.args.expr.0 (map (form_of v) c.args.bound.now) (L.variant_said m.ty.0 m.variant.0 (w.exprs m.of.0)) _ (subst (IsSaid w c.args.expr.0) m.is (c.in_ok-index.ensures.said w all)) made.1,
    )

pub evaluated-returns-in_ok-made-in-StructSaid : goal.evaluated-returns-in_ok-made-in-StructSaid
evaluated-returns-in_ok-made-in-StructSaid t c = λ v w names apart all.
    let m = c.in-StructSaid in
    let made = c.in_ok-made-in-StructSaid.ensures v w names apart all in (
      made.0,
      expr_said v c.args.said.now w c.args.expr.0 (map (form_of v) c.args.bound.now) (L.struct_said m.ty.0 (w.exprs m.of.0)) _ (subst (IsSaid w c.args.expr.0) m.is (c.in_ok-index.ensures.said w all)) made.1,
    )

pub evaluated-returns-in_ok-let_in-in-LetIn : goal.evaluated-returns-in_ok-let_in-in-LetIn
evaluated-returns-in_ok-let_in-in-LetIn t c = λ v w names apart all.
    let m = c.in-LetIn in
    let made = c.in_ok-let_in-in-LetIn.ensures v w names apart all in (
      made.0,
      expr_said v c.args.said.now w c.args.expr.0 (map (form_of v) c.args.bound.now) (L.let_in (w.expr m.first.0) (w.expr m.body.0)) _ (subst (IsSaid w c.args.expr.0) m.is (c.in_ok-index.ensures.said w all)) made.1,
    )

pub evaluated-returns-in_ok-switch_on-in-SwitchOn : goal.evaluated-returns-in_ok-switch_on-in-SwitchOn
evaluated-returns-in_ok-switch_on-in-SwitchOn t c = λ v w names apart all.
    let m = c.in-SwitchOn in
    let made = c.in_ok-switch_on-in-SwitchOn.ensures v w names apart all in (
      made.0,
      expr_said v c.args.said.now w c.args.expr.0 (map (form_of v) c.args.bound.now) (L.switch_on (w.expr m.first.0) (w.cases m.cases.0)) _ (subst (IsSaid w c.args.expr.0) m.is (c.in_ok-index.ensures.said w all)) made.1,
    )

pub evaluated-returns-in_ok-match_on-in-MatchOn : goal.evaluated-returns-in_ok-match_on-in-MatchOn
evaluated-returns-in_ok-match_on-in-MatchOn t c = λ v w names apart all.
    let m = c.in-MatchOn in
    let made = c.in_ok-match_on-in-MatchOn.ensures v w names apart all in (
      made.0,
      expr_said v c.args.said.now w c.args.expr.0 (map (form_of v) c.args.bound.now) (L.match_on (w.expr m.first.0) (w.arms m.arms.0)) _ (subst (IsSaid w c.args.expr.0) m.is (c.in_ok-index.ensures.said w all)) made.1,
    )

-- what they are made of
pub operation-returns : goal.operation-returns
operation-returns t c = λ v w names apart all.
    let last = c.in_ok-operated_all.ensures v names apart in
    let lists = c.in_ok-lists.ensures v w last.0 apart all in (
      lists.0,
      operated_by v c.args.said.now (operator_view c.args.operator) (w.exprs c.args.of.0) (map (form_of v) c.args.bound.now) c.deref.result.now (list_cases_of v c.in_ok-lists.lists) _ (c.deref.ensures.value ∙ c.in_ok-widths.ensures) lists.1 last.1,
    )

pub case_and-returns : goal.case_and-returns
case_and-returns t c = λ v w names apart all.
    let last = c.in_ok-switched_all.ensures v names apart in
    let later = c.in_ok-later.ensures v w last.0 apart all in
    let first = c.in_ok-first.ensures v w later.0 apart all in
    let keys = c.in_ok-keys.ensures v w first.0 apart all in
    let is_key = c.only_key-is_key.ensures ∙ ap (λ l. only_key l c.args.value) c.deref.ensures.value in (
      keys.0,
      switched_once v c.args.said.now (w.expr c.args.key.0) (w.expr c.args.body.0) (w.cases c.args.rest.0) c.args.value (map (form_of v) c.args.bound.now) c.deref-2.result.now c.only_key-is_key.result c.in_ok-keys.keys (cases_of v c.in_ok-first.first) (cases_of v c.in_ok-later.later) _ (c.deref-2.ensures.value ∙ c.in_ok-widths.ensures)
          keys.1 is_key first.1 later.1 last.1,
    )

pub evaluated_each-returns-in_ok-no_forms-in-NoExpr : goal.evaluated_each-returns-in_ok-no_forms-in-NoExpr
evaluated_each-returns-in_ok-no_forms-in-NoExpr t c = λ v w names apart all.
    let made = c.in_ok-no_forms-in-NoExpr.ensures v names in
    (made.0, exprs_said v c.args.said.now w c.args.exprs.0 (map (form_of v) c.args.bound.now) L.no_spec_expr _ (subst (IsSaid w c.args.exprs.0) c.in-NoExpr.is (c.in_ok-expr_at.ensures.said w all)) made.1)

pub evaluated_each-returns-in_ok-paired-in-ExprAnd : goal.evaluated_each-returns-in_ok-paired-in-ExprAnd
evaluated_each-returns-in_ok-paired-in-ExprAnd t c = λ v w names apart all.
    let m = c.in-ExprAnd in
    let last = c.in_ok-paired-in-ExprAnd.ensures v names in
    let later = c.in_ok-later-in-ExprAnd.ensures v w last.0 apart all in
    let first = c.in_ok-first-in-ExprAnd.ensures v w later.0 apart all in (
      first.0,
      exprs_said v c.args.said.now w c.args.exprs.0 (map (form_of v) c.args.bound.now) (L.spec_expr_and (w.expr m.expr.0) (w.exprs m.rest.0)) _ (subst (IsSaid w c.args.exprs.0) m.is (c.in_ok-expr_at.ensures.said w all))
          (each_more v c.args.said.now (w.expr m.expr.0) (w.exprs m.rest.0) (map (form_of v) c.args.bound.now) (cases_of v c.in_ok-first-in-ExprAnd.first) (list_cases_of v c.in_ok-later-in-ExprAnd.later) _ first.1 later.1 last.1),
    )

pub evaluated_case-returns-in-NoCase : goal.evaluated_case-returns-in-NoCase
evaluated_case-returns-in-NoCase t c = λ v w names apart all. (
  names,
  cases_said v c.args.said.now w c.args.cases.0 (map (form_of v) c.args.bound.now) (form_of v c.args.value) L.no_case _ (subst (IsSaid w c.args.cases.0) c.in-NoCase.is (c.in_ok-expr_at.ensures.said w all))
      (nothing_seen v c.nothing_said.result (c.nothing_said.ensures v)),
)

pub evaluated_case-returns-in_ok-case_and-in-CaseAnd : goal.evaluated_case-returns-in_ok-case_and-in-CaseAnd
evaluated_case-returns-in_ok-case_and-in-CaseAnd t c = λ v w names apart all.
    let m = c.in-CaseAnd in
    let made = c.in_ok-case_and-in-CaseAnd.ensures v w names apart all in (
      made.0,
      cases_said v c.args.said.now w c.args.cases.0 (map (form_of v) c.args.bound.now) (form_of v c.args.value) (L.case_and (w.expr m.key.0) (w.expr m.body.0) (w.cases m.rest.0)) _
          (subst (IsSaid w c.args.cases.0) m.is (c.in_ok-expr_at.ensures.said w all)) made.1,
    )

-- arms
pub evaluated_arm-returns-in-NoArm : goal.evaluated_arm-returns-in-NoArm
evaluated_arm-returns-in-NoArm t c = λ v w names apart all. (
  names,
  arms_said v c.args.said.now w c.args.arms.0 (map (form_of v) c.args.bound.now) (form_of v c.args.value) L.no_spec_arm _ (subst (IsSaid w c.args.arms.0) c.in-NoArm.is (c.in_ok-expr_at.ensures.said w all))
      (nothing_seen v c.nothing_said.result (c.nothing_said.ensures v)),
)

pub evaluated_arm-returns-in_ok-evaluated-in-ElseArm : goal.evaluated_arm-returns-in_ok-evaluated-in-ElseArm
evaluated_arm-returns-in_ok-evaluated-in-ElseArm t c = λ v w names apart all.
    let m = c.in-ElseArm in
    let made = c.in_ok-evaluated-in-ElseArm.ensures v w names apart all in (
      made.0,
      arms_said v c.args.said.now w c.args.arms.0 (map (form_of v) c.args.bound.now) (form_of v c.args.value) (L.arm_else (w.expr m.body.0)) _ (subst (IsSaid w c.args.arms.0) m.is (c.in_ok-expr_at.ensures.said w all))
          (made.1 ∙ ap (λ b. evaluated_in v c.args.said.now (w.expr m.body.0) b) (ap (map (form_of v)) c.deref.ensures.value ∙ c.in_ok-inner-in-ElseArm.ensures v)),
    )

pub evaluated_arm-returns-in_ok-struct_arm-in-StructArm : goal.evaluated_arm-returns-in_ok-struct_arm-in-StructArm
evaluated_arm-returns-in_ok-struct_arm-in-StructArm t c = λ v w names apart all.
    let m = c.in-StructArm in
    let made = c.in_ok-struct_arm-in-StructArm.ensures v w names apart all in (
      made.0,
      arms_said v c.args.said.now w c.args.arms.0 (map (form_of v) c.args.bound.now) (form_of v c.args.value) (L.struct_arm m.ty.0 (w.expr m.body.0)) _ (subst (IsSaid w c.args.arms.0) m.is (c.in_ok-expr_at.ensures.said w all)) made.1,
    )

pub evaluated_arm-returns-in_ok-variant_arm-in-VariantArm : goal.evaluated_arm-returns-in_ok-variant_arm-in-VariantArm
evaluated_arm-returns-in_ok-variant_arm-in-VariantArm t c = λ v w names apart all.
    let m = c.in-VariantArm in
    let made = c.in_ok-variant_arm-in-VariantArm.ensures v w names apart all in (
      made.0,
      arms_said v c.args.said.now w c.args.arms.0 (map (form_of v) c.args.bound.now) (form_of v c.args.value) (L.spec_arm_and m.ty.0 m.variant.0 (w.expr m.body.0) (w.arms m.rest.0)) _
          (subst (IsSaid w c.args.arms.0) m.is (c.in_ok-expr_at.ensures.said w all)) made.1,
    )

pub unknown-returns : goal.unknown-returns
unknown-returns t c = λ v w names apart all.
    let last = c.in_ok-asked_all.ensures v names apart in
    let lists = c.in_ok-lists.ensures v w last.0 apart all in
    (lists.0, asked_by v c.args.said.now c.args.function (w.exprs c.args.of.0) (map (form_of v) c.args.bound.now) (list_cases_of v c.in_ok-lists.lists) _ lists.1 last.1)

pub made-returns : goal.made-returns
made-returns t c = λ v w names apart all.
    let lists = c.in_ok-lists.ensures v w names apart all in
    (lists.0, c.in_ok-wholes.ensures v ∙ ap (λ l. MF.then_cases l (λ fs. MF.one_case (whole_of c.args.whole fs))) lists.1)

-- each case, and all cases with their rest
pub let_each-returns-in_ok-from_first-in-len1-up : goal.let_each-returns-in_ok-from_first-in-len1-up
let_each-returns-in_ok-from_first-in-len1-up t c = λ v w names apart all.
    let last = c.in_ok-from_first-in-len1-up.ensures v names in
    let later = c.in_ok-later-in-len1-up.ensures v w last.0 apart all in
    let here = c.in_ok-here-in-len1-up.ensures v w later.0 apart all in
    let come : MF.Form → MF.Cases MF.Form = λ x. evaluated_in v c.args.said.now (w.expr c.args.body.0) (x ∷ map (form_of v) c.args.bound.now) in (
      here.0,
      each_first v c.args.cases.now _ come (cases_of v c.in_ok-here-in-len1-up.here) (cases_of v c.in_ok-later-in-len1-up.later) _ c.in-len1-up.len_at_least (here.1 ∙ ap (evaluated_in v c.args.said.now (w.expr c.args.body.0)) (ap (map (form_of v)) c.deref.ensures.value ∙ c.in_ok-inner-in-len1-up.ensures v)) later.1 last.1,
    )

pub let_in-returns : goal.let_in-returns
let_in-returns t c = λ v w names apart all.
    let last = c.in_ok-with_rest.ensures v names in
    let each = c.in_ok-each.ensures v w last.0 apart all in
    let values = c.in_ok-values.ensures v w each.0 apart all in
    let come : MF.Form → MF.Cases MF.Form = λ x. evaluated_in v c.args.said.now (w.expr c.args.body.0) (x ∷ map (form_of v) c.args.bound.now) in (
      values.0,
      then_seen (cases_of v c.in_ok-values.values) (evaluated_in v c.args.said.now (w.expr c.args.first.0) (map (form_of v) c.args.bound.now)) (cases_of v c.in_ok-each.each) _ come values.1 (each.1 ∙ ap (λ l. MF.from_each (form_cases v l) come) c.deref.ensures.value) last.1,
    )

pub switch_each-returns-in_ok-from_first-in-len1-up : goal.switch_each-returns-in_ok-from_first-in-len1-up
switch_each-returns-in_ok-from_first-in-len1-up t c = λ v w names apart all.
    let last = c.in_ok-from_first-in-len1-up.ensures v names in
    let later = c.in_ok-later-in-len1-up.ensures v w last.0 apart all in
    let here = c.in_ok-here-in-len1-up.ensures v w later.0 apart all in
    let come : MF.Form → MF.Cases MF.Form = λ x. case_in v c.args.said.now (w.cases c.args.cases.0) x (map (form_of v) c.args.bound.now) in (
      here.0,
      each_first v c.args.values.now _ come (cases_of v c.in_ok-here-in-len1-up.here) (cases_of v c.in_ok-later-in-len1-up.later) _ c.in-len1-up.len_at_least (here.1) later.1 last.1,
    )

pub switch_on-returns : goal.switch_on-returns
switch_on-returns t c = λ v w names apart all.
    let last = c.in_ok-with_rest.ensures v names in
    let each = c.in_ok-each.ensures v w last.0 apart all in
    let values = c.in_ok-values.ensures v w each.0 apart all in
    let come : MF.Form → MF.Cases MF.Form = λ x. case_in v c.args.said.now (w.cases c.args.cases.0) x (map (form_of v) c.args.bound.now) in (
      values.0,
      then_seen (cases_of v c.in_ok-values.values) (evaluated_in v c.args.said.now (w.expr c.args.first.0) (map (form_of v) c.args.bound.now)) (cases_of v c.in_ok-each.each) _ come values.1 (each.1 ∙ ap (λ l. MF.from_each (form_cases v l) come) c.deref.ensures.value) last.1,
    )

pub match_each-returns-in_ok-from_first-in-len1-up : goal.match_each-returns-in_ok-from_first-in-len1-up
match_each-returns-in_ok-from_first-in-len1-up t c = λ v w names apart all.
    let last = c.in_ok-from_first-in-len1-up.ensures v names in
    let later = c.in_ok-later-in-len1-up.ensures v w last.0 apart all in
    let here = c.in_ok-here-in-len1-up.ensures v w later.0 apart all in
    let come : MF.Form → MF.Cases MF.Form = λ x. matched_in v c.args.said.now (w.arms c.args.arms.0) x (map (form_of v) c.args.bound.now) in (
      here.0,
      each_first v c.args.values.now _ come (cases_of v c.in_ok-here-in-len1-up.here) (cases_of v c.in_ok-later-in-len1-up.later) _ c.in-len1-up.len_at_least (here.1) later.1 last.1,
    )

pub match_on-returns : goal.match_on-returns
match_on-returns t c = λ v w names apart all.
    let last = c.in_ok-with_rest.ensures v names in
    let each = c.in_ok-each.ensures v w last.0 apart all in
    let values = c.in_ok-values.ensures v w each.0 apart all in
    let come : MF.Form → MF.Cases MF.Form = λ x. matched_in v c.args.said.now (w.arms c.args.arms.0) x (map (form_of v) c.args.bound.now) in (
      values.0,
      then_seen (cases_of v c.in_ok-values.values) (evaluated_in v c.args.said.now (w.expr c.args.first.0) (map (form_of v) c.args.bound.now)) (cases_of v c.in_ok-each.each) _ come values.1 (each.1 ∙ ap (λ l. MF.from_each (form_cases v l) come) c.deref.ensures.value) last.1,
    )

pub arm_each-returns-in_ok-from_first-in-len1-up : goal.arm_each-returns-in_ok-from_first-in-len1-up
arm_each-returns-in_ok-from_first-in-len1-up t c = λ v w names apart all.
    let last = c.in_ok-from_first-in-len1-up.ensures v names in
    let later = c.in_ok-later-in-len1-up.ensures v w last.0 apart all in
    let here = c.in_ok-here-in-len1-up.ensures v w later.0 apart all in
    let come : MF.Form → MF.Cases MF.Form = λ y. arm_in v c.args.said.now (w.arms c.args.arms.0) y (map (form_of v) c.args.bound.now) in (
      here.0,
      each_first v c.args.values.now _ come (cases_of v c.in_ok-here-in-len1-up.here) (cases_of v c.in_ok-later-in-len1-up.later) _ c.in-len1-up.len_at_least (here.1) later.1 last.1,
    )

pub matched-returns : goal.matched-returns
matched-returns t c = λ v w names apart all.
    let last = c.in_ok-with_rest.ensures v names in
    let each = c.in_ok-each.ensures v w last.0 apart all in
    let opened = c.in_ok-opened.ensures v w each.0 apart all in
    let come : MF.Form → MF.Cases MF.Form = λ y. arm_in v c.args.said.now (w.arms c.args.arms.0) y (map (form_of v) c.args.bound.now) in (
      opened.0,
      then_seen (cases_of v c.in_ok-opened.opened) (E.matched (types_in c.args.said.now.tables.now) (specs_in c.args.said.now.tables.now) (known_in v c.args.said.now.tables.now) (w.arms c.args.arms.0) (form_of v c.args.value)) (cases_of v c.in_ok-each.each) _ come opened.1 (each.1 ∙ ap (λ l. MF.from_each (form_cases v l) come) c.deref.ensures.value) last.1,
    )

-- the arm that fits, or a later one
pub struct_arm-returns-in_ok-evaluated-in-Struct : goal.struct_arm-returns-in_ok-evaluated-in-Struct
struct_arm-returns-in_ok-evaluated-in-Struct t c = λ v w names apart all.
    let m = c.in-Struct in
    let made = c.in_ok-evaluated-in-Struct.ensures v w names apart all in (
      made.0,
      struct_taken v c.args.said.now c.args.ty.0 m.own.0 (w.expr c.args.body.0) (v.fields m.fields.0) (form_of v c.args.value) (map (form_of v) c.args.bound.now) _ (map (form_of v) c.deref.result.now) (ap (form_of v) m.is) (omega arith)
          (ap (map (form_of v)) c.deref.ensures.value ∙ c.in_ok-inner-in-Struct.ensures v made.0) made.1,
    )

pub variant_arm-returns-in_ok-evaluated-in-Variant : goal.variant_arm-returns-in_ok-evaluated-in-Variant
variant_arm-returns-in_ok-evaluated-in-Variant t c = λ v w names apart all.
    let m = c.in-Variant in
    let made = c.in_ok-evaluated-in-Variant.ensures v w names apart all in (
      made.0,
      variant_taken v c.args.said.now c.args.ty.0 m.own.0 (w.expr c.args.body.0) (v.fields m.fields.0) (form_of v c.args.value) (map (form_of v) c.args.bound.now) _ c.args.variant.0 m.kind.0 (w.arms c.args.rest.0)
          (map (form_of v) c.deref.result.now) (ap (form_of v) m.is) (omega arith) (omega arith) (ap (map (form_of v)) c.deref.ensures.value ∙ c.in_ok-inner-in-Variant.ensures v made.0) made.1,
    )

pub variant_arm-returns-in_ok-evaluated_arm-in-Variant : goal.variant_arm-returns-in_ok-evaluated_arm-in-Variant
variant_arm-returns-in_ok-evaluated_arm-in-Variant t c = λ v w names apart all.
    let m = c.in-Variant in
    let made = c.in_ok-evaluated_arm-in-Variant.ensures v w names apart all in
    let other : m.kind.0 ≢ c.args.variant.0 = omega arith in (
      made.0,
      variant_passed v c.args.said.now c.args.ty.0 m.own.0 (w.expr c.args.body.0) (v.fields m.fields.0) (form_of v c.args.value) (map (form_of v) c.args.bound.now) _ c.args.variant.0 m.kind.0 (w.arms c.args.rest.0) (ap (form_of v) m.is) (omega arith) other made.1,
    )

-- what may be taken of a choice by a key
pub unless_passed-returns-in_ok-evaluated-in-None : goal.unless_passed-returns-in_ok-evaluated-in-None
unless_passed-returns-in_ok-evaluated-in-None t c = λ v w names apart all.
    let made = c.in_ok-evaluated-in-None.ensures v w names apart all in
    (made.0, made.1 ∙ ap (λ d. unless_passed d (evaluated_in v c.args.said.now (w.expr c.args.body.0) (map (form_of v) c.args.bound.now))) (sym c.in-None.is))

pub unless_passed-returns-in_ok-evaluated-in-Some-true : goal.unless_passed-returns-in_ok-evaluated-in-Some-true
unless_passed-returns-in_ok-evaluated-in-Some-true t c = λ v w names apart all.
    let made = c.in_ok-evaluated-in-Some-true.ensures v w names apart all in
    let is = c.in-Some-true.is ∙ ap Some c.in-Some-true.field-0-test in
    (made.0, made.1 ∙ ap (λ d. unless_passed d (evaluated_in v c.args.said.now (w.expr c.args.body.0) (map (form_of v) c.args.bound.now))) (sym is))

pub unless_taken-returns-in_ok-evaluated_case-in-None : goal.unless_taken-returns-in_ok-evaluated_case-in-None
unless_taken-returns-in_ok-evaluated_case-in-None t c = λ v w names apart all.
    let made = c.in_ok-evaluated_case-in-None.ensures v w names apart all in
    (made.0, made.1 ∙ ap (λ d. unless_taken d (case_in v c.args.said.now (w.cases c.args.rest.0) (form_of v c.args.value) (map (form_of v) c.args.bound.now))) (sym c.in-None.is))

pub unless_taken-returns-in_ok-evaluated_case-in-Some-false : goal.unless_taken-returns-in_ok-evaluated_case-in-Some-false
unless_taken-returns-in_ok-evaluated_case-in-Some-false t c = λ v w names apart all.
    let made = c.in_ok-evaluated_case-in-Some-false.ensures v w names apart all in
    let is = c.in-Some-false.is ∙ ap Some c.in-Some-false.field-0-test in
    (made.0, made.1 ∙ ap (λ d. unless_taken d (case_in v c.args.said.now (w.cases c.args.rest.0) (form_of v c.args.value) (map (form_of v) c.args.bound.now))) (sym is))
