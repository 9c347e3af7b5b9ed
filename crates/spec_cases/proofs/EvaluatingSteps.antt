-- What is bound, arms, and what numbers of expressions come to by what they stand for.
use Rattle.std.proofs.Common.{◌≡◌, ◌≢◌, ℕ, Bool, true, false, List, ◌++◌, map, Option, if◌then◌else◌, refl, sym, ap, ◌∙◌}
use Rattle.std.specs.Bool.{◌==◌}
use Rattle.std.proofs.lemmas.Bool.{eq-eqb, ne_eqb}
use Rattle.std.proofs.lemmas.List.{map-append}
use Rattle.model.specs.rules.Meaning.{look}
use Rattle.laws_specs.specs.Specs as L
use Rattle.laws_specs.specs.Words as D
use Rattle.model_questions.specs.Forms as MF
use Rattle.model_questions.specs.Evaluated as E
use Rattle.spec_cases.specs.declared.cases.Cases.{Cases}
use Rattle.spec_cases.specs.declared.forms.Form.{Form}
use Rattle.spec_cases.specs.declared.evaluating.Said.{Said}
use Rattle.spec_cases.specs.CaseViews.{cases_of}
use Rattle.spec_cases.specs.Combining.{switch_case}
use Rattle.spec_cases.specs.Evaluating.{arm_in, case_in, each_in, evaluated_in}
use Rattle.spec_cases.specs.Expressions.{Saying}
use Rattle.spec_cases.specs.Namings.{Naming, fact_of, form_of, forms_of}
use Rattle.spec_cases.specs.Tables.{known_in, specs_in, types_in}
use Rattle.spec_cases.specs.Written.{only_key, unless_passed, unless_taken}
use Rattle.spec_cases.proofs.AppliedSteps.{one_seen, nothing_seen, anything_seen}
use Rattle.spec_cases.proofs.FittingSteps.{fields_listed}
use Rattle.spec_cases.proofs.WrittenSteps.{unless_known}

pub bound_added : (v : Naming) (fs more : List Form) (x : MF.Forms) → x ≡ forms_of v fs → map (form_of v) (fs ++ more) ≡ MF.form_list x ++ map (form_of v) more
bound_added v fs more x e = map-append (form_of v) fs more ∙ ap (λ l. l ++ map (form_of v) more) (sym (fields_listed v fs) ∙ ap MF.form_list (sym e))

pub ruleset bound_steps = (bound_added)

pub ruleset said_steps = (fields_listed, one_seen)

pub ruleset arm_steps = (nothing_seen, anything_seen)

-- whether an arm takes what no arm before it took
module _ (w : Saying) (n : ℕ) where
  pub others_none : w.arms n ≡ L.no_spec_arm → false ≡ E.takes_others (w.arms n)
  others_none is = ap E.takes_others (sym is)

  pub others_struct : (ty : ℕ) (body : L.SpecExpr) → w.arms n ≡ L.struct_arm ty body → false ≡ E.takes_others (w.arms n)
  others_struct ty body is = ap E.takes_others (sym is)

  pub others_else : (body : L.SpecExpr) → w.arms n ≡ L.arm_else body → true ≡ E.takes_others (w.arms n)
  others_else body is = ap E.takes_others (sym is)

  pub others_later : (ty variant : ℕ) (body : L.SpecExpr) (rest : L.SpecArms) (t : Bool) → w.arms n ≡ L.spec_arm_and ty variant body rest → t ≡ E.takes_others rest → t ≡ E.takes_others (w.arms n)
  others_later ty variant body rest t is e = e ∙ ap E.takes_others (sym is)

pub ruleset others_steps = (others_none, others_struct, others_else, others_later)

-- what a number comes to, by what it stands for
module _ (v : Naming) (s : Said) (w : Saying) (n : ℕ) (b : List MF.Form) where
  pub expr_said : (e : L.SpecExpr) (cs : MF.Cases MF.Form) → w.expr n ≡ e → cs ≡ evaluated_in v s e b → cs ≡ evaluated_in v s (w.expr n) b
  expr_said e cs is made = made ∙ ap (λ x. evaluated_in v s x b) (sym is)

  pub exprs_said : (es : L.SpecExprs) (cs : MF.Cases MF.Forms) → w.exprs n ≡ es → cs ≡ each_in v s es b → cs ≡ each_in v s (w.exprs n) b
  exprs_said es cs is made = made ∙ ap (λ x. each_in v s x b) (sym is)

  pub cases_said : (x : MF.Form) (e : L.SpecCases) (cs : MF.Cases MF.Form) → w.cases n ≡ e → cs ≡ case_in v s e x b → cs ≡ case_in v s (w.cases n) x b
  cases_said x e cs is made = made ∙ ap (λ y. case_in v s y x b) (sym is)

  pub arms_said : (x : MF.Form) (e : L.SpecArms) (cs : MF.Cases MF.Form) → w.arms n ≡ e → cs ≡ arm_in v s e x b → cs ≡ arm_in v s (w.arms n) x b
  arms_said x e cs is made = made ∙ ap (λ y. arm_in v s y x b) (sym is)

-- an operator, with the widths that sorts list
pub operated_by : (v : Naming) (s : Said) (o : D.Operator) (of : L.SpecExprs) (b : List MF.Form) (ws : List ℕ) (lists : MF.Cases MF.Forms) (cs : MF.Cases MF.Form)
    → ws ≡ E.widths_of (specs_in s.tables.now) → lists ≡ each_in v s of b
    → cs ≡ MF.then_cases lists (λ fs. MF.then_cases (E.opened_each (types_in s.tables.now) (specs_in s.tables.now) (known_in v s.tables.now) fs) (E.fitted ws o))
    → cs ≡ evaluated_in v s (L.operation o of) b
operated_by v s o of b ws lists cs e h made =
    made
    ∙ ap (λ x. MF.then_cases lists (λ fs. MF.then_cases (E.opened_each (types_in s.tables.now) (specs_in s.tables.now) (known_in v s.tables.now) fs) (E.fitted x o))) e
    ∙ ap (λ l. MF.then_cases l (λ fs. MF.then_cases (E.opened_each (types_in s.tables.now) (specs_in s.tables.now) (known_in v s.tables.now) fs) (E.fitted (E.widths_of (specs_in s.tables.now)) o))) h

-- expressions, one before others
pub each_more : (v : Naming) (s : Said) (e : L.SpecExpr) (rest : L.SpecExprs) (b : List MF.Form) (first : MF.Cases MF.Form) (later cs : MF.Cases MF.Forms)
    → first ≡ evaluated_in v s e b → later ≡ each_in v s rest b → cs ≡ MF.then_cases first (λ g. MF.then_cases later (λ gs. MF.one_case (MF.form_and g gs)))
    → cs ≡ each_in v s (L.spec_expr_and e rest) b
each_more v s e rest b first later cs h k made =
    made ∙ ap (λ c. MF.then_cases c (λ g. MF.then_cases later (λ gs. MF.one_case (MF.form_and g gs)))) h
    ∙ ap (λ c. MF.then_cases (evaluated_in v s e b) (λ g. MF.then_cases c (λ gs. MF.one_case (MF.form_and g gs)))) k

-- a case before others
pub switched_by : (v : Naming) (s : Said) (key e : L.SpecExpr) (rest : L.SpecCases) (x : MF.Form) (b : List MF.Form) (ws : List ℕ) (keys first later cs : MF.Cases MF.Form)
    → ws ≡ E.widths_of (specs_in s.tables.now) → keys ≡ evaluated_in v s key b → first ≡ evaluated_in v s e b → later ≡ case_in v s rest x b
    → cs ≡ MF.then_cases keys (switch_case (types_in s.tables.now) (specs_in s.tables.now) (known_in v s.tables.now) ws x first later)
    → cs ≡ case_in v s (L.case_and key e rest) x b
switched_by v s key e rest x b ws keys first later cs h k f l made =
    made
    ∙ ap (λ z. MF.then_cases keys (switch_case (types_in s.tables.now) (specs_in s.tables.now) (known_in v s.tables.now) z x first later)) h
    ∙ ap (λ z. MF.then_cases z (switch_case (types_in s.tables.now) (specs_in s.tables.now) (known_in v s.tables.now) (E.widths_of (specs_in s.tables.now)) x first later)) k
    ∙ ap (λ z. MF.then_cases (evaluated_in v s key b) (switch_case (types_in s.tables.now) (specs_in s.tables.now) (known_in v s.tables.now) (E.widths_of (specs_in s.tables.now)) x z later)) f
    ∙ ap (λ z. MF.then_cases (evaluated_in v s key b) (switch_case (types_in s.tables.now) (specs_in s.tables.now) (known_in v s.tables.now) (E.widths_of (specs_in s.tables.now)) x (evaluated_in v s e b) z)) l

-- the same, where what is known not to be taken is left out
pub switched_once : (v : Naming) (s : Said) (key e : L.SpecExpr) (rest : L.SpecCases) (x : Form) (b : List MF.Form) (ws : List ℕ) (d : Option Bool) (keys : Cases Form) (first later cs : MF.Cases MF.Form)
    → ws ≡ E.widths_of (specs_in s.tables.now) → cases_of v keys ≡ evaluated_in v s key b → d ≡ only_key keys.cases.items x
    → first ≡ unless_passed d (evaluated_in v s e b) → later ≡ unless_taken d (case_in v s rest (form_of v x) b)
    → cs ≡ MF.then_cases (cases_of v keys) (switch_case (types_in s.tables.now) (specs_in s.tables.now) (known_in v s.tables.now) ws (form_of v x) first later)
    → cs ≡ case_in v s (L.case_and key e rest) (form_of v x) b
switched_once v s key e rest x b ws d keys first later cs h k known f l made =
    let come : MF.Cases MF.Form → MF.Cases MF.Form → MF.Cases MF.Form
    = λ y z. MF.then_cases (cases_of v keys) (switch_case (types_in s.tables.now) (specs_in s.tables.now) (known_in v s.tables.now) ws (form_of v x) y z) in
    switched_by v s key e rest (form_of v x) b ws (cases_of v keys) (evaluated_in v s e b) (case_in v s rest (form_of v x) b) cs h k refl refl (
    made ∙ ap (λ y. come y later) f ∙ ap (come (unless_passed d (evaluated_in v s e b))) l
    ∙ unless_known (types_in s.tables.now) (specs_in s.tables.now) (known_in v s.tables.now) ws v x (evaluated_in v s e b) (case_in v s rest (form_of v x) b) d keys.cases.items (fact_of v keys.rest) known
    )

-- an unknown function
pub asked_by : (v : Naming) (s : Said) (f : ℕ) (of : L.SpecExprs) (b : List MF.Form) (lists : MF.Cases MF.Forms) (cs : MF.Cases MF.Form)
    → lists ≡ each_in v s of b
    → cs ≡ MF.then_cases lists (λ fs. MF.then_cases (E.opened_each (types_in s.tables.now) (specs_in s.tables.now) (known_in v s.tables.now) fs) (λ gs. E.answered_of f (look (λ n. n == f) (specs_in s.tables.now).unknown_sorts) (E.operands gs)))
    → cs ≡ evaluated_in v s (L.unknown f of) b
asked_by v s f of b lists cs h made =
    made ∙ ap (λ l. MF.then_cases l (λ fs. MF.then_cases (E.opened_each (types_in s.tables.now) (specs_in s.tables.now) (known_in v s.tables.now) fs) (λ gs. E.answered_of f (look (λ n. n == f) (specs_in s.tables.now).unknown_sorts) (E.operands gs)))) h

-- the arm that fits, in which fields are bound; another arm of an enum
module _ (v : Naming) (s : Said) (ty own : ℕ) (body : L.SpecExpr) (fields : MF.Forms) (x : MF.Form) (b : List MF.Form) (cs : MF.Cases MF.Form) where
  pub struct_taken : (inner : List MF.Form) → x ≡ MF.struct_by own fields → own ≡ ty → inner ≡ MF.form_list fields ++ b → cs ≡ evaluated_in v s body inner → cs ≡ arm_in v s (L.struct_arm ty body) x b
  struct_taken inner is same e made =
      made ∙ ap (evaluated_in v s body) e
      ∙ ap (λ t. if t then evaluated_in v s body (MF.form_list fields ++ b) else MF.nothing_said) (sym (eq-eqb own ty same))
      ∙ ap (λ y. arm_in v s (L.struct_arm ty body) y b) (sym is)

  module _ (variant kind : ℕ) (rest : L.SpecArms) where
    pub variant_taken : (inner : List MF.Form) → x ≡ MF.variant_by own kind fields → own ≡ ty → kind ≡ variant → inner ≡ MF.form_list fields ++ b → cs ≡ evaluated_in v s body inner → cs ≡ arm_in v s (L.spec_arm_and ty variant body rest) x b
    variant_taken inner is same one e made =
        made ∙ ap (evaluated_in v s body) e
        ∙ ap (λ t. if t then evaluated_in v s body (MF.form_list fields ++ b) else arm_in v s rest (MF.variant_by own kind fields) b) (sym (eq-eqb kind variant one))
        ∙ ap (λ t. if t then (if kind == variant then evaluated_in v s body (MF.form_list fields ++ b) else arm_in v s rest (MF.variant_by own kind fields) b) else MF.nothing_said) (sym (eq-eqb own ty same))
        ∙ ap (λ y. arm_in v s (L.spec_arm_and ty variant body rest) y b) (sym is)

    pub variant_passed : x ≡ MF.variant_by own kind fields → own ≡ ty → kind ≢ variant → cs ≡ arm_in v s rest (MF.variant_by own kind fields) b → cs ≡ arm_in v s (L.spec_arm_and ty variant body rest) x b
    variant_passed is same other made =
        made
        ∙ ap (λ t. if t then evaluated_in v s body (MF.form_list fields ++ b) else arm_in v s rest (MF.variant_by own kind fields) b) (sym (ne_eqb kind variant other))
        ∙ ap (λ t. if t then (if kind == variant then evaluated_in v s body (MF.form_list fields ++ b) else arm_in v s rest (MF.variant_by own kind fields) b) else MF.nothing_said) (sym (eq-eqb own ty same))
        ∙ ap (λ y. arm_in v s (L.spec_arm_and ty variant body rest) y b) (sym is)
