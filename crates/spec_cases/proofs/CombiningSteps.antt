-- Cases of lists, and cases of one value each.
use Rattle.std.proofs.Common.{◌≡◌, ℕ, ◌-◌, ◌≤◌, Bool, true, false, List, [], ◌∷◌, ◌++◌, drop, get_or, length, map, take, refl, sym, ap, ◌∙◌, arith}
use Rattle.std.proofs.lemmas.List.{append-nil, append_assoc, map-append, take_all}
use Rattle.model_questions.specs.Formulas as M
use Rattle.model_questions.specs.Forms as MF
use Rattle.model_questions.specs.Evaluated as E
use Rattle.laws_specs.specs.Specs.{Specs}
use Rattle.model.specs.lists.Tables.{TypeEntry}
use Rattle.spec_cases.specs.declared.cases.Case.{Case}
use Rattle.spec_cases.specs.declared.cases.Cases.{Cases}
use Rattle.spec_cases.specs.declared.forms.FieldsId.{FieldsId}
use Rattle.spec_cases.specs.declared.forms.Form.{Form}
use Rattle.spec_cases.specs.Namings.{Naming, fact_of, form_of, forms_of}
use Rattle.spec_cases.specs.CaseViews.{form_cases, guarded, guarded_each, list_cases_of, each_with, with_value, with_values}
use Rattle.spec_cases.specs.Combining.{forms_cases, rest_with}
use Rattle.spec_cases.proofs.CaseSteps.{case_first, mapped_under, mapped_more}

-- 1. lists
module _ (v : Naming) where
  abbrev forms_at : FieldsId → MF.Forms
  forms_at l = v.fields l.0

  pub list_under : (g : M.Fact) (cs out : Cases FieldsId) → guarded v out ≡ MF.under g (guarded v cs) → list_cases_of v out ≡ MF.under g (list_cases_of v cs)
  list_under g cs out e = ap (with_values forms_at) e ∙ ap (λ l. record { cases = l; rest = M.both_of g (fact_of v cs.rest) }) (mapped_under forms_at g (guarded_each v cs.cases.items))

  pub list_joined : (a b out : Cases FieldsId) → guarded v out ≡ MF.joined_cases (guarded v a) (guarded v b) → list_cases_of v out ≡ MF.joined_cases (list_cases_of v a) (list_cases_of v b)
  list_joined a b out e =
      ap (with_values forms_at) e
      ∙ ap (λ l. record { cases = l; rest = M.one_of (fact_of v a.rest) (fact_of v b.rest) }) (map-append (with_value forms_at) (guarded_each v a.cases.items) (guarded_each v b.cases.items))

  pub list_nothing : (cs : Cases FieldsId) → guarded v cs ≡ MF.nothing_said → list_cases_of v cs ≡ MF.nothing_said
  list_nothing cs e = ap (with_values forms_at) e

  pub list_one : (cs : Cases FieldsId) (x : FieldsId) → guarded v cs ≡ MF.one_case x → list_cases_of v cs ≡ MF.one_case (v.fields x.0)
  list_one cs x e = ap (with_values forms_at) e

pub ruleset list_under_steps = (list_under, list_joined)

pub ruleset none_steps = (append-nil)

-- what is made of the first list, and of the later ones
pub added_first : {Y Z : Type 0} (v : Naming) (h : Y → Z) (f : MF.Forms → Z) (l : List (Case FieldsId)) (d : Case FieldsId) (out one all : List (Case Y)) (made : Y)
    → 1 ≤ length l → guarded_each v one ≡ guarded_each v out ++ MF.case_under (fact_of v (get_or l 0 d).guard) made [] → h made ≡ f (v.fields (get_or l 0 d).gives.0)
    → map (with_value h) (guarded_each v all) ≡ map (with_value h) (guarded_each v one) ++ each_with f (forms_cases v (take (length l - 1) (drop 1 l)))
    → map (with_value h) (guarded_each v all) ≡ map (with_value h) (guarded_each v out) ++ each_with f (forms_cases v l)
added_first v h f [] d out one all made n e m s = absurd (omega arith)
added_first v h f (x ∷ l) d out one all made n e m s =
    s ∙ ap (λ r. map (with_value h) (guarded_each v one) ++ each_with f (forms_cases v r)) (take_all (length (x ∷ l) - 1) l (omega arith))
    ∙ mapped_more h v one out (fact_of v x.guard) made (each_with f (forms_cases v l)) e
    ∙ ap (λ y. map (with_value h) (guarded_each v out) ++ MF.case_under (fact_of v x.guard) y (each_with f (forms_cases v l))) m

-- 2. one value for each
both_true : (g : M.Fact) → M.both_of g (M.known true) ≡ g
both_true (M.known true) = refl
both_true (M.known false) = refl
both_true _ = refl

both_false : (g : M.Fact) → M.both_of g (M.known false) ≡ M.known false
both_false (M.known true) = refl
both_false (M.known false) = refl
both_false _ = refl

one_false : (g : M.Fact) → M.one_of g (M.known false) ≡ g
one_false (M.known true) = refl
one_false (M.known false) = refl
one_false _ = refl

module _ {X Y : Type 0} (f : X → Y) where
  each_one : (cs : List (MF.Case X)) → MF.from_each cs (λ x. MF.one_case (f x)) ≡ record { cases = each_with f cs; rest = M.known false }
  each_one [] = refl
  each_one (c ∷ cs) =
      ap (λ r. MF.joined_cases (MF.under c.guard (MF.one_case (f c.gives))) r) (each_one cs)
      ∙ ap (λ g. record { cases = MF.case_under g (f c.gives) [] ++ each_with f cs; rest = M.one_of (M.both_of c.guard (M.known false)) (M.known false) }) (both_true c.guard)
      ∙ ap (λ g. record { cases = MF.case_under c.guard (f c.gives) [] ++ each_with f cs; rest = M.one_of g (M.known false) }) (both_false c.guard)
      ∙ ap (λ l. record { cases = l; rest = M.known false }) (sym (case_first c.guard (f c.gives) (each_with f cs)))

  pub then_one : (cs : MF.Cases X) → MF.then_cases cs (λ x. MF.one_case (f x)) ≡ record { cases = each_with f cs.cases; rest = cs.rest }
  then_one cs =
      ap (λ r. record { cases = r.cases; rest = M.one_of cs.rest r.rest }) (each_one cs.cases)
      ∙ ap (λ g. record { cases = each_with f cs.cases; rest = g }) (one_false cs.rest)

-- a form before the forms of each list
pub prefixed_seen : (v : Naming) (f : MF.Form) (r : M.Fact) (later out : List (Case FieldsId))
    → forms_cases v out ≡ each_with (MF.form_and f) (forms_cases v later)
    → record { cases = forms_cases v out; rest = r } ≡ MF.then_cases (record { cases = forms_cases v later; rest = r }) (λ gs. MF.one_case (MF.form_and f gs))
prefixed_seen v f r later out e = ap (λ l. record { cases = l; rest = r }) e ∙ sym (then_one (MF.form_and f) (record { cases = forms_cases v later; rest = r }))

-- what is made of each list of fields
pub wholes_seen : (v : Naming) (f : MF.Forms → MF.Form) (r : M.Fact) (lists : List (Case FieldsId)) (out : List (Case Form))
    → form_cases v out ≡ each_with f (forms_cases v lists)
    → record { cases = form_cases v out; rest = r } ≡ MF.then_cases (record { cases = forms_cases v lists; rest = r }) (λ fs. MF.one_case (f fs))
wholes_seen v f r lists out e = ap (λ l. record { cases = l; rest = r }) e ∙ sym (then_one f (record { cases = forms_cases v lists; rest = r }))

-- 3. values, one before others
pub opened_more : (types : List TypeEntry) (specs : Specs) (k : E.Known) (f : MF.Form) (rest : MF.Forms) (first : MF.Cases MF.Form) (later cs : MF.Cases MF.Forms)
    → first ≡ E.opened types specs k f → later ≡ E.opened_each types specs k rest → cs ≡ MF.then_cases first (λ g. MF.then_cases later (λ gs. MF.one_case (MF.form_and g gs)))
    → cs ≡ E.opened_each types specs k (MF.form_and f rest)
opened_more types specs k f rest first later cs h e made =
    made ∙ ap (λ c. MF.then_cases c (λ g. MF.then_cases later (λ gs. MF.one_case (MF.form_and g gs)))) h
    ∙ ap (λ c. MF.then_cases (E.opened types specs k f) (λ g. MF.then_cases c (λ gs. MF.one_case (MF.form_and g gs)))) e

-- the same of a list; d stands where there is none
pub opened_list : (v : Naming) (types : List TypeEntry) (specs : Specs) (k : E.Known) (l : List Form) (d : Form) (first : MF.Cases MF.Form) (later cs : MF.Cases MF.Forms)
    → 1 ≤ length l → first ≡ E.opened types specs k (form_of v (get_or l 0 d)) → later ≡ E.opened_each types specs k (forms_of v (take (length l - 1) (drop 1 l)))
    → cs ≡ MF.then_cases first (λ g. MF.then_cases later (λ gs. MF.one_case (MF.form_and g gs))) → cs ≡ E.opened_each types specs k (forms_of v l)
opened_list v types specs k [] d first later cs h e m made = absurd (omega arith)
opened_list v types specs k (x ∷ l) d first later cs h e m made =
    opened_more types specs k (form_of v x) (forms_of v l) first later cs e (m ∙ ap (λ r. E.opened_each types specs k (forms_of v r)) (take_all (length (x ∷ l) - 1) l (omega arith))) made

-- what comes of the first case, and of the later ones
pub each_first : {Y : Type 0} (v : Naming) (l : List (Case Form)) (d : Case Form) (k : MF.Form → MF.Cases Y) (here later cs : MF.Cases Y)
    → 1 ≤ length l → here ≡ k (form_of v (get_or l 0 d).gives) → later ≡ MF.from_each (form_cases v (take (length l - 1) (drop 1 l))) k
    → cs ≡ MF.joined_cases (MF.under (fact_of v (get_or l 0 d).guard) here) later → cs ≡ MF.from_each (form_cases v l) k
each_first v [] d k here later cs h e m made = absurd (omega arith)
each_first v (x ∷ l) d k here later cs h e m made =
    made
    ∙ ap (λ c. MF.joined_cases (MF.under (fact_of v x.guard) c) later) e
    ∙ ap (λ c. MF.joined_cases (MF.under (fact_of v x.guard) (k (form_of v x.gives))) c) (m ∙ ap (λ r. MF.from_each (form_cases v r) k) (take_all (length (x ∷ l) - 1) l (omega arith)))

-- the same of cases of lists; of is the first list
pub lists_first : {Y : Type 0} (v : Naming) (l : List (Case FieldsId)) (d : Case FieldsId) (of : List Form) (k : MF.Forms → MF.Cases Y) (here later cs : MF.Cases Y)
    → 1 ≤ length l → v.fields (get_or l 0 d).gives.0 ≡ forms_of v of → here ≡ k (forms_of v of) → later ≡ MF.from_each (forms_cases v (take (length l - 1) (drop 1 l))) k
    → cs ≡ MF.joined_cases (MF.under (fact_of v (get_or l 0 d).guard) here) later → cs ≡ MF.from_each (forms_cases v l) k
lists_first v [] d of k here later cs h is e m made = absurd (omega arith)
lists_first v (x ∷ l) d of k here later cs h is e m made =
    made
    ∙ ap (λ c. MF.joined_cases (MF.under (fact_of v x.guard) c) later) (e ∙ ap k (sym is))
    ∙ ap (λ c. MF.joined_cases (MF.under (fact_of v x.guard) (k (v.fields x.gives.0))) c) (m ∙ ap (λ r. MF.from_each (forms_cases v r) k) (take_all (length (x ∷ l) - 1) l (omega arith)))

-- what comes of cases, with their rest
pub then_seen : {X Y : Type 0} (values xs : MF.Cases X) (each cs : MF.Cases Y) (k : X → MF.Cases Y)
    → values ≡ xs → each ≡ MF.from_each values.cases k → cs ≡ rest_with values.rest each → cs ≡ MF.then_cases xs k
then_seen values xs each cs k e h made = made ∙ ap (rest_with values.rest) h ∙ ap (λ c. MF.then_cases c k) e
