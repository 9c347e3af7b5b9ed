-- Steps that are added, one after another.
use Rattle.std.proofs.Common.{◌≡◌, ◌≤◌, ◌-◌, Bool, List, [], ◌∷◌, ◌++◌, drop, get_or, length, take, ap, ◌∙◌, arith}
use Rattle.std.proofs.lemmas.List.{append_assoc, take_all}
use Rattle.laws_specs.specs.Conditions.{Condition}
use Rattle.laws_specs.specs.Specs.{Specs}
use Rattle.model.specs.rules.Program.{Program}
use Rattle.model_questions.specs.Formulas as M
use Rattle.model_questions.specs.Steps as S
use Rattle.spec_cases.specs.declared.forms.Form.{Form}
use Rattle.spec_cases.specs.declared.steps.Step.{Step}
use Rattle.spec_cases.specs.Expressions.{Saying}
use Rattle.spec_cases.specs.Namings.{Naming, form_of, forms_of}
use Rattle.spec_cases.specs.Steps.{constraint_view, step_views}
use Rattle.spec_steps.specs.declared.demands.Tested.{Tested}
use Rattle.spec_steps.specs.Demands.{tested_views}
use Rattle.spec_steps.specs.Roots.{plan}
use Rattle.spec_steps.specs.Saying.{Adds}

module _ (v : Naming) (w : Saying) (old mid new : List Step) where
  pub adds_then : (a b : List S.Step) → Adds v w old mid a → Adds v w mid new b → Adds v w old new (a ++ b)
  adds_then a b e f = f ∙ ap (λ l. l ++ b) e ∙ append_assoc (step_views v w old) a b

module _ (v : Naming) (w : Saying) (old new : List Step) where
  pub adds_as : (a b : List S.Step) → a ≡ b → Adds v w old new a → Adds v w old new b
  adds_as a b e made = made ∙ ap (λ l. step_views v w old ++ l) e

-- the places of values, one before others
pub split_first : (v : Naming) (flag : Bool) (l : List Form) (d : Form) → 1 ≤ length l
    → S.split_form (plan flag) (form_of v (get_or l 0 d)) ++ S.split_each (plan flag) (forms_of v (take (length l - 1) (drop 1 l))) ≡ S.split_each (plan flag) (forms_of v l)
split_first v flag [] d h = absurd (omega arith)
split_first v flag (f ∷ l) d h = ap (λ r. S.split_form (plan flag) (form_of v f) ++ S.split_each (plan flag) (forms_of v r)) (take_all (length (f ∷ l) - 1) l (omega arith))

module _ (v : Naming) (p : Program) (specs : Specs) (c : Condition) where
  -- what constraints tell, one before others
  pub told_first : (l : List Tested) (d : Tested) → 1 ≤ length l
      → S.told_as (S.told_form p specs c (v.site (get_or l 0 d).site)) (constraint_view (get_or l 0 d).constraint) ∷ S.told_steps p specs c (tested_views v (take (length l - 1) (drop 1 l)))
      ≡ S.told_steps p specs c (tested_views v l)
  told_first [] d h = absurd (omega arith)
  told_first (t ∷ l) d h =
      ap (λ r. S.told_as (S.told_form p specs c (v.site t.site)) (constraint_view t.constraint) ∷ S.told_steps p specs c (tested_views v r)) (take_all (length (t ∷ l) - 1) l (omega arith))

  pub splits_first : (flag : Bool) (root : M.Place → Bool) (l : List Tested) (d : Tested) → 1 ≤ length l
      → S.told_splits p specs c (plan flag) root (v.site (get_or l 0 d).site) (constraint_view (get_or l 0 d).constraint) ++ S.field_splits p specs c (plan flag) root (tested_views v (take (length l - 1) (drop 1 l)))
      ≡ S.field_splits p specs c (plan flag) root (tested_views v l)
  splits_first flag root [] d h = absurd (omega arith)
  splits_first flag root (t ∷ l) d h =
      ap (λ r. S.told_splits p specs c (plan flag) root (v.site t.site) (constraint_view t.constraint) ++ S.field_splits p specs c (plan flag) root (tested_views v r)) (take_all (length (t ∷ l) - 1) l (omega arith))
