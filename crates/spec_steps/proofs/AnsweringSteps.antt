-- Steps of what is assumed of answers.
use Rattle.std.proofs.Common.{◌≡◌, ◌<◌, ◌≤◌, ℕ, zero, suc, ◌-◌, Bool, true, List, [], ◌∷◌, ◌++◌, drop, get_or, length, map, take, slice_get, refl, ap, ◌∙◌, arith}
use Rattle.std.specs.List.{flat_map}
use Rattle.std.proofs.lemmas.List.{take_all}
use Rattle.laws_specs.specs.Conditions.{Condition}
use Rattle.laws_specs.specs.Specs.{Specs}
use Rattle.model.specs.rules.Program.{Program}
use Rattle.model.specs.sites.Serves.{term_args}
use Rattle.model.specs.sites.Sites.{SiteTerm, SiteTerms}
use Rattle.model_questions.specs.Evaluated as E
use Rattle.model_questions.specs.Forms as MF
use Rattle.model_questions.specs.Formulas as M
use Rattle.model_questions.specs.Steps as S
use Rattle.spec_cases.specs.declared.steps.Step.{Step}
use Rattle.spec_cases.specs.Expressions.{Saying}
use Rattle.spec_cases.specs.Namings.{Naming}
use Rattle.spec_steps.specs.Listing.{sites}
use Rattle.spec_steps.specs.Saying.{Adds}
use Rattle.spec_steps.proofs.AddingSteps.{adds_as, adds_then}

-- what a call provides, by its instance
pub provided_pure : (n : ℕ) (under ss : List S.Said) → n ≤ 0 → S.provided_steps n under ss ≡ map (S.assumed_under under) ss
provided_pure zero under ss h = refl
provided_pure (suc n) under ss h = absurd (omega arith)

pub provided_impure : (n : ℕ) (under ss : List S.Said) → 0 < n → S.provided_steps n under ss ≡ map S.assumed ss
provided_impure zero under ss h = absurd (omega arith)
provided_impure (suc n) under ss h = refl

pub ruleset provided_by = (provided_pure, provided_impure)

module _ (v : Naming) (w : Saying) (p : Program) (specs : Specs) (c : Condition) (done : List SiteTerm) (plan : M.Place → Bool) (t : ℕ) where
  pub constructed_by : (ss : SiteTerms) (n : ℕ) (u : SiteTerm) (old mid new : List Step) (f : MF.Form) (of : MF.Forms)
      → f ≡ S.form_at p specs c done u → of ≡ S.forms_at p specs c done ss
      → Adds v w old mid (S.split_form plan f)
      → Adds v w mid new (S.provided_steps n (S.requires_of specs t of) (S.provides_of specs t of f))
      → Adds v w old new (S.constructed p specs c done plan true t ss n u)
  constructed_by ss n u old mid new f of e h split made =
      adds_as v w old new _ _
      (ap (λ z. S.split_form plan z ++ S.provided_steps n (S.requires_of specs t of) (S.provides_of specs t of z)) e
      ∙ ap (λ z. S.split_form plan (S.form_at p specs c done u) ++ S.provided_steps n (S.requires_of specs t z) (S.provides_of specs t z (S.form_at p specs c done u))) h)
      (adds_then v w old mid new _ _ split made)

  pub extracted_by : (looked u : SiteTerm) (old one two new : List Step) (f : MF.Form) (of these : MF.Forms)
      → these ≡ E.fields_at (M.output_at u) 0 (term_args (slice_get p.terms t)) → of ≡ E.fields_at (M.output_at u) 0 (term_args (slice_get p.terms t))
      → f ≡ S.form_at p specs c done looked
      → Adds v w old one (S.split_each plan these)
      → Adds v w one two (S.field_splits p specs c plan (S.is_output_of u) c.constraints)
      → Adds v w two new (map S.assumed (S.requires_of specs t of) ++ map S.assumed (S.provides_of specs t of f))
      → Adds v w old new (S.extracted p specs c done plan true t looked u)
  extracted_by looked u old one two new f of these e h g split fields made =
      let outputs = E.fields_at (M.output_at u) 0 (term_args (slice_get p.terms t)) in
      let told = S.field_splits p specs c plan (S.is_output_of u) c.constraints in
      adds_as v w old new _ _
      (ap (λ z. S.split_each plan z ++ (told ++ (map S.assumed (S.requires_of specs t of) ++ map S.assumed (S.provides_of specs t of f)))) e
      ∙ ap (λ z. S.split_each plan outputs ++ (told ++ (map S.assumed (S.requires_of specs t z) ++ map S.assumed (S.provides_of specs t z f)))) h
      ∙ ap (λ z. S.split_each plan outputs ++ (told ++ (map S.assumed (S.requires_of specs t outputs) ++ map S.assumed (S.provides_of specs t outputs z)))) g)
      (adds_then v w old one new _ _ split (adds_then v w one two new _ _ fields made))

-- what is assumed of each, one before others
pub answers_first : (v : Naming) (f : SiteTerm → List S.Step) (l : List ℕ) → 1 ≤ length l
    → f (v.site (get_or l 0 0)) ++ flat_map f (sites v (take (length l - 1) (drop 1 l))) ≡ flat_map f (sites v l)
answers_first v f [] h = absurd (omega arith)
answers_first v f (s ∷ l) h = ap (λ r. f (v.site s) ++ flat_map f (sites v r)) (take_all (length (s ∷ l) - 1) l (omega arith))
