-- What tables of terms say, by the terms' numbers.
use Rattle.std.proofs.Common.{◌≡◌, ◌+◌, ℕ, zero, suc, List, [], ◌∷◌, map, Option, Some, None, option_map, if◌then◌else◌, slice_get, refl, sym, ap, ◌∙◌, arith, eq-eqb}
use Rattle.std.proofs.lemmas.Bool.{ne_eqb}
use Rattle.std.proofs.lemmas.Option.{slice_get-map}
use Rattle.std.specs.Bool.{◌==◌}
use Rattle.model.specs.lists.Tables.{TermEntry}
use Rattle.model.specs.rules.Meaning.{look}
use Rattle.model.specs.sites.Serves.{term_args, term_results}
use Rattle.laws_specs.specs.Specs as L
use Rattle.spec_cases.specs.Expressions.{Saying}
use Rattle.spec_steps.specs.declared.demands.Signature.{Signature}
use Rattle.spec_steps.specs.declared.demands.TermSaid.{TermSaid}
use Rattle.spec_steps.specs.Demands.{args_of, results_of, provided_of, required_of}
use Rattle.spec_asked.specs.declared.tables.SpecTables.{SpecTables}
use Rattle.spec_asked.specs.Tables.{entry_types, signature_view, spec_view, spec_views, specs_of}

-- 1. what is said of a term
looked_at : (w : Saying) (n i m : ℕ) (ss : List TermSaid) → n + i ≡ m → look (λ k. k == m) (spec_views w n ss) ≡ option_map (spec_view w) (slice_get ss i)
looked_at w n i m [] e = refl
looked_at w n zero m (s ∷ ss) e = ap (λ b. if b then Some (spec_view w s) else look (λ k. k == m) (spec_views w (suc n) ss)) (eq-eqb n m (omega (arith, e)))
looked_at w n (suc i) m (s ∷ ss) e =
    ap (λ b. if b then Some (spec_view w s) else look (λ k. k == m) (spec_views w (suc n) ss)) (ne_eqb n m (λ h. omega (arith, e, h)))
    ∙ looked_at w (suc n) i m ss (omega (arith, e))

require_said : (w : Saying) (o : Option TermSaid) → (L.or_no_spec (option_map (spec_view w) o)).require ≡ map (λ e. w.expr e.0) (required_of o)
require_said w None = refl
require_said w (Some s) = refl

provide_said : (w : Saying) (o : Option TermSaid) → (L.or_no_spec (option_map (spec_view w) o)).provide ≡ map (λ e. w.expr e.0) (provided_of o)
provide_said w None = refl
provide_said w (Some s) = refl

module _ (d : SpecTables) (w : Saying) (unknowns : L.Unknowns) (t : ℕ) where
  spec_there : L.spec_of (specs_of d w unknowns) t ≡ L.or_no_spec (option_map (spec_view w) (slice_get d.said.now t))
  spec_there = ap L.or_no_spec (looked_at w 0 t t d.said.now (omega arith))

  pub required_there : (L.spec_of (specs_of d w unknowns) t).require ≡ map (λ e. w.expr e.0) (required_of (slice_get d.said.now t))
  required_there = ap (λ (s : L.Spec). s.require) spec_there ∙ require_said w (slice_get d.said.now t)

  pub provided_there : (L.spec_of (specs_of d w unknowns) t).provide ≡ map (λ e. w.expr e.0) (provided_of (slice_get d.said.now t))
  provided_there = ap (λ (s : L.Spec). s.provide) spec_there ∙ provide_said w (slice_get d.said.now t)

-- 2. the types of a term
abbrev args_in : Option (List ℕ × ℕ) → List ℕ
args_in None = []
args_in (Some s) = s.0

abbrev results_in : Option (List ℕ × ℕ) → List ℕ
results_in None = []
results_in (Some s) = s.1 ∷ []

entry_args : (o : Option TermEntry) → term_args o ≡ args_in (option_map entry_types o)
entry_args None = refl
entry_args (Some e) = refl

entry_results : (o : Option TermEntry) → term_results o ≡ results_in (option_map entry_types o)
entry_results None = refl
entry_results (Some e) = refl

signed_args : (o : Option Signature) → args_of o ≡ args_in (option_map signature_view o)
signed_args None = refl
signed_args (Some s) = refl

signed_results : (o : Option Signature) → results_of o ≡ results_in (option_map signature_view o)
signed_results None = refl
signed_results (Some s) = refl

module _ (signatures : List Signature) (terms : List TermEntry) (are : map signature_view signatures ≡ map entry_types terms) (t : ℕ) where
  types_there : option_map entry_types (slice_get terms t) ≡ option_map signature_view (slice_get signatures t)
  types_there = sym (slice_get-map entry_types terms t) ∙ ap (λ l. slice_get l t) (sym are) ∙ slice_get-map signature_view signatures t

  pub args_there : term_args (slice_get terms t) ≡ args_of (slice_get signatures t)
  args_there = entry_args (slice_get terms t) ∙ ap args_in types_there ∙ sym (signed_args (slice_get signatures t))

  pub results_there : term_results (slice_get terms t) ≡ results_of (slice_get signatures t)
  results_there = entry_results (slice_get terms t) ∙ ap results_in types_there ∙ sym (signed_results (slice_get signatures t))
