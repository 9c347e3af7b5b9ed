-- A rule demands every gate though its if-let leaves a call unused; and a meaning serves a rule that makes a call twice.
use Rattle.std.proofs.Common.{◌≡◌, ◌∷◌, [], ℕ, pos, zero, suc, Bool, true, false, Option, Some, IsSomeAnd, IsTrue, refl, subst, slice_get, arith}
use Rattle.std.proofs.lemmas.Grind.{common_steps}
use Rattle.std.proofs.lemmas.Bool.{false≢true}
use Rattle.std.proofs.lemmas.Option.{none-some, same_Some}
use Rattle.model.specs.rules.Meaning.{Content, pure_answer}
use Rattle.model.specs.rules.Outcome.{then_option}
use Rattle.model.specs.rules.Picks.{Pick, place_of, site_values}
use Rattle.model.specs.rules.Program.{kind}
use Rattle.model.specs.rules.Values.{Values, no_value, value_and}
use Rattle.model.specs.sites.Serves.{fits_constructor}
use Rattle.model.specs.sites.Sites.{SiteTerm, SiteTerms, argument, constructor_call, extractor_call, no_site_term, pick_of, site_term_and}
use Rattle.model.specs.trees.Run.{as_value}
use Rattle.laws_examples.proofs.Served.{serves_from}
use Rattle.laws_examples.proofs.SetStages.{collected_rule}
use Rattle.laws_examples.specs.MeaningForms.{alone, each, given}
use Rattle.laws_examples.specs.MultiCalls.{DemandsGatesThough, LeavesACallUnused, OneCallIsServed, calls_meaning, calls_program, pure_twice, unused_condition, unused_gate_rule, unused_gate_set}
use Rattle.laws_examples.specs.SetForms.{a0, one_source}

-- 1. an if-let leaves a call unused
pub demands_gates_though : DemandsGatesThough
demands_gates_though = (λ h. false≢true h, (refl, refl), collected_rule unused_gate_set.sites unused_gate_rule refl)

pub unused_condition_leaves_a_call : LeavesACallUnused unused_condition
unused_condition_leaves_a_call h = false≢true h

-- 2. a rule makes a call twice
abbrev call_of_m : SiteTerm
call_of_m = constructor_call 1 (one_source a0) 0

-- the call of m, and that of pr on its answer
abbrev twice_called : SiteTerm → Bool
twice_called (constructor_call (suc zero) (site_term_and (argument zero) no_site_term) zero) = true
twice_called (constructor_call (suc (suc zero)) (site_term_and (pick_of (constructor_call (suc zero) (site_term_and (argument zero) no_site_term) zero)) (site_term_and (pick_of (constructor_call (suc zero) (site_term_and (argument zero) no_site_term) zero)) no_site_term)) zero) = true
twice_called (constructor_call t ss i) = false
twice_called (extractor_call t s) = false
twice_called u = true

abbrev IsAnswered : Values → ℕ → Type 0
IsAnswered vs t = IsSomeAnd (pure_answer calls_meaning t vs) (λ c. IsTrue (fits_constructor calls_program t (kind calls_program t) c))

-- a content as two arguments
abbrev both : Option Content → Option Values
both o = then_option (then_option o as_value) (λ x. then_option (then_option (then_option o as_value) (λ y. Some (value_and y no_value))) (λ ys. Some (value_and x ys)))

-- the answer at one place
pair_answered : (place : Option ℕ) (vs : Values) → both (then_option place (slice_get (each (pos 4 ∷ pos 5 ∷ [])))) ≡ Some vs → IsAnswered vs 2
pair_answered place vs e = grind (arith, common_steps, none-some, same_Some)

calls_answered : (k : Pick) (t : ℕ) (ss : SiteTerms) (vs : Values) → twice_called (constructor_call t ss 0) ≡ true → site_values calls_meaning (given (pos 1)) k ss ≡ Some vs → IsAnswered vs t
calls_answered k (suc zero) (site_term_and (argument zero) no_site_term) vs h e = subst (λ u. IsAnswered u 1) (same_Some (alone (pos 1)) vs e) refl
calls_answered k (suc (suc zero)) (site_term_and (pick_of (constructor_call (suc zero) (site_term_and (argument zero) no_site_term) zero)) (site_term_and (pick_of (constructor_call (suc zero) (site_term_and (argument zero) no_site_term) zero)) no_site_term)) vs h e =
    pair_answered (place_of k call_of_m) vs e
calls_answered k _ _ vs h e = absurd (false≢true h)

pub one_call_is_served : OneCallIsServed
one_call_is_served = (
  refl,
  serves_from calls_program calls_meaning twice_called (given (pos 1)) (pure_twice ∷ []) refl refl
      (λ k t s w h holds. absurd (false≢true h)) calls_answered (λ k r t before ss i matched made h gave. absurd (grind arith)),
)
