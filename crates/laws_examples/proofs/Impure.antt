-- The sample with an impure call: wherever its rule is taken, the call isn't emitted, so it is made.
use Rattle.std.proofs.Common.{◌≡◌, ◌∷◌, [], ◌++◌, if◌then◌else◌, ◌∙◌, ◌||◌, ℕ, Bool, false, List, Some, slice_get, IsTrue, sym, ap, subst, inl, inr, not, filter, arith}
use Rattle.std.proofs.lemmas.Grind.{common_steps}
use Rattle.std.proofs.lemmas.Bool.{cases_Bool, false≢true}
use Rattle.std.proofs.lemmas.Option.{none-some, same_Some}
use Rattle.std.proofs.lemmas.List.Elements.{All-contains}
use Rattle.model.proofs.Members.{each_passes, in_head}
use Rattle.model.specs.rules.Meaning.{Meaning, impure_answer}
use Rattle.model.specs.rules.Outcome.{Outcome}
use Rattle.model.specs.rules.Values.{Value}
use Rattle.model.specs.sites.Sites.{constructor_site}
use Rattle.model.specs.trees.Collects.{IsPureSite, IsPureAt}
use Rattle.model.specs.trees.Places.{all_below, bind_order, is_in, is_in_place, nothing_around, return_uses, waits}
use Rattle.model.specs.trees.SetRuns.{IsTaken}
use Rattle.laws_examples.specs.Impure.{ImpureIsCalled, after_call, call_on_argument, im_called, impure_set}

-- what is bound, where the call and the argument are emitted or not
abbrev order : Bool → Bool → List ℕ
order call arg =
    let first = if call || false then [] else (if arg || false then [] else [] ++ 0 ∷ []) ++ 1 ∷ [] in
    filter (λ s. not (is_in_place (slice_get impure_set.sites s))) (if call || is_in 1 first then first else (if arg || is_in 0 first then first else first ++ 0 ∷ []) ++ 1 ∷ [])

taken_at_start : (m : Meaning) (v : Value) → IsTaken (im_called m v) call_on_argument (after_call v (impure_answer m 0 0))
taken_at_start m v = record {
  around = nothing_around;
  env = [];
  reached = record { emitted = λ s i. absurd (false≢true i); pure = λ s i. absurd (false≢true i); bound = λ s c e. absurd (none-some c e) };
  gates = λ s c. inl (grind (arith, each_passes));
  demanded = λ s source e c g. absurd (false≢true (sym (grind (arith, each_passes)) ∙ ap waits e));
  outcome = sym (grind (arith, common_steps));
}

module _ (m : Meaning) (v : Value) (o : Outcome) (t : IsTaken (im_called m v) call_on_argument o) where
  call_impure : IsTrue (is_in 1 t.around.emitted) → ⊥
  call_impure i =
      let p = All-contains (IsPureAt impure_set.sites) (all_below impure_set.sites (1 ∷ [])) 1 (t.reached.pure 1 i) (in_head 1 (0 ∷ [])) in
      subst IsPureSite (sym (same_Some (constructor_site 0 (0 ∷ []) 1) p.0 p.1)) p.2

  not_emitted : is_in 1 t.around.emitted ≡ false
  not_emitted = elim (cases_Bool (is_in 1 t.around.emitted)) [ inl i ↦ absurd (call_impure i) | inr f ↦ f ]

  call_bound : bind_order impure_set.sites t.around (return_uses (Some call_on_argument)) ≡ 1 ∷ []
  call_bound = ap (λ c. order c (is_in 0 t.around.emitted)) not_emitted ∙ (grind (arith, common_steps))

  called : o ≡ after_call v (impure_answer m 0 0)
  called = grind (arith, common_steps, call_bound)

pub impure_is_called : ImpureIsCalled
impure_is_called = record { can_be_taken = taken_at_start; makes_the_call = λ m v o t. called m v o t }
