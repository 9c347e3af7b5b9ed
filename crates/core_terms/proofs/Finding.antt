-- What is found by names, after one more name, or one more thing with a name.
use Rattle.std.proofs.Common.{◌≡◌, ℕ, true, false, cond, nat_eq, List, [], ◌∷◌, ◌++◌, length, Option, Some, None, option_and_then, slice_get, refl, sym, ap, subst, ◌∙◌, arith, eqb-true}
use Rattle.std.proofs.lemmas.Grind.{common_steps}
use Rattle.model.specs.lists.Names.{number, with_name, IsDistinct, AreNumbersOf}
use Rattle.model.specs.rules.Outcome.{then_option}
use Rattle.model.proofs.ByNumber.{by_text, of_text, others, then_with}
use Rattle.model.proofs.FirstPlaces.{place_push_new, place_push_other}
use Rattle.model.proofs.Names.{with_missing, with_name_at}
use Rattle.core_terms.specs.Stages.{Finds, place_among}

module _ (names : List (List ℕ)) (at : ℕ → Option ℕ) (has : List ℕ → Option ℕ) (f : Finds names at has) where
  -- what is at the number of a text is what the text has
  pub at_number : (x : List ℕ) → at (number names x) ≡ has x
  at_number x = f.ids (number names x) ∙ of_text names has x (f.known x)

  -- what is looked up by a text is what the text has
  pub by_name : (look_up : List ℕ → Option ℕ) → AreNumbersOf names look_up → (x : List ℕ) → option_and_then at (look_up x) ≡ has x
  by_name look_up i x = by_text names look_up i.numbered i.named at has f.ids x (f.known x)

  -- a name is met, and nothing else
  pub finds_more : (x : List ℕ) (names' : List (List ℕ)) → names' ≡ with_name names x → (at' : ℕ → Option ℕ) → ((k : ℕ) → at' k ≡ at k) → Finds names' at' has
  finds_more x names' is at' same = grind (arith, common_steps, then_with names x has (f.known x), with_missing names x)

module _ (names : List (List ℕ)) (at : ℕ → Option ℕ) (ts : List (List ℕ)) (f : Finds names at (place_among ts)) (x : List ℕ) (names' : List (List ℕ)) (is : names' ≡ with_name names x) (look_up : List ℕ → Option ℕ) (i : AreNumbersOf names' look_up) (free : place_among ts x ≡ None) (at' : ℕ → Option ℕ) (adds : (k : ℕ) → at' k ≡ cond (nat_eq (number names x) k) (Some (length ts)) (at k)) where
  here_named : slice_get names' (number names x) ≡ Some x
  here_named = subst (λ ns. slice_get ns (number names x) ≡ Some x) (sym is) (with_name_at names x)

  once : IsDistinct names'
  once j k y p q = let first = i.numbered y j p in let second = i.numbered y k q in cc

  -- a name becomes that of the next place
  pub finds_next : Finds names' at' (place_among (ts ++ x ∷ []))
  finds_next = record {
    ids = λ k.
        adds k ∙ (elim (nat_eq (number names x) k) as (λ b. nat_eq (number names x) k ≡ b → cond b (Some (length ts)) (at k) ≡ then_option (slice_get names' k) (place_among (ts ++ x ∷ []))) [
          | true ↦ λ e.
              let here : slice_get names' k ≡ Some x = subst (λ j. slice_get names' j ≡ Some x) (eqb-true (number names x) k e) here_named in
              let next : place_among (ts ++ x ∷ []) x ≡ Some (length ts) = place_push_new 0 ts x free ∙ ap Some (omega arith) in
              sym (ap (λ o. then_option o (place_among (ts ++ x ∷ []))) here ∙ next)
          | false ↦ grind (arith, common_steps, then_with names x (place_among ts) (f.known x) k, others names' once (number names x) x here_named ts k)
        ] refl);
    known = grind (arith, common_steps, with_missing names x, place_push_other 0 ts x);
  }
