-- The numbers of names that were seen, while more names are met.
use Rattle.std.proofs.Common.{◌≡◌, ℕ, nat_eq, true, false, cond, List, [], ◌∷◌, ◌++◌, Option, Some, None, refl, sym, ap, ◌∙◌, arith}
use Rattle.std.specs.Option.{is_some}
use Rattle.std.proofs.lemmas.Bool.{false≢true}
use Rattle.std.proofs.lemmas.Grind.{common_steps}
use Rattle.model.specs.lists.Names.{number, with_name, AreNumbersOf}
use Rattle.model.specs.lists.TypeTable.{place_from}
use Rattle.core_syntax.specs.Stable.{Members}
use Rattle.core_types.specs.declared.ids.Sym.{Sym}
use Rattle.core_types.specs.FieldReading.{was_seen}
use Rattle.core_types.specs.VariantReading.{HasSeen}
use Rattle.model.proofs.ByNumber.{of_text}
use Rattle.core_types.proofs.Inverse.{inverse_distinct}
use Rattle.core_types.proofs.NumbersSeen.{seen_met, seen_push}
use Rattle.model.proofs.Names.{with_name_at}

pub none_seen : (names : List (List ℕ)) (seen : Members Sym) → ((k : ℕ) → was_seen seen k ≡ false) → HasSeen names seen []
none_seen names seen none = grind (arith, common_steps)

module _ (names : List (List ℕ)) (seen : Members Sym) (these : List (List ℕ)) (s : HasSeen names seen these) (x : List ℕ) where
  -- the number of a text was seen exactly where the text is one of the names
  pub seen_text : was_seen seen (number names x) ≡ is_some (place_from 0 x these)
  seen_text = s.numbers (number names x) ∙ ap is_some (of_text names (λ y. place_from 0 y these) x (s.known x))

  pub not_seen : was_seen seen (number names x) ≡ false → place_from 0 x these ≡ None
  not_seen e =
      elim (place_from 0 x these) as (λ o. is_some o ≡ false → o ≡ None) [
        | None ↦ λ _. refl
        | Some k ↦ λ h. absurd (false≢true (sym h))
      ] (sym seen_text ∙ e)

  -- one more name is met and seen
  pub one_seen : (seen' : Members Sym) (look : List ℕ → Option ℕ) → AreNumbersOf (with_name names x) look → was_seen seen (number names x) ≡ false → ((k : ℕ) → was_seen seen' k ≡ cond (nat_eq (number names x) k) true (was_seen seen k)) → HasSeen (with_name names x) seen' (these ++ x ∷ [])
  one_seen seen' look i new more =
      seen_push (with_name names x) seen these (seen_met names seen these s (x ∷ [])) (inverse_distinct (with_name names x) look i) (number names x) x (with_name_at names x) (not_seen new) seen' (λ y. more y.0)
