-- Sets of the numbers of names.
use Rattle.std.proofs.Common.{◌≡◌, ℕ, true, false, cond, List, [], ◌∷◌, ◌++◌, Some, None, is_some, slice_get, ap, ◌∙◌, arith}
use Rattle.std.specs.Str.{bytes_eq}
use Rattle.std.proofs.lemmas.Grind.{common_steps}
use Rattle.model.specs.lists.Names.{has_name, with_names, IsDistinct}
use Rattle.model.specs.rules.Outcome.{then_option}
use Rattle.model.specs.lists.TypeTable.{place_from}
use Rattle.core_syntax.specs.Stable.{Members, contains}
use Rattle.core_types.specs.declared.ids.Sym.{Sym}
use Rattle.core_types.specs.Envs.{same_symbol, symbol}
use Rattle.core_types.specs.VariantReading.{HasSeen}
use Rattle.model.proofs.ByNumber.{then_withs, others}
use Rattle.model.proofs.Bytes.{same_bytes}
use Rattle.model.proofs.FirstPlaces.{place_push_new, place_push_other}
use Rattle.model.proofs.Names.{absent, missing_before}

module _ (ns : List (List ℕ)) (seen : Members Sym) (earlier : List (List ℕ)) (h : HasSeen ns seen earlier) where
  -- more names are met
  pub seen_met : (xs : List (List ℕ)) → HasSeen (with_names ns xs) seen earlier
  seen_met xs = grind (arith, common_steps, then_withs ns xs (λ y. place_from 0 y earlier) h.known, missing_before ns xs)

  -- the set has a name's number exactly if the name is an earlier one
  pub seen_number : (n : ℕ) (x : List ℕ) → slice_get ns n ≡ Some x → contains same_symbol seen (symbol n) ≡ is_some (place_from 0 x earlier)
  seen_number n x at = h.numbers n ∙ ap (λ o. is_some (then_option o (λ y. place_from 0 y earlier))) at

  module _ (once : IsDistinct ns) (n : ℕ) (x : List ℕ) (at : slice_get ns n ≡ Some x) (new : place_from 0 x earlier ≡ None) where
    missing_text : (y : List ℕ) → has_name ns y ≡ false → bytes_eq x y ≡ false
    missing_text y e = grind (arith, common_steps, absent ns y e n, same_bytes x y)

    -- the number of one more name is put into the set
    pub seen_push : (more : Members Sym) → ((y : Sym) → contains same_symbol more y ≡ cond (same_symbol (symbol n) y) true (contains same_symbol seen y)) → HasSeen ns more (earlier ++ x ∷ [])
    seen_push more has = grind (arith, common_steps, place_push_new 0 earlier x new, others ns once n x at earlier, place_push_other 0 earlier x, missing_text)
