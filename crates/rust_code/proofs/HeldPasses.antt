-- Passes by what is known of sites are those by types.
use Rattle.std.proofs.Common.{◌≡◌, ◌||◌, ℕ, suc, Bool, List, [], ◌∷◌, map, refl, ap, ◌∙◌}
use std.Path.{fun_ext}
use Rattle.model.specs.sites.Sites.{Site}
use Rattle.model_code.specs.Code.{Place, variable, parameter, part_of, int_written, name_written, variant_written, struct_written}
use Rattle.model_code.specs.TreeCode.{Taker, to_extractor, to_parameter, to_field, to_some, to_match, to_compare, to_result, use_at, arguments_from}
use Rattle.model_code.specs.Modes.{Types, mode_at, is_new, is_value, is_owned, lend, keep_or_clone, hand_back, look_at, place_in, passes_of}
use Rattle.rust_code.specs.HeldPasses.{Hold, owned_by, passes_by, HoldsAs}

module _ (types : Types) (sites : List Site) (h : ℕ → Hold) (a : HoldsAs types sites h) where
  owned_same : (q : Place) → owned_by h q ≡ is_owned types q
  owned_same (variable v) = refl
  owned_same (parameter i) = refl
  owned_same (part_of v i) = ap is_value (a.variables v)
  owned_same (int_written z ty) = refl
  owned_same (name_written name) = refl
  owned_same (variant_written ty variant) = refl
  owned_same (struct_written ty) = refl

  abbrev place : ℕ → Place
  place s = place_in sites s

  lend_same : (s : ℕ) → lend (h s).mode (h s).copied ≡ lend (mode_at types (place s)) (types.is_copy (place s))
  lend_same s = ap (λ m. lend m (h s).copied) (a.places s) ∙ ap (lend (mode_at types (place s))) (a.copies s)

  keep_same : (s : ℕ) → keep_or_clone (is_new (place s) || (h s).copied) ≡ keep_or_clone (is_new (place s) || types.is_copy (place s))
  keep_same s = ap (λ c. keep_or_clone (is_new (place s) || c)) (a.copies s)

  pass_same : (multi : Bool) (s : ℕ) (taker : Taker) → passes_by h multi sites s taker ≡ passes_of types multi sites s taker
  pass_same multi s (to_extractor term) = lend_same s
  pass_same multi s (to_parameter term i) = lend_same s
  pass_same multi s to_field = keep_same s
  pass_same multi s to_some = keep_same s
  pass_same multi s to_match = lend_same s
  pass_same multi s (to_compare other) = ap (λ m. look_at m (h other).mode) (a.places s) ∙ ap (look_at (mode_at types (place s))) (a.places other)
  pass_same multi s to_result =
      ap (λ m. hand_back m (is_new (place s) || (h s).copied) (owned_by h (place s)) multi) (a.places s)
      ∙ ap (λ c. hand_back (mode_at types (place s)) (is_new (place s) || c) (owned_by h (place s)) multi) (a.copies s)
      ∙ ap (λ o. hand_back (mode_at types (place s)) (is_new (place s) || types.is_copy (place s)) o multi) (owned_same (place s))

  pub passes_same : (multi : Bool) → passes_by h multi sites ≡ passes_of types multi sites
  passes_same multi = fun_ext (λ s. fun_ext (λ taker. pass_same multi s taker))

-- a parameter is lent as what is matched
pub arguments_lent : (h : ℕ → Hold) (multi : Bool) (sites : List Site) (term i : ℕ) (ss : List ℕ)
    → arguments_from sites (passes_by h multi sites) term i ss ≡ map (use_at sites (passes_by h multi sites) to_match) ss
arguments_lent h multi sites term i [] = refl
arguments_lent h multi sites term i (s ∷ rest) = ap (λ l. use_at sites (passes_by h multi sites) to_match s ∷ l) (arguments_lent h multi sites term (suc i) rest)
