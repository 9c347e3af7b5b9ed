-- How sites are handed on, by what is known of each site.
use Rattle.std.specs.Prelude.{◌≡◌, ◌||◌, ℕ, Bool, true, List}
use Rattle.model.specs.sites.Sites.{Site}
use Rattle.model_code.specs.Code.{Place, part_of, Pass}
use Rattle.model_code.specs.TreeCode.{Taker, to_extractor, to_parameter, to_field, to_some, to_match, to_compare, to_result, Passes}
use Rattle.model_code.specs.Modes.{BindingMode, Types, mode_at, is_new, is_value, lend, keep_or_clone, hand_back, look_at, place_in}

-- whether a site is held by reference, and whether it is copied
pub record Hold : Type 0 where
  pub mode : BindingMode
  pub copied : Bool

-- a part of a tuple is owned where the tuple is
abbrev pub owned_by : (ℕ → Hold) → Place → Bool
owned_by h (part_of v i) = is_value (h v).mode
owned_by h place = true

abbrev pub pass_by : (ℕ → Hold) → Bool → Hold → Place → Taker → Pass
pass_by h multi here place (to_extractor term) = lend here.mode here.copied
pass_by h multi here place (to_parameter term i) = lend here.mode here.copied
pass_by h multi here place to_field = keep_or_clone (is_new place || here.copied)
pass_by h multi here place to_some = keep_or_clone (is_new place || here.copied)
pass_by h multi here place to_match = lend here.mode here.copied
pass_by h multi here place (to_compare other) = look_at here.mode (h other).mode
pass_by h multi here place to_result = hand_back here.mode (is_new place || here.copied) (owned_by h place) multi

abbrev pub passes_by : (ℕ → Hold) → Bool → List Site → Passes
passes_by h multi sites s taker = pass_by h multi (h s) (place_in sites s) taker

-- what is known is what types say
pub record HoldsAs (types : Types) (sites : List Site) (h : ℕ → Hold) : Type 0 where
  pub variables : (s : ℕ) → (h s).mode ≡ types.variables s
  pub places : (s : ℕ) → (h s).mode ≡ mode_at types (place_in sites s)
  pub copies : (s : ℕ) → (h s).copied ≡ types.is_copy (place_in sites s)
