-- What is known of sites, and the passes by it.
use Rattle.std.specs.Prelude.{ℕ, true, List, Option, Some, None, slice_get}
use Rattle.model_code.specs.Modes.{a_value}
use Rattle.model_code.specs.SiteTypes.{mode_of}
use Rattle.model_code.specs.TreeCode.{Passes}
use Rattle.core_rule_sets.specs.SiteViews.{site_views}
use Rattle.rust_code.specs.declared.held.Held.{Held}
use Rattle.rust_code.specs.declared.stage.Stage.{Stage}
use Rattle.rust_code.specs.HeldPasses.{Hold, passes_by}

abbrev pub hold_view : Held → Hold
hold_view h = record { mode = mode_of h.is_reference; copied = h.is_copied }

abbrev pub hold_at : Option Held → Hold
hold_at None = record { mode = a_value; copied = true }
hold_at (Some h) = hold_view h

abbrev pub hold_in : List Held → ℕ → Hold
hold_in held s = hold_at (slice_get held s)

-- how the sites of a stage are handed on
abbrev pub passes_in : Stage → Passes
passes_in stage = passes_by (hold_in stage.held.now) stage.multi (site_views stage.sites.now)
