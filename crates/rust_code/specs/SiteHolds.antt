-- How types say that sites hold their values.
use Rattle.std.specs.Prelude.{ℕ, List}
use Rattle.model.specs.rules.Program.{Program, arg_types}
use Rattle.model.specs.sites.Sites.{Site, unfold_site}
use Rattle.model_code.specs.Modes.{place_in}
use Rattle.model_code.specs.SiteTypes.{is_copied_at, is_held_by_reference, mode_of}
use Rattle.rust_code.specs.HeldPasses.{Hold}

abbrev pub hold_of : Program → List ℕ → List Site → ℕ → Hold
hold_of p args sites s = record { mode = mode_of (is_held_by_reference p args (unfold_site sites s)); copied = is_copied_at p args sites (place_in sites s) }

-- of a site of a term
abbrev pub term_hold : Program → ℕ → List Site → ℕ → Hold
term_hold p t sites s = hold_of p (arg_types p t) sites s
