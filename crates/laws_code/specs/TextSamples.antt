-- Code of the sample's program that can be written, and near code that can't: on the program of the samples of code, with a constant
-- of the enum, named 7.
use Rattle.std.specs.Prelude.{◌≡◌, ◌∷◌, [], ℕ, Bool, true, false, List}
use Rattle.model.specs.sites.Sites.{Site, Constraint, is_variant, is_prim, argument_site, make_variant_site}
use Rattle.model.specs.trees.Trees.{Tree, no_step, step, match_at, return_at, no_arm, arm}
use Rattle.model_code.specs.Code.{Pass, lent, cloned}
use Rattle.model_code.specs.TreeCode.{Passes, tree_code}
use Rattle.model_code.specs.Modes.{passes_of}
use Rattle.model_code.specs.Samples.{somewhere, sites, tree}
use Rattle.model_code.specs.SiteTypes.{types_of}
use Rattle.model_code.specs.Notation.{ReturnForm, gives_one, gives_option, gives_many}
use Rattle.model_code.specs.ProgramNotation.{notation_of}
use Rattle.model_code.specs.ReadsBack.{writable}
use Rattle.laws_code.specs.TypedSamples.{with_constants}
use Rattle.laws_code.specs.WritableCode.{LooksAtMatched}

abbrev pub by_types : Passes
by_types = passes_of (types_of with_constants (1 ∷ []) sites) false sites

abbrev pub all_by : Pass → Passes
all_by pass s taker = pass

abbrev pub is_written : ReturnForm → Tree → List Site → Passes → Bool
is_written kind t ss passes = writable (notation_of with_constants kind false) false (tree_code t ss passes)

-- a test of the argument with fields, and what is given then
abbrev pub tests : Constraint → Tree
tests c = step [] (match_at 0 (arm c [] (step [] (return_at somewhere 0) no_step) no_arm)) no_step

-- the enum's variant 1 has two fields; this one is made of so many
abbrev pub makes : List ℕ → List Site
makes fields = argument_site 0 ∷ (make_variant_site 1 1 fields ∷ [])

abbrev pub makes_it : Tree
makes_it = step (1 ∷ []) (return_at somewhere 1) no_step

pub record WritableCodeIsJudged : Type 0 where
  -- the sample's tree, whatever the term gives
  pub one_written : is_written gives_one tree sites by_types ≡ true
  pub option_written : is_written gives_option tree sites by_types ≡ true
  pub many_written : is_written gives_many tree sites by_types ≡ true
  -- a pattern that says another number of fields than its variant has, which no rule that is well typed asks
  pub fields_unlike : is_written gives_one (tests (is_variant 1 0 0)) sites by_types ≡ false
  -- what is made of as many fields as the variant has, and of one less, as no site of a built set is
  pub made_written : is_written gives_one makes_it (makes (0 ∷ (0 ∷ []))) by_types ≡ true
  pub made_unlike : is_written gives_one makes_it (makes (0 ∷ [])) by_types ≡ false
  -- a constant of the enum: what is matched is handed on as it is or by reference, but it can't be cloned
  pub constant_written : is_written gives_one (tests (is_prim 7)) sites by_types ≡ true
  pub lent_written : is_written gives_one (tests (is_prim 7)) sites (all_by lent) ≡ true
  pub cloned_unwritten : is_written gives_one (tests (is_prim 7)) sites (all_by cloned) ≡ false
  pub lent_looks : LooksAtMatched (all_by lent)
  pub cloned_looks : LooksAtMatched (all_by cloned) → ⊥
