-- By computing.
use Rattle.std.proofs.Common.{◌≡◌, [], ℕ, pos, Bool, false, refl, sym, ◌∙◌, arith}
use Rattle.std.proofs.lemmas.Grind.{common_steps}
use Rattle.std.proofs.lemmas.Bool.{false≢true}
use Rattle.model.specs.rules.Program.{arg_types}
use Rattle.model.specs.sites.Sites.{Constraint, is_int, unfold_site}
use Rattle.model.proofs.Members.{in_head}
use Rattle.model_code.specs.Modes.{pattern_typed}
use Rattle.model_code.specs.Samples.{sites, is_a}
use Rattle.model_code.specs.SiteTypes.{types_at, are_copied}
use Rattle.laws_code.specs.TypedTrees.{ConstrainsByTypes}
use Rattle.laws_code.specs.TypedSamples.{with_constants, a_rule, asks, ConstraintsAreJudged}

-- whether it is of the type of the site
abbrev is_typed : ℕ × Constraint → Bool
is_typed d = pattern_typed d.1 (are_copied with_constants (types_at with_constants (arg_types with_constants 0) (unfold_site sites d.0)))

not_asked : (s : ℕ) (c : Constraint) → is_typed (s, c) ≡ false → ConstrainsByTypes with_constants 0 (asks s c) → ⊥
not_asked s c h k = false≢true (sym h ∙ k (a_rule s c) s c (in_head (a_rule s c) []) (in_head (s, c) []))

pub constraints_are_judged_lem : ConstraintsAreJudged
constraints_are_judged_lem = grind (arith, common_steps, not_asked 1 is_a refl, not_asked 0 (is_int (pos 5) 2) refl, not_asked)
