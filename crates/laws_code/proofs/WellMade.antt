-- The code of accepted definitions is well made: what code by types, and moves in place of clones, keep.
use Rattle.std.proofs.Common.{◌≡◌, [], ℕ, false, Option, sym, ap, ◌∙◌, arith}
use Rattle.std.proofs.lemmas.Grind.{common_steps}
use Rattle.model.specs.rules.Program.{Program, is_multi, arg_types}
use Rattle.model.specs.trees.Run.{World, at_start}
use Rattle.model.specs.claims.Layers.{own_program, LoweredTerm}
use Rattle.laws_typing.proofs.WellTypedRules.{read_programs_are_well_typed}
use Rattle.model_code.specs.Code.{Block}
use Rattle.model_code.specs.CodeRuns.{outcome_of, code_run}
use Rattle.model_code.specs.TreeCode.{tree_code}
use Rattle.model_code.specs.Flat.{flat}
use Rattle.model_code.specs.Modes.{passes_of, PassesByTypesFit}
use Rattle.model_code.specs.MovedOnce.{FittingCodeMovesOnce}
use Rattle.model_code.specs.Saving.{WithMovesSaysSame, WithMovesIsMadeWell}
use Rattle.model_code.specs.SiteTypes.{types_of}
use Rattle.laws_code.specs.CodeChoices.{MeansItsSource, CodeChoosesAsSource}
use Rattle.laws_code.specs.CodeScopes.{CodeOfAcceptedIsScoped}
use Rattle.laws_code.specs.CodeMoves.{CodeOfAcceptedTakesOnce}
use Rattle.laws_code.specs.TypedTrees.{TypedSetsHaveTypedTrees, BuiltSetsAreTyped, BuiltSetsConstrainByTypes, CodeOfAcceptedIsWellMade, CodeOfEachTermIsWellMade}

-- what runs the same means the same
pub means_same : (p : Program) (l : LoweredTerm) (a b : Block) → ((w : World) (most : Option ℕ) → code_run a w most ≡ code_run b w most) → MeansItsSource p l a → MeansItsSource p l b
means_same p l a b same means = grind (arith, common_steps)

-- the laws that it rests on
pub record LawsOfCode : Type 0 where
  pub trees : TypedSetsHaveTypedTrees
  pub sets : BuiltSetsAreTyped
  pub fit : PassesByTypesFit
  pub once : FittingCodeMovesOnce
  pub same : WithMovesSaysSame
  pub made : WithMovesIsMadeWell
  pub scoped : CodeOfAcceptedIsScoped
  pub taken : CodeOfAcceptedTakesOnce
  pub means : CodeChoosesAsSource

pub code_of_accepted_is_well_made_lem : LawsOfCode → CodeOfAcceptedIsWellMade
code_of_accepted_is_well_made_lem laws defs expand rules l accepted built best by_types deep n =
    let p = own_program defs rules in
    let types = types_of p (arg_types p l.term) l.set.sites in
    let multi = is_multi p l.term in
    let passes = passes_of types multi l.set.sites in
    let code = flat (tree_code l.tree l.set.sites passes) deep n in
    let typed = laws.trees types l.set l.tree (laws.sets p l.term l.set (read_programs_are_well_typed accepted.read) built by_types) best in
    let fits = laws.fit types multi l.set.sites l.tree deep n typed in
    let taken = laws.taken defs expand rules l accepted built best passes deep n in
    let same = laws.same types code in
    let made = laws.made types multi code in
    record {
      scoped = same.scoped false [] ∙ laws.scoped defs expand rules l accepted built best passes deep n;
      fits = made.fits fits;
      once = made.once (laws.once types multi taken.0 code fits taken.1);
      means = means_same p l code _ (λ w most. ap outcome_of (sym (same.runs w most [] at_start))) (laws.means defs expand rules l accepted built best passes deep n);
    }

pub code_of_each_term_is_well_made_lem : BuiltSetsConstrainByTypes → CodeOfAcceptedIsWellMade → CodeOfEachTermIsWellMade
code_of_each_term_is_well_made_lem constrained code defs expand rules l accepted built best =
    code defs expand rules l accepted built best (constrained (own_program defs rules) l.term l.set (read_programs_are_well_typed accepted.read) built)
