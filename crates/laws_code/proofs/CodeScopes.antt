-- Loops go over calls, and code is in scope.
use Rattle.std.proofs.Common.{ℕ, true, length, subst, arith}
use Rattle.std.proofs.lemmas.Grind.{common_steps}
use Rattle.std.proofs.lemmas.Option.{slice_get_within}
use Rattle.model.specs.rules.Program.{Program, arg_types}
use Rattle.model.specs.sites.Sites.{iterator_site, SiteSet}
use Rattle.model.specs.claims.Layers.{own_program}
use Rattle.laws_typing.specs.WellTypedPrograms.{IsWellTypedProgram}
use Rattle.laws_typing.proofs.WellTypedRules.{read_programs_are_well_typed}
use Rattle.laws_sites.proofs.built.BuiltSets.{BuiltSet}
use Rattle.laws_trees.proofs.runs.Contents.{unfolded_layer}
use Rattle.laws_trees.proofs.taken.BuiltSites.{sites_stand}
use Rattle.laws_trees.proofs.taken.Forms.{form, IsOfForm}
use Rattle.laws_trees.specs.BuiltLaws.{BestTreesBindBeforeUse}
use Rattle.model_code.specs.Scopes.{LoopsAreOverBound, PrintedCodeIsScoped}
use Rattle.laws_code.specs.CodeScopes.{BuiltSetsLoopOverBound, CodeOfAcceptedIsScoped}

module _ (b : BuiltSet) (h : IsWellTypedProgram b.program) where
  abbrev p : Program
  p = b.program

  abbrev set : SiteSet
  set = b.set

  abbrev n : ℕ
  n = length (arg_types p b.term)

  pub loops_are_over_bound : LoopsAreOverBound set.sites
  loops_are_over_bound s source at =
      let g = (sites_stand b h s (slice_get_within set.sites s (iterator_site source) at)).form in
      let f = subst (λ u. IsOfForm p n u g.0) (unfolded_layer set.sites b.built.sources s (iterator_site source) at) g.1 in
      grind (arith, common_steps, form, unfolded_layer)

pub built_sets_loop_over_bound_lem : BuiltSetsLoopOverBound
built_sets_loop_over_bound_lem p t set h b = loops_are_over_bound (record { program = p; term = t; set = set; built = b }) h

pub code_of_accepted_is_scoped_lem : BestTreesBindBeforeUse → PrintedCodeIsScoped → BuiltSetsLoopOverBound → CodeOfAcceptedIsScoped
code_of_accepted_is_scoped_lem bind scoped over defs expand rules l accepted built best passes deep k =
    let p = own_program defs rules in
    let h = read_programs_are_well_typed accepted.read in
    scoped l.set l.tree passes deep k best (bind p l.term l.set h built true l.tree best) (over p l.term l.set h built)
