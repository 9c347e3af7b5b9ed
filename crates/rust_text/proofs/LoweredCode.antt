-- The code of a term of an answer means what its source rules do.
use Rattle.std.proofs.Common.{[], ◌≡◌, ◌∙◌, List, sym, ap, subst}
use Rattle.std.proofs.lemmas.List.Elements.{All-contains}
use Rattle.model.specs.rules.Program.{Program, arg_types, is_multi}
use Rattle.model.specs.trees.Run.{at_start}
use Rattle.model.specs.claims.Layers.{own_program, IsLoweredTerm}
use Rattle.model_code.specs.Code.{Block}
use Rattle.model_code.specs.CodeRuns.{outcome_of}
use Rattle.model_code.specs.Flat.{flat}
use Rattle.model_code.specs.Modes.{passes_of}
use Rattle.model_code.specs.Saving.{with_moves, WithMovesSaysSame}
use Rattle.model_code.specs.SiteTypes.{types_of}
use Rattle.model_code.specs.TreeCode.{tree_code}
use Rattle.laws_code.specs.CodeChoices.{CodeChoosesAsSource, MeansItsSource}
use Rattle.laws_code.specs.TypedTrees.{CodeOfEachTermIsWellMade, IsWellMade}
use Rattle.laws_code.proofs.WellMade.{means_same}
use Rattle.core_terms.specs.declared.term.Term.{Term}
use Rattle.core_terms.specs.TermViews.{term_views}
use Rattle.core_rule_sets.specs.declared.trie_again.Binding.{Binding}
use Rattle.core_rule_sets.specs.SiteViews.{site_views}
use Rattle.core_serialize.specs.TreeViews.{tree_view}
use Rattle.rust_code.specs.CodeOf.{code_in_program}
use Rattle.rust_code.specs.Labels.{is_deep}
use Rattle.rust_code.specs.SeenTypes.{AreTablesOf}
use Rattle.cranelift_isle.specs.declared.lower.LoweredTerm as Code
use Rattle.cranelift_isle.specs.declared.lower.Lowered.{Lowered}
use Rattle.cranelift_isle.specs.Lowerings.{lowered_view, lowered_views}
use Rattle.rust_text.specs.LoweredCode.{IsItsCode, OfLowered}

module _ (l : Lowered) (t : Code.LoweredTerm) (code : Block) where
  -- by the contract of the code, and what an answer of lowering shows
  pub is_its_code : (terms : List Term) (sites : List Binding)
      → ((p : Program) → AreTablesOf l.tyenv terms p → code ≡ code_in_program p t.id.0 (site_views sites) (tree_view t.block)) → terms ≡ l.termenv.terms.items → sites ≡ t.rules.bindings.items
      → OfLowered l t (IsItsCode code)
  is_its_code terms sites made terms_are sites_are defs expand rules answers here =
      let environments = answers.environments in
      let p = own_program defs rules in
      let tables : AreTablesOf l.tyenv terms p = record {
        types = sym environments.types.types;
        constants = λ name. sym (environments.types.constants name);
        terms = sym environments.rows.table ∙ ap term_views (sym terms_are);
      } in
      made p tables ∙ ap (λ bs. code_in_program p t.id.0 (site_views bs) (tree_view t.block)) sites_are

  -- by the laws of code
  pub means_its_source : CodeChoosesAsSource → WithMovesSaysSame → OfLowered l t (IsItsCode code) → OfLowered l t (λ p term. MeansItsSource p term code)
  means_its_source chooses same its defs expand rules answers here =
      let p = own_program defs rules in
      let term = lowered_view t in
      let lowered : IsLoweredTerm p term = All-contains (IsLoweredTerm p) (lowered_views l.terms.items) term answers.trees.lowered here in
      let types = types_of p (arg_types p term.term) term.set.sites in
      let passes = passes_of types (is_multi p term.term) term.set.sites in
      let cloned = flat (tree_code term.tree term.set.sites passes) is_deep 0 in
      subst (MeansItsSource p term) (sym (its defs expand rules answers here))
      (means_same p term cloned (with_moves types cloned) (λ w most. ap outcome_of (sym ((same types cloned).runs w most [] at_start)))
      (chooses defs expand rules term answers.accepted lowered.built lowered.best passes is_deep 0))

  pub is_well_made : CodeOfEachTermIsWellMade → OfLowered l t (IsItsCode code) → OfLowered l t (λ p term. IsWellMade p term code)
  is_well_made made its defs expand rules answers here =
      let p = own_program defs rules in
      let term = lowered_view t in
      let lowered : IsLoweredTerm p term = All-contains (IsLoweredTerm p) (lowered_views l.terms.items) term answers.trees.lowered here in
      subst (IsWellMade p term) (sym (its defs expand rules answers here)) (made defs expand rules term answers.accepted lowered.built lowered.best is_deep 0)
