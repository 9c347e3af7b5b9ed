-- Each sample has its stages, and the trees near its tree are refused: by computing.
use Rattle.std.proofs.Common.{◌≡◌, [], ◌∙◌, ◌&&◌, ◌||◌, Bool, true, false, Some, map, length, refl, inl, inr, not, nat_le, arith}
use Rattle.std.specs.List.{list_all}
use Rattle.std.proofs.lemmas.Bool.{and_parts, cases_Bool}
use Rattle.model.specs.claims.AcceptJudge.{accepted_list}
use Rattle.model.specs.claims.Layers.{own_program}
use Rattle.model.specs.rules.Program.{Program, is_multi, numbers_from, rules_of}
use Rattle.model.specs.sites.Limits.{most_sites, sites_after_rules}
use Rattle.model.specs.sites.Overlap.{built_rules, check_reports}
use Rattle.model.specs.sites.Sites.{unfold_site}
use Rattle.model.specs.trees.Judge.{is_best_tree, returns_apart}
use Rattle.laws_trees.proofs.JudgedSets.{calls_pass, can_be_served, multi_can_be_served, only_sites, serves}
use Rattle.laws_trees.proofs.WellBuilt.{set_passes}
use Rattle.laws_trees.specs.BestLaws.{binds_as_marked}
use Rattle.laws_examples.proofs.ListStages.{accepted_both}
use Rattle.laws_examples.proofs.SetStages.{built_row, is_built, row_in, stands_once}
use Rattle.laws_examples.proofs.TreeStages.{has_no_priorities, judged_with, no_priorities, refused}
use Rattle.laws_examples.specs.Effects.{effects_sample}
use Rattle.laws_examples.specs.Extract.{extract_sample}
use Rattle.laws_examples.specs.Fall.{fall_sample}
use Rattle.laws_examples.specs.Impure.{impure_sample}
use Rattle.laws_examples.specs.Multi.{multi_sample}
use Rattle.laws_examples.specs.Stages.{HasStages, Sample}
use Rattle.laws_examples.specs.Unreached.{unreached_sample}
use Rattle.laws_examples.specs.Unused.{unused_sample}
use Rattle.laws_examples.specs.VariantEq.{variant_eq_sample}

module _ (s : Sample) where
  abbrev p : Program
  p = own_program s.defs s.rules

  -- the sites of each rule are the set's, and stand once; the set stands by itself, and each rule can be served
  abbrev set_tests : Bool
  set_tests =
      list_all (stands_once (length s.set.sites)) s.set.rules && (nat_le (length s.set.sites) most_sites && (set_passes (only_sites s.set)
      && (list_all (serves s.set.sites) s.set.rules && calls_pass p s.set.sites (built_rules p s.term) s.set.rules)))

  abbrev tree_tests : Bool
  tree_tests = is_best_tree s.set s.tree && (returns_apart s.set.rules && (set_passes s.set && binds_as_marked s.set s.multi s.tree))

  pub stages : accepted_list s.defs true ≡ Some s.rules → accepted_list s.defs false ≡ Some s.rules → check_reports p ≡ []
      → map (row_in s.set.sites) s.set.rules ≡ map (built_row p) (built_rules p s.term)
      → map (unfold_site s.set.sites) (numbers_from 0 s.set.sites) ≡ sites_after_rules p [] (rules_of p s.term)
      → is_multi p s.term ≡ s.multi → not s.multi || has_no_priorities s.set.rules ≡ true → set_tests ≡ true → tree_tests ≡ true
      → list_all (λ t. not (is_best_tree s.set t)) s.near_trees ≡ true → HasStages s
  stages h k none rows sites m plain tests best near =
      let a = and_parts (list_all (stands_once (length s.set.sites)) s.set.rules) (nat_le (length s.set.sites) most_sites && (set_passes (only_sites s.set)
      && (list_all (serves s.set.sites) s.set.rules && calls_pass p s.set.sites (built_rules p s.term) s.set.rules))) tests in
      let b = and_parts (nat_le (length s.set.sites) most_sites) (set_passes (only_sites s.set)
      && (list_all (serves s.set.sites) s.set.rules && calls_pass p s.set.sites (built_rules p s.term) s.set.rules)) a.1 in
      let c = and_parts (set_passes (only_sites s.set)) (list_all (serves s.set.sites) s.set.rules && calls_pass p s.set.sites (built_rules p s.term) s.set.rules) b.1 in
      let d = and_parts (list_all (serves s.set.sites) s.set.rules) (calls_pass p s.set.sites (built_rules p s.term) s.set.rules) c.1 in
      let e = and_parts (is_best_tree s.set s.tree) (returns_apart s.set.rules && (set_passes s.set && binds_as_marked s.set s.multi s.tree)) best in
      let f = and_parts (returns_apart s.set.rules) (set_passes s.set && binds_as_marked s.set s.multi s.tree) e.1 in
      let g = and_parts (set_passes s.set) (binds_as_marked s.set s.multi s.tree) f.1 in
      record {
        accepted = accepted_both s.defs s.rules h k none;
        built = (
          is_built p s.term s.set rows a.0 sites b.0 c.0,
          elim (cases_Bool s.multi) [
            | inl t ↦ multi_can_be_served p s.term s.set c.0 d.0 d.1 (grind (arith, has_no_priorities))
            | inr n ↦ can_be_served p s.term s.set (m ∙ n) c.0 d.0 d.1
          ],
        );
        judged = judged_with s.set s.multi s.tree (λ t. no_priorities s.set.rules (grind (arith, has_no_priorities))) e.0 f.0 g.0 g.1;
        refused = refused s.set s.near_trees f.0 near;
      }

pub fall_stages : HasStages fall_sample
fall_stages = stages fall_sample refl refl refl refl refl refl refl refl refl refl

pub variant_eq_stages : HasStages variant_eq_sample
variant_eq_stages = stages variant_eq_sample refl refl refl refl refl refl refl refl refl refl

pub extract_stages : HasStages extract_sample
extract_stages = stages extract_sample refl refl refl refl refl refl refl refl refl refl

pub effects_stages : HasStages effects_sample
effects_stages = stages effects_sample refl refl refl refl refl refl refl refl refl refl

pub unreached_stages : HasStages unreached_sample
unreached_stages = stages unreached_sample refl refl refl refl refl refl refl refl refl refl

pub multi_stages : HasStages multi_sample
multi_stages = stages multi_sample refl refl refl refl refl refl refl refl refl refl

pub unused_stages : HasStages unused_sample
unused_stages = stages unused_sample refl refl refl refl refl refl refl refl refl refl

pub impure_stages : HasStages impure_sample
impure_stages = stages impure_sample refl refl refl refl refl refl refl refl refl refl
