-- What a comparison of two rules of a set tells.
use Rattle.std.specs.Prelude.{◌≡◌, ℕ, Bool, false, List}
use Rattle.model.specs.sites.Sites.{Constraint}
use Rattle.model.specs.sites.SetRules.{RuleOverlap, no_overlap, some_overlap, sites_differ, all_agree}
use Rattle.core_rule_sets.specs.declared.trie_again.Overlap.{Overlap}
use Rattle.core_rule_sets.specs.declared.trie_again.Overlap.TheVariants as O

abbrev pub overlap_view : Overlap → RuleOverlap
overlap_view O.No = no_overlap
overlap_view (O.Yes subset) = some_overlap subset

-- no site has different constraints in two lists, and this says whether those of one are among the other's
pub record IsComparedAs (as' bs : List (ℕ × Constraint)) (first second : Bool) : Type 0 where
  pub differ : sites_differ as' bs ≡ false
  pub among : first ≡ all_agree as' bs
  pub others_among : second ≡ all_agree bs as'
