-- Places that agree: inside tests and behind steps.
use Rattle.std.proofs.Common.{◌≡◌, ◌==◌, ◌||◌, ℕ, List, [], ◌∷◌, ◌++◌, Option, Some, map, slice_get, flat_map, sym, ap, ◌∙◌, arith}
use Rattle.std.proofs.lemmas.List.{append_assoc, append-nil}
use Rattle.std.proofs.lemmas.Grind.{common_steps}
use Rattle.model.specs.sites.Sites.{iterator_site, Constraint, SiteSet, sources_at}
use Rattle.model.specs.trees.Trees.{m_loop, m_no_step}
use Rattle.model.specs.trees.Places as Places
use Rattle.model.specs.trees.Places.{is_in, all_below, field_sites, in_arm, in_equal, in_loop, after_step}
use Rattle.model.specs.trees.Tests.{equal_test, loop_test, match_test}
use Rattle.laws_trees.proofs.Passing.{sources_there}
use Rattle.core_serialize.specs.declared.around.Around.{Around}
use Rattle.core_serialize.specs.AroundViews.{around_view, Alike, brings, where_joined}
use Rattle.core_serialize.specs.Changes.{IsAfterTest}
use Rattle.core_serialize.proofs.EqualSurroundings.{looped_alike, more_alike}

-- what a loop over a call emits, and the place after it
below_call : (set : SiteSet) (call result : ℕ) → slice_get set.sites result ≡ Some (iterator_site call)
    → flat_map (λ s. all_below set.sites (sources_at set.sites s)) (sources_at set.sites result) ≡ all_below set.sites (sources_at set.sites call)
below_call set call result at = grind (arith, common_steps, sources_there set result call at, append-nil (all_below set.sites (sources_at set.sites call)))

pub loop_after : (set : SiteSet) (ar : Places.Around) (call result : ℕ) → slice_get set.sites result ≡ Some (iterator_site call) → (after : Places.Around) → IsAfterTest set ar (loop_test call) after
    → Alike after (after_step set ar (m_loop result m_no_step))
loop_after set ar call result at after h = grind (arith, common_steps, below_call set call result at)

module _ (set : SiteSet) (ar : Places.Around) (around : Around) where
  abbrev now : Places.Around
  now = around_view around

  -- in an arm, whatever its constraint
  pub arm_inside : (s : ℕ) (c : Constraint) (fields : List (Option ℕ)) → IsAfterTest set ar (match_test s) now → Alike (brings now s (field_sites fields)) (in_arm set ar s c fields)
  arm_inside s c fields h = record {
    sources = λ t. ap (λ b. (s == t) || b) (h.sources t);
    joined = h.joined;
    brought = more_alike (field_sites fields) now.brought ar.brought h.brought;
    emitted = λ t.
        more_alike (field_sites fields) now.emitted (all_below set.sites (s ∷ []) ++ ar.emitted) h.emitted t
        ∙ ap (is_in t) (sym (append_assoc (field_sites fields) (all_below set.sites (s ∷ [])) ar.emitted));
  }

  -- in an equality
  pub equal_inside : (x y : ℕ) → IsAfterTest set ar (equal_test x y) now → Alike (where_joined now x y) (in_equal set ar x y)
  equal_inside x y h = record { sources = h.sources; joined = ap (λ (l : List (ℕ × ℕ)). (x, y) ∷ l) h.joined; brought = h.brought; emitted = h.emitted }

  -- in a loop over a call
  pub loop_inside : (call result : ℕ) → slice_get set.sites result ≡ Some (iterator_site call) → IsAfterTest set ar (loop_test call) now → Alike (brings now call (result ∷ [])) (in_loop set ar result)
  loop_inside call result at h = record {
    sources = λ s. looped_alike set (call ∷ []) [] ar.tested now.looped ar.looped h.sources s ∙ ap (λ l. is_in s (map (λ (d : ℕ × Constraint). d.0) ar.tested ++ (l ++ ar.looped))) (sym (sources_there set result call at));
    joined = h.joined;
    brought = λ s. ap (λ b. (result == s) || b) (h.brought s);
    emitted = λ s. ap (λ b. (result == s) || b) (h.emitted s) ∙ ap (λ l. is_in s (result ∷ (l ++ ar.emitted))) (sym (below_call set call result at));
  }
