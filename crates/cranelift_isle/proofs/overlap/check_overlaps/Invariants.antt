use Rattle.std.proofs.Common.{◌≡◌, map, take}
use Rattle.model.specs.claims.Refusals.{refusal_of}
use Rattle.model.specs.rules.Program.{is_multi}
use Rattle.model.specs.sites.Overlap.{rule_shadows}
use Rattle.model.specs.sites.SetRules.{shadows_in_sets, wrong_in_sets}
use Rattle.cranelift_isle.specs.BuiltSets.{term_set_views}
use Rattle.core_overlap.specs.ComparedRules.{HaveSingleSpans, found_shadows, found_wrong}
use Rattle.cranelift_isle.specs.Checks.{env_program}
use Rattle.cranelift_isle.proofs.overlap.check_overlaps.Given as goal

abbrev pub invariant-loop-term : goal.invariant-loop-term
invariant-loop-term l = record {
  wrong : found_wrong l.errors ≡ wrong_in_sets (is_multi (env_program l.termenv)) (term_set_views (take l.term-index l.sets));
  shadows : found_shadows l.errors ≡ map refusal_of (map rule_shadows (shadows_in_sets (is_multi (env_program l.termenv)) (term_set_views (take l.term-index l.sets))));
  single : HaveSingleSpans l.errors;
}
