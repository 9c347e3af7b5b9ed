-- Runs of shown code are judged.
use Rattle.std.proofs.Common.{Bool, true, false, refl, sym, ◌∙◌, arith}
use Rattle.std.proofs.lemmas.Grind.{common_steps}
use Rattle.std.proofs.lemmas.Bool.{true≢false}
use Rattle.model.specs.lists.Tables.{Flags}
use Rattle.model_code.specs.TypeSamples.{constructor_of as constructor_entry}
use Rattle.model_code.specs.Code.{name_written, variant_written}
use Rattle.model_code.specs.Notation.{gives_one}
use Rattle.model_code.specs.CodeTextSamples.{notation}
use Rattle.model_code.specs.Written.{function_body}
use Rattle.laws_code.specs.Samples.{pure_one, reads, ShownRunsAreJudged}

abbrev impure_flags : Bool → Flags
impure_flags multi = record { pure = false; multi = multi; partial = false; rec = false }

pub shown_runs_are_judged_lem : ShownRunsAreJudged
shown_runs_are_judged_lem = record {
  runs = refl;
  alike = refl;
  other = refl;
  pure = refl;
  as_functions = refl;
  not_as_function = refl;
  not_as_other = refl;
  compares_stuck = refl;
  match_unmet = refl;
  alike_there = grind (arith, common_steps);
  unlike_there = λ is_impure a.
      true≢false (sym (a.constructors 1 (constructor_entry 0 false) (impure_flags false) false refl refl refl)
      ∙ a.constructors 0 pure_one (record { pure = true; multi = false; partial = false; rec = false }) false refl refl refl);
  constant_read = record { pieces = function_body (notation gives_one) (reads (name_written 0)); of_pieces = refl; words = refl; read = refl };
  variant_read = record { pieces = function_body (notation gives_one) (reads (variant_written 4 0)); of_pieces = refl; words = refl; read = refl };
}
