use Rattle.model.specs.sites.Overlap.{build_reports}
use Rattle.model.specs.claims.Environments.{program_of}
use Rattle.laws_typing.proofs.WellTypedRules.{elaborated_programs_are_well_typed_lem}
use Rattle.laws_sites.specs.ErrorLaws.{NamesLeftOut, NamesPairs, NamesMasks}
use Rattle.cranelift_isle.proofs.NamedErrors.{named, named_exactly}
use Rattle.cranelift_isle.proofs.CheckedSets.{within}
use Rattle.cranelift_isle.proofs.overlap.check.Goals as goal

pub returns : goal.returns
returns c = record {
  checked = λ e defs expand rules is shown.
      let p = program_of e defs rules.rules in c.check_built.ensures.checked p (build_reports p) (c.in_ok-sets.ensures.built e defs expand rules is shown);
  left_out = λ e defs expand rules is shown.
      let p = program_of e defs rules.rules in
      named NamesLeftOut p c.check_built.result (λ reports. c.check_errors_name_left_out.ensures p reports (elaborated_programs_are_well_typed_lem e defs expand rules is))
      (c.check_built.ensures.checked p (build_reports p) (c.in_ok-sets.ensures.built e defs expand rules is shown));
  pairs = λ e defs expand rules is shown.
      let p = program_of e defs rules.rules in
      named_exactly NamesPairs p c.check_built.result (c.check_errors_name_pairs.ensures p (elaborated_programs_are_well_typed_lem e defs expand rules is))
      (c.check_built.ensures.checked p (build_reports p) (c.in_ok-sets.ensures.built e defs expand rules is shown));
  masks = λ e defs expand rules is shown.
      let p = program_of e defs rules.rules in
      named_exactly NamesMasks p c.check_built.result (c.check_errors_name_masks.ensures p (elaborated_programs_are_well_typed_lem e defs expand rules is))
      (c.check_built.ensures.checked p (build_reports p) (c.in_ok-sets.ensures.built e defs expand rules is shown));
  within_limits = λ e defs expand rules is shown.
      let p = program_of e defs rules.rules in
      within p c.check_built.result (c.checkable_programs_pass_no_limit.ensures p)
      (c.check_built.ensures.checked p (build_reports p) (c.in_ok-sets.ensures.built e defs expand rules is shown));
  places = λ e defs expand rules is shown.
      let p = program_of e defs rules.rules in c.check_built.ensures.places p (build_reports p) (c.in_ok-sets.ensures.built e defs expand rules is shown);
  single = c.check_built.ensures.single c.in_ok-sets.ensures.single;
}
