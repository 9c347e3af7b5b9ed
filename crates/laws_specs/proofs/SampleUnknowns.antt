-- Unknown functions: what is known of their answers by a sort, and without one.
use Rattle.std.proofs.Common.{◌≡◌, ◌&&◌, true, [], Some, refl, sym, ap, subst, ◌∙◌, arith}
use Rattle.std.proofs.lemmas.Grind.{common_steps}
use Rattle.std.proofs.lemmas.Bool.{and_parts, false≢true}
use Rattle.model.specs.sites.Sites.{argument}
use Rattle.model.proofs.Elements.{some_is, none_some}
use Rattle.laws_specs.specs.Words.{a_truth, no_denoted, denoted_and, is_formed}
use Rattle.laws_specs.specs.Specs.{words, is_of_sort, Unknowns, IsSaid, no_unknown}
use Rattle.laws_specs.specs.Conditions.{told, result_as, is_told_formed, IsPartHeld}
use Rattle.laws_specs.specs.Samples.{byte, x, program_with}
use Rattle.laws_specs.specs.SampleUnknowns.{answers_a_byte, byte_to_byte, of_bytes, by_unknown, IsRightBy, answering, IsDenotedBy, UnknownsHaveSorts}
use Rattle.laws_specs.proofs.SampleAnswers.{byte_formed, byte_sorted, byte_numbered}
use Rattle.laws_specs.proofs.SampleConditions.{one_argument, alone, only_one, just_one, none_first, none_made}

-- 1. by its sort
sorted_right : (g : Unknowns) → IsRightBy g of_bytes
sorted_right g (denoted_and b no_denoted) f a = record {
  provides = λ h y made e q.
      (let part : IsPartHeld (denoted_and b no_denoted) 0 h = a.held (argument 0) h e in
      let same : y ≡ b = sym (some_is b part.part part.there ∙ some_is part.part y (sym (ap result_as part.held) ∙ q)) in
      let formed : is_formed b ≡ true = subst (λ z. is_formed z ≡ true) (sym (some_is b part.part part.there)) (subst (λ t. is_told_formed t ≡ true) part.held (a.formed (argument 0) h e)) in
      let byte_like : is_of_sort (words 8) b ≡ true = grind (arith, and_parts) in
      let known = a.unknowns 0 byte_to_byte (denoted_and b no_denoted) refl (ap (λ t. t && true) byte_like) (ap (λ t. t && true) formed) in
      just_one (IsSaid g (denoted_and b no_denoted) (Some y)) answers_a_byte
      (grind (arith, common_steps)));
  requires = λ before after u t n ss xs split made e q. absurd (none_first before after u split);
}
sorted_right g h f a = grind (arith, common_steps, and_parts)

-- 2. without a sort
unsorted_wrong : IsRightBy no_unknown [] → ⊥
unsorted_wrong right =
    let shown = right one_argument alone (grind (arith, common_steps)) in
    none_some (a_truth true) (only_one (IsSaid no_unknown one_argument (Some (byte 1))) answers_a_byte
    (shown.provides (told (byte 1)) (byte 1) (none_made (program_with x) (by_unknown no_unknown []) alone) refl refl))

-- 3. functions of the sort
pub unknowns_have_sorts_lem : UnknownsHaveSorts
unknowns_have_sorts_lem = record {
  sorted = sorted_right;
  unsorted = unsorted_wrong;
  answers = grind (arith, some_is, byte_formed, byte_sorted, byte_numbered, none_some);
  truths = λ (d : IsDenotedBy no_unknown). false≢true (d.unknowns 0 byte_to_byte one_argument refl refl refl).0;
  past_width = λ (d : IsDenotedBy (answering 256)). false≢true (d.unknowns 0 byte_to_byte one_argument refl refl refl).1;
}
