-- Classes of both arguments respect the demands of the sample with an equality; classes of each alone don't.
use Rattle.std.proofs.Common.{◌≡◌, Some, slice_get, refl, sym, subst, arith}
use Rattle.std.proofs.lemmas.Option.{none-some}
use Rattle.model.proofs.Members.{in_alone}
use Rattle.model.specs.visits.Demands.{demands_of}
use Rattle.model.specs.sites.Sites.{Constraint, SiteTerm, field_terms}
use Rattle.laws_sites.specs.ClosureLaws.{RespectsDemands}
use Rattle.laws_sites.proofs.Classes.{classes_bound}
use Rattle.laws_examples.specs.ConstEq.{ConstEqIsRespected, const_eq_program, const_eq_rule, of_both}
use Rattle.laws_examples.specs.SetForms.{a0, a1, a2, is_byte}

respected : RespectsDemands (demands_of const_eq_program const_eq_rule) of_both
respected = record {
  given = λ a b c. subst (λ (e : SiteTerm × SiteTerm). of_both e.0 ≡ of_both e.1) (in_alone (a1, a0) (a, b) c) refl;
  fields = λ a b t x y k i e f c g h. absurd (none-some x (subst (λ (d : SiteTerm × Constraint). slice_get (field_terms d.1 a) i ≡ Some x) (sym (in_alone (a0, is_byte 2) (t, k) c)) g));
}

pub const_eq_is_respected : ConstEqIsRespected
const_eq_is_respected = (
  respected,
  λ j. let e : 0 ≡ 1 = classes_bound (demands_of const_eq_program const_eq_rule) of_both respected a0 a2 j in omega (arith, e),
  λ h. let e : 1 ≡ 0 = h.given a1 a0 (0, omega arith, refl) in omega (arith, e),
)
