-- A valuation under which an unused call gives no value refutes a wrong rule.
use Rattle.std.proofs.Common.{◌≡◌, true, false, List, [], ◌∷◌, Some, None, refl, arith}
use Rattle.std.proofs.lemmas.Bool.{false≢true}
use Rattle.std.proofs.lemmas.List.Elements.{All-nil}
use Rattle.std.proofs.lemmas.Grind.{common_steps}
use Rattle.model.specs.sites.Sites.{SiteTerm, argument, constructor_call, no_site_term, site_term_and}
use Rattle.model.proofs.Elements.{in_from_contains, none_some}
use Rattle.laws_specs.specs.Words.{no_denoted, denoted_and}
use Rattle.laws_specs.specs.Specs.{IsSaid, no_unknown}
use Rattle.laws_specs.specs.Conditions.{ToldContent, told, told_nothing, Valuation, is_told_formed, IsHeldAs, condition, IsAssumed}
use Rattle.laws_specs.specs.Samples.{byte, doubled}
use Rattle.laws_specs.specs.SampleUnwraps.{unused_rule, maybes, maybe_specs, UnusedCallsShowNothing}
use Rattle.laws_specs.proofs.SampleConditions.{no_picks, listed_as, each_held, only_one, truths_same, none_made, one_argument}

abbrev maybe_call : SiteTerm
maybe_call = constructor_call 3 (site_term_and (argument 0) no_site_term) 0

abbrev sites : List (SiteTerm × ToldContent)
sites = (argument 0, told (byte 1)) ∷ ((maybe_call, told_nothing) ∷ [])

abbrev f : Valuation
f = listed_as sites

unused_assumed : IsAssumed maybes maybe_specs (condition maybes unused_rule) one_argument f
unused_assumed = record {
  arguments = refl;
  formed_args = refl;
  required = All-nil (IsSaid no_unknown one_argument None);
  unknowns = λ g s xs e sorted formed. absurd (none_some s e);
  held = each_held (IsHeldAs maybe_specs one_argument f) sites (record { part = byte 1; there = refl; held = refl }, ((denoted_and (byte 1) no_denoted, refl), tt));
  formed = each_held (λ s h. is_told_formed h ≡ true) sites (refl, (refl, tt));
  constraints = λ s k i. absurd (in_from_contains [] (s, k) i);
  equalities = λ a b i. absurd (in_from_contains [] (a, b) i);
  calls = grind (arith, common_steps, in_from_contains);
  typed = grind (arith, common_steps, in_from_contains);
  picks = λ s i e. no_picks maybe_specs f (λ u h there. none_some h there) s;
  typed_picks = λ s h i e there. absurd (none_some h there);
}

pub unused_calls_show_nothing_lem : UnusedCallsShowNothing
unused_calls_show_nothing_lem right =
    let shown = right one_argument f unused_assumed in
    false≢true (truths_same false true (only_one (IsSaid no_unknown one_argument (Some (byte 1))) doubled (shown.provides (told (byte 1)) (byte 1) (none_made maybes maybe_specs f) refl refl)))
